-- Rows that are kept of types that were copied.
use Rattle.std.proofs.Common.{◌≡◌, ℕ, List, [], ◌∷◌, Option, None, Some, length, replicate, slice_index_or, slice_set, inl, inr, refl, sym, ap, subst, ◌∙◌, arith}
use Rattle.std.proofs.lemmas.Bool.{cases_lt, cases_eq, false≢true}
use Rattle.std.proofs.lemmas.List.{get_or_past, get_or-set_same, get_or-set_other, get_or-replicate, length-replicate, length-set}
use Rattle.std.specs.Option.{is_some}
use Rattle.cr_check_types.specs.declared.shape.Shape.{Shape}
use Rattle.cr_check_types.specs.Types.{Qualified, type_at, IsRow, Grows}
use Rattle.cr_check_types.specs.Shared.{IsWith, IsWithAll, has, gains, levels_of}
use Rattle.cr_check_expressions.proofs.Kept.{grows_on}
use Rattle.cr_typed_columns.specs.Rows.{AreThere, AreKept, IsKept}

pub grows_none : (a : List Shape) → Grows a a
grows_none a = record { longer = omega arith; keeps = λ row low. refl }

row_grown : (a b : List Shape) (row : ℕ) (t : Qualified) → Grows a b → IsRow a row t → IsRow b row t
row_grown a b row t g h = record {
  within = let l = h.within in let m = g.longer in omega (arith, l, m);
  is = g.keeps row h.within ∙ h.is;
}

there_grown : (a b : List Shape) (ts : List Qualified) → Grows a b → AreThere a ts → AreThere b ts
there_grown a b [] g h = tt
there_grown a b (t ∷ ts) g h = ((h.0.0, row_grown a b h.0.0 t g h.0.1), there_grown a b ts g h.1)

grows_with : (a b : List Shape) (t : Qualified) → IsWith a t b → Grows a b
grows_with a b t (has row low is same) = subst (Grows a) (sym same) (grows_none a)
grows_with a b t (gains g) = g.grows

row_with : (a b : List Shape) (t : Qualified) → IsWith a t b → (row : ℕ) × IsRow b row t
row_with a b t (has row low is same) = (row, subst (λ s. IsRow s row t) (sym same) record { within = low; is = is })
row_with a b t (gains g) = (length a, record { within = let e = g.longer in omega (arith, e); is = g.last })

all_grow : (a b : List Shape) (ts : List Qualified) → IsWithAll a ts b → Grows a b
all_grow a b [] h = subst (Grows a) (sym h) (grows_none a)
all_grow a b (t ∷ ts) h = grows_on a h.0 b (grows_with a h.0 t h.1) (all_grow h.0 b ts h.2)

all_there : (a b : List Shape) (ts : List Qualified) → IsWithAll a ts b → AreThere b ts
all_there a b [] h = tt
all_there a b (t ∷ ts) h =
    let one = row_with a h.0 t h.1 in
    ((one.0, row_grown h.0 b one.0 t (all_grow h.0 b ts h.2) one.1), all_there h.0 b ts h.2)

-- nothing is new of types that have rows
with_there : (a : List Shape) (ts : List Qualified) → AreThere a ts → IsWithAll a ts a
with_there a [] h = refl
with_there a (t ∷ ts) h = (a, has h.0.0 h.0.1.within h.0.1.is refl, with_there a ts h.1)

-- ---- what is kept

some_none : {X : Type 0} (row : ℕ) → None ≡ Some row → X
some_none row e = absurd (false≢true (ap is_some e))

some_one : (x y : ℕ) → Some x ≡ Some y → x ≡ y
some_one x y e = cc e

pub none_kept : (from table : List Shape) (known : List (Option ℕ)) (n : ℕ) → known ≡ replicate {A = Option ℕ} n None → AreKept from table known
none_kept from table known n is own row e = elim (cases_lt own n) [
  | inl low ↦ some_none row (sym (get_or-replicate {A = Option ℕ} n own None None low) ∙ sym (ap (λ xs. slice_index_or xs own None) is) ∙ e)
  | inr high ↦
      let past = get_or_past {X = Option ℕ} (replicate {A = Option ℕ} n None) own None (let l = length-replicate {A = Option ℕ} n None in omega (arith, high, l)) in
      some_none row (sym past ∙ sym (ap (λ xs. slice_index_or xs own None) is) ∙ e)
]

pub kept_is : (from table : List Shape) (known : List (Option ℕ)) (own row : ℕ) → AreKept from table known → slice_index_or known own None ≡ Some row
    → IsRow table row (type_at from own)
kept_is from table known own row h e = (h own row e).is

pub kept_levels : (from table : List Shape) (known : List (Option ℕ)) (own row : ℕ) → AreKept from table known → slice_index_or known own None ≡ Some row
    → IsWithAll table (levels_of (type_at from own)) table
kept_levels from table known own row h e = with_there table (levels_of (type_at from own)) (h own row e).levels

pub kept_grown : (from a b : List Shape) (known : List (Option ℕ)) → Grows a b → AreKept from a known → AreKept from b known
kept_grown from a b known g h own row e =
    let old = h own row e in
    record { is = row_grown a b row (type_at from own) g old.is; levels = there_grown a b (levels_of (type_at from own)) g old.levels }

pub kept_more : (from a b : List Shape) (known new : List (Option ℕ)) (own row : ℕ) → AreKept from a known → new ≡ slice_set known own (Some row) → Grows a b
    → IsRow b row (type_at from own) → IsWithAll a (levels_of (type_at from own)) b → AreKept from b new
kept_more from a b known new own row h is g made levels at found e = elim (cases_eq at own) [
  | inl same ↦ elim (cases_lt own (length known)) [
    | inl low ↦
        let one : row ≡ found = some_one row found (sym (get_or-set_same {A = Option ℕ} known own (Some row) None low) ∙ sym (ap (λ x. slice_index_or (slice_set known own (Some row)) x None) same)
        ∙ sym (ap (λ xs. slice_index_or xs at None) is) ∙ e) in
        rw same (subst (IsKept from b own) one record { is = made; levels = all_there a b (levels_of (type_at from own)) levels })
    | inr high ↦
        let past = get_or_past {X = Option ℕ} (slice_set known own (Some row)) at None (let l = length-set {A = Option ℕ} known own (Some row) in omega (arith, high, l, same)) in
        some_none found (sym past ∙ sym (ap (λ xs. slice_index_or xs at None) is) ∙ e)
  ]
  | inr other ↦
      kept_grown from a b known g h at found (sym (get_or-set_other {A = Option ℕ} known own at (Some row) None other) ∙ sym (ap (λ xs. slice_index_or xs at None) is) ∙ e)
]
