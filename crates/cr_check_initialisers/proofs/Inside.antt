-- What a list puts stays inside the places that it has.
use Rattle.std.proofs.Common.{◌≡◌, ℕ, ◌+◌, ◌≤◌, Bool, true, false, cond, List, [], ◌∷◌, ◌++◌, sum_by, length, replicate, refl, sym, ap, subst, ◌∙◌, arith}
use Rattle.std.proofs.lemmas.List.{append_assoc, append-nil}
use Rattle.std.proofs.lemmas.List.Folds.{sum_by-replicate}
use Rattle.std.proofs.lemmas.List.Sums.{sum_by-cons}
use Rattle.cr_syntax.specs.declared.ctype.CType.{CType}
use Rattle.cr_syntax.specs.declared.ctype.CType.TheVariants.{Struct}
use Rattle.cr_check_types.specs.Types.{Qualified, plain, pointer, array}
use Rattle.cr_check_initialisers.specs.Known.{Known}
use Rattle.cr_check_initialisers.specs.Places.{Place, laid, types_by, types_in, types_within, types_of_object, sized, encloses}
use Rattle.cr_check_initialisers.specs.Plans.{Entry, put, excess, Fills, ends, exceeds, braces, whole, elided, loses, IsPlan, by_expression, by_list, is_open}
use Rattle.cr_check_initialisers.specs.Laws.{Lie, ArePacked, IsLaidOut}

lie_wider : (k : Known) (low lower high higher : ℕ) (ps : List Place) → lower ≤ low → high ≤ higher → Lie k low ps high → Lie k lower ps higher
lie_wider k low lower high higher [] f g h = omega (arith, f, g, h)
lie_wider k low lower high higher (p ∷ ps) f g h =
    (omega (arith, f, h.0), lie_wider k (p.cell + k.cells p.type) (p.cell + k.cells p.type) high higher ps (omega arith) g h.1)

lie_append : (k : Known) (low middle high : ℕ) (ps qs : List Place) → Lie k low ps middle → Lie k middle qs high → Lie k low (ps ++ qs) high
lie_append k low middle high [] qs f g = lie_wider k middle low high high qs f (omega arith) g
lie_append k low middle high (p ∷ ps) qs f g = (f.0, lie_append k (p.cell + k.cells p.type) middle high ps qs f.1 g)

packed_wider : (k : Known) (low lower high higher : ℕ) (xs : List Entry) → lower ≤ low → high ≤ higher → ArePacked k low xs high → ArePacked k lower xs higher
packed_wider k low lower high higher [] f g h = omega (arith, f, g, h)
packed_wider k low lower high higher (put p i b ∷ xs) f g h =
    (omega (arith, f, h.0), packed_wider k (p.cell + k.cells p.type) (p.cell + k.cells p.type) high higher xs (omega arith) g h.1)
packed_wider k low lower high higher (excess b ∷ xs) f g h = packed_wider k low lower high higher xs f g h

packed_append : (k : Known) (low middle high : ℕ) (xs ys : List Entry) → ArePacked k low xs middle → ArePacked k middle ys high → ArePacked k low (xs ++ ys) high
packed_append k low middle high [] ys f g = packed_wider k middle low high high ys f (omega arith) g
packed_append k low middle high (put p i b ∷ xs) ys f g = (f.0, packed_append k (p.cell + k.cells p.type) middle high xs ys f.1 g)
packed_append k low middle high (excess b ∷ xs) ys f g = packed_append k low middle high xs ys f g

-- places end behind where they begin
lie_rises : (k : Known) (low high : ℕ) (ps : List Place) → Lie k low ps high → low ≤ high
lie_rises k low high [] h = h
lie_rises k low high (p ∷ ps) h = omega (arith, h.0, lie_rises k (p.cell + k.cells p.type) high ps h.1)

laid_lies : (k : Known) (cell high : ℕ) (ts : List Qualified) → cell + sum_by k.cells ts ≤ high → Lie k cell (laid k cell ts) high
unfolding laid
laid_lies k cell high [] h = omega (arith, h)
laid_lies k cell high (t ∷ ts) h = (omega arith, laid_lies k (cell + k.cells t) high ts (omega (arith, h, sum_by-cons k.cells t ts)))

types_fit : (k : Known) → IsLaidOut k → (of : CType) (c v : Bool) → sum_by k.cells (types_by k of) ≤ k.cells (plain of c v)
types_fit k h (Struct node) c v = h.structures node c v
types_fit k h other c v = omega arith

-- the parts of a place lie in its cells
parts_lie : (k : Known) → IsLaidOut k → (cell : ℕ) (t : Qualified) → Lie k cell (laid k cell (types_in k t)) (cell + k.cells t)
unfolding types_in
parts_lie k h cell (plain of c v) = laid_lies k cell (cell + k.cells (plain of c v)) (types_by k of) (omega (arith, types_fit k h of c v))
parts_lie k h cell (pointer c v t) = laid_lies k cell (cell + k.cells (pointer c v t)) [] (omega arith)
parts_lie k h cell (array n t) =
    laid_lies k cell (cell + k.cells (array n t)) (replicate n t) (omega (arith, h.arrays n t, sum_by-replicate k.cells n t))

within_by : (k : Known) → IsLaidOut k → (cell : ℕ) (t : Qualified) (own : Bool) → Lie k cell (laid k cell (cond own (t ∷ []) (types_in k t))) (cell + k.cells t)
unfolding laid
within_by k h cell t true = (omega arith, omega arith)
within_by k h cell t false = parts_lie k h cell t

within_lie : (k : Known) → IsLaidOut k → (cell : ℕ) (t : Qualified) (list : List ℕ) → Lie k cell (laid k cell (types_within k t list)) (cell + k.cells t)
unfolding types_within
within_lie k h cell t list = within_by k h cell t (encloses k t list)

-- the entries that a list adds
pub record Adds (k : Known) (low high : ℕ) (xs ys : List Entry) : Type 0 where
  pub added : List Entry
  pub is : ys ≡ xs ++ added
  pub packed : ArePacked k low added high

more : (k : Known) (low middle high : ℕ) (xs us ys : List Entry) → Adds k low middle xs us → Adds k middle high us ys → Adds k low high xs ys
more k low middle high xs us ys f g = record {
  added = f.added ++ g.added;
  is = g.is ∙ ap (λ ws. ws ++ g.added) f.is ∙ append_assoc xs f.added g.added;
  packed = packed_append k low middle high f.added g.added f.packed g.packed;
}

adds : (k : Known) (ps : List Place) (b : ℕ) (is : List ℕ) (xs ys : List Entry) (low high : ℕ) → IsLaidOut k → Lie k low ps high → Fills k ps b is xs ys → Adds k low high xs ys
adds k ps b is xs ys low high h l (ends) = record { added = []; is = sym (append-nil xs); packed = lie_rises k low high ps l }
adds k ps b is xs ys low high h l (exceeds) = record { added = excess b ∷ []; is = refl; packed = l }
adds k ps b is xs ys low high h l (braces {p = p} {ps = qs} {i = i} {is = js} {ys = us} o f r) =
    let inner = adds k (laid k p.cell (types_within k p.type (k.initialisers i))) i (k.initialisers i) xs us p.cell (p.cell + k.cells p.type) h (within_lie k h p.cell p.type (k.initialisers i)) f in
    let outer = adds k qs b js us ys (p.cell + k.cells p.type) high h l.1 r in
    more k low (p.cell + k.cells p.type) high xs us ys
    (record { added = inner.added; is = inner.is; packed = packed_wider k p.cell low (p.cell + k.cells p.type) (p.cell + k.cells p.type) inner.added l.0 (omega arith) inner.packed }) outer
adds k ps b is xs ys low high h l (whole {p = p} {ps = qs} {i = i} {is = js} o t r) =
    let outer = adds k qs b js (xs ++ put p i b ∷ []) ys (p.cell + k.cells p.type) high h l.1 r in
    more k low (p.cell + k.cells p.type) high xs (xs ++ put p i b ∷ []) ys (record { added = put p i b ∷ []; is = refl; packed = (l.0, omega arith) }) outer
adds k ps b is xs ys low high h l (elided {p = p} {ps = qs} {i = i} {is = js} o t n r) =
    adds k (laid k p.cell (types_in k p.type) ++ qs) b (i ∷ js) xs ys low high h
    (lie_append k low (p.cell + k.cells p.type) high (laid k p.cell (types_in k p.type)) qs
    (lie_wider k p.cell low (p.cell + k.cells p.type) (p.cell + k.cells p.type) (laid k p.cell (types_in k p.type)) l.0 (omega arith) (parts_lie k h p.cell p.type)) l.1) r
adds k ps b is xs ys low high h l (loses {p = p} {ps = qs} {i = i} o t n) =
    record { added = put p i b ∷ []; is = refl; packed = (l.0, lie_rises k (p.cell + k.cells p.type) high qs l.1) }

pub stays_inside : (k : Known) (ps : List Place) (b : ℕ) (is : List ℕ) (ys : List Entry) (low high : ℕ)
    → IsLaidOut k → Lie k low ps high → Fills k ps b is [] ys → ArePacked k low ys high
stays_inside k ps b is ys low high h l f =
    let a = adds k ps b is [] ys low high h l f in subst (λ ws. ArePacked k low ws high) (sym a.is) a.packed

-- ---- a whole object

same_size : (t : Qualified) (most : ℕ) → is_open t ≡ false → sized t most ≡ t
same_size (plain of c v) most e = refl
same_size (pointer c v t) most e = refl
same_size (array n t) most e = ap (λ b. array (cond b most n) t) e

object_by : (k : Known) → IsLaidOut k → (t : Qualified) (most : ℕ) (own : Bool) → is_open t ≡ false
    → Lie k 0 (laid k 0 (cond own (t ∷ []) (types_in k (sized t most)))) (k.cells t)
unfolding laid
object_by k h t most true e = (omega arith, omega arith)
object_by k h t most false e =
    subst (λ u. Lie k 0 (laid k 0 (types_in k u)) (k.cells t)) (sym (same_size t most e))
    (lie_wider k 0 0 (0 + k.cells t) (k.cells t) (laid k 0 (types_in k t)) (omega arith) (omega arith) (parts_lie k h 0 t))

object_lies : (k : Known) → IsLaidOut k → (t : Qualified) (list : List ℕ) → is_open t ≡ false → Lie k 0 (laid k 0 (types_of_object k t list)) (k.cells t)
unfolding types_of_object
object_lies k h t list e = object_by k h t (length list) (encloses k t list) e

pub plan_stays_inside : (k : Known) (type : Qualified) (above node : ℕ) (xs : List Entry)
    → IsLaidOut k → is_open type ≡ false → IsPlan k type above node xs → ArePacked k 0 xs (k.cells type)
plan_stays_inside k type above node xs h e (by_expression o f) = subst (λ ws. ArePacked k 0 ws (k.cells type)) (sym f) (omega arith, omega arith)
plan_stays_inside k type above node xs h e (by_list o f) =
    stays_inside k (laid k 0 (types_of_object k type (k.initialisers node))) node (k.initialisers node) xs 0 (k.cells type) h
    (object_lies k h type (k.initialisers node) e) f
