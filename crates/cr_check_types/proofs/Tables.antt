-- The types of a table's rows, and one row more.
use Rattle.std.proofs.Common.{◌≡◌, ℕ, zero, suc, ◌+◌, ◌<◌, ◌≤◌, List, [], ◌∷◌, ◌++◌, Some, Bool, length, fold, take, drop, get_or, length-take-le, slice_get, slice_index_or, inl, inr, refl, sym, ap, subst, ◌⊎◌, ◌∙◌, arith, length-append}
use Rattle.std.proofs.Math.ListN.{get_or-append}
use Rattle.std.proofs.Math.Seq.{get_or-append_seam, drop-cons}
use Rattle.std.proofs.lemmas.Option.{slice_get_within, get_or_from_slice_get, slice_get-get_or}
use Rattle.std.proofs.lemmas.List.{get_or_past, take-append-drop}
use Rattle.cr_syntax.specs.declared.ctype.CType.{CType}
use Rattle.cr_syntax.specs.declared.ctype.CType.TheVariants.{Void, Int, Pointer, Array, Struct, Function, Unknown}
use Rattle.cr_check_types.specs.declared.shape.Shape.{Shape}
use Rattle.cr_check_types.specs.Types.{Qualified, pointer, array, unknown, type_by, type_of, room_in, room_of, with_row, types_of, type_at, IsTable, IsRow, IsShape, Grows}

-- a type is made of the rows below it alone
same_by : (of : CType) (c v : Bool) (f g : ℕ → Qualified) (bound : ℕ) → room_in of ≤ bound → ((p : ℕ) → p < bound → f p ≡ g p)
    → type_by of c v f ≡ type_by of c v g
same_by (Pointer row) c v f g bound r h = ap (pointer c v) (h row (omega (arith, r)))
same_by (Array row count) c v f g bound r h = ap (array count) (h row (omega (arith, r)))
same_by Void c v f g bound r h = refl
same_by (Int kind) c v f g bound r h = refl
same_by (Struct node) c v f g bound r h = refl
same_by (Function node) c v f g bound r h = refl
same_by Unknown c v f g bound r h = refl

made_keeps : (ss : List Shape) (made : List Qualified) (k : ℕ) → k < length made → get_or (fold with_row made ss) k unknown ≡ get_or made k unknown
made_keeps [] made k lt = refl
made_keeps (s ∷ ss) made k lt =
    made_keeps ss (with_row made s) k (omega (arith, length-append made (type_of (λ row. slice_index_or made row unknown) s ∷ [])))
    ∙ get_or-append made (type_of (λ row. slice_index_or made row unknown) s ∷ []) unknown k lt

pub made_length : (ss : List Shape) (made : List Qualified) → length (fold with_row made ss) ≡ length made + length ss
made_length [] made = omega arith
made_length (s ∷ ss) made =
    let e = made_length ss (with_row made s) in
    omega (arith, length-append made (type_of (λ row. slice_index_or made row unknown) s ∷ []))

-- a row that isn't there has no type
pub beyond : (ss : List Shape) (row : ℕ) → length ss ≤ row → type_at ss row ≡ unknown
unfolding type_at types_of
beyond ss row h = let e = made_length ss [] in get_or_past (fold with_row [] ss) row unknown (omega arith)

made_append : (ss ts : List Shape) (made : List Qualified) → fold with_row made (ss ++ ts) ≡ fold with_row (fold with_row made ss) ts
made_append [] ts made = refl
made_append (s ∷ ss) ts made = made_append ss ts (with_row made s)

-- the types of the first rows don't depend on later ones
pub append_keeps : (ss ts : List Shape) (k : ℕ) → k < length ss → type_at (ss ++ ts) k ≡ type_at ss k
unfolding type_at types_of
append_keeps ss ts k lt =
    let e = made_length ss [] in
    ap (λ made. get_or made k unknown) (made_append ss ts []) ∙ made_keeps ts (fold with_row [] ss) k (omega arith)

-- the row behind the others
pub append_row : (ss ts : List Shape) (s : Shape) → type_at (ss ++ s ∷ ts) (length ss) ≡ type_of (type_at ss) s
unfolding type_at types_of
append_row ss ts s =
    let made = fold with_row [] ss in
    let e = made_length ss [] in
    let t = type_of (λ row. slice_index_or made row unknown) s in
    let at : length made ≡ length ss = omega arith in
    ap (λ all. get_or all (length ss) unknown) (made_append ss (s ∷ ts) [])
    ∙ made_keeps ts (made ++ t ∷ []) (length ss) (omega (arith, length-append made (t ∷ [])))
    ∙ subst (λ n. get_or (made ++ t ∷ []) n unknown ≡ t) at (get_or-append_seam made t [] unknown)

pub append_grows : (ss : List Shape) (s : Shape) → Grows ss (ss ++ s ∷ [])
append_grows ss s = record {
  longer = omega (arith, length-append ss (s ∷ []));
  keeps = λ row lt. append_keeps ss (s ∷ []) row lt;
}

pub append_is_row : (ss : List Shape) (s : Shape) → IsRow (ss ++ s ∷ []) (length ss) (type_of (type_at ss) s)
append_is_row ss s = record { within = omega (arith, length-append ss (s ∷ [])); is = append_row ss [] s }

whole : (ss : List Shape) (row : ℕ) (s : Shape) → slice_get ss row ≡ Some s → take row ss ++ s ∷ drop (suc row) ss ≡ ss
whole ss row s q =
    let lt = slice_get_within ss row s q in
    let is : get_or ss row s ≡ s = get_or_from_slice_get ss row s s q in
    rw (is) at (ap (λ rest. take row ss ++ rest) (sym (drop-cons ss row s lt)) ∙ take-append-drop row ss)

pub shape_is : (ss : List Shape) (row : ℕ) (s : Shape) → IsTable ss → slice_get ss row ≡ Some s → IsShape ss row s
shape_is ss row s table q =
    let lt = slice_get_within ss row s q in
    let room = table row s q in
    let e = whole ss row s q in
    let n : length (take row ss) ≡ row = length-take-le row ss (omega (arith, lt)) in
    let here : type_at ss row ≡ type_of (type_at (take row ss)) s =
    subst (λ m. type_at ss m ≡ type_of (type_at (take row ss)) s) n
    (subst (λ all. type_at all (length (take row ss)) ≡ type_of (type_at (take row ss)) s) e (append_row (take row ss) (drop (suc row) ss) s)) in
    let older : (p : ℕ) → p < row → type_at (take row ss) p ≡ type_at ss p =
    λ p b. sym (subst (λ all. type_at all p ≡ type_at (take row ss) p) e (append_keeps (take row ss) (s ∷ drop (suc row) ss) p (omega (arith, n, b)))) in
    record {
      is = here ∙ same_by s.of s.constant s.volatile (type_at (take row ss)) (type_at ss) row room older;
      below = room;
    }

pub slice_of : (ss : List Shape) (s shape : Shape) (row : ℕ) → slice_get (ss ++ s ∷ []) row ≡ Some shape → (slice_get ss row ≡ Some shape) ⊎ ((row ≡ length ss) × (shape ≡ s))
slice_of [] s shape zero q = inr (refl, cc)
slice_of [] s shape (suc row) q = absurd (cc)
slice_of (t ∷ ts) s shape zero q = inl q
slice_of (t ∷ ts) s shape (suc row) q = elim (slice_of ts s shape row q) [
  | inl older ↦ inl older
  | inr last ↦ inr (let e = last.0 in omega arith, last.1)
]

pub append_table : (ss : List Shape) (s : Shape) → IsTable ss → room_of s ≤ length ss → IsTable (ss ++ s ∷ [])
append_table ss s table room row shape q = elim (slice_of ss s shape row q) [
  | inl older ↦ table row shape older
  | inr last ↦ rw (last.0, last.1) room
]

pub shape_at : (ss : List Shape) (row : ℕ) (d : Shape) → IsTable ss → row < length ss → IsShape ss row (get_or ss row d)
shape_at ss row d table lt = shape_is ss row (get_or ss row d) table (slice_get-get_or ss row d lt)
