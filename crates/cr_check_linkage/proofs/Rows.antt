-- What a name's own type is where it is joined with none, and the composites of parameters one by one.
use Rattle.std.proofs.Common.{◌≡◌, ℕ, zero, suc, ◌+◌, ◌<◌, ◌≤◌, ◌∷◌, [], ◌++◌, List, Bool, true, false, if◌then◌else◌, length, map, drop, slice_index, min, append_assoc, append-nil, refl, sym, ap, subst, ◌∙◌, arith}
use Rattle.std.specs.List.{list_all}
use Rattle.std.proofs.lemmas.List.{map-append}
use Rattle.std.proofs.lemmas.List.Folds.{list_all-map}
use Rattle.cr_check_types.specs.declared.shape.Shape.{Shape}
use Rattle.cr_check_types.specs.Types.{Qualified, type_at, IsRow, Grows}
use Rattle.cr_check_types.specs.Relations.{AreRows, bare, composite_of}
use Rattle.cr_check_expressions.specs.declared.known.Declared.{Declared}
use Rattle.cr_check_expressions.specs.declared.known.Declared.TheVariants.{Object, Enumerator, Function, TypeName, Unclear}
use Rattle.cr_check_expressions.specs.Ruled.{is_type}
use Rattle.cr_check_declarations.proofs.Adjusted.{types_kept, rows_kept, within_more}
use Rattle.cr_check_linkage.specs.NameTypes.{NameType, type_as, type_or, parameters_or, types_agree, joined_type, composite_type, composite_parameters}

pub own_type : (declared : Declared) (type : Qualified) (parameters : List Qualified) → type_or type (type_as declared type parameters) ≡ type
own_type (Object row register) type parameters = refl
own_type (Function row more) type parameters = refl
own_type (Enumerator value) type parameters = refl
own_type TypeName type parameters = refl
own_type Unclear type parameters = refl

pub own_parameters : (declared : Declared) (type : Qualified) (parameters : List Qualified)
    → parameters_or parameters (type_as declared type parameters) ≡ parameters
own_parameters (Object row register) type parameters = refl
own_parameters (Function row more) type parameters = refl
own_parameters (Enumerator value) type parameters = refl
own_parameters TypeName type parameters = refl
own_parameters Unclear type parameters = refl

-- of two types that aren't compatible, and of two that are
pub joined_last : (earlier own : NameType) → types_agree earlier own ≡ false → joined_type earlier own ≡ own
joined_last earlier own e = ap (λ b. if b then composite_type earlier own else own) e

pub joined_both : (earlier own : NameType) → types_agree earlier own ≡ true → joined_type earlier own ≡ composite_type earlier own
joined_both earlier own e = ap (λ b. if b then composite_type earlier own else own) e

-- a copy of rows in a table that has grown
pub copied_types : (old new : List Shape) (rows copy : List ℕ) → copy ≡ rows → Grows old new → AreRows old rows
    → map (type_at new) copy ≡ map (type_at old) rows
copied_types old new rows copy is grows h = ap (map (type_at new)) is ∙ types_kept old new rows grows h

pub copied_within : (old new : List Shape) (rows copy : List ℕ) → copy ≡ rows → Grows old new → AreRows old rows → AreRows new copy
copied_within old new rows copy is grows h = subst (AreRows new) (sym is) (rows_kept old new rows grows h)

-- the types of all rows are there
pub are_types : (f : ℕ → Qualified) (rows : List ℕ) → list_all is_type (map f rows) ≡ list_all (λ row. is_type (f row)) rows
are_types f rows = list_all-map is_type f rows

-- ---- parameters

none_right : (ts : List Qualified) → composite_parameters ts [] ≡ []
none_right [] = refl
none_right (t ∷ ts) = refl

-- behind the shorter list there is nothing
pub none_left : (f : ℕ → Qualified) (xs ys : List ℕ) (k : ℕ) → min (length xs) (length ys) ≤ k
    → composite_parameters (map f (drop k xs)) (map f (drop k ys)) ≡ []
none_left f [] ys zero h = refl
none_left f [] ys (suc k) h = refl
none_left f (x ∷ xs) [] zero h = refl
none_left f (x ∷ xs) [] (suc k) h = none_right (map f (drop k xs))
none_left f (x ∷ xs) (y ∷ ys) zero h = absurd (let e : ⊥ = omega (arith, h) in e)
none_left f (x ∷ xs) (y ∷ ys) (suc k) h = none_left f xs ys k (omega (arith, h))

-- the next two
pub next_two : (f : ℕ → Qualified) (xs ys : List ℕ) (k : ℕ) → k < length xs → k < length ys
    → composite_parameters (map f (drop k xs)) (map f (drop k ys))
    ≡ composite_of (bare (f (slice_index xs k))) (bare (f (slice_index ys k))) ∷ composite_parameters (map f (drop (suc k) xs)) (map f (drop (suc k) ys))
next_two f [] ys k low other = absurd (let e : ⊥ = omega (arith, low) in e)
next_two f (x ∷ xs) [] k low other = absurd (let e : ⊥ = omega (arith, other) in e)
next_two f (x ∷ xs) (y ∷ ys) zero low other = refl
next_two f (x ∷ xs) (y ∷ ys) (suc k) low other = next_two f xs ys k (omega (arith, low)) (omega (arith, other))

pub two_more : (base old new : List Shape) (rows xs ys : List ℕ) (k row : ℕ) → Grows base old → Grows old new → AreRows base xs → AreRows base ys
    → AreRows old rows → k < length xs → k < length ys
    → map (type_at old) rows ++ composite_parameters (map (type_at base) (drop k xs)) (map (type_at base) (drop k ys))
    ≡ composite_parameters (map (type_at base) xs) (map (type_at base) ys)
    → IsRow new row (composite_of (bare (type_at old (slice_index xs k))) (bare (type_at old (slice_index ys k))))
    → map (type_at new) (rows ++ row ∷ []) ++ composite_parameters (map (type_at base) (drop (k + 1) xs)) (map (type_at base) (drop (k + 1) ys))
    ≡ composite_parameters (map (type_at base) xs) (map (type_at base) ys)
two_more base old new rows xs ys k row before grows left right within low other so made =
    let f = type_at base in
    let rest = composite_parameters (map f (drop (k + 1) xs)) (map f (drop (k + 1) ys)) in
    let e : suc k ≡ k + 1 = omega arith in
    let one : type_at new row ≡ composite_of (bare (f (slice_index xs k))) (bare (f (slice_index ys k))) =
    made.is
    ∙ ap (λ t. composite_of (bare t) (bare (type_at old (slice_index ys k)))) (before.keeps (slice_index xs k) (left k low))
    ∙ ap (λ t. composite_of (bare (f (slice_index xs k))) (bare t)) (before.keeps (slice_index ys k) (right k other)) in
    ap (λ ts. ts ++ rest) (map-append (type_at new) rows (row ∷ []) ∙ ap (λ ts. ts ++ type_at new row ∷ []) (types_kept old new rows grows within))
    ∙ append_assoc (map (type_at old) rows) (type_at new row ∷ []) rest
    ∙ ap (λ t. map (type_at old) rows ++ t ∷ rest) one
    ∙ ap (λ ts. map (type_at old) rows ++ ts)
    (ap (λ n. composite_of (bare (f (slice_index xs k))) (bare (f (slice_index ys k))) ∷ composite_parameters (map f (drop n xs)) (map f (drop n ys)))
    (sym e) ∙ sym (next_two f xs ys k low other))
    ∙ so

pub all_done : (f g : ℕ → Qualified) (rows xs ys : List ℕ) (k : ℕ) (whole : List Qualified) → min (length xs) (length ys) ≤ k
    → map g rows ++ composite_parameters (map f (drop k xs)) (map f (drop k ys)) ≡ whole → map g rows ≡ whole
all_done f g rows xs ys k whole high so =
    sym (append-nil (map g rows)) ∙ ap (λ ts. map g rows ++ ts) (sym (none_left f xs ys k high)) ∙ so
