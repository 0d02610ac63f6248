-- No qualifiers are added to a type.
use Rattle.std.proofs.Common.{◌≡◌, ◌||◌, Bool, true, false, refl, ap, ap₂, sym, subst, length, ◌<◌, ℕ, List}
use Rattle.cr_check_types.specs.declared.shape.Shape.{Shape}
use Rattle.cr_check_types.specs.Types.{Qualified, plain, pointer, array, type_at, IsRow}
use Rattle.cr_check_types.specs.Relations.{qualified}

or_none : (b : Bool) → (b || false) ≡ b
or_none true = refl
or_none false = refl

none_added : (t : Qualified) → qualified false false t ≡ t
none_added (plain of c v) = ap₂ (λ (x : Bool). λ (y : Bool). plain of x y) (or_none c) (or_none v)
none_added (pointer c v t) = ap₂ (λ (x : Bool). λ (y : Bool). pointer x y t) (or_none c) (or_none v)
none_added (array n t) = ap (λ (u : Qualified). array n u) (none_added t)

pub same_row : (shapes : List Shape) (row : ℕ) (constant volatile : Bool) → row < length shapes → constant ≡ false → volatile ≡ false
    → IsRow shapes row (qualified constant volatile (type_at shapes row))
same_row shapes row constant volatile h c v =
    subst (λ (x : Bool). IsRow shapes row (qualified x volatile (type_at shapes row))) (sym c)
    (subst (λ (x : Bool). IsRow shapes row (qualified false x (type_at shapes row))) (sym v) (record { within = h; is = sym (none_added (type_at shapes row)) }))
