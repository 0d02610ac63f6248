-- A type is compatible with itself.
use Rattle.std.proofs.Common.{◌≡◌, ◌==◌, ◌&&◌, ◌||◌, ℕ, ◌+◌, ◌<◌, inl, inr, arith, ap, ◌∙◌, Bool, true, false, refl, eq-eqb}
use Rattle.cr_syntax.specs.declared.ctype.CType.{CType}
use Rattle.cr_syntax.specs.declared.ctype.CType.TheVariants.{Void, Int, Pointer, Array, Struct, Function, Unknown}
use Rattle.std.proofs.lemmas.Bool.{cases_lt}
use Rattle.cr_check_types.specs.declared.shape.Shape.{Shape}
use Rattle.cr_check_types.specs.Types.{Qualified, plain, pointer, array, type_by, type_of}
use Rattle.cr_check_types.specs.Relations.{number_of, same, sizes_agree, are_compatible, bare}

is_itself : (n : ℕ) → (n == n) ≡ true
is_itself n = eq-eqb n n refl

both_same : (c v : Bool) → (same c c && same v v) ≡ true
both_same true true = refl
both_same true false = refl
both_same false true = refl
both_same false false = refl

size_agrees : (n : ℕ) → sizes_agree n n ≡ true
size_agrees n = by (n == 0) (n == n) (is_itself n)
  where
    by : (zero_size equal : Bool) → equal ≡ true → (zero_size || (zero_size || equal)) ≡ true
    by true equal e = refl
    by false equal e = e

and_true : (a b : Bool) → a ≡ true → b ≡ true → (a && b) ≡ true
and_true a b e f = rw (e, f) refl

pub itself : (t : Qualified) → are_compatible t t ≡ true
itself (pointer c v t) = and_true (same c c && same v v) (are_compatible t t) (both_same c v) (itself t)
itself (array n t) = and_true (sizes_agree n n) (are_compatible t t) (size_agrees n) (itself t)
itself (plain Void c v) = both_same c v
itself (plain (Int kind) c v) = and_true (number_of kind == number_of kind) (same c c && same v v) (is_itself (number_of kind)) (both_same c v)
itself (plain (Struct node) c v) = and_true (node == node) (same c c && same v v) (is_itself node) (both_same c v)
itself (plain (Function node) c v) = and_true (node == node) (same c c && same v v) (is_itself node) (both_same c v)
itself (plain Unknown c v) = both_same c v
itself (plain (Pointer row) c v) = and_true (row == row) (same c c && same v v) (is_itself row) (both_same c v)
itself (plain (Array row n) c v) =
    and_true (row == row && n == n) (same c c && same v v) (and_true (row == row) (n == n) (is_itself row) (is_itself n)) (both_same c v)

-- ---- without their own qualifiers

bare_by : (of : CType) (c v : Bool) (look : ℕ → Qualified) → bare (type_by of c v look) ≡ type_by of false false look
bare_by (Pointer row) c v look = refl
bare_by (Array row n) c v look = refl
bare_by Void c v look = refl
bare_by (Int kind) c v look = refl
bare_by (Struct node) c v look = refl
bare_by (Function node) c v look = refl
bare_by Unknown c v look = refl

pub bare_is : (t : Qualified) (s p : Shape) (look : ℕ → Qualified) → t ≡ type_of look s → p ≡ record { of = s.of; constant = false; volatile = false } → bare t ≡ type_of look p
bare_is t s p look e f = rw (e, f) (bare_by s.of s.constant s.volatile look)

-- what holds of all before a place, and at it
pub one_more : (f : ℕ → Bool) (n : ℕ) → ((k : ℕ) → k < n → f k ≡ true) → f n ≡ true → (k : ℕ) → k < n + 1 → f k ≡ true
one_more f n h e k lt = elim (cases_lt k n) [
  | inl older ↦ h k older
  | inr newest ↦ let is : k ≡ n = omega arith in ap f is ∙ e
]
