-- Controlling expressions, and what a `return` gives, by their constraints.
use Rattle.std.proofs.Common.{◌≡◌, ℕ, Bool, true, false, not, ◌&&◌, None, Some, refl, if◌then◌else◌}
use Rattle.std.proofs.lemmas.Bool.{false≢true, not-false}
use Rattle.cr_check_constants.specs.declared.constant.Constant.{Constant}
use Rattle.cr_check_constants.specs.declared.constant.Constant.TheVariants.{NotConstant}
use Rattle.cr_syntax.specs.declared.ctype.CType.TheVariants.{Int, Void, Struct}
use Rattle.cr_typed.specs.declared.typed.Typed.{Typed}
use Rattle.cr_check_types.specs.Types.{Qualified, plain, pointer as to, array}
use Rattle.cr_check_operands.specs.Values.{Seen, Valued, number as a_number, address, value_in, value_beside_places, value_of_seen}
use Rattle.cr_check_operands.specs.Rules.{assignable, scalar_constant, is_scalar_value, is_integer_value}
use Rattle.cr_check_expressions.specs.Ruled.{is_type, is_typed}
use Rattle.cr_check_statements.specs.Statements.{is_no_scalar, is_no_integer, is_valueless, returns_badly}
use Rattle.cr_meaning.specs.World.{Program}
use Rattle.cr_meaning.specs.declared.op.Form.TheVariants as form
use Rattle.cr_meaning_soundness.specs.Sorts.{Sort}
use Rattle.cr_meaning_soundness.specs.Statements.{Converts}
use Rattle.cr_meaning_soundness.specs.Operands.{IsScalar, IsNumber, IsConverted}
use Rattle.cr_meaning_operations.specs.Shapes.{form_by}
use Rattle.cr_meaning_typing.specs.Typed.Typing.{has_value}
use Rattle.cr_meaning_typing.proofs.TypedLemmas.Worth.{worth_typed}
use Rattle.cr_meaning_typing.specs.Expressions.Used.{used_sort}
use Rattle.cr_meaning_typing.proofs.ExpressionsLemmas.Operators.{scalar_used}
use Rattle.cr_meaning_typing.specs.Statements.Statements.{IsResult}

second : (a b : Bool) → (a && b) ≡ false → a ≡ true → b ≡ false
second true b e h = e
second false b e h = absurd (false≢true h)

-- ---- scalars

scalar_there : (v : Valued) → is_scalar_value v ≡ true → (k : Constant) × (scalar_constant v ≡ Some k)
scalar_there (a_number x) h = (x.constant, refl)
scalar_there (address t) h = (NotConstant, refl)
scalar_there v h = absurd (false≢true h)

-- an expression with a value that breaks no such constraint has a scalar's sort
pub is_scalar : (p : Program) (row : ℕ) (s : Seen) → has_value s.type ≡ true → is_no_scalar s ≡ false → IsScalar (used_sort p s.lvalue row s.type)
is_scalar p row s h n =
    let it = scalar_there (value_of_seen s) (not-false (is_scalar_value (value_of_seen s)) (second (is_typed s) (not (is_scalar_value (value_of_seen s))) n (worth_typed s.type h))) in
    scalar_used p s.lvalue row s.type s.constant it.0 it.1

-- ---- integers

integer_used : (p : Program) (l : Bool) (row : ℕ) (type : Qualified) (c : Constant) → is_integer_value (if l then value_in type c else value_beside_places type c) ≡ true
    → IsNumber (used_sort p l row type)
integer_used p true row (plain (Int kind) u v) c h = tt
integer_used p false row (plain (Int kind) u v) c h = tt
integer_used p true row other c h = absurd (false≢true h)
integer_used p false row other c h = absurd (false≢true h)

pub is_integer : (p : Program) (row : ℕ) (s : Seen) → has_value s.type ≡ true → is_no_integer s ≡ false → IsNumber (used_sort p s.lvalue row s.type)
is_integer p row s h n = integer_used p s.lvalue row s.type s.constant (not-false (is_integer_value (value_of_seen s)) (second (is_typed s) (not (is_integer_value (value_of_seen s))) n (worth_typed s.type h)))

-- ---- what a function gives

result_typed : (type : Qualified) → IsResult type → is_type type ≡ true
result_typed (plain Void u v) r = refl
result_typed (plain (Int kind) u v) r = refl
result_typed (plain other u v) r = absurd r
result_typed (to u v b) r = refl
result_typed (array n b) r = absurd r

-- no expression is assigned to void
pub record IsGiven (p : Program) (t : Typed) (row : ℕ) (type : Qualified) (sort : Sort) : Type 0 where
  pub converts : Converts p (form_by t row type) sort
  pub converted : IsConverted (form_by t row type) sort

scalar_given : (p : Program) (t : Typed) (row : ℕ) (type : Qualified) (v : Valued) (sort : Sort) → IsResult type → assignable (value_in type NotConstant) v ≡ true
    → ((k : Constant) → scalar_constant v ≡ Some k → IsScalar sort) → IsGiven p t row type sort
scalar_given p t row (plain (Int kind) u w) (a_number x) sort r h s = record { converts = tt; converted = s x.constant refl }
scalar_given p t row (plain (Int kind) u w) (address b) sort r h s = record { converts = tt; converted = s NotConstant refl }
scalar_given p t row (to u w b) (a_number x) sort r h s = record { converts = tt; converted = s x.constant refl }
scalar_given p t row (to u w b) (address c) sort r h s = record { converts = tt; converted = s NotConstant refl }
scalar_given p t row (plain (Struct n) u w) v sort r h s = absurd r
scalar_given p t row (array n b) v sort r h s = absurd r
scalar_given p t row type v sort r h s = absurd (false≢true h)

pub is_given : (p : Program) (t : Typed) (at : ℕ → Seen) (row own a : ℕ) (type : Qualified) → IsResult type → has_value (at a).type ≡ true → returns_badly type at (Some a) ≡ false
    → IsGiven p t own type (used_sort p (at a).lvalue row (at a).type)
is_given p t at row own a type r h n =
    scalar_given p t own type (value_of_seen (at a)) (used_sort p (at a).lvalue row (at a).type) r
    (not-false (assignable (value_in type NotConstant) (value_of_seen (at a))) (second (is_typed (at a)) (not (assignable (value_in type NotConstant) (value_of_seen (at a))))
    (second (is_type type) (is_typed (at a) && not (assignable (value_in type NotConstant) (value_of_seen (at a)))) n (result_typed type r)) (worth_typed (at a).type h)))
    (λ k e. scalar_used p (at a).lvalue row (at a).type (at a).constant k e)

nothing_void : (t : Typed) (own : ℕ) (type : Qualified) → is_valueless (value_in type NotConstant) ≡ true → form_by t own type ≡ form.Void
nothing_void t own (plain Void u v) h = refl
nothing_void t own (plain (Int kind) u v) h = absurd (false≢true h)
nothing_void t own type h = absurd (false≢true h)

pub gives_nothing : (t : Typed) (at : ℕ → Seen) (own : ℕ) (type : Qualified) → IsResult type → returns_badly type at None ≡ false → form_by t own type ≡ form.Void
gives_nothing t at own type r n = nothing_void t own type (not-false (is_valueless (value_in type NotConstant)) (second (is_type type) (not (is_valueless (value_in type NotConstant))) n (result_typed type r)))
