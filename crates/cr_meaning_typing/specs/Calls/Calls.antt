-- Calls (C11 6.5.2.2): where K17 and K18 are met, the operation of a call is good.
use Rattle.std.specs.Prelude.{◌≡◌, ℕ, ◌^◌, ◌<◌, Bool, true, false, Option, Some, List, length, slice_get}
use Rattle.cr_ints.specs.declared.kind.IntKind.TheVariants.{Int as IntegerKind}
use Rattle.cr_syntax.specs.declared.ctype.CType.TheVariants.{Int, Void, Struct}
use Rattle.cr_typed.specs.declared.typed.Typed.{Typed}
use Rattle.cr_check_types.specs.Types.{Qualified, plain, pointer as to, type_at}
use Rattle.cr_check_operands.specs.Values.{Seen}
use Rattle.cr_check_expressions.specs.Known.{Signature, a_function}
use Rattle.cr_check_expressions.specs.Ruled.{operand, called, given, is_typed}
use Rattle.cr_meaning.specs.World.{Program}
use Rattle.cr_meaning.specs.declared.op.Form.{Form}
use Rattle.cr_meaning.specs.declared.op.Form.TheVariants as form
use Rattle.cr_meaning.specs.declared.op.Parameter.{Parameter}
use Rattle.cr_meaning.specs.declared.op.Callee.{Callee}
use Rattle.cr_meaning.specs.declared.op.Callee.TheVariants as callee
use Rattle.cr_meaning.specs.declared.op.Work.TheVariants as work
use Rattle.cr_meaning.specs.declared.run.Limits.{Limits}
use Rattle.cr_meaning_soundness.specs.Sorts.{Sort, statement, sort_of, sorts_in}
use Rattle.cr_meaning_soundness.specs.Statements.{of_function, sorts_of}
use Rattle.cr_meaning_operations.specs.Operations.{node_op, parts_at, callee_of, program_of}
use Rattle.cr_meaning_typing.specs.Typed.Good.{value_sort}
use Rattle.cr_meaning_typing.specs.Typed.Typing.{has_value}
use Rattle.cr_meaning_typing.specs.Typed.Columns.{AreColumns, IsGoodAt}
use Rattle.cr_meaning_typing.specs.Expressions.Used.{IsUsedAt}

-- ---- what a function is called by, and what it is defined as

-- what a function gives: nothing or a scalar (K8)
abbrev pub IsGiven : Qualified → Type 0
IsGiven (plain Void c v) = Unit {0}
IsGiven (plain (Int kind) c v) = Unit {0}
IsGiven (to c v below) = Unit {0}
IsGiven other = ⊥

-- a parameter's type in an operation, for one that has this type where it is called: types that are told apart by a cell's kind alone
abbrev pub Takes : Typed → Form → Qualified → Type 0
Takes t (form.Number kind) (plain (Int other) c v) = kind ≡ other
Takes t (form.Pointer number) (to c v below) = Unit {0}
Takes t (form.Cells row) (plain (Struct node) c v) = (d : Bool) × ((w : Bool) × (type_at t.shapes row ≡ plain (Struct node) d w))
Takes t own type = ⊥

-- the parameter of this number has a type where the function is called, its object has the cells of its own type (6.5.2.2p7), which takes
-- the same values
pub record IsParameter (p : Program) (t : Typed) (signature : Signature) (k : ℕ) (own : Parameter) : Type 0 where
  pub type : Qualified
  pub is : signature.parameter k ≡ Some type
  pub takes : Takes t own.form type
  pub cells : sorts_in (p.shape own.node) ≡ sorts_of p own.form

-- the function is defined with parameters of these types, and its body is a statement whose `return`s give what the call gives (6.9.1)
pub record IsDefinedAs (p : Program) (t : Typed) (sorts : ℕ → Option Sort) (signature : Signature) (parameters : List Parameter) (rest : ℕ) (is_main : Bool) : Type 0 where
  pub result : Form
  pub gives : (row : ℕ) → value_sort p row signature.gives ≡ sort_of p result
  pub body : sorts rest ≡ Some (statement (of_function result))
  pub main : is_main ≡ true → result ≡ form.Number IntegerKind
  pub count : length parameters ≡ signature.count
  pub closed : signature.more ≡ false
  pub each : (k : ℕ) (own : Parameter) → slice_get parameters k ≡ Some own → IsParameter p t signature k own

-- a function of the library has the parameter and gives what the standard says (7.21.6.3, 7.21.7.9, 7.22.4.4)
pub record Is (signature : Signature) (gives parameter : Qualified → Type 0) (more : Bool) : Type 0 where
  pub gives_is : gives signature.gives
  pub count : signature.count ≡ 1
  pub first : Qualified
  pub is : signature.parameter 0 ≡ Some first
  pub takes : parameter first
  pub more_is : signature.more ≡ more

abbrev pub IsInt : Qualified → Type 0
IsInt (plain (Int IntegerKind) c v) = Unit {0}
IsInt type = ⊥

abbrev pub IsVoid : Qualified → Type 0
IsVoid (plain Void c v) = Unit {0}
IsVoid type = ⊥

abbrev pub IsAddress : Qualified → Type 0
IsAddress (to c v below) = Unit {0}
IsAddress type = ⊥

abbrev pub IsCalled : Program → Typed → (ℕ → Option Sort) → Signature → Callee → Type 0
IsCalled p t sorts signature (callee.Function parameters rest is_main) = IsDefinedAs p t sorts signature parameters rest is_main
IsCalled p t sorts signature (callee.Printf texts) = Is signature IsInt IsAddress true
IsCalled p t sorts signature callee.Putchar = Is signature IsInt IsInt false
IsCalled p t sorts signature callee.Exit = Is signature IsVoid IsInt false
IsCalled p t sorts signature callee.Abort = IsVoid signature.gives

-- ---- the law

-- where a call has a type, its operation is good
abbrev pub CallsAreGood : Type 0
CallsAreGood = (t : Typed) (limits : Limits) (sorts : ℕ → Option Sort) (sees : ℕ → Bool) (at : ℕ → Seen) → AreColumns t at → (i : ℕ) (signature : Signature)
    → at i ≡ given (called (a_function signature) (operand at (parts_at t i)) (length (parts_at t i))) → is_typed (at i) ≡ true → limits.output < 2 ^ 31
    → IsGiven signature.gives → IsCalled (program_of t limits) t sorts signature (callee_of t i)
    → ((k a : ℕ) → slice_get (parts_at t i) k ≡ Some a → (has_value (at a).type ≡ true) × IsUsedAt (program_of t limits) t sorts at a)
    → IsGoodAt (program_of t limits) t sorts sees i (node_op (parts_at t i) (work.Call (callee_of t i)))
