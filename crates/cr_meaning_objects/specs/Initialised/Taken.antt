-- What the initialiser of a part gives (C11 6.7.9p11, p13, p14), and the lines of an initialised declarator.
use Rattle.std.specs.Prelude.{◌≡◌, ℕ, false, true, Option, Some, List, slice_get, map}
use Rattle.cr_syntax.specs.declared.ctype.CType.TheVariants.{Int, Struct}
use Rattle.cr_typed.specs.declared.typed.Typed.{Typed}
use Rattle.cr_typed.specs.declared.typed.Put.{Put}
use Rattle.cr_check_types.specs.Types.{Qualified, plain, pointer, array, type_at}
use Rattle.cr_check_initialisers.specs.Known.{Known}
use Rattle.cr_check_initialisers.specs.Anchors.{is_array}
use Rattle.cr_check_initialisers.specs.Faults.{is_badly_typed, is_bad_literal}
use Rattle.cr_meaning.specs.World.{Program}
use Rattle.cr_meaning.specs.declared.op.Form.{Form}
use Rattle.cr_meaning.specs.declared.op.Op.{Op}
use Rattle.cr_meaning.specs.declared.op.Work.TheVariants as work
use Rattle.cr_meaning.specs.declared.run.Limits.{Limits}
use Rattle.cr_meaning_soundness.specs.Sorts.{Sort, chars}
use Rattle.cr_meaning_soundness.specs.Statements.{Initialises, HasCells, AreLines}
use Rattle.cr_meaning_soundness.specs.Operands.{IsInitial, TakeLines}
use Rattle.cr_meaning_operations.specs.Shapes.{form_of}
use Rattle.cr_meaning_operations.specs.Operations.{node_op, line_of, program_of}
use Rattle.cr_meaning_typing.specs.Typed.Typing.{has_value}
use Rattle.cr_meaning_typing.specs.Expressions.Used.{used_sort}

-- ---- initialisers

-- what has this sort initialises a part of this type
pub record IsTaken (p : Program) (form : Form) (sort : Sort) : Type 0 where
  pub initialises : Initialises p form sort
  pub initial : IsInitial form sort

-- numbers, structures, pointers and arrays
abbrev pub IsHeld : Qualified → Type 0
IsHeld (plain (Int kind) c v) = Unit {0}
IsHeld (plain (Struct node) c v) = Unit {0}
IsHeld (plain of c v) = ⊥
IsHeld (pointer c v below) = Unit {0}
IsHeld (array n below) = Unit {0}

-- an expression that breaks neither K13 nor K37 at a part of such a type: a literal where the part is an array, and else what it is as a value
abbrev pub InitialisersAreTaken : Type 0
InitialisersAreTaken = (t : Typed) (limits : Limits) (k : Known) (row node used : ℕ) → IsHeld (type_at t.shapes row) → has_value (k.seen node).type ≡ true
    → is_badly_typed k (type_at t.shapes row) node ≡ false → is_bad_literal k (type_at t.shapes row) node ≡ false
    → (is_array (type_at t.shapes row) ≡ true → IsTaken (program_of t limits) (form_of t row) chars)
    × (is_array (type_at t.shapes row) ≡ false → type_at t.shapes used ≡ (k.seen node).type
    → IsTaken (program_of t limits) (form_of t row) (used_sort (program_of t limits) (k.seen node).lvalue used (k.seen node).type))

-- ---- lines

-- a put of a plan: its part has the cells of its type, and takes what its node gives
pub record IsLine (p : Program) (t : Typed) (sorts : ℕ → Option Sort) (declared : ℕ) (own : Put) : Type 0 where
  pub cells : HasCells p declared (line_of t own)
  pub taken : (sort : Sort) → sorts own.node ≡ Some sort → IsTaken p (form_of t own.row) sort

-- the operation of an initialised declarator
abbrev pub initialising : Typed → ℕ → List Put → Op
initialising t declared puts = node_op (map (λ put. put.node) puts) (work.Initialise declared (map (line_of t) puts))

abbrev pub LinesAreSet : Type 0
LinesAreSet = (p : Program) (t : Typed) (sorts : ℕ → Option Sort) (declared : ℕ) (puts : List Put) → ((m : ℕ) (own : Put) → slice_get puts m ≡ Some own → IsLine p t sorts declared own)
    → AreLines p sorts (initialising t declared puts) declared 0 (map (line_of t) puts) × TakeLines sorts (initialising t declared puts) 0 (map (line_of t) puts)
