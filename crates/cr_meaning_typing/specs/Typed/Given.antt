-- Constants, signs and assignments, from types.
use Rattle.std.specs.Prelude.{◌≡◌, ℕ, Bool, true, Option, Some, [], ◌∷◌, map}
use Rattle.cr_check_constants.specs.declared.operator.Sign.{Sign as Operated}
use Rattle.cr_syntax.specs.declared.ctype.CType.TheVariants.{Struct}
use Rattle.cr_typed.specs.declared.typed.Typed.{Typed}
use Rattle.cr_check_types.specs.Types.{plain}
use Rattle.cr_check_operands.specs.Values.{Seen, value_of_seen}
use Rattle.cr_check_operands.specs.Rules.{signed_value}
use Rattle.cr_check_operands.specs.Places.{assigned}
use Rattle.cr_check_expressions.specs.Known.{Source}
use Rattle.cr_check_expressions.specs.Ruled.{given, is_typed, complete}
use Rattle.cr_meaning.specs.World.{Program}
use Rattle.cr_meaning.specs.declared.op.Sign.{Sign}
use Rattle.cr_meaning.specs.declared.op.Work.TheVariants as work
use Rattle.cr_meaning.specs.declared.run.Limits.{Limits}
use Rattle.cr_meaning_soundness.specs.Sorts.{Sort, place}
use Rattle.cr_meaning_operations.specs.Shapes.{shape_of, form_of}
use Rattle.cr_meaning_operations.specs.Operations.{node_op, parts_at, unary, left_row, program_of}
use Rattle.cr_meaning_typing.specs.Typed.Columns.{AreColumns, IsValueAt, IsGoodAt}

abbrev pub SignsAreGood : Type 0
SignsAreGood = (p : Program) (t : Typed) (sorts : ℕ → Option Sort) (sees : ℕ → Bool) (at : ℕ → Seen) → AreColumns t at → (i a : ℕ) (op : Sign) (operator : Operated)
    → parts_at t i ≡ a ∷ [] → at i ≡ given (signed_value operator (value_of_seen (at a))) → is_typed (at i) ≡ true
    → IsValueAt p t sorts a → IsGoodAt p t sorts sees i (unary t i op)

-- the kinds of a structure's cells, whatever its qualifiers
abbrev pub KindsAreSame : Type 0
KindsAreSame = (t : Typed) (node : ℕ) (c v d w : Bool) → map (λ own. own.0) (shape_of t (plain (Struct node) c v)) ≡ map (λ own. own.0) (shape_of t (plain (Struct node) d w))

-- an assignment, of scalars and of structures: the left operand is a place, and the right one gives its value
abbrev pub AssignmentsAreGood : Type 0
AssignmentsAreGood = (t : Typed) (limits : Limits) (sorts : ℕ → Option Sort) (sees : ℕ → Bool) (at : ℕ → Seen) (s : Source) → AreColumns t at → (i a b count : ℕ)
    → parts_at t i ≡ a ∷ b ∷ [] → at i ≡ given (assigned (complete s i) s.fixed (at a) (value_of_seen (at b))) → is_typed (at i) ≡ true
    → sorts a ≡ Some (place count) → IsValueAt (program_of t limits) t sorts b
    → IsGoodAt (program_of t limits) t sorts sees i (node_op (parts_at t i) (work.Assign (form_of t (left_row t i))))
