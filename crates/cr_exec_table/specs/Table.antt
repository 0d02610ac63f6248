-- What the table of a unit's program is.
use Rattle.std.specs.Prelude.{◌≡◌, ℕ, Bool, true, false, List, [], ◌∷◌}
use Rattle.cr_memory.specs.declared.value.Scalar.{Scalar}
use Rattle.cr_memory.specs.declared.value.Scalar.TheVariants.{Pointer}
use Rattle.cr_meaning.specs.World.{Program}
use Rattle.cr_meaning.specs.declared.run.Limits.{Limits}
use Rattle.cr_eval.specs.declared.table.Table.{Table}
use Rattle.cr_eval.specs.Table.{program_of as program_in}
use Rattle.cr_typed.specs.declared.typed.Typed.{Typed}
use Rattle.cr_check_types.specs.Types.{Qualified}
use Rattle.cr_meaning_operations.specs.Shapes.{number_of}
use Rattle.cr_meaning_operations.specs.Operations.{program_of, pointed}

-- two programs that agree at each node and row, and have the same operations and limits
pub record AreSame (one other : Program) : Type 0 where
  pub ops : one.ops ≡ other.ops
  pub shape : (node : ℕ) → one.shape node ≡ other.shape node
  pub literal : (node : ℕ) → one.literal node ≡ other.literal node
  pub kinds : (row : ℕ) → one.kinds row ≡ other.kinds row
  pub limits : one.limits ≡ other.limits

-- the program of the table is the program that the unit is
abbrev pub IsTableOf : Table → Typed → Limits → Type 0
IsTableOf table t limits = AreSame (program_in table) (program_of t limits)

-- the node itself, if a test holds of it
abbrev pub one_if : Bool → ℕ → List ℕ
one_if true node = node ∷ []
one_if false node = []

abbrev pub strings_in : Typed → Qualified → Scalar
strings_in t type = Pointer (number_of t (pointed (pointed type)))
