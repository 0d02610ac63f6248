-- The columns of a typed unit as they are made.
use Rattle.std.specs.Prelude.{ℕ, List, Bool, Some, length, slice_index_or}
use Rattle.cr_syntax.specs.declared.unit.Unit as source
use Rattle.cr_scopes.specs.declared.names.Names.{Names}
use Rattle.cr_typed.specs.declared.typed.Typed.{Typed}
use Rattle.cr_check_declarators.specs.declared.words.Specified.{Specified}
use Rattle.cr_check_declarators.specs.Specifiers.{nothing}
use Rattle.cr_check_declarations.specs.declared.tree.Tree.{Tree}
use Rattle.cr_check_initialised.specs.Durations.{is_static}
use Rattle.cr_typed_columns.specs.declared.checked.CheckedColumns.{CheckedColumns}
use Rattle.cr_typed_columns.specs.Reading.{parsed_of}
use Rattle.cr_typed_columns.specs.Rows.{listed}
use Rattle.cr_typed_columns.specs.Columns.{IsElaborated}
use Rattle.cr_check.specs.declared.checked.Checked.{Checked}
use Rattle.cr_typed_unit.specs.Typed.{AreColumnsOf}

-- whether the object that each node declares is of static duration
abbrev pub statics_in : Tree → List Specified → List Bool
statics_in t specified = listed (λ i. is_static t (λ p. slice_index_or specified p nothing) (Some i)) (length t.nodes.now)

-- a typed unit of these bytes and literals by what was checked
pub record IsMade (bytes : List ℕ) (unit : source.Unit) (texts : List (List ℕ)) (names : Names) (checked : Checked) (t : Tree) (typed : Typed) : Type 0 where
  pub columns : CheckedColumns
  pub are : AreColumnsOf names checked t columns
  pub elaborated : IsElaborated bytes (parsed_of unit) texts columns typed
