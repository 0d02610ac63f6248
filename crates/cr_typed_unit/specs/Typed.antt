-- The typed unit of a file.
use Rattle.std.specs.Prelude.{◌≡◌, ℕ, List, Some, length, slice_index_or}
use Rattle.cr_syntax.specs.declared.unit.Unit as source
use Rattle.cr_scopes.specs.declared.names.Names.{Names}
use Rattle.cr_typed.specs.declared.typed.Typed.{Typed}
use Rattle.cr_typed.specs.Typed.{IsTyped}
use Rattle.cr_check_declarators.specs.Specifiers.{nothing}
use Rattle.cr_check_declarations.specs.declared.tree.Tree.{Tree}
use Rattle.cr_check_initialised.specs.Durations.{is_static}
use Rattle.cr_typed_columns.specs.declared.checked.CheckedColumns.{CheckedColumns}
use Rattle.cr_typed_columns.specs.Reading.{parsed_of}
use Rattle.cr_typed_columns.specs.Rows.{listed}
use Rattle.cr_typed_columns.specs.Columns.{IsElaborated}
use Rattle.cr_check.specs.declared.checked.Checked.{Checked}
use Rattle.cr_check.specs.Columns.{IsChecked}
use Rattle.cr_check.specs.Checked.{IsSound}

-- what was checked of the nodes of a unit
pub record AreColumnsOf (names : Names) (checked : Checked) (t : Tree) (j : CheckedColumns) : Type 0 where
  pub table : j.table.now ≡ checked.table
  pub names_are : j.names.now ≡ names
  pub spellings : j.spellings.now ≡ checked.surroundings.bindings.spellings
  pub declarers : j.declarers.now ≡ checked.surroundings.bindings.declarers
  pub above : j.above.now ≡ checked.surroundings.above
  pub around : j.around.now ≡ checked.surroundings.around
  pub facts : j.facts.now ≡ checked.whole.typing.facts
  pub specified : j.specified.now ≡ checked.whole.typing.specified
  pub declarators : j.declarators.now ≡ checked.whole.typing.declarators
  pub named : j.named.now ≡ checked.whole.typing.named
  pub declared : j.declared.now ≡ checked.whole.typing.declared
  pub composites : j.composites.now ≡ checked.whole.typing.composites
  pub statics : j.statics.now ≡ listed (λ i. is_static t (λ p. slice_index_or checked.whole.typing.specified p nothing) (Some i)) (length t.nodes.now)
  pub members : j.members.now ≡ checked.whole.typing.members
  pub layouts : j.layouts.now ≡ checked.whole.typing.layouts
  pub lines : j.lines.now ≡ checked.whole.typing.lines
  pub results : j.results.now ≡ checked.whole.marked.results
  pub labels : j.labels.now ≡ checked.whole.marked.labels

-- the unit has no fault by this check, and the columns are what was checked: so it is assembled, before it is tested whether its types fit it
pub record IsAssembledBy (file : List ℕ) (unit : source.Unit) (names : Names) (checked : Checked) (typed : Typed) : Type 0 where
  pub tree : Tree
  pub is : IsChecked file unit names checked tree
  pub sound : IsSound file unit names checked tree
  pub columns : CheckedColumns
  pub are : AreColumnsOf names checked tree columns
  pub elaborated : IsElaborated file (parsed_of unit) checked.texts columns typed

pub record IsAssembledOf (file : List ℕ) (unit : source.Unit) (names : Names) (typed : Typed) : Type 0 where
  pub checked : Checked
  pub by : IsAssembledBy file unit names checked typed

-- and the same with what a run asks
pub record IsTypedBy (file : List ℕ) (unit : source.Unit) (names : Names) (checked : Checked) (typed : Typed) : Type 0 where
  pub tree : Tree
  pub is : IsChecked file unit names checked tree
  pub sound : IsSound file unit names checked tree
  pub columns : CheckedColumns
  pub are : AreColumnsOf names checked tree columns
  pub elaborated : IsElaborated file (parsed_of unit) checked.texts columns typed
  pub fits : IsTyped typed

-- a unit without fault as a typed one
pub record IsTypedOf (file : List ℕ) (unit : source.Unit) (names : Names) (typed : Typed) : Type 0 where
  pub checked : Checked
  pub by : IsTypedBy file unit names checked typed
