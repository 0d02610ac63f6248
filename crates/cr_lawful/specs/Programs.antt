-- What is read of a file whose unit breaks no constraint, with its typed unit.
use Rattle.std.specs.Prelude.{◌≡◌, ℕ, List}
use Rattle.cr_lawful_analysis.specs.Members.{structures_of}
use Rattle.cr_check.specs.declared.checked.Checked.{Checked}
use Rattle.cr_check.specs.Checked.{IsSoundOf}
use Rattle.cr_lawful.specs.Lawful.{IsTypedUnit}
use Rattle.cr_lawful.specs.declared.program.Program.{Program}

pub record IsProgram (file : List ℕ) (program : Program) : Type 0 where
  pub of_file : IsTypedUnit file program.typed
  pub names_are : program.names ≡ of_file.names
  pub checked : Checked
  pub sound : IsSoundOf file of_file.unit of_file.names checked
  pub structures_are : program.structures ≡ structures_of of_file.unit.nodes checked
