use Rattle.cr_meaning_files.proofs.Files.{values}
use Rattle.cr_meaning_files.proofs.laws.expressions_are_worth.Goals as goal

pub returns : goal.returns
returns c = values
