use Rattle.cr_meaning_files.proofs.Names.{steady}
use Rattle.cr_meaning_files.proofs.identifiers.automatic_names_are_steady.Goals as goal

pub returns : goal.returns
returns c = steady
