use Rattle.cr_meaning_files.proofs.Files.{defined}
use Rattle.cr_meaning_files.proofs.laws.mains_are_defined.Goals as goal

pub returns : goal.returns
returns c = defined
