use Rattle.cr_meaning_files.proofs.Files.{labelled}
use Rattle.cr_meaning_files.proofs.laws.labels_stand_around.Goals as goal

pub returns : goal.returns
returns c = labelled
