use Rattle.cr_meaning_files.proofs.Parameters.{named_locally}
use Rattle.cr_meaning_files.proofs.laws.names_see_objects.Goals as goal

pub returns : goal.returns
returns c = named_locally
