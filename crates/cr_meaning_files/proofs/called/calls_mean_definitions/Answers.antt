use Rattle.cr_meaning_files.proofs.Defined.{define}
use Rattle.cr_meaning_files.proofs.called.calls_mean_definitions.Goals as goal

pub returns : goal.returns
returns c = define
