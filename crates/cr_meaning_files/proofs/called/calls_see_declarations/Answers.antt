use Rattle.cr_meaning_files.proofs.Declarers.{seen}
use Rattle.cr_meaning_files.proofs.called.calls_see_declarations.Goals as goal

pub returns : goal.returns
returns c = seen
