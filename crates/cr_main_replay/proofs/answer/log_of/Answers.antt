use Rattle.std.proofs.Common.{subst}
use Rattle.cr_log.specs.Readers.{Reads}
use Rattle.cr_main_replay.proofs.Rulings.{reads_so}
use Rattle.cr_main_replay.proofs.answer.log_of.Goals as goal

pub returns : goal.returns
returns c = subst (λ text. Reads text c.read_log.result) c.deref.ensures.value (reads_so c.deref.result.now c.read_log.result c.read_log.ensures.log c.read_log.ensures.line)
