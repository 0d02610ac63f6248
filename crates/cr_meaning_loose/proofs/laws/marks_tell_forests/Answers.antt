use Rattle.cr_meaning_loose.proofs.Tracing.{marks_tell_forests}
use Rattle.cr_meaning_loose.proofs.laws.marks_tell_forests.Goals as goal

pub returns : goal.returns
returns c = marks_tell_forests
