use Rattle.std.proofs.Common.{length, ap, ◌∙◌}
use Rattle.cr_sequence.proofs.sequence.Sequence.len.Goals as goal

pub returns : goal.returns
returns g c = c.self.invariant.counted ∙ ap length c.self.view_is
