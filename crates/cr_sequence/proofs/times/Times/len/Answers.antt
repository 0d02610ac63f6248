use Rattle.std.proofs.Common.{length, ap, ◌∙◌}
use Rattle.cr_sequence.proofs.times.Times.len.Goals as goal

pub returns : goal.returns
returns g c = c.self.invariant ∙ ap length c.self.view_is
