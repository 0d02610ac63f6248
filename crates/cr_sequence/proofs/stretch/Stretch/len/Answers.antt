use Rattle.std.proofs.Common.{length, sym, ap, ◌∙◌}
use Rattle.cr_sequence.proofs.Showing.{length-shown}
use Rattle.cr_sequence.proofs.stretch.Stretch.len.Goals as goal

pub returns : goal.returns
returns g c =
    let i = c.self.inside in
    sym (length-shown i.count i.first i.pattern.items i.blocks.items i.pool.items) ∙ ap length c.self.view_is
