use Rattle.std.proofs.Common.{length, ap, sym, ◌∙◌}
use Rattle.cr_sequence.proofs.Showing.{length-shown, fill_shown}
use Rattle.cr_sequence.proofs.stretch.Stretch.fill.Goals as goal

pub returns : goal.returns
returns g c =
    let i = c.self.inside in
    let n = length-shown i.count i.first i.pattern.items i.blocks.items i.pool.items in
    let v = ap length c.self.view_is in
    fill_shown i.count c.args.value c.set_alone.new.items.items c.unmake.new.blocks.items c.unmake.new.pool.items _ (sym v ∙ n) c.set_alone.ensures c.unmake.ensures.none
