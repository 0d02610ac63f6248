use Rattle.std.proofs.Common.{length, ap, sym, ◌∙◌, arith}
use Rattle.cr_sequence.specs.Kept.{items_of}
use Rattle.cr_sequence.proofs.Showing.{length-shown, new_shown}
use Rattle.cr_sequence.proofs.stretch.Stretch.refill.Goals as goal

pub returns : goal.returns
returns g c =
    let i = c.self.inside in
    let n = length-shown i.count i.first i.pattern.items i.blocks.items i.pool.items in
    let v = ap length c.self.view_is in
    ap (λ m. items_of m c.index.result.now c.args.pattern.items c.unmake.new.blocks.items c.unmake.new.pool.items) (sym n ∙ v ∙ sym c.requires.whole)
    ∙ new_shown c.index.result.now c.args.pattern.items c.unmake.new.blocks.items c.unmake.new.pool.items c.args.times c.requires.some c.unmake.ensures.none
