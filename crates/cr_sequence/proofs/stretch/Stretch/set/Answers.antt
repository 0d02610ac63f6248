use Rattle.std.proofs.Common.{length, ap, arith}
use Rattle.cr_sequence.proofs.Showing.{length-shown, set_shown}
use Rattle.cr_sequence.proofs.stretch.Stretch.set.Goals as goal

pub set-requires-clause-within : goal.set-requires-clause-within
set-requires-clause-within g c =
    let i = c.self.inside in
    let n = length-shown i.count i.first i.pattern.items i.blocks.items i.pool.items in
    let v = ap length c.self.view_is in
    let all = c.self.invariant.1.all in
    omega (arith, c.requires)

pub returns : goal.returns
returns g c =
    let i = c.self.inside in
    rw (← c.self.view_is) (set_shown i.count i.first i.pattern.items i.blocks.items c.set.new.blocks.items i.pool.items c.set.new.pool.items c.args.place c.args.value
    c.set.ensures.there c.set.ensures.others)
