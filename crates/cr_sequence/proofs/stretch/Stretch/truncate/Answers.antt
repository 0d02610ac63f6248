use Rattle.std.proofs.Common.{length, ap, sym, arith}
use Rattle.std.proofs.lemmas.List.{take_all}
use Rattle.cr_sequence.proofs.Showing.{length-shown, take_shown}
use Rattle.cr_sequence.proofs.stretch.Stretch.truncate.Goals as goal

pub returns-then-count-self : goal.returns-then-count-self
returns-then-count-self g c =
    let i = c.self.inside in
    rw (← c.self.view_is) (take_shown i.count i.first i.pattern.items i.blocks.items i.pool.items c.args.count (omega arith))

pub returns-else-count-self : goal.returns-else-count-self
returns-else-count-self g c =
    let i = c.self.inside in
    let n = length-shown i.count i.first i.pattern.items i.blocks.items i.pool.items in
    let v = ap length c.self.view_is in
    sym (take_all c.args.count _ (omega arith))
