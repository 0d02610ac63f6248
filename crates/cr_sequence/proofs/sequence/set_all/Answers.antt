use Rattle.std.proofs.Common.{◌+◌, length, take, ap, set, ◌∙◌, arith}
use Rattle.cr_sequence.proofs.Writing.{written_at, length-overwritten}
use Rattle.cr_sequence.proofs.sequence.set_all.Goals as goal

pub set-requires : goal.set-requires
set-requires g c =
    let size = ap length c.loop-i.invariant in
    omega (arith, c.requires.within, length-overwritten c.args.items.now c.args.at (take c.loop-i.i c.args.more.now))

pub loop-i-preserved : goal.loop-i-preserved
loop-i-preserved g c =
    c.set.ensures ∙ ap (λ xs. set xs (c.args.at + c.loop-i.i) c.index-more-i.result) c.loop-i.invariant
    ∙ written_at c.args.items.now c.args.at c.args.more.now c.loop-i.i c.index-more-i.result (omega arith) c.index-more-i.is
