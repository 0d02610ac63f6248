use Rattle.std.proofs.Common.{◌+◌, length, ap, set, ◌∙◌, arith}
use Rattle.cr_sequence.proofs.Parts.{filled_none, filled_more, length-filled}
use Rattle.cr_sequence.proofs.sequence.set_each.Goals as goal

pub loop-i-init : goal.loop-i-init
loop-i-init g c = filled_none c.args.items.now c.args.from c.args.value

pub loop-i-preserved : goal.loop-i-preserved
loop-i-preserved g c = c.set.ensures ∙ ap (λ xs. set xs (c.args.from + c.loop-i.i) c.args.value) c.loop-i.invariant ∙ filled_more c.args.items.now c.args.from c.loop-i.i c.args.value (omega (arith, c.requires.within))

pub set-requires : goal.set-requires
set-requires g c =
    let size = ap length c.loop-i.invariant in
    let n = length-filled c.args.items.now c.args.from c.loop-i.i c.args.value (omega (arith, c.requires.within)) in
    omega (arith, c.requires.within)
