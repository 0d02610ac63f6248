use Rattle.std.proofs.Common.{length, ap, arith}
use Rattle.cr_sequence.proofs.Parts.{flat_set}
use Rattle.cr_sequence.proofs.sequence.Sequence.set.Goals as goal

pub set_behind-requires-clause-within : goal.set_behind-requires-clause-within
set_behind-requires-clause-within g c =
    let counted = c.self.invariant.counted in
    let view = ap length c.self.view_is in
    omega (arith, c.requires)

pub returns-then-index-plain : goal.returns-then-index-plain
returns-then-index-plain g c =
    let i = c.self.inside in
    rw (← c.self.view_is) (flat_set i.count i.flat.items i.parts.items c.args.index c.args.item c.self.invariant (omega arith)).shown

pub returns-else-index-plain : goal.returns-else-index-plain
returns-else-index-plain g c = rw (← c.self.view_is) c.set_behind.ensures.shown

pub invariant_of-self : goal.invariant_of-self
invariant_of-self g c =
    let i = c.self.inside in
    (flat_set i.count i.flat.items i.parts.items c.args.index c.args.item c.self.invariant (omega arith)).counted

pub invariant_of-self-else-index-plain : goal.invariant_of-self-else-index-plain
invariant_of-self-else-index-plain g c = c.set_behind.ensures.counted
