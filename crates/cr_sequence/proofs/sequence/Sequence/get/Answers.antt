use Rattle.std.proofs.Common.{length, ap, arith}
use Rattle.cr_sequence.proofs.Parts.{flat_read}
use Rattle.cr_sequence.proofs.sequence.Sequence.get.Goals as goal

pub get_behind-requires-clause-within : goal.get_behind-requires-clause-within
get_behind-requires-clause-within g c =
    let counted = c.self.invariant.counted in
    let view = ap length c.self.view_is in
    omega (arith, c.requires)

pub returns-then-index-plain : goal.returns-then-index-plain
returns-then-index-plain g c =
    let i = c.self.inside in
    rw (← c.self.view_is) (flat_read i.flat.items i.parts.items c.args.index _ (omega arith) c.index.ensures)

pub returns-else-index-plain : goal.returns-else-index-plain
returns-else-index-plain g c = rw (← c.self.view_is) c.get_behind.ensures
