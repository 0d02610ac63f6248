use Rattle.std.proofs.Common.{arith}
use Rattle.cr_sequence.proofs.Parts.{part_read}
use Rattle.cr_sequence.proofs.sequence.get_behind.Goals as goal

pub get_at-requires-clause-place : goal.get_at-requires-clause-place
get_at-requires-clause-place g c = λ part is.
    let at = c.placed-number.ensures.place part is in
    let within = at.1.within in
    omega (arith, at.0)

pub returns : goal.returns
returns g c = part_read c.args.flat.now.items c.args.parts.now.items c.args.index _ _ _ c.placed-number.ensures.number c.placed-number.ensures.place c.get_at.ensures
