use Rattle.std.proofs.Common.{arith}
use Rattle.cr_sequence.proofs.Parts.{set_done}
use Rattle.cr_sequence.proofs.sequence.set_behind.Goals as goal

pub set_at-requires-clause-place : goal.set_at-requires-clause-place
set_at-requires-clause-place g c = λ part is.
    let at = c.placed-number.ensures.place part is in
    let within = at.1.within in
    omega (arith, at.0)

pub returns : goal.returns
returns g c = set_done c.args.count c.args.flat.now.items c.args.parts.now.items c.set_at.new.parts.items c.args.index _ _ c.args.item c.requires.counted
    c.placed-number.ensures.number c.placed-number.ensures.place c.set_at.ensures
