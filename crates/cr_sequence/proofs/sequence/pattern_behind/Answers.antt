use Rattle.std.proofs.Common.{arith}
use Rattle.cr_sequence.proofs.Parts.{there, whole_stretch}
use Rattle.cr_sequence.proofs.sequence.pattern_behind.Goals as goal

pub returns-then-whole : goal.returns-then-whole
returns-then-whole g c =
    let part = there c.args.parts.now.items c.placed-number.result.0 c.placed-number.ensures.number in
    rw (whole_stretch c.args.count c.args.flat.now.items c.args.parts.now.items c.args.from c.args.size _ _ c.requires.counted
    c.placed-number.ensures.number c.placed-number.ensures.place (omega arith) (c.has_stretch-whole.ensures c.if-whole.true) part.0 part.1)
    (c.pattern_at.ensures part.0 part.1)
