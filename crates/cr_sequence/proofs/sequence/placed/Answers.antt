use Rattle.std.proofs.Common.{arith}
use Rattle.cr_sequence.proofs.Parts.{placed, some_part}
use Rattle.cr_sequence.proofs.sequence.placed.Goals as goal

pub part_of-number-requires-clause-some : goal.part_of-number-requires-clause-some
part_of-number-requires-clause-some g c =
    (some_part c.args.count c.args.flat.now.items c.args.parts.now.items c.args.index c.requires.counted c.requires.within c.requires.behind).0

pub part_of-number-requires-clause-first : goal.part_of-number-requires-clause-first
part_of-number-requires-clause-first g c =
    (some_part c.args.count c.args.flat.now.items c.args.parts.now.items c.args.index c.requires.counted c.requires.within c.requires.behind).1

pub returns-clause-place : goal.returns-clause-place
returns-clause-place g c = λ part is.
    let at = placed c.args.count c.args.flat.now.items c.args.parts.now.items c.args.index c.part_of-number.result part c.requires.counted c.part_of-number.ensures c.requires.within is in
    let from = at.from in
    let start = c.start_at-start.ensures part is in
    (omega (arith, c.saturating_sub.ensures), at)
