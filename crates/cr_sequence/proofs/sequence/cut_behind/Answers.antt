use Rattle.std.proofs.Common.{arith}
use Rattle.std.proofs.lemmas.List.{length-take-le}
use Rattle.cr_sequence.proofs.Parts.{cut_flat, cut_last}
use Rattle.cr_sequence.proofs.sequence.cut_behind.Goals as goal

pub start_at-start-requires : goal.start_at-start-requires
start_at-start-requires g c =
    let n = length-take-le c.parts_before-kept.result c.args.parts.now.items c.parts_before-kept.ensures.within in
    rw c.truncate.ensures.items (omega arith)

pub cut_at-requires : goal.cut_at-requires
cut_at-requires g c =
    let n = length-take-le c.parts_before-kept.result c.args.parts.now.items c.parts_before-kept.ensures.within in
    rw c.truncate.ensures.items (omega arith)

pub returns-then-kept-eq0 : goal.returns-then-kept-eq0
returns-then-kept-eq0 g c =
    rw (c.truncate.ensures.items, c.cut_items.ensures)
    (cut_flat c.args.count c.args.size c.parts_before-kept.result c.args.flat.now.items c.args.parts.now.items c.requires.counted c.parts_before-kept.ensures.within c.requires.less
    c.parts_before-kept.ensures.behind (omega arith))

pub returns-else-kept-eq0 : goal.returns-else-kept-eq0
returns-else-kept-eq0 g c =
    cut_last c.args.count c.args.size c.parts_before-kept.result c.start_at-start.result c.saturating_sub.result c.args.flat.now.items c.args.parts.now.items c.cut_at.new.parts.items
    c.requires.counted c.parts_before-kept.ensures.within c.requires.less c.parts_before-kept.ensures.behind (omega arith) c.parts_before-kept.ensures.before
    (rw c.truncate.ensures.items at c.start_at-start.ensures) c.saturating_sub.ensures (rw c.truncate.ensures.items at c.cut_at.ensures)
