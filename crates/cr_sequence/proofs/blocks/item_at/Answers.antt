use Rattle.std.proofs.Common.{◌≡◌, ◌/◌, Some, None, get_or, arith, sym, ◌∙◌}
use Rattle.std.proofs.lemmas.List.{get_or_read}
use Rattle.cr_sequence.proofs.blocks.item_at.Goals as goal

pub index-requires-in-Some : goal.index-requires-in-Some
index-requires-in-Some g c =
    let blocks = c.args.blocks.now.items in
    let block = c.args.place / 256 in
    let read = get_or_read blocks block _ c.requires.within c.index.ensures None in
    let e : get_or blocks block None ≡ Some c.in-Some.number = sym read ∙ c.in-Some.is in
    let h = c.requires.kept.below block c.in-Some.number e in
    omega arith
