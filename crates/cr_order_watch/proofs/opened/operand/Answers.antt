use Rattle.std.proofs.Common.{refl, sym, subst}
use Rattle.std.specs.Prelude.{List, Some}
use Rattle.cr_meaning_seen.specs.Seen.{bare, node as tree, onto}
use Rattle.cr_order_watch.proofs.Listing.{owner_so, with_pieces, room_before}
use Rattle.cr_order_watch.specs.Known.{ArePieces}
use Rattle.cr_order_watch.specs.declared.opened.Piece.{Piece}
use Rattle.cr_meaning_loose.specs.Lists.{around, is_listed, last_of}
use Rattle.cr_order_watch.proofs.opened.operand.Goals as goal

pub returns-in-Ok-one_more : goal.returns-in-Ok-one_more
returns-in-Ok-one_more c = λ p level levels number inner events e it pieces is sum.
    c.with_list.ensures p level levels number inner events e
    (owner_so p (around c.args.outer.now) c.args.below c.in-Ok-one_more.owner level levels number inner events it c.requires
    (c.in-Ok-one_more.ensures.sums p level levels number inner events (with_pieces p c.args.below _ level levels it (record { node = refl; operands = refl; ended = refl; asked = refl; fixed = refl; loud = refl; foot = refl })) sum)
    (let F : List Piece → Type 0 = λ l. ArePieces p l (last_of (is_listed (around c.args.outer.now)) (onto level.done (tree number inner (Some events) bare))) in subst F (sym c.in-Ok-one_more.ensures.pieces) (c.in-Ok.ensures p level.done inner number events (pieces (room_before p c.args.below level levels it c.requires)) is sum)))
    is
