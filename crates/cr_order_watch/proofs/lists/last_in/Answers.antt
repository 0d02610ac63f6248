use Rattle.std.proofs.Common.{sym, subst}
use Rattle.std.specs.Prelude.{List}
use Rattle.cr_meaning_loose.specs.Lists.{around, stands_in, last_in}
use Rattle.cr_order_watch.specs.Known.{ArePieces}
use Rattle.cr_order_watch.specs.declared.opened.Piece.{Piece}
use Rattle.cr_order_watch.proofs.Listing.{last_pieces, whole_rest}
use Rattle.cr_order_watch.proofs.lists.last_in.Goals as goal

pub returns : goal.returns
returns c = λ p forest h.
    let F : List Piece → Type 0 = λ l. ArePieces p l (last_in (around c.args.outer.now) c.args.list forest) in
    subst F (sym (whole_rest c.args.pieces.now c.start_of-from.result))
    (last_pieces p (stands_in (around c.args.outer.now) c.args.list) c.args.pieces.now forest c.start_of-from.result h c.start_of-from.ensures.hold c.start_of-from.ensures.before)
