use Rattle.std.proofs.Common.{◌∙◌, ap, sym, subst}
use Rattle.std.specs.Prelude.{List, Some}
use Rattle.cr_meaning.specs.World.{Program}
use Rattle.cr_meaning_loose.specs.Lists.{around, goes_on, last_in}
use Rattle.cr_meaning_seen.specs.Seen.{bare, node as tree, onto}
use Rattle.cr_order_watch.specs.Known.{ArePieces}
use Rattle.cr_order_watch.specs.declared.opened.Piece.{Piece}
use Rattle.cr_order_watch.proofs.Listing.{fine_goes, in_owner, decided, if_ok_weaker}
use Rattle.cr_order_watch.proofs.lists.is_fine.Goals as goal

pub returns-then-goes_on : goal.returns-then-goes_on
returns-then-goes_on c = λ p level levels number inner events e it.
    fine_goes p (around c.args.outer.now) c.args.owner.now level levels number inner events it c.args.list
    (sym (ap (λ (q : Program). goes_on q (around c.args.outer.now) c.args.owner.now.node c.args.owner.now.ended c.args.list) e) ∙ sym c.goes_on.ensures ∙ c.if-goes_on.true)

pub returns : goal.returns
returns c = λ p level levels number inner events e it.
    let lists = around c.args.outer.now in
    let some = in_owner p lists c.args.owner.now level levels number inner events it c.args.list c.last_in.result.now (λ q forest h. c.last_in.ensures q forest (let F : List Piece → Type 0 = λ l. ArePieces q l forest in subst F (sym c.as_slice.ensures) h)) in
    if_ok_weaker c.are_apart.result
    (λ fixed f. decided p lists c.args.owner.now level levels number inner events it c.args.list fixed
    (sym (ap (λ (q : Program). goes_on q lists c.args.owner.now.node c.args.owner.now.ended c.args.list) e) ∙ sym c.goes_on.ensures ∙ c.if-goes_on.false) f)
    (c.are_apart.ensures p (last_in lists c.args.list (onto level.done (tree number inner (Some events) bare))) some)
