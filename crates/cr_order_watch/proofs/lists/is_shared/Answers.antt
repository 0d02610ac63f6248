use Rattle.std.proofs.Common.{◌≡◌, ◌∙◌, ap, sym, subst}
use Rattle.std.specs.Prelude.{◌+◌, ◌-◌, ◌<◌, List, Some, length, slice_get}
use Rattle.std.proofs.lemmas.Bool.{eqb-true}
use Rattle.cr_meaning.specs.World.{Program}
use Rattle.cr_meaning_loose.specs.Lists.{around, stands_in, goes_on}
use Rattle.cr_order_watch.specs.Known.{stands_at}
use Rattle.cr_order_watch.specs.declared.opened.Piece.{Piece}
use Rattle.cr_order_watch.proofs.Listing.{shared_goes, shared_none, shared_by_last, not_empty}
use Rattle.cr_order_watch.proofs.lists.is_shared.Goals as goal

pub returns-then-goes_on : goal.returns-then-goes_on
returns-then-goes_on c = λ p level levels number inner e it pieces stands.
    shared_goes p (around c.args.outer.now) c.args.owner.now level levels number inner it pieces c.requires c.args.list stands
    (sym (ap (λ (q : Program). goes_on q (around c.args.outer.now) c.args.owner.now.node (c.args.owner.now.ended + 1) c.args.list) e) ∙ sym c.goes_on.ensures ∙ c.if-goes_on.true)

pub returns-then-is_empty : goal.returns-then-is_empty
returns-then-is_empty c = λ p level levels number inner e it pieces stands.
    let none = eqb-true (length c.as_slice-pieces.result.now) 0 (sym c.is_empty.ensures ∙ c.if-is_empty.true) in
    shared_none p (around c.args.outer.now) c.args.owner.now level levels number inner it pieces c.requires c.args.list stands
    (sym (ap (λ (q : Program). goes_on q (around c.args.outer.now) c.args.owner.now.node (c.args.owner.now.ended + 1) c.args.list) e) ∙ sym c.goes_on.ensures ∙ c.if-goes_on.false)
    (ap (λ (l : List Piece). length l) (sym c.as_slice-pieces.ensures) ∙ none)

pub returns : goal.returns
returns c = λ p level levels number inner e it pieces stands.
    let some = not_empty c.as_slice-pieces.result.now c.is_empty.result c.is_empty.ensures c.if-is_empty.false in
    let F : List Piece → Type 0 = λ l. (piece : Piece) → slice_get l (length l - 1) ≡ Some piece → c.stands_at.result ≡ stands_in (around c.args.outer.now) c.args.list piece.node in
    let G : List Piece → Type 0 = λ l. 0 < length l in
    shared_by_last p (around c.args.outer.now) c.args.owner.now level levels number inner it pieces c.requires c.args.list stands c.stands_at.result
    (sym (ap (λ (q : Program). goes_on q (around c.args.outer.now) c.args.owner.now.node (c.args.owner.now.ended + 1) c.args.list) e) ∙ sym c.goes_on.ensures ∙ c.if-goes_on.false)
    (subst G c.as_slice-pieces.ensures some) (subst F c.as_slice-pieces.ensures (λ piece is. c.stands_at.ensures ∙ ap (stands_at (around c.args.outer.now) c.args.list) is))
