use Rattle.std.proofs.Common.{◌∙◌, ap, sym}
use Rattle.std.specs.Prelude.{None, slice_index_or}
use Rattle.cr_order_watch.proofs.Listing.{listed_on, listed_off, if_ok_weaker}
use Rattle.cr_order_watch.proofs.opened.with_piece.Goals as goal

pub returns-in-Some : goal.returns-in-Some
returns-in-Some c = λ p done inner number events pieces is sum.
    let there = ap (λ n. slice_index_or c.args.outer.now n None) (sym is) ∙ sym c.in-Some.ensures in
    if_ok_weaker c.grown.result (λ all h. listed_on p c.args.outer.now all done number c.in-Some.field-0 inner events there h) (c.grown.ensures p _ inner number events pieces is sum)

pub returns-in-None : goal.returns-in-None
returns-in-None c = λ p done inner number events pieces is sum.
    listed_off p c.args.outer.now c.new.result done number inner events (ap (λ n. slice_index_or c.args.outer.now n None) (sym is) ∙ sym c.in-None.ensures) c.new.ensures
