use Rattle.std.proofs.Common.{ℕ, false, length, ap, ◌∙◌}
use Rattle.std.specs.HashMap.{get}
use Rattle.cr_check_enclosing.specs.Repeats.{has_before, has_mark, is_below, mark_in, place_of, repeats_at}
use Rattle.cr_rows.proofs.Columns.{one_more}
use Rattle.cr_check_enclosing.proofs.Earlier.{same_mark}
use Rattle.cr_check_enclosing.proofs.repeats.repeated.Goals as goal

pub loop-at-preserved : goal.loop-at-preserved
loop-at-preserved g c =
    rw c.in_ok-push.ensures.items (one_more (repeats_at g.K.PartialEq.eq (mark_in c.args.marks.now) (place_of c.args.nodes.now) (length c.args.marks.now))
    false _ c.loop-at.at _ c.loop-at.invariant
    (c.is_behind.ensures
    ∙ same_mark (λ q. is_below (get g.K.PartialEq.eq c.in_ok-least.least q) c.first_token_at.result)
    (has_before g.K.PartialEq.eq (mark_in c.args.marks.now) (place_of c.args.nodes.now) (length c.args.marks.now) c.first_token_at.result) c.entry_at-mark.result
    (λ q. c.in_ok-least.ensures q c.first_token_at.result)
    ∙ ap (λ (p : ℕ). has_mark (has_before g.K.PartialEq.eq (mark_in c.args.marks.now) (place_of c.args.nodes.now) (length c.args.marks.now) p) c.entry_at-mark.result)
    c.first_token_at.ensures
    ∙ ap (has_mark (has_before g.K.PartialEq.eq (mark_in c.args.marks.now) (place_of c.args.nodes.now) (length c.args.marks.now) (place_of c.args.nodes.now c.loop-at.at)))
    c.entry_at-mark.ensures))
