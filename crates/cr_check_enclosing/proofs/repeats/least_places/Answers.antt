use Rattle.std.proofs.Common.{◌&&◌, ◌||◌, ℕ, nat_lt, sym, ap, ◌∙◌}
use Rattle.cr_check_enclosing.specs.Repeats.{has_before, is_mark, mark_in, place_of}
use Rattle.cr_check_enclosing.proofs.Earlier.{one_before}
use Rattle.cr_check_enclosing.proofs.repeats.least_places.Goals as goal

pub loop-at-preserved : goal.loop-at-preserved
loop-at-preserved g c = λ q token.
    c.in_ok-note.ensures q token
    ∙ ap (λ b. b || (nat_lt c.first_token_at.result token && is_mark g.K.PartialEq.eq q c.entry_at.result)) (c.loop-at.invariant q token)
    ∙ ap (λ (p : ℕ). has_before g.K.PartialEq.eq (mark_in c.args.marks.now) (place_of c.args.nodes.now) c.loop-at.at token q
    || (nat_lt p token && is_mark g.K.PartialEq.eq q c.entry_at.result)) c.first_token_at.ensures
    ∙ ap (λ mark. has_before g.K.PartialEq.eq (mark_in c.args.marks.now) (place_of c.args.nodes.now) c.loop-at.at token q
    || (nat_lt (place_of c.args.nodes.now c.loop-at.at) token && is_mark g.K.PartialEq.eq q mark)) c.entry_at.ensures
    ∙ sym (one_before g.K.PartialEq.eq (mark_in c.args.marks.now) (place_of c.args.nodes.now) c.loop-at.at token q)
