use Rattle.std.proofs.Common.{◌≡◌, ℕ, sym, ap, ◌∙◌, arith}
use Rattle.cr_core.specs.Row.{word, last_position}
use Rattle.cr_claims.specs.declared.view.View.{View}
use Rattle.cr_claims.proofs.Steps.{may_hit, last_position-hit}
use Rattle.cr_claims.proofs.seats.Claims.hit.Goals as goal

pub fetch_min-requires : goal.fetch_min-requires
fetch_min-requires c =
    let claims = c.args.self.now in
    let pass = c.args.pass.now in
    let is : c.word_of-hit.result ≡ word (last_position pass.seat.me.0.own) c.args.kind =
    c.word_of-hit.ensures ∙ ap (λ (p : ℕ). word p c.args.kind) pass.last_is in (
      c.requires.of.0,
      omega (arith, claims.two_words.0),
      rw claims.about.0 (may_hit c.marks_move_nothing.ensures claims.len claims.table.shared.table_id.slots pass.seat.id pass.seat.me c.args.kind c.word_of-hit.result pass.in_force.1 c.requires.may is),
    )

pub invariant_of-pass : goal.invariant_of-pass
invariant_of-pass c =
    let pass = c.args.pass.now in
    let (view, slots, _) = c.fetch_min.ensures.2 in
    record {
      in_force = (slots ∙ pass.in_force.0, ap (λ (v : View). v.spent) view ∙ pass.in_force.1);
      last_is = pass.last_is ∙ sym (ap (λ (v : View). last_position v.own) view ∙ last_position-hit c.marks_move_nothing.ensures c.word_of-hit.result pass.seat.me.0.own);
    }
