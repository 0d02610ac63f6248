use Rattle.std.proofs.Common.{sym, ap, ◌∙◌, arith}
use Rattle.cr_core.specs.Row.{last_position}
use Rattle.cr_claims.specs.declared.view.View.{View}
use Rattle.cr_claims.proofs.Steps.{may_leave, last_position-settled}
use Rattle.cr_claims.proofs.seats.Claims.leave_as.Goals as goal

pub load-requires : goal.load-requires
load-requires g c =
    let claims = c.args.self.now in
    let pass = c.args.pass.now in (
      c.requires.of.0,
      omega (arith, claims.two_words.0),
      rw claims.about.0 (may_leave c.marks_move_nothing.ensures claims.len claims.table.shared.table_id.slots pass.seat.id pass.seat.me g.D.Done.done pass.in_force.1 c.requires.may),
    )

pub invariant_of-pass : goal.invariant_of-pass
invariant_of-pass g c =
    let pass = c.args.pass.now in
    let (view, slots) = c.load.ensures.2 in
    record {
      in_force = (slots ∙ pass.in_force.0, ap (λ (v : View). v.spent) view ∙ pass.in_force.1);
      last_is = pass.last_is ∙ sym (ap (λ (v : View). last_position v.own) view ∙ last_position-settled c.marks_move_nothing.ensures g.D.Done.done pass.seat.me.0.own);
    }
