use Rattle.std.proofs.Common.{subst, sym, ap, ◌∙◌, arith}
use Rattle.cr_core.specs.declared.marks.Mark.TheVariants.{Open}
use Rattle.cr_core.specs.Row.{Row, last_position, IsLast}
use Rattle.cr_core.specs.Machine.{settled}
use Rattle.cr_claims.specs.declared.view.View.{View}
use Rattle.cr_claims.proofs.Steps.{may_claim, claimed-last}
use Rattle.cr_claims.proofs.seats.Claims.claim_as.Goals as goal

pub fetch_add-position-requires : goal.fetch_add-position-requires
fetch_add-position-requires g c =
    let claims = c.args.self.now in
    let pass = c.args.pass.now in (
      c.requires.of.0,
      omega (arith, claims.two_words.0),
      rw claims.about.0 (may_claim claims.len claims.table.shared.table_id.slots pass.seat.id pass.seat.me g.D.Done.done pass.in_force.1 c.requires.in_force c.requires.may),
    )

pub invariant_of-pass : goal.invariant_of-pass
invariant_of-pass g c =
    let pass = c.args.pass.now in
    let (view, slots, _) = c.fetch_add-position.ensures.2 in
    record {
      in_force = (slots ∙ pass.in_force.0, ap (λ (v : View). v.spent) view ∙ pass.in_force.1);
      last_is = sym (ap (λ (v : View). last_position v.own) view ∙ (c.a_new_entry_is_last.ensures (settled g.D.Done.done pass.seat.me.0.own) _).1);
    }

pub returns-clause-last : goal.returns-clause-last
returns-clause-last g c =
    let P : Row → Type 0 = λ l. IsLast l (record { position = c.fetch_add-position.result; mark = Open }) in
    let (view, _, _) = c.fetch_add-position.ensures.2 in
    subst P (sym (ap (λ (v : View). v.own) view)) (claimed-last c.a_new_entry_is_last.ensures c.fetch_add-position.result g.D.Done.done c.args.pass.now.seat.me.0.own)
