use Rattle.std.proofs.Common.{length, refl, sym, subst, arith}
use Rattle.std.proofs.lemmas.Option.{slice_get_read, slice_get_past}
use Rattle.cr_scopes_events.specs.Declarators.{IsDescent}
use Rattle.cr_scopes_events.proofs.Descents.{descends, ends}
use Rattle.cr_scopes_events.proofs.declarator.look_inside.Goals as goal

pub returns-then-at-nodes : goal.returns-then-at-nodes
returns-then-at-nodes c =
    subst (IsDescent c.args.nodes.now c.args.at) (sym c.step_by.ensures)
    (descends _ _ c.index-nodes-at.result (slice_get_read _ (length c.args.nodes.now) _ _ refl (omega (arith, c.if-at-nodes.true)) c.index-nodes-at.is))

pub returns-else-at-nodes : goal.returns-else-at-nodes
returns-else-at-nodes c = ends c.args.nodes.now c.args.at (slice_get_past c.args.nodes.now c.args.at (omega (arith, c.if-at-nodes.false)))
