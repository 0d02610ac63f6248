use Rattle.std.proofs.Common.{ap, ◌∙◌}
use Rattle.std.specs.Prelude.{◌||◌, slice_get}
use Rattle.cr_meaning.specs.World.{Program}
use Rattle.cr_meaning_loose.specs.Sums.{is_noisy_op}
use Rattle.cr_order_watch.proofs.Opening.{sums_up}
use Rattle.cr_order_watch.proofs.opened.summed.Goals as goal

pub returns-in-Ok : goal.returns-in-Ok
returns-in-Ok c = λ p level below events e h fixed asked foot. (
  h.node,
  sums_up p c.args.top level below c.args.own.now c.in-Ok.foot events c.is_noisy-noisy.result c.has_side_effect-effect.result c.either-loud.result h fixed asked foot
      (c.is_noisy-noisy.ensures ∙ ap (λ (q : Program). is_noisy_op (slice_get q.ops c.args.top.node)) e) (c.has_side_effect-effect.ensures events foot)
      (c.either-loud.ensures ∙ ap (λ b. b || c.has_side_effect-effect.result) c.either-before.ensures) c.in-Ok.ensures.reads c.in-Ok.ensures.writes,
)
