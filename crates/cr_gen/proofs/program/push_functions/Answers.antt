use Rattle.std.proofs.Common.{refl, sym, ◌∙◌, ap}
use Rattle.std.proofs.lemmas.List.{append-nil}
use Rattle.cr_gen.specs.Program.{next_state, state_after, item_text, function_at}
use Rattle.cr_gen.proofs.Items.{items_appended, state_after-item}
use Rattle.cr_gen.proofs.program.push_functions.Goals as goal

pub loop-item-init : goal.loop-item-init
unfolding state_after
loop-item-init c = (refl, sym (append-nil _))

pub loop-item-preserved : goal.loop-item-preserved
loop-item-preserved c = (
  c.push_item.ensures.drawn
      ∙ ap (λ x. next_state (next_state x)) c.loop-item.invariant.0
      ∙ sym (state_after-item c.args.number c.loop-item.item),
  items_appended (item_text c.args.number) c.loop-item.item _ _ _ _ c.loop-item.invariant.1
      c.in_ok-push_item.ensures.appended
      (ap (function_at c.loop-item.item) c.loop-item.invariant.0),
)
