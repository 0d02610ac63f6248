use Rattle.std.proofs.Common.{refl}
use Rattle.cr_gen.specs.Program.{call_text}
use Rattle.cr_gen.proofs.Items.{items_appended}
use Rattle.cr_gen.proofs.program.push_calls.Goals as goal

pub loop-item-preserved : goal.loop-item-preserved
loop-item-preserved c =
    items_appended call_text c.loop-item.item _ _ _ _ c.loop-item.invariant c.in_ok-push_call.ensures refl
