use Rattle.std.proofs.Common.{ap, ◌∙◌}
use Rattle.std.specs.Prelude.{not}
use Rattle.cr_order_watch.proofs.Opening.{noisy_len}
use Rattle.cr_order_watch.proofs.opened.has_side_effect.Goals as goal

pub returns : goal.returns
returns c = λ events foot. ap not c.is_empty.ensures ∙ noisy_len c.args.own.now events c.writes-written.result.now foot c.writes-written.ensures.cells
