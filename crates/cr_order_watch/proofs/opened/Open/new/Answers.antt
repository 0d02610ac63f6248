use Rattle.std.proofs.Common.{refl, ap, ◌∙◌}
use Rattle.cr_meaning.specs.World.{Program}
use Rattle.cr_meaning_loose.specs.Lists.{operands_at}
use Rattle.cr_order_watch.proofs.Opening.{begins}
use Rattle.cr_order_watch.proofs.opened.Open.new.Goals as goal

pub returns-clause-sums : goal.returns-clause-sums
returns-clause-sums c = λ p levels e asked. begins p _ c.args.node levels refl (c.operands_of.ensures ∙ ap (λ (q : Program). operands_at q c.args.node) e) refl asked refl refl c.none.ensures
