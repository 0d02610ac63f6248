use Rattle.std.proofs.Common.{sym, ◌∙◌}
use Rattle.cr_order_watch.proofs.Stacking.{asked_so, asked_none}
use Rattle.cr_order_watch.proofs.levels.is_asked.Goals as goal

pub returns-in-Some : goal.returns-in-Some
returns-in-Some c = λ p lists levels others. c.either.ensures ∙ asked_so p lists c.args.nodes.now levels c.in-Some.top.now others (sym c.in-Some.ensures.value)

pub returns-in-None : goal.returns-in-None
returns-in-None c = λ p lists levels others. asked_none p lists c.args.nodes.now levels others c.in-None.ensures.value
