use Rattle.cr_meaning.specs.Nodes.{events_of}
use Rattle.cr_exec.proofs.Dispatching.{nothing_for}
use Rattle.cr_exec.proofs.watch.end.Goals as goal

pub returns-in_default : goal.returns-in_default
returns-in_default g c = λ p marks answer known shown.
    c.end-in_default.ensures p marks (events_of answer) known (nothing_for c.args.held.now answer c.none-nothing.result shown c.in_default.not-Part c.none-nothing.ensures)
