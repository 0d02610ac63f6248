use Rattle.std.proofs.Common.{[], ◌∷◌}
use Rattle.cr_meaning.specs.World.{next}
use Rattle.cr_meaning.specs.Turns.{absent}
use Rattle.cr_exec_stack.specs.Waiting.{with_more}
use Rattle.cr_exec_slices.proofs.Keeping.{none_more, one_more, all_passed, on_ok}
use Rattle.cr_exec_slices.proofs.machine.fill.Goals as goal

pub returns-in-Nothing : goal.returns-in-Nothing
returns-in-Nothing g c = rw c.in-Nothing.is (λ waiting h. none_more g.N.Nodes.shows c.args.stack.now waiting h)

pub returns-in-Absent : goal.returns-in-Absent
returns-in-Absent g c = rw c.in-Absent.is (λ waiting h. on_ok c.give.result
    (λ given. one_more g.N.Nodes.shows c.args.stack.now c.give.new.self waiting [] c.absent.result absent (none_more g.N.Nodes.shows c.args.stack.now waiting h) c.absent.ensures given)
    c.give.ensures.given)

pub returns-in_ok-give-in-Before : goal.returns-in_ok-give-in-Before
returns-in_ok-give-in-Before g c = rw c.in-Before.is (λ waiting h. on_ok c.pass.result
    (λ passed. all_passed g.N.Nodes.shows c.pass.new.stack waiting c.in-Before.item passed)
    (c.pass.ensures (with_more waiting (next ∷ []))
    (one_more g.N.Nodes.shows c.args.stack.now c.give-in-Before.new.self waiting [] c.passed.result next (none_more g.N.Nodes.shows c.args.stack.now waiting h) c.passed.ensures c.in_ok-give-in-Before.ensures.given)))
