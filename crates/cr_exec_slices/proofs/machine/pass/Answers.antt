use Rattle.cr_exec_slices.proofs.Keeping.{none_more, one_passed}
use Rattle.cr_exec_slices.proofs.machine.pass.Goals as goal

pub loop-init : goal.loop-init
loop-init g c = λ waiting h. none_more g.N.Nodes.shows c.args.stack.now waiting h

pub loop-preserved : goal.loop-preserved
loop-preserved g c = λ waiting h.
    one_passed g.N.Nodes.shows c.loop.stack c.give.new.self waiting c.loop.counter c.passed.result (c.loop.invariant waiting h) c.passed.ensures c.in_ok-give.ensures.given
