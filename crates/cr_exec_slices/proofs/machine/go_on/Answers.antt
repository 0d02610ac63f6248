use Rattle.std.proofs.Common.{List}
use Rattle.cr_meaning_seen.specs.Marks.{Mark}
use Rattle.cr_exec_slices.proofs.Keeping.{operand_goes, way_shown}
use Rattle.cr_exec_slices.proofs.machine.go_on.Goals as goal

pub returns-in-Operand-clause-turns : goal.returns-in-Operand-clause-turns
returns-in-Operand-clause-turns g c = λ waiting h marks n.
    let now : List Mark → Type 0 = g.N.Nodes.has_seen c.args.nodes.now in
    let p = g.N.Nodes.program c.args.nodes.now in
    operand_goes g.N.Nodes.shows now marks p c.args.stack.now waiting (g.N.Nodes.world c.args.nodes.now) c.in-Operand.part h
    (way_shown g.N.Nodes.shows p c.args.stack.now waiting c.node.result c.done.result.now c.next.result _ h c.node.ensures c.done.ensures (λ answers z. c.next.ensures answers z (λ e. cc (e, c.in-Operand.is))) c.in-Operand.is) n

pub returns-in-Enter-clause-turns : goal.returns-in-Enter-clause-turns
returns-in-Enter-clause-turns g c = λ waiting h marks n.
    c.enter.ensures.turns waiting h
    (way_shown g.N.Nodes.shows (g.N.Nodes.program c.args.nodes.now) c.args.stack.now waiting c.node.result c.done.result.now c.next.result _ h c.node.ensures c.done.ensures (λ answers z. c.next.ensures answers z (λ e. cc (e, c.in-Enter.is))) c.in-Enter.is) marks n

pub returns-in-Resume-clause-turns : goal.returns-in-Resume-clause-turns
returns-in-Resume-clause-turns g c = λ waiting h marks n.
    c.resume.ensures.turns waiting h
    (way_shown g.N.Nodes.shows (g.N.Nodes.program c.args.nodes.now) c.args.stack.now waiting c.node.result c.done.result.now c.next.result _ h c.node.ensures c.done.ensures (λ answers z. c.next.ensures answers z (λ e. cc (e, c.in-Resume.is))) c.in-Resume.is) marks n

pub returns-in-Ready-clause-turns : goal.returns-in-Ready-clause-turns
returns-in-Ready-clause-turns g c = λ waiting h marks n.
    c.join.ensures.turns waiting h
    (way_shown g.N.Nodes.shows (g.N.Nodes.program c.args.nodes.now) c.args.stack.now waiting c.node.result c.done.result.now c.next.result _ h c.node.ensures c.done.ensures (λ answers z. c.next.ensures answers z (λ e. cc (e, c.in-Ready.is))) c.in-Ready.is) marks n
