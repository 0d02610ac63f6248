use Rattle.std.proofs.Common.{List}
use Rattle.cr_meaning_seen.specs.Marks.{Mark}
use Rattle.cr_exec_slices.specs.Turns.{reaching}
use Rattle.cr_exec_slices.proofs.Keeping.{handed_on, reach_goes, reach_ends, moved}
use Rattle.cr_exec_slices.proofs.machine.reach.Goals as goal

pub returns-in_err-reach-clause-turns : goal.returns-in_err-reach-clause-turns
returns-in_err-reach-clause-turns g c = λ waiting h marks n.
    let now : List Mark → Type 0 = g.N.Nodes.has_seen c.reach.new.self in
    let p = g.N.Nodes.program c.args.nodes.now in
    let s = g.N.Nodes.world c.args.nodes.now in
    let t = g.N.Nodes.world c.reach.new.self in
    handed_on g.N.Nodes.shows now p (record { place = reaching c.args.node; waiting = waiting; world = (s, marks) }) c.args.stack.now t c.from_residual.result _ c.from_residual.ensures.1
    (reach_ends g.N.Nodes.shows now marks p c.args.stack.now waiting s t c.args.node _ c.in_err-reach.ensures.work
    (moved _ _ (λ some. c.in_err-reach.ensures.seen marks n some)))

pub returns-clause-turns : goal.returns-clause-turns
returns-clause-turns g c = λ waiting h marks n.
    let now : List Mark → Type 0 = g.N.Nodes.has_seen c.reach.new.self in
    reach_goes g.N.Nodes.shows now marks (g.N.Nodes.program c.args.nodes.now) c.args.stack.now c.begin.new.self waiting (g.N.Nodes.world c.args.nodes.now)
    (g.N.Nodes.world c.reach.new.self) c.args.node h c.in_ok-reach.ensures.work c.in-Ok.ensures
    (c.in_ok-reach.ensures.seen marks n (λ e. absurd (cc e)))
