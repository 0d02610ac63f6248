use Rattle.std.proofs.Common.{◌++◌, take, List}
use Rattle.cr_meaning_seen.specs.Marks.{Mark}
use Rattle.cr_exec_slices.specs.Turns.{turning}
use Rattle.cr_exec_slices.specs.Shown.{fresh_of}
use Rattle.cr_exec_slices.proofs.Keeping.{handed_on, before_shown, kept_shown, resume_goes, resume_ends}
use Rattle.cr_exec_slices.proofs.machine.resume.Goals as goal

pub returns-in_err-before-clause-turns : goal.returns-in_err-before-clause-turns
returns-in_err-before-clause-turns g c = λ waiting h e marks n.
    let now : List Mark → Type 0 = g.N.Nodes.has_seen c.before-2.new.self in
    let p = g.N.Nodes.program c.args.nodes.now in
    let s = g.N.Nodes.world c.args.nodes.now in
    let t = g.N.Nodes.world c.before-2.new.self in
    handed_on g.N.Nodes.shows now p (record { place = turning; waiting = waiting; world = (s, marks) }) c.args.stack.now t c.from_residual.result _ c.from_residual.ensures.1
    (resume_ends g.N.Nodes.shows now marks p c.args.stack.now waiting s t (take c.args.count waiting.top.done ++ fresh_of c.args.fresh) _ e
    (before_shown g.N.Nodes.shows p c.args.stack.now waiting c.node.result c.done.result.now s t _ h c.node.ensures c.done.ensures c.in_err-before.ensures.work) (c.in_err-before.ensures.seen marks n))

pub returns-clause-turns : goal.returns-clause-turns
returns-clause-turns g c = λ waiting h e marks n.
    let now : List Mark → Type 0 = g.N.Nodes.has_seen c.before-2.new.self in
    let p = g.N.Nodes.program c.args.nodes.now in
    let s = g.N.Nodes.world c.args.nodes.now in
    let t = g.N.Nodes.world c.before-2.new.self in
    resume_goes g.N.Nodes.shows now marks p c.args.stack.now c.fill.new.stack waiting s t c.args.count (fresh_of c.args.fresh) e
    (before_shown g.N.Nodes.shows p c.args.stack.now waiting c.node.result c.done.result.now s t _ h c.node.ensures c.done.ensures c.in_ok-before.ensures.work)
    (c.in-Ok.ensures _ (kept_shown g.N.Nodes.shows c.args.stack.now c.keep.new.self waiting c.args.count h c.keep.ensures)) (c.in_ok-before.ensures.seen marks n)
