use Rattle.std.proofs.Common.{refl, sym, ◌∙◌, List}
use Rattle.cr_meaning_seen.specs.Marks.{Mark}
use Rattle.cr_exec_slices.specs.Turns.{turning}
use Rattle.cr_exec_slices.proofs.Keeping.{handed_on, join_shown, join_goes, join_comes_to, join_ends, moved, left_at}
use Rattle.cr_exec_slices.proofs.machine.join.Goals as goal

pub returns-in_err-join-clause-turns : goal.returns-in_err-join-clause-turns
returns-in_err-join-clause-turns g c = λ waiting h e marks n.
    let now : List Mark → Type 0 = g.N.Nodes.has_seen c.join.new.self in
    let p = g.N.Nodes.program c.args.nodes.now in
    let s = g.N.Nodes.world c.args.nodes.now in
    let t = g.N.Nodes.world c.join.new.self in
    handed_on g.N.Nodes.shows now p (record { place = turning; waiting = waiting; world = (s, marks) }) c.join.new.stack t c.from_residual.result _ c.from_residual.ensures.1
    (join_ends g.N.Nodes.shows now marks p c.join.new.stack waiting s t _ c.join.new.stack.top.done e
    (join_shown g.N.Nodes.shows p c.args.stack.now waiting s t _ c.join.new.stack.top.done h c.in_err-join.ensures.work)
    (moved _ _ (λ some. c.in_err-join.ensures.cut marks n (λ e. absurd (cc e)) some)))

pub returns-then-hand_up-clause-turns : goal.returns-then-hand_up-clause-turns
returns-then-hand_up-clause-turns g c = λ waiting h e marks n.
    let now : List Mark → Type 0 = g.N.Nodes.has_seen c.join.new.self in
    let p = g.N.Nodes.program c.args.nodes.now in
    let s = g.N.Nodes.world c.args.nodes.now in
    let t = g.N.Nodes.world c.join.new.self in
    join_goes g.N.Nodes.shows now marks p c.args.stack.now c.join.new.stack c.hand_up.new.self waiting s t h c.in_ok-join.ensures.below c.if-hand_up.ensures.up e
    (join_shown g.N.Nodes.shows p c.args.stack.now waiting s t _ c.join.new.stack.top.done h c.in_ok-join.ensures.work)
    (left_at g.N.Nodes.shows now marks c.args.stack.now.top.node waiting.top.node c.join.new.stack.top.done h.top.node (λ kept answer is s. c.in_ok-join.ensures.ended marks kept answer n refl is s))

pub returns-else-hand_up-clause-turns : goal.returns-else-hand_up-clause-turns
returns-else-hand_up-clause-turns g c = λ waiting h e marks n.
    let now : List Mark → Type 0 = g.N.Nodes.has_seen c.join.new.self in
    let p = g.N.Nodes.program c.args.nodes.now in
    let s = g.N.Nodes.world c.args.nodes.now in
    let t = g.N.Nodes.world c.join.new.self in
    join_comes_to g.N.Nodes.shows now marks p c.args.stack.now c.join.new.stack c.hand_up.new.self waiting s t h
    (sym c.in_ok-join.ensures.below ∙ c.if-hand_up.ensures.up) e
    (join_shown g.N.Nodes.shows p c.args.stack.now waiting s t _ c.join.new.stack.top.done h c.in_ok-join.ensures.work) (c.if-hand_up.ensures.last refl)
    (left_at g.N.Nodes.shows now marks c.args.stack.now.top.node waiting.top.node c.join.new.stack.top.done h.top.node (λ kept answer is s. c.in_ok-join.ensures.ended marks kept answer n refl is s))
