use Rattle.std.proofs.Common.{◌≡◌, ℕ, ◌≤◌, List, [], ◌∷◌, ◌++◌, length, take, drop, reverse, sym, ◌∙◌, ap, subst, arith}
use Rattle.std.proofs.lemmas.List.{take-take, take-append-drop, drop-append-le, reverse-append, length-take}
use Rattle.cr_exec_stack.specs.declared.stack.Frame.{Frame}
use Rattle.cr_exec_stack.specs.Marks.{pendings, AreFalling, AreMarked}
use Rattle.cr_exec_stack.specs.Waiting.{handed}
use Rattle.cr_exec_stack.proofs.stack.Stack.hand_up.Goals as goal

-- the answers from a mark on are those up to a later one, and those from it on
from_mark : {T : Type 0} (first mark : ℕ) (answers : List T) → first ≤ mark → mark ≤ length answers
    → drop first (take mark answers) ++ drop mark answers ≡ drop first answers
from_mark first mark answers before within =
    sym (drop-append-le first (take mark answers) (drop mark answers) (omega (arith, length-take mark answers, before, within)))
    ∙ ap (drop first) (take-append-drop mark answers)

handed_to : {T : Type 0} (mark : ℕ) (frames rest : List Frame) (frame : Frame) (answers : List T) → frames ≡ rest ++ frame ∷ [] → AreMarked mark frames answers
    → handed (drop mark answers) (pendings (reverse frames) (take mark answers))
    ≡ record { node = frame.node; done = drop frame.mark answers } ∷ pendings (reverse rest) (take frame.mark answers)
handed_to {T} mark frames rest frame answers is marked =
    let e : reverse frames ≡ frame ∷ reverse rest = ap reverse is ∙ reverse-append rest (frame ∷ []) in
    let P : List Frame → Type 0 = λ fs. AreFalling mark fs in
    let falling : AreFalling mark (frame ∷ reverse rest) = subst P e marked.falling in
    ap (λ (fs : List Frame). handed (drop mark answers) (pendings fs (take mark answers))) e
    ∙ (λ i. record { node = frame.node; done = from_mark frame.mark mark answers falling.0 marked.within i }
    ∷ pendings (reverse rest) (take-take frame.mark mark answers falling.0 i))

pub returns-in-Some-clause-up : goal.returns-in-Some-clause-up
returns-in-Some-clause-up g c =
    let inside = c.self.inside in
    rw (← c.self.view_is) (handed_to inside.mark inside.frames.items c.pop.new.self.items c.in-Some.frame inside.answers.items c.in-Some.ensures.items c.self.invariant)
