use Rattle.std.proofs.Common.{ap, ◌∙◌}
use Rattle.std.proofs.lemmas.Int.{to_z-of_z}
use Rattle.std.specs.Int.{w128}
use Rattle.cr_memory.specs.Pointers.{shift_of}
use Rattle.cr_memory.proofs.View.{pointer_seen}
use Rattle.cr_memory.proofs.Comparing.{shift_by-is, shift_by-pointer}
use Rattle.cr_memory.proofs.store.Store.shift.Goals as goal

pub returns-clause-value : goal.returns-clause-value
returns-clause-value c =
    let i = c.self.inside in
    let e = rw (to_z-of_z w128 c.args.by c.ranges.by) at c.shift.ensures in
    e ∙ shift_by-is i.most i.spans i.cells i.shape c.args.at c.args.by
    ∙ ap (λ m. shift_of m c.args.at c.args.by) c.self.view_is

pub returns-clause-pointer : goal.returns-clause-pointer
returns-clause-pointer c =
    let i = c.self.inside in
    let at = pointer_seen i.most _ _ i.shape _ c.args.at c.self.view_is c.self.invariant.room c.requires in
    let e = rw (to_z-of_z w128 c.args.by c.ranges.by) at c.shift.ensures in
    rw (e, ← c.self.view_is)
    (shift_by-pointer i.most i.spans i.cells i.shape c.args.at c.args.by c.self.invariant.room at)
