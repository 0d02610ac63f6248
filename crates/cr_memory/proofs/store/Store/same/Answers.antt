use Rattle.std.proofs.Common.{ap, ◌∙◌}
use Rattle.cr_memory.specs.Pointers.{same_of}
use Rattle.cr_memory.proofs.View.{pointer_seen}
use Rattle.cr_memory.proofs.Comparing.{with_both-is, flat_equality-is}
use Rattle.cr_memory.proofs.store.Store.same.Goals as goal

pub same-requires-clause-left : goal.same-requires-clause-left
same-requires-clause-left c =
    pointer_seen c.self.inside.most _ _ c.self.inside.shape _ c.args.left c.self.view_is c.self.invariant.room c.requires.left

pub same-requires-clause-right : goal.same-requires-clause-right
same-requires-clause-right c =
    pointer_seen c.self.inside.most _ _ c.self.inside.shape _ c.args.right c.self.view_is c.self.invariant.room c.requires.right

pub returns : goal.returns
returns c =
    let i = c.self.inside in
    let left = pointer_seen i.most _ _ i.shape _ c.args.left c.self.view_is c.self.invariant.room c.requires.left in
    let right = pointer_seen i.most _ _ i.shape _ c.args.right c.self.view_is c.self.invariant.room c.requires.right in
    c.same.ensures ∙ with_both-is i.most i.spans i.cells i.shape c.args.left c.args.right _ _
    (flat_equality-is i.most i.spans i.cells i.shape c.args.left c.args.right c.self.invariant.room left right)
    ∙ ap (λ m. same_of m c.args.left c.args.right) c.self.view_is
