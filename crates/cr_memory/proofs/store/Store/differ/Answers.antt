use Rattle.std.proofs.Common.{ap, ◌∙◌, refl}
use Rattle.cr_memory.specs.Pointers.{differ_of}
use Rattle.cr_memory.proofs.View.{pointer_seen}
use Rattle.cr_memory.proofs.Comparing.{with_both-is}
use Rattle.cr_memory.proofs.store.Store.differ.Goals as goal

pub differ-requires-clause-left : goal.differ-requires-clause-left
differ-requires-clause-left c =
    pointer_seen c.self.inside.most _ _ c.self.inside.shape _ c.args.left c.self.view_is c.self.invariant.room c.requires.left

pub differ-requires-clause-right : goal.differ-requires-clause-right
differ-requires-clause-right c =
    pointer_seen c.self.inside.most _ _ c.self.inside.shape _ c.args.right c.self.view_is c.self.invariant.room c.requires.right

pub returns : goal.returns
returns c =
    let i = c.self.inside in
    c.differ.ensures ∙ with_both-is i.most i.spans i.cells i.shape c.args.left c.args.right _ _ (λ l r. refl)
    ∙ ap (λ m. differ_of m c.args.left c.args.right) c.self.view_is
