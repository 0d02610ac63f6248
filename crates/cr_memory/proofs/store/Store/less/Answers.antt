use Rattle.std.proofs.Common.{ap, ◌∙◌, refl}
use Rattle.cr_memory.specs.Pointers.{less_of}
use Rattle.cr_memory.proofs.Comparing.{with_both-is}
use Rattle.cr_memory.proofs.store.Store.less.Goals as goal

pub returns : goal.returns
returns c =
    let i = c.self.inside in
    c.less.ensures ∙ with_both-is i.most i.spans i.cells i.shape c.args.left c.args.right _ _ (λ l r. refl)
    ∙ ap (λ m. less_of m c.args.left c.args.right) c.self.view_is
