use Rattle.std.proofs.Common.{ℕ, List, [], ◌∷◌, ◌++◌, ap, ◌∙◌}
use Rattle.cr_exprs_descent.proofs.Loose.{pushed_as}
use Rattle.cr_exprs_descent.proofs.arena.pair.Goals as goal

pub returns-clause-ok : goal.returns-clause-ok
returns-clause-ok c =
    let parts = c.in_ok-push.ensures.ok ∙ ap (λ (x : List ℕ). x ++ c.args.right ∷ []) c.in_ok-parts.ensures.ok in
    pushed_as c.push-2.result c.args.nodes.now c.push-2.new.nodes c.push.new.self (c.args.left ∷ c.args.right ∷ []) parts c.push-2.ensures.ok
