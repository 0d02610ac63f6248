use Rattle.std.proofs.Common.{ℕ, List, [], ◌∷◌, ◌++◌, ap, ◌∙◌}
use Rattle.cr_exprs_descent.proofs.Loose.{pushed_as}
use Rattle.cr_exprs_descent.proofs.arena.triple.Goals as goal

pub returns-clause-ok : goal.returns-clause-ok
returns-clause-ok c =
    let two = c.in_ok-push.ensures.ok ∙ ap (λ (x : List ℕ). x ++ c.args.middle ∷ []) c.in_ok-parts.ensures.ok in
    let parts = c.in_ok-push-2.ensures.ok ∙ ap (λ (x : List ℕ). x ++ c.args.right ∷ []) two in
    pushed_as c.push-3.result c.args.nodes.now c.push-3.new.nodes c.push-2.new.self (c.args.left ∷ c.args.middle ∷ c.args.right ∷ []) parts c.push-3.ensures.ok
