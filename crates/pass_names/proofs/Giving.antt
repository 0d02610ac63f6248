-- What numbers give, one number more.
use native.Mathlib.Omega.{arith}
use Rattle.std.proofs.Common.{◌≡◌, ℕ, ◌+◌, suc, List, ◌++◌, ap, subst, ◌∙◌}
use Rattle.std.proofs.lemmas.List.{append_assoc}
use Rattle.pass_levels.specs.Gathered.{gathered}

pub given_more : {X : Type 0} (gives : ℕ → List X) (new all old : List X) (at : ℕ) → new ≡ all ++ gives at → all ≡ old ++ gathered gives at → new ≡ old ++ gathered gives (at + 1)
given_more gives new all old at more before =
    let next : suc at ≡ at + 1 = omega arith in
    subst (λ n. new ≡ old ++ gathered gives n) next (more ∙ ap (λ t. t ++ gives at) before ∙ append_assoc old (gathered gives at) (gives at))
