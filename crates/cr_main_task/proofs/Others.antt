-- Lists that are alike behind so many are alike behind more.
use Rattle.std.proofs.Common.{◌≡◌, ◌+◌, ◌-◌, ◌≤◌, ℕ, List, drop, ap, sym, subst, ◌∙◌, arith}
use Rattle.std.proofs.lemmas.List.{drop-drop}

pub beyond : {X : Type 0} → (few many : ℕ) (one other : List X) → few ≤ many → drop few one ≡ drop few other → drop many one ≡ drop many other
beyond few many one other less same =
    let rest : few + (many - few) ≡ many = omega (arith, less) in
    subst (λ n. drop n one ≡ drop n other) rest (sym (drop-drop (many - few) few one) ∙ ap (drop (many - few)) same ∙ drop-drop (many - few) few other)
