-- What a stack holds.
use Rattle.std.specs.Prelude.{ℕ, List, [], ◌∷◌, ◌++◌, refl}
use Rattle.std.specs.Coded.{Coded, code_by, coded×, coded_ℕ, coded_list}

-- a node, and the answers of its parts so far
pub record Pending (T : Type 0) : Type 0 where
  pub node : ℕ
  pub done : List T

-- the node at work, and the nodes that wait below it, each for the answer of the one above: the next one first
pub record Waiting (T : Type 0) : Type 0 where
  pub top : Pending T
  pub below : List (Pending T)

abbrev pub pending_code : {T : Type 0} → Coded T → Coded (Pending T)
pending_code {T} code =
    code_by (ℕ × List T) (coded× coded_ℕ (coded_list code)) (λ p. (p.node, p.done))
    (λ p. record { node = p.0; done = p.1 }) (λ _. refl)

abbrev pub waiting_code : {T : Type 0} → Coded T → Coded (Waiting T)
waiting_code {T} code =
    code_by (Pending T × List (Pending T)) (coded× (pending_code code) (coded_list (pending_code code))) (λ w. (w.top, w.below))
    (λ p. record { top = p.0; below = p.1 }) (λ _. refl)

-- more answers of parts of the node at work
abbrev pub with_more : {T : Type 0} → Waiting T → List T → Waiting T
with_more waiting more = record { top = record { node = waiting.top.node; done = waiting.top.done ++ more }; below = waiting.below }

-- more answers of parts of the first of the nodes that wait
abbrev pub handed : {T : Type 0} → List T → List (Pending T) → List (Pending T)
handed answers [] = []
handed answers (up ∷ below) = record { node = up.node; done = up.done ++ answers } ∷ below
