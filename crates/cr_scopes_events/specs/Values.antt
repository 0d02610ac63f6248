-- Values of nodes, each given by an equation that speaks of the nodes before it.
use Rattle.std.specs.Prelude.{ℕ, zero, suc, ◌==◌, nat_lt, if◌then◌else◌}

-- what the nodes before node i have; all others have nothing
abbrev pub before : {A : Type 0} → A → ℕ → (ℕ → A) → ℕ → A
before nothing i at p = if nat_lt p i then at p else nothing

-- the values of so many nodes
abbrev pub made : {A : Type 0} → A → ((ℕ → A) → ℕ → A) → ℕ → ℕ → A
made nothing rule zero p = nothing
made nothing rule (suc i) p = if p == i then rule (made nothing rule i) i else made nothing rule i p

-- the value of node i, where `rule at i` gives it by the values of the nodes before
unfoldable pub value_at : {A : Type 0} → A → ((ℕ → A) → ℕ → A) → ℕ → A
value_at nothing rule i = made nothing rule (suc i) i
