use Rattle.std.proofs.Common.{ℕ, ◌<◌}
use Rattle.cr_check_definitions.specs.Known.{known_of}
use Rattle.cr_check_definitions.specs.Typedefs.{IsTwice}
use Rattle.cr_check_definitions.proofs.typedefs.repeated.Given as goal

-- no token looked at is one
abbrev pub invariant-loop-at : goal.invariant-loop-at
invariant-loop-at l = (token : ℕ) → token < l.at → IsTwice (known_of l.declarations) l.names token → ⊥
