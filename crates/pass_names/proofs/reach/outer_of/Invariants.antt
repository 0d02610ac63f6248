use Rattle.std.proofs.Common.{◌≡◌, ℕ, take}
use Rattle.std.specs.List.{list_all}
use Rattle.pass_names.specs.Reach.{fits, is_within}
use Rattle.pass_names.proofs.reach.outer_of.Given as goal

abbrev pub invariant-loop-token : goal.invariant-loop-token
invariant-loop-token l = (first last : ℕ) → fits first last l.outer ≡ list_all (is_within first last) (take l.token-index l.tokens)
