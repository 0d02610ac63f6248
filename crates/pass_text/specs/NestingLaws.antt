-- Laws of the nesting of brackets.
use Rattle.std.specs.Prelude.{◌≡◌, ℕ, ◌≤◌, List, length}
use Rattle.pass_text.specs.declared.pair.Pair.{Pair}
use Rattle.pass_text.specs.Nesting.{Nests}

-- signs nest in one way at most
abbrev pub HasOneNesting : Type 0
HasOneNesting = (signs : List ℕ) (pairs others : List Pair) → Nests 0 signs pairs → Nests 0 signs others → pairs ≡ others

-- there are no more pairs than signs
abbrev pub HasFewPairs : Type 0
HasFewPairs = (signs : List ℕ) (pairs : List Pair) → Nests 0 signs pairs → length pairs ≤ length signs
