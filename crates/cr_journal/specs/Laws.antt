-- What always holds of kept reductions.
use Rattle.std.specs.Prelude.{ℕ, List, Option, Some, None}
use Rattle.cr_cursor.specs.TokenLaw.{IsTokenized}
use Rattle.cr_reduce.specs.Keeping.{Front}
use Rattle.cr_reduce.specs.Reduction.{Outcome}
use Rattle.cr_reduce.specs.Search.{ReducesFileAsTold, Search}
use Rattle.cr_reduce.specs.declared.end.Accepted.{Accepted}
use Rattle.cr_replay.specs.Chains.{Chain, Follows}

-- The most turns of a row: the limit, or without one 2^63 - 1, which no reduction comes to.
abbrev pub most_turns : Option ℕ → ℕ
most_turns (Some limit) = limit
most_turns None = 9223372036854775807

-- the chains of a search
abbrev pub chain_in : Search → Option ℕ → Chain
chain_in s limit = record { Offers = s.Offers; Lawful = s.Lawful; limit = Some (most_turns limit) }

-- Rows that a reduction of a file accepts first lead on from it.
abbrev pub AcceptedFollows : Search → Type 0
AcceptedFollows s = (limit : Option ℕ) (file : List ℕ) (out : Outcome) (rows : List Accepted) → IsTokenized file → ReducesFileAsTold s file limit out → Front rows out.accepted
    → (last : List ℕ) × (turns : ℕ) × Follows (chain_in s limit) file 0 rows last turns
