use Rattle.std.proofs.Common.{ℕ, ◌<◌}
use Rattle.cr_tokens.specs.Runs.{spellings, StandsFrom}
use Rattle.cr_tokens.proofs.run.contains.Given as goal

abbrev pub invariant-loop-first : goal.invariant-loop-first
invariant-loop-first l = (k : ℕ) → k < l.first → ¬ StandsFrom k (spellings l.text l.run) (spellings l.file l.all)
