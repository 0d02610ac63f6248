use Rattle.std.proofs.Common.{◌≡◌, ◌+◌}
use Rattle.pass_levels.specs.Gathered.{gathered}
use Rattle.pass_inline.specs.Spelled.{token_bits, used_by}
use Rattle.pass_inline.proofs.spelled.expression_form.Given as goal

abbrev pub invariant-loop-at : goal.invariant-loop-at
invariant-loop-at l = l.form ≡ gathered (λ i. token_bits (used_by l.names l.numbers (l.first + i)) (l.first + i)) l.at
