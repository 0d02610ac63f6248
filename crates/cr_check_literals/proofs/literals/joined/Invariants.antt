use Rattle.std.proofs.Common.{◌≡◌}
use Rattle.cr_check_literals.specs.Texts.{joined}
use Rattle.cr_check_literals.proofs.literals.joined.Given as goal

abbrev pub invariant-loop-at : goal.invariant-loop-at
invariant-loop-at l = l.bytes.items ≡ joined l.file l.tokens l.first l.at
