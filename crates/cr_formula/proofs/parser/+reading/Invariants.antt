use Rattle.std.proofs.Common.{ℕ, ◌+◌, ◌*◌}
use Rattle.cr_formula.proofs.parser.+reading.Given as goal

abbrev pub decreases-conjunction : goal.decreases-conjunction
decreases-conjunction l = 3 * l.left + 2

abbrev pub decreases-disjunction : goal.decreases-disjunction
decreases-disjunction l = 3 * l.left + 2

abbrev pub decreases-negation : goal.decreases-negation
decreases-negation l = 3 * l.left + 1

abbrev pub decreases-pair : goal.decreases-pair
decreases-pair l = 3 * l.left + 1

abbrev pub decreases-parse : goal.decreases-parse
decreases-parse l = 3 * l.left
