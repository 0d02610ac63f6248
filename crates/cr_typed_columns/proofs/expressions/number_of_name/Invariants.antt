use Rattle.std.proofs.Common.{◌≡◌, ◌+◌, ◌-◌, ◌≤◌, drop, length}
use Rattle.cr_typed_columns.specs.Expressions.{number_of_name}
use Rattle.cr_typed_columns.proofs.expressions.number_of_name.Given as goal

abbrev pub invariant-loop-number : goal.invariant-loop-number
invariant-loop-number l = (l.number + number_of_name l.name (drop l.number l.members) ≡ number_of_name l.name l.members) × (l.number ≤ length l.members)

abbrev pub decreases-loop-number : goal.decreases-loop-number
decreases-loop-number l = length l.members - l.number
