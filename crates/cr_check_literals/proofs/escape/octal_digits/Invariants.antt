use Rattle.std.proofs.Common.{◌≡◌, ◌+◌, ◌-◌, ◌≤◌, drop, length}
use Rattle.std.specs.List.{prefix_len}
use Rattle.cr_check_literals.specs.Characters.{is_octal_digit}
use Rattle.cr_check_literals.proofs.escape.octal_digits.Given as goal

abbrev pub invariant-loop-count : goal.invariant-loop-count
invariant-loop-count l =
    (l.count + prefix_len is_octal_digit (drop l.count l.text) ≡ prefix_len is_octal_digit l.text) × (l.count ≤ length l.text)

abbrev pub decreases-loop-count : goal.decreases-loop-count
decreases-loop-count l = length l.text - l.count
