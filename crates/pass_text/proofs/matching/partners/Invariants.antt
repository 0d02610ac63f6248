use Rattle.std.proofs.Common.{◌≡◌, drop, Some}
use Rattle.pass_text.specs.Reading.{empty, reads}
use Rattle.pass_text.proofs.matching.partners.Given as goal

abbrev pub invariant-loop-at : goal.invariant-loop-at
invariant-loop-at l = reads l.at (drop l.at l.signs) (Some empty) ≡ Some l.reading
