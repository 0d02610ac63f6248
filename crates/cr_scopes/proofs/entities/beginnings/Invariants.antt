use Rattle.cr_scopes.specs.Building.{told_in, AreBegun}
use Rattle.cr_scopes.proofs.entities.beginnings.Given as goal

abbrev pub invariant-loop-at : goal.invariant-loop-at
invariant-loop-at l = AreBegun (told_in l.told.items) l.numbers.items l.count l.at
