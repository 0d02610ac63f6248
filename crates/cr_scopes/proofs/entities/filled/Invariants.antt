use Rattle.cr_scopes.specs.Building.{told_in, AreFilled}
use Rattle.cr_scopes.proofs.entities.filled.Given as goal

abbrev pub invariant-loop-at : goal.invariant-loop-at
invariant-loop-at l = AreFilled (told_in l.told.items) l.of_token.items l.entities.items l.count l.at
