use Rattle.cr_scopes.specs.Building.{told_in, AreNumbered}
use Rattle.cr_scopes.proofs.entities.numbers.Given as goal

abbrev pub invariant-loop-at : goal.invariant-loop-at
invariant-loop-at l = AreNumbered (told_in l.told.items) l.begun.numbers.items l.of_token.items l.at
