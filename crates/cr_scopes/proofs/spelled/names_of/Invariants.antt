use Rattle.std.proofs.Common.{◌≡◌, List, ℕ}
use Rattle.cr_scopes.specs.Spelled.{first_spelled, said_in}
use Rattle.cr_scopes.proofs.Spellings.{AreNamed}
use Rattle.cr_scopes.proofs.spelled.names_of.Given as goal

abbrev pub invariant-loop-at : goal.invariant-loop-at
invariant-loop-at l = record {
  known : (s : List ℕ) → said_in l.known s ≡ first_spelled l.file l.tokens s l.at;
  names : AreNamed l.file l.tokens l.names.items l.at;
}
