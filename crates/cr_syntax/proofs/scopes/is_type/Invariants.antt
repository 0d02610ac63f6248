use Rattle.std.proofs.Common.{◌≡◌, length}
use Rattle.cr_syntax.specs.Scopes.{is_type}
use Rattle.cr_syntax.proofs.scopes.is_type.Given as goal

-- the scopes looked at say nothing of the identifier
abbrev pub invariant-loop-scope : goal.invariant-loop-scope
invariant-loop-scope l = is_type l.scopes l.spelling ≡ is_type l.left l.spelling

abbrev pub decreases-loop-scope : goal.decreases-loop-scope
decreases-loop-scope l = length l.left
