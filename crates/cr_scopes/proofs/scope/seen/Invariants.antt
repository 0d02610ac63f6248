use Rattle.std.proofs.Common.{◌≡◌, length}
use Rattle.cr_scopes.specs.Scopes.{looked}
use Rattle.cr_scopes.proofs.scope.seen.Given as goal

-- the scopes looked at say nothing of the name
abbrev pub invariant-loop-scope : goal.invariant-loop-scope
invariant-loop-scope l = (looked l.space l.name l.scopes).seen ≡ (looked l.space l.name l.left).seen

abbrev pub decreases-loop-scope : goal.decreases-loop-scope
decreases-loop-scope l = length l.left
