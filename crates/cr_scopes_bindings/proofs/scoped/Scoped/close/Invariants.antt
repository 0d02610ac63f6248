use Rattle.std.proofs.Common.{◌≡◌, length}
use Rattle.cr_scopes_bindings.specs.Stacks.{outside}
use Rattle.cr_scopes_bindings.proofs.scoped.Scoped.close.Given as goal

abbrev pub invariant-loop : goal.invariant-loop
invariant-loop l = outside l.self ≡ outside l.fn.self

abbrev pub decreases-loop : goal.decreases-loop
decreases-loop l = length l.self
