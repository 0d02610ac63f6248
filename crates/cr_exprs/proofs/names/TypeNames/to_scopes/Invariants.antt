use Rattle.std.proofs.Common.{◌≡◌, [], drop}
use Rattle.cr_exprs.specs.Names.{scopes_onto}
use Rattle.cr_exprs.proofs.names.TypeNames.to_scopes.Given as goal

abbrev pub invariant-loop-names : goal.invariant-loop-names
invariant-loop-names l = scopes_onto (drop l.names-index l.names-items) l.scopes ≡ scopes_onto l.names-items []
