use Rattle.std.proofs.Common.{◌≡◌, [], drop}
use Rattle.cr_exprs.specs.Names.{names_onto}
use Rattle.cr_exprs.proofs.names.scope_of.Given as goal

abbrev pub invariant-loop-entry : goal.invariant-loop-entry
invariant-loop-entry l = names_onto (drop l.entry-index l.names) l.scope ≡ names_onto l.names []
