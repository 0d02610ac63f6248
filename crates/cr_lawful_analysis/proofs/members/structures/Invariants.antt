use Rattle.std.proofs.Common.{◌≡◌, take}
use Rattle.cr_check_expressions.specs.Ruled.{facts_at}
use Rattle.cr_lawful_analysis.specs.Members.{structures_by}
use Rattle.cr_lawful_analysis.proofs.members.structures.Given as goal

abbrev pub invariant-loop-node : goal.invariant-loop-node
invariant-loop-node l = l.structures ≡ structures_by (facts_at l.table l.facts) (take l.node-index l.nodes)
