use Rattle.std.proofs.Common.{◌≡◌, ◌++◌}
use Rattle.pass_levels.specs.Gathered.{gathered}
use Rattle.pass_inline.specs.Inlined.{declarator_goes, facts_of}
use Rattle.pass_inline.proofs.inlining.put_declarators.Given as goal

abbrev pub invariant-loop-at : goal.invariant-loop-at
invariant-loop-at l = l.changes.items ≡ l.fn.changes.items ++ gathered (declarator_goes (facts_of l.known) l.number l.numbers l.row) l.at
