use Rattle.std.proofs.Common.{◌≡◌, ◌+◌, ◌-◌, ◌<◌, ◌≤◌, ◌∷◌, [], length, reverse}
use Rattle.cr_syntax.specs.Trees.{none, ◌&◌}
use Rattle.cr_syntax.specs.Kept.{PartsAreBelow, AreBelow, row_in}
use Rattle.cr_syntax.specs.Context.{fresh, past_part}
use Rattle.cr_syntax_machine.specs.MachineBody.{declared_on}
use Rattle.cr_exprs_descent.specs.Source.{text_of}
use Rattle.cr_exprs_descent.specs.Loose.{Replaces}
use Rattle.cr_exprs_descent.specs.Answers.{Goes, Keeps, tree}
use Rattle.cr_decls.proofs.declarations.declarators.Given as goal

abbrev pub invariant-declarators : goal.invariant-declarators
invariant-declarators l = record {
  goes : Goes (text_of l.source) (declared_on (past_part fresh (tree l.fn.nodes l.fn.specifiers.node)) l.depth l.start (tree l.fn.nodes l.fn.specifiers.node & none) l.fn.specifiers.next (tree l.fn.nodes l.fn.first.node)) l.fn.scopes l.fn.first.next (declared_on l.context l.depth l.start (row_in l.nodes l.parts) l.from (tree l.nodes l.one.node)) l.scopes l.one.next;
  keeps : Keeps l.fn.nodes l.nodes;
  below : PartsAreBelow l.nodes;
  kept : Replaces (length l.source.tokens.now) l.fn.nodes l.nodes (l.fn.first.node ∷ l.fn.specifiers.node ∷ []) (l.one.node ∷ reverse l.parts);
  parts : AreBelow l.parts (length l.nodes);
  node : l.one.node + 1 ≡ length l.nodes;
  grows : length l.fn.nodes ≤ length l.nodes;
  start : l.start < l.from;
  from : l.from < l.one.next;
  to : l.one.next ≤ length l.source.tokens.now;
}

abbrev pub decreases-declarators : goal.decreases-declarators
decreases-declarators l = length l.source.tokens.now - l.one.next
