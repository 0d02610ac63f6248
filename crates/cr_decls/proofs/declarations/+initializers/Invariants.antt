use Rattle.std.proofs.Common.{◌+◌, ◌-◌, ◌*◌, ◌≤◌, [], length, reverse}
use Rattle.cr_syntax.specs.Trees.{none}
use Rattle.cr_syntax.specs.Kept.{PartsAreBelow, AreBelow, row_in}
use Rattle.cr_syntax_machine.specs.Machine as m
use Rattle.cr_syntax_machine.specs.MachineBody.{body}
use Rattle.cr_exprs_descent.specs.Source.{text_of}
use Rattle.cr_exprs_descent.specs.Loose.{Replaces}
use Rattle.cr_exprs_descent.specs.Answers.{Goes, Keeps}
use Rattle.cr_decls.proofs.declarations.+initializers.Given as goal

abbrev pub decreases-initializer : goal.decreases-initializer
decreases-initializer l = (length l.source.now.tokens.now - l.at) * 4 + 1

abbrev pub decreases-initializers : goal.decreases-initializers
decreases-initializers l = (length l.source.now.tokens.now - l.start) * 4

abbrev pub invariant-initializers-initializers : goal.invariant-initializers-initializers
invariant-initializers-initializers l = record {
  goes : Goes (text_of l.source) (body (m.initializers l.depth l.start none)) l.fn.scopes (l.start + 1) (body (m.initializers l.depth l.start (row_in l.nodes l.parts))) l.scopes l.next;
  keeps : Keeps l.fn.nodes l.nodes;
  below : PartsAreBelow l.nodes;
  kept : Replaces (length l.source.tokens.now) l.fn.nodes l.nodes [] (reverse l.parts);
  parts : AreBelow l.parts (length l.nodes);
  from : l.start + 1 ≤ l.next;
  to : l.next ≤ length l.source.tokens.now;
}

abbrev pub decreases-initializers-initializers : goal.decreases-initializers-initializers
decreases-initializers-initializers l = length l.source.tokens.now - l.next
