use Rattle.std.proofs.Common.{◌-◌, ◌≤◌, [], length, reverse}
use Rattle.cr_syntax.specs.Kept.{PartsAreBelow, AreBelow, row_in}
use Rattle.cr_syntax_machine.specs.Machine as m
use Rattle.cr_syntax_machine.specs.MachineBody.{body}
use Rattle.cr_exprs_descent.specs.Source.{text_of}
use Rattle.cr_exprs_descent.specs.Loose.{Replaces}
use Rattle.cr_exprs_descent.specs.Answers.{Goes, Keeps}
use Rattle.cr_decls.proofs.externals.unit.Given as goal

abbrev pub invariant-externals : goal.invariant-externals
invariant-externals l = record {
  goes : Goes (text_of l.source) (body (m.unit m.nowhere 0)) l.fn.scopes 0 (body (m.externals m.nowhere 0 (row_in l.nodes l.items))) l.scopes l.next;
  keeps : Keeps l.fn.nodes l.nodes;
  below : PartsAreBelow l.nodes;
  kept : Replaces (length l.source.tokens.now) l.fn.nodes l.nodes [] (reverse l.items);
  items : AreBelow l.items (length l.nodes);
  to : l.next ≤ length l.source.tokens.now;
}

abbrev pub decreases-externals : goal.decreases-externals
decreases-externals l = length l.source.tokens.now - l.next
