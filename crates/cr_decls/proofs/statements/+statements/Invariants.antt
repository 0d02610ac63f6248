use Rattle.std.proofs.Common.{◌+◌, ◌-◌, ◌*◌, ◌≤◌, [], length, reverse}
use Rattle.cr_syntax.specs.Trees.{none}
use Rattle.cr_syntax.specs.Kept.{PartsAreBelow, AreBelow, row_in}
use Rattle.cr_syntax_machine.specs.Machine as m
use Rattle.cr_syntax_machine.specs.MachineBody.{body}
use Rattle.cr_exprs_descent.specs.Source.{text_of}
use Rattle.cr_exprs_descent.specs.Loose.{Replaces}
use Rattle.cr_exprs_descent.specs.Answers.{Goes, Keeps}
use Rattle.cr_decls.specs.Programs.{labels_of}
use Rattle.cr_decls.proofs.statements.+statements.Given as goal

abbrev pub decreases-block : goal.decreases-block
decreases-block l = (length l.source.now.tokens.now - l.at) * 16 + 9

abbrev pub decreases-case : goal.decreases-case
decreases-case l = (length l.source.now.tokens.now - l.start) * 16 + 0

abbrev pub decreases-compound : goal.decreases-compound
decreases-compound l = (length l.source.now.tokens.now - l.at) * 16 + 5

abbrev pub decreases-default : goal.decreases-default
decreases-default l = (length l.source.now.tokens.now - l.start) * 16 + 0

abbrev pub decreases-do_rest : goal.decreases-do_rest
decreases-do_rest l = (length l.source.now.tokens.now - l.start) * 16 + 3

abbrev pub decreases-for_clauses : goal.decreases-for_clauses
decreases-for_clauses l = (length l.source.now.tokens.now - l.first.next) * 16 + 2

abbrev pub decreases-for_rest : goal.decreases-for_rest
decreases-for_rest l = (length l.source.now.tokens.now - l.start) * 16 + 3

abbrev pub decreases-if_rest : goal.decreases-if_rest
decreases-if_rest l = (length l.source.now.tokens.now - l.start) * 16 + 3

abbrev pub decreases-item : goal.decreases-item
decreases-item l = (length l.source.now.tokens.now - l.at) * 16 + 10

abbrev pub decreases-items : goal.decreases-items
decreases-items l = (length l.source.now.tokens.now - l.start) * 16 + 4

abbrev pub decreases-label : goal.decreases-label
decreases-label l = (length l.source.now.tokens.now - l.start) * 16 + 0

abbrev pub decreases-labelled : goal.decreases-labelled
decreases-labelled l = (length l.source.now.tokens.now - l.at) * 16 + 7

abbrev pub decreases-statement : goal.decreases-statement
decreases-statement l = (length l.source.now.tokens.now - l.at) * 16 + 8

abbrev pub decreases-switch_rest : goal.decreases-switch_rest
decreases-switch_rest l = (length l.source.now.tokens.now - l.start) * 16 + 3

abbrev pub decreases-unlabelled : goal.decreases-unlabelled
decreases-unlabelled l = (length l.source.now.tokens.now - l.at) * 16 + 6

abbrev pub decreases-while_rest : goal.decreases-while_rest
decreases-while_rest l = (length l.source.now.tokens.now - l.start) * 16 + 3

abbrev pub invariant-items-items : goal.invariant-items-items
invariant-items-items l = record {
  goes : Goes (text_of l.source) (body (m.items (labels_of l.labels) l.depth l.start none)) l.fn.scopes (l.start + 1) (body (m.items (labels_of l.labels) l.depth l.start (row_in l.nodes l.parts))) l.scopes l.next;
  keeps : Keeps l.fn.nodes l.nodes;
  below : PartsAreBelow l.nodes;
  kept : Replaces (length l.source.tokens.now) l.fn.nodes l.nodes [] (reverse l.parts);
  parts : AreBelow l.parts (length l.nodes);
  from : l.start + 1 ≤ l.next;
  to : l.next ≤ length l.source.tokens.now;
}

abbrev pub decreases-items-items : goal.decreases-items-items
decreases-items-items l = length l.source.tokens.now - l.next
