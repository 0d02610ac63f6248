use Rattle.std.proofs.Common.{ap, arith, length}
use Rattle.cr_syntax.specs.Words.{lexemes_of}
use Rattle.cr_exprs_descent.proofs.Grammar.{refusal_on}
use Rattle.cr_decls.proofs.Units.{unit_kept, listed_as, tree_of, only_of, first_of, only_first_of}
use Rattle.cr_decls.proofs.front.parse.Goals as goal

pub new-requires-clause-within : goal.new-requires-clause-within
new-requires-clause-within c = (unit_kept (length c.in_ok-list.list.items) _ _ _ c.in_ok-items.items c.new-nodes.ensures (omega (arith, c.in_ok-list.ensures.len)) c.in_ok-items.ensures.kept).within

pub new-requires-clause-named_once : goal.new-requires-clause-named_once
new-requires-clause-named_once c = (unit_kept (length c.in_ok-list.list.items) _ _ _ c.in_ok-items.items c.new-nodes.ensures (omega (arith, c.in_ok-list.ensures.len)) c.in_ok-items.ensures.kept).named_once

pub new-requires-clause-items_are_nodes : goal.new-requires-clause-items_are_nodes
new-requires-clause-items_are_nodes c = (unit_kept (length c.in_ok-list.list.items) _ _ _ c.in_ok-items.items c.new-nodes.ensures (omega (arith, c.in_ok-list.ensures.len)) c.in_ok-items.ensures.kept).are_nodes

pub returns-clause-only : goal.returns-clause-only
returns-clause-only c = only_of (ap (lexemes_of c.args.file.now) c.as_slice-list.ensures.value) (let a = c.in_ok-begin.ensures in let b = c.new-scopes.ensures in cc) (let a = c.new.ensures.nodes in let b = c.new.ensures.items in cc) c.in_ok-items.ensures.reads.is.run

pub returns-in_err-items-clause-refused : goal.returns-in_err-items-clause-refused
returns-in_err-items-clause-refused c = refusal_on c.from_residual-in_err-items.result _ _ c.from_residual-in_err-items.ensures.1 (first_of (ap (lexemes_of c.args.file.now) c.as_slice-list.ensures.value) (let a = c.in_ok-begin.ensures in let b = c.new-scopes.ensures in cc) c.in_err-items.ensures.reads.is)

pub returns-in_err-items-clause-first : goal.returns-in_err-items-clause-first
returns-in_err-items-clause-first c = refusal_on c.from_residual-in_err-items.result _ _ c.from_residual-in_err-items.ensures.1 (only_first_of (ap (lexemes_of c.args.file.now) c.as_slice-list.ensures.value) (let a = c.in_ok-begin.ensures in let b = c.new-scopes.ensures in cc) c.in_err-items.ensures.reads.is)

pub returns-clause-tree : goal.returns-clause-tree
returns-clause-tree c = tree_of (ap (lexemes_of c.args.file.now) c.as_slice-list.ensures.value) (let a = c.in_ok-begin.ensures in let b = c.new-scopes.ensures in cc) (let a = c.new.ensures.nodes in let b = c.new.ensures.items in cc) c.in_ok-items.ensures.reads.is.run

pub returns-clause-listed : goal.returns-clause-listed
returns-clause-listed c = listed_as c.new.ensures.nodes c.new.ensures.items (unit_kept (length c.in_ok-list.list.items) _ _ _ c.in_ok-items.items c.new-nodes.ensures (omega (arith, c.in_ok-list.ensures.len)) c.in_ok-items.ensures.kept).listed
