use Rattle.std.proofs.Common.{[], length, refl, sym, subst, arith}
use Rattle.cr_syntax.specs.Words.{lexemes_of}
use Rattle.cr_syntax.specs.Expressions.{Read, IsReading}
use Rattle.cr_syntax_machine.specs.Machine.{Done}
use Rattle.cr_syntax_machine_laws.proofs.MachineReading.{is_reading}
use Rattle.cr_exprs.specs.Names.{scopes_of}
use Rattle.cr_exprs.specs.Expression.{start_of}
use Rattle.cr_exprs_descent.specs.Answers.{IsPlaced}
use Rattle.cr_exprs.proofs.Appended.{tree_so, placed_so}
use Rattle.cr_exprs_descent.proofs.Grammar.{refusal_on}
use Rattle.cr_exprs.proofs.Reading.{is_start, refused_is, text_length}
use Rattle.cr_exprs.proofs.front.expression.Goals as goal

pub returns-in_err-found-clause-refused : goal.returns-in_err-found-clause-refused
returns-in_err-found-clause-refused c = refusal_on c.from_residual-in_err-found.result _ _ c.from_residual-in_err-found.ensures.1 (refused_is (start_of c.args.goal (scopes_of c.args.scope.now) c.args.depth c.args.at) _ (is_start c.args.goal) (omega (arith, c.requires.at, text_length c.args.file.now c.args.tokens.now.list.items))
    (rw c.in_ok-scopes.ensures at (rw c.as_slice-2.ensures.value at c.in_err-found.ensures.reads.is)))

pub returns-clause-read : goal.returns-clause-read
returns-clause-read c = subst (λ t. IsReading (lexemes_of c.args.file.now c.args.tokens.now.list.items) (start_of c.args.goal (scopes_of c.args.scope.now) c.args.depth c.args.at) (Read t c.in_ok-found.found.next))
    (sym (tree_so c.args.nodes.now c.whole.new.nodes c.append.new.nodes c.in_ok-found.found.node _ _ (rw c.as_slice-4.ensures at c.in_ok-node.ensures.ok) refl c.in_ok-node.ensures.node))
    (is_reading _ (start_of c.args.goal (scopes_of c.args.scope.now) c.args.depth c.args.at) (Done _ _ c.in_ok-found.found.next) (is_start c.args.goal) (omega (arith, c.requires.at, text_length c.args.file.now c.args.tokens.now.list.items))
    (rw c.in_ok-scopes.ensures at (rw c.as_slice-2.ensures.value at c.in_ok-found.ensures.reads.is.run)))

pub returns-clause-placed : goal.returns-clause-placed
returns-clause-placed c = placed_so _ _ c.args.nodes.now c.whole.new.nodes c.append.new.nodes c.in_ok-found.found.node _ _ _ (rw c.as_slice-4.ensures at c.in_ok-node.ensures.ok) refl c.in_ok-node.ensures.node c.requires.below
    (subst (λ o. IsPlaced (length c.args.tokens.now.list.items) c.args.at o c.whole.new.nodes [] c.in_ok-found.found) c.new-own.ensures (rw c.as_slice-2.ensures.value at c.in_ok-found.ensures.placed))
