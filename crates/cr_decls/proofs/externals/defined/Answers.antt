use Rattle.std.proofs.Common.{arith}
use Rattle.cr_syntax_machine.specs.Machine.{run_give, run_yes, run_here, run_look, run_set, run_bring, run_call, run_fail}
use Rattle.std.proofs.Common.{[], ◌∷◌}
use Rattle.cr_exprs_descent.specs.Answers.{tree}
use Rattle.cr_exprs_descent.proofs.Loose.{placed_push}
use Rattle.cr_exprs_descent.proofs.Nodes.{tree_kept}
use Rattle.cr_exprs_descent.proofs.Runs.{exit, fails, no_memory, finish, done_as, done_in, run_in}
use Rattle.cr_decls.proofs.Variadic.{defines, refuses_variadic}
use Rattle.cr_decls.proofs.externals.defined.Goals as goal

pub returns-in-Some-clause-reads : goal.returns-in-Some-clause-reads
returns-in-Some-clause-reads c = record { is = refuses_variadic 0 c.args.start (tree c.args.nodes.now c.args.specifiers.node) (tree c.args.nodes.now c.args.declarator.node) c.in-Some.dots c.in-Some.ensures }

pub returns-in_err-define-clause-reads : goal.returns-in_err-define-clause-reads
returns-in_err-define-clause-reads c = exit c.from_residual.result _ c.from_residual.ensures.1 (no_memory c.in_err-define.ensures.err)

pub returns-in_err-body-clause-reads : goal.returns-in_err-body-clause-reads
returns-in_err-body-clause-reads c = exit c.from_residual-in_err-body.result _ c.from_residual-in_err-body.ensures.1 (fails (c.in_err-body.ensures.reads.is) (λ x k h. run_yes (defines (tree c.args.nodes.now c.args.declarator.node) c.in_default.ensures) (run_look (run_set (run_bring (run_look (run_set (run_fail (run_in (rw c.past-context.ensures at c.in_ok-define.ensures.ok) h)))))))))

pub returns-clause-reads : goal.returns-clause-reads
returns-clause-reads c = finish c.triple.new.nodes c.triple.result c.triple.ensures.err c.triple.ensures.next c.triple.ensures.tree (done_in c.drop_scope.ensures (run_yes (defines (tree c.args.nodes.now c.args.declarator.node) c.in_default.ensures) (run_look (run_set (run_bring (run_look (run_set (run_call (run_in (rw c.past-context.ensures at c.in_ok-define.ensures.ok) c.in_ok-body.ensures.reads.is.run) (run_look (run_set (run_here (done_as (let e0 = tree_kept _ _ c.args.specifiers.node c.in_ok-body.ensures.placed.keeps (omega (arith, c.requires.specifiers)) in let e1 = tree_kept _ _ c.args.declarator.node c.in_ok-body.ensures.placed.keeps (omega (arith, c.requires.node)) in cc) run_give))))))))))))

pub returns-clause-placed : goal.returns-clause-placed
returns-clause-placed c = placed_push c.triple.new.nodes (c.args.declarator.node ∷ c.args.specifiers.node ∷ []) (c.in_ok-body.body.node ∷ c.args.declarator.node ∷ c.args.specifiers.node ∷ []) c.triple.result c.triple.ensures.ok c.triple.ensures.next (omega (arith, c.requires.start, c.in_ok-body.ensures.placed.from)) c.in_ok-body.ensures.placed.to c.in_ok-body.ensures.placed.keeps (λ loose h. c.in_ok-body.ensures.placed.kept _ h)
