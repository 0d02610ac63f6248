use Rattle.std.proofs.Common.{sym, ◌∙◌, arith}
use Rattle.cr_syntax_machine.specs.Machine.{run_give, run_take, run_pass, run_here, run_call, run_fail}
use Rattle.std.proofs.Common.{[], ◌∷◌}
use Rattle.cr_exprs_descent.proofs.Loose.{placed_push}
use Rattle.cr_exprs_descent.proofs.Nodes.{tree_kept, keeps_none}
use Rattle.cr_exprs_descent.proofs.Runs.{exit, fails, finish, done_as}
use Rattle.std.proofs.Common.{length}
use Rattle.cr_decls.proofs.Steps.{grown_as}
use Rattle.cr_decls.proofs.declarations.initialized.Goals as goal

pub returns-then-not-stands-clause-reads : goal.returns-then-not-stands-clause-reads
returns-then-not-stands-clause-reads c = record { is = record { run = run_pass (sym c.stands.ensures.answer ∙ c.if-not-stands.true) run_give } }

pub returns-then-not-stands-clause-grown : goal.returns-then-not-stands-clause-grown
returns-then-not-stands-clause-grown c = record { last = c.requires.node; keeps = keeps_none _; below = c.requires.below; kept = λ loose h. h; from = c.requires.start; to = c.requires.at }

pub returns-in_err-value-clause-reads : goal.returns-in_err-value-clause-reads
returns-in_err-value-clause-reads c = exit c.from_residual.result _ c.from_residual.ensures.1 (fails (c.in_err-value.ensures.reads.is) (λ x k h. run_take (sym c.stands.ensures.answer ∙ c.if-not-stands.false) tt (run_fail h)))

pub returns-clause-reads : goal.returns-clause-reads
returns-clause-reads c = finish c.pair.new.nodes c.pair.result c.pair.ensures.err c.pair.ensures.next c.pair.ensures.tree (run_take (sym c.stands.ensures.answer ∙ c.if-not-stands.false) tt (run_call c.in_ok-value.ensures.reads.is.run (run_here (done_as (let e0 = tree_kept _ _ c.args.declarator.node c.in_ok-value.ensures.placed.keeps (omega (arith, c.requires.node)) in cc) run_give))))

pub returns-clause-grown : goal.returns-clause-grown
returns-clause-grown c = grown_as (length c.args.source.now.tokens.now) c.args.start c.args.nodes.now c.pair.new.nodes (c.args.declarator.node ∷ []) c.pair.result (placed_push c.pair.new.nodes (c.args.declarator.node ∷ []) (c.in_ok-value.value.node ∷ c.args.declarator.node ∷ []) c.pair.result c.pair.ensures.ok c.pair.ensures.next (omega (arith, c.requires.start, c.in_ok-value.ensures.placed.from)) c.in_ok-value.ensures.placed.to c.in_ok-value.ensures.placed.keeps (λ loose h. c.in_ok-value.ensures.placed.kept _ h))
