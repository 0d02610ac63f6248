use Rattle.std.proofs.Common.{sym, ◌∙◌, arith, rules}
use Rattle.cr_syntax_machine.specs.Machine.{run_give, run_stop, run_take, run_pass, run_here, run_call, run_fail}
use Rattle.std.proofs.Common.{[], ◌∷◌}
use Rattle.cr_exprs_descent.proofs.Loose.{placed_push}
use Rattle.cr_exprs_descent.proofs.Nodes.{keeps_none}
use Rattle.cr_exprs_descent.proofs.Runs.{exit, fails, stops, finish}
use Rattle.cr_decls.proofs.simple.return_rest.Goals as goal

pub returns-then-stands-clause-reads : goal.returns-then-stands-clause-reads
returns-then-stands-clause-reads c = finish c.leaf.new.nodes c.leaf.result c.leaf.ensures.err c.leaf.ensures.next c.leaf.ensures.tree (run_take (sym c.stands.ensures.answer ∙ c.if-stands.true) tt (run_here run_give))

pub returns-then-stands-clause-placed : goal.returns-then-stands-clause-placed
returns-then-stands-clause-placed c = placed_push c.leaf.new.nodes [] [] c.leaf.result c.leaf.ensures.ok c.leaf.ensures.next (omega arith) (search rules) (keeps_none _) (λ loose h. h)

pub returns-in_err-value-clause-reads : goal.returns-in_err-value-clause-reads
returns-in_err-value-clause-reads c = exit c.from_residual.result _ c.from_residual.ensures.1 (fails (c.in_err-value.ensures.reads.is) (λ x k h. run_pass (sym c.stands.ensures.answer ∙ c.if-stands.false) (run_fail h)))

pub returns-in_err-expect-clause-reads : goal.returns-in_err-expect-clause-reads
returns-in_err-expect-clause-reads c = exit c.from_residual-in_err-expect.result _ c.from_residual-in_err-expect.ensures.1 (stops c.in_err-expect.ensures.err (run_pass (sym c.stands.ensures.answer ∙ c.if-stands.false) (run_call c.in_ok-value.ensures.reads.is.run (run_pass c.in_err-expect.ensures.other run_stop))))

pub returns-clause-reads : goal.returns-clause-reads
returns-clause-reads c = finish c.over.new.nodes c.over.result c.over.ensures.err c.over.ensures.next c.over.ensures.tree (run_pass (sym c.stands.ensures.answer ∙ c.if-stands.false) (run_call c.in_ok-value.ensures.reads.is.run (run_take c.in_ok-expect.ensures.ok tt (run_here run_give))))

pub returns-clause-placed : goal.returns-clause-placed
returns-clause-placed c = placed_push c.over.new.nodes [] (c.in_ok-value.value.node ∷ []) c.over.result c.over.ensures.ok c.over.ensures.next (omega (arith, c.in_ok-value.ensures.placed.from)) (omega (arith, c.in_ok-expect.ensures.inside)) c.in_ok-value.ensures.placed.keeps (c.in_ok-value.ensures.placed.kept)
