use Rattle.std.proofs.Common.{arith}
use Rattle.cr_syntax_machine.specs.Machine.{run_give, run_stop, run_take, run_pass, run_here}
use Rattle.std.proofs.Common.{[]}
use Rattle.cr_exprs_descent.proofs.Loose.{placed_push}
use Rattle.cr_exprs_descent.proofs.Nodes.{keeps_none}
use Rattle.cr_exprs_descent.proofs.Runs.{exit, stops, finish}
use Rattle.cr_decls.proofs.simple.goto_rest.Goals as goal

pub returns-in_err-expect-clause-reads : goal.returns-in_err-expect-clause-reads
returns-in_err-expect-clause-reads c = λ c'. exit c.from_residual.result _ c.from_residual.ensures.1 (stops c.in_err-expect.ensures.err (run_pass c.in_err-expect.ensures.other run_stop))

pub returns-in_err-expect-2-clause-reads : goal.returns-in_err-expect-2-clause-reads
returns-in_err-expect-2-clause-reads c = λ c'. exit c.from_residual-in_err-expect-2.result _ c.from_residual-in_err-expect-2.ensures.1 (stops c.in_err-expect-2.ensures.err (run_take c.in_ok-expect.ensures.ok tt (run_pass c.in_err-expect-2.ensures.other run_stop)))

pub returns-clause-reads : goal.returns-clause-reads
returns-clause-reads c = λ c'. finish c.leaf.new.nodes c.leaf.result c.leaf.ensures.err c.leaf.ensures.next c.leaf.ensures.tree (run_take c.in_ok-expect.ensures.ok tt (run_take c.in_ok-expect-2.ensures.ok tt (run_here run_give)))

pub returns-clause-placed : goal.returns-clause-placed
returns-clause-placed c = placed_push c.leaf.new.nodes [] [] c.leaf.result c.leaf.ensures.ok c.leaf.ensures.next (omega arith) (omega (arith, c.in_ok-expect-2.ensures.inside)) (keeps_none _) (λ loose h. h)
