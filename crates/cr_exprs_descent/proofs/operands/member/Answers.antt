use Rattle.std.proofs.Common.{[], ◌∷◌, arith}
use Rattle.cr_exprs_descent.proofs.Nodes.{keeps_none}
use Rattle.cr_exprs_descent.proofs.Loose.{placed_push}
use Rattle.cr_exprs_descent.proofs.Runs.{exit, stops, goes_on, handed}
use Rattle.cr_syntax_machine.specs.Machine.{suffixes, run_here, run_take, run_pass, run_stop}
use Rattle.cr_syntax_machine.specs.MachineBody.{body}
use Rattle.cr_exprs_descent.proofs.operands.member.Goals as goal

pub returns-in_err-expect-clause-reads : goal.returns-in_err-expect-clause-reads
returns-in_err-expect-clause-reads c = λ c'. exit c.from_residual.result _ c.from_residual.ensures.1 (stops c.in_err-expect.ensures.err (run_pass c.in_err-expect.ensures.other run_stop))

pub returns-clause-reads : goal.returns-clause-reads
returns-clause-reads c = λ c'. goes_on (λ t. body (suffixes c.args.depth c.args.start t)) c.over.new.nodes c.over.result c.over.ensures.err c.over.ensures.next c.over.ensures.tree
    (record { on = λ y r. run_take c.in_ok-expect.ensures.ok tt (run_here (handed y r)) })

pub returns-clause-placed : goal.returns-clause-placed
returns-clause-placed c = placed_push c.over.new.nodes (c.args.left.node ∷ []) (c.args.left.node ∷ []) c.over.result c.over.ensures.ok c.over.ensures.next (omega arith) (omega (arith, c.in_ok-expect.ensures.inside)) (keeps_none _) (λ loose h. h)
