use Rattle.std.proofs.Common.{sym, ◌∙◌, arith, rules}
use Rattle.cr_syntax.specs.Trees.{none, ◌&◌}
use Rattle.cr_syntax_machine.specs.Machine as m
use Rattle.cr_syntax_machine.specs.Machine.{plain, run_take, run_pass, run_here}
use Rattle.cr_syntax_machine.specs.MachineBody.{body, postfix_operators, suffixed, suffixes_end}
use Rattle.cr_exprs_descent.specs.Answers.{tree}
use Rattle.cr_exprs_descent.proofs.Nodes.{keeps_none}
use Rattle.cr_exprs_descent.proofs.Loose.{placed_over}
use Rattle.cr_exprs_descent.proofs.Runs.{exit, fails, no_memory, handed, chosen_here, chosen_none, shift}
use Rattle.cr_exprs_descent.proofs.operands.plain_suffix.Goals as goal

pub returns-in_err-longer-clause-reads : goal.returns-in_err-longer-clause-reads
returns-in_err-longer-clause-reads c = λ c'. exit c.from_residual.result _ c.from_residual.ensures.1 (fails (c.in_err-longer.ensures.reads c').is (λ x k h. run_pass c.requires.other (run_take (sym c.stands.ensures.answer ∙ c.if-stands.true) tt h)))

pub returns-then-stands-clause-reads : goal.returns-then-stands-clause-reads
returns-then-stands-clause-reads c = λ c'. record { is = record { on = λ y r. run_pass c.requires.other (run_take (sym c.stands.ensures.answer ∙ c.if-stands.true) tt ((c.in_ok-longer.ensures.reads c').is.on y r)) } }

pub returns-in_err-longer-2-clause-reads : goal.returns-in_err-longer-2-clause-reads
returns-in_err-longer-2-clause-reads c = λ c'. exit c.from_residual-in_err-longer-2.result _ c.from_residual-in_err-longer-2.ensures.1 (fails (c.in_err-longer-2.ensures.reads c').is (λ x k h. run_pass c.requires.other (run_pass (sym c.stands.ensures.answer ∙ c.if-stands.false) (run_take (sym c.stands-2.ensures.answer ∙ c.if-stands-2.true) tt h))))

pub returns-then-stands-2-clause-reads : goal.returns-then-stands-2-clause-reads
returns-then-stands-2-clause-reads c = λ c'. record { is = record { on = λ y r. run_pass c.requires.other (run_pass (sym c.stands.ensures.answer ∙ c.if-stands.false) (run_take (sym c.stands-2.ensures.answer ∙ c.if-stands-2.true) tt ((c.in_ok-longer-2.ensures.reads c').is.on y r))) } }

pub returns-in_default-clause-reads : goal.returns-in_default-clause-reads
returns-in_default-clause-reads c = λ c'. record { is = record { on = λ y r. run_pass c.requires.other (run_pass (sym c.stands.ensures.answer ∙ c.if-stands.false) (run_pass (sym c.stands-2.ensures.answer ∙ c.if-stands-2.false) (chosen_none plain (postfix_operators) c.args.depth (suffixed c.args.depth c.args.start ((tree c.args.nodes.now c.args.left.node) & none)) (suffixes_end c.args.depth (tree c.args.nodes.now c.args.left.node)) (sym c.in_default.ensures.kind) r))) } }

pub returns-in_err-longer-3-clause-reads : goal.returns-in_err-longer-3-clause-reads
returns-in_err-longer-3-clause-reads c = λ c'. exit c.from_residual-in_err-longer-3.result _ c.from_residual-in_err-longer-3.ensures.1 (no_memory c.in_err-longer-3.ensures.err)

pub returns-clause-reads : goal.returns-clause-reads
returns-clause-reads c = λ c'. record { is = record { on = λ y r. run_pass c.requires.other (run_pass (sym c.stands.ensures.answer ∙ c.if-stands.false) (run_pass (sym c.stands-2.ensures.answer ∙ c.if-stands-2.false) (chosen_here plain (postfix_operators) c.args.depth (suffixed c.args.depth c.args.start ((tree c.args.nodes.now c.args.left.node) & none)) (suffixes_end c.args.depth (tree c.args.nodes.now c.args.left.node)) (sym c.in-Some.ensures.kind) (λ x z w. run_take w tt (run_here (handed y (shift (λ t. body (m.suffixes c.args.depth c.args.start t)) c.in_ok-longer-3.ensures.tree c.in_ok-longer-3.ensures.next r))))))) } }

pub returns-clause-placed : goal.returns-clause-placed
returns-clause-placed c = placed_over c.in_ok-longer-3.ensures.ok c.in_ok-longer-3.ensures.next (omega arith) (search rules) (keeps_none _) (λ loose h. h)
