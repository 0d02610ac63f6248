use Rattle.std.proofs.Common.{sym, ◌∙◌, arith, rules}
use Rattle.cr_syntax_machine.specs.Machine.{run_give, run_take, run_pass, run_here}
use Rattle.std.proofs.Common.{[]}
use Rattle.cr_exprs_descent.proofs.Loose.{placed_push}
use Rattle.cr_exprs_descent.proofs.Nodes.{keeps_none}
use Rattle.cr_exprs_descent.proofs.Runs.{finish, through, handed}
use Rattle.cr_decls.proofs.simple.simple.Goals as goal

pub returns-then-stands-clause-reads : goal.returns-then-stands-clause-reads
returns-then-stands-clause-reads c = through c.goto_rest.result (λ y h. run_take (sym c.stands.ensures.answer ∙ c.if-stands.true) tt h) (c.goto_rest.ensures.reads c.args.scopes.now)

pub returns-then-stands-2-clause-reads : goal.returns-then-stands-2-clause-reads
returns-then-stands-2-clause-reads c = through c.jump.result (λ y h. run_pass (sym c.stands.ensures.answer ∙ c.if-stands.false) (run_take (sym c.stands-2.ensures.answer ∙ c.if-stands-2.true) tt h)) (c.jump.ensures.reads c.args.scopes.now)

pub returns-then-stands-3-clause-reads : goal.returns-then-stands-3-clause-reads
returns-then-stands-3-clause-reads c = through c.jump-then-stands-3.result (λ y h. run_pass (sym c.stands.ensures.answer ∙ c.if-stands.false) (run_pass (sym c.stands-2.ensures.answer ∙ c.if-stands-2.false) (run_take (sym c.stands-3.ensures.answer ∙ c.if-stands-3.true) tt h))) (c.jump-then-stands-3.ensures.reads c.args.scopes.now)

pub returns-then-stands-4-clause-reads : goal.returns-then-stands-4-clause-reads
returns-then-stands-4-clause-reads c = through c.return_rest.result (λ y h. run_pass (sym c.stands.ensures.answer ∙ c.if-stands.false) (run_pass (sym c.stands-2.ensures.answer ∙ c.if-stands-2.false) (run_pass (sym c.stands-3.ensures.answer ∙ c.if-stands-3.false) (run_take (sym c.stands-4.ensures.answer ∙ c.if-stands-4.true) tt (handed y h))))) c.return_rest.ensures.reads

pub returns-then-stands-5-clause-reads : goal.returns-then-stands-5-clause-reads
returns-then-stands-5-clause-reads c = finish c.leaf.new.nodes c.leaf.result c.leaf.ensures.err c.leaf.ensures.next c.leaf.ensures.tree (run_pass (sym c.stands.ensures.answer ∙ c.if-stands.false) (run_pass (sym c.stands-2.ensures.answer ∙ c.if-stands-2.false) (run_pass (sym c.stands-3.ensures.answer ∙ c.if-stands-3.false) (run_pass (sym c.stands-4.ensures.answer ∙ c.if-stands-4.false) (run_take (sym c.stands-5.ensures.answer ∙ c.if-stands-5.true) tt (run_here run_give))))))

pub returns-then-stands-5-clause-placed : goal.returns-then-stands-5-clause-placed
returns-then-stands-5-clause-placed c = placed_push c.leaf.new.nodes [] [] c.leaf.result c.leaf.ensures.ok c.leaf.ensures.next (omega arith) (search rules) (keeps_none _) (λ loose h. h)

pub returns-clause-reads : goal.returns-clause-reads
returns-clause-reads c = through c.expression_statement.result (λ y h. run_pass (sym c.stands.ensures.answer ∙ c.if-stands.false) (run_pass (sym c.stands-2.ensures.answer ∙ c.if-stands-2.false) (run_pass (sym c.stands-3.ensures.answer ∙ c.if-stands-3.false) (run_pass (sym c.stands-4.ensures.answer ∙ c.if-stands-4.false) (run_pass (sym c.stands-5.ensures.answer ∙ c.if-stands-5.false) h))))) c.expression_statement.ensures.reads
