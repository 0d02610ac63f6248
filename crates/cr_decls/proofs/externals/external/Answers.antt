use Rattle.std.proofs.Common.{refl, sym, ◌∙◌, arith, rules}
use Rattle.cr_syntax_machine.specs.Machine.{plain, opens, call, give, made, run_give, run_stop, run_take, run_deep, run_pass, run_bar, run_free, run_seen, run_unseen, run_yes, run_no, run_here, run_look, run_set, run_bring, run_call, run_fail}
use Rattle.cr_syntax_machine.specs.Machine as m
use Rattle.cr_syntax.specs.Trees.{none, ◌&◌}
use Rattle.cr_syntax.specs.Context.{fresh, past_part}
use Rattle.cr_syntax_machine.specs.MachineBody.{declared_on, defined}
use Rattle.std.proofs.Common.{[], ◌∷◌}
use Rattle.cr_exprs_descent.specs.Answers.{tree}
use Rattle.cr_exprs_descent.proofs.Loose.{placed_push, placed_behind}
use Rattle.cr_exprs_descent.proofs.Nodes.{tree_kept, keeps_all}
use Rattle.cr_exprs_descent.proofs.Runs.{exit, fails, finish, through, shift}
use Rattle.cr_decls.proofs.externals.external.Goals as goal

pub returns-in_err-specifiers-clause-reads : goal.returns-in_err-specifiers-clause-reads
returns-in_err-specifiers-clause-reads c = exit c.from_residual.result _ c.from_residual.ensures.1 (fails (c.in_err-specifiers.ensures.reads.is) (λ x k h. run_here (run_fail h)))

pub returns-then-stands-clause-reads : goal.returns-then-stands-clause-reads
returns-then-stands-clause-reads c = finish c.over.new.nodes c.over.result c.over.ensures.err c.over.ensures.next c.over.ensures.tree (run_here (run_call c.in_ok-specifiers.ensures.reads.is.run (run_take (sym c.stands.ensures.answer ∙ c.if-stands.true) tt (run_here run_give))))

pub returns-then-stands-clause-placed : goal.returns-then-stands-clause-placed
returns-then-stands-clause-placed c = placed_push c.over.new.nodes [] (c.in_ok-specifiers.specifiers.node ∷ []) c.over.result c.over.ensures.ok c.over.ensures.next (omega (arith, c.in_ok-specifiers.ensures.placed.from)) (search rules) c.in_ok-specifiers.ensures.placed.keeps (c.in_ok-specifiers.ensures.placed.kept)

pub returns-in_err-first-clause-reads : goal.returns-in_err-first-clause-reads
returns-in_err-first-clause-reads c = exit c.from_residual-in_err-first.result _ c.from_residual-in_err-first.ensures.1 (fails (rw c.past-context.ensures at c.in_err-first.ensures.reads.is) (λ x k h. run_here (run_call c.in_ok-specifiers.ensures.reads.is.run (run_pass (sym c.stands.ensures.answer ∙ c.if-stands.false) (run_here (run_fail h))))))

pub returns-then-stands-2-clause-reads : goal.returns-then-stands-2-clause-reads
returns-then-stands-2-clause-reads c = through c.defined.result (λ y h. run_here (run_call c.in_ok-specifiers.ensures.reads.is.run (run_pass (sym c.stands.ensures.answer ∙ c.if-stands.false) (run_here (run_call (rw c.past-context.ensures at c.in_ok-first.ensures.reads.is).run (run_seen (sym c.stands-2.ensures.answer ∙ c.if-stands-2.true) (shift (λ u. defined m.nowhere 0 c.args.at u (tree c.named_declarator.new.nodes c.in_ok-first.first.node)) (tree_kept _ _ c.in_ok-specifiers.specifiers.node c.in_ok-first.ensures.placed.keeps (omega (arith, c.in_ok-specifiers.ensures.placed.last))) refl h))))))) c.defined.ensures.reads

pub returns-then-stands-2-clause-placed : goal.returns-then-stands-2-clause-placed
returns-then-stands-2-clause-placed c = placed_behind c.args.at c.defined.new.nodes [] (c.in_ok-first.first.node ∷ c.in_ok-specifiers.specifiers.node ∷ []) c.defined.result c.defined.ensures.placed (keeps_all _ _ _ c.in_ok-specifiers.ensures.placed.keeps c.in_ok-first.ensures.placed.keeps) (λ loose h. c.in_ok-first.ensures.placed.kept _ (c.in_ok-specifiers.ensures.placed.kept loose h))

pub returns-clause-reads : goal.returns-clause-reads
returns-clause-reads c = through c.declarators.result (λ y h. run_here (run_call c.in_ok-specifiers.ensures.reads.is.run (run_pass (sym c.stands.ensures.answer ∙ c.if-stands.false) (run_here (run_call (rw c.past-context.ensures at c.in_ok-first.ensures.reads.is).run (run_unseen (sym c.stands-2.ensures.answer ∙ c.if-stands-2.false) (shift (λ u. declared_on (past_part fresh u) 0 c.args.at (u & none) c.in_ok-specifiers.specifiers.next (tree c.named_declarator.new.nodes c.in_ok-first.first.node)) (tree_kept _ _ c.in_ok-specifiers.specifiers.node c.in_ok-first.ensures.placed.keeps (omega (arith, c.in_ok-specifiers.ensures.placed.last))) refl h))))))) c.declarators.ensures.reads

pub returns-clause-placed : goal.returns-clause-placed
returns-clause-placed c = placed_behind c.args.at c.declarators.new.nodes [] (c.in_ok-first.first.node ∷ c.in_ok-specifiers.specifiers.node ∷ []) c.declarators.result c.declarators.ensures.placed (keeps_all _ _ _ c.in_ok-specifiers.ensures.placed.keeps c.in_ok-first.ensures.placed.keeps) (λ loose h. c.in_ok-first.ensures.placed.kept _ (c.in_ok-specifiers.ensures.placed.kept loose h))
