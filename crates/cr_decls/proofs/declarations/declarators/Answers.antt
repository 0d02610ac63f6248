use Rattle.std.proofs.Common.{◌+◌, sym, ◌∙◌, arith}
use Rattle.cr_syntax_machine.specs.Machine.{run_give, run_stop, run_take, run_pass, run_here, run_look, run_set, run_bring, run_call, run_fail}
use Rattle.std.proofs.Common.{[], ◌∷◌}
use Rattle.cr_exprs_descent.specs.Answers.{tree}
use Rattle.cr_exprs_descent.proofs.Loose.{placed_push, kept_more}
use Rattle.cr_exprs_descent.proofs.Nodes.{keeps_all, keeps_none, row_single, row_more, is_row_more, row_kept, of_row}
use Rattle.cr_exprs_descent.proofs.Runs.{exit, fails, stops, no_memory, memory, finish, handed, done_as, run_in}
use Rattle.cr_decls.proofs.Steps.{declared_shift, row_below, below_longer, kept_first}
use Rattle.cr_decls.proofs.declarations.declarators.Goals as goal

pub returns-in_err-parts-clause-reads : goal.returns-in_err-parts-clause-reads
returns-in_err-parts-clause-reads c = exit c.from_residual.result _ c.from_residual.ensures.1 (no_memory c.in_err-parts.ensures.err)

pub declarators-init : goal.declarators-init
declarators-init c = record { goes = record { on = λ y r. declared_shift c.args.depth c.args.start c.args.specifiers.next (tree c.args.nodes.now c.args.first.node) c.past-context.ensures (row_single _ _ _ c.in_ok-parts.ensures.ok) r }; keeps = keeps_none _; below = c.requires.below; kept = λ loose h. kept_first _ _ _ _ _ loose c.in_ok-parts.ensures.ok h; parts = row_below _ _ _ c.in_ok-parts.ensures.ok c.requires.specifiers; node = c.requires.node; grows = omega arith; start = c.requires.start; from = c.requires.from; to = c.requires.at }

pub returns-in_err-declare-clause-reads : goal.returns-in_err-declare-clause-reads
returns-in_err-declare-clause-reads c = exit c.from_residual-in_err-declare.result _ c.from_residual-in_err-declare.ensures.1 (no_memory c.in_err-declare.ensures.err)

pub returns-in_err-whole-clause-reads : goal.returns-in_err-whole-clause-reads
returns-in_err-whole-clause-reads c = exit c.from_residual-in_err-whole.result _ c.from_residual-in_err-whole.ensures.1 (fails (c.in_err-whole.ensures.reads.is) (λ x k h. c.declarators.invariant.goes.on _ (run_look (run_set (run_bring (run_fail (run_in c.in_ok-declare.ensures.ok h)))))))

pub returns-in_err-push-clause-reads : goal.returns-in_err-push-clause-reads
returns-in_err-push-clause-reads c = memory c.from_residual-in_err-push.result c.from_residual-in_err-push.ensures.1

pub returns-in_err-expect-clause-reads : goal.returns-in_err-expect-clause-reads
returns-in_err-expect-clause-reads c = exit c.from_residual-in_err-expect.result _ c.from_residual-in_err-expect.ensures.1 (stops c.in_err-expect.ensures.err (c.declarators.invariant.goes.on _ (run_look (run_set (run_bring (run_call (run_in c.in_ok-declare.ensures.ok c.in_ok-whole.ensures.reads.is.run) (run_pass (sym c.stands.ensures.answer ∙ c.if-not-stands.true) (run_pass c.in_err-expect.ensures.other run_stop))))))))

pub returns-then-not-stands-clause-reads : goal.returns-then-not-stands-clause-reads
returns-then-not-stands-clause-reads c = finish c.push-then-not-stands.new.nodes c.push-then-not-stands.result c.push-then-not-stands.ensures.err c.push-then-not-stands.ensures.next c.push-then-not-stands.ensures.tree (c.declarators.invariant.goes.on _ (run_look (run_set (run_bring (run_call (run_in c.in_ok-declare.ensures.ok c.in_ok-whole.ensures.reads.is.run) (run_pass (sym c.stands.ensures.answer ∙ c.if-not-stands.true) (run_take c.in_ok-expect.ensures.ok tt (run_here (done_as (of_row (row_more _ _ _ _ _ c.in_ok-whole.ensures.grown.keeps c.declarators.invariant.parts c.in_ok-push.ensures.ok)) run_give)))))))))

pub push-requires-then-not-stands-clause-parts : goal.push-requires-then-not-stands-clause-parts
push-requires-then-not-stands-clause-parts c = (is_row_more _ _ _ _ _ c.declarators.invariant.parts c.in_ok-whole.ensures.grown.keeps.longer c.in_ok-whole.ensures.grown.last c.in_ok-push.ensures.ok).below

pub returns-then-not-stands-clause-placed : goal.returns-then-not-stands-clause-placed
returns-then-not-stands-clause-placed c = placed_push c.push-then-not-stands.new.nodes (c.args.first.node ∷ c.args.specifiers.node ∷ []) _ c.push-then-not-stands.result c.push-then-not-stands.ensures.ok c.push-then-not-stands.ensures.next (omega (arith, c.declarators.invariant.start, c.in_ok-whole.ensures.grown.from)) (omega (arith, c.in_ok-expect.ensures.inside)) (keeps_all _ _ _ c.declarators.invariant.keeps c.in_ok-whole.ensures.grown.keeps) (λ loose h. kept_more _ _ _ _ _ loose c.in_ok-push.ensures.ok (c.in_ok-whole.ensures.grown.kept _ (c.declarators.invariant.kept loose h)))

pub returns-in_err-one-clause-reads : goal.returns-in_err-one-clause-reads
returns-in_err-one-clause-reads c = exit c.from_residual-in_err-one.result _ c.from_residual-in_err-one.ensures.1 (fails (rw c.past_token-context.ensures at c.in_err-one.ensures.reads.is) (λ x k h. c.declarators.invariant.goes.on _ (run_look (run_set (run_bring (run_call (run_in c.in_ok-declare.ensures.ok c.in_ok-whole.ensures.reads.is.run) (run_take (sym c.stands.ensures.answer ∙ c.if-not-stands.false) tt (handed _ (run_here (run_fail h))))))))))

pub declarators-preserved : goal.declarators-preserved
declarators-preserved c = record { goes = record { on = λ y r. c.declarators.invariant.goes.on _ (run_look (run_set (run_bring (run_call (run_in c.in_ok-declare.ensures.ok c.in_ok-whole.ensures.reads.is.run) (run_take (sym c.stands.ensures.answer ∙ c.if-not-stands.false) tt (handed y (run_here (run_call (rw c.past_token-context.ensures at c.in_ok-one.ensures.reads.is).run (declared_shift c.args.depth c.args.start (c.in_ok-whole.whole.next + 1) (tree c.named_declarator.new.nodes c.in_ok-one.one.node) c.past_token-context.ensures (row_kept _ _ _ c.in_ok-one.ensures.placed.keeps ((is_row_more _ _ _ _ _ c.declarators.invariant.parts c.in_ok-whole.ensures.grown.keeps.longer c.in_ok-whole.ensures.grown.last c.in_ok-push.ensures.ok).below) ∙ (row_more _ _ _ _ _ c.in_ok-whole.ensures.grown.keeps c.declarators.invariant.parts c.in_ok-push.ensures.ok)) r))))))))) }; keeps = keeps_all _ _ _ (keeps_all _ _ _ c.declarators.invariant.keeps c.in_ok-whole.ensures.grown.keeps) c.in_ok-one.ensures.placed.keeps; below = c.in_ok-one.ensures.placed.below; kept = λ loose h. c.in_ok-one.ensures.placed.kept _ (kept_more _ _ _ _ _ loose c.in_ok-push.ensures.ok (c.in_ok-whole.ensures.grown.kept _ (c.declarators.invariant.kept loose h))); parts = below_longer _ _ _ ((is_row_more _ _ _ _ _ c.declarators.invariant.parts c.in_ok-whole.ensures.grown.keeps.longer c.in_ok-whole.ensures.grown.last c.in_ok-push.ensures.ok).below) c.in_ok-one.ensures.placed.keeps.longer; node = c.in_ok-one.ensures.placed.last; grows = omega (arith, c.declarators.invariant.grows, c.in_ok-whole.ensures.grown.keeps.longer, c.in_ok-one.ensures.placed.grows); start = omega (arith, c.declarators.invariant.start, c.in_ok-whole.ensures.grown.from); from = c.in_ok-one.ensures.placed.from; to = c.in_ok-one.ensures.placed.to }
