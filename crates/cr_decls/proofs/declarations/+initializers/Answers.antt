use Rattle.std.proofs.Common.{refl, sym, ◌∙◌, arith, rules}
use Rattle.cr_syntax_machine.specs.Machine.{plain, opens, call, give, made, run_give, run_stop, run_take, run_deep, run_pass, run_bar, run_free, run_seen, run_unseen, run_yes, run_no, run_here, run_look, run_set, run_bring, run_call, run_fail}
use Rattle.cr_syntax_machine.specs.Machine as m
use Rattle.cr_syntax_machine.specs.MachineBody.{body}
use Rattle.std.proofs.Common.{[]}
use Rattle.cr_exprs_descent.proofs.Loose.{placed_push, kept_row, kept_more}
use Rattle.cr_exprs_descent.proofs.Nodes.{keeps_all, keeps_none, below_empty, row_empty, row_more, is_row_more, of_row}
use Rattle.cr_exprs_descent.proofs.Runs.{exit, fails, stops, deep, memory, finish, through, handed, shift, done_as, no_room}
use Rattle.cr_decls.proofs.declarations.+initializers.Goals as goal

pub initializer-returns-in_err-bar_designator-clause-reads : goal.initializer-returns-in_err-bar_designator-clause-reads
initializer-returns-in_err-bar_designator-clause-reads t c = exit c.from_residual.result _ c.from_residual.ensures.1 (stops c.in_err-bar_designator.ensures.err (run_here (run_bar c.in_err-bar_designator.ensures.stands)))

pub initializer-returns-then-not-stands-clause-reads : goal.initializer-returns-then-not-stands-clause-reads
initializer-returns-then-not-stands-clause-reads t c = through c.read.result (λ y h. run_here (run_free c.in_ok-bar_designator.ensures.ok (run_pass (sym c.stands.ensures.answer ∙ c.if-not-stands.true) (handed y h)))) c.read.ensures.reads

pub initializer-returns-in_err-room-clause-reads : goal.initializer-returns-in_err-room-clause-reads
initializer-returns-in_err-room-clause-reads t c = exit c.from_residual-in_err-room.result _ c.from_residual-in_err-room.ensures.1 (deep c.in_err-room.ensures.err (run_here (run_free c.in_ok-bar_designator.ensures.ok (run_deep (sym c.stands.ensures.answer ∙ c.if-not-stands.false) (no_room c.in_err-room.ensures.full)))))

pub initializer-returns-clause-reads : goal.initializer-returns-clause-reads
initializer-returns-clause-reads t c = through c.initializers.result (λ y h. run_here (run_free c.in_ok-bar_designator.ensures.ok (run_take (sym c.stands.ensures.answer ∙ c.if-not-stands.false) c.in_ok-room.ensures.ok (handed y h)))) c.initializers.ensures.reads

pub initializers-initializers-init : goal.initializers-initializers-init
initializers-initializers-init t c = record { goes = record { on = λ y r. shift (λ u. body (m.initializers c.args.depth c.args.start u)) (row_empty _ _ c.new-parts.ensures) refl r }; keeps = keeps_none _; below = c.requires.below; kept = λ loose h. kept_row _ _ _ _ loose c.new-parts.ensures h; parts = below_empty _ _ c.new-parts.ensures; from = omega arith; to = omega arith }

pub initializers-returns-in_err-one-clause-reads : goal.initializers-returns-in_err-one-clause-reads
initializers-returns-in_err-one-clause-reads t c = exit c.from_residual.result _ c.from_residual.ensures.1 (fails (c.in_err-one.ensures.reads.is) (λ x k h. c.initializers.invariant.goes.on _ (run_fail h)))

pub initializers-returns-in_err-push-clause-reads : goal.initializers-returns-in_err-push-clause-reads
initializers-returns-in_err-push-clause-reads t c = memory c.from_residual-in_err-push.result c.from_residual-in_err-push.ensures.1

pub initializers-returns-in_err-expect-clause-reads : goal.initializers-returns-in_err-expect-clause-reads
initializers-returns-in_err-expect-clause-reads t c = exit c.from_residual-in_err-expect.result _ c.from_residual-in_err-expect.ensures.1 (stops c.in_err-expect.ensures.err (c.initializers.invariant.goes.on _ (run_call c.in_ok-one.ensures.reads.is.run (run_pass (sym c.stands.ensures.answer ∙ c.if-not-stands.true) (run_pass c.in_err-expect.ensures.other run_stop)))))

pub initializers-returns-then-not-stands-clause-reads : goal.initializers-returns-then-not-stands-clause-reads
initializers-returns-then-not-stands-clause-reads t c = finish c.push-then-not-stands.new.nodes c.push-then-not-stands.result c.push-then-not-stands.ensures.err c.push-then-not-stands.ensures.next c.push-then-not-stands.ensures.tree (c.initializers.invariant.goes.on _ (run_call c.in_ok-one.ensures.reads.is.run (run_pass (sym c.stands.ensures.answer ∙ c.if-not-stands.true) (run_take c.in_ok-expect.ensures.ok tt (run_here (done_as (of_row (row_more _ _ _ _ _ c.in_ok-one.ensures.placed.keeps c.initializers.invariant.parts c.in_ok-push.ensures.ok)) run_give))))))

pub initializers-push-requires-then-not-stands-clause-parts : goal.initializers-push-requires-then-not-stands-clause-parts
initializers-push-requires-then-not-stands-clause-parts t c = (is_row_more _ _ _ _ _ c.initializers.invariant.parts c.in_ok-one.ensures.placed.keeps.longer c.in_ok-one.ensures.placed.last c.in_ok-push.ensures.ok).below

pub initializers-returns-then-not-stands-clause-placed : goal.initializers-returns-then-not-stands-clause-placed
initializers-returns-then-not-stands-clause-placed t c = placed_push c.push-then-not-stands.new.nodes [] _ c.push-then-not-stands.result c.push-then-not-stands.ensures.ok c.push-then-not-stands.ensures.next (omega (arith, c.initializers.invariant.from, c.in_ok-one.ensures.placed.from)) (omega (arith, c.in_ok-expect.ensures.inside)) (keeps_all _ _ _ c.initializers.invariant.keeps c.in_ok-one.ensures.placed.keeps) (λ loose h. kept_more _ _ _ _ _ loose c.in_ok-push.ensures.ok (c.in_ok-one.ensures.placed.kept _ (c.initializers.invariant.kept loose h)))

pub initializers-returns-then-stands-clause-reads : goal.initializers-returns-then-stands-clause-reads
initializers-returns-then-stands-clause-reads t c = finish c.push-then-stands.new.nodes c.push-then-stands.result c.push-then-stands.ensures.err c.push-then-stands.ensures.next c.push-then-stands.ensures.tree (c.initializers.invariant.goes.on _ (run_call c.in_ok-one.ensures.reads.is.run (run_take (sym c.stands.ensures.answer ∙ c.if-not-stands.false) tt (run_take (sym c.stands-in-initializers.ensures.answer ∙ c.if-stands.true) tt (run_here (done_as (of_row (row_more _ _ _ _ _ c.in_ok-one.ensures.placed.keeps c.initializers.invariant.parts c.in_ok-push.ensures.ok)) run_give))))))

pub initializers-push-requires-then-stands-clause-parts : goal.initializers-push-requires-then-stands-clause-parts
initializers-push-requires-then-stands-clause-parts t c = (is_row_more _ _ _ _ _ c.initializers.invariant.parts c.in_ok-one.ensures.placed.keeps.longer c.in_ok-one.ensures.placed.last c.in_ok-push.ensures.ok).below

pub initializers-returns-then-stands-clause-placed : goal.initializers-returns-then-stands-clause-placed
initializers-returns-then-stands-clause-placed t c = placed_push c.push-then-stands.new.nodes [] _ c.push-then-stands.result c.push-then-stands.ensures.ok c.push-then-stands.ensures.next (omega (arith, c.initializers.invariant.from, c.in_ok-one.ensures.placed.from)) (search rules) (keeps_all _ _ _ c.initializers.invariant.keeps c.in_ok-one.ensures.placed.keeps) (λ loose h. kept_more _ _ _ _ _ loose c.in_ok-push.ensures.ok (c.in_ok-one.ensures.placed.kept _ (c.initializers.invariant.kept loose h)))

pub initializers-initializers-preserved : goal.initializers-initializers-preserved
initializers-initializers-preserved t c = record { goes = record { on = λ y r. c.initializers.invariant.goes.on y (run_call c.in_ok-one.ensures.reads.is.run (run_take (sym c.stands.ensures.answer ∙ c.if-not-stands.false) tt (run_pass (sym c.stands-in-initializers.ensures.answer ∙ c.if-stands.false) (handed y (shift (λ u. body (m.initializers c.args.depth c.args.start u)) (row_more _ _ _ _ _ c.in_ok-one.ensures.placed.keeps c.initializers.invariant.parts c.in_ok-push.ensures.ok) refl r))))) }; keeps = keeps_all _ _ _ c.initializers.invariant.keeps c.in_ok-one.ensures.placed.keeps; below = c.in_ok-one.ensures.placed.below; kept = λ loose h. kept_more _ _ _ _ _ loose c.in_ok-push.ensures.ok (c.in_ok-one.ensures.placed.kept _ (c.initializers.invariant.kept loose h)); parts = (is_row_more _ _ _ _ _ c.initializers.invariant.parts c.in_ok-one.ensures.placed.keeps.longer c.in_ok-one.ensures.placed.last c.in_ok-push.ensures.ok).below; from = omega (arith, c.initializers.invariant.from, c.in_ok-one.ensures.placed.from); to = search rules }
