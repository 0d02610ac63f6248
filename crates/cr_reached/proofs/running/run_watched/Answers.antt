use Rattle.std.proofs.Common.{subst, sym}
use Rattle.std.specs.Prelude.{Bool}
use Rattle.cr_eval.specs.Table.{program_of}
use Rattle.cr_meaning_loose.specs.Lists.{around}
use Rattle.cr_order.specs.Orders.{outer_of}
use Rattle.cr_reached.specs.Reached.{IsJudgedIf}
use Rattle.cr_reached.proofs.running.run_watched.Goals as goal

pub returns-then-any_order-clause-judged : goal.returns-then-any_order-clause-judged
returns-then-any_order-clause-judged g c = λ come.
    let F : Bool → Type 0 = λ b. IsJudgedIf b (program_of c.args.table.now) (around (outer_of c.args.typed.now)) c.run_in_order.result.0 c.run_in_order.result.1 in
    subst F (sym c.if-any_order.true) (c.run_in_order.ensures.judged come)

pub returns-else-any_order-clause-judged : goal.returns-else-any_order-clause-judged
returns-else-any_order-clause-judged g c = λ come.
    let F : Bool → Type 0 = λ b. IsJudgedIf b (program_of c.args.table.now) (around (outer_of c.args.typed.now)) c.run_alone.result.0 c.run_alone.result.1 in
    subst F (sym c.if-any_order.false) c.run_alone.ensures.unjudged
