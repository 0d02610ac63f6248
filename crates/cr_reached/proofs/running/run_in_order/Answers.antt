use Rattle.std.proofs.Common.{◌∙◌, subst}
use Rattle.std.specs.Prelude.{ℕ, List, Option}
use Rattle.cr_eval.specs.Table.{program_of}
use Rattle.cr_meaning_loose.specs.Lists.{around}
use Rattle.cr_order_watch.specs.Judged.{IsJudged}
use Rattle.cr_reached.proofs.Evaluating.{marked_by}
use Rattle.cr_reached.proofs.running.run_in_order.Goals as goal

pub returns-in-Ok-clause-judged : goal.returns-in-Ok-clause-judged
returns-in-Ok-clause-judged g c = λ come.
    let F : List (Option ℕ) → Type 0 = λ l. IsJudged (program_of c.args.table.now) (around l) c.run_judged_beside.result.0 c.run_judged_beside.result.1 in
    subst F (c.as_slice.ensures.value ∙ c.in-Ok.ensures) (c.run_judged_beside.ensures.judged come)

pub returns-in-Ok-clause-marked : goal.returns-in-Ok-clause-marked
returns-in-Ok-clause-marked g c = λ come.
    marked_by (program_of c.args.table.now) c.run_judged_beside.result.0 c.run_judged_beside.result.2.began.items (c.run_judged_beside.ensures.seen come)
