use Rattle.std.proofs.Common.{◌≡◌, ◌∙◌, ap, subst}
use Rattle.std.specs.Prelude.{ℕ, List, Option}
use Rattle.cr_meaning.specs.World.{Program}
use Rattle.cr_meaning_loose.specs.Lists.{around}
use Rattle.cr_meaning_operations.specs.Operations.{program_of}
use Rattle.cr_eval.specs.Table.{program_of as program_in}
use Rattle.cr_exec_outcome.proofs.Same.{means_the_same, same_program}
use Rattle.cr_order_watch.specs.Judged.{IsJudged}
use Rattle.cr_order.proofs.judged.outcome_judged.Goals as goal

pub returns-in-Ok-outer_of-clause-comes : goal.returns-in-Ok-outer_of-clause-comes
returns-in-Ok-outer_of-clause-comes g c = λ come.
    means_the_same (program_in c.in-Ok.table) (program_of c.args.typed.now c.args.limits) c.run_judged.result.0 c.in-Ok.ensures (c.run_judged.ensures.meant come)

pub returns-in-Ok-outer_of-clause-judged : goal.returns-in-Ok-outer_of-clause-judged
returns-in-Ok-outer_of-clause-judged g c = λ come.
    let F : Program → Type 0 = λ p. IsJudged p (around c.as_slice.result.now) c.run_judged.result.0 c.run_judged.result.1 in
    let G : List (Option ℕ) → Type 0 = λ l. IsJudged (program_of c.args.typed.now c.args.limits) (around l) c.run_judged.result.0 c.run_judged.result.1 in
    subst G (c.as_slice.ensures.value ∙ c.in-Ok-outer_of.ensures)
    (subst F (same_program (program_in c.in-Ok.table) (program_of c.args.typed.now c.args.limits) c.in-Ok.ensures) (c.run_judged.ensures.judged come))
