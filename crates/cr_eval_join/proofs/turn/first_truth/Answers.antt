use Rattle.std.proofs.Common.{None, sym, ◌∙◌}
use Rattle.cr_eval_join.proofs.Turning.{truth_at, no_truth}
use Rattle.cr_eval_join.proofs.turn.first_truth.Goals as goal

pub returns-in-Some : goal.returns-in-Some
returns-in-Some c = λ answer is.
    truth_at c.args.done.now answer c.in-Some.part.now is c.in-Some.ensures.value ∙ sym c.truth_of.ensures

pub returns-in-None : goal.returns-in-None
returns-in-None c = λ answer is. no_truth c.args.done.now answer None is c.in-None.ensures.value
