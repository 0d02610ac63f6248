use Rattle.std.proofs.Common.{List, ap}
use Rattle.cr_reduce.specs.Bench.{judging_of}
use Rattle.cr_main.specs.More.RunsAsked.{reduces}
use Rattle.cr_main.specs.Task.Query.{by_test}
use Rattle.cr_main.proofs.asked.run_by_test.Goals as goal

pub run_in_modes-requires-clause-limits : goal.run_in_modes-requires-clause-limits
run_in_modes-requires-clause-limits g c = λ sends shares. c.with_steps-law.ensures.limits

pub run_in_modes-requires-clause-binds : goal.run_in_modes-requires-clause-binds
run_in_modes-requires-clause-binds g c = λ sends shares bytes lawful. tt

pub returns-clause-runs : goal.returns-clause-runs
returns-clause-runs g c =
    let it = c.run_in_modes.ensures.runs in
    reduces by_test it.0 c.requires.no_formula it.1 (λ quiet. ap (λ (js : List g.row.J.Denot). judging_of g.J.Judge js) (c.run_in_modes.ensures.silent quiet)) it.2

pub returns-clause-others : goal.returns-clause-others
returns-clause-others g c = c.run_in_modes.ensures.others

pub returns-clause-silent : goal.returns-clause-silent
returns-clause-silent g c = c.run_in_modes.ensures.silent
