use Rattle.cr_meaning_operations.specs.Operations.{program_of}
use Rattle.cr_eval.specs.Table.{program_of as program_in}
use Rattle.cr_exec_outcome.proofs.Same.{means_the_same}
use Rattle.cr_exec_outcome.proofs.running.outcome.Goals as goal

pub returns-in-Ok-clause-comes : goal.returns-in-Ok-clause-comes
returns-in-Ok-clause-comes g c = λ come.
    means_the_same (program_in c.in-Ok.table) (program_of c.args.typed.now c.args.limits) c.run.result c.in-Ok.ensures (c.run.ensures.meant come)
