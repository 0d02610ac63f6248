use Rattle.cr_eval.specs.Table.{program_of}
use Rattle.cr_reached.proofs.Evaluating.{marked_by}
use Rattle.cr_reached.proofs.running.run_alone.Goals as goal

pub returns-clause-marked : goal.returns-clause-marked
returns-clause-marked g c = λ come. marked_by (program_of c.args.table.now) c.run_seen-run.result.0 c.run_seen-run.result.1.began.items (c.run_seen-run.ensures.seen come)
