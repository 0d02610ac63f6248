use Rattle.std.proofs.Common.{Ok, ap, ◌∙◌}
use Rattle.std.specs.Result.{result_and}
use Rattle.cr_footprint.proofs.foot.Foot.own_reads.Goals as goal

pub returns-in-Err-clause-conflict : goal.returns-in-Err-clause-conflict
returns-in-Err-clause-conflict c = λ o k same. c.read_span.ensures.conflict o k (c.in-Err.is ∙ ap (λ r. result_and r (Ok tt)) same)
