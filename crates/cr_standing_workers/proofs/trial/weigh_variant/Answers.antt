use Rattle.cr_standing_workers.specs.Told.{searching_by}
use Rattle.cr_standing_workers.proofs.Judges.{smaller_than, weighed_large}
use Rattle.cr_standing_workers.proofs.trial.weigh_variant.Goals as goal

pub returns-in-Ok-None : goal.returns-in-Ok-None
returns-in-Ok-None g c = λ file sized.
    let s = searching_by g.P.Passes g.L.Law g.Q.Question c.args.task.now g.S.Subject.told in
    weighed_large s file c.args.variant.now c.args.size sized (c.in-Ok-None.ensures.large cc)

pub returns-in-Ok-Some : goal.returns-in-Ok-Some
returns-in-Ok-Some g c = λ file sized.
    let it = (c.in-Ok-Some.ensures.below c.in-Ok-Some.tokens cc).1 in
    c.weigh_smaller.ensures file (smaller_than file c.args.variant.now c.args.size it.0 sized it.1 it.2)
