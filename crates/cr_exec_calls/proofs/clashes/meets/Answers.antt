use Rattle.cr_footprint.specs.Foot.{sets}
use Rattle.cr_exec_calls.proofs.Clashing.{match_by, meets_first, meets_second}
use Rattle.cr_exec_calls.proofs.clashes.meets.Goals as goal

pub returns-then-hits : goal.returns-then-hits
returns-then-hits c =
    match_by c.hits.result (λ e. meets_first (sets c.args.left.now) (sets c.args.right.now) c.if-hits.ensures) (λ e. absurd (cc (e, c.if-hits.true)))

pub returns-else-hits : goal.returns-else-hits
returns-else-hits c =
    meets_second (sets c.args.left.now) (sets c.args.right.now) c.hits-else-hits.result c.if-hits.ensures c.hits-else-hits.ensures
