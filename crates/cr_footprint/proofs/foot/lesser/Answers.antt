use Rattle.cr_footprint.proofs.Rising.{least-lesser}
use Rattle.cr_footprint.proofs.foot.lesser.Goals as goal

pub returns-in-Some-Some : goal.returns-in-Some-Some
returns-in-Some-Some c = λ p q at_first at_second.
    least-lesser p q c.args.first c.args.second c.in-Some-Some.a c.in-Some-Some.b c.min.result c.in-Some-Some.is-0 c.in-Some-Some.is-1 c.min.ensures at_first at_second
