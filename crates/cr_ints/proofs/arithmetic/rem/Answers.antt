use Rattle.std.proofs.Common.{rules, FitsSigned}
use Rattle.std.proofs.lemmas.Int.{to_z-of_z}
use Rattle.std.specs.Int.{w128}
use Rattle.cr_ints.proofs.Ranges.{represented_integer}
use Rattle.cr_ints.proofs.Quotients.{rem-represents}
use Rattle.cr_ints.proofs.arithmetic.rem.Goals as goal

pub remainder-requires-clause-left : goal.remainder-requires-clause-left
remainder-requires-clause-left c = search (rules, represented_integer)

pub remainder-requires-clause-right : goal.remainder-requires-clause-right
remainder-requires-clause-right c = search (rules, represented_integer)

pub returns-then-can_represent-clause-representable :
    goal.returns-then-can_represent-clause-representable
returns-then-can_represent-clause-representable c =
    let e = rw (to_z-of_z w128 c.args.left c.ranges.left, to_z-of_z w128 c.args.right c.ranges.right) at c.remainder.ensures in
    let fits : FitsSigned w128 c.remainder.result = search rules in
    rw (to_z-of_z w128 c.remainder.result fits, e) (rem-represents c.args.kind c.args.left c.args.right c.requires.left)
