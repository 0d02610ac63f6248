use Rattle.std.proofs.Common.{◌*◌, ◌∙◌, ap}
use Rattle.std.proofs.Math.Nat.{mul_assoc}
use Rattle.cr_exec_shapes.proofs.elements.times.Goals as goal

pub returns-in-Some : goal.returns-in-Some
returns-in-Some c = λ rest whole h. ap (λ all. all * rest) c.in-Some.ensures.1 ∙ mul_assoc c.args.count c.args.n rest ∙ h
