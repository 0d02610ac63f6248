use Rattle.cr_exec_shapes.proofs.elements.product.Goals as goal

pub returns-in-Some : goal.returns-in-Some
returns-in-Some c = λ rest whole h. c.times.ensures rest whole (rw c.in-Some.is at h)
