use Rattle.std.proofs.Common.{sym, ap, ◌∙◌, arith}
use Rattle.cr_memory.specs.Flat.{living_in}
use Rattle.cr_memory.proofs.Living.{few_live, counted}
use Rattle.cr_memory.proofs.spans.Spans.living.Goals as goal

pub overflow_cast-result : goal.overflow_cast-result
overflow_cast-result c = omega (arith, few_live c.self.inside.entered c.self.inside.living.items c.self.invariant, c.self.invariant.few)

pub returns : goal.returns
returns c =
    let all = sym (ap living_in c.self.view_is) ∙ counted c.self.inside.entered c.self.inside.living.items c.self.invariant in
    omega arith
