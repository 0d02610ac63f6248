use Rattle.std.proofs.Common.{subst, sym}
use Rattle.cr_lawful.specs.Runs.{ComesToEnd, EndsAs}
use Rattle.cr_lawful.proofs.Endings.{lawful_ends}
use Rattle.cr_formula_bound.proofs.bound.Bound.bind.Goals as goal

pub invariant_of-result : goal.invariant_of-result
invariant_of-result c =
    let end = c.in-Some.end in
    record {
      ended = subst (λ bytes. ComesToEnd c.args.limits bytes end.status end.output) c.as_slice.ensures.value
          (subst (EndsAs (ComesToEnd c.args.limits c.as_slice.result.now)) c.in-Some.is c.in-Ok.ensures);
    }

pub unreachable-requires : goal.unreachable-requires
unreachable-requires c =
    let it = lawful_ends c.args.limits c.args.input.items c.requires in
    let none = subst (EndsAs (ComesToEnd c.args.limits c.as_slice.result.now)) c.in-None.is c.in-Ok.ensures in
    none it.0 it.1 (subst (λ bytes. ComesToEnd c.args.limits bytes it.0 it.1) (sym c.as_slice.ensures.value) it.2)
