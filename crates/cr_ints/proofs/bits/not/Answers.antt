use Rattle.std.proofs.Common.{ap, ap₂, ◌∙◌, ◌-◌, rules, FitsSigned}
use Rattle.std.proofs.lemmas.Int.{to_z-of_z}
use Rattle.std.specs.Int.{w128}
use Rattle.std.specs.Prelude.{unsigned_abs}
use Rattle.cr_ints.specs.IntKind.{greatest_of}
use Rattle.cr_ints.specs.Bits.{of_bits}
use Rattle.cr_ints.proofs.Ranges.{represented_fits}
use Rattle.cr_ints.proofs.bits.not.Goals as goal

pub returns-clause-value : goal.returns-clause-value
returns-clause-value c =
    let v = rw (to_z-of_z w128 c.args.value c.ranges.value) at c.bits.ensures.value in
    let f : FitsSigned w128 c.greatest-greatest.result = search rules in
    let g = to_z-of_z w128 _ f ∙ c.greatest-greatest.ensures ∙ ap greatest_of c.to_unsigned.ensures in
    to_z-of_z w128 _ (represented_fits _ _ c.of_bits.ensures.representable) ∙ c.of_bits.ensures.value
    ∙ ap₂ (λ z n. of_bits c.args.kind (unsigned_abs z - n)) g v
