use Rattle.std.proofs.Common.{ap₂, ◌∙◌}
use Rattle.std.proofs.lemmas.Int.{to_z-of_z}
use Rattle.std.specs.Int.{w128}
use Rattle.std.specs.Prelude.{bit_and}
use Rattle.cr_ints.specs.Bits.{of_bits}
use Rattle.cr_ints.proofs.Ranges.{represented_fits}
use Rattle.cr_ints.proofs.bits.bitand.Goals as goal

pub returns-clause-value : goal.returns-clause-value
returns-clause-value c =
    let l = rw (to_z-of_z w128 c.args.left c.ranges.left) at c.bits.ensures.value in
    let r = rw (to_z-of_z w128 c.args.right c.ranges.right) at c.bits-2.ensures.value in
    to_z-of_z w128 _ (represented_fits _ _ c.of_bits.ensures.representable) ∙ c.of_bits.ensures.value
    ∙ ap₂ (λ m n. of_bits c.args.kind (bit_and m n)) l r
