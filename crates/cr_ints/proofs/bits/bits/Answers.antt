use Rattle.std.proofs.Common.{ap, ◌∙◌}
use Rattle.std.proofs.lemmas.Int.{to_z-of_z}
use Rattle.std.specs.Int.{w128}
use Rattle.std.specs.Prelude.{unsigned_abs}
use Rattle.cr_ints.specs.Conversions.{convert_of}
use Rattle.cr_ints.proofs.Ranges.{represented_fits}
use Rattle.cr_ints.proofs.bits.bits.Goals as goal

pub returns-clause-value : goal.returns-clause-value
returns-clause-value c =
    let e = rw (to_z-of_z w128 c.args.value c.ranges.value) at c.convert.ensures.value in
    let f = represented_fits _ _ c.convert.ensures.representable in
    ap unsigned_abs (to_z-of_z w128 _ f ∙ e ∙ ap (convert_of c.args.value) c.to_unsigned.ensures)
