use Rattle.std.proofs.Common.{ap, sym, ◌∙◌, lit<, ℤ, ◌*ℤ◌, ◌≡◌, ◌^◌, FitsSigned, to_z, of_z}
use Rattle.std.proofs.lemmas.Int.{to_z-of_z, fits_signed_mul}
use Rattle.std.specs.Int.{w128}
use Rattle.cr_ints.specs.Operations.{end_of}
use Rattle.cr_ints.proofs.Ranges.{represented_fits, signed_size}
use Rattle.cr_ints.proofs.arithmetic.mul.Goals as goal

-- the code's product of two numbers, where these and it fit
product : (left right : ℤ) → FitsSigned w128 left → FitsSigned w128 right → FitsSigned w128 (left *ℤ right)
    → to_z w128 (of_z w128 (to_z w128 (of_z w128 left) *ℤ to_z w128 (of_z w128 right))) ≡ left *ℤ right
product left right fl fr fp = rw (to_z-of_z w128 left fl, to_z-of_z w128 right fr) (to_z-of_z w128 (left *ℤ right) fp)

pub returns-then-is_signed-clause-value : goal.returns-then-is_signed-clause-value
returns-then-is_signed-clause-value c =
    let signed = sym c.is_signed.ensures ∙ c.if-is_signed.true in
    let l = c.requires.left in
    let r = c.requires.right in
    let fits = fits_signed_mul w128 c.args.left c.args.right (2 ^ 63) (2 ^ 63) (signed_size _ _ signed l) (signed_size _ _ signed r) (lit< tt) in
    c.end_of.ensures.value ∙ ap (end_of c.args.kind) (product _ _ (represented_fits _ _ l) (represented_fits _ _ r) fits)
