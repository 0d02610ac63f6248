use Rattle.std.proofs.Common.{◌^◌, FitsSigned, of_z}
use Rattle.std.proofs.lemmas.Int.{to_z-of_z}
use Rattle.std.specs.Int.{w128}
use Rattle.std.specs.Int.Signed.{shr_z}
use Rattle.cr_ints.proofs.Ranges.{represented_fits}
use Rattle.cr_ints.proofs.Quotients.{shr-represents}
use Rattle.cr_ints.proofs.arithmetic.shr.Goals as goal

pub returns-then-is_shift_count-clause-representable :
    goal.returns-then-is_shift_count-clause-representable
returns-then-is_shift_count-clause-representable c =
    let r = shr-represents c.args.kind c.args.left (2 ^ of_z w128 c.args.count) c.requires in
    let fl : FitsSigned w128 c.args.left = c.ranges.left in
    let fs = represented_fits _ _ r in
    rw (to_z-of_z w128 c.args.left fl, to_z-of_z w128 (shr_z c.args.left (2 ^ of_z w128 c.args.count)) fs) r
