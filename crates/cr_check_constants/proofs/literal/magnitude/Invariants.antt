use Rattle.std.proofs.Common.{◌≡◌, take}
use Rattle.cr_check_constants.specs.Literals.{magnitude_of}
use Rattle.cr_check_constants.proofs.literal.magnitude.Given as goal

abbrev pub invariant-loop-digit : goal.invariant-loop-digit
invariant-loop-digit l = l.value ≡ magnitude_of l.radix (take l.digit-index l.digits)
