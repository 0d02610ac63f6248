use Rattle.std.proofs.Common.{◌≡◌, ◌^◌, take}
use Rattle.std.specs.Prelude.{min}
use Rattle.cr_tokens.specs.Numbers.{number_of}
use Rattle.cr_tokens.proofs.number.number.Given as goal

abbrev pub invariant-loop-digit : goal.invariant-loop-digit
invariant-loop-digit l = l.value ≡ min (number_of l.radix (take l.digit-index l.digits)) (2 ^ 64)
