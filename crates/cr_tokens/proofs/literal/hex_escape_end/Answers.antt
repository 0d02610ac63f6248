use Rattle.std.proofs.Common.{◌≡◌, ◌+◌, refl, arith}
use Rattle.cr_tokens.specs.Bytes.{IsHexDigit}
use Rattle.cr_tokens.proofs.Places.{each_end, not_past, no_hex_digit}
use Rattle.cr_tokens.proofs.literal.hex_escape_end.Goals as goal

pub returns-then-end-at-clause-none : goal.returns-then-end-at-clause-none
returns-then-end-at-clause-none c to x =
    let same : to ≡ c.run_end-end.result =
    each_end IsHexDigit c.args.file.now (c.args.at + 2) to c.run_end-end.result x.digits
    (λ k a b. (c.run_end-end.ensures.each k a b).0 refl) (omega (arith, x.some)) c.run_end-end.ensures.after x.longest
    (not_past IsHexDigit c.args.file.now c.run_end-end.result no_hex_digit
    (λ lt i. absurd (cc ((c.run_end-end.ensures.stop lt).1 i)))) in
    absurd (omega (arith, same, x.some))
