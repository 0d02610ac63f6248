use Rattle.std.proofs.Common.{◌≡◌, ℕ, ◌+◌, List, arith}
use Rattle.std.specs.Prelude.{slice_index}
use Rattle.cr_tokens.specs.Bytes.{IsOctalDigit}
use Rattle.cr_tokens.specs.Literals.{IsOctalEscape}
use Rattle.cr_tokens.proofs.Places.{not_past, no_octal_digit}
use Rattle.cr_tokens.proofs.literal.octal_escape_end.Goals as goal

-- where no octal digit follows there is no octal escape sequence
none_there : (file : List ℕ) (at to : ℕ) → ¬ IsOctalDigit (slice_index file (at + 1)) → ¬ IsOctalEscape file at to
none_there file at to h x = h (x.digits (at + 1) (omega arith) (omega (arith, x.some)))

pub returns-then-end-at-clause-none : goal.returns-then-end-at-clause-none
returns-then-end-at-clause-none c to =
    let at_once : c.run_end.result ≡ c.args.at + 1 = omega (arith, c.run_end.ensures.after) in
    let no_digit : ¬ IsOctalDigit (slice_index c.args.file.now c.run_end.result) =
    not_past IsOctalDigit c.args.file.now c.run_end.result no_octal_digit
    (λ lt i. absurd (cc ((c.run_end.ensures.stop lt).1 i))) in
    none_there c.args.file.now c.args.at to (rw at_once at no_digit)
