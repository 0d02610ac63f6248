use Rattle.std.proofs.Common.{◌≡◌, ◌⊎◌, inl, inr, ◌+◌, refl, arith}
use Rattle.std.specs.Prelude.{slice_index}
use Rattle.cr_tokens.specs.Bytes.{IsIndent, IsDigit}
use Rattle.cr_tokens.specs.Blanks.{IsPragma}
use Rattle.cr_tokens.proofs.Places.{each_end, not_past, no_indent}
use Rattle.cr_tokens.proofs.Firsts.{no_indent_first}
use Rattle.cr_tokens.proofs.blank.begins_skipped.Goals as goal

pub returns-else-is_digit : goal.returns-else-is_digit
returns-else-is_digit c = (
  λ p. record {
    hash = c.requires.hash;
    first = c.stands_first.ensures.0 (cc);
    next = c.run_end-next.result;
    after = omega arith;
    indents = λ k a b. (c.run_end-next.ensures.each k a b).0 refl;
    follows = inr (c.is_pragma.ensures.0 p);
  },
  λ s.
      let stop : ¬ IsIndent (slice_index c.args.file.now c.run_end-next.result) =
      not_past IsIndent c.args.file.now c.run_end-next.result no_indent
      (λ lt i. absurd (cc ((c.run_end-next.ensures.stop lt).1 i))) in
      let same : s.next ≡ c.run_end-next.result =
      each_end IsIndent c.args.file.now (c.args.at + 1) s.next c.run_end-next.result s.indents
      (λ k a b. (c.run_end-next.ensures.each k a b).0 refl) (omega arith) c.run_end-next.ensures.after
      (no_indent_first c.args.file.now s.next s.follows) stop in
      let follows : IsDigit (slice_index c.args.file.now c.run_end-next.result) ⊎ IsPragma c.args.file.now c.run_end-next.result =
      rw same at s.follows in
      elim follows [ inl d ↦ absurd (cc (c.is_digit.ensures.1 (rw c.byte_at.ensures d))) | inr p ↦ c.is_pragma.ensures.1 p ],
)
