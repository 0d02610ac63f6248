use Rattle.std.proofs.Common.{◌≡◌, ◌<◌, inl, inr, refl, arith}
use Rattle.std.specs.Prelude.{slice_index, slice_range}
use Rattle.std.proofs.lemmas.Bool.{cases_lt}
use Rattle.cr_tokens.specs.Bytes.{IsWordByte}
use Rattle.cr_tokens.specs.Words.{IsWord, word_kind_of}
use Rattle.cr_tokens.specs.Tokens.{IsToken}
use Rattle.cr_tokens.proofs.Places.{not_past, no_word_byte}
use Rattle.cr_tokens.proofs.Longest.{word_IsToken}
use Rattle.cr_tokens.proofs.word.word_at.Goals as goal

pub returns-clause-token : goal.returns-clause-token
returns-clause-token c =
    let stop : ¬ IsWordByte (slice_index c.args.file.now c.run_end-end.result) =
    not_past IsWordByte c.args.file.now c.run_end-end.result no_word_byte
    (λ lt i. absurd (cc ((c.run_end-end.ensures.stop lt).1 i))) in
    let some : c.args.at < c.run_end-end.result =
    elim (cases_lt c.args.at c.run_end-end.result) [
      | inl lt ↦ lt
      | inr ge ↦
          let same : c.run_end-end.result ≡ c.args.at = omega (arith, c.run_end-end.ensures.after) in
          absurd (stop (rw same (inl c.requires.first)))
    ] in
    let whole : IsWord c.args.file.now c.args.at c.run_end-end.result = record {
      not_empty = some;
      first = c.requires.first;
      each = λ k a b. (c.run_end-end.ensures.each k a b).0 refl;
    } in
    let token : IsToken c.args.file.now (record { kind = word_kind_of (slice_range c.args.file.now c.args.at c.run_end-end.result); start = c.args.at; end = c.run_end-end.result }) =
    word_IsToken c.args.file.now c.args.at c.run_end-end.result whole c.run_end-end.ensures.inside stop in
    rw (c.new.ensures, c.word_kind.ensures) token
