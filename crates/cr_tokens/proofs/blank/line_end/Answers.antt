use Rattle.std.proofs.Common.{inl, inr, length, refl, arith}
use Rattle.std.specs.Prelude.{slice_index}
use Rattle.std.proofs.lemmas.Bool.{cases_lt, cases_eq}
use Rattle.cr_tokens.proofs.blank.line_end.Goals as goal

pub returns : goal.returns
returns c = record {
  after = c.run_end.ensures.after;
  inside = c.run_end.ensures.inside;
  each = λ k a b. (c.run_end.ensures.each k a b).0 refl;
  end = elim (cases_lt c.run_end.result (length c.args.file.now)) [
    | inl lt ↦ elim (cases_eq (slice_index c.args.file.now c.run_end.result) 10) [
      | inl e ↦ inr e
      | inr ne ↦ absurd (cc ((c.run_end.ensures.stop lt).1 ne))
    ]
    | inr ge ↦ inl (omega (arith, c.run_end.ensures.inside))
  ];
}
