use Rattle.std.proofs.Common.{◌≡◌, inl, inr, ap, sym, ◌∙◌, arith, slice_index_or}
use Rattle.std.proofs.lemmas.Bool.{cases_lt}
use Rattle.cr_check_types.specs.Types.{type_at}
use Rattle.cr_check_types.specs.Relations.{are_compatible}
use Rattle.cr_check_types.proofs.Itself.{itself}
use Rattle.cr_meaning_operations.specs.Shapes.{unqualified}
use Rattle.cr_exec_shapes.specs.Open.{is_array}
use Rattle.cr_exec_shapes.proofs.Listed.{is_before, none_alike, arrays_apart}
use Rattle.cr_exec_shapes.proofs.names.first_alike.Goals as goal

pub loop-at-preserved : goal.loop-at-preserved
loop-at-preserved c = λ k lt. elim (cases_lt k c.loop-at.at) [
  | inl older ↦ c.loop-at.invariant k older
  | inr newest ↦
      let is : k ≡ c.loop-at.at = omega (arith, lt, newest) in
      ap (λ i. are_compatible (unqualified (type_at c.args.table.now (slice_index_or c.args.arrays.now i 0))) (unqualified (type_at c.args.table.now c.args.row))) is
      ∙ sym c.are_alike.ensures ∙ c.if-are_alike.false
]

pub returns-then-are_alike : goal.returns-then-are_alike
returns-then-are_alike c =
    let t = c.args.table.now in
    let rows = c.args.arrays.now in
    let own = type_at t c.args.row in
    let at = c.loop-at.at in
    let there = c.loop-at-test.true in
    let below = c.requires.arrays.below at there in
    record {
      is = sym c.are_alike.ensures ∙ c.if-are_alike.true;
      within = omega (arith, below);
      first = λ other lt. none_alike is_array (λ type. are_compatible (unqualified type) (unqualified own)) t rows c.args.row at c.requires.arrays
          (λ type not. arrays_apart type own c.requires.array not) c.loop-at.invariant other (omega (arith, lt, below))
          (λ k within is. is_before is_array t rows c.args.row at k c.requires.arrays there within (omega (arith, is, lt)));
    }

pub returns : goal.returns
returns c =
    let t = c.args.table.now in
    let rows = c.args.arrays.now in
    let own = type_at t c.args.row in
    let past = c.loop-at-test.false in
    record {
      is = itself (unqualified own);
      within = omega arith;
      first = λ other lt. none_alike is_array (λ type. are_compatible (unqualified type) (unqualified own)) t rows c.args.row c.loop-at.at c.requires.arrays
          (λ type not. arrays_apart type own c.requires.array not) c.loop-at.invariant other lt (λ k within is. omega (arith, within, past));
    }
