use Rattle.std.proofs.Common.{◌≡◌, inl, inr, ap, sym, ◌∙◌, arith, slice_index_or}
use Rattle.std.proofs.lemmas.Bool.{cases_lt}
use Rattle.cr_check_types.specs.Types.{type_at}
use Rattle.cr_check_types.specs.Relations.{are_compatible}
use Rattle.cr_check_types.proofs.Itself.{itself}
use Rattle.cr_exec_shapes.specs.Open.{is_open}
use Rattle.cr_exec_shapes.proofs.Listed.{is_before, none_before}
use Rattle.cr_exec_shapes.proofs.numbers.first.Goals as goal

pub loop-at-preserved : goal.loop-at-preserved
loop-at-preserved c = λ k lt. elim (cases_lt k c.loop-at.at) [
  | inl older ↦ c.loop-at.invariant k older
  | inr newest ↦
      let is : k ≡ c.loop-at.at = omega (arith, lt, newest) in
      ap (λ i. are_compatible (type_at c.args.table.now (slice_index_or c.args.open_rows.now i 0)) (type_at c.args.table.now c.args.row)) is
      ∙ sym c.are_compatible.ensures ∙ c.if-are_compatible.false
]

pub returns-then-are_compatible : goal.returns-then-are_compatible
returns-then-are_compatible c =
    let t = c.args.table.now in
    let rows = c.args.open_rows.now in
    let at = c.loop-at.at in
    let there = c.loop-at-test.true in
    let below = c.requires.listed.below at there in
    record {
      is = sym c.are_compatible.ensures ∙ c.if-are_compatible.true;
      within = omega (arith, below);
      first = λ other lt. none_before t rows c.args.row at c.is_canonical.ensures c.requires.listed c.requires.within
          (sym c.requires.own ∙ c.if-own_open.false) c.loop-at.invariant other (omega (arith, lt, below))
          (λ k within is. is_before is_open t rows c.args.row at k c.requires.listed there within (omega (arith, is, lt)));
    }

pub returns : goal.returns
returns c =
    let t = c.args.table.now in
    let rows = c.args.open_rows.now in
    let past = c.loop-at-test.false in
    record {
      is = itself (type_at t c.args.row);
      within = omega arith;
      first = λ other lt. none_before t rows c.args.row c.loop-at.at c.is_canonical.ensures c.requires.listed c.requires.within
          (sym c.requires.own ∙ c.if-own_open.false) c.loop-at.invariant other lt (λ k within is. omega (arith, within, past));
    }
