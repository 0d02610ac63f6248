use Rattle.std.proofs.Common.{◌≡◌, ℕ, None, length, slice_index_or}
use Rattle.pass_names.specs.Reach.{fits, number_of}
use Rattle.pass_names.proofs.Outer.{own_by}
use Rattle.pass_names.proofs.reach.outer_uses.Given as goal

abbrev pub invariant-loop-at : goal.invariant-loop-at
invariant-loop-at l = record {
  count : length l.all.items ≡ length l.names.of_token;
  told : (first last token : ℕ) → fits first last (slice_index_or l.all.items token None) ≡ own_by l.names (number_of l.names token) l.at first last token;
}
