use Rattle.std.proofs.Common.{◌≡◌, ℕ, ◌<◌, None, length, slice_index_or}
use Rattle.cr_sequence.proofs.blocks.forget.Given as goal

abbrev pub invariant-loop-block : goal.invariant-loop-block
invariant-loop-block g l = record {
  count : length l.blocks.items ≡ length l.fn.blocks.items;
  none : (block : ℕ) → block < l.block → slice_index_or l.blocks.items block None ≡ None;
}
