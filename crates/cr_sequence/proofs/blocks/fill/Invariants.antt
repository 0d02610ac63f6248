use Rattle.std.proofs.Common.{◌≡◌, ℕ, ◌+◌, ◌%◌, ◌<◌, ◌≤◌, length, slice_index_or, vec_len, vec_capacity}
use Rattle.cr_sequence.proofs.blocks.fill.Given as goal

abbrev pub invariant-loop-k : goal.invariant-loop-k
invariant-loop-k g l = record {
  longer : vec_len l.pool ≡ vec_len l.fn.pool + l.k;
  capacity : vec_capacity l.fn.pool ≤ vec_capacity l.pool;
  before : (k : ℕ) → k < vec_len l.fn.pool → slice_index_or l.pool.items k l.first ≡ slice_index_or l.fn.pool.items k l.first;
  filled : (k : ℕ) → k < l.k → slice_index_or l.pool.items (vec_len l.fn.pool + k) l.first ≡ slice_index_or l.pattern.items ((l.from + k) % length l.pattern.items) l.first;
}
