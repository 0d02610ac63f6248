-- A file has one size.
use Rattle.std.proofs.Common.{ℕ, ◌*◌, ◌≤◌, List, length, arith}
use Rattle.cr_tokens.proofs.Measures.{falls_length, shares-le}
use Rattle.cr_reduce.specs.Sizes.{HasSize}
pub use Rattle.cr_pool.proofs.Sizes.{one_size}

-- A size is at most 12 for each byte.
pub size_by_length : (file : List ℕ) (n : ℕ) → HasSize file n → n ≤ 12 * length file
size_by_length file n has = omega (arith, has.is, falls_length has.tokenizes.falls, shares-le file has.tokens)
