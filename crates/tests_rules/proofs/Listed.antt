-- What holds of the rows before a place, and of the one there.
use Rattle.std.proofs.Common.{◌≡◌, ◌<◌, ◌+◌, ℕ, List, slice_index, subst, inl, inr, arith}
use Rattle.std.proofs.lemmas.Bool.{cases_lt}

pub more : (rows : List ℕ) (count at : ℕ) → ((k : ℕ) → k < at → slice_index rows k < count) → slice_index rows at < count → (k : ℕ) → k < at + 1 → slice_index rows k < count
more rows count at before here k low = elim (cases_lt k at) [
  | inl older ↦ before k older
  | inr newest ↦ let is : at ≡ k = omega arith in subst (λ n. slice_index rows n < count) is here
]
