-- Items that come so many times.
use Rattle.std.proofs.Common.{◌≡◌, ℕ, zero, suc, List, ◌++◌, refl, ap}
use Rattle.cr_sequence.specs.Kept.{repeated}
use Rattle.cr_meaning_operations.specs.Shapes as shapes
use Rattle.cr_memory.specs.declared.value.Scalar.{Scalar}
use Rattle.cr_memory.specs.declared.value.Guard.{Guard}

pub same_repeated : (n : ℕ) (xs : List (Scalar × Guard)) → repeated n xs ≡ shapes.repeated n xs
same_repeated zero xs = refl
same_repeated (suc n) xs = ap (λ r. xs ++ r) (same_repeated n xs)
