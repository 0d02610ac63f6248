-- Cells that begin unset, and elements that come once.
use Rattle.std.proofs.Common.{◌≡◌, ℕ, zero, suc, false, List, [], ◌∷◌, ◌++◌, map, length, refl, ap, ◌∙◌, arith}
use Rattle.std.proofs.lemmas.List.{append-nil}
use Rattle.cr_sequence.specs.Kept.{repeated}
use Rattle.cr_memory.specs.declared.value.Cell.{Cell}
use Rattle.cr_memory.specs.declared.value.Cell.TheVariants.{Unset}
use Rattle.cr_memory.specs.declared.value.Guard.{Guard}
use Rattle.cr_memory.specs.declared.value.Scalar.{Scalar}
use Rattle.cr_memory.specs.Memory.{first_cell}

pub each_unset : (shape : List (Scalar × Guard)) → repeated (length shape) (Unset ∷ []) ≡ map (first_cell false) shape
each_unset [] = refl
each_unset (own ∷ shape) = ap (λ (cells : List Cell). Unset ∷ cells) (each_unset shape)

pub once : {X : Type 0} (n : ℕ) (xs : List X) → n ≡ 1 → repeated n xs ≡ xs
once n xs e = ap (λ k. repeated k xs) e ∙ append-nil xs
