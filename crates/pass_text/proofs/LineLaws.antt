-- A file has no more lines than bytes, and no more chunks than lines.
use Rattle.std.specs.Prelude.{◌≡◌, ℕ, zero, suc, ◌+◌, ◌*◌, ◌/◌, ◌%◌, ◌-◌, ◌<◌, ◌≤◌, true, false, List, [], ◌∷◌, length, min, if◌then◌else◌, ◌==◌}
use Rattle.std.specs.Int.{div_ceil}
use Rattle.std.proofs.Common.{arith}
use Rattle.std.proofs.lemmas.Nat.{pow_pos}
use Rattle.pass_text.specs.Lines.{lines_of, onto_first, chunk_of}

length-onto_first : (b : ℕ) (lines : List (List ℕ)) → length (onto_first b lines) ≤ 1 + length lines
length-onto_first b [] = omega arith
length-onto_first b (line ∷ lines) = omega arith

pub lines_few : (bs : List ℕ) → length (lines_of bs) ≤ length bs
lines_few [] = omega arith
lines_few (b ∷ bs) = elim (b == 10) as (λ t. length (if t then (10 ∷ []) ∷ lines_of bs else onto_first b (lines_of bs)) ≤ length (b ∷ bs)) [
  | true ↦ omega (arith, lines_few bs)
  | false ↦ omega (arith, lines_few bs, length-onto_first b (lines_of bs))
]

pub chunk_some : (level : ℕ) → 0 < chunk_of level
chunk_some level = pow_pos (14 - level)

ceil_le : (x y q r : ℕ) → 0 < y → x ≡ y * q + r → q + min 1 r ≤ x
ceil_le x zero q r some is = absurd (omega arith)
ceil_le x (suc y) q r some is = omega arith

pub div_ceil-le : (x y : ℕ) → 0 < y → div_ceil x y ≤ x
div_ceil-le x y some = ceil_le x y (x / y) (x % y) some (omega (arith, some))
