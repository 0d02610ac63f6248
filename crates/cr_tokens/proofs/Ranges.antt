-- The bytes of a part of a file.
use Rattle.std.proofs.Common.{◌≡◌, ℕ, ◌+◌, ◌-◌, ◌≤◌, ◌<◌, List, [], ◌∷◌, length, drop, arith, get_or-take, get_or-drop, length-take, length-drop, add-one}
use Rattle.std.specs.Prelude.{slice_index, slice_range}
use Rattle.std.proofs.Math.Seq.{drop-cons}

pub slice_range-at : (file : List ℕ) (from to k : ℕ) → from + k < to →
    slice_index (slice_range file from to) k ≡ slice_index file (from + k)
slice_range-at file from to k h =
    let below : k < to - from = omega arith in rw (get_or-take, get_or-drop)

pub slice_range-length : (file : List ℕ) (from to : ℕ) → to ≤ length file → length (slice_range file from to) ≡ to - from
slice_range-length file from to h = simp (length-take, length-drop) (omega arith)

cons : (file : List ℕ) (at : ℕ) → at < length file → drop at file ≡ slice_index file at ∷ drop (at + 1) file
cons file at h = rw add-one (drop-cons file at 0 h)

pub slice_range-one : (file : List ℕ) (at : ℕ) → at < length file → slice_range file at (at + 1) ≡ slice_index file at ∷ []
slice_range-one file at h =
    let one : (at + 1) - at ≡ 1 = omega arith in
    rw (one, cons file at h)

pub slice_range-two : (file : List ℕ) (at : ℕ) → at + 1 < length file →
    slice_range file at (at + 2) ≡ slice_index file at ∷ slice_index file (at + 1) ∷ []
slice_range-two file at h =
    let two : (at + 2) - at ≡ 2 = omega arith in
    rw (two, cons file at (omega arith), cons file (at + 1) h)

pub slice_range-three : (file : List ℕ) (at : ℕ) → at + 2 < length file →
    slice_range file at (at + 3) ≡ slice_index file at ∷ slice_index file (at + 1) ∷ slice_index file (at + 2) ∷ []
slice_range-three file at h =
    let three : (at + 3) - at ≡ 3 = omega arith in
    let next : drop (at + 1) file ≡ slice_index file (at + 1) ∷ drop (at + 1 + 1) file = cons file (at + 1) (omega arith) in
    let same : at + 1 + 1 ≡ at + 2 = omega arith in
    let last : drop (at + 2) file ≡ slice_index file (at + 2) ∷ drop (at + 2 + 1) file = cons file (at + 2) h in
    rw (three, cons file at (omega arith), next, same, last)
