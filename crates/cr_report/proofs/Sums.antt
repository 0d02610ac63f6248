-- A cell within the sums of its columns.
use Rattle.std.proofs.Common.{◌≡◌, ℕ, ◌+◌, ◌-◌, ◌<◌, ◌≤◌, List, ◌∷◌, length, get_or, set, drop, replicate, add-one, slice_index_or, arith}
use Rattle.std.proofs.Math.Seq.{drop-cons}
use Rattle.std.proofs.lemmas.List.Sums.{sum_by-set, get_or-le-sum_by}
use Rattle.std.proofs.lemmas.List.Folds.{sum_by-replicate}
use Rattle.cr_reduce.specs.declared.end.Accepted.{Accepted}
use Rattle.cr_report.specs.declared.cells.Cell.{Cell}
use Rattle.cr_report.specs.Summed.{IsSummed, removed_in, rows_in, turns_in}

pub accepted_within : (cells : List Cell) (at : ℕ) (d : Cell) → at < length cells → (get_or cells at d).accepted ≤ rows_in cells
accepted_within cells at d h = get_or-le-sum_by (λ c. c.accepted) cells at d h

pub turns_within : (cells : List Cell) (at : ℕ) (d : Cell) → at < length cells → (get_or cells at d).turns ≤ turns_in cells
turns_within cells at d h = get_or-le-sum_by (λ c. c.turns) cells at d h

pub removed_within : (cells : List Cell) (at : ℕ) (d : Cell) → at < length cells → (get_or cells at d).removed ≤ removed_in cells
removed_within cells at d h = get_or-le-sum_by (λ c. c.removed) cells at d h

-- what a cell gains the sums gain
pub summed_more : (cells : List Cell) (at : ℕ) (d new : Cell) (rows turn begun size later smaller : ℕ) → at < length cells → IsSummed cells rows turn begun size
    → turn ≤ later → smaller ≤ size → new.accepted ≡ (get_or cells at d).accepted + 1 → new.turns ≡ (get_or cells at d).turns + (later - turn)
    → new.removed ≡ (get_or cells at d).removed + (size - smaller) → IsSummed (set cells at new) (rows + 1) later begun smaller
summed_more cells at d new rows turn begun size later smaller h s l m a t r =
    let one = sum_by-set (λ c. c.accepted) cells at new d h in
    let two = sum_by-set (λ c. c.turns) cells at new d h in
    let three = sum_by-set (λ c. c.removed) cells at new d h in
    record {
      accepted = omega (arith, s.accepted, one, a);
      spent = omega (arith, s.spent, two, t, l);
      removed = omega (arith, s.removed, three, r, m);
    }

-- cells for which nothing was accepted
pub summed_none : (n : ℕ) (one : Cell) → one.accepted ≡ 0 → one.turns ≡ 0 → one.removed ≡ 0 → IsSummed (replicate n one) 0 0 0 0
summed_none n one a t r =
    let first = sum_by-replicate (λ c. c.accepted) n one in
    let second = sum_by-replicate (λ c. c.turns) n one in
    let third = sum_by-replicate (λ c. c.removed) n one in
    record {
      accepted = rw (first, a) (omega arith);
      spent = rw (second, t) (omega arith);
      removed = rw (third, r) (omega arith);
    }

-- the same at any size
pub summed_at : (cells : List Cell) (size : ℕ) → IsSummed cells 0 0 0 0 → IsSummed cells 0 0 size size
summed_at cells size s = record { accepted = s.accepted; spent = s.spent; removed = omega (arith, s.removed) }

-- what is left from an index on begins with the one there
pub rest_from : (rows : List Accepted) (at : ℕ) (d : Accepted) → at < length rows → drop at rows ≡ slice_index_or rows at d ∷ drop (at + 1) rows
rest_from rows at d h = rw add-one (drop-cons rows at d h)
