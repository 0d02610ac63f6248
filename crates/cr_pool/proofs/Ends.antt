-- From what the workers did to the end of the epoch.
use Rattle.std.proofs.Common.{◌≡◌, ◌⊎◌, inl, inr, ℕ, ◌+◌, ◌<◌, ◌≤◌, List, [], ◌∷◌, Option, Some, length, slice_index_or, refl, subst, arith}
use Prim.Native.Nat.{zero, suc}
use Rattle.cr_core.specs.declared.marks.HitKind.{HitKind}
use Rattle.cr_core.specs.declared.marks.HitKind.TheVariants.{Yes, Failed}
use Rattle.cr_core.specs.declared.marks.Mark.TheVariants.{No, Hit}
use Rattle.cr_core.specs.Row.{Row, marked, placed, under}
use Rattle.cr_core.specs.Sound.{Sum, total}
use Rattle.cr_core.specs.State.{AllRejected}
use Rattle.cr_outside.specs.declared.judge.Answer.{Answer}
use Rattle.cr_outside.specs.declared.judge.Answer.TheVariants.{Yes as AnswerYes, No as AnswerNo}
use Rattle.cr_pool.specs.declared.verdict.Verdict.{Verdict}
use Rattle.cr_pool.specs.declared.verdict.Verdict.TheVariants as verdict
use Rattle.cr_pool.specs.Epoch.{Answered, Epoch, AsksAt, AsksOnce, IsFault, IsFound, IsRejectedAt, Known, RejectedBelow, WasFound, times, variant_of}
use Rattle.cr_pool.specs.Epoch.Answered.{given, was_kept}
use Rattle.cr_pool.specs.Epoch.Known.{by_judge, by_kept}
use Rattle.cr_pool.specs.Tally.{Tally, asked_in, tally_at}
use Rattle.cr_pool.specs.Trials.IsRejected.{not_smaller, unlawful, answered_no}
use Rattle.cr_pool.proofs.Works.{one_of}
use Rattle.cr_pool.specs.Kept.{IsKept, Keeps}
use Rattle.cr_pool.specs.Works.{HitIsSo, HitSays, IsVerdict, RejectsAt, VerdictIsSo, Works}

abbrev pub row_at : List Row → ℕ → Row
row_at rows k = slice_index_or rows k []

-- a sum above 0 has a part above 0
some_part : (f : Row → ℕ) (row : Row) (rows : List Row) → ((0 < f row) ⊎ (0 < total f rows)) → (0 < total f rows → (k : ℕ) × (k < length rows) × (0 < f (row_at rows k)))
    → (k : ℕ) × (k < length (row ∷ rows)) × (0 < f (row_at (row ∷ rows) k))
some_part f row rows (inl here) later = (zero, omega arith, here)
some_part f row rows (inr there) later = let it = later there in (suc it.0, omega (arith, it.1), it.2)

pub some_of : (f : Row → ℕ) (rows : List Row) → 0 < total f rows → (k : ℕ) × (k < length rows) × (0 < f (row_at rows k))
some_of f [] h = absurd (omega arith)
some_of f (row ∷ rows) h = some_part f row rows (one_of (f row) (total f rows) h) (some_of f rows)

-- lists of positions, one for each place, where each place has one
chosen : (P : ℕ → List ℕ → Type 0) (n : ℕ) (first : List ℕ) (rest : List (List ℕ)) → P 0 first → ((k : ℕ) → k < n → P (suc k) (slice_index_or rest k []))
    → (k : ℕ) → k < suc n → P k (slice_index_or (first ∷ rest) k [])
chosen P n first rest here there zero below = here
chosen P n first rest here there (suc k) below = there k (omega arith)

choose : (P : ℕ → List ℕ → Type 0) (n : ℕ) → ((k : ℕ) → k < n → (positions : List ℕ) × P k positions)
    → (lists : List (List ℕ)) × (length lists ≡ n) × ((k : ℕ) → k < n → P k (slice_index_or lists k []))
choose P zero h = ([], refl, λ k below. absurd (omega arith))
choose P (suc n) h =
    let first = h zero (omega arith) in
    let rest = choose (λ k. P (suc k)) n (λ k below. h (suc k) (omega arith)) in
    (first.0 ∷ rest.0, omega (arith, rest.1), chosen P n first.0 rest.0 first.1 rest.2)

-- what is at most something else at each place is so in sum
times_le : (i : ℕ) (lists : List (List ℕ)) (rows : List Row) → length lists ≡ length rows
    → ((k : ℕ) → k < length rows → times i (slice_index_or lists k []) ≤ placed i (row_at rows k)) → total (times i) lists ≤ total (placed i) rows
times_le i [] rows same each = omega arith
times_le i (l ∷ lists) [] same each = absurd (omega arith)
times_le i (l ∷ lists) (row ∷ rows) same each =
    let first = each zero (omega arith) in
    omega (arith, first, times_le i lists rows (omega arith) (λ k below. each (suc k) (omega arith)))

asked_le : (len : ℕ) (before now : List Tally) (rows : List Row) → length now ≡ length before → length rows ≡ length before
    → ((k : ℕ) → k < length before → (tally_at now k).asked ≤ (tally_at before k).asked + under len (row_at rows k)) → asked_in now ≤ asked_in before + total (under len) rows
asked_le len [] [] rows same count each = omega arith
asked_le len [] (t ∷ now) rows same count each = absurd (omega arith)
asked_le len (t ∷ before) [] rows same count each = absurd (omega arith)
asked_le len (t ∷ before) (u ∷ now) [] same count each = absurd (omega arith)
asked_le len (t ∷ before) (u ∷ now) (row ∷ rows) same count each =
    let first = each zero (omega arith) in
    omega (arith, first, asked_le len before now rows (omega arith) (omega arith) (λ k below. each (suc k) (omega arith)))

-- The workers of an epoch: of each its tallies, its list, its hit and its buffer. `sum` counts in all lists.
module _ (e : Epoch) (before now : List Tally) (rows : List Row) (hits : ℕ → Option (ℕ × HitKind)) (buffers : ℕ → List ℕ) (same : length now ≡ length before) (count : length rows ≡ length before)
    (works : (k : ℕ) → k < length before → Works e (tally_at before k) (tally_at now k) (hits k) (row_at rows k))
    (says : (k : ℕ) → k < length before → HitIsSo e (tally_at before k) (tally_at now k) (buffers k) (hits k))
    (sum : Sum) (sums : (f : Row → ℕ) → sum f ≡ f [] + total f rows) where
  answered_by : (k : ℕ) → k < length before → (variant : List ℕ) (answer : Answer) → Known e (tally_at before k) (tally_at now k) variant answer → Answered e before now variant answer
  answered_by k below variant answer (by_judge it) = given k below it
  answered_by k below variant answer (by_kept kept told) = was_kept kept told

  -- a worker's verdict was found in the epoch
  was_found : (k : ℕ) → k < length before → (file : List ℕ) (v : Verdict) → VerdictIsSo e (tally_at before k) (tally_at now k) file v → WasFound e before now file v
  was_found k below file verdict.Unlawful so = so
  was_found k below file verdict.Yes so = (so.0, answered_by k below file AnswerYes so.1)
  was_found k below file verdict.No so = (so.0, answered_by k below file AnswerNo so.1)

  pub was_verdict : (k : ℕ) → k < length before → (file : List ℕ) (v : Verdict) → IsVerdict e (tally_at before k) (tally_at now k) file v
      → Keeps e.kept file v ⊎ ((IsKept e.kept file → ⊥) × WasFound e before now file v)
  was_verdict k below file v (inl was) = inl was
  was_verdict k below file v (inr it) = inr (it.0, was_found k below file v it.1)

  rejected_by : (k : ℕ) → k < length before → (i : ℕ) → RejectsAt e (tally_at before k) (tally_at now k) i → IsRejectedAt e before now i
  rejected_by k below i (not_smaller large) = not_smaller large
  rejected_by k below i (unlawful bad) = unlawful bad
  rejected_by k below i (answered_no it) = answered_no (answered_by k below (variant_of e i) AnswerNo it)

  pub rejected_below : (n : ℕ) → AllRejected sum n → RejectedBelow e before now n
  rejected_below n all i low =
      let it = some_of (marked i No) rows (omega (arith, sums (marked i No), all i low)) in
      let below : it.0 < length before = omega (arith, it.1) in
      rejected_by it.0 below i ((works it.0 below).rejects i it.2)

  -- a hit is a worker's
  pub hit_by : (i : ℕ) (kind : HitKind) → 0 < sum (marked i (Hit kind)) → (k : ℕ) × (k < length before) × (hits k ≡ Some (i, kind))
  hit_by i kind h =
      let it = some_of (marked i (Hit kind)) rows (omega (arith, sums (marked i (Hit kind)), h)) in
      let below : it.0 < length before = omega (arith, it.1) in
      (it.0, below, (works it.0 below).hits i kind it.2)

  says_so : (k i : ℕ) (kind : HitKind) → k < length before → hits k ≡ Some (i, kind) → (i < e.len) × HitSays e (tally_at before k) (tally_at now k) (buffers k) i kind
  says_so k i kind below is = (let P : Option (ℕ × HitKind) → Type 0 = HitIsSo e (tally_at before k) (tally_at now k) (buffers k) in subst P is (says k below))

  pub within : (k i : ℕ) (kind : HitKind) → k < length before → hits k ≡ Some (i, kind) → i < e.len
  within k i kind below is = (says_so k i kind below is).0

  pub found : (k i : ℕ) → k < length before → hits k ≡ Some (i, Yes) → AllRejected sum i → IsFound e before now i (buffers k)
  found k i below is all =
      let it = says_so k i Yes below is in
      record {
        within = it.0;
        before_it = rejected_below i all;
        is = it.1.0;
        accepted = record { smaller = it.1.1.smaller; lawful = it.1.1.lawful; answered = answered_by k below (buffers k) AnswerYes it.1.1.answered };
      }

  pub fault : (k i : ℕ) → k < length before → hits k ≡ Some (i, Failed) → AllRejected sum i → IsFault e before now i k
  fault k i below is all =
      let it = says_so k i Failed below is in
      record { within = it.0; before_it = rejected_below i all; is_there = below; asks = it.1.0; failed = it.1.1; rose = it.1.2 }

  pub asks_once : ((i : ℕ) → sum (placed i) ≤ 1) → sum (under e.len) ≤ e.len → AsksOnce e before now
  asks_once once few =
      let P : ℕ → List ℕ → Type 0 = λ k positions. AsksAt e positions (tally_at before k).calls (tally_at now k).calls × ((i : ℕ) → times i positions ≤ placed i (row_at rows k)) in
      let it = choose P (length before) (λ k below. ((works k below).positions, ((works k below).calls, (works k below).once))) in
      record {
        positions = it.0;
        each = it.1;
        calls = λ k below. (it.2 k below).0;
        once = λ i. omega (arith, sums (placed i), once i, times_le i it.0 rows (omega (arith, it.1)) (λ k below. (it.2 k (omega arith)).1 i));
        few = omega (arith, sums (under e.len), few, asked_le e.len before now rows same count (λ k below. (works k below).few));
      }
