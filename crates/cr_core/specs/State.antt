-- The state of the speculative core, and when it is finished.
use Rattle.std.specs.Prelude.{◌≡◌, ◌≢◌, ◌↔◌, ℕ, ◌<◌, ◌≤◌, ◌/◌, ◌%◌, List, [], replicate, length, slice_index_or, if◌then◌else◌, nat_lt}
use Prim.Native.Nat.{zero, suc}
use Rattle.cr_core.specs.declared.marks.HitKind.{HitKind}
use Rattle.cr_core.specs.declared.marks.HitKind.TheVariants.{Yes, Failed, Starved}
use Rattle.cr_core.specs.declared.marks.Mark.TheVariants.{Open, No, Hit}
use Rattle.cr_core.specs.declared.events.First.{First}
use Rattle.cr_core.specs.declared.events.First.TheVariants as first
use Rattle.cr_core.specs.Row.{Row, word, opening, marked, last_position}
use Rattle.cr_core.specs.Sound.{Sum, total, IsOver, IsSound}

pub record State : Type 0 where
  pub len : ℕ
  pub next : ℕ
  pub least : ℕ
  pub lists : List Row

-- nothing is claimed, and each worker's list is empty
abbrev pub start : ℕ → ℕ → State
start len workers = record { len = len; next = 0; least = opening len; lists = replicate workers [] }

-- how many there are in all lists of a state
abbrev pub in_lists : State → Sum
in_lists s = λ f. total f s.lists

abbrev pub IsSoundState : State → Type 0
IsSoundState s = IsSound s.len s.next s.least (in_lists s)

-- no entry is open, and some worker's last position is past the end or above the least one
pub record IsFinished (s : State) : Type 0 where
  pub nothing_is_open : (p : ℕ) → in_lists s (marked p Open) ≡ 0
  pub one_saw_the_end : (i : ℕ) × (i < length s.lists) × (slice_index_or s.lists i [] ≢ [])
      × IsOver s.len s.least (last_position (slice_index_or s.lists i []))

-- every position below n is marked No
abbrev pub AllRejected : Sum → ℕ → Type 0
AllRejected sum n = (p : ℕ) → p < n → 0 < sum (marked p No)

-- the kind whose number it is
abbrev pub kind_of : ℕ → HitKind
kind_of zero = Yes
kind_of (suc zero) = Failed
kind_of (suc (suc _)) = Starved

-- the hit that the word `least` names
abbrev pub first_of : ℕ → ℕ → First
first_of len least = if nat_lt (least / 4) len then first.At (least / 4) (kind_of (least % 4)) else first.None

-- the least hit
pub record IsLeastHit (sum : Sum) (answer : First) : Type 0 where
  pub none : answer ≡ first.None → (p : ℕ) (k : HitKind) → sum (marked p (Hit k)) ≡ 0
  pub at : (p : ℕ) (k : HitKind) → answer ≡ first.At p k → 0 < sum (marked p (Hit k))
  pub least : (p : ℕ) (k : HitKind) → answer ≡ first.At p k → (q : ℕ) (j : HitKind) → 0 < sum (marked q (Hit j)) → word p k ≤ word q j

-- the first position in order that wasn't rejected
pub record IsFirst (len : ℕ) (sum : Sum) (answer : First) : Type 0 where
  pub none : (answer ≡ first.None) ↔ AllRejected sum len
  pub at : (p : ℕ) (k : HitKind) → (answer ≡ first.At p k) ↔ ((0 < sum (marked p (Hit k))) × AllRejected sum p)
