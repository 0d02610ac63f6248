-- What one worker does in an epoch: its own list of entries is its trials.
use Rattle.std.specs.Prelude.{◌≡◌, ◌⊎◌, ℕ, ◌+◌, ◌-◌, ◌<◌, ◌≤◌, true, List, [], ◌∷◌, Option, Some, None, length, slice_index_or}
use Rattle.cr_claims.specs.declared.seats.Pass.{Pass}
use Rattle.cr_claims.specs.Pass.{view_of}
use Rattle.cr_claims.specs.Plays.{RisesAbove}
use Rattle.cr_core.specs.declared.marks.HitKind.{HitKind}
use Rattle.cr_core.specs.declared.marks.HitKind.TheVariants.{Yes, Failed, Starved}
use Rattle.cr_core.specs.declared.marks.Mark.TheVariants.{Open, No, Hit}
use Rattle.cr_core.specs.Row.{Row, apart, placed, marked, under, last_position}
use Rattle.cr_outside.specs.Faults.{Rose}
use Rattle.cr_outside.specs.declared.judge.Answer.TheVariants.{Yes as AnswerYes, No as AnswerNo}
use Rattle.cr_pool.specs.declared.trial.Trial.{Trial}
use Rattle.cr_pool.specs.declared.trial.Trial.TheVariants as trial
use Rattle.cr_pool.specs.declared.verdict.Verdict.{Verdict}
use Rattle.cr_pool.specs.declared.verdict.Verdict.TheVariants as verdict
use Rattle.cr_pool.specs.Epoch.{Epoch, AnsweredBy, AsksAt, Known, variant_of, times}
use Rattle.cr_pool.specs.Kept.{IsKept, Keeps}
use Rattle.cr_pool.specs.Sizes.{IsSmaller}
use Rattle.cr_pool.specs.Tally.{Tally}
use Rattle.cr_pool.specs.Trials.{IsAccepted, IsFailed, IsRejected}

-- the position was rejected, by this judge's answer or a kept one where the answer was no
abbrev pub RejectsAt : Epoch → Tally → Tally → ℕ → Type 0
RejectsAt e before now i = IsRejected e.Lawful (Known e before now) e.file (variant_of e i)

-- what a hit of a kind at a position says, of a judge and a worker's buffer
abbrev pub HitSays : Epoch → Tally → Tally → List ℕ → ℕ → HitKind → Type 0
HitSays e before now buffer i Yes = (buffer ≡ variant_of e i) × IsAccepted e.Lawful (Known e before now) e.file buffer
HitSays e before now buffer i Failed = (e.asks ≡ true) × IsFailed e.Lawful (AnsweredBy e before now) e.file (variant_of e i) × Rose before.faults now.faults
HitSays e before now buffer i Starved = Unit {0}

-- the same of a worker's hit, if it has one; it is below the length
abbrev pub HitIsSo : Epoch → Tally → Tally → List ℕ → Option (ℕ × HitKind) → Type 0
HitIsSo e before now buffer None = Unit {0}
HitIsSo e before now buffer (Some hit) = (hit.0 < e.len) × HitSays e before now buffer hit.0 hit.1

-- what a verdict on a file says, as one worker found it in an epoch
abbrev pub VerdictIsSo : Epoch → Tally → Tally → List ℕ → Verdict → Type 0
VerdictIsSo e before now file verdict.Unlawful = e.Lawful file → ⊥
VerdictIsSo e before now file verdict.Yes = e.Lawful file × Known e before now file AnswerYes
VerdictIsSo e before now file verdict.No = e.Lawful file × Known e before now file AnswerNo

-- what a worker noted of a file: the verdict that was kept before the epoch, and where none was, the one that it found
abbrev pub IsVerdict : Epoch → Tally → Tally → List ℕ → Verdict → Type 0
IsVerdict e before now file said = Keeps e.kept file said ⊎ ((IsKept e.kept file → ⊥) × VerdictIsSo e before now file said)

-- what is noted of a position, if anything, is the verdict on its variant, which is smaller
abbrev pub NoteIsSo : Epoch → Tally → Tally → ℕ → Option Verdict → Type 0
NoteIsSo e before now i note = (said : Verdict) → note ≡ Some said → IsSmaller (variant_of e i) e.file × IsVerdict e before now (variant_of e i) said

-- the same of a note for each position
abbrev pub NotesAreSo : Epoch → Tally → Tally → List (Option Verdict) → Type 0
NotesAreSo e before now notes = (i : ℕ) → NoteIsSo e before now i (slice_index_or notes i None)

-- where a trial came to this and noted nothing: if it was rejected, the variant isn't smaller, and if it was answered yes, that can't be
abbrev pub MayNoteNothing : Epoch → ℕ → Trial → Type 0
MayNoteNothing e i trial.Rejected = IsSmaller (variant_of e i) e.file → ⊥
MayNoteNothing e i (trial.Hit Yes) = ⊥
MayNoteNothing e i _ = Unit {0}

-- the same of each position in a worker's list
abbrev pub NotesTell : Epoch → Row → List (Option Verdict) → Type 0
NotesTell e own notes = (i : ℕ) → (0 < marked i No own) ⊎ (0 < marked i (Hit Yes) own) → slice_index_or notes i None ≡ None → IsSmaller (variant_of e i) e.file → ⊥

-- nothing is noted of a position above the last one in a worker's list
abbrev pub IsBlankAbove : Row → List (Option Verdict) → Type 0
IsBlankAbove own notes = (i : ℕ) → RisesAbove i own → slice_index_or notes i None ≡ None

-- room for a note of each of so many positions, and nothing noted
abbrev pub IsBlank : ℕ → List (Option Verdict) → Type 0
IsBlank len notes = (length notes ≡ len) × ((i : ℕ) → slice_index_or notes i None ≡ None)

-- The trial of one position: its judge is asked about that position at most, and at most once.
pub record Tries (e : Epoch) (before now : Tally) (i : ℕ) : Type 0 where
  pub positions : List ℕ
  pub calls : AsksAt e positions before.calls now.calls
  pub once : (j : ℕ) → times j positions ≤ 1 - apart j i
  pub few : now.asked ≤ before.asked + 1
  pub later : before.faults ≤ now.faults

-- A worker's list, in which nothing is open: each No is a rejected trial, a hit is the worker's own, and it asked about no
-- position more often than that stands there.
pub record Works (e : Epoch) (before now : Tally) (hit : Option (ℕ × HitKind)) (own : Row) : Type 0 where
  pub closed : (i : ℕ) → marked i Open own ≡ 0
  pub rejects : (i : ℕ) → 0 < marked i No own → RejectsAt e before now i
  pub hits : (i : ℕ) (k : HitKind) → 0 < marked i (Hit k) own → hit ≡ Some (i, k)
  pub positions : List ℕ
  pub calls : AsksAt e positions before.calls now.calls
  pub once : (i : ℕ) → times i positions ≤ placed i own
  pub few : now.asked ≤ before.asked + under e.len own
  pub later : before.faults ≤ now.faults

-- a pass has its list still, and has left only if it had
abbrev pub IsSameList : Pass → Pass → Type 0
IsSameList old new = ((view_of new).own ≡ (view_of old).own) × ((view_of new).left ≡ (view_of old).left)

-- how many positions below the length a worker may still claim, and one more where it has claimed none
abbrev pub left_over : ℕ → Row → ℕ
left_over len [] = len + 1
left_over len (entry ∷ entries) = len - last_position (entry ∷ entries)
