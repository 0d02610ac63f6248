-- An epoch: which positions are tried, how it ends, and what the judges are asked.
use Rattle.std.specs.Prelude.{◌≡◌, ◌⊎◌, ℕ, ◌+◌, ◌-◌, ◌<◌, ◌≤◌, Bool, true, List, [], ◌∷◌, ◌++◌, length, Option, Some, None, slice_index_or}
use Prim.Native.Nat.{zero, suc}
use Rattle.std.specs.List.{slice_get}
use Rattle.cr_cursor.specs.declared.passes.Cursor.{Cursor}
use Rattle.cr_cursor.specs.Variants.{Offer, cursors}
use Rattle.cr_core.specs.Row.{apart}
use Rattle.cr_core.specs.Sound.{total}
use Rattle.cr_outside.specs.declared.judge.Answer.{Answer}
use Rattle.cr_outside.specs.declared.judge.Answer.TheVariants.{Yes as AnswerYes, No as AnswerNo}
use Rattle.cr_outside.specs.Faults.{Rose}
use Rattle.cr_outside.specs.Judge.{Call}
use Rattle.cr_outside.specs.Question.{AnswersAsTold}
use Rattle.cr_pool.specs.declared.job.EpochEnd.{EpochEnd}
use Rattle.cr_pool.specs.declared.job.EpochEnd.TheVariants as ending
use Rattle.cr_pool.specs.declared.verdict.Verdict.{Verdict}
use Rattle.cr_pool.specs.declared.verdict.Verdict.TheVariants.{Unlawful, Yes, No}
use Rattle.cr_pool.specs.Kept.{AreRight, Kept, IsKept, IsPutOrLost, Keeps, KeptAnswer}
use Rattle.cr_pool.specs.Sizes.{IsSmaller}
use Rattle.cr_pool.specs.Tally.{Tally, asked_in, tally_at}
use Rattle.cr_pool.specs.Trials.{AnswerInRun, IsAccepted, IsFailed, IsRejected}

-- What is tried in an epoch, and by what. Positions of an epoch are counted from 0; `start` is the first one's among the file's.
pub record Epoch : Type 1 where
  pub offer : Offer
  pub file : List ℕ
  pub start : ℕ
  pub len : ℕ
  pub Lawful : List ℕ → Type 0
  -- whether the question uses a judge
  pub asks : Bool
  -- the told answer about a file
  pub Tells : List ℕ → Bool → Type 0
  -- the name under which a test sees a variant
  pub name : List ℕ
  -- the verdicts that were kept before it
  pub kept : List Kept

-- the variant at a cursor, if there is one
abbrev pub bytes_at : Offer → Option Cursor → List ℕ
bytes_at offer None = []
bytes_at offer (Some at) = offer.bytes at

-- the variant at a position of a file
abbrev pub variant_at : Offer → ℕ → List ℕ
variant_at offer position = bytes_at offer (slice_get (cursors offer.widths) position)

-- the variant at a position of an epoch
abbrev pub variant_of : Epoch → ℕ → List ℕ
variant_of e i = variant_at e.offer (e.start + i)

-- one judge answered so about a variant in an epoch, of which these are its tallies before and now
abbrev pub AnsweredBy : Epoch → Tally → Tally → List ℕ → Answer → Type 0
AnsweredBy e before now variant answer = AnswerInRun e.asks e.Tells e.name before.calls now.calls variant answer

-- The answer about a variant, as one worker has it in an epoch: its own judge gave it in a call of the epoch, or it was kept before.
pub data Known (e : Epoch) (before now : Tally) (variant : List ℕ) (answer : Answer) : Type 0 where
  by_judge : AnsweredBy e before now variant answer → Known e before now variant answer
  by_kept : KeptAnswer e.kept variant answer → AnswersAsTold e.asks (e.Tells variant) answer → Known e before now variant answer

-- The answer about a variant in an epoch: one of the judges gave it in a call of the epoch, or it was kept before.
pub data Answered (e : Epoch) (before now : List Tally) (variant : List ℕ) (answer : Answer) : Type 0 where
  given : (worker : ℕ) → worker < length before → AnsweredBy e (tally_at before worker) (tally_at now worker) variant answer → Answered e before now variant answer
  was_kept : KeptAnswer e.kept variant answer → AnswersAsTold e.asks (e.Tells variant) answer → Answered e before now variant answer

abbrev pub IsRejectedAt : Epoch → List Tally → List Tally → ℕ → Type 0
IsRejectedAt e before now i = IsRejected e.Lawful (Answered e before now) e.file (variant_of e i)

-- Every position of the epoch below n was rejected.
abbrev pub RejectedBelow : Epoch → List Tally → List Tally → ℕ → Type 0
RejectedBelow e before now n = (i : ℕ) → i < n → IsRejectedAt e before now i

-- The position i is the first that wasn't rejected: its variant has these bytes and was answered yes.
pub record IsFound (e : Epoch) (before now : List Tally) (i : ℕ) (bytes : List ℕ) : Type 0 where
  pub within : i < e.len
  pub before_it : RejectedBelow e before now i
  pub is : bytes ≡ variant_of e i
  pub accepted : IsAccepted e.Lawful (Answered e before now) e.file bytes

-- The position i is the first that wasn't rejected, and this worker's judge failed on it in a call of the epoch, its count risen.
pub record IsFault (e : Epoch) (before now : List Tally) (i worker : ℕ) : Type 0 where
  pub within : i < e.len
  pub before_it : RejectedBelow e before now i
  pub is_there : worker < length before
  pub asks : e.asks ≡ true
  pub failed : IsFailed e.Lawful (AnsweredBy e (tally_at before worker) (tally_at now worker)) e.file (variant_of e i)
  pub rose : Rose (tally_at before worker).faults (tally_at now worker).faults

-- How an epoch ends: by the first position in order that wasn't rejected. Want of memory is told of nothing.
abbrev pub EndsBy : Epoch → List Tally → List Tally → EpochEnd → Type 0
EndsBy e before now (ending.NoneOf n) = (n ≡ e.len) × RejectedBelow e before now e.len
EndsBy e before now (ending.Found position bytes) = (i : ℕ) × (position ≡ e.start + i) × IsFound e before now i bytes.items
EndsBy e before now (ending.Fault position worker) = (i : ℕ) × (position ≡ e.start + i) × IsFault e before now i worker
EndsBy e before now ending.NoMemory = Unit {0}

-- A call is about the variant at a position of the epoch, which is smaller, lawful and not kept.
pub record IsAbout (e : Epoch) (i : ℕ) (call : Call) : Type 0 where
  pub within : i < e.len
  pub name : call.name ≡ e.name
  pub file : call.file ≡ variant_of e i
  pub smaller : IsSmaller call.file e.file
  pub lawful : e.Lawful call.file
  pub not_kept : IsKept e.kept call.file → ⊥

-- each call is about one of these positions, in their order
abbrev pub AreAbout : Epoch → List ℕ → List Call → Type 0
AreAbout e [] [] = Unit {0}
AreAbout e (i ∷ is) (call ∷ calls) = IsAbout e i call × AreAbout e is calls
AreAbout e _ _ = ⊥

-- of a judge that tells its calls: those since are about these positions
abbrev pub AsksAt : Epoch → List ℕ → Option (List Call) → Option (List Call) → Type 0
AsksAt e positions None now = now ≡ None
AsksAt e positions (Some before) now = (more : List Call) × (now ≡ Some (before ++ more)) × AreAbout e positions more

-- how often a number stands in a list
abbrev pub times : ℕ → List ℕ → ℕ
times n [] = 0
times n (m ∷ ms) = (1 - apart n m) + times n ms

-- What the judges are asked in an epoch. No position is asked about twice, be it by one judge or by two, and so the calls are no
-- more than the positions.
pub record AsksOnce (e : Epoch) (before now : List Tally) : Type 0 where
  -- the positions that each judge was asked about
  pub positions : List (List ℕ)
  pub each : length positions ≡ length before
  pub calls : (worker : ℕ) → worker < length before → AsksAt e (slice_index_or positions worker []) (tally_at before worker).calls (tally_at now worker).calls
  pub once : (i : ℕ) → total (times i) positions ≤ 1
  pub few : asked_in now ≤ asked_in before + e.len

-- each verdict that was kept before an epoch is right
abbrev pub BeginsRight : Epoch → Type 0
BeginsRight e = AreRight e.Lawful e.asks e.Tells e.kept

-- So many of an epoch's first positions decided its end: those up to the first one that wasn't rejected, without it where its trial failed or found no memory.
abbrev pub HaveDecided : Epoch → EpochEnd → ℕ → Type 0
HaveDecided e (ending.NoneOf len) n = n ≡ e.len
HaveDecided e (ending.Found position bytes) n = e.start + n ≡ position + 1
HaveDecided e (ending.Fault position worker) n = e.start + n ≡ position
HaveDecided e ending.NoMemory n = n ≤ e.len

-- the verdict on a file was found in an epoch
abbrev pub WasFound : Epoch → List Tally → List Tally → List ℕ → Verdict → Type 0
WasFound e before now file Unlawful = e.Lawful file → ⊥
WasFound e before now file Yes = e.Lawful file × Answered e before now file AnswerYes
WasFound e before now file No = e.Lawful file × Answered e before now file AnswerNo

-- what an epoch came to on a file, if that is smaller: the verdict that was kept before, and where none was, the one that was found
abbrev pub CameTo : Epoch → List Tally → List Tally → List ℕ → Option Verdict → Type 0
CameTo e before now file None = IsSmaller file e.file → ⊥
CameTo e before now file (Some verdict) = IsSmaller file e.file × (Keeps e.kept file verdict ⊎ ((IsKept e.kept file → ⊥) × WasFound e before now file verdict))

-- What is kept is what was kept before, with what the epoch came to on the variants of its first n positions put in order, but for so many that found no memory.
abbrev pub ArePut : Epoch → List Tally → List Tally → ℕ → List Kept → ℕ → Type 0
ArePut e before now zero kept lost = (kept ≡ e.kept) × (lost ≡ 0)
ArePut e before now (suc n) kept lost = (old : List Kept) × (gone : ℕ) × ArePut e before now n old gone
    × ((verdict : Option Verdict) × CameTo e before now (variant_of e n) verdict × IsPutOrLost (variant_of e n) verdict old gone kept lost)

-- What is kept after an epoch is what was kept before it, with the verdicts on the variants of the positions that decided its end put in order, but for so many that found no memory.
abbrev pub Remembers : Epoch → List Tally → List Tally → EpochEnd → List Kept → ℕ → Type 0
Remembers e before now end kept lost = (n : ℕ) × HaveDecided e end n × ArePut e before now n kept lost

-- Each verdict Yes or No that is kept after an epoch was kept before it, or a judge gave it in the epoch.
abbrev pub KeepsWhatWasMade : Epoch → List Tally → List Tally → List Kept → Type 0
KeepsWhatWasMade e before now kept = (file : List ℕ) → (Keeps kept file Yes → Answered e before now file AnswerYes) × (Keeps kept file No → Answered e before now file AnswerNo)
