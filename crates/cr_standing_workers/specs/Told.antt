-- What a trial says where the answers are told, and the reduction by such trials.
use Rattle.std.specs.Prelude.{◌≡◌, ℕ, ◌<◌, List, [], length, Option, None, Some}
use Rattle.std.specs.List.{slice_get}
use Rattle.cr_cursor.specs.declared.law.Law.{Ghosts as LawGhosts}
use Rattle.cr_cursor.specs.declared.passes.Passes.{Ghosts as PassesGhosts}
use Rattle.cr_cursor.specs.declared.passes.Cursor.{Cursor}
use Rattle.cr_cursor.specs.Variants.{Offer}
use Rattle.cr_outside.specs.declared.judge.Answer.{Answer}
use Rattle.cr_outside.specs.declared.judge.Answer.TheVariants as answer
use Rattle.cr_outside.specs.declared.question.Question.{Ghosts as QuestionGhosts}
use Rattle.cr_outside.specs.Question.{AnswersAsTold, Says}
use Rattle.cr_pool.specs.declared.verdict.Verdict.{Verdict}
use Rattle.cr_pool.specs.declared.verdict.Verdict.TheVariants as verdict
use Rattle.cr_pool.specs.Kept.{IsRight}
use Rattle.cr_pool.specs.Sizes.{HasSize, IsSmaller}
use Rattle.cr_pool.specs.Trials.{IsAccepted, IsRejected}
use Rattle.cr_reduce.specs.Bench.{Judging}
use Rattle.cr_reduce.specs.Ends.{EndsBy}
use Rattle.cr_reduce.specs.Reduction.{Outcome, Reduces, State, cursors_of, start_of}
use Rattle.cr_reduce.specs.Search.{FailsInRun, Search, search_of}
use Rattle.cr_reduce.specs.Trials.{HasFailed}
use Rattle.cr_reduce.specs.declared.end.End.{End}
use Rattle.cr_standing_workers.specs.declared.orders.Trial.{Trial}
use Rattle.cr_standing_workers.specs.declared.orders.Trial.TheVariants.{No, Yes, Skipped, Asked}
use Rattle.cr_standing_workers.specs.declared.task.Task.{Task}
use Rattle.cr_standing_workers.specs.declared.trial.Found.{Found}
use Rattle.cr_standing_workers.specs.declared.trial.Found.TheVariants as found
use Rattle.cr_standing_workers.specs.declared.trial.Tried.{Tried}
use Rattle.cr_standing_workers.specs.declared.trial.Tried.TheVariants as tried
use Rattle.cr_standing_workers.specs.declared.trial.Weighed.{Weighed}
use Rattle.cr_standing_workers.specs.declared.trial.Weighed.TheVariants as weighed
use Rattle.cr_standing_workers.specs.declared.work.Said.{Said}

-- The search of a task, by what the judges say. Nothing is kept before it.
abbrev pub searching_by : {P I L Q : Type 0} → PassesGhosts P I → LawGhosts L → QuestionGhosts Q → Task P L Q → Says → Search
searching_by passes law question t says = search_of (passes.offers t.passes.now) (law.lawful t.law.now) (question.asks t.question.now) (question.tells t.question.now) says t.name.now []

-- where the answer is told, that one; where it isn't, any
abbrev pub IfTold : Search → List ℕ → Answer → Type 0
IfTold s variant answer = AnswersAsTold s.asks (s.Tells variant) answer

-- A variant is accepted where it is smaller, lawful and, where the answer is told, answered yes.
abbrev pub AcceptsIfTold : Search → List ℕ → List ℕ → Type 0
AcceptsIfTold s = IsAccepted s.Lawful (IfTold s)

-- It is rejected where it isn't smaller, isn't lawful or, where the answer is told, is answered no. Where it isn't told, nothing is said.
abbrev pub RejectsIfTold : Search → List ℕ → List ℕ → Type 0
RejectsIfTold s = IsRejected s.Lawful (IfTold s)

-- what a reply says of a variant of a file
abbrev pub SaysOf : Search → Trial → List ℕ → List ℕ → Type 0
SaysOf s No file variant = RejectsIfTold s file variant
SaysOf s Yes file variant = AcceptsIfTold s file variant
SaysOf s Skipped file variant = Unit {0}
SaysOf s Asked file variant = Unit {0}

-- what a trial says of it that a judge made from one time to another
abbrev pub TriedSays : Search → Judging → Judging → List ℕ → List ℕ → Tried → Type 0
TriedSays s before now file variant tried.No = RejectsIfTold s file variant
TriedSays s before now file variant tried.Yes = AcceptsIfTold s file variant
TriedSays s before now file variant tried.Failed = FailsInRun s before now 0 file variant
TriedSays s before now file variant tried.Stopped = Unit {0}
TriedSays s before now file variant tried.NoMemory = Unit {0}

-- what a verdict says of a smaller variant, before anything is asked
abbrev pub weighed_of : Verdict → Weighed
weighed_of verdict.Yes = weighed.Yes
weighed_of verdict.No = weighed.No
weighed_of verdict.Unlawful = weighed.No

-- what is known of a variant of a file before anything is asked
abbrev pub WeighedSays : Search → List ℕ → List ℕ → Weighed → Type 0
WeighedSays s file variant weighed.No = RejectsIfTold s file variant
WeighedSays s file variant weighed.Yes = AcceptsIfTold s file variant
WeighedSays s file variant weighed.Lawful = IsSmaller variant file × s.Lawful variant
WeighedSays s file variant weighed.Stopped = Unit {0}
WeighedSays s file variant weighed.NoMemory = Unit {0}

-- what was found of a file by a judge from one time to another: a verdict that is right, or how the test failed
abbrev pub FoundSays : Search → Judging → Judging → List ℕ → Found → Type 0
FoundSays s before now file (found.Verdict verdict) = IsRight s.Lawful s.asks s.Tells file verdict
FoundSays s before now file found.Failed = s.Lawful file × HasFailed s.asks s.name before now 0 file
FoundSays s before now file found.NoMemory = Unit {0}

abbrev pub found_of : Answer → Found
found_of answer.Yes = found.Verdict verdict.Yes
found_of answer.No = found.Verdict verdict.No
found_of answer.Failed = found.Failed
found_of answer.NoMemory = found.NoMemory

abbrev pub tried_of : Found → Tried
tried_of (found.Verdict verdict.Yes) = tried.Yes
tried_of (found.Verdict verdict.No) = tried.No
tried_of (found.Verdict verdict.Unlawful) = tried.No
tried_of found.Failed = tried.Failed
tried_of found.NoMemory = tried.NoMemory

-- of the variant at a position of an offer
abbrev pub AtPosition : Offer → ℕ → (List ℕ → Type 0) → Type 0
AtPosition offer position Holds = (at : Cursor) → slice_get (cursors_of offer) position ≡ Some at → Holds (offer.bytes at)

-- what a reply says of a position of a file: of the variant there, in what is offered for the file
abbrev pub SaysAt : Search → List ℕ → ℕ → Trial → Type 0
SaysAt s file position trial = (offer : Offer) → s.Offers file offer → AtPosition offer position (SaysOf s trial file)

-- These bytes are the variant at a position of a file's offer, smaller than the file, and lawful.
pub record IsCandidate (s : Search) (file : List ℕ) (offer : Offer) (position : ℕ) (variant : List ℕ) : Type 0 where
  pub offered : s.Offers file offer
  pub below : position < length (cursors_of offer)
  pub made : AtPosition offer position (λ bytes. variant ≡ bytes)
  pub smaller : IsSmaller variant file
  pub lawful : s.Lawful variant

-- what is known of a position before anything is asked: a reply that may be given, or that its variant, which these bytes are, may be asked about
abbrev pub WeighedAt : Search → (List ℕ → ℕ → Trial → Type 0) → List ℕ → Offer → ℕ → List ℕ → Weighed → Type 0
WeighedAt s Replies file offer position variant weighed.No = Replies file position No
WeighedAt s Replies file offer position variant weighed.Yes = Replies file position Yes
WeighedAt s Replies file offer position variant weighed.Lawful = IsCandidate s file offer position variant
WeighedAt s Replies file offer position variant weighed.Stopped = Unit {0}
WeighedAt s Replies file offer position variant weighed.NoMemory = Unit {0}

-- how the first judge's own trial of a position failed
abbrev pub FailsAt : Search → Judging → Judging → List ℕ → Offer → ℕ → Type 0
FailsAt s before now file offer position = (at : Cursor) × (slice_get (cursors_of offer) position ≡ Some at) × FailsInRun s before now 0 file (offer.bytes at)

-- what a trial of a position says: a reply that may be given, or how the test failed
abbrev pub TriedAt : Search → Judging → Judging → (List ℕ → ℕ → Trial → Type 0) → List ℕ → Offer → ℕ → Tried → Type 0
TriedAt s before now Replies file offer position tried.No = Replies file position No
TriedAt s before now Replies file offer position tried.Yes = Replies file position Yes
TriedAt s before now Replies file offer position tried.Failed = FailsAt s before now file offer position
TriedAt s before now Replies file offer position tried.Stopped = Unit {0}
TriedAt s before now Replies file offer position tried.NoMemory = Unit {0}

-- what a worker replies of a trial
abbrev pub replied_as : Tried → Trial
replied_as tried.No = No
replied_as tried.Yes = Yes
replied_as tried.Stopped = Skipped
replied_as tried.Failed = Skipped
replied_as tried.NoMemory = Skipped

-- what is said of a position: where there is nothing to reply it is rejected
abbrev pub said_of : Option Said → Trial
said_of None = No
said_of (Some said) = said.trial

-- An order names a position of what is offered for its file, with that file's index and size.
pub record IsPlace {T : Type 0} (s : Search) (offer : T → List ℕ → Offer) (prep : T) (file : List ℕ) (size position : ℕ) : Type 0 where
  pub offered : s.Offers file (offer prep file)
  pub sized : HasSize file size
  pub below : position < length (cursors_of (offer prep file))

-- The orders, replies and verdicts of a subject are those of this search.
pub record IsAbout {T : Type 0} (s : Search) (offer : T → List ℕ → Offer) (Orders : T → List ℕ → ℕ → ℕ → Type 0) (Replies : List ℕ → ℕ → Trial → Type 0) (Verdicts : List ℕ → Verdict → Type 0) : Type 0 where
  pub order_in : (prep : T) (file : List ℕ) (size position : ℕ) → IsPlace s offer prep file size position → Orders prep file size position
  pub order_out : (prep : T) (file : List ℕ) (size position : ℕ) → Orders prep file size position → IsPlace s offer prep file size position
  pub reply_in : (file : List ℕ) (position : ℕ) (trial : Trial) → SaysAt s file position trial → Replies file position trial
  pub reply_out : (file : List ℕ) (position : ℕ) (trial : Trial) → Replies file position trial → SaysAt s file position trial
  pub verdict_in : (file : List ℕ) (verdict : Verdict) → IsRight s.Lawful s.asks s.Tells file verdict → Verdicts file verdict
  pub verdict_out : (file : List ℕ) (verdict : Verdict) → Verdicts file verdict → IsRight s.Lawful s.asks s.Tells file verdict

-- the reduction from a state on by such trials, where the faults are those of a run
abbrev pub ReducesIfTold : Search → Judging → Judging → Option ℕ → State → Outcome → Type 0
ReducesIfTold s before now limit st out = Reduces s.Offers (AcceptsIfTold s) (RejectsIfTold s) (FailsInRun s before now) limit st out

-- and of a whole file
abbrev pub ReducesFileIfTold : Search → Judging → Judging → List ℕ → Option ℕ → Outcome → Type 0
ReducesFileIfTold s before now file limit out = (offer : Offer) × s.Offers file offer × ReducesIfTold s before now limit (start_of file offer) out

abbrev pub EndsIfTold : Search → Judging → Judging → Option ℕ → List ℕ → End → Type 0
EndsIfTold s before now limit file e = EndsBy (ReducesFileIfTold s before now file) file limit e e.why
