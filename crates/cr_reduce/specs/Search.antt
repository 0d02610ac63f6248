-- What a reduction searches: what the passes propose, which files are lawful, and what is asked about them.
use Rattle.std.specs.Prelude.{◌≡◌, ℕ, Bool, List, [], ◌∷◌, ◌++◌, Option, Some}
use Rattle.std.specs.List.{slice_get}
use Rattle.cr_cursor.specs.declared.law.Law.{Ghosts as LawGhosts}
use Rattle.cr_cursor.specs.declared.passes.Passes.{Ghosts as PassesGhosts}
use Rattle.cr_outside.specs.declared.judge.Judge.{Ghosts as JudgeGhosts}
use Rattle.cr_outside.specs.declared.question.Question.{Ghosts as QuestionGhosts}
use Rattle.cr_outside.specs.declared.judge.Answer.{Answer}
use Rattle.cr_outside.specs.declared.judge.Answer.TheVariants.{Yes as AnswerYes, No as AnswerNo}
use Rattle.cr_outside.specs.Judge.{Call}
use Rattle.cr_outside.specs.Question.{AnswersAsTold, Says, IsTold}
use Rattle.cr_reduce.specs.declared.end.Accepted.{Accepted}
use Rattle.cr_cursor.specs.declared.passes.Cursor.{Cursor}
use Rattle.cr_cursor.specs.Variants.{Offer}
use Rattle.cr_pool.specs.declared.verdict.Verdict.{Verdict}
use Rattle.cr_pool.specs.declared.verdict.Verdict.TheVariants.{Unlawful, Yes, No}
use Rattle.cr_pool.specs.Bench.{Benched}
use Rattle.cr_pool.specs.Kept.{AreRight, Kept, KeptAnswer, Keeps}
use Rattle.cr_reduce.specs.Bench.{AllGained, Judging, says_of}
use Rattle.cr_reduce.specs.Sizes.{IsSmaller}
use Rattle.cr_reduce.specs.Trials.{IsAccepted, IsFailed, IsRejected, ToldAnswer, AnswerInRun}
use Rattle.cr_reduce.specs.Reduction.{FailedTrials, Proposals, Trial, State, Outcome, Reduces, cursors_of, none_fails, start_of}

pub record Search : Type 1 where
  -- what is offered for a file
  pub Offers : Proposals
  pub Lawful : List ℕ → Type 0
  -- whether the question uses a judge
  pub asks : Bool
  -- the told answer about a file
  pub Tells : List ℕ → Bool → Type 0
  -- the name under which a test sees the file
  pub name : List ℕ
  -- the verdicts that are kept at the beginning
  pub kept : List Kept

abbrev pub search_of : Proposals → (List ℕ → Type 0) → Bool → (Says → List ℕ → List ℕ → Bool → Type 0) → Says → List ℕ → List Kept → Search
search_of Offers Lawful asks tells says name kept = record {
  Offers = Offers;
  Lawful = Lawful;
  asks = asks;
  Tells = λ file answer. tells says name file answer;
  name = name;
  kept = kept;
}

-- The search of passes, a law, a question and a name with a bench of judges: what each of these traits tells of them, and what the
-- bench keeps.
abbrev pub searching : {P I L Q J K : Type 0} → PassesGhosts P I → P → LawGhosts L → L → QuestionGhosts Q → Q → List ℕ → JudgeGhosts J K → Benched J → Search
searching passes p law l question q name judge bench =
    search_of (passes.offers p) (law.lawful l) (question.asks q) (question.tells q) (says_of judge bench) name bench.kept

-- The answer about a variant in a run, from one time to another: a judge gave it in a call between them, or it was kept at the beginning.
pub data AnsweredInRun (s : Search) (before now : Judging) (variant : List ℕ) (answer : Answer) : Type 0 where
  given : AnswerInRun s.asks s.Tells s.name before.calls now.calls variant answer → AnsweredInRun s before now variant answer
  was_kept : KeptAnswer s.kept variant answer → AnswersAsTold s.asks (s.Tells variant) answer → AnsweredInRun s before now variant answer

-- with the answers of the run
abbrev pub AcceptsInRun : Search → Judging → Judging → Trial
AcceptsInRun s before now = IsAccepted s.Lawful (AnsweredInRun s before now)

abbrev pub RejectsInRun : Search → Judging → Judging → Trial
RejectsInRun s before now = IsRejected s.Lawful (AnsweredInRun s before now)

abbrev pub FailsInRun : Search → Judging → Judging → FailedTrials
FailsInRun s before now worker file variant = IsFailed s.Lawful s.asks s.name before now worker file variant

abbrev pub ReducesInRun : Search → Judging → Judging → Option ℕ → State → Outcome → Type 0
ReducesInRun s before now limit st out = Reduces s.Offers (AcceptsInRun s before now) (RejectsInRun s before now) (FailsInRun s before now) limit st out

-- the whole reduction of a file
abbrev pub ReducesFileInRun : Search → Judging → Judging → List ℕ → Option ℕ → Outcome → Type 0
ReducesFileInRun s before now file limit out = (offer : Offer) × s.Offers file offer × ReducesInRun s before now limit (start_of file offer) out

-- with the told answers
abbrev pub AcceptsAsTold : Search → Trial
AcceptsAsTold s = IsAccepted s.Lawful (ToldAnswer s.Tells)

abbrev pub RejectsAsTold : Search → Trial
RejectsAsTold s = IsRejected s.Lawful (ToldAnswer s.Tells)

abbrev pub ReducesAsTold : Search → Option ℕ → State → Outcome → Type 0
ReducesAsTold s limit st out = Reduces s.Offers (AcceptsAsTold s) (RejectsAsTold s) none_fails limit st out

abbrev pub ReducesFileAsTold : Search → List ℕ → Option ℕ → Outcome → Type 0
ReducesFileAsTold s file limit out = (offer : Offer) × s.Offers file offer × ReducesAsTold s limit (start_of file offer) out

-- The answer about every file is told.
abbrev pub IsAllTold : Search → Type 0
IsAllTold s = (file : List ℕ) → IsTold s.asks (s.Tells file)

-- These verdicts are right by the search's law, question and name.
abbrev pub AreRightBy : Search → List Kept → Type 0
AreRightBy s kept = AreRight s.Lawful s.asks s.Tells kept

-- A verdict on a file was made in a run: the law refuses the file, or it is lawful and was answered so, in a call of the run or by what
-- was kept at the beginning.
abbrev pub IsMade : Search → Judging → Judging → List ℕ → Verdict → Type 0
IsMade s before now file Unlawful = s.Lawful file → ⊥
IsMade s before now file Yes = s.Lawful file × AnsweredInRun s before now file AnswerYes
IsMade s before now file No = s.Lawful file × AnsweredInRun s before now file AnswerNo

-- each of these verdicts was
abbrev pub AreMade : Search → Judging → Judging → List Kept → Type 0
AreMade s before now kept = (file : List ℕ) (verdict : Verdict) → Keeps kept file verdict → IsMade s before now file verdict

-- A chain leads from a file to another by these accepted variants, each of the file before.
abbrev pub ChainsTo : Proposals → List ℕ → List Accepted → List ℕ → Type 0
ChainsTo p file [] last = last ≡ file
ChainsTo p file (a ∷ more) last = (offer : Offer) × p file offer × ChainsTo p (offer.bytes a.at) more last

-- A smaller, lawful variant of a file of the chain: only about such ones the test is asked.
pub record IsCandidate (s : Search) (start : List ℕ) (accepted : List Accepted) (variant : List ℕ) : Type 0 where
  pub some : List Accepted
  pub rest : List Accepted
  pub file : List ℕ
  pub offer : Offer
  pub position : ℕ
  pub at : Cursor
  pub front : accepted ≡ some ++ rest
  pub in_chain : ChainsTo s.Offers start some file
  pub offered : s.Offers file offer
  pub there : slice_get (cursors_of offer) position ≡ Some at
  pub is : variant ≡ offer.bytes at
  pub smaller : IsSmaller variant file
  pub lawful : s.Lawful variant

-- a call about such a file, under the file's own name
abbrev pub AboutCandidate : Search → List ℕ → List Accepted → Call → Type 0
AboutCandidate s start accepted call = (call.name ≡ s.name) × IsCandidate s start accepted call.file

-- The calls of all judges made from one time to another are about candidates.
abbrev pub AsksOnlyCandidates : Search → List ℕ → List Accepted → Judging → Judging → Type 0
AsksOnlyCandidates s start accepted before now = AllGained (AboutCandidate s start accepted) before.calls now.calls
