-- A bench as clauses see it.
use Rattle.std.specs.Prelude.{◌<◌, ◌≤◌, ℕ, List, length}
use Rattle.cr_cursor.specs.declared.law.Law.{Ghosts as LawGhosts}
use Rattle.cr_cursor.specs.declared.passes.Passes.{Ghosts as PassesGhosts}
use Rattle.cr_outside.specs.declared.judge.Judge.{Ghosts as JudgeGhosts}
use Rattle.cr_outside.specs.declared.question.Question.{Ghosts as QuestionGhosts}
use Rattle.cr_pool.specs.declared.job.Job.{Job}
use Rattle.cr_pool.specs.Epoch.{Epoch}
use Rattle.cr_pool.specs.Jobs.{epoch_of}
use Rattle.cr_pool.specs.Kept.{Kept}
use Rattle.cr_pool.specs.Tally.{HaveOneKey, Tally, first_says, tallies_of, tally_at}

-- its judges, the verdicts that it keeps, and how many its last epoch lost for want of memory
pub record Benched (J : Type 0) : Type 0 where
  pub judges : List J
  pub kept : List Kept
  pub lost : ℕ

-- it has 1 to 32 judges, all of one key
abbrev pub IsManned : {J K : Type 0} → (J → K) → List J → Type 0
IsManned key judges = (0 < length judges) × (length judges ≤ 32) × HaveOneKey key judges

-- the tally of its first judge
abbrev pub first_tally : {J K : Type 0} → JudgeGhosts J K → Benched J → Tally
first_tally judge bench = tally_at (tallies_of judge bench.judges) 0

-- the epoch of a job on a bench
abbrev pub epoch_on : {P I L Q J K : Type 0} → PassesGhosts P I → LawGhosts L → QuestionGhosts Q → JudgeGhosts J K → Job P L Q I → Benched J → Epoch
epoch_on passes law question judge job bench = epoch_of passes law question job (first_says judge.key judge.says bench.judges) bench.kept
