-- The epoch of a job.
use Rattle.std.specs.Prelude.{◌≡◌, ℕ, ◌+◌, ◌^◌, ◌<◌, ◌≤◌, false, List, length, slice_index_or}
use Rattle.cr_cursor.specs.declared.law.Law.{Ghosts as LawGhosts}
use Rattle.cr_cursor.specs.declared.passes.Passes.{Ghosts as PassesGhosts}
use Rattle.cr_cursor.specs.Variants.{Offer, cursors}
use Rattle.cr_outside.specs.declared.judge.Judge.{Ghosts as JudgeGhosts}
use Rattle.cr_outside.specs.declared.question.Question.{Ghosts as QuestionGhosts}
use Rattle.cr_outside.specs.Question.{Says}
use Rattle.cr_pool.specs.declared.job.Job.{Job}
use Rattle.cr_pool.specs.Epoch.{Epoch, AsksOnce}
use Rattle.cr_pool.specs.Kept.{Kept}
use Rattle.cr_pool.specs.Tally.{tallies_of}

-- what is offered for the file of a job
abbrev pub offer_of : {P I L Q : Type 0} → PassesGhosts P I → Job P L Q I → Offer
offer_of passes job = passes.offer job.passes.now job.prep.now job.file.now

-- The positions of a job are among those of the file's variants, and are numbers of 64 bits.
pub record IsPlaced {P I L Q : Type 0} (passes : PassesGhosts P I) (job : Job P L Q I) : Type 0 where
  pub among : job.start + job.len ≤ length (cursors (offer_of passes job).widths)
  pub fits : job.start + job.len < 2 ^ 64

-- what these traits tell of a job, with a judge that says so and these kept verdicts
abbrev pub epoch_of : {P I L Q : Type 0} → PassesGhosts P I → LawGhosts L → QuestionGhosts Q → Job P L Q I → Says → List Kept → Epoch
epoch_of passes law question job says kept = record {
  offer = offer_of passes job;
  file = job.file.now;
  start = job.start;
  len = job.len;
  Lawful = law.lawful job.law.now;
  asks = question.asks job.question.now;
  Tells = question.tells job.question.now says job.name.now;
  name = job.name.now;
  kept = kept;
}

-- the same with this judge
abbrev pub trying : {P I L Q J K : Type 0} → PassesGhosts P I → LawGhosts L → QuestionGhosts Q → JudgeGhosts J K → Job P L Q I → J → List Kept → Epoch
trying passes law question judge job j kept = epoch_of passes law question job (judge.says (judge.key j)) kept

-- What an epoch does to the judges: each has its key still, and what it is asked is bounded.
pub record IsJudged {J K : Type 0} (judge : JudgeGhosts J K) (e : Epoch) (old new : List J) : Type 0 where
  pub asks : AsksOnce e (tallies_of judge old) (tallies_of judge new)
  pub count : length new ≡ length old
  pub keys : (i : ℕ) (d : J) → i < length old → judge.key (slice_index_or new i d) ≡ judge.key (slice_index_or old i d)
  pub later : (i : ℕ) (d : J) → i < length old → judge.faults (slice_index_or old i d) ≤ judge.faults (slice_index_or new i d)
  -- where the question asks none, they are as they were
  pub silent : e.asks ≡ false → new ≡ old
