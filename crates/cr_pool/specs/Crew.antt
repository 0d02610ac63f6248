-- The workers of an epoch.
use Rattle.std.specs.Prelude.{◌≡◌, ◌≢◌, ◌<◌, ℕ, true, false, List, [], ◌∷◌, Option, Some, None, IsSomeAnd, length, map, slice_index_or}
use Rattle.cr_claims.specs.declared.seats.Claims.{Claims}
use Rattle.cr_claims.specs.declared.seats.Pass.{Pass}
use Rattle.cr_claims.specs.declared.view.View.{View}
use Rattle.cr_claims.specs.Pass.{view_of, IsOf}
use Rattle.cr_claims.specs.View.{joins}
use Rattle.cr_core.specs.Row.{Row}
use Rattle.cr_cursor.specs.declared.law.Law.{Ghosts as LawGhosts}
use Rattle.cr_cursor.specs.declared.passes.Passes.{Ghosts as PassesGhosts}
use Rattle.cr_outside.specs.declared.judge.Judge.{Ghosts as JudgeGhosts}
use Rattle.cr_outside.specs.declared.question.Question.{Ghosts as QuestionGhosts}
use Rattle.cr_pool.specs.declared.crew.Worker.{Worker}
use Rattle.cr_pool.specs.declared.job.Job.{Job}
use Rattle.cr_pool.specs.Epoch.{BeginsRight}
use Rattle.cr_pool.specs.Jobs.{trying}
use Rattle.cr_pool.specs.Kept.{Kept}
use Rattle.cr_pool.specs.Tally.{tally_of}
use Rattle.cr_pool.specs.Works.{Works, HitIsSo, IsBlank, NotesAreSo, NotesTell}

-- a pass of these claims that has done nothing yet
abbrev pub IsFresh : Claims → Pass → Type 0
IsFresh claims p = IsOf claims p × ((view_of p).own ≡ []) × ((view_of p).left ≡ false)

-- a pass of these claims that has left
abbrev pub Rests : Claims → Pass → Type 0
Rests claims p = IsOf claims p × ((view_of p).left ≡ true) × ((view_of p).own ≢ [])

-- the own list of a worker's pass
abbrev pub row_of : Option Pass → Row
row_of None = []
row_of (Some p) = (view_of p).own

-- the lists of the workers' passes
abbrev pub rows_of : {J : Type 0} → List (Worker J) → List Row
rows_of {J} workers = map (λ (w : Worker J). row_of w.pass) workers

-- their judges
abbrev pub judges_in : {J : Type 0} → List (Worker J) → List J
judges_in {J} workers = map (λ (w : Worker J). w.judge) workers

-- the keeper's pass, which has split so many passes and joined so many
pub record Keeps (splits joined : ℕ) (p : Pass) : Type 0 where
  pub keeper : (view_of p).keeper ≡ true
  pub splits_are : (view_of p).splits ≡ splits
  pub joins_are : joins (view_of p) ≡ joined
  pub nothing_of_its_own : (view_of p).own ≡ []

-- a view after it joined a list
pub record TakesIn (row : Row) (old new : View) : Type 0 where
  pub joined : new.joined ≡ row ∷ old.joined
  pub keeper : new.keeper ≡ old.keeper
  pub splits : new.splits ≡ old.splits
  pub own : new.own ≡ old.own

-- a worker after its pass was taken
pub record IsSameButPass {J : Type 0} (old new : Worker J) : Type 0 where
  pub judge : new.judge ≡ old.judge
  pub hit : new.hit ≡ old.hit
  pub variant : new.variant ≡ old.variant
  pub notes : new.notes ≡ old.notes

-- each worker has its judge still
abbrev pub HaveSameJudges : {J : Type 0} → List (Worker J) → List (Worker J) → Type 0
HaveSameJudges {J} old new = (k : ℕ) (d : Worker J) → k < length old → (slice_index_or new k d).judge ≡ (slice_index_or old k d).judge

-- each worker has its notes still
abbrev pub HaveSameNotes : {J : Type 0} → List (Worker J) → List (Worker J) → Type 0
HaveSameNotes {J} old new = (k : ℕ) (d : Worker J) → k < length old → (slice_index_or new k d).notes ≡ (slice_index_or old k d).notes

-- A worker may begin: its pass is fresh, nothing is noted, and the kept verdicts are right by what its judge says.
pub record IsReady {P I L Q J K : Type 0} (passes : PassesGhosts P I) (law : LawGhosts L) (question : QuestionGhosts Q) (judge : JudgeGhosts J K) (job : Job P L Q I) (claims : Claims)
    (kept : List Kept) (w : Worker J) : Type 0 where
  pub pass : IsSomeAnd w.pass (IsFresh claims)
  pub blank : IsBlank job.len w.notes.items
  pub right : BeginsRight (trying passes law question judge job w.judge kept)

-- A worker has done its part.
pub record IsWorked {P I L Q J K : Type 0} (passes : PassesGhosts P I) (law : LawGhosts L) (question : QuestionGhosts Q) (judge : JudgeGhosts J K) (job : Job P L Q I) (claims : Claims)
    (kept : List Kept) (old new : Worker J) : Type 0 where
  pub rests : IsSomeAnd new.pass (Rests claims)
  pub works : Works (trying passes law question judge job old.judge kept) (tally_of judge old.judge) (tally_of judge new.judge) new.hit (row_of new.pass)
  pub hit : HitIsSo (trying passes law question judge job old.judge kept) (tally_of judge old.judge) (tally_of judge new.judge) new.variant.items new.hit
  pub notes : NotesAreSo (trying passes law question judge job old.judge kept) (tally_of judge old.judge) (tally_of judge new.judge) new.notes.items
  pub tell : NotesTell (trying passes law question judge job old.judge kept) (row_of new.pass) new.notes.items
  pub key : judge.key new.judge ≡ judge.key old.judge
  pub silent : question.asks job.question.now ≡ false → new.judge ≡ old.judge
