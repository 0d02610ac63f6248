-- What a run is asked to do.
use Rattle.std.specs.Prelude.{◌≡◌, ◌⊎◌, ◌<◌, ℕ, Bool, List, [], Option, Some, None, length}
use Rattle.cr_cursor.specs.declared.law.Law.{Ghosts as LawGhosts}
use Rattle.cr_cursor.specs.declared.law.Reason.{Reason}
use Rattle.cr_cursor.specs.declared.passes.Passes.{Ghosts as PassesGhosts}
use Rattle.cr_cursor.specs.TokenLaw.{IsTokenized}
use Rattle.cr_outside.specs.Files.{Names, content_of}
use Rattle.cr_outside.specs.Question.{Says}
use Rattle.cr_outside.specs.Story.{Story, with_event}
use Rattle.cr_outside.specs.Story.Event.{Read}
use Rattle.cr_outside.specs.declared.story.Outcome.{Outcome}
use Rattle.cr_outside.specs.declared.story.Outcome.TheVariants.{Done, NoMemory}
use Rattle.cr_outside.specs.declared.question.Question.{Ghosts as QuestionGhosts}
use Rattle.cr_reduce.specs.Search.{Search, search_of}
use Rattle.cr_main_task.specs.declared.asking.Asking.{Ghosts as AskingGhosts}
use Rattle.cr_main_task.specs.declared.task.Task.{Task as Asked}

-- What is searched, why a file is not lawful, how many positions are tried at once at most, the most turns, the file's whole
-- name, and whether files are written.
pub record Task : Type 1 where
  pub search : Search
  pub Against : List ℕ → Reason → Type 0
  pub window : ℕ
  pub limit : Option ℕ
  pub name : List ℕ
  pub saves : Bool

-- the task of the code's value with a question that uses the judge so, and tells this, where the judges say this; no verdict is kept when
-- it begins
abbrev pub task_with : {P I L A : Type 0} → PassesGhosts P I → LawGhosts L → Asked P L A → Bool → (Says → List ℕ → List ℕ → Bool → Type 0) → Says → Task
task_with passes law asked asks Tells says = record {
  search = search_of (passes.offers asked.passes.now) (law.lawful asked.law.now) asks Tells says asked.own.now [];
  Against = law.reasons asked.law.now;
  window = asked.window;
  limit = asked.limit;
  name = asked.name.now;
  saves = asked.saves;
}

-- that with this question
abbrev pub task_for : {P I L A Q : Type 0} → PassesGhosts P I → LawGhosts L → QuestionGhosts Q → Asked P L A → Q → Says → Task
task_for passes law question asked one says = task_with passes law asked (question.asks one) (question.tells one) says

-- and that with the question that is made from these bytes
abbrev pub task_at : {P I L A B : Type 0} → PassesGhosts P I → LawGhosts L → AskingGhosts A B → Asked P L A → Says → List ℕ → Task
task_at passes law asking asked says bytes = task_with passes law asked (asking.asks asked.asking.now) (asking.tells (asking.key asked.asking.now bytes)) says

-- What is known of the bytes that a run begins with: what the file may have, whether it may be missing, and what is made of
-- the story to have them, with this outcome.
pub record Text : Type 1 where
  pub Has : List ℕ → Type 0
  pub Lacks : Type 0
  pub Opens : Outcome → Option Story → Option Story → Type 0

-- these bytes, for which no call is made
abbrev pub given : List ℕ → Text
given bytes = record { Has = λ b. b ≡ bytes; Lacks = ⊥; Opens = λ outcome old new. (outcome ≡ Done) × (new ≡ old) }

-- what is read of a file at most: one byte more than a file may have
abbrev pub most_read : ℕ
most_read = 1048577

-- The file was read by one call. One that found no memory may be missing.
abbrev pub IsRead : List ℕ → Outcome → Option Story → Option Story → Type 0
IsRead name NoMemory old new = (new ≡ old) ⊎ (new ≡ with_event (Read name most_read NoMemory) old)
IsRead name outcome old new = new ≡ with_event (Read name most_read outcome) old

-- where the map is told, the file has these bytes
abbrev pub FileHas : Option Names → List ℕ → List ℕ → Type 0
FileHas None name bytes = Unit {0}
FileHas (Some files) name bytes = content_of files name ≡ Some bytes

-- where the map is told, there is no such file
abbrev pub FileLacks : Option Names → List ℕ → Type 0
FileLacks None name = Unit {0}
FileLacks (Some files) name = content_of files name ≡ None

-- what the file of this name has
abbrev pub stored : Option Names → List ℕ → Text
stored files name = record { Has = FileHas files name; Lacks = FileLacks files name; Opens = IsRead name }

-- the bytes are there, or no memory was left for them
abbrev pub MayOpen : Text → Option Story → Option Story → Type 0
MayOpen text old new = text.Opens Done old new ⊎ text.Opens NoMemory old new

-- What every law of programs keeps: a lawful file tokenises, and a file of more bytes than a file may have is unlawful for
-- the reasons for which every such file is.
pub record IsOfPrograms (Lawful : List ℕ → Type 0) (Against : List ℕ → Reason → Type 0) : Type 0 where
  pub tokenizes : (file : List ℕ) → Lawful file → IsTokenized file
  pub too_long : (file other : List ℕ) (reason : Reason) → 1048576 < length file → 1048576 < length other → Against file reason → Against other reason
