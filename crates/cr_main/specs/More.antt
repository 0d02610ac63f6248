-- What a run comes to, of all that words may ask for.
use Rattle.std.specs.Prelude.{◌≡◌, ◌⊎◌, ◌+◌, ◌*◌, ◌-◌, ℕ, Bool, true, false, List, [], ◌++◌, codes, drop, length}
use Rattle.std.specs.String.{string_bytes}
use Rattle.cr_formula.specs.Forms.{Form, Spells}
use Rattle.cr_lawful.specs.Lawful.{limits_of}
use Rattle.cr_meaning.specs.declared.run.Limits.{Limits}
use Rattle.cr_outside.specs.Question.{Says}
use Rattle.cr_outside.specs.Story.{files_told}
use Rattle.cr_outside.specs.Test.{asks_test}
use Rattle.cr_outside.specs.declared.test.Test.{Test}
use Rattle.cr_outside.specs.declared.test.Test.TheVariants as test
use Rattle.pass_list.specs.Offers.{levels_on}
use Rattle.cr_reduce.specs.Bench.{AsksAtMost, GoesOn, Judging}
use Rattle.cr_main.specs.Formulas.{IsFormulaHeadline}
use Rattle.cr_main_kept.specs.Completing.{CompletesFirst, CompletesOn}
use Rattle.cr_main_kept.specs.Kept.{RunsJournal, RunsResume}
use Rattle.cr_main_kept.specs.KeptTask.{KeptTask, at}
use Rattle.cr_main_kept.specs.Promises.{AsksOnlyOn, CopiesAtMost, EndsOn, KeepsFilesOn}
use Rattle.cr_main_kept.specs.Surviving.{Survives}
use Rattle.cr_main_kept.specs.declared.header.Marks.{Marks}
use Rattle.cr_main_replay.specs.Replay.{IsReplayed, Replaying, RunsReplay}
use Rattle.cr_main_replay.specs.Programs.{replaying_of}
use Rattle.cr_main.specs.Standing.{by_standing}
use Rattle.cr_main_task.specs.Bound.{AsksBound, BoundEnded, HasAllBound, HasReducedBound, KeepsBound}
use Rattle.cr_main_task.specs.Opening.{RunsBound}
use Rattle.cr_main_task.specs.Outside.{Outside, Puts}
use Rattle.cr_main_task.specs.Run.{Claiming, by_epochs}
use Rattle.cr_main_task.specs.Task.{Task, Text}
use Rattle.cr_main_words.specs.Giving.{HasSettings}
use Rattle.cr_main_words.specs.Names.{IsOwnName, name_of}
use Rattle.cr_main_words.specs.RequestLaws.{HasNoFlag}
use Rattle.cr_main_words.specs.Requests.{Asks, AsksNothing, HasReduction, IsReplay, Suits}
use Rattle.cr_main_words.specs.Words.{Word}
use Rattle.cr_main_words.specs.declared.modes.Engine.{Engine}
use Rattle.cr_main_words.specs.declared.modes.Engine.TheVariants as engine
use Rattle.cr_main_words.specs.declared.modes.Modes.{Modes}
use Rattle.cr_main_words.specs.declared.replay.ReplaySettings.{ReplaySettings}
use Rattle.cr_main_words.specs.declared.request.Request.{Request}
use Rattle.cr_main_words.specs.declared.request.Request.TheVariants as request
use Rattle.cr_main_words.specs.declared.settings.Settings.{Settings}
use Rattle.cr_main_words.specs.declared.source.Source.{Source}
use Rattle.cr_main.specs.Messages.{usage_line}
use Rattle.cr_main.specs.Run.{DoesNothing}
use Rattle.cr_main.specs.Task.{IsRunnable, Query, asked_of, marks_of, text_of}
use Rattle.cr_main.specs.Task.Query.{by_form, by_test}

-- a word begins with if:
abbrev pub BeginsWithIf : List ℕ → Type 0
BeginsWithIf word = (rest : List ℕ) × (word ≡ codes "if:" ++ rest)

-- the test is no path of a program, but a formula: it begins with if:
abbrev pub IsFormula : Test → Type 0
IsFormula (test.Has text) = ⊥
IsFormula (test.Program path) = BeginsWithIf (string_bytes path)

-- the word that the path of a test is; a text has none
abbrev pub word_of : Test → List ℕ
word_of (test.Has text) = []
word_of (test.Program path) = string_bytes path

-- a test of the words means this: the formula that it spells, or itself
abbrev pub Means : Test → Query → Type 0
Means given by_test = IsFormula given → ⊥
Means given (by_form form) = IsFormula given × Spells (word_of given) form

-- a journal is begun or gone on with
abbrev pub IsKept : Engine → Type 0
IsKept engine.Journal = Unit {0}
IsKept engine.Resume = Unit {0}
IsKept _ = ⊥

-- what a reduction by epochs of workers comes to
abbrev pub RunsPlain : KeptTask → Source → Outside → Outside → Judging → Judging → ℕ → Type 0
RunsPlain k source old new before after status = RunsBound k.law (at k) (λ bytes. by_epochs (at k bytes)) k.name (text_of source old.files) old new before after status

-- What a reduction comes to, by an engine.
abbrev pub RunsIn : Engine → KeptTask → Marks → Source → Outside → Outside → Judging → Judging → Bool → ℕ → Type 0
RunsIn engine.Plain k marks source old new before after has_failed status = RunsPlain k source old new before after status
RunsIn engine.Standing k marks source old new before after has_failed status =
    RunsBound k.law (at k) (λ bytes. by_standing (at k bytes)) k.name (text_of source old.files) old new before after status
RunsIn engine.Journal k marks source old new before after has_failed status =
    RunsJournal k marks old new before after has_failed status × Survives k marks old new status
RunsIn engine.Resume k marks source old new before after has_failed status =
    RunsResume k marks old new before after has_failed status × Survives k marks old new status

-- What a reduction with these settings, in these modes, comes to. Whether the call on the disk made last failed is told beside the status.
pub data RunsAsked (settings : Settings) (modes : Modes) (says : Says) (old new : Outside) (before after : Judging) (has_failed : Bool) (status : ℕ) : Type 0 where
  -- 2: the test begins with if:, and spells no formula
  spells_none : IsFormula settings.test → ((form : Form) → Spells (word_of settings.test) form → ⊥) → DoesNothing old new before after → Puts old new usage_line 2 2 status
      → RunsAsked settings modes says old new before after has_failed status
  -- 11: no memory was left to read the formula
  unread_word : new ≡ old → after ≡ before → status ≡ 11 → RunsAsked settings modes says old new before after has_failed status
  -- a question that uses no judge asks none
  reduces : (query : Query) (own : List ℕ) → Means settings.test query → IsOwnName (name_of settings.source) own
      → ((asked_of settings modes query says own).asks ≡ false → after ≡ before)
      → RunsIn modes.engine (asked_of settings modes query says own) (marks_of settings) settings.source old new before after has_failed status
      → RunsAsked settings modes says old new before after has_failed status

-- the log and the file that are asked for, the steps and the passes
abbrev pub replaying_by : ReplaySettings → Replaying
replaying_by asked = replaying_of asked.steps asked.enabled (string_bytes asked.log) (string_bytes asked.file)

-- What comes of a request.
abbrev pub Does : Request → Says → Outside → Outside → Judging → Judging → Bool → ℕ → Type 0
Does (request.Reduction settings modes) says old new before after has_failed status = RunsAsked settings modes says old new before after has_failed status
Does (request.Replay asked) says old new before after has_failed status = (after ≡ before) × RunsReplay (replaying_by asked) old new status

-- it can be done by so many workers
abbrev pub MayRun : ℕ → Request → Type 0
MayRun most (request.Reduction settings modes) = IsRunnable most settings × Suits modes.engine settings.source
MayRun most (request.Replay asked) = Unit {0}

-- no judge is needed for it
abbrev pub IsQuiet : Request → Type 0
IsQuiet (request.Reduction settings modes) = IsFormula settings.test ⊎ (asks_test settings.test ≡ false)
IsQuiet (request.Replay asked) = Unit {0}

-- judges beyond the workers that it asks for are as they were; a replay has none
abbrev pub LeavesOthers : {J : Type 0} → Request → List J → List J → Type 0
LeavesOthers (request.Reduction settings modes) old new = drop settings.workers new ≡ drop settings.workers old
LeavesOthers (request.Replay asked) old new = new ≡ old

-- Workers beyond those that the words ask for do nothing.
abbrev pub KeepsToAsked : {J : Type 0} → List Word → ℕ → List J → List J → Type 0
KeepsToAsked words most old new = (asked : Request) → Asks words most asked → LeavesOthers asked old new

-- What a run of the command line comes to.
pub data RunsMore (words : List Word) (most : ℕ) (says : Says) (old new : Outside) (before after : Judging) (has_failed : Bool) (status : ℕ) : Type 0 where
  -- 2: the words ask for nothing
  asks_nothing : AsksNothing words most → DoesNothing old new before after → Puts old new usage_line 2 2 status → RunsMore words most says old new before after has_failed status
  -- 11: no memory was left to read them
  unread_words : new ≡ old → after ≡ before → status ≡ 11 → RunsMore words most says old new before after has_failed status
  reduction : (settings : Settings) (modes : Modes) → HasReduction words most settings modes → RunsAsked settings modes says old new before after has_failed status
      → RunsMore words most says old new before after has_failed status
  -- no judge is asked, and nothing is written
  replay : (asked : ReplaySettings) → Asks words most (request.Replay asked) → after ≡ before → RunsReplay (replaying_by asked) old new status
      → RunsMore words most says old new before after has_failed status

-- the words have no flag, don't begin with --replay, and ask for no formula
pub record IsPlain (words : List Word) (most : ℕ) : Type 0 where
  pub no_flag : HasNoFlag words
  pub no_replay : (others : List Word) → IsReplay words others → ⊥
  pub no_formula : (settings : Settings) → HasSettings words most settings → IsFormula settings.test → ⊥

-- What is asked of a run is a reduction: the words ask for it with these settings, in these modes, the test means this, and the file has this
-- own name.
pub record IsReducing (words : List Word) (most : ℕ) (settings : Settings) (modes : Modes) (query : Query) (own : List ℕ) : Type 0 where
  pub asks : HasReduction words most settings modes
  pub means : Means settings.test query
  pub is_own : IsOwnName (name_of settings.source) own

abbrev pub AsksForJournal : List Word → ℕ → Type 0
AsksForJournal words most = (settings : Settings) × (modes : Modes) × (query : Query) × (own : List ℕ) × IsReducing words most settings modes query own × IsKept modes.engine

-- **A run that keeps a journal survives its stops.**
abbrev pub SurvivesMore : List Word → ℕ → Says → Outside → Outside → ℕ → Type 0
SurvivesMore words most says old new status = (settings : Settings) (modes : Modes) (query : Query) (own : List ℕ) → IsReducing words most settings modes query own → IsKept modes.engine
    → Survives (asked_of settings modes query says own) (marks_of settings) old new status

-- **The headline**, by an engine of which this is claimed: of a formula with no premise on the outside.
abbrev pub HeadlineOf : Query → Limits → (List ℕ → Task) → (List ℕ → Claiming) → Text → Outside → Outside → Judging → Judging → ℕ → Type 0
HeadlineOf by_test limits at By text old new before after status = HasReducedBound at By text old new before after status
HeadlineOf (by_form form) limits at By text old new before after status = IsFormulaHeadline form limits at By text old new before after status

-- How a run ends by such an engine: at 0 and 7 with the headline, at 8 and 10 with the files of the reduction as far as it went.
pub record EndsBy (settings : Settings) (query : Query) (k : KeptTask) (By : List ℕ → Claiming) (old new : Outside) (before after : Judging) (status : ℕ) : Type 0 where
  pub headline : (status ≡ 0) ⊎ (status ≡ 7) → HeadlineOf query (limits_of settings.steps) (at k) By (text_of settings.source old.files) old new before after status
  pub finished : (status ≡ 8) ⊎ (status ≡ 10) → BoundEnded (at k) (text_of settings.source old.files) old new status

-- By epochs the judges are asked about the file, and then at most once for each turn and, for each acceptance, for the positions of its epoch behind it.
abbrev pub AsksFew : Settings → KeptTask → Outside → Outside → Judging → Judging → ℕ → Type 0
AsksFew settings k old new before after status = (it : HasReducedBound (at k) (λ bytes. by_epochs (at k bytes)) (text_of settings.source old.files) old new before after status)
    → (status ≡ 0) ⊎ (status ≡ 7) → AsksAtMost (it.reduced.end.turns + length it.reduced.end.accepted.items * (settings.window - 1) + 1) before after

-- How a run ends that keeps a journal: at 12 the call on the disk made last failed; at 12 and 13 neither the file nor the log was written.
pub record EndsWithJournal (k : KeptTask) (marks : Marks) (old new : Outside) (after : Judging) (has_failed : Bool) (status : ℕ) : Type 0 where
  pub ends : ((status ≡ 0) ⊎ (status ≡ 7)) ⊎ ((status ≡ 8) ⊎ (status ≡ 10)) → EndsOn k marks old new after status
  pub failed : status ≡ 12 → (has_failed ≡ true) × CopiesAtMost k.name (files_told old.story) (files_told new.story)
  pub refused : status ≡ 13 → files_told new.story ≡ files_told old.story

abbrev pub EndsIn : Engine → Settings → Query → KeptTask → Outside → Outside → Judging → Judging → Bool → ℕ → Type 0
EndsIn engine.Plain settings query k old new before after has_failed status =
    EndsBy settings query k (λ bytes. by_epochs (at k bytes)) old new before after status × AsksFew settings k old new before after status
EndsIn engine.Standing settings query k old new before after has_failed status = EndsBy settings query k (λ bytes. by_standing (at k bytes)) old new before after status
EndsIn engine.Journal settings query k old new before after has_failed status = EndsWithJournal k (marks_of settings) old new after has_failed status
EndsIn engine.Resume settings query k old new before after has_failed status = EndsWithJournal k (marks_of settings) old new after has_failed status

-- What stands at 0, 7, 8 and 10, and with a journal at 12 and 13; 8 comes only where the question uses a judge. Of a replay, that **the
-- log leads from the copy to the file**.
pub data EndsMore (words : List Word) (most : ℕ) (says : Says) (old new : Outside) (before after : Judging) (has_failed : Bool) (status : ℕ) : Type 0 where
  of_reduction : (settings : Settings) (modes : Modes) (query : Query) (own : List ℕ) → IsReducing words most settings modes query own
      → EndsIn modes.engine settings query (asked_of settings modes query says own) old new before after has_failed status
      → (status ≡ 8 → (asked_of settings modes query says own).asks ≡ true) → EndsMore words most says old new before after has_failed status
  of_replay : (asked : ReplaySettings) → Asks words most (request.Replay asked) → ((status ≡ 0) ⊎ (status ≡ 10) → IsReplayed (replaying_by asked) old.files)
      → EndsMore words most says old new before after has_failed status
  of_nothing : (status ≡ 2) ⊎ (status ≡ 11) → EndsMore words most says old new before after has_failed status

-- What holds of the files at every status.
abbrev pub KeepsIn : Engine → Source → KeptTask → Outside → Outside → Judging → Type 0
KeepsIn engine.Plain source k old new after = KeepsBound (at k) (λ bytes. by_epochs (at k bytes)) (text_of source old.files) old new after
KeepsIn engine.Standing source k old new after = KeepsBound (at k) (λ bytes. by_standing (at k bytes)) (text_of source old.files) old new after
KeepsIn engine.Journal source k old new after = KeepsFilesOn k (files_told old.story) (files_told new.story) after
KeepsIn engine.Resume source k old new after = KeepsFilesOn k (files_told old.story) (files_told new.story) after

pub data KeepsMore (words : List Word) (most : ℕ) (says : Says) (old new : Outside) (after : Judging) : Type 0 where
  more_unchanged : new.files ≡ old.files → KeepsMore words most says old new after
  more_kept : (settings : Settings) (modes : Modes) (query : Query) (own : List ℕ) → IsReducing words most settings modes query own
      → KeepsIn modes.engine settings.source (asked_of settings modes query says own) old new after → KeepsMore words most says old new after

-- What the test is asked. Of standing workers no more is said than that no call is taken back.
abbrev pub AsksIn : Engine → Source → KeptTask → Outside → Judging → Judging → Type 0
AsksIn engine.Plain source k old before after = AsksBound (at k) (text_of source old.files) before after
AsksIn engine.Standing source k old before after = GoesOn before after
AsksIn engine.Journal source k old before after = AsksOnlyOn k (files_told old.story) before after
AsksIn engine.Resume source k old before after = AsksOnlyOn k (files_told old.story) before after

-- A question that uses no judge asks none.
pub data AsksMore (words : List Word) (most : ℕ) (says : Says) (old : Outside) (before after : Judging) : Type 0 where
  more_asks_nothing : after ≡ before → AsksMore words most says old before after
  more_asks : (settings : Settings) (modes : Modes) (query : Query) (own : List ℕ) → IsReducing words most settings modes query own
      → AsksIn modes.engine settings.source (asked_of settings modes query says own) old before after
      → ((asked_of settings modes query says own).asks ≡ false → after ≡ before) → AsksMore words most says old before after

-- Completeness, by an engine: with all that it needs, a run ends with 0, or for want of memory.
abbrev pub CompletesIn : Engine → Settings → KeptTask → Outside → Outside → Judging → Judging → Bool → ℕ → Type 0
CompletesIn engine.Plain settings k old new before after has_failed status = HasAllBound (levels_on settings.enabled) (at k) (text_of settings.source old.files) old new before after → (status ≡ 0) ⊎ (status ≡ 11)
CompletesIn engine.Standing settings k old new before after has_failed status = HasAllBound (levels_on settings.enabled) (at k) (text_of settings.source old.files) old new before after → (status ≡ 0) ⊎ (status ≡ 11)
CompletesIn engine.Journal settings k old new before after has_failed status = CompletesFirst (levels_on settings.enabled) k old new before after has_failed status
CompletesIn engine.Resume settings k old new before after has_failed status = CompletesOn (levels_on settings.enabled) k (marks_of settings) old new before after has_failed status

abbrev pub CompletesMore : List Word → ℕ → Says → Outside → Outside → Judging → Judging → Bool → ℕ → Type 0
CompletesMore words most says old new before after has_failed status = (settings : Settings) (modes : Modes) (query : Query) (own : List ℕ) → IsReducing words most settings modes query own
    → CompletesIn modes.engine settings (asked_of settings modes query says own) old new before after has_failed status

-- what is asked of a run needs no judge: its test is a formula, or a text that the file must have
abbrev pub IsSilent : List Word → ℕ → Type 0
IsSilent words most = (settings : Settings) × (modes : Modes) × HasReduction words most settings modes × (IsFormula settings.test ⊎ (asks_test settings.test ≡ false))
