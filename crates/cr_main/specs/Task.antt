-- What settings of the command line ask for.
use Rattle.std.specs.Prelude.{◌≡◌, ◌<◌, ◌≤◌, ℕ, Bool, true, false, List, [], Option, None, Some}
use Rattle.cr_formula.specs.Forms.{Form}
use Rattle.cr_formula_bound.specs.Values.{TellsFormula}
use Rattle.cr_gen.specs.Program.{generated}
use Rattle.cr_lawful.specs.Lawful.{IsLawful, IsReason, limits_of}
use Rattle.cr_meaning.specs.declared.run.Limits.{Limits}
use Rattle.cr_order.specs.Orders.{IsLawfulInOrder, IsOrderReason}
use Rattle.cr_outside.specs.Files.{Names}
use Rattle.cr_outside.specs.Question.{Says}
use Rattle.cr_outside.specs.Test.{asks_test, tells_test}
use Rattle.cr_outside.specs.declared.test.Test.{Test}
use Rattle.cr_reached.specs.Reached.{IsLawfulReached, IsReachReason}
use Rattle.pass_list.specs.Offers.{Offers}
use Rattle.pass_list.specs.declared.passes.CPasses.{CPasses}
use Rattle.cr_reduce.specs.Search.{search_of}
use Rattle.cr_main_kept.specs.Header.{passes_mark}
use Rattle.cr_main_kept.specs.KeptTask.{KeptTask, kept_with}
use Rattle.cr_main_kept.specs.declared.header.Marks.{Marks}
use Rattle.cr_main_task.specs.Opening.{Ruled}
use Rattle.cr_main_task.specs.Task.{Task, Text, given, stored}
use Rattle.cr_main_task.specs.declared.task.Task.{Task as Asked}
use Rattle.cr_main_words.specs.Names.{name_of}
use Rattle.cr_main_words.specs.declared.modes.Modes.{Modes}
use Rattle.cr_main_words.specs.declared.settings.Settings.{Settings}
use Rattle.cr_main_words.specs.declared.source.Source.{Source}
use Rattle.cr_main_words.specs.declared.source.Source.TheVariants as source

-- the file's text, or the one that is made
abbrev pub text_of : Source → Option Names → Text
text_of (source.Named name) files = stored files (name_of (source.Named name))
text_of (source.Made number items) files = given (generated number items)

-- a made text is not written
abbrev pub saves_of : Source → Bool
saves_of (source.Named name) = true
saves_of (source.Made number items) = false

-- the task of settings, for judges who say this, with the file's own name: the enabled passes, the law of programs whose runs take at
-- most the steps of the settings, and the test
abbrev pub task_of : Settings → Says → List ℕ → Task
task_of settings says own = record {
  search = search_of (Offers settings.enabled) (IsLawful (limits_of settings.steps)) (asks_test settings.test) (tells_test settings.test) says own [];
  Against = IsReason (limits_of settings.steps);
  window = settings.window;
  limit = settings.limit;
  name = name_of settings.source;
  saves = saves_of settings.source;
}

-- what a run asks about each file: the test of the words, or a formula
pub data Query : Type 0 where
  by_test : Query
  by_form : Form → Query

abbrev pub asks_of : Test → Query → Bool
asks_of test by_test = asks_test test
asks_of test (by_form form) = false

-- what it tells, where these bytes are reduced: a formula is bound to them
abbrev pub tells_of : Test → Limits → Query → List ℕ → Says → List ℕ → List ℕ → Bool → Type 0
tells_of test limits by_test bytes says name file answer = tells_test test says name file answer
tells_of test limits (by_form form) bytes says name file answer = TellsFormula form bytes limits file answer

-- the law of programs within limits; with the flag on orders, of those whose runs hang on no order of operands; with a label, of those whose runs reach it
abbrev pub ruled_by : Option (List ℕ) → Bool → Limits → Ruled
ruled_by None false limits = record { Lawful = IsLawful limits; Against = IsReason limits }
ruled_by None true limits = record { Lawful = IsLawfulInOrder limits; Against = IsOrderReason limits }
ruled_by (Some name) any_order limits = record { Lawful = IsLawfulReached any_order limits name; Against = IsReachReason any_order limits name }

abbrev pub law_by : Modes → Limits → Ruled
law_by modes limits = ruled_by modes.reached modes.any_order limits

-- what settings ask for by a law and by what is asked of each file, for judges who say this, with the file's own name
abbrev pub asked_by : Ruled → Bool → (List ℕ → Says → List ℕ → List ℕ → Bool → Type 0) → Settings → Says → List ℕ → KeptTask
asked_by law asks tells settings says own = kept_with (Offers settings.enabled) law asks tells says own settings.window settings.limit (name_of settings.source) (saves_of settings.source)

-- and with the flags on the law, and the test or a formula
abbrev pub asked_of : Settings → Modes → Query → Says → List ℕ → KeptTask
asked_of settings modes query says own =
    asked_by (law_by modes (limits_of settings.steps)) (asks_of settings.test query) (tells_of settings.test (limits_of settings.steps) query) settings says own

-- what the header of a journal has of settings, beside the limit
abbrev pub marks_of : Settings → Marks
marks_of settings = record { passes = passes_mark settings.enabled; steps = settings.steps }

-- a made text has a number and items within the bounds of the command line
abbrev pub IsMakeable : Source → Type 0
IsMakeable (source.Named name) = Unit {0}
IsMakeable (source.Made number items) = (number < 2147483648) × (1 ≤ items) × (items ≤ 10000)

-- What settings of the command line have that are run on so many workers.
pub record IsRunnable (most : ℕ) (settings : Settings) : Type 0 where
  pub workers : (0 < settings.workers) × (settings.workers ≤ most)
  pub window : (0 < settings.window) × (settings.window ≤ 4096)
  pub makeable : IsMakeable settings.source

-- A value of the code is the task of settings, by some law and some question.
pub record IsTaskOf {L A : Type 0} (settings : Settings) (asked : Asked CPasses L A) : Type 0 where
  pub enabled : asked.passes.now.enabled ≡ settings.enabled
  pub workers : asked.workers ≡ settings.workers
  pub window : asked.window ≡ settings.window
  pub limit : asked.limit ≡ settings.limit
  pub name : asked.name.now ≡ name_of settings.source
  pub saves : asked.saves ≡ saves_of settings.source
