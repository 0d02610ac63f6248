-- What the clauses of this crate say of what lies below, by one import: each import costs the first walk of `rt` all ways that lie below.
pub use Rattle.cr_formula.specs.Forms.{Form, Spells, form_of}
pub use Rattle.cr_lawful.specs.Lawful.{IsLawful, limits_of}
pub use Rattle.cr_main.specs.Headline.{AsksOnly, Completes, HasEnded, IsHeadline, KeepsFiles, KeepsToWorkers, NeedsNoFiles, NeedsNoJudge, Promises}
pub use Rattle.cr_main.specs.Messages.{usage_line}
pub use Rattle.cr_main.specs.More.{AsksForJournal, AsksMore, BeginsWithIf, CompletesMore, Does, EndsMore, IsFormula, IsPlain, IsQuiet, IsSilent, KeepsMore, KeepsToAsked, LeavesOthers, MayRun, RunsAsked, RunsIn, RunsMore, RunsPlain, SurvivesMore, word_of}
pub use Rattle.cr_main.specs.Run.{Runs}
pub use Rattle.cr_main.specs.Task.{IsMakeable, IsRunnable, IsTaskOf, asked_by, law_by, marks_of, ruled_by, saves_of, task_of, text_of}
pub use Rattle.cr_main.specs.Standing.{by_standing}
pub use Rattle.cr_main_task.specs.Opening.{IsOpened, RunsBound, Unopened}
pub use Rattle.cr_main_task.specs.Outside.{Says, outside}
pub use Rattle.cr_main_task.specs.Run.{RunsTask, by_epochs}
pub use Rattle.cr_main_task.specs.Story.{KeepsJournal}
pub use Rattle.cr_main_task.specs.Task.{IsOfPrograms, task_at}
pub use Rattle.cr_main_words.specs.Names.{IsOwnName, name_of}
pub use Rattle.cr_main_words.specs.Requests.{Suits}
pub use Rattle.cr_main_words.specs.Words.{texts_of}
pub use Rattle.cr_outside.specs.Story.{EndsWithFault, files_told}
pub use Rattle.cr_outside.specs.Test.{asks_test}
pub use Rattle.cr_reduce.specs.Bench.{judging, keys_of, says_of}
