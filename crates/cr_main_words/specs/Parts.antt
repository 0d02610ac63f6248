-- The parts of the settings.
use Rattle.std.specs.Prelude.{◌≡◌, ℕ, min, Bool, List, [], ◌∷◌, codes, Ok}
use Rattle.cr_outside.specs.Test.{ReadsTest}
use Rattle.cr_main_words.specs.Flags.{is_journal, is_resume, is_standing, once_if, times}
use Rattle.cr_main_words.specs.Names.{IsSource}
use Rattle.cr_main_words.specs.Numbers.{IsNumberOr, IsOptional}
use Rattle.cr_main_words.specs.Words.{Word}
use Rattle.cr_main_words.specs.declared.modes.Engine.{Engine}
use Rattle.cr_main_words.specs.declared.replay.Names.{Names}
use Rattle.cr_main_words.specs.declared.settings.Asked.{Asked}
use Rattle.cr_main_words.specs.declared.settings.Counts.{Counts}
use Rattle.cr_main_words.specs.declared.source.Source.TheVariants as source

-- the values of the options give these numbers, where there are so many workers
pub record GivesCounts (values : Word → List Word) (most : ℕ) (counts : Counts) : Type 0 where
  pub workers : IsNumberOr (min 4 most) 1 (min 32 most) (values (codes "workers")) counts.workers
  pub window : IsNumberOr 256 1 4096 (values (codes "window")) counts.window
  pub limit : IsOptional 0 9223372036854775807 (values (codes "limit")) counts.limit
  pub steps : IsNumberOr 1000000 1 100000000 (values (codes "steps")) counts.steps

-- the flags without a label ask for this engine, and whether for any order
pub record GivesFlags (words : List Word) (engine : Engine) (any_order : Bool) : Type 0 where
  pub journal : times (codes "--journal") words ≡ once_if (is_journal engine)
  pub resume : times (codes "--resume") words ≡ once_if (is_resume engine)
  pub standing : times (codes "--standing") words ≡ once_if (is_standing engine)
  pub any_order_is : times (codes "--any-order") words ≡ once_if any_order

-- the positional words ask this about that
pub record GivesAsked (places : List Word) (asked : Asked) : Type 0 where
  pub test : Word
  pub file : Word
  pub two : places ≡ test ∷ (file ∷ [])
  pub reads : ReadsTest test (Ok asked.test)
  pub source : IsSource file asked.source

-- the positional words name these files of a replay
pub record GivesNames (places : List Word) (names : Names) : Type 0 where
  pub log : Word
  pub file : Word
  pub two : places ≡ log ∷ (file ∷ [])
  pub log_name : IsSource log (source.Named names.log)
  pub file_name : IsSource file (source.Named names.file)
