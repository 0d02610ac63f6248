-- What words ask for.
use Rattle.std.specs.Prelude.{◌≡◌, ℕ, List, [], ◌∷◌, codes}
use Rattle.cr_main_words.specs.Flags.{GivesModes, rest_of}
use Rattle.cr_main_words.specs.Giving.{HasSettings}
use Rattle.cr_main_words.specs.Letters.{IsEnabled}
use Rattle.cr_main_words.specs.Names.{IsSource}
use Rattle.cr_main_words.specs.Numbers.{IsNumberOr}
use Rattle.cr_main_words.specs.Words.{Said, Tells, Word, option_names, places_of, values_of}
use Rattle.cr_main_words.specs.declared.modes.Engine.{Engine}
use Rattle.cr_main_words.specs.declared.modes.Engine.TheVariants as engine
use Rattle.cr_main_words.specs.declared.modes.Modes.{Modes}
use Rattle.cr_main_words.specs.declared.replay.ReplaySettings.{ReplaySettings}
use Rattle.cr_main_words.specs.declared.request.Request.{Request}
use Rattle.cr_main_words.specs.declared.request.Request.TheVariants as request
use Rattle.cr_main_words.specs.declared.settings.Settings.{Settings}
use Rattle.cr_main_words.specs.declared.source.Source.{Source}
use Rattle.cr_main_words.specs.declared.source.Source.TheVariants as source

-- a file of a name, and no generated program
abbrev pub IsOfFile : Source → Type 0
IsOfFile (source.Named name) = Unit {0}
IsOfFile (source.Made number items) = ⊥

-- a journal, new or resumed, is of a file of a name
abbrev pub Suits : Engine → Source → Type 0
Suits engine.Journal from = IsOfFile from
Suits engine.Resume from = IsOfFile from
Suits _ from = Unit {0}

-- The words ask for this reduction, where there are so many workers: their flags ask for the modes, and the words without
-- the flags give the settings.
pub record HasReduction (words : List Word) (most : ℕ) (settings : Settings) (modes : Modes) : Type 0 where
  pub flags : GivesModes words modes
  pub rest : HasSettings (rest_of words) most settings
  pub suits : Suits modes.engine settings.source

-- The values of the options and the positional words give these settings of a replay: of the options there are steps and
-- passes alone, the log is the first positional word, and the file the second and last; both are names of files.
pub record GivesReplay (values : Word → List Word) (places : List Word) (settings : ReplaySettings) : Type 0 where
  pub log : Word
  pub file : Word
  pub two : places ≡ log ∷ (file ∷ [])
  pub no_workers : values (codes "workers") ≡ []
  pub no_window : values (codes "window") ≡ []
  pub no_limit : values (codes "limit") ≡ []
  pub steps : IsNumberOr 1000000 1 100000000 (values (codes "steps")) settings.steps
  pub passes : IsEnabled (values (codes "passes")) settings.enabled
  pub log_name : IsSource log (source.Named settings.log)
  pub file_name : IsSource file (source.Named settings.file)

-- The words after --replay give these settings.
pub record HasReplay (words : List Word) (settings : ReplaySettings) : Type 0 where
  pub said : List Said
  pub tells : Tells option_names words said
  pub gives : GivesReplay (λ name. values_of name said) (places_of said) settings

-- the first word is --replay, and these are the others
abbrev pub IsReplay : List Word → List Word → Type 0
IsReplay words others = words ≡ codes "--replay" ∷ others

-- the words ask for this
abbrev pub Asks : List Word → ℕ → Request → Type 0
Asks words most (request.Reduction settings modes) = HasReduction words most settings modes
Asks words most (request.Replay settings) = (others : List Word) × IsReplay words others × HasReplay others settings

-- the words ask for nothing
abbrev pub AsksNothing : List Word → ℕ → Type 0
AsksNothing words most = (asked : Request) → Asks words most asked → ⊥
