-- The settings that words give.
use Rattle.std.specs.Prelude.{◌≡◌, ℕ, min, List, [], ◌∷◌, codes, Ok}
use Rattle.cr_outside.specs.Test.{ReadsTest}
use Rattle.cr_main_words.specs.Letters.{IsEnabled}
use Rattle.cr_main_words.specs.Names.{IsSource}
use Rattle.cr_main_words.specs.Numbers.{IsNumberOr, IsOptional}
use Rattle.cr_main_words.specs.Words.{Said, Tells, Word, option_names, places_of, values_of}
use Rattle.cr_main_words.specs.declared.settings.Settings.{Settings}

-- The values of the options and the positional words give these settings, where there are so many workers: each option
-- comes once at most, the test is the first positional word, and the file the second and last.
pub record GivesSettings (values : Word → List Word) (places : List Word) (most : ℕ) (settings : Settings) : Type 0 where
  pub test : Word
  pub file : Word
  pub two : places ≡ test ∷ (file ∷ [])
  pub workers : IsNumberOr (min 4 most) 1 (min 32 most) (values (codes "workers")) settings.workers
  pub window : IsNumberOr 256 1 4096 (values (codes "window")) settings.window
  pub limit : IsOptional 0 9223372036854775807 (values (codes "limit")) settings.limit
  pub steps : IsNumberOr 1000000 1 100000000 (values (codes "steps")) settings.steps
  pub passes : IsEnabled (values (codes "passes")) settings.enabled
  pub reads : ReadsTest test (Ok settings.test)
  pub source : IsSource file settings.source

-- The words give these settings.
pub record HasSettings (words : List Word) (most : ℕ) (settings : Settings) : Type 0 where
  pub said : List Said
  pub tells : Tells option_names words said
  pub gives : GivesSettings (λ name. values_of name said) (places_of said) most settings

-- the words give none
abbrev pub HasNone : List Word → ℕ → Type 0
HasNone words most = (settings : Settings) → HasSettings words most settings → ⊥
