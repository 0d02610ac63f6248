-- Laws of the command line.
use Rattle.std.specs.Prelude.{◌≡◌, ℕ, Bool, List}
use Rattle.cr_outside.specs.Question.{Says}
use Rattle.cr_outside.specs.Test.{asks_test, tells_test}
use Rattle.cr_outside.specs.declared.test.Test.{Test}
use Rattle.cr_main_words.specs.declared.settings.Settings.{Settings}
use Rattle.cr_main_words.specs.declared.source.Source.{Source}
use Rattle.cr_main_words.specs.declared.source.Source.TheVariants as source
use Rattle.cr_main_words.specs.Giving.{HasSettings}
use Rattle.cr_main_words.specs.Names.{name_of}
use Rattle.cr_main_words.specs.Words.{Word}

-- the tests ask alike and tell alike
pub record Agree (a b : Test) : Type 0 where
  pub asks : asks_test a ≡ asks_test b
  pub tells : (says : Says) (name file : List ℕ) (answer : Bool) → tells_test a says name file answer → tells_test b says name file answer

-- the sources are files of one name, or one generated program
abbrev pub SameSource : Source → Source → Type 0
SameSource (source.Named a) (source.Named b) = name_of (source.Named a) ≡ name_of (source.Named b)
SameSource (source.Made number items) (source.Made other more) = (number ≡ other) × (items ≡ more)
SameSource _ _ = ⊥

-- the settings are alike, but for how their texts are kept
pub record SameSettings (a b : Settings) : Type 0 where
  pub workers : a.workers ≡ b.workers
  pub window : a.window ≡ b.window
  pub limit : a.limit ≡ b.limit
  pub steps : a.steps ≡ b.steps
  pub enabled : a.enabled ≡ b.enabled
  pub source : SameSource a.source b.source
  pub tests : Agree a.test b.test

-- words give one settings at most
abbrev pub HasOneSettings : Type 0
HasOneSettings = (words : List Word) (most : ℕ) (a b : Settings) → HasSettings words most a → HasSettings words most b → SameSettings a b
