-- Laws of what words ask for.
use Rattle.std.specs.Prelude.{◌≡◌, ◌↔◌, ℕ, List}
use Rattle.std.specs.String.{string_bytes}
use Rattle.cr_main_words.specs.Flags.{flag_words, label_count, plain_modes, times}
use Rattle.cr_main_words.specs.Giving.{HasSettings}
use Rattle.cr_main_words.specs.Laws.{SameSettings}
use Rattle.cr_main_words.specs.Requests.{Asks}
use Rattle.cr_main_words.specs.Words.{IsAmong, Word}
use Rattle.cr_main_words.specs.declared.replay.ReplaySettings.{ReplaySettings}
use Rattle.cr_main_words.specs.declared.request.Request.{Request}
use Rattle.cr_main_words.specs.declared.request.Request.TheVariants as request
use Rattle.cr_main_words.specs.declared.settings.Settings.{Settings}

-- the settings of the replays are alike, but for how their texts are kept
pub record SameReplay (a b : ReplaySettings) : Type 0 where
  pub steps : a.steps ≡ b.steps
  pub enabled : a.enabled ≡ b.enabled
  pub log : string_bytes a.log ≡ string_bytes b.log
  pub file : string_bytes a.file ≡ string_bytes b.file

-- the requests are alike, but for how their texts are kept
abbrev pub SameRequest : Request → Request → Type 0
SameRequest (request.Reduction a modes) (request.Reduction b others) = SameSettings a b × (modes ≡ others)
SameRequest (request.Replay a) (request.Replay b) = SameReplay a b
SameRequest _ _ = ⊥

-- words ask for one thing at most
abbrev pub HasOneRequest : Type 0
HasOneRequest = (words : List Word) (most : ℕ) (a b : Request) → Asks words most a → Asks words most b → SameRequest a b

-- no flag stands before the first --, and no word asks for a label
abbrev pub HasNoFlag : List Word → Type 0
HasNoFlag words = ((flag : Word) → IsAmong flag flag_words → times flag words ≡ 0) × (label_count words ≡ 0)

-- words ask for a plain reduction exactly where they have no flag, and give its settings as they stand
abbrev pub HasPlainReductions : Type 0
HasPlainReductions = (words : List Word) (most : ℕ) (settings : Settings)
    → Asks words most (request.Reduction settings plain_modes) ↔ (HasNoFlag words × HasSettings words most settings)
