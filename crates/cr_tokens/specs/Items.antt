-- What the reading of a file finds at a place.
use Rattle.std.specs.Prelude.{◌≡◌, ℕ, ◌≤◌, ◌<◌, List, length}
use Rattle.cr_tokens.specs.declared.item.Item.{Item}
use Rattle.cr_tokens.specs.declared.item.Item.TheVariants.{Blank, Spelled}
use Rattle.cr_tokens.specs.Blanks.{IsBlank}
use Rattle.cr_tokens.specs.Tokens.{IsToken}

-- the item stands at `at`
abbrev pub StandsAt : List ℕ → ℕ → Item → Type 0
StandsAt file at (Blank to) = IsBlank file at to × (at < to) × (to ≤ length file)
StandsAt file at (Spelled t) = IsToken file t × (t.start ≡ at)
