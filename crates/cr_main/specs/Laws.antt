-- A law of names.
use Rattle.std.specs.Prelude.{◌≡◌, ℕ, List}
use Rattle.cr_main_words.specs.Names.{IsOwnName}

-- a name has one own name at most
abbrev pub HasOneOwnName : Type 0
HasOneOwnName = (name own other : List ℕ) → IsOwnName name own → IsOwnName name other → own ≡ other
