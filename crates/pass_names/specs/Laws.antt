-- Laws of short names.
use Rattle.std.specs.Prelude.{◌≡◌, ◌≢◌, ℕ, ◌≤◌, ◌<◌, List, None, length}
use Rattle.cr_tokens.specs.declared.token.Token.{Token}
use Rattle.pass_names.specs.Short.{first_free, short_name}

-- numbers below 475,254 have different names
abbrev pub HaveOwnNames : Type 0
HaveOwnNames = (number other : ℕ) → number < 475254 → other < 475254 → short_name number ≡ short_name other → number ≡ other

-- among as many tokens as a file may have, and more, a short name is free
abbrev pub IsANameFree : Type 0
IsANameFree = (file : List ℕ) (tokens : List Token) → length tokens ≤ 475209 → first_free file tokens ≢ None
