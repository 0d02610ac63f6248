-- Laws of the tokens of a file.
use Rattle.std.specs.Prelude.{◌≡◌, ℕ, List}
use Rattle.cr_tokens.specs.declared.token.Token.{Token}
use Rattle.cr_tokens.specs.declared.token.TokenFault.{TokenFault}
use Rattle.cr_tokens.specs.Tokens.{Tokenizes}
use Rattle.cr_tokens.specs.Faults.{FirstTokenFault}

-- a file has one list of tokens at most
abbrev pub HasOneTokenList : Type 0
HasOneTokenList = (file : List ℕ) (tokens others : List Token) → Tokenizes file tokens → Tokenizes file others → tokens ≡ others

-- a file has one first fault at most
abbrev pub HasOneFault : Type 0
HasOneFault = (file : List ℕ) (fault other : TokenFault) → FirstTokenFault file fault → FirstTokenFault file other → fault ≡ other

-- a file has a list of tokens or a fault, and never both
abbrev pub HasListOrFault : Type 0
HasListOrFault = (file : List ℕ) (tokens : List Token) (fault : TokenFault) → Tokenizes file tokens → ¬ FirstTokenFault file fault
