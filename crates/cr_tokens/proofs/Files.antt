-- What a file falls into grows at its end.
use Rattle.std.proofs.Common.{◌≡◌, ℕ, List, [], ◌∷◌, ◌++◌}
use Rattle.cr_tokens.specs.declared.token.Token.{Token}
use Rattle.cr_tokens.specs.Blanks.{IsBlank}
use Rattle.cr_tokens.specs.Tokens.{IsToken, FallsInto}
use Rattle.cr_tokens.specs.Tokens.FallsInto.{nothing, blank, token}

pub FallsInto-blank : {file : List ℕ} {from to after : ℕ} {tokens : List Token} → FallsInto file from to tokens →
    IsBlank file to after → FallsInto file from after tokens
FallsInto-blank nothing b = blank b nothing
FallsInto-blank (blank a rest) b = blank a (FallsInto-blank rest b)
FallsInto-blank (token t e h rest) b = token t e h (FallsInto-blank rest b)

pub FallsInto-token : {file : List ℕ} {from to : ℕ} {tokens : List Token} (u : Token) → FallsInto file from to tokens →
    u.start ≡ to → IsToken file u → FallsInto file from u.end (tokens ++ u ∷ [])
FallsInto-token u nothing s k = token u s k nothing
FallsInto-token u (blank a rest) s k = blank a (FallsInto-token u rest s k)
FallsInto-token u (token t e h rest) s k = token t e h (FallsInto-token u rest s k)
