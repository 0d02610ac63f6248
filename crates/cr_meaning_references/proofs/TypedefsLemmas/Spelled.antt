-- Each token of a file has some bytes (C11 6.4).
use Rattle.std.proofs.Common.{◌≡◌, ℕ, zero, suc, ◌<◌, List, [], ◌∷◌, Some, length, slice_get, slice_range, refl, sym, ap, ◌∙◌, arith}
use Rattle.cr_tokens.specs.declared.token.Token.{Token}
use Rattle.cr_tokens.specs.Tokens.{Tokenizes}
use Rattle.cr_tokens.proofs.Ranges.{slice_range-length}
use Rattle.cr_scopes.specs.Spelled.{spelling_if}
use Rattle.cr_scopes_typedef_names.specs.Typedefs.Sees.{AreSpelled}
use Rattle.cr_meaning_references.proofs.ToldLemmas.Constants.{token_is}

token_there : (tokens : List Token) (k : ℕ) → k < length tokens → (own : Token) × (slice_get tokens k ≡ Some own)
token_there [] k low = absurd (omega (arith, low))
token_there (t ∷ tokens) zero low = (t, refl)
token_there (t ∷ tokens) (suc k) low = token_there tokens k (omega (arith, low))

pub spelled : (file : List ℕ) (tokens : List Token) → Tokenizes file tokens → AreSpelled file tokens
spelled file tokens h k low empty =
    let own = token_there tokens k low in
    let is = token_is file 0 _ tokens h.falls k own.0 own.1 in
    let long = slice_range-length file own.0.start own.0.end is.inside in
    let none : length (slice_range file own.0.start own.0.end) ≡ 0 = ap length (sym (ap (spelling_if file) own.1) ∙ empty) in
    let some = is.not_empty in
    omega (arith, long, none, some)
