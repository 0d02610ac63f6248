-- Names by spelling: each token's is the first token that is spelled like it.
use Rattle.std.specs.Prelude.{ℕ, zero, suc, nat_lt, List, [], ◌∷◌, Option, None, Some, length, slice_get, slice_index_or, slice_range, if◌then◌else◌}
use Rattle.std.specs.Str.{bytes_eq}
use Rattle.std.specs.Map.{lookup}
use Rattle.std.specs.declared.vec.Vec.{Vec}
use Rattle.cr_tokens.specs.declared.token.Token.{Token}
pub use Rattle.cr_syntax.specs.Numbered.{spelling_if, spelling_of}
use Rattle.cr_scopes.specs.Looking.{or_else, or_given}
use Rattle.cr_scopes.specs.declared.spelled.Known.{Known}

-- the first of so many tokens with a spelling
abbrev pub first_spelled : List ℕ → List Token → List ℕ → ℕ → Option ℕ
first_spelled file tokens s zero = None
first_spelled file tokens s (suc t) =
    or_else (first_spelled file tokens s t) (if bytes_eq s (spelling_of file tokens t) then Some t else None)

abbrev pub name_of : List ℕ → List Token → ℕ → ℕ
name_of file tokens t =
    if nat_lt t (length tokens) then or_given (first_spelled file tokens (spelling_of file tokens t) t) t else t

-- what a map from spellings says
abbrev pub known_as : {A : Type 0} → List (Vec ℕ A × ℕ) → List ℕ → Option ℕ
known_as known s = lookup (λ key. bytes_eq s key.items) known

-- what is known of a spelling, which stands by its byte where it has one byte
abbrev pub said_in : Known → List ℕ → Option ℕ
said_in known [] = known_as known.words.entries []
said_in known (byte ∷ []) = slice_index_or known.bytes byte None
said_in known (byte ∷ next ∷ rest) = known_as known.words.entries (byte ∷ next ∷ rest)
