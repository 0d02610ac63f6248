-- Punctuators (C11 6.4.6), without digraphs and without # and ##.
use Rattle.std.specs.Prelude.{◌≡◌, ℕ, List, [], ◌∷◌, codes, true, slice_range, if◌then◌else◌}
use Rattle.cr_tokens.specs.Bytes.{is_among}

abbrev pub punctuators : List (List ℕ)
punctuators =
    codes "[" ∷ codes "]" ∷ codes "(" ∷ codes ")" ∷ codes "{" ∷ codes "}" ∷ codes "." ∷ codes "->"
    ∷ codes "++" ∷ codes "--" ∷ codes "&" ∷ codes "*" ∷ codes "+" ∷ codes "-" ∷ codes "~" ∷ codes "!"
    ∷ codes "/" ∷ codes "%" ∷ codes "<<" ∷ codes ">>" ∷ codes "<" ∷ codes ">" ∷ codes "<=" ∷ codes ">="
    ∷ codes "==" ∷ codes "!=" ∷ codes "^" ∷ codes "|" ∷ codes "&&" ∷ codes "||" ∷ codes "?" ∷ codes ":"
    ∷ codes ";" ∷ codes "..." ∷ codes "=" ∷ codes "*=" ∷ codes "/=" ∷ codes "%=" ∷ codes "+=" ∷ codes "-="
    ∷ codes "<<=" ∷ codes ">>=" ∷ codes "&=" ∷ codes "^=" ∷ codes "|=" ∷ codes "," ∷ []

-- the length of the longest punctuator that three bytes begin with, or 0
abbrev pub punctuator_len : ℕ → ℕ → ℕ → ℕ
punctuator_len first second third =
    if is_among punctuators (first ∷ second ∷ third ∷ []) then 3
    else (if is_among punctuators (first ∷ second ∷ []) then 2
    else (if is_among punctuators (first ∷ []) then 1 else 0))

-- the bytes from `from` to before `to` are a punctuator
abbrev pub IsPunctuator : List ℕ → ℕ → ℕ → Type 0
IsPunctuator file from to = is_among punctuators (slice_range file from to) ≡ true
