-- Identifiers (C11 6.4.2.1) and keywords (6.4.1).
use Rattle.std.specs.Prelude.{ℕ, ◌<◌, List, [], ◌∷◌, codes, slice_index, if◌then◌else◌}
use Rattle.cr_tokens.specs.declared.token.TokenKind.{TokenKind}
use Rattle.cr_tokens.specs.declared.token.TokenKind.TheVariants.{Keyword, Identifier}
use Rattle.cr_tokens.specs.Bytes.{IsNondigit, IsWordByte, Each, is_among}

-- the bytes from `from` to before `to` are a letter or an underscore, and then letters, digits and
-- underscores
pub record IsWord (file : List ℕ) (from to : ℕ) : Type 0 where
  pub not_empty : from < to
  pub first : IsNondigit (slice_index file from)
  pub each : Each IsWordByte file from to

-- the keywords
abbrev pub keywords : List (List ℕ)
keywords =
    codes "auto" ∷ codes "break" ∷ codes "case" ∷ codes "char" ∷ codes "const" ∷ codes "continue"
    ∷ codes "default" ∷ codes "do" ∷ codes "double" ∷ codes "else" ∷ codes "enum" ∷ codes "extern"
    ∷ codes "float" ∷ codes "for" ∷ codes "goto" ∷ codes "if" ∷ codes "inline" ∷ codes "int"
    ∷ codes "long" ∷ codes "register" ∷ codes "restrict" ∷ codes "return" ∷ codes "short"
    ∷ codes "signed" ∷ codes "sizeof" ∷ codes "static" ∷ codes "struct" ∷ codes "switch"
    ∷ codes "typedef" ∷ codes "union" ∷ codes "unsigned" ∷ codes "void" ∷ codes "volatile"
    ∷ codes "while" ∷ codes "_Alignas" ∷ codes "_Alignof" ∷ codes "_Atomic" ∷ codes "_Bool"
    ∷ codes "_Complex" ∷ codes "_Generic" ∷ codes "_Imaginary" ∷ codes "_Noreturn"
    ∷ codes "_Static_assert" ∷ codes "_Thread_local" ∷ []

-- a word's kind
abbrev pub word_kind_of : List ℕ → TokenKind
word_kind_of spelling = if is_among keywords spelling then Keyword else Identifier
