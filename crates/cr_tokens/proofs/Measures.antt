-- Tokens lie within their file and are no more than its bytes, so its size is at most twelve times its length.
use Rattle.std.proofs.Common.{inl, inr, ℕ, zero, suc, ◌+◌, ◌*◌, ◌≤◌, List, [], ◌∷◌, length, take, arith, true, false, Bool, nat_eq}
use Rattle.std.specs.Prelude.{sum_by, slice_range, if◌then◌else◌, slice_index_or}
use Rattle.std.specs.Cmp.Lexicographic.{pointwise}
use Rattle.std.proofs.lemmas.List.Sums.{sum_by-le, sum_by-take-le}
use Rattle.cr_tokens.specs.declared.token.Token.{Token}
use Rattle.cr_tokens.specs.declared.token.TokenKind.{TokenKind}
use Rattle.cr_tokens.specs.declared.token.TokenKind.TheVariants.{Keyword, Identifier, Integer, Character, Text, Punctuator}
use Rattle.cr_tokens.specs.Blanks.{IsBlank}
use Rattle.cr_tokens.specs.Blanks.IsBlank.{space, comment, skipped}
use Rattle.cr_tokens.specs.Tokens.{FallsInto, Tokenizes}
use Rattle.cr_tokens.specs.Tokens.FallsInto.{nothing, blank, token}
use Rattle.cr_tokens.specs.Places.{Rise}
use Rattle.cr_tokens.specs.Size.{weight_of, share_of}
use Rattle.cr_tokens.specs.Runs.{IsWithin, AllWithin}

pub blank_after : (file : List ℕ) (from to : ℕ) → IsBlank file from to → from ≤ to
blank_after file from to (space s e) = omega arith
blank_after file from to (comment (inl b) s) = omega (arith, b.after, b.end)
blank_after file from to (comment (inr l) s) = l.line.after
blank_after file from to (skipped b l) = l.after

-- there are no more tokens than bytes
pub falls_length : {file : List ℕ} {from to : ℕ} {tokens : List Token} → FallsInto file from to tokens → from + length tokens ≤ to
falls_length nothing = omega arith
falls_length {file} (blank {from = from} {to = to} b rest) = omega (arith, blank_after file from to b, falls_length rest)
falls_length (token t e h rest) = omega (arith, h.not_empty, falls_length rest)

within_cons : (file : List ℕ) (t : Token) (ts : List Token) → IsWithin file t → AllWithin file ts → AllWithin file (t ∷ ts)
within_cons file t ts h all zero d lt = h
within_cons file t ts h all (suc k) d lt = all k d (omega arith)

pub falls_within : {file : List ℕ} {from to : ℕ} {tokens : List Token} → FallsInto file from to tokens → AllWithin file tokens
falls_within nothing = λ k d lt. absurd (omega arith)
falls_within (blank b rest) = falls_within rest
falls_within {file} (token {tokens = ts} t e h rest) = within_cons file t ts (omega (arith, h.not_empty), h.inside) (falls_within rest)

rise_from : (from at to : ℕ) (tokens : List Token) → from ≤ at → Rise at to tokens → Rise from to tokens
rise_from from at to [] h r = omega arith
rise_from from at to (t ∷ ts) h r = (omega (arith, r.0), r.1, r.2)

-- a file's tokens rise
pub falls_rise : {file : List ℕ} {from to : ℕ} {tokens : List Token} → FallsInto file from to tokens → Rise from to tokens
falls_rise nothing = omega arith
falls_rise {file} {from} {to = after} {tokens = tokens} (blank {to = to} b rest) =
    rise_from from to after tokens (blank_after file from to b) (falls_rise rest)
falls_rise (token t e h rest) = (omega (arith, e), h.not_empty, falls_rise rest)

two : (b c : Bool) → (if b then 0 else (if c then 1 else 2)) ≤ 3
two true c = omega arith
two false true = omega arith
two false false = omega arith

pub weight_of-le : (kind : TokenKind) (spelling : List ℕ) → weight_of kind spelling ≤ 3
weight_of-le Keyword s = omega arith
weight_of-le Identifier s = omega arith
weight_of-le Integer s = two (pointwise nat_eq (48 ∷ []) s) (pointwise nat_eq (49 ∷ []) s)
weight_of-le Character s = omega arith
weight_of-le Text s = omega arith
weight_of-le Punctuator s = omega arith

pub share_of-le : (file : List ℕ) (t : Token) → share_of file t ≤ 11
share_of-le file t = omega (arith, weight_of-le t.kind (slice_range file t.start t.end))

pub shares-le : (file : List ℕ) (tokens : List Token) → sum_by (share_of file) tokens ≤ 11 * length tokens
shares-le file tokens =
    omega (arith, sum_by-le (share_of file) 11 tokens (λ k d lt. share_of-le file (slice_index_or tokens k d)))

-- the size of a file, also counted over its first tokens alone
pub size-le : (file : List ℕ) (tokens : List Token) (i : ℕ) → Tokenizes file tokens →
    length file + sum_by (share_of file) (take i tokens) ≤ 12 * length file
size-le file tokens i h =
    omega (arith, falls_length h.falls, shares-le file tokens, sum_by-take-le (share_of file) tokens i)
