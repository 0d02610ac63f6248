-- What stands at a place of a file, a blank or a token, stands there in one way.
use Rattle.std.proofs.Common.{◌≡◌, ◌≢◌, inl, inr, ℕ, ◌<◌, List, length, refl, sym, arith, true, false, not, Bool}
use Rattle.std.specs.Prelude.{slice_index, nat_le, ◌&&◌, ◌||◌, ◌==◌}
use Rattle.std.proofs.lemmas.Bool.{cases_order}
use Rattle.cr_tokens.specs.declared.token.Token.{Token}
use Rattle.cr_tokens.specs.declared.token.TokenKind.{TokenKind}
use Rattle.cr_tokens.specs.declared.token.TokenKind.TheVariants.{Keyword, Identifier, Integer, Character, Text, Punctuator}
use Rattle.cr_tokens.specs.Bytes.{IsSpace}
use Rattle.cr_tokens.specs.Blanks.{IsBlank, IsComment, EndsLine}
use Rattle.cr_tokens.specs.Blanks.IsBlank.{space, comment, skipped}
use Rattle.cr_tokens.specs.Tokens.{Spells, IsToken}
use Rattle.cr_tokens.proofs.Firsts.{punctuator_no_other, punctuator_first, no_token_at, no_hash}
use Rattle.cr_tokens.proofs.Longest.{number_no_word, nondigit_no_quote, number_no_quote, punctuator_no_number, lexeme_of, byte_inside}

before : (file : List ℕ) (from a b : ℕ) → EndsLine file from a → EndsLine file from b → ¬ (a < b)
before file from a b x y lt = elim x.end [
  | inl e ↦ absurd (omega (arith, y.inside))
  | inr e ↦ y.each a x.after lt e
]

-- lines end at one place
pub EndsLine_unique : (file : List ℕ) (from a b : ℕ) → EndsLine file from a → EndsLine file from b → a ≡ b
EndsLine_unique file from a b x y = elim (cases_order a b) [
  | inl e ↦ e
  | inr o ↦ elim o [ inl lt ↦ absurd (before file from a b x y lt) | inr gt ↦ absurd (before file from b a y x gt) ]
]

-- comments end at one place
pub comment_unique : (file : List ℕ) (from a b : ℕ) → IsComment file from a → IsComment file from b → a ≡ b
comment_unique file from a b (inl x) (inl y) = elim (cases_order x.close y.close) [
  | inl e ↦ omega (arith, e, x.end, y.end)
  | inr o ↦ elim o [ inl lt ↦ absurd (y.first x.close x.after lt x.closed) | inr gt ↦ absurd (x.first y.close y.after gt y.closed) ]
]
comment_unique file from a b (inl x) (inr y) = absurd (omega (arith, x.opens.1, y.opens.1))
comment_unique file from a b (inr x) (inl y) = absurd (omega (arith, x.opens.1, y.opens.1))
comment_unique file from a b (inr x) (inr y) = EndsLine_unique file from a b x.line y.line

-- the first byte of a comment
pub comment_first : (file : List ℕ) (from to : ℕ) → IsComment file from to → slice_index file from ≡ 47
comment_first file from to (inl x) = x.opens.0
comment_first file from to (inr x) = x.opens.0

no_space : (b : ℕ) → IsSpace b → (b ≢ 47) × (b ≢ 35)
no_space b (inl h) = (λ e. omega arith, λ e. omega arith)
no_space b (inr h) = (λ e. omega arith, λ e. omega arith)

-- blanks end at one place
pub blank_unique : (file : List ℕ) (from a b : ℕ) → IsBlank file from a → IsBlank file from b → a ≡ b
blank_unique file from a b (space s e) (space t f) = omega arith
blank_unique file from a b (space s e) (comment c f) = absurd ((no_space (slice_index file from) s).0 (comment_first file from b c))
blank_unique file from a b (space s e) (skipped k l) = absurd ((no_space (slice_index file from) s).1 k.hash)
blank_unique file from a b (comment c e) (space s f) = absurd ((no_space (slice_index file from) s).0 (comment_first file from a c))
blank_unique file from a b (comment c e) (comment d f) = comment_unique file from a b c d
blank_unique file from a b (comment c e) (skipped k l) = absurd (omega (arith, comment_first file from a c, k.hash))
blank_unique file from a b (skipped k l) (space s f) = absurd ((no_space (slice_index file from) s).1 k.hash)
blank_unique file from a b (skipped k l) (comment d f) = absurd (omega (arith, comment_first file from b d, k.hash))
blank_unique file from a b (skipped k l) (skipped m n) = EndsLine_unique file from a b l n

-- a blank stands within the file
pub blank_inside : (file : List ℕ) (from to : ℕ) → IsBlank file from to → from < length file
blank_inside file from to (space (inl s) e) = byte_inside file from (λ z. omega arith)
blank_inside file from to (space (inr s) e) = byte_inside file from (λ z. omega arith)
blank_inside file from to (comment c e) = byte_inside file from (λ z. omega (arith, comment_first file from to c))
blank_inside file from to (skipped k l) = byte_inside file from (λ z. omega (arith, k.hash))

is_white : ℕ → Bool
is_white b = nat_le 9 b && nat_le b 13 || b == 32

white : (b : ℕ) → not (is_white b) ≡ true → ¬ IsSpace b
unfolding is_white
white b h (inl x) = grind arith
white b h (inr x) = grind arith

space_no_token : (file : List ℕ) (at : ℕ) → IsSpace (slice_index file at) → (t : Token) → t.start ≡ at → ¬ IsToken file t
unfolding is_white
space_no_token file at s = no_token_at file at (λ w. grind arith) (λ n. elim n [ inl d ↦ grind arith | inr d ↦ grind (arith, d.0) ]) (λ q. grind arith)
    (λ to lt inside p. white (slice_index file at) (punctuator_first (λ b. not (is_white b)) file at to refl lt p) s)

hash_no_token : (file : List ℕ) (at : ℕ) → slice_index file at ≡ 35 → (t : Token) → t.start ≡ at → ¬ IsToken file t
hash_no_token file at e = no_token_at file at (λ w. grind arith) (λ n. elim n [ inl d ↦ grind arith | inr d ↦ grind (arith, d.0) ]) (λ q. grind arith)
    (λ to lt inside p. no_hash file at to lt e p)

-- where a blank stands there is no token
pub blank_no_token : (file : List ℕ) (at to : ℕ) → IsBlank file at to → (t : Token) → t.start ≡ at → ¬ IsToken file t
blank_no_token file at to (space s e) t f = space_no_token file at s t f
blank_no_token file at to (comment (inl c) s) t f = λ h. h.no_comment (rw f (inl c.opens))
blank_no_token file at to (comment (inr c) s) t f = λ h. h.no_comment (rw f (inr c.opens))
blank_no_token file at to (skipped k l) t f = hash_no_token file at k.hash t f

thirty_nine : (b : ℕ) → b ≡ 39 → b ≢ 34
thirty_nine b e f = omega arith

true_false : {b : Bool} → b ≡ true → b ≢ false
true_false e f = cc

-- bytes spell one kind of token
kind_unique : (kind other : TokenKind) (file : List ℕ) (from to : ℕ) → from < to → Spells file kind from to → Spells file other from to →
    kind ≡ other
kind_unique Keyword Keyword file from to h x y = refl
kind_unique Keyword Identifier file from to h x y = absurd (true_false (x.1) (y.1))
kind_unique Keyword Integer file from to h x y = absurd (number_no_word file from y.0.first x.0.first)
kind_unique Keyword Character file from to h x y = absurd (nondigit_no_quote (slice_index file from) x.0.first (inl y.open_quote))
kind_unique Keyword Text file from to h x y = absurd (nondigit_no_quote (slice_index file from) x.0.first (inr y.1.open_quote))
kind_unique Keyword Punctuator file from to h x y = absurd (punctuator_no_other file from to h y (inl (inl x.0.first)))
kind_unique Identifier Keyword file from to h x y = absurd (true_false (y.1) (x.1))
kind_unique Identifier Identifier file from to h x y = refl
kind_unique Identifier Integer file from to h x y = absurd (number_no_word file from y.0.first x.0.first)
kind_unique Identifier Character file from to h x y = absurd (nondigit_no_quote (slice_index file from) x.0.first (inl y.open_quote))
kind_unique Identifier Text file from to h x y = absurd (nondigit_no_quote (slice_index file from) x.0.first (inr y.1.open_quote))
kind_unique Identifier Punctuator file from to h x y = absurd (punctuator_no_other file from to h y (inl (inl x.0.first)))
kind_unique Integer Keyword file from to h x y = absurd (number_no_word file from x.0.first y.0.first)
kind_unique Integer Identifier file from to h x y = absurd (number_no_word file from x.0.first y.0.first)
kind_unique Integer Integer file from to h x y = refl
kind_unique Integer Character file from to h x y = absurd (number_no_quote file from x.0.first (inl y.open_quote))
kind_unique Integer Text file from to h x y = absurd (number_no_quote file from x.0.first (inr y.1.open_quote))
kind_unique Integer Punctuator file from to h x y = absurd (punctuator_no_number file from to h x.0.second x.0.first y)
kind_unique Character Keyword file from to h x y = absurd (nondigit_no_quote (slice_index file from) y.0.first (inl x.open_quote))
kind_unique Character Identifier file from to h x y = absurd (nondigit_no_quote (slice_index file from) y.0.first (inl x.open_quote))
kind_unique Character Integer file from to h x y = absurd (number_no_quote file from y.0.first (inl x.open_quote))
kind_unique Character Character file from to h x y = refl
kind_unique Character Text file from to h x y = absurd (thirty_nine (slice_index file from) x.open_quote y.1.open_quote)
kind_unique Character Punctuator file from to h x y = absurd (punctuator_no_other file from to h y (inr (inl x.open_quote)))
kind_unique Text Keyword file from to h x y = absurd (nondigit_no_quote (slice_index file from) y.0.first (inr x.1.open_quote))
kind_unique Text Identifier file from to h x y = absurd (nondigit_no_quote (slice_index file from) y.0.first (inr x.1.open_quote))
kind_unique Text Integer file from to h x y = absurd (number_no_quote file from y.0.first (inr x.1.open_quote))
kind_unique Text Character file from to h x y = absurd (thirty_nine (slice_index file from) y.open_quote x.1.open_quote)
kind_unique Text Text file from to h x y = refl
kind_unique Text Punctuator file from to h x y = absurd (punctuator_no_other file from to h y (inr (inr x.1.open_quote)))
kind_unique Punctuator Keyword file from to h x y = absurd (punctuator_no_other file from to h x (inl (inl y.0.first)))
kind_unique Punctuator Identifier file from to h x y = absurd (punctuator_no_other file from to h x (inl (inl y.0.first)))
kind_unique Punctuator Integer file from to h x y = absurd (punctuator_no_number file from to h y.0.second y.0.first x)
kind_unique Punctuator Character file from to h x y = absurd (punctuator_no_other file from to h x (inr (inl y.open_quote)))
kind_unique Punctuator Text file from to h x y = absurd (punctuator_no_other file from to h x (inr (inr y.1.open_quote)))
kind_unique Punctuator Punctuator file from to h x y = refl

equal : (t u : Token) → t.kind ≡ u.kind → t.start ≡ u.start → t.end ≡ u.end → t ≡ u
equal t u k s e = λ i. record { kind = k i; start = s i; end = e i }

no_longer : (file : List ℕ) (t u : Token) → t.start ≡ u.start → IsToken file t → IsToken file u → ¬ (t.end < u.end)
no_longer file t u s x y lt =
    x.longest u.end lt y.inside (rw s (lexeme_of u.kind file u.start u.end y.spells))

same_end : (file : List ℕ) (t u : Token) → t.start ≡ u.start → IsToken file t → IsToken file u → t.end ≡ u.end
same_end file t u s x y = elim (cases_order t.end u.end) [
  | inl e ↦ e
  | inr o ↦ elim o [ inl lt ↦ absurd (no_longer file t u s x y lt) | inr gt ↦ absurd (no_longer file u t (sym s) y x gt) ]
]

-- one token begins at a place
pub token_unique : (file : List ℕ) (t u : Token) → t.start ≡ u.start → IsToken file t → IsToken file u → t ≡ u
token_unique file t u s x y =
    let end : t.end ≡ u.end = same_end file t u s x y in
    let spells : Spells file u.kind t.start t.end = rw (s, end) y.spells in
    equal t u (kind_unique t.kind u.kind file t.start t.end x.not_empty x.spells spells) s end
