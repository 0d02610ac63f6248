-- Where a token of one text is a token of another: where the text ends sooner, before a space, and before a token that
-- it stays apart from.
use Rattle.std.proofs.Common.{◌≡◌, ◌≢◌, inl, inr, ℕ, ◌+◌, ◌-◌, ◌≤◌, ◌<◌, List, [], ◌∷◌, length, take, true, refl, sym, ◌∙◌, ap, subst, arith}
use Rattle.std.specs.Prelude.{slice_index, slice_range, ◌||◌, nat_le, nat_eq, codes}
use Rattle.std.specs.Cmp.Lexicographic.{pointwise, same_text}
use Rattle.std.proofs.lemmas.Bool.{cases_lt, or_cases, leb-true}
use Rattle.cr_tokens.specs.declared.token.Token.{Token}
use Rattle.cr_tokens.specs.declared.token.TokenKind.{TokenKind}
use Rattle.cr_tokens.specs.declared.token.TokenKind.TheVariants.{Keyword, Identifier, Integer, Character, Text, Punctuator}
use Rattle.cr_tokens.specs.Bytes.{IsWordByte, is_among}
use Rattle.cr_tokens.specs.Numbers.{IsNumberPart}
use Rattle.cr_tokens.specs.Literals.{IsLiteral}
use Rattle.cr_tokens.specs.Punctuators.{IsPunctuator, punctuators}
use Rattle.cr_tokens.specs.Blanks.{IsSplice, OpensComment}
use Rattle.cr_tokens.specs.Tokens.{IsLexeme, IsToken, Spells}
use Rattle.cr_tokens.specs.Tokens.IsLexeme.{word, number, character, text, punctuator}
use Rattle.cr_tokens.specs.Faults.{IsQuote}
use Rattle.cr_tokens.proofs.Tables.{is_among-all}
use Rattle.cr_tokens.proofs.Ranges.{slice_range-two, slice_range-three, slice_range-length}
use Rattle.cr_tokens.proofs.Firsts.{punctuator_no_other}
use Rattle.cr_tokens.proofs.Longest.{byte_inside, nondigit_no_quote, number_no_quote, literal_longest}
use Rattle.cr_printer.proofs.Moves.{Agree, turned, shorter, byte, spells_moved, lexeme_moved}
use Rattle.cr_printer.proofs.LineEnds.{OneLine, punctuator_lacks}

-- a token of n bytes
abbrev pub token_at : TokenKind → ℕ → ℕ → Token
token_at kind at n = record { kind = kind; start = at; end = at + n }

-- a lexeme of a span moved back
longer_moved : (f : List ℕ) (a : ℕ) (g : List ℕ) (b m to : ℕ) → Agree f a g b m → b < to → to ≤ b + m → IsLexeme g b to → IsLexeme f a (a + (to - b))
longer_moved f a g b m to s lt inside x =
    let same : to ≡ b + (to - b) = omega arith in
    let P : ℕ → Type 0 = λ i. IsLexeme g b i in
    lexeme_moved g b f a (to - b) (turned f a g b (to - b) (shorter f a g b m (to - b) (omega arith) s)) (subst P same x)

-- a comment in a span of two bytes or more
pub comment_back : (f : List ℕ) (a : ℕ) (g : List ℕ) (b m : ℕ) → Agree f a g b m → 1 < m → OpensComment g b → OpensComment f a
comment_back f a g b m s two c =
    let first : slice_index f a ≡ slice_index g b = byte f a g b m a b s (omega arith) (omega arith) (omega arith) in
    let second : slice_index f (a + 1) ≡ slice_index g (b + 1) = byte f a g b m (a + 1) (b + 1) s (omega arith) (omega arith) (omega arith) in
    elim c [ inl x ↦ inl (first ∙ x.0, second ∙ x.1) | inr x ↦ inr (first ∙ x.0, second ∙ x.1) ]

comment_second : (g : List ℕ) (b : ℕ) → OpensComment g b → slice_index g (b + 1) ≢ 0
comment_second g b (inl x) e = omega arith
comment_second g b (inr x) e = omega arith

comment_no_space : (g : List ℕ) (b : ℕ) → OpensComment g b → slice_index g (b + 1) ≢ 32
comment_no_space g b (inl x) e = omega arith
comment_no_space g b (inr x) e = omega arith

pub splice_line_end : (g : List ℕ) (b : ℕ) → OneLine g → ¬ IsSplice g b
splice_line_end g b line (inl x) = line.each (b + 1) x.1
splice_line_end g b line (inr x) = line.each (b + 3) x.3

splice_back : (f : List ℕ) (a : ℕ) (g : List ℕ) (b m : ℕ) → Agree f a g b m → length g ≡ b + m → IsSplice g b → IsSplice f a
splice_back f a g b m s end (inl x) =
    let inside : b + 1 < length g = byte_inside g (b + 1) (λ z. omega arith) in
    let first : slice_index f a ≡ slice_index g b = byte f a g b m a b s (omega arith) (omega arith) (omega arith) in
    let second : slice_index f (a + 1) ≡ slice_index g (b + 1) = byte f a g b m (a + 1) (b + 1) s (omega arith) (omega arith) (omega arith) in
    inl (first ∙ x.0, second ∙ x.1)
splice_back f a g b m s end (inr x) =
    let inside : b + 3 < length g = byte_inside g (b + 3) (λ z. omega arith) in
    let first : slice_index f a ≡ slice_index g b = byte f a g b m a b s (omega arith) (omega arith) (omega arith) in
    let second : slice_index f (a + 1) ≡ slice_index g (b + 1) = byte f a g b m (a + 1) (b + 1) s (omega arith) (omega arith) (omega arith) in
    let third : slice_index f (a + 2) ≡ slice_index g (b + 2) = byte f a g b m (a + 2) (b + 2) s (omega arith) (omega arith) (omega arith) in
    let fourth : slice_index f (a + 3) ≡ slice_index g (b + 3) = byte f a g b m (a + 3) (b + 3) s (omega arith) (omega arith) (omega arith) in
    inr (first ∙ x.0, second ∙ x.1, third ∙ x.2, fourth ∙ x.3)

-- a token stands also where the text ends sooner behind it
pub token_cut : (kind : TokenKind) (f : List ℕ) (a : ℕ) (g : List ℕ) (b n m : ℕ) → Agree f a g b m → n ≤ m → length g ≡ b + m →
    IsToken f (token_at kind a n) → IsToken g (token_at kind b n)
token_cut kind f a g b n m s le end t = record {
  not_empty = omega (arith, t.not_empty);
  inside = omega arith;
  spells = spells_moved kind f a g b n (shorter f a g b m n le s) t.spells;
  longest = λ to lt inside x. t.longest (a + (to - b)) (omega arith) (omega (arith, s.left))
      (longer_moved f a g b m to s (omega (arith, t.not_empty)) (omega arith) x);
  no_comment = λ c.
      let wide : b + 1 < length g = byte_inside g (b + 1) (comment_second g b c) in
      t.no_comment (comment_back f a g b m s (omega arith) c);
  no_splice = λ x. t.no_splice (splice_back f a g b m s end x);
}

-- a token that begins with a quote is a literal
quoted : (kind : TokenKind) (file : List ℕ) (at to : ℕ) → at < to → IsQuote (slice_index file at) → Spells file kind at to →
    (quote count : ℕ) × IsQuote quote × IsLiteral file quote at to count
quoted Keyword file at to lt q s = absurd (nondigit_no_quote (slice_index file at) s.0.first q)
quoted Identifier file at to lt q s = absurd (nondigit_no_quote (slice_index file at) s.0.first q)
quoted Integer file at to lt q s = absurd (number_no_quote file at s.0.first q)
quoted Character file at to lt q s = (39, 1, inl refl, s)
quoted Text file at to lt q s = (34, s.0, inr refl, s.1)
quoted Punctuator file at to lt q s = absurd (punctuator_no_other file at to lt s (inr q))

-- and nothing longer could be a token there
pub quoted_longest : (kind : TokenKind) (file : List ℕ) (at to longer : ℕ) → at < to → to < longer → IsQuote (slice_index file at) →
    Spells file kind at to → ¬ IsLexeme file at longer
quoted_longest kind file at to longer lt more q s =
    let l = quoted kind file at to lt q s in
    literal_longest file l.0 at to l.1 l.2 l.3 lt longer more

no_word_space : ¬ IsWordByte 32
no_word_space h = grind arith

no_part_space : (file : List ℕ) (k : ℕ) → slice_index file k ≡ 32 → ¬ IsNumberPart file k
no_part_space file k e (inl w) = no_word_space (rw e at w)
no_part_space file k e (inr (inl d)) = omega arith
no_part_space file k e (inr (inr (inl p, x))) = omega arith
no_part_space file k e (inr (inr (inr p, x))) = omega arith

space_longest : (kind : TokenKind) (g : List ℕ) (b to longer : ℕ) → b < to → slice_index g to ≡ 32 → Spells g kind b to → to < longer →
    longer ≤ length g → ¬ IsLexeme g b longer
space_longest kind g b to longer some e s lt inside (word w) = no_word_space (rw e at (w.each to (omega arith) lt))
space_longest kind g b to longer some e s lt inside (number w) = no_part_space g to e (w.each to some lt)
space_longest kind g b to longer some e s lt inside (character count w) =
    quoted_longest kind g b to longer some lt (inl w.open_quote) s (character count w)
space_longest kind g b to longer some e s lt inside (text count w) =
    quoted_longest kind g b to longer some lt (inr w.open_quote) s (text count w)
space_longest kind g b to longer some e s lt inside (punctuator p) = punctuator_lacks 32 g b longer to refl inside p (omega arith) lt e

-- a token stands also before a space
pub token_spaced : (kind : TokenKind) (f : List ℕ) (a : ℕ) (g : List ℕ) (b n : ℕ) → Agree f a g b n → slice_index g (b + n) ≡ 32 →
    OneLine g → IsToken f (token_at kind a n) → IsToken g (token_at kind b n)
token_spaced kind f a g b n s e line t =
    let some : b < b + n = omega (arith, t.not_empty) in
    let spells : Spells g kind b (b + n) = spells_moved kind f a g b n s t.spells in
    record {
      not_empty = some;
      inside = s.right;
      spells = spells;
      longest = λ to lt inside x. space_longest kind g b (b + n) to some e spells lt inside x;
      no_comment = λ c. elim (cases_lt 1 n) [
        | inl two ↦ t.no_comment (comment_back f a g b n s two c)
        | inr one ↦
            let same : b + n ≡ b + 1 = omega (arith, t.not_empty) in
            comment_no_space g b c (rw same at e)
      ];
      no_splice = splice_line_end g b line;
    }

-- three dots at a place
pub record Dots (g : List ℕ) (b : ℕ) : Type 0 where
  pub first : slice_index g b ≡ 46
  pub second : slice_index g (b + 1) ≡ 46
  pub third : slice_index g (b + 2) ≡ 46

-- the first two bytes of a punctuator of three are one, other than for `...`
pub three_two : (g : List ℕ) (b : ℕ) → b + 2 < length g → IsPunctuator g b (b + 3) → ¬ Dots g b → IsPunctuator g b (b + 2)
three_two g b inside p nd =
    let three = slice_range-three g b inside in
    let two = slice_range-two g b (omega arith) in
    let x = slice_index g b in let y = slice_index g (b + 1) in let z = slice_index g (b + 2) in
    let p3 : is_among punctuators (x ∷ y ∷ z ∷ []) ≡ true = rw three at p in
    let test : (nat_le (length (x ∷ y ∷ z ∷ [])) 2 || (is_among punctuators (take 2 (x ∷ y ∷ z ∷ [])) || pointwise nat_eq (codes "...") (x ∷ y ∷ z ∷ []))) ≡ true =
    is_among-all (λ s. nat_le (length s) 2 || (is_among punctuators (take 2 s) || pointwise nat_eq (codes "...") s)) punctuators (x ∷ y ∷ z ∷ []) p3 refl in
    elim (or_cases (is_among punctuators (x ∷ y ∷ [])) (pointwise nat_eq (codes "...") (x ∷ y ∷ z ∷ [])) test) [
      | inl q ↦ rw two q
      | inr q ↦
          let same : codes "..." ≡ x ∷ y ∷ z ∷ [] = same_text (codes "...") (x ∷ y ∷ z ∷ []) (sym q) in
          absurd (nd (record {
            first = sym (ap (λ (s : List ℕ). slice_index s 0) same);
            second = sym (ap (λ (s : List ℕ). slice_index s 1) same);
            third = sym (ap (λ (s : List ℕ). slice_index s 2) same);
          }))
    ]

-- no punctuator has more than three bytes
pub sign_short : (g : List ℕ) (b to : ℕ) → to ≤ length g → IsPunctuator g b to → to - b ≤ 3
sign_short g b to inside p =
    let few : nat_le (length (slice_range g b to)) 3 ≡ true = is_among-all (λ s. nat_le (length s) 3) punctuators (slice_range g b to) p refl in
    let size : length (slice_range g b to) ≡ to - b = slice_range-length g b to inside in
    leb-true (to - b) 3 (rw size at few)

-- what could be a token and is longer than two bytes could be one also where it is cut, but for literals and `...`
lexeme_cut : (g : List ℕ) (b to longer : ℕ) → b + 1 < to → to < longer → longer ≤ length g → ¬ IsQuote (slice_index g b) → (to ≡ b + 2 → ¬ Dots g b) →
    IsLexeme g b longer → IsLexeme g b to
lexeme_cut g b to longer two lt inside nq nd (word w) =
    word (record { not_empty = omega arith; first = w.first; each = λ k x y. w.each k x (omega arith) })
lexeme_cut g b to longer two lt inside nq nd (number w) =
    number (record { not_empty = omega arith; first = w.first; second = λ e. two; each = λ k x y. w.each k x (omega arith) })
lexeme_cut g b to longer two lt inside nq nd (character count w) = absurd (nq (inl w.open_quote))
lexeme_cut g b to longer two lt inside nq nd (text count w) = absurd (nq (inr w.open_quote))
lexeme_cut g b to longer two lt inside nq nd (punctuator p) =
    let short : longer - b ≤ 3 = sign_short g b longer inside p in
    let three : longer ≡ b + 3 = omega arith in
    let here : to ≡ b + 2 = omega arith in
    let P : ℕ → Type 0 = λ i. IsPunctuator g b i in
    let Q : ℕ → Type 0 = λ i. IsLexeme g b i in
    subst Q (sym here) (punctuator (three_two g b (omega arith) (subst P three p) (nd here)))

-- a token stands also where more comes behind the bytes that showed it to be one
pub token_joined : (kind : TokenKind) (f : List ℕ) (a : ℕ) (g : List ℕ) (b n m : ℕ) → Agree f a g b m → n < m → (m ≡ 2 → ¬ Dots g b) →
    OneLine g → IsToken f (token_at kind a n) → IsToken g (token_at kind b n)
token_joined kind f a g b n m s le nd line t =
    let some : b < b + n = omega (arith, t.not_empty) in
    let spells : Spells g kind b (b + n) = spells_moved kind f a g b n (shorter f a g b m n (omega arith) s) t.spells in
    let near : (to : ℕ) → b + n < to → to ≤ b + m → ¬ IsLexeme g b to = λ to lt inside x.
    t.longest (a + (to - b)) (omega arith) (omega (arith, s.left)) (longer_moved f a g b m to s (omega arith) inside x) in
    record {
      not_empty = some;
      inside = omega (arith, s.right);
      spells = spells;
      longest = λ to lt inside x. elim (cases_lt (b + m) to) [
        | inr close ↦ near to lt close x
        | inl far ↦ near (b + m) (omega arith) (omega arith)
            (lexeme_cut g b (b + m) to (omega arith) far inside (λ q. quoted_longest kind g b (b + n) to some lt q spells x) (λ e. nd (omega arith)) x)
      ];
      no_comment = λ c. t.no_comment (comment_back f a g b m s (omega arith) c);
      no_splice = splice_line_end g b line;
    }
