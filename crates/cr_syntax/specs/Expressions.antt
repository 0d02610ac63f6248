-- What reading an expression in the middle of a text promises: the longest run of tokens, and the first refusal.
use Rattle.std.specs.Prelude.{◌≡◌, ℕ, ◌+◌, ◌<◌, ◌≤◌, Bool, true, List, Some, length, slice_get}
use Rattle.cr_syntax.specs.declared.word.Word.{Word}
use Rattle.cr_syntax.specs.declared.word.Word.TheVariants as word
use Rattle.cr_syntax.specs.declared.node.Kind.{Kind}
use Rattle.cr_syntax.specs.declared.part.Part.{Part}
use Rattle.cr_syntax.specs.Words.{Lexeme}
use Rattle.cr_syntax.specs.Scopes.{Scopes}
use Rattle.cr_syntax.specs.Trees.{Trees}
use Rattle.cr_syntax.specs.Context.{fresh}
use Rattle.cr_syntax.specs.Spells.{Limit, Free, AtMost, Upto, Leaving, Is, Spells, a}
use Rattle.cr_syntax.specs.Units.{most_levels, Has, cast_operand_at, postfix_before, member_before, is_unused, with_word, is_opening, IsBracket, StandsIn, Refusal, Unexpected, Ended, TooDeep, OutsideSubset}

-- What is to be read: a part of the grammar, in these scopes, where so many levels are open, from token `at` on.
pub record Start : Type 0 where
  pub part : Part
  pub scopes : Scopes
  pub depth : ℕ
  pub at : ℕ

-- the tokens from the start to before token k spell the trees
pub record Spelled (limit : Limit) (ts : List Lexeme) (s : Start) (k : ℕ) (t : Trees) : Type 0 where
  pub after : Scopes
  pub spells : Spells ts limit (a s.part) fresh s.scopes after s.depth t s.at k

-- the tokens from the start to before token k, and maybe some others behind them up to a text's end, spell the trees
pub record Continues (limit : Limit) (ts : List Lexeme) (s : Start) (k : ℕ) (t : Trees) : Type 0 where
  pub text : List Lexeme
  pub alike : (i : ℕ) (x : Lexeme) → i < k → slice_get ts i ≡ Some x → slice_get text i ≡ Some x
  pub reaches : k ≤ length text
  pub spelled : Spelled limit text s (length text) t

-- the tokens from the start to before token k begin some text of the part
pub record BeginsFrom (limit : Limit) (ts : List Lexeme) (s : Start) (k : ℕ) : Type 0 where
  pub trees : Trees
  pub continues : Continues limit ts s k trees

-- they do, and in the trees a node meets the test
pub record ShowsFrom (ts : List Lexeme) (s : Start) (k : ℕ) (test : Kind → ℕ → ℕ → Trees → Bool) : Type 0 where
  pub trees : Trees
  pub continues : Continues (Upto k most_levels) ts s k trees
  pub has : Has test trees

-- OutsideFrom ts s k row: token k is what this row of the refused forms names. The others name no token of an expression.
pub data OutsideFrom (ts : List Lexeme) (s : Start) : ℕ → ℕ → Type 0 where
  -- 1: a keyword that no alternative has
  unused_keyword : {k : ℕ} {w : Word} → Is ts k w → is_unused w ≡ true → OutsideFrom ts s k 1
  -- 3: the brace of a compound literal, after a cast's bracket
  compound_literal : {k : ℕ} → Is ts k word.LeftBrace → ShowsFrom ts s k (cast_operand_at k) → OutsideFrom ts s k 3
  -- 4: the bracket of a call, after a postfix expression that is no identifier
  called_expression : {k : ℕ} → Is ts k word.LeftParen → ShowsFrom ts s k (postfix_before k) → OutsideFrom ts s k 4
  -- 5: the colon of a bit-field, after a member's declarator
  bit_field : {k : ℕ} → Is ts k word.Colon → ShowsFrom ts s k (member_before k) → OutsideFrom ts s k 5

-- token k has a place where it opens a level, and there is one level too many
pub record OpensTooDeepFrom (ts : List Lexeme) (s : Start) (k : ℕ) : Type 0 where
  pub begins : BeginsFrom (Upto k most_levels) ts s (k + 1)
  pub too_deep : BeginsFrom (Upto (k + 1) most_levels) ts s (k + 1) → ⊥

-- IsTooDeepFrom ts s k: token k has more than the most levels open, its own included.
pub data IsTooDeepFrom (ts : List Lexeme) (s : Start) (k : ℕ) : Type 0 where
  -- an opening token in its place
  expected : OpensTooDeepFrom ts s k → IsTooDeepFrom ts s k
  -- the token of a refused form that opens a level by itself counts as the bracket that the grammar has in its place
  refused : {w v : Word} {row : ℕ} → Is ts k w → is_opening w ≡ true → OutsideFrom ts s k row → StandsIn row v →
      OpensTooDeepFrom (with_word ts k v) s k → IsTooDeepFrom ts s k
  -- another unexpected bracket opens a level where no text leaves room for one, and the text doesn't end before it
  unexpected : {w : Word} → Is ts k w → IsBracket w → (BeginsFrom Free ts s (k + 1) → ⊥) → ((row : ℕ) → OutsideFrom ts s k row → ⊥) →
      (BeginsFrom (Leaving k most_levels) ts s k → ⊥) → IsTooDeepFrom ts s k

-- The tokens from the start to before k are no cause to refuse: they begin a text within the limit, and no row names one
-- of them.
pub record IsFineFrom (ts : List Lexeme) (s : Start) (k : ℕ) : Type 0 where
  pub from : s.at ≤ k
  pub begins : BeginsFrom (Upto k most_levels) ts s k
  pub inside : (i row : ℕ) → s.at ≤ i → i < k → OutsideFrom ts s i row → ⊥

-- The run from the start ends before token k: no text of the part goes on with that token.
abbrev pub RunEnds : List Lexeme → Start → ℕ → Type 0
RunEnds ts s k = k < length ts → BeginsFrom Free ts s (k + 1) → ⊥

-- what reading answers: the trees and the token after them, or a refusal
pub data Outcome : Type 0 where
  Read : Trees → ℕ → Outcome
  Refused : Refusal → Outcome

-- IsReading ts s o: the longest run of tokens from the start that begins a text of the part spells the trees, and ends
-- before the token. Or a token is refused, the least one in the run or directly behind it that is a cause: there too deep
-- comes before outside the subset, and that before unexpected. Behind a run that spells the part a token is a cause
-- only where it is outside the subset, or such a bracket too deep.
pub data IsReading (ts : List Lexeme) (s : Start) : Outcome → Type 0 where
  read : {k : ℕ} {t : Trees} → k ≤ length ts → Spelled (AtMost most_levels) ts s k t → RunEnds ts s k →
      ((i row : ℕ) → s.at ≤ i → i ≤ k → OutsideFrom ts s i row → ⊥) → IsReading ts s (Read t k)
  too_deep : {k : ℕ} → k < length ts → IsFineFrom ts s k → IsTooDeepFrom ts s k → IsReading ts s (Refused (TooDeep k))
  outside : {k row : ℕ} → k < length ts → IsFineFrom ts s k → (IsTooDeepFrom ts s k → ⊥) → OutsideFrom ts s k row →
      IsReading ts s (Refused (OutsideSubset k row))
  unexpected_token : {k : ℕ} → k < length ts → IsFineFrom ts s k → (IsTooDeepFrom ts s k → ⊥) → ((row : ℕ) → OutsideFrom ts s k row → ⊥) →
      RunEnds ts s k → ((t : Trees) → Spelled Free ts s k t → ⊥) → IsReading ts s (Refused (Unexpected k))
  end : IsFineFrom ts s (length ts) → ((t : Trees) → Spelled Free ts s (length ts) t → ⊥) → IsReading ts s (Refused Ended)
