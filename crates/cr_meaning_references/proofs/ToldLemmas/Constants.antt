-- The constants of a file's typed unit have values: its tokens spell them (C11 6.4.4).
use Rattle.std.proofs.Common.{◌≡◌, ℕ, zero, suc, ◌+◌, Bool, true, false, not, List, [], ◌∷◌, Option, None, Some, slice_get, refl, sym, ap, subst, ◌∙◌, if◌then◌else◌}
use Rattle.std.specs.Prelude.{slice_range}
use Rattle.std.specs.List.{list_all}
use Rattle.std.specs.Str.{bytes_eq}
use Rattle.std.proofs.lemmas.Bool.{false≢true, and_parts, not-true}
use Rattle.cr_tokens.specs.declared.token.Token.{Token}
use Rattle.cr_tokens.specs.declared.token.TokenKind.{TokenKind}
use Rattle.cr_tokens.specs.declared.token.TokenKind.TheVariants as token_kind
use Rattle.cr_tokens.specs.Tokens.{IsToken, Spells, FallsInto}
use Rattle.cr_tokens.specs.Tokens.FallsInto.{nothing, blank, token}
use Rattle.cr_syntax.specs.declared.node.Kind.{Kind}
use Rattle.cr_syntax.specs.declared.node.Kind.TheVariants as kind
use Rattle.cr_syntax.specs.declared.node.Node.{Node}
use Rattle.cr_syntax.specs.declared.word.Word.{Word}
use Rattle.cr_syntax.specs.declared.word.Word.TheVariants as word
use Rattle.cr_syntax.specs.Words.{Entry, keyword_table, punctuator_table, word_in, word_of, Lexeme, lexemes_of}
use Rattle.cr_syntax.specs.Spells.{Is}
use Rattle.cr_syntax.specs.Kept.{row_in}
use Rattle.cr_syntax.specs.Tables.{rule_of, side_of}
use Rattle.cr_syntax_nodes.specs.Laid.{IsLaid}
use Rattle.cr_check_constants.specs.declared.constant.Operand.{Operand}
use Rattle.cr_check_constants.specs.Literals.{integer_of, character_of}
use Rattle.cr_check_constant_values.proofs.SpelledLemmas.Integers.{integers}
use Rattle.cr_check_constant_values.proofs.SpelledLemmas.Characters.{characters}
use Rattle.cr_check_expressions.specs.Forms.{form_of}
use Rattle.cr_check_expressions.specs.Known.{spelling_if, spelling_of}
use Rattle.cr_typed.specs.declared.typed.Typed.{Typed}
use Rattle.cr_meaning_typing.specs.Typed.Typing.{IsThere}
use Rattle.cr_meaning_types.specs.Known.Sighted.{IsSpelled}
use Rattle.cr_meaning_declarations.proofs.UnitsLemmas.Handing.{laid_at}
use Rattle.cr_meaning_declarations.specs.Declared.Files.{IsAssembledFile}
use Rattle.cr_meaning_declarations.proofs.DeclaredLemmas.Nodes.{unit_of, tokens_of}
use Rattle.cr_meaning_references.specs.Told.Laws
use Rattle.cr_meaning_references.proofs.ToldLemmas.Found.{moved}

-- ---- words

abbrev is_constant : Word → Bool
is_constant word.Integer = true
is_constant word.Character = true
is_constant w = false

-- a keyword or a punctuator is no constant
no_word : (table : List Entry) (s : List ℕ) → list_all (λ e. not (is_constant e.1)) table ≡ true → is_constant (word_in table s) ≡ false
no_word [] s h = refl
no_word (e ∷ es) s h = by (bytes_eq e.0 s) (no_word es s both.1)
  where
    both : (not (is_constant e.1) ≡ true) × (list_all (λ e. not (is_constant e.1)) es ≡ true)
    both = and_parts (not (is_constant e.1)) (list_all (λ e. not (is_constant e.1)) es) h

    by : (b : Bool) → is_constant (word_in es s) ≡ false → is_constant (if b then e.1 else word_in es s) ≡ false
    by true rest = not-true (is_constant e.1) both.0
    by false rest = rest

integer_kind : (k : TokenKind) (s : List ℕ) → word_of k s ≡ word.Integer → k ≡ token_kind.Integer
integer_kind token_kind.Keyword s e = absurd (false≢true (sym (no_word keyword_table s refl) ∙ ap is_constant e))
integer_kind token_kind.Identifier s e = absurd cc
integer_kind token_kind.Integer s e = refl
integer_kind token_kind.Character s e = absurd cc
integer_kind token_kind.Text s e = absurd cc
integer_kind token_kind.Punctuator s e = absurd (false≢true (sym (no_word punctuator_table s refl) ∙ ap is_constant e))

character_kind : (k : TokenKind) (s : List ℕ) → word_of k s ≡ word.Character → k ≡ token_kind.Character
character_kind token_kind.Keyword s e = absurd (false≢true (sym (no_word keyword_table s refl) ∙ ap is_constant e))
character_kind token_kind.Identifier s e = absurd cc
character_kind token_kind.Integer s e = absurd cc
character_kind token_kind.Character s e = refl
character_kind token_kind.Text s e = absurd cc
character_kind token_kind.Punctuator s e = absurd (false≢true (sym (no_word punctuator_table s refl) ∙ ap is_constant e))

-- ---- tokens

record IsTokenWith (file : List ℕ) (tokens : List Token) (k : ℕ) (w : Word) : Type 0 where
  own : Token
  at : slice_get tokens k ≡ Some own
  is : word_of own.kind (slice_range file own.start own.end) ≡ w

token_with : (file : List ℕ) (tokens : List Token) (k : ℕ) (w : Word) → Is (lexemes_of file tokens) k w → IsTokenWith file tokens k w
token_with file [] k w h = let never : None ≡ Some w = h in absurd cc
token_with file (own ∷ tokens) zero w h = record { own = own; at = refl; is = cc }
token_with file (own ∷ tokens) (suc k) w h = let x = token_with file tokens k w h in record { own = x.own; at = x.at; is = x.is }

pub token_is : (file : List ℕ) (from after : ℕ) (tokens : List Token) → FallsInto file from after tokens → (k : ℕ) (own : Token) → slice_get tokens k ≡ Some own → IsToken file own
token_is file from after [] nothing k own e = let never : None ≡ Some own = e in absurd cc
token_is file from after tokens (blank {to = to} b rest) k own e = token_is file to after tokens rest k own e
token_is file from after (_ ∷ tokens) (token t begin is rest) zero own e = let same : t ≡ own = cc in subst (IsToken file) same is
token_is file from after (_ ∷ tokens) (token t begin is rest) (suc k) own e = token_is file t.end after tokens rest k own e

there : (o : Option Operand) (x : Operand) → o ≡ Some x → IsThere o
there o x e = subst IsThere (sym e) tt

integer_laid : (ts : List Lexeme) (t : Typed) (ps : List ℕ) (i j : ℕ) → IsLaid ts (side_of kind.Integer) (row_in t.nodes ps) i j → Is ts i word.Integer
unfolding rule_of
integer_laid ts t ps i j h = h.0

character_laid : (ts : List Lexeme) (t : Typed) (ps : List ℕ) (i j : ℕ) → IsLaid ts (side_of kind.Character) (row_in t.nodes ps) i j → Is ts i word.Character
unfolding rule_of
character_laid ts t ps i j h = h.0

module _ (file : List ℕ) (t : Typed) (it : IsAssembledFile file t) where
  abbrev tokens : List Token
  tokens = it.unit.tokens.list.items

  open it use {tree as u}

  spelling_is : (k : ℕ) (own : Token) → slice_get tokens k ≡ Some own → spelling_of u.file.now u.tokens.now k ≡ slice_range file own.start own.end
  spelling_is k own e =
      ap (λ f. spelling_of f u.tokens.now k) it.checked.by.is.whole.tree.file
      ∙ ap (λ ts. spelling_of file ts k) it.checked.by.is.whole.tree.tokens
      ∙ ap (spelling_if file) e

  of_integer : (k : ℕ) → Is (lexemes_of file tokens) k word.Integer → IsThere (integer_of (spelling_of u.file.now u.tokens.now k))
  of_integer k h =
      let x = token_with file tokens k word.Integer h in
      let own = token_is file 0 _ tokens it.tokenizes.falls k x.own x.at in
      let is = integer_kind x.own.kind (slice_range file x.own.start x.own.end) x.is in
      let spells = subst (λ (c : TokenKind). Spells file c x.own.start x.own.end) is own.spells in
      let value = integers (slice_range file x.own.start x.own.end) spells.1 in
      subst (λ s. IsThere (integer_of s)) (sym (spelling_is k x.own x.at)) (there (integer_of (slice_range file x.own.start x.own.end)) value.0 value.1)

  of_character : (k : ℕ) → Is (lexemes_of file tokens) k word.Character → IsThere (character_of (spelling_of u.file.now u.tokens.now k))
  of_character k h =
      let x = token_with file tokens k word.Character h in
      let own = token_is file 0 _ tokens it.tokenizes.falls k x.own x.at in
      let is = character_kind x.own.kind (slice_range file x.own.start x.own.end) x.is in
      let spells = subst (λ (c : TokenKind). Spells file c x.own.start x.own.end) is own.spells in
      let value = characters file x.own.start x.own.end own.inside spells in
      subst (λ s. IsThere (character_of s)) (sym (spelling_is k x.own x.at)) (there (character_of (slice_range file x.own.start x.own.end)) value.0 value.1)

  spelled : (i : ℕ) (n : Node) → slice_get t.nodes i ≡ Some n → (k : Kind) → n.kind ≡ k → IsSpelled u (form_of k) n.first
  spelled i n at kind.Integer e =
      of_integer n.first
      (subst (λ ts. Is ts n.first word.Integer) (tokens_of file t it)
      (integer_laid (unit_of file t it).tokens t n.parts n.first (n.last + 1)
      (subst (λ (k : Kind). IsLaid (unit_of file t it).tokens (side_of k) (row_in t.nodes n.parts) n.first (n.last + 1)) e (laid_at t (unit_of file t it) i n at))))
  spelled i n at kind.Character e =
      of_character n.first
      (subst (λ ts. Is ts n.first word.Character) (tokens_of file t it)
      (character_laid (unit_of file t it).tokens t n.parts n.first (n.last + 1)
      (subst (λ (k : Kind). IsLaid (unit_of file t it).tokens (side_of k) (row_in t.nodes n.parts) n.first (n.last + 1)) e (laid_at t (unit_of file t it) i n at))))
  spelled i n at k e = tt

pub constants : Laws.ConstantsHaveValues
constants file t it i n at = spelled file t it i n (moved file t it i n (ap (λ ns. slice_get ns i) (sym it.checked.by.is.whole.tree.nodes) ∙ at)) n.kind refl
