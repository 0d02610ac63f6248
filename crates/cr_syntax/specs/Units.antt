-- A unit, a text that can go on to one, and the first refusal.
use Rattle.std.specs.Prelude.{◌≡◌, ℕ, ◌+◌, ◌<◌, Bool, true, false, ◌||◌, ◌&&◌, ◌==◌, if◌then◌else◌, List, [], ◌∷◌, Some, length, slice_get, set, ◌⊎◌}
use Rattle.cr_syntax.specs.declared.word.Word.{Word}
use Rattle.cr_syntax.specs.declared.word.Word.TheVariants as word
use Rattle.cr_syntax.specs.declared.node.Kind.{Kind}
use Rattle.cr_syntax.specs.declared.node.Kind.TheVariants as kind
use Rattle.cr_syntax.specs.declared.part.Part.TheVariants.{External}
use Rattle.cr_syntax.specs.declared.shape.Base.TheVariants.{ItsName, InBrackets, Derived, NoDeclarator}
use Rattle.cr_syntax.specs.Words.{Lexeme}
use Rattle.cr_syntax.specs.Scopes.{Scopes}
use Rattle.cr_syntax.specs.Trees.{Trees, none, node}
use Rattle.cr_syntax.specs.Context.{fresh, is_bare, base_of}
use Rattle.cr_syntax.specs.Grammar.{Side, part, many}
use Rattle.cr_syntax.specs.Spells.{Limit, Free, AtMost, Upto, Leaving, Is, Spells, rest}

-- unit = external {external}
abbrev pub unit_side : Side
unit_side = part External ∷ many External ∷ []

-- at the beginning of a file its own scope is open, with nothing declared
abbrev pub file_scope : Scopes
file_scope = [] ∷ []

-- the trees are the external declarations of a unit that these tokens spell within the limit
pub record IsUnit (limit : Limit) (ts : List Lexeme) (t : Trees) : Type 0 where
  pub after : Scopes
  pub spells : Spells ts limit (rest unit_side) fresh file_scope after 0 t 0 (length ts)

-- the trees are those of a unit whose first k tokens are the list's
pub record Completes (limit : Limit) (ts : List Lexeme) (k : ℕ) (t : Trees) : Type 0 where
  pub text : List Lexeme
  pub alike : (i : ℕ) (x : Lexeme) → i < k → slice_get ts i ≡ Some x → slice_get text i ≡ Some x
  pub is_unit : IsUnit limit text t

-- the first k tokens begin some unit
pub record Begins (limit : Limit) (ts : List Lexeme) (k : ℕ) : Type 0 where
  pub trees : Trees
  pub completes : Completes limit ts k trees

-- The most levels of nesting.
abbrev pub most_levels : ℕ
most_levels = 128

-- the first k tokens begin some unit, and none of them has a level too many
abbrev pub BeginsWithin : List Lexeme → ℕ → Type 0
BeginsWithin ts k = Begins (Upto k most_levels) ts k

-- somewhere in the trees stands a node that meets the test, given its kind, first token, token after, and parts
pub data Has (test : Kind → ℕ → ℕ → Trees → Bool) : Trees → Type 0 where
  has_here : {k : Kind} {i j : ℕ} {a n : Trees} → test k i j a ≡ true → Has test (node k i j a n)
  has_inside : {k : Kind} {i j : ℕ} {a n : Trees} → Has test a → Has test (node k i j a n)
  has_after : {k : Kind} {i j : ℕ} {a n : Trees} → Has test n → Has test (node k i j a n)

-- one of a row's trees begins at token k, or ends before it
abbrev pub one_begins_at : ℕ → Trees → Bool
one_begins_at k none = false
one_begins_at k (node q i j a n) = (i == k) || one_begins_at k n

abbrev pub one_ends_at : ℕ → Trees → Bool
one_ends_at k none = false
one_ends_at k (node q i j a n) = (j == k) || one_ends_at k n

abbrev pub after_first : Trees → Trees
after_first none = none
after_first (node q i j a n) = n

-- an initializer begins at token k (6.7.9)
abbrev pub initializer_at : ℕ → Kind → ℕ → ℕ → Trees → Bool
initializer_at k kind.InitDeclarator i j a = one_begins_at k (after_first a)
initializer_at k kind.InitializerList i j a = one_begins_at k a
initializer_at k _ i j a = false

-- the operand of a cast begins at token k (6.5.4)
abbrev pub cast_operand_at : ℕ → Kind → ℕ → ℕ → Trees → Bool
cast_operand_at k kind.Cast i j a = one_begins_at k (after_first a)
cast_operand_at k _ i j a = false

-- a postfix expression other than an identifier ends before token k (6.5.2)
abbrev pub postfix_before : ℕ → Kind → ℕ → ℕ → Trees → Bool
postfix_before k kind.Call i j a = j == k
postfix_before k kind.Subscript i j a = j == k
postfix_before k kind.Member i j a = j == k
postfix_before k kind.PointerMember i j a = j == k
postfix_before k kind.PostIncrement i j a = j == k
postfix_before k kind.PostDecrement i j a = j == k
postfix_before k kind.Integer i j a = j == k
postfix_before k kind.Character i j a = j == k
postfix_before k kind.Text i j a = j == k
postfix_before k kind.Group i j a = j == k
postfix_before k _ i j a = false

-- a member's declarator ends before token k (6.7.2.1)
abbrev pub member_before : ℕ → Kind → ℕ → ℕ → Trees → Bool
member_before k kind.MemberDeclaration i j a = one_ends_at k (after_first a)
member_before k _ i j a = false

-- a switch that begins at token s has its body at token k (6.8.4)
abbrev pub switch_body_at : ℕ → ℕ → Kind → ℕ → ℕ → Trees → Bool
switch_body_at s k kind.Switch i j a = (i == s) && one_begins_at k (after_first a)
switch_body_at s k _ i j a = false

-- where a node stands: in a switch, among the items of a switch's own block or of another block, or elsewhere
pub data Place : Type 0 where
  in_switch : Place
  own_item : Place
  block_item : Place
  elsewhere : Place

-- where the statement of a label stands: where the label does, among the items of a block
abbrev pub place_behind : Place → Place
place_behind own_item = own_item
place_behind block_item = block_item
place_behind _ = elsewhere

-- where the parts of a node stand
abbrev pub place_in : Kind → Place → Place
place_in kind.Switch at = in_switch
place_in kind.Compound in_switch = own_item
place_in kind.Compound at = block_item
place_in kind.Label at = place_behind at
place_in kind.Case at = place_behind at
place_in kind.Default at = place_behind at
place_in _ at = elsewhere

-- a `case` or `default` elsewhere than among the items of a switch's own block, labels aside
abbrev pub is_misplaced : Kind → Place → Bool
is_misplaced kind.Case own_item = false
is_misplaced kind.Case at = true
is_misplaced kind.Default own_item = false
is_misplaced kind.Default at = true
is_misplaced _ at = false

-- an identifier that labels a statement which is, labels aside, no item of a block
abbrev pub is_stray : Kind → Place → Bool
is_stray kind.Label own_item = false
is_stray kind.Label block_item = false
is_stray kind.Label at = true
is_stray _ at = false

-- a node that is wrong where it stands begins at token k
abbrev pub wrong_at : (Kind → Place → Bool) → ℕ → Place → Trees → Bool
wrong_at wrong k at none = false
wrong_at wrong k at (node q i j a n) = ((i == k) && wrong q at) || wrong_at wrong k (place_in q at) a || wrong_at wrong k at n

-- the parameter list of a declarator that is built on its identifier itself, or none
abbrev pub own_parameters : Trees → Trees
own_parameters none = none
own_parameters (node kind.FunctionDeclarator i j a n) = if is_bare a then after_first a else own_parameters a
own_parameters (node q i j a n) = elim (base_of q) [ ItsName ↦ none | InBrackets ↦ own_parameters a | Derived ↦ own_parameters a | NoDeclarator ↦ none ]

-- a list of parameters that ends in `...` at token k
abbrev pub ellipsis_at : ℕ → Trees → Bool
ellipsis_at k (node kind.VariadicParameters i j a n) = j == k + 1
ellipsis_at k _ = false

-- a function definition whose own parameters end in `...` at token k, with its body at token m (6.9.1)
abbrev pub variadic_definition : ℕ → ℕ → Kind → ℕ → ℕ → Trees → Bool
variadic_definition k m kind.FunctionDefinition i j a = ellipsis_at k (own_parameters (after_first a)) && one_begins_at m (after_first (after_first a))
variadic_definition k m _ i j a = false

-- the keywords of 6.4.1 that no alternative has
abbrev pub is_unused : Word → Bool
is_unused word.Double = true
is_unused word.Float = true
is_unused word.Restrict = true
is_unused word.Union = true
is_unused word.Alignas = true
is_unused word.Alignof = true
is_unused word.Atomic = true
is_unused word.Complex = true
is_unused word.Generic = true
is_unused word.Imaginary = true
is_unused word.Noreturn = true
is_unused word.StaticAssert = true
is_unused word.ThreadLocal = true
is_unused _ = false

-- the words with which a statement begins, but for the brace of a block and the labels of a switch (6.8, 6.5)
abbrev pub begins_statement : Word → Bool
begins_statement word.Semicolon = true
begins_statement word.If = true
begins_statement word.Switch = true
begins_statement word.While = true
begins_statement word.Do = true
begins_statement word.For = true
begins_statement word.Goto = true
begins_statement word.Break = true
begins_statement word.Continue = true
begins_statement word.Return = true
begins_statement word.PlusPlus = true
begins_statement word.MinusMinus = true
begins_statement word.Ampersand = true
begins_statement word.Star = true
begins_statement word.Plus = true
begins_statement word.Minus = true
begins_statement word.Tilde = true
begins_statement word.Bang = true
begins_statement word.Sizeof = true
begins_statement word.Identifier = true
begins_statement word.Integer = true
begins_statement word.Character = true
begins_statement word.Text = true
begins_statement word.LeftParen = true
begins_statement _ = false

-- the list with this word at token k
abbrev pub with_word : List Lexeme → ℕ → Word → List Lexeme
with_word ts k w = set ts k (record { word = w; spelling = [] })

-- the first k tokens begin a unit in whose trees a node meets the test
pub record Shows (ts : List Lexeme) (k : ℕ) (test : Kind → ℕ → ℕ → Trees → Bool) : Type 0 where
  pub trees : Trees
  pub completes : Completes (Upto k most_levels) ts k trees
  pub has : Has test trees

-- Outside ts k row: token k is what this row of the refused forms names.
pub data Outside (ts : List Lexeme) : ℕ → ℕ → Type 0 where
  -- 1: a keyword that no alternative has
  unused_keyword : {k : ℕ} {w : Word} → Is ts k w → is_unused w ≡ true → Outside ts k 1
  -- 2: a designator, where an initializer begins
  designator : {k : ℕ} → Is ts k word.Dot ⊎ Is ts k word.LeftBracket → Shows ts k (initializer_at k) → Outside ts k 2
  -- 3: the brace of a compound literal, after a cast's bracket
  compound_literal : {k : ℕ} → Is ts k word.LeftBrace → Shows ts k (cast_operand_at k) → Outside ts k 3
  -- 4: the bracket of a call, after a postfix expression that is no identifier
  called_expression : {k : ℕ} → Is ts k word.LeftParen → Shows ts k (postfix_before k) → Outside ts k 4
  -- 5: the colon of a bit-field, after a member's declarator
  bit_field : {k : ℕ} → Is ts k word.Colon → Shows ts k (member_before k) → Outside ts k 5
  -- 6: a label of a switch that stands deeper than the switch's own block, or as a switch's body
  deep_label : {k : ℕ} {t : Trees} → k < length ts → Completes (Upto k most_levels) ts (k + 1) t → wrong_at is_misplaced k elsewhere t ≡ true → Outside ts k 6
  label_as_body : {k : ℕ} (s : ℕ) → Is ts k word.Case ⊎ Is ts k word.Default → Shows ts k (switch_body_at s k) → Outside ts k 6
  -- 7: another statement than a block as a switch's body: its first word
  switch_body : {k : ℕ} {w : Word} (s : ℕ) → Is ts k w → begins_statement w ≡ true → Shows ts k (switch_body_at s k) → Outside ts k 7
  -- 8: the `...` of a function definition's own parameters, where its body begins at token m, and the tokens before that one
  -- are within the limit: it is the body's brace that shows what the declarator belongs to
  variadic_function : {k : ℕ} {t : Trees} (m : ℕ) → k < m → Is ts m word.LeftBrace → Completes (Upto m most_levels) ts (m + 1) t → Has (variadic_definition k m) t → Outside ts k 8
  -- 9: a label whose statement, labels aside, is no item of a block, where the tokens up to the label are within the limit:
  -- it is the colon behind it that shows that it is a label
  stray_label : {k : ℕ} {t : Trees} → Is ts k word.Identifier → Is ts (k + 1) word.Colon → Completes (Upto (k + 1) most_levels) ts (k + 1 + 1) t → wrong_at is_stray k elsewhere t ≡ true → Outside ts k 9

-- a bracket that opens a level, expected or not
pub data IsBracket : Word → Type 0 where
  parenthesis : IsBracket word.LeftParen
  bracket : IsBracket word.LeftBracket
  brace : IsBracket word.LeftBrace

-- the words that open a level by themselves, where the grammar has them: brackets, `do`, and operators before an operand
abbrev pub is_opening : Word → Bool
is_opening word.LeftParen = true
is_opening word.LeftBracket = true
is_opening word.LeftBrace = true
is_opening word.Do = true
is_opening word.PlusPlus = true
is_opening word.MinusMinus = true
is_opening word.Ampersand = true
is_opening word.Star = true
is_opening word.Plus = true
is_opening word.Minus = true
is_opening word.Tilde = true
is_opening word.Bang = true
is_opening word.Sizeof = true
is_opening _ = false

-- the bracket that the grammar has in the place of a refused form's
pub data StandsIn : ℕ → Word → Type 0 where
  list_for_designator : StandsIn 2 word.LeftBrace
  group_for_literal : StandsIn 3 word.LeftParen
  subscript_for_call : StandsIn 4 word.LeftBracket
  block_for_body : StandsIn 7 word.LeftBrace

-- token k has a place where it opens a level, and there is one level too many
pub record OpensTooDeep (ts : List Lexeme) (k : ℕ) : Type 0 where
  pub begins : Begins (Upto k most_levels) ts (k + 1)
  pub too_deep : BeginsWithin ts (k + 1) → ⊥

-- IsTooDeep ts k: token k has more than the most levels open, its own included.
pub data IsTooDeep (ts : List Lexeme) (k : ℕ) : Type 0 where
  -- an opening token in its place
  expected : OpensTooDeep ts k → IsTooDeep ts k
  -- the token of a refused form that opens a level by itself counts as the bracket that the grammar has in its place
  refused : {w v : Word} {row : ℕ} → Is ts k w → is_opening w ≡ true → Outside ts k row → StandsIn row v → OpensTooDeep (with_word ts k v) k → IsTooDeep ts k
  -- another unexpected bracket opens a level where no text leaves room for one
  unexpected : {w : Word} → Is ts k w → IsBracket w → BeginsWithin ts k → (Begins Free ts (k + 1) → ⊥) → ((row : ℕ) → Outside ts k row → ⊥) →
      (Begins (Leaving k most_levels) ts k → ⊥) → IsTooDeep ts k

-- The tokens before k are no cause to refuse: they begin a unit within the limit, and no row names one of them.
pub record IsFineBefore (ts : List Lexeme) (k : ℕ) : Type 0 where
  pub begins : BeginsWithin ts k
  pub inside : (i row : ℕ) → i < k → Outside ts i row → ⊥

-- why and where a token list is refused
pub data Refusal : Type 0 where
  Unexpected : ℕ → Refusal
  Ended : Refusal
  TooDeep : ℕ → Refusal
  OutsideSubset : ℕ → ℕ → Refusal

-- The first refusal: at the least token that is a cause, and there the first of too deep, outside the subset, unexpected.
-- The end is one where no token is and the list is no unit.
pub data FirstRefusal (ts : List Lexeme) : Refusal → Type 0 where
  too_deep : {k : ℕ} → k < length ts → IsFineBefore ts k → IsTooDeep ts k → FirstRefusal ts (TooDeep k)
  outside : {k row : ℕ} → k < length ts → IsFineBefore ts k → (IsTooDeep ts k → ⊥) → Outside ts k row → FirstRefusal ts (OutsideSubset k row)
  unexpected_token : {k : ℕ} → k < length ts → IsFineBefore ts k → (IsTooDeep ts k → ⊥) → ((row : ℕ) → Outside ts k row → ⊥) →
      (Begins Free ts (k + 1) → ⊥) → FirstRefusal ts (Unexpected k)
  end : IsFineBefore ts (length ts) → ((t : Trees) → IsUnit (AtMost most_levels) ts t → ⊥) → FirstRefusal ts Ended

-- The trees are those of the tokens: they spell them within the limit, and no row of the refused forms names one of them.
pub record IsTreeOf (ts : List Lexeme) (t : Trees) : Type 0 where
  pub is_unit : IsUnit (AtMost most_levels) ts t
  pub inside : (i row : ℕ) → Outside ts i row → ⊥
