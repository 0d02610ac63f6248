-- What the grammar's symbols mean, and which trees spell which tokens.
use Rattle.std.specs.Prelude.{◌≡◌, ℕ, ◌+◌, ◌<◌, Bool, true, false, not, ◌||◌, ◌⊎◌, List, [], ◌∷◌, Some, if◌then◌else◌}
use Rattle.cr_syntax.specs.declared.word.Word.{Word}
use Rattle.cr_syntax.specs.declared.word.Word.TheVariants as word
use Rattle.cr_syntax.specs.declared.node.Kind.{Kind}
use Rattle.cr_syntax.specs.Symbols.{Depth}
use Rattle.cr_syntax.specs.Symbols.{Outer, Inner, Innermost}
use Rattle.cr_syntax.specs.declared.part.Part.{Part}
use Rattle.cr_syntax.specs.declared.part.Part.TheVariants.{InitDeclarator, Declarator, MemberDeclarator, ParameterDeclarator, Parameters, Expression, Conditional, Statement, Declaration}
use Rattle.cr_syntax.specs.Symbols as symbol
use Rattle.cr_syntax.specs.declared.part.Context.{Context}
use Rattle.cr_syntax.specs.Words.{Lexeme, word_at, spelling_at}
use Rattle.cr_syntax.specs.declared.scopes.TypeName.{TypeName}
use Rattle.cr_syntax.specs.Scopes.{Scopes, is_type, enter}
use Rattle.cr_syntax.specs.Trees.{Trees, none, one, ◌&◌}
use Rattle.cr_syntax.specs.Context.{past_token, past_part, at_start, declared_name, fits_together, may_stand}
use Rattle.cr_syntax.specs.Grammar.{Side, Alternative, Chain}

-- A limit on nesting: none, at most so many levels, or these at the tokens before k alone. `Leaving k cap` is the last
-- one, and asks besides that before token k fewer than so many are open.
pub data Limit : Type 0 where
  Free : Limit
  AtMost : ℕ → Limit
  Upto : ℕ → ℕ → Limit
  Leaving : ℕ → ℕ → Limit

-- The limit lets token i open a level where d levels are open.
abbrev pub Within : Limit → ℕ → ℕ → Type 0
Within Free i d = Unit {0}
Within (AtMost cap) i d = d < cap
Within (Upto k cap) i d = i < k → d < cap
Within (Leaving k cap) i d = i < k + 1 → d < cap

-- The limit lets token i stand where d levels are open before it. A closing bracket's own level is one of them.
abbrev pub Stands : Limit → ℕ → ℕ → Type 0
Stands Free i d = Unit {0}
Stands (AtMost cap) i d = Unit {0}
Stands (Upto k cap) i d = Unit {0}
Stands (Leaving k cap) i d = i ≡ k → d < cap

-- the levels open at a symbol, where d are open at its node
abbrev pub levels : Depth → ℕ → ℕ
levels Outer d = d
levels Inner d = d + 1
levels Innermost d = d + 1 + 1

-- token i is this word
abbrev pub Is : List Lexeme → ℕ → Word → Type 0
Is ts i w = word_at ts i ≡ Some w

-- token i is an identifier, and a type in these scopes or none
abbrev pub IsIdentifier : List Lexeme → Scopes → ℕ → Bool → Type 0
IsIdentifier ts c i type = Is ts i word.Identifier × (is_type c (spelling_at ts i) ≡ type)

-- token i is a type qualifier (6.7.3)
abbrev pub Qualifies : List Lexeme → ℕ → Type 0
Qualifies ts i = Is ts i word.Const ⊎ Is ts i word.Volatile

-- the tokens from i to before j are each a type qualifier
pub data AreQualifiers (ts : List Lexeme) (limit : Limit) (d : ℕ) : ℕ → ℕ → Type 0 where
  qualifiers_none : {i : ℕ} → AreQualifiers ts limit d i i
  qualifiers_more : {i j : ℕ} → Qualifies ts i → Stands limit i d → AreQualifiers ts limit d (i + 1) j → AreQualifiers ts limit d i j

-- what is spelled: a part, or the rest of an alternative's right side
pub data Phrase : Type 0 where
  a : Part → Phrase
  rest : Side → Phrase

-- Spells ts limit p h c e d t i j: in the scopes c, where d levels are open and h is said before, the tokens from i to
-- before j spell the trees t as p, and e are the scopes after them.
pub data Spells (ts : List Lexeme) (limit : Limit) : Phrase → Context → Scopes → Scopes → ℕ → Trees → ℕ → ℕ → Type 0 where
  -- Parts.

  -- a node, by an alternative of the grammar
  of_alternative : {p : Part} {k : Kind} {s : Side} {h : Context} {c e : Scopes} {d i j : ℕ} {t : Trees} →
      Alternative p k s → fits_together k t ≡ true → Spells ts limit (rest s) (at_start p h) c e d t i j →
      Spells ts limit (a p) h c e d (one k i j t) i j
  -- a part alone, which makes no node
  of_chain : {p q : Part} {h : Context} {c e : Scopes} {d i j : ℕ} {t : Trees} →
      Chain p q → may_stand p t ≡ true → Spells ts limit (a q) (at_start p h) c e d t i j →
      Spells ts limit (a p) h c e d t i j
  -- A declarator alone: the scope of its own parameters ends with it, and its name enters the scope that it stands in
  -- (6.2.1p4, p7). A member's name enters none, since members have a name space of their own (6.2.3).
  init_declarator_alone : {h : Context} {c e : Scopes} {own : List TypeName} {d i j : ℕ} {t : Trees} →
      Spells ts limit (a Declarator) h c (own ∷ e) d t i j →
      Spells ts limit (a InitDeclarator) h c (enter (declared_name ts (past_part h t)) e) d t i j
  parameter_declarator : {h : Context} {c e : Scopes} {own : List TypeName} {d i j : ℕ} {t : Trees} →
      Spells ts limit (a Declarator) h c (own ∷ e) d t i j →
      Spells ts limit (a ParameterDeclarator) h c (enter (declared_name ts (past_part h t)) e) d t i j
  member_declarator : {h : Context} {c e : Scopes} {own : List TypeName} {d i j : ℕ} {t : Trees} →
      Spells ts limit (a Declarator) h c (own ∷ e) d t i j →
      Spells ts limit (a MemberDeclarator) h c e d t i j
  -- Right sides, symbol by symbol.

  done : {h : Context} {c : Scopes} {d i : ℕ} → Spells ts limit (rest []) h c c d none i i
  -- a token that opens no level, one that does, and one that closes a level and opens another
  token : {l : Depth} {w : Word} {s : Side} {h : Context} {c e : Scopes} {d i j : ℕ} {t : Trees} →
      Is ts i w → Stands limit i (levels l d) → Spells ts limit (rest s) (past_token h) c e d t (i + 1) j →
      Spells ts limit (rest (symbol.Token l w ∷ s)) h c e d t i j
  opens : {l : Depth} {w : Word} {s : Side} {h : Context} {c e : Scopes} {d i j : ℕ} {t : Trees} →
      Is ts i w → Within limit i (levels l d) → Spells ts limit (rest s) (past_token h) c e d t (i + 1) j →
      Spells ts limit (rest (symbol.Opens l w ∷ s)) h c e d t i j
  reopens : {w : Word} {s : Side} {h : Context} {c e : Scopes} {d i j : ℕ} {t : Trees} →
      Is ts i w → Stands limit i (d + 1) → Within limit i d → Spells ts limit (rest s) (past_token h) c e d t (i + 1) j →
      Spells ts limit (rest (symbol.Reopens w ∷ s)) h c e d t i j
  -- a part
  part : {l : Depth} {p : Part} {s : Side} {h : Context} {c e f : Scopes} {d i j k : ℕ} {t u : Trees} →
      Spells ts limit (a p) h c e (levels l d) t i j → Spells ts limit (rest s) (past_part h t) e f d u j k →
      Spells ts limit (rest (symbol.Part l p ∷ s)) h c f d (t & u) i k
  -- a part or none
  optional_none : {l : Depth} {p : Part} {s : Side} {h : Context} {c e : Scopes} {d i j : ℕ} →
      Spells ts limit (rest s) h c e d none i j → Spells ts limit (rest (symbol.Optional l p ∷ s)) h c e d none i j
  optional_some : {l : Depth} {p : Part} {s : Side} {h : Context} {c e f : Scopes} {d i j k : ℕ} {t u : Trees} →
      Spells ts limit (a p) h c e (levels l d) t i j → Spells ts limit (rest s) (past_part h t) e f d u j k →
      Spells ts limit (rest (symbol.Optional l p ∷ s)) h c f d (t & u) i k
  -- any number of parts
  many_none : {l : Depth} {p : Part} {s : Side} {h : Context} {c e : Scopes} {d i j : ℕ} →
      Spells ts limit (rest s) h c e d none i j → Spells ts limit (rest (symbol.Many l p ∷ s)) h c e d none i j
  many_more : {l : Depth} {p : Part} {s : Side} {h : Context} {c e f : Scopes} {d i j k : ℕ} {t u : Trees} →
      Spells ts limit (a p) h c e (levels l d) t i j → Spells ts limit (rest (symbol.Many l p ∷ s)) (past_part h t) e f d u j k →
      Spells ts limit (rest (symbol.Many l p ∷ s)) h c f d (t & u) i k
  -- parts with commas between them
  list_last : {l : Depth} {p : Part} {s : Side} {h : Context} {c e f : Scopes} {d i j k : ℕ} {t : Trees} →
      Spells ts limit (a p) h c e (levels l d) t i j → Spells ts limit (rest s) (past_part h t) e f d none j k →
      Spells ts limit (rest (symbol.List l p ∷ s)) h c f d t i k
  list_more : {l : Depth} {p : Part} {s : Side} {h : Context} {c e f : Scopes} {d i j k : ℕ} {t u : Trees} →
      Spells ts limit (a p) h c e (levels l d) t i j → Is ts j word.Comma → Stands limit j (levels l d) →
      Spells ts limit (rest (symbol.List l p ∷ s)) (past_token h) e f d u (j + 1) k →
      Spells ts limit (rest (symbol.List l p ∷ s)) h c f d (t & u) i k
  list_none : {l : Depth} {p : Part} {s : Side} {h : Context} {c e : Scopes} {d i j : ℕ} →
      Spells ts limit (rest s) h c e d none i j → Spells ts limit (rest (symbol.OptionalList l p ∷ s)) h c e d none i j
  list_some : {l : Depth} {p : Part} {s : Side} {h : Context} {c e : Scopes} {d i j : ℕ} {t : Trees} →
      Spells ts limit (rest (symbol.List l p ∷ s)) h c e d t i j → Spells ts limit (rest (symbol.OptionalList l p ∷ s)) h c e d t i j
  -- [identifier] "{"
  tag_none : {s : Side} {h : Context} {c e : Scopes} {d i j : ℕ} {t : Trees} →
      Is ts i word.LeftBrace → Within limit i d → Spells ts limit (rest s) (past_token h) c e d t (i + 1) j →
      Spells ts limit (rest (symbol.Tag ∷ s)) h c e d t i j
  tag_some : {s : Side} {h : Context} {c e : Scopes} {d i j : ℕ} {t : Trees} →
      Is ts i word.Identifier → Stands limit i d → Is ts (i + 1) word.LeftBrace → Within limit (i + 1) d →
      Spells ts limit (rest s) (past_token h) c e d t (i + 1 + 1) j →
      Spells ts limit (rest (symbol.Tag ∷ s)) h c e d t i j
  -- [","] "}"
  comma_none : {s : Side} {h : Context} {c e : Scopes} {d i j : ℕ} {t : Trees} →
      Is ts i word.RightBrace → Stands limit i (d + 1) → Spells ts limit (rest s) (past_token h) c e d t (i + 1) j →
      Spells ts limit (rest (symbol.TrailingComma ∷ s)) h c e d t i j
  comma_some : {s : Side} {h : Context} {c e : Scopes} {d i j : ℕ} {t : Trees} →
      Is ts i word.Comma → Stands limit i (d + 1) → Is ts (i + 1) word.RightBrace → Stands limit (i + 1) (d + 1) →
      Spells ts limit (rest s) (past_token h) c e d t (i + 1 + 1) j →
      Spells ts limit (rest (symbol.TrailingComma ∷ s)) h c e d t i j
  -- {"const" | "volatile"} in the level of a `*`, and what it points to
  qualified : {p : Part} {h : Context} {c e : Scopes} {d i j k : ℕ} {t : Trees} →
      AreQualifiers ts limit (d + 1) i j → Spells ts limit (a p) h c e (d + 1) t j k →
      Spells ts limit (rest (symbol.Qualified p ∷ [])) h c e d t i k
  qualified_none : {p : Part} {h : Context} {c : Scopes} {d i j : ℕ} →
      AreQualifiers ts limit (d + 1) i j → Spells ts limit (rest (symbol.OptionalQualified p ∷ [])) h c c d none i j
  qualified_some : {p : Part} {h : Context} {c e : Scopes} {d i j k : ℕ} {t : Trees} →
      AreQualifiers ts limit (d + 1) i j → Spells ts limit (a p) h c e (d + 1) t j k →
      Spells ts limit (rest (symbol.OptionalQualified p ∷ [])) h c e d t i k
  -- An identifier in an expression is none that the scopes make a type, and a typedef name is one with no type specifier
  -- before it in its specifiers (6.7.8, 6.5.1).
  ordinary : {s : Side} {h : Context} {c e : Scopes} {d i j : ℕ} {t : Trees} →
      IsIdentifier ts c i false → Stands limit i d → Spells ts limit (rest s) (past_token h) c e d t (i + 1) j →
      Spells ts limit (rest (symbol.Ordinary ∷ s)) h c e d t i j
  type_identifier : {s : Side} {h : Context} {c e : Scopes} {d i j : ℕ} {t : Trees} →
      IsIdentifier ts c i true → h.typed ≡ false → Stands limit i d → Spells ts limit (rest s) (past_token h) c e d t (i + 1) j →
      Spells ts limit (rest (symbol.TypeIdentifier ∷ s)) h c e d t i j
  -- A declared identifier may be spelled like a type only behind a type specifier or another token. The scope of its
  -- own parameters is empty so far.
  declared : {s : Side} {h : Context} {c e : Scopes} {d i j : ℕ} {t : Trees} →
      Is ts i word.Identifier → h.typed || not (is_type c (spelling_at ts i)) ≡ true → Stands limit i d →
      Spells ts limit (rest s) (past_token h) ([] ∷ c) e d t (i + 1) j →
      Spells ts limit (rest (symbol.Declared ∷ s)) h c e d t i j
  -- An enumerator is in scope after its own definition (6.2.1p7), whatever its identifier was before.
  enumerates : {s : Side} {h : Context} {c e : Scopes} {d i j : ℕ} {t : Trees} →
      Is ts i word.Identifier → Stands limit i d → Spells ts limit (rest s) (past_token h) c e d t (i + 1) j →
      Spells ts limit (rest (symbol.Enumerates ∷ s)) h c (enter (record { name = spelling_at ts i; is_type = false }) e) d t i j
  -- ["=" conditional]
  value_none : {s : Side} {h : Context} {c e : Scopes} {d i j : ℕ} →
      Spells ts limit (rest s) h c e d none i j → Spells ts limit (rest (symbol.Value ∷ s)) h c e d none i j
  value_some : {s : Side} {h : Context} {c e f : Scopes} {d i j k : ℕ} {t u : Trees} →
      Is ts i word.Equal → Stands limit i d → Spells ts limit (a Conditional) h c e d t (i + 1) j →
      Spells ts limit (rest s) (past_part h t) e f d u j k →
      Spells ts limit (rest (symbol.Value ∷ s)) h c f d (t & u) i k
  -- The name of a declarator enters the scope that the declarator stands in, under that of its own parameters.
  enters : {s : Side} {h : Context} {c e : Scopes} {own : List TypeName} {d i j : ℕ} {t : Trees} →
      Spells ts limit (rest s) h (own ∷ enter (declared_name ts h) c) e d t i j →
      Spells ts limit (rest (symbol.Enters ∷ s)) h (own ∷ c) e d t i j
  begins : {s : Side} {h : Context} {c e : Scopes} {d i j : ℕ} {t : Trees} →
      Spells ts limit (rest s) h ([] ∷ c) e d t i j → Spells ts limit (rest (symbol.Begins ∷ s)) h c e d t i j
  ends : {s : Side} {h : Context} {c e : Scopes} {own : List TypeName} {d i j : ℕ} {t : Trees} →
      Spells ts limit (rest s) h c e d t i j → Spells ts limit (rest (symbol.Ends ∷ s)) h (own ∷ c) e d t i j
  -- The parameters of a declarator have a scope of their own. Those behind the declared identifier itself are its own.
  prototype_none : {s : Side} {h : Context} {c e : Scopes} {d i j : ℕ} →
      Spells ts limit (rest s) h c e d none i j → Spells ts limit (rest (symbol.Prototype ∷ s)) h c e d none i j
  prototype_some : {s : Side} {h : Context} {c e f : Scopes} {own names : List TypeName} {d i j k : ℕ} {t u : Trees} →
      Spells ts limit (a Parameters) h ([] ∷ c) (names ∷ e) (d + 1) t i j →
      Spells ts limit (rest s) (past_part h t) ((if h.bare then names else own) ∷ e) f d u j k →
      Spells ts limit (rest (symbol.Prototype ∷ s)) h (own ∷ c) f d (t & u) i k
  -- An array's size stands outside that scope.
  size_none : {s : Side} {h : Context} {c e : Scopes} {d i j : ℕ} →
      Spells ts limit (rest s) h c e d none i j → Spells ts limit (rest (symbol.Size ∷ s)) h c e d none i j
  size_some : {s : Side} {h : Context} {c e f : Scopes} {own : List TypeName} {d i j k : ℕ} {t u : Trees} →
      Spells ts limit (a Conditional) h c e (d + 1) t i j → Spells ts limit (rest s) (past_part h t) (own ∷ e) f d u j k →
      Spells ts limit (rest (symbol.Size ∷ s)) h (own ∷ c) f d (t & u) i k
  -- text {text}
  texts_one : {h : Context} {c : Scopes} {d i : ℕ} →
      Is ts i word.Text → Stands limit i d → Spells ts limit (rest (symbol.Texts ∷ [])) h c c d none i (i + 1)
  texts_more : {h : Context} {c : Scopes} {d i j : ℕ} →
      Is ts i word.Text → Stands limit i d → Spells ts limit (rest (symbol.Texts ∷ [])) h c c d none (i + 1) j →
      Spells ts limit (rest (symbol.Texts ∷ [])) h c c d none i j
  -- declaration | [expression] ";"
  init_declaration : {s : Side} {h : Context} {c e f : Scopes} {d i j k : ℕ} {t u : Trees} →
      Spells ts limit (a Declaration) h c e (d + 1) t i j → Spells ts limit (rest s) (past_part h t) e f d u j k →
      Spells ts limit (rest (symbol.Init ∷ s)) h c f d (t & u) i k
  init_clause : {s : Side} {h : Context} {c e : Scopes} {d i j : ℕ} {t : Trees} →
      Spells ts limit (rest (symbol.Clause ∷ s)) h c e d t i j → Spells ts limit (rest (symbol.Init ∷ s)) h c e d t i j
  -- [expression] ";"
  clause_none : {s : Side} {h : Context} {c e : Scopes} {d i j : ℕ} {t : Trees} →
      Is ts i word.Semicolon → Stands limit i (d + 1) → Spells ts limit (rest s) (past_token h) c e d t (i + 1) j →
      Spells ts limit (rest (symbol.Clause ∷ s)) h c e d t i j
  clause_some : {s : Side} {h : Context} {c e f : Scopes} {d i j k : ℕ} {t u : Trees} →
      Spells ts limit (a Expression) h c e (d + 1) t i j → Is ts j word.Semicolon → Stands limit j (d + 1) →
      Spells ts limit (rest s) (past_token h) e f d u (j + 1) k →
      Spells ts limit (rest (symbol.Clause ∷ s)) h c f d (t & u) i k
  -- [expression] ")"
  step_none : {s : Side} {h : Context} {c e : Scopes} {d i j : ℕ} {t : Trees} →
      Is ts i word.RightParen → Stands limit i (d + 1) → Within limit i d → Spells ts limit (rest s) (past_token h) c e d t (i + 1) j →
      Spells ts limit (rest (symbol.Step ∷ s)) h c e d t i j
  step_some : {s : Side} {h : Context} {c e f : Scopes} {d i j k : ℕ} {t u : Trees} →
      Spells ts limit (a Expression) h c e (d + 1) t i j → Is ts j word.RightParen → Stands limit j (d + 1) → Within limit j d →
      Spells ts limit (rest s) (past_token h) e f d u (j + 1) k →
      Spells ts limit (rest (symbol.Step ∷ s)) h c f d (t & u) i k
  -- ["else" statement], where the statement is a block of its own
  else_none : {s : Side} {h : Context} {c e : Scopes} {d i j : ℕ} →
      Spells ts limit (rest s) h c e d none i j → Spells ts limit (rest (symbol.Else ∷ s)) h c e d none i j
  else_some : {s : Side} {h : Context} {c e f : Scopes} {names : List TypeName} {d i j k : ℕ} {t u : Trees} →
      Is ts i word.Else → Within limit i d → Spells ts limit (a Statement) h ([] ∷ c) (names ∷ e) (d + 1) t (i + 1) j →
      Spells ts limit (rest s) (past_part h t) e f d u j k →
      Spells ts limit (rest (symbol.Else ∷ s)) h c f d (t & u) i k
