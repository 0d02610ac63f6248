-- What a goal's answer means: which tokens its trees spell, as which part.
use Rattle.std.proofs.Common.{◌≡◌, ℕ, ◌+◌, ◌<◌, Bool, true, false, List, [], ◌∷◌, length, refl, arith}
use Rattle.cr_syntax.specs.declared.word.Word.TheVariants as word
use Rattle.cr_syntax.specs.declared.node.Kind.TheVariants as kind
use Rattle.cr_syntax.specs.Symbols.{Outer}
use Rattle.cr_syntax.specs.declared.part.Part.{Part}
use Rattle.cr_syntax.specs.declared.part.Part.TheVariants as part
use Rattle.cr_syntax.specs.Symbols.{Symbol}
use Rattle.cr_syntax.specs.Symbols as symbol
use Rattle.cr_syntax.specs.declared.part.Context.{Context}
use Rattle.cr_syntax.specs.declared.scopes.TypeName.{TypeName}
use Rattle.cr_syntax.specs.Words.{Lexeme}
use Rattle.cr_syntax.specs.Scopes.{Scopes, enter}
use Rattle.cr_syntax.specs.Trees.{Trees, none, node, one, ◌&◌}
use Rattle.cr_syntax.specs.Context.{past_token, past_part, declared_name}
use Rattle.cr_syntax.specs.Grammar.{Side, inner, inner_many, inner_list, list, many, opening, closing, token}
use Rattle.cr_syntax.specs.Spells.{Limit, Is, Stands, AreQualifiers, Spells, a, rest}
use Rattle.cr_syntax.specs.Units.{unit_side}
use Rattle.cr_syntax_machine.specs.Machine.{Goal, Wanted, around, innermost_of}
use Rattle.cr_syntax_machine.specs.Machine.{whole, expression, commas, assignment, conditional, binary, operands, cast, unary, measured, postfix, called, grouped, texts, arguments, suffixes, type_name, row, more, element, structure, members, member, member_declarators, enumeration, enumerators, enumerator, qualifiers, declarator, declarator_suffixes, abstract_suffixes, size, parameters, more_parameters, parameter}
use Rattle.cr_syntax_machine.specs.Machine.{unit, externals, external, declaration, init_declarators, initialized, initializer, initializers, statement, block, if_rest, switch_rest, while_rest, do_rest, for_rest, return_rest, for_clauses, clause, compound, items, item}
use Rattle.cr_syntax_machine.specs.MachineBody.{is_declarator, may_name, may_omit}

abbrev pub start_part : Part → Part
start_part part.Expression = part.Expression
start_part part.Assignment = part.Assignment
start_part _ = part.Conditional

-- the ten levels of binary operators
abbrev pub is_level : Part → Bool
is_level part.LogicalOr = true
is_level part.LogicalAnd = true
is_level part.Or = true
is_level part.Xor = true
is_level part.And = true
is_level part.Equality = true
is_level part.Relational = true
is_level part.Shift = true
is_level part.Additive = true
is_level part.Multiplicative = true
is_level _ = false

abbrev pub row_part : Part → Part
row_part part.Specifiers = part.Specifiers
row_part _ = part.PlainSpecifiers

abbrev pub element_part : Part → Part
element_part part.Specifiers = part.Specifier
element_part _ = part.Plain

abbrev pub has_some : Trees → Bool
has_some none = false
has_some (node k i j b n) = true

-- a scope is open
abbrev pub IsOpen : Scopes → Type 0
IsOpen c = c ≡ innermost_of c ∷ around c

-- where there is one
pub open_of : (c : Scopes) → 0 < length c → IsOpen c
open_of [] q = absurd (omega arith)
open_of (names ∷ c) q = refl

-- what stands behind the first clause of a `for`
abbrev pub after_init : Side
after_init = symbol.Clause ∷ symbol.Step ∷ symbol.Begins ∷ inner part.Statement ∷ symbol.Ends ∷ symbol.Ends ∷ []

module _ (us : List Lexeme) (top : Limit) where
  -- the trees as a part, whatever is said before
  abbrev pub Reads : Part → ℕ → Scopes → ℕ → Trees → Scopes → ℕ → Type 0
  Reads p d c i t e j = (h : Context) → Spells us top (a p) h c e d t i j

  -- what is spelled from token i on is, with a symbol's token s before it
  abbrev pub Behind : Symbol → ℕ → ℕ → Scopes → ℕ → Type 0
  Behind x d s c i = (side : Side) (h : Context) (e : Scopes) (t : Trees) (j : ℕ) →
      Spells us top (rest side) (past_token h) c e d t i j → Spells us top (rest (x ∷ side)) h c e d t s j

  -- the same where a keyword begins a statement that is a block, whatever the scopes
  abbrev pub Begun : Symbol → ℕ → ℕ → ℕ → Type 0
  Begun x d s i = (c : Scopes) → Behind x d s c i

  -- a declarator with a name, or one without
  pub data IsDeclared (w : Wanted) (h : Context) (d : ℕ) (c : Scopes) (i : ℕ) (t : Trees) (e : Scopes) (j : ℕ) : Type 0 where
    with_name : is_declarator t ≡ true → may_name w ≡ true → IsOpen e → Spells us top (a part.Declarator) h c e d t i j → IsDeclared w h d c i t e j
    without : is_declarator t ≡ false → may_omit w ≡ true → Reads part.Abstract d c i t e j → IsDeclared w h d c i t e j

  -- an array's size or none, and its bracket
  pub data IsSize (d : ℕ) (c : Scopes) : ℕ → Trees → Scopes → ℕ → Type 0 where
    unsized : {i : ℕ} → Is us i word.RightBracket → Stands top i (d + 1) → IsSize d c i none c (i + 1)
    sized : {i j : ℕ} {t : Trees} {e : Scopes} → Reads part.Conditional (d + 1) c i t e j → Is us j word.RightBracket → Stands top j (d + 1) → IsSize d c i (t & none) e (j + 1)

  -- a clause of a `for` or none, and its `;`
  pub data IsClause (d : ℕ) (c : Scopes) : ℕ → Trees → Scopes → ℕ → Type 0 where
    no_clause : {i : ℕ} → Is us i word.Semicolon → Stands top i d → IsClause d c i none c (i + 1)
    one_clause : {i j : ℕ} {t : Trees} {e : Scopes} → Reads part.Expression d c i t e j → Is us j word.Semicolon → Stands top j d → IsClause d c i (t & none) e (j + 1)

  -- parameters with commas between them
  pub data IsParameterRow (d : ℕ) (c : Scopes) (s : ℕ) : Trees → Scopes → ℕ → Type 0 where
    first_one : {t : Trees} {e : Scopes} {i : ℕ} → Reads part.Parameter d c s t e i → IsParameterRow d c s (t & none) e i
    next_one : {t u : Trees} {e f : Scopes} {i j : ℕ} → IsParameterRow d c s t e i → Is us i word.Comma → Stands top i d →
        Reads part.Parameter d e (i + 1) u f j → IsParameterRow d c s (t & u & none) f j

  -- specifiers from token s to before token i, as a row's beginning
  abbrev pub IsRowBegin : Part → ℕ → Context → Scopes → ℕ → Trees → Context → Scopes → ℕ → Type 0
  IsRowBegin p d h c s t h' e i = (u : Trees) (f : Scopes) (k : ℕ) →
      Spells us top (rest (many (element_part p) ∷ [])) h' e f d u i k → Spells us top (rest (many (element_part p) ∷ [])) h c f d (t & u) s k

  abbrev pub Means : Goal → Scopes → ℕ → Trees → Scopes → ℕ → Type 0
  Means (whole p d) c i t e j = Reads (start_part p) d c i t e j
  Means (expression d) c i t e j = Reads part.Expression d c i t e j
  Means (commas d s x) c i t e j = (c0 : Scopes) → Reads part.Expression d c0 s x c i → Reads part.Expression d c0 s t e j
  Means (assignment d) c i t e j = Reads part.Assignment d c i t e j
  Means (conditional d) c i t e j = Reads part.Conditional d c i t e j
  Means (binary p d) c i t e j = is_level p ≡ true → Reads p d c i t e j
  Means (operands p d s x) c i t e j = is_level p ≡ true → (c0 : Scopes) → Reads p d c0 s x c i → Reads p d c0 s t e j
  Means (cast d) c i t e j = Reads part.Cast d c i t e j
  Means (unary d) c i t e j = Reads part.Unary d c i t e j
  Means (measured d s) c i t e j = Behind (symbol.Opens Outer word.Sizeof) d s c i → Reads part.Unary d c s t e j
  Means (postfix d) c i t e j = Reads part.Postfix d c i t e j
  Means (called d s) c i t e j = Behind symbol.Ordinary d s c i → Reads part.Postfix d c s t e j
  Means (grouped d s) c i t e j = Behind (symbol.Opens Outer word.LeftParen) d s c i → Reads part.Postfix d c s t e j
  Means (texts d) c i t e j = (c ≡ e) × ((s : ℕ) → ((h : Context) → Spells us top (rest (symbol.Texts ∷ [])) h c c d none s i) →
      ((h : Context) (k : ℕ) → Spells us top (rest (symbol.Texts ∷ [])) h c c d none i k → Spells us top (rest (symbol.Texts ∷ [])) h c c d none s k) →
      (h : Context) → Spells us top (rest (symbol.Texts ∷ [])) h c c d none s j)
  Means (arguments d x) c i t e j = (u : Trees) × (t ≡ x & u) × ((h : Context) → Spells us top (rest (inner_list part.Assignment ∷ closing word.RightParen ∷ [])) h c e d u i j)
  Means (suffixes d s x) c i t e j = (c0 : Scopes) → Reads part.Postfix d c0 s x c i → Reads part.Postfix d c0 s t e j
  Means (type_name d) c i t e j = Reads part.TypeName d c i t e j
  Means (row p h d) c i t e j = Spells us top (a (row_part p)) h c e d t i j
  Means (more p h d s x) c i t e j = (h0 : Context) (c0 : Scopes) → has_some x ≡ true → IsRowBegin p d h0 c0 s x h c i → Spells us top (a (row_part p)) h0 c0 e d t s j
  Means (element p h d) c i t e j = Spells us top (a (element_part p)) h c e d t i j
  Means (structure d s) c i t e j = Behind (token word.Struct) d s c i → Reads part.Plain d c s t e j
  Means (members d s x) c i t e j = (u : Trees) × (t ≡ one kind.StructContent s j (x & u)) ×
      ((h : Context) → Spells us top (rest (inner part.MemberDeclaration ∷ inner_many part.MemberDeclaration ∷ closing word.RightBrace ∷ [])) h c e d u i j)
  Means (member d) c i t e j = Reads part.MemberDeclaration d c i t e j
  Means (member_declarators h d s x) c i t e j = (u : Trees) × (t ≡ one kind.MemberDeclaration s j (x & u)) ×
      Spells us top (rest (list part.MemberDeclarator ∷ token word.Semicolon ∷ [])) h c e d u i j
  Means (enumeration d s) c i t e j = Behind (token word.Enum) d s c i → Reads part.Plain d c s t e j
  Means (enumerators d s x) c i t e j = (u : Trees) × (t ≡ one kind.EnumContent s j (x & u)) ×
      ((h : Context) → Spells us top (rest (inner_list part.Enumerator ∷ symbol.TrailingComma ∷ [])) h c e d u i j)
  Means (enumerator d) c i t e j = Reads part.Enumerator d c i t e j
  Means (qualifiers d) c i t e j = (c ≡ e) × AreQualifiers us top d i j
  Means (declarator w h d) c i t e j = IsDeclared w h d c i t e j
  Means (declarator_suffixes d s x) c i t e j = (h : Context) (c0 : Scopes) → IsOpen c → is_declarator x ≡ true → Spells us top (a part.DirectDeclarator) h c0 c d x s i →
      IsOpen e × (is_declarator t ≡ true) × Spells us top (a part.DirectDeclarator) h c0 e d t s j
  Means (abstract_suffixes d s x) c i t e j = (c0 : Scopes) → is_declarator x ≡ false → Reads part.DirectAbstract d c0 s x c i →
      (is_declarator t ≡ false) × Reads part.DirectAbstract d c0 s t e j
  Means (size d) c i t e j = IsSize d c i t e j
  Means (parameters d) c i t e j = Reads part.Parameters d c i t e j
  Means (more_parameters d s x) c i t e j = (c0 : Scopes) → IsParameterRow d c0 s x c i → Reads part.Parameters d c0 s t e j
  Means (parameter d) c i t e j = Reads part.Parameter d c i t e j
  Means (unit l d) c i t e j = (h : Context) → Spells us top (rest unit_side) h c e d t i j
  Means (externals l d x) c i t e j = (u : Trees) × (t ≡ x & u) × ((h : Context) → Spells us top (rest (many part.External ∷ [])) h c e d u i j)
  Means (external l d) c i t e j = Reads part.External d c i t e j
  Means (declaration d) c i t e j = Reads part.Declaration d c i t e j
  Means (init_declarators h d s x) c i t e j = (u : Trees) × (t ≡ one kind.Declaration s j (x & u)) ×
      Spells us top (rest (list part.InitDeclarator ∷ token word.Semicolon ∷ [])) h c e d u i j
  Means (initialized d q x) c i t e j = (h : Context) (c0 e0 : Scopes) → IsOpen e0 → c ≡ enter (declared_name us (past_part h x)) (around e0) →
      Spells us top (a part.Declarator) h c0 e0 d x q i → Spells us top (a part.InitDeclarator) h c0 e d t q j
  Means (initializer d) c i t e j = Reads part.Initializer d c i t e j
  Means (initializers d s x) c i t e j = (u : Trees) × (t ≡ one kind.InitializerList s j (x & u)) ×
      ((h : Context) → Spells us top (rest (inner_list part.Initializer ∷ symbol.TrailingComma ∷ [])) h c e d u i j)
  Means (statement l d) c i t e j = Reads part.Statement d c i t e j
  Means (block l d) c i t e j = (names : List TypeName) × Reads part.Statement d ([] ∷ c) i t (names ∷ e) j
  Means (if_rest l d s) c i t e j = Begun (token word.If) d s i → Reads part.Statement d c s t e j
  Means (switch_rest l d s) c i t e j = Begun (token word.Switch) d s i → Reads part.Statement d c s t e j
  Means (while_rest l d s) c i t e j = Begun (token word.While) d s i → Reads part.Statement d c s t e j
  Means (do_rest l d s) c i t e j = Begun (opening word.Do) d s i → Reads part.Statement d c s t e j
  Means (for_rest l d s) c i t e j = Begun (token word.For) d s i → Reads part.Statement d c s t e j
  Means (return_rest d s) c i t e j = Behind (token word.Return) d s c i → Reads part.Statement d c s t e j
  Means (for_clauses l d s x) c i t e j = 0 < length c → (u : Trees) × (t ≡ one kind.For s j (x & u)) × ((h : Context) → Spells us top (rest after_init) h c e d u i j)
  Means (clause d) c i t e j = IsClause d c i t e j
  Means (compound l d) c i t e j = Reads part.Compound d c i t e j
  Means (items l d s x) c i t e j = (u : Trees) × (t ≡ one kind.Compound s j (x & u)) ×
      (IsOpen e → (h : Context) → Spells us top (rest (inner_many part.BlockItem ∷ closing word.RightBrace ∷ symbol.Ends ∷ [])) h c (around e) d u i j)
  Means (item l d) c i t e j = Reads part.BlockItem d c i t e j
