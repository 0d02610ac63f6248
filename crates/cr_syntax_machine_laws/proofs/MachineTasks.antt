-- What is spelled, the machine reads.
use Rattle.std.proofs.Common.{◌≡◌, ℕ, suc, ◌+◌, ◌<◌, true, false, List, [], ◌∷◌, arith}
use Rattle.cr_syntax.specs.declared.word.Word.{Word}
use Rattle.cr_syntax.specs.declared.word.Word.TheVariants as word
use Rattle.cr_syntax.specs.declared.node.Kind.TheVariants as kind
use Rattle.cr_syntax.specs.declared.part.Part.{Part}
use Rattle.cr_syntax.specs.declared.part.Part.TheVariants as part
use Rattle.cr_syntax.specs.Symbols as symbol
use Rattle.cr_syntax.specs.declared.scopes.TypeName.{TypeName}
use Rattle.cr_syntax.specs.declared.part.Context.{Context}
use Rattle.cr_syntax.specs.Words.{Lexeme}
use Rattle.cr_syntax.specs.Scopes.{Scopes}
use Rattle.cr_syntax.specs.Trees.{Trees, none, node, one, ◌&◌}
use Rattle.cr_syntax.specs.Context.{past_part, ends_open}
use Rattle.cr_syntax.specs.Grammar.{inner_many, inner_list, list, many, closing, token}
use Rattle.cr_syntax.specs.Spells.{Limit, Is, Within, Phrase, Spells, a, rest}
use Rattle.cr_syntax.specs.Spells as spells
use Rattle.cr_syntax.specs.Reads.{is_word, same_word}
use Rattle.cr_syntax_machine.specs.Machine.{Goal, Prog, Wanted, Reply, Done, Runs, has_word, plain, opens, reopens, give, take, call, made, the}
use Rattle.cr_syntax_machine.specs.Machine as m
use Rattle.cr_syntax_machine.specs.MachineBody.{body, element_start, type_start, in_row, may_name, may_omit, is_any, declared_on}
use Rattle.cr_syntax_machine_laws.specs.MachineLaws.{IsFree}
use Rattle.cr_syntax_machine_laws.proofs.MachineMeans.{is_level, element_part, has_some}
use Rattle.cr_syntax_machine_laws.proofs.MachineFirst.{differs, fails}

-- how much stands in a spelling
abbrev pub measure : {ts : List Lexeme} {limit : Limit} {p : Phrase} {h : Context} {c e : Scopes} {d i j : ℕ} {t : Trees} → Spells ts limit p h c e d t i j → ℕ
measure (spells.of_alternative m f s) = suc (measure s)
measure (spells.of_chain m f s) = suc (measure s)
measure (spells.init_declarator_alone s) = suc (measure s)
measure (spells.parameter_declarator s) = suc (measure s)
measure (spells.member_declarator s) = suc (measure s)
measure spells.done = suc (0)
measure (spells.token q w s) = suc (measure s)
measure (spells.opens q w s) = suc (measure s)
measure (spells.reopens q w v s) = suc (measure s)
measure (spells.part x s) = suc (measure x + measure s)
measure (spells.optional_none s) = suc (measure s)
measure (spells.optional_some x s) = suc (measure x + measure s)
measure (spells.many_none s) = suc (measure s)
measure (spells.many_more x s) = suc (measure x + measure s)
measure (spells.list_last x s) = suc (measure x + measure s)
measure (spells.list_more x q w s) = suc (measure x + measure s)
measure (spells.list_none s) = suc (measure s)
measure (spells.list_some s) = suc (measure s)
measure (spells.tag_none q w s) = suc (measure s)
measure (spells.tag_some q w q' w' s) = suc (measure s)
measure (spells.comma_none q w s) = suc (measure s)
measure (spells.comma_some q w q' w' s) = suc (measure s)
measure (spells.qualified k x) = suc (measure x)
measure (spells.qualified_none k) = suc (0)
measure (spells.qualified_some k x) = suc (measure x)
measure (spells.ordinary q w s) = suc (measure s)
measure (spells.type_identifier q f w s) = suc (measure s)
measure (spells.declared q f w s) = suc (measure s)
measure (spells.enumerates q w s) = suc (measure s)
measure (spells.value_none s) = suc (measure s)
measure (spells.value_some q w x s) = suc (measure x + measure s)
measure (spells.enters s) = suc (measure s)
measure (spells.begins s) = suc (measure s)
measure (spells.ends s) = suc (measure s)
measure (spells.prototype_none s) = suc (measure s)
measure (spells.prototype_some x s) = suc (measure x + measure s)
measure (spells.size_none s) = suc (measure s)
measure (spells.size_some x s) = suc (measure x + measure s)
measure (spells.texts_one q w) = suc (0)
measure (spells.texts_more q w s) = suc (measure s)
measure (spells.init_declaration x s) = suc (measure x + measure s)
measure (spells.init_clause s) = suc (measure s)
measure (spells.clause_none q w s) = suc (measure s)
measure (spells.clause_some x q w s) = suc (measure x + measure s)
measure (spells.step_none q w v s) = suc (measure s)
measure (spells.step_some x q w v s) = suc (measure x + measure s)
measure (spells.else_none s) = suc (measure s)
measure (spells.else_some q w x s) = suc (measure x + measure s)

-- no token that joins a postfix expression stands at token j
pub record Lone (ts : List Lexeme) (j : ℕ) : Type 0 where
  pub paren : is_word ts j word.LeftParen ≡ false
  pub text : is_word ts j word.Text ≡ false

pub lone_by : {ts : List Lexeme} {j : ℕ} {w : Word} → Is ts j w → same_word w word.LeftParen ≡ false → same_word w word.Text ≡ false → Lone ts j
lone_by q x y = record { paren = differs q word.LeftParen x; text = differs q word.Text y }

pub lone_free : {ts : List Lexeme} {j : ℕ} → IsFree ts 0 j → Lone ts j
lone_free f = record { paren = fails f word.LeftParen (omega arith); text = fails f word.Text (omega arith) }

-- a token stands at j that ends each declarator
pub data Closes (ts : List Lexeme) (j : ℕ) : Type 0 where
  by_paren : Is ts j word.RightParen → Closes ts j
  by_comma : Is ts j word.Comma → Closes ts j
  by_semicolon : Is ts j word.Semicolon → Closes ts j

-- a token stands at j that ends each declarator with a name, one before an initializer or a body too
pub data EndsName (ts : List Lexeme) (j : ℕ) : Type 0 where
  by_closing : Closes ts j → EndsName ts j
  by_equal : Is ts j word.Equal → EndsName ts j
  by_brace : Is ts j word.LeftBrace → EndsName ts j

-- what is said after a row of parts
abbrev pub past_row : Context → Trees → Context
past_row h none = h
past_row h (node k i j b n) = past_row (past_part h (one k i j b)) n

-- the words of all tighter levels
abbrev pub base : Part → ℕ
base part.Additive = 1
base part.Shift = 2
base part.Relational = 3
base part.Equality = 4
base part.And = 5
base part.Xor = 6
base part.Or = 7
base part.LogicalAnd = 8
base part.LogicalOr = 9
base _ = 0

-- the operands of a level
abbrev pub below : Part → Part
below part.LogicalOr = part.LogicalAnd
below part.LogicalAnd = part.Or
below part.Or = part.Xor
below part.Xor = part.And
below part.And = part.Equality
below part.Equality = part.Relational
below part.Relational = part.Shift
below part.Shift = part.Additive
below part.Additive = part.Multiplicative
below _ = part.Cast

-- what is read
pub data Task : Phrase → Type 0 where
  expression : Task (a part.Expression)
  assignment : Task (a part.Assignment)
  conditional : Task (a part.Conditional)
  level : (p : Part) → is_level p ≡ true → Task (a p)
  cast : Task (a part.Cast)
  unary : Task (a part.Unary)
  postfix : Task (a part.Postfix)
  arguments : Task (rest (inner_list part.Assignment ∷ closing word.RightParen ∷ []))
  type_name : Task (a part.TypeName)
  specifiers : Task (a part.Specifiers)
  plain_specifiers : Task (a part.PlainSpecifiers)
  element : (p : Part) → Task (a (element_part p))
  elements : (p : Part) → Task (rest (many (element_part p) ∷ []))
  member : Task (a part.MemberDeclaration)
  members : Task (rest (inner_many part.MemberDeclaration ∷ closing word.RightBrace ∷ []))
  member_list : Task (rest (list part.MemberDeclarator ∷ token word.Semicolon ∷ []))
  enumerators : Task (rest (inner_list part.Enumerator ∷ symbol.TrailingComma ∷ []))
  enumerator : Task (a part.Enumerator)
  declarator : Task (a part.Declarator)
  direct : Task (a part.DirectDeclarator)
  abstract : Task (a part.Abstract)
  direct_abstract : Task (a part.DirectAbstract)
  parameters : Task (a part.Parameters)
  parameter : Task (a part.Parameter)
  parameter_list : Task (rest (list part.Parameter ∷ []))
  variadic_list : Task (rest (list part.Parameter ∷ token word.Comma ∷ token word.Ellipsis ∷ []))
  external : Task (a part.External)
  externals : Task (rest (many part.External ∷ []))
  declaration : Task (a part.Declaration)
  init_declarators : Task (rest (list part.InitDeclarator ∷ token word.Semicolon ∷ []))
  initializer : Task (a part.Initializer)
  initializers : Task (rest (inner_list part.Initializer ∷ symbol.TrailingComma ∷ []))
  statement : Task (a part.Statement)
  compound : Task (a part.Compound)
  items : Task (rest (inner_many part.BlockItem ∷ closing word.RightBrace ∷ symbol.Ends ∷ []))
  item : Task (a part.BlockItem)

module _ (ts : List Lexeme) (limit : Limit) where
  abbrev pub Goes : Prog → Scopes → ℕ → Reply → Type 0
  Goes p c i r = Runs body ts limit p c i r

  abbrev pub Answers : Goal → Scopes → ℕ → Trees → Scopes → ℕ → Type 0
  Answers g c i t e j = Runs body ts limit (body g) c i (Done t e j)

  -- a unary expression begins with a bracket, or is read by `unary`
  pub data Started (d : ℕ) (c : Scopes) (i : ℕ) (r : Reply) : Type 0 where
    by_group : Is ts i word.LeftParen → Within limit i d → m.passes ts c (i + 1) type_start ≡ false → Goes (body (m.grouped d i)) c (i + 1) r → Started d c i r
    by_others : is_word ts i word.LeftParen ≡ false → Goes (body (m.unary d)) c i r → Started d c i r

  abbrev pub Completes : {p : Phrase} → Task p → Context → Scopes → Scopes → ℕ → Trees → ℕ → ℕ → Type 0
  Completes expression h c e d t i j = IsFree ts 12 j → (r : Reply) → Goes (body (m.commas d i t)) e j r → Goes (body (m.expression d)) c i r
  Completes assignment h c e d t i j = IsFree ts 12 j → Answers (m.assignment d) c i t e j
  Completes conditional h c e d t i j = IsFree ts 11 j → Answers (m.conditional d) c i t e j
  Completes (level p l) h c e d t i j = IsFree ts (base p) j → (r : Reply) → Goes (body (m.operands p d i t)) e j r → Goes (body (m.binary p d)) c i r
  Completes cast h c e d t i j = IsFree ts 0 j → Answers (m.cast d) c i t e j
  Completes unary h c e d t i j = IsFree ts 0 j → Started d c i (Done t e j)
  Completes postfix h c e d t i j = Lone ts j → (r : Reply) → Goes (body (m.suffixes d i t)) e j r → Started d c i r
  Completes arguments h c e d t i j = (x : Trees) → Answers (m.arguments d x) c i (x & t) e j
  Completes type_name h c e d t i j = Is ts j word.RightParen → Answers (m.type_name d) c i t e j
  Completes specifiers h c e d t i j = m.passes ts e j (element_start part.Specifiers (past_part h t).typed) ≡ false → is_word ts j word.LeftBrace ≡ false → Answers (m.row part.Specifiers h d) c i t e j
  Completes plain_specifiers h c e d t i j = m.passes ts e j (element_start part.PlainSpecifiers (past_part h t).typed) ≡ false → is_word ts j word.LeftBrace ≡ false → Answers (m.row part.PlainSpecifiers h d) c i t e j
  Completes (element p) h c e d t i j = is_word ts j word.LeftBrace ≡ false → Answers (m.element p h d) c i t e j
  Completes (elements p) h c e d t i j = (s : ℕ) (x : Trees) → m.passes ts e j (element_start p (past_row h t).typed) ≡ false → is_word ts j word.LeftBrace ≡ false →
      Answers (m.more p h d s x) c i (in_row p s j (x & t)) e j
  Completes member h c e d t i j = Answers (m.member d) c i t e j
  Completes members h c e d t i j = (s : ℕ) (x : Trees) →
      Goes (take plain (the word.RightBrace) (d + 1) (made kind.StructContent s x) (call (m.members d s x) give)) c i (Done (one kind.StructContent s j (x & t)) e j)
  Completes member_list h c e d t i j = (s : ℕ) (x : Trees) → Answers (m.member_declarators h d s x) c i (one kind.MemberDeclaration s j (x & t)) e j
  Completes enumerators h c e d t i j = (s : ℕ) (x : Trees) → Answers (m.enumerators d s x) c i (one kind.EnumContent s j (x & t)) e j
  Completes enumerator h c e d t i j = IsFree ts 12 j → Answers (m.enumerator d) c i t e j
  Completes declarator h c e d t i j = (w : Wanted) → may_name w ≡ true → EndsName ts j → Answers (m.declarator w h d) c i t e j
  Completes direct h c e d t i j = (w : Wanted) → may_name w ≡ true → (r : Reply) → Goes (body (m.declarator_suffixes d i t)) e j r → Goes (body (m.declarator w h d)) c i r
  Completes abstract h c e d t i j = (w : Wanted) (h' : Context) → may_omit w ≡ true → Closes ts j → Answers (m.declarator w h' d) c i t e j
  Completes direct_abstract h c e d t i j = (w : Wanted) (h' : Context) → may_omit w ≡ true → (r : Reply) → Goes (body (m.abstract_suffixes d i t)) e j r → Goes (body (m.declarator w h' d)) c i r
  Completes parameters h c e d t i j = Is ts j word.RightParen → Answers (m.parameters d) c i t e j
  Completes parameter h c e d t i j = Closes ts j → Answers (m.parameter d) c i t e j
  Completes parameter_list h c e d t i j = (s : ℕ) (x : Trees) → has_some x ≡ true → Is ts j word.RightParen →
      Goes (call (m.parameter d) (λ u. call (m.more_parameters d s (x & u & none)) give)) c i (Done (one kind.Parameters s j (x & t)) e j)
  Completes variadic_list h c e d t i j = (s : ℕ) (x : Trees) →
      Goes (call (m.parameter d) (λ u. call (m.more_parameters d s (x & u & none)) give)) c i (Done (one kind.VariadicParameters s j (x & t)) e j)
  Completes external h c e d t i j = Answers (m.external m.anywhere d) c i t e j
  Completes externals h c e d t i j = (x : Trees) → has_word ts j is_any ≡ false → Answers (m.externals m.anywhere d x) c i (x & t) e j
  Completes declaration h c e d t i j = Answers (m.declaration d) c i t e j
  Completes init_declarators h c e d t i j = (s : ℕ) (x : Trees) (f : Trees → Prog) →
      ((u : Trees) (e' : Scopes) (k : ℕ) (r : Reply) → is_word ts k word.LeftBrace ≡ false → Goes (declared_on h d s x i u) e' k r → Goes (f u) e' k r) →
      Goes (call (m.declarator m.named h d) f) c i (Done (one kind.Declaration s j (x & t)) e j)
  Completes initializer h c e d t i j = IsFree ts 12 j → Answers (m.initializer d) c i t e j
  Completes initializers h c e d t i j = (s : ℕ) (x : Trees) → Answers (m.initializers d s x) c i (one kind.InitializerList s j (x & t)) e j
  Completes statement h c e d t i j = (ends_open t ≡ true → is_word ts j word.Else ≡ false) → Answers (m.statement m.anywhere d) c i t e j
  Completes compound h c e d t i j = Answers (m.compound m.anywhere d) c i t e j
  Completes items h c e d t i j = (s : ℕ) (x : Trees) → (names : List TypeName) × Answers (m.items m.anywhere d s x) c i (one kind.Compound s j (x & t)) (names ∷ e) j
  Completes item h c e d t i j = (ends_open t ≡ true → is_word ts j word.Else ≡ false) → Answers (m.item m.anywhere d) c i t e j

  -- all that is smaller is read
  pub record Smaller (n : ℕ) : Type 0 where
    pub read : {p : Phrase} {h : Context} {c e : Scopes} {d i j : ℕ} {t : Trees} (k : Task p) (s : Spells ts limit p h c e d t i j) → measure s < n → Completes k h c e d t i j
