-- The programs of the machine, one for each goal.
use Rattle.std.specs.Prelude.{ℕ, ◌+◌, ◌-◌, Bool, true, false, not, if◌then◌else◌, List, [], ◌∷◌, ◌++◌}
use Rattle.cr_syntax.specs.declared.word.Word.{Word}
use Rattle.cr_syntax.specs.declared.word.Word.TheVariants as word
use Rattle.cr_syntax.specs.declared.node.Kind.{Kind}
use Rattle.cr_syntax.specs.declared.node.Kind.TheVariants as kind
use Rattle.cr_syntax.specs.declared.part.Part.{Part}
use Rattle.cr_syntax.specs.declared.part.Part.TheVariants as part
use Rattle.cr_syntax.specs.declared.shape.Base.TheVariants.{ItsName, InBrackets, Derived, NoDeclarator}
use Rattle.cr_syntax.specs.declared.part.Context.{Context}
use Rattle.cr_syntax.specs.Trees.{Trees, none, node, one, ◌&◌}
use Rattle.cr_syntax.specs.Context.{fresh, past_token, past_part, is_bare, base_of, ends_open}
use Rattle.cr_syntax.specs.Units.{is_unused, begins_statement, own_parameters}
use Rattle.cr_syntax_machine.specs.Machine.{Goal, Prog, Test, Wanted, named, unnamed, either, Labels, anywhere, own_block, in_block, nowhere, plain, opens, reopens, the, has, ordinary, type_identifier, declared, or, give, stop, refuse, take, bar, peek, when, here, look, set, bring, call, expect, choose, into, made, begins, drops, innermost_of, around}
use Rattle.cr_syntax_machine.specs.Machine.{whole, expression, commas, assignment, conditional, binary, operands, cast, unary, measured, postfix, called, grouped, texts, arguments, suffixes, type_name, row, more, element, structure, members, member, member_declarators, enumeration, enumerators, enumerator, qualifiers, declarator, declarator_suffixes, abstract_suffixes, size, parameters, more_parameters, parameter}
use Rattle.cr_syntax_machine.specs.Machine.{unit, externals, external, declaration, init_declarators, initialized, initializer, initializers, statement, block, if_rest, switch_rest, while_rest, do_rest, for_rest, return_rest, for_clauses, clause, compound, items, item}

-- a table of words and the kinds of node that they make
abbrev pub Words : Type 0
Words = List (Word × Kind)

abbrev pub makes : Word → Kind → Word × Kind
makes w k = (w, k)

-- 6.5.16
abbrev pub assignment_operators : Words
assignment_operators =
    makes word.Equal kind.Assign ∷
    makes word.StarEqual kind.MultiplyAssign ∷
    makes word.SlashEqual kind.DivideAssign ∷
    makes word.PercentEqual kind.RemainderAssign ∷
    makes word.PlusEqual kind.AddAssign ∷
    makes word.MinusEqual kind.SubtractAssign ∷
    makes word.LessLessEqual kind.ShiftLeftAssign ∷
    makes word.GreaterGreaterEqual kind.ShiftRightAssign ∷
    makes word.AmpersandEqual kind.AndAssign ∷
    makes word.CaretEqual kind.XorAssign ∷
    makes word.BarEqual kind.OrAssign ∷
    []

-- the operators of a level (6.5.5 to 6.5.14)
abbrev pub operators : Part → Words
operators part.LogicalOr = makes word.BarBar kind.LogicalOr ∷ []
operators part.LogicalAnd = makes word.AndAnd kind.LogicalAnd ∷ []
operators part.Or = makes word.Bar kind.Or ∷ []
operators part.Xor = makes word.Caret kind.Xor ∷ []
operators part.And = makes word.Ampersand kind.And ∷ []
operators part.Equality = makes word.EqualEqual kind.Equal ∷ makes word.BangEqual kind.NotEqual ∷ []
operators part.Relational = makes word.Less kind.Less ∷ makes word.Greater kind.Greater ∷ makes word.LessEqual kind.LessEqual ∷ makes word.GreaterEqual kind.GreaterEqual ∷ []
operators part.Shift = makes word.LessLess kind.ShiftLeft ∷ makes word.GreaterGreater kind.ShiftRight ∷ []
operators part.Additive = makes word.Plus kind.Add ∷ makes word.Minus kind.Subtract ∷ []
operators part.Multiplicative = makes word.Star kind.Multiply ∷ makes word.Slash kind.Divide ∷ makes word.Percent kind.Remainder ∷ []
operators _ = []

-- the operands of a level
abbrev pub tighter : Part → ℕ → Goal
tighter part.LogicalOr d = binary part.LogicalAnd d
tighter part.LogicalAnd d = binary part.Or d
tighter part.Or d = binary part.Xor d
tighter part.Xor d = binary part.And d
tighter part.And d = binary part.Equality d
tighter part.Equality d = binary part.Relational d
tighter part.Relational d = binary part.Shift d
tighter part.Shift d = binary part.Additive d
tighter part.Additive d = binary part.Multiplicative d
tighter _ d = cast d

-- 6.5.3: operators before a unary expression, and before a cast
abbrev pub unary_prefixes : Words
unary_prefixes = makes word.PlusPlus kind.PreIncrement ∷ makes word.MinusMinus kind.PreDecrement ∷ []

abbrev pub cast_prefixes : Words
cast_prefixes =
    makes word.Ampersand kind.AddressOf ∷
    makes word.Star kind.Dereference ∷
    makes word.Plus kind.Plus ∷
    makes word.Minus kind.Minus ∷
    makes word.Tilde kind.Complement ∷
    makes word.Bang kind.Not ∷
    []

-- 6.5.1, 6.5.2
abbrev pub constants : Words
constants = makes word.Integer kind.Integer ∷ makes word.Character kind.Character ∷ []

abbrev pub postfix_operators : Words
postfix_operators = makes word.PlusPlus kind.PostIncrement ∷ makes word.MinusMinus kind.PostDecrement ∷ []

-- 6.7.2, 6.7.3
abbrev pub plain_words : Words
plain_words =
    makes word.Const kind.Const ∷
    makes word.Volatile kind.Volatile ∷
    makes word.Void kind.Void ∷
    makes word.Char kind.Char ∷
    makes word.Short kind.Short ∷
    makes word.Int kind.Int ∷
    makes word.Long kind.Long ∷
    makes word.Signed kind.Signed ∷
    makes word.Unsigned kind.Unsigned ∷
    makes word.Bool kind.Bool ∷
    []

-- 6.7.1, 6.7.4
abbrev pub storage_words : Words
storage_words =
    makes word.Typedef kind.Typedef ∷
    makes word.Extern kind.Extern ∷
    makes word.Static kind.Static ∷
    makes word.Auto kind.Auto ∷
    makes word.Register kind.Register ∷
    makes word.Inline kind.Inline ∷
    []

-- the words that are a specifier by themselves
abbrev pub specifier_words : Part → Words
specifier_words part.Specifiers = storage_words ++ plain_words
specifier_words _ = plain_words

abbrev pub row_kind : Part → Kind
row_kind part.Specifiers = kind.Specifiers
row_kind _ = kind.PlainSpecifiers

-- a type qualifier (6.7.3)
abbrev pub qualifier : Test
qualifier = or (the word.Const) (the word.Volatile)

-- whether a word begins a plain specifier
abbrev pub is_plain_start : Word → Bool
is_plain_start word.Const = true
is_plain_start word.Volatile = true
is_plain_start word.Void = true
is_plain_start word.Char = true
is_plain_start word.Short = true
is_plain_start word.Int = true
is_plain_start word.Long = true
is_plain_start word.Signed = true
is_plain_start word.Unsigned = true
is_plain_start word.Bool = true
is_plain_start word.Struct = true
is_plain_start word.Enum = true
is_plain_start _ = false

abbrev pub is_specifier_start : Word → Bool
is_specifier_start word.Typedef = true
is_specifier_start word.Extern = true
is_specifier_start word.Static = true
is_specifier_start word.Auto = true
is_specifier_start word.Register = true
is_specifier_start word.Inline = true
is_specifier_start w = is_plain_start w

-- whether a word begins a declarator without a name, and one with or without
abbrev pub is_abstract_start : Word → Bool
is_abstract_start word.Star = true
is_abstract_start word.LeftParen = true
is_abstract_start word.LeftBracket = true
is_abstract_start _ = false

abbrev pub is_declarator_start : Word → Bool
is_declarator_start word.Identifier = true
is_declarator_start w = is_abstract_start w

-- the word behind `(` where a cast or a type name of `sizeof` begins
abbrev pub type_start : Test
type_start = or (has is_plain_start) (type_identifier false)

-- the word that goes on with a row of specifiers, where a type specifier stands before it or doesn't
abbrev pub element_start : Part → Bool → Test
element_start part.Specifiers typed = or (has is_specifier_start) (type_identifier typed)
element_start _ typed = or (has is_plain_start) (type_identifier typed)

-- the word that goes on with a declarator behind a `*`
abbrev pub declarator_start : Wanted → Test
declarator_start unnamed = has is_abstract_start
declarator_start _ = has is_declarator_start

abbrev pub may_name : Wanted → Bool
may_name named = true
may_name unnamed = false
may_name either = true

abbrev pub may_omit : Wanted → Bool
may_omit named = false
may_omit unnamed = true
may_omit either = true

-- the expressions that an assignment operator can stand behind (6.5.3, 6.5.2, 6.5.1)
abbrev pub is_unary_kind : Kind → Bool
is_unary_kind kind.PreIncrement = true
is_unary_kind kind.PreDecrement = true
is_unary_kind kind.AddressOf = true
is_unary_kind kind.Dereference = true
is_unary_kind kind.Plus = true
is_unary_kind kind.Minus = true
is_unary_kind kind.Complement = true
is_unary_kind kind.Not = true
is_unary_kind kind.SizeofExpression = true
is_unary_kind kind.SizeofType = true
is_unary_kind kind.Call = true
is_unary_kind kind.Subscript = true
is_unary_kind kind.Member = true
is_unary_kind kind.PointerMember = true
is_unary_kind kind.PostIncrement = true
is_unary_kind kind.PostDecrement = true
is_unary_kind kind.Identifier = true
is_unary_kind kind.Integer = true
is_unary_kind kind.Character = true
is_unary_kind kind.Text = true
is_unary_kind kind.Group = true
is_unary_kind _ = false

abbrev pub is_unary : Trees → Bool
is_unary none = false
is_unary (node k i j a n) = is_unary_kind k

abbrev pub is_identifier : Trees → Bool
is_identifier (node kind.Identifier i j a n) = true
is_identifier _ = false

-- whether a declarator has a name
abbrev pub is_declarator : Trees → Bool
is_declarator none = false
is_declarator (node k i j a n) = elim (base_of k) [ ItsName ↦ true | InBrackets ↦ true | Derived ↦ true | NoDeclarator ↦ false ]

-- a row of specifiers from token s to before e: one alone makes no node
abbrev pub in_row : Part → ℕ → ℕ → Trees → Trees
in_row p s e (node k i j a none) = node k i j a none
in_row p s e t = one (row_kind p) s e t

-- a list of parameters: `void` alone is none, and one alone makes no node
abbrev pub in_parameters : ℕ → ℕ → Trees → Trees
in_parameters s e (node kind.Void i j a none) = one kind.VoidParameters s e none
in_parameters s e (node k i j a none) = node k i j a none
in_parameters s e t = one kind.Parameters s e t

-- what `expression` reads
abbrev pub start_goal : Part → ℕ → Goal
start_goal part.Expression d = expression d
start_goal part.Assignment d = assignment d
start_goal _ d = conditional d

-- what follows where a declarator has no name in front
abbrev pub array_start : Wanted → ℕ → ℕ → Prog
array_start w d s = when (may_omit w)
    (take opens (the word.LeftBracket) d (call (size d) (λ t. into kind.AbstractArray s t (λ a. call (abstract_suffixes d s a) give))) (stop d))
    (stop d)

-- what follows a declarator in brackets
abbrev pub group_end : ℕ → ℕ → Trees → Prog
group_end d s t = when (is_declarator t)
    (into kind.GroupDeclarator s (t & none) (λ a. call (declarator_suffixes d s a) give))
    (into kind.AbstractGroup s (t & none) (λ a. call (abstract_suffixes d s a) give))

-- what a `*` points to
abbrev pub pointer_end : ℕ → Trees → Prog
pointer_end s t = when (is_declarator t) (made kind.PointerDeclarator s (t & none)) (made kind.AbstractPointer s (t & none))

-- what follows an assignment operator that makes a node of kind k, an operator of a level, a prefix operator
abbrev pub assigned : ℕ → ℕ → Trees → Kind → Prog
assigned d s a k = call (assignment (d + 1)) (λ b. made k s (a & b & none))

abbrev pub operated : Part → ℕ → ℕ → Trees → Kind → Prog
operated p d s a k = call (tighter p d) (λ b. into k s (a & b & none) (λ t. call (operands p d s t) give))

abbrev pub prefixed : Goal → ℕ → Kind → Prog
prefixed g s k = call g (λ a. made k s (a & none))

-- a postfix expression of kind k with these parts, and the suffixes behind it
abbrev pub suffixed : ℕ → ℕ → Trees → Kind → Prog
suffixed d s a k = into k s a (λ t. call (suffixes d s t) give)

-- the rest of the programs of `unary`, `postfix`, `suffixes` and `element`, behind their tables of words
abbrev pub sized : ℕ → ℕ → Prog
sized d s = take opens (the word.Sizeof) d (call (measured d s) give) (call (postfix d) give)

abbrev pub other_primary : ℕ → ℕ → Prog
other_primary d s =
    take plain (the word.Text) d (call (texts d) (λ _. suffixed d s none kind.Text))
    (take opens (the word.LeftParen) d (call (grouped d s) give) (stop d))

abbrev pub suffixes_end : ℕ → Trees → Prog
suffixes_end d a = when (is_identifier a) (give a) (bar (the word.LeftParen) 4 d (give a))

abbrev pub other_element : Context → ℕ → ℕ → Prog
other_element h d s =
    take plain (the word.Struct) d (call (structure d s) give)
    (take plain (the word.Enum) d (call (enumeration d s) give)
    (take plain (type_identifier h.typed) d (made kind.TypedefName s none) (stop d)))

-- what follows a member's declarator: no bit-field, another declarator, or the end of the member
abbrev pub member_end : Context → ℕ → ℕ → Trees → Trees → Prog
member_end h d s a t = bar (the word.Colon) 5 d
    (take plain (the word.Comma) d (call (member_declarators (past_token h) d s (a & t & none)) give)
    (expect plain word.Semicolon d (made kind.MemberDeclaration s (a & t & none))))

-- Declarations and statements.

-- the word with which a declaration begins, where a statement may begin too
abbrev pub declaration_start : Test
declaration_start = element_start part.Specifiers false

-- the words of a designator (6.7.9)
abbrev pub is_designator : Word → Bool
is_designator word.Dot = true
is_designator word.LeftBracket = true
is_designator _ = false

-- the keywords of a switch's labels (6.8.1)
abbrev pub is_label : Word → Bool
is_label word.Case = true
is_label word.Default = true
is_label _ = false

-- the first word of another statement than a block or a label
abbrev pub statement_start : Test
statement_start = has begins_statement

-- the same keywords where a switch's body is wanted
abbrev pub label_start : Test
label_start = or (the word.Case) (the word.Default)

-- whether some token stands there
abbrev pub is_any : Word → Bool
is_any w = true

-- which labels may stand in the parts of a statement, in a block, and in a switch's own block
abbrev pub inside : Labels → Labels
inside anywhere = anywhere
inside _ = nowhere

abbrev pub in_compound : Labels → Labels
in_compound anywhere = anywhere
in_compound _ = in_block

abbrev pub in_switch : Labels → Labels
in_switch anywhere = anywhere
in_switch _ = own_block

-- whether `case` and `default` may label a statement, and whether an identifier may
abbrev pub may_label : Labels → Bool
may_label anywhere = true
may_label own_block = true
may_label _ = false

abbrev pub may_mark : Labels → Bool
may_mark nowhere = false
may_mark _ = true

-- whether a row of specifiers is one typedef name
abbrev pub is_type_name : Trees → Bool
is_type_name (node kind.TypedefName i j a n) = true
is_type_name _ = false

-- whether a function's own parameters end in `...`, and which token that is
abbrev pub ends_variadic : Trees → Bool
ends_variadic (node kind.VariadicParameters i j a n) = true
ends_variadic _ = false

abbrev pub is_variadic : Trees → Bool
is_variadic a = ends_variadic (own_parameters a)

abbrev pub last_token : Trees → ℕ
last_token none = 0
last_token (node k i j a n) = j - 1

-- A function definition may have `...` only where the grammar alone is asked.
abbrev pub may_define : Labels → Trees → Bool
may_define anywhere a = true
may_define _ a = not (is_variadic a)

-- the name of a declarator a enters the scope around that of its own parameters, which ends, or goes on
abbrev pub declares : Context → Trees → Prog → Prog
declares h a p = drops (bring (past_part h a).name (past_part h a).type_name p)

abbrev pub enters : Context → Trees → Prog → Prog
enters h a p = look (λ c. set (around c) (bring (past_part h a).name (past_part h a).type_name (look (λ e. set (innermost_of c ∷ e) p))))

-- the body of a function whose specifiers t and declarator a were read
abbrev pub defined : Labels → ℕ → ℕ → Trees → Trees → Prog
defined l d s t a = when (may_define l a)
    (enters (past_part fresh t) a (call (compound (in_compound l) d) (λ b. drops (made kind.FunctionDefinition s (t & a & b & none)))))
    (refuse (last_token (own_parameters a)) 8)

-- behind a declarator with its initializer: another one, or the end of the declaration
abbrev pub declaration_end : Context → ℕ → ℕ → Trees → Trees → Prog
declaration_end h d s x t =
    take plain (the word.Comma) d (call (init_declarators (past_token h) d s (x & t & none)) give)
    (expect plain word.Semicolon d (made kind.Declaration s (x & t & none)))

-- a declarator a from token q on, in a declaration from token s on: its name enters, and what stands behind it
abbrev pub declared_on : Context → ℕ → ℕ → Trees → ℕ → Trees → Prog
declared_on h d s x q a = declares h a (call (initialized d q a) (λ t. declaration_end h d s x t))

-- an `if` with a condition a and a branch b, at whose end its scope ends
abbrev pub without_else : ℕ → Trees → Trees → Prog
without_else s a b = drops (made kind.If s (a & b & none))

-- an `if` whose condition a and first branch b were read: an `else` that comes is its own, but behind a branch that ends in
-- an `if` without one (6.8.4.1p3)
abbrev pub if_end : Labels → ℕ → ℕ → Trees → Trees → Prog
if_end l d s a b = when (ends_open b) (without_else s a b) (take opens (the word.Else) d
    (call (block (inside l) (d + 1)) (λ c. drops (made kind.If s (a & b & c & none))))
    (without_else s a b))

-- a switch whose controlling expression a was read: its body is a block
abbrev pub switch_body : Labels → ℕ → ℕ → Trees → Prog
switch_body l d s a = bar label_start 6 (d + 1) (bar statement_start 7 (d + 1)
    (begins (call (compound (in_switch l) (d + 1)) (λ b. drops (drops (made kind.Switch s (a & b & none)))))))

-- a `for` whose clauses x were read: its body
abbrev pub for_body : Labels → ℕ → ℕ → Trees → Prog
for_body l d s x = call (block (inside l) (d + 1)) (λ b. drops (made kind.For s (x & b & none)))

-- Behind an identifier, token s: a colon makes it a label, which may stand here or is refused; else p goes on.
abbrev pub marked : Labels → ℕ → ℕ → Prog → Prog
marked l d s p = peek (the word.Colon)
    (when (may_mark l) (expect opens word.Colon d (call (statement l (d + 1)) (λ b. made kind.Label s (b & none)))) (refuse s 9)) p

-- behind the specifiers t of a declaration from token s on
abbrev pub declaration_rest : ℕ → ℕ → Trees → Prog
declaration_rest d s t = take plain (the word.Semicolon) d (made kind.Declaration s (t & none)) (call (init_declarators (past_part fresh t) d s (t & none)) give)

-- behind the expression a of a statement from token s on
abbrev pub expression_rest : ℕ → ℕ → Trees → Prog
expression_rest d s a = expect plain word.Semicolon d (made kind.ExpressionStatement s (a & none))

-- A statement that begins with a name, or an expression. A typedef name can only be a label here, and an identifier that
-- was read as an expression can be one.
abbrev pub named_statement : Labels → ℕ → ℕ → Prog
named_statement l d s = take plain (type_identifier false) d (marked l d s (stop d))
    (call (expression d) (λ a. when (is_identifier a) (marked l d s (expression_rest d s a)) (expression_rest d s a)))

-- a statement with `case` or `default` before it, or another one
abbrev pub labelled : Labels → ℕ → ℕ → Prog → Prog
labelled l d s p =
    take plain (the word.Case) d (call (conditional d) (λ a. expect opens word.Colon d (call (statement l (d + 1)) (λ b. made kind.Case s (a & b & none)))))
    (take plain (the word.Default) d (expect opens word.Colon d (call (statement l (d + 1)) (λ b. made kind.Default s (b & none)))) p)

abbrev pub unlabelled : Labels → ℕ → ℕ → Prog
unlabelled l d s =
    peek (the word.LeftBrace) (call (compound (in_compound l) d) give)
    (take plain (the word.If) d (call (if_rest l d s) give)
    (take plain (the word.Switch) d (call (switch_rest l d s) give)
    (take plain (the word.While) d (call (while_rest l d s) give)
    (take opens (the word.Do) d (call (do_rest l d s) give)
    (take plain (the word.For) d (call (for_rest l d s) give)
    (take plain (the word.Goto) d (expect plain word.Identifier d (expect plain word.Semicolon d (made kind.Goto s none)))
    (take plain (the word.Break) d (expect plain word.Semicolon d (made kind.Break s none))
    (take plain (the word.Continue) d (expect plain word.Semicolon d (made kind.Continue s none))
    (take plain (the word.Return) d (call (return_rest d s) give)
    (take plain (the word.Semicolon) d (made kind.ExpressionStatement s none)
    (named_statement l d s)))))))))))

abbrev pub body : Goal → Prog
body (whole p d) = call (start_goal p d) (λ t. bar (has is_unused) 1 d (give t))
-- 6.5.17
body (expression d) = here (λ s. call (assignment d) (λ a. call (commas d s a) give))
body (commas d s a) = take plain (the word.Comma) d (call (assignment d) (λ b. into kind.Comma s (a & b & none) (λ t. call (commas d s t) give))) (give a)
-- 6.5.16
body (assignment d) = here (λ s. call (conditional d) (λ a. when (is_unary a)
    (choose opens assignment_operators d (assigned d s a) (give a))
    (give a)))
-- 6.5.15
body (conditional d) = here (λ s. call (binary part.LogicalOr d) (λ a.
    take opens (the word.Question) d
    (call (expression (d + 1)) (λ b. expect reopens word.Colon d (call (conditional (d + 1)) (λ c. made kind.Conditional s (a & b & c & none)))))
    (give a)))
-- 6.5.14 to 6.5.5
body (binary p d) = here (λ s. call (tighter p d) (λ a. call (operands p d s a) give))
body (operands p d s a) = choose plain (operators p) d (operated p d s a) (give a)
-- 6.5.4
body (cast d) = here (λ s. take opens (the word.LeftParen) d
    (peek type_start
    (call (type_name (d + 1)) (λ t. expect reopens word.RightParen d (bar (the word.LeftBrace) 3 (d + 1) (call (cast (d + 1)) (λ a. made kind.Cast s (t & a & none))))))
    (call (grouped d s) give))
    (call (unary d) give))
-- 6.5.3
body (unary d) = here (λ s.
    choose opens unary_prefixes d (prefixed (unary (d + 1)) s) (choose opens cast_prefixes d (prefixed (cast (d + 1)) s) (sized d s)))
body (measured d s) = here (λ q. take opens (the word.LeftParen) (d + 1)
    (peek type_start
    (call (type_name (d + 1 + 1)) (λ t. expect plain word.RightParen (d + 1 + 1) (made kind.SizeofType s (t & none))))
    (call (grouped (d + 1) q) (λ a. made kind.SizeofExpression s (a & none))))
    (call (unary (d + 1)) (λ a. made kind.SizeofExpression s (a & none))))
-- 6.5.2, 6.5.1
body (postfix d) = here (λ s.
    take plain ordinary d (call (called d s) give)
    (choose plain constants d (suffixed d s none) (other_primary d s)))
body (called d s) = take opens (the word.LeftParen) d
    (take plain (the word.RightParen) (d + 1)
    (suffixed d s none kind.Call)
    (call (arguments d none) (λ a. suffixed d s a kind.Call)))
    (suffixed d s none kind.Identifier)
body (grouped d s) = call (expression (d + 1)) (λ a. expect plain word.RightParen (d + 1) (suffixed d s (a & none) kind.Group))
body (texts d) = take plain (the word.Text) d (call (texts d) give) (give none)
body (arguments d a) = call (assignment (d + 1)) (λ b.
    take plain (the word.Comma) (d + 1) (call (arguments d (a & b & none)) give) (expect plain word.RightParen (d + 1) (give (a & b & none))))
body (suffixes d s a) =
    take opens (the word.LeftBracket) d
    (call (expression (d + 1)) (λ b. expect plain word.RightBracket (d + 1) (suffixed d s (a & b & none) kind.Subscript)))
    (take plain (the word.Dot) d (expect plain word.Identifier d (suffixed d s (a & none) kind.Member))
    (take plain (the word.Arrow) d (expect plain word.Identifier d (suffixed d s (a & none) kind.PointerMember))
    (choose plain postfix_operators d (suffixed d s (a & none)) (suffixes_end d a))))
-- 6.7.7
body (type_name d) = here (λ s. call (row part.PlainSpecifiers fresh d) (λ t.
    peek (has is_abstract_start) (call (declarator unnamed fresh d) (λ a. made kind.TypeName s (t & a & none))) (give t)))
-- 6.7, 6.7.1 to 6.7.4
body (row p h d) = here (λ s. call (element p h d) (λ t. call (more p (past_part h t) d s (t & none)) give))
body (more p h d s a) = peek (element_start p h.typed)
    (call (element p h d) (λ t. call (more p (past_part h t) d s (a & t & none)) give))
    (here (λ e. give (in_row p s e a)))
body (element p h d) = here (λ s.
    choose plain (specifier_words p) d (λ k. made k s none) (other_element h d s))
-- 6.7.2.1
body (structure d s) = take plain (the word.Identifier) d
    (take opens (the word.LeftBrace) d (call (members d s none) give) (made kind.StructTag s none))
    (expect opens word.LeftBrace d (call (members d s none) give))
body (members d s a) = call (member (d + 1)) (λ t.
    take plain (the word.RightBrace) (d + 1) (made kind.StructContent s (a & t & none)) (call (members d s (a & t & none)) give))
body (member d) = here (λ s. call (row part.PlainSpecifiers fresh d) (λ t. call (member_declarators (past_part fresh t) d s (t & none)) give))
body (member_declarators h d s a) = call (declarator named h d) (λ t. drops (member_end h d s a t))
-- 6.7.2.2
body (enumeration d s) = take plain (the word.Identifier) d
    (take opens (the word.LeftBrace) d (call (enumerators d s none) give) (made kind.EnumTag s none))
    (expect opens word.LeftBrace d (call (enumerators d s none) give))
body (enumerators d s a) = call (enumerator (d + 1)) (λ t.
    take plain (the word.Comma) (d + 1)
    (take plain (the word.RightBrace) (d + 1) (made kind.EnumContent s (a & t & none)) (call (enumerators d s (a & t & none)) give))
    (expect plain word.RightBrace (d + 1) (made kind.EnumContent s (a & t & none))))
body (enumerator d) = here (λ s. expect plain word.Identifier d (take plain (the word.Equal) d
    (call (conditional d) (λ t. bring s false (made kind.Enumerator s (t & none))))
    (bring s false (made kind.Enumerator s none))))
-- 6.7.6, 6.7.7
body (qualifiers d) = take plain qualifier d (call (qualifiers d) give) (give none)
body (declarator w h d) = here (λ s.
    take opens (the word.Star) d
    (call (qualifiers (d + 1)) (λ _. when (may_omit w)
    (peek (declarator_start w) (call (declarator w (past_token h) (d + 1)) (λ t. pointer_end s t)) (made kind.AbstractPointer s none))
    (call (declarator w (past_token h) (d + 1)) (λ t. pointer_end s t))))
    (take opens (the word.LeftParen) d
    (call (declarator w (past_token h) (d + 1)) (λ t. expect plain word.RightParen (d + 1) (group_end d s t)))
    (when (may_name w)
    (take plain (declared h.typed) d (begins (into kind.NameDeclarator s none (λ t. call (declarator_suffixes d s t) give))) (array_start w d s))
    (array_start w d s))))
body (declarator_suffixes d s a) =
    take opens (the word.LeftBracket) d
    (look (λ c. set (around c) (call (size d) (λ t. look (λ e. set (innermost_of c ∷ e)
    (into kind.ArrayDeclarator s (a & t) (λ b. call (declarator_suffixes d s b) give)))))))
    (take opens (the word.LeftParen) d
    (take plain (the word.RightParen) (d + 1)
    (into kind.FunctionDeclarator s (a & none) (λ b. call (declarator_suffixes d s b) give))
    (look (λ c. set ([] ∷ around c) (call (parameters (d + 1)) (λ t. look (λ e. set ((if is_bare a then innermost_of e else innermost_of c) ∷ around e)
    (expect plain word.RightParen (d + 1) (into kind.FunctionDeclarator s (a & t & none) (λ b. call (declarator_suffixes d s b) give)))))))))
    (give a))
body (abstract_suffixes d s a) = take opens (the word.LeftBracket) d
    (call (size d) (λ t. into kind.AbstractArrayOf s (a & t) (λ b. call (abstract_suffixes d s b) give)))
    (give a)
body (size d) = take plain (the word.RightBracket) (d + 1) (give none) (call (conditional (d + 1)) (λ t. expect plain word.RightBracket (d + 1) (give (t & none))))
body (parameters d) = here (λ s. call (parameter d) (λ t. call (more_parameters d s (t & none)) give))
body (more_parameters d s a) = take plain (the word.Comma) d
    (take plain (the word.Ellipsis) d (made kind.VariadicParameters s a) (call (parameter d) (λ t. call (more_parameters d s (a & t & none)) give)))
    (here (λ e. give (in_parameters s e a)))
body (parameter d) = here (λ s. call (row part.Specifiers fresh d) (λ t. peek (has is_declarator_start)
    (call (declarator either (past_part fresh t) d) (λ a. when (is_declarator a)
    (drops (bring (past_part (past_part fresh t) a).name (past_part (past_part fresh t) a).type_name (made kind.Parameter s (t & a & none))))
    (made kind.Parameter s (t & a & none))))
    (give t)))
-- 6.9
body (unit l d) = call (external l d) (λ t. call (externals l d (t & none)) give)
body (externals l d x) = peek (has is_any) (call (external l d) (λ t. call (externals l d (x & t & none)) give)) (give x)
body (external l d) = here (λ s. call (row part.Specifiers fresh d) (λ t.
    take plain (the word.Semicolon) d (made kind.Declaration s (t & none))
    (here (λ q. call (declarator named (past_part fresh t) d) (λ a.
    peek (the word.LeftBrace) (defined l d s t a) (declared_on (past_part fresh t) d s (t & none) q a))))))
-- 6.7
body (declaration d) = here (λ s. call (row part.Specifiers fresh d) (λ t. declaration_rest d s t))
body (init_declarators h d s x) = here (λ q. call (declarator named h d) (λ a. declared_on h d s x q a))
body (initialized d q a) = take plain (the word.Equal) d (call (initializer d) (λ t. made kind.InitDeclarator q (a & t & none))) (give a)
-- 6.7.9
body (initializer d) = here (λ s. bar (has is_designator) 2 d (take opens (the word.LeftBrace) d (call (initializers d s none) give) (call (assignment d) give)))
body (initializers d s x) = call (initializer (d + 1)) (λ t.
    take plain (the word.Comma) (d + 1)
    (take plain (the word.RightBrace) (d + 1) (made kind.InitializerList s (x & t & none)) (call (initializers d s (x & t & none)) give))
    (expect plain word.RightBrace (d + 1) (made kind.InitializerList s (x & t & none))))
-- 6.8, 6.8.1, 6.8.3
body (statement l d) = here (λ s. when (may_label l) (labelled l d s (unlabelled l d s)) (bar (has is_label) 6 d (unlabelled l d s)))
body (block l d) = begins (call (statement l d) (λ t. drops (give t)))
-- 6.8.4
body (if_rest l d s) = begins (expect opens word.LeftParen d (call (expression (d + 1)) (λ a. expect reopens word.RightParen d
    (call (block (inside l) (d + 1)) (λ b. if_end l d s a b)))))
body (switch_rest l d s) = begins (expect opens word.LeftParen d (call (expression (d + 1)) (λ a. expect reopens word.RightParen d (switch_body l d s a))))
-- 6.8.5
body (while_rest l d s) = begins (expect opens word.LeftParen d (call (expression (d + 1)) (λ a. expect reopens word.RightParen d
    (call (block (inside l) (d + 1)) (λ b. drops (made kind.While s (a & b & none)))))))
body (do_rest l d s) = begins (call (block (inside l) (d + 1)) (λ a. expect plain word.While d (expect opens word.LeftParen d (call (expression (d + 1)) (λ b.
    expect plain word.RightParen (d + 1) (expect plain word.Semicolon d (drops (made kind.Do s (a & b & none)))))))))
body (for_rest l d s) = begins (expect opens word.LeftParen d (peek declaration_start
    (call (declaration (d + 1)) (λ t. call (for_clauses l d s (t & none)) give))
    (call (clause (d + 1)) (λ t. call (for_clauses l d s t) give))))
body (for_clauses l d s x) = call (clause (d + 1)) (λ t. take reopens (the word.RightParen) d (for_body l d s (x & t))
    (call (expression (d + 1)) (λ u. expect reopens word.RightParen d (for_body l d s (x & t & u & none)))))
body (clause d) = take plain (the word.Semicolon) d (give none) (call (expression d) (λ t. expect plain word.Semicolon d (give (t & none))))
-- 6.8.6
body (return_rest d s) = take plain (the word.Semicolon) d (made kind.Return s none) (call (expression d) (λ a. expect plain word.Semicolon d (made kind.Return s (a & none))))
-- 6.8.2
body (compound l d) = here (λ s. begins (expect opens word.LeftBrace d (call (items l d s none) (λ t. drops (give t)))))
body (items l d s x) = take plain (the word.RightBrace) (d + 1) (made kind.Compound s x) (call (item l (d + 1)) (λ t. call (items l d s (x & t & none)) give))
body (item l d) = peek declaration_start
    (here (λ s. call (row part.Specifiers fresh d) (λ t. when (is_type_name t) (marked l d s (declaration_rest d s t)) (declaration_rest d s t))))
    (call (statement l d) give)
