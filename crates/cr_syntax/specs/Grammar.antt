-- The grammar's alternatives, one constructor each, in the order of C11 Annex A.
--
-- An alternative says what it is an alternative of, which kind of node it makes, and its right side. In a right side
-- `token w` is a token, `opening w` one that opens a level of nesting, `closing w` one that closes a level, `reopening w`
-- one that closes a level and opens another, `part P` a part. The words `inner` and `innermost` say that one or two levels
-- of the node are open there. The other symbols are those of `Symbol`, and `Spells` says what each of them means.
use Rattle.std.specs.Prelude.{List, [], ◌∷◌}
use Rattle.cr_syntax.specs.declared.word.Word.{Word}
use Rattle.cr_syntax.specs.declared.word.Word.TheVariants as word
use Rattle.cr_syntax.specs.declared.node.Kind.{Kind}
use Rattle.cr_syntax.specs.declared.node.Kind.TheVariants as kind
use Rattle.cr_syntax.specs.Symbols.{Outer, Inner, Innermost}
use Rattle.cr_syntax.specs.declared.part.Part.{Part}
use Rattle.cr_syntax.specs.declared.part.Part.TheVariants.{External, Declaration, InitDeclarator, Initializer, Specifiers, Specifier, PlainSpecifiers, Plain, MemberDeclaration, MemberDeclarator, Enumerator, Declarator, DirectDeclarator, Parameters, Parameter, ParameterDeclarator, Abstract, DirectAbstract, TypeName, BlockItem, Statement, Compound, Expression, Assignment, Conditional, LogicalOr, LogicalAnd, Or, Xor, And, Equality, Relational, Shift, Additive, Multiplicative, Cast, Unary, Postfix, Primary}
use Rattle.cr_syntax.specs.Symbols.{Symbol}
use Rattle.cr_syntax.specs.Symbols as symbol

abbrev pub token : Word → Symbol
token w = symbol.Token Outer w

abbrev pub closing : Word → Symbol
closing w = symbol.Token Inner w

abbrev pub inner_closing : Word → Symbol
inner_closing w = symbol.Token Innermost w

abbrev pub opening : Word → Symbol
opening w = symbol.Opens Outer w

abbrev pub inner_opening : Word → Symbol
inner_opening w = symbol.Opens Inner w

abbrev pub reopening : Word → Symbol
reopening w = symbol.Reopens w

abbrev pub part : Part → Symbol
part p = symbol.Part Outer p

abbrev pub inner : Part → Symbol
inner p = symbol.Part Inner p

abbrev pub innermost : Part → Symbol
innermost p = symbol.Part Innermost p

abbrev pub optional : Part → Symbol
optional p = symbol.Optional Outer p

abbrev pub inner_optional : Part → Symbol
inner_optional p = symbol.Optional Inner p

abbrev pub many : Part → Symbol
many p = symbol.Many Outer p

abbrev pub inner_many : Part → Symbol
inner_many p = symbol.Many Inner p

abbrev pub list : Part → Symbol
list p = symbol.List Outer p

abbrev pub inner_list : Part → Symbol
inner_list p = symbol.List Inner p

abbrev pub optional_list : Part → Symbol
optional_list p = symbol.OptionalList Outer p

abbrev pub inner_optional_list : Part → Symbol
inner_optional_list p = symbol.OptionalList Inner p

abbrev pub Side : Type 0
Side = List Symbol

-- a left operand, an operator and a right operand that binds tighter
abbrev pub binary : Part → Word → Part → Side
binary left w right = part left ∷ token w ∷ part right ∷ []

-- an operator before its operand
abbrev pub prefix : Word → Part → Side
prefix w operand = opening w ∷ inner operand ∷ []

abbrev pub assignment_by : Word → Side
assignment_by w = part Unary ∷ opening w ∷ inner Assignment ∷ []

-- Alternative p k s: a node of kind k, whose right side is s, is an alternative of p.
pub data Alternative : Part → Kind → Side → Type 0 where
  -- 6.9 External definitions
  function_definition : Alternative External kind.FunctionDefinition (part Specifiers ∷ part Declarator ∷ symbol.Enters ∷ part Compound ∷ symbol.Ends ∷ [])
  -- 6.7 Declarations
  declaration : Alternative Declaration kind.Declaration (part Specifiers ∷ optional_list InitDeclarator ∷ token word.Semicolon ∷ [])
  init_declarator : Alternative InitDeclarator kind.InitDeclarator (part Declarator ∷ symbol.Enters ∷ symbol.Ends ∷ token word.Equal ∷ part Initializer ∷ [])
  -- 6.7.9
  initializer_list : Alternative Initializer kind.InitializerList (opening word.LeftBrace ∷ inner_list Initializer ∷ symbol.TrailingComma ∷ [])
  -- 6.7.1 Storage-class specifiers, 6.7.4 function specifiers
  declaration_specifiers : Alternative Specifiers kind.Specifiers (part Specifier ∷ part Specifier ∷ many Specifier ∷ [])
  specifier_typedef : Alternative Specifier kind.Typedef (token word.Typedef ∷ [])
  specifier_extern : Alternative Specifier kind.Extern (token word.Extern ∷ [])
  specifier_static : Alternative Specifier kind.Static (token word.Static ∷ [])
  specifier_auto : Alternative Specifier kind.Auto (token word.Auto ∷ [])
  specifier_register : Alternative Specifier kind.Register (token word.Register ∷ [])
  specifier_inline : Alternative Specifier kind.Inline (token word.Inline ∷ [])
  -- 6.7.2 Type specifiers, 6.7.3 type qualifiers
  specifier_qualifier_list : Alternative PlainSpecifiers kind.PlainSpecifiers (part Plain ∷ part Plain ∷ many Plain ∷ [])
  qualifier_const : Alternative Plain kind.Const (token word.Const ∷ [])
  qualifier_volatile : Alternative Plain kind.Volatile (token word.Volatile ∷ [])
  type_void : Alternative Plain kind.Void (token word.Void ∷ [])
  type_char : Alternative Plain kind.Char (token word.Char ∷ [])
  type_short : Alternative Plain kind.Short (token word.Short ∷ [])
  type_int : Alternative Plain kind.Int (token word.Int ∷ [])
  type_long : Alternative Plain kind.Long (token word.Long ∷ [])
  type_signed : Alternative Plain kind.Signed (token word.Signed ∷ [])
  type_unsigned : Alternative Plain kind.Unsigned (token word.Unsigned ∷ [])
  type_bool : Alternative Plain kind.Bool (token word.Bool ∷ [])
  -- 6.7.8
  typedef_name : Alternative Plain kind.TypedefName (symbol.TypeIdentifier ∷ [])
  -- 6.7.2.1 Structures
  struct_content : Alternative Plain kind.StructContent (token word.Struct ∷ symbol.Tag ∷ inner MemberDeclaration ∷ inner_many MemberDeclaration ∷ closing word.RightBrace ∷ [])
  struct_tag : Alternative Plain kind.StructTag (token word.Struct ∷ token word.Identifier ∷ [])
  struct_declaration : Alternative MemberDeclaration kind.MemberDeclaration (part PlainSpecifiers ∷ list MemberDeclarator ∷ token word.Semicolon ∷ [])
  -- 6.7.2.2 Enumerations
  enum_content : Alternative Plain kind.EnumContent (token word.Enum ∷ symbol.Tag ∷ inner_list Enumerator ∷ symbol.TrailingComma ∷ [])
  enum_tag : Alternative Plain kind.EnumTag (token word.Enum ∷ token word.Identifier ∷ [])
  enumerator : Alternative Enumerator kind.Enumerator (symbol.Enumerates ∷ symbol.Value ∷ [])
  -- 6.7.6 Declarators
  pointer_declarator : Alternative Declarator kind.PointerDeclarator (opening word.Star ∷ symbol.Qualified Declarator ∷ [])
  name_declarator : Alternative DirectDeclarator kind.NameDeclarator (symbol.Declared ∷ [])
  group_declarator : Alternative DirectDeclarator kind.GroupDeclarator (opening word.LeftParen ∷ inner Declarator ∷ closing word.RightParen ∷ [])
  array_declarator : Alternative DirectDeclarator kind.ArrayDeclarator (part DirectDeclarator ∷ opening word.LeftBracket ∷ symbol.Size ∷ closing word.RightBracket ∷ [])
  function_declarator : Alternative DirectDeclarator kind.FunctionDeclarator (part DirectDeclarator ∷ opening word.LeftParen ∷ symbol.Prototype ∷ closing word.RightParen ∷ [])
  void_parameters : Alternative Parameters kind.VoidParameters (token word.Void ∷ [])
  parameter_list : Alternative Parameters kind.Parameters (part Parameter ∷ token word.Comma ∷ list Parameter ∷ [])
  variadic_parameters : Alternative Parameters kind.VariadicParameters (list Parameter ∷ token word.Comma ∷ token word.Ellipsis ∷ [])
  parameter_declaration : Alternative Parameter kind.Parameter (part Specifiers ∷ part ParameterDeclarator ∷ [])
  -- 6.7.7 Type names
  abstract_pointer : Alternative Abstract kind.AbstractPointer (opening word.Star ∷ symbol.OptionalQualified Abstract ∷ [])
  abstract_group : Alternative DirectAbstract kind.AbstractGroup (opening word.LeftParen ∷ inner Abstract ∷ closing word.RightParen ∷ [])
  abstract_array : Alternative DirectAbstract kind.AbstractArray (opening word.LeftBracket ∷ inner_optional Conditional ∷ closing word.RightBracket ∷ [])
  abstract_array_of : Alternative DirectAbstract kind.AbstractArrayOf (part DirectAbstract ∷ opening word.LeftBracket ∷ inner_optional Conditional ∷ closing word.RightBracket ∷ [])
  type_name : Alternative TypeName kind.TypeName (part PlainSpecifiers ∷ part Abstract ∷ [])
  -- 6.8.2 Compound statement, 6.8.3 expression and null statements
  compound_statement : Alternative Compound kind.Compound (symbol.Begins ∷ opening word.LeftBrace ∷ inner_many BlockItem ∷ closing word.RightBrace ∷ symbol.Ends ∷ [])
  expression_statement : Alternative Statement kind.ExpressionStatement (optional Expression ∷ token word.Semicolon ∷ [])
  -- 6.8.4 Selection statements: each is a block, and so are the statements in it
  if_statement : Alternative Statement kind.If (symbol.Begins ∷ token word.If ∷ opening word.LeftParen ∷ inner Expression ∷ reopening word.RightParen ∷ symbol.Begins ∷ inner Statement ∷ symbol.Ends ∷ symbol.Else ∷ symbol.Ends ∷ [])
  switch_statement : Alternative Statement kind.Switch (symbol.Begins ∷ token word.Switch ∷ opening word.LeftParen ∷ inner Expression ∷ reopening word.RightParen ∷ symbol.Begins ∷ inner Compound ∷ symbol.Ends ∷ symbol.Ends ∷ [])
  -- 6.8.5 Iteration statements: likewise
  while_statement : Alternative Statement kind.While (symbol.Begins ∷ token word.While ∷ opening word.LeftParen ∷ inner Expression ∷ reopening word.RightParen ∷ symbol.Begins ∷ inner Statement ∷ symbol.Ends ∷ symbol.Ends ∷ [])
  do_statement : Alternative Statement kind.Do (symbol.Begins ∷ opening word.Do ∷ symbol.Begins ∷ inner Statement ∷ symbol.Ends ∷ token word.While ∷ opening word.LeftParen ∷ inner Expression ∷ closing word.RightParen ∷ token word.Semicolon ∷ symbol.Ends ∷ [])
  for_statement : Alternative Statement kind.For (symbol.Begins ∷ token word.For ∷ opening word.LeftParen ∷ symbol.Init ∷ symbol.Clause ∷ symbol.Step ∷ symbol.Begins ∷ inner Statement ∷ symbol.Ends ∷ symbol.Ends ∷ [])
  -- 6.8.1 Labeled statements: any identifier directly before the colon is a label, a typedef name too
  labeled_statement : Alternative Statement kind.Label (token word.Identifier ∷ opening word.Colon ∷ inner Statement ∷ [])
  case_statement : Alternative Statement kind.Case (token word.Case ∷ part Conditional ∷ opening word.Colon ∷ inner Statement ∷ [])
  default_statement : Alternative Statement kind.Default (token word.Default ∷ opening word.Colon ∷ inner Statement ∷ [])
  -- 6.8.6 Jump statements
  goto_statement : Alternative Statement kind.Goto (token word.Goto ∷ token word.Identifier ∷ token word.Semicolon ∷ [])
  break_statement : Alternative Statement kind.Break (token word.Break ∷ token word.Semicolon ∷ [])
  continue_statement : Alternative Statement kind.Continue (token word.Continue ∷ token word.Semicolon ∷ [])
  return_statement : Alternative Statement kind.Return (token word.Return ∷ optional Expression ∷ token word.Semicolon ∷ [])
  -- 6.5.17 Comma operator
  comma : Alternative Expression kind.Comma (binary Expression word.Comma Assignment)
  -- 6.5.16 Assignment operators
  assign : Alternative Assignment kind.Assign (assignment_by word.Equal)
  multiply_assign : Alternative Assignment kind.MultiplyAssign (assignment_by word.StarEqual)
  divide_assign : Alternative Assignment kind.DivideAssign (assignment_by word.SlashEqual)
  remainder_assign : Alternative Assignment kind.RemainderAssign (assignment_by word.PercentEqual)
  add_assign : Alternative Assignment kind.AddAssign (assignment_by word.PlusEqual)
  subtract_assign : Alternative Assignment kind.SubtractAssign (assignment_by word.MinusEqual)
  shift_left_assign : Alternative Assignment kind.ShiftLeftAssign (assignment_by word.LessLessEqual)
  shift_right_assign : Alternative Assignment kind.ShiftRightAssign (assignment_by word.GreaterGreaterEqual)
  and_assign : Alternative Assignment kind.AndAssign (assignment_by word.AmpersandEqual)
  xor_assign : Alternative Assignment kind.XorAssign (assignment_by word.CaretEqual)
  or_assign : Alternative Assignment kind.OrAssign (assignment_by word.BarEqual)
  -- 6.5.15 Conditional operator
  conditional : Alternative Conditional kind.Conditional (part LogicalOr ∷ opening word.Question ∷ inner Expression ∷ reopening word.Colon ∷ inner Conditional ∷ [])
  -- 6.5.14 to 6.5.5 Binary operators, from the loosest to the tightest, each left to right
  logical_or : Alternative LogicalOr kind.LogicalOr (binary LogicalOr word.BarBar LogicalAnd)
  logical_and : Alternative LogicalAnd kind.LogicalAnd (binary LogicalAnd word.AndAnd Or)
  inclusive_or : Alternative Or kind.Or (binary Or word.Bar Xor)
  exclusive_or : Alternative Xor kind.Xor (binary Xor word.Caret And)
  and : Alternative And kind.And (binary And word.Ampersand Equality)
  equal : Alternative Equality kind.Equal (binary Equality word.EqualEqual Relational)
  not_equal : Alternative Equality kind.NotEqual (binary Equality word.BangEqual Relational)
  less : Alternative Relational kind.Less (binary Relational word.Less Shift)
  greater : Alternative Relational kind.Greater (binary Relational word.Greater Shift)
  less_equal : Alternative Relational kind.LessEqual (binary Relational word.LessEqual Shift)
  greater_equal : Alternative Relational kind.GreaterEqual (binary Relational word.GreaterEqual Shift)
  shift_left : Alternative Shift kind.ShiftLeft (binary Shift word.LessLess Additive)
  shift_right : Alternative Shift kind.ShiftRight (binary Shift word.GreaterGreater Additive)
  add : Alternative Additive kind.Add (binary Additive word.Plus Multiplicative)
  subtract : Alternative Additive kind.Subtract (binary Additive word.Minus Multiplicative)
  multiply : Alternative Multiplicative kind.Multiply (binary Multiplicative word.Star Cast)
  divide : Alternative Multiplicative kind.Divide (binary Multiplicative word.Slash Cast)
  remainder : Alternative Multiplicative kind.Remainder (binary Multiplicative word.Percent Cast)
  -- 6.5.4 Cast operators
  cast : Alternative Cast kind.Cast (opening word.LeftParen ∷ inner TypeName ∷ reopening word.RightParen ∷ inner Cast ∷ [])
  -- 6.5.3 Unary operators
  pre_increment : Alternative Unary kind.PreIncrement (prefix word.PlusPlus Unary)
  pre_decrement : Alternative Unary kind.PreDecrement (prefix word.MinusMinus Unary)
  address_of : Alternative Unary kind.AddressOf (prefix word.Ampersand Cast)
  dereference : Alternative Unary kind.Dereference (prefix word.Star Cast)
  plus : Alternative Unary kind.Plus (prefix word.Plus Cast)
  minus : Alternative Unary kind.Minus (prefix word.Minus Cast)
  complement : Alternative Unary kind.Complement (prefix word.Tilde Cast)
  logical_not : Alternative Unary kind.Not (prefix word.Bang Cast)
  sizeof_expression : Alternative Unary kind.SizeofExpression (prefix word.Sizeof Unary)
  sizeof_type : Alternative Unary kind.SizeofType (opening word.Sizeof ∷ inner_opening word.LeftParen ∷ innermost TypeName ∷ inner_closing word.RightParen ∷ [])
  -- 6.5.2 Postfix operators
  call : Alternative Postfix kind.Call (symbol.Ordinary ∷ opening word.LeftParen ∷ inner_optional_list Assignment ∷ closing word.RightParen ∷ [])
  subscript : Alternative Postfix kind.Subscript (part Postfix ∷ opening word.LeftBracket ∷ inner Expression ∷ closing word.RightBracket ∷ [])
  member : Alternative Postfix kind.Member (part Postfix ∷ token word.Dot ∷ token word.Identifier ∷ [])
  pointer_member : Alternative Postfix kind.PointerMember (part Postfix ∷ token word.Arrow ∷ token word.Identifier ∷ [])
  post_increment : Alternative Postfix kind.PostIncrement (part Postfix ∷ token word.PlusPlus ∷ [])
  post_decrement : Alternative Postfix kind.PostDecrement (part Postfix ∷ token word.MinusMinus ∷ [])
  -- 6.5.1 Primary expressions
  identifier : Alternative Primary kind.Identifier (symbol.Ordinary ∷ [])
  integer_constant : Alternative Primary kind.Integer (token word.Integer ∷ [])
  character_constant : Alternative Primary kind.Character (token word.Character ∷ [])
  string_literal : Alternative Primary kind.Text (symbol.Texts ∷ [])
  parenthesized : Alternative Primary kind.Group (opening word.LeftParen ∷ inner Expression ∷ closing word.RightParen ∷ [])

-- Chain p q: an alternative of p is q alone, which makes no node of its own.
pub data Chain : Part → Part → Type 0 where
  external_declaration : Chain External Declaration
  initializer_expression : Chain Initializer Assignment
  specifiers_one : Chain Specifiers Specifier
  specifier_plain : Chain Specifier Plain
  plain_one : Chain PlainSpecifiers Plain
  declarator_direct : Chain Declarator DirectDeclarator
  parameters_one : Chain Parameters Parameter
  parameter_unnamed : Chain Parameter Specifiers
  parameter_abstract : Chain ParameterDeclarator Abstract
  abstract_direct : Chain Abstract DirectAbstract
  type_name_plain : Chain TypeName PlainSpecifiers
  item_declaration : Chain BlockItem Declaration
  item_statement : Chain BlockItem Statement
  statement_compound : Chain Statement Compound
  expression_assignment : Chain Expression Assignment
  assignment_conditional : Chain Assignment Conditional
  conditional_binary : Chain Conditional LogicalOr
  binary_14 : Chain LogicalOr LogicalAnd
  binary_13 : Chain LogicalAnd Or
  binary_12 : Chain Or Xor
  binary_11 : Chain Xor And
  binary_10 : Chain And Equality
  binary_9 : Chain Equality Relational
  binary_8 : Chain Relational Shift
  binary_7 : Chain Shift Additive
  binary_6 : Chain Additive Multiplicative
  binary_5 : Chain Multiplicative Cast
  cast_unary : Chain Cast Unary
  unary_postfix : Chain Unary Postfix
  postfix_primary : Chain Postfix Primary
