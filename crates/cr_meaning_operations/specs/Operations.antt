-- What each node of a typed unit does (C11 6.5, 6.7.9, 6.8), and the program that the unit is.
use Rattle.std.specs.Prelude.{ℕ, zero, suc, ◌+◌, ◌==◌, ℤ, pos, Bool, true, false, not, ◌&&◌, ◌||◌, Option, Some, None, List, [], ◌∷◌, ◌++◌, map, drop, length, codes, slice_get, slice_index_or, slice_range, if◌then◌else◌}
use Rattle.std.specs.List.{flat_map, filter}
use Rattle.std.specs.Str.{bytes_eq}
use Rattle.cr_ints.specs.declared.kind.IntKind.{IntKind}
use Rattle.cr_ints.specs.declared.kind.IntKind.TheVariants.{Int as IntegerKind, Char as CharKind}
use Rattle.cr_ints.specs.Conversions.{convert_of, promote_of, common_of}
use Rattle.cr_memory.specs.declared.value.Element.{Element}
use Rattle.cr_memory.specs.declared.value.Scalar.{Scalar}
use Rattle.cr_memory.specs.declared.value.Scalar.TheVariants as scalar
use Rattle.cr_memory.specs.declared.value.Guard.{Guard}
use Rattle.cr_memory.specs.declared.value.Guard.TheVariants.{Literal}
use Rattle.cr_memory.specs.declared.value.Cell.{Cell}
use Rattle.cr_memory.specs.declared.value.Cell.TheVariants.{Number}
use Rattle.cr_meaning.specs.World.{Program}
use Rattle.cr_meaning.specs.declared.op.Op.{Op}
use Rattle.cr_meaning.specs.declared.op.Access.TheVariants as access
use Rattle.cr_meaning.specs.declared.op.Operator.{Operator}
use Rattle.cr_meaning.specs.declared.op.Operator.TheVariants as operator
use Rattle.cr_meaning.specs.declared.op.Sign.{Sign}
use Rattle.cr_meaning.specs.declared.op.Sign.TheVariants as sign
use Rattle.cr_meaning.specs.declared.op.Relation.{Relation}
use Rattle.cr_meaning.specs.declared.op.Relation.TheVariants as relation
use Rattle.cr_meaning.specs.declared.op.Change.{Change}
use Rattle.cr_meaning.specs.declared.op.Change.TheVariants.{Arithmetic, Move}
use Rattle.cr_meaning.specs.declared.op.Parameter.{Parameter}
use Rattle.cr_meaning.specs.declared.op.Callee.{Callee}
use Rattle.cr_meaning.specs.declared.op.Callee.TheVariants as callee
use Rattle.cr_meaning.specs.declared.op.Line.{Line}
use Rattle.cr_meaning.specs.declared.op.Case.{Case}
use Rattle.cr_meaning.specs.declared.op.Target.{Target}
use Rattle.cr_meaning.specs.declared.op.Work.{Work}
use Rattle.cr_meaning.specs.declared.op.Work.TheVariants as work
use Rattle.cr_meaning.specs.declared.run.Limits.{Limits}
use Rattle.cr_syntax.specs.declared.ctype.CType.TheVariants.{Int, Function}
use Rattle.cr_syntax.specs.declared.node.Kind.{Kind}
use Rattle.cr_syntax.specs.declared.node.Kind.TheVariants as kind
use Rattle.cr_syntax.specs.declared.node.Node.{Node}
pub use Rattle.cr_syntax.specs.Numbered.{first_if, last_if, parts_if, spelling_if}
use Rattle.cr_tokens.specs.declared.token.Token.{Token}
use Rattle.cr_typed.specs.declared.typed.Typed.{Typed}
use Rattle.cr_typed.specs.declared.typed.Put.{Put}
use Rattle.cr_typed.specs.declared.typed.Duration.{Duration}
use Rattle.cr_typed.specs.declared.typed.Duration.TheVariants as duration
use Rattle.cr_check_types.specs.Types.{Qualified, plain, pointer, type_at}
use Rattle.cr_meaning_operations.specs.Shapes.{type_of_node, named_type, value_type, cells_of, kind_in, is_pointer, is_volatile, form_of, access_of, shape_of, members_of, offset_in, number_of, name_in, as_element, pointed_element}

-- ---- nodes

abbrev pub kind_if : Option Node → Kind
kind_if None = kind.Break
kind_if (Some node) = node.kind

abbrev pub kind_at : Typed → ℕ → Kind
kind_at t node = kind_if (slice_get t.nodes node)

abbrev pub parts_at : Typed → ℕ → List ℕ
parts_at t node = parts_if (slice_get t.nodes node)

abbrev pub part_at : Typed → ℕ → ℕ → ℕ
part_at t node number = slice_index_or (parts_at t node) number 0

abbrev pub first_at : Typed → ℕ → ℕ
first_at t node = first_if (slice_get t.nodes node)

abbrev pub last_at : Typed → ℕ → ℕ
last_at t node = last_if (slice_get t.nodes node)

-- a call is spelled like this function
abbrev pub calls : Typed → ℕ → List ℕ → Bool
calls t node name = bytes_eq (spelling_if t.file (slice_get t.tokens (first_at t node))) name

-- the node that declares an entity first
abbrev pub entity_if : Option ℕ → ℕ → ℕ
entity_if None node = node
entity_if (Some first) node = first

abbrev pub entity_of : Typed → ℕ → ℕ
entity_of t node = entity_if (slice_index_or t.refs node None) node

-- ---- declarators (6.7.6): the declared name stands in the first parts

abbrev pub is_name : Kind → Bool
is_name kind.NameDeclarator = true
is_name other = false

abbrev pub name_by : ℕ → Typed → ℕ → ℕ
name_by zero t node = node
name_by (suc more) t node = if is_name (kind_at t node) then node else name_by more t (part_at t node 0)

abbrev pub name_of : Typed → ℕ → ℕ
name_of t node = name_by (length t.nodes) t node

abbrev pub is_automatic_by : Duration → Bool
is_automatic_by duration.Automatic = true
is_automatic_by other = false

abbrev pub is_static_by : Duration → Bool
is_static_by duration.Static = true
is_static_by other = false

abbrev pub is_automatic : Typed → ℕ → Bool
is_automatic t declarator = is_automatic_by (slice_index_or t.durations (name_of t declarator) duration.NoObject)

abbrev pub is_static : Typed → ℕ → Bool
is_static t declarator = is_static_by (slice_index_or t.durations (name_of t declarator) duration.NoObject)

-- behind its specifiers a declaration has its declarators: those of automatic objects have work
abbrev pub declarators_of : Typed → ℕ → List ℕ
declarators_of t declaration = filter (is_automatic t) (drop 1 (parts_at t declaration))

abbrev pub is_declaration : Kind → Bool
is_declaration kind.Declaration = true
is_declaration other = false

-- the automatic objects that are declared among some items
abbrev pub objects_in : Typed → List ℕ → List ℕ
objects_in t items = flat_map (λ item. map (name_of t) (declarators_of t item)) (filter (λ item. is_declaration (kind_at t item)) items)

abbrev pub line_of : Typed → Put → Line
line_of t put = record { cell = put.cell; form = form_of t put.row; user = put.user }

-- ---- expressions (6.5)

abbrev pub node_op : List ℕ → Work → Op
node_op parts work = record { parts = parts; work = work; access = access.Unused }

-- an operator of the operands' common kind (6.3.1.8); a pointer beside an integer moves
abbrev pub change_of : Typed → Operator → Bool → IntKind → Qualified → Qualified → Change
change_of t op back kind (pointer c v below) right = Move back (as_element t below)
change_of t op back kind left (pointer c v below) = Move back (as_element t below)
change_of t op back kind left right = Arithmetic op kind

abbrev pub common_kind : Qualified → Qualified → IntKind
common_kind left right = common_of (kind_in left) (kind_in right)

abbrev pub left_type : Typed → ℕ → Qualified
left_type t node = value_type t (part_at t node 0)

abbrev pub right_type : Typed → ℕ → Qualified
right_type t node = value_type t (part_at t node 1)

abbrev pub integers : Typed → ℕ → Operator → Op
integers t node op = node_op (parts_at t node) (work.Binary (Arithmetic op (common_kind (left_type t node) (right_type t node))))

-- the operands of a shift are promoted, each by itself (6.5.7p3)
abbrev pub shift : Typed → ℕ → Operator → Op
shift t node op = node_op (parts_at t node) (work.Binary (Arithmetic op (promote_of (kind_in (left_type t node)))))

abbrev pub sum : Typed → ℕ → Op
sum t node = node_op (parts_at t node) (work.Binary (change_of t operator.Add false (common_kind (left_type t node) (right_type t node)) (left_type t node) (right_type t node)))

abbrev pub difference : Typed → ℕ → Op
difference t node =
    if is_pointer (left_type t node) && is_pointer (right_type t node)
    then node_op (parts_at t node) (work.Distance (pointed_element t (left_type t node)))
    else node_op (parts_at t node) (work.Binary (change_of t operator.Subtract true (common_kind (left_type t node) (right_type t node)) (left_type t node) (right_type t node)))

abbrev pub comparison : Typed → ℕ → Relation → Op
comparison t node relation =
    if is_pointer (left_type t node) || is_pointer (right_type t node)
    then node_op (parts_at t node) (work.ComparePointers relation)
    else node_op (parts_at t node) (work.Compare relation (common_kind (left_type t node) (right_type t node)))

-- the left operand's type, which an assignment writes
abbrev pub left_row : Typed → ℕ → ℕ
left_row t node = slice_index_or t.types (part_at t node 0) 0

abbrev pub update : Typed → ℕ → Change → Bool → Op
update t node change post = node_op (parts_at t node) (work.Update change (form_of t (left_row t node)) (is_volatile (type_of_node t (part_at t node 0))) post)

abbrev pub updated_integers : Typed → ℕ → Operator → Op
updated_integers t node op = update t node (Arithmetic op (common_kind (left_type t node) (right_type t node))) false

abbrev pub updated_shift : Typed → ℕ → Operator → Op
updated_shift t node op = update t node (Arithmetic op (promote_of (kind_in (left_type t node)))) false

abbrev pub updated_sum : Typed → ℕ → Operator → Bool → Op
updated_sum t node op back = update t node (change_of t op back (common_kind (left_type t node) (right_type t node)) (left_type t node) (right_type t node)) false

-- `++E` is `E += 1` (6.5.3.1p2)
abbrev pub increment : Typed → ℕ → Operator → Bool → Bool → Op
increment t node op back post =
    update t node (change_of t op back (common_of (kind_in (left_type t node)) IntegerKind) (left_type t node) (plain (Int IntegerKind) false false)) post

abbrev pub unary : Typed → ℕ → Sign → Op
unary t node sign = node_op (parts_at t node) (work.Unary sign (promote_of (kind_in (left_type t node))))

-- a node that may give a place
abbrev pub placed : Typed → ℕ → List ℕ → Work → Op
placed t node parts work = record { parts = parts; work = work; access = access_of t node }

-- `&*E` is E, and `&E1[E2]` is the sum of both (6.5.3.2p3)
abbrev pub either_element : Typed → Qualified → Qualified → Element
either_element t (pointer c v below) right = as_element t below
either_element t left right = pointed_element t right

abbrev pub address_by : Typed → ℕ → ℕ → Kind → Op
address_by t node operand kind.Dereference = node_op (parts_at t operand) work.Pass
address_by t node operand kind.Subscript = node_op (parts_at t operand) (work.Binary (Move false (either_element t (left_type t operand) (right_type t operand))))
address_by t node operand other = node_op (parts_at t node) work.AddressOf

abbrev pub pointed : Qualified → Qualified
pointed (pointer c v below) = below
pointed type = type

abbrev pub chosen_row : Typed → ℕ → Qualified → ℕ
chosen_row t node structure = slice_index_or (members_of t structure) (slice_index_or t.chosen node 0) 0

abbrev pub member : Typed → ℕ → Qualified → Op
member t node structure = placed t node (parts_at t node)
    (work.Member (cells_of t structure) (offset_in t structure (slice_index_or t.chosen node 0)) (as_element t (type_at t.shapes (chosen_row t node structure))) (form_of t (chosen_row t node structure)))

abbrev pub pointer_member : Typed → ℕ → Qualified → Op
pointer_member t node structure = placed t node (parts_at t node)
    (work.PointerMember (as_element t structure) (offset_in t structure (slice_index_or t.chosen node 0)) (as_element t (type_at t.shapes (chosen_row t node structure))))

-- a constant of the expression's type
abbrev pub constant_by : Typed → ℕ → Option ℤ → Op
constant_by t node None = node_op [] (work.Constant (kind_in (type_of_node t node)) (pos 0))
constant_by t node (Some value) = node_op [] (work.Constant (kind_in (type_of_node t node)) value)

abbrev pub constant : Typed → ℕ → Op
constant t node = constant_by t node (slice_index_or t.constants node None)

abbrev pub identifier_by : Typed → ℕ → Option ℤ → Op
identifier_by t node None = placed t node [] (work.Object (entity_of t node) (name_in t (named_type t (entity_of t node))))
identifier_by t node (Some value) = constant_by t node (Some value)

-- ---- calls (6.5.2.2)

abbrev pub function_in : Qualified → ℕ
function_in (plain (Function node) c v) = node
function_in type = 0

abbrev pub parameter_of : Typed → ℕ → Parameter
parameter_of t node = record { node = node; form = form_of t (slice_index_or t.named node 0) }

abbrev pub function_of : Typed → ℕ → Callee
function_of t definition =
    callee.Function (map (parameter_of t) (slice_index_or t.parameters definition [])) (part_at t definition 2) (definition == t.main)

-- a pointer to char, also to a const one; a volatile one isn't what `%s` may read (6.7.3p6)
abbrev pub is_text : Qualified → Bool
is_text (pointer c v (plain (Int CharKind) d w)) = not w
is_text type = false

abbrev pub callee_of : Typed → ℕ → Callee
callee_of t node =
    if calls t node (codes "printf") then callee.Printf (map (λ part. is_text (value_type t part)) (drop 1 (parts_at t node)))
    else (if calls t node (codes "putchar") then callee.Putchar
    else (if calls t node (codes "exit") then callee.Exit
    else (if calls t node (codes "abort") then callee.Abort
    else function_of t (function_in (named_type t (entity_of t node))))))

-- ---- statements (6.8)

-- the part that begins at a token
abbrev pub part_from : Typed → List ℕ → ℕ → Option ℕ
part_from t [] token = None
part_from t (part ∷ parts) token = if first_at t part == token then Some part else part_from t parts token

-- the token of the `;` behind a clause that begins at a token: a declaration has it itself
abbrev pub clause_end : Typed → ℕ → Option ℕ → ℕ
clause_end t token None = token
clause_end t token (Some part) = if is_declaration (kind_at t part) then last_at t part else last_at t part + 1

abbrev pub clause_objects : Typed → Option ℕ → List ℕ
clause_objects t None = []
clause_objects t (Some part) = objects_in t (part ∷ [])

abbrev pub last_part : List ℕ → ℕ
last_part [] = 0
last_part (part ∷ []) = part
last_part (part ∷ next ∷ parts) = last_part (next ∷ parts)

-- a step stands before the `)`, so it is no body
abbrev pub unless_body : ℕ → Option ℕ → Option ℕ
unless_body body None = None
unless_body body (Some part) = if part == body then None else Some part

abbrev pub for_by : Typed → List ℕ → ℕ → Option ℕ → Work
for_by t parts token first =
    let second : Option ℕ = part_from t parts (clause_end t token first + 1) in
    work.For (clause_objects t first) first second
    (unless_body (last_part parts) (part_from t parts (clause_end t (clause_end t token first + 1) second + 1))) (last_part parts)

abbrev pub for_of : Typed → ℕ → Op
for_of t node = node_op [] (for_by t (parts_at t node) (first_at t node + 2) (part_from t (parts_at t node) (first_at t node + 2)))

-- the labels before an item
abbrev pub value_or : Option ℤ → ℤ
value_or None = pos 0
value_or (Some value) = value

abbrev pub is_case : Kind → Bool
is_case kind.Case = true
is_case other = false

abbrev pub is_default : Kind → Bool
is_default kind.Default = true
is_default other = false

abbrev pub is_mark : Kind → Bool
is_mark kind.Label = true
is_mark other = false

abbrev pub labelled : Typed → ℕ → ℕ
labelled t node = if is_case (kind_at t node) then part_at t node 1 else part_at t node 0

abbrev pub cases_by : ℕ → Typed → ℕ → List ℤ
cases_by zero t node = []
cases_by (suc more) t node =
    if is_case (kind_at t node) then value_or (slice_index_or t.constants (part_at t node 0) None) ∷ cases_by more t (labelled t node)
    else (if is_default (kind_at t node) || is_mark (kind_at t node) then cases_by more t (labelled t node) else [])

abbrev pub has_default_by : ℕ → Typed → ℕ → Bool
has_default_by zero t node = false
has_default_by (suc more) t node =
    if is_default (kind_at t node) then true else (if is_case (kind_at t node) || is_mark (kind_at t node) then has_default_by more t (labelled t node) else false)

abbrev pub case_of : ℕ → ℤ → Case
case_of item value = record { constant = value; item = item }

-- the cases of a switch's items, from a number on, and the first item with `default`
abbrev pub cases_from : Typed → ℕ → List ℕ → List Case
cases_from t number [] = []
cases_from t number (item ∷ items) = map (case_of number) (cases_by (length t.nodes) t item) ++ cases_from t (suc number) items

abbrev pub default_from : Typed → ℕ → List ℕ → Option ℕ
default_from t number [] = None
default_from t number (item ∷ items) = if has_default_by (length t.nodes) t item then Some number else default_from t (suc number) items

-- the identifiers that label an item, as nodes, and those of a block's items, from a number on
abbrev pub marks_by : ℕ → Typed → ℕ → List ℕ
marks_by zero t node = []
marks_by (suc more) t node =
    if is_mark (kind_at t node) then node ∷ marks_by more t (labelled t node)
    else (if is_case (kind_at t node) || is_default (kind_at t node) then marks_by more t (labelled t node) else [])

abbrev pub target_of : ℕ → ℕ → Target
target_of item label = record { label = label; item = item }

abbrev pub targets_from : Typed → ℕ → List ℕ → List Target
targets_from t number [] = []
targets_from t number (item ∷ items) = map (target_of number) (marks_by (length t.nodes) t item) ++ targets_from t (suc number) items

abbrev pub switch_of : Typed → ℕ → ℕ → List ℕ → Op
switch_of t node body items = node_op (part_at t node 0 ∷ items)
    (work.Switch (promote_of (kind_in (left_type t node))) body (objects_in t items) (cases_from t 0 items) (default_from t 0 items) (targets_from t 0 items))

-- ---- all nodes

abbrev pub op_by : Typed → ℕ → Kind → Op
op_by t node kind.Comma = node_op (parts_at t node) work.Comma
op_by t node kind.Assign = node_op (parts_at t node) (work.Assign (form_of t (left_row t node)))
op_by t node kind.MultiplyAssign = updated_integers t node operator.Multiply
op_by t node kind.DivideAssign = updated_integers t node operator.Divide
op_by t node kind.RemainderAssign = updated_integers t node operator.Remainder
op_by t node kind.AddAssign = updated_sum t node operator.Add false
op_by t node kind.SubtractAssign = updated_sum t node operator.Subtract true
op_by t node kind.ShiftLeftAssign = updated_shift t node operator.ShiftLeft
op_by t node kind.ShiftRightAssign = updated_shift t node operator.ShiftRight
op_by t node kind.AndAssign = updated_integers t node operator.And
op_by t node kind.XorAssign = updated_integers t node operator.Xor
op_by t node kind.OrAssign = updated_integers t node operator.Or
op_by t node kind.Conditional = node_op (parts_at t node) (work.Conditional (form_of t (slice_index_or t.types node 0)))
op_by t node kind.LogicalOr = node_op (parts_at t node) work.LogicalOr
op_by t node kind.LogicalAnd = node_op (parts_at t node) work.LogicalAnd
op_by t node kind.Or = integers t node operator.Or
op_by t node kind.Xor = integers t node operator.Xor
op_by t node kind.And = integers t node operator.And
op_by t node kind.Equal = comparison t node relation.Equal
op_by t node kind.NotEqual = comparison t node relation.NotEqual
op_by t node kind.Less = comparison t node relation.Less
op_by t node kind.Greater = comparison t node relation.Greater
op_by t node kind.LessEqual = comparison t node relation.LessEqual
op_by t node kind.GreaterEqual = comparison t node relation.GreaterEqual
op_by t node kind.ShiftLeft = shift t node operator.ShiftLeft
op_by t node kind.ShiftRight = shift t node operator.ShiftRight
op_by t node kind.Add = sum t node
op_by t node kind.Subtract = difference t node
op_by t node kind.Multiply = integers t node operator.Multiply
op_by t node kind.Divide = integers t node operator.Divide
op_by t node kind.Remainder = integers t node operator.Remainder
op_by t node kind.Cast = node_op (part_at t node 1 ∷ []) (work.Cast (form_of t (slice_index_or t.named node 0)))
op_by t node kind.PreIncrement = increment t node operator.Add false false
op_by t node kind.PreDecrement = increment t node operator.Subtract true false
op_by t node kind.AddressOf = address_by t node (part_at t node 0) (kind_at t (part_at t node 0))
op_by t node kind.Dereference = placed t node (parts_at t node) (work.Dereference (pointed_element t (left_type t node)))
op_by t node kind.Plus = unary t node sign.Plus
op_by t node kind.Minus = unary t node sign.Minus
op_by t node kind.Complement = unary t node sign.Complement
op_by t node kind.Not = node_op (parts_at t node) work.Not
op_by t node kind.SizeofExpression = constant t node
op_by t node kind.SizeofType = constant t node
op_by t node kind.Call = node_op (parts_at t node) (work.Call (callee_of t node))
op_by t node kind.Subscript = placed t node (parts_at t node) (work.Subscript (either_element t (left_type t node) (right_type t node)))
op_by t node kind.Member = member t node (type_of_node t (part_at t node 0))
op_by t node kind.PointerMember = pointer_member t node (pointed (left_type t node))
op_by t node kind.PostIncrement = increment t node operator.Add false true
op_by t node kind.PostDecrement = increment t node operator.Subtract true true
op_by t node kind.Identifier = identifier_by t node (slice_index_or t.constants node None)
op_by t node kind.Integer = constant t node
op_by t node kind.Character = constant t node
op_by t node kind.Text = placed t node [] (work.Object node (name_in t (type_of_node t node)))
op_by t node kind.Group = placed t node (parts_at t node) work.Pass
op_by t node kind.Compound = node_op (parts_at t node) (work.Block (objects_in t (parts_at t node)) (targets_from t 0 (parts_at t node)))
op_by t node kind.ExpressionStatement = node_op (parts_at t node) work.Expression
op_by t node kind.If = node_op (parts_at t node) work.If
op_by t node kind.Switch = switch_of t node (part_at t node 1) (parts_at t (part_at t node 1))
op_by t node kind.While = node_op (parts_at t node) work.While
op_by t node kind.Do = node_op (parts_at t node) work.Do
op_by t node kind.For = for_of t node
op_by t node kind.Label = node_op (labelled t node ∷ []) work.Labelled
op_by t node kind.Case = node_op (labelled t node ∷ []) work.Labelled
op_by t node kind.Default = node_op (labelled t node ∷ []) work.Labelled
op_by t node kind.Goto = node_op [] (work.Goto (entity_of t node))
op_by t node kind.Break = node_op [] work.Break
op_by t node kind.Continue = node_op [] work.Continue
op_by t node kind.Return = node_op (parts_at t node) (work.Return (form_of t (slice_index_or t.named node 0)))
op_by t node kind.InitDeclarator =
    node_op (map (λ put. put.node) (slice_index_or t.plans node [])) (work.Initialise (entity_of t (name_of t node)) (map (line_of t) (slice_index_or t.plans node [])))
op_by t node kind.Declaration = node_op (declarators_of t node) work.Declaration
op_by t node kind.NameDeclarator = node_op [] (work.Declare node)
op_by t node kind.PointerDeclarator = node_op [] (work.Declare (name_of t node))
op_by t node kind.GroupDeclarator = node_op [] (work.Declare (name_of t node))
op_by t node kind.ArrayDeclarator = node_op [] (work.Declare (name_of t node))
op_by t node other = node_op [] work.Declaration

abbrev pub op_of : Typed → ℕ → Op
op_of t node = op_by t node (kind_at t node)

-- ---- the program

abbrev pub ops_from : Typed → ℕ → List Node → List Op
ops_from t number [] = []
ops_from t number (node ∷ nodes) = op_of t number ∷ ops_from t (suc number) nodes

-- the nodes of which a test holds, in order
abbrev pub nodes_from : (ℕ → Kind → Bool) → ℕ → List Node → List ℕ
nodes_from test number [] = []
nodes_from test number (node ∷ nodes) = if test number node.kind then number ∷ nodes_from test (suc number) nodes else nodes_from test (suc number) nodes

-- an object of static duration at its first declaration, or a literal; the order of the nodes is taken for that of their tokens
abbrev pub is_lasting : Typed → ℕ → Kind → Bool
is_lasting t node kind.Text = true
is_lasting t node kind.NameDeclarator = is_static t node && (entity_of t node == node)
is_lasting t node other = false

abbrev pub is_static_initialiser : Typed → ℕ → Kind → Bool
is_static_initialiser t node kind.InitDeclarator = is_static t node
is_static_initialiser t node other = false

-- what the second parameter of main points to
abbrev pub strings_of : Typed → List ℕ → Scalar
strings_of t (count ∷ vector ∷ []) = scalar.Pointer (number_of t (pointed (pointed (named_type t vector))))
strings_of t other = scalar.Pointer 0

abbrev pub unit_op : Typed → Op
unit_op t = node_op (nodes_from (is_static_initialiser t) 0 t.nodes)
    (work.Program (nodes_from (is_lasting t) 0 t.nodes) (map (parameter_of t) (slice_index_or t.parameters t.main []))
    (strings_of t (slice_index_or t.parameters t.main [])) (part_at t t.main 2))

-- a literal's bytes as values of char (6.4.5p6), which is signed
abbrev pub byte_cell : ℕ → Cell
byte_cell byte = Number (convert_of (pos byte) CharKind)

abbrev pub literal_by : Typed → ℕ → Kind → Option (List Cell)
literal_by t node kind.Text = Some (map byte_cell (slice_index_or t.texts node []))
literal_by t node other = None

abbrev pub object_shape : Typed → ℕ → Kind → List (Scalar × Guard)
object_shape t node kind.Text = map (λ byte. (scalar.Int CharKind, Literal)) (slice_index_or t.texts node [])
object_shape t node other = shape_of t (named_type t node)

abbrev pub program_of : Typed → Limits → Program
program_of t limits = record {
  ops = ops_from t 0 t.nodes ++ unit_op t ∷ [];
  shape = λ node. object_shape t node (kind_at t node);
  literal = λ node. literal_by t node (kind_at t node);
  kinds = λ row. map (λ own. own.0) (shape_of t (type_at t.shapes row));
  limits = limits;
}
