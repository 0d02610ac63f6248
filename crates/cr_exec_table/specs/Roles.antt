-- What each kind of node asks of the table, in the few ways in which an operation is made.
use Rattle.std.specs.Prelude.{ℕ, ℤ, Bool, true, false, not, ◌&&◌, ◌||◌, Option, Some, None, [], ◌∷◌, map, slice_index_or, if◌then◌else◌}
use Rattle.cr_ints.specs.Conversions.{promote_of, common_of}
use Rattle.cr_ints.specs.declared.kind.IntKind.TheVariants.{Int as IntegerKind, Char as CharKind}
use Rattle.cr_meaning.specs.declared.op.Op.{Op}
use Rattle.cr_meaning.specs.declared.op.Operator.{Operator}
use Rattle.cr_meaning.specs.declared.op.Operator.TheVariants as operator
use Rattle.cr_meaning.specs.declared.op.Sign.TheVariants as sign
use Rattle.cr_meaning.specs.declared.op.Relation.{Relation}
use Rattle.cr_meaning.specs.declared.op.Relation.TheVariants as relation
use Rattle.cr_meaning.specs.declared.op.Change.{Change}
use Rattle.cr_meaning.specs.declared.op.Change.TheVariants.{Arithmetic}
use Rattle.cr_meaning.specs.declared.op.Work.{Work}
use Rattle.cr_meaning.specs.declared.op.Work.TheVariants as work
use Rattle.cr_syntax.specs.declared.ctype.CType.TheVariants.{Int}
use Rattle.cr_syntax.specs.declared.node.Kind.{Kind}
use Rattle.cr_syntax.specs.declared.node.Kind.TheVariants as kind
use Rattle.cr_typed.specs.declared.typed.Typed.{Typed}
use Rattle.cr_check_types.specs.Types.{Qualified, plain, type_at}
use Rattle.cr_meaning_operations.specs.Shapes.{type_of_node, kind_in, is_pointer, is_volatile, form_of, cells_of, offset_in, name_in, as_element, pointed_element}
use Rattle.cr_meaning_operations.specs.Operations.{kind_at, parts_at, part_at, entity_of, name_of, declarators_of, objects_in, line_of, node_op, change_of, common_kind, left_type, right_type, left_row, placed, either_element, address_by, pointed, chosen_row, value_or, identifier_by, op_of, callee_of, for_of, labelled, targets_from, switch_of}
use Rattle.cr_exec_table.specs.declared.role.Role.{Role}
use Rattle.cr_exec_table.specs.declared.role.Role.TheVariants as role
use Rattle.cr_exec_table.specs.declared.role.Duty.{Duty}
use Rattle.cr_exec_table.specs.declared.role.Duty.TheVariants as duty
use Rattle.cr_exec_table.specs.declared.role.Reach.{Reach}
use Rattle.cr_exec_table.specs.declared.role.Reach.TheVariants as reach
use Rattle.cr_exec_table.specs.declared.role.Leaf.{Leaf}
use Rattle.cr_exec_table.specs.declared.role.Leaf.TheVariants as leaf

-- ---- kinds of nodes

-- assignments, `++` and `--`
unfoldable pub assignment_role : Kind → Option Role
assignment_role kind.Assign = Some (role.Worker duty.Assign)
assignment_role kind.MultiplyAssign = Some (role.Worker (duty.UpdatedIntegers operator.Multiply))
assignment_role kind.DivideAssign = Some (role.Worker (duty.UpdatedIntegers operator.Divide))
assignment_role kind.RemainderAssign = Some (role.Worker (duty.UpdatedIntegers operator.Remainder))
assignment_role kind.AddAssign = Some (role.Worker (duty.UpdatedSum operator.Add false))
assignment_role kind.SubtractAssign = Some (role.Worker (duty.UpdatedSum operator.Subtract true))
assignment_role kind.ShiftLeftAssign = Some (role.Worker (duty.UpdatedShift operator.ShiftLeft))
assignment_role kind.ShiftRightAssign = Some (role.Worker (duty.UpdatedShift operator.ShiftRight))
assignment_role kind.AndAssign = Some (role.Worker (duty.UpdatedIntegers operator.And))
assignment_role kind.XorAssign = Some (role.Worker (duty.UpdatedIntegers operator.Xor))
assignment_role kind.OrAssign = Some (role.Worker (duty.UpdatedIntegers operator.Or))
assignment_role kind.PreIncrement = Some (role.Worker (duty.Increment operator.Add false false))
assignment_role kind.PreDecrement = Some (role.Worker (duty.Increment operator.Subtract true false))
assignment_role kind.PostIncrement = Some (role.Worker (duty.Increment operator.Add false true))
assignment_role kind.PostDecrement = Some (role.Worker (duty.Increment operator.Subtract true true))
assignment_role other = None

-- operators of several operands
unfoldable pub binary_role : Kind → Option Role
binary_role kind.Comma = Some (role.Worker duty.Comma)
binary_role kind.Conditional = Some (role.Worker duty.Conditional)
binary_role kind.LogicalOr = Some (role.Worker duty.LogicalOr)
binary_role kind.LogicalAnd = Some (role.Worker duty.LogicalAnd)
binary_role kind.Or = Some (role.Worker (duty.Integers operator.Or))
binary_role kind.Xor = Some (role.Worker (duty.Integers operator.Xor))
binary_role kind.And = Some (role.Worker (duty.Integers operator.And))
binary_role kind.Equal = Some (role.Worker (duty.Comparison relation.Equal))
binary_role kind.NotEqual = Some (role.Worker (duty.Comparison relation.NotEqual))
binary_role kind.Less = Some (role.Worker (duty.Comparison relation.Less))
binary_role kind.Greater = Some (role.Worker (duty.Comparison relation.Greater))
binary_role kind.LessEqual = Some (role.Worker (duty.Comparison relation.LessEqual))
binary_role kind.GreaterEqual = Some (role.Worker (duty.Comparison relation.GreaterEqual))
binary_role kind.ShiftLeft = Some (role.Worker (duty.Shift operator.ShiftLeft))
binary_role kind.ShiftRight = Some (role.Worker (duty.Shift operator.ShiftRight))
binary_role kind.Add = Some (role.Worker duty.Sum)
binary_role kind.Subtract = Some (role.Worker duty.Difference)
binary_role kind.Multiply = Some (role.Worker (duty.Integers operator.Multiply))
binary_role kind.Divide = Some (role.Worker (duty.Integers operator.Divide))
binary_role kind.Remainder = Some (role.Worker (duty.Integers operator.Remainder))
binary_role other = None

-- operators of one operand, places and what has no operands
unfoldable pub unary_role : Kind → Option Role
unary_role kind.Cast = Some role.Cast
unary_role kind.AddressOf = Some role.Address
unary_role kind.Dereference = Some (role.Placer reach.Dereference)
unary_role kind.Plus = Some (role.Worker (duty.Unary sign.Plus))
unary_role kind.Minus = Some (role.Worker (duty.Unary sign.Minus))
unary_role kind.Complement = Some (role.Worker (duty.Unary sign.Complement))
unary_role kind.Not = Some (role.Worker duty.Not)
unary_role kind.SizeofExpression = Some (role.Single leaf.Constant)
unary_role kind.SizeofType = Some (role.Single leaf.Constant)
unary_role kind.Call = Some role.Call
unary_role kind.Subscript = Some (role.Placer reach.Subscript)
unary_role kind.Member = Some (role.Placer reach.Member)
unary_role kind.PointerMember = Some (role.Placer reach.PointerMember)
unary_role kind.Identifier = Some role.Identifier
unary_role kind.Integer = Some (role.Single leaf.Constant)
unary_role kind.Character = Some (role.Single leaf.Constant)
unary_role kind.Text = Some role.Text
unary_role kind.Group = Some (role.Placer reach.Group)
unary_role other = None

-- statements, declarations and declarators
unfoldable pub statement_role : Kind → Role
statement_role kind.Compound = role.Block
statement_role kind.ExpressionStatement = role.Worker duty.Expression
statement_role kind.If = role.Worker duty.If
statement_role kind.Switch = role.Switch
statement_role kind.While = role.Worker duty.While
statement_role kind.Do = role.Worker duty.Do
statement_role kind.For = role.For
statement_role kind.Label = role.Labelled
statement_role kind.Case = role.Labelled
statement_role kind.Default = role.Labelled
statement_role kind.Goto = role.Single leaf.Goto
statement_role kind.Break = role.Single leaf.Break
statement_role kind.Continue = role.Single leaf.Continue
statement_role kind.Return = role.Worker duty.Return
statement_role kind.InitDeclarator = role.Initialise
statement_role kind.Declaration = role.Declaration
statement_role kind.NameDeclarator = role.Single leaf.Name
statement_role kind.PointerDeclarator = role.Single leaf.Declarator
statement_role kind.GroupDeclarator = role.Single leaf.Declarator
statement_role kind.ArrayDeclarator = role.Single leaf.Declarator
statement_role other = role.Single leaf.Nothing

abbrev pub role_or : Option Role → Role → Role
role_or (Some role) other = role
role_or None other = other

unfoldable pub role_of : Kind → Role
role_of kind = role_or (assignment_role kind) (role_or (binary_role kind) (role_or (unary_role kind) (statement_role kind)))

-- ---- operators and statements whose parts are evaluated

abbrev pub update_work : Typed → ℕ → Change → Bool → Work
update_work t node change post = work.Update change (form_of t (left_row t node)) (is_volatile (type_of_node t (part_at t node 0))) post

abbrev pub both_kinds : Typed → ℕ → Operator → Change
both_kinds t node op = Arithmetic op (common_kind (left_type t node) (right_type t node))

abbrev pub own_kind : Typed → ℕ → Operator → Change
own_kind t node op = Arithmetic op (promote_of (kind_in (left_type t node)))

abbrev pub sum_change : Typed → ℕ → Operator → Bool → Change
sum_change t node op back = change_of t op back (common_kind (left_type t node) (right_type t node)) (left_type t node) (right_type t node)

abbrev pub one_change : Typed → ℕ → Operator → Bool → Change
one_change t node op back =
    change_of t op back (common_of (kind_in (left_type t node)) IntegerKind) (left_type t node) (plain (Int IntegerKind) false false)

abbrev pub difference_work : Typed → ℕ → Work
difference_work t node =
    if is_pointer (left_type t node) && is_pointer (right_type t node)
    then work.Distance (pointed_element t (left_type t node))
    else work.Binary (sum_change t node operator.Subtract true)

abbrev pub comparison_work : Typed → ℕ → Relation → Work
comparison_work t node relation =
    if is_pointer (left_type t node) || is_pointer (right_type t node)
    then work.ComparePointers relation
    else work.Compare relation (common_kind (left_type t node) (right_type t node))

unfoldable pub duty_work : Typed → ℕ → Duty → Work
duty_work t node duty.Comma = work.Comma
duty_work t node duty.Assign = work.Assign (form_of t (left_row t node))
duty_work t node duty.Conditional = work.Conditional (form_of t (slice_index_or t.types node 0))
duty_work t node duty.LogicalOr = work.LogicalOr
duty_work t node duty.LogicalAnd = work.LogicalAnd
duty_work t node (duty.Integers op) = work.Binary (both_kinds t node op)
duty_work t node (duty.Shift op) = work.Binary (own_kind t node op)
duty_work t node duty.Sum = work.Binary (sum_change t node operator.Add false)
duty_work t node duty.Difference = difference_work t node
duty_work t node (duty.Comparison relation) = comparison_work t node relation
duty_work t node (duty.UpdatedIntegers op) = update_work t node (both_kinds t node op) false
duty_work t node (duty.UpdatedShift op) = update_work t node (own_kind t node op) false
duty_work t node (duty.UpdatedSum op back) = update_work t node (sum_change t node op back) false
duty_work t node (duty.Increment op back post) = update_work t node (one_change t node op back) post
duty_work t node (duty.Unary sign) = work.Unary sign (promote_of (kind_in (left_type t node)))
duty_work t node duty.Not = work.Not
duty_work t node duty.Expression = work.Expression
duty_work t node duty.If = work.If
duty_work t node duty.While = work.While
duty_work t node duty.Do = work.Do
duty_work t node duty.Return = work.Return (form_of t (slice_index_or t.named node 0))

-- ---- nodes that may give a place

abbrev pub member_work : Typed → ℕ → Qualified → Work
member_work t node structure =
    work.Member (cells_of t structure) (offset_in t structure (slice_index_or t.chosen node 0)) (as_element t (type_at t.shapes (chosen_row t node structure))) (form_of t (chosen_row t node structure))

abbrev pub pointer_member_work : Typed → ℕ → Qualified → Work
pointer_member_work t node structure =
    work.PointerMember (as_element t structure) (offset_in t structure (slice_index_or t.chosen node 0)) (as_element t (type_at t.shapes (chosen_row t node structure)))

unfoldable pub reach_work : Typed → ℕ → Reach → Work
reach_work t node reach.Dereference = work.Dereference (pointed_element t (left_type t node))
reach_work t node reach.Subscript = work.Subscript (either_element t (left_type t node) (right_type t node))
reach_work t node reach.Member = member_work t node (type_of_node t (part_at t node 0))
reach_work t node reach.PointerMember = pointer_member_work t node (pointed (left_type t node))
reach_work t node reach.Group = work.Pass

-- ---- nodes without operands

abbrev pub constant_work : Typed → ℕ → ℤ → Work
constant_work t node value = work.Constant (kind_in (type_of_node t node)) value

unfoldable pub leaf_work : Typed → ℕ → Leaf → Work
leaf_work t node leaf.Constant = constant_work t node (value_or (slice_index_or t.constants node None))
leaf_work t node leaf.Goto = work.Goto (entity_of t node)
leaf_work t node leaf.Break = work.Break
leaf_work t node leaf.Continue = work.Continue
leaf_work t node leaf.Name = work.Declare node
leaf_work t node leaf.Declarator = work.Declare (name_of t node)
leaf_work t node leaf.Nothing = work.Declaration

-- ---- operations

abbrev pub is_plain_char : Qualified → Bool
is_plain_char (plain (Int CharKind) c v) = not v
is_plain_char type = false

abbrev pub block_work : Typed → ℕ → Work
block_work t node = work.Block (objects_in t (parts_at t node)) (targets_from t 0 (parts_at t node))

abbrev pub initialise_op : Typed → ℕ → Op
initialise_op t node =
    node_op (map (λ put. put.node) (slice_index_or t.plans node [])) (work.Initialise (entity_of t (name_of t node)) (map (line_of t) (slice_index_or t.plans node [])))

unfoldable pub op_in : Typed → ℕ → Role → Op
op_in t node (role.Worker duty) = node_op (parts_at t node) (duty_work t node duty)
op_in t node (role.Placer reach) = placed t node (parts_at t node) (reach_work t node reach)
op_in t node (role.Single leaf) = node_op [] (leaf_work t node leaf)
op_in t node role.Text = placed t node [] (work.Object node (name_in t (type_of_node t node)))
op_in t node role.Identifier = identifier_by t node (slice_index_or t.constants node None)
op_in t node role.Cast = node_op (part_at t node 1 ∷ []) (work.Cast (form_of t (slice_index_or t.named node 0)))
op_in t node role.Address = address_by t node (part_at t node 0) (kind_at t (part_at t node 0))
op_in t node role.Labelled = node_op (labelled t node ∷ []) work.Labelled
op_in t node role.Call = node_op (parts_at t node) (work.Call (callee_of t node))
op_in t node role.Block = node_op (parts_at t node) (block_work t node)
op_in t node role.Switch = switch_of t node (part_at t node 1) (parts_at t (part_at t node 1))
op_in t node role.For = for_of t node
op_in t node role.Declaration = node_op (declarators_of t node) work.Declaration
op_in t node role.Initialise = initialise_op t node

unfoldable pub op_at : Typed → ℕ → Op
op_at t node = op_of t node
