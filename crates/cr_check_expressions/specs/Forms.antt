-- The forms of expressions: which kinds of nodes have one rule and one constraint.
use Rattle.std.specs.Prelude.{ℕ, true, false}
use Rattle.cr_check_constants.specs.declared.operator.Arithmetic.{Arithmetic}
use Rattle.cr_check_constants.specs.declared.operator.Arithmetic.TheVariants.{Multiply, Divide, Remainder, And, Xor, Or}
use Rattle.cr_check_constants.specs.declared.operator.Shift.TheVariants.{Left, Right}
use Rattle.cr_check_constants.specs.declared.operator.Relation.TheVariants.{Equal, NotEqual, Less, Greater, LessEqual, GreaterEqual}
use Rattle.cr_check_constants.specs.declared.operator.Sign.TheVariants.{Plus, Minus, Complement}
use Rattle.cr_check_operands.specs.declared.logic.Junction.TheVariants.{Conjunction, Disjunction}
use Rattle.cr_syntax.specs.declared.node.Kind.{Kind}
use Rattle.cr_syntax.specs.declared.node.Kind.TheVariants as kind
use Rattle.cr_check_expressions.specs.declared.form.Form.{Form}
use Rattle.cr_check_expressions.specs.declared.form.Form.TheVariants as form

-- assignments (6.5.16)
abbrev pub assignment_form_of : Kind → Form
assignment_form_of kind.Assign = form.Assign
assignment_form_of kind.AddAssign = form.Compound true
assignment_form_of kind.SubtractAssign = form.Compound true
assignment_form_of kind.MultiplyAssign = form.Compound false
assignment_form_of kind.DivideAssign = form.Compound false
assignment_form_of kind.RemainderAssign = form.Compound false
assignment_form_of kind.ShiftLeftAssign = form.Compound false
assignment_form_of kind.ShiftRightAssign = form.Compound false
assignment_form_of kind.AndAssign = form.Compound false
assignment_form_of kind.XorAssign = form.Compound false
assignment_form_of kind.OrAssign = form.Compound false
assignment_form_of k = form.Other

-- operators between two operands (6.5.5 to 6.5.14)
abbrev pub binary_form_of : Kind → Form
binary_form_of kind.Multiply = form.Integers Multiply
binary_form_of kind.Divide = form.Integers Divide
binary_form_of kind.Remainder = form.Integers Remainder
binary_form_of kind.Add = form.Sum
binary_form_of kind.Subtract = form.Difference
binary_form_of kind.ShiftLeft = form.Shifted Left
binary_form_of kind.ShiftRight = form.Shifted Right
binary_form_of kind.Less = form.Order Less
binary_form_of kind.Greater = form.Order Greater
binary_form_of kind.LessEqual = form.Order LessEqual
binary_form_of kind.GreaterEqual = form.Order GreaterEqual
binary_form_of kind.Equal = form.Equality Equal
binary_form_of kind.NotEqual = form.Equality NotEqual
binary_form_of kind.And = form.Integers And
binary_form_of kind.Xor = form.Integers Xor
binary_form_of kind.Or = form.Integers Or
binary_form_of kind.LogicalAnd = form.Logical Conjunction
binary_form_of kind.LogicalOr = form.Logical Disjunction
binary_form_of k = assignment_form_of k

-- all expressions (6.5)
abbrev pub form_of : Kind → Form
form_of kind.Identifier = form.Name
form_of kind.Integer = form.Integer
form_of kind.Character = form.Character
form_of kind.Text = form.Text
form_of kind.Group = form.Group
form_of kind.Subscript = form.Subscript
form_of kind.Call = form.Call
form_of kind.Member = form.Member
form_of kind.PointerMember = form.PointerMember
form_of kind.PostIncrement = form.StepBehind
form_of kind.PostDecrement = form.StepBehind
form_of kind.PreIncrement = form.StepBefore
form_of kind.PreDecrement = form.StepBefore
form_of kind.AddressOf = form.Address
form_of kind.Dereference = form.Dereference
form_of kind.Plus = form.Signed Plus
form_of kind.Minus = form.Signed Minus
form_of kind.Complement = form.Signed Complement
form_of kind.Not = form.Negated
form_of kind.SizeofExpression = form.SizeofExpression
form_of kind.SizeofType = form.SizeofType
form_of kind.Cast = form.Cast
form_of kind.Conditional = form.Conditional
form_of kind.Comma = form.Comma
form_of k = binary_form_of k

-- `& ^ |` (6.5.10 to 6.5.12), and `* / %` (6.5.5)
abbrev pub row_of_integers : Arithmetic → ℕ
row_of_integers And = 34
row_of_integers Xor = 34
row_of_integers Or = 34
row_of_integers operator = 28
