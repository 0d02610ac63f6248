-- Which nodes are expressions, and which of their parts are operands (C11 6.5).
use Rattle.std.specs.Prelude.{ℕ, Bool, true, false, List, [], drop}
use Rattle.cr_syntax.specs.declared.node.Kind.{Kind}
use Rattle.cr_syntax.specs.declared.node.Kind.TheVariants as kind
use Rattle.pass_exprs.specs.declared.operands.Operands.{Operands}
use Rattle.pass_exprs.specs.declared.operands.Operands.TheVariants.{BehindFirst, EveryPart, NoExpression, NoPart}

-- Which parts are operands: of a binary operator, an assignment, a comma and a subscript the two sides; of a unary, postfix and member
-- expression and of one in brackets its one part; of a call its arguments, since the called name is no part; of a cast the part behind its
-- type; of `?:` the second and the third; of `sizeof` none. A name and a constant have no parts.
abbrev pub operands_by : Kind → Operands
operands_by kind.Comma = EveryPart
operands_by kind.Assign = EveryPart
operands_by kind.MultiplyAssign = EveryPart
operands_by kind.DivideAssign = EveryPart
operands_by kind.RemainderAssign = EveryPart
operands_by kind.AddAssign = EveryPart
operands_by kind.SubtractAssign = EveryPart
operands_by kind.ShiftLeftAssign = EveryPart
operands_by kind.ShiftRightAssign = EveryPart
operands_by kind.AndAssign = EveryPart
operands_by kind.XorAssign = EveryPart
operands_by kind.OrAssign = EveryPart
operands_by kind.Conditional = BehindFirst
operands_by kind.LogicalOr = EveryPart
operands_by kind.LogicalAnd = EveryPart
operands_by kind.Or = EveryPart
operands_by kind.Xor = EveryPart
operands_by kind.And = EveryPart
operands_by kind.Equal = EveryPart
operands_by kind.NotEqual = EveryPart
operands_by kind.Less = EveryPart
operands_by kind.Greater = EveryPart
operands_by kind.LessEqual = EveryPart
operands_by kind.GreaterEqual = EveryPart
operands_by kind.ShiftLeft = EveryPart
operands_by kind.ShiftRight = EveryPart
operands_by kind.Add = EveryPart
operands_by kind.Subtract = EveryPart
operands_by kind.Multiply = EveryPart
operands_by kind.Divide = EveryPart
operands_by kind.Remainder = EveryPart
operands_by kind.Cast = BehindFirst
operands_by kind.PreIncrement = EveryPart
operands_by kind.PreDecrement = EveryPart
operands_by kind.AddressOf = EveryPart
operands_by kind.Dereference = EveryPart
operands_by kind.Plus = EveryPart
operands_by kind.Minus = EveryPart
operands_by kind.Complement = EveryPart
operands_by kind.Not = EveryPart
operands_by kind.SizeofExpression = NoPart
operands_by kind.SizeofType = NoPart
operands_by kind.Call = EveryPart
operands_by kind.Subscript = EveryPart
operands_by kind.Member = EveryPart
operands_by kind.PointerMember = EveryPart
operands_by kind.PostIncrement = EveryPart
operands_by kind.PostDecrement = EveryPart
operands_by kind.Identifier = EveryPart
operands_by kind.Integer = EveryPart
operands_by kind.Character = EveryPart
operands_by kind.Text = EveryPart
operands_by kind.Group = EveryPart
operands_by _ = NoExpression

abbrev pub is_expression : Operands → Bool
is_expression NoExpression = false
is_expression _ = true

abbrev pub operands_of : Operands → List ℕ → List ℕ
operands_of EveryPart parts = parts
operands_of BehindFirst parts = drop 1 parts
operands_of NoPart parts = []
operands_of NoExpression parts = []
