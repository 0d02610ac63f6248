-- Places that are used as values (C11 6.3.2.1p2, p3), of array type too.
use Rattle.std.specs.Prelude.{Bool, true, false, not, ◌&&◌, Option, None, Some}
use Rattle.cr_check_operands.specs.Values.{Seen}
use Rattle.cr_check_expressions.specs.declared.form.Form.{Form}
use Rattle.cr_check_expressions.specs.declared.form.Form.TheVariants as form

-- its first operand stays a place: that of `sizeof`, unary `&`, `++`, `--` and brackets, and the left operand of `.` and of an
-- assignment
abbrev pub takes_place : Form → Bool
takes_place form.SizeofExpression = true
takes_place form.Address = true
takes_place form.Group = true
takes_place form.Member = true
takes_place form.StepBefore = true
takes_place form.StepBehind = true
takes_place form.Assign = true
takes_place (form.Compound moves) = true
takes_place f = false

abbrev pub takes_place_if : Option Form → Bool
takes_place_if None = false
takes_place_if (Some f) = takes_place f

-- by the form of the node above, and by whether the expression is its first part
abbrev pub is_valued : Option Form → Bool → Seen → Bool
is_valued above first seen = seen.lvalue && not (first && takes_place_if above)
