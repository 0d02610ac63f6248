-- Values: their conversions and comparisons, and what integers and pointers are in operators (C11 6.3, 6.5).
use Rattle.std.specs.Prelude.{ℕ, ◌+◌, ◌*◌, ◌==◌, ℤ, pos, neg_ℤ, int_le, int_lt, unsigned_abs, Bool, true, false, not, ◌&&◌, Option, Some, None, Result, Ok, Err, List, [], ◌∷◌, length, if◌then◌else◌}
use Rattle.cr_ints.specs.declared.kind.IntKind.{IntKind}
use Rattle.cr_ints.specs.declared.kind.IntKind.TheVariants.{Int as IntegerKind, Long as LongKind}
use Rattle.cr_ints.specs.declared.end.IntEnd.{IntEnd}
use Rattle.cr_ints.specs.declared.end.IntEnd.TheVariants as end
use Rattle.cr_ints.specs.Conversions.{convert_of}
use Rattle.cr_ints.specs.Operations.{add_of, sub_of, mul_of, div_of, rem_of, shl_of, shr_of, neg_of}
use Rattle.cr_ints.specs.Bits.{bitand_of, bitor_of, bitxor_of, not_of}
use Rattle.cr_memory.specs.declared.value.Element.{Element}
use Rattle.cr_memory.specs.declared.value.Pointer.{Pointer}
use Rattle.cr_memory.specs.declared.value.Pointer.TheVariants.{Null, At}
use Rattle.cr_memory.specs.declared.value.Scalar.{Scalar}
use Rattle.cr_memory.specs.declared.value.Scalar.TheVariants as scalar
use Rattle.cr_memory.specs.declared.value.Cell.{Cell}
use Rattle.cr_memory.specs.declared.value.Cell.TheVariants as cell
use Rattle.cr_memory.specs.declared.value.Trap.{Trap}
use Rattle.cr_memory.specs.declared.value.Trap.TheVariants.{Undefined, Left}
use Rattle.cr_memory.specs.Kind.{place_of}
use Rattle.cr_memory.specs.Memory.{Memory, has_ended}
use Rattle.cr_memory.specs.Pointers.{shift_of, differ_of, less_of, same_of}
use Rattle.cr_meaning.specs.World.{Program, untyped, unused_value, then_by}
use Rattle.cr_meaning.specs.declared.op.Form.{Form}
use Rattle.cr_meaning.specs.declared.op.Form.TheVariants as form
use Rattle.cr_meaning.specs.declared.op.Operator.{Operator}
use Rattle.cr_meaning.specs.declared.op.Operator.TheVariants as operator
use Rattle.cr_meaning.specs.declared.op.Sign.{Sign}
use Rattle.cr_meaning.specs.declared.op.Sign.TheVariants.{Plus, Minus, Complement}
use Rattle.cr_meaning.specs.declared.op.Relation.{Relation}
use Rattle.cr_meaning.specs.declared.op.Relation.TheVariants.{Less, Greater, LessEqual, GreaterEqual, Equal, NotEqual}
use Rattle.cr_meaning.specs.declared.op.Change.{Change}
use Rattle.cr_meaning.specs.declared.op.Change.TheVariants.{Arithmetic, Move}
use Rattle.cr_meaning.specs.declared.value.Value.{Value}
use Rattle.cr_meaning.specs.declared.value.Value.TheVariants.{Nothing, Number, Pointer as Pointing, Cells}

-- ---- cells

-- the cells of a type, and their kinds
abbrev pub kinds_in : Program → Form → List Scalar
kinds_in p form.Void = []
kinds_in p (form.Number kind) = scalar.Int kind ∷ []
kinds_in p (form.Pointer to) = scalar.Pointer to ∷ []
kinds_in p (form.Cells row) = p.kinds row

abbrev pub cells_in : Program → Form → ℕ
cells_in p form = length (kinds_in p form)

-- a cell that holds something, as a value of the cell's kind
abbrev pub value_in : Scalar → Cell → Value
value_in (scalar.Int kind) (cell.Number value) = Number kind value
value_in kind (cell.Pointer pointer) = Pointing pointer
value_in kind other = Nothing

abbrev pub cells_of_value : Value → List Cell
cells_of_value (Number kind value) = cell.Number value ∷ []
cells_of_value (Pointing pointer) = cell.Pointer pointer ∷ []
cells_of_value (Cells cells) = cells
cells_of_value other = []

-- ---- truth and conversions

abbrev pub truth : Bool → Value
truth b = Number IntegerKind (if b then pos 1 else pos 0)

abbrev pub is_null : Pointer → Bool
is_null Null = true
is_null (At object cell low high stride) = false

-- a scalar compares unequal to 0 (6.5.13p3, 6.5.14p3, 6.5.15p4, 6.8.4.1p2, 6.8.5p4); nothing where there is no value
abbrev pub truth_of : Value → Option Bool
truth_of (Number kind value) = Some (not (unsigned_abs value == 0))
truth_of (Pointing pointer) = Some (not (is_null pointer))
truth_of other = None

-- a pointer of an ended object is an operand of no such operation (U10, 6.2.4p2)
abbrev pub if_lives : {A : Type 0} → Memory → Pointer → Result A Trap → Result A Trap
if_lives memory pointer rest = if has_ended memory pointer then Err (Undefined 10) else rest

-- the same as an operation: U15 without a value, then U10
abbrev pub asked : Memory → Value → Result Bool Trap
asked memory (Number kind value) = Ok (not (unsigned_abs value == 0))
asked memory (Pointing pointer) = if_lives memory pointer (Ok (not (is_null pointer)))
asked memory Nothing = Err unused_value
asked memory other = Err untyped

-- the value of a scalar type as another one (6.3.1.2, 6.3.1.3, 6.3.2.3): to `_Bool` a pointer is compared with null; a null
-- pointer constant becomes a null pointer; between pointer types nothing changes. A structure stays as it is. U15 where there is
-- no value
abbrev pub converted : Memory → Form → Value → Result Value Trap
converted memory form.Void value = Ok value
converted memory form Nothing = Err unused_value
converted memory (form.Number kind) (Number from value) = Ok (Number kind (convert_of value kind))
converted memory (form.Number kind) (Pointing pointer) = if_lives memory pointer (Ok (Number kind (if is_null pointer then pos 0 else pos 1)))
converted memory (form.Pointer to) (Number from value) = Ok (Pointing Null)
converted memory (form.Pointer to) (Pointing pointer) = Ok (Pointing pointer)
converted memory (form.Cells row) (Cells cells) = Ok (Cells cells)
converted memory form other = Err untyped

-- ---- integers

abbrev pub exactly : IntKind → IntEnd → Result Value Trap
exactly kind (end.Value value) = Ok (Number kind value)
exactly kind (end.Undefined number) = Err (Undefined number)

-- an operator on operands of its kind; a shift's count keeps its own (6.5.7p3)
abbrev pub computed : Operator → IntKind → ℤ → ℤ → Result Value Trap
computed operator.Multiply kind left right = exactly kind (mul_of kind (convert_of left kind) (convert_of right kind))
computed operator.Divide kind left right = exactly kind (div_of kind (convert_of left kind) (convert_of right kind))
computed operator.Remainder kind left right = exactly kind (rem_of kind (convert_of left kind) (convert_of right kind))
computed operator.Add kind left right = exactly kind (add_of kind (convert_of left kind) (convert_of right kind))
computed operator.Subtract kind left right = exactly kind (sub_of kind (convert_of left kind) (convert_of right kind))
computed operator.ShiftLeft kind left right = exactly kind (shl_of kind (convert_of left kind) right)
computed operator.ShiftRight kind left right = exactly kind (shr_of kind (convert_of left kind) right)
computed operator.And kind left right = Ok (Number kind (bitand_of kind (convert_of left kind) (convert_of right kind)))
computed operator.Xor kind left right = Ok (Number kind (bitxor_of kind (convert_of left kind) (convert_of right kind)))
computed operator.Or kind left right = Ok (Number kind (bitor_of kind (convert_of left kind) (convert_of right kind)))

-- 6.5.3.3
abbrev pub signed_by : Sign → IntKind → ℤ → Result Value Trap
signed_by Plus kind value = Ok (Number kind (convert_of value kind))
signed_by Minus kind value = exactly kind (neg_of kind (convert_of value kind))
signed_by Complement kind value = Ok (Number kind (not_of kind (convert_of value kind)))

-- 6.5.8p6, 6.5.9p3
abbrev pub compares : Relation → ℤ → ℤ → Bool
compares Less left right = int_lt left right
compares Greater left right = int_lt right left
compares LessEqual left right = int_le left right
compares GreaterEqual left right = int_le right left
compares Equal left right = int_le left right && int_le right left
compares NotEqual left right = not (int_le left right && int_le right left)

-- ---- pointers

-- scalars as elements: the integer types are named by their places in their list, and pointer types behind them, with room for
-- other types between
abbrev pub scalar_name : Scalar → ℕ
scalar_name (scalar.Int kind) = place_of kind
scalar_name (scalar.Pointer to) = 12 + 3 * to

abbrev pub scalar_element : Scalar → Element
scalar_element kind = record { cells = 1; of = scalar_name kind }

-- a pointer that isn't null points to elements of another type (N5): two types of one name and of as many cells are one
abbrev pub misfits : Element → Pointer → Bool
misfits own Null = false
misfits own (At object cell low high stride) = not (stride.cells == own.cells && stride.of == own.of)

abbrev pub if_fits : {A : Type 0} → Element → Pointer → Result A Trap → Result A Trap
if_fits own pointer rest = if misfits own pointer then Err (Left 5) else rest

-- a place isn't one of so many cells
abbrev pub strays : ℕ → Pointer → Bool
strays cells Null = false
strays cells (At object cell low high stride) = not (stride.cells == cells)

abbrev pub if_holds : {A : Type 0} → ℕ → Pointer → Result A Trap → Result A Trap
if_holds cells place rest = if strays cells place then Err (Left 5) else rest

-- a pointer and an integer: N5, then U15, then U10 and U6 (6.5.6p8)
abbrev pub moved : Memory → Bool → Element → Pointer → Value → Result Pointer Trap
moved memory back cells pointer (Number kind value) = if_fits cells pointer (shift_of memory pointer (if back then neg_ℤ value else value))
moved memory back cells pointer Nothing = if_fits cells pointer (Err unused_value)
moved memory back cells pointer other = Err untyped

-- the pointer may be the right operand (6.5.6p2, 6.5.2.1p2)
abbrev pub moved_either : Memory → Bool → Element → Value → Value → Result Pointer Trap
moved_either memory back cells (Pointing pointer) value = moved memory back cells pointer value
moved_either memory back cells value (Pointing pointer) = moved memory back cells pointer value
moved_either memory back cells Nothing value = Err unused_value
moved_either memory back cells value Nothing = Err unused_value
moved_either memory back cells value other = Err untyped

abbrev pub pointing : Pointer → Result Value Trap
pointing pointer = Ok (Pointing pointer)

-- an operator of two operands
abbrev pub changed : Memory → Change → Value → Value → Result Value Trap
changed memory (Move back cells) left right = then_by (moved_either memory back cells left right) pointing
changed memory (Arithmetic op kind) (Number k left) (Number l right) = computed op kind left right
changed memory (Arithmetic op kind) Nothing right = Err unused_value
changed memory (Arithmetic op kind) left Nothing = Err unused_value
changed memory (Arithmetic op kind) left right = Err untyped

-- a pointer, or a null pointer constant, which becomes one (6.3.2.3p3, 6.5.9p5)
abbrev pub as_pointer : Value → Result Pointer Trap
as_pointer (Pointing pointer) = Ok pointer
as_pointer (Number kind value) = Ok Null
as_pointer Nothing = Err unused_value
as_pointer other = Err untyped

-- both operands, in any order
abbrev pub with_pointers : {A : Type 0} → Value → Value → (Pointer → Pointer → Result A Trap) → Result A Trap
with_pointers left right f = then_by (as_pointer left) (λ one. then_by (as_pointer right) (λ other. f one other))

abbrev pub holding : Bool → Result Value Trap
holding b = Ok (truth b)

-- 6.5.8p5, 6.5.9p6
abbrev pub related : Memory → Relation → Pointer → Pointer → Result Value Trap
related memory Less left right = then_by (less_of memory left right) holding
related memory Greater left right = then_by (less_of memory right left) holding
related memory LessEqual left right = then_by (less_of memory right left) (λ b. holding (not b))
related memory GreaterEqual left right = then_by (less_of memory left right) (λ b. holding (not b))
related memory Equal left right = then_by (same_of memory left right) holding
related memory NotEqual left right = then_by (same_of memory left right) (λ b. holding (not b))

-- the difference of two pointers: N5 of either, then U15, then U10 and U7 (6.5.6p9)
abbrev pub misfit_value : Element → Value → Bool
misfit_value cells (Pointing pointer) = misfits cells pointer
misfit_value cells other = false

abbrev pub distance : Memory → Pointer → Pointer → Result Value Trap
distance memory left right = then_by (differ_of memory left right) (λ by. Ok (Number LongKind by))

-- N5 of a pointer operand comes before the other cases
abbrev pub if_both_fit : {A : Type 0} → Element → Value → Value → Result A Trap → Result A Trap
if_both_fit cells left right rest = if misfit_value cells left then Err (Left 5) else (if misfit_value cells right then Err (Left 5) else rest)
