-- Operations on pointers. Each gives its result, or the first case that holds in the order in which the cases stand.
use Rattle.std.specs.Prelude.{ℕ, ◌-◌, ◌/◌, ◌==◌, Bool, true, false, not, ◌&&◌, ◌||◌, ℤ, pos, ◌+ℤ◌, ◌-ℤ◌, ◌*ℤ◌, int_le, unsigned_abs, nat_lt, Result, Ok, Err, if◌then◌else◌}
use Rattle.cr_memory.specs.declared.value.Pointer.{Pointer}
use Rattle.cr_memory.specs.declared.value.Pointer.TheVariants.{Null, At}
use Rattle.cr_memory.specs.declared.value.Trap.{Trap}
use Rattle.cr_memory.specs.declared.value.Trap.TheVariants.{Undefined, Left}
use Rattle.cr_memory.specs.declared.value.TheConstants.{SUM_OUTSIDE, DIFFERENT_ARRAYS, DIFFERENT_OBJECTS, ENDED, END_COMPARED}
use Rattle.cr_memory.specs.declared.value.Scalar.{Scalar}
use Rattle.cr_memory.specs.declared.value.Guard.{Guard}
use Rattle.cr_memory.specs.Memory.{Memory, live_object, count_of, has_ended}
use Rattle.cr_memory.specs.Access.{is_null_or_end, is_literal, shape_at}

-- the sum of a pointer and an integer, in elements of its array, whose end it may reach (6.5.6p8)
abbrev pub moved_by : Pointer → ℤ → Result Pointer Trap
moved_by Null by = Err (Undefined SUM_OUTSIDE)
moved_by (At object cell low high stride) by =
    let moved = pos cell +ℤ by *ℤ pos stride.cells in
    if int_le (pos low) moved && int_le moved (pos high)
    then Ok (At object (unsigned_abs moved) low high stride)
    else Err (Undefined SUM_OUTSIDE)

abbrev pub shift_by : (Pointer → Bool) → Pointer → ℤ → Result Pointer Trap
shift_by ended at by = if ended at then Err (Undefined ENDED) else moved_by at by

abbrev pub shift_of : Memory → Pointer → ℤ → Result Pointer Trap
shift_of memory = shift_by (has_ended memory)

-- the difference of the subscripts in one array (6.5.6p9)
abbrev pub difference_of : Pointer → Pointer → Result ℤ Trap
difference_of Null Null = Err (Undefined DIFFERENT_ARRAYS)
difference_of Null (At object cell low high stride) = Err (Undefined DIFFERENT_ARRAYS)
difference_of (At object cell low high stride) Null = Err (Undefined DIFFERENT_ARRAYS)
difference_of (At object cell low high stride) (At object' cell' low' high' stride') =
    if object == object' && (low == low' && high == high')
    then Ok (pos ((cell - low) / stride.cells) -ℤ pos ((cell' - low') / stride'.cells))
    else Err (Undefined DIFFERENT_ARRAYS)

-- two operands, each of a live object, before what their operation gives
abbrev pub with_both : {A : Type 0} → (Pointer → Bool) → Pointer → Pointer → Result A Trap → Result A Trap
with_both ended left right rest = if ended left || ended right then Err (Undefined ENDED) else rest

abbrev pub differ_of : Memory → Pointer → Pointer → Result ℤ Trap
differ_of memory left right = with_both (has_ended memory) left right (difference_of left right)

-- two places of one object are into one array, or neither is at the end of its array: then the order of their cells is theirs
abbrev pub are_told : ℕ → ℕ → ℕ → ℕ → ℕ → ℕ → Bool
are_told cell low high cell' low' high' = (low == low' && high == high') || (nat_lt cell high && nat_lt cell' high')

-- the order of places in one object (6.5.8p5)
abbrev pub order_of : Pointer → Pointer → Result Bool Trap
order_of Null Null = Err (Undefined DIFFERENT_OBJECTS)
order_of Null (At object cell low high stride) = Err (Undefined DIFFERENT_OBJECTS)
order_of (At object cell low high stride) Null = Err (Undefined DIFFERENT_OBJECTS)
order_of (At object cell low high stride) (At object' cell' low' high' stride') =
    if object == object' && are_told cell low high cell' low' high' then Ok (nat_lt cell cell') else Err (Undefined DIFFERENT_OBJECTS)

abbrev pub less_of : Memory → Pointer → Pointer → Result Bool Trap
less_of memory left right = with_both (has_ended memory) left right (order_of left right)

-- the pointer points to a char of a string literal
abbrev pub is_in_literal : (Pointer → Scalar × Guard) → Pointer → Bool
is_in_literal own at = not (is_null_or_end at) && is_literal (own at).1

-- both null, or the same place of one object. The end of an array and what comes behind it may be one place (6.5.9p6), and so may
-- two string literals (6.4.5p7). The look-ups tell how many cells a live object has, and the kind and the guard of a cell.
abbrev pub equality_by : (ℕ → ℕ) → (Pointer → Scalar × Guard) → Pointer → Pointer → Result Bool Trap
equality_by count own Null Null = Ok true
equality_by count own Null (At object cell low high stride) = Ok false
equality_by count own (At object cell low high stride) Null = Ok false
equality_by count own (At object cell low high stride) (At object' cell' low' high' stride') =
    if object == object'
    then (if not (cell == cell') then Ok false
    else (if are_told cell low high cell' low' high' then Ok true else Err (Left END_COMPARED)))
    else (if (count object == cell) || (count object' == cell') then Err (Left END_COMPARED)
    else (if is_in_literal own (At object cell low high stride) && is_in_literal own (At object' cell' low' high' stride') then Err (Left END_COMPARED)
    else Ok false))

abbrev pub same_of : Memory → Pointer → Pointer → Result Bool Trap
same_of memory left right =
    with_both (has_ended memory) left right (equality_by (λ object. count_of (live_object memory object)) (shape_at memory) left right)
