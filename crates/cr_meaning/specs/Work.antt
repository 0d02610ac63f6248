-- The own work of an expression's node, on the values of its operands (C11 6.5): the value, the world, and the node's own events;
-- or the first of its cases.
use Rattle.std.specs.Prelude.{ℕ, zero, suc, ℤ, ◌+◌, ◌==◌, pos, Bool, true, false, not, ◌&&◌, ◌||◌, Option, Some, None, Result, Ok, Err, List, [], ◌∷◌, ◌++◌, length, take, drop, if◌then◌else◌}
use Rattle.cr_ints.specs.declared.kind.IntKind.TheVariants.{Int as IntegerKind}
use Rattle.cr_ints.specs.Conversions.{convert_of}
use Rattle.cr_memory.specs.declared.value.Element.{Element}
use Rattle.cr_memory.specs.declared.value.Pointer.{Pointer}
use Rattle.cr_memory.specs.declared.value.Pointer.TheVariants.{Null, At}
use Rattle.cr_memory.specs.declared.value.Scalar.TheVariants as scalar
use Rattle.cr_memory.specs.declared.value.Cell.{Cell}
use Rattle.cr_memory.specs.declared.value.Cell.TheVariants as cell
use Rattle.cr_memory.specs.declared.value.Trap.{Trap}
use Rattle.cr_memory.specs.declared.value.Trap.TheVariants.{Undefined}
use Rattle.cr_memory.specs.Memory.{Memory}
use Rattle.cr_memory.specs.Access.{number_of, cell_of, reach_of, load_of, save_of, put_of, cells_of}
use Rattle.cr_meaning.specs.Events.{Event, Deed, Reads, Touches, Writes, own}
use Rattle.cr_meaning.specs.World.{Program, World, untyped, unused_value, then_by, object_for, whole_place}
use Rattle.cr_meaning.specs.Values.{cells_in, value_in, asked, if_lives, converted, signed_by, compares, if_fits, if_holds, moved_either, changed, with_pointers, holding, related, if_both_fit, distance}
use Rattle.cr_meaning.specs.declared.op.Access.{Access}
use Rattle.cr_meaning.specs.declared.op.Access.TheVariants as access
use Rattle.cr_meaning.specs.declared.op.Form.{Form}
use Rattle.cr_meaning.specs.declared.op.Form.TheVariants as form
use Rattle.cr_meaning.specs.declared.op.Change.{Change}
use Rattle.cr_meaning.specs.declared.op.Work.{Work}
use Rattle.cr_meaning.specs.declared.op.Work.TheVariants as work
use Rattle.cr_meaning.specs.declared.value.Value.{Value}
use Rattle.cr_meaning.specs.declared.value.Value.TheVariants.{Nothing, Number, Pointer as Pointing, Place, Cells}

-- what own work does
pub record Did : Type 0 where
  pub value : Value
  pub memory : Memory
  pub events : List Event

-- a value, with no event
abbrev pub plainly : Memory → Value → Result Did Trap
plainly memory value = Ok (record { value = value; memory = memory; events = [] })

-- the same of a result
abbrev pub giving : Memory → Result Value Trap → Result Did Trap
giving memory result = then_by result (plainly memory)

-- own events on so many cells from a place on
abbrev pub events_from : Deed → ℕ → ℕ → ℕ → List Event
events_from deed object first zero = []
events_from deed object first (suc count) = own deed (object, first) ∷ events_from deed object (suc first) count

abbrev pub events_at : Deed → Pointer → ℕ → List Event
events_at deed at count = events_from deed (number_of at) (cell_of at) count

-- ---- places used as values (6.3.2.1p2, p3)

abbrev pub deed_of : Bool → Deed
deed_of volatile = if volatile then Touches else Reads

-- the array at a place as a pointer to its first element, which is one of as many elements as the array has cells for
abbrev pub first_element : Pointer → Element → Pointer
first_element Null stride = Null
first_element (At object cell low high whole) stride = At object cell cell (cell + whole.cells) stride

abbrev pub fits_whole : {A : Type 0} → ℕ → Pointer → Result A Trap → Result A Trap
fits_whole whole at rest = if whole == 0 then rest else if_holds whole at rest

abbrev pub used : Program → Access → Memory → Pointer → Result Did Trap
used p access.Unused memory at = plainly memory (Place at)
used p (access.Scalar kind volatile) memory at = if_holds 1 at (then_by (load_of memory at kind)
    (λ cell. Ok (record { value = value_in kind cell; memory = memory; events = events_at (deed_of volatile) at 1 })))
used p (access.Cells row) memory at = if_holds (length (p.kinds row)) at (then_by (cells_of memory at (p.kinds row))
    (λ cells. Ok (record { value = Cells cells; memory = memory; events = events_at Reads at (length (p.kinds row)) })))
used p (access.Array stride whole) memory at = fits_whole whole at (then_by (reach_of memory at) (λ _. plainly memory (Pointing (first_element at stride))))

-- a node that gives a place: it is used as the node says
abbrev pub at_place : Program → Access → Memory → Result Pointer Trap → Result Did Trap
at_place p access memory result = then_by result (used p access memory)

-- ---- objects and members

-- the place of the object that was entered for a node (6.5.1p2, p4)
abbrev pub place_of : Memory → Option ℕ → ℕ → Result Pointer Trap
place_of memory None of = Err untyped
place_of memory (Some object) of = Ok (whole_place memory object of)

-- some cells of a structure, as an array of one (6.5.2.3p3, p4)
abbrev pub inner : ℕ → Element → Pointer → Pointer
inner before count Null = Null
inner before count (At object cell low high stride) = At object (cell + before) (cell + before) (cell + before + count.cells) count

-- the structure's first cell is accessed
abbrev pub inner_of : Memory → ℕ → ℕ → Element → Pointer → Result Pointer Trap
inner_of memory whole before count at = if_holds whole at (then_by (reach_of memory at) (λ _. Ok (inner before count at)))

-- a scalar taken out of a structure that is no lvalue: as if it were loaded (U11, U10)
abbrev pub taken_scalar : Memory → Form → List Cell → Result Value Trap
taken_scalar memory (form.Number kind) (cell.Number value ∷ []) = Ok (Number kind value)
taken_scalar memory (form.Pointer to) (cell.Pointer pointer ∷ []) = if_lives memory pointer (Ok (Pointing pointer))
taken_scalar memory form (cell.Unset ∷ []) = Err (Undefined 11)
taken_scalar memory form cells = Err untyped

abbrev pub taken : Memory → Form → List Cell → Result Value Trap
taken memory (form.Cells row) cells = Ok (Cells cells)
taken memory form cells = taken_scalar memory form cells

abbrev pub member_of : Program → Access → Memory → ℕ → ℕ → Element → Form → Value → Result Did Trap
member_of p access memory whole before count form (Place at) = at_place p access memory (inner_of memory whole before count at)
member_of p access memory whole before count form (Cells cells) = giving memory (taken memory form (take count.cells (drop before cells)))
member_of p access memory whole before count form Nothing = Err unused_value
member_of p access memory whole before count form other = Err untyped

-- a pointer that is followed: N5, then U15
abbrev pub followed : {A : Type 0} → Element → Value → (Pointer → Result A Trap) → Result A Trap
followed cells (Pointing at) f = if_fits cells at (f at)
followed cells Nothing f = Err unused_value
followed cells other f = Err untyped

-- ---- assignment (6.5.16, 6.5.3.1, 6.5.2.4)

abbrev pub stored : Program → Memory → Form → Pointer → Value → Result Memory Trap
stored p memory (form.Number kind) at (Number k value) = save_of memory at (scalar.Int kind) (cell.Number value)
stored p memory (form.Pointer to) at (Pointing pointer) = save_of memory at (scalar.Pointer to) (cell.Pointer pointer)
stored p memory (form.Cells row) at (Cells cells) = put_of memory at (p.kinds row) cells
stored p memory form at value = Err untyped

abbrev pub did_assign : Program → Form → Pointer → Value → Memory → Result Did Trap
did_assign p form at value memory = Ok (record { value = value; memory = memory; events = events_at Writes at (cells_in p form) })

-- the value is converted to the type of the left operand, and stored there (6.5.16.1p2)
abbrev pub assigned : Program → Memory → Form → Value → Value → Result Did Trap
assigned p memory form (Place at) value = if_holds (cells_in p form) at (then_by (converted memory form value)
    (λ new. then_by (stored p memory form at new) (did_assign p form at new)))
assigned p memory form left value = Err untyped

abbrev pub did_update : Form → Bool → Pointer → Bool → Value → Value → Memory → Result Did Trap
did_update form volatile at post old new memory =
    Ok (record { value = if post then old else new; memory = memory; events = events_at (deed_of volatile) at 1 ++ events_at Writes at 1 })

abbrev pub loaded : Memory → Form → Pointer → Result Value Trap
loaded memory (form.Number kind) at = then_by (load_of memory at (scalar.Int kind)) (λ cell. Ok (value_in (scalar.Int kind) cell))
loaded memory (form.Pointer to) at = then_by (load_of memory at (scalar.Pointer to)) (λ cell. Ok (value_in (scalar.Pointer to) cell))
loaded memory form at = Err untyped

-- `E1 op= E2` is `E1 = E1 op E2` with E1 evaluated once (6.5.16.2p3): its value is read, changed, converted and stored
abbrev pub updated : Program → Memory → Change → Form → Bool → Bool → Value → Value → Result Did Trap
updated p memory change form volatile post (Place at) right = if_holds 1 at (then_by (loaded memory form at)
    (λ old. then_by (changed memory change old right)
    (λ result. then_by (converted memory form result)
    (λ new. then_by (stored p memory form at new) (did_update form volatile at post old new)))))
updated p memory change form volatile post left right = Err untyped

-- ---- operators

abbrev pub is_nothing : Value → Bool
is_nothing Nothing = true
is_nothing other = false

-- `&&` and `||` (6.5.13p3, 6.5.14p3): the right operand isn't there where it isn't evaluated. U15 of either, then U10
abbrev pub both_asked : Memory → (Bool → Bool → Bool) → Value → Value → Result Value Trap
both_asked memory f left right = if is_nothing right then Err unused_value else then_by (asked memory left) (λ l. then_by (asked memory right) (λ r. holding (f l r)))

abbrev pub logical : Memory → (Bool → Bool → Bool) → List Value → Result Value Trap
logical memory f (left ∷ []) = then_by (asked memory left) holding
logical memory f (left ∷ right ∷ []) = both_asked memory f left right
logical memory f other = Err untyped

-- `?:` (6.5.15p4, p5): the chosen operand, converted to the type of the whole
abbrev pub is_void : Form → Bool
is_void form.Void = true
is_void form = false

abbrev pub conditional : Memory → Form → List Value → Result Value Trap
conditional memory form (Nothing ∷ []) = Err unused_value
conditional memory form (first ∷ chosen ∷ []) =
    if is_nothing chosen && not (is_void form) then Err unused_value else then_by (asked memory first) (λ _. converted memory form chosen)
conditional memory form other = Err untyped

-- a cast (6.5.4p5) is an operation on a pointer, but to void it drops its operand
abbrev pub cast : Memory → Form → Value → Result Value Trap
cast memory form.Void value = Ok Nothing
cast memory form (Pointing pointer) = if_lives memory pointer (converted memory form (Pointing pointer))
cast memory form value = converted memory form value

abbrev pub integer : Value → Result ℤ Trap
integer (Number kind value) = Ok value
integer Nothing = Err unused_value
integer other = Err untyped

abbrev pub comparison : Memory → Value → Value → (ℤ → ℤ → Result Value Trap) → Result Value Trap
comparison memory left right f = then_by (integer left) (λ l. then_by (integer right) (λ r. f l r))

abbrev pub address : Value → Result Value Trap
address (Place at) = Ok (Pointing at)
address other = Err untyped

-- ---- own work, by the number of operands

abbrev pub alone : Program → World → Work → Access → Result Did Trap
alone p world (work.Constant kind value) access = plainly world.memory (Number kind value)
alone p world (work.Object node of) access = at_place p access world.memory (place_of world.memory (object_for world.bindings node) of)
alone p world other access = Err untyped

abbrev pub passed : Program → Access → Memory → Value → Result Did Trap
passed p access memory (Place at) = used p access memory at
passed p access memory value = plainly memory value

abbrev pub on_one : Program → World → Work → Access → Value → Result Did Trap
on_one p world work.Pass access value = passed p access world.memory value
on_one p world (work.Unary sign kind) access value = giving world.memory (then_by (integer value) (signed_by sign kind))
on_one p world work.Not access value = giving world.memory (then_by (asked world.memory value) (λ b. holding (not b)))
on_one p world (work.Cast form) access value = giving world.memory (cast world.memory form value)
on_one p world work.AddressOf access value = giving world.memory (address value)
on_one p world (work.Dereference cells) access value = at_place p access world.memory (followed cells value (λ at. if_lives world.memory at (Ok at)))
on_one p world (work.Member whole before count form) access value = member_of p access world.memory whole before count form value
on_one p world (work.PointerMember whole before count) access value = at_place p access world.memory (followed whole value (inner_of world.memory whole.cells before count))
on_one p world (work.Update change form volatile post) access value = updated p world.memory change form volatile post value (Number IntegerKind (pos 1))
on_one p world other access value = Err untyped

abbrev pub on_two : Program → World → Work → Access → Value → Value → Result Did Trap
on_two p world work.Comma access left right = plainly world.memory right
on_two p world (work.Binary change) access left right = giving world.memory (changed world.memory change left right)
on_two p world (work.Compare relation kind) access left right =
    giving world.memory (comparison world.memory left right (λ l. λ r. holding (compares relation (convert_of l kind) (convert_of r kind))))
on_two p world (work.ComparePointers relation) access left right = giving world.memory (with_pointers left right (related world.memory relation))
on_two p world (work.Distance cells) access left right =
    giving world.memory (if_both_fit cells left right (with_pointers left right (distance world.memory)))
on_two p world (work.Subscript cells) access left right = at_place p access world.memory (moved_either world.memory false cells left right)
on_two p world (work.Assign form) access left right = assigned p world.memory form left right
on_two p world (work.Update change form volatile post) access left right = updated p world.memory change form volatile post left right
on_two p world other access left right = Err untyped

abbrev pub by_count : Program → World → Work → Access → List Value → Result Did Trap
by_count p world work access [] = alone p world work access
by_count p world work access (value ∷ []) = on_one p world work access value
by_count p world work access (left ∷ right ∷ []) = on_two p world work access left right
by_count p world work access more = Err untyped

abbrev pub work_of : Program → World → Work → Access → List Value → Result Did Trap
work_of p world (work.Conditional form) access values = giving world.memory (conditional world.memory form values)
work_of p world work.LogicalAnd access values = giving world.memory (logical world.memory (λ l. λ r. l && r) values)
work_of p world work.LogicalOr access values = giving world.memory (logical world.memory (λ l. λ r. l || r) values)
work_of p world other access values = by_count p world other access values
