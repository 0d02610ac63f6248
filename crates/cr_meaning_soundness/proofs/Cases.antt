-- The own work of an expression's node on operands that it takes: it is done, or comes to a case (U1 to U16, N1 to N7).
use Rattle.std.proofs.Common.{◌≡◌, refl}
use Rattle.std.specs.Prelude.{ℕ, ◌==◌, ℤ, pos, ◌+ℤ◌, ◌*ℤ◌, neg_ℤ, int_le, unsigned_abs, Bool, true, false, not, ◌&&◌, ◌||◌, Result, Ok, Err, IfOk, List, [], ◌∷◌, length, if◌then◌else◌, ◌⊎◌}
use Rattle.std.proofs.Common.{inl, inr}
use Rattle.std.specs.List.{list_any}
use Rattle.cr_ints.specs.declared.kind.IntKind.{IntKind}
use Rattle.cr_ints.specs.declared.end.IntEnd.{IntEnd}
use Rattle.cr_ints.specs.declared.end.IntEnd.TheVariants as end
use Rattle.cr_memory.specs.declared.value.Element.{Element}
use Rattle.cr_memory.specs.declared.value.Pointer.{Pointer}
use Rattle.cr_memory.specs.declared.value.Pointer.TheVariants.{Null, At}
use Rattle.cr_memory.specs.declared.value.Scalar.{Scalar}
use Rattle.cr_memory.specs.declared.value.Guard.{Guard}
use Rattle.cr_memory.specs.declared.value.Scalar.TheVariants as scalar
use Rattle.cr_memory.specs.declared.value.Cell.{Cell}
use Rattle.cr_memory.specs.declared.value.Cell.TheVariants as cell
use Rattle.cr_memory.specs.declared.value.Trap.{Trap}
use Rattle.cr_memory.specs.declared.value.Trap.TheVariants.{Undefined, Left}
use Rattle.cr_memory.specs.declared.value.TheConstants.{NULL_OR_END, ENDED, END_COMPARED, SUM_OUTSIDE, UNSET, OTHER_TYPE}
use Rattle.cr_memory.specs.Kind.{is_same}
use Rattle.cr_memory.specs.Memory.{Memory, Holds, AllHold, IsPointer, has_ended}
use Rattle.cr_memory.specs.Access.{is_null_or_end, is_literal, is_constant, is_unset, holds_ended, number_of, cell_of, cell_at, shape_at, shape_run_at, have_kinds, with_cells, writing, reach_of, load_of, cells_of}
use Rattle.cr_memory.specs.Pointers.{moved_by, difference_of, differ_of, are_told, order_of, less_of, is_in_literal, equality_by, same_of}
use Rattle.cr_meaning.specs.World.{Program, then_by}
use Rattle.cr_meaning.specs.Values.{kinds_in, cells_in, value_in, asked, converted, is_null, exactly, computed, signed_by, misfits, strays, moved, moved_either, changed, pointing, as_pointer, with_pointers, holding, related, misfit_value, if_both_fit, distance}
use Rattle.cr_meaning.specs.Work.{plainly, giving, used, at_place, inner_of, taken, followed, stored, assigned, loaded, did_update, updated, is_nothing, is_void, logical, conditional, cast, integer, comparison, address, passed}
use Rattle.cr_meaning.specs.declared.op.Access.{Access}
use Rattle.cr_meaning.specs.declared.op.Access.TheVariants as access
use Rattle.cr_meaning.specs.declared.op.Form.{Form}
use Rattle.cr_meaning.specs.declared.op.Form.TheVariants as form
use Rattle.cr_meaning.specs.declared.op.Operator.{Operator}
use Rattle.cr_meaning.specs.declared.op.Operator.TheVariants as operator
use Rattle.cr_meaning.specs.declared.op.Sign.{Sign}
use Rattle.cr_meaning.specs.declared.op.Sign.TheVariants.{Plus, Minus, Complement}
use Rattle.cr_meaning.specs.declared.op.Relation.{Relation}
use Rattle.cr_meaning.specs.declared.op.Relation.TheVariants.{Less, Greater, LessEqual, GreaterEqual, Equal, NotEqual}
use Rattle.cr_meaning.specs.declared.op.Change.{Change}
use Rattle.cr_meaning.specs.declared.op.Change.TheVariants.{Arithmetic, Move}
use Rattle.cr_meaning.specs.declared.value.Value.{Value}
use Rattle.cr_meaning.specs.declared.value.Value.TheVariants.{Nothing, Number, Pointer as Pointing, Place, Cells}
use Rattle.cr_meaning_soundness.specs.Sorts.{IsSound}
use Rattle.cr_meaning_soundness.specs.Operands.{IsChanged}
use Rattle.cr_meaning_soundness.specs.Ends.{IsCase}
use Rattle.cr_meaning_soundness.proofs.Cells.{loaded_holds}

-- ---- results

-- a result, or a case
abbrev pub Cased : {A : Type 0} → Result A Trap → Type 0
Cased (Ok a) = Unit {0}
Cased (Err trap) = IsCase trap

pub cased_then : {A B : Type 0} (P : A → Type 0) (result : Result A Trap) (f : A → Result B Trap) → Cased result → IfOk result P → ((a : A) → P a → Cased (f a)) → Cased (then_by result f)
cased_then P (Ok a) f h is k = k a is
cased_then P (Err trap) f h is k = h

pub cased_all : {A B : Type 0} (result : Result A Trap) (f : A → Result B Trap) → Cased result → ((a : A) → Cased (f a)) → Cased (then_by result f)
cased_all (Ok a) f h k = k a
cased_all (Err trap) f h k = h

pub cased_if : {A : Type 0} (b : Bool) (trap : Trap) (rest : Result A Trap) → IsCase trap → Cased rest → Cased (if b then Err trap else rest)
cased_if true trap rest h k = h
cased_if false trap rest h k = k

pub cased_either : {A : Type 0} (b : Bool) (one other : Result A Trap) → Cased one → Cased other → Cased (if b then one else other)
cased_either true one other h k = h
cased_either false one other h k = k

-- ---- values

abbrev pub IsNumberValue : Value → Type 0
IsNumberValue Nothing = Unit {0}
IsNumberValue (Number kind value) = Unit {0}
IsNumberValue value = ⊥

abbrev pub IsPointerValue : Value → Type 0
IsPointerValue Nothing = Unit {0}
IsPointerValue (Pointing at) = Unit {0}
IsPointerValue value = ⊥

abbrev pub IsScalarValue : Value → Type 0
IsScalarValue Nothing = Unit {0}
IsScalarValue (Number kind value) = Unit {0}
IsScalarValue (Pointing at) = Unit {0}
IsScalarValue value = ⊥

abbrev pub IsPlaceValue : Value → Type 0
IsPlaceValue (Place at) = Unit {0}
IsPlaceValue value = ⊥

abbrev pub IsConvertedValue : Form → Value → Type 0
IsConvertedValue form.Void value = Unit {0}
IsConvertedValue (form.Cells row) Nothing = Unit {0}
IsConvertedValue (form.Cells row) (Cells held) = Unit {0}
IsConvertedValue (form.Cells row) value = ⊥
IsConvertedValue form value = IsScalarValue value

pub integer_cased : (value : Value) → IsNumberValue value → Cased (integer value)
integer_cased Nothing h = tt
integer_cased (Number kind value) h = tt
integer_cased value h = absurd h

pub asked_cased : (memory : Memory) (value : Value) → IsScalarValue value → Cased (asked memory value)
asked_cased memory Nothing h = tt
asked_cased memory (Number kind value) h = tt
asked_cased memory (Pointing at) h = cased_if (has_ended memory at) (Undefined 10) _ tt tt
asked_cased memory value h = absurd h

pub converted_cased : (memory : Memory) (form : Form) (value : Value) → IsConvertedValue form value → Cased (converted memory form value)
converted_cased memory form.Void value h = tt
converted_cased memory (form.Number kind) Nothing h = tt
converted_cased memory (form.Number kind) (Number from value) h = tt
converted_cased memory (form.Number kind) (Pointing at) h = cased_if (has_ended memory at) (Undefined 10) _ tt tt
converted_cased memory (form.Number kind) value h = absurd h
converted_cased memory (form.Pointer to) Nothing h = tt
converted_cased memory (form.Pointer to) (Number from value) h = tt
converted_cased memory (form.Pointer to) (Pointing at) h = tt
converted_cased memory (form.Pointer to) value h = absurd h
converted_cased memory (form.Cells row) Nothing h = tt
converted_cased memory (form.Cells row) (Cells held) h = tt
converted_cased memory (form.Cells row) value h = absurd h

pub cast_cased : (memory : Memory) (form : Form) (value : Value) → IsConvertedValue form value → Cased (cast memory form value)
cast_cased memory form.Void value h = tt
cast_cased memory (form.Number kind) (Pointing at) h = cased_if (has_ended memory at) (Undefined 10) _ tt (converted_cased memory (form.Number kind) (Pointing at) h)
cast_cased memory (form.Pointer to) (Pointing at) h = cased_if (has_ended memory at) (Undefined 10) _ tt tt
cast_cased memory (form.Cells row) (Pointing at) h = absurd h
cast_cased memory (form.Number kind) value h = converted_cased memory (form.Number kind) value h
cast_cased memory (form.Pointer to) value h = converted_cased memory (form.Pointer to) value h
cast_cased memory (form.Cells row) value h = converted_cased memory (form.Cells row) value h

abbrev pub IsObject : Form → Type 0
IsObject form.Void = ⊥
IsObject form = Unit {0}

-- ---- integers

pub exactly_cased : (kind : IntKind) (result : IntEnd) → Cased (exactly kind result)
exactly_cased kind (end.Value value) = tt
exactly_cased kind (end.Undefined number) = tt

pub computed_cased : (op : Operator) (kind : IntKind) (left right : ℤ) → Cased (computed op kind left right)
computed_cased operator.Multiply kind left right = exactly_cased kind _
computed_cased operator.Divide kind left right = exactly_cased kind _
computed_cased operator.Remainder kind left right = exactly_cased kind _
computed_cased operator.Add kind left right = exactly_cased kind _
computed_cased operator.Subtract kind left right = exactly_cased kind _
computed_cased operator.ShiftLeft kind left right = exactly_cased kind _
computed_cased operator.ShiftRight kind left right = exactly_cased kind _
computed_cased operator.And kind left right = tt
computed_cased operator.Xor kind left right = tt
computed_cased operator.Or kind left right = tt

pub signed_cased : (sign : Sign) (kind : IntKind) (value : ℤ) → Cased (signed_by sign kind value)
signed_cased Plus kind value = tt
signed_cased Minus kind value = exactly_cased kind _
signed_cased Complement kind value = tt

-- ---- pointers

pub moved_by_cased : (at : Pointer) (by : ℤ) → Cased (moved_by at by)
moved_by_cased Null by = tt
moved_by_cased (At object cell low high stride) by =
    let to = pos cell +ℤ by *ℤ pos stride.cells in
    cased_either (int_le (pos low) to && int_le to (pos high)) (Ok (At object (unsigned_abs to) low high stride)) (Err (Undefined SUM_OUTSIDE)) tt tt

pub moved_cased : (memory : Memory) (back : Bool) (count : Element) (at : Pointer) (value : Value) → IsNumberValue value → Cased (moved memory back count at value)
moved_cased memory back count at (Number kind value) h =
    cased_if (misfits count at) (Left 5) _ tt (cased_if (has_ended memory at) (Undefined ENDED) _ tt (moved_by_cased at (if back then neg_ℤ value else value)))
moved_cased memory back count at Nothing h = cased_if (misfits count at) (Left 5) _ tt tt
moved_cased memory back count at value h = absurd h

abbrev pub AreMoved : Value → Value → Type 0
AreMoved left right = (IsPointerValue left × IsNumberValue right) ⊎ (IsNumberValue left × IsPointerValue right)

pub moved_either_cased : (memory : Memory) (back : Bool) (count : Element) (left right : Value) → AreMoved left right → Cased (moved_either memory back count left right)
moved_either_cased memory back count (Pointing at) right (inl h) = moved_cased memory back count at right h.1
moved_either_cased memory back count Nothing Nothing (inl h) = tt
moved_either_cased memory back count Nothing (Number kind value) (inl h) = tt
moved_either_cased memory back count Nothing right (inl h) = absurd h.1
moved_either_cased memory back count left right (inl h) = absurd h.0
moved_either_cased memory back count (Number kind value) (Pointing at) (inr h) = moved_cased memory back count at (Number kind value) tt
moved_either_cased memory back count (Number kind value) Nothing (inr h) = tt
moved_either_cased memory back count Nothing (Pointing at) (inr h) = moved_cased memory back count at Nothing tt
moved_either_cased memory back count Nothing Nothing (inr h) = tt
moved_either_cased memory back count (Number kind value) right (inr h) = absurd h.1
moved_either_cased memory back count Nothing right (inr h) = absurd h.1
moved_either_cased memory back count left right (inr h) = absurd h.0

pub as_pointer_cased : (value : Value) → IsScalarValue value → Cased (as_pointer value)
as_pointer_cased Nothing h = tt
as_pointer_cased (Number kind value) h = tt
as_pointer_cased (Pointing at) h = tt
as_pointer_cased value h = absurd h

pub with_pointers_cased : {A : Type 0} (left right : Value) (f : Pointer → Pointer → Result A Trap) → IsScalarValue left → IsScalarValue right → ((a b : Pointer) → Cased (f a b))
    → Cased (with_pointers left right f)
with_pointers_cased left right f l r h = cased_all (as_pointer left) _ (as_pointer_cased left l) (λ a. cased_all (as_pointer right) _ (as_pointer_cased right r) (λ b. h a b))

pub order_cased : (left right : Pointer) → Cased (order_of left right)
order_cased Null Null = tt
order_cased Null (At object cell low high stride) = tt
order_cased (At object cell low high stride) Null = tt
order_cased (At object cell low high stride) (At object' cell' low' high' stride') = cased_either (object == object' && are_told cell low high cell' low' high') _ _ tt tt

pub less_cased : (memory : Memory) (left right : Pointer) → Cased (less_of memory left right)
less_cased memory left right = cased_if (has_ended memory left || has_ended memory right) (Undefined ENDED) _ tt (order_cased left right)

pub equality_cased : (count : ℕ → ℕ) (own : Pointer → Scalar × Guard) (left right : Pointer) → Cased (equality_by count own left right)
equality_cased count own Null Null = tt
equality_cased count own Null (At object cell low high stride) = tt
equality_cased count own (At object cell low high stride) Null = tt
equality_cased count own (At object cell low high stride) (At object' cell' low' high' stride') = cased_either (object == object') _ _
    (cased_either (not (cell == cell')) (Ok false) _ tt (cased_either (are_told cell low high cell' low' high') (Ok true) (Err (Left END_COMPARED)) tt tt))
    (cased_if ((count object == cell) || (count object' == cell')) (Left END_COMPARED) _ tt
    (cased_if (is_in_literal own (At object cell low high stride) && is_in_literal own (At object' cell' low' high' stride')) (Left END_COMPARED) (Ok false) tt tt))

pub same_cased : (memory : Memory) (left right : Pointer) → Cased (same_of memory left right)
same_cased memory left right = cased_if (has_ended memory left || has_ended memory right) (Undefined ENDED) _ tt (equality_cased _ (shape_at memory) left right)

pub related_cased : (memory : Memory) (relation : Relation) (left right : Pointer) → Cased (related memory relation left right)
related_cased memory Less left right = cased_all (less_of memory left right) _ (less_cased memory left right) (λ b. tt)
related_cased memory Greater left right = cased_all (less_of memory right left) _ (less_cased memory right left) (λ b. tt)
related_cased memory LessEqual left right = cased_all (less_of memory right left) _ (less_cased memory right left) (λ b. tt)
related_cased memory GreaterEqual left right = cased_all (less_of memory left right) _ (less_cased memory left right) (λ b. tt)
related_cased memory Equal left right = cased_all (same_of memory left right) _ (same_cased memory left right) (λ b. tt)
related_cased memory NotEqual left right = cased_all (same_of memory left right) _ (same_cased memory left right) (λ b. tt)

pub difference_cased : (left right : Pointer) → Cased (difference_of left right)
difference_cased Null Null = tt
difference_cased Null (At object cell low high stride) = tt
difference_cased (At object cell low high stride) Null = tt
difference_cased (At object cell low high stride) (At object' cell' low' high' stride') = cased_either (object == object' && (low == low' && high == high')) _ _ tt tt

pub distance_cased : (memory : Memory) (left right : Pointer) → Cased (distance memory left right)
distance_cased memory left right =
    cased_all (differ_of memory left right) _ (cased_if (has_ended memory left || has_ended memory right) (Undefined ENDED) _ tt (difference_cased left right)) (λ by. tt)

pub both_fit_cased : {A : Type 0} (count : Element) (left right : Value) (rest : Result A Trap) → Cased rest → Cased (if_both_fit count left right rest)
both_fit_cased count left right rest h = cased_if (misfit_value count left) (Left 5) _ tt (cased_if (misfit_value count right) (Left 5) _ tt h)

-- ---- cells

pub reach_cased : (memory : Memory) (at : Pointer) → Cased (reach_of memory at)
reach_cased memory at = cased_if (has_ended memory at) (Undefined ENDED) _ tt (cased_if (is_null_or_end at) (Undefined NULL_OR_END) _ tt tt)

pub load_cased : (memory : Memory) (at : Pointer) (kind : Scalar) → Cased (load_of memory at kind)
load_cased memory at kind =
    cased_if (has_ended memory at) (Undefined ENDED) _ tt (cased_if (is_null_or_end at) (Undefined NULL_OR_END) _ tt
    (cased_if (holds_ended memory (cell_at memory at)) (Undefined ENDED) _ tt (cased_if (not (is_same (shape_at memory at).0 kind)) (Left OTHER_TYPE) _ tt
    (cased_if (is_unset (cell_at memory at)) (Undefined UNSET) _ tt tt))))

pub read_cased : (memory : Memory) (at : Pointer) (kinds : List Scalar) → Cased (cells_of memory at kinds)
read_cased memory at kinds =
    cased_if (has_ended memory at) (Undefined ENDED) _ tt (cased_if (is_null_or_end at) (Undefined NULL_OR_END) _ tt
    (cased_if (not (have_kinds (shape_run_at memory at (length kinds)) kinds)) (Left OTHER_TYPE) _ tt tt))

pub writing_cased : {A : Type 0} (ended end literal constant same : Bool) (state : A) → Cased (writing ended end literal constant same state)
writing_cased true end literal constant same state = tt
writing_cased false true literal constant same state = tt
writing_cased false false true constant same state = tt
writing_cased false false false true same state = tt
writing_cased false false false false false state = tt
writing_cased false false false false true state = tt

pub used_cased : (p : Program) (a : Access) (memory : Memory) (at : Pointer) → Cased (used p a memory at)
used_cased p access.Unused memory at = tt
used_cased p (access.Scalar kind volatile) memory at = cased_if (strays 1 at) (Left 5) _ tt (cased_all (load_of memory at kind) _ (load_cased memory at kind) (λ held. tt))
used_cased p (access.Cells row) memory at =
    cased_if (strays (length (p.kinds row)) at) (Left 5) _ tt (cased_all (cells_of memory at (p.kinds row)) _ (read_cased memory at (p.kinds row)) (λ held. tt))
used_cased p (access.Array stride whole) memory at =
    let rest = cased_all (reach_of memory at) (λ _. plainly memory (Pointing _)) (reach_cased memory at) (λ u. tt) in
    cased_either (whole == 0) _ _ rest (cased_if (strays whole at) (Left 5) _ tt rest)

pub at_place_cased : (p : Program) (a : Access) (memory : Memory) (result : Result Pointer Trap) → Cased result → Cased (at_place p a memory result)
at_place_cased p a memory result h = cased_all result (used p a memory) h (λ at. used_cased p a memory at)

pub giving_cased : (memory : Memory) (result : Result Value Trap) → Cased result → Cased (giving memory result)
giving_cased memory result h = cased_all result (plainly memory) h (λ value. tt)

-- ---- operators

pub changed_cased : (memory : Memory) (op : Operator) (kind : IntKind) (left right : Value) → IsNumberValue left → IsNumberValue right → Cased (changed memory (Arithmetic op kind) left right)
changed_cased memory op kind (Number k left) (Number l right) h g = computed_cased op kind left right
changed_cased memory op kind Nothing right h g = tt
changed_cased memory op kind (Number k left) Nothing h g = tt
changed_cased memory op kind (Number k left) right h g = absurd g
changed_cased memory op kind left right h g = absurd h

pub moved_change_cased : (memory : Memory) (back : Bool) (count : Element) (left right : Value) → AreMoved left right → Cased (changed memory (Move back count) left right)
moved_change_cased memory back count left right h = cased_all (moved_either memory back count left right) pointing (moved_either_cased memory back count left right h) (λ at. tt)

pub comparison_cased : (memory : Memory) (left right : Value) (f : ℤ → ℤ → Result Value Trap) → IsNumberValue left → IsNumberValue right → ((a b : ℤ) → Cased (f a b)) → Cased (comparison memory left right f)
comparison_cased memory left right f l r h = cased_all (integer left) _ (integer_cased left l) (λ a. cased_all (integer right) _ (integer_cased right r) (λ b. h a b))

pub followed_cased : (count : Element) (value : Value) (f : Pointer → Result Pointer Trap) → IsPointerValue value → ((at : Pointer) → Cased (f at)) → Cased (followed count value f)
followed_cased count (Pointing at) f h k = cased_if (misfits count at) (Left 5) _ tt (k at)
followed_cased count Nothing f h k = tt
followed_cased count value f h k = absurd h

pub inner_cased : (memory : Memory) (whole before : ℕ) (count : Element) (at : Pointer) → Cased (inner_of memory whole before count at)
inner_cased memory whole before count at = cased_if (strays whole at) (Left 5) _ tt (cased_all (reach_of memory at) _ (reach_cased memory at) (λ u. tt))

pub logical_cased : (memory : Memory) (f : Bool → Bool → Bool) (left : Value) → IsScalarValue left → Cased (logical memory f (left ∷ []))
logical_cased memory f left h = cased_all (asked memory left) holding (asked_cased memory left h) (λ b. tt)

pub logical_both_cased : (memory : Memory) (f : Bool → Bool → Bool) (left right : Value) → IsScalarValue left → IsScalarValue right → Cased (logical memory f (left ∷ right ∷ []))
logical_both_cased memory f left right h k =
    cased_if (is_nothing right) (Undefined 15) _ tt (cased_all (asked memory left) _ (asked_cased memory left h) (λ a. cased_all (asked memory right) _ (asked_cased memory right k) (λ b. tt)))

pub conditional_cased : (memory : Memory) (form : Form) (first chosen : Value) → IsScalarValue first → IsConvertedValue form chosen → Cased (conditional memory form (first ∷ chosen ∷ []))
conditional_cased memory form Nothing chosen h k =
    cased_if (is_nothing chosen && not (is_void form)) (Undefined 15) _ tt tt
conditional_cased memory form (Number kind value) chosen h k =
    cased_if (is_nothing chosen && not (is_void form)) (Undefined 15) _ tt (converted_cased memory form chosen k)
conditional_cased memory form (Pointing at) chosen h k =
    cased_if (is_nothing chosen && not (is_void form)) (Undefined 15) _ tt
    (cased_all (asked memory (Pointing at)) (λ _. converted memory form chosen) (asked_cased memory (Pointing at) tt) (λ b. converted_cased memory form chosen k))
conditional_cased memory form first chosen h k = absurd h

pub passed_cased : (p : Program) (a : Access) (memory : Memory) (value : Value) → Cased (passed p a memory value)
passed_cased p a memory (Place at) = used_cased p a memory at
passed_cased p a memory value = tt

pub address_cased : (value : Value) → IsPlaceValue value → Cased (address value)
address_cased (Place at) h = tt
address_cased value h = absurd h

-- ---- members

-- the cells of a scalar's type are one, which holds nothing or a value of it
pub taken_cased : (p : Program) (memory : Memory) (form : Form) (held : List Cell) → IsObject form
    → AllHold memory (kinds_in p form) held → Cased (taken memory form held)
taken_cased p memory form.Void held some h = absurd some
taken_cased p memory (form.Cells row) held some h = tt
taken_cased p memory (form.Number kind) [] some h = absurd h
taken_cased p memory (form.Number kind) (cell.Number value ∷ []) some h = tt
taken_cased p memory (form.Number kind) (cell.Unset ∷ []) some h = tt
taken_cased p memory (form.Number kind) (cell.Pointer at ∷ []) some h = absurd h.0
taken_cased p memory (form.Number kind) (held ∷ more ∷ rest) some h = absurd h.1
taken_cased p memory (form.Pointer to) [] some h = absurd h
taken_cased p memory (form.Pointer to) (cell.Pointer at ∷ []) some h = cased_if (has_ended memory at) (Undefined 10) _ tt tt
taken_cased p memory (form.Pointer to) (cell.Unset ∷ []) some h = tt
taken_cased p memory (form.Pointer to) (cell.Number value ∷ []) some h = absurd h.0
taken_cased p memory (form.Pointer to) (held ∷ more ∷ rest) some h = absurd h.1

-- ---- assignment

abbrev pub IsStoredValue : Form → Value → Type 0
IsStoredValue (form.Number kind) (Number from value) = Unit {0}
IsStoredValue (form.Pointer to) (Pointing at) = Unit {0}
IsStoredValue (form.Cells row) (Cells held) = Unit {0}
IsStoredValue form value = ⊥

pub stored_cased : (p : Program) (memory : Memory) (form : Form) (at : Pointer) (value : Value) → IsStoredValue form value → Cased (stored p memory form at value)
stored_cased p memory (form.Number kind) at (Number k value) h =
    writing_cased (has_ended memory at) (is_null_or_end at) (is_literal (shape_at memory at).1) (is_constant (shape_at memory at).1) (is_same (shape_at memory at).0 (scalar.Int kind))
    (with_cells memory (number_of at) (cell_of at) (cell.Number value ∷ []))
stored_cased p memory (form.Pointer to) at (Pointing target) h =
    writing_cased (has_ended memory at) (is_null_or_end at) (is_literal (shape_at memory at).1) (is_constant (shape_at memory at).1) (is_same (shape_at memory at).0 (scalar.Pointer to))
    (with_cells memory (number_of at) (cell_of at) (cell.Pointer target ∷ []))
stored_cased p memory (form.Cells row) at (Cells held) h =
    writing_cased (has_ended memory at) (is_null_or_end at) (list_any (λ s. is_literal s.1) (shape_run_at memory at (length (p.kinds row))))
    (list_any (λ s. is_constant s.1) (shape_run_at memory at (length (p.kinds row)))) (have_kinds (shape_run_at memory at (length (p.kinds row))) (p.kinds row))
    (with_cells memory (number_of at) (cell_of at) held)
stored_cased p memory form at value h = absurd h

stored_unless : (form : Form) (b : Bool) (trap : Trap) (value : Value) → IsStoredValue form value → IfOk (let r : Result Value Trap = if b then Err trap else Ok value in r) (IsStoredValue form)
stored_unless form true trap value h = tt
stored_unless form false trap value h = h

pub converted_stored : (memory : Memory) (form : Form) (value : Value) → IsObject form → IsConvertedValue form value → IfOk (converted memory form value) (IsStoredValue form)
converted_stored memory form.Void value o h = absurd o
converted_stored memory (form.Number kind) Nothing o h = tt
converted_stored memory (form.Number kind) (Number from value) o h = tt
converted_stored memory (form.Number kind) (Pointing at) o h =
    stored_unless (form.Number kind) (has_ended memory at) (Undefined 10) (Number kind (if is_null at then pos 0 else pos 1)) tt
converted_stored memory (form.Number kind) value o h = absurd h
converted_stored memory (form.Pointer to) Nothing o h = tt
converted_stored memory (form.Pointer to) (Number from value) o h = tt
converted_stored memory (form.Pointer to) (Pointing at) o h = tt
converted_stored memory (form.Pointer to) value o h = absurd h
converted_stored memory (form.Cells row) Nothing o h = tt
converted_stored memory (form.Cells row) (Cells held) o h = tt
converted_stored memory (form.Cells row) value o h = absurd h

pub assigned_cased : (p : Program) (memory : Memory) (form : Form) (left right : Value) → IsObject form → IsPlaceValue left → IsConvertedValue form right → Cased (assigned p memory form left right)
assigned_cased p memory form (Place at) right o l r =
    cased_if (strays (cells_in p form) at) (Left 5) _ tt
    (cased_then (IsStoredValue form) (converted memory form right) _ (converted_cased memory form right r) (converted_stored memory form right o r)
    (λ new is. cased_all (stored p memory form at new) _ (stored_cased p memory form at new is) (λ after. tt)))
assigned_cased p memory form left right o l r = absurd l

-- what is loaded of a scalar's type is a value of it
pub value_of_kind : (memory : Memory) (kind : IntKind) (held : Cell) → Holds memory (scalar.Int kind) held → IsNumberValue (value_in (scalar.Int kind) held)
value_of_kind memory kind cell.Unset h = tt
value_of_kind memory kind (cell.Number value) h = tt
value_of_kind memory kind (cell.Pointer at) h = absurd h

pub value_of_pointer : (memory : Memory) (to : ℕ) (held : Cell) → Holds memory (scalar.Pointer to) held → IsPointerValue (value_in (scalar.Pointer to) held)
value_of_pointer memory to cell.Unset h = tt
value_of_pointer memory to (cell.Number value) h = absurd h
value_of_pointer memory to (cell.Pointer at) h = tt

pub ok_then_of : {A B : Type 0} (P : A → Type 0) (Q : B → Type 0) (result : Result A Trap) (f : A → B) → IfOk result P → ((a : A) → P a → Q (f a)) → IfOk (then_by result (λ a. let r : Result B Trap = Ok (f a) in r)) Q
ok_then_of P Q (Ok a) f h k = k a h
ok_then_of P Q (Err trap) f h k = tt

pub exactly_number : (kind : IntKind) (result : IntEnd) → IfOk (exactly kind result) IsNumberValue
exactly_number kind (end.Value value) = tt
exactly_number kind (end.Undefined number) = tt

pub computed_number : (op : Operator) (kind : IntKind) (left right : ℤ) → IfOk (computed op kind left right) IsNumberValue
computed_number operator.Multiply kind left right = exactly_number kind _
computed_number operator.Divide kind left right = exactly_number kind _
computed_number operator.Remainder kind left right = exactly_number kind _
computed_number operator.Add kind left right = exactly_number kind _
computed_number operator.Subtract kind left right = exactly_number kind _
computed_number operator.ShiftLeft kind left right = exactly_number kind _
computed_number operator.ShiftRight kind left right = exactly_number kind _
computed_number operator.And kind left right = tt
computed_number operator.Xor kind left right = tt
computed_number operator.Or kind left right = tt

pub changed_number : (memory : Memory) (op : Operator) (kind : IntKind) (left right : Value) → IfOk (changed memory (Arithmetic op kind) left right) IsNumberValue
changed_number memory op kind (Number k left) (Number l right) = computed_number op kind left right
changed_number memory op kind left Nothing = tt
changed_number memory op kind left right = tt

pub changed_pointer : (memory : Memory) (back : Bool) (count : Element) (left right : Value) → IfOk (changed memory (Move back count) left right) IsPointerValue
changed_pointer memory back count left right = by_result (moved_either memory back count left right)
  where
    by_result : (r : Result Pointer Trap) → IfOk (then_by r pointing) IsPointerValue
    by_result (Ok at) = tt
    by_result (Err trap) = tt

pub as_scalar_number : (value : Value) → IsNumberValue value → IsScalarValue value
as_scalar_number Nothing h = tt
as_scalar_number (Number kind value) h = tt
as_scalar_number value h = absurd h

pub as_scalar_pointer : (value : Value) → IsPointerValue value → IsScalarValue value
as_scalar_pointer Nothing h = tt
as_scalar_pointer (Pointing at) h = tt
as_scalar_pointer value h = absurd h

-- the last steps of an update
pub changed_back : (p : Program) (memory : Memory) (form : Form) (volatile post : Bool) (at : Pointer) (old result : Value) → IsObject form → IsConvertedValue form result
    → Cased (then_by (converted memory form result) (λ new. then_by (stored p memory form at new) (did_update form volatile at post old new)))
changed_back p memory form volatile post at old result o h =
    cased_then (IsStoredValue form) (converted memory form result) _ (converted_cased memory form result h) (converted_stored memory form result o h)
    (λ new is. cased_all (stored p memory form at new) _ (stored_cased p memory form at new is) (λ after. tt))

pub updated_number_cased : (p : Program) (memory : Memory) (op : Operator) (kind own : IntKind) (volatile post : Bool) (at : Pointer) (right : Value) → IsSound memory → IsPointer memory at → IsNumberValue right
    → Cased (updated p memory (Arithmetic op kind) (form.Number own) volatile post (Place at) right)
updated_number_cased p memory op kind own volatile post at right sound h r =
    cased_if (strays 1 at) (Left 5) _ tt
    (cased_then IsNumberValue (loaded memory (form.Number own) at) _ (cased_all (load_of memory at (scalar.Int own)) _ (load_cased memory at (scalar.Int own)) (λ held. tt))
    (ok_then_of (Holds memory (scalar.Int own)) IsNumberValue (load_of memory at (scalar.Int own)) (λ held. value_in (scalar.Int own) held) (loaded_holds memory at (scalar.Int own) sound h)
    (λ held is. value_of_kind memory own held is))
    (λ old is. cased_then IsNumberValue (changed memory (Arithmetic op kind) old right) _ (changed_cased memory op kind old right is r) (changed_number memory op kind old right)
    (λ result number. changed_back p memory (form.Number own) volatile post at old result tt (as_scalar_number result number))))

pub updated_pointer_cased : (p : Program) (memory : Memory) (back : Bool) (count : Element) (to : ℕ) (volatile post : Bool) (at : Pointer) (right : Value) → IsSound memory → IsPointer memory at → IsNumberValue right
    → Cased (updated p memory (Move back count) (form.Pointer to) volatile post (Place at) right)
updated_pointer_cased p memory back count to volatile post at right sound h r =
    cased_if (strays 1 at) (Left 5) _ tt
    (cased_then IsPointerValue (loaded memory (form.Pointer to) at) _ (cased_all (load_of memory at (scalar.Pointer to)) _ (load_cased memory at (scalar.Pointer to)) (λ held. tt))
    (ok_then_of (Holds memory (scalar.Pointer to)) IsPointerValue (load_of memory at (scalar.Pointer to)) (λ held. value_in (scalar.Pointer to) held) (loaded_holds memory at (scalar.Pointer to) sound h)
    (λ held is. value_of_pointer memory to held is))
    (λ old is. cased_then IsPointerValue (changed memory (Move back count) old right) _ (moved_change_cased memory back count old right (inl (is, r))) (changed_pointer memory back count old right)
    (λ result moved. changed_back p memory (form.Pointer to) volatile post at old result tt (as_scalar_pointer result moved))))

pub updated_cased : (p : Program) (memory : Memory) (change : Change) (form : Form) (volatile post : Bool) (left right : Value) → IsChanged change form → IsSound memory → IsPlaceValue left
    → ((at : Pointer) → left ≡ Place at → IsPointer memory at) → IsNumberValue right → Cased (updated p memory change form volatile post left right)
updated_cased p memory (Arithmetic op kind) (form.Number own) volatile post (Place at) right c sound l h r = updated_number_cased p memory op kind own volatile post at right sound (h at refl) r
updated_cased p memory (Move back count) (form.Pointer to) volatile post (Place at) right c sound l h r = updated_pointer_cased p memory back count to volatile post at right sound (h at refl) r
updated_cased p memory change form volatile post (Place at) right c sound l h r = absurd c
updated_cased p memory change form volatile post left right c sound l h r = absurd l
