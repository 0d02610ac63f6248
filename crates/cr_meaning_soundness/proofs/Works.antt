-- The own work of an expression's node, on values that fit: its value fits, and the memory stays sound.
use Rattle.std.proofs.Common.{◌≡◌, ℕ, ◌-◌, ◌/◌, ◌^◌, ◌<◌, ◌≤◌, ◌==◌, Bool, true, false, not, ◌&&◌, ◌||◌, ℤ, pos, ◌-ℤ◌, Option, Some, Result, Ok, Err, IfOk, List, [], ◌∷◌, length, take, drop, if◌then◌else◌, refl, sym, subst, arith}
use Rattle.std.proofs.Math.Nat.{div-le_self}
use Rattle.std.proofs.lemmas.Bool.{eqb-true}
use Rattle.std.proofs.lemmas.Int.{ints}
use Rattle.cr_ints.specs.declared.kind.IntKind.{IntKind}
use Rattle.cr_ints.specs.declared.kind.IntKind.TheVariants.{Int as IntegerKind, Long as LongKind}
use Rattle.cr_ints.specs.IntKind.{Represents}
use Rattle.cr_ints.specs.Conversions.{convert_of}
use Rattle.cr_ints.proofs.Congruence.{convert_of-represents}
use Rattle.cr_memory.specs.declared.value.Element.{Element}
use Rattle.cr_memory.specs.declared.value.Pointer.{Pointer}
use Rattle.cr_memory.specs.declared.value.Pointer.TheVariants.{Null, At}
use Rattle.cr_memory.specs.declared.value.Scalar.{Scalar}
use Rattle.cr_memory.specs.declared.value.Scalar.TheVariants as scalar
use Rattle.cr_memory.specs.declared.value.Cell.{Cell}
use Rattle.cr_memory.specs.declared.value.Cell.TheVariants as cell
use Rattle.cr_memory.specs.declared.value.Trap.{Trap}
use Rattle.cr_memory.specs.declared.value.Trap.TheVariants.{Undefined, Left}
use Rattle.cr_memory.specs.declared.value.TheConstants.{ENDED, DIFFERENT_ARRAYS}
use Rattle.cr_memory.specs.Memory.{Memory, IsPointer, Holds, AllHold, live_object, has_ended}
use Rattle.cr_memory.specs.Access.{HasStride, is_null_or_end, load_of, cells_of}
use Rattle.cr_memory.specs.Pointers.{difference_of, differ_of, less_of, same_of}
use Rattle.cr_memory.specs.Continues.{Continues}
use Rattle.cr_memory.proofs.Comparing.{neither}
use Rattle.cr_memory.proofs.Continuing.{continues-refl, pointers-last}
use Rattle.cr_meaning.specs.World.{Program, World, Binding, bound, mark, then_by, object_for, whole_place}
use Rattle.cr_meaning.specs.Values.{kinds_in, cells_in, value_in, cells_of_value, asked, converted, is_null, compares, moved_either, changed, pointing, as_pointer, with_pointers, holding, related, if_both_fit, misfit_value, distance}
use Rattle.cr_meaning.specs.Work.{Did, plainly, giving, used, at_place, place_of, first_element, inner_of, taken, member_of, followed, stored, assigned, did_assign, did_update, loaded, updated, is_nothing, is_void, logical, conditional, cast, integer, comparison, address, alone, passed, on_one, on_two}
use Rattle.cr_meaning.specs.declared.op.Op.{Op}
use Rattle.cr_meaning.specs.declared.op.Access.{Access}
use Rattle.cr_meaning.specs.declared.op.Access.TheVariants as access
use Rattle.cr_meaning.specs.declared.op.Form.{Form}
use Rattle.cr_meaning.specs.declared.op.Form.TheVariants as form
use Rattle.cr_meaning.specs.declared.op.Change.{Change}
use Rattle.cr_meaning.specs.declared.op.Change.TheVariants.{Arithmetic, Move}
use Rattle.cr_meaning.specs.declared.op.Relation.{Relation}
use Rattle.cr_meaning.specs.declared.op.Relation.TheVariants.{Less, Greater, LessEqual, GreaterEqual, Equal, NotEqual}
use Rattle.cr_meaning.specs.declared.op.Work.{Work}
use Rattle.cr_meaning.specs.declared.op.Work.TheVariants as work
use Rattle.cr_meaning.specs.declared.value.Value.{Value}
use Rattle.cr_meaning.specs.declared.value.Value.TheVariants.{Nothing, Number, Pointer as Pointing, Place, Cells}
use Rattle.cr_meaning_soundness.specs.Sorts.{Sort, void, number, pointer, place, cells, chars, sort_of_scalar, sort_of, Returns, Fits, IsEntered, AreEntered, IsSound, IsWellFormed}
use Rattle.cr_meaning_soundness.specs.Statements.{Has, Converts}
use Rattle.cr_meaning_soundness.specs.Rules.{Uses, GivesObject, Casts, Passes, HasMember, changed_sort, Computes}
use Rattle.cr_meaning_soundness.proofs.Cells.{all_hold_later, hold_taken, hold_dropped, Written, some_there, loaded_holds, read_hold, saved, put}
use Rattle.cr_meaning_soundness.proofs.Numbers.{zero_or_one, truth_fits, computed_fits, signed_fits}
use Rattle.cr_meaning_soundness.proofs.Later.{chars_later}
use Rattle.cr_meaning_soundness.proofs.Pointers.{literal_fits, ok_then, ok_unless, ok_any, IsPlace, if_holds_ok, if_fits_ok, either_fits, pointed, whole_fits, element_fits, reach_then, inner_fits}

-- ---- what fitted before

pub fits_later : (old new : Memory) (sort : Sort) (value : Value) → Continues old new → Fits old sort value → Fits new sort value
fits_later old new (place count) Nothing c h = absurd h
fits_later old new chars Nothing c h = absurd h
fits_later old new sort Nothing c h = tt
fits_later old new (number kind) (Number from value) c h = h
fits_later old new pointer (Pointing at) c h = pointers-last old new at c h
fits_later old new (place count) (Place at) c h = (pointers-last old new at c h.0, h.1)
fits_later old new (cells kinds) (Cells held) c h = all_hold_later old new kinds held c h
fits_later old new chars (Place (At object cell low high stride)) c h =
    (pointers-last old new (At object cell low high stride) c h.0, chars_later old new object c h.0.entered h.1)
fits_later old new sort value c h = absurd h

-- a place is one of the memory
pub placed : (memory : Memory) (sort : Sort) (at : Pointer) → Fits memory sort (Place at) → IsPointer memory at
placed memory (place count) at h = h.0
placed memory chars (At object cell low high stride) h = h.0
placed memory chars Null h = absurd h
placed memory sort at h = absurd h

-- ---- own work

pub record Does (old : Memory) (own : Sort) (did : Did) : Type 0 where
  pub fits : Fits did.memory own did.value
  pub written : Written old did.memory

unwritten : (memory : Memory) → IsSound memory → Written memory memory
unwritten memory sound = record { sound = sound; continues = continues-refl memory }

giving_fits : (memory : Memory) (own : Sort) (result : Result Value Trap) → IsSound memory → IfOk result (Fits memory own) → IfOk (giving memory result) (Does memory own)
giving_fits memory own result sound h = ok_then (Fits memory own) (Does memory own) result (plainly memory) h (λ value fits. record { fits = fits; written = unwritten memory sound })

-- the same where the sort is known
pub giving_as : (memory : Memory) (own sort : Sort) (result : Result Value Trap) → own ≡ sort → IsSound memory → IfOk result (Fits memory sort) → IfOk (giving memory result) (Does memory own)
giving_as memory own sort result e sound h =
    let F : Sort → Type 0 = λ s. IfOk result (Fits memory s) in giving_fits memory own result sound (subst F (sym e) h)

-- ---- places used as values

value_in_fits : (memory : Memory) (kind : Scalar) (held : Cell) → Holds memory kind held → Fits memory (sort_of_scalar kind) (value_in kind held)
value_in_fits memory (scalar.Int kind) (cell.Number value) h = (refl, h)
value_in_fits memory (scalar.Int kind) (cell.Pointer at) h = absurd h
value_in_fits memory (scalar.Int kind) cell.Unset h = tt
value_in_fits memory (scalar.Pointer to) (cell.Number value) h = absurd h
value_in_fits memory (scalar.Pointer to) (cell.Pointer at) h = h
value_in_fits memory (scalar.Pointer to) cell.Unset h = tt

ok_either : {A : Type 0} (Q : A → Type 0) (b : Bool) (one other : Result A Trap) → IfOk one Q → IfOk other Q → IfOk (if b then one else other) Q
ok_either Q true one other h k = h
ok_either Q false one other h k = k

used_fits : (p : Program) (a : Access) (memory : Memory) (at : Pointer) (count : ℕ) (own : Sort) → IsSound memory → IsPlace memory count at → Uses p a count own
    → IfOk (used p a memory at) (Does memory own)
used_fits p access.Unused memory at count own sound h u =
    let F : Sort → Type 0 = λ s. Fits memory s (Place at) in record { fits = subst F (sym u) h; written = unwritten memory sound }
used_fits p (access.Scalar kind volatile) memory at count own sound h u =
    if_holds_ok (Does memory own) 1 at _ (λ same. ok_then (Holds memory kind) (Does memory own) (load_of memory at kind) _ (loaded_holds memory at kind sound h.0)
    (λ held holds. let F : Sort → Type 0 = λ s. Fits memory s (value_in kind held) in
    record { fits = subst F (sym u) (value_in_fits memory kind held holds); written = unwritten memory sound }))
used_fits p (access.Cells row) memory at count own sound h u =
    if_holds_ok (Does memory own) (length (p.kinds row)) at _ (λ same. ok_then (AllHold memory (p.kinds row)) (Does memory own) (cells_of memory at (p.kinds row)) _
    (read_hold memory at (p.kinds row) sound h.0 same)
    (λ held hold. let F : Sort → Type 0 = λ s. Fits memory s (Cells held) in record { fits = subst F (sym u) hold; written = unwritten memory sound }))
used_fits p (access.Array stride whole) memory at count own sound h u =
    let F : Sort → Type 0 = λ s. Fits memory s (Pointing (first_element at stride)) in
    let rest = reach_then (Does memory own) (has_ended memory at) (is_null_or_end at) (λ _. plainly memory (Pointing (first_element at stride)))
    (λ alive inside. record { fits = subst F (sym u.0) (element_fits memory at count stride h u.1 u.2 inside); written = unwritten memory sound }) in
    ok_either (Does memory own) (whole == 0) _ _ rest (if_holds_ok (Does memory own) whole at _ (λ same. rest))

at_place_fits : (p : Program) (a : Access) (memory : Memory) (result : Result Pointer Trap) (count : ℕ) (own : Sort) → IsSound memory → IfOk result (IsPlace memory count)
    → Uses p a count own → IfOk (at_place p a memory result) (Does memory own)
at_place_fits p a memory result count own sound h u =
    ok_then (IsPlace memory count) (Does memory own) result (used p a memory) h (λ at here. used_fits p a memory at count own sound here u)

place_by : (p : Program) (memory : Memory) (node declared object of : ℕ) (rest : List Binding) (Q : Pointer → Type 0) (b : Bool) → IsEntered p memory declared object
    → ((object : ℕ) → IsEntered p memory node object → Q (whole_place memory object of))
    → IfOk (place_of memory (object_for rest node) of) Q → (declared == node) ≡ b
    → IfOk (place_of memory (if b then Some object else object_for rest node) of) Q
place_by p memory node declared object of rest Q true h f other e =
    let E : ℕ → Type 0 = λ n. IsEntered p memory n object in f object (subst E (eqb-true declared node e) h)
place_by p memory node declared object of rest Q false h f other e = other

-- the object of a node, if it has one
entered_place : (p : Program) (memory : Memory) (node of : ℕ) (bindings : List Binding) (Q : Pointer → Type 0) → AreEntered p memory bindings
    → ((object : ℕ) → IsEntered p memory node object → Q (whole_place memory object of)) → IfOk (place_of memory (object_for bindings node) of) Q
entered_place p memory node of [] Q h f = tt
entered_place p memory node of (mark ∷ rest) Q h f = entered_place p memory node of rest Q h f
entered_place p memory node of (bound declared object ∷ rest) Q h f =
    place_by p memory node declared object of rest Q (declared == node) h.0 f (entered_place p memory node of rest Q h.1 f) refl

object_fits : (p : Program) (a : Access) (memory : Memory) (node of : ℕ) (bindings : List Binding) (own : Sort) → IsSound memory → AreEntered p memory bindings → 1 ≤ length (p.shape node)
    → GivesObject p a node own → IfOk (at_place p a memory (place_of memory (object_for bindings node) of)) (Does memory own)
object_fits p a memory node of bindings chars sound entered one g =
    let A : Access → Type 0 = λ x. IfOk (at_place p x memory (place_of memory (object_for bindings node) of)) (Does memory chars) in
    subst A (sym g.0) (ok_then (λ at. Fits memory chars (Place at)) (Does memory chars) _ _
    (entered_place p memory node of bindings (λ at. Fits memory chars (Place at)) entered (λ object there. literal_fits p memory node object of sound there one g.1))
    (λ at fits. record { fits = fits; written = unwritten memory sound }))
object_fits p a memory node of bindings own sound entered one g =
    at_place_fits p a memory _ (length (p.shape node)) own sound
    (entered_place p memory node of bindings (IsPlace memory (length (p.shape node))) entered (λ object there. whole_fits p memory node object of sound there one)) g

passed_fits : (p : Program) (a : Access) (memory : Memory) (sort : Sort) (value : Value) (own : Sort) → IsSound memory → Passes p a own sort → Fits memory sort value
    → IfOk (passed p a memory value) (Does memory own)
passed_fits p a memory (place count) (Place at) own sound u h = used_fits p a memory at count own sound h u
passed_fits p a memory chars (Place at) own sound u h = absurd u
passed_fits p a memory sort (Place at) own sound u h = absurd h
passed_fits p a memory (place count) value own sound u h = absurd h
passed_fits p a memory chars value own sound u h = absurd u
passed_fits p a memory sort value own sound u h =
    let F : Sort → Type 0 = λ s. Fits memory s value in record { fits = subst F u h; written = unwritten memory sound }

-- ---- members

taken_fits : (p : Program) (memory : Memory) (form : Form) (held : List Cell) → AllHold memory (kinds_in p form) held → IfOk (taken memory form held) (Fits memory (sort_of p form))
taken_fits p memory (form.Cells row) held h = h
taken_fits p memory (form.Number kind) (cell.Number value ∷ []) h = (refl, h.0)
taken_fits p memory (form.Pointer to) (cell.Pointer at ∷ []) h = ok_unless (Fits memory pointer) (has_ended memory at) (Undefined 10) _ (λ e. h.0)
taken_fits p memory form (cell.Unset ∷ []) h = tt
taken_fits p memory form held h = tt

member_of_fits : (p : Program) (a : Access) (memory : Memory) (whole before : ℕ) (count : Element) (form : Form) (sort : Sort) (value : Value) (own : Sort) → IsSound memory
    → HasMember p a whole before count.cells form own sort → Fits memory sort value → IfOk (member_of p a memory whole before count form value) (Does memory own)
member_of_fits p a memory whole before count form (place size) (Place at) own sound m h =
    at_place_fits p a memory (inner_of memory whole before count at) count.cells own sound (inner_fits memory whole before count at m.0 h.0) m.1
member_of_fits p a memory whole before count form chars (Place at) own sound m h = absurd m
member_of_fits p a memory whole before count form sort (Place at) own sound m h = absurd h
member_of_fits p a memory whole before count form (cells kinds) (Cells held) own sound m h =
    let K : List Scalar → Type 0 = λ ks. AllHold memory ks (take count.cells (drop before held)) in
    giving_as memory own (sort_of p form) _ m.own_is sound
    (taken_fits p memory form (take count.cells (drop before held)) (subst K m.among (hold_taken memory _ _ count.cells (hold_dropped memory kinds held before h))))
member_of_fits p a memory whole before count form sort (Cells held) own sound m h = absurd h
member_of_fits p a memory whole before count form sort value own sound m h = tt

-- ---- conversions

null_or_not : (kind : IntKind) (b : Bool) → Represents kind (if b then pos 0 else pos 1)
null_or_not kind true = zero_or_one kind false
null_or_not kind false = zero_or_one kind true

pub converted_fits : (p : Program) (memory : Memory) (form : Form) (sort : Sort) (value : Value) → Converts p form sort → Fits memory sort value
    → IfOk (converted memory form value) (Fits memory (sort_of p form))
converted_fits p memory form.Void sort value c h = let F : Sort → Type 0 = λ s. Fits memory s value in subst F c h
converted_fits p memory form sort Nothing c h = tt
converted_fits p memory (form.Number kind) sort (Number from value) c h = (refl, convert_of-represents value kind)
converted_fits p memory (form.Number kind) sort (Pointing at) c h =
    ok_unless (Fits memory (number kind)) (has_ended memory at) (Undefined 10) _ (λ e. (refl, null_or_not kind (is_null at)))
converted_fits p memory (form.Pointer to) sort (Number from value) c h = tt
converted_fits p memory (form.Pointer to) sort (Pointing at) c h = pointed memory sort at h
converted_fits p memory (form.Cells row) sort (Cells held) c h = let F : Sort → Type 0 = λ s. Fits memory s (Cells held) in subst F c h
converted_fits p memory form sort value c h = tt

pub nothing_fits : (p : Program) (memory : Memory) (form : Form) → Fits memory (sort_of p form) Nothing
nothing_fits p memory form.Void = tt
nothing_fits p memory (form.Number kind) = tt
nothing_fits p memory (form.Pointer to) = tt
nothing_fits p memory (form.Cells row) = tt

-- a value of the type, and none only of type void
pub converted_returns : (p : Program) (memory : Memory) (form : Form) (sort : Sort) (value : Value) → Converts p form sort → Fits memory sort value
    → IfOk (converted memory form value) (Returns p memory form)
converted_returns p memory form.Void sort value c h = let F : Sort → Type 0 = λ s. Fits memory s value in nothing_else value (subst F c h)
  where
    nothing_else : (value : Value) → Fits memory void value → Returns p memory form.Void value
    nothing_else Nothing h = (tt, refl)
    nothing_else value h = absurd h
converted_returns p memory form sort Nothing c h = tt
converted_returns p memory (form.Number kind) sort (Number from value) c h = ((refl, convert_of-represents value kind), refl)
converted_returns p memory (form.Number kind) sort (Pointing at) c h =
    ok_unless (Returns p memory (form.Number kind)) (has_ended memory at) (Undefined 10) _ (λ e. ((refl, null_or_not kind (is_null at)), refl))
converted_returns p memory (form.Pointer to) sort (Number from value) c h = (tt, refl)
converted_returns p memory (form.Pointer to) sort (Pointing at) c h = (pointed memory sort at h, refl)
converted_returns p memory (form.Cells row) sort (Cells held) c h = let F : Sort → Type 0 = λ s. Fits memory s (Cells held) in (subst F c h, refl)
converted_returns p memory form sort value c h = tt

-- the cells of a converted value
pub converted_holds : (p : Program) (memory : Memory) (form : Form) (sort : Sort) (value : Value) → Converts p form sort → Fits memory sort value
    → IfOk (converted memory form value) (λ new. AllHold memory (kinds_in p form) (cells_of_value new))
converted_holds p memory form.Void sort value c h = let F : Sort → Type 0 = λ s. Fits memory s value in nothing_else value (subst F c h)
  where
    nothing_else : (value : Value) → Fits memory void value → AllHold memory [] (cells_of_value value)
    nothing_else Nothing h = tt
    nothing_else value h = absurd h
converted_holds p memory form sort Nothing c h = tt
converted_holds p memory (form.Number kind) sort (Number from value) c h = (convert_of-represents value kind, tt)
converted_holds p memory (form.Number kind) sort (Pointing at) c h =
    ok_unless (λ new. AllHold memory (scalar.Int kind ∷ []) (cells_of_value new)) (has_ended memory at) (Undefined 10) _ (λ e. (null_or_not kind (is_null at), tt))
converted_holds p memory (form.Pointer to) sort (Number from value) c h = (tt, tt)
converted_holds p memory (form.Pointer to) sort (Pointing at) c h = (pointed memory sort at h, tt)
converted_holds p memory (form.Cells row) sort (Cells held) c h = let F : Sort → Type 0 = λ s. Fits memory s (Cells held) in subst F c h
converted_holds p memory form sort value c h = tt

cast_fits : (p : Program) (memory : Memory) (form : Form) (sort : Sort) (value : Value) → Casts p form sort → Fits memory sort value → IfOk (cast memory form value) (Fits memory (sort_of p form))
cast_fits p memory form.Void sort value c h = tt
cast_fits p memory (form.Number kind) sort (Pointing at) c h =
    ok_unless (Fits memory (number kind)) (has_ended memory at) (Undefined 10) _ (λ e. converted_fits p memory (form.Number kind) sort (Pointing at) c h)
cast_fits p memory (form.Pointer to) sort (Pointing at) c h =
    ok_unless (Fits memory pointer) (has_ended memory at) (Undefined 10) _ (λ e. converted_fits p memory (form.Pointer to) sort (Pointing at) c h)
cast_fits p memory (form.Cells row) sort (Pointing at) c h =
    ok_unless (Fits memory (cells (p.kinds row))) (has_ended memory at) (Undefined 10) _ (λ e. converted_fits p memory (form.Cells row) sort (Pointing at) c h)
cast_fits p memory (form.Number kind) sort value c h = converted_fits p memory (form.Number kind) sort value c h
cast_fits p memory (form.Pointer to) sort value c h = converted_fits p memory (form.Pointer to) sort value c h
cast_fits p memory (form.Cells row) sort value c h = converted_fits p memory (form.Cells row) sort value c h

-- ---- operators

changed_fits : (memory : Memory) (change : Change) (one other : Sort) (left right : Value) → Fits memory one left → Fits memory other right
    → IfOk (changed memory change left right) (Fits memory (changed_sort change))
changed_fits memory (Move back count) one other left right l r =
    ok_then (IsPlace memory count.cells) (Fits memory pointer) (moved_either memory back count left right) pointing (either_fits memory back count one other left right l r) (λ at h. h.0)
changed_fits memory (Arithmetic op kind) one other (Number k left) (Number m right) l r = computed_fits memory op kind left right
changed_fits memory (Arithmetic op kind) one other left Nothing l r = tt
changed_fits memory (Arithmetic op kind) one other left right l r = tt

holding_fits : {A : Type 0} (memory : Memory) (result : Result A Trap) (f : A → Bool) → IfOk (then_by result (λ a. holding (f a))) (Fits memory (number IntegerKind))
holding_fits memory (Ok a) f = truth_fits memory (f a)
holding_fits memory (Err e) f = tt

related_fits : (memory : Memory) (relation : Relation) (left right : Pointer) → IfOk (related memory relation left right) (Fits memory (number IntegerKind))
related_fits memory Less left right = holding_fits memory (less_of memory left right) (λ b. b)
related_fits memory Greater left right = holding_fits memory (less_of memory right left) (λ b. b)
related_fits memory LessEqual left right = holding_fits memory (less_of memory right left) (λ b. not b)
related_fits memory GreaterEqual left right = holding_fits memory (less_of memory left right) (λ b. not b)
related_fits memory Equal left right = holding_fits memory (same_of memory left right) (λ b. b)
related_fits memory NotEqual left right = holding_fits memory (same_of memory left right) (λ b. not b)

as_pointer_fits : (memory : Memory) (sort : Sort) (value : Value) → Fits memory sort value → IfOk (as_pointer value) (IsPointer memory)
as_pointer_fits memory sort (Pointing at) h = pointed memory sort at h
as_pointer_fits memory sort (Number kind value) h = tt
as_pointer_fits memory sort value h = tt

with_pointers_ok : {A : Type 0} (memory : Memory) (Q : A → Type 0) (one other : Sort) (left right : Value) (f : Pointer → Pointer → Result A Trap) → Fits memory one left → Fits memory other right
    → ((a b : Pointer) → IsPointer memory a → IsPointer memory b → IfOk (f a b) Q) → IfOk (with_pointers left right f) Q
with_pointers_ok memory Q one other left right f l r h =
    ok_then (IsPointer memory) Q (as_pointer left) _ (as_pointer_fits memory one left l)
    (λ a ha. ok_then (IsPointer memory) Q (as_pointer right) _ (as_pointer_fits memory other right r) (λ b hb. h a b ha hb))

comparison_fits : (memory : Memory) (left right : Value) (f : ℤ → ℤ → Bool) → IfOk (comparison memory left right (λ l. λ r. holding (f l r))) (Fits memory (number IntegerKind))
comparison_fits memory left right f =
    ok_then (λ _. Unit {0}) (Fits memory (number IntegerKind)) (integer left) _ (ok_any (integer left)) (λ l _. holding_fits memory (integer right) (f l))

-- the subscripts of one array differ by a number of `long`
small_place : (memory : Memory) (object cell low high : ℕ) (stride : Element) → IsSound memory → IsPointer memory (At object cell low high stride) → has_ended memory (At object cell low high stride) ≡ false
    → (cell - low) / stride.cells < 2 ^ 63
small_place memory object cell low high stride sound h alive =
    let o = some_there (live_object memory object) alive in
    let w = h.within o.0 o.1 in
    let s = sound.small object o.0 o.1 in
    let d = div-le_self (cell - low) stride.cells in
    let b = h.high_after in
    omega arith

between : (a b : ℕ) → a < 2 ^ 63 → b < 2 ^ 63 → Represents LongKind (pos a -ℤ pos b)
between a b ha hb = record { from_least = omega (arith, ints); to_greatest = omega (arith, ints) }

difference_fits : (memory : Memory) (left right : Pointer) → IsSound memory → IsPointer memory left → IsPointer memory right → has_ended memory left ≡ false → has_ended memory right ≡ false
    → IfOk (difference_of left right) (Represents LongKind)
difference_fits memory Null Null sound l r a b = tt
difference_fits memory Null (At object cell low high stride) sound l r a b = tt
difference_fits memory (At object cell low high stride) Null sound l r a b = tt
difference_fits memory (At object cell low high stride) (At object' cell' low' high' stride') sound l r a b =
    ok_either (Represents LongKind) (object == object' && (low == low' && high == high')) (Ok (pos ((cell - low) / stride.cells) -ℤ pos ((cell' - low') / stride'.cells))) (Err (Undefined DIFFERENT_ARRAYS))
    (between _ _ (small_place memory object cell low high stride sound l a) (small_place memory object' cell' low' high' stride' sound r b)) tt

distance_fits : (memory : Memory) (left right : Pointer) → IsSound memory → IsPointer memory left → IsPointer memory right → IfOk (distance memory left right) (Fits memory (number LongKind))
distance_fits memory left right sound l r =
    ok_then (Represents LongKind) (Fits memory (number LongKind)) (differ_of memory left right) _
    (ok_unless (Represents LongKind) (has_ended memory left || has_ended memory right) (Undefined ENDED) _
    (λ e. let n = neither _ _ e in difference_fits memory left right sound l r n.0 n.1))
    (λ by h. (refl, h))

both_fit_ok : {A : Type 0} (Q : A → Type 0) (count : Element) (left right : Value) (rest : Result A Trap) → IfOk rest Q → IfOk (if_both_fit count left right rest) Q
both_fit_ok Q count left right rest h = ok_unless Q (misfit_value count left) (Left 5) _ (λ e. ok_unless Q (misfit_value count right) (Left 5) rest (λ e. h))

pub logical_fits : (memory : Memory) (f : Bool → Bool → Bool) (values : List Value) → IfOk (logical memory f values) (Fits memory (number IntegerKind))
logical_fits memory f [] = tt
logical_fits memory f (left ∷ []) = holding_fits memory (asked memory left) (λ b. b)
logical_fits memory f (left ∷ right ∷ []) =
    ok_unless (Fits memory (number IntegerKind)) (is_nothing right) (Undefined 15) _
    (λ e. ok_then (λ _. Unit {0}) (Fits memory (number IntegerKind)) (asked memory left) _ (ok_any (asked memory left)) (λ l _. holding_fits memory (asked memory right) (f l)))
logical_fits memory f (left ∷ right ∷ more ∷ rest) = tt

address_fits : (memory : Memory) (sort : Sort) (value : Value) → Fits memory sort value → IfOk (address value) (Fits memory pointer)
address_fits memory sort (Place at) h = placed memory sort at h
address_fits memory sort value h = tt

followed_fits : (memory : Memory) (Q : Pointer → Type 0) (count : Element) (sort : Sort) (value : Value) (f : Pointer → Result Pointer Trap) → Fits memory sort value
    → ((at : Pointer) → IsPointer memory at → HasStride at count.cells → IfOk (f at) Q) → IfOk (followed count value f) Q
followed_fits memory Q count sort (Pointing at) f h k = if_fits_ok Q count at (f at) (k at (pointed memory sort at h))
followed_fits memory Q count sort value f h k = tt

-- ---- assignment

stored_fits : (p : Program) (memory : Memory) (form : Form) (at : Pointer) (new : Value) → IsSound memory → IsPointer memory at → HasStride at (cells_in p form) → Fits memory (sort_of p form) new
    → IfOk (stored p memory form at new) (Written memory)
stored_fits p memory (form.Number kind) at (Number k value) sound h same v = saved memory at (scalar.Int kind) (cell.Number value) sound h v.1
stored_fits p memory (form.Pointer to) at (Pointing target) sound h same v = saved memory at (scalar.Pointer to) (cell.Pointer target) sound h v
stored_fits p memory (form.Cells row) at (Cells held) sound h same v = put memory at (p.kinds row) held sound h same v
stored_fits p memory form at new sound h same v = tt

assigned_fits : (p : Program) (memory : Memory) (form : Form) (one other : Sort) (left right : Value) → IsSound memory → Converts p form other → Fits memory one left → Fits memory other right
    → IfOk (assigned p memory form left right) (Does memory (sort_of p form))
assigned_fits p memory form one other (Place at) right sound c l r =
    if_holds_ok (Does memory (sort_of p form)) (cells_in p form) at _
    (λ same. ok_then (Fits memory (sort_of p form)) (Does memory (sort_of p form)) (converted memory form right) _ (converted_fits p memory form other right c r)
    (λ new fits. ok_then (Written memory) (Does memory (sort_of p form)) (stored p memory form at new) (did_assign p form at new) (stored_fits p memory form at new sound (placed memory one at l) same fits)
    (λ after written. record { fits = fits_later memory after (sort_of p form) new written.continues fits; written = written })))
assigned_fits p memory form one other left right sound c l r = tt

either_value : (memory : Memory) (sort : Sort) (b : Bool) (one other : Value) → Fits memory sort one → Fits memory sort other → Fits memory sort (if b then one else other)
either_value memory sort true one other h k = h
either_value memory sort false one other h k = k

loaded_fits : (p : Program) (memory : Memory) (form : Form) (at : Pointer) → IsSound memory → IsPointer memory at → IfOk (loaded memory form at) (Fits memory (sort_of p form))
loaded_fits p memory (form.Number kind) at sound h =
    ok_then (Holds memory (scalar.Int kind)) (Fits memory (number kind)) (load_of memory at (scalar.Int kind)) _ (loaded_holds memory at (scalar.Int kind) sound h) (λ held holds. value_in_fits memory (scalar.Int kind) held holds)
loaded_fits p memory (form.Pointer to) at sound h =
    ok_then (Holds memory (scalar.Pointer to)) (Fits memory pointer) (load_of memory at (scalar.Pointer to)) _ (loaded_holds memory at (scalar.Pointer to) sound h) (λ held holds. value_in_fits memory (scalar.Pointer to) held holds)
loaded_fits p memory form.Void at sound h = tt
loaded_fits p memory (form.Cells row) at sound h = tt

updated_at : (p : Program) (memory : Memory) (change : Change) (form : Form) (volatile post : Bool) (other : Sort) (at : Pointer) (right : Value) → IsSound memory
    → Converts p form (changed_sort change) → (HasStride at 1 → HasStride at (cells_in p form)) → IsPointer memory at → Fits memory other right
    → IfOk (updated p memory change form volatile post (Place at) right) (Does memory (sort_of p form))
updated_at p memory change form volatile post other at right sound c one h r =
    let own = sort_of p form in
    if_holds_ok (Does memory own) 1 at _
    (λ same. ok_then (Fits memory own) (Does memory own) (loaded memory form at) _ (loaded_fits p memory form at sound h)
    (λ old old_fits. ok_then (Fits memory (changed_sort change)) (Does memory own) (changed memory change old right) _ (changed_fits memory change own other old right old_fits r)
    (λ result result_fits. ok_then (Fits memory own) (Does memory own) (converted memory form result) _ (converted_fits p memory form (changed_sort change) result c result_fits)
    (λ new new_fits. ok_then (Written memory) (Does memory own) (stored p memory form at new) (did_update form volatile at post old new) (stored_fits p memory form at new sound h (one same) new_fits)
    (λ after written. record {
      fits = either_value after own post old new (fits_later memory after own old written.continues old_fits) (fits_later memory after own new written.continues new_fits);
      written = written;
    })))))

updated_fits : (p : Program) (memory : Memory) (change : Change) (form : Form) (volatile post : Bool) (one other : Sort) (left right : Value) → IsSound memory
    → Fits memory one left → Fits memory other right → IfOk (updated p memory change form volatile post left right) (Does memory (sort_of p form))
updated_fits p memory change (form.Number kind) volatile post one other (Place at) right sound l r =
    updated_at p memory change (form.Number kind) volatile post other at right sound tt (λ same. same) (placed memory one at l) r
updated_fits p memory change (form.Pointer to) volatile post one other (Place at) right sound l r =
    updated_at p memory change (form.Pointer to) volatile post other at right sound tt (λ same. same) (placed memory one at l) r
updated_fits p memory change form.Void volatile post one other (Place at) right sound l r = if_holds_ok (Does memory void) 1 at _ (λ same. tt)
updated_fits p memory change (form.Cells row) volatile post one other (Place at) right sound l r = if_holds_ok (Does memory (cells (p.kinds row))) 1 at _ (λ same. tt)
updated_fits p memory change form volatile post one other left right sound l r = tt

-- ---- own work, by the number of operands

as_sort : (memory : Memory) (own sort : Sort) (result : Result Did Trap) → own ≡ sort → IfOk result (Does memory sort) → IfOk result (Does memory own)
as_sort memory own sort result e h = let F : Sort → Type 0 = λ s. IfOk result (Does memory s) in subst F (sym e) h

pub alone_fits : (p : Program) (sorts : ℕ → Option Sort) (op : Op) (world : World) (w : Work) (own : Sort) → IsWellFormed p world → Computes p sorts op w own
    → IfOk (alone p world w op.access) (Does world.memory own)
alone_fits p sorts op world (work.Constant kind value) own well g =
    let F : Sort → Type 0 = λ s. Fits world.memory s (Number kind value) in record { fits = subst F (sym g.0) (refl, g.1); written = unwritten world.memory well.sound }
alone_fits p sorts op world (work.Object node of) own well g =
    object_fits p op.access world.memory node of world.bindings own well.sound well.entered g.0 g.1
alone_fits p sorts op world other own well g = tt

pub one_fits : (p : Program) (sorts : ℕ → Option Sort) (op : Op) (world : World) (w : Work) (value : Value) (sort own : Sort) → IsWellFormed p world → Computes p sorts op w own
    → ((P : Sort → Type 0) → Has sorts op 0 P → P sort) → Fits world.memory sort value → IfOk (on_one p world w op.access value) (Does world.memory own)
one_fits p sorts op world work.Pass value sort own well g given h = passed_fits p op.access world.memory sort value own well.sound (given (Passes p op.access own) g) h
one_fits p sorts op world (work.Unary sign kind) value sort own well g given h =
    giving_as world.memory own (number kind) _ g well.sound
    (ok_then (λ _. Unit {0}) (Fits world.memory (number kind)) (integer value) _ (ok_any (integer value)) (λ n _. signed_fits world.memory sign kind n))
one_fits p sorts op world work.Not value sort own well g given h =
    giving_as world.memory own (number IntegerKind) _ g well.sound (holding_fits world.memory (asked world.memory value) (λ b. not b))
one_fits p sorts op world (work.Cast form) value sort own well g given h =
    giving_as world.memory own (sort_of p form) _ g.0 well.sound (cast_fits p world.memory form sort value (given (Casts p form) g.1) h)
one_fits p sorts op world work.AddressOf value sort own well g given h = giving_as world.memory own pointer _ g well.sound (address_fits world.memory sort value h)
one_fits p sorts op world (work.Dereference count) value sort own well g given h =
    at_place_fits p op.access world.memory _ count.cells own well.sound
    (followed_fits world.memory (IsPlace world.memory count.cells) count sort value _ h
    (λ at fits same. ok_unless (IsPlace world.memory count.cells) (has_ended world.memory at) (Undefined 10) _ (λ e. (fits, same)))) g
one_fits p sorts op world (work.Member whole before count form) value sort own well g given h =
    member_of_fits p op.access world.memory whole before count form sort value own well.sound (given (HasMember p op.access whole before count.cells form own) g) h
one_fits p sorts op world (work.PointerMember whole before count) value sort own well g given h =
    at_place_fits p op.access world.memory _ count.cells own well.sound
    (followed_fits world.memory (IsPlace world.memory count.cells) whole sort value _ h (λ at fits same. inner_fits world.memory whole.cells before count at g.0 fits)) g.1
one_fits p sorts op world (work.Update change form volatile post) value sort own well g given h =
    as_sort world.memory own (sort_of p form) _ g
    (updated_fits p world.memory change form volatile post sort (number IntegerKind) value (Number IntegerKind (pos 1)) well.sound h (refl, zero_or_one IntegerKind true))
one_fits p sorts op world other value sort own well g given h = tt

pub two_fits : (p : Program) (sorts : ℕ → Option Sort) (op : Op) (world : World) (w : Work) (left right : Value) (one other own : Sort) → IsWellFormed p world → Computes p sorts op w own
    → ((P : Sort → Type 0) → Has sorts op 1 P → P other) → Fits world.memory one left → Fits world.memory other right → IfOk (on_two p world w op.access left right) (Does world.memory own)
two_fits p sorts op world work.Comma left right one other own well g given l r =
    let F : Sort → Type 0 = λ s. Fits world.memory s right in
    record { fits = subst F (given (λ sort. sort ≡ own) g) r; written = unwritten world.memory well.sound }
two_fits p sorts op world (work.Binary change) left right one other own well g given l r =
    giving_as world.memory own (changed_sort change) _ g well.sound (changed_fits world.memory change one other left right l r)
two_fits p sorts op world (work.Compare relation kind) left right one other own well g given l r =
    giving_as world.memory own (number IntegerKind) _ g well.sound (comparison_fits world.memory left right (λ a b. compares relation (convert_of a kind) (convert_of b kind)))
two_fits p sorts op world (work.ComparePointers relation) left right one other own well g given l r =
    giving_as world.memory own (number IntegerKind) _ g well.sound
    (with_pointers_ok world.memory (Fits world.memory (number IntegerKind)) one other left right (related world.memory relation) l r (λ a b ha hb. related_fits world.memory relation a b))
two_fits p sorts op world (work.Distance count) left right one other own well g given l r =
    giving_as world.memory own (number LongKind) _ g well.sound
    (both_fit_ok (Fits world.memory (number LongKind)) count left right _
    (with_pointers_ok world.memory (Fits world.memory (number LongKind)) one other left right (distance world.memory) l r (λ a b ha hb. distance_fits world.memory a b well.sound ha hb)))
two_fits p sorts op world (work.Subscript count) left right one other own well g given l r =
    at_place_fits p op.access world.memory _ count.cells own well.sound (either_fits world.memory false count one other left right l r) g
two_fits p sorts op world (work.Assign form) left right one other own well g given l r =
    as_sort world.memory own (sort_of p form) _ g.0 (assigned_fits p world.memory form one other left right well.sound (given (Converts p form) g.1) l r)
two_fits p sorts op world (work.Update change form volatile post) left right one other own well g given l r =
    as_sort world.memory own (sort_of p form) _ g (updated_fits p world.memory change form volatile post one other left right well.sound l r)
two_fits p sorts op world w left right one other own well g given l r = tt

pub conditional_fits : (p : Program) (memory : Memory) (form : Form) (first chosen : Value) (other : Sort) → Converts p form other → Fits memory other chosen
    → IfOk (conditional memory form (first ∷ chosen ∷ [])) (Fits memory (sort_of p form))
conditional_fits p memory form Nothing chosen other c h =
    ok_unless (Fits memory (sort_of p form)) (is_nothing chosen && not (is_void form)) (Undefined 15) _
    (λ e. ok_then (λ _. Unit {0}) (Fits memory (sort_of p form)) (asked memory Nothing) _ (ok_any (asked memory Nothing)) (λ b _. converted_fits p memory form other chosen c h))
conditional_fits p memory form first chosen other c h =
    ok_unless (Fits memory (sort_of p form)) (is_nothing chosen && not (is_void form)) (Undefined 15) _
    (λ e. ok_then (λ _. Unit {0}) (Fits memory (sort_of p form)) (asked memory first) _ (ok_any (asked memory first)) (λ b _. converted_fits p memory form other chosen c h))
