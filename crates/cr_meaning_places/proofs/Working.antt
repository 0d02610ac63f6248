-- A node's own work: the pointers of its value, and what it writes, are declared places.
use Rattle.std.proofs.Common.{◌≡◌, ℕ, ◌==◌, Bool, true, false, not, ◌&&◌, ◌||◌, ℤ, pos, ◌⊎◌, inl, inr, Option, Some, None, Result, Ok, Err, IfOk, List, [], ◌∷◌, length, take, drop, slice_get, if◌then◌else◌, refl, sym, ap, subst}
use Rattle.std.specs.Prelude.{int_le, unsigned_abs, ◌+ℤ◌, ◌*ℤ◌}
use Rattle.std.proofs.lemmas.Bool.{eqb-true}
use Rattle.cr_ints.specs.declared.kind.IntKind.{IntKind}
use Rattle.cr_ints.specs.declared.kind.IntKind.TheVariants.{Int as IntegerKind, Long as LongKind}
use Rattle.cr_ints.specs.declared.end.IntEnd.{IntEnd}
use Rattle.cr_ints.specs.declared.end.IntEnd.TheVariants as end
use Rattle.cr_ints.specs.Conversions.{convert_of}
use Rattle.cr_memory.specs.declared.value.Element.{Element}
use Rattle.cr_memory.specs.declared.value.Pointer.{Pointer}
use Rattle.cr_memory.specs.declared.value.Pointer.TheVariants.{Null, At}
use Rattle.cr_memory.specs.declared.value.Scalar.{Scalar}
use Rattle.cr_memory.specs.declared.value.Scalar.TheVariants as scalar
use Rattle.cr_memory.specs.declared.value.Cell.{Cell}
use Rattle.cr_memory.specs.declared.value.Cell.TheVariants as cell
use Rattle.cr_memory.specs.declared.value.Trap.{Trap}
use Rattle.cr_memory.specs.declared.value.Trap.TheVariants.{Undefined, Left}
use Rattle.cr_memory.specs.declared.value.TheConstants.{SUM_OUTSIDE, ENDED, NULL_OR_END, OTHER_TYPE}
use Rattle.cr_memory.specs.Kind.{is_same}
use Rattle.cr_memory.specs.Memory.{Memory, live_object, count_of, has_ended}
use Rattle.cr_memory.specs.Access.{is_null_or_end, number_of, cell_of, cell_at, shape_at, shape_run_at, cells_at, holds_ended, is_unset, have_kinds, reach_of, load_of, cells_of}
use Rattle.cr_memory.specs.Pointers.{moved_by, differ_of, less_of, same_of}
use Rattle.cr_memory.proofs.Reaching.{loaded_by}
use Rattle.cr_meaning.specs.World.{Program, World, then_by, object_for}
use Rattle.cr_meaning.specs.Values.{cells_in, misfits, strays, value_in, asked, converted, exactly, computed, signed_by, compares, moved, moved_either, changed, pointing, as_pointer, with_pointers, holding, related, misfit_value, if_both_fit, distance}
use Rattle.cr_meaning.specs.Work.{Did, plainly, giving, used, at_place, place_of, first_element, inner, inner_of, taken, member_of, followed, stored, assigned, did_assign, did_update, loaded, updated, is_nothing, logical, is_void, conditional, cast, integer, comparison, address, alone, passed, on_one, on_two, by_count, work_of}
use Rattle.cr_meaning.specs.declared.op.Op.{Op}
use Rattle.cr_meaning.specs.declared.op.Access.{Access}
use Rattle.cr_meaning.specs.declared.op.Access.TheVariants as access
use Rattle.cr_meaning.specs.declared.op.Change.{Change}
use Rattle.cr_meaning.specs.declared.op.Change.TheVariants.{Arithmetic, Move}
use Rattle.cr_meaning.specs.declared.op.Form.{Form}
use Rattle.cr_meaning.specs.declared.op.Form.TheVariants as form
use Rattle.cr_meaning.specs.declared.op.Operator.{Operator}
use Rattle.cr_meaning.specs.declared.op.Operator.TheVariants as operator
use Rattle.cr_meaning.specs.declared.op.Relation.{Relation}
use Rattle.cr_meaning.specs.declared.op.Relation.TheVariants.{Less, Greater, LessEqual, GreaterEqual, Equal, NotEqual}
use Rattle.cr_meaning.specs.declared.op.Sign.{Sign}
use Rattle.cr_meaning.specs.declared.op.Sign.TheVariants.{Plus, Minus, Complement}
use Rattle.cr_meaning.specs.declared.op.Work.{Work}
use Rattle.cr_meaning.specs.declared.op.Work.TheVariants as work
use Rattle.cr_meaning.specs.declared.value.Value.{Value}
use Rattle.cr_meaning.specs.declared.value.Value.TheVariants.{Nothing, Number, Pointer as Pointing, Place, Cells}
use Rattle.cr_meaning_soundness.proofs.Pointers.{ok_then, ok_unless, ok_any}
use Rattle.cr_meaning_places.specs.Places.{IsTo, Names, Gives, named, passed as passed_on, IsDeclared, null, whole, member, pointed, first, moved as moved_on}
use Rattle.cr_meaning_places.specs.Laws.{place_given}
use Rattle.cr_meaning_places.proofs.Lasting.{lasts_by}
use Rattle.cr_meaning_places.proofs.Good.{GoodCell, GoodCells, GoodValue, GoodValues, AreGood, good_taken, good_dropped, good_at, good_in, value_in_good, value_later}
use Rattle.cr_meaning_places.proofs.Memories.{Changed, unchanged, good_saved, good_put}
use Rattle.cr_meaning_places.proofs.Entering.{IsThere, IsSound, found}

-- ---- what is said of the type of a place

pub to_each : (at : Pointer) (P : ℕ → Type 0) → ((of : ℕ) → P of) → IsTo at P
to_each Null P h = tt
to_each (At object cell low high element) P h = h element.of

pub to_onward : (at : Pointer) (P Q : ℕ → Type 0) → IsTo at P → ((of : ℕ) → P of → Q of) → IsTo at Q
to_onward Null P Q h f = tt
to_onward (At object cell low high element) P Q h f = f element.of h

abbrev pub IsGiven : Program → ℕ → Value → Type 0
IsGiven p node (Place at) = IsTo at (Gives p node)
IsGiven p node other = Unit {0}

-- what a program's node is
pub record IsNode (p : Program) (node : ℕ) (op : Op) (w : Work) : Type 0 where
  pub op_is : slice_get p.ops node ≡ Some op
  pub work_is : op.work ≡ w

named_at : (p : Program) (node of : ℕ) (op : Op) (w : Work) → IsNode p node op w → Names w of → Gives p node of
named_at p node of op w i h = let N : Work → Type 0 = λ x. Names x of in named node of op i.op_is (subst N (sym i.work_is) h)

pub given_place : (p : Program) (node : ℕ) (op : Op) (w : Work) (at : Pointer) → IsNode p node op w → IsTo at (Names w) → IsTo at (Gives p node)
given_place p node op w at i h = to_onward at (Names w) (Gives p node) h (λ of n. named_at p node of op w i n)

pub given_any : (p : Program) (node : ℕ) (op : Op) (w : Work) (value : Value) → IsNode p node op w → ((of : ℕ) → Names w of) → IsGiven p node value
given_any p node op w (Place at) i all = to_each at (Gives p node) (λ of. named_at p node of op w i (all of))
given_any p node op w other i all = tt

abbrev IsNoPlace : Value → Type 0
IsNoPlace (Place at) = ⊥
IsNoPlace other = Unit {0}

no_place : (p : Program) (node : ℕ) (value : Value) → IsNoPlace value → IsGiven p node value
no_place p node (Place at) h = absurd h
no_place p node other h = tt

-- ---- own work

pub record Worked (p : Program) (node : ℕ) (old : Memory) (did : Did) : Type 0 where
  pub changed : Changed p old did.memory
  pub good : GoodValue p did.memory did.value
  pub given : IsGiven p node did.value

plainly_works : (p : Program) (node : ℕ) (memory : Memory) (value : Value) → AreGood p memory → GoodValue p memory value → IsGiven p node value → IfOk (plainly memory value) (Worked p node memory)
plainly_works p node memory value good h g = record { changed = unchanged p memory good; good = h; given = g }

giving_works : (p : Program) (node : ℕ) (memory : Memory) (result : Result Value Trap) → AreGood p memory → ((value : Value) → IsGiven p node value) → IfOk result (GoodValue p memory)
    → IfOk (giving memory result) (Worked p node memory)
giving_works p node memory result good any h = ok_then (GoodValue p memory) (Worked p node memory) result (plainly memory) h (λ value v. plainly_works p node memory value good v (any value))

-- ---- tests

ok_if : {A : Type 0} (Q : A → Type 0) (b : Bool) (one other : Result A Trap) → (b ≡ true → IfOk one Q) → (b ≡ false → IfOk other Q) → IfOk (if b then one else other) Q
ok_if Q true one other h k = h refl
ok_if Q false one other h k = k refl

fits_of : (own : Element) (at : Pointer) → misfits own at ≡ false → IsTo at (λ of. of ≡ own.of)
fits_of own Null e = tt
fits_of own (At object cell low high element) e = eqb-true element.of own.of (second (element.cells == own.cells) (element.of == own.of) e)
  where
    second : (a b : Bool) → not (a && b) ≡ false → b ≡ true
    second true true e = refl
    second true false e = absurd (cc e)
    second false b e = absurd (cc e)

-- ---- what is loaded

loaded_good : (p : Program) (memory : Memory) (at : Pointer) (kind : Scalar) → AreGood p memory → IfOk (load_of memory at kind) (GoodCell p memory)
loaded_good p memory at kind good =
    loaded_by (GoodCell p memory) (has_ended memory at) (is_null_or_end at) (holds_ended memory (cell_at memory at)) (is_same (shape_at memory at).0 kind)
    (is_unset (cell_at memory at)) (cell_at memory at)
    (λ alive inside same. good_at p memory _ (cell_of at) (good_in p memory (live_object memory (number_of at)) (λ live e. good (number_of at) live e)))

cells_good : (p : Program) (memory : Memory) (at : Pointer) (kinds : List Scalar) → AreGood p memory → IfOk (cells_of memory at kinds) (GoodCells p memory)
cells_good p memory at kinds good =
    ok_unless (GoodCells p memory) (has_ended memory at) (Undefined ENDED) _ (λ alive.
    ok_unless (GoodCells p memory) (is_null_or_end at) (Undefined NULL_OR_END) _ (λ inside.
    ok_unless (GoodCells p memory) (not (have_kinds (shape_run_at memory at (length kinds)) kinds)) (Left OTHER_TYPE) (Ok (cells_at memory at (length kinds))) (λ same.
    good_taken p memory (length kinds) _ (good_dropped p memory (cell_of at) _ (good_in p memory (live_object memory (number_of at)) (λ live e. good (number_of at) live e))))))

value_no_place : (kind : Scalar) (held : Cell) → IsNoPlace (value_in kind held)
value_no_place (scalar.Int kind) (cell.Number value) = tt
value_no_place (scalar.Int kind) (cell.Pointer at) = tt
value_no_place (scalar.Int kind) cell.Unset = tt
value_no_place (scalar.Pointer to) (cell.Number value) = tt
value_no_place (scalar.Pointer to) (cell.Pointer at) = tt
value_no_place (scalar.Pointer to) cell.Unset = tt

-- ---- places used as values

used_works : (p : Program) (node : ℕ) (op : Op) (a : Access) (memory : Memory) (at : Pointer) → slice_get p.ops node ≡ Some op → op.access ≡ a → AreGood p memory → IsDeclared p memory at
    → IsTo at (Gives p node) → IfOk (used p a memory at) (Worked p node memory)
used_works p node op access.Unused memory at i e good d g = plainly_works p node memory (Place at) good d g
used_works p node op (access.Scalar kind volatile) memory at i e good d g =
    ok_unless (Worked p node memory) (strays 1 at) (Left 5) _ (λ same. ok_then (GoodCell p memory) (Worked p node memory) (load_of memory at kind) _ (loaded_good p memory at kind good)
    (λ held h. record { changed = unchanged p memory good; good = value_in_good p memory kind held h; given = no_place p node (value_in kind held) (value_no_place kind held) }))
used_works p node op (access.Cells row) memory at i e good d g =
    ok_unless (Worked p node memory) (strays (length (p.kinds row)) at) (Left 5) _ (λ same. ok_then (GoodCells p memory) (Worked p node memory) (cells_of memory at (p.kinds row)) _
    (cells_good p memory at (p.kinds row) good) (λ held h. record { changed = unchanged p memory good; good = h; given = tt }))
used_works p node op (access.Array own array) memory at i e good d g =
    ok_if (Worked p node memory) (array == 0) _ _ (λ zero. rest (inl zero)) (λ some. ok_unless (Worked p node memory) (strays array at) (Left 5) _ (λ same. rest (inr same)))
  where
    rest : ((array == 0) ≡ true) ⊎ (strays array at ≡ false) → IfOk (then_by (reach_of memory at) (λ _. plainly memory (Pointing (first_element at own)))) (Worked p node memory)
    rest fits =
        ok_then (λ _. Unit {0}) (Worked p node memory) (reach_of memory at) (λ _. plainly memory (Pointing (first_element at own))) (ok_any (reach_of memory at))
        (λ u _. plainly_works p node memory (Pointing (first_element at own)) good (first node array own op at i e g fits d) tt)

-- a place of the type that the node's work says
abbrev IsPlaced : Program → Memory → Work → Pointer → Type 0
IsPlaced p memory w at = IsDeclared p memory at × IsTo at (Names w)

place_works : (p : Program) (node : ℕ) (op : Op) (w : Work) (memory : Memory) (result : Result Pointer Trap) → IsNode p node op w → AreGood p memory → IfOk result (IsPlaced p memory w)
    → IfOk (at_place p op.access memory result) (Worked p node memory)
place_works p node op w memory result i good h =
    ok_then (IsPlaced p memory w) (Worked p node memory) result (used p op.access memory) h
    (λ at d. used_works p node op op.access memory at i.op_is refl good d.0 (given_place p node op w at i d.1))

-- ---- the places that nodes give

object_place : (p : Program) (node : ℕ) (op : Op) (declared of : ℕ) (memory : Memory) (o : Option ℕ) → IsNode p node op (work.Object declared of)
    → ((object : ℕ) → o ≡ Some object → IsThere p memory declared object) → IfOk (place_of memory o of) (IsPlaced p memory (work.Object declared of))
object_place p node op declared of memory None i h = tt
object_place p node op declared of memory (Some object) i h =
    (whole node declared object (count_of (live_object memory object)) of op i.op_is i.work_is (h object refl).is (λ live e. sym (ap count_of e)), refl)

kept_of : (own : Element) (at new : Pointer) (by : ℤ) → moved_by at by ≡ Ok new → misfits own at ≡ false → IsTo new (λ of. of ≡ own.of)
kept_of own Null new by e fits = absurd (cc e)
kept_of own (At object cell low high element) new by e fits =
    let P : Pointer → Type 0 = λ x. IsTo x (λ of. of ≡ own.of) in
    let to = pos cell +ℤ by *ℤ pos element.cells in
    by_test (int_le (pos low) to && int_le to (pos high)) (At object (unsigned_abs to) low high element) e (λ is. subst P is (fits_of own (At object cell low high element) fits))
  where
    by_test : (b : Bool) (place : Pointer) → (let r : Result Pointer Trap = if b then Ok place else Err (Undefined SUM_OUTSIDE) in r) ≡ Ok new → (place ≡ new → IsTo new (λ of. of ≡ own.of)) → IsTo new (λ of. of ≡ own.of)
    by_test true place e f = f (cc e)
    by_test false place e f = absurd (cc e)

shifted : (p : Program) (memory : Memory) (own : Element) (at : Pointer) (by : ℤ) (r : Result Pointer Trap) → moved_by at by ≡ r → IsDeclared p memory at → misfits own at ≡ false
    → IfOk r (λ new. IsDeclared p memory new × IsTo new (λ of. of ≡ own.of))
shifted p memory own at by (Ok new) e d fits = (moved_on at new by e d, kept_of own at new by e fits)
shifted p memory own at by (Err trap) e d fits = tt

moved_place : (p : Program) (memory : Memory) (back : Bool) (own : Element) (at : Pointer) (value : Value) → IsDeclared p memory at
    → IfOk (moved memory back own at value) (λ new. IsDeclared p memory new × IsTo new (λ of. of ≡ own.of))
moved_place p memory back own at (Number kind value) d =
    let Q : Pointer → Type 0 = λ new. IsDeclared p memory new × IsTo new (λ of. of ≡ own.of) in
    ok_unless Q (misfits own at) (Left 5) _ (λ fits. ok_unless Q (has_ended memory at) (Undefined ENDED) _ (λ alive. shifted p memory own at _ _ refl d fits))
moved_place p memory back own at Nothing d = ok_unless (λ new. IsDeclared p memory new × IsTo new (λ of. of ≡ own.of)) (misfits own at) (Left 5) _ (λ fits. tt)
moved_place p memory back own at other d = tt

either_place : (p : Program) (memory : Memory) (back : Bool) (own : Element) (left right : Value) → GoodValue p memory left → GoodValue p memory right
    → IfOk (moved_either memory back own left right) (λ new. IsDeclared p memory new × IsTo new (λ of. of ≡ own.of))
either_place p memory back own (Pointing at) right l r = moved_place p memory back own at right l
either_place p memory back own left (Pointing at) l r = moved_place p memory back own at left r
either_place p memory back own left right l r = tt

follow_place : (p : Program) (memory : Memory) (Q : Pointer → Type 0) (own : Element) (value : Value) (f : Pointer → Result Pointer Trap) → GoodValue p memory value
    → ((at : Pointer) → IsDeclared p memory at → misfits own at ≡ false → IfOk (f at) Q) → IfOk (followed own value f) Q
follow_place p memory Q own (Pointing at) f h k = ok_unless Q (misfits own at) (Left 5) (f at) (λ fits. k at h fits)
follow_place p memory Q own value f h k = tt

inner_to : (before : ℕ) (own : Element) (at : Pointer) → IsTo (inner before own at) (λ of. of ≡ own.of)
inner_to before own Null = tt
inner_to before own (At object cell low high element) = refl

inner_place : (p : Program) (memory : Memory) (structure before : ℕ) (own : Element) (at : Pointer) → (strays structure at ≡ false → IsDeclared p memory (inner before own at))
    → IfOk (inner_of memory structure before own at) (λ new. IsDeclared p memory new × IsTo new (λ of. of ≡ own.of))
inner_place p memory structure before own at d =
    let Q : Pointer → Type 0 = λ new. IsDeclared p memory new × IsTo new (λ of. of ≡ own.of) in
    ok_unless Q (strays structure at) (Left 5) _ (λ same. ok_then (λ _. Unit {0}) Q (reach_of memory at) (λ _. Ok (inner before own at)) (ok_any (reach_of memory at)) (λ u _. (d same, inner_to before own at)))

-- ---- members

taken_good : (p : Program) (memory : Memory) (form : Form) (held : List Cell) → GoodCells p memory held → IfOk (taken memory form held) (λ value. GoodValue p memory value × IsNoPlace value)
taken_good p memory (form.Cells row) held h = (h, tt)
taken_good p memory (form.Number kind) (cell.Number value ∷ []) h = (tt, tt)
taken_good p memory (form.Pointer to) (cell.Pointer at ∷ []) h = ok_unless (λ value. GoodValue p memory value × IsNoPlace value) (has_ended memory at) (Undefined 10) _ (λ e. (h.0, tt))
taken_good p memory form (cell.Unset ∷ []) h = tt
taken_good p memory form held h = tt

-- what stands before the dot
abbrev pub IsPart : Program → List ℕ → Value → Type 0
IsPart p parts value = (part : ℕ) × ((slice_get parts 0 ≡ Some part) × IsGiven p part value)

member_works : (p : Program) (node : ℕ) (op : Op) (memory : Memory) (structure before : ℕ) (own : Element) (form : Form) (value : Value)
    → IsNode p node op (work.Member structure before own form) → AreGood p memory → GoodValue p memory value → IsPart p op.parts value
    → IfOk (member_of p op.access memory structure before own form value) (Worked p node memory)
member_works p node op memory structure before own form (Place at) i good d part =
    place_works p node op (work.Member structure before own form) memory _ i good
    (inner_place p memory structure before own at (λ same. member node part.0 structure before own form op at i.op_is i.work_is part.1.0 part.1.1 same d))
member_works p node op memory structure before own form (Cells held) i good h part =
    ok_then (λ value. GoodValue p memory value × IsNoPlace value) (Worked p node memory) (taken memory form (take own.cells (drop before held))) (plainly memory)
    (taken_good p memory form _ (good_taken p memory own.cells _ (good_dropped p memory before held h)))
    (λ value v. plainly_works p node memory value good v.0 (no_place p node value v.1))
member_works p node op memory structure before own form value i good h part = tt

-- ---- conversions

pub converted_good : (p : Program) (memory : Memory) (form : Form) (value : Value) → GoodValue p memory value → IfOk (converted memory form value) (GoodValue p memory)
converted_good p memory form.Void value h = h
converted_good p memory form Nothing h = tt
converted_good p memory (form.Number kind) (Number from value) h = tt
converted_good p memory (form.Number kind) (Pointing at) h = ok_unless (GoodValue p memory) (has_ended memory at) (Undefined 10) _ (λ e. tt)
converted_good p memory (form.Pointer to) (Number from value) h = null
converted_good p memory (form.Pointer to) (Pointing at) h = h
converted_good p memory (form.Cells row) (Cells held) h = h
converted_good p memory form value h = tt

cast_good : (p : Program) (memory : Memory) (form : Form) (value : Value) → GoodValue p memory value → IfOk (cast memory form value) (GoodValue p memory)
cast_good p memory form.Void value h = tt
cast_good p memory (form.Number kind) (Pointing at) h = ok_unless (GoodValue p memory) (has_ended memory at) (Undefined 10) _ (λ e. converted_good p memory (form.Number kind) (Pointing at) h)
cast_good p memory (form.Pointer to) (Pointing at) h = ok_unless (GoodValue p memory) (has_ended memory at) (Undefined 10) _ (λ e. converted_good p memory (form.Pointer to) (Pointing at) h)
cast_good p memory (form.Cells row) (Pointing at) h = ok_unless (GoodValue p memory) (has_ended memory at) (Undefined 10) _ (λ e. converted_good p memory (form.Cells row) (Pointing at) h)
cast_good p memory (form.Number kind) value h = converted_good p memory (form.Number kind) value h
cast_good p memory (form.Pointer to) value h = converted_good p memory (form.Pointer to) value h
cast_good p memory (form.Cells row) value h = converted_good p memory (form.Cells row) value h

-- ---- operators

exactly_good : (p : Program) (memory : Memory) (kind : IntKind) (e : IntEnd) → IfOk (exactly kind e) (GoodValue p memory)
exactly_good p memory kind (end.Value value) = tt
exactly_good p memory kind (end.Undefined number) = tt

computed_good : (p : Program) (memory : Memory) (op : Operator) (kind : IntKind) (left right : ℤ) → IfOk (computed op kind left right) (GoodValue p memory)
computed_good p memory operator.Multiply kind left right = exactly_good p memory kind _
computed_good p memory operator.Divide kind left right = exactly_good p memory kind _
computed_good p memory operator.Remainder kind left right = exactly_good p memory kind _
computed_good p memory operator.Add kind left right = exactly_good p memory kind _
computed_good p memory operator.Subtract kind left right = exactly_good p memory kind _
computed_good p memory operator.ShiftLeft kind left right = exactly_good p memory kind _
computed_good p memory operator.ShiftRight kind left right = exactly_good p memory kind _
computed_good p memory operator.And kind left right = tt
computed_good p memory operator.Xor kind left right = tt
computed_good p memory operator.Or kind left right = tt

signed_good : (p : Program) (memory : Memory) (sign : Sign) (kind : IntKind) (value : ℤ) → IfOk (signed_by sign kind value) (GoodValue p memory)
signed_good p memory Plus kind value = tt
signed_good p memory Minus kind value = exactly_good p memory kind _
signed_good p memory Complement kind value = tt

changed_good : (p : Program) (memory : Memory) (change : Change) (left right : Value) → GoodValue p memory left → GoodValue p memory right → IfOk (changed memory change left right) (GoodValue p memory)
changed_good p memory (Move back own) left right l r =
    ok_then (λ new. IsDeclared p memory new × IsTo new (λ of. of ≡ own.of)) (GoodValue p memory) (moved_either memory back own left right) pointing (either_place p memory back own left right l r) (λ at h. h.0)
changed_good p memory (Arithmetic op kind) (Number k left) (Number m right) l r = computed_good p memory op kind left right
changed_good p memory (Arithmetic op kind) left Nothing l r = tt
changed_good p memory (Arithmetic op kind) left right l r = tt

holding_good : {A : Type 0} (p : Program) (memory : Memory) (result : Result A Trap) (f : A → Bool) → IfOk (then_by result (λ a. holding (f a))) (GoodValue p memory)
holding_good p memory (Ok a) f = tt
holding_good p memory (Err e) f = tt

related_good : (p : Program) (memory : Memory) (relation : Relation) (left right : Pointer) → IfOk (related memory relation left right) (GoodValue p memory)
related_good p memory Less left right = holding_good p memory (less_of memory left right) (λ b. b)
related_good p memory Greater left right = holding_good p memory (less_of memory right left) (λ b. b)
related_good p memory LessEqual left right = holding_good p memory (less_of memory right left) (λ b. not b)
related_good p memory GreaterEqual left right = holding_good p memory (less_of memory left right) (λ b. not b)
related_good p memory Equal left right = holding_good p memory (same_of memory left right) (λ b. b)
related_good p memory NotEqual left right = holding_good p memory (same_of memory left right) (λ b. not b)

pub any_then : {A B : Type 0} (Q : B → Type 0) (result : Result A Trap) (f : A → Result B Trap) → ((a : A) → IfOk (f a) Q) → IfOk (then_by result f) Q
any_then Q (Ok a) f h = h a
any_then Q (Err e) f h = tt

pointers_good : {A : Type 0} (Q : A → Type 0) (left right : Value) (f : Pointer → Pointer → Result A Trap) → ((a b : Pointer) → IfOk (f a b) Q) → IfOk (with_pointers left right f) Q
pointers_good Q left right f h = any_then Q (as_pointer left) (λ a. then_by (as_pointer right) (λ b. f a b)) (λ a. any_then Q (as_pointer right) (f a) (λ b. h a b))

comparison_good : (p : Program) (memory : Memory) (left right : Value) (f : ℤ → ℤ → Bool) → IfOk (comparison memory left right (λ l. λ r. holding (f l r))) (GoodValue p memory)
comparison_good p memory left right f = any_then (GoodValue p memory) (integer left) _ (λ l. holding_good p memory (integer right) (f l))

distance_good : (p : Program) (memory : Memory) (own : Element) (left right : Value) → IfOk (if_both_fit own left right (with_pointers left right (distance memory))) (GoodValue p memory)
distance_good p memory own left right =
    ok_unless (GoodValue p memory) (misfit_value own left) (Left 5) _ (λ e. ok_unless (GoodValue p memory) (misfit_value own right) (Left 5) _ (λ e'.
    pointers_good (GoodValue p memory) left right (distance memory) (λ a b. any_then (GoodValue p memory) (differ_of memory a b) (λ by. Ok (Number LongKind by)) (λ by. tt))))

logical_good : (p : Program) (memory : Memory) (f : Bool → Bool → Bool) (given : List Value) → IfOk (logical memory f given) (GoodValue p memory)
logical_good p memory f [] = tt
logical_good p memory f (left ∷ []) = holding_good p memory (asked memory left) (λ b. b)
logical_good p memory f (left ∷ right ∷ []) =
    ok_unless (GoodValue p memory) (is_nothing right) (Undefined 15) _ (λ e. any_then (GoodValue p memory) (asked memory left) _ (λ l. holding_good p memory (asked memory right) (f l)))
logical_good p memory f (left ∷ right ∷ more ∷ rest) = tt

conditional_good : (p : Program) (memory : Memory) (form : Form) (given : List Value) → GoodValues p memory given → IfOk (conditional memory form given) (GoodValue p memory)
conditional_good p memory form [] h = tt
conditional_good p memory form (Nothing ∷ []) h = tt
conditional_good p memory form (value ∷ []) h = tt
conditional_good p memory form (Nothing ∷ chosen ∷ []) h =
    ok_unless (GoodValue p memory) (is_nothing chosen && not (is_void form)) (Undefined 15) _ (λ e. any_then (GoodValue p memory) (asked memory Nothing) _ (λ b. converted_good p memory form chosen h.1.0))
conditional_good p memory form (value ∷ chosen ∷ []) h =
    ok_unless (GoodValue p memory) (is_nothing chosen && not (is_void form)) (Undefined 15) _ (λ e. any_then (GoodValue p memory) (asked memory value) _ (λ b. converted_good p memory form chosen h.1.0))
conditional_good p memory form (Nothing ∷ chosen ∷ more ∷ rest) h = tt
conditional_good p memory form (value ∷ chosen ∷ more ∷ rest) h = tt

address_good : (p : Program) (memory : Memory) (value : Value) → GoodValue p memory value → IfOk (address value) (GoodValue p memory)
address_good p memory (Place at) h = h
address_good p memory value h = tt

-- ---- assignment

stored_good : (p : Program) (memory : Memory) (form : Form) (at : Pointer) (new : Value) → AreGood p memory → GoodValue p memory new → IfOk (stored p memory form at new) (Changed p memory)
stored_good p memory (form.Number kind) at (Number k value) good v = good_saved p memory at (scalar.Int kind) (cell.Number value) good tt
stored_good p memory (form.Pointer to) at (Pointing target) good v = good_saved p memory at (scalar.Pointer to) (cell.Pointer target) good v
stored_good p memory (form.Cells row) at (Cells held) good v = good_put p memory at (p.kinds row) held good v
stored_good p memory form at new good v = tt

assigned_works : (p : Program) (node : ℕ) (memory : Memory) (form : Form) (left right : Value) → AreGood p memory → ((value : Value) → IsGiven p node value) → GoodValue p memory right
    → IfOk (assigned p memory form left right) (Worked p node memory)
assigned_works p node memory form (Place at) right good any r =
    ok_unless (Worked p node memory) (strays (cells_in p form) at) (Left 5) _
    (λ same. ok_then (GoodValue p memory) (Worked p node memory) (converted memory form right) _ (converted_good p memory form right r)
    (λ new v. ok_then (Changed p memory) (Worked p node memory) (stored p memory form at new) (did_assign p form at new) (stored_good p memory form at new good v)
    (λ after c. record { changed = c; good = value_later p memory after new (lasts_by memory after c.continues) v; given = any new })))
assigned_works p node memory form left right good any r = tt

kept_good : (p : Program) (memory : Memory) (b : Bool) (one other : Value) → GoodValue p memory one → GoodValue p memory other → GoodValue p memory (if b then one else other)
kept_good p memory true one other h k = h
kept_good p memory false one other h k = k

read_good : (p : Program) (memory : Memory) (form : Form) (at : Pointer) → AreGood p memory → IfOk (loaded memory form at) (GoodValue p memory)
read_good p memory (form.Number kind) at good =
    ok_then (GoodCell p memory) (GoodValue p memory) (load_of memory at (scalar.Int kind)) _ (loaded_good p memory at (scalar.Int kind) good) (λ held h. value_in_good p memory (scalar.Int kind) held h)
read_good p memory (form.Pointer to) at good =
    ok_then (GoodCell p memory) (GoodValue p memory) (load_of memory at (scalar.Pointer to)) _ (loaded_good p memory at (scalar.Pointer to) good) (λ held h. value_in_good p memory (scalar.Pointer to) held h)
read_good p memory form.Void at good = tt
read_good p memory (form.Cells row) at good = tt

updated_works : (p : Program) (node : ℕ) (memory : Memory) (change : Change) (form : Form) (volatile post : Bool) (left right : Value) → AreGood p memory
    → ((value : Value) → IsGiven p node value) → GoodValue p memory right → IfOk (updated p memory change form volatile post left right) (Worked p node memory)
updated_works p node memory change form volatile post (Place at) right good any r =
    let W = Worked p node memory in
    ok_unless W (strays 1 at) (Left 5) _
    (λ same. ok_then (GoodValue p memory) W (loaded memory form at) _ (read_good p memory form at good)
    (λ old o. ok_then (GoodValue p memory) W (changed memory change old right) _ (changed_good p memory change old right o r)
    (λ result c. ok_then (GoodValue p memory) W (converted memory form result) _ (converted_good p memory form result c)
    (λ new n. ok_then (Changed p memory) W (stored p memory form at new) (did_update form volatile at post old new) (stored_good p memory form at new good n)
    (λ after k.
    let l = lasts_by memory after k.continues in
    record { changed = k; good = kept_good p after post old new (value_later p memory after old l o) (value_later p memory after new l n); given = any _ })))))
updated_works p node memory change form volatile post left right good any r = tt

-- ---- by the number of operands

-- what is said of the first operand, where a place is handed on or entered
abbrev pub Before : Program → Work → List ℕ → List Value → Type 0
Before p (work.Member structure before own form) parts (value ∷ rest) = IsPart p parts value
Before p work.Pass parts (value ∷ rest) = IsPart p parts value
Before p other parts given = Unit {0}

alone_works : (p : Program) (node : ℕ) (op : Op) (world : World) (w : Work) → IsNode p node op w → IsSound p world → IfOk (alone p world w op.access) (Worked p node world.memory)
alone_works p node op world (work.Constant kind value) i s = record { changed = unchanged p world.memory s.good; good = tt; given = tt }
alone_works p node op world (work.Object declared of) i s =
    place_works p node op (work.Object declared of) world.memory _ i s.good
    (object_place p node op declared of world.memory (object_for world.bindings declared) i (λ object e. found p world.memory _ declared world.bindings object s.bound e))
alone_works p node op world other i s = tt

passed_works : (p : Program) (node : ℕ) (op : Op) (memory : Memory) (value : Value) → IsNode p node op work.Pass → AreGood p memory → GoodValue p memory value → IsPart p op.parts value
    → IfOk (passed p op.access memory value) (Worked p node memory)
passed_works p node op memory (Place at) i good d part =
    used_works p node op op.access memory at i.op_is refl good d
    (to_onward at (Gives p part.0) (Gives p node) part.1.1 (λ of g. passed_on node part.0 of op i.op_is i.work_is part.1.0 g))
passed_works p node op memory Nothing i good h part = plainly_works p node memory Nothing good tt tt
passed_works p node op memory (Number kind value) i good h part = plainly_works p node memory (Number kind value) good tt tt
passed_works p node op memory (Pointing at) i good h part = plainly_works p node memory (Pointing at) good h tt
passed_works p node op memory (Cells held) i good h part = plainly_works p node memory (Cells held) good h tt

one_works : (p : Program) (node : ℕ) (op : Op) (world : World) (w : Work) (value : Value) → IsNode p node op w → IsSound p world → GoodValue p world.memory value
    → Before p w op.parts (value ∷ []) → IfOk (on_one p world w op.access value) (Worked p node world.memory)
one_works p node op world work.Pass value i s h part = passed_works p node op world.memory value i s.good h part
one_works p node op world (work.Unary sign kind) value i s h part =
    giving_works p node world.memory _ s.good (λ v. given_any p node op (work.Unary sign kind) v i (λ of. tt))
    (any_then (GoodValue p world.memory) (integer value) (signed_by sign kind) (λ n. signed_good p world.memory sign kind n))
one_works p node op world work.Not value i s h part =
    giving_works p node world.memory _ s.good (λ v. given_any p node op work.Not v i (λ of. tt)) (holding_good p world.memory (asked world.memory value) (λ b. not b))
one_works p node op world (work.Cast form) value i s h part =
    giving_works p node world.memory _ s.good (λ v. given_any p node op (work.Cast form) v i (λ of. tt)) (cast_good p world.memory form value h)
one_works p node op world work.AddressOf value i s h part =
    giving_works p node world.memory _ s.good (λ v. given_any p node op work.AddressOf v i (λ of. tt)) (address_good p world.memory value h)
one_works p node op world (work.Dereference own) value i s h part =
    let w = work.Dereference own in
    place_works p node op w world.memory _ i s.good
    (follow_place p world.memory (IsPlaced p world.memory w) own value _ h
    (λ at d fits. ok_unless (IsPlaced p world.memory w) (has_ended world.memory at) (Undefined 10) (Ok at) (λ e. (d, fits_of own at fits))))
one_works p node op world (work.Member structure before own form) value i s h part = member_works p node op world.memory structure before own form value i s.good h part
one_works p node op world (work.PointerMember structure before own) value i s h part =
    let w = work.PointerMember structure before own in
    place_works p node op w world.memory _ i s.good
    (follow_place p world.memory (IsPlaced p world.memory w) structure value _ h
    (λ at d fits. inner_place p world.memory structure.cells before own at (λ same. pointed node before structure own op at i.op_is i.work_is fits d)))
one_works p node op world (work.Update change form volatile post) value i s h part =
    updated_works p node world.memory change form volatile post value (Number IntegerKind (pos 1)) s.good (λ v. given_any p node op (work.Update change form volatile post) v i (λ of. tt)) tt
one_works p node op world other value i s h part = tt

two_works : (p : Program) (node : ℕ) (op : Op) (world : World) (w : Work) (left right : Value) → IsNode p node op w → IsSound p world → GoodValue p world.memory left → GoodValue p world.memory right
    → IfOk (on_two p world w op.access left right) (Worked p node world.memory)
two_works p node op world work.Comma left right i s l r = plainly_works p node world.memory right s.good r (given_any p node op work.Comma right i (λ of. tt))
two_works p node op world (work.Binary change) left right i s l r =
    giving_works p node world.memory _ s.good (λ v. given_any p node op (work.Binary change) v i (λ of. tt)) (changed_good p world.memory change left right l r)
two_works p node op world (work.Compare relation kind) left right i s l r =
    giving_works p node world.memory _ s.good (λ v. given_any p node op (work.Compare relation kind) v i (λ of. tt))
    (comparison_good p world.memory left right (λ a b. compares relation (convert_of a kind) (convert_of b kind)))
two_works p node op world (work.ComparePointers relation) left right i s l r =
    giving_works p node world.memory _ s.good (λ v. given_any p node op (work.ComparePointers relation) v i (λ of. tt))
    (pointers_good (GoodValue p world.memory) left right (related world.memory relation) (λ a b. related_good p world.memory relation a b))
two_works p node op world (work.Distance own) left right i s l r =
    giving_works p node world.memory _ s.good (λ v. given_any p node op (work.Distance own) v i (λ of. tt)) (distance_good p world.memory own left right)
two_works p node op world (work.Subscript own) left right i s l r =
    place_works p node op (work.Subscript own) world.memory _ i s.good (either_place p world.memory false own left right l r)
two_works p node op world (work.Assign form) left right i s l r =
    assigned_works p node world.memory form left right s.good (λ v. given_any p node op (work.Assign form) v i (λ of. tt)) r
two_works p node op world (work.Update change form volatile post) left right i s l r =
    updated_works p node world.memory change form volatile post left right s.good (λ v. given_any p node op (work.Update change form volatile post) v i (λ of. tt)) r
two_works p node op world w left right i s l r = tt

counted : (p : Program) (node : ℕ) (op : Op) (world : World) (w : Work) (given : List Value) → IsNode p node op w → IsSound p world → GoodValues p world.memory given → Before p w op.parts given
    → IfOk (by_count p world w op.access given) (Worked p node world.memory)
counted p node op world w [] i s h part = alone_works p node op world w i s
counted p node op world w (value ∷ []) i s h part = one_works p node op world w value i s h.0 part
counted p node op world w (left ∷ right ∷ []) i s h part = two_works p node op world w left right i s h.0 h.1.0
counted p node op world w (one ∷ two ∷ three ∷ rest) i s h part = tt

pub works : (p : Program) (node : ℕ) (op : Op) (world : World) (w : Work) (given : List Value) → IsNode p node op w → IsSound p world → GoodValues p world.memory given → Before p w op.parts given
    → IfOk (work_of p world w op.access given) (Worked p node world.memory)
works p node op world (work.Conditional form) given i s h part =
    giving_works p node world.memory _ s.good (λ v. given_any p node op (work.Conditional form) v i (λ of. tt)) (conditional_good p world.memory form given h)
works p node op world work.LogicalAnd given i s h part =
    giving_works p node world.memory _ s.good (λ v. given_any p node op work.LogicalAnd v i (λ of. tt)) (logical_good p world.memory (λ l. λ r. l && r) given)
works p node op world work.LogicalOr given i s h part =
    giving_works p node world.memory _ s.good (λ v. given_any p node op work.LogicalOr v i (λ of. tt)) (logical_good p world.memory (λ l. λ r. l || r) given)
works p node op world w given i s h part = counted p node op world w given i s h part

-- ---- the place that a node gives, before it is used

ok_is : {A : Type 0} (Q : A → Type 0) (r : Result A Trap) (a : A) → IfOk r Q → r ≡ Ok a → Q a
ok_is Q r a h e = let F : Result _ Trap → Type 0 = λ x. IfOk x Q in subst F e h

pub placed : (p : Program) (node : ℕ) (op : Op) (world : World) (w : Work) (given : List Value) (at : Pointer) → IsNode p node op w → IsSound p world → GoodValues p world.memory given
    → Before p w op.parts given → place_given world w given ≡ Ok at → IsDeclared p world.memory at
placed p node op world w given at i s h part e = ok_is (IsDeclared p world.memory) _ at (by_work w given i h part) e
  where
    fst : (w : Work) (r : Result Pointer Trap) → IfOk r (IsPlaced p world.memory w) → IfOk r (IsDeclared p world.memory)
    fst w (Ok at) h = h.0
    fst w (Err trap) h = tt

    by_work : (w : Work) (given : List Value) → IsNode p node op w → GoodValues p world.memory given → Before p w op.parts given → IfOk (place_given world w given) (IsDeclared p world.memory)
    by_work (work.Object declared of) [] i h part =
        fst (work.Object declared of) _ (object_place p node op declared of world.memory (object_for world.bindings declared) i (λ object e. found p world.memory _ declared world.bindings object s.bound e))
    by_work work.Pass (Place at ∷ []) i h part = h.0
    by_work (work.Dereference own) (value ∷ []) i h part =
        follow_place p world.memory (IsDeclared p world.memory) own value _ h.0 (λ at d fits. ok_unless (IsDeclared p world.memory) (has_ended world.memory at) (Undefined 10) (Ok at) (λ e. d))
    by_work (work.Member structure before own form) (Place at ∷ []) i h part =
        fst (work.Member structure before own form) _
        (inner_place p world.memory structure before own at (λ same. member node part.0 structure before own form op at i.op_is i.work_is part.1.0 part.1.1 same h.0))
    by_work (work.PointerMember structure before own) (value ∷ []) i h part =
        follow_place p world.memory (IsDeclared p world.memory) structure value _ h.0
        (λ at d fits. fst (work.PointerMember structure before own) _ (inner_place p world.memory structure.cells before own at (λ same. pointed node before structure own op at i.op_is i.work_is fits d)))
    by_work (work.Subscript own) (left ∷ right ∷ []) i h part = fst (work.Subscript own) _ (either_place p world.memory false own left right h.0 h.1.0)
    by_work w given i h part = tt
