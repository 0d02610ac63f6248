-- The pointers that operations make are pointers of the memory (C11 6.5.6p8, 6.3.2.1p3, 6.5.2.3).
use Rattle.std.proofs.Common.{◌≡◌, ℕ, suc, ◌+◌, ◌-◌, ◌*◌, ◌%◌, ◌≤◌, ◌==◌, nat_le, Bool, true, false, not, ◌&&◌, ℤ, pos, negsuc, ◌+ℤ◌, ◌*ℤ◌, Some, Result, Ok, Err, IfOk, length, if◌then◌else◌, refl, sym, ap, ◌∙◌, subst, arith}
use Rattle.std.specs.Prelude.{int_le, unsigned_abs}
use Rattle.std.proofs.Math.Nat.{add-mul-mod_self_right, mod_self}
use Rattle.std.proofs.lemmas.Bool.{leb-true, leb-false, eqb-true}
use Rattle.std.proofs.lemmas.Int.{ints}
use Rattle.std.proofs.lemmas.List.{length-map}
use Rattle.cr_memory.specs.declared.value.Element.{Element}
use Rattle.cr_memory.specs.declared.value.Pointer.{Pointer}
use Rattle.cr_memory.specs.declared.value.Pointer.TheVariants.{Null, At}
use Rattle.cr_memory.specs.declared.value.Scalar.{Scalar}
use Rattle.cr_memory.specs.declared.value.Guard.{Guard}
use Rattle.cr_memory.specs.declared.value.Trap.{Trap}
use Rattle.cr_memory.specs.declared.value.Trap.TheVariants.{Undefined, Left}
use Rattle.cr_memory.specs.declared.value.TheConstants.{ENDED, SUM_OUTSIDE}
use Rattle.cr_memory.specs.Memory.{Object, Memory, IsArrayPlace, IsPointer, has_ended}
use Rattle.cr_memory.specs.Access.{HasStride, reaching, is_null_or_end}
use Rattle.cr_memory.specs.Pointers.{moved_by}
use Rattle.cr_memory.proofs.Continuing.{part-pointed, whole-pointed}
use Rattle.cr_meaning.specs.World.{Program, then_by, whole_place}
use Rattle.cr_meaning.specs.Values.{misfits, if_fits, strays, if_holds, moved, moved_either}
use Rattle.cr_meaning.specs.Work.{first_element, inner, inner_of}
use Rattle.cr_meaning.specs.declared.value.Value.{Value}
use Rattle.cr_meaning.specs.declared.value.Value.TheVariants.{Nothing, Number, Pointer as Pointing, Place}
use Rattle.cr_meaning_soundness.specs.Sorts.{Sort, pointer, chars, Fits, sort_of_scalar, sorts_in, AreChars, IsEntered, IsSound}
use Rattle.cr_meaning_soundness.specs.Rules.{IsWithin}
use Rattle.cr_meaning_soundness.proofs.Cells.{as_many, kinds_of}
use Rattle.cr_meaning_soundness.proofs.Later.{chars_as}

-- ---- results

pub ok_then : {A B : Type 0} (P : A → Type 0) (Q : B → Type 0) (result : Result A Trap) (f : A → Result B Trap) → IfOk result P → ((a : A) → P a → IfOk (f a) Q) → IfOk (then_by result f) Q
ok_then P Q (Ok a) f h k = k a h
ok_then P Q (Err e) f h k = tt

pub ok_unless : {A : Type 0} (Q : A → Type 0) (b : Bool) (trap : Trap) (rest : Result A Trap) → (b ≡ false → IfOk rest Q) → IfOk (if b then Err trap else rest) Q
ok_unless Q true trap rest h = tt
ok_unless Q false trap rest h = h refl

pub ok_any : {A : Type 0} (result : Result A Trap) → IfOk result (λ a. Unit {0})
ok_any (Ok a) = tt
ok_any (Err e) = tt

-- ---- the place of an element of so many cells

abbrev pub IsPlace : Memory → ℕ → Pointer → Type 0
IsPlace memory count at = IsPointer memory at × HasStride at count

same_number : (a b : ℕ) → not (a == b) ≡ false → a ≡ b
same_number a b e = eqb-true a b (turned (a == b) e)
  where
    turned : (b : Bool) → not b ≡ false → b ≡ true
    turned true e = refl
    turned false e = absurd (cc e)

pub holding : (count : ℕ) (at : Pointer) → strays count at ≡ false → HasStride at count
holding count Null e = tt
holding count (At object cell low high stride) e = same_number stride.cells count e

pub if_holds_ok : {A : Type 0} (Q : A → Type 0) (count : ℕ) (at : Pointer) (rest : Result A Trap) → (HasStride at count → IfOk rest Q) → IfOk (if_holds count at rest) Q
if_holds_ok Q count at rest h = ok_unless Q (strays count at) (Left 5) rest (λ e. h (holding count at e))

-- a pointer to elements of a type goes by their cells
pub fitting : (own : Element) (at : Pointer) → misfits own at ≡ false → HasStride at own.cells
fitting own Null e = tt
fitting own (At object cell low high stride) e = eqb-true stride.cells own.cells (first (stride.cells == own.cells) (stride.of == own.of) e)
  where
    first : (a b : Bool) → not (a && b) ≡ false → a ≡ true
    first true b e = refl
    first false b e = absurd (cc e)

pub if_fits_ok : {A : Type 0} (Q : A → Type 0) (own : Element) (at : Pointer) (rest : Result A Trap) → (HasStride at own.cells → IfOk rest Q) → IfOk (if_fits own at rest) Q
if_fits_ok Q own at rest h = ok_unless Q (misfits own at) (Left 5) rest (λ e. h (fitting own at e))

-- ---- a moved pointer stays among whole elements (6.5.6p8)

same_rest : (more less k stride : ℕ) → more ≡ less + k * stride → more % stride ≡ less % stride
same_rest more less k stride e = ap (λ n. n % stride) e ∙ add-mul-mod_self_right less k stride

moved_place : (memory : Memory) (object cell low high stride n : ℕ) (by : ℤ) → IsArrayPlace memory object cell low high stride
    → pos n ≡ pos cell +ℤ by *ℤ pos stride → low ≤ n → n ≤ high → IsArrayPlace memory object n low high stride
moved_place memory object cell low high stride n (pos k) h e below above = record {
  entered = h.entered;
  stride_above = h.stride_above;
  low_before = below;
  high_after = above;
  within = h.within;
  whole_before = same_rest (n - low) (cell - low) k stride (omega (arith, ints, e, h.low_before)) ∙ h.whole_before;
  whole_after = sym (same_rest (high - cell) (high - n) k stride (omega (arith, ints, e, h.low_before))) ∙ h.whole_after;
}
moved_place memory object cell low high stride n (negsuc k) h e below above = record {
  entered = h.entered;
  stride_above = h.stride_above;
  low_before = below;
  high_after = above;
  within = h.within;
  whole_before = sym (same_rest (cell - low) (n - low) (suc k) stride (omega (arith, ints, e, h.low_before))) ∙ h.whole_before;
  whole_after = same_rest (high - n) (high - cell) (suc k) stride (omega (arith, ints, e, h.high_after)) ∙ h.whole_after;
}

moved_by_test : (memory : Memory) (object cell low high : ℕ) (stride : Element) (n : ℕ) (by : ℤ) (a b : Bool) → IsArrayPlace memory object cell low high stride.cells
    → pos n ≡ pos cell +ℤ by *ℤ pos stride.cells → nat_le low n ≡ a → nat_le n high ≡ b
    → IfOk (if a && b then Ok (At object n low high stride) else Err (Undefined SUM_OUTSIDE)) (IsPlace memory stride.cells)
moved_by_test memory object cell low high stride n by true true h e below above =
    (moved_place memory object cell low high stride.cells n by h e (leb-true low n below) (leb-true n high above), refl)
moved_by_test memory object cell low high stride n by true false h e below above = tt
moved_by_test memory object cell low high stride n by false b h e below above = tt

moved_to : (memory : Memory) (object cell low high : ℕ) (stride : Element) (by z : ℤ) → IsArrayPlace memory object cell low high stride.cells
    → z ≡ pos cell +ℤ by *ℤ pos stride.cells
    → IfOk (if int_le (pos low) z && int_le z (pos high) then Ok (At object (unsigned_abs z) low high stride) else Err (Undefined SUM_OUTSIDE)) (IsPlace memory stride.cells)
moved_to memory object cell low high stride by (pos n) h e = moved_by_test memory object cell low high stride n by _ _ h e refl refl
moved_to memory object cell low high stride by (negsuc n) h e = tt

shift_fits : (memory : Memory) (count : ℕ) (at : Pointer) (by : ℤ) → IsPointer memory at → HasStride at count → IfOk (moved_by at by) (IsPlace memory count)
shift_fits memory count Null by h same = tt
shift_fits memory count (At object cell low high stride) by h same =
    let P : ℕ → Type 0 = λ n. IfOk (moved_by (At object cell low high stride) by) (IsPlace memory n) in
    subst P same (moved_to memory object cell low high stride by _ h refl)

pub moved_fits : (memory : Memory) (back : Bool) (own : Element) (at : Pointer) (value : Value) → IsPointer memory at → IfOk (moved memory back own at value) (IsPlace memory own.cells)
moved_fits memory back own at (Number kind value) h =
    let Q = IsPlace memory own.cells in
    if_fits_ok Q own at _ (λ same. ok_unless Q (has_ended memory at) (Undefined ENDED) _ (λ e. shift_fits memory own.cells at _ h same))
moved_fits memory back own at Nothing h = if_fits_ok (IsPlace memory own.cells) own at _ (λ same. tt)
moved_fits memory back own at other h = tt

pub pointed : (memory : Memory) (sort : Sort) (at : Pointer) → Fits memory sort (Pointing at) → IsPointer memory at
pointed memory pointer at h = h
pointed memory other at h = absurd h

pub either_fits : (memory : Memory) (back : Bool) (own : Element) (one other : Sort) (left right : Value) → Fits memory one left → Fits memory other right
    → IfOk (moved_either memory back own left right) (IsPlace memory own.cells)
either_fits memory back own one other (Pointing at) right l r = moved_fits memory back own at right (pointed memory one at l)
either_fits memory back own one other left (Pointing at) l r = moved_fits memory back own at left (pointed memory other at r)
either_fits memory back own one other left right l r = tt

-- ---- whole objects, elements and members

itself : (n : ℕ) → n % n ≡ 0
itself n = mod_self n

pub whole_fits : (p : Program) (memory : Memory) (node object of : ℕ) → IsSound memory → IsEntered p memory node object → 1 ≤ length (p.shape node)
    → IsPlace memory (length (p.shape node)) (whole_place memory object of)
whole_fits p memory node object of sound there one =
    let sized = as_many memory (kinds_of there.live.shape) there.live.cells (sound.kinds object there.live there.lives) in
    let size : length there.live.cells ≡ length (p.shape node) =
    sized ∙ (length-map there.live.shape (λ (own : Scalar × Guard). own.0)
    ∙ (sym (length-map there.live.shape (λ (own : Scalar × Guard). sort_of_scalar own.0)) ∙ (ap length there.sorts ∙ length-map (p.shape node) (λ (own : Scalar × Guard). sort_of_scalar own.0)))) in
    rw there.lives (whole-pointed memory object (record { cells = length there.live.cells; of = of }) there.live there.lives (omega arith) (itself (length there.live.cells)), size)

-- a literal's object has chars, as its node says
pub literal_fits : (p : Program) (memory : Memory) (node object of : ℕ) → IsSound memory → IsEntered p memory node object → 1 ≤ length (p.shape node) → AreChars (p.shape node)
    → Fits memory chars (Place (whole_place memory object of))
literal_fits p memory node object of sound there one are =
    let w = whole_fits p memory node object of sound there one in
    (w.0, λ live e. chars_as live.shape (p.shape node) (ap sorts_in (ap (λ (o : Object). o.shape) (one_object live there.live (sym e ∙ there.lives))) ∙ there.sorts) are)
  where
    one_object : (a b : Object) → Some a ≡ Some b → a ≡ b
    one_object a b e = cc

pub element_fits : (memory : Memory) (at : Pointer) (count : ℕ) (stride : Element) → IsPlace memory count at → 1 ≤ stride.cells → count % stride.cells ≡ 0
    → is_null_or_end at ≡ false → IsPointer memory (first_element at stride)
element_fits memory Null count stride h one whole inside = tt
element_fits memory (At object cell low high width) count stride h one whole inside =
    let same : width.cells ≡ count = h.1 in
    let e : width.cells % stride.cells ≡ 0 = ap (λ n. n % stride.cells) same ∙ whole in
    let q = part-pointed memory object cell low high width 0 width.cells stride h.0 (leb-false high cell inside) (omega arith) one e in
    let P : ℕ → Type 0 = λ n. IsArrayPlace memory object n n (n + width.cells) stride.cells in
    subst P (omega arith) q

pub reach_then : {B : Type 0} (Q : B → Type 0) (ended end : Bool) (f : Unit {0} → Result B Trap) → (ended ≡ false → end ≡ false → IfOk (f tt) Q)
    → IfOk (then_by (reaching ended end (Ok tt)) f) Q
reach_then Q true end f h = tt
reach_then Q false true f h = tt
reach_then Q false false f h = h refl refl

member_fits : (memory : Memory) (whole before : ℕ) (member : Element) (at : Pointer) → IsWithin whole before member.cells → IsPointer memory at → HasStride at whole → is_null_or_end at ≡ false
    → IsPlace memory member.cells (inner before member at)
member_fits memory whole before member Null within h same inside = (tt, tt)
member_fits memory whole before member (At object cell low high stride) within h same inside =
    let w = within.within in
    (part-pointed memory object cell low high stride before member.cells member h (leb-false high cell inside) (omega (arith, same)) within.some (itself member.cells), refl)

pub inner_fits : (memory : Memory) (whole before : ℕ) (member : Element) (at : Pointer) → IsWithin whole before member.cells → IsPointer memory at
    → IfOk (inner_of memory whole before member at) (IsPlace memory member.cells)
inner_fits memory whole before member at within h =
    let Q = IsPlace memory member.cells in
    if_holds_ok Q whole at _ (λ same. reach_then Q (has_ended memory at) (is_null_or_end at) (λ _. Ok (inner before member at))
    (λ alive inside. member_fits memory whole before member at within h same inside))
