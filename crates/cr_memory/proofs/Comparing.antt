-- Operations on pointers, on the spans and on the memory.
use Rattle.std.proofs.Common.{◌≡◌, ℕ, suc, ◌+◌, ◌-◌, ◌*◌, ◌%◌, ◌≤◌, ◌==◌, nat_le, Bool, true, false, not, ◌&&◌, ◌||◌, ℤ, pos, negsuc, ◌+ℤ◌, ◌*ℤ◌, Result, Ok, Err, IfOk, List, length, if◌then◌else◌, refl, sym, ap, ◌∙◌, arith}
use Rattle.std.specs.Prelude.{int_le, unsigned_abs}
use Rattle.std.proofs.Math.Nat.{add-mul-mod_self_right}
use Rattle.std.proofs.lemmas.Bool.{leb-true}
use Rattle.std.proofs.lemmas.Int.{ints}
use Rattle.cr_memory.specs.declared.value.Element.{Element}
use Rattle.cr_memory.specs.declared.value.Pointer.{Pointer}
use Rattle.cr_memory.specs.declared.value.Pointer.TheVariants.{Null, At}
use Rattle.cr_memory.specs.declared.value.Scalar.{Scalar}
use Rattle.cr_memory.specs.declared.value.Cell.{Cell}
use Rattle.cr_memory.specs.declared.value.Guard.{Guard}
use Rattle.cr_memory.specs.declared.value.Trap.{Trap}
use Rattle.cr_memory.specs.declared.value.Trap.TheVariants.{Undefined, Left}
use Rattle.cr_memory.specs.declared.value.TheConstants.{ENDED, SUM_OUTSIDE, END_COMPARED}
use Rattle.cr_memory.specs.declared.span.Span.{Span}
use Rattle.cr_memory.specs.Memory.{IsPointer, live_object, count_of, has_ended}
use Rattle.cr_memory.specs.Pointers.{moved_by, shift_by, shift_of, with_both, is_in_literal, equality_by}
use Rattle.cr_memory.specs.Access.{is_null_or_end, is_literal, shape_at}
use Rattle.cr_memory.specs.Flat.{span_at, memory_of, ended_in, own_in, PlaceIn, PointerIn, HasRoom, flat_equality}
use Rattle.cr_memory.proofs.View.{object_of-live, length-whole_of, live_object-memory_of, has_ended-memory_of, is_pointer}
use Rattle.cr_memory.proofs.Reaching.{Reached, reached, alive_from}

-- ---- a first case, and the rest where it doesn't hold

first_case : {A : Type 0} (ended ended' : Bool) (rest rest' : Result A Trap) → ended ≡ ended' → (ended ≡ false → rest ≡ rest')
    → (if ended then Err (Undefined ENDED) else rest) ≡ (if ended' then Err (Undefined ENDED) else rest')
first_case true ended' rest rest' e same = rw (← e) refl
first_case false ended' rest rest' e same = rw (← e) (same refl)

pub neither : (a b : Bool) → (a || b) ≡ false → (a ≡ false) × (b ≡ false)
neither true b e = absurd (cc e)
neither false b e = (refl, e)

pub either_ended : (most : ℕ) (spans : List Span) (cells : List Cell) (shape : List (Scalar × Guard)) (left right : Pointer)
    → (ended_in spans left || ended_in spans right) ≡ (has_ended (memory_of most spans cells shape) left || has_ended (memory_of most spans cells shape) right)
either_ended most spans cells shape left right =
    ap (λ b. b || ended_in spans right) (sym (has_ended-memory_of most spans cells shape left))
    ∙ ap (λ b. has_ended (memory_of most spans cells shape) left || b) (sym (has_ended-memory_of most spans cells shape right))

pub shift_by-is : (most : ℕ) (spans : List Span) (cells : List Cell) (shape : List (Scalar × Guard)) (at : Pointer) (by : ℤ)
    → shift_by (ended_in spans) at by ≡ shift_of (memory_of most spans cells shape) at by
shift_by-is most spans cells shape at by =
    ap (λ b. if b then Err (Undefined ENDED) else moved_by at by) (sym (has_ended-memory_of most spans cells shape at))

-- the rest may be looked up as well, where both objects live
pub with_both-is : {A : Type 0} (most : ℕ) (spans : List Span) (cells : List Cell) (shape : List (Scalar × Guard)) (left right : Pointer) (rest rest' : Result A Trap)
    → (ended_in spans left ≡ false → ended_in spans right ≡ false → rest ≡ rest')
    → with_both (ended_in spans) left right rest ≡ with_both (has_ended (memory_of most spans cells shape)) left right rest'
with_both-is most spans cells shape left right rest rest' same =
    first_case _ _ _ _ (either_ended most spans cells shape left right) (λ e. let n = neither _ _ e in same n.0 n.1)

-- ---- equality

live_count : (most : ℕ) (spans : List Span) (cells : List Cell) (shape : List (Scalar × Guard)) (number : ℕ) → HasRoom spans (length cells)
    → (span_at spans number).alive ≡ true → count_of (live_object (memory_of most spans cells shape) number) ≡ (span_at spans number).count
live_count most spans cells shape number room alive =
    ap count_of (live_object-memory_of most spans cells shape number ∙ object_of-live cells shape (span_at spans number) alive)
    ∙ length-whole_of cells shape (span_at spans number) (room.within number alive)

guarded : (b x y : Bool) → (b ≡ false → x ≡ y) → (not b && x) ≡ (not b && y)
guarded true x y k = refl
guarded false x y k = k refl

literal-is : (most : ℕ) (spans : List Span) (cells : List Cell) (shape : List (Scalar × Guard)) (at : Pointer) → HasRoom spans (length cells)
    → PointerIn spans at → ended_in spans at ≡ false → is_in_literal (own_in spans shape) at ≡ is_in_literal (shape_at (memory_of most spans cells shape)) at
literal-is most spans cells shape at room h live =
    guarded (is_null_or_end at) _ _ (λ inside. ap (λ own. is_literal own.1) (sym (reached most spans cells shape at room h live inside).own))

pub flat_equality-is : (most : ℕ) (spans : List Span) (cells : List Cell) (shape : List (Scalar × Guard)) (left right : Pointer) → HasRoom spans (length cells)
    → PointerIn spans left → PointerIn spans right → ended_in spans left ≡ false → ended_in spans right ≡ false
    → flat_equality spans shape left right
    ≡ equality_by (λ object. count_of (live_object (memory_of most spans cells shape) object)) (shape_at (memory_of most spans cells shape)) left right
flat_equality-is most spans cells shape Null Null room p q l r = refl
flat_equality-is most spans cells shape Null (At object cell low high stride) room p q l r = refl
flat_equality-is most spans cells shape (At object cell low high stride) Null room p q l r = refl
flat_equality-is most spans cells shape (At object cell low high stride) (At object' cell' low' high' stride') room p q l r =
    rw (
      live_count most spans cells shape object room (alive_from _ l),
      live_count most spans cells shape object' room (alive_from _ r),
      literal-is most spans cells shape (At object cell low high stride) room p l,
      literal-is most spans cells shape (At object' cell' low' high' stride') room q r,
    ) refl

-- ---- a moved pointer stays among whole elements

same_rest : (more less k stride : ℕ) → more ≡ less + k * stride → more % stride ≡ less % stride
same_rest more less k stride e = ap (λ n. n % stride) e ∙ add-mul-mod_self_right less k stride

moved_place : (spans : List Span) (object cell low high stride n : ℕ) (by : ℤ) → PlaceIn spans object cell low high stride
    → pos n ≡ pos cell +ℤ by *ℤ pos stride → low ≤ n → n ≤ high → PlaceIn spans object n low high stride
moved_place spans object cell low high stride n (pos k) h e below above = record {
  entered = h.entered;
  stride_above = h.stride_above;
  low_before = below;
  high_after = above;
  within = h.within;
  whole_before = same_rest (n - low) (cell - low) k stride (omega (arith, ints, e, h.low_before)) ∙ h.whole_before;
  whole_after = sym (same_rest (high - cell) (high - n) k stride (omega (arith, ints, e, h.low_before))) ∙ h.whole_after;
}
moved_place spans object cell low high stride n (negsuc k) h e below above = record {
  entered = h.entered;
  stride_above = h.stride_above;
  low_before = below;
  high_after = above;
  within = h.within;
  whole_before = sym (same_rest (cell - low) (n - low) (suc k) stride (omega (arith, ints, e, h.low_before))) ∙ h.whole_before;
  whole_after = same_rest (high - n) (high - cell) (suc k) stride (omega (arith, ints, e, h.high_after)) ∙ h.whole_after;
}

moved_by_test : (spans : List Span) (object cell low high : ℕ) (stride : Element) (n : ℕ) (by : ℤ) (a b : Bool) → PlaceIn spans object cell low high stride.cells
    → pos n ≡ pos cell +ℤ by *ℤ pos stride.cells → nat_le low n ≡ a → nat_le n high ≡ b
    → IfOk (if a && b then Ok (At object n low high stride) else Err (Undefined SUM_OUTSIDE)) (PointerIn spans)
moved_by_test spans object cell low high stride n by true true h e below above =
    moved_place spans object cell low high stride.cells n by h e (leb-true low n below) (leb-true n high above)
moved_by_test spans object cell low high stride n by true false h e below above = tt
moved_by_test spans object cell low high stride n by false b h e below above = tt

moved_to : (spans : List Span) (object cell low high : ℕ) (stride : Element) (by z : ℤ) → PlaceIn spans object cell low high stride.cells
    → z ≡ pos cell +ℤ by *ℤ pos stride.cells
    → IfOk (if int_le (pos low) z && int_le z (pos high) then Ok (At object (unsigned_abs z) low high stride) else Err (Undefined SUM_OUTSIDE)) (PointerIn spans)
moved_to spans object cell low high stride by (pos n) h e = moved_by_test spans object cell low high stride n by _ _ h e refl refl
moved_to spans object cell low high stride by (negsuc n) h e = tt

moved_by-pointer : (spans : List Span) (at : Pointer) (by : ℤ) → PointerIn spans at → IfOk (moved_by at by) (PointerIn spans)
moved_by-pointer spans Null by h = tt
moved_by-pointer spans (At object cell low high stride) by h = moved_to spans object cell low high stride by _ h refl

within_ok : {A : Type 0} (ended : Bool) (rest : Result A Trap) (P : A → Type 0) → IfOk rest P → IfOk (if ended then Err (Undefined ENDED) else rest) P
within_ok true rest P h = tt
within_ok false rest P h = h

each_ok : (result : Result Pointer Trap) (P Q : Pointer → Type 0) → ((p : Pointer) → P p → Q p) → IfOk result P → IfOk result Q
each_ok (Ok p) P Q f h = f p h
each_ok (Err e) P Q f h = tt

pub shift_by-pointer : (most : ℕ) (spans : List Span) (cells : List Cell) (shape : List (Scalar × Guard)) (at : Pointer) (by : ℤ) → HasRoom spans (length cells)
    → PointerIn spans at → IfOk (shift_by (ended_in spans) at by) (IsPointer (memory_of most spans cells shape))
shift_by-pointer most spans cells shape at by room h =
    each_ok (shift_by (ended_in spans) at by) (PointerIn spans) (IsPointer (memory_of most spans cells shape))
    (λ p. is_pointer most spans cells shape p room) (within_ok (ended_in spans at) (moved_by at by) (PointerIn spans) (moved_by-pointer spans at by h))
