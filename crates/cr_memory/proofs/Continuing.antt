-- Objects that continue, and the pointers to them.
use Rattle.std.proofs.Common.{◌≡◌, ℕ, zero, suc, ◌+◌, ◌-◌, ◌%◌, ◌<◌, ◌≤◌, true, false, is_none, is_some, ◌⊎◌, inl, inr, Option, Some, None, List, [], ◌∷◌, ◌++◌, length, get_or, refl, sym, ap, ◌∙◌, arith, length-set, get_or-set_other}
use Rattle.std.proofs.lemmas.List.{length-append, length-map}
use Rattle.cr_memory.specs.declared.value.Element.{Element}
use Rattle.cr_memory.specs.declared.value.Pointer.{Pointer}
use Rattle.cr_memory.specs.declared.value.Pointer.TheVariants.{Null, At}
use Rattle.cr_memory.specs.declared.value.Scalar.{Scalar}
use Rattle.cr_memory.specs.declared.value.Cell.{Cell}
use Rattle.cr_memory.specs.declared.value.Guard.{Guard}
use Rattle.cr_memory.specs.declared.span.Span.{Span}
use Rattle.cr_memory.specs.Memory.{Object, Memory, IsPointer, live_object, count_of, with_object, without_object, has_ended}
use Rattle.cr_memory.specs.Access.{some_object}
use Rattle.cr_memory.specs.Continues.{IsAsBefore, Continues, ContinuesBeside}
use Rattle.cr_memory.specs.Flat.{span_at, object_of, memory_of, HasRoom}
use Rattle.cr_memory.proofs.View.{two_ways, object_of-live, object_of-ended, length-whole_of, live_object-memory_of}
use Rattle.cr_memory.proofs.Reaching.{stride_fits}

-- ---- an object that is there

pub entered_if_some : (objects : List (Option Object)) (number : ℕ) (live : Object) → get_or objects number None ≡ Some live → number < length objects
entered_if_some [] number live e = absurd (cc e)
entered_if_some (object ∷ objects) zero live e = omega arith
entered_if_some (object ∷ objects) (suc number) live e = let h = entered_if_some objects number live e in omega arith

-- a fact of the object where there is one
with_object_there : (P : Type 0) (object : Option Object) → is_some object ≡ true → ((live : Object) → object ≡ Some live → P) → P
with_object_there P None e h = absurd (cc e)
with_object_there P (Some live) e h = h live refl

pub same_object : (old new : Option Object) → new ≡ old → IsAsBefore old new
same_object old new e = record { lives = ap is_some e; shape = ap (λ o. (some_object o).shape) e; count = ap count_of e }

-- ---- a memory that continues

pub continues-refl : (memory : Memory) → Continues memory memory
continues-refl memory = record { entered = omega arith; objects = λ n h. same_object _ _ refl }

pub continues-onward : (first second third : Memory) → Continues first second → Continues second third → Continues first third
continues-onward first second third f s =
    let e = f.entered in
    let e' = s.entered in
    record {
      entered = omega arith;
      objects = λ n h.
          let a = f.objects n h in
          let b = s.objects n (omega arith) in
          record { lives = b.lives ∙ a.lives; shape = b.shape ∙ a.shape; count = b.count ∙ a.count };
    }

pub continues-past_new : (first second third : Memory) (object : ℕ) → Continues first second → ContinuesBeside object second third → length first.objects ≤ object
    → Continues first third
continues-past_new first second third object f s above =
    let e = f.entered in
    let e' = s.entered in
    record {
      entered = omega arith;
      objects = λ n h.
          let a = f.objects n h in
          let b = s.objects n (omega arith) (omega arith) in
          record { lives = b.lives ∙ a.lives; shape = b.shape ∙ a.shape; count = b.count ∙ a.count };
    }

get_or-front : (objects rest : List (Option Object)) (number : ℕ) → number < length objects → get_or (objects ++ rest) number None ≡ get_or objects number None
get_or-front [] rest number h = absurd (omega arith)
get_or-front (object ∷ objects) rest zero h = refl
get_or-front (object ∷ objects) rest (suc number) h = get_or-front objects rest number (omega arith)

pub with_object-continues : (memory : Memory) (object : Object) → Continues memory (with_object memory object)
with_object-continues memory object = record {
  entered = omega (arith, length-append memory.objects (Some object ∷ []));
  objects = λ n h. same_object _ _ (get_or-front memory.objects (Some object ∷ []) n h);
}

pub without_object-continues : (memory : Memory) (number : ℕ) → ContinuesBeside number memory (without_object memory number)
without_object-continues memory number = record {
  entered = omega (arith, length-set memory.objects number None);
  objects = λ n h other. same_object _ _ (get_or-set_other memory.objects number n None None other);
}

-- ---- a store of which cells were written

written_by : (cells written : List Cell) (shape : List (Scalar × Guard)) (span : Span) → (span.alive ≡ true) ⊎ (span.alive ≡ false)
    → (span.alive ≡ true → span.first + span.count ≤ length cells) → length written ≡ length cells
    → IsAsBefore (object_of cells shape span) (object_of written shape span)
written_by cells written shape span (inl alive) within size =
    let w = within alive in
    rw (object_of-live cells shape span alive, object_of-live written shape span alive) (record {
      lives = refl;
      shape = refl;
      count = length-whole_of written shape span (omega arith) ∙ sym (length-whole_of cells shape span w);
    })
written_by cells written shape span (inr ended) within size =
    same_object _ _ (object_of-ended written shape span ended ∙ sym (object_of-ended cells shape span ended))

pub written-continues : (most : ℕ) (spans : List Span) (cells written : List Cell) (shape : List (Scalar × Guard)) → HasRoom spans (length cells)
    → length written ≡ length cells → Continues (memory_of most spans cells shape) (memory_of most spans written shape)
written-continues most spans cells written shape room size = record {
  entered = omega (arith, length-map spans (object_of cells shape), length-map spans (object_of written shape));
  objects = λ n h. rw (live_object-memory_of most spans cells shape n, live_object-memory_of most spans written shape n)
      (written_by cells written shape (span_at spans n) (two_ways _) (room.within n) size);
}

-- ---- pointers last

pub pointers-last : (old new : Memory) (at : Pointer) → Continues old new → IsPointer old at → IsPointer new at
pointers-last old new Null c h = tt
pointers-last old new (At object cell low high stride) c h =
    let b = c.objects object h.entered in
    let e = c.entered in
    let f = h.entered in
    record {
      entered = omega arith;
      stride_above = h.stride_above;
      low_before = h.low_before;
      high_after = h.high_after;
      whole_before = h.whole_before;
      whole_after = h.whole_after;
      within = λ live now. with_object_there (high ≤ length live.cells) (live_object old object) (sym b.lives ∙ ap is_some now)
          (λ before then. let w = h.within before then in omega (arith, b.count, ap count_of now, ap count_of then));
    }

opposite : (a b : Option Object) → is_some a ≡ is_some b → is_none a ≡ is_none b
opposite None None e = refl
opposite None (Some y) e = absurd (cc e)
opposite (Some x) None e = absurd (cc e)
opposite (Some x) (Some y) e = refl

pub lifetimes-last : (old new : Memory) (at : Pointer) → Continues old new → IsPointer old at → has_ended new at ≡ has_ended old at
lifetimes-last old new Null c h = refl
lifetimes-last old new (At object cell low high stride) c h = opposite _ _ (c.objects object h.entered).lives

-- ---- pointers to whole objects and to parts

zero-mod : (n : ℕ) → 0 % n ≡ 0
zero-mod n = omega arith

pub whole-pointed : (memory : Memory) (object : ℕ) (stride : Element) (live : Object) → live_object memory object ≡ Some live
    → 1 ≤ stride.cells → length live.cells % stride.cells ≡ 0 → IsPointer memory (At object 0 0 (length live.cells) stride)
whole-pointed memory object stride live e one whole = record {
  entered = entered_if_some memory.objects object live e;
  stride_above = one;
  low_before = omega arith;
  high_after = omega arith;
  whole_before = zero-mod stride.cells;
  whole_after = ap (λ n. n % stride.cells) (omega arith) ∙ whole;
  within = λ now f. let same : live ≡ now = cc (e, f) in omega (arith, ap (λ o. length o.cells) same);
}

pub part-pointed : (memory : Memory) (object cell low high : ℕ) (stride : Element) (first count : ℕ) (within : Element) → IsPointer memory (At object cell low high stride)
    → cell < high → first + count ≤ stride.cells → 1 ≤ within.cells → count % within.cells ≡ 0
    → IsPointer memory (At object (cell + first) (cell + first) (cell + first + count) within)
part-pointed memory object cell low high stride first count within h below fits one whole =
    let element = stride_fits cell high stride.cells h.stride_above below h.whole_after in
    let before : cell + first - (cell + first) ≡ 0 = omega arith in
    let after : cell + first + count - (cell + first) ≡ count = omega arith in
    record {
      entered = h.entered;
      stride_above = one;
      low_before = omega arith;
      high_after = omega arith;
      whole_before = ap (λ n. n % within.cells) before ∙ zero-mod within.cells;
      whole_after = ap (λ n. n % within.cells) after ∙ whole;
      within = λ live now. let w = h.within live now in omega arith;
    }
