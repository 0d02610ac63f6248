-- Objects that were entered, while a run goes on: their shapes stay, and some end.
use Rattle.std.proofs.Common.{◌≡◌, ℕ, ◌<◌, ◌≤◌, is_some, true, inl, inr, Option, Some, None, List, length, refl, sym, ap, ◌∙◌, arith, length-set}
use Rattle.std.proofs.lemmas.Bool.{cases_eq}
use Rattle.cr_memory.specs.declared.value.Pointer.{Pointer}
use Rattle.cr_memory.specs.declared.value.Scalar.{Scalar}
use Rattle.cr_memory.specs.declared.value.Guard.{Guard}
use Rattle.cr_memory.specs.Memory.{Object, Memory, live_object, count_of, without_object}
use Rattle.cr_memory.specs.Access.{some_object}
use Rattle.cr_memory.specs.Continues.{Continues}
use Rattle.cr_meaning.specs.World.{Program}
use Rattle.cr_meaning_soundness.proofs.Worlds.{gone}
use Rattle.cr_meaning_places.specs.Places.{HasShape, HasCount, AreStrings, IsObjectOf, IsDeclared, null, whole, strings, member, pointed, first, moved}

pub record Lasts (old new : Memory) : Type 0 where
  pub entered : length old.objects ≤ length new.objects
  pub shapes : (n : ℕ) (live : Object) → n < length old.objects → live_object new n ≡ Some live → (before : Object) × ((live_object old n ≡ Some before) × ((live.shape ≡ before.shape) × (length live.cells ≡ length before.cells)))

pub lasts_refl : (memory : Memory) → Lasts memory memory
lasts_refl memory = record { entered = omega arith; shapes = λ n live h e. (live, (e, (refl, refl))) }

pub lasts_onward : (one two three : Memory) → Lasts one two → Lasts two three → Lasts one three
lasts_onward one two three f s =
    let e = f.entered in
    let e' = s.entered in
    record {
      entered = omega arith;
      shapes = λ n live h now.
          let b = s.shapes n live (omega arith) now in
          let a = f.shapes n b.0 h b.1.0 in
          (a.0, (a.1.0, (b.1.1.0 ∙ a.1.1.0, b.1.1.1 ∙ a.1.1.1)));
    }

pub live_again : (o : Option Object) → is_some o ≡ true → (live : Object) × (o ≡ Some live)
live_again None e = absurd (cc e)
live_again (Some live) e = (live, refl)

pub lasts_by : (old new : Memory) → Continues old new → Lasts old new
lasts_by old new c = record {
  entered = c.entered;
  shapes = λ n live h e.
      let b = c.objects n h in
      let o = live_again (live_object old n) (sym b.lives ∙ ap is_some e) in
      let same : live.shape ≡ o.0.shape = sym (ap (λ x. (some_object x).shape) e) ∙ (b.shape ∙ ap (λ x. (some_object x).shape) o.1) in
      let many : length live.cells ≡ length o.0.cells = sym (ap count_of e) ∙ (b.count ∙ ap count_of o.1) in
      (o.0, (o.1, (same, many)));
}

pub lasts_without : (memory : Memory) (number : ℕ) → Lasts memory (without_object memory number)
lasts_without memory number = record {
  entered = omega (arith, length-set memory.objects number None);
  shapes = λ n live h e. (live, (gone memory.objects number n live (cases_eq n number) e, (refl, refl)));
}

-- ---- what is said of objects stays

pub shape_later : (old new : Memory) (object : ℕ) (shape : List (Scalar × Guard)) → Lasts old new → HasShape old object shape → HasShape new object shape
shape_later old new object shape l h =
    let e = l.entered in
    let e' = h.entered in
    record {
      entered = omega arith;
      same = λ live now. let b = l.shapes object live h.entered now in b.1.1.0 ∙ h.same b.0 b.1.0;
    }

pub strings_later : (p : Program) (old new : Memory) (object : ℕ) (kind : Scalar) → Lasts old new → AreStrings p old object kind → AreStrings p new object kind
strings_later p old new object kind l h = record {
  node = h.node;
  op = h.op;
  objects = h.objects;
  parameters = h.parameters;
  rest = h.rest;
  op_is = h.op_is;
  work_is = h.work_is;
  has = shape_later old new object _ l h.has;
}

pub object_later : (p : Program) (old new : Memory) (declared object : ℕ) → Lasts old new → IsObjectOf p old declared object → IsObjectOf p new declared object
object_later p old new declared object l (inl h) = inl (shape_later old new object (p.shape declared) l h)
object_later p old new declared object l (inr h) = inr (h.0, strings_later p old new object h.0 l h.1)

entered_of : (p : Program) (memory : Memory) (declared object : ℕ) → IsObjectOf p memory declared object → object < length memory.objects
entered_of p memory declared object (inl h) = h.entered
entered_of p memory declared object (inr h) = h.1.has.entered

count_later : (old new : Memory) (object count : ℕ) → Lasts old new → object < length old.objects → HasCount old object count → HasCount new object count
count_later old new object count l below h live now = let b = l.shapes object live below now in b.1.1.1 ∙ h b.0 b.1.0

pub declared_later : (p : Program) (old new : Memory) (at : Pointer) → Lasts old new → IsDeclared p old at → IsDeclared p new at
declared_later p old new at l (null) = null
declared_later p old new at l (whole node declared object count of op e w h c) =
    whole node declared object count of op e w (object_later p old new declared object l h) (count_later old new object count l (entered_of p old declared object h) c)
declared_later p old new at l (strings object kind h) = strings object kind (strings_later p old new object kind l h)
declared_later p old new at l (member node part structure before own form op place e w f g s d) =
    member node part structure before own form op place e w f g s (declared_later p old new place l d)
declared_later p old new at l (pointed node before structure own op place e w m d) = pointed node before structure own op place e w m (declared_later p old new place l d)
declared_later p old new at l (first node array own op place e a g s d) = first node array own op place e a g s (declared_later p old new place l d)
declared_later p old new at l (moved place new_place by e d) = moved place new_place by e (declared_later p old new place l d)
