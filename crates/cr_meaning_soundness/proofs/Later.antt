-- Objects of nodes while all objects continue.
use Rattle.std.proofs.Common.{◌≡◌, refl, sym, ◌∙◌, ap, is_some, true, ◌<◌, length, replicate}
use Rattle.std.specs.Prelude.{ℕ, Option, Some, None, List, [], ◌∷◌}
use Rattle.std.proofs.lemmas.List.{length-map}
use Rattle.cr_ints.specs.declared.kind.IntKind.TheVariants.{Char as CharKind}
use Rattle.cr_memory.specs.declared.value.Scalar.{Scalar}
use Rattle.cr_memory.specs.declared.value.Guard.{Guard}
use Rattle.cr_memory.specs.Memory.{Object, Memory, live_object}
use Rattle.cr_memory.specs.Access.{some_object}
use Rattle.cr_memory.specs.Continues.{Continues}
use Rattle.cr_memory.proofs.Continuing.{entered_if_some}
use Rattle.cr_meaning.specs.World.{Program, Binding, bound, mark}
use Rattle.cr_meaning_soundness.specs.Sorts.{IsEntered, AreEntered, sorts_in, sort_of_scalar, number, AreChars, HoldsChars}

live_again : (o : Option Object) → is_some o ≡ true → (live : Object) × (o ≡ Some live)
live_again None e = absurd (cc e)
live_again (Some live) e = (live, refl)

pub is_entered_later : (p : Program) (old new : Memory) (node object : ℕ) → Continues old new → IsEntered p old node object → IsEntered p new node object
is_entered_later p old new node object c h =
    let b = c.objects object (entered_if_some old.objects object h.live h.lives) in
    let o = live_again (live_object new object) (b.lives ∙ ap is_some h.lives) in
    let same : o.0.shape ≡ h.live.shape = sym (ap (λ x. (some_object x).shape) o.1) ∙ (b.shape ∙ ap (λ x. (some_object x).shape) h.lives) in
    record { live = o.0; lives = o.1; sorts = ap sorts_in same ∙ h.sorts }

pub entered_later : (p : Program) (old new : Memory) (bindings : List Binding) → Continues old new → AreEntered p old bindings → AreEntered p new bindings
entered_later p old new [] c h = tt
entered_later p old new (mark ∷ rest) c h = entered_later p old new rest c h
entered_later p old new (bound node object ∷ rest) c h = (is_entered_later p old new node object c h.0, entered_later p old new rest c h.1)

-- ---- chars

pub as_many_sorts : (one other : List (Scalar × Guard)) → sorts_in one ≡ sorts_in other → length one ≡ length other
as_many_sorts one other e =
    sym (length-map one (λ (own : Scalar × Guard). sort_of_scalar own.0)) ∙ (ap length e ∙ length-map other (λ (own : Scalar × Guard). sort_of_scalar own.0))

pub chars_as : (one other : List (Scalar × Guard)) → sorts_in one ≡ sorts_in other → AreChars other → AreChars one
chars_as one other e h = e ∙ (h ∙ ap (λ n. replicate n (number CharKind)) (sym (as_many_sorts one other e)))

pub chars_later : (old new : Memory) (object : ℕ) → Continues old new → object < length old.objects → HoldsChars old object → HoldsChars new object
chars_later old new object c below h live e =
    let b = c.objects object below in
    let o = live_again (live_object old object) (sym b.lives ∙ ap is_some e) in
    let same : live.shape ≡ o.0.shape = sym (ap (λ x. (some_object x).shape) e) ∙ (b.shape ∙ ap (λ x. (some_object x).shape) o.1) in
    chars_as live.shape o.0.shape (ap sorts_in same) (h o.0 o.1)
