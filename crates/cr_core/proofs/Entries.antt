-- Counts above 0 are entries.
use Rattle.std.proofs.Common.{◌≡◌, ℕ, ◌+◌, ◌-◌, ◌<◌, ◌↔◌, List, [], ◌∷◌, length, get_or, refl, sym, ap, ◌∙◌, subst, arith, inl, inr, Some, slice_get}
use Rattle.std.proofs.lemmas.List.{get_or_past}
use Prim.Native.Nat.{zero, suc}
use Rattle.cr_core.specs.declared.marks.HitKind.TheVariants.{Yes, Failed, Starved}
use Rattle.cr_core.specs.declared.marks.Mark.{Mark}
use Rattle.cr_core.specs.declared.marks.Mark.TheVariants.{Open, No, Hit, Skipped}
use Rattle.cr_core.specs.declared.marks.Entry.{Entry}
use Rattle.cr_core.specs.Row.{Row, mark_no, apart, marked}
use Rattle.cr_core.specs.Sound.{total}
use Rattle.cr_core.specs.State.{State, in_lists, kind_of}
use Rattle.cr_core.specs.Laws.{IsMarked}
use Rattle.cr_core.proofs.Steps.{some_or_none}
use Rattle.cr_core.proofs.Totals.{total-at}

mark_of : ℕ → Mark
mark_of zero = Open
mark_of (suc zero) = No
mark_of (suc (suc zero)) = Skipped
mark_of (suc (suc (suc n))) = Hit (kind_of n)

mark_of-no : (m : Mark) → mark_of (mark_no m) ≡ m
unfolding mark_of
mark_of-no Open = refl
mark_of-no No = refl
mark_of-no Skipped = refl
mark_of-no (Hit Yes) = refl
mark_of-no (Hit Failed) = refl
mark_of-no (Hit Starved) = refl

-- different marks have different numbers
same_mark : (m n : Mark) → mark_no m ≡ mark_no n → m ≡ n
same_mark m n e = sym (mark_of-no m) ∙ ap mark_of e ∙ mark_of-no n

same_entry : (e : Entry) (p : ℕ) (m : Mark) → e.position ≡ p → e.mark ≡ m → e ≡ record { position = p; mark = m }
same_entry e p m at is = λ i. record { position = at i; mark = is i }

abbrev Stands : ℕ → Mark → Row → Type 0
Stands p m l = (j : ℕ) × (slice_get l j ≡ Some (record { position = p; mark = m }))

stands : (p : ℕ) (m : Mark) (l : Row) → 0 < marked p m l → Stands p m l
stands p m [] h = absurd (omega arith)
stands p m (e ∷ es) h =
    elim (some_or_none (1 - (apart p e.position + apart (mark_no m) (mark_no e.mark)))) [
      | inl here ↦
          (let at : p ≡ e.position = omega arith in
          let is : m ≡ e.mark = same_mark m e.mark (omega arith) in
          (zero, ap (λ (x : Entry). Some x) (same_entry e p m (sym at) (sym is))))
      | inr gone ↦ (let (j, there) = stands p m es (omega arith) in (suc j, there))
    ]

counts : (p : ℕ) (m : Mark) (l : Row) (j : ℕ) → slice_get l j ≡ Some (record { position = p; mark = m }) → 0 < marked p m l
counts p m [] j h = cc
counts p m (e ∷ es) zero h =
    let is : e ≡ record { position = p; mark = m } = cc in
    omega (arith, ap (λ (x : Entry). x.position) is, ap (λ (x : Entry). mark_no x.mark) is)
counts p m (e ∷ es) (suc j) h = omega (arith, counts p m es j h)

one_list : (f : Row → ℕ) (ls : List Row) → f [] ≡ 0 → 0 < total f ls → (i : ℕ) × (0 < f (get_or ls i []))
one_list f [] none h = absurd (omega arith)
one_list f (l ∷ ls) none h =
    elim (some_or_none (f l)) [
      | inl here ↦ (0, here)
      | inr gone ↦ (let (i, there) = one_list f ls none (omega arith) in (suc i, there))
    ]

from_entry : (s : State) (p : ℕ) (m : Mark) → IsMarked s p m → 0 < in_lists s (marked p m)
from_entry s p m (i, j, h) =
    elim (some_or_none (length s.lists - i)) [
      | inl there ↦ omega (arith, counts p m _ j h, total-at (marked p m) [] s.lists i (omega arith))
      | inr gone ↦
          (let P : Row → Type 0 = λ l. slice_get l j ≡ Some (record { position = p; mark = m }) in
          let q : P [] = subst P (get_or_past s.lists i [] (omega arith)) h in
          cc)
    ]

pub counts_are_entries : (s : State) (p : ℕ) (m : Mark) → (0 < in_lists s (marked p m)) ↔ IsMarked s p m
counts_are_entries s p m =
    ((λ h. let (i, some) = one_list (marked p m) s.lists refl h in (let (j, there) = stands p m _ some in (i, j, there))), from_entry s p m)
