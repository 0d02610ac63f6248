-- In a typed program: what is left to be known of a loud operand.
use Rattle.std.proofs.Common.{◌≡◌, refl, sym, ◌∙◌, ap, arith, inl, inr}
use Rattle.std.specs.Prelude.{ℕ, ◌<◌, ◌≤◌, Bool, true, is_some, Option, Some, None, length, slice_index_or, ◌⊎◌}
use Rattle.std.proofs.lemmas.Bool.{false≢true, cases_lt}
use Rattle.std.proofs.lemmas.List.{get_or_past}
use Rattle.cr_footprint.specs.Cell.{Cell as Place}
use Rattle.cr_memory.specs.declared.value.Cell.TheVariants.{Unset}
use Rattle.cr_memory.specs.Memory.{Object, Memory, live_object, count_of}
use Rattle.cr_memory.specs.Access.{some_object}
use Rattle.cr_memory.specs.Continues.{Continues}
use Rattle.cr_memory.proofs.Continuing.{entered_if_some}
use Rattle.cr_meaning_frames.specs.Frame.{Agree}

-- the objects entered since have ended, and cells of the set are as they were
pub record Rests (kept : Place → Bool) (old new : Memory) : Type 0 where
  pub ended : (number : ℕ) (live : Object) → live_object new number ≡ Some live → number < length old.objects
  pub same : (number cell : ℕ) (one other : Object) → live_object old number ≡ Some one → live_object new number ≡ Some other → kept (number, cell) ≡ true
      → slice_index_or other.cells cell Unset ≡ slice_index_or one.cells cell Unset

pub record Alive (o : Option Object) : Type 0 where
  pub object : Object
  pub is : o ≡ Some object

alive_of : (o : Option Object) → is_some o ≡ true → Alive o
alive_of None h = absurd (false≢true h)
alive_of (Some object) h = record { object = object; is = refl }

module _ (kept : Place → Bool) (old new : Memory) (c : Continues old new) (r : Rests kept old new) where
  pub onward : Agree kept old new
  onward = record {
    lives = λ number object e.
        let before = c.objects number (entered_if_some old.objects number object e) in
        let there = alive_of (live_object new number) (before.lives ∙ ap (λ (o : Option Object). is_some o) e) in
        record {
          other = there.object;
          lives = there.is;
          shape = sym (ap (λ (o : Option Object). (some_object o).shape) there.is) ∙ (before.shape ∙ ap (λ (o : Option Object). (some_object o).shape) e);
          count = sym (ap (λ (o : Option Object). count_of o) there.is) ∙ (before.count ∙ ap (λ (o : Option Object). count_of o) e);
          same = λ cell k. r.same number cell object there.object e there.is k;
        };
  }

  pub back : Agree kept new old
  back = record {
    lives = λ number object e.
        let before = c.objects number (r.ended number object e) in
        let there = alive_of (live_object old number) (sym before.lives ∙ ap (λ (o : Option Object). is_some o) e) in
        record {
          other = there.object;
          lives = there.is;
          shape = sym (ap (λ (o : Option Object). (some_object o).shape) there.is) ∙ (sym before.shape ∙ ap (λ (o : Option Object). (some_object o).shape) e);
          count = sym (ap (λ (o : Option Object). count_of o) there.is) ∙ (sym before.count ∙ ap (λ (o : Option Object). count_of o) e);
          same = λ cell k. sym (r.same number cell there.object object there.is e k);
        };
  }

  pub counts : (number : ℕ) → count_of (live_object new number) ≡ count_of (live_object old number)
  counts number = by_less (cases_lt number (length old.objects))
    where
      gone : (o : Option Object) → live_object new number ≡ o → length old.objects ≤ number → count_of o ≡ 0
      gone None e h = refl
      gone (Some live) e h = let below = r.ended number live e in absurd (omega (arith, below, h))

      by_less : (number < length old.objects) ⊎ (length old.objects ≤ number) → count_of (live_object new number) ≡ count_of (live_object old number)
      by_less (inl h) = (c.objects number h).count
      by_less (inr h) = gone (live_object new number) refl h ∙ sym (ap (λ (o : Option Object). count_of o) (get_or_past old.objects number None h))
