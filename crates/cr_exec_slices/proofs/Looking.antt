-- Looks at the stop, and steps between them.
use Rattle.std.proofs.Common.{◌≡◌, ◌≢◌, ℕ, ◌+◌, ◌-◌, ◌^◌, ◌<◌, ◌≤◌, min, Option, Some, None, Bool, false, ◌||◌, ap, refl, subst, ◌∙◌, arith}
use Rattle.std.specs.Prelude.{IfSome, MatchOption}
use Rattle.cr_cursor.specs.Stops.{after_look}
use Rattle.cr_exec_slices.specs.Looks.{HasLooked, IsBetweenSlices}

-- a slice that isn't over goes on
pub still_ahead : (until : Option ℕ) (steps after : ℕ) → IfSome until (λ u. u ≤ steps) → until ≢ Some steps → steps ≤ after + 1 → IfSome until (λ u. u ≤ after)
still_ahead None steps after h d few = tt
still_ahead (Some u) steps after h d few = let apart : u ≢ steps = λ e. d (ap (λ n. Some n) e) in omega (arith, h, apart, few)

next_look : (before looks after times : ℕ) → after_look looks ≡ min (before + (times + 1)) (2 ^ 64 - 1) → after ≡ after_look looks
    → after_look after ≡ min (before + (times + 1 + 1)) (2 ^ 64 - 1)
next_look before looks after times h e = let is : after ≡ min (before + (times + 1)) (2 ^ 64 - 1) = e ∙ h in omega (arith, is)

pub looked_and_paused : (before looks after start steps left : ℕ) → IsBetweenSlices before looks (start - steps) → after ≡ after_look looks
    → steps ≤ start → left + 4096 ≡ steps → IsBetweenSlices before after (start - left)
looked_and_paused before looks after start steps left h e one two = record {
  times = h.times + 1;
  counted = next_look before looks after h.times h.counted e;
  whole = omega (arith, h.whole, one, two);
}

pub no_look : (before start : ℕ) → IsBetweenSlices before before (start - start)
no_look before start = record { times = 0; counted = refl; whole = omega arith }

-- what a slice left that is over
pub left_over : (until : Option ℕ) (steps left : ℕ) → MatchOption until (steps < 4096) (λ u. u + 4096 ≡ steps) → until ≡ Some left → left + 4096 ≡ steps
left_over until steps left h e = let P : Option ℕ → Type 0 = λ o. MatchOption o (steps < 4096) (λ u. u + 4096 ≡ steps) in subst P e h

-- a stop that answered no
pub not_raised : (before answer after : Bool) → after ≡ (before || answer) → before ≡ false → answer ≡ false → after ≡ false
not_raised before answer after h b a = h ∙ (ap (λ x. x || answer) b ∙ a)
