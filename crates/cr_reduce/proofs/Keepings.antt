-- What a step of the walk adds to the accepted rows, and where the first of all stands.
use Rattle.std.proofs.Common.{◌≡◌, ◌⊎◌, inl, inr, ℕ, ◌+◌, ◌*◌, ◌≤◌, Bool, true, false, arith, List, [], ◌∷◌, ◌++◌, length, ap, refl, sym, ◌∙◌}
use Rattle.std.proofs.lemmas.List.{append-nil}
use Rattle.cr_cursor.specs.Variants.{Offer, Widths, cursor, cursors_below, pass_cursors, place_of}
use Rattle.cr_reduce.specs.declared.end.Accepted.{Accepted}
use Rattle.cr_reduce.specs.Bench.{Judging}
use Rattle.cr_reduce.specs.Keeping.{Front, Grows}
use Rattle.cr_reduce.specs.Reduction.{State}
use Rattle.cr_reduce.specs.Search.{Search}
use Rattle.cr_reduce.specs.Walk.{Advances, GoesOver, left_of}
use Rattle.cr_reduce.specs.Walk.Advances.{moves, round}
use Rattle.cr_reduce.specs.Walk.MovesOn.{passed, accepted}

pub over_same : (s : Search) (before now : Judging) (from to : State) → GoesOver s before now from to → to.accepted ≡ from.accepted
over_same s before now from to over = ap (λ (st : State). st.accepted) over.is

pub grows : (s : Search) (before now : Judging) (from to : State) → Advances s before now from to → Grows from.accepted to.accepted
grows s before now from to (moves (passed over)) = inl (over_same s before now from to over)
grows s before now from to (moves (accepted position at size turns next first has count offered is)) = inr (record { at = at; size = size; turn = turns }, ap (λ (st : State). st.accepted) is)
grows s before now from to (round there changed is) = inl (ap (λ (st : State). st.accepted) is)

pub front : (old new : List Accepted) → Grows old new → Front old new
front old new (inl same) = ([], same ∙ sym (append-nil old))
front old new (inr (row, is)) = (row ∷ [], is)

pub left_high : (changed : Bool) (size count position : ℕ) → left_of changed size count position ≤ size * 1073741824 + 536870912 + count
left_high true size count position = omega arith
left_high false size count position = omega arith

none_below : (w : Widths) → cursors_below w 0 ≡ []
unfolding cursors_below
none_below w = refl

none_before : (w : Widths) → pass_cursors w 0 0 ≡ []
unfolding pass_cursors
none_before w = refl

-- The first cursor has position 0.
pub first_place : (offer : Offer) → place_of offer.widths (cursor 0 0 0) ≡ 0
first_place offer = omega (arith, ap length (none_below offer.widths), ap length (none_before offer.widths))
