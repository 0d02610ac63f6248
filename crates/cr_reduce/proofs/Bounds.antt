-- A reduction with turns enough doesn't end by its limit.
use Rattle.std.proofs.Common.{◌≡◌, ℕ, zero, suc, ◌+◌, ◌-◌, ◌*◌, ◌<◌, ◌≤◌, Bool, true, false, List, length, Option, Some, get_or, subst, sym, ap, ◌∙◌, refl, arith}
use Rattle.std.proofs.Math.Nat.{mul-le-mul_right, suc-mul}
use Rattle.std.proofs.lemmas.Option.{slice_get-get_or, slice_get_within}
use Rattle.std.specs.List.{slice_get}
use Rattle.cr_cursor.specs.declared.passes.Cursor.{Cursor}
use Rattle.cr_reduce.specs.Bench.{Judging}
use Rattle.cr_reduce.specs.declared.end.End.{End}
use Rattle.cr_reduce.specs.declared.end.Why.{Why}
use Rattle.cr_reduce.specs.declared.end.Why.TheVariants.{Fixed, Limit, Fault, NoMemory}
use Rattle.cr_reduce.specs.Search.{Search, AcceptsInRun, FailsInRun, RejectsInRun, ReducesFileInRun}
use Rattle.cr_reduce.specs.Ends.{EndsBy, outcome_of}
use Rattle.cr_cursor.specs.Variants.{Offer, Widths, cursor, cursors, pass_count, place_of}
use Rattle.cr_reduce.specs.Sizes.{HasSize, IsSmaller}
use Rattle.cr_reduce.specs.Reduction.{FailedTrials, Proposals, Trial, State, Outcome, Reduces, Within, cursors_of, moved, next_round, start_of, taken}
use Rattle.cr_reduce.specs.Reduction.Reduces.{new_round, fixed, spent, short, accepts, rejects, fails}
use Rattle.cr_reduce.specs.Bound.{HasLevels, enough_turns, levels_below}
use Rattle.cr_cursor.proofs.Members.{of_cursors}
use Rattle.cr_reduce.proofs.Ranks.{is_level, rank_below, rank_of, rises}
use Rattle.cr_reduce.proofs.Sizes.{one_size}
use Rattle.cr_reduce.proofs.OneOutcome.{at_most}
use Rattle.cr_reduce.proofs.Walks.{within_less}

-- the widths of one file, whose size is at most this
record IsNarrow (levels : ℕ → ℕ) (size : ℕ) (w : Widths) : Type 0 where
  none_above : (pass level : ℕ) → levels pass ≤ level → w pass level ≡ 0
  few : (pass level : ℕ) → w pass level ≤ size

narrow : (p : Proposals) (levels : ℕ → ℕ) (size n : ℕ) (file : List ℕ) (o : Offer) → HasLevels p levels → p file o → HasSize file n → n ≤ size → IsNarrow levels size o.widths
narrow p levels size n file o has offered sized small = record {
  none_above = λ pass level above. has.none_above file o pass level offered above;
  few = λ pass level. omega (arith, has.few file o pass level offered, sized.is);
}

-- Each variant from a position on has at least this rank, which is at most that of a round's end.
record IsAhead (levels : ℕ → ℕ) (size : ℕ) (w : Widths) (position low : ℕ) : Type 0 where
  within : low ≤ levels_below levels pass_count * size
  past : (j : ℕ) (c : Cursor) → position ≤ j → slice_get (cursors w) j ≡ Some c → low ≤ rank_of levels size c

at_start : (levels : ℕ → ℕ) (size : ℕ) (w : Widths) → IsAhead levels size w 0 0
at_start levels size w = record { within = omega arith; past = λ j c from there. omega arith }

-- a variant's rank is below that of a round's end
in_round : (levels : ℕ → ℕ) (size : ℕ) (w : Widths) (i : ℕ) (c : Cursor) → IsNarrow levels size w → slice_get (cursors w) i ≡ Some c → rank_of levels size c < levels_below levels pass_count * size
in_round levels size w i c fits there =
    let at = of_cursors w i c there in
    rank_below levels size c at.pass (is_level levels w fits.none_above c at.index) (omega (arith, at.index, fits.few c.pass c.level))

-- and so one position further each has one rank more
behind : (levels : ℕ → ℕ) (size : ℕ) (w : Widths) (i j : ℕ) (a c : Cursor) → IsNarrow levels size w → slice_get (cursors w) i ≡ Some a → slice_get (cursors w) j ≡ Some c → i + 1 ≤ j
    → rank_of levels size a + 1 ≤ rank_of levels size c
behind levels size w i j a c fits there there' later =
    let at = of_cursors w i a there in
    let next = cursor a.pass a.level (a.index + 1) in
    omega (arith, rises levels size w next c j (is_level levels w fits.none_above a at.index) (omega (arith, at.index, fits.few a.pass a.level)) (of_cursors w j c there') (omega (arith, at.place, at.index)))

next_ahead : (levels : ℕ → ℕ) (size : ℕ) (w : Widths) (i low : ℕ) → IsNarrow levels size w → IsAhead levels size w i low → i < length (cursors w) → IsAhead levels size w (i + 1) (low + 1)
next_ahead levels size w i low fits ahead below =
    let here = get_or (cursors w) i (cursor 0 0 0) in
    let there : slice_get (cursors w) i ≡ Some here = slice_get-get_or (cursors w) i (cursor 0 0 0) below in
    let least : low ≤ rank_of levels size here = ahead.past i here (omega arith) there in
    record {
      within = omega (arith, least, in_round levels size w i here fits there);
      past = λ j c from there'. omega (arith, least, behind levels size w i j here c fits there there' from);
    }

ahead_on : (levels : ℕ → ℕ) (size : ℕ) (w : Widths) (d i low to high : ℕ) → to ≡ i + d → high ≡ low + d → IsNarrow levels size w → IsAhead levels size w i low → to ≤ length (cursors w)
    → IsAhead levels size w to high
ahead_on levels size w zero i low to high e f fits ahead below =
    subst (λ t. IsAhead levels size w t high) (omega arith) (subst (λ h. IsAhead levels size w i h) (omega arith) ahead)
ahead_on levels size w (suc d) i low to high e f fits ahead below =
    ahead_on levels size w d (i + 1) (low + 1) to high (omega arith) (omega arith) fits (next_ahead levels size w i low fits ahead (omega arith)) below

-- The cursor of an accepted variant stands in the new file where it stood.
ahead_in : (levels : ℕ → ℕ) (size : ℕ) (w new : Widths) (i low : ℕ) (at : Cursor) → IsNarrow levels size w → IsNarrow levels size new → IsAhead levels size w i low → slice_get (cursors w) i ≡ Some at
    → IsAhead levels size new (place_of new at) low
ahead_in levels size w new i low at fits fits' ahead there =
    let it = of_cursors w i at there in
    let least : low ≤ rank_of levels size at = ahead.past i at (omega arith) there in
    record {
      within = ahead.within;
      past = λ j c from there'. omega (arith, least, rises levels size new at c j (is_level levels w fits.none_above at it.index) (omega (arith, it.index, fits.few at.pass at.level)) (of_cursors new j c there') from);
    }

-- A bound on the turns that are left: of a round's positions those that aren't behind, and for each unit of the size a
-- round and an acceptance.
abbrev left_of : Bool → ℕ → ℕ → ℕ → ℕ
left_of false round n low = n * (round + 1) + (round - low)
left_of true round n low = n * (round + 1) + round + (round - low)

left_least : (changed : Bool) (round n low : ℕ) → round - low ≤ left_of changed round n low
left_least true round n low = omega arith
left_least false round n low = omega arith

left_moves : (changed : Bool) (round n low d : ℕ) → low + d ≤ round → left_of changed round n (low + d) + d ≤ left_of changed round n low
left_moves true round n low d within = omega arith
left_moves false round n low d within = omega arith

left_rounds : (changed : Bool) (round n low : ℕ) → changed ≡ true → left_of false round n 0 ≤ left_of changed round n low
left_rounds true round n low is = omega arith
left_rounds false round n low is = cc

left_falls : (changed : Bool) (round n m low : ℕ) → m < n → left_of true round m low + 1 ≤ left_of changed round n low
left_falls true round n m low less =
    let fall : suc m * (round + 1) ≤ n * (round + 1) = mul-le-mul_right (round + 1) less in
    omega (arith, fall, suc-mul m (round + 1))
left_falls false round n m low less =
    let fall : suc m * (round + 1) ≤ n * (round + 1) = mul-le-mul_right (round + 1) less in
    omega (arith, fall, suc-mul m (round + 1))

not_limit : (out : Outcome) (st : State) → out ≡ record { file = st.file; accepted = st.accepted; turns = st.turns; why = Fixed } → out.why ≡ Limit → ⊥
not_limit out st is is_limit = let e = ap (λ o. o.why) is in cc

-- Where a bound on the turns that are left is within the limit, the reduction from a state on doesn't end by it.
not_by_limit : (p : Proposals) (A R : Trial) (F : FailedTrials) (levels : ℕ → ℕ) (size : ℕ) (limit : Option ℕ) → HasLevels p levels → ((file variant : List ℕ) → A file variant → IsSmaller variant file)
    → (st : State) (out : Outcome) (n low : ℕ) → p st.file st.offer → HasSize st.file n → n ≤ size → IsAhead levels size st.offer.widths st.position low
    → Within limit (st.turns + left_of st.changed (levels_below levels pass_count * size) n low)
    → Reduces p A R F limit st out → out.why ≡ Limit → ⊥
not_by_limit p A R F levels size limit has smaller st out n low offered sized small ahead bound (new_round end changed rest) is_limit =
    not_by_limit p A R F levels size limit has smaller (next_round st) out n 0 offered sized small (at_start levels size st.offer.widths)
    (within_less limit _ _ (omega (arith, left_rounds st.changed (levels_below levels pass_count * size) n low changed)) bound) rest is_limit
not_by_limit p A R F levels size limit has smaller st out n low offered sized small ahead bound (fixed end same is) is_limit = not_limit out st is is_limit
not_by_limit p A R F levels size limit has smaller st out n low offered sized small ahead bound (spent below limit_is is) is_limit =
    let next = next_ahead levels size st.offer.widths st.position low (narrow p levels size n st.file st.offer has offered sized small) ahead below in
    absurd (omega (arith, next.within, left_least st.changed (levels_below levels pass_count * size) n low, at_most limit st.turns _ limit_is bound))
not_by_limit p A R F levels size limit has smaller st out n low offered sized small ahead bound (short to turns some below all count limit_is is) is_limit =
    let fits = narrow p levels size n st.file st.offer has offered sized small in
    let here = ahead_on levels size st.offer.widths (to - st.position) st.position low to (low + (to - st.position)) (omega arith) refl fits ahead (omega arith) in
    let next = next_ahead levels size st.offer.widths to (low + (to - st.position)) fits here below in
    absurd (omega (arith, next.within, left_least st.changed (levels_below levels pass_count * size) n low, at_most limit turns _ limit_is bound))
not_by_limit p A R F levels size limit has smaller st out n low offered sized small ahead bound (accepts position at m turns new first sized' count within offered' rest) is_limit =
    let fits = narrow p levels size n st.file st.offer has offered sized small in
    let d = position - st.position in
    let inside = slice_get_within (cursors_of st.offer) position at first.there in
    let here = ahead_on levels size st.offer.widths d st.position low position (low + d) (omega (arith, first.after)) refl fits ahead (omega (arith, inside)) in
    let it = smaller st.file (st.offer.bytes at) first.accepted in
    let less : m < n = omega (arith, it.less, one_size (st.offer.bytes at) m it.new_size sized' it.new_is, one_size st.file n it.old_size sized it.old_is) in
    let fits' = narrow p levels size m (st.offer.bytes at) new has offered' sized' (omega arith) in
    let later = ahead_in levels size st.offer.widths new.widths position (low + d) at fits fits' here first.there in
    let falls = left_falls st.changed (levels_below levels pass_count * size) n m (low + d) less in
    not_by_limit p A R F levels size limit has smaller (taken st at m turns new) out m (low + d) offered' sized' (omega arith) later
    (within_less limit _ _ (omega (arith, first.after, left_moves st.changed (levels_below levels pass_count * size) n low d here.within, falls)) bound) rest is_limit
not_by_limit p A R F levels size limit has smaller st out n low offered sized small ahead bound (rejects turns below all count within rest) is_limit =
    let fits = narrow p levels size n st.file st.offer has offered sized small in
    let end = length (cursors_of st.offer) in
    let d = end - st.position in
    let here = ahead_on levels size st.offer.widths d st.position low end (low + d) (omega arith) refl fits ahead (omega arith) in
    not_by_limit p A R F levels size limit has smaller (moved st end turns) out n (low + d) offered sized small here
    (within_less limit _ _ (omega (arith, left_moves st.changed (levels_below levels pass_count * size) n low d here.within)) bound) rest is_limit
not_by_limit p A R F levels size limit has smaller st out n low offered sized small ahead bound (fails position at turns worker after there before failed count within is) is_limit =
    let other : Fault (turns + 1) worker ≡ Limit = sym (ap (λ o. o.why) is) ∙ is_limit in cc

from_start : (k size : ℕ) → 0 + (size * (k * size + 1) + (k * size - 0)) ≤ k * size * (size + 1) + size
from_start k size = omega arith

-- With turns enough, or without a limit, a reduction ends for another reason.
pub ends_in_time : (p : Proposals) (A R : Trial) (F : FailedTrials) (levels : ℕ → ℕ) (size : ℕ) (limit : Option ℕ) → HasLevels p levels → ((file variant : List ℕ) → A file variant → IsSmaller variant file)
    → (file : List ℕ) (offer : Offer) (out : Outcome) → p file offer → HasSize file size → Within limit (enough_turns levels size) → Reduces p A R F limit (start_of file offer) out → out.why ≡ Limit → ⊥
ends_in_time p A R F levels size limit has smaller file offer out offered sized enough run is_limit =
    not_by_limit p A R F levels size limit has smaller (start_of file offer) out size 0 offered sized (omega arith) (at_start levels size offer.widths)
    (within_less limit _ _ (from_start (levels_below levels pass_count) size) enough) run is_limit

-- so does the end of a chain
pub in_time : (s : Search) (before now : Judging) (limit : Option ℕ) (file : List ℕ) (e : End) (why : Why) → EndsBy (ReducesFileInRun s before now file) file limit e why
    → (levels : ℕ → ℕ) (size : ℕ) → HasLevels s.Offers levels → HasSize file size → Within limit (enough_turns levels size) → why ≡ Limit → ⊥
in_time s before now limit file e Fixed run levels size has sized enough is = cc
in_time s before now limit file e Limit run levels size has sized enough is =
    ends_in_time s.Offers (AcceptsInRun s before now) (RejectsInRun s before now) (FailsInRun s before now) levels size limit has (λ f v it. it.smaller) file run.0 (outcome_of e Limit) run.1 sized enough run.2 refl
in_time s before now limit file e (Fault turn worker) run levels size has sized enough is = cc
in_time s before now limit file e NoMemory run levels size has sized enough is = cc
