-- The numbers of a walk, and what its steps complete.
use Rattle.std.proofs.Common.{◌≡◌, ◌∙◌, ℕ, ◌+◌, ◌*◌, ◌-◌, ◌<◌, ◌≤◌, Bool, true, false, List, drop, length, Option, Some, None, ap, subst, sym, refl, arith}
use Rattle.std.proofs.lemmas.List.{drop-drop, length_push}
use Rattle.std.proofs.Math.Nat.{suc-mul}
use Rattle.std.specs.List.{slice_get}
use Rattle.cr_cursor.specs.declared.passes.Cursor.{Cursor}
use Rattle.cr_cursor.specs.Variants.{Offer}
use Rattle.cr_reduce.specs.Bench.{AsksAtMost, GoesOn, Judging}
use Rattle.cr_pool.specs.Kept.{Kept}
use Rattle.cr_reduce.specs.Reduction.{AllRejected, IsFirstAccepted, Proposals, State, Within, cursors_of, moved, next_round}
use Rattle.cr_reduce.specs.Reduction.Reduces.{accepts, new_round}
use Rattle.cr_reduce.specs.Search.{Search, AcceptsInRun, FailsInRun, RejectsInRun}
use Rattle.cr_reduce.specs.declared.end.Accepted.{Accepted}
use Rattle.cr_reduce.specs.declared.end.Why.{Why}
use Rattle.cr_reduce.specs.declared.end.Why.TheVariants.{Fixed, Limit, Fault, NoMemory}
use Rattle.cr_reduce.specs.Walk.{Advances, AsksFew, EndsHere, GoesOver, IsTaken, Leads, MovesOn, left_of}
use Rattle.cr_reduce.specs.Walk.Advances.{moves, round}
use Rattle.cr_reduce.specs.Walk.MovesOn.{passed, accepted}
use Rattle.cr_reduce.proofs.Parts.{IsPart, accepts_within, all_within, with_kept}
use Rattle.cr_reduce.proofs.Runs.{goes_on-trans, has_failed-earlier}
use Rattle.cr_reduce.proofs.Reductions.{none_between, skip}

pub left_low : (changed : Bool) (size count position : ℕ) → size * 1073741824 ≤ left_of changed size count position
left_low true size count position = omega arith
left_low false size count position = omega arith

-- An acceptance makes the size fall, and with it the bound.
pub left_falls : (changed : Bool) (old_size old_count old_position size count position : ℕ) → size < old_size → count ≤ 201326592
    → left_of true size count position < left_of changed old_size old_count old_position
left_falls changed old_size old_count old_position size count position less few = omega (arith, left_low changed old_size old_count old_position)

-- Positions that an epoch rejected are gone over.
pub goes_over_all : (s : Search) (before now : Judging) (st : State) (len over : ℕ) → (over ≡ len) × AllRejected st.offer (RejectsInRun s before now) st.file st.position (st.position + len)
    → st.position + len ≤ length (cursors_of st.offer) → GoesOver s before now st (moved st (st.position + over) (st.turns + over))
goes_over_all s before now st len over it placed = record {
  position = st.position + over;
  turns = st.turns + over;
  low = omega arith;
  high = omega (arith, it.0);
  all = subst (λ n. AllRejected st.offer (RejectsInRun s before now) st.file st.position (st.position + n)) (sym it.0) it.1;
  count = omega arith;
  is = refl;
}

same_cursor : {A : Type 0} (xs : List A) (i : ℕ) (a b : A) → slice_get xs i ≡ Some a → slice_get xs i ≡ Some b → a ≡ b
same_cursor xs i a b first second = cc

-- The first accepted variant has become the file.
pub takes_first : (s : Search) (before now : Judging) (from to : State) (position : ℕ) (at : Cursor)
    → IsFirstAccepted from.offer (AcceptsInRun s before now) (RejectsInRun s before now) from.file from.position position at → IsTaken s.Offers from position to → MovesOn s before now from to
takes_first s before now from to position at first it =
    accepted position it.at it.size it.turns it.next
    (subst (IsFirstAccepted from.offer (AcceptsInRun s before now) (RejectsInRun s before now) from.file from.position position) (same_cursor (cursors_of from.offer) position at it.at first.there it.there) first)
    it.has it.count it.offered it.is

-- An epoch that came to an acceptance asked no more than its turns and the acceptance account for.
pub few_taken : (p : Proposals) (window len : ℕ) (before now : Judging) (from to : State) (position : ℕ) → len ≤ window → from.position ≤ position → AsksAtMost len before now → IsTaken p from position to
    → AsksFew window before now from to 0
few_taken p window len before now from to position short low few it =
    let one : Accepted = record { at = it.at; size = it.size; turn = it.turns } in
    let more = ap (λ n. n * (window - 1)) (length_push from.accepted one) in
    subst (λ st. AsksFew window before now from st 0) (sym it.is) (omega (arith, few, it.count, more, suc-mul (length from.accepted) (window - 1)))

-- What is the same behind the first few is the same behind more.
pub drop_more : {A : Type 0} (few more : ℕ) (xs ys : List A) → few ≤ more → drop few xs ≡ drop few ys → drop more xs ≡ drop more ys
drop_more few more xs ys fewer same =
    let rest = more - few in
    let all : few + rest ≡ more = omega (arith, fewer) in
    subst (λ n. drop n xs ≡ drop n ys) all (sym (drop-drop rest few xs) ∙ ap (drop rest) same ∙ drop-drop rest few ys)

-- what the steps complete

pub leads-refl : (s : Search) (before now : Judging) (st : State) → Leads s before now st st
leads-refl s before now st = record { later = omega arith; leads = λ after limit out on within rest. rest }

-- fewer turns are within a limit too
pub within_less : (limit : Option ℕ) (m n : ℕ) → m ≤ n → Within limit n → Within limit m
within_less None m n less within = tt
within_less (Some most) m n less within = omega arith

pub leads-trans : (s : Search) (before middle now : Judging) (a b c : State) → Leads s before middle a b → GoesOn middle now → Leads s before now b c → Leads s before now a c
leads-trans s before middle now a b c first on second = record {
  later = omega (arith, first.later, second.later);
  leads = λ after limit out later within rest. first.leads after limit out (goes_on-trans middle now after on later) (within_less limit b.turns c.turns second.later within) (second.leads after limit out later within rest);
}

leads-round : (s : Search) (before now : Judging) (st : State) → st.position ≡ length (cursors_of st.offer) → st.changed ≡ true → Leads s before now st (next_round st)
leads-round s before now st end changed = record { later = omega arith; leads = λ after limit out on within rest. new_round end changed rest }

-- a step whose trials were made in a part of the run
module _ (s : Search) (kept : List Kept) (before middle now : Judging) (part : IsPart s kept before middle now) (st to : State) where
  pub leads-over : GoesOver (with_kept s kept) middle now st to → Leads s before now st to
  leads-over over =
      subst (Leads s before now st) (sym over.is) (record {
        later = omega (arith, over.count, over.low);
        leads = λ after limit out on within rest. skip s.Offers (AcceptsInRun s before after) (RejectsInRun s before after) (FailsInRun s before after) limit st out over.position over.turns over.low over.high
            (all_within s kept before middle now part after st.offer st.file st.position over.position on over.all) over.count within rest;
      })

  leads-moves : MovesOn (with_kept s kept) middle now st to → Leads s before now st to
  leads-moves (passed over) = leads-over over
  leads-moves (accepted position at size turns next first has count offered is) =
      subst (Leads s before now st) (sym is) (record {
        later = omega (arith, first.after, count);
        leads = λ after limit out on within rest. accepts position at size turns next
            (record {
              after = first.after;
              there = first.there;
              accepted = accepts_within s kept before middle now part after st.file (st.offer.bytes at) on first.accepted;
              before = all_within s kept before middle now part after st.offer st.file st.position position on first.before;
            }) has count within offered rest;
      })

  pub leads-advances : Advances (with_kept s kept) middle now st to → Leads s before now st to
  leads-advances (moves step) = leads-moves step
  leads-advances (round end changed is) = subst (Leads s before now st) (sym is) (leads-round s before now st end changed)

-- A fault of the last step is a fault since the beginning.
pub ends_earlier : (s : Search) (kept : List Kept) (before middle now : Judging) (limit : Option ℕ) (st : State) (why : Why) → GoesOn before middle → EndsHere (with_kept s kept) middle now limit st why
    → EndsHere s before now limit st why
ends_earlier s kept before middle now limit st Fixed on ended = ended
ends_earlier s kept before middle now limit st Limit on ended = ended
ends_earlier s kept before middle now limit st (Fault turn worker) on ended =
    let here = ended.2 in
    let it = here.failed in (
      ended.0,
      ended.1,
      record {
        at = here.at;
        there = here.there;
        failed = record { smaller = it.smaller; lawful = it.lawful; failed = has_failed-earlier s.asks s.name before middle now worker (st.offer.bytes here.at) on it.failed };
      },
    )
ends_earlier s kept before middle now limit st NoMemory on ended = ended
