-- A reduction by trials that say what is so where the answers are told.
use Rattle.std.proofs.Common.{◌≡◌, ◌≢◌, ℕ, ◌+◌, ◌≤◌, true, List, [], length, Option, Some, None, inl, inr, refl, sym, ap, subst, arith}
use Rattle.std.proofs.lemmas.Bool.{cases_lt}
use Rattle.std.specs.List.{slice_get}
use Rattle.cr_cursor.specs.declared.passes.Cursor.{Cursor}
use Rattle.cr_cursor.specs.Variants.{Offer}
use Rattle.cr_pool.specs.Trials.IsRejected.{not_smaller, unlawful, answered_no}
use Rattle.cr_reduce.specs.Bench.{Judging}
use Rattle.cr_reduce.specs.Bound.{HasLevels, enough_turns}
use Rattle.cr_reduce.specs.declared.end.End.{End}
use Rattle.cr_reduce.specs.declared.end.Why.{Why}
use Rattle.cr_reduce.specs.declared.end.Why.TheVariants.{Fixed, Limit, Fault, NoMemory}
use Rattle.cr_reduce.specs.declared.walk.Walk.{Walk as PlainWalk}
use Rattle.cr_reduce.specs.Ends.{EndsBy, EndsToldBy, FaultsWithCause, IsFixedAsTold, StopsAt, end_of_walk, outcome_of}
use Rattle.cr_reduce.specs.Reduction.{AllRejected, IsFirstAccepted, Outcome, State, Within, cursors_of, ends, moved, next_round, none_fails, start_of}
use Rattle.cr_reduce.specs.Reduction.Reduces.{accepts, fails, fixed, new_round, spent}
use Rattle.cr_reduce.specs.Search.{AcceptsAsTold, FailsInRun, IsAllTold, ReducesFileAsTold, RejectsAsTold, Search}
use Rattle.cr_reduce.specs.Sizes.{HasSize}
use Rattle.cr_reduce.specs.Walk.{EndsHere, IsTaken, state_of}
use Rattle.cr_reduce.proofs.Bounds.{ends_in_time}
use Rattle.cr_reduce.proofs.Reductions.{cut_short, fixed_point, none_between, reduces-map, skip, stops_here}
use Rattle.cr_reduce.proofs.Walks.{within_less}
use Rattle.cr_standing_workers.specs.Told.{AcceptsIfTold, EndsIfTold, ReducesFileIfTold, ReducesIfTold, RejectsIfTold}
use Rattle.cr_standing.specs.Walk.{Leads}

-- what the steps complete

pub leads-refl : (s : Search) (st : State) → Leads s st st
leads-refl s st = record { later = omega arith; leads = λ before after limit out within rest. rest }

pub leads-trans : (s : Search) (a b c : State) → Leads s a b → Leads s b c → Leads s a c
leads-trans s a b c first second = record {
  later = omega (arith, first.later, second.later);
  leads = λ before after limit out within rest. first.leads before after limit out (within_less limit b.turns c.turns second.later within) (second.leads before after limit out within rest);
}

pub leads_round : (s : Search) (st : State) → st.position ≡ length (cursors_of st.offer) → st.changed ≡ true → Leads s st (next_round st)
leads_round s st end changed = record { later = omega arith; leads = λ before after limit out within rest. new_round end changed rest }

-- over rejected positions
pub leads_over : (s : Search) (st : State) (position turns : ℕ) → st.position ≤ position → position ≤ length (cursors_of st.offer) → AllRejected st.offer (RejectsIfTold s) st.file st.position position
    → turns + st.position ≡ st.turns + position → Leads s st (moved st position turns)
leads_over s st position turns low high all count = record {
  later = omega arith;
  leads = λ before after limit out within rest. skip s.Offers (AcceptsIfTold s) (RejectsIfTold s) (FailsInRun s before after) limit st out position turns low high all count within rest;
}

same_cursor : {A : Type 0} (xs : List A) (i : ℕ) (a b : A) → slice_get xs i ≡ Some a → slice_get xs i ≡ Some b → a ≡ b
same_cursor xs i a b first second = cc

-- to the first accepted one
pub leads_taken : (s : Search) (st to : State) (position : ℕ) (at : Cursor) → IsFirstAccepted st.offer (AcceptsIfTold s) (RejectsIfTold s) st.file st.position position at → IsTaken s.Offers st position to → Leads s st to
leads_taken s st to position at found it =
    let first = subst (IsFirstAccepted st.offer (AcceptsIfTold s) (RejectsIfTold s) st.file st.position position) (same_cursor (cursors_of st.offer) position at it.at found.there it.there) found in
    subst (Leads s st) (sym it.is) (record {
      later = omega (arith, first.after, it.count);
      leads = λ before after limit out within rest. accepts position it.at it.size it.turns it.next first it.has it.count within it.offered rest;
    })

-- from the walk to the end

within_itself : (turns : ℕ) → turns ≤ turns
within_itself turns = omega arith

pub one_left : (limit : Option ℕ) (turns : ℕ) → limit ≢ Some turns → Within limit turns → Within limit (turns + 1)
one_left None turns more within = tt
one_left (Some most) turns more within = elim (cases_lt turns most) [
  | inl less ↦ omega arith
  | inr least ↦ absurd (more (ap Some (omega arith)))
]

module _ {T : Type 0} (s : Search) (before now : Judging) (make : T → List ℕ → Offer) (file : List ℕ) (first : Offer) (offered : s.Offers file first) (w : PlainWalk T) (led : Leads s (start_of file first) (state_of make w)) where
  completes : (limit : Option ℕ) (why : Why) → Within limit w.turns → ReducesIfTold s before now limit (state_of make w) (ends (state_of make w) why) → ReducesFileIfTold s before now file limit (outcome_of (end_of_walk w why) why)
  completes limit why within run = (first, offered, led.leads before now limit (ends (state_of make w) why) within run)

  stops : (why : Why) → w.position ≤ length (cursors_of (make w.prep w.file.items)) → StopsAt (ReducesFileIfTold s before now file) (end_of_walk w why)
  stops why placed =
      let here = stops_here s.Offers (AcceptsIfTold s) (RejectsIfTold s) (FailsInRun s before now) (state_of make w) placed in
      (here.0, completes (Some w.turns) here.0 (within_itself w.turns) here.1)

  pub ends_if_told : (limit : Option ℕ) (why : Why) → EndsHere s before now limit (state_of make w) why → w.position ≤ length (cursors_of (make w.prep w.file.items)) → Within limit w.turns
      → EndsBy (ReducesFileIfTold s before now file) file limit (end_of_walk w why) why
  ends_if_told limit Fixed ended placed within = completes limit Fixed within (fixed ended.0 ended.1 refl)
  ends_if_told limit Limit ended placed within = completes limit Limit within (spent ended.0 ended.1 refl)
  ends_if_told limit (Fault turn worker) ended placed within =
      let here = ended.2 in
      completes limit (Fault turn worker) within (fails w.position here.at w.turns worker (omega arith) here.there (none_between (make w.prep w.file.items) (RejectsIfTold s) w.file.items w.position) here.failed refl
      (one_left limit w.turns ended.1 within) (ap (λ t. ends (state_of make w) (Fault t worker)) ended.0))
  ends_if_told limit NoMemory ended placed within = (within, inr (stops NoMemory placed))

within_zero : (limit : Option ℕ) → Within limit 0
within_zero None = tt
within_zero (Some most) = omega arith

-- no memory at the beginning
pub nothing_done : (s : Search) (before now : Judging) (limit : Option ℕ) (file : List ℕ) (e : End) → e.file.items ≡ file → e.accepted.items ≡ [] → e.turns ≡ 0 → e.why ≡ NoMemory → EndsIfTold s before now limit file e
nothing_done s before now limit file e same none unturned why_is =
    subst (λ why. EndsBy (ReducesFileIfTold s before now file) file limit e why) (sym why_is)
    (subst (Within limit) (sym unturned) (within_zero limit), inl (record { same = same; none = none; unturned = unturned }))

-- where all is told

accepts_told : (s : Search) → IsAllTold s → (f v : List ℕ) → AcceptsIfTold s f v → AcceptsAsTold s f v
accepts_told s told f v it = record { smaller = it.smaller; lawful = it.lawful; answered = it.answered (told v) }

rejects_told : (s : Search) → IsAllTold s → (f v : List ℕ) → RejectsIfTold s f v → RejectsAsTold s f v
rejects_told s told f v (not_smaller why) = not_smaller why
rejects_told s told f v (unlawful why) = unlawful why
rejects_told s told f v (answered_no said) = answered_no (said (told v))

module _ (s : Search) (before now : Judging) (file : List ℕ) where
  file_told : (limit : Option ℕ) (out : Outcome) → IsAllTold s → ((turn worker : ℕ) → out.why ≡ Fault turn worker → ⊥) → ReducesFileIfTold s before now file limit out → ReducesFileAsTold s file limit out
  file_told limit out told never run = (
    run.0,
    run.1,
    reduces-map s.Offers (AcceptsIfTold s) (AcceptsAsTold s) (RejectsIfTold s) (RejectsAsTold s) (FailsInRun s before now) none_fails limit (accepts_told s told) (rejects_told s told) (start_of file run.0) out never run.2,
  )

  fault_told : (limit : Option ℕ) (e : End) (turn worker : ℕ) → IsAllTold s → ReducesFileIfTold s before now file limit (outcome_of e (Fault turn worker)) → EndsToldBy (ReducesFileAsTold s file) file limit e (Fault turn worker)
  fault_told limit e turn worker told run =
      let cut = cut_short s.Offers (AcceptsIfTold s) (AcceptsAsTold s) (RejectsIfTold s) (RejectsAsTold s) (FailsInRun s before now) none_fails limit (accepts_told s told) (rejects_told s told)
      (start_of file run.0) (outcome_of e (Fault turn worker)) turn worker run.2 refl in
      (cut.next, within_less limit e.turns (e.turns + 1) (omega arith) cut.within, (cut.why, (run.0, run.1, cut.run)))

  stops_told : (e : End) (why : Why) → IsAllTold s → ReducesFileIfTold s before now file (Some e.turns) (outcome_of e why) → StopsAt (ReducesFileAsTold s file) e
  stops_told e Fixed told run = (Fixed, file_told (Some e.turns) (outcome_of e Fixed) told (λ turn worker is. cc) run)
  stops_told e Limit told run = (Limit, file_told (Some e.turns) (outcome_of e Limit) told (λ turn worker is. cc) run)
  stops_told e NoMemory told run = (NoMemory, file_told (Some e.turns) (outcome_of e NoMemory) told (λ turn worker is. cc) run)
  stops_told e (Fault turn worker) told run = (fault_told (Some e.turns) e turn worker told run).2

  pub ends_as_told : (limit : Option ℕ) (e : End) (why : Why) → IsAllTold s → EndsBy (ReducesFileIfTold s before now file) file limit e why → EndsToldBy (ReducesFileAsTold s file) file limit e why
  ends_as_told limit e Fixed told run = file_told limit (outcome_of e Fixed) told (λ turn worker is. cc) run
  ends_as_told limit e Limit told run = file_told limit (outcome_of e Limit) told (λ turn worker is. cc) run
  ends_as_told limit e (Fault turn worker) told run = fault_told limit e turn worker told run
  ends_as_told limit e NoMemory told run = (run.0, elim run.1 [ inl still ↦ inl still | inr at ↦ inr (stops_told e at.0 told at.1) ])

  -- the fixed point
  pub fixed_as_told : (limit : Option ℕ) (e : End) (why : Why) → IsAllTold s → EndsBy (ReducesFileIfTold s before now file) file limit e why → why ≡ Fixed → IsFixedAsTold s e.file.items
  fixed_as_told limit e Fixed told run is =
      let it = fixed_point s.Offers (AcceptsIfTold s) (RejectsIfTold s) (FailsInRun s before now) limit (start_of file run.0) (outcome_of e Fixed) run.2 run.1 (λ _ i at low high there. absurd (omega arith)) refl in
      (it.0, it.1, λ i at low high there. rejects_told s told e.file.items (it.0.bytes at) (it.2 i at low high there))
  fixed_as_told limit e Limit told run is = cc
  fixed_as_told limit e (Fault turn worker) told run is = cc
  fixed_as_told limit e NoMemory told run is = cc

  -- a fault's cause
  pub cause_of : (limit : Option ℕ) (e : End) (why : Why) → EndsBy (ReducesFileIfTold s before now file) file limit e why → FaultsWithCause s before now why
  cause_of limit e Fixed run = tt
  cause_of limit e Limit run = tt
  cause_of limit e NoMemory run = tt
  cause_of limit e (Fault turn worker) run =
      let cut = cut_short s.Offers (AcceptsIfTold s) (AcceptsIfTold s) (RejectsIfTold s) (RejectsIfTold s) (FailsInRun s before now) none_fails limit (λ f v it. it) (λ f v it. it)
      (start_of file run.0) (outcome_of e (Fault turn worker)) turn worker run.2 refl in
      (cut.failed.failed.asked, cut.failed.failed.rose)

  -- with turns enough
  pub in_time : (limit : Option ℕ) (e : End) (why : Why) → EndsBy (ReducesFileIfTold s before now file) file limit e why → (levels : ℕ → ℕ) (size : ℕ) → HasLevels s.Offers levels → HasSize file size
      → Within limit (enough_turns levels size) → why ≡ Limit → ⊥
  in_time limit e Fixed run levels size has sized enough is = cc
  in_time limit e Limit run levels size has sized enough is =
      ends_in_time s.Offers (AcceptsIfTold s) (RejectsIfTold s) (FailsInRun s before now) levels size limit has (λ f v it. it.smaller) file run.0 (outcome_of e Limit) run.1 sized enough run.2 refl
  in_time limit e (Fault turn worker) run levels size has sized enough is = cc
  in_time limit e NoMemory run levels size has sized enough is = cc
