-- From the walk to the end.
use Rattle.std.proofs.Common.{◌≡◌, ◌≢◌, inl, inr, ℕ, ◌+◌, ◌≤◌, false, List, [], ◌∷◌, length, Option, Some, None, refl, subst, sym, ap, ◌∙◌, arith}
use Rattle.std.proofs.lemmas.Bool.{cases_lt, true≢false}
use Rattle.cr_reduce.specs.Bench.{AsksAtMost, Judging}
use Rattle.cr_reduce.specs.declared.end.Accepted.{Accepted}
use Rattle.cr_reduce.specs.declared.end.End.{End}
use Rattle.cr_reduce.specs.declared.end.Kept.{Kept}
use Rattle.cr_reduce.specs.declared.end.Why.{Why}
use Rattle.cr_reduce.specs.declared.end.Why.TheVariants.{Fixed, Limit, Fault, NoMemory}
use Rattle.cr_reduce.specs.declared.walk.Walk.{Walk}
use Rattle.cr_cursor.specs.Variants.{Offer, cursor, place_of}
use Rattle.cr_outside.specs.declared.judge.Answer.TheVariants.{Yes, No}
use Rattle.cr_pool.specs.Trials.IsRejected.{not_smaller, unlawful, answered_no}
use Rattle.cr_reduce.specs.Reduction.{AllRejected, State, Outcome, Trial, Within, cursors_of, none_fails, start_of, ends}
use Rattle.cr_reduce.specs.Reduction.Reduces.{fixed, spent, fails}
use Rattle.cr_reduce.specs.Search.{Search, AcceptsInRun, AsksOnlyCandidates, FailsInRun, RejectsInRun, AcceptsAsTold, RejectsAsTold, ReducesAsTold, ReducesInRun, ReducesFileInRun, IsAllTold}
use Rattle.cr_reduce.specs.Walk.{AsksFew, EndsHere, Walked, state_of}
use Rattle.cr_reduce.specs.Ends.{end_of_walk, outcome_of, StopsAt, EndsAt, EndsBy, EndsToldAt, EndsInRun, IsUntouched, EndsAsTold, IsFixedInRun, IsFixedAsTold, calls_beside, most_calls}
use Rattle.cr_reduce.specs.Keeping.{AsksFewOn, AsksOnlyBehind, BeginsFirst, EndsOnAsTold, EndsOnInRun, IsAsKept, ReducesOnInRun, goes_on_at, has_some}
use Rattle.cr_reduce.proofs.Keepings.{first_place}
use Rattle.cr_reduce.proofs.Parts.{answered_told}
use Rattle.cr_reduce.proofs.Reductions.{IsCut, IsSwept, cut_short, fixed_point, none_between, reduces-map, stops_here}
use Rattle.cr_reduce.proofs.Runs.{goes_on-refl}
use Rattle.cr_reduce.proofs.Walks.{within_less}

within_itself : (turns : ℕ) → turns ≤ turns
within_itself turns = omega arith

-- short of the limit another turn is within it
one_left : (limit : Option ℕ) (turns : ℕ) → limit ≢ Some turns → Within limit turns → Within limit (turns + 1)
one_left None turns more within = tt
one_left (Some most) turns more within = elim (cases_lt turns most) [
  | inl less ↦ omega arith
  | inr least ↦ absurd (more (ap Some (omega arith)))
]

-- the reduction from where it begins with what is offered for a file
abbrev pub FromInRun : Search → Judging → Judging → List ℕ → (Offer → State) → Option ℕ → Outcome → Type 0
FromInRun s before now file start limit out = (offer : Offer) × s.Offers file offer × ReducesInRun s before now limit (start offer) out

abbrev pub FromAsTold : Search → List ℕ → (Offer → State) → Option ℕ → Outcome → Type 0
FromAsTold s file start limit out = (offer : Offer) × s.Offers file offer × ReducesAsTold s limit (start offer) out

-- Where it begins is that file's, and in a round that accepted nothing all positions before it were rejected.
abbrev pub BeginsAt : Search → Judging → Judging → List ℕ → (Offer → State) → Type 0
BeginsAt s before now file start = (offer : Offer) → s.Offers file offer → s.Offers (start offer).file (start offer).offer × IsSwept (RejectsInRun s before now) (start offer)

-- a walk from there, with what was offered
module _ {T : Type 0} (s : Search) (before now : Judging) (make : T → List ℕ → Offer) (file : List ℕ) (start : Offer → State) (first : Offer) (offered : s.Offers file first)
    (w : Walk T) (walked : Walked s before now (start first) (state_of make w)) where
  completes : (limit : Option ℕ) (why : Why) → Within limit w.turns → ReducesInRun s before now limit (state_of make w) (ends (state_of make w) why) → FromInRun s before now file start limit (outcome_of (end_of_walk w why) why)
  completes limit why within run = (first, offered, walked.leads.leads now limit (ends (state_of make w) why) (goes_on-refl now) within run)

  stops : (why : Why) → w.position ≤ length (cursors_of (make w.prep w.file.items)) → StopsAt (FromInRun s before now file start) (end_of_walk w why)
  stops why placed =
      let here = stops_here s.Offers (AcceptsInRun s before now) (RejectsInRun s before now) (FailsInRun s before now) (state_of make w) placed in
      (here.0, completes (Some w.turns) here.0 (within_itself w.turns) here.1)

  ends_in_run : (untouched : Type 0) (limit : Option ℕ) (why : Why) → EndsHere s before now limit (state_of make w) why → w.position ≤ length (cursors_of (make w.prep w.file.items)) → Within limit w.turns
      → EndsAt (FromInRun s before now file start) untouched limit (end_of_walk w why) why
  ends_in_run untouched limit Fixed ended placed within = completes limit Fixed within (fixed ended.0 ended.1 refl)
  ends_in_run untouched limit Limit ended placed within = completes limit Limit within (spent ended.0 ended.1 refl)
  ends_in_run untouched limit (Fault turn worker) ended placed within =
      let here = ended.2 in
      completes limit (Fault turn worker) within (fails w.position here.at w.turns worker (omega arith) here.there (none_between (make w.prep w.file.items) (RejectsInRun s before now) w.file.items w.position) here.failed refl
      (one_left limit w.turns ended.1 within) (ap (λ t. ends (state_of make w) (Fault t worker)) ended.0))
  ends_in_run untouched limit NoMemory ended placed within = (within, inr (stops NoMemory placed))

-- where the answers are told

accepts_told : (s : Search) (before now : Judging) → IsAllTold s → (file variant : List ℕ) → AcceptsInRun s before now file variant → AcceptsAsTold s file variant
accepts_told s before now told file variant it = record { smaller = it.smaller; lawful = it.lawful; answered = answered_told s before now variant Yes it.answered (told variant) }

rejects_told : (s : Search) (before now : Judging) → IsAllTold s → (file variant : List ℕ) → RejectsInRun s before now file variant → RejectsAsTold s file variant
rejects_told s before now told file variant (not_smaller big) = not_smaller big
rejects_told s before now told file variant (unlawful against) = unlawful against
rejects_told s before now told file variant (answered_no answer) = answered_no (answered_told s before now variant No answer (told variant))

file_told : (s : Search) (before now : Judging) (file : List ℕ) (start : Offer → State) (limit : Option ℕ) (out : Outcome) → IsAllTold s → ((turn worker : ℕ) → out.why ≡ Fault turn worker → ⊥)
    → FromInRun s before now file start limit out → FromAsTold s file start limit out
file_told s before now file start limit out told never run = (
  run.0,
  run.1,
  reduces-map s.Offers (AcceptsInRun s before now) (AcceptsAsTold s) (RejectsInRun s before now) (RejectsAsTold s) (FailsInRun s before now) none_fails limit (accepts_told s before now told) (rejects_told s before now told) (start run.0) out never run.2,
)

-- A fault isn't told: the told reduction comes to this after the turns that were made.
fault_told : (s : Search) (before now : Judging) (untouched : Type 0) (limit : Option ℕ) (file : List ℕ) (start : Offer → State) (e : End) (turn worker : ℕ) → IsAllTold s
    → FromInRun s before now file start limit (outcome_of e (Fault turn worker)) → EndsToldAt (FromAsTold s file start) untouched limit e (Fault turn worker)
fault_told s before now untouched limit file start e turn worker told run =
    let cut : IsCut s.Offers (FailsInRun s before now) (AcceptsAsTold s) (RejectsAsTold s) none_fails limit (start run.0) (outcome_of e (Fault turn worker)) turn worker =
    cut_short s.Offers (AcceptsInRun s before now) (AcceptsAsTold s) (RejectsInRun s before now) (RejectsAsTold s) (FailsInRun s before now) none_fails limit (accepts_told s before now told) (rejects_told s before now told)
    (start run.0) (outcome_of e (Fault turn worker)) turn worker run.2 refl in
    (cut.next, within_less limit e.turns (e.turns + 1) (omega arith) cut.within, (cut.why, (run.0, run.1, cut.run)))

-- Want of memory leaves no fault where the reduction is cut short.
stops_told : (s : Search) (before now : Judging) (untouched : Type 0) (file : List ℕ) (start : Offer → State) (e : End) (why : Why) → IsAllTold s → FromInRun s before now file start (Some e.turns) (outcome_of e why)
    → StopsAt (FromAsTold s file start) e
stops_told s before now untouched file start e Fixed told run = (Fixed, file_told s before now file start (Some e.turns) (outcome_of e Fixed) told (λ turn worker is. cc) run)
stops_told s before now untouched file start e Limit told run = (Limit, file_told s before now file start (Some e.turns) (outcome_of e Limit) told (λ turn worker is. cc) run)
stops_told s before now untouched file start e NoMemory told run = (NoMemory, file_told s before now file start (Some e.turns) (outcome_of e NoMemory) told (λ turn worker is. cc) run)
stops_told s before now untouched file start e (Fault turn worker) told run = (fault_told s before now untouched (Some e.turns) file start e turn worker told run).2

ends_as_told : (s : Search) (before now : Judging) (untouched : Type 0) (limit : Option ℕ) (file : List ℕ) (start : Offer → State) (e : End) (why : Why) → IsAllTold s
    → EndsAt (FromInRun s before now file start) untouched limit e why → EndsToldAt (FromAsTold s file start) untouched limit e why
ends_as_told s before now untouched limit file start e Fixed told run = file_told s before now file start limit (outcome_of e Fixed) told (λ turn worker is. cc) run
ends_as_told s before now untouched limit file start e Limit told run = file_told s before now file start limit (outcome_of e Limit) told (λ turn worker is. cc) run
ends_as_told s before now untouched limit file start e (Fault turn worker) told run = fault_told s before now untouched limit file start e turn worker told run
ends_as_told s before now untouched limit file start e NoMemory told run = (run.0, elim run.1 [ inl still ↦ inl still | inr at ↦ inr (stops_told s before now untouched file start e at.0 told at.1) ])

-- the fixed point

fixed_in_run : (s : Search) (before now : Judging) (untouched : Type 0) (limit : Option ℕ) (file : List ℕ) (start : Offer → State) (e : End) (why : Why) → BeginsAt s before now file start
    → EndsAt (FromInRun s before now file start) untouched limit e why → why ≡ Fixed → IsFixedInRun s before now e.file.items
fixed_in_run s before now untouched limit file start e Fixed begins run is =
    fixed_point s.Offers (AcceptsInRun s before now) (RejectsInRun s before now) (FailsInRun s before now) limit (start run.0) (outcome_of e Fixed) run.2 (begins run.0 run.1).0 (begins run.0 run.1).1 refl
fixed_in_run s before now untouched limit file start e Limit begins run is = cc
fixed_in_run s before now untouched limit file start e (Fault turn worker) begins run is = cc
fixed_in_run s before now untouched limit file start e NoMemory begins run is = cc

pub fixed_as_told : (s : Search) (before now : Judging) (file : List ℕ) → IsAllTold s → IsFixedInRun s before now file → IsFixedAsTold s file
fixed_as_told s before now file told all = (all.0, all.1, λ i at low high there. rejects_told s before now told file (all.0.bytes at) (all.2 i at low high there))

-- the end of a walk from there
pub chain_of_walk : {T : Type 0} (s : Search) (before now : Judging) (make : T → List ℕ → Offer) (limit : Option ℕ) (file : List ℕ) (start : Offer → State) (untouched : End → Type 0) (first : Offer) (from : State)
    (w : Walk T) (why : Why) (e : End) → s.Offers file first → from ≡ start first → e ≡ end_of_walk w why → Walked s before now from (state_of make w) → EndsHere s before now limit (state_of make w) why
    → w.position ≤ length (cursors_of (make w.prep w.file.items)) → Within limit w.turns → EndsAt (FromInRun s before now file start) (untouched e) limit e e.why
chain_of_walk s before now make limit file start untouched first from w why e offered begins is walked ended placed within =
    subst (λ x. EndsAt (FromInRun s before now file start) (untouched x) limit x x.why) (sym is)
    (ends_in_run s before now make file start first offered w (subst (λ st. Walked s before now st (state_of make w)) begins walked) (untouched (end_of_walk w why)) limit why ended placed within)

-- what was asked on the way
pub asks_of_walk : {T : Type 0} (s : Search) (before now : Judging) (make : T → List ℕ → Offer) (file : List ℕ) (first : Offer) (from : State) (w : Walk T) (why : Why) (e : End)
    → from ≡ start_of file first → e ≡ end_of_walk w why → Walked s before now from (state_of make w) → AsksOnlyCandidates s file e.accepted.items before now
asks_of_walk s before now make file first from w why e begins is walked =
    let it = (subst (λ st. Walked s before now st (state_of make w)) begins walked).traces in
    subst (λ list. AsksOnlyCandidates s file list before now) (sym (ap (λ x. x.accepted.items) is ∙ it.accepted_is)) it.asks

-- and behind what was kept
pub asks_behind : {T : Type 0} (s : Search) (before now : Judging) (make : T → List ℕ → Offer) (kept : Kept) (offer : Offer) (from : State) (w : Walk T) (why : Why) (e : End)
    → from ≡ goes_on_at kept offer → e ≡ end_of_walk w why → Walked s before now from (state_of make w) → AsksOnlyBehind s kept e before now
asks_behind s before now make kept offer from w why e begins is walked =
    let it = (subst (λ st. Walked s before now st (state_of make w)) begins walked).traces in
    (it.more, ap (λ x. x.accepted.items) is ∙ it.accepted_is, it.asks)

pub few_behind : {T : Type 0} (window : ℕ) (before now : Judging) (make : T → List ℕ → Offer) (kept : Kept) (offer : Offer) (from : State) (w : Walk T) (why : Why) (e : End)
    → from ≡ goes_on_at kept offer → e ≡ end_of_walk w why → AsksFew window before now from (state_of make w) (calls_beside window why) → AsksFewOn window before now kept e
few_behind window before now make kept offer from w why e begins is few =
    let it = subst (λ st. AsksFew window before now st (state_of make w) (calls_beside window why)) begins few in
    subst (λ x. AsksFewOn window before now kept x) (sym is) (omega (arith, it))

-- how often
pub few_of_walk : {T : Type 0} (window : ℕ) (before now : Judging) (make : T → List ℕ → Offer) (file : List ℕ) (first : Offer) (from : State) (w : Walk T) (why : Why) (e : End)
    → from ≡ start_of file first → e ≡ end_of_walk w why → AsksFew window before now from (state_of make w) (calls_beside window why) → AsksAtMost (most_calls window e) before now
few_of_walk window before now make file first from w why e begins is few =
    let it = subst (λ st. AsksFew window before now st (state_of make w) (calls_beside window why)) begins few in
    subst (λ x. AsksAtMost (most_calls window x) before now) (sym is) (omega (arith, it))

-- what a chain is besides
pub rejected_of_chain : (s : Search) (before now : Judging) (limit : Option ℕ) (file : List ℕ) (e : End) → EndsInRun s before now limit file e → e.why ≡ Fixed → IsFixedInRun s before now e.file.items
rejected_of_chain s before now limit file e chain is =
    fixed_in_run s before now (IsUntouched file e) limit file (start_of file) e e.why (λ offer offered. (offered, λ _ i at low high there. absurd (omega arith))) chain is

pub told_of_chain : (s : Search) (before now : Judging) (limit : Option ℕ) (file : List ℕ) (e : End) → EndsInRun s before now limit file e → IsAllTold s → EndsAsTold s limit file e
told_of_chain s before now limit file e chain told = ends_as_told s before now (IsUntouched file e) limit file (start_of file) e e.why told chain

-- and of one that went on
swept_on : (R : Trial) (kept : Kept) (offer : Offer) (rows : List Accepted) → (rows ≡ [] → kept.at ≡ cursor 0 0 0) → has_some rows ≡ false → AllRejected offer R kept.file.items 0 (place_of offer.widths kept.at)
swept_on R kept offer [] begins changed =
    λ i at low high there. absurd (omega (arith, ap (place_of offer.widths) (begins refl), first_place offer))
swept_on R kept offer (row ∷ more) begins changed = absurd (true≢false changed)

pub rejected_on : (s : Search) (before now : Judging) (limit : Option ℕ) (kept : Kept) (e : End) → EndsOnInRun s before now limit kept e → BeginsFirst kept → e.why ≡ Fixed → IsFixedInRun s before now e.file.items
rejected_on s before now limit kept e chain begins is =
    fixed_in_run s before now (IsAsKept kept e) limit kept.file.items (goes_on_at kept) e e.why
    (λ offer offered. (offered, swept_on (RejectsInRun s before now) kept offer kept.accepted.items begins)) chain is

pub told_on : (s : Search) (before now : Judging) (limit : Option ℕ) (kept : Kept) (e : End) → EndsOnInRun s before now limit kept e → IsAllTold s → EndsOnAsTold s limit kept e
told_on s before now limit kept e chain told = ends_as_told s before now (IsAsKept kept e) limit kept.file.items (goes_on_at kept) e e.why told chain

within_zero : (limit : Option ℕ) → Within limit 0
within_zero None = tt
within_zero (Some most) = omega arith

-- no memory at the beginning
pub nothing_done : (s : Search) (before now : Judging) (limit : Option ℕ) (file : List ℕ) (e : End) → e.file.items ≡ file → e.accepted.items ≡ [] → e.turns ≡ 0 → e.why ≡ NoMemory → EndsInRun s before now limit file e
nothing_done s before now limit file e same none unturned why_is =
    subst (λ why. EndsBy (ReducesFileInRun s before now file) file limit e why) (sym why_is)
    (subst (Within limit) (sym unturned) (within_zero limit), inl (record { same = same; none = none; unturned = unturned }))

-- nor anything behind what was kept
pub nothing_more : (s : Search) (before now : Judging) (limit : Option ℕ) (kept : Kept) (e : End) → e.file.items ≡ kept.file.items → e.accepted.items ≡ kept.accepted.items → e.turns ≡ kept.turns → Within limit kept.turns
    → e.why ≡ NoMemory → EndsOnInRun s before now limit kept e
nothing_more s before now limit kept e same accepted unturned within why_is =
    subst (λ why. EndsAt (ReducesOnInRun s before now kept) (IsAsKept kept e) limit e why) (sym why_is)
    (subst (Within limit) (sym unturned) within, inl (record { same = same; accepted = accepted; unturned = unturned }))
