-- Steps of the reduction.
use Rattle.std.proofs.Common.{◌≡◌, ℕ, ◌+◌, ◌<◌, ◌≤◌, ◌⊎◌, inl, inr, Bool, true, false, List, length, Option, Some, subst, sym, ap, ◌∙◌, refl, arith}
use Rattle.std.proofs.lemmas.Bool.{cases_lt, true≢false}
use Rattle.std.proofs.lemmas.Option.{slice_get_within}
use Rattle.std.specs.List.{slice_get}
use Rattle.cr_cursor.specs.declared.passes.Cursor.{Cursor}
use Rattle.cr_reduce.specs.declared.end.Accepted.{Accepted}
use Rattle.cr_reduce.specs.declared.end.Why.{Why}
use Rattle.cr_reduce.specs.declared.end.Why.TheVariants.{Fixed, Limit, Fault}
use Rattle.cr_cursor.specs.Variants.{Offer}
use Rattle.cr_reduce.specs.Reduction.{FailedTrials, Proposals, Trial, cursors_of, AllRejected, State, Outcome, Reduces, moved, taken, next_round, ends, Within}
use Rattle.cr_reduce.specs.Reduction.Reduces.{new_round, fixed, spent, short, accepts, rejects, fails}

not_limit : (out : Outcome) (file : List ℕ) (accepted : List Accepted) (turns : ℕ) → out ≡ record { file = file; accepted = accepted; turns = turns; why = Limit } → out.why ≡ Fixed → ⊥
not_limit out file accepted turns is is_fixed = let e = ap (λ o. o.why) is in cc

pub none_between : (o : Offer) (Rejects : Trial) (file : List ℕ) (from : ℕ) → AllRejected o Rejects file from from
none_between o Rejects file from i at low high there = absurd (omega arith)

pub joined : (o : Offer) (R : Trial) (file : List ℕ) (from middle to : ℕ) → AllRejected o R file from middle → AllRejected o R file middle to → AllRejected o R file from to
joined o R file from middle to before after i at low high there = elim (cases_lt i middle) [
  | inl early ↦ before i at low early there
  | inr late ↦ after i at late high there
]

here_or_later : (i n : ℕ) → i ≤ n → (i ≡ n) ⊎ (i < n)
here_or_later i n h = search arith

-- Rejected positions are skipped: what completes the walk behind them completes it before them.
skip_some : (p : Proposals) (Accepts Rejects : Trial) (Fails : FailedTrials) (limit : Option ℕ) (st : State) (out : Outcome) (to turns : ℕ) → st.position < to → to ≤ length (cursors_of st.offer)
    → AllRejected st.offer Rejects st.file st.position to → turns + st.position ≡ st.turns + to → Within limit turns
    → Reduces p Accepts Rejects Fails limit (moved st to turns) out → Reduces p Accepts Rejects Fails limit st out
skip_some p A R F limit st out to turns low high all count within (new_round end changed rest) =
    rejects turns (omega arith) (subst (λ n. AllRejected st.offer R st.file st.position n) end all) (omega arith) within (new_round refl changed rest)
skip_some p A R F limit st out to turns low high all count within (fixed end changed is) =
    rejects turns (omega arith) (subst (λ n. AllRejected st.offer R st.file st.position n) end all) (omega arith) within
    (fixed refl changed (subst (λ n. out ≡ ends (moved st n turns) Fixed) end is))
skip_some p A R F limit st out to turns low high all count within (spent below is_limit is) = short to turns low below all count is_limit is
skip_some p A R F limit st out to turns low high all count within (short last most some below more count' is_limit is) =
    short last most (omega arith) below (joined st.offer R st.file st.position to last all more) (omega arith) is_limit is
skip_some p A R F limit st out to turns low high all count within (accepts position at size made next first has count' in_limit offered rest) =
    accepts position at size made next
    (record { after = omega (arith, first.after); there = first.there; accepted = first.accepted; before = joined st.offer R st.file st.position to position all first.before })
    has (omega (arith, first.after)) in_limit offered rest
skip_some p A R F limit st out to turns low high all count within (rejects made below more count' in_limit rest) =
    rejects made (omega arith) (joined st.offer R st.file st.position to (length (cursors_of st.offer)) all more) (omega arith) in_limit rest
skip_some p A R F limit st out to turns low high all count within (fails position at made worker after there before failed count' in_limit is) =
    fails position at made worker (omega arith) there (joined st.offer R st.file st.position to position all before) failed (omega arith) in_limit is

pub skip : (p : Proposals) (Accepts Rejects : Trial) (Fails : FailedTrials) (limit : Option ℕ) (st : State) (out : Outcome) (to turns : ℕ) → st.position ≤ to → to ≤ length (cursors_of st.offer)
    → AllRejected st.offer Rejects st.file st.position to → turns + st.position ≡ st.turns + to → Within limit turns
    → Reduces p Accepts Rejects Fails limit (moved st to turns) out → Reduces p Accepts Rejects Fails limit st out
skip p A R F limit st out to turns low high all count within rest = elim (here_or_later st.position to low) [
  | inl here ↦
      let same : turns ≡ st.turns = omega arith in
      subst (λ n. Reduces p A R F limit (moved st st.position n) out) same (subst (λ n. Reduces p A R F limit (moved st n turns) out) (sym here) rest)
  | inr some ↦ skip_some p A R F limit st out to turns some high all count within rest
]

-- what a trial says, said by another one
all_rejected-map : (o : Offer) (R S : Trial) (file : List ℕ) (from to : ℕ) → ((f v : List ℕ) → R f v → S f v) → AllRejected o R file from to → AllRejected o S file from to
all_rejected-map o R S file from to says all i at low high there = says file (o.bytes at) (all i at low high there)

not_fault : (out : Outcome) (st : State) (why : Why) (turn worker : ℕ) → out ≡ ends st why → out.why ≡ Fault turn worker → why ≡ Fault turn worker
not_fault out st why turn worker is is_fault = sym (ap (λ o. o.why) is) ∙ is_fault

-- An outcome that is no fault is one by other trials too.
pub reduces-map : (p : Proposals) (A B R S : Trial) (F G : FailedTrials) (limit : Option ℕ) → ((f v : List ℕ) → A f v → B f v) → ((f v : List ℕ) → R f v → S f v)
    → (st : State) (out : Outcome) → ((turn worker : ℕ) → out.why ≡ Fault turn worker → ⊥) → Reduces p A R F limit st out → Reduces p B S G limit st out
reduces-map p A B R S F G limit a r st out never (new_round end changed rest) = new_round end changed (reduces-map p A B R S F G limit a r (next_round st) out never rest)
reduces-map p A B R S F G limit a r st out never (fixed end changed is) = fixed end changed is
reduces-map p A B R S F G limit a r st out never (spent below is_limit is) = spent below is_limit is
reduces-map p A B R S F G limit a r st out never (short to turns some below all count is_limit is) =
    short to turns some below (all_rejected-map st.offer R S st.file st.position to r all) count is_limit is
reduces-map p A B R S F G limit a r st out never (accepts position at size turns next first has count within offered rest) =
    accepts position at size turns next (record { after = first.after; there = first.there; accepted = a _ _ first.accepted; before = all_rejected-map st.offer R S st.file st.position position r first.before })
    has count within offered (reduces-map p A B R S F G limit a r (taken st at size turns next) out never rest)
reduces-map p A B R S F G limit a r st out never (rejects turns below all count within rest) =
    rejects turns below (all_rejected-map st.offer R S st.file st.position (length (cursors_of st.offer)) r all) count within
    (reduces-map p A B R S F G limit a r (moved st (length (cursors_of st.offer)) turns) out never rest)
reduces-map p A B R S F G limit a r st out never (fails position at turns worker low there before failed count within is) = absurd (never (turns + 1) worker (ap (λ o. o.why) is))

turns_grow : (p : Proposals) (A R : Trial) (F : FailedTrials) (limit : Option ℕ) (st : State) (out : Outcome) → Reduces p A R F limit st out → st.turns ≤ out.turns
turns_grow p A R F limit st out (new_round end changed rest) = turns_grow p A R F limit (next_round st) out rest
turns_grow p A R F limit st out (fixed end changed is) = omega (arith, ap (λ o. o.turns) is)
turns_grow p A R F limit st out (spent below is_limit is) = omega (arith, ap (λ o. o.turns) is)
turns_grow p A R F limit st out (short to turns some below all count is_limit is) = omega (arith, ap (λ o. o.turns) is)
turns_grow p A R F limit st out (accepts position at size turns next first has count within offered rest) =
    omega (arith, first.after, turns_grow p A R F limit (taken st at size turns next) out rest)
turns_grow p A R F limit st out (rejects turns below all count within rest) =
    omega (arith, turns_grow p A R F limit (moved st (length (cursors_of st.offer)) turns) out rest)
turns_grow p A R F limit st out (fails position at turns worker low there before failed count within is) = omega (arith, ap (λ o. o.turns) is)

-- What an outcome that is a fault says: the turn and the worker, and what the reduction by other trials comes to after
-- the turns that were made.
pub record IsCut (p : Proposals) (F : FailedTrials) (B S : Trial) (G : FailedTrials) (limit : Option ℕ) (st : State) (out : Outcome) (turn worker : ℕ) : Type 0 where
  pub next : turn ≡ out.turns + 1
  pub within : Within limit (out.turns + 1)
  pub file : List ℕ
  pub variant : List ℕ
  pub failed : F worker file variant
  pub why : Why
  pub run : Reduces p B S G (Some out.turns) st (record { file = out.file; accepted = out.accepted; turns = out.turns; why = why })

stops_before : (p : Proposals) (R : Trial) (B S : Trial) (G : FailedTrials) (st : State) (position turns : ℕ) (at : Cursor) → st.position ≤ position → slice_get (cursors_of st.offer) position ≡ Some at
    → AllRejected st.offer S st.file st.position position → turns + st.position ≡ st.turns + position → Reduces p B S G (Some turns) st (ends (moved st position turns) Limit)
stops_before p R B S G st position turns at low there before count = elim (here_or_later st.position position low) [
  | inl here ↦
      let same : st.turns ≡ turns = omega (arith, here) in
      spent (omega (arith, here, slice_get_within (cursors_of st.offer) position at there)) (ap Some (sym same)) (λ i. record { file = st.file; accepted = st.accepted; turns = sym same i; why = Limit })
  | inr later ↦ short position turns later (slice_get_within (cursors_of st.offer) position at there) before count refl refl
]

pub cut_short : (p : Proposals) (A B R S : Trial) (F G : FailedTrials) (limit : Option ℕ) → ((f v : List ℕ) → A f v → B f v) → ((f v : List ℕ) → R f v → S f v)
    → (st : State) (out : Outcome) (turn worker : ℕ) → Reduces p A R F limit st out → out.why ≡ Fault turn worker → IsCut p F B S G limit st out turn worker
cut_short p A B R S F G limit a r st out turn worker (new_round end changed rest) fault =
    let it = cut_short p A B R S F G limit a r (next_round st) out turn worker rest fault in
    record { next = it.next; within = it.within; file = it.file; variant = it.variant; failed = it.failed; why = it.why; run = new_round end changed it.run }
cut_short p A B R S F G limit a r st out turn worker (fixed end changed is) fault = let other = not_fault out st Fixed turn worker is fault in cc
cut_short p A B R S F G limit a r st out turn worker (spent below is_limit is) fault = let other = not_fault out st Limit turn worker is fault in cc
cut_short p A B R S F G limit a r st out turn worker (short to turns some below all count is_limit is) fault = let other = not_fault out (moved st to turns) Limit turn worker is fault in cc
cut_short p A B R S F G limit a r st out turn worker (accepts position at size turns next first has count within offered rest) fault =
    let it = cut_short p A B R S F G limit a r (taken st at size turns next) out turn worker rest fault in
    let few = turns_grow p A R F limit (taken st at size turns next) out rest in
    record {
      next = it.next;
      within = it.within;
      file = it.file;
      variant = it.variant;
      failed = it.failed;
      why = it.why;
      run = accepts position at size turns next (record { after = first.after; there = first.there; accepted = a _ _ first.accepted; before = all_rejected-map st.offer R S st.file st.position position r first.before })
          has count few offered it.run;
    }
cut_short p A B R S F G limit a r st out turn worker (rejects turns below all count within rest) fault =
    let it = cut_short p A B R S F G limit a r (moved st (length (cursors_of st.offer)) turns) out turn worker rest fault in
    let few = turns_grow p A R F limit (moved st (length (cursors_of st.offer)) turns) out rest in
    record {
      next = it.next;
      within = it.within;
      file = it.file;
      variant = it.variant;
      failed = it.failed;
      why = it.why;
      run = rejects turns below (all_rejected-map st.offer R S st.file st.position (length (cursors_of st.offer)) r all) count few it.run;
    }
cut_short p A B R S F G limit a r st out turn worker (fails position at turns who low there before failed count within is) fault =
    let told = not_fault out (moved st position turns) (Fault (turns + 1) who) turn worker is fault in
    let turn_is : turns + 1 ≡ turn = cc in
    let who_is : who ≡ worker = cc in
    let turns_are : out.turns ≡ turns = ap (λ o. o.turns) is in
    record {
      next = omega (arith, turn_is, turns_are);
      within = subst (λ t. Within limit (t + 1)) (sym turns_are) within;
      file = st.file;
      variant = st.offer.bytes at;
      failed = subst (λ w. F w st.file (st.offer.bytes at)) who_is failed;
      why = Limit;
      run = subst (λ o. Reduces p B S G (Some o.turns) st (record { file = o.file; accepted = o.accepted; turns = o.turns; why = Limit })) (sym is)
          (stops_before p R B S G st position turns at low there (all_rejected-map st.offer R S st.file st.position position r before) count);
    }

-- A walk that is cut short where it stands: with as many turns as it has made, the reduction ends in this state.
pub stops_here : (p : Proposals) (A R : Trial) (F : FailedTrials) (st : State) → st.position ≤ length (cursors_of st.offer) → (why : Why) × Reduces p A R F (Some st.turns) st (ends st why)
stops_here p A R F st within = elim (below_or_at st.position (length (cursors_of st.offer)) within) [
  | inl below ↦ (Limit, spent below refl refl)
  | inr end ↦ at_end st.changed refl end
]
  where
    below_or_at : (i n : ℕ) → i ≤ n → (i < n) ⊎ (i ≡ n)
    below_or_at i n h = search arith

    from_start : (st' : State) → st'.position ≡ 0 → st'.changed ≡ false → (why : Why) × Reduces p A R F (Some st'.turns) st' (ends st' why)
    from_start st' zero_at same = elim (below_or_at 0 (length (cursors_of st'.offer)) (omega arith)) [
      | inl some ↦ (Limit, spent (omega arith) refl refl)
      | inr none ↦ (Fixed, fixed (omega arith) same refl)
    ]

    at_end : (changed : Bool) → st.changed ≡ changed → st.position ≡ length (cursors_of st.offer) → (why : Why) × Reduces p A R F (Some st.turns) st (ends st why)
    at_end true is end = let next = from_start (next_round st) refl refl in (next.0, new_round end is next.1)
    at_end false is end = (Fixed, fixed end is refl)

-- Where this round accepted nothing yet, each position before is rejected.
abbrev pub IsSwept : Trial → State → Type 0
IsSwept R st = st.changed ≡ false → AllRejected st.offer R st.file 0 st.position

-- A reduction that ends Fixed has no accepted variant left: each variant of the result is rejected.
pub fixed_point : (p : Proposals) (A R : Trial) (F : FailedTrials) (limit : Option ℕ) (st : State) (out : Outcome) → Reduces p A R F limit st out → p st.file st.offer → IsSwept R st → out.why ≡ Fixed
    → (offer : Offer) × p out.file offer × AllRejected offer R out.file 0 (length (cursors_of offer))
fixed_point p A R F limit st out (new_round end changed rest) offered swept is_fixed = fixed_point p A R F limit (next_round st) out rest offered (λ _. none_between st.offer R st.file 0) is_fixed
fixed_point p A R F limit st out (fixed end changed is) offered swept is_fixed =
    subst (λ o. (offer : Offer) × p o.file offer × AllRejected offer R o.file 0 (length (cursors_of offer))) (sym is)
    (st.offer, offered, subst (λ to. AllRejected st.offer R st.file 0 to) end (swept changed))
fixed_point p A R F limit st out (spent below is_limit is) offered swept is_fixed = absurd (not_limit out st.file st.accepted st.turns is is_fixed)
fixed_point p A R F limit st out (short to turns some below all count is_limit is) offered swept is_fixed = absurd (not_limit out st.file st.accepted turns is is_fixed)
fixed_point p A R F limit st out (accepts position at size turns next first has count within offered_next rest) offered swept is_fixed =
    fixed_point p A R F limit (taken st at size turns next) out rest offered_next (λ e. absurd (true≢false e)) is_fixed
fixed_point p A R F limit st out (rejects turns below all count within rest) offered swept is_fixed =
    fixed_point p A R F limit (moved st (length (cursors_of st.offer)) turns) out rest offered (λ same. joined st.offer R st.file 0 st.position (length (cursors_of st.offer)) (swept same) all) is_fixed
fixed_point p A R F limit st out (fails position at turns worker low there before failed count within is) offered swept is_fixed =
    let other : Fault (turns + 1) worker ≡ Fixed = sym (ap (λ o. o.why) is) ∙ is_fixed in cc
