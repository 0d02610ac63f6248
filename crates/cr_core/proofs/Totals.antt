-- From all lists to one and the rest, and back.
use Rattle.std.proofs.Common.{◌≡◌, ◌≢◌, ℕ, ◌+◌, ◌-◌, ◌^◌, ◌<◌, ◌≤◌, List, [], ◌∷◌, ◌++◌, length, get_or, set, take, refl, sym, ap, subst, arith, ◌⊎◌, inl, inr, replicate, Bool, true, false}
use Rattle.std.specs.Prelude.{Result, Ok, Err, IfOk, OnErr}
use Rattle.std.proofs.lemmas.List.{get_or_past, take_more}
use Prim.Native.Nat.{zero, suc}
use Rattle.cr_core.specs.declared.events.Event.{Event}
use Rattle.cr_core.specs.declared.events.Event.TheVariants as event
use Rattle.cr_core.specs.declared.marks.Mark.TheVariants.{Open, No, Hit, Skipped}
use Rattle.cr_core.specs.Row.{with_any_mark, Row, mark_no, placed, marked, disorder, early, past, last_position}
use Rattle.cr_core.specs.Sound.{Sum, total, IsSound}
use Rattle.cr_core.specs.State.{State, start, in_lists, IsSoundState, IsFinished, IsFirst, first_of}
use Rattle.cr_core.specs.Laws.{IsInOrder}
use Rattle.cr_core.specs.Machine.{IsAllowed, after, Does, Runs}
use Rattle.cr_core.specs.Machine.Runs.{ends, does, passes_over}
use Rattle.cr_core.proofs.Rows.{placed-marks, placed-last}
use Rattle.cr_core.proofs.FirstHit.{IsOverAt, first_is}
use Rattle.cr_core.proofs.Steps.{some_or_none, with_row, claims, settles, hits}

pub total-set : {A : Type 0} (f : A → ℕ) (d : A) (ls : List A) (i : ℕ) (m : A) → i < length ls
    → total f (set ls i m) + f (get_or ls i d) ≡ total f ls + f m
total-set f d [] i m h = absurd (omega arith)
total-set f d (x ∷ xs) zero m h = omega arith
total-set f d (x ∷ xs) (suc i) m h = omega (arith, total-set f d xs i m (omega arith))

pub total-at : {A : Type 0} (f : A → ℕ) (d : A) (ls : List A) (i : ℕ) → i < length ls → f (get_or ls i d) ≤ total f ls
total-at f d [] i h = absurd (omega arith)
total-at f d (x ∷ xs) zero h = omega arith
total-at f d (x ∷ xs) (suc i) h = omega (arith, total-at f d xs i (omega arith))

pub total-marks : (p : ℕ) (ls : List Row) → total (placed p) ls ≡ with_any_mark (λ f. total f ls) p
total-marks p [] = refl
total-marks p (l ∷ ls) = omega (arith, placed-marks p l, total-marks p ls)

-- what is counted in all lists but the one at i
abbrev pub others : List Row → ℕ → Sum
others ls i = λ f. total f ls - f (get_or ls i [])

-- where the change of one list keeps soundness, so does the same change in all lists
pub in_place : (len next least next' least' : ℕ) (ls : List Row) (i : ℕ) (m : Row) → i < length ls
    → (IsSound len next least (with_row (others ls i) (get_or ls i [])) → IsSound len next' least' (with_row (others ls i) m))
    → IsSound len next least (λ f. total f ls) → IsSound len next' least' (λ f. total f (set ls i m))
in_place len next least next' least' ls i m h step s =
    let from : (f : Row → ℕ) → total f ls ≡ with_row (others ls i) (get_or ls i []) f = λ f. omega (arith, total-at f [] ls i h) in
    let to : (f : Row → ℕ) → with_row (others ls i) m f ≡ total f (set ls i m) =
    λ f. omega (arith, total-at f [] ls i h, total-set f [] ls i m h) in
    let P : Sum → Type 0 = IsSound len next least in
    let Q : Sum → Type 0 = IsSound len next' least' in
    subst Q (λ j f. to f j) (step (subst P (λ j f. from f j) s))

-- each allowed event keeps soundness
pub keeps : (e : Event) (s : State) → IsAllowed e s → IsSoundState s → IsSoundState (after e s)
keeps (event.Claim w done) s h sound =
    in_place s.len s.next s.least _ _ s.lists w _ h.0 (claims s.len s.next s.least _ _ done h.1) sound
keeps (event.Look w) s h sound =
    in_place s.len s.next s.least _ _ s.lists w _ h.0 (λ q. q) sound
keeps (event.Hit w k) s h sound =
    in_place s.len s.next s.least _ _ s.lists w _ h.0 (hits s.len s.next s.least _ _ k h.1) sound
keeps (event.Leave w done) s h sound =
    in_place s.len s.next s.least _ _ s.lists w _ h.0 (settles s.len s.next s.least _ _ done h.1.0) sound

total-empty : (f : Row → ℕ) (n : ℕ) → f [] ≡ 0 → total f (replicate n []) ≡ 0
total-empty f zero h = refl
total-empty f (suc n) h = omega (arith, total-empty f n h)

pub begins : (len workers : ℕ) → IsSoundState (start len workers)
begins len workers = record {
  each_claimed_number_stands_once = λ p. omega (arith, total-empty (placed p) workers refl);
  positions_rise_and_only_a_last_entry_is_open = total-empty (disorder 0) workers refl;
  the_least_word_is_the_first_or_a_hit = inl refl;
  no_hit_lies_below_it = λ p k h. absurd (omega (arith, total-empty (marked p (Hit k)) workers refl));
  a_skipped_entry_is_over = λ p h. absurd (omega (arith, total-empty (marked p Skipped) workers refl));
  a_rejected_entry_is_below_the_length = λ p h. absurd (omega (arith, total-empty (marked p No) workers refl));
  only_a_last_entry_is_past_the_end = total-empty (early len) workers refl;
  next_is_bounded = omega arith;
}

pub runs_keep : (s : State) (es : List Event) (t : State) → Runs s es t → IsSoundState s → IsSoundState t
runs_keep s es t (ends _) sound = sound
runs_keep s es t (does _ e fs _ h r) sound = runs_keep (after e s) fs t r (keeps e s h sound)
runs_keep s es t (passes_over _ e fs _ h r) sound = runs_keep s fs t r sound

-- an answer to one more event
pub runs_more : (s : State) (es : List Event) (t : State) (e : Event) (u : State) (b : Bool) → Runs s es t → Does e t u b → Runs s (es ++ e ∷ []) u
runs_more s es t e u true (ends _) h =
    let P : State → Type 0 = λ x. Runs s (e ∷ []) x in
    subst P (sym h.1) (does s e [] (after e s) h.0 (ends (after e s)))
runs_more s es t e u false (ends _) h =
    let P : State → Type 0 = λ x. Runs s (e ∷ []) x in
    subst P (sym h.1) (passes_over s e [] s h.0 (ends s))
runs_more s es t e u b (does _ f fs _ a r) h = does s f (fs ++ e ∷ []) u a (runs_more (after f s) fs t e u b r h)
runs_more s es t e u b (passes_over _ f fs _ a r) h = passes_over s f (fs ++ e ∷ []) u a (runs_more s fs t e u b r h)

past-one : (len : ℕ) (l : Row) → past len l ≤ 1
past-one len [] = omega arith
past-one len (e ∷ []) = omega arith
past-one len (e ∷ f ∷ es) = past-one len (f ∷ es)

pub total-past : (len : ℕ) (ls : List Row) → total (past len) ls ≤ length ls
total-past len [] = omega arith
total-past len (l ∷ ls) = omega (arith, past-one len l, total-past len ls)

-- one more position can be claimed
pub room : (s : State) → s.len ≤ 4096 → (s.next < 2 ^ 64 - 1) ⊎ IsSoundState s → length s.lists < 2 ^ 63 → s.next + 1 < 2 ^ 64
room s small (inl there) few = omega arith
room s small (inr sound) few = omega (arith, sound.next_is_bounded, total-past s.len s.lists)

-- an answer keeps soundness
pub does_keep : (e : Event) (s t : State) (b : Bool) → Does e s t b → IsSoundState s → IsSoundState t
does_keep e s t true h sound = subst IsSoundState (sym h.1) (keeps e s h.0 sound)
does_keep e s t false h sound = subst IsSoundState (sym h.1) sound

-- so does one that memory may be wanting for
pub answer_keeps : {E : Type 0} (e : Event) (s t : State) (r : Result Bool E) → IfOk r (Does e s t) → OnErr r (t ≡ s) → IsSoundState s → IsSoundState t
answer_keeps e s t (Ok b) ok err sound = does_keep e s t b ok sound
answer_keeps e s t (Err _) ok err sound = subst IsSoundState (sym err) sound

placed-there : (l : Row) → l ≢ [] → 0 < placed (last_position l) l
placed-there [] h = absurd (h refl)
placed-there (e ∷ es) h = placed-last e es

pub finished : (s : State) → IsSoundState s → IsFinished s → IsOverAt s.len s.next s.least (in_lists s)
finished s sound f =
    let (i, there, some, over) = f.one_saw_the_end in
    let p = last_position (get_or s.lists i []) in
    record {
      marks = λ q. total-marks q s.lists;
      sound = sound;
      closed = f.nothing_is_open;
      end = p;
      end_claimed = omega (arith, placed-there _ some, total-at (placed p) [] s.lists i there, sound.each_claimed_number_stands_once p);
      end_over = over;
    }

pub least_first : (s : State) → IsSoundState s → IsFinished s → IsFirst s.len (in_lists s) (first_of s.len s.least)
least_first s sound f = first_is _ _ _ _ (finished s sound f)

pub ordered : (len workers : ℕ) (events : List Event) (s : State) → Runs (start len workers) events s
    → IsSoundState s × (IsFinished s → IsFirst s.len (in_lists s) (first_of s.len s.least))
ordered len workers events s r =
    let sound = runs_keep _ events s r (begins len workers) in
    (sound, least_first s sound)

in_order : (len low : ℕ) (l : Row) → disorder low l ≡ 0 → early len l ≡ 0 → IsInOrder len low l
in_order len low [] rise close = tt
in_order len low (e ∷ []) rise close = omega arith
in_order len low (e ∷ f ∷ es) rise close =
    (omega arith, (λ (h : e.mark ≡ Open). omega (arith, ap mark_no h)), omega arith, in_order len (e.position + 1) (f ∷ es) (omega arith) (omega arith))

pub each_in_order : (s : State) → IsSoundState s → (i : ℕ) → IsInOrder s.len 0 (get_or s.lists i [])
each_in_order s sound i = elim (some_or_none (length s.lists - i)) [
  | inl there ↦ in_order s.len 0 _
      (omega (arith, sound.positions_rise_and_only_a_last_entry_is_open, total-at (disorder 0) [] s.lists i (omega arith)))
      (omega (arith, sound.only_a_last_entry_is_past_the_end, total-at (early s.len) [] s.lists i (omega arith)))
  | inr gone ↦ (let P : Row → Type 0 = IsInOrder s.len 0 in subst P (sym (get_or_past s.lists i [] (omega arith))) tt)
]

-- a turn of the loop over a list of events
pub run_turn : (s : State) (es : List Event) (i : ℕ) (d : Event) (t u : State) (b : Bool) → i < length es → Does (get_or es i d) t u b
    → Runs s (take i es) t → Runs s (take (i + 1) es) u
run_turn s es i d t u b short h r =
    let P : List Event → Type 0 = λ fs. Runs s fs u in
    subst P (sym (take_more es i d short)) (runs_more _ _ t (get_or es i d) u b r h)

-- and its beginning
pub run_begins : (s t : State) → t ≡ s → Runs s [] t
run_begins s t e = let P : State → Type 0 = λ x. Runs s [] x in subst P (sym e) (ends s)

-- the events of a list end in one state
pub one_end : (s : State) (es : List Event) (t u : State) → Runs s es t → Runs s es u → t ≡ u
one_end s es t u (ends _) (ends _) = refl
one_end s es t u (does _ e fs _ h r) (does _ _ _ _ _ q) = one_end (after e s) fs t u r q
one_end s es t u (does _ e fs _ h r) (passes_over _ _ _ _ not q) = absurd (not h)
one_end s es t u (passes_over _ e fs _ not r) (does _ _ _ _ h q) = absurd (not h)
one_end s es t u (passes_over _ e fs _ not r) (passes_over _ _ _ _ _ q) = one_end s fs t u r q
