-- What an epoch of the pool says, in the words of the reduction.
use Rattle.std.proofs.Common.{◌≡◌, ℕ, zero, suc, ◌+◌, ◌-◌, ◌<◌, ◌≤◌, Bool, All, List, [], ◌∷◌, map, length, slice_index_or, Option, Some, None, get_or, refl, sym, ap, subst, ◌∙◌, arith}
use Rattle.std.proofs.lemmas.List.{length-map}
use Rattle.std.proofs.lemmas.List.Elements.{All-cons, All-nil}
use Rattle.std.proofs.lemmas.Option.{slice_get-get_or}
use Rattle.std.specs.List.{slice_get}
use Rattle.cr_cursor.specs.declared.passes.Cursor.{Cursor}
use Rattle.cr_cursor.specs.Variants.{Offer, cursor}
use Rattle.cr_outside.specs.declared.judge.Answer.{Answer}
use Rattle.cr_outside.specs.declared.judge.Answer.TheVariants.{Yes, No, Failed}
use Rattle.cr_outside.specs.declared.judge.Judge.{Ghosts as JudgeGhosts}
use Rattle.cr_outside.specs.Faults.{Rose}
use Rattle.cr_outside.specs.Judge.{Call, call_of}
use Rattle.cr_pool.specs.declared.job.EpochEnd.{EpochEnd}
use Rattle.cr_pool.specs.declared.job.EpochEnd.TheVariants as ending
use Rattle.cr_pool.specs.Epoch.{Answered, AreAbout, AsksAt, AsksOnce, EndsBy, Epoch, KeepsWhatWasMade, RejectedBelow, bytes_at, variant_at}
use Rattle.cr_pool.specs.Epoch.Answered.{given, was_kept}
use Rattle.cr_pool.specs.declared.verdict.Verdict.TheVariants as verdict
use Rattle.cr_pool.specs.Kept.{Kept}
use Rattle.cr_pool.specs.Tally.{tallies_of, tally_at, tally_of}
use Rattle.cr_pool.specs.Trials.{HasCalled, IsAccepted, IsRejected}
use Rattle.cr_pool.specs.Trials.IsRejected.{not_smaller, unlawful, answered_no}
use Rattle.cr_reduce.specs.Bench.{AllGained, AnyCall, CalledBy, Each, Gained, GoesOn, RoseAt, judging_of}
use Rattle.cr_reduce.specs.Reduction.{AllRejected, State, cursors_of}
use Rattle.cr_reduce.specs.Search.{AcceptsInRun, AnsweredInRun, AreMade, AreRightBy, FailsInRun, RejectsInRun, Search}
use Rattle.cr_reduce.specs.Search.AnsweredInRun.{given as given_in_run, was_kept as kept_before}
use Rattle.cr_reduce.specs.Walk.{AboutTried, AsksOnlyTried, EpochSays}
use Rattle.cr_reduce.proofs.Runs.{all_gained-map}

-- the epoch of so many positions from a state on
abbrev pub epoch_in : Search → State → ℕ → Epoch
epoch_in s st len = record { offer = st.offer; file = st.file; start = st.position; len = len; Lawful = s.Lawful; asks = s.asks; Tells = s.Tells; name = s.name; kept = s.kept }

-- two lists of judges, one after the other
module _ {J K : Type 0} (judge : JudgeGhosts J K) where
  called_by : (worker : ℕ) (a b : List J) (call : Call) → worker < length a → length b ≡ length a → HasCalled (tally_at (tallies_of judge a) worker).calls (tally_at (tallies_of judge b) worker).calls call
      → CalledBy worker (map judge.calls a) (map judge.calls b) call
  called_by worker [] b call low count has = absurd (omega arith)
  called_by worker (x ∷ xs) [] call low count has = absurd (omega arith)
  called_by zero (x ∷ xs) (y ∷ ys) call low count has = has
  called_by (suc worker) (x ∷ xs) (y ∷ ys) call low count has = called_by worker xs ys call (omega arith) (omega arith) has

  rose_at : (worker : ℕ) (a b : List J) → worker < length a → length b ≡ length a → Rose (tally_at (tallies_of judge a) worker).faults (tally_at (tallies_of judge b) worker).faults
      → RoseAt worker (map judge.faults a) (map judge.faults b)
  rose_at worker [] b low count rose = absurd (omega arith)
  rose_at worker (x ∷ xs) [] low count rose = absurd (omega arith)
  rose_at zero (x ∷ xs) (y ∷ ys) low count rose = rose
  rose_at (suc worker) (x ∷ xs) (y ∷ ys) low count rose = rose_at worker xs ys (omega arith) (omega arith) rose

  each_calls : (Is : Call → Type 0) (a b : List J) → length b ≡ length a
      → ((worker : ℕ) → worker < length a → Gained Is (tally_at (tallies_of judge a) worker).calls (tally_at (tallies_of judge b) worker).calls) → AllGained Is (map judge.calls a) (map judge.calls b)
  each_calls Is [] [] count all = tt
  each_calls Is [] (y ∷ ys) count all = absurd (omega arith)
  each_calls Is (x ∷ xs) [] count all = absurd (omega arith)
  each_calls Is (x ∷ xs) (y ∷ ys) count all = (all zero (omega arith), each_calls Is xs ys (omega arith) (λ worker low. all (suc worker) (omega arith)))

  each_faults : (a b : List J) → length b ≡ length a → ((i : ℕ) (d : J) → i < length a → judge.faults (slice_index_or a i d) ≤ judge.faults (slice_index_or b i d))
      → Each (λ old new. old ≤ new) (map judge.faults a) (map judge.faults b)
  each_faults [] [] count all = tt
  each_faults [] (y ∷ ys) count all = absurd (omega arith)
  each_faults (x ∷ xs) [] count all = absurd (omega arith)
  each_faults (x ∷ xs) (y ∷ ys) count all = (all zero x (omega arith), each_faults xs ys (omega arith) (λ i d low. all (suc i) d (omega arith)))

  pub same_keys : (a b : List J) → length b ≡ length a → ((i : ℕ) (d : J) → i < length a → judge.key (slice_index_or b i d) ≡ judge.key (slice_index_or a i d)) → map judge.key b ≡ map judge.key a
  same_keys [] [] count all = refl
  same_keys [] (y ∷ ys) count all = absurd (omega arith)
  same_keys (x ∷ xs) [] count all = absurd (omega arith)
  same_keys (x ∷ xs) (y ∷ ys) count all =
      ap (λ k. k ∷ map judge.key ys) (all zero x (omega arith)) ∙ ap (λ ks. judge.key x ∷ ks) (same_keys xs ys (omega arith) (λ i d low. all (suc i) d (omega arith)))

-- an epoch from a state on
module _ {J K : Type 0} (judge : JudgeGhosts J K) (a b : List J) (count : length b ≡ length a) (s : Search) (st : State) (len : ℕ) where
  answered : (variant : List ℕ) (answer : Answer) → Answered (epoch_in s st len) (tallies_of judge a) (tallies_of judge b) variant answer
      → AnsweredInRun s (judging_of judge a) (judging_of judge b) variant answer
  answered variant answer (given worker low it) = given_in_run (record {
    asked = λ uses. let made = it.asked uses in (worker, made.0, called_by judge worker a b (call_of made.0 s.name variant answer) (omega (arith, length-map a (tally_of judge), low)) count made.1);
    told = it.told;
  })
  answered variant answer (was_kept kept told) = kept_before kept told

  -- what is kept after it, where that is right
  pub are_made : (kept : List Kept) → AreRightBy s kept → KeepsWhatWasMade (epoch_in s st len) (tallies_of judge a) (tallies_of judge b) kept → AreMade s (judging_of judge a) (judging_of judge b) kept
  are_made kept right made file verdict.Unlawful keeps = right file verdict.Unlawful keeps
  are_made kept right made file verdict.Yes keeps = ((right file verdict.Yes keeps).0, answered file Yes ((made file).0 keeps))
  are_made kept right made file verdict.No keeps = ((right file verdict.No keeps).0, answered file No ((made file).1 keeps))

  rejected : (variant : List ℕ) → IsRejected s.Lawful (Answered (epoch_in s st len) (tallies_of judge a) (tallies_of judge b)) st.file variant
      → RejectsInRun s (judging_of judge a) (judging_of judge b) st.file variant
  rejected variant (not_smaller big) = not_smaller big
  rejected variant (unlawful against) = unlawful against
  rejected variant (answered_no it) = answered_no (answered variant No it)

  accepted : (variant : List ℕ) → IsAccepted s.Lawful (Answered (epoch_in s st len) (tallies_of judge a) (tallies_of judge b)) st.file variant
      → AcceptsInRun s (judging_of judge a) (judging_of judge b) st.file variant
  accepted variant it = record { smaller = it.smaller; lawful = it.lawful; answered = answered variant Yes it.answered }

  -- the variant of a position is that of its cursor
  variant_is : (i : ℕ) (at : Cursor) → slice_get (cursors_of st.offer) i ≡ Some at → variant_at st.offer i ≡ st.offer.bytes at
  variant_is i at there = ap (λ c. bytes_at st.offer c) there

  all_rejected : (n : ℕ) → RejectedBelow (epoch_in s st len) (tallies_of judge a) (tallies_of judge b) n
      → AllRejected st.offer (RejectsInRun s (judging_of judge a) (judging_of judge b)) st.file st.position (st.position + n)
  all_rejected n below i at low high there =
      let j = i - st.position in
      let here : st.position + j ≡ i = omega arith in
      subst (RejectsInRun s (judging_of judge a) (judging_of judge b) st.file) (ap (λ p. variant_at st.offer p) here ∙ variant_is i at there)
      (rejected (variant_at st.offer (st.position + j)) (below j (omega arith)))

  abbrev cursor_of : ℕ → Cursor
  cursor_of i = get_or (cursors_of st.offer) i (cursor 0 0 0)

  there_is : (i : ℕ) → i < length (cursors_of st.offer) → slice_get (cursors_of st.offer) i ≡ Some (cursor_of i)
  there_is i low = slice_get-get_or (cursors_of st.offer) i (cursor 0 0 0) low

  pub epoch_says : (end : EpochEnd) → st.position + len ≤ length (cursors_of st.offer) → EndsBy (epoch_in s st len) (tallies_of judge a) (tallies_of judge b) end
      → EpochSays s (judging_of judge a) (judging_of judge b) st len end
  epoch_says (ending.NoneOf n) placed it = (it.0, all_rejected len it.1)
  epoch_says (ending.Found position bytes) placed it =
      let found = it.2 in
      let at = cursor_of position in
      let there = there_is position (omega (arith, it.1, found.within)) in
      let is : variant_at st.offer (st.position + it.0) ≡ st.offer.bytes at = ap (λ p. variant_at st.offer p) (sym it.1) ∙ variant_is position at there in (
        omega (arith, it.1, found.within),
        (
          at,
          found.is ∙ is,
          record {
            after = omega (arith, it.1);
            there = there;
            accepted = subst (AcceptsInRun s (judging_of judge a) (judging_of judge b) st.file) (found.is ∙ is) (accepted bytes.items found.accepted);
            before = subst (λ p. AllRejected st.offer (RejectsInRun s (judging_of judge a) (judging_of judge b)) st.file st.position p) (sym it.1) (all_rejected it.0 found.before_it);
          },
        ),
      )
  epoch_says (ending.Fault position worker) placed it =
      let fault = it.2 in
      let at = cursor_of position in
      let there = there_is position (omega (arith, it.1, fault.within)) in
      let is : variant_at st.offer (st.position + it.0) ≡ st.offer.bytes at = ap (λ p. variant_at st.offer p) (sym it.1) ∙ variant_is position at there in
      let made = fault.failed.answered.asked fault.asks in (
        omega (arith, it.1),
        omega (arith, it.1, fault.within),
        subst (λ p. AllRejected st.offer (RejectsInRun s (judging_of judge a) (judging_of judge b)) st.file st.position p) (sym it.1) (all_rejected it.0 fault.before_it),
        (
          at,
          there,
          subst (FailsInRun s (judging_of judge a) (judging_of judge b) worker st.file) is (record {
            smaller = fault.failed.smaller;
            lawful = fault.failed.lawful;
            failed = record {
              asked = fault.asks;
              called = (made.0, called_by judge worker a b (call_of made.0 s.name (variant_at st.offer (st.position + it.0)) Failed) (omega (arith, length-map a (tally_of judge), fault.is_there)) count made.1);
              rose = rose_at judge worker a b (omega (arith, length-map a (tally_of judge), fault.is_there)) count fault.rose;
            };
          }),
        ),
      )
  epoch_says ending.NoMemory placed it = tt

  about : (positions : List ℕ) (calls : List Call) → st.position + len ≤ length (cursors_of st.offer) → AreAbout (epoch_in s st len) positions calls → All (AboutTried s st) calls
  about [] [] placed it = All-nil (AboutTried s st)
  about [] (c ∷ cs) placed it = absurd it
  about (i ∷ is) [] placed it = absurd it
  about (i ∷ is) (c ∷ cs) placed it =
      let here = it.0 in
      let at = cursor_of (st.position + i) in
      let there = there_is (st.position + i) (omega (arith, here.within)) in
      All-cons (AboutTried s st) c cs
      (here.name, record { position = st.position + i; at = at; there = there; is = here.file ∙ variant_is (st.position + i) at there; smaller = here.smaller; lawful = here.lawful })
      (about is cs placed it.1)

  gained_at : (positions : List ℕ) (old new : Option (List Call)) → st.position + len ≤ length (cursors_of st.offer) → AsksAt (epoch_in s st len) positions old new → Gained (AboutTried s st) old new
  gained_at positions None new placed it = it
  gained_at positions (Some list) new placed it = (it.0, it.1, about positions it.0 placed it.2)

  pub asks_only : st.position + len ≤ length (cursors_of st.offer) → AsksOnce (epoch_in s st len) (tallies_of judge a) (tallies_of judge b) → AsksOnlyTried s (judging_of judge a) (judging_of judge b) st
  asks_only placed once = each_calls judge (AboutTried s st) a b count
      (λ worker low. gained_at (slice_index_or once.positions worker []) (tally_at (tallies_of judge a) worker).calls (tally_at (tallies_of judge b) worker).calls placed (once.calls worker (omega (arith, length-map a (tally_of judge), low))))

  pub goes_on : AsksOnlyTried s (judging_of judge a) (judging_of judge b) st → ((i : ℕ) (d : J) → i < length a → judge.faults (slice_index_or a i d) ≤ judge.faults (slice_index_or b i d))
      → GoesOn (judging_of judge a) (judging_of judge b)
  goes_on asks later = record {
    calls = all_gained-map (AboutTried s st) AnyCall (λ call it. tt) (map judge.calls a) (map judge.calls b) asks;
    faults = each_faults judge a b count later;
  }

-- A job that was handed the file as it is has this epoch.
module _ (offer : List ℕ → Offer) (Lawful : List ℕ → Type 0) (asks : Bool) (Tells : List ℕ → Bool → Type 0) (name : List ℕ) (start len : ℕ) (kept : List Kept) where
  abbrev pub epoch_with : List ℕ → Epoch
  epoch_with file = record { offer = offer file; file = file; start = start; len = len; Lawful = Lawful; asks = asks; Tells = Tells; name = name; kept = kept }

  pub job_is : (Holds : Epoch → Type 0) (file handed : List ℕ) → handed ≡ file → Holds (epoch_with handed) → Holds (epoch_with file)
  job_is Holds file handed same it = subst (λ f. Holds (epoch_with f)) same it
