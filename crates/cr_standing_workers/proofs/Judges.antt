-- What is done to the judges, and what their answers say.
use Rattle.std.proofs.Common.{◌≡◌, ◌≢◌, ℕ, suc, ◌<◌, ◌≤◌, Bool, true, false, List, [], ◌∷◌, ◌++◌, length, slice_index_or, refl, ap, ◌∙◌, arith}
use Rattle.cr_outside.specs.declared.judge.Answer.{Answer}
use Rattle.cr_outside.specs.declared.judge.Answer.TheVariants.{Yes, No, Failed, NoMemory}
use Rattle.cr_outside.specs.declared.judge.Judge.{Ghosts as JudgeGhosts}
use Rattle.cr_outside.specs.Faults.{Rose}
use Rattle.cr_outside.specs.Question.{AnswersAsTold, AsksOnce, Says}
use Rattle.cr_pool.specs.Sizes.{HasSize, IsSmaller}
use Rattle.cr_pool.specs.Tally.{HaveOneKey, first_says}
use Rattle.cr_pool.specs.declared.verdict.Verdict.{Verdict}
use Rattle.cr_pool.specs.declared.verdict.Verdict.TheVariants as verdict
use Rattle.cr_pool.specs.Kept.{IsRight}
use Rattle.cr_pool.specs.Trials.{IsLarge}
use Rattle.cr_pool.specs.Trials.IsRejected.{not_smaller, unlawful, answered_no}
use Rattle.cr_pool.proofs.Sizes.{large_no_smaller}
use Rattle.cr_reduce.specs.Bench.{Each, Judging, judging_of}
use Rattle.cr_reduce.specs.Search.{Search}
use Rattle.cr_reduce.proofs.Runs.{called_first, goes_on-refl, goes_on-trans, goes_on_first}
use Rattle.cr_standing_workers.specs.declared.trial.Found.{Found}
use Rattle.cr_standing_workers.specs.declared.trial.Found.TheVariants as found
use Rattle.cr_standing_workers.specs.declared.trial.Weighed.TheVariants as weighed
use Rattle.cr_standing_workers.specs.Channels.{AllAre}
use Rattle.cr_standing_workers.specs.Serving.{Serves}
use Rattle.cr_standing_workers.specs.Told.{FoundSays, TriedSays, WeighedSays, found_of, tried_of, weighed_of}

module _ {J K : Type 0} (judge : JudgeGhosts J K) (asks : Bool) where
  pub serves-refl : (j : J) → Serves judge asks j j
  serves-refl j = record { key = refl; goes_on = goes_on-refl (judging_of judge (j ∷ [])); silent = λ _. refl }

  pub serves-trans : (a b c : J) → Serves judge asks a b → Serves judge asks b c → Serves judge asks a c
  serves-trans a b c first second = record {
    key = second.key ∙ first.key;
    goes_on = goes_on-trans (judging_of judge (a ∷ [])) (judging_of judge (b ∷ [])) (judging_of judge (c ∷ [])) first.goes_on second.goes_on;
    silent = λ quiet. second.silent quiet ∙ first.silent quiet;
  }

  -- one question was asked
  pub serves_asking : (old new : J) (name file : List ℕ) (answer : Answer) → judge.key new ≡ judge.key old → (asks ≡ true → AsksOnce (judge.calls old) (judge.calls new) name file answer)
      → (asks ≡ false → new ≡ old) → judge.faults old ≤ judge.faults new → Serves judge asks old new
  serves_asking old new name file answer key once silent later = record {
    key = key;
    goes_on = goes_on_first judge asks (old ∷ []) (new ∷ []) name file answer (omega arith) refl refl once (λ quiet. ap (λ j. j ∷ []) (silent quiet)) later;
    silent = silent;
  }

  pub each-refl : (js : List J) → Each (Serves judge asks) js js
  each-refl [] = tt
  each-refl (j ∷ js) = (serves-refl j, each-refl js)

  pub each-trans : (xs ys zs : List J) → Each (Serves judge asks) xs ys → Each (Serves judge asks) ys zs → Each (Serves judge asks) xs zs
  each-trans [] [] [] first second = tt
  each-trans [] [] (c ∷ zs) first second = absurd second
  each-trans [] (b ∷ ys) zs first second = absurd first
  each-trans (a ∷ xs) [] zs first second = absurd first
  each-trans (a ∷ xs) (b ∷ ys) [] first second = absurd second
  each-trans (a ∷ xs) (b ∷ ys) (c ∷ zs) first second = (serves-trans a b c first.0 second.0, each-trans xs ys zs first.1 second.1)

  -- what they say stays
  pub each_told : (says : K → Says) (told : Says) (xs ys : List J) → Each (Serves judge asks) xs ys → AllAre (λ j. says (judge.key j) ≡ told) xs → AllAre (λ j. says (judge.key j) ≡ told) ys
  each_told says told [] [] all is = tt
  each_told says told [] (b ∷ ys) all is = absurd all
  each_told says told (a ∷ xs) [] all is = absurd all
  each_told says told (a ∷ xs) (b ∷ ys) all is = (ap says all.0.key ∙ is.0, each_told says told xs ys all.1 is.1)

  pub each_more : (xs ys : List J) (x y : J) → Each (Serves judge asks) xs ys → Serves judge asks x y → Each (Serves judge asks) (xs ++ x ∷ []) (ys ++ y ∷ [])
  each_more [] [] x y all it = (it, tt)
  each_more [] (b ∷ ys) x y all it = absurd all
  each_more (a ∷ xs) [] x y all it = absurd all
  each_more (a ∷ xs) (b ∷ ys) x y all it = (all.0, each_more xs ys x y all.1 it)

  pub each_length : (xs ys : List J) → Each (Serves judge asks) xs ys → length ys ≡ length xs
  each_length [] [] all = refl
  each_length [] (b ∷ ys) all = absurd all
  each_length (a ∷ xs) [] all = absurd all
  each_length (a ∷ xs) (b ∷ ys) all = ap suc (each_length xs ys all.1)

-- each of a list and one more
pub all_front : {A : Type 0} (Is : A → Type 0) (xs : List A) (x : A) → AllAre Is (xs ++ x ∷ []) → AllAre Is xs
all_front Is [] x all = tt
all_front Is (y ∷ xs) x all = (all.0, all_front Is xs x all.1)

pub all_last : {A : Type 0} (Is : A → Type 0) (xs : List A) (x : A) → AllAre Is (xs ++ x ∷ []) → Is x
all_last Is [] x all = all.0
all_last Is (y ∷ xs) x all = all_last Is xs x all.1

-- judges of one key say the same
all_with : {J K : Type 0} (key : J → K) (says : K → Says) (k : K) (js : List J) → ((i : ℕ) (d : J) → i < length js → key (slice_index_or js i d) ≡ k) → AllAre (λ j. says (key j) ≡ says k) js
all_with key says k [] each = tt
all_with key says k (j ∷ js) each = (ap says (each 0 j (omega arith)), all_with key says k js (λ i d low. each (suc i) d (omega arith)))

pub all_say : {J K : Type 0} (key : J → K) (says : K → Says) (js : List J) → HaveOneKey key js → AllAre (λ j. says (key j) ≡ first_says key says js) js
all_say key says [] one = tt
all_say key says (j ∷ js) one = all_with key says (key j) (j ∷ js) (λ i d low. one i 0 d low (omega arith))

-- what the answer says of a variant that is smaller and lawful
asked_if : (asks : Bool) (answer : Answer) → (asks ≡ false → answer ≢ Failed) → answer ≡ Failed → asks ≡ true
asked_if true answer unfailing is = refl
asked_if false answer unfailing is = absurd (unfailing refl is)

pub smaller_than : (file variant : List ℕ) (size n : ℕ) → HasSize file size → HasSize variant n → n < size → IsSmaller variant file
smaller_than file variant size n sized has less = record { new_size = n; old_size = size; new_is = has; old_is = sized; less = less }

-- of a lawful one that was asked about
pub found_asked : {J K : Type 0} (judge : JudgeGhosts J K) (s : Search) (old new : J) (variant : List ℕ) (answer : Answer) → s.Lawful variant
    → AnswersAsTold s.asks (s.Tells variant) answer → (s.asks ≡ true → AsksOnce (judge.calls old) (judge.calls new) s.name variant answer) → (s.asks ≡ false → answer ≢ Failed)
    → (answer ≡ Failed → Rose (judge.faults old) (judge.faults new))
    → FoundSays s (judging_of judge (old ∷ [])) (judging_of judge (new ∷ [])) variant (found_of answer)
found_asked judge s old new variant Yes lawful told once unfailing rose = (lawful, told)
found_asked judge s old new variant No lawful told once unfailing rose = (lawful, told)
found_asked judge s old new variant Failed lawful told once unfailing rose =
    let asked = asked_if s.asks Failed unfailing refl in
    let made = called_first (judge.calls old ∷ []) (judge.calls new ∷ []) s.name variant Failed (λ is. cc) (once asked, refl) in
    (lawful, record { asked = asked; called = made; rose = rose refl })
found_asked judge s old new variant NoMemory lawful told once unfailing rose = tt

-- what was found of a smaller variant is what its trial comes to
pub tried_found : (s : Search) (before now : Judging) (file variant : List ℕ) (it : Found) → IsSmaller variant file → FoundSays s before now variant it → TriedSays s before now file variant (tried_of it)
tried_found s before now file variant (found.Verdict verdict.Yes) smaller says = record { smaller = smaller; lawful = says.0; answered = says.1 }
tried_found s before now file variant (found.Verdict verdict.No) smaller says = answered_no says.1
tried_found s before now file variant (found.Verdict verdict.Unlawful) smaller says = unlawful says
tried_found s before now file variant found.Failed smaller says = record { smaller = smaller; lawful = says.0; failed = says.1 }
tried_found s before now file variant found.NoMemory smaller says = tt

-- what a right verdict says of a smaller variant
pub weighed_right : (s : Search) (file variant : List ℕ) (v : Verdict) → IsSmaller variant file → IsRight s.Lawful s.asks s.Tells variant v → WeighedSays s file variant (weighed_of v)
weighed_right s file variant verdict.Yes smaller right = record { smaller = smaller; lawful = right.0; answered = right.1 }
weighed_right s file variant verdict.No smaller right = answered_no right.1
weighed_right s file variant verdict.Unlawful smaller right = unlawful right

-- and one that isn't smaller is rejected
pub weighed_large : (s : Search) (file variant : List ℕ) (size : ℕ) → HasSize file size → IsLarge variant size → WeighedSays s file variant weighed.No
weighed_large s file variant size sized large = not_smaller (large_no_smaller file variant size sized large)
