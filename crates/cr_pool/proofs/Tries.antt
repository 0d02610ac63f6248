-- The trial of one position, by what the question answered.
use Rattle.std.proofs.Common.{◌≡◌, ◌≢◌, ◌⊎◌, inl, inr, ℕ, ◌-◌, ◌<◌, ◌≤◌, Bool, true, false, List, [], ◌∷◌, Option, Some, None, refl, sym, ap, subst, arith}
use Rattle.std.proofs.lemmas.List.{append-nil}
use Rattle.cr_core.specs.declared.marks.HitKind.{HitKind}
use Rattle.cr_core.specs.declared.marks.HitKind.TheVariants as kind
use Rattle.cr_core.specs.Row.{apart}
use Rattle.cr_outside.specs.declared.judge.Answer.{Answer}
use Rattle.cr_outside.specs.declared.judge.Answer.TheVariants.{Yes, No, Failed, NoMemory}
use Rattle.cr_outside.specs.Faults.{Rose}
use Rattle.cr_outside.specs.Judge.{Call, call_of, with_call}
use Rattle.cr_outside.specs.Question.{AnswersAsTold, AsksOnce, CountsOnce}
use Rattle.cr_pool.specs.declared.trial.Trial.TheVariants.{Rejected, Hit}
use Rattle.cr_pool.specs.declared.verdict.Verdict.{Verdict}
use Rattle.cr_pool.specs.declared.verdict.Verdict.TheVariants as verdict
use Rattle.cr_pool.specs.Answers.{trial_by, trial_of, verdict_of}
use Rattle.cr_pool.specs.Epoch.{Epoch, AnsweredBy, AsksAt, BeginsRight, IsAbout, Known, times, variant_of}
use Rattle.cr_pool.specs.Epoch.Known.{by_judge, by_kept}
use Rattle.cr_pool.specs.Kept.{IsDecided, IsKept, Keeps}
use Rattle.cr_pool.specs.Sizes.{HasSize, IsSmaller}
use Rattle.cr_pool.specs.Tally.{Tally}
use Rattle.cr_pool.specs.Trials.{IsFailed, IsGood, IsRejected}
use Rattle.cr_pool.specs.Trials.IsRejected.{answered_no, unlawful}
use Rattle.cr_pool.specs.Works.{Tries, IsVerdict, MayNoteNothing, NoteIsSo, RejectsAt, HitSays, VerdictIsSo}
use Rattle.cr_pool.proofs.Runs.{answered_once, is_so, one_count}
use Rattle.cr_pool.proofs.Sizes.{good_is_smaller}

pub asks_none : (e : Epoch) (calls : Option (List Call)) → AsksAt e [] calls calls
asks_none e None = refl
asks_none e (Some list) = ([], ap Some (sym (append-nil list)), tt)

asks_one : (e : Epoch) (i : ℕ) (call : Call) (calls : Option (List Call)) → IsAbout e i call → AsksAt e (i ∷ []) calls (with_call call calls)
asks_one e i call None about = refl
asks_one e i call (Some list) about = (call ∷ [], refl, (about, tt))

one_call : (old new : Option (List Call)) (name file : List ℕ) (answer : Answer) → AsksOnce old new name file answer
    → (new ≡ old) ⊎ ((test : List ℕ) × (new ≡ with_call (call_of test name file answer) old))
one_call old new name file Yes once = inr once
one_call old new name file No once = inr once
one_call old new name file Failed once = inr once
one_call old new name file NoMemory (inl same) = inl same
one_call old new name file NoMemory (inr (test, inl same)) = inl same
one_call old new name file NoMemory (inr (test, inr gained)) = inr (test, gained)

-- No call was made.
pub tries_quietly : (e : Epoch) (i : ℕ) (before now : Tally) → now ≡ before → Tries e before now i
tries_quietly e i before now same =
    subst (λ t. Tries e before t i) (sym same) (record {
      positions = [];
      calls = asks_none e before.calls;
      once = λ j. omega arith;
      few = omega arith;
      later = omega arith;
    })

no_answer : (answer : Answer) → trial_of answer ≡ Rejected → answer ≡ No
no_answer Yes came = cc
no_answer No came = refl
no_answer Failed came = cc
no_answer NoMemory came = cc

module _ (e : Epoch) (i : ℕ) (variant : List ℕ) (is : variant ≡ variant_of e i) (within : i < e.len)
    (size n : ℕ) (sized : HasSize e.file size) (good : IsGood e.Lawful variant size n) (unkept : IsKept e.kept variant → ⊥)
    (before now : Tally) (answer : Answer) (once : e.asks ≡ true → AsksOnce before.calls now.calls e.name variant answer) where
  about : (test : List ℕ) → IsAbout e i (call_of test e.name variant answer)
  about test = record {
    within = within;
    name = refl;
    file = is;
    smaller = good_is_smaller e.Lawful e.file variant size n sized good;
    lawful = good.lawful;
    not_kept = unkept;
  }

  calls_at : ((now.calls ≡ before.calls) ⊎ ((test : List ℕ) × (now.calls ≡ with_call (call_of test e.name variant answer) before.calls)))
      → (positions : List ℕ) × AsksAt e positions before.calls now.calls × ((j : ℕ) → times j positions ≤ 1 - apart j i)
  calls_at (inl same) = ([], subst (AsksAt e [] before.calls) (sym same) (asks_none e before.calls), λ j. omega arith)
  calls_at (inr (test, gained)) =
      (i ∷ [], subst (AsksAt e (i ∷ []) before.calls) (sym gained) (asks_one e i (call_of test e.name variant answer) before.calls (about test)), λ j. omega arith)

  -- At most one call was made, about this variant.
  pub tries_asking : (b : Bool) → e.asks ≡ b → (e.asks ≡ true → CountsOnce before.asked now.asked answer) → (e.asks ≡ false → now ≡ before)
      → before.faults ≤ now.faults → Tries e before now i
  tries_asking false uses counted silent later = tries_quietly e i before now (silent uses)
  tries_asking true uses counted silent later =
      let it = calls_at (one_call before.calls now.calls e.name variant answer (once uses)) in
      record {
        positions = it.0;
        calls = it.1;
        once = it.2;
        few = one_count before.asked now.asked answer (counted uses);
        later = later;
      }

  -- It was answered so.
  answered : answer ≢ NoMemory → AnswersAsTold e.asks (e.Tells variant) answer → AnsweredBy e before now variant answer
  answered given told = answered_once e.asks e.Tells e.name before.calls now.calls variant answer given once told

  -- It was answered no.
  pub rejects_by_no : trial_of answer ≡ Rejected → AnswersAsTold e.asks (e.Tells variant) answer → RejectsAt e before now i
  rejects_by_no came told =
      let no = no_answer answer came in
      let by_no = subst (AnsweredBy e before now variant) no (answered (λ none. cc) told) in
      subst (λ v. IsRejected e.Lawful (Known e before now) e.file v) is (answered_no (by_judge by_no))

  -- It wasn't answered no.
  pub says_by_hit : (a : Answer) → answer ≡ a → (k : HitKind) → trial_of a ≡ Hit k → AnswersAsTold e.asks (e.Tells variant) answer → (e.asks ≡ false → answer ≢ Failed)
      → (answer ≡ Failed → Rose before.faults now.faults) → HitSays e before now variant i k
  says_by_hit Yes eq k came told unfailing rose =
      let same : kind.Yes ≡ k = cc in
      subst (HitSays e before now variant i) same (
        is,
        record {
          smaller = good_is_smaller e.Lawful e.file variant size n sized good;
          lawful = good.lawful;
          answered = by_judge (subst (AnsweredBy e before now variant) eq (answered (λ none. cc) told));
        },
      )
  says_by_hit No eq k came told unfailing rose = cc
  says_by_hit Failed eq k came told unfailing rose =
      let same : kind.Failed ≡ k = cc in
      let it : IsFailed e.Lawful (AnsweredBy e before now) e.file variant = record {
        smaller = good_is_smaller e.Lawful e.file variant size n sized good;
        lawful = good.lawful;
        answered = subst (AnsweredBy e before now variant) eq (answered (λ none. cc) told);
      } in
      subst (HitSays e before now variant i) same (is_so e.asks (λ quiet. unfailing quiet eq), subst (IsFailed e.Lawful (AnsweredBy e before now) e.file) is it, rose eq)
  says_by_hit NoMemory eq k came told unfailing rose = let same : kind.Starved ≡ k = cc in subst (HitSays e before now variant i) same tt

  -- It was answered so, and that is the verdict.
  pub says_by_note : (a : Answer) → answer ≡ a → (v : Verdict) → verdict_of a ≡ Some v → AnswersAsTold e.asks (e.Tells variant) answer → VerdictIsSo e before now variant v
  says_by_note Yes eq v came told =
      let same : verdict.Yes ≡ v = cc in
      subst (VerdictIsSo e before now variant) same (good.lawful, by_judge (subst (AnsweredBy e before now variant) eq (answered (λ none. cc) told)))
  says_by_note No eq v came told =
      let same : verdict.No ≡ v = cc in
      subst (VerdictIsSo e before now variant) same (good.lawful, by_judge (subst (AnsweredBy e before now variant) eq (answered (λ none. cc) told)))
  says_by_note Failed eq v came told = cc
  says_by_note NoMemory eq v came told = cc

  pub note_by_answer : AnswersAsTold e.asks (e.Tells variant) answer → NoteIsSo e before now i (verdict_of answer)
  note_by_answer told v came =
      subst (λ f. IsSmaller f e.file × IsVerdict e before now f v) is (good_is_smaller e.Lawful e.file variant size n sized good, inr (unkept, says_by_note answer refl v came told))

-- The verdict is known before anything is asked.
module _ (e : Epoch) (right : BeginsRight e) (before now : Tally) (i : ℕ) (variant : List ℕ) (is : variant ≡ variant_of e i) where
  kept_is_so : (v : Verdict) → Keeps e.kept variant v → VerdictIsSo e before now variant v
  kept_is_so verdict.Unlawful kept = right variant verdict.Unlawful kept
  kept_is_so verdict.Yes kept = let it = right variant verdict.Yes kept in (it.0, by_kept kept it.1)
  kept_is_so verdict.No kept = let it = right variant verdict.No kept in (it.0, by_kept kept it.1)

  so_by : (v : Verdict) → Keeps e.kept variant v ⊎ ((v ≡ verdict.Unlawful) × (e.Lawful variant → ⊥) × (IsKept e.kept variant → ⊥)) → VerdictIsSo e before now variant v
  so_by v (inl kept) = kept_is_so v kept
  so_by v (inr refused) = subst (VerdictIsSo e before now variant) (sym refused.0) refused.1

  noted_by : (v : Verdict) → Keeps e.kept variant v ⊎ ((v ≡ verdict.Unlawful) × (e.Lawful variant → ⊥) × (IsKept e.kept variant → ⊥)) → IsVerdict e before now variant v
  noted_by v (inl kept) = inl kept
  noted_by v (inr refused) = inr (refused.2, subst (VerdictIsSo e before now variant) (sym refused.0) refused.1)

  module _ (size : ℕ) (sized : HasSize e.file size) (v : Verdict) (known : IsDecided e.Lawful e.kept variant size v) where
    rejects_so : (w : Verdict) → VerdictIsSo e before now variant w → trial_by w ≡ Rejected → IsRejected e.Lawful (Known e before now) e.file variant
    rejects_so verdict.Unlawful so came = unlawful so
    rejects_so verdict.Yes so came = cc
    rejects_so verdict.No so came = answered_no so.1

    pub rejects_by_verdict : trial_by v ≡ Rejected → RejectsAt e before now i
    rejects_by_verdict came = subst (λ f. IsRejected e.Lawful (Known e before now) e.file f) is (rejects_so v (so_by v known.why) came)

    says_so : (w : Verdict) → VerdictIsSo e before now variant w → (k : HitKind) → trial_by w ≡ Hit k → HitSays e before now variant i k
    says_so verdict.Unlawful so k came = cc
    says_so verdict.Yes so k came =
        let same : kind.Yes ≡ k = cc in
        subst (HitSays e before now variant i) same (
          is,
          record {
            smaller = record { new_size = known.size; old_size = size; new_is = known.has; old_is = sized; less = known.less };
            lawful = so.0;
            answered = so.1;
          },
        )
    says_so verdict.No so k came = cc

    pub says_by_verdict : (k : HitKind) → trial_by v ≡ Hit k → HitSays e before now variant i k
    says_by_verdict k came = says_so v (so_by v known.why) k came

    pub note_by_verdict : NoteIsSo e before now i (Some v)
    note_by_verdict w came =
        let same : v ≡ w = cc in
        let smaller : IsSmaller variant e.file = record { new_size = known.size; old_size = size; new_is = known.has; old_is = sized; less = known.less } in
        subst (λ f. IsSmaller f e.file × IsVerdict e before now f w) is (smaller, subst (IsVerdict e before now variant) same (noted_by v known.why))

-- Where an answer is no verdict, that it is noted nowhere says nothing.
pub unnoted_answer : (e : Epoch) (i : ℕ) (answer : Answer) → verdict_of answer ≡ None → MayNoteNothing e i (trial_of answer)
unnoted_answer e i Yes none = cc
unnoted_answer e i No none = cc
unnoted_answer e i Failed none = tt
unnoted_answer e i NoMemory none = tt
