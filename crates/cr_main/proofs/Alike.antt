-- The words ask for one thing: what is asked by one reading of them is asked by another.
use Rattle.std.proofs.Common.{◌≡◌, inl, inr, ℕ, Bool, true, false, List, length, Option, refl, sym, subst, ◌∙◌}
use Rattle.cr_formula.proofs.Texts.{one_formula}
use Rattle.cr_formula_bound.specs.Values.{TellsFormula}
use Rattle.cr_lawful.specs.Lawful.{limits_of}
use Rattle.cr_outside.specs.Question.{Says as Telling}
use Rattle.cr_outside.specs.Test.{one_test_answer, tells_test}
use Rattle.cr_outside.specs.declared.judge.Answer.{Answer}
use Rattle.cr_outside.specs.declared.judge.Answer.TheVariants.{Yes, No, Failed, NoMemory}
use Rattle.cr_outside.specs.declared.test.Test.{Test}
use Rattle.cr_pool.specs.Trials.{ToldAnswer}
use Rattle.cr_pool.specs.Trials.IsRejected.{answered_no, not_smaller, unlawful}
use Rattle.cr_reduce.specs.Bench.{Judging}
use Rattle.cr_reduce.specs.Reduction.{Outcome, Proposals, Reduces, State, Trial, Within, cursors_of, moved, next_round, none_fails, start_of, taken}
use Rattle.cr_reduce.specs.Reduction.Reduces.{accepts, fails, fixed, new_round, rejects, short, spent}
use Rattle.cr_reduce.specs.Search.{AcceptsAsTold, RejectsAsTold}
use Rattle.pass_list.specs.Offers.{Offers, levels_on}
use Rattle.cr_main_kept.specs.Completing.{CompletesFirst, CompletesOn, HasAllOn}
use Rattle.cr_main_kept.specs.Header.{passes_mark}
use Rattle.cr_main_kept.specs.KeptTask.{KeptTask, at}
use Rattle.cr_main_kept.specs.Surviving.{IsWhole, Survives}
use Rattle.cr_main_kept.specs.declared.header.Marks.{Marks}
use Rattle.cr_main_task.specs.Bound.{HasAllBound}
use Rattle.cr_main_task.specs.Headline.{enough_for}
use Rattle.cr_main_task.specs.Outside.{Outside}
use Rattle.cr_main_words.specs.Laws.{SameSettings}
use Rattle.cr_main_words.specs.Names.{IsOwnName, name_of}
use Rattle.cr_main_words.specs.declared.modes.Modes.{Modes}
use Rattle.cr_main_words.specs.declared.settings.Settings.{Settings}
use Rattle.cr_main.specs.More.{Means, word_of}
use Rattle.cr_main.specs.Task.{Query, asked_of, asks_of, law_by, marks_of, tells_of, text_of}
use Rattle.cr_main.specs.Task.Query.{by_form, by_test}
use Rattle.cr_main.proofs.OneTask.{one_own, same_has, same_lacks, same_name}
use Rattle.cr_main.proofs.Paths.{same_formula, same_spelling}

asks_alike : (a b : Settings) → SameSettings a b → SameSettings b a → (one other : Query) → Means a.test one → Means b.test other → asks_of a.test one ≡ asks_of b.test other
asks_alike a b same back by_test by_test means meant = same.tests.asks
asks_alike a b same back by_test (by_form form) means meant = absurd (means (same_formula b.test a.test back.tests meant.0))
asks_alike a b same back (by_form form) by_test means meant = absurd (meant (same_formula a.test b.test same.tests means.0))
asks_alike a b same back (by_form form) (by_form else) means meant = refl

tells_alike : (a b : Settings) → SameSettings a b → SameSettings b a → (one other : Query) → Means a.test one → Means b.test other → (says : Telling) (own its : List ℕ) → own ≡ its → (bytes file : List ℕ) (answer : Bool)
    → tells_of a.test (limits_of a.steps) one bytes says own file answer → tells_of b.test (limits_of b.steps) other bytes says its file answer
tells_alike a b same back by_test by_test means meant says own its owned bytes file answer it = subst (λ o. tells_test b.test says o file answer) owned (same.tests.tells says own file answer it)
tells_alike a b same back by_test (by_form form) means meant says own its owned bytes file answer it = absurd (means (same_formula b.test a.test back.tests meant.0))
tells_alike a b same back (by_form form) by_test means meant says own its owned bytes file answer it = absurd (meant (same_formula a.test b.test same.tests means.0))
tells_alike a b same back (by_form form) (by_form else) means meant says own its owned bytes file answer it =
    let forms = one_formula (word_of b.test) form else (same_spelling a.test b.test form same.tests means.1) meant.1 in
    subst (λ f. TellsFormula f bytes (limits_of b.steps) file answer) forms (subst (λ (n : ℕ). TellsFormula form bytes (limits_of n) file answer) same.steps it)

-- at most one answer is told
pub one_answer_of : (test : Test) (steps : ℕ) (query : Query) (bytes : List ℕ) (says : Telling) (own file : List ℕ)
    → tells_of test (limits_of steps) query bytes says own file true → tells_of test (limits_of steps) query bytes says own file false → ⊥
one_answer_of test steps by_test bytes says own file holds denied = one_test_answer test says own file holds denied
one_answer_of test steps (by_form form) bytes says own file holds denied = denied holds

-- where each acceptance and each rejection is one by other rules too, a reduction is one by these
by_others : (p : Proposals) (A B R S : Trial) (limit : Option ℕ) → ((file variant : List ℕ) → A file variant → B file variant) → ((file variant : List ℕ) → R file variant → S file variant)
    → (st : State) (out : Outcome) → Reduces p A R none_fails limit st out → Reduces p B S none_fails limit st out
by_others p A B R S limit taking leaving st out (new_round end changed rest) = new_round end changed (by_others p A B R S limit taking leaving (next_round st) out rest)
by_others p A B R S limit taking leaving st out (fixed end changed e) = fixed end changed e
by_others p A B R S limit taking leaving st out (spent below none e) = spent below none e
by_others p A B R S limit taking leaving st out (short to turns before below all count none e) =
    short to turns before below (λ i at low high there. leaving st.file (st.offer.bytes at) (all i at low high there)) count none e
by_others p A B R S limit taking leaving st out (accepts position at size turns next first sized count within offered rest) =
    accepts position at size turns next (record {
      after = first.after;
      there = first.there;
      accepted = taking st.file (st.offer.bytes at) first.accepted;
      before = λ i other low high there. leaving st.file (st.offer.bytes other) (first.before i other low high there);
    }) sized count within offered (by_others p A B R S limit taking leaving (taken st at size turns next) out rest)
by_others p A B R S limit taking leaving st out (rejects turns below all count within rest) =
    rejects turns below (λ i at low high there. leaving st.file (st.offer.bytes at) (all i at low high there)) count within
    (by_others p A B R S limit taking leaving (moved st (length (cursors_of st.offer)) turns) out rest)
by_others p A B R S limit taking leaving st out (fails position at turns worker low there before failed count within e) = absurd failed

-- two readings of the same words
module _ (a b : Settings) (same : SameSettings a b) (back : SameSettings b a) (one other : Query) (means : Means a.test one) (meant : Means b.test other)
    (own its : List ℕ) (is_own : IsOwnName (name_of a.source) own) (is_its : IsOwnName (name_of b.source) its) (modes : Modes) (says : Telling) where
  abbrev asked_first : KeptTask
  asked_first = asked_of a modes one says own

  abbrev asked_then : KeptTask
  asked_then = asked_of b modes other says its

  owned : own ≡ its
  owned = one_own (name_of b.source) own its (subst (λ n. IsOwnName n own) (same_name a.source b.source same.source) is_own) is_its

  uses : asks_of a.test one ≡ asks_of b.test other
  uses = asks_alike a b same back one other means meant

  tells : (bytes file : List ℕ) (answer : Bool) → asked_first.Tells bytes file answer → asked_then.Tells bytes file answer
  tells bytes file answer it = tells_alike a b same back one other means meant says own its owned bytes file answer it

  tells_back : (bytes file : List ℕ) (answer : Bool) → asked_then.Tells bytes file answer → asked_first.Tells bytes file answer
  tells_back bytes file answer it = tells_alike b a back same other one meant means says its own (sym owned) bytes file answer it

  lawful : (file : List ℕ) → asked_first.law.Lawful file → asked_then.law.Lawful file
  lawful file it = subst (λ (n : ℕ). (law_by modes (limits_of n)).Lawful file) same.steps it

  lawful_back : (file : List ℕ) → asked_then.law.Lawful file → asked_first.law.Lawful file
  lawful_back file it = subst (λ (n : ℕ). (law_by modes (limits_of n)).Lawful file) back.steps it

  -- what a run has all of by the one, it has by the other
  pub all_bound : (old new : Outside) (before after : Judging) → HasAllBound (levels_on a.enabled) (at asked_first) (text_of a.source old.files) old new before after → HasAllBound (levels_on b.enabled) (at asked_then) (text_of b.source old.files) old new before after
  all_bound old new before after all =
      let bytes = all.0 in
      let it = all.2 in (
        bytes,
        same_has old.files b.source a.source back.source bytes all.1,
        record {
          bytes = it.bytes;
          there = λ file has. it.there file (same_has old.files a.source b.source same.source file has);
          here = λ lacks. it.here (same_lacks old.files a.source b.source same.source lacks);
          lawful = lawful it.bytes it.lawful;
          all_told = λ file. elim (it.all_told file) [
            | inl quiet ↦ inl (sym uses ∙ quiet)
            | inr answer ↦ inr (answer.0, tells bytes file answer.0 answer.1)
          ];
          yes = tells bytes it.bytes true it.yes;
          no_file_fault = it.no_file_fault;
          no_output_fault = it.no_output_fault;
          no_judge_fault = it.no_judge_fault;
          enough = subst (λ (on : List Bool). Within b.limit (enough_for (levels_on on) (length it.bytes))) same.enabled
              (subst (λ l. Within l (enough_for (levels_on a.enabled) (length it.bytes))) same.limit it.enough);
        },
      )

  told_back : (bytes file : List ℕ) (answer : Answer) → ToldAnswer (asked_then.Tells bytes) file answer → ToldAnswer (asked_first.Tells bytes) file answer
  told_back bytes file Yes it = tells_back bytes file true it
  told_back bytes file No it = tells_back bytes file false it
  told_back bytes file Failed it = it
  told_back bytes file NoMemory it = it

  accepted_back : (bytes file variant : List ℕ) → AcceptsAsTold (at asked_then bytes).search file variant → AcceptsAsTold (at asked_first bytes).search file variant
  accepted_back bytes file variant it = record { smaller = it.smaller; lawful = lawful_back variant it.lawful; answered = told_back bytes variant Yes it.answered }

  rejected_back : (bytes file variant : List ℕ) → RejectsAsTold (at asked_then bytes).search file variant → RejectsAsTold (at asked_first bytes).search file variant
  rejected_back bytes file variant (not_smaller why) = not_smaller why
  rejected_back bytes file variant (unlawful why) = unlawful (λ is. why (lawful variant is))
  rejected_back bytes file variant (answered_no it) = answered_no (told_back bytes variant No it)

  -- what the one asks, under the other's name and limit
  abbrev renamed : List ℕ → Option ℕ → KeptTask
  renamed name limit = let k = asked_first in record k { name = name; limit = limit }

  whole_back : (bytes : List ℕ) (size : ℕ) (out : Outcome) → IsWhole (at asked_then bytes) bytes size out → IsWhole (at (renamed (name_of b.source) b.limit) bytes) bytes size out
  whole_back bytes size out whole =
      let A = (at asked_first bytes).search in
      let B = (at asked_then bytes).search in
      let (offer, offered, run) = whole.reduction in record {
        told = λ file. elim (whole.told file) [
          | inl quiet ↦ inl (uses ∙ quiet)
          | inr answer ↦ inr (answer.0, tells_back bytes file answer.0 answer.1)
        ];
        lawful = lawful_back bytes whole.lawful;
        sized = whole.sized;
        reduction = (
          offer,
          subst (λ (enabled : List Bool). Offers enabled bytes offer) (sym same.enabled) offered,
          subst (λ (enabled : List Bool). Reduces (Offers enabled) (AcceptsAsTold A) (RejectsAsTold A) none_fails b.limit (start_of bytes offer) out) (sym same.enabled)
              (by_others (Offers b.enabled) (AcceptsAsTold B) (AcceptsAsTold A) (RejectsAsTold B) (RejectsAsTold A) b.limit (accepted_back bytes) (rejected_back bytes) (start_of bytes offer) out run),
        );
      }

  -- what holds under the name, the limit and the marks of the one, holds under the other's
  moved_to : (Holds : List ℕ → Option ℕ → Marks → Type 0) → Holds (name_of a.source) a.limit (marks_of a) → Holds (name_of b.source) b.limit (marks_of b)
  moved_to Holds it =
      let named = subst (λ (name : List ℕ). Holds name a.limit (marks_of a)) (same_name a.source b.source same.source) it in
      let limited = subst (λ (limit : Option ℕ). Holds (name_of b.source) limit (marks_of a)) same.limit named in
      subst (λ (marks : Marks). Holds (name_of b.source) b.limit marks) (λ i. record { passes = passes_mark (same.enabled i); steps = same.steps i }) limited

  pub survives_alike : (old new : Outside) (status : ℕ) → Survives asked_first (marks_of a) old new status → Survives asked_then (marks_of b) old new status
  survives_alike old new status survives =
      let marked = moved_to (λ name limit marks. Survives (renamed name limit) marks old new status) survives in
      λ bytes size out story whole told safe. let (last, is, stays, result) = marked bytes size out story (whole_back bytes size out whole) told safe in (
        last,
        is,
        stays,
        λ done. let it = result done in record {
          end = it.end;
          new_size = it.new_size;
          is = it.is;
          ended = it.ended;
          sized = it.sized;
          file = it.file;
          log = it.log;
          copy = it.copy;
          output = it.output;
          rests = it.rests;
        },
      )

  all_on : (bytes : List ℕ) (old new : Outside) (before after : Judging) (has_failed : Bool) → HasAllOn (levels_on b.enabled) asked_then bytes old new before after has_failed
      → HasAllOn (levels_on a.enabled) (renamed (name_of b.source) b.limit) bytes old new before after has_failed
  all_on bytes old new before after has_failed it = record {
    lawful = lawful_back bytes it.lawful;
    all_told = λ file. elim (it.all_told file) [
      | inl quiet ↦ inl (uses ∙ quiet)
      | inr answer ↦ inr (answer.0, tells_back bytes file answer.0 answer.1)
    ];
    yes = tells_back bytes bytes true it.yes;
    no_file_fault = it.no_file_fault;
    no_disk_fault = it.no_disk_fault;
    no_output_fault = it.no_output_fault;
    no_judge_fault = it.no_judge_fault;
    enough = subst (λ (on : List Bool). Within b.limit (enough_for (levels_on on) (length bytes))) (sym same.enabled) it.enough;
  }

  pub completes_first : (old new : Outside) (before after : Judging) (has_failed : Bool) (status : ℕ) → CompletesFirst (levels_on a.enabled) asked_first old new before after has_failed status → CompletesFirst (levels_on b.enabled) asked_then old new before after has_failed status
  completes_first old new before after has_failed status completes =
      let named = moved_to (λ name limit marks. CompletesFirst (levels_on a.enabled) (renamed name limit) old new before after has_failed status) completes in
      λ bytes unbegun all. named bytes unbegun (all_on bytes old new before after has_failed all)

  pub completes_on : (old new : Outside) (before after : Judging) (has_failed : Bool) (status : ℕ) → CompletesOn (levels_on a.enabled) asked_first (marks_of a) old new before after has_failed status
      → CompletesOn (levels_on b.enabled) asked_then (marks_of b) old new before after has_failed status
  completes_on old new before after has_failed status completes =
      let marked = moved_to (λ name limit marks. CompletesOn (levels_on a.enabled) (renamed name limit) marks old new before after has_failed status) completes in
      λ bytes size out first whole told safe all. marked bytes size out first (whole_back bytes size out whole) told safe (all_on bytes old new before after has_failed all)
