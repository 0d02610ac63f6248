-- What is promised of all that words may ask for, from what it comes to.
use Rattle.std.proofs.Common.{◌≡◌, ◌⊎◌, ◌<◌, inl, inr, ℕ, Bool, false, List, codes, refl, sym, ap, subst, ◌∙◌, arith}
use Rattle.cr_formula.specs.Forms.{Form, Spells}
use Rattle.cr_outside.specs.Question.{Says as Telling}
use Rattle.cr_outside.specs.Story.{EndsWithFault}
use Rattle.cr_reduce.specs.Bench.{Judging}
use Rattle.cr_main_kept.specs.Surviving.{Survives}
use Rattle.cr_main_replay.proofs.Promises.{replay_faults, replay_files, replay_keeps_journal}
use Rattle.cr_main_replay.proofs.Statuses.{replayed}
use Rattle.cr_main_task.specs.Outside.{Outside}
use Rattle.cr_main_task.specs.Run.{RunsTask, by_epochs}
use Rattle.cr_main_task.specs.Story.{KeepsJournal, journal_told}
use Rattle.cr_main_task.proofs.Reading.{runs_alike}
use Rattle.cr_main_task.proofs.Statuses.{put_status}
use Rattle.cr_main_words.specs.Flags.{GivesModes, plain_modes, rest_of}
use Rattle.cr_main_words.specs.Giving.{HasSettings}
use Rattle.cr_main_words.specs.Laws.{Agree, SameSettings}
use Rattle.cr_main_words.specs.Names.{IsOwnName, name_of}
use Rattle.cr_main_words.specs.RequestLaws.{HasNoFlag}
use Rattle.cr_main_words.specs.Requests.{Asks, HasReduction}
use Rattle.cr_main_words.specs.Words.{Word}
use Rattle.cr_main_words.specs.declared.modes.Engine.{Engine}
use Rattle.cr_main_words.specs.declared.modes.Engine.TheVariants as engine
use Rattle.cr_main_words.specs.declared.modes.Modes.{Modes}
use Rattle.cr_main_words.specs.declared.request.Request.{Request}
use Rattle.cr_main_words.specs.declared.request.Request.TheVariants as request
use Rattle.cr_main_words.specs.declared.settings.Settings.{Settings}
use Rattle.cr_main_words.proofs.Asking.{one_modes, one_request, plain_reduction}
use Rattle.cr_main_words.proofs.Giving.{one_settings}
use Rattle.cr_outside.specs.declared.test.Test.{Test}
use Rattle.cr_main.specs.Headline.{Promises}
use Rattle.cr_main.specs.More.{AsksForJournal, AsksMore, CompletesIn, CompletesMore, Does, EndsMore, IsFormula, IsKept, IsPlain, IsQuiet, IsReducing, IsSilent, KeepsMore, MayRun, Means, RunsIn, RunsMore, SurvivesMore, replaying_by, word_of}
use Rattle.cr_main.specs.More.AsksMore.{more_asks, more_asks_nothing}
use Rattle.cr_main.specs.More.EndsMore.{of_nothing, of_reduction, of_replay}
use Rattle.cr_main.specs.More.KeepsMore.{more_kept, more_unchanged}
use Rattle.cr_main.specs.More.RunsAsked.{reduces, spells_none, unread_word}
use Rattle.cr_main.specs.More.RunsMore.{asks_nothing, reduction, replay, unread_words}
use Rattle.cr_main.specs.Run.{Runs}
use Rattle.cr_main.specs.Run.Runs.{no_settings, on_task, unsorted}
use Rattle.cr_main.specs.Task.{Query, asked_of, marks_of, task_of, text_of}
use Rattle.cr_main.specs.Task.Query.{by_form, by_test}
use Rattle.cr_main.proofs.Alike.{all_bound, completes_first, completes_on, survives_alike}
use Rattle.cr_main.proofs.ByEngine.{asks_in, completes_in, ends_in, fails_in, faults_in, journal_in, keeps_in, survives_in, unmoved}
use Rattle.cr_main.proofs.Paths.{same_formula, same_spelling}
use Rattle.cr_main.proofs.Promises.{promises}
use Rattle.cr_main.proofs.Runnable.{is_runnable}

plain_flags : (words : List Word) → HasNoFlag words → GivesModes words plain_modes
plain_flags words none = record {
  journal = none.0 (codes "--journal") (inl refl);
  resume = none.0 (codes "--resume") (inr (inl refl));
  standing = none.0 (codes "--standing") (inr (inr (inl refl)));
  any_order = none.0 (codes "--any-order") (inr (inr (inr (inl refl))));
  reached = none.1;
}

-- words that ask for a plain reduction give its settings as they stand
plain_settings : (words : List Word) (most : ℕ) (settings : Settings) (modes : Modes) → HasReduction words most settings modes → modes ≡ plain_modes → HasSettings words most settings
plain_settings words most settings modes asks is = ((plain_reduction words most settings).0 (subst (HasReduction words most settings) is asks)).1

plain_modes_asked : (words : List Word) (most : ℕ) (settings : Settings) (modes : Modes) → HasReduction words most settings modes → IsPlain words most → modes ≡ plain_modes
plain_modes_asked words most settings modes asks it = one_modes words modes plain_modes asks.flags (plain_flags words it.no_flag)

no_formula_asked : (words : List Word) (most : ℕ) (settings : Settings) (modes : Modes) → HasReduction words most settings modes → IsPlain words most → IsFormula settings.test → ⊥
no_formula_asked words most settings modes asks it = it.no_formula settings (plain_settings words most settings modes asks (plain_modes_asked words most settings modes asks it))

-- a test that spells no formula means nothing, however the words are read
means_none : (a b : Test) (query : Query) → Agree a b → Agree b a → Means a query → IsFormula b → ((form : Form) → Spells (word_of b) form → ⊥) → ⊥
means_none a b by_test same back means formula none = means (same_formula b a back formula)
means_none a b (by_form form) same back means formula none = none form (same_spelling a b form same means.1)

-- a plain reduction by a test that is no formula is the run of its task
plain_run : (settings : Settings) (query : Query) (says : Telling) (own : List ℕ) (old new : Outside) (before after : Judging) (has_failed : Bool) (status : ℕ) → Means settings.test query → (IsFormula settings.test → ⊥)
    → RunsIn engine.Plain (asked_of settings plain_modes query says own) (marks_of settings) settings.source old new before after has_failed status
    → RunsTask (task_of settings says own) (text_of settings.source old.files) old new before after status
plain_run settings by_test says own old new before after has_failed status means none run =
    runs_alike (task_of settings says own) (by_epochs (task_of settings says own)) (text_of settings.source old.files) old new before after status run
plain_run settings (by_form form) says own old new before after has_failed status means none run = absurd (none means.0)

module _ (words : List Word) (most : ℕ) (says : Telling) (old new : Outside) (before after : Judging) (has_failed : Bool) (status : ℕ) where
  as_run : RunsMore words most says old new before after has_failed status → IsPlain words most → Runs words most says old new before after status
  as_run (asks_nothing none idle said) it =
      no_settings (λ settings has. none (request.Reduction settings plain_modes) ((plain_reduction words most settings).1 (it.no_flag, has))) idle said
  as_run (unread_words same quiet is) it = unsorted same quiet is
  as_run (reduction settings modes asks (spells_none formula none idle said)) it = absurd (no_formula_asked words most settings modes asks it formula)
  as_run (reduction settings modes asks (unread_word same quiet is)) it = unsorted same quiet is
  as_run (reduction settings modes asks (reduces query own means is_own silent run)) it =
      let plain = plain_modes_asked words most settings modes asks it in
      on_task settings own (plain_settings words most settings modes asks plain) is_own
      (plain_run settings query says own old new before after has_failed status means (no_formula_asked words most settings modes asks it)
      (subst (λ (m : Modes). RunsIn m.engine (asked_of settings m query says own) (marks_of settings) settings.source old new before after has_failed status) plain run))
  as_run (replay asked asks quiet run) it = absurd (it.no_replay asks.0 asks.1)

  -- on words without flag, `--replay` and formula it is `run`
  pub plain_promises : RunsMore words most says old new before after has_failed status → IsPlain words most → Promises words most says old new before after status
  plain_promises runs it = promises words most says old new before after status (as_run runs it)

  reducing : (settings : Settings) (modes : Modes) (query : Query) (own : List ℕ) → HasReduction words most settings modes → Means settings.test query → IsOwnName (name_of settings.source) own
      → IsReducing words most settings modes query own
  reducing settings modes query own asks means is_own = record { asks = asks; means = means; is_own = is_own }

  pub ends_more : RunsMore words most says old new before after has_failed status → EndsMore words most says old new before after has_failed status
  ends_more (asks_nothing none idle said) = of_nothing (put_status old new _ 2 status said)
  ends_more (unread_words same quiet is) = of_nothing (inr is)
  ends_more (reduction settings modes asks (spells_none formula none idle said)) = of_nothing (put_status old new _ 2 status said)
  ends_more (reduction settings modes asks (unread_word same quiet is)) = of_nothing (inr is)
  ends_more (reduction settings modes asks (reduces query own means is_own silent run)) =
      let k = asked_of settings modes query says own in
      of_reduction settings modes query own (reducing settings modes query own asks means is_own)
      (ends_in settings modes query says own old new before after has_failed status modes.engine asks.suits run)
      (fails_in k (marks_of settings) settings.source old new before after has_failed status modes.engine asks.suits refl run)
  ends_more (replay asked asks quiet run) = of_replay asked asks (replayed (replaying_by asked) old new status run)

  pub keeps_more : RunsMore words most says old new before after has_failed status → KeepsMore words most says old new after
  keeps_more (asks_nothing none idle said) = more_unchanged idle.files
  keeps_more (unread_words same quiet is) = more_unchanged (ap (λ (o : Outside). o.files) same)
  keeps_more (reduction settings modes asks (spells_none formula none idle said)) = more_unchanged idle.files
  keeps_more (reduction settings modes asks (unread_word same quiet is)) = more_unchanged (ap (λ (o : Outside). o.files) same)
  keeps_more (reduction settings modes asks (reduces query own means is_own silent run)) =
      more_kept settings modes query own (reducing settings modes query own asks means is_own)
      (keeps_in (asked_of settings modes query says own) (marks_of settings) settings.source old new before after has_failed status modes.engine asks.suits refl run)
  keeps_more (replay asked asks quiet run) = more_unchanged (replay_files (replaying_by asked) old new status run)

  not_nine : (status ≡ 2) ⊎ (status ≡ 11) → status ≡ 9 → ⊥
  not_nine (inl is) nine = absurd (omega (arith, is, nine))
  not_nine (inr is) nine = absurd (omega (arith, is, nine))

  pub fault_more : RunsMore words most says old new before after has_failed status → status ≡ 9 → EndsWithFault old.story new.story
  fault_more (asks_nothing none idle said) nine = absurd (not_nine (put_status old new _ 2 status said) nine)
  fault_more (unread_words same quiet is) nine = absurd (not_nine (inr is) nine)
  fault_more (reduction settings modes asks (spells_none formula none idle said)) nine = absurd (not_nine (put_status old new _ 2 status said) nine)
  fault_more (reduction settings modes asks (unread_word same quiet is)) nine = absurd (not_nine (inr is) nine)
  fault_more (reduction settings modes asks (reduces query own means is_own silent run)) nine =
      faults_in (asked_of settings modes query says own) (marks_of settings) settings.source old new before after has_failed status modes.engine asks.suits refl run nine
  fault_more (replay asked asks quiet run) nine = replay_faults (replaying_by asked) old new status run nine

  pub journal_more : RunsMore words most says old new before after has_failed status → (AsksForJournal words most → ⊥) → KeepsJournal old.story new.story
  journal_more (asks_nothing none idle said) unasked = ap journal_told idle.story
  journal_more (unread_words same quiet is) unasked = ap (λ (o : Outside). journal_told o.story) same
  journal_more (reduction settings modes asks (spells_none formula none idle said)) unasked = ap journal_told idle.story
  journal_more (reduction settings modes asks (unread_word same quiet is)) unasked = ap (λ (o : Outside). journal_told o.story) same
  journal_more (reduction settings modes asks (reduces query own means is_own silent run)) unasked =
      journal_in (asked_of settings modes query says own) (marks_of settings) settings.source old new before after has_failed status modes.engine
      (λ kept. unasked (settings, modes, query, own, reducing settings modes query own asks means is_own, kept)) run
  journal_more (replay asked asks quiet run) unasked = replay_keeps_journal (replaying_by asked) old new status run

  pub asks_more : RunsMore words most says old new before after has_failed status → AsksMore words most says old before after
  asks_more (asks_nothing none idle said) = more_asks_nothing idle.judges
  asks_more (unread_words same quiet is) = more_asks_nothing quiet
  asks_more (reduction settings modes asks (spells_none formula none idle said)) = more_asks_nothing idle.judges
  asks_more (reduction settings modes asks (unread_word same quiet is)) = more_asks_nothing quiet
  asks_more (reduction settings modes asks (reduces query own means is_own silent run)) =
      more_asks settings modes query own (reducing settings modes query own asks means is_own)
      (asks_in (asked_of settings modes query says own) (marks_of settings) settings.source old new before after has_failed status modes.engine asks.suits refl run) silent
  asks_more (replay asked asks quiet run) = more_asks_nothing quiet

  -- the words have one reading
  alike : (a b : Settings) (modes others : Modes) → HasReduction words most a modes → HasReduction words most b others → SameSettings a b
  alike a b modes others first second = one_settings (rest_of words) most a b first.rest second.rest

  -- what one reading of the words survives, each does
  pub survives_more : RunsMore words most says old new before after has_failed status → SurvivesMore words most says old new status
  survives_more (asks_nothing none idle said) = λ a modes query own it kept. absurd (none (request.Reduction a modes) it.asks)
  survives_more (unread_words same quiet is) = λ a modes query own it kept. unmoved (asked_of a modes query says own) (marks_of a) old new status same is
  survives_more (reduction b others asks (spells_none formula none idle said)) = λ a modes query own it kept.
      absurd (means_none a.test b.test query (alike a b modes others it.asks asks).tests (alike b a others modes asks it.asks).tests it.means formula none)
  survives_more (reduction b others asks (unread_word same quiet is)) = λ a modes query own it kept. unmoved (asked_of a modes query says own) (marks_of a) old new status same is
  survives_more (reduction b others asks (reduces other its meant is_its silent run)) = λ a modes query own it kept.
      let one = one_modes words modes others it.asks.flags asks.flags in
      let here = survives_in (asked_of b others other says its) (marks_of b) b.source old new before after has_failed status others.engine (subst (λ (m : Modes). IsKept m.engine) one kept) run in
      subst (λ (m : Modes). Survives (asked_of a m query says own) (marks_of a) old new status) (sym one)
      (survives_alike b a (alike b a others modes asks it.asks) (alike a b modes others it.asks asks) other query meant it.means its own is_its it.is_own others says old new status here)
  survives_more (replay asked asks quiet run) = λ a modes query own it kept. absurd (one_request words most (request.Reduction a modes) (request.Replay asked) it.asks asks)

  -- and so it is with completeness
  completes_here : (a b : Settings) (e : Engine) (asked : Modes) (query other : Query) (own its : List ℕ) → SameSettings a b → SameSettings b a → Means a.test query → Means b.test other
      → IsOwnName (name_of a.source) own → IsOwnName (name_of b.source) its
      → CompletesIn e b (asked_of b asked other says its) old new before after has_failed status
      → CompletesIn e a (asked_of a asked query says own) old new before after has_failed status
  completes_here a b engine.Plain asked query other own its same back means meant is_own is_its completes = λ all.
      completes (all_bound a b same back query other means meant own its is_own is_its asked says old new before after all)
  completes_here a b engine.Standing asked query other own its same back means meant is_own is_its completes = λ all.
      completes (all_bound a b same back query other means meant own its is_own is_its asked says old new before after all)
  completes_here a b engine.Journal asked query other own its same back means meant is_own is_its completes =
      completes_first b a back same other query meant means its own is_its is_own asked says old new before after has_failed status completes
  completes_here a b engine.Resume asked query other own its same back means meant is_own is_its completes =
      completes_on b a back same other query meant means its own is_its is_own asked says old new before after has_failed status completes

  -- no memory was left
  starved : (a : Settings) (e : Engine) (asked : Modes) (query : Query) (own : List ℕ) → status ≡ 11 → CompletesIn e a (asked_of a asked query says own) old new before after has_failed status
  starved a engine.Plain asked query own is = λ all. inr is
  starved a engine.Standing asked query own is = λ all. inr is
  starved a engine.Journal asked query own is = λ bytes unbegun all. inr is
  starved a engine.Resume asked query own is = λ bytes size out first whole told safe all. inr is

  pub completes_more : RunsMore words most says old new before after has_failed status → CompletesMore words most says old new before after has_failed status
  completes_more (asks_nothing none idle said) = λ a modes query own it. absurd (none (request.Reduction a modes) it.asks)
  completes_more (unread_words same quiet is) = λ a modes query own it. starved a modes.engine modes query own is
  completes_more (reduction b others asks (spells_none formula none idle said)) = λ a modes query own it.
      absurd (means_none a.test b.test query (alike a b modes others it.asks asks).tests (alike b a others modes asks it.asks).tests it.means formula none)
  completes_more (reduction b others asks (unread_word same quiet is)) = λ a modes query own it. starved a modes.engine modes query own is
  completes_more (reduction b others asks (reduces other its meant is_its silent run)) = λ a modes query own it.
      let one = one_modes words modes others it.asks.flags asks.flags in
      subst (λ (m : Modes). CompletesIn m.engine a (asked_of a m query says own) old new before after has_failed status) (sym one)
      (completes_here a b others.engine others query other own its (alike a b modes others it.asks asks) (alike b a others modes asks it.asks) it.means meant it.is_own is_its
      (completes_in b others other says its old new before after has_failed status others.engine asks.suits run))
  completes_more (replay asked asks quiet run) = λ a modes query own it. absurd (one_request words most (request.Reduction a modes) (request.Replay asked) it.asks asks)

  pub more_of : (asked : Request) → Asks words most asked → Does asked says old new before after has_failed status → RunsMore words most says old new before after has_failed status
  more_of (request.Reduction settings modes) asks it = reduction settings modes asks it
  more_of (request.Replay settings) asks it = replay settings asks it.0 it.1

-- where no judge is needed, none is asked
pub quiet_more : (words : List Word) (most : ℕ) (asked : Request) → Asks words most asked → IsSilent words most → IsQuiet asked
quiet_more words most (request.Reduction settings modes) asks (given, others, has, inl formula) =
    inl (same_formula given.test settings.test (one_settings (rest_of words) most given settings has.rest asks.rest).tests formula)
quiet_more words most (request.Reduction settings modes) asks (given, others, has, inr quiet) =
    inr (sym (one_settings (rest_of words) most given settings has.rest asks.rest).tests.asks ∙ quiet)
quiet_more words most (request.Replay settings) asks needs = tt

-- what words ask for can be done
pub may_run : (words : List Word) (most : ℕ) (asked : Request) → 0 < most → Asks words most asked → MayRun most asked
may_run words most (request.Reduction settings modes) some asks = (is_runnable (rest_of words) most settings some asks.rest, asks.suits)
may_run words most (request.Replay settings) some asks = tt
