-- What is promised of a reduction, from what it comes to, by its engine.
use Rattle.std.proofs.Common.{◌≡◌, inl, inr, ℕ, Bool, true, List, Some, refl, ap, ◌∙◌, arith, map}
use Rattle.cr_journal_rows.specs.Forms.{header_body, row_body}
use Rattle.cr_journal_stops.proofs.Safe.{no_phase}
use Rattle.cr_lawful.specs.Lawful.{limits_of}
use Rattle.cr_outside.specs.Question.{Says as Telling}
use Rattle.cr_outside.specs.Story.{EndsWithFault}
use Rattle.pass_list.specs.Offers.{levels_on}
use Rattle.pass_list.specs.OfferLaws.{few_variants, no_level, one_offer}
use Rattle.cr_pool.proofs.Runs.{is_so}
use Rattle.cr_reduce.specs.Bench.{Judging}
use Rattle.cr_main.proofs.FormulaHeadline.{formula_headline}
use Rattle.cr_main_kept.specs.Header.{header_of}
use Rattle.cr_main_kept.specs.KeptTask.{KeptTask, at}
use Rattle.cr_main_kept.specs.Promises.{PromisesOn}
use Rattle.cr_main_kept.specs.Surviving.{Survives}
use Rattle.cr_main_kept.specs.declared.header.Marks.{Marks}
use Rattle.cr_main_kept.proofs.CompletingOn.{journal_completes, resume_completes}
use Rattle.cr_main_kept.proofs.Promises.{kept_promises}
use Rattle.cr_main.specs.Standing.{by_standing}
use Rattle.cr_main.proofs.StandingPromises.{standing_cause, standing_goes_on, standing_told}
use Rattle.cr_main_task.specs.Bound.{HasReducedBound, PromisesBound}
use Rattle.cr_main_task.specs.Messages.{copy_name}
use Rattle.cr_main_task.specs.Opening.{read_of}
use Rattle.cr_main_task.specs.Outside.{Outside}
use Rattle.cr_main_task.specs.Run.{Claiming, by_epochs}
use Rattle.cr_main_task.specs.Story.{KeepsJournal}
use Rattle.cr_main_task.specs.Task.{Text}
use Rattle.cr_main_task.proofs.Bound.{bound_asks_only, bound_free, bound_never_fails, bound_promises}
use Rattle.cr_main_task.proofs.Headlines.{few_asked, not_done}
use Rattle.cr_main_words.specs.Requests.{IsOfFile, Suits}
use Rattle.cr_main_words.specs.declared.modes.Engine.{Engine}
use Rattle.cr_main_words.specs.declared.modes.Engine.TheVariants as engine
use Rattle.cr_main_words.specs.declared.modes.Modes.{Modes}
use Rattle.cr_main_words.specs.declared.settings.Settings.{Settings}
use Rattle.cr_main_words.specs.declared.source.Source.{Source}
use Rattle.cr_main_words.specs.declared.source.Source.TheVariants as source
use Rattle.cr_main.specs.More.{AsksIn, CompletesIn, EndsIn, HeadlineOf, IsKept, KeepsIn, RunsIn}
use Rattle.cr_main.specs.Task.{Query, asked_of, marks_of, saves_of, text_of}
use Rattle.cr_main.specs.Task.Query.{by_form, by_test}
use Rattle.cr_main.proofs.Alike.{one_answer_of}
use Rattle.cr_main.proofs.OrderedLaw.{law_is}
use Rattle.cr_main.proofs.Promises.{opens_fails, opens_keep, opens_on, passes_levels, told_of}

-- a file of a name is written
pub of_file_saves : (from : Source) → IsOfFile from → saves_of from ≡ true
of_file_saves (source.Named name) is = refl
of_file_saves (source.Made number items) is = absurd is

-- nothing was done
pub unmoved : (k : KeptTask) (marks : Marks) (old new : Outside) (status : ℕ) → new ≡ old → status ≡ 11 → Survives k marks old new status
unmoved k marks old new status same is = λ bytes size out first whole told safe. (
  first,
  ap (λ (o : Outside). o.story) same ∙ told,
  no_phase (copy_name k.name) k.name bytes (header_body (header_of marks k.limit size)) (map row_body out.accepted) (Some first) safe,
  λ done. absurd (not_done status 11 is (λ e. omega (arith, e)) (λ e. omega (arith, e)) done),
)

-- the headline of what is asked
headline_for : (settings : Settings) (modes : Modes) (query : Query) (says : Telling) (own : List ℕ) (By : List ℕ → Claiming) (text : Text) (old new : Outside) (before after : Judging) (status : ℕ)
    → HasReducedBound (at (asked_of settings modes query says own)) By text old new before after status
    → HeadlineOf query (limits_of settings.steps) (at (asked_of settings modes query says own)) By text old new before after status
headline_for settings modes by_test says own By text old new before after status it = it
headline_for settings modes (by_form form) says own By text old new before after status it =
    formula_headline form (limits_of settings.steps) (at (asked_of settings modes (by_form form) says own)) By text old new before after status
    (record { quiet = λ bytes. refl; holds = λ bytes file holds. holds }) it

module _ (k : KeptTask) (marks : Marks) (from : Source) (old new : Outside) (before after : Judging) (has_failed : Bool) (status : ℕ) where
  by_plain : RunsIn engine.Plain k marks from old new before after has_failed status → PromisesBound (at k) (λ bytes. by_epochs (at k bytes)) (text_of from old.files) old new before after status
  by_plain run = bound_promises k.law (at k) (λ bytes. by_epochs (at k bytes)) k.name (text_of from old.files) old new before after status (λ bytes. told_of (at k bytes)) (λ bytes a b same. same)
      (opens_on from old.files) (opens_fails from old.files) (opens_keep from old.files) run

  by_workers : RunsIn engine.Standing k marks from old new before after has_failed status → PromisesBound (at k) (λ bytes. by_standing (at k bytes)) (text_of from old.files) old new before after status
  by_workers run = bound_promises k.law (at k) (λ bytes. by_standing (at k bytes)) k.name (text_of from old.files) old new before after status (λ bytes. standing_told (at k bytes)) (λ bytes a b same. same)
      (opens_on from old.files) (opens_fails from old.files) (opens_keep from old.files) run

  by_journal : k.saves ≡ true → RunsIn engine.Journal k marks from old new before after has_failed status → PromisesOn k marks old new before after has_failed status
  by_journal saves run = kept_promises k marks old new before after has_failed status saves (inl run.0)

  by_resume : k.saves ≡ true → RunsIn engine.Resume k marks from old new before after has_failed status → PromisesOn k marks old new before after has_failed status
  by_resume saves run = kept_promises k marks old new before after has_failed status saves (inr run.0)

  pub survives_in : (e : Engine) → IsKept e → RunsIn e k marks from old new before after has_failed status → Survives k marks old new status
  survives_in engine.Plain kept run = absurd kept
  survives_in engine.Standing kept run = absurd kept
  survives_in engine.Journal kept run = run.1
  survives_in engine.Resume kept run = run.1

  pub faults_in : (e : Engine) → Suits e from → k.saves ≡ saves_of from → RunsIn e k marks from old new before after has_failed status → status ≡ 9 → EndsWithFault old.story new.story
  faults_in engine.Plain suits saves run nine = (by_plain run).fault_last nine
  faults_in engine.Standing suits saves run nine = (by_workers run).fault_last nine
  faults_in engine.Journal suits saves run nine = (by_journal (saves ∙ of_file_saves from suits) run).fault_last nine
  faults_in engine.Resume suits saves run nine = (by_resume (saves ∙ of_file_saves from suits) run).fault_last nine

  pub journal_in : (e : Engine) → (IsKept e → ⊥) → RunsIn e k marks from old new before after has_failed status → KeepsJournal old.story new.story
  journal_in engine.Plain unkept run = (by_plain run).journal_kept
  journal_in engine.Standing unkept run = (by_workers run).journal_kept
  journal_in engine.Journal unkept run = absurd (unkept tt)
  journal_in engine.Resume unkept run = absurd (unkept tt)

  pub keeps_in : (e : Engine) → Suits e from → k.saves ≡ saves_of from → RunsIn e k marks from old new before after has_failed status → KeepsIn e from k old new after
  keeps_in engine.Plain suits saves run = (by_plain run).files_kept
  keeps_in engine.Standing suits saves run = (by_workers run).files_kept
  keeps_in engine.Journal suits saves run = (by_journal (saves ∙ of_file_saves from suits) run).files_kept
  keeps_in engine.Resume suits saves run = (by_resume (saves ∙ of_file_saves from suits) run).files_kept

  pub asks_in : (e : Engine) → Suits e from → k.saves ≡ saves_of from → RunsIn e k marks from old new before after has_failed status → AsksIn e from k old before after
  asks_in engine.Plain suits saves run = bound_asks_only k.law (at k) k.name (text_of from old.files) old new before after status run
  asks_in engine.Standing suits saves run = standing_goes_on k.law (at k) k.name (text_of from old.files) old new before after status run
  asks_in engine.Journal suits saves run = (by_journal (saves ∙ of_file_saves from suits) run).asks_only
  asks_in engine.Resume suits saves run = (by_resume (saves ∙ of_file_saves from suits) run).asks_only

  -- 8 comes only where the question uses a judge
  pub fails_in : (e : Engine) → Suits e from → k.saves ≡ saves_of from → RunsIn e k marks from old new before after has_failed status → status ≡ 8 → k.asks ≡ true
  fails_in engine.Plain suits saves run eight = is_so k.asks (λ quiet.
      bound_never_fails k.law (at k) (λ bytes. by_epochs (at k bytes)) k.name (text_of from old.files) old new before after status (λ bytes since now read end claims. claims.cause) (λ bytes. quiet) run eight)
  fails_in engine.Standing suits saves run eight = is_so k.asks (λ quiet.
      bound_never_fails k.law (at k) (λ bytes. by_standing (at k bytes)) k.name (text_of from old.files) old new before after status (λ bytes. standing_cause (at k bytes)) (λ bytes. quiet) run eight)
  fails_in engine.Journal suits saves run eight = (by_journal (saves ∙ of_file_saves from suits) run).failing eight
  fails_in engine.Resume suits saves run eight = (by_resume (saves ∙ of_file_saves from suits) run).failing eight

module _ (settings : Settings) (modes : Modes) (query : Query) (says : Telling) (own : List ℕ) (old new : Outside) (before after : Judging) (has_failed : Bool) (status : ℕ) where
  abbrev k : KeptTask
  k = asked_of settings modes query says own

  abbrev text : Text
  text = text_of settings.source old.files

  pub ends_in : (e : Engine) → Suits e settings.source → RunsIn e k (marks_of settings) settings.source old new before after has_failed status → EndsIn e settings query k old new before after has_failed status
  ends_in engine.Plain suits run =
      let it = by_plain k (marks_of settings) settings.source old new before after has_failed status run in (
        record {
          headline = λ done. headline_for settings modes query says own (λ bytes. by_epochs (at k bytes)) text old new before after status (it.headline done);
          finished = it.finished;
        },
        λ reduced done. few_asked (at k reduced.bytes) (read_of text reduced.bytes) old new before after status done reduced.reduced,
      )
  ends_in engine.Standing suits run =
      let it = by_workers k (marks_of settings) settings.source old new before after has_failed status run in record {
        headline = λ done. headline_for settings modes query says own (λ bytes. by_standing (at k bytes)) text old new before after status (it.headline done);
        finished = it.finished;
      }
  ends_in engine.Journal suits run =
      let it = by_journal k (marks_of settings) settings.source old new before after has_failed status (of_file_saves settings.source suits) run in record { ends = it.ends; failed = it.failed; refused = it.refused }
  ends_in engine.Resume suits run =
      let it = by_resume k (marks_of settings) settings.source old new before after has_failed status (of_file_saves settings.source suits) run in record { ends = it.ends; failed = it.failed; refused = it.refused }

  pub completes_in : (e : Engine) → Suits e settings.source → RunsIn e k (marks_of settings) settings.source old new before after has_failed status → CompletesIn e settings k old new before after has_failed status
  completes_in engine.Plain suits run = λ all.
      bound_free k.law (at k) (λ bytes. by_epochs (at k bytes)) k.name text old new before after status (λ bytes since now read end claims. claims.cause) (λ bytes. told_of (at k bytes)) (λ bytes file is. is)
      (levels_on settings.enabled) (λ bytes. passes_levels settings.enabled) (λ bytes file. one_answer_of settings.test settings.steps query bytes says own file) all run
  completes_in engine.Standing suits run = λ all.
      bound_free k.law (at k) (λ bytes. by_standing (at k bytes)) k.name text old new before after status (λ bytes. standing_cause (at k bytes)) (λ bytes. standing_told (at k bytes)) (λ bytes file is. is)
      (levels_on settings.enabled) (λ bytes. passes_levels settings.enabled) (λ bytes file. one_answer_of settings.test settings.steps query bytes says own file) all run
  completes_in engine.Journal suits run =
      journal_completes k (marks_of settings) old new before after has_failed status (of_file_saves settings.source suits) (levels_on settings.enabled) (passes_levels settings.enabled)
      (λ bytes file. one_answer_of settings.test settings.steps query bytes says own file) run.0
  completes_in engine.Resume suits run =
      resume_completes k (marks_of settings) old new before after has_failed status (of_file_saves settings.source suits) (levels_on settings.enabled) (passes_levels settings.enabled)
      (λ bytes file. one_answer_of settings.test settings.steps query bytes says own file) (law_is modes (limits_of settings.steps)) (λ file o other. one_offer settings.enabled file o other)
      (record { none_above = λ file o pass level is above. no_level settings.enabled file o pass level is (omega (arith, above)); few = few_variants settings.enabled }) run.0
