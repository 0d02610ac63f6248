use Rattle.std.proofs.Common.{◌≡◌, ◌<◌, ◌≤◌, drop, length, subst, sym, ◌∙◌}
use Rattle.cr_reduce.specs.Bench.{judging, says_of}
use Rattle.pass_list.specs.Offers.{Offers}
use Rattle.cr_main_kept.specs.Kept.{RunsJournal, RunsResume}
use Rattle.cr_main_kept.specs.KeptTask.{at, kept_with}
use Rattle.cr_main_kept.specs.Surviving.{Survives}
use Rattle.cr_main.specs.Standing.{by_standing}
use Rattle.cr_main_task.specs.Opening.{Ruled, RunsBound}
use Rattle.cr_main_task.specs.Outside.{outside}
use Rattle.cr_main_task.specs.Run.{by_epochs}
use Rattle.cr_main_words.specs.Names.{name_of}
use Rattle.cr_main_words.specs.Requests.{Suits}
use Rattle.cr_main.specs.More.{RunsIn}
use Rattle.cr_main.specs.Task.{asked_by, marks_of, text_of}
use Rattle.cr_main.proofs.ByEngine.{of_file_saves}
use Rattle.cr_main.proofs.Sources.{asked_task}
use Rattle.cr_main.proofs.given.run_by_engine.Goals as goal

pub run_by_epochs-requires-clause-law : goal.run_by_epochs-requires-clause-law
run_by_epochs-requires-clause-law g c = λ sends shares. c.requires.law

pub run_by_epochs-requires-clause-workers : goal.run_by_epochs-requires-clause-workers
run_by_epochs-requires-clause-workers g c = λ sends shares. subst (λ n. (0 < n) × (n ≤ length c.args.bench.now.judges)) (sym c.requires.task.workers) c.requires.runnable.workers

pub run_by_epochs-requires-clause-window : goal.run_by_epochs-requires-clause-window
run_by_epochs-requires-clause-window g c = λ sends shares. subst (λ n. (0 < n) × (n ≤ 4096)) (sym c.requires.task.window) c.requires.runnable.window

pub run_by_epochs-requires-clause-binds : goal.run_by_epochs-requires-clause-binds
run_by_epochs-requires-clause-binds g c = λ sends shares. c.requires.binds

pub run_by_epochs-requires-clause-makeable : goal.run_by_epochs-requires-clause-makeable
run_by_epochs-requires-clause-makeable g c = λ sends shares. c.requires.runnable.makeable

pub returns-in-Plain-clause-runs : goal.returns-in-Plain-clause-runs
returns-in-Plain-clause-runs g c =
    let settings = c.args.settings.now in
    let task = c.args.task.now in
    let says = says_of g.J.Judge c.args.bench.now in
    let law : Ruled = record { Lawful = g.L.Law.lawful task.law.now; Against = g.L.Law.reasons task.law.now } in
    let old = outside g.W.Outside g.W.Files c.args.world.now g.O.Sink c.args.out.now in
    let new = outside g.W.Outside g.W.Files c.run_by_epochs.new.files g.O.Sink c.run_by_epochs.new.out in
    let before = judging g.J.Judge c.args.bench.now in
    let after = judging g.J.Judge c.run_by_epochs.new.bench in
    let has_failed = g.W.Disk.has_failed c.run_by_epochs.new.files in
    subst (λ e. RunsIn e (asked_by law (g.A.Asking.asks task.asking.now) (λ bytes. g.A.Asking.tells (g.A.Asking.key task.asking.now bytes)) settings says task.own.now) (marks_of settings) settings.source
    old new before after has_failed c.run_by_epochs.result) (sym c.in-Plain.is)
    (subst (λ k. RunsBound law (at k) (λ bytes. by_epochs (at k bytes)) (name_of settings.source) (text_of settings.source old.files) old new before after c.run_by_epochs.result)
    (asked_task g.L.Law g.A.Asking settings task says c.requires.task) c.run_by_epochs.ensures.runs)

pub returns-in-Plain-clause-others : goal.returns-in-Plain-clause-others
returns-in-Plain-clause-others g c = subst (λ n. drop n c.run_by_epochs.new.bench.judges ≡ drop n c.args.bench.now.judges) c.requires.task.workers c.run_by_epochs.ensures.others

pub returns-in-Plain-clause-silent : goal.returns-in-Plain-clause-silent
returns-in-Plain-clause-silent g c = c.run_by_epochs.ensures.silent

pub returns-in-Plain-clause-keys : goal.returns-in-Plain-clause-keys
returns-in-Plain-clause-keys g c = c.run_by_epochs.ensures.keys

pub run_by_standing-requires-clause-law : goal.run_by_standing-requires-clause-law
run_by_standing-requires-clause-law g c = λ sends shares. c.requires.law

pub run_by_standing-requires-clause-workers : goal.run_by_standing-requires-clause-workers
run_by_standing-requires-clause-workers g c = λ sends shares. subst (λ n. (0 < n) × (n ≤ length c.args.bench.now.judges)) (sym c.requires.task.workers) c.requires.runnable.workers

pub run_by_standing-requires-clause-window : goal.run_by_standing-requires-clause-window
run_by_standing-requires-clause-window g c = λ sends shares. subst (λ n. (0 < n) × (n ≤ 4096)) (sym c.requires.task.window) c.requires.runnable.window

pub run_by_standing-requires-clause-binds : goal.run_by_standing-requires-clause-binds
run_by_standing-requires-clause-binds g c = λ sends shares. c.requires.binds

pub run_by_standing-requires-clause-makeable : goal.run_by_standing-requires-clause-makeable
run_by_standing-requires-clause-makeable g c = λ sends shares. c.requires.runnable.makeable

pub returns-in-Standing-clause-runs : goal.returns-in-Standing-clause-runs
returns-in-Standing-clause-runs g c =
    let settings = c.args.settings.now in
    let task = c.args.task.now in
    let says = says_of g.J.Judge c.args.bench.now in
    let law : Ruled = record { Lawful = g.L.Law.lawful task.law.now; Against = g.L.Law.reasons task.law.now } in
    let old = outside g.W.Outside g.W.Files c.args.world.now g.O.Sink c.args.out.now in
    let new = outside g.W.Outside g.W.Files c.run_by_standing.new.files g.O.Sink c.run_by_standing.new.out in
    let before = judging g.J.Judge c.args.bench.now in
    let after = judging g.J.Judge c.run_by_standing.new.bench in
    let has_failed = g.W.Disk.has_failed c.run_by_standing.new.files in
    subst (λ e. RunsIn e (asked_by law (g.A.Asking.asks task.asking.now) (λ bytes. g.A.Asking.tells (g.A.Asking.key task.asking.now bytes)) settings says task.own.now) (marks_of settings) settings.source
    old new before after has_failed c.run_by_standing.result) (sym c.in-Standing.is)
    (subst (λ k. RunsBound law (at k) (λ bytes. by_standing (at k bytes)) (name_of settings.source) (text_of settings.source old.files) old new before after c.run_by_standing.result)
    (asked_task g.L.Law g.A.Asking settings task says c.requires.task) c.run_by_standing.ensures.runs)

pub returns-in-Standing-clause-others : goal.returns-in-Standing-clause-others
returns-in-Standing-clause-others g c = subst (λ n. drop n c.run_by_standing.new.bench.judges ≡ drop n c.args.bench.now.judges) c.requires.task.workers c.run_by_standing.ensures.others

pub returns-in-Standing-clause-silent : goal.returns-in-Standing-clause-silent
returns-in-Standing-clause-silent g c = c.run_by_standing.ensures.silent

pub returns-in-Standing-clause-keys : goal.returns-in-Standing-clause-keys
returns-in-Standing-clause-keys g c = c.run_by_standing.ensures.keys

pub run_journal-requires-clause-law : goal.run_journal-requires-clause-law
run_journal-requires-clause-law g c = λ sends shares. c.requires.law

pub run_journal-requires-clause-workers : goal.run_journal-requires-clause-workers
run_journal-requires-clause-workers g c = λ sends shares. subst (λ n. (0 < n) × (n ≤ length c.args.bench.now.judges)) (sym c.requires.task.workers) c.requires.runnable.workers

pub run_journal-requires-clause-window : goal.run_journal-requires-clause-window
run_journal-requires-clause-window g c = λ sends shares. subst (λ n. (0 < n) × (n ≤ 4096)) (sym c.requires.task.window) c.requires.runnable.window

pub run_journal-requires-clause-binds : goal.run_journal-requires-clause-binds
run_journal-requires-clause-binds g c = λ sends shares. c.requires.binds

pub run_journal-requires-clause-saves : goal.run_journal-requires-clause-saves
run_journal-requires-clause-saves g c = λ sends shares. c.requires.task.saves ∙ of_file_saves c.args.settings.now.source (subst (λ e. Suits e c.args.settings.now.source) c.in-Journal.is c.requires.suits)

pub returns-in-Journal-clause-runs : goal.returns-in-Journal-clause-runs
returns-in-Journal-clause-runs g c =
    let settings = c.args.settings.now in
    let task = c.args.task.now in
    let says = says_of g.J.Judge c.args.bench.now in
    let law : Ruled = record { Lawful = g.L.Law.lawful task.law.now; Against = g.L.Law.reasons task.law.now } in
    let old = outside g.W.Outside g.W.Files c.args.world.now g.O.Sink c.args.out.now in
    let new = outside g.W.Outside g.W.Files c.run_journal.new.world g.O.Sink c.run_journal.new.out in
    let before = judging g.J.Judge c.args.bench.now in
    let after = judging g.J.Judge c.run_journal.new.bench in
    let has_failed = g.W.Disk.has_failed c.run_journal.new.world in
    subst (λ e. RunsIn e (asked_by law (g.A.Asking.asks task.asking.now) (λ bytes. g.A.Asking.tells (g.A.Asking.key task.asking.now bytes)) settings says task.own.now) (marks_of settings) settings.source
    old new before after has_failed c.run_journal.result) (sym c.in-Journal.is)
    (subst (λ k. RunsJournal k (marks_of settings) old new before after has_failed c.run_journal.result × Survives k (marks_of settings) old new c.run_journal.result)
    (asked_task g.L.Law g.A.Asking settings task says c.requires.task) (
      subst (λ m. RunsJournal (kept_with (Offers task.passes.now.enabled) law (g.A.Asking.asks task.asking.now) (λ bytes. g.A.Asking.tells (g.A.Asking.key task.asking.now bytes)) says task.own.now task.window task.limit task.name.now task.saves) m old new before after has_failed c.run_journal.result) c.marks.ensures c.run_journal.ensures.runs,
      subst (λ m. Survives (kept_with (Offers task.passes.now.enabled) law (g.A.Asking.asks task.asking.now) (λ bytes. g.A.Asking.tells (g.A.Asking.key task.asking.now bytes)) says task.own.now task.window task.limit task.name.now task.saves) m old new c.run_journal.result) c.marks.ensures c.run_journal.ensures.survives,
    ))

pub returns-in-Journal-clause-others : goal.returns-in-Journal-clause-others
returns-in-Journal-clause-others g c = subst (λ n. drop n c.run_journal.new.bench.judges ≡ drop n c.args.bench.now.judges) c.requires.task.workers c.run_journal.ensures.others

pub returns-in-Journal-clause-silent : goal.returns-in-Journal-clause-silent
returns-in-Journal-clause-silent g c = c.run_journal.ensures.silent

pub returns-in-Journal-clause-keys : goal.returns-in-Journal-clause-keys
returns-in-Journal-clause-keys g c = c.run_journal.ensures.keys

pub run_resume-requires-clause-law : goal.run_resume-requires-clause-law
run_resume-requires-clause-law g c = λ sends shares. c.requires.law

pub run_resume-requires-clause-workers : goal.run_resume-requires-clause-workers
run_resume-requires-clause-workers g c = λ sends shares. subst (λ n. (0 < n) × (n ≤ length c.args.bench.now.judges)) (sym c.requires.task.workers) c.requires.runnable.workers

pub run_resume-requires-clause-window : goal.run_resume-requires-clause-window
run_resume-requires-clause-window g c = λ sends shares. subst (λ n. (0 < n) × (n ≤ 4096)) (sym c.requires.task.window) c.requires.runnable.window

pub run_resume-requires-clause-binds : goal.run_resume-requires-clause-binds
run_resume-requires-clause-binds g c = λ sends shares. c.requires.binds

pub run_resume-requires-clause-saves : goal.run_resume-requires-clause-saves
run_resume-requires-clause-saves g c = λ sends shares. c.requires.task.saves ∙ of_file_saves c.args.settings.now.source (subst (λ e. Suits e c.args.settings.now.source) c.in-Resume.is c.requires.suits)

pub returns-in-Resume-clause-runs : goal.returns-in-Resume-clause-runs
returns-in-Resume-clause-runs g c =
    let settings = c.args.settings.now in
    let task = c.args.task.now in
    let says = says_of g.J.Judge c.args.bench.now in
    let law : Ruled = record { Lawful = g.L.Law.lawful task.law.now; Against = g.L.Law.reasons task.law.now } in
    let old = outside g.W.Outside g.W.Files c.args.world.now g.O.Sink c.args.out.now in
    let new = outside g.W.Outside g.W.Files c.run_resume.new.world g.O.Sink c.run_resume.new.out in
    let before = judging g.J.Judge c.args.bench.now in
    let after = judging g.J.Judge c.run_resume.new.bench in
    let has_failed = g.W.Disk.has_failed c.run_resume.new.world in
    subst (λ e. RunsIn e (asked_by law (g.A.Asking.asks task.asking.now) (λ bytes. g.A.Asking.tells (g.A.Asking.key task.asking.now bytes)) settings says task.own.now) (marks_of settings) settings.source
    old new before after has_failed c.run_resume.result) (sym c.in-Resume.is)
    (subst (λ k. RunsResume k (marks_of settings) old new before after has_failed c.run_resume.result × Survives k (marks_of settings) old new c.run_resume.result)
    (asked_task g.L.Law g.A.Asking settings task says c.requires.task) (
      subst (λ m. RunsResume (kept_with (Offers task.passes.now.enabled) law (g.A.Asking.asks task.asking.now) (λ bytes. g.A.Asking.tells (g.A.Asking.key task.asking.now bytes)) says task.own.now task.window task.limit task.name.now task.saves) m old new before after has_failed c.run_resume.result) c.marks-in-Resume.ensures c.run_resume.ensures.runs,
      subst (λ m. Survives (kept_with (Offers task.passes.now.enabled) law (g.A.Asking.asks task.asking.now) (λ bytes. g.A.Asking.tells (g.A.Asking.key task.asking.now bytes)) says task.own.now task.window task.limit task.name.now task.saves) m old new c.run_resume.result) c.marks-in-Resume.ensures c.run_resume.ensures.survives,
    ))

pub returns-in-Resume-clause-others : goal.returns-in-Resume-clause-others
returns-in-Resume-clause-others g c = subst (λ n. drop n c.run_resume.new.bench.judges ≡ drop n c.args.bench.now.judges) c.requires.task.workers c.run_resume.ensures.others

pub returns-in-Resume-clause-silent : goal.returns-in-Resume-clause-silent
returns-in-Resume-clause-silent g c = c.run_resume.ensures.silent

pub returns-in-Resume-clause-keys : goal.returns-in-Resume-clause-keys
returns-in-Resume-clause-keys g c = c.run_resume.ensures.keys
