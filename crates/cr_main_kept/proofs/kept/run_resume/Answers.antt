use Rattle.std.proofs.Common.{◌∙◌, List, Option, Some, None, Ok, Err, inr, ap, refl, subst, sym}
use Rattle.cr_journal_records.specs.Records.{AtRest}
use Rattle.cr_journal_rows.specs.Forms.{AllFit, RecoversTold, bodies_of, header_body}
use Rattle.cr_journal_rows.specs.declared.fault.JournalFault.{JournalFault}
use Rattle.cr_outside.specs.Story.{Story}
use Rattle.cr_outside_disk.specs.Moments.{EveryTold}
use Rattle.cr_pool.specs.Tally.{first_says}
use Rattle.cr_reduce.specs.Bench.{judging, judging_of, says_of}
use Rattle.std.specs.Prelude.{IfSome}
use Rattle.cr_main_kept.specs.Kept.{AnyRecords, Journals, RunsFirst, RunsFurther}
use Rattle.cr_main_kept.specs.Kept.RunsResume.{anew, further, unrecovered}
use Rattle.cr_main_kept.specs.Lines.{IsDiskFault}
use Rattle.cr_main_kept.proofs.Stories.{disk_cause, journals_same, never_differs, recovers_none}
use Rattle.cr_main_task.specs.Outside.{outside}
use Rattle.cr_main_kept.specs.KeptTask.{kept_task}
use Rattle.cr_main_kept.proofs.kept.run_resume.Goals as goal

pub returns-in-Err-clause-runs : goal.returns-in-Err-clause-runs
returns-in-Err-clause-runs g c =
    let cause = (subst (λ (why : JournalFault). IsDiskFault why (g.W.Disk.has_failed c.start.new.disk)) (sym c.from_disk.ensures) (disk_cause c.in-Err.fault (g.W.Disk.has_failed c.start.new.disk) (λ is. c.in-Err.ensures.failed (ap Err is)))) in
    unrecovered c.from_disk.result (subst (λ (why : JournalFault). RecoversTold (g.W.Outside.story c.args.world.now) (Err why)) (sym c.from_disk.ensures) (recovers_none (g.W.Outside.story c.args.world.now) c.in-Err.fault))
    (λ i is. never_differs c.in-Err.fault i (sym c.from_disk.ensures ∙ is))
    (λ is. subst (λ (why : JournalFault). IsDiskFault why (g.W.Disk.has_failed c.start.new.disk)) is cause)
    (subst (Journals AnyRecords (g.W.Outside.story c.args.world.now)) (sym c.start.ensures.same) (journals_same AnyRecords (g.W.Outside.story c.args.world.now)))
    (ap (λ (js : List g.row.J.Denot). judging_of g.J.Judge js) c.forget.ensures.judges) c.put_stop.ensures

pub run_further-requires-clause-rests : goal.run_further-requires-clause-rests
run_further-requires-clause-rests g c κs within = (header_body c.in-Ok-Some.header, (subst (λ found. IfSome found (λ journal. EveryTold (AtRest (bodies_of journal.0 journal.1.items)) (g.W.Outside.story c.recover.new.disk))) c.in-Ok-Some.field-0-is c.in-Ok-Some.ensures.rests))

pub returns-in-Ok-None-clause-runs : goal.returns-in-Ok-None-clause-runs
returns-in-Ok-None-clause-runs g c =
    let started = outside g.W.Outside g.W.Files c.recover.new.disk g.O.Sink c.args.out.now in
    anew started (subst (λ (told : Option Story). RecoversTold told (Ok None)) c.start.ensures.same (subst (λ found. RecoversTold (g.W.Outside.story c.start.new.disk) (Ok found)) c.in-Ok-None.field-0-is c.in-Ok-None.ensures.recovered))
    (record { journal = subst (λ (told : Option Story). Journals AnyRecords told (g.W.Outside.story c.recover.new.disk)) c.start.ensures.same (record { lasts = c.recover.ensures.lasts; kept = λ all are was. c.recover.ensures.any_moment all was }); output = refl; output_faults = refl }) (c.in-Ok-None.ensures.none (ap Ok c.in-Ok-None.field-0-is))
    (subst (λ (js : List g.row.J.Denot). RunsFirst (kept_task g.P.Passes g.L.Law g.A.Asking c.args.task.now (first_says g.J.Judge.key g.J.Judge.says js)) c.args.marks started
    (outside g.W.Outside g.W.Files c.run_first.new.world g.O.Sink c.run_first.new.out) (judging_of g.J.Judge js) (judging g.J.Judge c.run_first.new.bench) (g.W.Disk.has_failed c.run_first.new.world) c.run_first.result)
    c.forget.ensures.judges c.run_first.ensures.runs)

pub returns-in-Ok-Some-clause-runs : goal.returns-in-Ok-Some-clause-runs
returns-in-Ok-Some-clause-runs g c =
    let started = outside g.W.Outside g.W.Files c.recover.new.disk g.O.Sink c.args.out.now in
    further started c.in-Ok-Some.header c.in-Ok-Some.rows (subst (λ (told : Option Story). RecoversTold told (Ok (Some (c.in-Ok-Some.header, c.in-Ok-Some.rows)))) c.start.ensures.same (subst (λ found. RecoversTold (g.W.Outside.story c.start.new.disk) (Ok found)) c.in-Ok-Some.field-0-is c.in-Ok-Some.ensures.recovered))
    (record { journal = subst (λ (told : Option Story). Journals AnyRecords told (g.W.Outside.story c.recover.new.disk)) c.start.ensures.same (record { lasts = c.recover.ensures.lasts; kept = λ all are was. c.recover.ensures.any_moment all was }); output = refl; output_faults = refl }) (subst (λ found. IfSome found (λ journal. EveryTold (AtRest (bodies_of journal.0 journal.1.items)) (g.W.Outside.story c.recover.new.disk))) c.in-Ok-Some.field-0-is c.in-Ok-Some.ensures.rests)
    (subst (λ found. IfSome found (λ journal. AllFit journal.0 journal.1.items)) c.in-Ok-Some.field-0-is c.in-Ok-Some.ensures.fits)
    (subst (λ (js : List g.row.J.Denot). RunsFurther (kept_task g.P.Passes g.L.Law g.A.Asking c.args.task.now (first_says g.J.Judge.key g.J.Judge.says js)) c.args.marks c.in-Ok-Some.header c.in-Ok-Some.rows.items started
    (outside g.W.Outside g.W.Files c.run_further.new.world g.O.Sink c.run_further.new.out) (judging_of g.J.Judge js) (judging g.J.Judge c.run_further.new.bench) (g.W.Disk.has_failed c.run_further.new.world) c.run_further.result)
    c.forget.ensures.judges c.run_further.ensures.runs)

pub returns-in-Err-recover-clause-runs : goal.returns-in-Err-recover-clause-runs
returns-in-Err-recover-clause-runs g c =
    unrecovered c.in-Err-recover.fault (subst (λ (told : Option Story). RecoversTold told (Err c.in-Err-recover.fault)) c.start.ensures.same c.in-Err-recover.ensures.recovered)
    (λ i is. c.in-Err-recover.ensures.never i (ap Err is))
    (λ is. (c.in-Err-recover.ensures.failed (ap Err is)).1) (subst (λ (told : Option Story). Journals AnyRecords told (g.W.Outside.story c.recover.new.disk)) c.start.ensures.same (record { lasts = c.recover.ensures.lasts; kept = λ all are was. c.recover.ensures.any_moment all was })) (ap (λ (js : List g.row.J.Denot). judging_of g.J.Judge js) c.forget.ensures.judges) c.put_stop-in-Err-recover.ensures

pub returns-in-Err-clause-survives : goal.returns-in-Err-clause-survives
returns-in-Err-clause-survives g c =
    c.a_kept_run_survives_its_stops.ensures (says_of g.J.Judge c.args.bench.now) c.args.task.now.own.now c.args.task.now.window c.args.task.now.limit c.args.task.now.name.now c.args.task.now.saves c.args.marks (outside g.W.Outside g.W.Files c.args.world.now g.O.Sink c.args.out.now) (outside g.W.Outside g.W.Files c.start.new.disk g.O.Sink c.put_stop.new.out)
    (judging g.J.Judge c.args.bench.now) (judging g.J.Judge c.forget.new.self) (g.W.Disk.has_failed c.start.new.disk) c.put_stop.result c.requires.saves c.requires.law (inr (returns-in-Err-clause-runs g c))

pub returns-in-Ok-None-clause-survives : goal.returns-in-Ok-None-clause-survives
returns-in-Ok-None-clause-survives g c =
    c.a_kept_run_survives_its_stops.ensures (says_of g.J.Judge c.args.bench.now) c.args.task.now.own.now c.args.task.now.window c.args.task.now.limit c.args.task.now.name.now c.args.task.now.saves c.args.marks (outside g.W.Outside g.W.Files c.args.world.now g.O.Sink c.args.out.now) (outside g.W.Outside g.W.Files c.run_first.new.world g.O.Sink c.run_first.new.out)
    (judging g.J.Judge c.args.bench.now) (judging g.J.Judge c.run_first.new.bench) (g.W.Disk.has_failed c.run_first.new.world) c.run_first.result c.requires.saves c.requires.law (inr (returns-in-Ok-None-clause-runs g c))

pub returns-in-Ok-Some-clause-survives : goal.returns-in-Ok-Some-clause-survives
returns-in-Ok-Some-clause-survives g c =
    c.a_kept_run_survives_its_stops.ensures (says_of g.J.Judge c.args.bench.now) c.args.task.now.own.now c.args.task.now.window c.args.task.now.limit c.args.task.now.name.now c.args.task.now.saves c.args.marks (outside g.W.Outside g.W.Files c.args.world.now g.O.Sink c.args.out.now) (outside g.W.Outside g.W.Files c.run_further.new.world g.O.Sink c.run_further.new.out)
    (judging g.J.Judge c.args.bench.now) (judging g.J.Judge c.run_further.new.bench) (g.W.Disk.has_failed c.run_further.new.world) c.run_further.result c.requires.saves c.requires.law (inr (returns-in-Ok-Some-clause-runs g c))

pub returns-in-Err-recover-clause-survives : goal.returns-in-Err-recover-clause-survives
returns-in-Err-recover-clause-survives g c =
    c.a_kept_run_survives_its_stops.ensures (says_of g.J.Judge c.args.bench.now) c.args.task.now.own.now c.args.task.now.window c.args.task.now.limit c.args.task.now.name.now c.args.task.now.saves c.args.marks (outside g.W.Outside g.W.Files c.args.world.now g.O.Sink c.args.out.now) (outside g.W.Outside g.W.Files c.recover.new.disk g.O.Sink c.put_stop-in-Err-recover.new.out)
    (judging g.J.Judge c.args.bench.now) (judging g.J.Judge c.forget.new.self) (g.W.Disk.has_failed c.recover.new.disk) c.put_stop-in-Err-recover.result c.requires.saves c.requires.law (inr (returns-in-Err-recover-clause-runs g c))
