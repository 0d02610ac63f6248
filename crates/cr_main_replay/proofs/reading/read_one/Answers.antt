use Rattle.std.proofs.Common.{refl}
use Rattle.cr_outside.proofs.Stories.{read_keeps}
use Rattle.cr_outside.specs.Story.{files_told}
use Rattle.cr_outside.specs.declared.files.ReadAnswer.TheVariants.{Absent, Failed}
use Rattle.cr_main_replay.specs.Replay.StopsAt.{not_there, unreadable}
use Rattle.cr_main_replay.proofs.Readings.{lacks_any}
use Rattle.cr_main_replay.proofs.reading.read_one.Goals as goal

pub returns-in-Absent-clause-stops : goal.returns-in-Absent-clause-stops
returns-in-Absent-clause-stops g c =
    not_there (lacks_any (files_told (g.F.Outside.story c.args.files.now)) c.args.name.now c.args.most c.in-Absent.ensures.told)
    (read_keeps (g.F.Outside.story c.args.files.now) (g.F.Outside.story c.read.new.self) c.args.name.now c.args.most Absent c.in-Absent.ensures.call)
    c.in-Absent.ensures.call c.refuse.ensures

pub returns-in-Failed-clause-stops : goal.returns-in-Failed-clause-stops
returns-in-Failed-clause-stops g c =
    unreadable (c.in-Failed.ensures.failed refl)
    (read_keeps (g.F.Outside.story c.args.files.now) (g.F.Outside.story c.read.new.self) c.args.name.now c.args.most Failed c.in-Failed.ensures.call)
    c.in-Failed.ensures.call c.refuse-in-Failed.ensures
