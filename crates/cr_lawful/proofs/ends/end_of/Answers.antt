use Rattle.std.proofs.Common.{false, sym}
use Rattle.std.proofs.lemmas.Bool.{true≢false}
use Rattle.cr_lawful.proofs.Endings.{ended_if, refused_if, refused_only, refused_unstopped}
use Rattle.cr_lawful.proofs.ends.end_of.Goals as goal

pub outcome-run-requires-clause-typed : goal.outcome-run-requires-clause-typed
outcome-run-requires-clause-typed c = c.in-Ok.ensures.program.of_file.checked.by.fits

pub end_in-requires : goal.end_in-requires
end_in-requires c = λ is. true≢false (sym (c.outcome-run.ensures.stopped is))

pub no_end_in-requires-clause-refused : goal.no_end_in-requires-clause-refused
no_end_in-requires-clause-refused c = refused_only c.args.file.now false c.in-Err.ruling c.in-Err.ensures.refused

pub no_end_in-requires-clause-unstopped : goal.no_end_in-requires-clause-unstopped
no_end_in-requires-clause-unstopped c = refused_unstopped c.args.file.now c.in-Err.ruling c.in-Err.ensures.refused

pub returns-in-Ok : goal.returns-in-Ok
returns-in-Ok c =
    ended_if c.args.limits c.args.file.now c.in-Ok.program.typed c.outcome-run.result c.end_in.result c.in-Ok.ensures.program.of_file c.outcome-run.ensures.comes c.end_in.ensures

pub returns-in-Err : goal.returns-in-Err
returns-in-Err c = refused_if c.args.limits c.args.file.now false c.in-Err.ruling c.no_end_in.result c.in-Err.ensures.refused c.no_end_in.ensures
