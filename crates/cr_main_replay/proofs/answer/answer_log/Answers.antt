use Rattle.std.proofs.Common.{Err, None, subst}
use Rattle.cr_log.specs.Readers.{Reads}
use Rattle.cr_main_task.specs.Outside.{Says as Put}
use Rattle.cr_main_replay.specs.Replay.{yes_line}
use Rattle.cr_replay.specs.Chains.{chain_of}
use Rattle.cr_replay.specs.Checks.{Says}
use Rattle.cr_main_replay.specs.Replay.Answers.{breaks, leads}
use Rattle.cr_main_replay.specs.Replay.FailsFirst.{leads_nowhere, out_of_form}
use Rattle.cr_main_replay.proofs.answer.answer_log.Goals as goal

pub returns-in-Err-Line : goal.returns-in-Err-Line
returns-in-Err-Line g c = breaks c.in-Err-Line.number c.requires.lawful (out_of_form (subst (λ f. Reads c.args.texts.now.log.items (Err f)) c.in-Err-Line.field-0-is (subst (Reads c.args.texts.now.log.items) c.in-Err-Line.is c.log_of.ensures))) c.put_breaks.ensures

pub returns-in-Yes : goal.returns-in-Yes
returns-in-Yes g c =
    let chain = chain_of g.P.Passes c.args.replay.now.passes.now g.L.Law c.args.replay.now.law.now None in
    leads c.in-Ok.log c.requires.lawful (subst (Reads c.args.texts.now.log.items) c.in-Ok.is c.log_of.ensures)
    (subst (Says chain c.args.texts.now.copy.items c.in-Ok.log c.args.texts.now.file.items) c.in-Yes.is c.verdict_on.ensures)
    (subst (λ n. Put (g.O.Sink.told c.args.out.now) (g.O.Sink.told c.put_yes.new.out) (g.O.Sink.faults c.args.out.now) (g.O.Sink.faults c.put_yes.new.out) (yes_line c.args.replay.now.file.now n) 0 10 c.put_yes.result)
    c.count_of.ensures c.put_yes.ensures)

pub returns-in-Breaks : goal.returns-in-Breaks
returns-in-Breaks g c =
    let chain = chain_of g.P.Passes c.args.replay.now.passes.now g.L.Law c.args.replay.now.law.now None in
    breaks c.in-Breaks.number c.requires.lawful
    (leads_nowhere c.in-Ok.log (subst (Reads c.args.texts.now.log.items) c.in-Ok.is c.log_of.ensures)
    (subst (Says chain c.args.texts.now.copy.items c.in-Ok.log c.args.texts.now.file.items) c.in-Breaks.is c.verdict_on.ensures)) c.put_breaks-in-Breaks.ensures
