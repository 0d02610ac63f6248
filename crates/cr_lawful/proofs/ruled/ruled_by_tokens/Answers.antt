use Rattle.cr_lawful.proofs.Looks.{looks_from}
use Rattle.cr_lawful.proofs.ruled.ruled_by_tokens.Goals as goal

pub returns-in-Ok-clause-looks : goal.returns-in-Ok-clause-looks
returns-in-Ok-clause-looks g c =
    looks_from (g.L.RunLaw.limits c.args.law.now) c.args.file.now (g.S.Stop.looks c.args.stop.now) (g.S.Stop.looks c.program_of_tokens.new.stop)
    (g.S.Stop.looks c.ruled_on_program.new.stop) c.ruled_on_program.result c.program_of_tokens.ensures.looks c.ruled_on_program.ensures.looks
