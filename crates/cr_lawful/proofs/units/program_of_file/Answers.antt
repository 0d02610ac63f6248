use Rattle.cr_lawful.proofs.Rulings.{token_refuses}
use Rattle.cr_lawful.proofs.units.program_of_file.Goals as goal

pub returns-in-Err-clause-refused : goal.returns-in-Err-clause-refused
returns-in-Err-clause-refused g c = token_refuses c.args.file.now (g.S.Stop.raised c.args.stop.now) c.in-Err.fault c.token_ruling.result c.in-Err.ensures.fault c.token_ruling.ensures
