use Rattle.cr_lawful.proofs.ruled.ruled_on_program.Goals as goal

pub ruled_on_run-ruling-requires-clause-unit : goal.ruled_on_run-ruling-requires-clause-unit
ruled_on_run-ruling-requires-clause-unit g c = c.requires.program.of_file
