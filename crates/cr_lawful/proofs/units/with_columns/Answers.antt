use Rattle.cr_lawful.proofs.Programs.{made}
use Rattle.cr_lawful.proofs.units.with_columns.Goals as goal

pub structures_of-structures-requires : goal.structures_of-structures-requires
structures_of-structures-requires g c = c.requires.sound.is.whole.within.facts

pub typed-typed-requires-clause-spans : goal.typed-typed-requires-clause-spans
typed-typed-requires-clause-spans g c = c.tokens_are_spans.ensures c.args.file.now c.args.unit.tokens.list.items c.requires.tokens

pub returns-clause-program : goal.returns-clause-program
returns-clause-program g c =
    made c.args.file.now c.args.unit c.args.names c.args.checked c.requires.tokens c.requires.parsed c.requires.known c.requires.sound
    c.program_of.result c.typed-typed.result c.structures_of-structures.result c.typed-typed.ensures c.structures_of-structures.ensures c.program_of.ensures.program
