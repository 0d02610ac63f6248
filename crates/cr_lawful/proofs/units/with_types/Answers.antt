use Rattle.std.proofs.Common.{subst, sym}
use Rattle.cr_lawful.specs.Lawful.{Refuses, type_reason, ruling_by}
use Rattle.cr_lawful.proofs.Rulings.{type_refuses}
use Rattle.cr_lawful.proofs.units.with_types.Goals as goal

pub type_ruling-requires : goal.type_ruling-requires
type_ruling-requires g c = c.requires.tokens.short

pub returns-in-Err-clause-refused : goal.returns-in-Err-clause-refused
returns-in-Err-clause-refused g c =
    let file = c.args.file.now in
    let raised = g.S.Stop.raised c.args.stop.now in
    let refuses = type_refuses file raised c.args.unit c.args.names c.in-Err.fault c.requires.tokens c.requires.parsed c.requires.known c.in-Err.ensures.fault in
    subst (Refuses file raised) (sym c.type_ruling.ensures)
    (subst (λ tokens. Refuses file raised (ruling_by (type_reason file tokens c.in-Err.fault))) (sym c.as_slice.ensures.value) refuses)
