use Rattle.std.proofs.Common.{subst, sym}
use Rattle.cr_lawful.specs.Lawful.{Refuses, name_reason, ruling_by}
use Rattle.cr_lawful.proofs.Rulings.{name_refuses}
use Rattle.cr_lawful.proofs.units.ruled_on_names.Goals as goal

pub name_ruling-requires : goal.name_ruling-requires
name_ruling-requires c = c.requires.tokens.short

pub returns-in-Ok : goal.returns-in-Ok
returns-in-Ok c = λ raised.
    let file = c.args.file.now in
    let refuses = name_refuses file raised c.args.unit.now c.in-Ok.first c.requires.tokens c.requires.parsed c.in-Ok.ensures in
    subst (Refuses file raised) (sym c.name_ruling.ensures)
    (subst (λ tokens. Refuses file raised (ruling_by (name_reason file tokens c.in-Ok.first))) (sym c.as_slice.ensures.value) refuses)
