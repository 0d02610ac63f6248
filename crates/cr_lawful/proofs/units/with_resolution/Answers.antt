use Rattle.std.proofs.Common.{subst}
use Rattle.cr_scopes.specs.Units.{IsUnitFirst}
use Rattle.cr_lawful.proofs.units.with_resolution.Goals as goal

pub ruled_on_names-requires-clause-fault : goal.ruled_on_names-requires-clause-fault
ruled_on_names-requires-clause-fault g c = subst (IsUnitFirst c.args.file.now c.args.unit) c.in-Some.is c.requires.fault

pub with_types-requires-clause-known : goal.with_types-requires-clause-known
with_types-requires-clause-known g c =
    record { right = subst (IsUnitFirst c.args.file.now c.args.unit) c.in-None.is c.requires.fault; names = c.requires.entities }

pub returns-in-Some-clause-refused : goal.returns-in-Some-clause-refused
returns-in-Some-clause-refused g c = c.ruled_on_names.ensures (g.S.Stop.raised c.stop.new.self)
