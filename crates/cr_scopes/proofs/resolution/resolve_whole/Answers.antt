use Rattle.cr_scopes.proofs.Ended.{unit_entities, unit_first}
use Rattle.cr_scopes.proofs.resolution.resolve_whole.Goals as goal

pub returns-clause-names : goal.returns-clause-names
returns-clause-names c =
    unit_entities c.args.file.now c.args.unit.now c.as_slice-tokens.result.now c.in_ok-names.names.items c.in_ok-events.events.items
    c.in_ok-followed.followed.told.items c.in_ok-names-2.names c.as_slice-tokens.ensures.value c.in_ok-events.ensures c.in_ok-names.ensures.each
    c.in_ok-followed.ensures.count c.in_ok-followed.ensures.told c.in_ok-names-2.ensures

pub returns-clause-fault : goal.returns-clause-fault
returns-clause-fault c =
    unit_first c.args.file.now c.args.unit.now c.as_slice-tokens.result.now c.in_ok-names.names.items c.in_ok-events.events.items
    c.in_ok-followed.followed.fault c.as_slice-tokens.ensures.value c.in_ok-events.ensures c.in_ok-names.ensures.each c.in_ok-followed.ensures.fault
