use Rattle.cr_check.proofs.NameFaults.{first_is}
use Rattle.cr_check.proofs.naming.first_name_fault.Goals as goal

pub returns : goal.returns
returns c =
    first_is c.args.file.now c.args.unit.now c.args.names.now c.args.fault c.lesser.result c.in_ok-token.token c.lesser.ensures c.requires.names
    c.requires.fault c.in_ok-token.ensures
