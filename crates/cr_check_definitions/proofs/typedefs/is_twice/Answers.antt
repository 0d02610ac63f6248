use Rattle.cr_check_definitions.specs.Known.{known_of}
use Rattle.cr_check_definitions.proofs.Twice.{decides, given_first_is}
use Rattle.cr_check_definitions.proofs.typedefs.is_twice.Goals as goal

pub returns : goal.returns
returns c =
    let d = c.args.declarations.now in
    let shapes = d.table.now in
    let names = c.args.names.now in
    let token = c.args.token in
    rw c.differ.ensures
    (decides shapes (known_of d) names token c.typedef_of.result c.first_of.result c.is_canonical.ensures.distinct c.typedef_of.ensures
    (given_first_is shapes (known_of d) names c.args.firsts.now token c.first_of.result c.requires.count c.requires.firsts c.first_of.ensures))
