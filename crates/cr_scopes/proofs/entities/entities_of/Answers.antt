use Rattle.cr_scopes.proofs.Built.{built}
use Rattle.cr_scopes.proofs.entities.entities_of.Goals as goal

pub returns : goal.returns
returns c =
    built c.args.told.now.items c.in_ok-begun.begun.numbers.items c.in_ok-of_token.of_token.items c.from_vec-2.result
    c.in_ok-entities.entities.items c.from_vec.result c.in_ok-begun.begun.count c.from_vec.ensures c.from_vec-2.ensures
    c.in_ok-begun.ensures c.in_ok-of_token.ensures c.in_ok-entities.ensures
