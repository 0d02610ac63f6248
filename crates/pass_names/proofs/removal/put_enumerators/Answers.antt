use Rattle.pass_names.specs.Unused.{enumerator_gives}
use Rattle.pass_names.proofs.Giving.{given_more}
use Rattle.pass_names.proofs.removal.put_enumerators.Goals as goal

pub loop-at-preserved : goal.loop-at-preserved
loop-at-preserved c = given_more (enumerator_gives c.args.tokens.now c.args.nodes.now c.args.names.now c.args.row.now) c.put_enumerator.new.all.items c.loop-at.all.items c.args.all.now.items c.loop-at.at c.in_ok-put_enumerator.ensures c.loop-at.invariant
