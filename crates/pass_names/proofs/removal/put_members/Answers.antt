use Rattle.pass_levels.specs.Nodes.{node_at}
use Rattle.pass_names.specs.Unused.{member_gives}
use Rattle.pass_names.proofs.Giving.{given_more}
use Rattle.pass_names.proofs.removal.put_members.Goals as goal

pub loop-at-preserved : goal.loop-at-preserved
loop-at-preserved c = given_more (member_gives c.args.file.now c.args.tokens.now c.args.nodes.now c.args.uses.now c.args.content (node_at c.args.nodes.now c.args.whole) c.args.row.now) c.put_member.new.all.items c.loop-at.all.items c.args.all.now.items c.loop-at.at c.in_ok-put_member.ensures c.loop-at.invariant
