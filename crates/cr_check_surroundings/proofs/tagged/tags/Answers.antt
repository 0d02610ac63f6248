use Rattle.std.proofs.Common.{None}
use Rattle.cr_check_surroundings.specs.Named.{tag_of}
use Rattle.cr_rows.proofs.Columns.{one_more}
use Rattle.cr_check_surroundings.proofs.tagged.tags.Goals as goal

pub loop-at-preserved : goal.loop-at-preserved
loop-at-preserved c =
    rw c.in_ok-push.ensures.items (one_more (tag_of c.args.bindings.now c.args.names.now c.args.nodes.now c.args.tokens.now) None _ c.loop-at.at _ c.loop-at.invariant
    c.in_ok-tag_at.ensures)
