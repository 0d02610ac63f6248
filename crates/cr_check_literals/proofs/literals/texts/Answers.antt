use Rattle.std.proofs.Common.{[]}
use Rattle.cr_rows.proofs.Columns.{one_more}
use Rattle.cr_check_literals.specs.Texts.{text_at}
use Rattle.cr_check_literals.proofs.literals.texts.Goals as goal

pub loop-at-preserved : goal.loop-at-preserved
loop-at-preserved c =
    rw c.in_ok-push.ensures.items (one_more (text_at c.args.file.now c.args.tokens.now c.args.nodes.now) [] _ c.loop-at.at _ c.loop-at.invariant c.in_ok-text_at.ensures)
