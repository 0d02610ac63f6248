use Rattle.std.proofs.Common.{◌∙◌, sym}
use Rattle.cr_order_watch.proofs.Judging.{column_same}
use Rattle.cr_order_watch.proofs.judged.is_same.Goals as goal

pub returns : goal.returns
returns c = λ e. column_same c.args.one.now c.args.other.now (sym c.eq.ensures ∙ e)
