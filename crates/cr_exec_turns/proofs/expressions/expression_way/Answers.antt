use Rattle.std.proofs.Common.{sym, ap, ◌∙◌}
use Rattle.cr_exec_slices.specs.Shown.{way_of}
use Rattle.cr_exec_turns.proofs.Turning.{are_shown, turned_is}
use Rattle.cr_exec_turns.proofs.expressions.expression_way.Goals as goal

pub returns : goal.returns
returns c = λ e answers z.
    c.ahead.ensures answers (are_shown c.args.done.now answers c.first_truth.result z c.first_truth.ensures) e
    ∙ (turned_is answers c.ahead.result ∙ ap (way_of answers) (sym c.turned.ensures))
