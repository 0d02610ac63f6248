use Rattle.std.proofs.Common.{sym, ap, ◌∙◌}
use Rattle.cr_exec_slices.specs.Shown.{way_of}
use Rattle.cr_exec_turns.specs.Kept.{way_by}
use Rattle.cr_exec_turns.proofs.Turning.{way_goes, known_so}
use Rattle.cr_exec_turns.proofs.turn.next.Goals as goal

pub returns-then-is_expression : goal.returns-then-is_expression
returns-then-is_expression c = λ answers z ne. c.expression_way.ensures (sym c.is_expression.ensures ∙ c.if-is_expression.true) answers z

pub returns-else-is_expression : goal.returns-else-is_expression
returns-else-is_expression c = λ answers z ne.
    let op = c.args.op.now in
    way_goes op.work op.parts c.args.done.now answers (sym c.is_expression.ensures ∙ c.if-is_expression.false) z
    ∙ ap (way_of answers) (known_so (way_by op.work op.parts c.args.done.now) c.statement_way.result c.statement_way.ensures ne)
