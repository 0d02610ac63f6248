use Rattle.std.proofs.Common.{ap, ◌∙◌}
use Rattle.cr_meaning.specs.Turns.{Way, Ready, choose}
use Rattle.cr_eval_join.proofs.Turning.{and_at_one, and_at_others}
use Rattle.cr_eval_join.proofs.turn.and_next.Goals as goal

pub returns-then-count-eq1 : goal.returns-then-count-eq1
returns-then-count-eq1 c = λ answers are.
    and_at_one c.args.parts.now answers c.args.count c.args.truth are c.if-count-eq1.true
    ∙ (ap (λ (w : Way). choose c.args.truth w Ready) c.operand.ensures ∙ c.choose.ensures)

pub returns : goal.returns
returns c = λ answers are.
    and_at_others c.args.parts.now answers c.args.count c.args.truth are c.if-count-eq1.false ∙ c.operand-2.ensures
