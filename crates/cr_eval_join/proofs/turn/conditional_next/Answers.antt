use Rattle.std.proofs.Common.{ap₂, ◌∙◌}
use Rattle.cr_meaning.specs.Turns.{Way, choose}
use Rattle.cr_eval_join.proofs.Turning.{conditional_at_none, conditional_at_one, conditional_at_more}
use Rattle.cr_eval_join.proofs.turn.conditional_next.Goals as goal

pub returns-then-count-eq0 : goal.returns-then-count-eq0
returns-then-count-eq0 c = λ answers are.
    conditional_at_none c.args.parts.now answers c.args.count c.args.truth are c.if-count-eq0.true ∙ c.operand.ensures

pub returns-then-count-eq1 : goal.returns-then-count-eq1
returns-then-count-eq1 c = λ answers are.
    conditional_at_one c.args.parts.now answers c.args.count c.args.truth are c.if-count-eq1.true
    ∙ (ap₂ (λ (w : Way). λ (x : Way). choose c.args.truth w x) c.operand-then-count-eq1.ensures c.operand-then-count-eq1-2.ensures ∙ c.choose.ensures)

pub returns : goal.returns
returns c = λ answers are.
    conditional_at_more c.args.parts.now answers c.args.count c.args.truth are c.if-count-eq0.false c.if-count-eq1.false
