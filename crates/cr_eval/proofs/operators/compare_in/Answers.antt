use Rattle.std.proofs.Common.{ap₂, ◌∙◌}
use Rattle.cr_meaning.specs.Values.{compares}
use Rattle.cr_eval.proofs.Arithmetic.{read_converted}
use Rattle.cr_eval.proofs.operators.compare_in.Goals as goal

pub returns : goal.returns
returns c =
    let a = c.args in
    c.compares.ensures ∙ ap₂ (compares a.relation)
    (read_converted a.kind a.left _ c.ranges.left c.convert.ensures.representable c.convert.ensures.value)
    (read_converted a.kind a.right _ c.ranges.right c.convert-2.ensures.representable c.convert-2.ensures.value)
