use Rattle.std.proofs.Common.{ap, ◌∙◌}
use Rattle.cr_check_types.specs.Types.{type_at}
use Rattle.cr_typed_columns.specs.Reading.{kind_of, part_of}
use Rattle.cr_typed_columns.specs.Expressions.{form_if, is_part, is_filling}
use Rattle.cr_typed_columns.proofs.Marks.{same_valued, unfilled, unused}
use Rattle.cr_typed_columns.proofs.expressions.valued_of.Goals as goal

pub returns-then-is_valued : goal.returns-then-is_valued
returns-then-is_valued c =
    let above = c.entry_at-above.ensures in
    let form = c.form_if.ensures ∙ ap form_if (c.kind_of.ensures ∙ ap (kind_of c.args.nodes.now) above) in
    let first = c.is_part-first.ensures ∙ ap (is_part c.args.at) (c.part_of.ensures ∙ ap (λ node. part_of c.args.nodes.now node 0) above) in
    let used = same_valued _ _ _ _ _ _ c.is_valued.result (c.is_valued.ensures (type_at c.args.checked.now.table.now)) form first c.fact_at.ensures in
    unfilled _ c.is_valued.result c.entry_at.result (is_filling c.args.checked.now c.args.at) c.if-is_valued.true used (c.entry_at.ensures ∙ c.requires)

pub returns-else-is_valued : goal.returns-else-is_valued
returns-else-is_valued c =
    let above = c.entry_at-above.ensures in
    let form = c.form_if.ensures ∙ ap form_if (c.kind_of.ensures ∙ ap (kind_of c.args.nodes.now) above) in
    let first = c.is_part-first.ensures ∙ ap (is_part c.args.at) (c.part_of.ensures ∙ ap (λ node. part_of c.args.nodes.now node 0) above) in
    let used = same_valued _ _ _ _ _ _ c.is_valued.result (c.is_valued.ensures (type_at c.args.checked.now.table.now)) form first c.fact_at.ensures in
    unused _ c.is_valued.result (is_filling c.args.checked.now c.args.at) c.if-is_valued.false used
