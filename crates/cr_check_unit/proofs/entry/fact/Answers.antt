use Rattle.std.proofs.Common.{◌≡◌, IfOk, ap, subst, ◌∙◌}
use Rattle.cr_check_types.specs.Types.{type_at}
use Rattle.cr_check_operands.specs.Values.{seen_at}
use Rattle.cr_check_expressions.specs.Known.{source_of}
use Rattle.cr_check_expressions.specs.Forms.{form_of}
use Rattle.cr_check_expressions.specs.Ruled.{facts_at, ruled}
use Rattle.cr_check_unit.proofs.entry.fact.Goals as goal

pub returns-clause-is : goal.returns-clause-is
returns-clause-is c =
    let shapes = c.args.table.now in
    let n = c.args.node.now in
    let known = c.known_of-known.result in
    subst (λ y. IfOk c.rule.result (λ f. seen_at c.rule.new.table f ≡ y))
    (ap (λ fs. ruled (form_of n.kind) (facts_at shapes fs) (source_of (type_at shapes) known) c.args.at n) c.as_slice.ensures
    ∙ ap (λ s. ruled (form_of n.kind) (facts_at shapes c.args.typing.now.facts) s c.args.at n) (c.known_of-known.ensures.source (type_at shapes)))
    c.rule.ensures.is
