use Rattle.std.proofs.Common.{length, ap, ◌∙◌}
use Rattle.cr_check_types.specs.Types.{type_at}
use Rattle.cr_check_expressions.specs.Known.{meaning_by}
use Rattle.cr_check_expressions.specs.Breaks.{fault, lesser, is_miscalled, call_faults}
use Rattle.cr_check_expressions.proofs.fault.called_fault.Goals as goal

pub returns : goal.returns
unfolding call_faults
returns c =
    c.lesser.ensures
    ∙ ap (λ x. lesser x c.argument_faults-arguments.result)
    (c.break_if.ensures ∙ ap (fault 17 c.args.first) (c.is_miscalled-miscalled.ensures (type_at c.args.table.now)))
    ∙ ap (lesser (fault 17 c.args.first
    (is_miscalled (meaning_by (type_at c.args.table.now) c.args.parameters.now c.args.declared) (length c.args.parts.now))))
    c.argument_faults-arguments.ensures
