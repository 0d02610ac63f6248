use Rattle.cr_exec_table.proofs.Before.{no_label, added_none}
use Rattle.cr_exec_table.proofs.labels.add_one.Goals as goal

pub returns-in_default : goal.returns-in_default
returns-in_default c =
    added_none c.args.types.now c.args.number c.args.node _ c.kind.result c.kind.ensures
    (no_label c.kind.result c.in_default.not-Case c.in_default.not-Default c.in_default.not-Label)
