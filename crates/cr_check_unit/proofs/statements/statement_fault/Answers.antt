use Rattle.std.proofs.Common.{IfOk, subst}
use Rattle.cr_check_expressions.specs.Breaks.{IsFirst}
use Rattle.cr_check_statements.specs.Statements.{IsBroken}
use Rattle.cr_check_unit.proofs.statements.statement_fault.Goals as goal

pub returns : goal.returns
returns c =
    subst (λ s. IfOk c.check_statements.result (λ b. IsFirst (IsBroken s) b)) (c.setting_of-setting.ensures.scene c.args.table.now) c.check_statements.ensures
