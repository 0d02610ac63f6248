use Rattle.std.proofs.Common.{sym, ◌∙◌, arith}
use Rattle.cr_exec_turns.proofs.Turning.{case_found, case_passed}
use Rattle.cr_exec_turns.proofs.cases.value_case.Goals as goal

pub returns-then-is_case : goal.returns-then-is_case
returns-then-is_case c =
    case_found c.args.kind c.args.cases.now c.loop-case.case-index _ c.args.other c.args.control.now (omega arith)
    (sym c.in-Some.ensures ∙ c.if-is_case.true) c.loop-case.invariant

pub loop-case-preserved : goal.loop-case-preserved
loop-case-preserved c =
    case_passed c.args.kind c.args.cases.now c.loop-case.case-index _ c.args.other c.args.control.now (omega arith)
    (sym c.in-Some.ensures ∙ c.if-is_case.false) c.loop-case.invariant
