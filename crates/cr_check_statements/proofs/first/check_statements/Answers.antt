use Rattle.std.proofs.Common.{sym, subst, ◌+◌, arith}
use Rattle.cr_check_expressions.specs.Breaks.{IsFirst}
use Rattle.cr_check_statements.specs.Setting.{scene_of}
use Rattle.cr_check_statements.proofs.Firsts.{IsBrokenBelow, next, all}
use Rattle.cr_check_statements.proofs.first.check_statements.Goals as goal

pub loop-at-preserved : goal.loop-at-preserved
loop-at-preserved c =
    subst (IsFirst (IsBrokenBelow (scene_of c.args.table.now c.args.setting.now) (c.loop-at.at + 1))) (sym c.lesser-first.ensures)
    (next (scene_of c.args.table.now c.args.setting.now) c.loop-at.at c.loop-at.first c.in_ok-node_fault.field-0 c.loop-at.invariant
    c.in_ok-node_fault.ensures)

pub returns : goal.returns
returns c =
    all (scene_of c.args.table.now c.args.setting.now) c.loop-at.at c.loop-at.first c.loop-at.invariant
    (omega (arith, c.loop-at-test.false))
