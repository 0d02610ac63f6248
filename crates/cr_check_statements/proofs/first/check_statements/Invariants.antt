use Rattle.cr_check_expressions.specs.Breaks.{IsFirst}
use Rattle.cr_check_statements.specs.Setting.{scene_of}
use Rattle.cr_check_statements.proofs.Firsts.{IsBrokenBelow}
use Rattle.cr_check_statements.proofs.first.check_statements.Given as goal

abbrev pub invariant-loop-at : goal.invariant-loop-at
invariant-loop-at l = IsFirst (IsBrokenBelow (scene_of l.table l.setting) l.at) l.first
