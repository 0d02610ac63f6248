use Rattle.std.proofs.Common.{◌≡◌, length}
use Rattle.cr_eval.specs.Table.{program_of}
use Rattle.cr_reached.specs.Own.{AreWhole}
use Rattle.cr_reached.proofs.whole.whole_of.Given as goal

abbrev pub invariant-loop-op : goal.invariant-loop-op
invariant-loop-op l = record {
  column : AreWhole (program_of l.table) l.began l.whole.items;
  count : length l.whole.items ≡ l.op-index;
}
