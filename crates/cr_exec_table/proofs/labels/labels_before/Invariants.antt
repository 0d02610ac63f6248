use Rattle.std.proofs.Common.{◌≡◌, take}
use Rattle.cr_meaning_operations.specs.Operations.{cases_from, default_from, targets_from}
use Rattle.cr_exec_table.proofs.labels.labels_before.Given as goal

abbrev pub invariant-loop-number : goal.invariant-loop-number
invariant-loop-number l = record {
  cases : l.labels.cases.items ≡ cases_from l.types 0 (take l.number l.items);
  default : l.labels.default ≡ default_from l.types 0 (take l.number l.items);
  targets : l.labels.targets.items ≡ targets_from l.types 0 (take l.number l.items);
}
