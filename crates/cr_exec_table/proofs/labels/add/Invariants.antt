use Rattle.std.proofs.Common.{◌≡◌, ◌++◌, map, length}
use Rattle.cr_meaning_operations.specs.Operations.{case_of, target_of, cases_by, has_default_by, marks_by}
use Rattle.cr_exec_table.specs.Labels.{default_after}
use Rattle.cr_exec_table.proofs.labels.add.Given as goal

abbrev pub invariant-loop-left : goal.invariant-loop-left
invariant-loop-left l = record {
  cases : l.labels.cases.items ++ map (case_of l.number) (cases_by l.left l.types l.at)
      ≡ l.initial.labels.cases.items ++ map (case_of l.number) (cases_by (length l.types.nodes) l.types l.fn.item);
  default : default_after l.labels.default (has_default_by l.left l.types l.at) l.number
      ≡ default_after l.initial.labels.default (has_default_by (length l.types.nodes) l.types l.fn.item) l.number;
  targets : l.labels.targets.items ++ map (target_of l.number) (marks_by l.left l.types l.at)
      ≡ l.initial.labels.targets.items ++ map (target_of l.number) (marks_by (length l.types.nodes) l.types l.fn.item);
}

abbrev pub decreases-loop-left : goal.decreases-loop-left
decreases-loop-left l = l.left
