use Rattle.std.proofs.Common.{◌≡◌, length}
use Rattle.cr_meaning.specs.Nodes.{set_parts}
use Rattle.cr_eval.specs.Table.{program_of}
use Rattle.cr_exec_statements.specs.Kept.{values_in}
use Rattle.cr_exec_statements.specs.Sets.{after_sets}
use Rattle.cr_exec_statements.proofs.initial.parts_of.Given as goal

abbrev pub invariant-loop-lines_left : goal.invariant-loop-lines_left
invariant-loop-lines_left l =
    after_sets l.sets.items (set_parts (program_of l.table) l.store l.lines_left (values_in l.done_left)) ≡ set_parts (program_of l.table) l.store l.lines (values_in l.done)

abbrev pub decreases-loop-lines_left : goal.decreases-loop-lines_left
decreases-loop-lines_left l = length l.lines_left
