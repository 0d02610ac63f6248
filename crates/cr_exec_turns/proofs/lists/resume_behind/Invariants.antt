use Rattle.std.proofs.Common.{◌≡◌, drop}
use Rattle.cr_exec_turns.specs.Kept.{resume_behind}
use Rattle.cr_exec_turns.proofs.lists.resume_behind.Given as goal

abbrev pub invariant-loop-left : goal.invariant-loop-left
invariant-loop-left l = resume_behind l.count (drop l.count l.done) l.left ≡ resume_behind l.from (drop l.from l.done) l.item

abbrev pub decreases-loop-left : goal.decreases-loop-left
decreases-loop-left l = l.left
