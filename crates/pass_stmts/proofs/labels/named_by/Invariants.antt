use Rattle.std.proofs.Common.{take}
use Rattle.std.specs.HashSet.{contains}
use Rattle.pass_stmts.specs.Labels.{AreNamed, same_label}
use Rattle.pass_stmts.proofs.labels.named_by.Given as goal

abbrev pub invariant-loop-jump : goal.invariant-loop-jump
invariant-loop-jump l = AreNamed l.file l.tokens (take l.jump-index l.jumps) (contains same_label l.named)
