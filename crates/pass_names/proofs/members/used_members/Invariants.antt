use Rattle.std.proofs.Common.{take}
use Rattle.std.specs.HashSet.{contains}
use Rattle.pass_names.specs.Members.{AreUsed, same_member}
use Rattle.pass_names.proofs.members.used_members.Given as goal

abbrev pub invariant-loop-one : goal.invariant-loop-one
invariant-loop-one l = AreUsed l.file l.tokens (take l.one-index l.uses) (contains same_member l.used)
