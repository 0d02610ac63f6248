use Rattle.std.proofs.Common.{◌≡◌, drop}
use Rattle.cr_around.specs.MemPlace.{told_after}
use Rattle.cr_around.proofs.memory.MemPlace.content.Given as goal

-- what the deeds from here on leave at the path is what all leave
abbrev pub invariant-loop-deed : goal.invariant-loop-deed
invariant-loop-deed l = told_after (drop l.deed-index l.self.deeds.items) l.path ≡ told_after l.self.deeds.items l.path
