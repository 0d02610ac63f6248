use Rattle.std.proofs.Common.{◌≡◌, drop}
use Rattle.cr_outside.specs.MemFiles.{named}
use Rattle.cr_outside.proofs.memory_files.find.Given as goal

-- what the pairs from here on give is what all give
abbrev pub invariant-loop-pair : goal.invariant-loop-pair
invariant-loop-pair l = named (drop l.pair-index l.pairs) l.name ≡ named l.pairs l.name
