use Rattle.std.proofs.Common.{◌≡◌, [], replicate}
use Rattle.cr_core.proofs.machine.Core.new.Given as goal

abbrev pub invariant-loop : goal.invariant-loop
invariant-loop l = l.lists.items ≡ replicate l.counter []
