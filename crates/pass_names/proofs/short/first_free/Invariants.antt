use Rattle.std.proofs.Common.{◌≡◌, ◌-◌}
use Rattle.pass_names.specs.Short.{free_from}
use Rattle.pass_names.proofs.short.first_free.Given as goal

abbrev pub invariant-loop-number : goal.invariant-loop-number
invariant-loop-number l = free_from l.file l.tokens l.number (l.most - l.number) ≡ free_from l.file l.tokens 0 l.most
