use Rattle.std.proofs.Common.{◌≡◌, take}
use Rattle.cr_exprs.specs.Behind.{numbers_behind}
use Rattle.cr_exprs.proofs.behind.numbers_behind.Given as goal

abbrev pub invariant-loop-part : goal.invariant-loop-part
invariant-loop-part l = l.row ≡ numbers_behind l.before (take l.part-index l.parts)
