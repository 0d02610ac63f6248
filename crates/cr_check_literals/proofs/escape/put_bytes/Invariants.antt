use Rattle.std.proofs.Common.{◌≡◌, ◌++◌, drop}
use Rattle.cr_check_literals.specs.Characters.{bytes_behind, bytes_of}
use Rattle.cr_check_literals.proofs.escape.put_bytes.Given as goal

abbrev pub invariant-loop-at : goal.invariant-loop-at
invariant-loop-at l = l.bytes.items ++ bytes_behind l.left (drop l.at l.inside) ≡ l.fn.bytes.items ++ bytes_of l.inside
