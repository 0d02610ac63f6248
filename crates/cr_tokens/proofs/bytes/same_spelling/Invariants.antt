use Rattle.std.proofs.Common.{◌≡◌, nat_eq, drop}
use Rattle.std.specs.Cmp.Lexicographic.{pointwise}
use Rattle.cr_tokens.proofs.bytes.same_spelling.Given as goal

-- the bytes before are the same
abbrev pub invariant-loop-byte : goal.invariant-loop-byte
invariant-loop-byte l = pointwise nat_eq l.one l.other ≡ pointwise nat_eq (drop l.byte-index l.one) l.rest
