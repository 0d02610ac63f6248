use Rattle.std.proofs.Common.{◌≡◌, ◌+◌, length, take}
use Rattle.std.specs.Prelude.{sum_by}
use Rattle.cr_tokens.specs.Size.{share_of}
use Rattle.cr_tokens.proofs.measure.size.Given as goal

abbrev pub invariant-loop-token : goal.invariant-loop-token
invariant-loop-token l = l.total ≡ length l.file + sum_by (share_of l.file) (take l.token-index l.list)
