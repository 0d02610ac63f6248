use Rattle.std.proofs.Common.{length}
use Rattle.cr_replay.specs.Chains.{chain_of}
use Rattle.cr_replay.proofs.Going.{Stands}
use Rattle.cr_replay.proofs.rows.follow.Given as goal

abbrev pub invariant-loop-one : goal.invariant-loop-one
invariant-loop-one g l = Stands (chain_of g.P.Passes l.passes g.L.Law l.law l.limit) l.fn.from.items l.rows.items l.file.items l.size l.turns l.number l.rest

abbrev pub decreases-loop-one : goal.decreases-loop-one
decreases-loop-one g l = length l.rest
