use Rattle.std.proofs.Common.{◌≡◌, ◌++◌, map, take}
use Rattle.pass_levels.specs.Nodes.{node_at}
use Rattle.pass_inline.specs.Spelled.{run_of}
use Rattle.pass_inline.proofs.spelled.put_arguments.Given as goal

abbrev pub invariant-loop-part : goal.invariant-loop-part
invariant-loop-part l = l.runs ≡ l.fn.runs ++ map (λ part. run_of (node_at l.nodes part)) (take l.part-index l.parts)
