use Rattle.std.proofs.Common.{◌≤◌, length}
use Rattle.cr_exprs_descent.specs.Answers.{Keeps}
use Rattle.cr_exprs_descent.proofs.arena.drop_to.Given as goal

abbrev pub invariant-dropped : goal.invariant-dropped
invariant-dropped l = record {
  keeps : Keeps l.nodes l.fn.nodes;
  longer : l.count ≤ length l.nodes;
}

abbrev pub decreases-dropped : goal.decreases-dropped
decreases-dropped l = length l.nodes
