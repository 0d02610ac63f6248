use Rattle.std.proofs.Common.{◌≡◌, ◌*◌, ◌≤◌, ℕ, List, length}
use Rattle.cr_cursor.specs.Variants.{pass_cursors}
use Rattle.cr_cursor.proofs.places.variants_in.Given as goal

abbrev pub invariant-loop-level : goal.invariant-loop-level
invariant-loop-level g l = record {
  count : (file : List ℕ) → l.total ≡ length (pass_cursors (g.P.Passes.offer l.passes l.prep file).widths l.pass l.level);
  few : l.total ≤ 1048576 * l.level;
}
