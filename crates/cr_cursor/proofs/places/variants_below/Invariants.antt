use Rattle.std.proofs.Common.{◌≡◌, ◌*◌, ◌≤◌, ℕ, List, length}
use Rattle.cr_cursor.specs.Variants.{cursors_below}
use Rattle.cr_cursor.proofs.places.variants_below.Given as goal

abbrev pub invariant-loop-pass : goal.invariant-loop-pass
invariant-loop-pass g l = record {
  count : (file : List ℕ) → l.total ≡ length (cursors_below (g.P.Passes.offer l.passes l.prep file).widths l.pass);
  few : l.total ≤ 16777216 * l.pass;
}
