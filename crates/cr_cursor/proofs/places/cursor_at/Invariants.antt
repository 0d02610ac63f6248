use Rattle.std.proofs.Common.{◌≡◌, ◌+◌, ℕ, List, length}
use Rattle.cr_cursor.specs.Variants.{cursors_below}
use Rattle.cr_cursor.proofs.places.cursor_at.Given as goal

abbrev pub invariant-loop-pass : goal.invariant-loop-pass
invariant-loop-pass g l = (file : List ℕ) → l.position ≡ length (cursors_below (g.P.Passes.offer l.passes l.prep file).widths l.pass) + l.left
