use Rattle.std.proofs.Common.{◌≡◌, ℕ}
use Rattle.std.specs.HashMap.{get}
use Rattle.cr_check_enclosing.specs.Repeats.{has_before, is_below, mark_in, place_of}
use Rattle.cr_check_enclosing.proofs.repeats.least_places.Given as goal

abbrev pub invariant-loop-at : goal.invariant-loop-at
invariant-loop-at g l = (q : _) (token : ℕ) → is_below (get g.K.PartialEq.eq l.least q) token ≡ has_before g.K.PartialEq.eq (mark_in l.marks) (place_of l.nodes) l.at token q
