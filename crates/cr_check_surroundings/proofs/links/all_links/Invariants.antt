use Rattle.cr_check_surroundings.specs.Links.{AreLinks}
use Rattle.cr_check_surroundings.proofs.links.all_links.Given as goal

abbrev pub invariant-loop-at : goal.invariant-loop-at
invariant-loop-at l = AreLinks l.bindings l.nodes l.above l.at l.links
