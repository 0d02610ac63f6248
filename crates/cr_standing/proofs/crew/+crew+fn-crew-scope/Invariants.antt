use Rattle.std.proofs.Common.{◌*◌, ◌+◌, length}
use Rattle.cr_standing.proofs.crew.+crew+fn-crew-scope.Given as goal

abbrev pub decreases-crew : goal.decreases-crew
decreases-crew g l = 2 * length l.others.items

abbrev pub decreases-scope : goal.decreases-scope
decreases-scope g l = 2 * length l.others.items + 1
