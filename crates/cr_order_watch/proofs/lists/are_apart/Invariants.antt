use Rattle.cr_meaning.specs.World.{Program}
use Rattle.cr_meaning_seen.specs.Seen.{Forest}
use Rattle.cr_order_watch.specs.Known.{ArePieces}
use Rattle.cr_order_watch.proofs.Gathering.{Gathered}
use Rattle.cr_order_watch.proofs.lists.are_apart.Given as goal

abbrev pub invariant-loop-piece : goal.invariant-loop-piece
invariant-loop-piece l = (p : Program) (forest : Forest) → ArePieces p l.pieces forest → Gathered p l.pieces l.piece-index l.sum.loud l.sum.foot forest
