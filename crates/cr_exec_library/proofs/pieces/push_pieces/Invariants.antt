use Rattle.std.proofs.Common.{◌≡◌, drop}
use Rattle.std.specs.List.{zip}
use Rattle.cr_meaning.specs.World.{then_by}
use Rattle.cr_meaning.specs.Library.{printed}
use Rattle.cr_exec_library.specs.Printing.{behind}
use Rattle.cr_exec_library.proofs.pieces.push_pieces.Given as goal

abbrev pub invariant-loop-piece : goal.invariant-loop-piece
invariant-loop-piece l =
    then_by (printed l.store (drop l.piece-index l.pieces) (zip l.texts_left l.values_left)) (behind l.out.items)
    ≡ then_by (printed l.store l.pieces (zip l.texts l.values)) (behind l.fn.out.items)
