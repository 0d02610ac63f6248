use Rattle.std.proofs.Common.{◌+◌, drop, arith}
use Rattle.std.specs.List.{zip}
use Rattle.cr_exec_library.proofs.Printing.{piece_at, piece_ends, piece_goes}
use Rattle.cr_exec_library.proofs.pieces.push_pieces.Goals as goal

pub returns-in-Err : goal.returns-in-Err
returns-in-Err c =
    let at = c.loop-piece in
    let pieces = c.args.pieces.now in
    piece_ends c.args.store.now c.piece-item.result (drop at.piece-index pieces) (drop (at.piece-index + 1) pieces) (zip at.texts_left.now at.values_left.now)
    at.out.items c.push_next.new.out.items c.in-Err.trap _ (piece_at pieces at.piece-index c.piece-item.result (omega arith) c.piece-item.is) at.invariant c.in-Err.ensures

pub loop-piece-preserved : goal.loop-piece-preserved
loop-piece-preserved c =
    let at = c.loop-piece in
    let pieces = c.args.pieces.now in
    piece_goes c.args.store.now c.piece-item.result (drop at.piece-index pieces) (drop (at.piece-index + 1) pieces) at.texts_left.now c.left_behind-texts_left.result.now
    at.values_left.now c.left_behind-values_left.result.now at.out.items c.push_next.new.out.items _
    (piece_at pieces at.piece-index c.piece-item.result (omega arith) c.piece-item.is) at.invariant c.in-Ok.ensures c.left_behind-texts_left.ensures c.left_behind-values_left.ensures
