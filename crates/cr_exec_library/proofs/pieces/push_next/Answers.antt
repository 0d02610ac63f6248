use Rattle.std.specs.List.{zip}
use Rattle.cr_exec_library.proofs.Printing.{prints}
use Rattle.cr_exec_library.proofs.pieces.push_next.Goals as goal

pub returns : goal.returns
returns c = prints c.args.store.now c.args.piece.now (zip c.args.texts.now c.args.values.now) c.args.out.now.items c.push_one.new.out.items c.push_one.result c.push_one.ensures
