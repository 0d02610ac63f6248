use Rattle.std.proofs.Common.{ℕ, List, sym, subst}
use Rattle.cr_library.specs.declared.piece.Piece.{Piece}
use Rattle.cr_library.specs.Format.{ArePiecesOf}
use Rattle.cr_library.specs.Reading.{IsReading}
use Rattle.cr_library.proofs.Readings.{reading_done, nothing_left}
use Rattle.cr_library.proofs.cut.pieces.Goals as goal

pub returns-clause-spelled : goal.returns-clause-spelled
returns-clause-spelled c =
    let format = c.args.format.now in
    let cut = c.loop-byte.cut in
    let P : List Piece → Type 0 = ArePiecesOf format in
    let Q : List ℕ → Type 0 = IsReading format cut.pieces.items cut.run.items in
    subst P (sym c.in_ok-end_run.ensures.pieces)
    (reading_done format cut.pieces.items cut.run.items (subst Q (nothing_left c.loop-byte.rest.now c.in_default.ensures.cases) c.loop-byte.invariant))
