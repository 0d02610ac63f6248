use Rattle.std.proofs.Common.{refl, arith}
use Rattle.cr_check_initialisers.specs.Known.{known_of}
use Rattle.cr_check_types.proofs.Tables.{beyond}
use Rattle.cr_check_initialisers.proofs.source.cells_at.Goals as goal

pub returns-then-row-len : goal.returns-then-row-len
unfolding known_of
returns-then-row-len c = rw (beyond c.args.source.now.table.now c.args.row (omega arith)) refl
