use Rattle.std.proofs.lemmas.Option.{slice_get-get_or}
use Rattle.cr_check_types.proofs.Tables.{shape_at}
use Rattle.cr_check_types.proofs.table.shape_in.Goals as goal

pub returns-clause-shape : goal.returns-clause-shape
returns-clause-shape c = shape_at _ _ _ c.requires.table c.requires.within

pub returns-clause-at : goal.returns-clause-at
returns-clause-at c = slice_get-get_or _ _ _ c.requires.within
