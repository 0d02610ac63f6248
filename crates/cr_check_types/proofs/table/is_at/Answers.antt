use Rattle.std.proofs.Common.{◌∙◌, ap, sym}
use Rattle.cr_check_types.specs.Shared.{key_of, same_key}
use Rattle.cr_check_types.proofs.Shared.{same_there, same_other, past_other}
use Rattle.cr_check_types.proofs.table.is_at.Goals as goal

pub returns-then-row-shapes-clause-there : goal.returns-then-row-shapes-clause-there
returns-then-row-shapes-clause-there c same =
    same_there _ _ _ _ _ c.if-row-shapes.true c.shape_in.ensures.shape
    (rw (c.key_of.ensures, c.key_of-then-row-shapes.ensures) at c.same_key.ensures) same

pub returns-then-row-shapes-clause-other : goal.returns-then-row-shapes-clause-other
returns-then-row-shapes-clause-other c differs =
    same_other c.args.shapes.now c.args.row _ _ _ c.shape_in.ensures.at
    (rw (c.key_of.ensures, c.key_of-then-row-shapes.ensures) at c.same_key.ensures) differs
