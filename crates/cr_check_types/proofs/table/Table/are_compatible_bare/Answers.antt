use Rattle.std.proofs.Common.{sym}
use Rattle.cr_check_types.specs.Types.{type_at}
use Rattle.cr_check_types.proofs.Itself.{bare_is}
use Rattle.cr_check_types.proofs.table.Table.are_compatible_bare.Goals as goal

pub returns-in-Answer : goal.returns-in-Answer
returns-in-Answer c =
    let look = type_at c.args.self.now in
    let l = bare_is _ c.shape.result c.plain-left.result look c.shape.ensures.is c.plain-left.ensures in
    let r = bare_is _ c.shape-2.result c.plain-right.result look c.shape-2.ensures.is c.plain-right.ensures in
    rw (l, r) (sym (c.in-Answer.ensures.is look))
