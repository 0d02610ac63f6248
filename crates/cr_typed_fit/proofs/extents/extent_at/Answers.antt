use Rattle.std.proofs.Common.{sym, ap, ◌∙◌}
use Rattle.cr_check_types.specs.Types.{type_at}
use Rattle.cr_check_types.proofs.Fitted.{room_is}
use Rattle.cr_typed_fit.specs.Fits.{extent_of, times_over}
use Rattle.cr_typed_fit.proofs.Taken.{array_extent, array_is}
use Rattle.cr_typed_fit.proofs.extents.extent_at.Goals as goal

pub returns-in-Array : goal.returns-in-Array
returns-in-Array c =
    let look = type_at c.args.table.now in
    let layouts = c.args.layouts.now in
    let below = c.in-Array.below in
    let count = c.in-Array.count in
    let is = array_is (look c.args.row) c.shape.result look below count c.shape.ensures.is c.in-Array.is in
    let low = room_is c.shape.result below count c.args.row c.shape.ensures.below c.in-Array.is in
    c.repeated.ensures
    ∙ ap (times_over count) (c.taken_by.ensures ∙ c.requires.before.each below low)
    ∙ sym (array_extent layouts count (look below))
    ∙ ap (extent_of layouts) (sym is)
