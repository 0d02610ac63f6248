use Rattle.std.proofs.Common.{◌∙◌}
use Rattle.cr_footprint.proofs.Rising.{held_where_found}
use Rattle.cr_footprint.proofs.cells.Cells.contains.Goals as goal

pub returns : goal.returns
returns c =
    c.is_ok.ensures.value
    ∙ held_where_found c.args.self.now.list c.args.cell c.binary_search.result c.args.self.now.rising
    (rw c.as_slice.ensures at c.binary_search.ensures.bound)
    (rw c.as_slice.ensures at c.binary_search.ensures.position)
