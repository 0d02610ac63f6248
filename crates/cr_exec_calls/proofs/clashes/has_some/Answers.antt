use Rattle.std.proofs.Common.{◌≡◌, Bool, sym, ◌∙◌}
use Rattle.cr_footprint.specs.Cell.{holds}
use Rattle.cr_footprint.proofs.Rising.{held_where_found}
use Rattle.cr_exec_calls.proofs.Clashing.{at_first, at_later}
use Rattle.cr_exec_calls.proofs.clashes.has_some.Goals as goal

pub returns-then-is_ok : goal.returns-then-is_ok
returns-then-is_ok c =
    at_first (holds c.args.rising.now) c.loop-cell.rest.now c.in-Some.more.now c.args.cells.now c.in-Some.cell.now c.loop-cell.invariant c.in-Some.ensures.cases.0
    (sym (held_where_found c.args.rising.now c.in-Some.cell.now c.binary_search.result c.requires c.binary_search.ensures.bound c.binary_search.ensures.position) ∙ (sym c.is_ok.ensures.value ∙ c.if-is_ok.true))

pub loop-cell-preserved : goal.loop-cell-preserved
loop-cell-preserved c =
    at_later (holds c.args.rising.now) c.loop-cell.rest.now c.in-Some.more.now c.args.cells.now c.in-Some.cell.now c.loop-cell.invariant c.in-Some.ensures.cases.0
    (sym (held_where_found c.args.rising.now c.in-Some.cell.now c.binary_search.result c.requires c.binary_search.ensures.bound c.binary_search.ensures.position) ∙ (sym c.is_ok.ensures.value ∙ c.if-is_ok.false))
