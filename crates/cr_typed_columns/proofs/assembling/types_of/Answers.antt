use Rattle.std.proofs.Common.{map, ap, ◌∙◌}
use Rattle.cr_check_types.specs.Types.{type_at}
use Rattle.cr_typed_columns.specs.declared.assembling.Shaped.{Shaped}
use Rattle.cr_typed_columns.specs.Reading.{parsed_of}
use Rattle.cr_typed_columns.specs.Rows.{type_in}
use Rattle.cr_typed_columns.proofs.Grown.{shaped_is}
use Rattle.cr_typed_columns.proofs.assembling.types_of.Goals as goal

pub returns : goal.returns
returns c =
    let look = type_in (type_at c.args.checked.now.table.now) in
    let shaped : Shaped = record { shapes = c.plans.new.table; types = c.in_ok-types.types; named = c.in_ok-named.named; members = c.in_ok-members.members; plans = c.in_ok-plans.plans } in
    shaped_is (parsed_of c.args.unit.now) c.args.checked.now shaped c.as_slice-nodes.result.now c.in_ok-shapes.shapes c.rows_once.new.table c.rows_once-2.new.table c.members.new.table
    c.deref.result.now c.deref-2.result.now c.as_slice-nodes.ensures c.is_canonical.ensures c.in_ok-shapes.ensures.alone c.in_ok-shapes.ensures.first
    (ap (map look) c.deref.ensures.value ∙ c.in_ok-given_types.ensures) (ap (map look) c.deref-2.ensures.value ∙ c.in_ok-given_named.ensures)
    c.in_ok-types.ensures.made c.in_ok-types.ensures.levels c.in_ok-named.ensures.made c.in_ok-named.ensures.grows c.in_ok-named.ensures.levels
    c.in_ok-members.ensures.made c.in_ok-members.ensures.grows c.in_ok-members.ensures.levels
    c.in_ok-plans.ensures.made c.in_ok-plans.ensures.grows c.in_ok-plans.ensures.levels
