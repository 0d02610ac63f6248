use Rattle.std.proofs.Common.{ap, subst, sym, ◌∙◌}
use Rattle.cr_check_types.specs.Types.{type_at, IsRow}
use Rattle.cr_typed_columns.specs.Levels.{above}
use Rattle.cr_typed_columns.proofs.Copies.{raised_levels}
use Rattle.cr_typed_columns.proofs.copying.raised_on.Goals as goal

pub returns-clause-made : goal.returns-clause-made
returns-clause-made c =
    let is = c.shape_above-shape.ensures.is (type_at c.args.table.now) ∙ ap (above c.args.level) c.requires.base.is in
    subst (IsRow c.add.new.self c.in_ok-raised.raised) (is ∙ sym c.requires.above) c.in_ok-raised.ensures.made

pub returns-clause-levels : goal.returns-clause-levels
returns-clause-levels c =
    let is = c.shape_above-shape.ensures.is (type_at c.args.table.now) ∙ ap (above c.args.level) c.requires.base.is in
    raised_levels c.args.table.now c.args.table.now c.add.new.self c.args.level (type_at c.args.from.now c.args.below) _ _ c.requires.above is c.requires.levels
    c.in_ok-raised.ensures.shared
