use Rattle.std.proofs.Common.{◌∙◌}
use Rattle.cr_check_types.specs.Types.{type_at}
use Rattle.cr_check_expressions.proofs.Kept.{grows_on}
use Rattle.cr_typed_columns.proofs.Copies.{raised_same, raised_levels}
use Rattle.cr_typed_columns.proofs.copying.raised.Goals as goal

pub loop-level-preserved : goal.loop-level-preserved
loop-level-preserved c =
    let h = c.loop-level.invariant in
    let added = c.in_ok-made.ensures in
    let is = c.shape_above.ensures.is (type_at c.loop-level.table) in
    let made = added.made.is ∙ is in
    let below = type_at c.loop-level.table c.loop-level.made in
    record {
      within = added.made.within;
      same = raised_same c.loop-level.list.items c.pop.new.self.items c.in-Some.level below _ _ c.in-Some.ensures.items made h.same;
      grows = grows_on c.args.table.now c.loop-level.table c.add.new.self h.grows added.grows;
      levels = λ start w. raised_levels start c.loop-level.table c.add.new.self c.in-Some.level below _ _ made is (h.levels start w) added.shared;
    }
