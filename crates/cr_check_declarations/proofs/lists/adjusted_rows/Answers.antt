use Rattle.std.proofs.Common.{rules, ◌≡◌, ◌+◌, map, take, sym, subst}
use Rattle.cr_check_types.specs.Types.{type_at}
use Rattle.cr_check_types.specs.Relations.{AreRows}
use Rattle.cr_check_declarators.specs.Functions.{adjusted_type}
use Rattle.cr_check_declarations.specs.Before.{before_at}
use Rattle.cr_check_declarations.proofs.Adjusted.{within_more, types_more}
use Rattle.cr_check_declarations.proofs.lists.adjusted_rows.Goals as goal

pub loop-part-preserved : goal.loop-part-preserved
loop-part-preserved c =
    let old = c.loop-part.table in
    let new = c.adjusted.new.table in
    let rows = c.loop-part.rows.items in
    let row = c.in_ok-adjusted.field-0 in
    let all = c.in_ok-push.ensures.items in
    let made = c.in_ok-adjusted.ensures.made in
    let more = c.in_ok-adjusted.ensures.grows in
    record {
      grows = search rules;
      within = subst (AreRows new) (sym all) (within_more old new rows row more c.loop-part.invariant.within made.within);
      is = subst
          (λ xs. map (type_at new) xs
          ≡ map (λ p. adjusted_type ((before_at c.args.table.now c.args.columns.now).named p)) (take (c.loop-part.part-index + 1) c.args.list.now))
          (sym all)
          (types_more c.args.table.now old new c.args.columns.now rows c.args.list.now c.loop-part.part-index c.named_of-row.result row c.requires
          c.loop-part.invariant.grows more c.loop-part.invariant.within c.loop-part.invariant.is c.loop-part-test.true c.named_of-row.ensures.is made);
    }
