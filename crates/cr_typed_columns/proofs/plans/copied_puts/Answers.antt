use Rattle.cr_check_expressions.proofs.Kept.{grows_on}
use Rattle.cr_typed.specs.declared.typed.Put.{Put}
use Rattle.cr_typed_columns.specs.Rows.{put_type}
use Rattle.cr_typed_columns.proofs.Grown.{put_next, levels_next}
use Rattle.cr_typed_columns.proofs.plans.copied_puts.Goals as goal

pub loop-put-preserved : goal.loop-put-preserved
loop-put-preserved c =
    let h = c.loop-put.invariant in
    let is = c.in_ok-made.ensures in
    let old = c.loop-put.table in
    let new = c.copied_put.new.table in
    let low = c.loop-put-test.true in
    let none : Put = record { node = 0; cell = 0; row = 0; user = 0 } in
    rw c.in_ok-push.ensures.ok record {
      made = put_next old new c.args.from.now c.args.given.now c.loop-put.put-index none c.loop-put.puts c.in_ok-made.made low is.grows h.made is.made.0 is.made.1;
      grows = grows_on c.args.table.now old new h.grows is.grows;
      levels = levels_next c.args.table.now old new (put_type c.args.from.now) c.args.given.now c.loop-put.put-index none low h.levels is.levels;
    }
