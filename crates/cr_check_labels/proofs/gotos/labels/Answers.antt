use Rattle.std.proofs.Common.{ℕ, List, Option, None, slice_index_or, ap, sym, ◌∙◌, rules}
use Rattle.std.proofs.Math.ListN.{get_or-replicate}
use Rattle.cr_check_labels.specs.Gotos.{goto_at}
use Rattle.cr_check_labels.specs.Labelled.{scene_of}
use Rattle.cr_check_labels.proofs.Columns.{none_named, only_none}
use Rattle.cr_rows.proofs.Columns.{one_more}
use Rattle.cr_check_labels.proofs.gotos.labels.Goals as goal

pub loop-at-preserved : goal.loop-at-preserved
loop-at-preserved c =
    rw c.in_ok-push.ensures.items (one_more (goto_at (scene_of c.args.table.now c.args.labelled.now)) None _ c.loop-at.at _ c.loop-at.invariant c.in_ok-goto_at.ensures)

pub returns-then-not-has_gotos : goal.returns-then-not-has_gotos
returns-then-not-has_gotos c =
    let all = c.in_ok-none.ensures.items_if_clones_equal (only_none _ (λ v e. e)) in
    none_named (scene_of c.args.table.now c.args.labelled.now) c.in_ok-none.none.items (sym c.has_gotos.ensures ∙ c.if-not-has_gotos.true) (search rules)
    (λ i low. ap (λ (column : List (Option ℕ)). slice_index_or column i None) all ∙ get_or-replicate _ i None None low)
