use Rattle.std.proofs.Common.{Bool, false, List, slice_index_or, ap, sym, ◌∙◌, rules, arith}
use Rattle.std.proofs.Math.ListN.{get_or-replicate}
use Rattle.cr_check_labels.specs.Labelled.{scene_of}
use Rattle.cr_check_labels.proofs.Columns.{none_again}
use Rattle.cr_check_labels.proofs.repeating.again.Goals as goal

pub returns-then-not-has_labels : goal.returns-then-not-has_labels
returns-then-not-has_labels c =
    let all = c.in_ok-none.ensures.items_if_clones_equal (λ y e. e) in
    none_again (scene_of c.args.table.now c.args.labelled.now) c.in_ok-none.none.items (sym c.has_labels.ensures ∙ c.if-not-has_labels.true) (search rules)
    (λ i low. ap (λ (column : List Bool). slice_index_or column i false) all ∙ get_or-replicate _ i false false low)
