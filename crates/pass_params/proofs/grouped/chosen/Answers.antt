use Rattle.std.proofs.Common.{◌≡◌, ◌∙◌, ◌<◌, [], length, rules, slice_index_or, subst, sym}
use Rattle.pass_params.specs.Grouped.{items_of}
use Rattle.pass_params.proofs.Grouping.{no_items, own_row}
use Rattle.pass_params.proofs.grouped.chosen.Goals as goal

pub returns-in-None : goal.returns-in-None
returns-in-None c = λ number_by grouped.
    subst (λ n. [] ≡ items_of number_by n c.args.all.now) (sym c.in-None.is) (sym (no_items number_by c.args.all.now))

pub returns-in-Some-get : goal.returns-in-Some-get
returns-in-Some-get c = λ number_by grouped.
    let entity = c.in-Some.entity in
    let there : entity < length c.args.rows.now = search rules in
    let row : c.in-Some-get.row.now ≡ slice_index_or c.args.rows.now entity [] = search rules in
    subst (λ n. items_of number_by n c.as_slice.result.now ≡ items_of number_by n c.args.all.now) (sym c.in-Some.is)
    (own_row number_by entity c.args.all.now c.as_slice.result.now (c.as_slice.ensures ∙ row ∙ grouped entity there))
