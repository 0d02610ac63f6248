use Rattle.std.proofs.Common.{map, slice_index_or, ◌∙◌}
use Rattle.cr_check_types.specs.Types.{type_at}
use Rattle.cr_check_expressions.specs.Breaks.{first_of}
use Rattle.cr_check_declarators.specs.Specifiers.{nothing}
use Rattle.cr_check_linkage.specs.NameTypes.{type_as}
use Rattle.cr_check_linkage.specs.Faults.{faults_in}
use Rattle.cr_check_unit.proofs.Later.{past_handed}
use Rattle.cr_check_unit.proofs.entry.linked_broken.Goals as goal

pub returns : goal.returns
returns c =
    let shapes = c.args.table.now in
    let n = c.args.node.now in
    let u = c.args.tree.now in
    let t = c.args.typing.now in
    let e = c.args.entry.now in
    let columns = c.columns_of-columns.result in
    let columns_are = c.columns_of-columns.ensures in
    let links = c.links_of-links.result in
    let links_are = c.links_of-links.ensures in
    let handed = past_handed shapes t columns links columns_are.declared columns_are.named columns_are.parameters links_are.linked
    links_are.composites links_are.parameters in
    let rows = c.as_slice.ensures in
    c.linkage_break.ensures
    ∙ (λ s. first_of (faults_in n.kind e.linked u (λ p. slice_index_or (columns_are.specified s) p nothing) e.own.declarator (handed s)
    (type_as e.declared (type_at shapes e.own.named) (map (type_at shapes) (rows s))) c.args.at n))
