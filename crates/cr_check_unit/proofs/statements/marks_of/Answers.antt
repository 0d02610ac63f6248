use Rattle.std.proofs.Common.{map, sym, ap, subst, ◌∙◌}
use Rattle.cr_check_labels.specs.Labelled.{scene_of}
use Rattle.cr_check_labels.specs.Again.{AreAgain}
use Rattle.cr_check_labels.specs.Gotos.{AreLabels}
use Rattle.cr_check_unit.specs.Statements.{labelled_in, result_in}
use Rattle.cr_check_unit.proofs.Unit.{again_in, labels_in}
use Rattle.cr_check_unit.proofs.statements.marks_of.Goals as goal

pub returns : goal.returns
returns c =
    let shapes = c.args.table.now in
    let handed = scene_of shapes c.labelled_of-labelled.result in
    let scene = labelled_in shapes c.args.tree.now c.args.typing.now in
    let is = c.labelled_of-labelled.ensures.scene shapes in
    record {
      results = c.from_vec.ensures ∙ c.in_ok-results.ensures ∙ ap (λ xs. map (result_in xs) c.args.tree.now.nodes.now) c.as_slice.ensures;
      again = subst (AreAgain scene) (sym c.from_vec-2.ensures) (again_in handed scene c.in_ok-again.again.items is c.in_ok-again.ensures);
      labels = subst (AreLabels scene) (sym c.from_vec-3.ensures) (labels_in handed scene c.in_ok-labels.labels.items is c.in_ok-labels.ensures);
    }
