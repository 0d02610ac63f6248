use Rattle.std.proofs.Common.{◌≡◌, IfOk, ap, subst, ◌∙◌}
use Rattle.cr_check_types.specs.Types.{type_at, type_by}
use Rattle.cr_exec_shapes.proofs.Rows.{array_named}
use Rattle.cr_exec_shapes.proofs.names.name.Goals as goal

pub returns-in-Array : goal.returns-in-Array
returns-in-Array c =
    let t = c.args.typed.now in
    let is = c.shape.ensures.is ∙ ap (λ of. type_by of c.shape.result.constant c.shape.result.volatile (type_at t.shapes)) c.in-Array.is in
    subst (λ named. IfOk c.in_turn-in-Array.result (λ name. name ≡ named)) (array_named t c.args.row _ _ _ c.requires.within is c.first_alike.ensures)
    c.in_turn-in-Array.ensures
