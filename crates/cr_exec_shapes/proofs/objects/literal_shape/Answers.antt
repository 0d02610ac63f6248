use Rattle.std.proofs.Common.{◌≡◌, subst, ◌∙◌, IfOk}
use Rattle.std.proofs.lemmas.List.{append-nil}
use Rattle.cr_exec_shapes.proofs.objects.literal_shape.Goals as goal

pub returns : goal.returns
returns c =
    subst (λ xs. IfOk c.new.result (λ all. all ≡ xs)) (append-nil c.in_ok-char_cells.field-0.items ∙ c.in_ok-char_cells.ensures) c.new.ensures
