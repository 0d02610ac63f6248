use Rattle.std.proofs.Common.{◌+◌, ◌∙◌, sym, ap}
use Rattle.cr_check_initialisers.specs.Steps.{places_of}
use Rattle.cr_check_initialisers.proofs.part.push_rest.Goals as goal

pub returns : goal.returns
unfolding places_of
returns c =
    rw (sym (c.in_ok-cell.ensures ∙ ap (λ n. c.args.cell + n) c.in_ok-cells_at.ensures)) c.push_frame.ensures
