use Rattle.std.proofs.Common.{[], ◌∷◌, refl}
use Rattle.cr_footprint.specs.Cell.{Cell}
use Rattle.cr_meaning.specs.Events.{Touches, Writes, own}
use Rattle.cr_eval_join.proofs.Own.{read_below, updates, first_fails}
use Rattle.cr_eval_join.proofs.feet.with_touch_and_write.Goals as goal

pub returns-in-Ok : goal.returns-in-Ok
returns-in-Ok c = λ all below is.
    let cell : Cell = (c.args.object, c.args.cell) in
    let first = c.in-Ok.ensures all below is in
    updates Touches cell all c.with_write.result refl first.0 (c.with_write.ensures (own Touches cell ∷ all) (read_below Touches cell all refl below) first.1)

pub returns-in-Err : goal.returns-in-Err
returns-in-Err c = λ all below is.
    let cell : Cell = (c.args.object, c.args.cell) in
    first_fails (own Touches cell) (own Writes cell ∷ []) all c.in-Err.trap (c.in-Err.ensures all below is)
