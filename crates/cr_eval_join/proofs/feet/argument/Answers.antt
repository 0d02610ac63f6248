use Rattle.std.proofs.Common.{ap, ◌∙◌}
use Rattle.cr_footprint.specs.Foot.{Sets, sets, then_of}
use Rattle.cr_eval_join.proofs.Arguments.{argues, wanting}
use Rattle.cr_eval_join.proofs.feet.argument.Goals as goal

pub returns-in-Ok : goal.returns-in-Ok
returns-in-Ok c = λ number events rest first later.
    let f = sets c.args.foot in
    argues number events rest f (sets c.args.later) (sets c.in-Ok.settled) c.beside.result first.same
    (c.in-Ok.ensures.joined ∙ ap (λ (g : Sets). then_of f g) c.none.ensures) later.same c.beside.ensures

pub returns-in-Err : goal.returns-in-Err
returns-in-Err c = λ number events rest first later. wanting number events rest c.in-Err.trap c.in-Err.ensures.causes
