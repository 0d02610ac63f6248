use Rattle.cr_footprint.specs.Foot.{sets}
use Rattle.cr_eval_join.proofs.Own.{unites}
use Rattle.cr_eval_join.proofs.feet.beside.Goals as goal

pub returns : goal.returns
returns c =
    rw c.trapped.ensures (unites (sets c.args.left) (sets c.args.right) c.beside.result c.beside.ensures.joined c.beside.ensures.apart c.beside.ensures.conflict)
