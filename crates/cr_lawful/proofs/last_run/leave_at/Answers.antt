use Rattle.std.proofs.Common.{◌≡◌, subst, sym}
use Rattle.cr_lawful.specs.Runs.{ComesToEnd}
use Rattle.cr_lawful.proofs.last_run.leave_at.Goals as goal

pub leave-requires : goal.leave-requires
leave-requires c =
    let same : c.in-Ok.bytes.items ≡ c.args.file.now = c.in-Ok.ensures.items_if_clones_equal (λ x y e. e) in
    subst (λ bytes. ComesToEnd c.args.limits bytes c.args.end.status c.args.end.output) (sym same) c.requires
