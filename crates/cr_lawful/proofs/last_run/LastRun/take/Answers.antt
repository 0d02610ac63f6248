use Rattle.std.proofs.Common.{refl, subst}
use Rattle.cr_lawful.specs.Runs.{ComesToEnd}
use Rattle.cr_lawful.proofs.last_run.LastRun.take.Goals as goal

pub returns : goal.returns
returns c =
    let same = c.if-not-is_of.ensures refl in
    let known = c.in_ok-known.known in
    subst (λ limits. ComesToEnd limits c.args.file.now known.end.status known.end.output) same.0
    (subst (λ bytes. ComesToEnd known.limits bytes known.end.status known.end.output) same.1 known.came)
