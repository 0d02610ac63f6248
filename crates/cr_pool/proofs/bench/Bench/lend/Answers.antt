use Rattle.std.proofs.Common.{rules, ◌≡◌, refl}
use Rattle.cr_pool.specs.Crew.{judges_in}
use Rattle.cr_pool.proofs.Keys.{manned_by_keys}
use Rattle.cr_pool.proofs.bench.Bench.lend.Goals as goal

pub invariant_of-self : goal.invariant_of-self
invariant_of-self g c =
    let lent : judges_in c.replace-workers.result.items ≡ c.args.self.now.judges = search rules in
    manned_by_keys g.J.Judge.key c.args.self.now.judges (judges_in c.work-workers.result.0.items) (c.requires.back c.replace-workers.result c.work-workers.result lent c.work-workers.ensures) (search rules)

pub returns-clause-work : goal.returns-clause-work
returns-clause-work g c =
    let lent : judges_in c.replace-workers.result.items ≡ c.args.self.now.judges = search rules in
    (c.replace-workers.result, c.work-workers.result, lent, c.work-workers.ensures, refl, refl)
