use Rattle.std.proofs.Common.{◌≡◌, ◌++◌, List, drop, length, subst, sym, take, arith}
use Rattle.cr_pool.specs.declared.crew.Worker.{Worker}
use Rattle.cr_pool.specs.Bench.{Benched, epoch_on}
use Rattle.cr_pool.specs.Crew.{judges_in}
use Rattle.cr_pool.specs.Epoch.{BeginsRight, EndsBy, Epoch, Remembers}
use Rattle.cr_pool.specs.Jobs.{IsJudged}
use Rattle.cr_pool.specs.Tally.{tallies_of}
use Rattle.cr_pool.proofs.More.{written}
use Rattle.cr_pool.proofs.Remembering.{made_so, right_still}
use Rattle.cr_pool.proofs.bench.Bench.epoch.Goals as goal

pub try_by_some-requires-clause-right : goal.try_by_some-requires-clause-right
try_by_some-requires-clause-right g c = λ a b.
    let e : Benched g.row.J.Denot → Epoch = λ b. epoch_on g.P.Passes g.L.Law g.Q.Question g.J.Judge c.args.job.now b in
    let bench : List (Worker g.row.J.Denot) → Benched g.row.J.Denot = λ ws. record { judges = judges_in ws; kept = c.self.inside.verdicts; lost = c.self.inside.lost } in
    subst (λ (ws : List (Worker g.row.J.Denot)). BeginsRight (e (bench ws))) (sym c.deref_mut.ensures.value)
    (subst (λ b. BeginsRight (e b)) (sym c.self.view_is) c.requires.kept)

pub returns-clause-end : goal.returns-clause-end
returns-clause-end g c =
    let inside = c.self.inside.workers in
    let new = c.try_by_some.new.workers in
    let end = c.try_by_some.result in
    let e : Benched g.row.J.Denot → Epoch = λ b. epoch_on g.P.Passes g.L.Law g.Q.Question g.J.Judge c.args.job.now b in
    let bench : List (Worker g.row.J.Denot) → Benched g.row.J.Denot = λ ws. record { judges = judges_in ws; kept = c.self.inside.verdicts; lost = c.self.inside.lost } in
    let all = written inside.len new (drop (length new) inside.items) (omega (arith, c.try_by_some.auto.workers, c.deref_mut.ensures.len, inside.ok.0)) in
    let it : EndsBy (e (bench c.deref_mut.result.now)) (tallies_of g.J.Judge (judges_in c.deref_mut.result.now)) (tallies_of g.J.Judge (judges_in new)) end = c.try_by_some.ensures.end in
    subst (λ b. EndsBy (e b) (tallies_of g.J.Judge b.judges) (tallies_of g.J.Judge (judges_in (take inside.len (new ++ drop (length new) inside.items)))) end) c.self.view_is
    (subst (λ (ws : List (Worker g.row.J.Denot)). EndsBy (e (bench inside.items)) (tallies_of g.J.Judge (judges_in inside.items)) (tallies_of g.J.Judge (judges_in ws)) end) (sym all)
    (subst (λ (ws : List (Worker g.row.J.Denot)). EndsBy (e (bench ws)) (tallies_of g.J.Judge (judges_in ws)) (tallies_of g.J.Judge (judges_in new)) end) c.deref_mut.ensures.value it))

pub returns-clause-remembers : goal.returns-clause-remembers
returns-clause-remembers g c =
    let inside = c.self.inside.workers in
    let new = c.try_by_some.new.workers in
    let end = c.try_by_some.result in
    let kept = c.try_by_some.new.verdicts in
    let e : Benched g.row.J.Denot → Epoch = λ b. epoch_on g.P.Passes g.L.Law g.Q.Question g.J.Judge c.args.job.now b in
    let bench : List (Worker g.row.J.Denot) → Benched g.row.J.Denot = λ ws. record { judges = judges_in ws; kept = c.self.inside.verdicts; lost = c.self.inside.lost } in
    let all = written inside.len new (drop (length new) inside.items) (omega (arith, c.try_by_some.auto.workers, c.deref_mut.ensures.len, inside.ok.0)) in
    let lost = c.try_by_some.new.lost in
    let it : Remembers (e (bench c.deref_mut.result.now)) (tallies_of g.J.Judge (judges_in c.deref_mut.result.now)) (tallies_of g.J.Judge (judges_in new)) end kept lost = c.try_by_some.ensures.remembers in
    subst (λ b. Remembers (e b) (tallies_of g.J.Judge b.judges) (tallies_of g.J.Judge (judges_in (take inside.len (new ++ drop (length new) inside.items)))) end kept lost) c.self.view_is
    (subst (λ (ws : List (Worker g.row.J.Denot)). Remembers (e (bench inside.items)) (tallies_of g.J.Judge (judges_in inside.items)) (tallies_of g.J.Judge (judges_in ws)) end kept lost) (sym all)
    (subst (λ (ws : List (Worker g.row.J.Denot)). Remembers (e (bench ws)) (tallies_of g.J.Judge (judges_in ws)) (tallies_of g.J.Judge (judges_in new)) end kept lost) c.deref_mut.ensures.value it))

pub returns-clause-kept : goal.returns-clause-kept
returns-clause-kept g c =
    let inside = c.self.inside.workers in
    let new = c.try_by_some.new.workers in
    let e : Epoch = epoch_on g.P.Passes g.L.Law g.Q.Question g.J.Judge c.args.job.now c.args.self.now in
    right_still e (tallies_of g.J.Judge c.args.self.now.judges) (tallies_of g.J.Judge (judges_in (take inside.len (new ++ drop (length new) inside.items))))
    c.requires.kept c.try_by_some.result c.try_by_some.new.verdicts c.try_by_some.new.lost (returns-clause-remembers g c)

pub returns-clause-made : goal.returns-clause-made
returns-clause-made g c =
    let inside = c.self.inside.workers in
    let new = c.try_by_some.new.workers in
    let e : Epoch = epoch_on g.P.Passes g.L.Law g.Q.Question g.J.Judge c.args.job.now c.args.self.now in
    made_so e (tallies_of g.J.Judge c.args.self.now.judges) (tallies_of g.J.Judge (judges_in (take inside.len (new ++ drop (length new) inside.items))))
    c.requires.kept c.try_by_some.result c.try_by_some.new.verdicts c.try_by_some.new.lost (returns-clause-remembers g c)

pub returns-clause-judges : goal.returns-clause-judges
returns-clause-judges g c =
    let inside = c.self.inside.workers in
    let new = c.try_by_some.new.workers in
    let e : Benched g.row.J.Denot → Epoch = λ b. epoch_on g.P.Passes g.L.Law g.Q.Question g.J.Judge c.args.job.now b in
    let bench : List (Worker g.row.J.Denot) → Benched g.row.J.Denot = λ ws. record { judges = judges_in ws; kept = c.self.inside.verdicts; lost = c.self.inside.lost } in
    let all = written inside.len new (drop (length new) inside.items) (omega (arith, c.try_by_some.auto.workers, c.deref_mut.ensures.len, inside.ok.0)) in
    let it : IsJudged g.J.Judge (e (bench c.deref_mut.result.now)) (judges_in c.deref_mut.result.now) (judges_in new) = c.try_by_some.ensures.judges in
    subst (λ b. IsJudged g.J.Judge (e b) b.judges (judges_in (take inside.len (new ++ drop (length new) inside.items)))) c.self.view_is
    (subst (λ (ws : List (Worker g.row.J.Denot)). IsJudged g.J.Judge (e (bench inside.items)) (judges_in inside.items) (judges_in ws)) (sym all)
    (subst (λ (ws : List (Worker g.row.J.Denot)). IsJudged g.J.Judge (e (bench ws)) (judges_in ws) (judges_in new)) c.deref_mut.ensures.value it))

pub returns-clause-others : goal.returns-clause-others
returns-clause-others g c =
    let inside = c.self.inside.workers in
    let new = c.try_by_some.new.workers in
    let n = c.args.job.now.workers in
    let all = written inside.len new (drop (length new) inside.items) (omega (arith, c.try_by_some.auto.workers, c.deref_mut.ensures.len, inside.ok.0)) in
    subst (λ (b : Benched g.row.J.Denot). drop n (judges_in (take inside.len (new ++ drop (length new) inside.items))) ≡ drop n b.judges) c.self.view_is
    (subst (λ (ws : List (Worker g.row.J.Denot)). drop n (judges_in ws) ≡ drop n (judges_in inside.items)) (sym all)
    (subst (λ (ws : List (Worker g.row.J.Denot)). drop n (judges_in new) ≡ drop n (judges_in ws)) c.deref_mut.ensures.value c.try_by_some.ensures.others))
