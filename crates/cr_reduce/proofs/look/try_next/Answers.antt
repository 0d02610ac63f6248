use Rattle.std.proofs.Common.{arith}
use Rattle.cr_pool.specs.Bench.{Benched}
use Rattle.cr_pool.specs.Epoch.{EndsBy, Epoch, KeepsWhatWasMade}
use Rattle.cr_pool.specs.Jobs.{IsJudged}
use Rattle.cr_pool.specs.Tally.{tallies_of}
use Rattle.cr_reduce.specs.Search.{searching}
use Rattle.cr_reduce.specs.Walk.{state_of}
use Rattle.cr_reduce.proofs.Epochs.{are_made, asks_only, epoch_says, goes_on, job_is, same_keys}
use Rattle.cr_reduce.proofs.look.try_next.Goals as goal

pub returns-clause-says : goal.returns-clause-says
returns-clause-says g c =
    let bench : Benched g.row.J.Denot = c.args.bench.now in
    let new : Benched g.row.J.Denot = c.epoch.new.self in
    let s = searching g.P.Passes c.args.passes.now g.L.Law c.args.law.now g.Q.Question c.args.question.now c.args.name.now g.J.Judge bench in
    let st = state_of (g.P.Passes.offer c.args.passes.now) c.args.walk.now in
    let judged = job_is (g.P.Passes.offer c.args.passes.now c.args.walk.now.prep) s.Lawful s.asks s.Tells s.name st.position c.args.len s.kept
    (λ (e : Epoch). IsJudged g.J.Judge e bench.judges new.judges) c.args.walk.now.file.items c.deref.result.now c.deref.ensures.value c.epoch.ensures.judges in
    epoch_says g.J.Judge bench.judges new.judges judged.count s st c.args.len c.epoch.result (omega (arith, c.requires.placed, c.requires.sound.counted))
    (job_is (g.P.Passes.offer c.args.passes.now c.args.walk.now.prep) s.Lawful s.asks s.Tells s.name st.position c.args.len s.kept
    (λ (e : Epoch). EndsBy e (tallies_of g.J.Judge bench.judges) (tallies_of g.J.Judge new.judges) c.epoch.result) c.args.walk.now.file.items c.deref.result.now c.deref.ensures.value c.epoch.ensures.end)

pub returns-clause-asks : goal.returns-clause-asks
returns-clause-asks g c =
    let bench : Benched g.row.J.Denot = c.args.bench.now in
    let new : Benched g.row.J.Denot = c.epoch.new.self in
    let s = searching g.P.Passes c.args.passes.now g.L.Law c.args.law.now g.Q.Question c.args.question.now c.args.name.now g.J.Judge bench in
    let st = state_of (g.P.Passes.offer c.args.passes.now) c.args.walk.now in
    let judged = job_is (g.P.Passes.offer c.args.passes.now c.args.walk.now.prep) s.Lawful s.asks s.Tells s.name st.position c.args.len s.kept
    (λ (e : Epoch). IsJudged g.J.Judge e bench.judges new.judges) c.args.walk.now.file.items c.deref.result.now c.deref.ensures.value c.epoch.ensures.judges in
    asks_only g.J.Judge bench.judges new.judges judged.count s st c.args.len (omega (arith, c.requires.placed, c.requires.sound.counted)) judged.asks

pub returns-clause-few : goal.returns-clause-few
returns-clause-few g c = c.epoch.ensures.judges.asks.few

pub returns-clause-keys : goal.returns-clause-keys
returns-clause-keys g c = same_keys g.J.Judge c.args.bench.now.judges c.epoch.new.self.judges c.epoch.ensures.judges.count c.epoch.ensures.judges.keys

pub returns-clause-goes_on : goal.returns-clause-goes_on
returns-clause-goes_on g c =
    goes_on g.J.Judge c.args.bench.now.judges c.epoch.new.self.judges c.epoch.ensures.judges.count (searching g.P.Passes c.args.passes.now g.L.Law c.args.law.now g.Q.Question c.args.question.now c.args.name.now g.J.Judge c.args.bench.now)
    (state_of (g.P.Passes.offer c.args.passes.now) c.args.walk.now) c.args.len (returns-clause-asks g c) c.epoch.ensures.judges.later

pub returns-clause-made : goal.returns-clause-made
returns-clause-made g c =
    let bench : Benched g.row.J.Denot = c.args.bench.now in
    let new : Benched g.row.J.Denot = c.epoch.new.self in
    let s = searching g.P.Passes c.args.passes.now g.L.Law c.args.law.now g.Q.Question c.args.question.now c.args.name.now g.J.Judge bench in
    let st = state_of (g.P.Passes.offer c.args.passes.now) c.args.walk.now in
    are_made g.J.Judge bench.judges new.judges c.epoch.ensures.judges.count s st c.args.len new.kept c.epoch.ensures.kept
    (job_is (g.P.Passes.offer c.args.passes.now c.args.walk.now.prep) s.Lawful s.asks s.Tells s.name st.position c.args.len s.kept
    (λ (e : Epoch). KeepsWhatWasMade e (tallies_of g.J.Judge bench.judges) (tallies_of g.J.Judge new.judges) new.kept) c.args.walk.now.file.items c.deref.result.now c.deref.ensures.value c.epoch.ensures.made)
