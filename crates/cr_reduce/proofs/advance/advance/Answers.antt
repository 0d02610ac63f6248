use Rattle.cr_reduce.specs.Bench.{judging}
use Rattle.cr_reduce.specs.Search.{searching}
use Rattle.cr_reduce.specs.Walk.{AboutTried, state_of}
use Rattle.cr_reduce.specs.Walk.Advances.{moves}
use Rattle.cr_reduce.proofs.Parts.{made_before}
use Rattle.cr_reduce.proofs.Runs.{all_gained-refl, goes_on-refl}
use Rattle.cr_reduce.proofs.advance.advance.Goals as goal

pub returns-clause-advances : goal.returns-clause-advances
returns-clause-advances g c = λ is. moves (c.look.ensures.moved is)

pub returns-then-not-walk-clause-asks : goal.returns-then-not-walk-clause-asks
returns-then-not-walk-clause-asks g c = all_gained-refl (AboutTried (searching g.P.Passes c.args.passes.now g.L.Law c.args.law.now g.Q.Question c.args.question.now c.args.name.now g.J.Judge c.args.bench.now) (state_of (g.P.Passes.offer c.args.passes.now) c.args.walk.now)) (judging g.J.Judge c.args.bench.now).calls

pub returns-then-not-walk-clause-goes_on : goal.returns-then-not-walk-clause-goes_on
returns-then-not-walk-clause-goes_on g c = goes_on-refl (judging g.J.Judge c.args.bench.now)

pub returns-then-walk-clause-asks : goal.returns-then-walk-clause-asks
returns-then-walk-clause-asks g c = all_gained-refl (AboutTried (searching g.P.Passes c.args.passes.now g.L.Law c.args.law.now g.Q.Question c.args.question.now c.args.name.now g.J.Judge c.args.bench.now) (state_of (g.P.Passes.offer c.args.passes.now) c.args.walk.now)) (judging g.J.Judge c.args.bench.now).calls

pub returns-then-walk-clause-goes_on : goal.returns-then-walk-clause-goes_on
returns-then-walk-clause-goes_on g c = goes_on-refl (judging g.J.Judge c.args.bench.now)

pub returns-then-eq-clause-asks : goal.returns-then-eq-clause-asks
returns-then-eq-clause-asks g c = all_gained-refl (AboutTried (searching g.P.Passes c.args.passes.now g.L.Law c.args.law.now g.Q.Question c.args.question.now c.args.name.now g.J.Judge c.args.bench.now) (state_of (g.P.Passes.offer c.args.passes.now) c.args.walk.now)) (judging g.J.Judge c.args.bench.now).calls

pub returns-then-eq-clause-goes_on : goal.returns-then-eq-clause-goes_on
returns-then-eq-clause-goes_on g c = goes_on-refl (judging g.J.Judge c.args.bench.now)

pub returns-then-not-walk-clause-made : goal.returns-then-not-walk-clause-made
returns-then-not-walk-clause-made g c = made_before (searching g.P.Passes c.args.passes.now g.L.Law c.args.law.now g.Q.Question c.args.question.now c.args.name.now g.J.Judge c.args.bench.now) (judging g.J.Judge c.args.bench.now) c.requires.right

pub returns-then-walk-clause-made : goal.returns-then-walk-clause-made
returns-then-walk-clause-made g c = made_before (searching g.P.Passes c.args.passes.now g.L.Law c.args.law.now g.Q.Question c.args.question.now c.args.name.now g.J.Judge c.args.bench.now) (judging g.J.Judge c.args.bench.now) c.requires.right

pub returns-then-eq-clause-made : goal.returns-then-eq-clause-made
returns-then-eq-clause-made g c = made_before (searching g.P.Passes c.args.passes.now g.L.Law c.args.law.now g.Q.Question c.args.question.now c.args.name.now g.J.Judge c.args.bench.now) (judging g.J.Judge c.args.bench.now) c.requires.right
