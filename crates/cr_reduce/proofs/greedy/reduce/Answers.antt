use Rattle.std.proofs.Common.{ap, refl}
use Rattle.cr_reduce.specs.declared.end.Why.TheVariants.{NoMemory}
use Rattle.cr_reduce.specs.Bench.{judging}
use Rattle.cr_reduce.specs.Ends.{IsUntouched}
use Rattle.cr_reduce.specs.Reduction.{start_of}
use Rattle.cr_reduce.specs.Search.{AboutCandidate, searching}
use Rattle.cr_reduce.specs.Walk.{state_of}
use Rattle.cr_reduce.proofs.Bounds.{in_time}
use Rattle.cr_reduce.proofs.Ends.{asks_of_walk, chain_of_walk, few_of_walk, rejected_of_chain, told_of_chain, fixed_as_told, nothing_done}
use Rattle.cr_reduce.proofs.Parts.{made_before, right_by_made}
use Rattle.cr_reduce.proofs.Runs.{all_gained-refl, goes_on-refl}
use Rattle.cr_reduce.proofs.greedy.reduce.Goals as goal

pub returns-in-Ok-clause-chain : goal.returns-in-Ok-clause-chain
returns-in-Ok-clause-chain g c =
    let s = searching g.P.Passes c.args.passes.now g.L.Law c.args.law.now g.Q.Question c.args.question.now c.args.name.now g.J.Judge c.args.bench.now in
    chain_of_walk s (judging g.J.Judge c.args.bench.now) (judging g.J.Judge c.walk_on-why.new.bench) (g.P.Passes.offer c.args.passes.now) c.args.plan.now.limit c.args.file.items
    (start_of c.args.file.items) (IsUntouched c.args.file.items) (g.P.Passes.offer c.args.passes.now c.in-Ok.walk.prep c.args.file.items) (state_of (g.P.Passes.offer c.args.passes.now) c.in-Ok.walk) c.walk_on-why.new.walk c.walk_on-why.result c.end_of.result c.in-Ok.ensures.offered c.in-Ok.ensures.start c.end_of.ensures c.walk_on-why.ensures.walked c.walk_on-why.ensures.ended c.walk_on-why.ensures.placed c.walk_on-why.ensures.within

pub returns-in-Ok-clause-all_rejected : goal.returns-in-Ok-clause-all_rejected
returns-in-Ok-clause-all_rejected g c = rejected_of_chain (searching g.P.Passes c.args.passes.now g.L.Law c.args.law.now g.Q.Question c.args.question.now c.args.name.now g.J.Judge c.args.bench.now)
    (judging g.J.Judge c.args.bench.now) (judging g.J.Judge c.walk_on-why.new.bench) c.args.plan.now.limit c.args.file.items c.end_of.result (returns-in-Ok-clause-chain g c)

pub returns-in-Ok-clause-reduction : goal.returns-in-Ok-clause-reduction
returns-in-Ok-clause-reduction g c = told_of_chain (searching g.P.Passes c.args.passes.now g.L.Law c.args.law.now g.Q.Question c.args.question.now c.args.name.now g.J.Judge c.args.bench.now)
    (judging g.J.Judge c.args.bench.now) (judging g.J.Judge c.walk_on-why.new.bench) c.args.plan.now.limit c.args.file.items c.end_of.result (returns-in-Ok-clause-chain g c)

pub returns-in-Ok-clause-fixed_point : goal.returns-in-Ok-clause-fixed_point
returns-in-Ok-clause-fixed_point g c = λ told is.
    let s = searching g.P.Passes c.args.passes.now g.L.Law c.args.law.now g.Q.Question c.args.question.now c.args.name.now g.J.Judge c.args.bench.now in
    fixed_as_told s (judging g.J.Judge c.args.bench.now) (judging g.J.Judge c.walk_on-why.new.bench) c.end_of.result.file.items told (returns-in-Ok-clause-all_rejected g c is)

pub returns-in-Ok-clause-in_time : goal.returns-in-Ok-clause-in_time
returns-in-Ok-clause-in_time g c = in_time (searching g.P.Passes c.args.passes.now g.L.Law c.args.law.now g.Q.Question c.args.question.now c.args.name.now g.J.Judge c.args.bench.now)
    (judging g.J.Judge c.args.bench.now) (judging g.J.Judge c.walk_on-why.new.bench) c.args.plan.now.limit c.args.file.items c.end_of.result c.end_of.result.why (returns-in-Ok-clause-chain g c)

pub returns-in-Err-clause-chain : goal.returns-in-Err-clause-chain
returns-in-Err-clause-chain g c =
    let s = searching g.P.Passes c.args.passes.now g.L.Law c.args.law.now g.Q.Question c.args.question.now c.args.name.now g.J.Judge c.args.bench.now in
    nothing_done s (judging g.J.Judge c.args.bench.now) (judging g.J.Judge c.args.bench.now) c.args.plan.now.limit c.args.file.items (record { file = c.in-Err.file; accepted = c.new.result; turns = 0; why = NoMemory }) (ap (λ v. v.items) c.in-Err.ensures.back) c.new.ensures.items refl refl

pub returns-in-Err-clause-reduction : goal.returns-in-Err-clause-reduction
returns-in-Err-clause-reduction g c =
    told_of_chain (searching g.P.Passes c.args.passes.now g.L.Law c.args.law.now g.Q.Question c.args.question.now c.args.name.now g.J.Judge c.args.bench.now)
    (judging g.J.Judge c.args.bench.now) (judging g.J.Judge c.args.bench.now) c.args.plan.now.limit c.args.file.items (record { file = c.in-Err.file; accepted = c.new.result; turns = 0; why = NoMemory }) (returns-in-Err-clause-chain g c)

pub returns-in-Ok-clause-goes_on : goal.returns-in-Ok-clause-goes_on
returns-in-Ok-clause-goes_on g c = c.walk_on-why.ensures.walked.goes_on

pub returns-in-Err-clause-goes_on : goal.returns-in-Err-clause-goes_on
returns-in-Err-clause-goes_on g c = goes_on-refl (judging g.J.Judge c.args.bench.now)

pub returns-in-Ok-clause-asks_only : goal.returns-in-Ok-clause-asks_only
returns-in-Ok-clause-asks_only g c = asks_of_walk (searching g.P.Passes c.args.passes.now g.L.Law c.args.law.now g.Q.Question c.args.question.now c.args.name.now g.J.Judge c.args.bench.now)
    (judging g.J.Judge c.args.bench.now) (judging g.J.Judge c.walk_on-why.new.bench) (g.P.Passes.offer c.args.passes.now) c.args.file.items (g.P.Passes.offer c.args.passes.now c.in-Ok.walk.prep c.args.file.items)
    (state_of (g.P.Passes.offer c.args.passes.now) c.in-Ok.walk) c.walk_on-why.new.walk c.walk_on-why.result c.end_of.result c.in-Ok.ensures.start c.end_of.ensures c.walk_on-why.ensures.walked

pub returns-in-Ok-clause-few : goal.returns-in-Ok-clause-few
returns-in-Ok-clause-few g c = few_of_walk c.args.plan.now.window (judging g.J.Judge c.args.bench.now) (judging g.J.Judge c.walk_on-why.new.bench) (g.P.Passes.offer c.args.passes.now) c.args.file.items
    (g.P.Passes.offer c.args.passes.now c.in-Ok.walk.prep c.args.file.items) (state_of (g.P.Passes.offer c.args.passes.now) c.in-Ok.walk) c.walk_on-why.new.walk c.walk_on-why.result c.end_of.result
    c.in-Ok.ensures.start c.end_of.ensures c.walk_on-why.ensures.few

pub returns-in-Err-clause-asks_only : goal.returns-in-Err-clause-asks_only
returns-in-Err-clause-asks_only g c = all_gained-refl (AboutCandidate (searching g.P.Passes c.args.passes.now g.L.Law c.args.law.now g.Q.Question c.args.question.now c.args.name.now g.J.Judge c.args.bench.now) c.args.file.items c.new.result.items) (judging g.J.Judge c.args.bench.now).calls

pub returns-in-Ok-clause-right : goal.returns-in-Ok-clause-right
returns-in-Ok-clause-right g c = right_by_made (searching g.P.Passes c.args.passes.now g.L.Law c.args.law.now g.Q.Question c.args.question.now c.args.name.now g.J.Judge c.args.bench.now)
    (judging g.J.Judge c.args.bench.now) (judging g.J.Judge c.walk_on-why.new.bench) c.walk_on-why.new.bench.kept c.walk_on-why.ensures.made

pub returns-in-Err-clause-made : goal.returns-in-Err-clause-made
returns-in-Err-clause-made g c = made_before (searching g.P.Passes c.args.passes.now g.L.Law c.args.law.now g.Q.Question c.args.question.now c.args.name.now g.J.Judge c.args.bench.now) (judging g.J.Judge c.args.bench.now) c.requires.right
