use Rattle.std.proofs.Common.{Option, subst, rules}
use Rattle.cr_journal.proofs.Ended.{front, of_all, still_rests, wants}
use Rattle.cr_journal.specs.Keeping.{journal_of}
use Rattle.cr_journal_records.specs.Records.{AtRest, IsKept}
use Rattle.cr_outside.specs.Story.{Story}
use Rattle.cr_outside_disk.specs.Moments.{AlwaysTold, EveryTold}
use Rattle.cr_reduce.specs.Bench.{says_of}
use Rattle.cr_reduce.specs.Search.{searching}
use Rattle.cr_journal.proofs.reduction.reduce_kept.Goals as goal

pub returns-then-keeper-clause-goes_on : goal.returns-then-keeper-clause-goes_on
returns-then-keeper-clause-goes_on g c = (
  c.resume-end.result,
  wants c.resume-end.result.why _ (λ some. (c.resume-end.ensures.keeps some).fine) c.if-keeper.true,
  record {
    chain = c.resume-end.ensures.chain;
    all_rejected = c.resume-end.ensures.all_rejected;
    reduction = c.resume-end.ensures.reduction;
    fixed_point = c.resume-end.ensures.fixed_point;
    asks_only = c.resume-end.ensures.asks_only;
    few = c.resume-end.ensures.few;
    cause = c.resume-end.ensures.cause;
  },
)

pub returns-then-keeper-clause-front : goal.returns-then-keeper-clause-front
returns-then-keeper-clause-front g c = (
  c.resume-end.result,
  wants c.resume-end.result.why _ (λ some. (c.resume-end.ensures.keeps some).fine) c.if-keeper.true,
  λ header rests.
      subst (λ (told : Option Story). AlwaysTold (IsKept (journal_of header c.resume-end.result.accepted.items)) (g.D.Outside.story c.args.disk.now) told) (search rules)
      (front _ _ c.args.kept.accepted.items c.resume-end.result.accepted.items _ _ _ _ c.resume-end.ensures.kept_on header rests),
)

pub returns-then-keeper-clause-any_moment : goal.returns-then-keeper-clause-any_moment
returns-then-keeper-clause-any_moment g c = λ told out whole header rests.
    let s = searching g.P.Passes c.args.passes.now g.L.Law c.args.law.now g.Q.Question c.args.question.now c.args.name.now g.J.Judge c.args.bench.now in
    subst (λ (told : Option Story). AlwaysTold (IsKept (journal_of header out.accepted)) (g.D.Outside.story c.args.disk.now) told) (search rules)
    (of_all s c.args.kept c.args.plan.now.limit c.resume-end.result (c.a_reduction_cut_short_accepts_a_front.ensures (says_of g.J.Judge c.args.bench.now) c.args.name.now c.args.bench.now.kept
    c.args.plan.now.limit c.args.kept c.resume-end.result (c.resume-end.ensures.reduction told)) out whole header _ _
    (front _ _ c.args.kept.accepted.items c.resume-end.result.accepted.items _ _ _ _ c.resume-end.ensures.kept_on header rests))

pub returns-clause-front : goal.returns-clause-front
returns-clause-front g c = λ header rests.
    subst (λ (told : Option Story). AlwaysTold (IsKept (journal_of header c.resume-end.result.accepted.items)) (g.D.Outside.story c.args.disk.now) told) (search rules)
    (front _ _ c.args.kept.accepted.items c.resume-end.result.accepted.items _ _ _ _ c.resume-end.ensures.kept_on header rests)

pub returns-clause-any_moment : goal.returns-clause-any_moment
returns-clause-any_moment g c = λ told out whole header rests.
    let s = searching g.P.Passes c.args.passes.now g.L.Law c.args.law.now g.Q.Question c.args.question.now c.args.name.now g.J.Judge c.args.bench.now in
    subst (λ (told : Option Story). AlwaysTold (IsKept (journal_of header out.accepted)) (g.D.Outside.story c.args.disk.now) told) (search rules)
    (of_all s c.args.kept c.args.plan.now.limit c.resume-end.result (c.a_reduction_cut_short_accepts_a_front.ensures (says_of g.J.Judge c.args.bench.now) c.args.name.now c.args.bench.now.kept
    c.args.plan.now.limit c.args.kept c.resume-end.result (c.resume-end.ensures.reduction told)) out whole header _ _
    (front _ _ c.args.kept.accepted.items c.resume-end.result.accepted.items _ _ _ _ c.resume-end.ensures.kept_on header rests))

pub returns-clause-rests : goal.returns-clause-rests
returns-clause-rests g c = λ some header rests.
    subst (λ (told : Option Story). EveryTold (AtRest (journal_of header c.resume-end.result.accepted.items)) told) (search rules)
    (still_rests _ _ c.args.kept.accepted.items c.resume-end.result.accepted.items _ _ _ _ c.resume-end.ensures.kept_on _ _ (c.resume-end.ensures.keeps some) header rests)
