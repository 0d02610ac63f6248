use Rattle.std.proofs.Common.{◌≡◌, ap, refl, subst, sym, List, [], ◌∙◌, arith}
use Rattle.std.proofs.lemmas.List.{append-nil}
use Rattle.cr_reduce.specs.declared.end.Accepted.{Accepted}
use Rattle.cr_reduce.specs.declared.end.End.{End}
use Rattle.cr_reduce.specs.Bench.{judging}
use Rattle.cr_reduce.specs.Ends.{FaultsWithCause}
use Rattle.cr_reduce.specs.Keeping.{AsksFewOn, IsAsKept, end_as_kept, goes_on_at}
use Rattle.cr_reduce.specs.Search.{AboutCandidate, searching}
use Rattle.cr_reduce.specs.Walk.{state_of}
use Rattle.cr_reduce.proofs.Ends.{asks_behind, chain_of_walk, few_behind, rejected_on, told_on, fixed_as_told, nothing_more}
use Rattle.cr_reduce.proofs.Parts.{made_before, right_by_made}
use Rattle.cr_reduce.proofs.Runs.{all_gained-refl, goes_on-refl}
use Rattle.cr_reduce.proofs.resuming.resume.Goals as goal

pub returns-in-Ok-clause-chain : goal.returns-in-Ok-clause-chain
returns-in-Ok-clause-chain g c =
    chain_of_walk (searching g.P.Passes c.args.passes.now g.L.Law c.args.law.now g.Q.Question c.args.question.now c.args.name.now g.J.Judge c.args.bench.now)
    (judging g.J.Judge c.args.bench.now) (judging g.J.Judge c.walk_on-why.new.bench) (g.P.Passes.offer c.args.passes.now) c.args.plan.now.limit c.args.kept.file.items (goes_on_at c.args.kept) (IsAsKept c.args.kept)
    (g.P.Passes.offer c.args.passes.now c.in-Ok.walk.prep c.args.kept.file.items) (state_of (g.P.Passes.offer c.args.passes.now) c.in-Ok.walk) c.walk_on-why.new.walk c.walk_on-why.result c.end_of.result c.in-Ok.ensures.offered c.in-Ok.ensures.start c.end_of.ensures c.walk_on-why.ensures.walked c.walk_on-why.ensures.ended c.walk_on-why.ensures.placed c.walk_on-why.ensures.within

pub returns-in-Ok-clause-all_rejected : goal.returns-in-Ok-clause-all_rejected
returns-in-Ok-clause-all_rejected g c = rejected_on (searching g.P.Passes c.args.passes.now g.L.Law c.args.law.now g.Q.Question c.args.question.now c.args.name.now g.J.Judge c.args.bench.now)
    (judging g.J.Judge c.args.bench.now) (judging g.J.Judge c.walk_on-why.new.bench) c.args.plan.now.limit c.args.kept c.end_of.result (returns-in-Ok-clause-chain g c)

pub returns-in-Ok-clause-reduction : goal.returns-in-Ok-clause-reduction
returns-in-Ok-clause-reduction g c = told_on (searching g.P.Passes c.args.passes.now g.L.Law c.args.law.now g.Q.Question c.args.question.now c.args.name.now g.J.Judge c.args.bench.now)
    (judging g.J.Judge c.args.bench.now) (judging g.J.Judge c.walk_on-why.new.bench) c.args.plan.now.limit c.args.kept c.end_of.result (returns-in-Ok-clause-chain g c)

pub returns-in-Ok-clause-fixed_point : goal.returns-in-Ok-clause-fixed_point
returns-in-Ok-clause-fixed_point g c = λ begins told is.
    fixed_as_told (searching g.P.Passes c.args.passes.now g.L.Law c.args.law.now g.Q.Question c.args.question.now c.args.name.now g.J.Judge c.args.bench.now)
    (judging g.J.Judge c.args.bench.now) (judging g.J.Judge c.walk_on-why.new.bench) c.end_of.result.file.items told (returns-in-Ok-clause-all_rejected g c begins is)

pub returns-in-Ok-clause-asks_only : goal.returns-in-Ok-clause-asks_only
returns-in-Ok-clause-asks_only g c = asks_behind (searching g.P.Passes c.args.passes.now g.L.Law c.args.law.now g.Q.Question c.args.question.now c.args.name.now g.J.Judge c.args.bench.now)
    (judging g.J.Judge c.args.bench.now) (judging g.J.Judge c.walk_on-why.new.bench) (g.P.Passes.offer c.args.passes.now) c.args.kept (g.P.Passes.offer c.args.passes.now c.in-Ok.walk.prep c.args.kept.file.items)
    (state_of (g.P.Passes.offer c.args.passes.now) c.in-Ok.walk) c.walk_on-why.new.walk c.walk_on-why.result c.end_of.result c.in-Ok.ensures.start c.end_of.ensures c.walk_on-why.ensures.walked

pub returns-in-Ok-clause-few : goal.returns-in-Ok-clause-few
returns-in-Ok-clause-few g c = few_behind c.args.plan.now.window (judging g.J.Judge c.args.bench.now) (judging g.J.Judge c.walk_on-why.new.bench) (g.P.Passes.offer c.args.passes.now) c.args.kept (g.P.Passes.offer c.args.passes.now c.in-Ok.walk.prep c.args.kept.file.items)
    (state_of (g.P.Passes.offer c.args.passes.now) c.in-Ok.walk) c.walk_on-why.new.walk c.walk_on-why.result c.end_of.result c.in-Ok.ensures.start c.end_of.ensures c.walk_on-why.ensures.few

pub returns-in-Ok-clause-goes_on : goal.returns-in-Ok-clause-goes_on
returns-in-Ok-clause-goes_on g c = c.walk_on-why.ensures.walked.goes_on

pub returns-in-Ok-clause-right : goal.returns-in-Ok-clause-right
returns-in-Ok-clause-right g c = right_by_made (searching g.P.Passes c.args.passes.now g.L.Law c.args.law.now g.Q.Question c.args.question.now c.args.name.now g.J.Judge c.args.bench.now)
    (judging g.J.Judge c.args.bench.now) (judging g.J.Judge c.walk_on-why.new.bench) c.walk_on-why.new.bench.kept c.walk_on-why.ensures.made

pub returns-in-Err-clause-chain : goal.returns-in-Err-clause-chain
returns-in-Err-clause-chain g c =
    let is : c.not_gone_on.result ≡ end_as_kept c.args.kept = c.not_gone_on.ensures ∙ ap end_as_kept c.in-Err.ensures.back in
    nothing_more (searching g.P.Passes c.args.passes.now g.L.Law c.args.law.now g.Q.Question c.args.question.now c.args.name.now g.J.Judge c.args.bench.now)
    (judging g.J.Judge c.args.bench.now) (judging g.J.Judge c.args.bench.now) c.args.plan.now.limit c.args.kept c.not_gone_on.result
    (ap (λ (e : End). e.file.items) is) (ap (λ (e : End). e.accepted.items) is) (ap (λ (e : End). e.turns) is) c.requires.within (ap (λ (e : End). e.why) is)

pub returns-in-Err-clause-reduction : goal.returns-in-Err-clause-reduction
returns-in-Err-clause-reduction g c = told_on (searching g.P.Passes c.args.passes.now g.L.Law c.args.law.now g.Q.Question c.args.question.now c.args.name.now g.J.Judge c.args.bench.now)
    (judging g.J.Judge c.args.bench.now) (judging g.J.Judge c.args.bench.now) c.args.plan.now.limit c.args.kept c.not_gone_on.result (returns-in-Err-clause-chain g c)

pub returns-in-Err-clause-all_rejected : goal.returns-in-Err-clause-all_rejected
returns-in-Err-clause-all_rejected g c = rejected_on (searching g.P.Passes c.args.passes.now g.L.Law c.args.law.now g.Q.Question c.args.question.now c.args.name.now g.J.Judge c.args.bench.now)
    (judging g.J.Judge c.args.bench.now) (judging g.J.Judge c.args.bench.now) c.args.plan.now.limit c.args.kept c.not_gone_on.result (returns-in-Err-clause-chain g c)

pub returns-in-Err-clause-fixed_point : goal.returns-in-Err-clause-fixed_point
returns-in-Err-clause-fixed_point g c = λ begins told is.
    fixed_as_told (searching g.P.Passes c.args.passes.now g.L.Law c.args.law.now g.Q.Question c.args.question.now c.args.name.now g.J.Judge c.args.bench.now)
    (judging g.J.Judge c.args.bench.now) (judging g.J.Judge c.args.bench.now) c.not_gone_on.result.file.items told (returns-in-Err-clause-all_rejected g c begins is)

pub returns-in-Err-clause-kept_on : goal.returns-in-Err-clause-kept_on
returns-in-Err-clause-kept_on g c =
    let is : c.not_gone_on.result ≡ end_as_kept c.args.kept = c.not_gone_on.ensures ∙ ap end_as_kept c.in-Err.ensures.back in
    subst (λ (rows : List Accepted). g.K.Keeper.kept_on c.args.keeper.now c.args.keeper.now rows) (sym (ap (λ (e : End). e.accepted.items) is))
    (g.K.Keeper.at_once c.args.keeper.now c.args.kept.accepted.items c.requires.keeps)

pub returns-in-Err-clause-goes_on : goal.returns-in-Err-clause-goes_on
returns-in-Err-clause-goes_on g c = goes_on-refl (judging g.J.Judge c.args.bench.now)

pub returns-in-Err-clause-asks_only : goal.returns-in-Err-clause-asks_only
returns-in-Err-clause-asks_only g c =
    let is : c.not_gone_on.result ≡ end_as_kept c.args.kept = c.not_gone_on.ensures ∙ ap end_as_kept c.in-Err.ensures.back in (
      [],
      ap (λ (e : End). e.accepted.items) is ∙ sym (append-nil c.args.kept.accepted.items),
      all_gained-refl (AboutCandidate (searching g.P.Passes c.args.passes.now g.L.Law c.args.law.now g.Q.Question c.args.question.now c.args.name.now g.J.Judge c.args.bench.now) c.args.kept.file.items []) (judging g.J.Judge c.args.bench.now).calls,
    )

pub returns-in-Err-clause-made : goal.returns-in-Err-clause-made
returns-in-Err-clause-made g c = made_before (searching g.P.Passes c.args.passes.now g.L.Law c.args.law.now g.Q.Question c.args.question.now c.args.name.now g.J.Judge c.args.bench.now) (judging g.J.Judge c.args.bench.now) c.requires.right

pub returns-in-Err-clause-cause : goal.returns-in-Err-clause-cause
returns-in-Err-clause-cause g c =
    let is : c.not_gone_on.result ≡ end_as_kept c.args.kept = c.not_gone_on.ensures ∙ ap end_as_kept c.in-Err.ensures.back in
    subst (λ (e : End). FaultsWithCause (searching g.P.Passes c.args.passes.now g.L.Law c.args.law.now g.Q.Question c.args.question.now c.args.name.now g.J.Judge c.args.bench.now) (judging g.J.Judge c.args.bench.now) (judging g.J.Judge c.args.bench.now) e.why) (sym is) tt

pub returns-in-Err-clause-keeps : goal.returns-in-Err-clause-keeps
returns-in-Err-clause-keeps g c = λ other.
    let is : c.not_gone_on.result ≡ end_as_kept c.args.kept = c.not_gone_on.ensures ∙ ap end_as_kept c.in-Err.ensures.back in
    absurd (other (ap (λ (e : End). e.why) is))

pub returns-in-Err-clause-few : goal.returns-in-Err-clause-few
returns-in-Err-clause-few g c =
    let is : c.not_gone_on.result ≡ end_as_kept c.args.kept = c.not_gone_on.ensures ∙ ap end_as_kept c.in-Err.ensures.back in
    subst (AsksFewOn c.args.plan.now.window (judging g.J.Judge c.args.bench.now) (judging g.J.Judge c.args.bench.now) c.args.kept) (sym is) (omega arith)
