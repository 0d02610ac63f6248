use Rattle.std.proofs.Common.{◌≡◌, ◌∙◌, refl, sym, subst, rules}
use Rattle.cr_outside.specs.Question.{AnswersAsTold, AsksOnce}
use Rattle.cr_pool.specs.Epoch.{Epoch, Known, variant_of}
use Rattle.cr_pool.specs.Jobs.{trying}
use Rattle.cr_pool.specs.Kept.{IsDecided, IsKept}
use Rattle.cr_pool.specs.Sizes.{IsSmaller}
use Rattle.cr_pool.specs.Tally.{Tally, tally_of}
use Rattle.cr_pool.specs.Trials.{IsGood, IsLarge, IsRejected}
use Rattle.cr_pool.specs.Works.{MayNoteNothing, NoteIsSo}
use Rattle.cr_pool.proofs.Sizes.{large_is_rejected, large_no_smaller}
use Rattle.cr_pool.proofs.Tries.{note_by_answer, note_by_verdict, rejects_by_no, rejects_by_verdict, says_by_hit, says_by_verdict, tries_asking, unnoted_answer}
use Rattle.cr_pool.proofs.trial.try_position.Given.{Over}
use Rattle.cr_pool.proofs.trial.try_position.Goals as goal

module _ (g : Over) (c : goal.After-came_of g) where
  epoch : Epoch
  epoch = trying g.P.Passes g.L.Law g.Q.Question g.J.Judge c.args.job.now c.args.judge.now c.args.verdicts.now

  made : c.make.new.variant.items ≡ variant_of epoch c.args.at
  unfolding epoch
  made = search rules

pub returns-in-Good-clause-tries : goal.returns-in-Good-clause-tries
unfolding epoch
returns-in-Good-clause-tries g c =
    let e = epoch g c in
    let before : Tally = tally_of g.J.Judge c.args.judge.now in
    let now : Tally = tally_of g.J.Judge c.ask-answer.new.judge in
    let variant = c.make.new.variant.items in
    let good = c.in-Good.ensures.good refl in
    tries_asking e c.args.at variant (made g c) c.requires.within c.args.job.now.size good.0 c.requires.sized
    (subst (λ v. IsGood e.Lawful v c.args.job.now.size good.0) c.deref.ensures.value good.1) (subst (λ v. IsKept c.args.verdicts.now v → ⊥) c.deref.ensures.value (c.in-Good.ensures.unkept refl)) before now c.ask-answer.result
    (λ uses. subst (λ v. AsksOnce before.calls now.calls e.name v c.ask-answer.result) c.deref-in-Good.ensures.value (c.ask-answer.ensures.once uses))
    e.asks refl c.ask-answer.ensures.counted (λ quiet. subst (λ j. tally_of g.J.Judge j ≡ before) (sym (c.ask-answer.ensures.silent quiet)) refl) c.ask-answer.ensures.later

pub returns-in-Good-clause-rejected : goal.returns-in-Good-clause-rejected
unfolding epoch
returns-in-Good-clause-rejected g c = λ rejected.
    let e = epoch g c in
    let before : Tally = tally_of g.J.Judge c.args.judge.now in
    let now : Tally = tally_of g.J.Judge c.ask-answer.new.judge in
    let variant = c.make.new.variant.items in
    let good = c.in-Good.ensures.good refl in
    rejects_by_no e c.args.at variant (made g c) c.requires.within c.args.job.now.size good.0 c.requires.sized
    (subst (λ v. IsGood e.Lawful v c.args.job.now.size good.0) c.deref.ensures.value good.1) (subst (λ v. IsKept c.args.verdicts.now v → ⊥) c.deref.ensures.value (c.in-Good.ensures.unkept refl)) before now c.ask-answer.result
    (λ uses. subst (λ v. AsksOnce before.calls now.calls e.name v c.ask-answer.result) c.deref-in-Good.ensures.value (c.ask-answer.ensures.once uses))
    (sym c.came_of.ensures ∙ rejected) (subst (λ v. AnswersAsTold e.asks (e.Tells v) c.ask-answer.result) c.deref-in-Good.ensures.value c.ask-answer.ensures.told)

pub returns-in-Good-clause-hit : goal.returns-in-Good-clause-hit
unfolding epoch
returns-in-Good-clause-hit g c = λ kind hit.
    let e = epoch g c in
    let before : Tally = tally_of g.J.Judge c.args.judge.now in
    let now : Tally = tally_of g.J.Judge c.ask-answer.new.judge in
    let variant = c.make.new.variant.items in
    let good = c.in-Good.ensures.good refl in
    says_by_hit e c.args.at variant (made g c) c.requires.within c.args.job.now.size good.0 c.requires.sized
    (subst (λ v. IsGood e.Lawful v c.args.job.now.size good.0) c.deref.ensures.value good.1) (subst (λ v. IsKept c.args.verdicts.now v → ⊥) c.deref.ensures.value (c.in-Good.ensures.unkept refl)) before now c.ask-answer.result
    (λ uses. subst (λ v. AsksOnce before.calls now.calls e.name v c.ask-answer.result) c.deref-in-Good.ensures.value (c.ask-answer.ensures.once uses))
    c.ask-answer.result refl kind (sym c.came_of.ensures ∙ hit) (subst (λ v. AnswersAsTold e.asks (e.Tells v) c.ask-answer.result) c.deref-in-Good.ensures.value c.ask-answer.ensures.told)
    c.ask-answer.ensures.unfailing c.ask-answer.ensures.failed

pub returns-in-Good-clause-noted : goal.returns-in-Good-clause-noted
unfolding epoch
returns-in-Good-clause-noted g c =
    let e = epoch g c in
    let before : Tally = tally_of g.J.Judge c.args.judge.now in
    let now : Tally = tally_of g.J.Judge c.ask-answer.new.judge in
    let variant = c.make.new.variant.items in
    let good = c.in-Good.ensures.good refl in
    let it = note_by_answer e c.args.at variant (made g c) c.requires.within c.args.job.now.size good.0 c.requires.sized
    (subst (λ v. IsGood e.Lawful v c.args.job.now.size good.0) c.deref.ensures.value good.1) (subst (λ v. IsKept c.args.verdicts.now v → ⊥) c.deref.ensures.value (c.in-Good.ensures.unkept refl)) before now c.ask-answer.result
    (λ uses. subst (λ v. AsksOnce before.calls now.calls e.name v c.ask-answer.result) c.deref-in-Good.ensures.value (c.ask-answer.ensures.once uses))
    (subst (λ v. AnswersAsTold e.asks (e.Tells v) c.ask-answer.result) c.deref-in-Good.ensures.value c.ask-answer.ensures.told) in
    subst (λ note. NoteIsSo e before now c.args.at note) (sym c.said_by.ensures) it

pub returns-in-Large-clause-rejected : goal.returns-in-Large-clause-rejected
returns-in-Large-clause-rejected g c = λ _.
    let e : Epoch = trying g.P.Passes g.L.Law g.Q.Question g.J.Judge c.args.job.now c.args.judge.now c.args.verdicts.now in
    let t : Tally = tally_of g.J.Judge c.args.judge.now in
    let variant = c.make.new.variant.items in
    let made : variant ≡ variant_of e c.args.at = search rules in
    subst (IsRejected e.Lawful (Known e t t) e.file) made
    (large_is_rejected e.Lawful (Known e t t) e.file variant c.args.job.now.size c.requires.sized (subst (λ v. IsLarge v c.args.job.now.size) c.deref.ensures.value (c.in-Large.ensures.large refl)))

pub returns-in-Decided-clause-rejected : goal.returns-in-Decided-clause-rejected
returns-in-Decided-clause-rejected g c = λ rejected.
    let e : Epoch = trying g.P.Passes g.L.Law g.Q.Question g.J.Judge c.args.job.now c.args.judge.now c.args.verdicts.now in
    let t : Tally = tally_of g.J.Judge c.args.judge.now in
    let variant = c.make.new.variant.items in
    let made : variant ≡ variant_of e c.args.at = search rules in
    rejects_by_verdict e c.requires.right t t c.args.at variant made c.args.job.now.size c.requires.sized c.in-Decided.verdict
    (subst (λ v. IsDecided e.Lawful e.kept v c.args.job.now.size c.in-Decided.verdict) c.deref.ensures.value (c.in-Decided.ensures.decided c.in-Decided.verdict refl)) (sym c.decided_by.ensures ∙ rejected)

pub returns-in-Decided-clause-hit : goal.returns-in-Decided-clause-hit
returns-in-Decided-clause-hit g c = λ kind hit.
    let e : Epoch = trying g.P.Passes g.L.Law g.Q.Question g.J.Judge c.args.job.now c.args.judge.now c.args.verdicts.now in
    let t : Tally = tally_of g.J.Judge c.args.judge.now in
    let variant = c.make.new.variant.items in
    let made : variant ≡ variant_of e c.args.at = search rules in
    says_by_verdict e c.requires.right t t c.args.at variant made c.args.job.now.size c.requires.sized c.in-Decided.verdict
    (subst (λ v. IsDecided e.Lawful e.kept v c.args.job.now.size c.in-Decided.verdict) c.deref.ensures.value (c.in-Decided.ensures.decided c.in-Decided.verdict refl)) kind (sym c.decided_by.ensures ∙ hit)

pub returns-in-Decided-clause-noted : goal.returns-in-Decided-clause-noted
returns-in-Decided-clause-noted g c =
    let e : Epoch = trying g.P.Passes g.L.Law g.Q.Question g.J.Judge c.args.job.now c.args.judge.now c.args.verdicts.now in
    let t : Tally = tally_of g.J.Judge c.args.judge.now in
    let variant = c.make.new.variant.items in
    let made : variant ≡ variant_of e c.args.at = search rules in
    note_by_verdict e c.requires.right t t c.args.at variant made c.args.job.now.size c.requires.sized c.in-Decided.verdict
    (subst (λ v. IsDecided e.Lawful e.kept v c.args.job.now.size c.in-Decided.verdict) c.deref.ensures.value (c.in-Decided.ensures.decided c.in-Decided.verdict refl))

pub returns-in-Good-clause-unnoted : goal.returns-in-Good-clause-unnoted
unfolding epoch
returns-in-Good-clause-unnoted g c = λ none.
    let e = epoch g c in
    subst (λ t. MayNoteNothing e c.args.at t) (sym c.came_of.ensures) (unnoted_answer e c.args.at c.ask-answer.result (sym c.said_by.ensures ∙ none))

pub returns-in-Large-clause-unnoted : goal.returns-in-Large-clause-unnoted
returns-in-Large-clause-unnoted g c = λ _.
    let e : Epoch = trying g.P.Passes g.L.Law g.Q.Question g.J.Judge c.args.job.now c.args.judge.now c.args.verdicts.now in
    let variant = c.make.new.variant.items in
    let made : variant ≡ variant_of e c.args.at = search rules in
    subst (λ v. IsSmaller v e.file → ⊥) made
    (large_no_smaller e.file variant c.args.job.now.size c.requires.sized (subst (λ v. IsLarge v c.args.job.now.size) c.deref.ensures.value (c.in-Large.ensures.large refl)))

pub returns-in-Decided-clause-unnoted : goal.returns-in-Decided-clause-unnoted
returns-in-Decided-clause-unnoted g c = λ none. cc
