use Rattle.std.proofs.Common.{[], ◌∷◌, sym, subst}
use Rattle.cr_outside.specs.Question.{AnswersAsTold, Says}
use Rattle.cr_reduce.specs.Bench.{judging_of}
use Rattle.cr_standing_workers.specs.Told.{FoundSays, TriedAt, searching_by, tried_of}
use Rattle.cr_standing_workers.proofs.Judges.{found_asked, serves_asking, tried_found}
use Rattle.cr_standing_workers.proofs.Places.{tried_at}
use Rattle.cr_standing_workers.proofs.trial.ask.Goals as goal

pub remember-requires : goal.remember-requires
remember-requires g c = λ verdict is.
    let s = searching_by g.P.Passes g.L.Law g.Q.Question c.args.task.now g.S.Subject.told in
    let before = judging_of g.J.Judge (c.args.judge.now ∷ []) in
    let now = judging_of g.J.Judge (c.ask.new.judge ∷ []) in
    let question = c.args.task.now.question.now in
    let told = subst (λ (says : Says). AnswersAsTold (g.Q.Question.asks question) (g.Q.Question.tells question says c.args.task.now.name.now c.args.variant.now) c.ask.result) c.requires.told c.ask.ensures.told in
    let found = subst (FoundSays s before now c.args.variant.now) (sym c.found_by-found.ensures)
    (found_asked g.J.Judge s c.args.judge.now c.ask.new.judge c.args.variant.now c.ask.result c.requires.lawful told c.ask.ensures.once c.ask.ensures.unfailing c.ask.ensures.failed) in
    c.requires.about.verdict_in c.args.variant.now verdict (subst (FoundSays s before now c.args.variant.now) is found)

pub returns-clause-says : goal.returns-clause-says
returns-clause-says g c = λ file offer position it.
    let s = searching_by g.P.Passes g.L.Law g.Q.Question c.args.task.now g.S.Subject.told in
    let make = g.P.Passes.offer c.args.task.now.passes.now in
    let before = judging_of g.J.Judge (c.args.judge.now ∷ []) in
    let now = judging_of g.J.Judge (c.ask.new.judge ∷ []) in
    let question = c.args.task.now.question.now in
    let told = subst (λ (says : Says). AnswersAsTold (g.Q.Question.asks question) (g.Q.Question.tells question says c.args.task.now.name.now c.args.variant.now) c.ask.result) c.requires.told c.ask.ensures.told in
    let found = subst (FoundSays s before now c.args.variant.now) (sym c.found_by-found.ensures)
    (found_asked g.J.Judge s c.args.judge.now c.ask.new.judge c.args.variant.now c.ask.result c.requires.lawful told c.ask.ensures.once c.ask.ensures.unfailing c.ask.ensures.failed) in
    subst (TriedAt s before now g.S.Subject.replies file offer position) (sym c.tried_by.ensures)
    (tried_at s make g.S.Subject.orders g.S.Subject.replies g.S.Subject.verdicts c.requires.about (g.met.P.Passes.one c.args.task.now.passes.now) before now file offer position c.args.variant.now (tried_of c.found_by-found.result) it
    (tried_found s before now file c.args.variant.now c.found_by-found.result it.smaller found))

pub returns-clause-serves : goal.returns-clause-serves
returns-clause-serves g c =
    serves_asking g.J.Judge (g.Q.Question.asks c.args.task.now.question.now) c.args.judge.now c.ask.new.judge c.args.task.now.name.now c.args.variant.now c.ask.result c.ask.ensures.key c.ask.ensures.once c.ask.ensures.silent c.ask.ensures.later
