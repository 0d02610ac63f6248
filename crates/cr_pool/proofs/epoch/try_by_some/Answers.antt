use Rattle.std.proofs.Common.{◌≡◌, ◌∙◌, ◌++◌, ◌<◌, List, length, sym, ap, subst, arith, rules}
use Rattle.std.proofs.lemmas.List.{length-map, map-append}
use Rattle.cr_outside.specs.Question.{Says}
use Rattle.cr_pool.specs.declared.crew.Worker.{Worker}
use Rattle.cr_pool.specs.Crew.{judges_in}
use Rattle.cr_pool.specs.Epoch.{BeginsRight, EndsBy, Epoch, Remembers}
use Rattle.cr_pool.specs.Jobs.{IsJudged, epoch_of}
use Rattle.cr_pool.specs.Tally.{HaveOneKey, first_says, tallies_of}
use Rattle.cr_pool.proofs.More.{ends_more_judges, first_of_some, judged_more, some_one_key}
use Rattle.cr_pool.proofs.Remembering.{remembers_more_judges}
use Rattle.cr_pool.proofs.epoch.try_by_some.Goals as goal

pub try_all-requires-clause-one_key : goal.try_all-requires-clause-one_key
try_all-requires-clause-one_key g c κs within =
    let front = c.split_at_mut-crew.result.0.now in
    let back = c.split_at_mut-crew.result.1.now in
    let whole : c.args.workers.now ≡ front ++ back = search rules in
    let all : judges_in c.args.workers.now ≡ judges_in front ++ judges_in back = ap {B = List g.row.J.Denot} (λ (ws : List (Worker g.row.J.Denot)). judges_in ws) whole ∙ map-append (λ (w : Worker g.row.J.Denot). w.judge) front back in
    some_one_key g.J.Judge (judges_in front) (judges_in back) (subst (HaveOneKey g.J.Judge.key) all c.requires.one_key)

pub returns-clause-end : goal.returns-clause-end
returns-clause-end g c =
    let front = c.split_at_mut-crew.result.0.now in
    let back = c.split_at_mut-crew.result.1.now in
    let whole : c.args.workers.now ≡ front ++ back = search rules in
    let all : judges_in c.args.workers.now ≡ judges_in front ++ judges_in back = ap {B = List g.row.J.Denot} (λ (ws : List (Worker g.row.J.Denot)). judges_in ws) whole ∙ map-append (λ (w : Worker g.row.J.Denot). w.judge) front back in
    let changed : judges_in (c.try_all.new.workers ++ back) ≡ judges_in c.try_all.new.workers ++ judges_in back = map-append (λ (w : Worker g.row.J.Denot). w.judge) c.try_all.new.workers back in
    let e : Says → Epoch = λ says. epoch_of g.P.Passes g.L.Law g.Q.Question c.args.job.now says c.args.verdicts.now in
    let says : List g.row.J.Denot → Says = λ js. first_says g.J.Judge.key g.J.Judge.says js in
    let some : 0 < length (judges_in front) = omega (arith, length-map front (λ (w : Worker g.row.J.Denot). w.judge), c.split_at_mut-crew.ensures.front_len, c.requires.workers.0) in
    let first = first_of_some g.J.Judge (judges_in front) (judges_in back) some in
    let both = judges_in front ++ judges_in back in
    let new = judges_in c.try_all.new.workers in
    let it = ends_more_judges g.J.Judge (e (says (judges_in front))) (judges_in front) new (judges_in back) c.try_all.result c.try_all.ensures.judges.count c.try_all.ensures.end in
    subst (λ js. EndsBy (e (says js)) (tallies_of g.J.Judge js) (tallies_of g.J.Judge (judges_in (c.try_all.new.workers ++ back))) c.try_all.result) (sym all)
    (subst (λ js. EndsBy (e (says both)) (tallies_of g.J.Judge both) (tallies_of g.J.Judge js) c.try_all.result) (sym changed)
    (subst (λ s. EndsBy (e s) (tallies_of g.J.Judge both) (tallies_of g.J.Judge (new ++ judges_in back)) c.try_all.result) first it))

pub returns-clause-judges : goal.returns-clause-judges
returns-clause-judges g c =
    let front = c.split_at_mut-crew.result.0.now in
    let back = c.split_at_mut-crew.result.1.now in
    let whole : c.args.workers.now ≡ front ++ back = search rules in
    let all : judges_in c.args.workers.now ≡ judges_in front ++ judges_in back = ap {B = List g.row.J.Denot} (λ (ws : List (Worker g.row.J.Denot)). judges_in ws) whole ∙ map-append (λ (w : Worker g.row.J.Denot). w.judge) front back in
    let changed : judges_in (c.try_all.new.workers ++ back) ≡ judges_in c.try_all.new.workers ++ judges_in back = map-append (λ (w : Worker g.row.J.Denot). w.judge) c.try_all.new.workers back in
    let e : Says → Epoch = λ says. epoch_of g.P.Passes g.L.Law g.Q.Question c.args.job.now says c.args.verdicts.now in
    let says : List g.row.J.Denot → Says = λ js. first_says g.J.Judge.key g.J.Judge.says js in
    let some : 0 < length (judges_in front) = omega (arith, length-map front (λ (w : Worker g.row.J.Denot). w.judge), c.split_at_mut-crew.ensures.front_len, c.requires.workers.0) in
    let first = first_of_some g.J.Judge (judges_in front) (judges_in back) some in
    let both = judges_in front ++ judges_in back in
    let new = judges_in c.try_all.new.workers in
    let it = judged_more g.J.Judge (e (says (judges_in front))) (judges_in front) new (judges_in back) c.try_all.ensures.judges in
    subst (λ js. IsJudged g.J.Judge (e (says js)) js (judges_in (c.try_all.new.workers ++ back))) (sym all)
    (subst (λ js. IsJudged g.J.Judge (e (says both)) both js) (sym changed)
    (subst (λ s. IsJudged g.J.Judge (e s) both (new ++ judges_in back)) first it))

pub try_all-requires-clause-right : goal.try_all-requires-clause-right
try_all-requires-clause-right g c = λ a b.
    let front = c.split_at_mut-crew.result.0.now in
    let back = c.split_at_mut-crew.result.1.now in
    let whole : c.args.workers.now ≡ front ++ back = search rules in
    let all : judges_in c.args.workers.now ≡ judges_in front ++ judges_in back = ap {B = List g.row.J.Denot} (λ (ws : List (Worker g.row.J.Denot)). judges_in ws) whole ∙ map-append (λ (w : Worker g.row.J.Denot). w.judge) front back in
    let e : Says → Epoch = λ says. epoch_of g.P.Passes g.L.Law g.Q.Question c.args.job.now says c.args.verdicts.now in
    let says : List g.row.J.Denot → Says = λ js. first_says g.J.Judge.key g.J.Judge.says js in
    let some : 0 < length (judges_in front) = omega (arith, length-map front (λ (w : Worker g.row.J.Denot). w.judge), c.split_at_mut-crew.ensures.front_len, c.requires.workers.0) in
    let first = first_of_some g.J.Judge (judges_in front) (judges_in back) some in
    subst (λ s. BeginsRight (e s)) (sym first) (subst (λ js. BeginsRight (e (says js))) all c.requires.right)

pub returns-clause-remembers : goal.returns-clause-remembers
returns-clause-remembers g c =
    let front = c.split_at_mut-crew.result.0.now in
    let back = c.split_at_mut-crew.result.1.now in
    let whole : c.args.workers.now ≡ front ++ back = search rules in
    let all : judges_in c.args.workers.now ≡ judges_in front ++ judges_in back = ap {B = List g.row.J.Denot} (λ (ws : List (Worker g.row.J.Denot)). judges_in ws) whole ∙ map-append (λ (w : Worker g.row.J.Denot). w.judge) front back in
    let changed : judges_in (c.try_all.new.workers ++ back) ≡ judges_in c.try_all.new.workers ++ judges_in back = map-append (λ (w : Worker g.row.J.Denot). w.judge) c.try_all.new.workers back in
    let e : Says → Epoch = λ says. epoch_of g.P.Passes g.L.Law g.Q.Question c.args.job.now says c.args.verdicts.now in
    let says : List g.row.J.Denot → Says = λ js. first_says g.J.Judge.key g.J.Judge.says js in
    let some : 0 < length (judges_in front) = omega (arith, length-map front (λ (w : Worker g.row.J.Denot). w.judge), c.split_at_mut-crew.ensures.front_len, c.requires.workers.0) in
    let first = first_of_some g.J.Judge (judges_in front) (judges_in back) some in
    let both = judges_in front ++ judges_in back in
    let new = judges_in c.try_all.new.workers in
    let end = c.try_all.result in
    let kept = c.try_all.new.verdicts in
    let lost = c.try_all.new.lost in
    let it = remembers_more_judges g.J.Judge (e (says (judges_in front))) (judges_in front) new (judges_in back) end kept lost c.try_all.ensures.judges.count c.try_all.ensures.remembers in
    subst (λ js. Remembers (e (says js)) (tallies_of g.J.Judge js) (tallies_of g.J.Judge (judges_in (c.try_all.new.workers ++ back))) end kept lost) (sym all)
    (subst (λ js. Remembers (e (says both)) (tallies_of g.J.Judge both) (tallies_of g.J.Judge js) end kept lost) (sym changed)
    (subst (λ s. Remembers (e s) (tallies_of g.J.Judge both) (tallies_of g.J.Judge (new ++ judges_in back)) end kept lost) first it))
