use Rattle.std.proofs.Common.{rules, inl, inr, refl, ◌≡◌, ◌<◌, ◌*◌, ◌+◌, List, length, ap, sym, subst, arith}
use Rattle.std.proofs.lemmas.List.{length_push}
use Rattle.cr_standing.specs.Crew.{IsBack}
use Rattle.cr_standing_workers.specs.Channels.{AllAre}
use Rattle.cr_standing_workers.specs.Serving.{Serves}
use Rattle.cr_standing_workers.specs.Told.{searching_by}
use Rattle.cr_standing_workers.proofs.Judges.{all_front, all_last, serves-refl}
use Rattle.cr_standing.proofs.Crews.{has_room, one_joined}
use Rattle.cr_standing.proofs.crew.+crew+fn-crew-scope.Goals as goal
use Rattle.cr_standing.proofs.crew.+crew+fn-crew-scope.Goals.{scope-in-Ok, scope-in-Err}

pub hand_on-requires : goal.hand_on-requires
hand_on-requires g t c =
    let s = searching_by g.P.Passes g.L.Law g.Q.Question c.args.task.now g.S.Subject.told in
    let asks = g.Q.Question.asks c.args.task.now.question.now in
    let p = g.P.Passes.offers c.args.task.now.passes.now in
    let offer = g.P.Passes.offer c.args.task.now.passes.now in
    let limit = c.args.plan.now.limit in
    let len = ap (λ (l : List g.row.J.Denot). length l) c.in-Some.ensures.items in
    let more = length_push c.pop.new.self.items c.in-Some.other in
    record { room = has_room s g.J.Judge asks p offer limit c.args.made c.args.stops c.args.walk c.pop.new.self.items c.crew-back.result c.crew-back.ensures (omega (arith, c.requires.few, len, more)) }

pub returns-then-len-stops : goal.returns-then-len-stops
returns-then-len-stops g t c =
    let s = searching_by g.P.Passes g.L.Law g.Q.Question c.args.task.now g.S.Subject.told in
    let asks = g.Q.Question.asks c.args.task.now.question.now in
    let p = g.P.Passes.offers c.args.task.now.passes.now in
    let offer = g.P.Passes.offer c.args.task.now.passes.now in
    let limit = c.args.plan.now.limit in
    subst (λ (l : List g.row.J.Denot). IsBack s g.J.Judge asks p offer limit c.args.made c.args.stops c.args.walk l c.hand_on.result) (sym c.in-Some.ensures.items)
    (one_joined s g.J.Judge asks p offer limit c.args.made c.args.stops c.args.walk c.pop.new.self.items c.in-Some.other c.in-Some.other c.crew-back.result c.hand_on.result c.crew-back.ensures
    (serves-refl g.J.Judge asks c.in-Some.other) (inl refl) c.hand_on.ensures.judges c.hand_on.ensures.same)

pub scoped-requires : goal.scoped-requires
scoped-requires g t c =
    let Says = λ (j : g.row.J.Denot). g.J.Judge.says (g.J.Judge.key j) ≡ g.S.Subject.told in
    let all = subst (λ (l : List g.row.J.Denot). AllAre Says l) c.in-Some.ensures.items c.requires.all_told in
    let len = ap (λ (l : List g.row.J.Denot). length l) c.in-Some.ensures.items in
    let more = length_push c.pop.new.self.items c.in-Some.other in
    let other_told : g.J.Judge.says (g.J.Judge.key c.in-Some.other) ≡ g.S.Subject.told = all_last Says c.pop.new.self.items c.in-Some.other all in
    let all_told : AllAre (λ j. g.J.Judge.says (g.J.Judge.key j) ≡ g.S.Subject.told) c.pop.new.self.items = all_front Says c.pop.new.self.items c.in-Some.other all in
    let few : length c.pop.new.self.items < c.args.made = omega (arith, c.requires.few, len, more) in
    let works : length c.pop.new.self.items < c.args.stops = search rules in
    let falls : 2 * length c.pop.new.self.items + 1 < 2 * length c.args.others.items = omega (arith, len, more) in
    search (rules, other_told, all_told, few, works, falls)

pub scope-hand_on-requires : goal.scope-hand_on-requires
scope-hand_on-requires g t c =
    let s = searching_by g.P.Passes g.L.Law g.Q.Question c.captures.task.now g.S.Subject.told in
    let asks = g.Q.Question.asks c.captures.task.now.question.now in
    let p = g.P.Passes.offers c.captures.task.now.passes.now in
    let offer = g.P.Passes.offer c.captures.task.now.passes.now in
    let limit = c.captures.plan.now.limit in
    record { room = has_room s g.J.Judge asks p offer limit c.captures.made c.captures.stops c.captures.walk c.captures.others.items c.crew-back.result c.crew-back.ensures c.requires.few }

pub scope-returns : goal.scope-returns
scope-returns g t c =
    let s = searching_by g.P.Passes g.L.Law g.Q.Question c.captures.task.now g.S.Subject.told in
    let asks = g.Q.Question.asks c.captures.task.now.question.now in
    let p = g.P.Passes.offers c.captures.task.now.passes.now in
    let offer = g.P.Passes.offer c.captures.task.now.passes.now in
    let limit = c.captures.plan.now.limit in
    let served : Serves g.J.Judge asks c.captures.other c.match-started.other = elim c.match-started.branch [ scope-in-Ok w ↦ search rules | scope-in-Err w ↦ search rules ] in
    one_joined s g.J.Judge asks p offer limit c.captures.made c.captures.stops c.captures.walk c.captures.others.items c.captures.other c.match-started.other c.crew-back.result c.hand_on.result c.crew-back.ensures
    served (inr c.requires.works) c.hand_on.ensures.judges c.hand_on.ensures.same
