-- What a reduction accepts comes first in what one accepts that may go on for longer.
use Rattle.std.proofs.Common.{◌≡◌, ℕ, ◌<◌, ◌≤◌, inl, inr, Bool, true, false, List, [], ◌++◌, length, Option, Some, refl, subst, sym, ap, ◌∙◌, arith}
use Rattle.std.proofs.lemmas.Bool.{true≢false}
use Rattle.cr_reduce.specs.declared.end.Accepted.{Accepted}
use Rattle.cr_reduce.specs.declared.end.End.{End}
use Rattle.cr_reduce.specs.declared.end.Kept.{Kept}
use Rattle.cr_reduce.specs.declared.end.Why.{Why}
use Rattle.cr_reduce.specs.declared.end.Why.TheVariants.{Fixed, Limit, Fault, NoMemory}
use Rattle.cr_reduce.specs.Ends.{EndsToldAt, StopsAt, outcome_of}
use Rattle.cr_reduce.specs.Keeping.{EndsOnAsTold, Front, IsAsKept, IsFrontOfAll, ReducesOnAsTold, goes_on_at}
use Rattle.cr_reduce.specs.Laws.{ExcludeEachOther}
use Rattle.cr_reduce.specs.Reduction.{FailedTrials, Proposals, Trial, State, Outcome, Reduces, Within, cursors_of, moved, next_round, none_fails, taken}
use Rattle.cr_reduce.specs.Reduction.Reduces.{new_round, fixed, spent, short, accepts, rejects, fails}
use Rattle.cr_reduce.specs.Search.{Search, AcceptsAsTold, RejectsAsTold, ReducesAsTold}
use Rattle.cr_reduce.proofs.OneOutcome.{NoneFails, OffersOne, at_most, inside, not_among, one_cursor, one_position, one_taken}
use Rattle.cr_reduce.proofs.Resumed.{grown}
use Rattle.cr_reduce.proofs.Walks.{within_less}

-- what is within the one limit is within the other
abbrev pub IsNoLower : Option ℕ → Option ℕ → Type 0
IsNoLower limit other = (turns : ℕ) → Within limit turns → Within other turns

-- an end that accepted nothing more
done : (p : Proposals) (A R : Trial) (F : FailedTrials) (limit : Option ℕ) (st : State) (accepted : List Accepted) (whole : Outcome) → accepted ≡ st.accepted → Reduces p A R F limit st whole → Front accepted whole.accepted
done p A R F limit st accepted whole same run =
    let more = grown p A R F limit st whole run in
    (more.0, more.1 ∙ ap (λ (list : List Accepted). list ++ more.0) (sym same))

pub front_of_longer : (p : Proposals) (A R : Trial) (F : FailedTrials) (limit other : Option ℕ) (st : State) (out whole : Outcome) → OffersOne p → NoneFails F → ExcludeEachOther A R → IsNoLower limit other
    → Reduces p A R F limit st out → Reduces p A R F other st whole → Front out.accepted whole.accepted
front_of_longer p A R F limit other st out whole one never apart lower (fixed end same is) run = done p A R F other st out.accepted whole (ap (λ (o : Outcome). o.accepted) is) run
front_of_longer p A R F limit other st out whole one never apart lower (spent below is_limit is) run = done p A R F other st out.accepted whole (ap (λ (o : Outcome). o.accepted) is) run
front_of_longer p A R F limit other st out whole one never apart lower (short to turns some below all count is_limit is) run = done p A R F other st out.accepted whole (ap (λ (o : Outcome). o.accepted) is) run
front_of_longer p A R F limit other st out whole one never apart lower (fails position at turns worker low there before failed count within is) run = absurd (never worker st.file (st.offer.bytes at) failed)
front_of_longer p A R F limit other st out whole one never apart lower (new_round end changed rest) (new_round end' changed' rest') = front_of_longer p A R F limit other (next_round st) out whole one never apart lower rest rest'
front_of_longer p A R F limit other st out whole one never apart lower (new_round end changed rest) (fixed end' same' is') = absurd (true≢false (sym changed ∙ same'))
front_of_longer p A R F limit other st out whole one never apart lower (new_round end changed rest) (spent below' limit' is') = absurd (omega arith)
front_of_longer p A R F limit other st out whole one never apart lower (new_round end changed rest) (short to' turns' some' below' all' count' limit' is') = absurd (omega arith)
front_of_longer p A R F limit other st out whole one never apart lower (new_round end changed rest) (accepts position' at' size' turns' next' first' has' count' within' offered' rest') =
    absurd (omega (arith, first'.after, inside st.offer A R st.file st.position position' at' first'))
front_of_longer p A R F limit other st out whole one never apart lower (new_round end changed rest) (rejects turns' below' all' count' within' rest') = absurd (omega arith)
front_of_longer p A R F limit other st out whole one never apart lower (new_round end changed rest) (fails position' at' turns' worker' low' there' before' failed' count' within' is') = absurd (never worker' st.file (st.offer.bytes at') failed')
front_of_longer p A R F limit other st out whole one never apart lower (accepts position at size turns next first has count within offered rest) (new_round end' changed' rest') =
    absurd (omega (arith, first.after, inside st.offer A R st.file st.position position at first))
front_of_longer p A R F limit other st out whole one never apart lower (accepts position at size turns next first has count within offered rest) (fixed end' same' is') =
    absurd (omega (arith, first.after, inside st.offer A R st.file st.position position at first))
front_of_longer p A R F limit other st out whole one never apart lower (accepts position at size turns next first has count within offered rest) (spent below' limit' is') =
    absurd (omega (arith, first.after, at_most other st.turns turns limit' (lower turns within)))
front_of_longer p A R F limit other st out whole one never apart lower (accepts position at size turns next first has count within offered rest) (short to' turns' some' below' all' count' limit' is') =
    absurd (omega (arith, at_most other turns' turns limit' (lower turns within), not_among st.offer A R st.file st.position position to' at apart first all'))
front_of_longer p A R F limit other st out whole one never apart lower (accepts position at size turns next first has count within offered rest) (accepts position' at' size' turns' next' first' has' count' within' offered' rest') =
    let same = one_position st.offer A R st.file st.position position position' at at' apart first first' in
    let cursors_same = one_cursor st.offer position position' at at' first.there first'.there same in
    front_of_longer p A R F limit other (taken st at size turns next) out whole one never apart lower rest
    (subst (λ next. Reduces p A R F other next whole) (one_taken p st at at' size size' turns turns' next next' one cursors_same has has' (omega (arith, same)) offered offered') rest')
front_of_longer p A R F limit other st out whole one never apart lower (accepts position at size turns next first has count within offered rest) (rejects turns' below' all' count' within' rest') =
    absurd (omega (arith, inside st.offer A R st.file st.position position at first, not_among st.offer A R st.file st.position position (length (cursors_of st.offer)) at apart first all'))
front_of_longer p A R F limit other st out whole one never apart lower (accepts position at size turns next first has count within offered rest) (fails position' at' turns' worker' low' there' before' failed' count' within' is') =
    absurd (never worker' st.file (st.offer.bytes at') failed')
front_of_longer p A R F limit other st out whole one never apart lower (rejects turns below all count within rest) (new_round end' changed' rest') = absurd (omega arith)
front_of_longer p A R F limit other st out whole one never apart lower (rejects turns below all count within rest) (fixed end' same' is') = absurd (omega arith)
front_of_longer p A R F limit other st out whole one never apart lower (rejects turns below all count within rest) (spent below' limit' is') =
    absurd (omega (arith, at_most other st.turns turns limit' (lower turns within)))
front_of_longer p A R F limit other st out whole one never apart lower (rejects turns below all count within rest) (short to' turns' some' below' all' count' limit' is') =
    absurd (omega (arith, at_most other turns' turns limit' (lower turns within)))
front_of_longer p A R F limit other st out whole one never apart lower (rejects turns below all count within rest) (accepts position' at' size' turns' next' first' has' count' within' offered' rest') =
    absurd (omega (arith, inside st.offer A R st.file st.position position' at' first', not_among st.offer A R st.file st.position position' (length (cursors_of st.offer)) at' apart first' all))
front_of_longer p A R F limit other st out whole one never apart lower (rejects turns below all count within rest) (rejects turns' below' all' count' within' rest') =
    let same : turns' ≡ turns = omega arith in
    front_of_longer p A R F limit other (moved st (length (cursors_of st.offer)) turns) out whole one never apart lower rest
    (subst (λ n. Reduces p A R F other (moved st (length (cursors_of st.offer)) n) whole) same rest')
front_of_longer p A R F limit other st out whole one never apart lower (rejects turns below all count within rest) (fails position' at' turns' worker' low' there' before' failed' count' within' is') = absurd (never worker' st.file (st.offer.bytes at') failed')

-- so many turns, and what is within them
up_to : (limit : Option ℕ) (most : ℕ) → Within limit most → IsNoLower (Some most) limit
up_to limit most within turns few = within_less limit turns most few within

module _ (s : Search) (one : OffersOne s.Offers) (apart : ExcludeEachOther (AcceptsAsTold s) (RejectsAsTold s)) (kept : Kept) (limit : Option ℕ) (e : End) where
  one_longer : (most : Option ℕ) (why : Why) → IsNoLower most limit → ReducesOnAsTold s kept most (outcome_of e why) → IsFrontOfAll s limit kept e
  one_longer most why lower run out whole =
      front_of_longer s.Offers (AcceptsAsTold s) (RejectsAsTold s) none_fails most limit (goes_on_at kept run.0) (outcome_of e why) out one (λ worker f v never. never) apart lower run.2
      (subst (λ o. ReducesAsTold s limit (goes_on_at kept o) out) (one kept.file.items whole.0 run.0 whole.1 run.1) whole.2)

  stopped : Within limit e.turns → StopsAt (ReducesOnAsTold s kept) e → IsFrontOfAll s limit kept e
  stopped within at = one_longer (Some e.turns) at.0 (up_to limit e.turns within) at.1

  untouched : IsAsKept kept e → IsFrontOfAll s limit kept e
  untouched same out whole = done s.Offers (AcceptsAsTold s) (RejectsAsTold s) none_fails limit (goes_on_at kept whole.0) e.accepted.items out same.accepted whole.2

  by_why : (why : Why) → EndsToldAt (ReducesOnAsTold s kept) (IsAsKept kept e) limit e why → IsFrontOfAll s limit kept e
  by_why Fixed run = one_longer limit Fixed (λ turns within. within) run
  by_why Limit run = one_longer limit Limit (λ turns within. within) run
  by_why (Fault turn worker) run = stopped run.1 run.2
  by_why NoMemory run = elim run.1 [ inl same ↦ untouched same | inr at ↦ stopped run.0 at ]

  pub front_of_all : EndsOnAsTold s limit kept e → IsFrontOfAll s limit kept e
  front_of_all ended = by_why e.why ended
