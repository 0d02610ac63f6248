-- The chain of files that a walk goes through, and the calls made on the way.
use Rattle.std.proofs.Common.{◌≡◌, ℕ, List, [], ◌∷◌, ◌++◌, subst, sym, ap, ◌∙◌, refl, append_assoc}
use Rattle.std.proofs.lemmas.List.{append-nil}
use Rattle.cr_cursor.specs.Variants.{Offer}
use Rattle.cr_reduce.specs.declared.end.Accepted.{Accepted}
use Rattle.cr_pool.specs.Kept.{Kept}
use Rattle.cr_reduce.specs.Bench.{Judging}
use Rattle.cr_reduce.specs.Reduction.{Proposals, State}
use Rattle.cr_reduce.specs.Search.{AboutCandidate, Search, ChainsTo, IsCandidate, AsksOnlyCandidates}
use Rattle.cr_reduce.specs.Walk.{AboutTried, Advances, AsksOnlyTried, GoesOver, IsTried, Traces, Walked}
use Rattle.cr_reduce.specs.Walk.MovesOn.{passed, accepted}
use Rattle.cr_reduce.specs.Walk.Advances.{moves, round}
use Rattle.cr_reduce.proofs.Parts.{IsPart, with_kept}
use Rattle.cr_reduce.proofs.Runs.{all_gained-map, all_gained-refl, all_gained-trans, goes_on-refl, goes_on-trans}
use Rattle.cr_reduce.proofs.Walks.{leads-advances, leads-over, leads-refl, leads-trans}

chain_grows : (p : Proposals) (file last : List ℕ) (offer : Offer) (more : List Accepted) (a : Accepted) → ChainsTo p file more last → p last offer → ChainsTo p file (more ++ a ∷ []) (offer.bytes a.at)
chain_grows p file last offer [] a h offered = (offer, subst (λ f. p f offer) h offered, refl)
chain_grows p file last offer (b ∷ more) a h offered = (h.0, h.1, chain_grows p (h.0.bytes b.at) last offer more a h.2 offered)

candidate_keeps : (s : Search) (start : List ℕ) (more : List Accepted) (a : Accepted) (v : List ℕ) → IsCandidate s start more v → IsCandidate s start (more ++ a ∷ []) v
candidate_keeps s start more a v it = record {
  some = it.some;
  rest = it.rest ++ a ∷ [];
  file = it.file;
  offer = it.offer;
  position = it.position;
  at = it.at;
  front = ap (λ list. list ++ a ∷ []) it.front ∙ append_assoc it.some it.rest (a ∷ []);
  in_chain = it.in_chain;
  offered = it.offered;
  there = it.there;
  is = it.is;
  smaller = it.smaller;
  lawful = it.lawful;
}

asks_keep : (s : Search) (start : List ℕ) (more : List Accepted) (a : Accepted) (before now : Judging) → AsksOnlyCandidates s start more before now → AsksOnlyCandidates s start (more ++ a ∷ []) before now
asks_keep s start more a before now asks =
    all_gained-map (AboutCandidate s start more) (AboutCandidate s start (more ++ a ∷ [])) (λ call it. (it.0, candidate_keeps s start more a call.file it.1)) before.calls now.calls asks

-- a variant of the state's file is one of the chain's last file
tried_is_candidate : (s : Search) (before middle : Judging) (from st : State) (t : Traces s before middle from st) (kept : List Kept) (variant : List ℕ) → IsTried (with_kept s kept) st variant → IsCandidate s from.file t.more variant
tried_is_candidate s before middle from st t kept variant it = record {
  some = t.more;
  rest = [];
  file = st.file;
  offer = st.offer;
  position = it.position;
  at = it.at;
  front = sym (append-nil t.more);
  in_chain = t.last;
  offered = t.offered;
  there = it.there;
  is = it.is;
  smaller = it.smaller;
  lawful = it.lawful;
}

-- the calls of one step, made in the last state so far
asks_step : (s : Search) (kept : List Kept) (before middle now : Judging) (from st : State) (t : Traces s before middle from st) → AsksOnlyTried (with_kept s kept) middle now st → AsksOnlyCandidates s from.file t.more before now
asks_step s kept before middle now from st t asks =
    all_gained-trans (AboutCandidate s from.file t.more) before.calls middle.calls now.calls t.asks
    (all_gained-map (AboutTried (with_kept s kept) st) (AboutCandidate s from.file t.more) (λ call it. (it.0, tried_is_candidate s before middle from st t kept call.file it.1)) middle.calls now.calls asks)

traces_stay : (s : Search) (before middle now : Judging) (from st to : State) (t : Traces s before middle from st) → AsksOnlyCandidates s from.file t.more before now → to.file ≡ st.file → to.offer ≡ st.offer
    → to.accepted ≡ st.accepted → Traces s before now from to
traces_stay s before middle now from st to t asks file offer listed = record {
  more = t.more;
  accepted_is = listed ∙ t.accepted_is;
  last = subst (ChainsTo s.Offers from.file t.more) (sym file) t.last;
  offered = subst (s.Offers to.file) (sym offer) (subst (λ f. s.Offers f st.offer) (sym file) t.offered);
  asks = asks;
}

traces_take : (s : Search) (before middle now : Judging) (from st to : State) (a : Accepted) (t : Traces s before middle from st) → AsksOnlyCandidates s from.file t.more before now
    → to.file ≡ st.offer.bytes a.at → s.Offers to.file to.offer → to.accepted ≡ st.accepted ++ a ∷ [] → Traces s before now from to
traces_take s before middle now from st to a t asks file offered listed = record {
  more = t.more ++ a ∷ [];
  accepted_is = listed ∙ ap (λ list. list ++ a ∷ []) t.accepted_is ∙ append_assoc from.accepted t.more (a ∷ []);
  last = subst (ChainsTo s.Offers from.file (t.more ++ a ∷ [])) (sym file) (chain_grows s.Offers from.file st.file st.offer t.more a t.last t.offered);
  offered = offered;
  asks = asks_keep s from.file t.more a before now asks;
}

traces_over : (s : Search) (kept : List Kept) (before middle now : Judging) (from st to : State) (t : Traces s before middle from st) → AsksOnlyCandidates s from.file t.more before now
    → GoesOver (with_kept s kept) middle now st to → Traces s before now from to
traces_over s kept before middle now from st to t asks over =
    traces_stay s before middle now from st to t asks (ap (λ x. x.file) over.is) (ap (λ x. x.offer) over.is) (ap (λ x. x.accepted) over.is)

traces_step : (s : Search) (kept : List Kept) (before middle now : Judging) (from st to : State) (t : Traces s before middle from st) → AsksOnlyCandidates s from.file t.more before now
    → Advances (with_kept s kept) middle now st to → Traces s before now from to
traces_step s kept before middle now from st to t asks (moves (passed over)) = traces_over s kept before middle now from st to t asks over
traces_step s kept before middle now from st to t asks (moves (accepted position at size turns next first has count offered is)) =
    traces_take s before middle now from st to (record { at = at; size = size; turn = turns }) t asks (ap (λ x. x.file) is) (subst (λ x. s.Offers x.file x.offer) (sym is) offered) (ap (λ x. x.accepted) is)
traces_step s kept before middle now from st to t asks (round end changed is) =
    traces_stay s before middle now from st to t asks (ap (λ x. x.file) is) (ap (λ x. x.offer) is) (ap (λ x. x.accepted) is)

-- a walk that hasn't begun
pub walked-refl : (s : Search) (now : Judging) (st : State) → s.Offers st.file st.offer → Walked s now now st st
walked-refl s now st offered = record {
  goes_on = goes_on-refl now;
  leads = leads-refl s now now st;
  traces = record { more = []; accepted_is = sym (append-nil st.accepted); last = refl; offered = offered; asks = all_gained-refl (AboutCandidate s st.file []) now.calls };
}

-- and one step more
pub walked-step : (s : Search) (kept : List Kept) (before middle now : Judging) (from st to : State) → Walked s before middle from st → IsPart s kept before middle now
    → AsksOnlyTried (with_kept s kept) middle now st → Advances (with_kept s kept) middle now st to → Walked s before now from to
walked-step s kept before middle now from st to w part asks step = record {
  goes_on = goes_on-trans before middle now w.goes_on part.on;
  leads = leads-trans s before middle now from st to w.leads part.on (leads-advances s kept before middle now part st to step);
  traces = traces_step s kept before middle now from st to w.traces (asks_step s kept before middle now from st w.traces asks) step;
}

-- The step that ended the walk asked too, and may have gone over rejected positions.
pub walked-end : (s : Search) (kept : List Kept) (before middle now : Judging) (from st to : State) → Walked s before middle from st → IsPart s kept before middle now
    → AsksOnlyTried (with_kept s kept) middle now st → GoesOver (with_kept s kept) middle now st to → Walked s before now from to
walked-end s kept before middle now from st to w part asks over = record {
  goes_on = goes_on-trans before middle now w.goes_on part.on;
  leads = leads-trans s before middle now from st to w.leads part.on (leads-over s kept before middle now part st to over);
  traces = traces_over s kept before middle now from st to w.traces (asks_step s kept before middle now from st w.traces asks) over;
}
