-- A reduction has one outcome at most.
use Rattle.std.proofs.Common.{◌≡◌, ℕ, ◌<◌, ◌≤◌, inl, inr, Bool, true, false, List, length, Option, Some, subst, sym, ap, ◌∙◌, arith}
use Rattle.std.proofs.lemmas.Bool.{cases_lt, true≢false}
use Rattle.std.proofs.lemmas.Option.{slice_get_within}
use Rattle.std.specs.List.{slice_get}
use Rattle.cr_cursor.specs.declared.passes.Cursor.{Cursor}
use Rattle.cr_cursor.specs.Variants.{Offer}
use Rattle.cr_reduce.specs.Sizes.{HasSize}
use Rattle.cr_reduce.specs.Reduction.{FailedTrials, Proposals, Trial, State, Outcome, Reduces, Within, AllRejected, IsFirstAccepted, cursors_of, ends, moved, next_round, start_of, taken}
use Rattle.cr_reduce.specs.Reduction.Reduces.{new_round, fixed, spent, short, accepts, rejects, fails}
use Rattle.cr_reduce.specs.declared.end.Why.TheVariants.{Limit}
use Rattle.cr_reduce.specs.Trials.{IsAccepted, IsRejected, ToldAnswer}
use Rattle.cr_pool.specs.Trials.IsRejected.{not_smaller, unlawful, answered_no}
use Rattle.cr_reduce.specs.Laws.{ExcludeEachOther}
use Rattle.cr_reduce.proofs.Sizes.{one_size}

-- what is within a limit that is told
pub at_most : (limit : Option ℕ) (most turns : ℕ) → limit ≡ Some most → Within limit turns → turns ≤ most
at_most limit most turns is within = subst (λ l. Within l turns) is within

one_limit : (limit : Option ℕ) (m n : ℕ) → limit ≡ Some m → limit ≡ Some n → m ≡ n
one_limit limit m n first second = cc

-- An accepted position isn't among rejected ones.
pub not_among : (o : Offer) (A R : Trial) (file : List ℕ) (from position to : ℕ) (at : Cursor) → ExcludeEachOther A R → IsFirstAccepted o A R file from position at
    → AllRejected o R file from to → to ≤ position
not_among o A R file from position to at apart first all = elim (cases_lt position to) [
  | inl early ↦ absurd (apart file (o.bytes at) first.accepted (all position at first.after early first.there))
  | inr late ↦ late
]

pub inside : (o : Offer) (A R : Trial) (file : List ℕ) (from position : ℕ) (at : Cursor) → IsFirstAccepted o A R file from position at → position < length (cursors_of o)
inside o A R file from position at first = slice_get_within (cursors_of o) position at first.there

-- Two first accepted positions are one.
pub one_position : (o : Offer) (A R : Trial) (file : List ℕ) (from position other : ℕ) (at at' : Cursor) → ExcludeEachOther A R
    → IsFirstAccepted o A R file from position at → IsFirstAccepted o A R file from other at' → position ≡ other
one_position o A R file from position other at at' apart first second =
    omega (arith, not_among o A R file from position other at apart first second.before, not_among o A R file from other position at' apart second first.before)

pub one_cursor : (o : Offer) (i j : ℕ) (at at' : Cursor) → slice_get (cursors_of o) i ≡ Some at → slice_get (cursors_of o) j ≡ Some at' → i ≡ j → at ≡ at'
one_cursor o i j at at' there there' e = cc

-- A file has one offer at most.
abbrev pub OffersOne : Proposals → Type 0
OffersOne p = (file : List ℕ) (o other : Offer) → p file o → p file other → o ≡ other

pub one_taken : (p : Proposals) (st : State) (at at' : Cursor) (size size' turns turns' : ℕ) (next next' : Offer) → OffersOne p → at ≡ at' → HasSize (st.offer.bytes at) size → HasSize (st.offer.bytes at') size' → turns ≡ turns'
    → p (st.offer.bytes at) next → p (st.offer.bytes at') next' → taken st at' size' turns' next' ≡ taken st at size turns next
one_taken p st at at' size size' turns turns' next next' one same has has' e offered offered' =
    let sizes : size ≡ size' = one_size (st.offer.bytes at') size size' (subst (λ c. HasSize (st.offer.bytes c) size) same has) has' in
    let offers : next ≡ next' = one (st.offer.bytes at') next next' (subst (λ c. p (st.offer.bytes c) next) same offered) offered' in
    sym (λ i. taken st (same i) (sizes i) (e i) (offers i))

-- No trial fails.
abbrev pub NoneFails : FailedTrials → Type 0
NoneFails F = (worker : ℕ) (file variant : List ℕ) → F worker file variant → ⊥

pub one_outcome : (p : Proposals) (A R : Trial) (F : FailedTrials) (limit : Option ℕ) (st : State) (out other : Outcome) → OffersOne p → NoneFails F → ExcludeEachOther A R
    → Reduces p A R F limit st out → Reduces p A R F limit st other → out ≡ other
one_outcome p A R F limit st out other one never apart (new_round end changed rest) (new_round end' changed' rest') = one_outcome p A R F limit (next_round st) out other one never apart rest rest'
one_outcome p A R F limit st out other one never apart (new_round end changed rest) (fixed end' same is') = absurd (true≢false (sym changed ∙ same))
one_outcome p A R F limit st out other one never apart (new_round end changed rest) (spent below' limit' is') = absurd (omega arith)
one_outcome p A R F limit st out other one never apart (new_round end changed rest) (short to' turns' some' below' all' count' limit' is') = absurd (omega arith)
one_outcome p A R F limit st out other one never apart (new_round end changed rest) (accepts position' at' size' turns' next' first' has' count' within' offered' rest') =
    absurd (omega (arith, first'.after, inside st.offer A R st.file st.position position' at' first'))
one_outcome p A R F limit st out other one never apart (new_round end changed rest) (rejects turns' below' all' count' within' rest') = absurd (omega arith)
one_outcome p A R F limit st out other one never apart (fixed end same is) (new_round end' changed' rest') = absurd (true≢false (sym changed' ∙ same))
one_outcome p A R F limit st out other one never apart (fixed end same is) (fixed end' same' is') = is ∙ sym is'
one_outcome p A R F limit st out other one never apart (fixed end same is) (spent below' limit' is') = absurd (omega arith)
one_outcome p A R F limit st out other one never apart (fixed end same is) (short to' turns' some' below' all' count' limit' is') = absurd (omega arith)
one_outcome p A R F limit st out other one never apart (fixed end same is) (accepts position' at' size' turns' next' first' has' count' within' offered' rest') =
    absurd (omega (arith, first'.after, inside st.offer A R st.file st.position position' at' first'))
one_outcome p A R F limit st out other one never apart (fixed end same is) (rejects turns' below' all' count' within' rest') = absurd (omega arith)
one_outcome p A R F limit st out other one never apart (spent below is_limit is) (new_round end' changed' rest') = absurd (omega arith)
one_outcome p A R F limit st out other one never apart (spent below is_limit is) (fixed end' same' is') = absurd (omega arith)
one_outcome p A R F limit st out other one never apart (spent below is_limit is) (spent below' limit' is') = is ∙ sym is'
one_outcome p A R F limit st out other one never apart (spent below is_limit is) (short to' turns' some' below' all' count' limit' is') =
    absurd (omega (arith, one_limit limit st.turns turns' is_limit limit'))
one_outcome p A R F limit st out other one never apart (spent below is_limit is) (accepts position' at' size' turns' next' first' has' count' within' offered' rest') =
    absurd (omega (arith, first'.after, at_most limit st.turns turns' is_limit within'))
one_outcome p A R F limit st out other one never apart (spent below is_limit is) (rejects turns' below' all' count' within' rest') =
    absurd (omega (arith, at_most limit st.turns turns' is_limit within'))
one_outcome p A R F limit st out other one never apart (short to turns some below all count is_limit is) (new_round end' changed' rest') = absurd (omega arith)
one_outcome p A R F limit st out other one never apart (short to turns some below all count is_limit is) (fixed end' same' is') = absurd (omega arith)
one_outcome p A R F limit st out other one never apart (short to turns some below all count is_limit is) (spent below' limit' is') =
    absurd (omega (arith, one_limit limit turns st.turns is_limit limit'))
one_outcome p A R F limit st out other one never apart (short to turns some below all count is_limit is) (short to' turns' some' below' all' count' limit' is') =
    let same_turns = one_limit limit turns turns' is_limit limit' in
    let same_to : to ≡ to' = omega (arith, same_turns) in
    is ∙ subst (λ n. ends (moved st to turns) Limit ≡ ends (moved st n turns') Limit) same_to (ap (λ n. ends (moved st to n) Limit) same_turns) ∙ sym is'
one_outcome p A R F limit st out other one never apart (short to turns some below all count is_limit is) (accepts position' at' size' turns' next' first' has' count' within' offered' rest') =
    absurd (omega (arith, at_most limit turns turns' is_limit within', not_among st.offer A R st.file st.position position' to at' apart first' all))
one_outcome p A R F limit st out other one never apart (short to turns some below all count is_limit is) (rejects turns' below' all' count' within' rest') =
    absurd (omega (arith, at_most limit turns turns' is_limit within'))
one_outcome p A R F limit st out other one never apart (accepts position at size turns next first has count within offered rest) (new_round end' changed' rest') =
    absurd (omega (arith, first.after, inside st.offer A R st.file st.position position at first))
one_outcome p A R F limit st out other one never apart (accepts position at size turns next first has count within offered rest) (fixed end' same' is') =
    absurd (omega (arith, first.after, inside st.offer A R st.file st.position position at first))
one_outcome p A R F limit st out other one never apart (accepts position at size turns next first has count within offered rest) (spent below' limit' is') =
    absurd (omega (arith, first.after, at_most limit st.turns turns limit' within))
one_outcome p A R F limit st out other one never apart (accepts position at size turns next first has count within offered rest) (short to' turns' some' below' all' count' limit' is') =
    absurd (omega (arith, at_most limit turns' turns limit' within, not_among st.offer A R st.file st.position position to' at apart first all'))
one_outcome p A R F limit st out other one never apart (accepts position at size turns next first has count within offered rest) (accepts position' at' size' turns' next' first' has' count' within' offered' rest') =
    let same = one_position st.offer A R st.file st.position position position' at at' apart first first' in
    let cursors_same = one_cursor st.offer position position' at at' first.there first'.there same in
    one_outcome p A R F limit (taken st at size turns next) out other one never apart rest
    (subst (λ next. Reduces p A R F limit next other) (one_taken p st at at' size size' turns turns' next next' one cursors_same has has' (omega (arith, same)) offered offered') rest')
one_outcome p A R F limit st out other one never apart (accepts position at size turns next first has count within offered rest) (rejects turns' below' all' count' within' rest') =
    absurd (omega (arith, inside st.offer A R st.file st.position position at first, not_among st.offer A R st.file st.position position (length (cursors_of st.offer)) at apart first all'))
one_outcome p A R F limit st out other one never apart (rejects turns below all count within rest) (new_round end' changed' rest') = absurd (omega arith)
one_outcome p A R F limit st out other one never apart (rejects turns below all count within rest) (fixed end' same' is') = absurd (omega arith)
one_outcome p A R F limit st out other one never apart (rejects turns below all count within rest) (spent below' limit' is') =
    absurd (omega (arith, at_most limit st.turns turns limit' within))
one_outcome p A R F limit st out other one never apart (rejects turns below all count within rest) (short to' turns' some' below' all' count' limit' is') =
    absurd (omega (arith, at_most limit turns' turns limit' within))
one_outcome p A R F limit st out other one never apart (rejects turns below all count within rest) (accepts position' at' size' turns' next' first' has' count' within' offered' rest') =
    absurd (omega (arith, inside st.offer A R st.file st.position position' at' first', not_among st.offer A R st.file st.position position' (length (cursors_of st.offer)) at' apart first' all))
one_outcome p A R F limit st out other one never apart (rejects turns below all count within rest) (rejects turns' below' all' count' within' rest') =
    let same : turns' ≡ turns = omega arith in
    one_outcome p A R F limit (moved st (length (cursors_of st.offer)) turns) out other one never apart rest
    (subst (λ n. Reduces p A R F limit (moved st (length (cursors_of st.offer)) n) other) same rest')
one_outcome p A R F limit st out other one never apart (new_round end changed rest) (fails position' at' turns' worker' low' there' before' failed' count' within' is') = absurd (never worker' st.file (st.offer.bytes at') failed')
one_outcome p A R F limit st out other one never apart (fixed end same is) (fails position' at' turns' worker' low' there' before' failed' count' within' is') = absurd (never worker' st.file (st.offer.bytes at') failed')
one_outcome p A R F limit st out other one never apart (spent below is_limit is) (fails position' at' turns' worker' low' there' before' failed' count' within' is') = absurd (never worker' st.file (st.offer.bytes at') failed')
one_outcome p A R F limit st out other one never apart (short to turns some below all count is_limit is) (fails position' at' turns' worker' low' there' before' failed' count' within' is') = absurd (never worker' st.file (st.offer.bytes at') failed')
one_outcome p A R F limit st out other one never apart (accepts position at size turns next first has count within offered rest) (fails position' at' turns' worker' low' there' before' failed' count' within' is') = absurd (never worker' st.file (st.offer.bytes at') failed')
one_outcome p A R F limit st out other one never apart (rejects turns below all count within rest) (fails position' at' turns' worker' low' there' before' failed' count' within' is') = absurd (never worker' st.file (st.offer.bytes at') failed')
one_outcome p A R F limit st out other one never apart (fails position at turns worker low there before failed count within is) run = absurd (never worker st.file (st.offer.bytes at) failed)

-- so has the reduction of a file
pub one_reduction : (p : Proposals) (A R : Trial) (F : FailedTrials) (limit : Option ℕ) (file : List ℕ) (out other : Outcome) → OffersOne p → NoneFails F → ExcludeEachOther A R
    → (offer : Offer) × p file offer × Reduces p A R F limit (start_of file offer) out → (offer : Offer) × p file offer × Reduces p A R F limit (start_of file offer) other → out ≡ other
one_reduction p A R F limit file out other one never apart first second =
    one_outcome p A R F limit (start_of file first.0) out other one never apart first.2
    (subst (λ o. Reduces p A R F limit (start_of file o) other) (one file second.0 first.0 second.1 first.1) second.2)

-- Where about each file one answer at most is told, no variant is both accepted and rejected.
pub told_apart : (Lawful : List ℕ → Type 0) (Tells : List ℕ → Bool → Type 0) → ((file : List ℕ) → Tells file true → Tells file false → ⊥)
    → ExcludeEachOther (IsAccepted Lawful (ToldAnswer Tells)) (IsRejected Lawful (ToldAnswer Tells))
told_apart Lawful Tells once file variant it (not_smaller big) = big it.smaller
told_apart Lawful Tells once file variant it (unlawful against) = against it.lawful
told_apart Lawful Tells once file variant it (answered_no told) = once variant it.answered told
