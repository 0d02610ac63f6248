-- What a reduction accepts leads on from its file.
use Rattle.std.proofs.Common.{◌≡◌, ◌⊎◌, inl, inr, ℕ, ◌+◌, ◌-◌, ◌*◌, ◌<◌, ◌≤◌, List, [], ◌∷◌, ◌++◌, length, Option, Some, None, refl, sym, ◌∙◌, ap, subst, arith, append_assoc, length-append, mul-le-mul}
use Rattle.std.proofs.lemmas.Bool.{cases_lt}
use Rattle.std.proofs.lemmas.List.{append_cancel_left}
use Rattle.cr_cursor.specs.declared.passes.Cursor.{Cursor}
use Rattle.cr_cursor.specs.TokenLaw.{IsTokenized}
use Rattle.cr_cursor.specs.Variants.{Offer}
use Rattle.cr_cursor.proofs.Members.{of_cursors}
use Rattle.cr_reduce.specs.declared.end.Accepted.{Accepted}
use Rattle.cr_reduce.specs.declared.end.Why.TheVariants.{Limit}
use Rattle.cr_reduce.specs.Reduction.{AllRejected, FailedTrials, IsFirstAccepted, Outcome, Proposals, Reduces, State, Trial, Within, cursors_of, ends, moved, next_round, none_fails, start_of, taken}
use Rattle.cr_reduce.specs.Reduction.Reduces.{new_round, fixed, spent, short, accepts, rejects, fails}
use Rattle.cr_reduce.specs.Bound.{HasLevels, enough_turns}
use Rattle.cr_reduce.specs.Search.{AcceptsAsTold, RejectsAsTold, Search}
use Rattle.cr_reduce.specs.Sizes.{HasSize, IsSmaller}
use Rattle.cr_reduce.proofs.Bounds.{ends_in_time}
use Rattle.cr_reduce.proofs.OneOutcome.{inside}
use Rattle.cr_reduce.proofs.Resumed.{grown}
use Rattle.cr_reduce.proofs.Sizes.{one_size, size_by_length}
use Rattle.cr_replay.specs.Chains.{Chain, Follows, IsStep}
use Rattle.cr_replay.specs.Chains.Follows.{further, there}
use Rattle.cr_journal.specs.Laws.{AcceptedFollows, chain_in, most_turns}
use Rattle.cr_tokens.specs.Size.{size_of}

-- the rows lead on
abbrev pub Led : Chain → List ℕ → ℕ → List Accepted → Type 0
Led c file turns rows = (last : List ℕ) × (n : ℕ) × Follows c file turns rows last n

none_left : (st : State) (out : Outcome) (row : Accepted) (more : List Accepted) → out.accepted ≡ st.accepted → out.accepted ≡ st.accepted ++ (row ∷ more) → ⊥
none_left st out row more same is = omega (arith, ap length (sym same ∙ is), length-append st.accepted (row ∷ more))

module _ (c : Chain) (A R : Trial) (F : FailedTrials) (limit : Option ℕ) (smaller : (file variant : List ℕ) → A file variant → IsSmaller variant file)
    (lawful : (file variant : List ℕ) → A file variant → c.Lawful variant) (fits : (turns : ℕ) → Within limit turns → Within c.limit turns) where
  step : (st : State) (before position : ℕ) (at : Cursor) (size turns : ℕ) → c.Offers st.file st.offer → before ≤ st.turns → IsFirstAccepted st.offer A R st.file st.position position at
      → HasSize (st.offer.bytes at) size → turns + st.position ≡ st.turns + position + 1 → Within limit turns
      → IsStep c st.file before (record { at = at; size = size; turn = turns }) (st.offer.bytes at)
  step st before position at size turns offered early first has count within =
      let it = smaller st.file (st.offer.bytes at) first.accepted in
      record {
        offer = st.offer;
        size = it.old_size;
        offered = offered;
        there = (of_cursors st.offer.widths position at first.there).index;
        is = refl;
        old_size = it.old_is;
        new_size = has;
        smaller = omega (arith, it.less, one_size (st.offer.bytes at) it.new_size size it.new_is has);
        lawful = lawful st.file (st.offer.bytes at) first.accepted;
        later = omega (arith, early, count, first.after);
        within = fits turns within;
      }

  pub leads : (st : State) (out : Outcome) (before : ℕ) (rows rest : List Accepted) → c.Offers st.file st.offer → before ≤ st.turns → out.accepted ≡ st.accepted ++ (rows ++ rest)
      → Reduces c.Offers A R F limit st out → Led c st.file before rows
  leads st out before [] rest offered early is run = (st.file, before, there)
  leads st out before (row ∷ rows) rest offered early is (new_round end changed on) = leads (next_round st) out before (row ∷ rows) rest offered early is on
  leads st out before (row ∷ rows) rest offered early is (fixed end same ended) = absurd (none_left st out row (rows ++ rest) (ap (λ (o : Outcome). o.accepted) ended) is)
  leads st out before (row ∷ rows) rest offered early is (spent below is_limit ended) = absurd (none_left st out row (rows ++ rest) (ap (λ (o : Outcome). o.accepted) ended) is)
  leads st out before (row ∷ rows) rest offered early is (short to turns some below all count is_limit ended) =
      absurd (none_left st out row (rows ++ rest) (ap (λ (o : Outcome). o.accepted) ended) is)
  leads st out before (row ∷ rows) rest offered early is (accepts position at size turns next first has count within offers on) =
      let new : Accepted = record { at = at; size = size; turn = turns } in
      let to = taken st at size turns next in
      let more = grown c.Offers A R F limit to out on in
      let whole : new ∷ more.0 ≡ row ∷ (rows ++ rest) = append_cancel_left st.accepted (new ∷ more.0) (row ∷ (rows ++ rest)) (sym (more.1 ∙ append_assoc st.accepted (new ∷ []) more.0) ∙ is) in
      let same : new ≡ row = cc whole in
      let behind : more.0 ≡ rows ++ rest = cc whole in
      let (last, n, follows) = leads to out turns rows rest offers (omega arith) (more.1 ∙ ap (λ (l : List Accepted). to.accepted ++ l) behind) on in
      subst (λ (r : Accepted). Led c st.file before (r ∷ rows)) same (last, n, further (step st before position at size turns offered early first has count within) follows)
  leads st out before (row ∷ rows) rest offered early is (rejects turns below all count within on) =
      leads (moved st (length (cursors_of st.offer)) turns) out before (row ∷ rows) rest offered (omega (arith, early, count, below)) is on
  leads st out before (row ∷ rows) rest offered early is (fails position at turns worker low there_is all failed count within ended) =
      absurd (none_left st out row (rows ++ rest) (ap (λ (o : Outcome). o.accepted) ended) is)

-- Without a limit a reduction is one under a limit too, or under that limit ends by it.
module _ (p : Proposals) (A R : Trial) (most : ℕ) where
  abbrev Capped : State → Outcome → Type 0
  Capped st out = Reduces p A R none_fails (Some most) st out ⊎ ((other : Outcome) × Reduces p A R none_fails (Some most) st other × (other.why ≡ Limit))

  onto : (from to : State) (out : Outcome) → ((o : Outcome) → Reduces p A R none_fails (Some most) to o → Reduces p A R none_fails (Some most) from o) → Capped to out → Capped from out
  onto from to out steps (inl run) = inl (steps out run)
  onto from to out steps (inr (other, run, is)) = inr (other, steps other run, is)

  -- the limit is reached before this position
  stops : (st : State) (out : Outcome) (to : ℕ) → st.turns ≤ most → most + st.position < st.turns + length (cursors_of st.offer) → most + st.position ≤ st.turns + to
      → AllRejected st.offer R st.file st.position to → Capped st out
  stops st out to few inside_of far all = elim (cases_lt st.turns most) [
    | inl early ↦
        let reach = st.position + (most - st.turns) in
        inr (
          ends (moved st reach most) Limit,
          short reach most (omega (arith, early)) (omega (arith, early, inside_of)) (λ i at low high there_is. all i at low (omega (arith, high, early, far)) there_is) (omega (arith, early)) refl refl,
          refl,
        )
    | inr late ↦ inr (ends st Limit, spent (omega (arith, late, few, inside_of)) (ap Some (omega (arith, late, few))) refl, refl)
  ]

  pub capped : (st : State) (out : Outcome) → st.turns ≤ most → Reduces p A R none_fails None st out → Capped st out
  capped st out few (new_round end changed on) = onto st (next_round st) out (λ o. new_round end changed) (capped (next_round st) out few on)
  capped st out few (fixed end same ended) = inl (fixed end same ended)
  capped st out few (spent below is_limit ended) = cc
  capped st out few (short to turns some below all count is_limit ended) = cc
  capped st out few (accepts position at size turns next first has count within offers on) = elim (cases_lt most turns) [
    | inl past ↦ stops st out position few (omega (arith, past, count, inside st.offer A R st.file st.position position at first)) (omega (arith, past, count)) first.before
    | inr early ↦ onto st (taken st at size turns next) out (λ o. accepts position at size turns next first has count early offers) (capped (taken st at size turns next) out early on)
  ]
  capped st out few (rejects turns below all count within on) = elim (cases_lt most turns) [
    | inl past ↦ stops st out (length (cursors_of st.offer)) few (omega (arith, past, count)) (omega (arith, past, count)) all
    | inr early ↦ onto st (moved st (length (cursors_of st.offer)) turns) out (λ o. rejects turns below all count early) (capped (moved st (length (cursors_of st.offer)) turns) out early on)
  ]
  capped st out few (fails position at turns worker low there_is all failed count within ended) = elim failed [ ]

-- ---- of a search

-- Each pass has 16 levels at most, and there are ten.
pub levels : (s : Search) → ((file : List ℕ) (o : Offer) (pass level : ℕ) → s.Offers file o → o.widths pass level ≤ length file)
    → ((file : List ℕ) (o : Offer) (pass level : ℕ) → s.Offers file o → 15 < level → o.widths pass level ≡ 0) → HasLevels s.Offers (λ pass. 16)
levels s few sixteen = record {
  none_above = λ file o pass level offered above. sixteen file o pass level offered above;
  few = few;
}

enough : (size : ℕ) → size ≤ 12582912 → enough_turns (λ pass. 16) size ≤ 9223372036854775807
enough size small =
    let squared : size * (size + 1) ≤ 12582912 * 12582913 = mul-le-mul {n₁ = size} {m₁ = size + 1} {n₂ = 12582912} {m₂ = 12582913} small (omega (arith, small)) in
    omega (arith, small, squared)

module _ (s : Search) (has : HasLevels s.Offers (λ pass. 16)) where
  -- without a limit the turns are far from the highest
  pub under_most : (limit : Option ℕ) (file : List ℕ) (offer : Offer) (out : Outcome) → IsTokenized file → s.Offers file offer
      → Reduces s.Offers (AcceptsAsTold s) (RejectsAsTold s) none_fails limit (start_of file offer) out
      → Reduces s.Offers (AcceptsAsTold s) (RejectsAsTold s) none_fails (Some (most_turns limit)) (start_of file offer) out
  under_most (Some limit) file offer out tokenized offered run = run
  under_most None file offer out tokenized offered run = elim (capped s.Offers (AcceptsAsTold s) (RejectsAsTold s) (most_turns None) (start_of file offer) out (omega arith) run) [
    | inl same ↦ same
    | inr (other, capped_run, is) ↦
        let sized : HasSize file (size_of file tokenized.tokens) = record { tokens = tokenized.tokens; tokenizes = tokenized.tokenizes; is = refl } in
        let small = size_by_length file (size_of file tokenized.tokens) sized in
        absurd (ends_in_time s.Offers (AcceptsAsTold s) (RejectsAsTold s) none_fails (λ pass. 16) (size_of file tokenized.tokens) (Some (most_turns None)) has (λ f v it. it.smaller) file offer other offered sized
        (enough (size_of file tokenized.tokens) (omega (arith, small, tokenized.tokenizes.short))) capped_run is)
  ]

  pub accepted_follows : AcceptedFollows s
  accepted_follows limit file out rows tokenized (offer, offered, run) (rest, is) =
      leads (chain_in s limit) (AcceptsAsTold s) (RejectsAsTold s) none_fails (Some (most_turns limit)) (λ f v it. it.smaller) (λ f v it. it.lawful) (λ turns within. within)
      (start_of file offer) out 0 rows rest offered (omega arith) is (under_most limit file offer out tokenized offered run)
