-- A reduction goes on from where it has accepted some rows.
use Rattle.std.proofs.Common.{◌≡◌, ℕ, Bool, true, false, List, [], ◌∷◌, ◌++◌, length, Option, refl, sym, ◌∙◌, ap, subst, arith, append_assoc, length-append}
use Rattle.std.proofs.lemmas.List.{append-nil, append_cancel_left}
use Rattle.cr_cursor.specs.declared.passes.Cursor.{Cursor}
use Rattle.cr_cursor.specs.Variants.{Offer, cursor, place_of}
use Rattle.cr_reduce.specs.Keeping.{Front, IsBehind, kept_state}
use Rattle.cr_reduce.specs.declared.end.Accepted.{Accepted}
use Rattle.cr_reduce.specs.Reduction.{FailedTrials, Proposals, Trial, cursors_of, State, Outcome, Reduces, moved, start_of, taken, next_round}
use Rattle.cr_reduce.specs.Reduction.Reduces.{new_round, fixed, spent, short, accepts, rejects, fails}
use Rattle.cr_reduce.specs.Search.{ChainsTo}
use Rattle.cr_reduce.proofs.Keepings.{first_place}
use Rattle.cr_reduce.proofs.OneOutcome.{OffersOne}

-- what was accepted stays, and more may come
pub grown : (p : Proposals) (A R : Trial) (F : FailedTrials) (limit : Option ℕ) (st : State) (out : Outcome) → Reduces p A R F limit st out → (more : List Accepted) × (out.accepted ≡ st.accepted ++ more)
grown p A R F limit st out (new_round end changed rest) = grown p A R F limit (next_round st) out rest
grown p A R F limit st out (fixed end changed is) = ([], ap (λ (o : Outcome). o.accepted) is ∙ sym (append-nil st.accepted))
grown p A R F limit st out (spent below is_limit is) = ([], ap (λ (o : Outcome). o.accepted) is ∙ sym (append-nil st.accepted))
grown p A R F limit st out (short to turns some below all count is_limit is) = ([], ap (λ (o : Outcome). o.accepted) is ∙ sym (append-nil st.accepted))
grown p A R F limit st out (accepts position at size turns next first has count within offered rest) =
    let row : Accepted = record { at = at; size = size; turn = turns } in
    let after = grown p A R F limit (taken st at size turns next) out rest in
    (row ∷ after.0, after.1 ∙ append_assoc st.accepted (row ∷ []) after.0)
grown p A R F limit st out (rejects turns below all count within rest) = grown p A R F limit (moved st (length (cursors_of st.offer)) turns) out rest
grown p A R F limit st out (fails position at turns worker low there before failed count within is) = ([], ap (λ (o : Outcome). o.accepted) is ∙ sym (append-nil st.accepted))

-- The state behind these rows, the last of which is this one.
pub record Resumes (p : Proposals) (A R : Trial) (F : FailedTrials) (limit : Option ℕ) (st : State) (out : Outcome) (rows : List Accepted) : Type 0 where
  pub to : State
  pub last : Accepted
  pub before : List Accepted
  pub ends_so : rows ≡ before ++ last ∷ []
  pub accepted_is : to.accepted ≡ st.accepted ++ rows
  pub chain : ChainsTo p st.file rows to.file
  pub offered : p to.file to.offer
  pub placed : to.position ≡ place_of to.offer.widths last.at
  pub changed_is : to.changed ≡ true
  pub turns_are : to.turns ≡ last.turn
  pub goes_on : Reduces p A R F limit to out

none_left : (st : State) (out : Outcome) (row : Accepted) (rows rest : List Accepted) → out.accepted ≡ st.accepted → out.accepted ≡ st.accepted ++ (row ∷ (rows ++ rest)) → ⊥
none_left st out row rows rest same is = omega (arith, ap length (sym same ∙ is), length-append st.accepted (row ∷ (rows ++ rest)))

first_same : (x y : Accepted) (xs ys : List Accepted) → x ∷ xs ≡ y ∷ ys → x ≡ y
first_same x y xs ys is = cc is

rest_same : (x y : Accepted) (xs ys : List Accepted) → x ∷ xs ≡ y ∷ ys → xs ≡ ys
rest_same x y xs ys is = cc is

pub resumed : (p : Proposals) (A R : Trial) (F : FailedTrials) (limit : Option ℕ) (st : State) (out : Outcome) (row : Accepted) (rows rest : List Accepted) → p st.file st.offer
    → out.accepted ≡ st.accepted ++ (row ∷ (rows ++ rest)) → Reduces p A R F limit st out → Resumes p A R F limit st out (row ∷ rows)
resumed p A R F limit st out row rows rest offers is (new_round end changed on) =
    let r = resumed p A R F limit (next_round st) out row rows rest offers is on in
    record { to = r.to; last = r.last; before = r.before; ends_so = r.ends_so; accepted_is = r.accepted_is; chain = r.chain; offered = r.offered; placed = r.placed; changed_is = r.changed_is; turns_are = r.turns_are; goes_on = r.goes_on }
resumed p A R F limit st out row rows rest offers is (fixed end changed ended) = absurd (none_left st out row rows rest (ap (λ (o : Outcome). o.accepted) ended) is)
resumed p A R F limit st out row rows rest offers is (spent below is_limit ended) = absurd (none_left st out row rows rest (ap (λ (o : Outcome). o.accepted) ended) is)
resumed p A R F limit st out row rows rest offers is (short to turns some below all count is_limit ended) = absurd (none_left st out row rows rest (ap (λ (o : Outcome). o.accepted) ended) is)
resumed p A R F limit st out row [] rest offers is (accepts position at size turns next first has count within offered on) =
    let new : Accepted = record { at = at; size = size; turn = turns } in
    let to = taken st at size turns next in
    let more = grown p A R F limit to out on in
    let whole : new ∷ more.0 ≡ row ∷ rest = append_cancel_left st.accepted (new ∷ more.0) (row ∷ rest) (sym (more.1 ∙ append_assoc st.accepted (new ∷ []) more.0) ∙ is) in
    subst (λ (r : Accepted). Resumes p A R F limit st out (r ∷ [])) (first_same new row more.0 rest whole) (record {
      to = to;
      last = new;
      before = [];
      ends_so = refl;
      accepted_is = refl;
      chain = (st.offer, offers, refl);
      offered = offered;
      placed = refl;
      changed_is = refl;
      turns_are = refl;
      goes_on = on;
    })
resumed p A R F limit st out row (second ∷ rows) rest offers is (accepts position at size turns next first has count within offered on) =
    let new : Accepted = record { at = at; size = size; turn = turns } in
    let to = taken st at size turns next in
    let more = grown p A R F limit to out on in
    let whole : new ∷ more.0 ≡ row ∷ (second ∷ (rows ++ rest)) = append_cancel_left st.accepted (new ∷ more.0) (row ∷ (second ∷ (rows ++ rest))) (sym (more.1 ∙ append_assoc st.accepted (new ∷ []) more.0) ∙ is) in
    let r = resumed p A R F limit to out second rows rest offered (more.1 ∙ ap (λ (l : List Accepted). to.accepted ++ l) (rest_same new row more.0 (second ∷ (rows ++ rest)) whole)) on in
    subst (λ (x : Accepted). Resumes p A R F limit st out (x ∷ (second ∷ rows))) (first_same new row more.0 (second ∷ (rows ++ rest)) whole) (record {
      to = r.to;
      last = r.last;
      before = new ∷ r.before;
      ends_so = ap (λ (l : List Accepted). new ∷ l) r.ends_so;
      accepted_is = r.accepted_is ∙ append_assoc st.accepted (new ∷ []) (second ∷ rows);
      chain = (st.offer, offers, r.chain);
      offered = r.offered;
      placed = r.placed;
      changed_is = r.changed_is;
      turns_are = r.turns_are;
      goes_on = r.goes_on;
    })
resumed p A R F limit st out row rows rest offers is (rejects turns below all count within on) =
    let r = resumed p A R F limit (moved st (length (cursors_of st.offer)) turns) out row rows rest offers is on in
    record { to = r.to; last = r.last; before = r.before; ends_so = r.ends_so; accepted_is = r.accepted_is; chain = r.chain; offered = r.offered; placed = r.placed; changed_is = r.changed_is; turns_are = r.turns_are; goes_on = r.goes_on }
resumed p A R F limit st out row rows rest offers is (fails position at turns worker low there before failed count within ended) = absurd (none_left st out row rows rest (ap (λ (o : Outcome). o.accepted) ended) is)

-- Where the rows are those of a kept state, that is where the reduction goes on.

one_chain : (p : Proposals) (file : List ℕ) (rows : List Accepted) (last other : List ℕ) → OffersOne p → ChainsTo p file rows last → ChainsTo p file rows other → last ≡ other
one_chain p file [] last other one first second = first ∙ sym second
one_chain p file (row ∷ rows) last other one first second =
    let same = one file second.0 first.0 second.1 first.1 in
    one_chain p (first.0.bytes row.at) rows last other one first.2 (subst (λ (o : Offer). ChainsTo p (o.bytes row.at) rows other) same second.2)

behind_last : (before : List Accepted) (last : Accepted) (at : Cursor) (turns : ℕ) → IsBehind (before ++ last ∷ []) at turns → (at ≡ last.at) × (turns ≡ last.turn)
behind_last [] last at turns is = is
behind_last (row ∷ []) last at turns is = is
behind_last (row ∷ (second ∷ more)) last at turns is = behind_last (second ∷ more) last at turns is

same_start : (file last : List ℕ) (offer : Offer) (at : Cursor) (turns : ℕ) → last ≡ file → at ≡ cursor 0 0 0 → turns ≡ 0 → start_of file offer ≡ kept_state last offer at [] turns
same_start file last offer at turns file_is at_is turns_is =
    let place : place_of offer.widths at ≡ 0 = ap (place_of offer.widths) at_is ∙ first_place offer in
    λ i. record { file = sym file_is i; offer = offer; position = sym place i; changed = false; accepted = []; turns = sym turns_is i }

same_state : (to : State) (last : List ℕ) (at : Cursor) (row : Accepted) (rows : List Accepted) (turns : ℕ) → to.file ≡ last → to.position ≡ place_of to.offer.widths at → to.changed ≡ true
    → to.accepted ≡ row ∷ rows → to.turns ≡ turns → to ≡ kept_state last to.offer at (row ∷ rows) turns
same_state to last at row rows turns file_is position_is changed_is accepted_is turns_is =
    λ i. record { file = file_is i; offer = to.offer; position = position_is i; changed = changed_is i; accepted = accepted_is i; turns = turns_is i }

-- A reduction that accepts these rows first goes on where they lead.
pub goes_on_behind : (p : Proposals) (A R : Trial) (F : FailedTrials) (limit : Option ℕ) (file last : List ℕ) (out : Outcome) (rows : List Accepted) (at : Cursor) (turns : ℕ) → OffersOne p
    → ChainsTo p file rows last → IsBehind rows at turns → Front rows out.accepted → (offer : Offer) × p file offer × Reduces p A R F limit (start_of file offer) out
    → (offer : Offer) × p last offer × Reduces p A R F limit (kept_state last offer at rows turns) out
goes_on_behind p A R F limit file last out [] at turns one chain behind front run = (
  run.0,
  subst (λ (f : List ℕ). p f run.0) (sym chain) run.1,
  subst (λ (st : State). Reduces p A R F limit st out) (same_start file last run.0 at turns chain behind.0 behind.1) run.2,
)
goes_on_behind p A R F limit file last out (row ∷ more) at turns one chain behind front run =
    let r = resumed p A R F limit (start_of file run.0) out row more front.0 run.1 front.1 run.2 in
    let file_is : r.to.file ≡ last = one_chain p file (row ∷ more) r.to.file last one r.chain chain in
    let ends_at = behind_last r.before r.last at turns (subst (λ (l : List Accepted). IsBehind l at turns) r.ends_so behind) in
    let place : r.to.position ≡ place_of r.to.offer.widths at = r.placed ∙ ap (place_of r.to.offer.widths) (sym ends_at.0) in
    let same = same_state r.to last at row more turns file_is place r.changed_is r.accepted_is (r.turns_are ∙ sym ends_at.1) in
    (r.to.offer, subst (λ (f : List ℕ). p f r.to.offer) file_is r.offered, subst (λ (st : State). Reduces p A R F limit st out) same r.goes_on)
