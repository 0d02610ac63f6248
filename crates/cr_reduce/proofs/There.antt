-- A reduction is there: by the size, which each acceptance makes less; then by whether the round has accepted; then by the positions that are left.
use Rattle.std.proofs.Common.{◌≡◌, ◌⊎◌, inl, inr, ℕ, zero, suc, ◌+◌, ◌-◌, ◌<◌, ◌≤◌, Bool, true, false, List, length, Option, Some, None, get_or, refl, sym, ◌∙◌, ap, subst, arith}
use Rattle.std.proofs.lemmas.Bool.{cases_lt}
use Rattle.std.proofs.lemmas.Option.{slice_get-get_or}
use Rattle.std.specs.List.{slice_get}
use Rattle.cr_cursor.specs.declared.passes.Cursor.{Cursor}
use Rattle.cr_cursor.specs.Variants.{Offer, cursor, place_of}
use Rattle.cr_cursor.proofs.Members.{of_cursors, place_within}
use Rattle.cr_reduce.specs.Reduction.{AllRejected, IsFirstAccepted, Outcome, Proposals, Reduces, State, Trial, Within, cursors_of, ends, moved, next_round, none_fails, start_of, taken}
use Rattle.cr_reduce.specs.Reduction.Reduces.{new_round, fixed, spent, short, accepts, rejects}
use Rattle.cr_reduce.specs.declared.end.Why.TheVariants.{Fixed, Limit}
use Rattle.cr_reduce.specs.Sizes.{HasSize, IsSmaller}
use Rattle.cr_reduce.specs.Trials.{IsAccepted, IsRejected, ToldAnswer}
use Rattle.cr_pool.specs.Trials.IsRejected.{not_smaller, unlawful, answered_no}
use Rattle.cr_reduce.proofs.Sizes.{one_size}
use Rattle.cr_reduce.specs.Laws.{NotNone}

-- the limit is reached, or one turn more is within it
reached : (limit : Option ℕ) (turns : ℕ) → Within limit turns → (limit ≡ Some turns) ⊎ Within limit (turns + 1)
reached None turns within = inr tt
reached (Some most) turns within = elim (cases_lt turns most) [
  | inl less ↦ inr (omega (arith, less))
  | inr all ↦ inl (let is : most ≡ turns = omega (arith, all, within) in ap Some is)
]

within_none : (limit : Option ℕ) → Within limit 0
within_none None = tt
within_none (Some most) = omega arith

module _ (p : Proposals) (Lawful : List ℕ → Type 0) (Tells : List ℕ → Bool → Type 0) (limit : Option ℕ)
    (answered : (v : List ℕ) → Lawful v → NotNone ((answer : Bool) × Tells v answer)) (offered : (v : List ℕ) (n : ℕ) → HasSize v n → NotNone ((o : Offer) × p v o)) where
  abbrev A : Trial
  A = IsAccepted Lawful (ToldAnswer Tells)

  abbrev R : Trial
  R = IsRejected Lawful (ToldAnswer Tells)

  -- from this state on there is none
  abbrev HasNone : State → Type 0
  HasNone st = (out : Outcome) → Reduces p A R none_fails limit st out → ⊥

  by_answer : (file v : List ℕ) → (A file v ⊎ R file v → ⊥) → IsSmaller v file → Lawful v → (answer : Bool) → Tells v answer → ⊥
  by_answer file v none smaller lawful true told = none (inl (record { smaller = smaller; lawful = lawful; answered = told }))
  by_answer file v none smaller lawful false told = none (inr (answered_no told))

  -- each variant is accepted or rejected
  decided : (file v : List ℕ) → NotNone (A file v ⊎ R file v)
  decided file v none = none (inr (not_smaller (λ smaller. none (inr (unlawful (λ lawful. answered v lawful (λ it. by_answer file v none smaller lawful it.0 it.1)))))))

  all_one : (o : Offer) (file : List ℕ) (from i : ℕ) (at : Cursor) → slice_get (cursors_of o) i ≡ Some at → AllRejected o R file from i → R file (o.bytes at) → AllRejected o R file from (i + 1)
  all_one o file from i at there all rejected = λ j c after below there'. elim (cases_lt j i) [
    | inl earlier ↦ all j c after earlier there'
    | inr here ↦
        let same : j ≡ i = omega (arith, here, below) in
        let one : Some c ≡ Some at = sym there' ∙ ap (slice_get (cursors_of o)) same ∙ there in
        let is : at ≡ c = cc in
        subst (λ k. R file (o.bytes k)) is rejected
  ]

  same_state : (st : State) (position turns : ℕ) → position ≡ st.position → turns ≡ st.turns → moved st position turns ≡ st
  same_state st position turns e f = λ j. moved st (e j) (f j)

  module _ (st : State) (n : ℕ) (has : HasSize st.file n)
      (smaller : (next : State) (m : ℕ) → HasSize next.file m → m < n → next.position ≤ length (cursors_of next.offer) → Within limit next.turns → HasNone next → ⊥)
      (end : (turns : ℕ) → Within limit turns → HasNone (moved st (length (cursors_of st.offer)) turns) → ⊥) where
    take : (i turns : ℕ) (at : Cursor) → slice_get (cursors_of st.offer) i ≡ Some at → st.position ≤ i → turns + st.position ≡ st.turns + i → Within limit (turns + 1) → AllRejected st.offer R st.file st.position i
        → A st.file (st.offer.bytes at) → HasNone st → ⊥
    take i turns at there from count within all accepted none =
        let size = accepted.smaller.new_size in
        let is = accepted.smaller.new_is in
        let old = one_size st.file accepted.smaller.old_size n accepted.smaller.old_is has in
        let less = accepted.smaller.less in
        let among = of_cursors st.offer.widths i at there in
        offered (st.offer.bytes at) size is (λ o.
        smaller (taken st at size (turns + 1) o.0) size is (omega (arith, old, less)) (place_within o.0.widths at among.pass among.level) within (λ out r.
        none out (accepts i at size (turns + 1) o.0 (record { after = from; there = there; accepted = accepted; before = all }) is (omega (arith, count)) within o.1 r)))

    -- of so many positions that are left
    scan : (d i turns : ℕ) → length (cursors_of st.offer) ≡ i + d → st.position ≤ i → turns + st.position ≡ st.turns + i → Within limit turns → AllRejected st.offer R st.file st.position i → HasNone st → ⊥
    scan zero i turns last from count within all none =
        let here : i ≡ length (cursors_of st.offer) = omega (arith, last) in
        elim (cases_lt st.position i) [
          | inl some ↦ end turns within (λ out r. none out (rejects turns (omega (arith, some, last)) (subst (λ k. AllRejected st.offer R st.file st.position k) here all) (omega (arith, count, last)) within r))
          | inr none_left ↦
              let place : length (cursors_of st.offer) ≡ st.position = omega (arith, last, from, none_left) in
              let made : turns ≡ st.turns = omega (arith, count, from, none_left) in
              end turns within (λ out r. none out (subst (λ s. Reduces p A R none_fails limit s out) (same_state st (length (cursors_of st.offer)) turns place made) r))
        ]
    scan (suc d) i turns more from count within all none =
        let at : Cursor = get_or (cursors_of st.offer) i (cursor 0 0 0) in
        let there : slice_get (cursors_of st.offer) i ≡ Some at = slice_get-get_or (cursors_of st.offer) i (cursor 0 0 0) (omega (arith, more)) in
        elim (reached limit turns within) [
          | inl now ↦ elim (cases_lt st.position i) [
            | inl some ↦ none (ends (moved st i turns) Limit) (short i turns some (omega (arith, more)) all count now refl)
            | inr here ↦
                let made : turns ≡ st.turns = omega (arith, count, from, here) in
                none (ends st Limit) (spent (omega (arith, more, here)) (now ∙ ap Some made) refl)
          ]
          | inr on ↦ decided st.file (st.offer.bytes at) (λ it. elim it [
            | inl accepted ↦ take i turns at there from count on all accepted none
            | inr rejected ↦ scan d (i + 1) (turns + 1) (omega (arith, more)) (omega (arith, from)) (omega (arith, count)) on (all_one st.offer st.file st.position i at there all rejected) none
          ])
        ]

    walk : st.position ≤ length (cursors_of st.offer) → Within limit st.turns → HasNone st → ⊥
    walk placed within none =
        scan (length (cursors_of st.offer) - st.position) st.position st.turns (omega (arith, placed)) (omega arith) refl within (λ j c after below there. absurd (omega (arith, after, below))) none

  abbrev Smaller : ℕ → Type 0
  Smaller n = (next : State) (m : ℕ) → HasSize next.file m → m < n → next.position ≤ length (cursors_of next.offer) → Within limit next.turns → HasNone next → ⊥

  -- in a round that has accepted nothing
  unchanged : (st : State) (n : ℕ) → HasSize st.file n → Smaller n → st.changed ≡ false → st.position ≤ length (cursors_of st.offer) → Within limit st.turns → HasNone st → ⊥
  unchanged st n has smaller same placed within none =
      walk st n has smaller (λ turns w none_there. none_there (ends (moved st (length (cursors_of st.offer)) turns) Fixed) (fixed refl same refl)) placed within none

  -- in one that has
  changed : (st : State) (n : ℕ) → HasSize st.file n → Smaller n → st.changed ≡ true → st.position ≤ length (cursors_of st.offer) → Within limit st.turns → HasNone st → ⊥
  changed st n has smaller is placed within none =
      walk st n has smaller (λ turns w none_there.
      unchanged (next_round (moved st (length (cursors_of st.offer)) turns)) n has smaller refl (omega arith) w (λ out r. none_there out (new_round refl is r))) placed within none

  either : (st : State) (n : ℕ) (b : Bool) → st.changed ≡ b → HasSize st.file n → Smaller n → st.position ≤ length (cursors_of st.offer) → Within limit st.turns → HasNone st → ⊥
  either st n true is has smaller = changed st n has smaller is
  either st n false is has smaller = unchanged st n has smaller is

  by_size : (bound n : ℕ) (st : State) → n < bound → HasSize st.file n → st.position ≤ length (cursors_of st.offer) → Within limit st.turns → HasNone st → ⊥
  by_size zero n st below has placed within none = absurd (omega (arith, below))
  by_size (suc bound) n st below has placed within none =
      either st n st.changed refl has (λ next m has_m less placed_m within_m none_m. by_size bound m next (omega (arith, below, less)) has_m placed_m within_m none_m) placed within none

  pub there : (file : List ℕ) (size : ℕ) → HasSize file size → NotNone ((out : Outcome) × ((o : Offer) × p file o × Reduces p A R none_fails limit (start_of file o) out))
  there file size has none = offered file size has (λ o.
      by_size (suc size) size (start_of file o.0) (omega arith) has (omega arith) (within_none limit) (λ out r. none (out, (o.0, o.1, r))))
