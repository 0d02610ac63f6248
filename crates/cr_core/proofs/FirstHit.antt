-- In a finished sound state the least hit is the first position that wasn't rejected.
use Rattle.std.proofs.Common.{◌≡◌, ℕ, ◌-◌, ◌/◌, ◌<◌, ◌≤◌, refl, sym, ap, subst, arith, inl, inr}
use Rattle.std.proofs.lemmas.Bool.Decides.{nat_tests}
use Rattle.cr_core.specs.declared.marks.HitKind.{HitKind}
use Rattle.cr_core.specs.declared.marks.HitKind.TheVariants.{Yes, Failed, Starved}
use Rattle.cr_core.specs.declared.marks.Mark.TheVariants.{Open, No, Hit, Skipped}
use Rattle.cr_core.specs.declared.events.First.{First}
use Rattle.cr_core.specs.declared.events.First.TheVariants as first
use Rattle.cr_core.specs.Row.{with_any_mark, kind_no, word, opening, placed, marked}
use Rattle.cr_core.specs.Sound.{Sum, IsOver, IsSound}
use Rattle.cr_core.specs.State.{AllRejected, first_of, IsLeastHit, IsFirst}
use Rattle.cr_core.proofs.Steps.{some_or_none}

pub first-none : (len : ℕ) → first_of len (opening len) ≡ first.None
first-none len = grind (arith, nat_tests)

pub first-hit : (len p : ℕ) (k : HitKind) → p < len → first_of len (word p k) ≡ first.At p k
first-hit len p Yes h = grind (arith, nat_tests)
first-hit len p Failed h = grind (arith, nat_tests)
first-hit len p Starved h = grind (arith, nat_tests)

-- each position stands at most once, and so with one mark
abbrev AtMostOnce : Sum → Type 0
AtMostOnce sum = (p : ℕ) → with_any_mark sum p ≤ 1

at_most_once : (len next least : ℕ) (sum : Sum) → ((p : ℕ) → sum (placed p) ≡ with_any_mark sum p) → IsSound len next least sum → AtMostOnce sum
at_most_once len next least sum marks s p = omega (arith, marks p, s.each_claimed_number_stands_once p)

no_and_hit : (sum : Sum) → AtMostOnce sum → (p : ℕ) (k : HitKind) → 0 < sum (marked p No) → 0 < sum (marked p (Hit k)) → ⊥
no_and_hit sum once p Yes a b = omega (arith, once p)
no_and_hit sum once p Failed a b = omega (arith, once p)
no_and_hit sum once p Starved a b = omega (arith, once p)

one_kind : (sum : Sum) → AtMostOnce sum → (p : ℕ) (j k : HitKind) → 0 < sum (marked p (Hit j)) → 0 < sum (marked p (Hit k)) → j ≡ k
one_kind sum once p Yes Yes a b = refl
one_kind sum once p Yes Failed a b = absurd (omega (arith, once p))
one_kind sum once p Yes Starved a b = absurd (omega (arith, once p))
one_kind sum once p Failed Yes a b = absurd (omega (arith, once p))
one_kind sum once p Failed Failed a b = refl
one_kind sum once p Failed Starved a b = absurd (omega (arith, once p))
one_kind sum once p Starved Yes a b = absurd (omega (arith, once p))
one_kind sum once p Starved Failed a b = absurd (omega (arith, once p))
one_kind sum once p Starved Starved a b = refl

kind_small : (k : HitKind) → kind_no k ≤ 2
kind_small Yes = omega arith
kind_small Failed = omega arith
kind_small Starved = omega arith

-- the word of a hit tells its position
position_of_word : (p : ℕ) (k : HitKind) → word p k / 4 ≡ p
position_of_word p Yes = omega arith
position_of_word p Failed = omega arith
position_of_word p Starved = omega arith

-- what is known of a finished sound state, in one place
pub record IsOverAt (len next least : ℕ) (sum : Sum) : Type 0 where
  pub marks : (p : ℕ) → sum (placed p) ≡ with_any_mark sum p
  pub sound : IsSound len next least sum
  pub closed : (p : ℕ) → sum (marked p Open) ≡ 0
  pub end : ℕ
  pub end_claimed : end < next
  pub end_over : IsOver len least end

-- each position up to the least one was claimed
reached : (len next least : ℕ) (sum : Sum) → IsOverAt len next least sum → (p : ℕ) → p < len → p ≤ least / 4 → p < next
reached len next least sum f p short low =
    let c = f.end_claimed in elim f.end_over [ inl far ↦ omega arith | inr far ↦ omega arith ]

not_skipped : (len next least : ℕ) (sum : Sum) → IsOverAt len next least sum → (p : ℕ) → p < len → p ≤ least / 4 → sum (marked p Skipped) ≡ 0
not_skipped len next least sum f p short low =
    elim (some_or_none (sum (marked p Skipped))) [
      | inl some ↦ elim (f.sound.a_skipped_entry_is_over p some) [ inl far ↦ absurd (omega arith) | inr far ↦ absurd (omega arith) ]
      | inr none ↦ none
    ]

not_hit : (len next least : ℕ) (sum : Sum) → IsOverAt len next least sum → (p : ℕ) (k : HitKind) → p < least / 4 → sum (marked p (Hit k)) ≡ 0
not_hit len next least sum f p k low =
    elim (some_or_none (sum (marked p (Hit k)))) [
      | inl some ↦ (let h = f.sound.no_hit_lies_below_it p k some in absurd (omega (arith, kind_small k)))
      | inr none ↦ none
    ]

-- each position below the least one was rejected
rejected_below : (len next least : ℕ) (sum : Sum) → IsOverAt len next least sum → (p : ℕ) → p < len → p < least / 4 → 0 < sum (marked p No)
rejected_below len next least sum f p short low =
    let n = reached len next least sum f p short (omega arith) in
    let once = f.sound.each_claimed_number_stands_once p in
    omega (
      arith,
      f.marks p,
      f.closed p,
      not_skipped len next least sum f p short (omega arith),
      not_hit len next least sum f p Yes low,
      not_hit len next least sum f p Failed low,
      not_hit len next least sum f p Starved low,
    )

-- two hits with everything below them rejected are one
same_place_of : (sum : Sum) → AtMostOnce sum → (p q : ℕ) (k j : HitKind) → 0 < sum (marked p (Hit k)) → 0 < sum (marked q (Hit j))
    → AllRejected sum p → AllRejected sum q → p ≡ q
same_place_of sum once p q k j at_p at_q below_p below_q =
    elim (some_or_none (q - p)) [
      | inl more ↦ absurd (no_and_hit sum once p k (below_q p (omega arith)) at_p)
      | inr le ↦ elim (some_or_none (p - q)) [
        | inl more ↦ absurd (no_and_hit sum once q j (below_p q (omega arith)) at_q)
        | inr ge ↦ omega arith
      ]
    ]

-- where no hit was made
none_is_first : (len next : ℕ) (sum : Sum) → IsOverAt len next (opening len) sum → IsFirst len sum first.None
none_is_first len next sum f =
    let no_hit : (p : ℕ) (k : HitKind) → 0 < sum (marked p (Hit k)) → ⊥ =
    λ p k h. (let q = f.sound.no_hit_lies_below_it p k h in omega (arith, kind_small k)) in
    record {
      none = ((λ _ p short. rejected_below len next (opening len) sum f p short (omega arith)), λ _. refl);
      at = λ p k. ((λ (e : first.None ≡ first.At p k). cc), λ h. absurd (no_hit p k h.0));
    }

-- where the least word is that of a hit
hit_is_first : (len next p : ℕ) (k : HitKind) (sum : Sum) → IsOverAt len next (word p k) sum → 0 < sum (marked p (Hit k)) → IsFirst len sum (first.At p k)
hit_is_first len next p k sum f hit =
    let once = at_most_once len next (word p k) sum f.marks f.sound in
    let short : p < len = (f.sound.no_hit_lies_below_it p k hit).0 in
    let below_it : AllRejected sum p =
    λ q h. rejected_below len next (word p k) sum f q (omega arith) (omega (arith, position_of_word p k)) in
    let to : (q : ℕ) (j : HitKind) → first.At p k ≡ first.At q j → (0 < sum (marked q (Hit j))) × AllRejected sum q =
    λ q j e.
    let same_place : p ≡ q = cc in
    let same_kind : k ≡ j = cc in
    let P : ℕ → Type 0 = λ n. (0 < sum (marked n (Hit j))) × AllRejected sum n in
    let Q : HitKind → Type 0 = λ i. 0 < sum (marked p (Hit i)) in
    subst P same_place (subst Q same_kind hit, below_it) in
    let from : (q : ℕ) (j : HitKind) → (0 < sum (marked q (Hit j))) × AllRejected sum q → first.At p k ≡ first.At q j =
    λ q j h.
    let same_place : p ≡ q = same_place_of sum once p q k j hit h.0 below_it h.1 in
    let P : ℕ → Type 0 = λ n. 0 < sum (marked n (Hit j)) in
    let same_kind : k ≡ j = one_kind sum once p k j hit (subst P (sym same_place) h.0) in
    cc in
    record {
      none = ((λ (e : first.At p k ≡ first.None). cc), λ all. absurd (no_and_hit sum once p k (all p short) hit));
      at = λ q j. (to q j, from q j);
    }

pub first_is : (len next least : ℕ) (sum : Sum) → IsOverAt len next least sum → IsFirst len sum (first_of len least)
first_is len next least sum f =
    let Over : ℕ → Type 0 = λ n. IsOverAt len next n sum in
    let Good : ℕ → Type 0 = λ n. IsFirst len sum (first_of len n) in
    let Right : First → Type 0 = λ r. IsFirst len sum r in
    elim f.sound.the_least_word_is_the_first_or_a_hit [
      | inl e ↦ subst Good (sym e) (subst Right (sym (first-none len)) (none_is_first len next sum (subst Over e f)))
      | inr (p, k, e, hit) ↦
          (let short : p < len = (f.sound.no_hit_lies_below_it p k hit).0 in
          subst Good (sym e) (subst Right (sym (first-hit len p k short)) (hit_is_first len next p k sum (subst Over e f) hit)))
    ]

none_is_least : (len next : ℕ) (sum : Sum) → IsSound len next (opening len) sum → IsLeastHit sum first.None
none_is_least len next sum s = record {
  none = λ _ p k. elim (some_or_none (sum (marked p (Hit k)))) [
    | inl some ↦ (let h = s.no_hit_lies_below_it p k some in absurd (omega (arith, kind_small k)))
    | inr none ↦ none
  ];
  at = λ p k (e : first.None ≡ first.At p k). cc;
  least = λ p k (e : first.None ≡ first.At p k) q j h. cc;
}

hit_is_least : (len next p : ℕ) (k : HitKind) (sum : Sum) → IsSound len next (word p k) sum → 0 < sum (marked p (Hit k)) → IsLeastHit sum (first.At p k)
hit_is_least len next p k sum s hit = record {
  none = λ (e : first.At p k ≡ first.None) q j. cc;
  at = λ q j (e : first.At p k ≡ first.At q j).
      let same_place : p ≡ q = cc in
      let same_kind : k ≡ j = cc in
      let P : ℕ → Type 0 = λ n. 0 < sum (marked n (Hit j)) in
      let Q : HitKind → Type 0 = λ i. 0 < sum (marked p (Hit i)) in
      subst P same_place (subst Q same_kind hit);
  least = λ q j (e : first.At p k ≡ first.At q j) r i h.
      let same_place : p ≡ q = cc in
      let same_kind : k ≡ j = cc in
      let below = (s.no_hit_lies_below_it r i h).1 in
      omega (arith, ap kind_no same_kind);
}

pub least_is : (len next least : ℕ) (sum : Sum) → IsSound len next least sum → IsLeastHit sum (first_of len least)
least_is len next least sum s =
    let Sound : ℕ → Type 0 = λ n. IsSound len next n sum in
    let Good : ℕ → Type 0 = λ n. IsLeastHit sum (first_of len n) in
    let Right : First → Type 0 = λ r. IsLeastHit sum r in
    elim s.the_least_word_is_the_first_or_a_hit [
      | inl e ↦ subst Good (sym e) (subst Right (sym (first-none len)) (none_is_least len next sum (subst Sound e s)))
      | inr (p, k, e, hit) ↦
          (let short : p < len = (s.no_hit_lies_below_it p k hit).0 in
          subst Good (sym e) (subst Right (sym (first-hit len p k short)) (hit_is_least len next p k sum (subst Sound e s) hit)))
    ]
