-- Each event keeps soundness, said of one list and whatever the rest is.
use Rattle.std.proofs.Common.{◌≡◌, ◌≢◌, ℕ, ◌+◌, ◌-◌, ◌<◌, ◌≤◌, [], ◌∷◌, ◌++◌, refl, sym, ap, subst, arith, ◌⊎◌, inl, inr}
use Prim.Native.Nat.{zero, suc, min}
use Rattle.cr_core.specs.declared.marks.HitKind.{HitKind}
use Rattle.cr_core.specs.declared.marks.Mark.{Mark}
use Rattle.cr_core.specs.declared.marks.Mark.TheVariants.{Open, No, Hit, Skipped}
use Rattle.cr_core.specs.declared.marks.Entry.{Entry}
use Rattle.cr_core.specs.declared.events.Settle.{Settle}
use Rattle.cr_core.specs.declared.events.Settle.TheVariants as settle
use Rattle.cr_core.specs.Row.{Row, kind_no, mark_no, word, opening, marked, disorder, early, past, last_position, last_mark, with_last}
use Rattle.cr_core.specs.Sound.{Sum, IsOver, IsSound}
use Rattle.cr_core.specs.Machine.{MaySettle, MayClaim, MayHit, settled, claimed, lowered}
use Rattle.cr_core.proofs.Rows.{placed-append, marked-append, placed-with_last, disorder-with_last, early-with_last, past-with_last, marked-with_last, last_position-with_last, last_mark-with_last, disorder-append, early-append, past-append, past-last, placed-last, settled_no}

-- what is counted in one list and in the rest
abbrev pub with_row : Sum → Row → Sum
with_row rest l = λ f. rest f + f l

pub some_or_none : (n : ℕ) → (0 < n) ⊎ (n ≡ 0)
some_or_none zero = inr refl
some_or_none (suc n) = inl (omega arith)

pub over_falls : (len low least p : ℕ) → low ≤ least → IsOver len least p → IsOver len low p
over_falls len low least p h (inl a) = inl a
over_falls len low least p h (inr a) = inr (omega arith)

-- what soundness asks of an entry with this mark at the position p
pub record Fits (len least : ℕ) (m : Mark) (p : ℕ) : Type 0 where
  pub is_settled : 0 < mark_no m
  pub hit : (k : HitKind) → mark_no m ≡ 3 + kind_no k → (p < len) × (least ≤ word p k)
  pub skipped : mark_no m ≡ 2 → IsOver len least p
  pub rejected : mark_no m ≡ 1 → p < len

-- what became of `least` as an entry at the position p got this mark
abbrev pub Falls : ℕ → ℕ → Mark → ℕ → Type 0
Falls least low m p = (low ≤ least) × ((low ≡ least) ⊎ ((k : HitKind) × (m ≡ Hit k) × (low ≡ word p k)))

-- a position that has the mark n once the last entry, which was open, has the mark m
new_or_old : (p : ℕ) (n m : Mark) (r : ℕ) (l : Row) → last_mark l ≡ Open → 0 < r + marked p n (with_last m l)
    → (0 < r + marked p n l) ⊎ ((p ≡ last_position l) × (mark_no n ≡ mark_no m))
new_or_old p n m r l is_open h =
    let e = marked-with_last p n m l is_open in
    elim (some_or_none (r + marked p n l)) [
      | inl old ↦ inl old
      | inr none ↦ inr (omega arith, omega arith)
    ]

least_stays : (len least : ℕ) (rest : Sum) (l : Row) (m : Mark) → last_mark l ≡ Open
    → (least ≡ opening len) ⊎ ((p : ℕ) × (k : HitKind) × (least ≡ word p k) × (0 < with_row rest l (marked p (Hit k))))
    → (least ≡ opening len) ⊎ ((p : ℕ) × (k : HitKind) × (least ≡ word p k) × (0 < with_row rest (with_last m l) (marked p (Hit k))))
least_stays len least rest l m is_open (inl h) = inl h
least_stays len least rest l m is_open (inr (p, k, e, h)) =
    inr (p, k, e, omega (arith, marked-with_last p (Hit k) m l is_open))

least_falls : (len least low : ℕ) (rest : Sum) (l : Row) (m : Mark) → last_mark l ≡ Open
    → (low ≡ least) ⊎ ((k : HitKind) × (m ≡ Hit k) × (low ≡ word (last_position l) k))
    → (least ≡ opening len) ⊎ ((p : ℕ) × (k : HitKind) × (least ≡ word p k) × (0 < with_row rest l (marked p (Hit k))))
    → (low ≡ opening len) ⊎ ((p : ℕ) × (k : HitKind) × (low ≡ word p k) × (0 < with_row rest (with_last m l) (marked p (Hit k))))
least_falls len least low rest l m is_open (inl same) before =
    let P : ℕ → Type 0 = λ n. (n ≡ opening len) ⊎ ((p : ℕ) × (k : HitKind) × (n ≡ word p k) × (0 < with_row rest (with_last m l) (marked p (Hit k)))) in
    subst P (sym same) (least_stays len least rest l m is_open before)
least_falls len least low rest l m is_open (inr (k, is, e)) before =
    inr (last_position l, k, e, omega (arith, ap mark_no is, marked-with_last (last_position l) (Hit k) m l is_open))

-- the last entry, which is open, gets another mark
pub re_marks : (len next least low : ℕ) (rest : Sum) (l : Row) (m : Mark) → last_mark l ≡ Open
    → Fits len low m (last_position l) → Falls least low m (last_position l)
    → IsSound len next least (with_row rest l) → IsSound len next low (with_row rest (with_last m l))
re_marks len next least low rest l m is_open fits falls s = record {
  each_claimed_number_stands_once = λ p. omega (arith, s.each_claimed_number_stands_once p, placed-with_last p m l);
  positions_rise_and_only_a_last_entry_is_open = omega (arith, disorder-with_last 0 m l);
  the_least_word_is_the_first_or_a_hit = least_falls len least low rest l m is_open falls.1 s.the_least_word_is_the_first_or_a_hit;
  no_hit_lies_below_it = λ p k h.
      elim (new_or_old p (Hit k) m _ l is_open h) [
        | inl old ↦ (let f = s.no_hit_lies_below_it p k old in (f.0, omega arith))
        | inr (at, is) ↦ (let f = fits.hit k (omega arith) in (omega arith, omega arith))
      ];
  a_skipped_entry_is_over = λ p h.
      elim (new_or_old p Skipped m _ l is_open h) [
        | inl old ↦ over_falls len low least p falls.0 (s.a_skipped_entry_is_over p old)
        | inr (at, is) ↦ (let P : ℕ → Type 0 = λ q. IsOver len low q in subst P (sym at) (fits.skipped (omega arith)))
      ];
  a_rejected_entry_is_below_the_length = λ p h.
      elim (new_or_old p No m _ l is_open h) [
        | inl old ↦ s.a_rejected_entry_is_below_the_length p old
        | inr (at, is) ↦ (let f = fits.rejected (omega arith) in omega arith)
      ];
  only_a_last_entry_is_past_the_end = omega (arith, early-with_last len m l);
  next_is_bounded = omega (arith, past-with_last len m l);
}

fits_no : (len least p : ℕ) → p < len → Fits len least No p
fits_no len least p h = record { is_settled = omega arith; hit = λ k e. absurd (omega arith); skipped = λ e. absurd (omega arith); rejected = λ e. h }

fits_skipped : (len least p : ℕ) → IsOver len least p → Fits len least Skipped p
fits_skipped len least p h = record { is_settled = omega arith; hit = λ k e. absurd (omega arith); skipped = λ e. h; rejected = λ e. absurd (omega arith) }

fits_hit : (len least p : ℕ) (k : HitKind) → p < len → Fits len (min least (word p k)) (Hit k) p
fits_hit len least p k h = record { is_settled = omega arith; hit = λ j e. (h, omega arith); skipped = λ e. absurd (omega arith); rejected = λ e. absurd (omega arith) }

lowered_falls : (least : ℕ) (k : HitKind) (p : ℕ) → Falls least (min least (word p k)) (Hit k) p
lowered_falls least k p = (omega arith, elim (some_or_none (least - word p k)) [ inl h ↦ inr (k, refl, omega arith) | inr h ↦ inl (omega arith) ])

-- a worker settles its open entry, or has none
pub settles : (len next least : ℕ) (rest : Sum) (l : Row) (done : Settle) → MaySettle len least done l
    → IsSound len next least (with_row rest l) → IsSound len next least (with_row rest (settled done l))
settles len next least rest l settle.Nothing h s = s
settles len next least rest l settle.No h s =
    re_marks len next least least rest l No h.0 (fits_no len least _ h.1) (omega arith, inl refl) s
settles len next least rest l settle.Skipped h s =
    re_marks len next least least rest l Skipped h.0 (fits_skipped len least _ h.1) (omega arith, inl refl) s

pub hits : (len next least : ℕ) (rest : Sum) (l : Row) (k : HitKind) → MayHit len l
    → IsSound len next least (with_row rest l) → IsSound len next (lowered least k l) (with_row rest (with_last (Hit k) l))
hits len next least rest l k h s =
    re_marks len next least (lowered least k l) rest l (Hit k) h.0 (fits_hit len least _ k h.1) (lowered_falls least k _) s

-- the last position of a list is below `next`
pub last_below : (len next least : ℕ) (rest : Sum) (e : Entry) (es : Row) → IsSound len next least (with_row rest (e ∷ es))
    → last_position (e ∷ es) < next
last_below len next least rest e es s =
    omega (arith, placed-last e es, s.each_claimed_number_stands_once (last_position (e ∷ es)))

-- the number `next` is appended, open
abbrev newly : ℕ → Entry
newly n = record { position = n; mark = Open }

abbrev Order : ℕ → ℕ → Row → Type 0
Order len next l = (disorder 0 (l ++ newly next ∷ []) ≡ disorder 0 l) × (early len (l ++ newly next ∷ []) ≡ early len l) × (past len l ≡ 0)

order_kept : (len next least : ℕ) (rest : Sum) (l : Row) → last_mark l ≢ Open → (l ≡ []) ⊎ (last_position l < len)
    → IsSound len next least (with_row rest l) → Order len next l
order_kept len next least rest [] closed h s = (omega arith, refl, refl)
order_kept len next least rest (e ∷ es) closed h s =
    let low : last_position (e ∷ es) < len = elim h [ inl none ↦ cc | inr q ↦ q ] in
    let rise : last_position (e ∷ es) < next = last_below len next least rest e es s in
    let c : 0 < mark_no (last_mark (e ∷ es)) = settled_no _ closed in
    (omega (arith, disorder-append 0 e es (newly next)), omega (arith, early-append len e es (newly next)), omega (arith, past-last len e es))

pub appends : (len next least : ℕ) (rest : Sum) (l : Row) → last_mark l ≢ Open → (l ≡ []) ⊎ (last_position l < len)
    → IsSound len next least (with_row rest l) → IsSound len (next + 1) least (with_row rest (l ++ newly next ∷ []))
appends len next least rest l closed h s =
    let n = newly next in
    let order = order_kept len next least rest l closed h s in
    let same : (p : ℕ) (m : Mark) → 0 < mark_no m → marked p m (l ++ n ∷ []) ≡ marked p m l =
    λ p m q. omega (arith, marked-append p m l (n ∷ [])) in
    record {
      each_claimed_number_stands_once = λ p. omega (arith, s.each_claimed_number_stands_once p, placed-append p l (n ∷ []));
      positions_rise_and_only_a_last_entry_is_open = omega (arith, order.0);
      the_least_word_is_the_first_or_a_hit =
          elim s.the_least_word_is_the_first_or_a_hit [
            | inl q ↦ inl q
            | inr (p, k, e, q) ↦ inr (p, k, e, omega (arith, same p (Hit k) (omega arith)))
          ];
      no_hit_lies_below_it = λ p k q. s.no_hit_lies_below_it p k (omega (arith, same p (Hit k) (omega arith)));
      a_skipped_entry_is_over = λ p q. s.a_skipped_entry_is_over p (omega (arith, same p Skipped (omega arith)));
      a_rejected_entry_is_below_the_length = λ p q. s.a_rejected_entry_is_below_the_length p (omega (arith, same p No (omega arith)));
      only_a_last_entry_is_past_the_end = omega (arith, order.1);
      next_is_bounded = omega (arith, order.2, past-append len l n);
    }

-- the settled list of a worker that may claim is settled and below the length
settled_closed : (len least : ℕ) (l : Row) (done : Settle) → MayClaim len least done l
    → (last_mark (settled done l) ≢ Open) × ((settled done l ≡ []) ⊎ (last_position (settled done l) < len))
settled_closed len least l settle.Nothing h = h
settled_closed len least [] settle.No h = absurd (cc (h.0.0))
settled_closed len least (e ∷ es) settle.No h =
    ((λ (q : last_mark (with_last No (e ∷ es)) ≡ Open). cc (last_mark-with_last No e es)), inr (omega (arith, h.0.1, last_position-with_last No (e ∷ es))))
settled_closed len least [] settle.Skipped h = absurd (cc (h.0.0))
settled_closed len least (e ∷ es) settle.Skipped h =
    let low : last_position (e ∷ es) < len = elim h.1 [ inl none ↦ cc | inr q ↦ q ] in
    ((λ (q : last_mark (with_last Skipped (e ∷ es)) ≡ Open). cc (last_mark-with_last Skipped e es)), inr (omega (arith, last_position-with_last Skipped (e ∷ es))))

pub claims : (len next least : ℕ) (rest : Sum) (l : Row) (done : Settle) → MayClaim len least done l
    → IsSound len next least (with_row rest l) → IsSound len (next + 1) least (with_row rest (claimed next done l))
claims len next least rest l done h s =
    let c = settled_closed len least l done h in
    appends len next least rest (settled done l) c.0 c.1 (settles len next least rest l done h.0 s)
