-- The spans of all objects, where those of live objects alone are kept.
use Rattle.std.proofs.Common.{◌≡◌, ◌≢◌, ℕ, zero, suc, ◌+◌, ◌<◌, ◌≤◌, ◌==◌, false, ◌⊎◌, inl, inr, List, [], ◌∷◌, ◌++◌, map, length, get_or, set, refl, sym, ap, ◌∙◌, subst, arith, length-set, get_or-set_other, get_or-set_same, if◌then◌else◌}
use Rattle.std.specs.List.{range_with_len, remove}
use Rattle.std.proofs.lemmas.Bool.{eq-eqb, ne_eqb, cases_eq, cases_lt}
use Rattle.std.proofs.lemmas.List.{same_lists, get_or_read, get_or_past, get_or_append_left, get_or_push, length_push}
use Rattle.std.proofs.lemmas.List.Edits.{length-remove, get_or-remove_below, get_or-remove_above}
use Rattle.std.proofs.lemmas.List.FromFn.{length-map-range_with_len, get_or-map-range_with_len, map-range_with_len_more, sum_by-map-range_with_len_more}
use Rattle.std.proofs.lemmas.List.Recursion.{found_at, found_nowhere, found_push_other, found_set_other}
use Rattle.std.specs.List.Sorted.{IsNonDecreasingBy}
use Rattle.std.proofs.lemmas.List.Sorted.{IsNonDecreasingBy-from_default}
use Rattle.std.proofs.lemmas.List.Sums.{sum_by-set}
use Rattle.cr_memory.specs.declared.span.Span.{Span}
use Rattle.cr_memory.specs.declared.spans.Living.{Living}
use Rattle.cr_memory.specs.Flat.{span_at, span_of, ended_span, moved_span, HasRoom, IsLast, EndsAfterLast, IsNext, living_in}
use Rattle.cr_memory.specs.Spans.{living_at, span_in, spans_of, IsRising, IsKept, IsPlaceOf, Parts}

abbrev pub nobody : Living
nobody = record { first = 0; number = 0; count = 0 }

-- ---- a look-up

span_at_place : (living : List Living) (number index : ℕ) → index < length living → ((before : ℕ) → before < index → (living_at living before).number ≢ number)
    → (living_at living index).number ≡ number → span_in living number ≡ span_of (living_at living index).first (living_at living index).count
span_at_place living number index h others e =
    found_at (λ (xs : List Living). span_in xs number) (λ (own : Living). own.number == number) (λ (own : Living). span_of own.first own.count) ended_span
    refl (λ own rest. refl) living index nobody h (λ k b. ne_eqb _ _ (others k b)) (eq-eqb _ _ e)

pub found : (living : List Living) (number index : ℕ) → IsRising living → IsPlaceOf living number index
    → span_in living number ≡ span_of (living_at living index).first (living_at living index).count
found living number index up h =
    span_at_place living number index h.within (λ k b same. let less = up k index b h.within in let e = h.same in absurd (omega arith)) h.same

pub found_none : (living : List Living) (number : ℕ) → ((index : ℕ) → index < length living → (living_at living index).number ≢ number) → span_in living number ≡ ended_span
found_none living number h =
    found_nowhere (λ (xs : List Living). span_in xs number) (λ (own : Living). own.number == number) (λ (own : Living). span_of own.first own.count) ended_span
    refl (λ own rest. refl) living nobody (λ k b. ne_eqb _ _ (h k b))

at_by : (entered : ℕ) (living : List Living) (number : ℕ) → IsKept entered living → (number < entered) ⊎ (entered ≤ number)
    → span_at (spans_of entered living) number ≡ span_in living number
at_by entered living number kept (inl h) = get_or-map-range_with_len (span_in living) 0 entered number number ended_span h (omega arith)
at_by entered living number kept (inr h) =
    get_or_past (spans_of entered living) number ended_span (omega (arith, length-map-range_with_len (span_in living) 0 entered))
    ∙ sym (found_none living number (λ i b same. let below = kept.below i b in absurd (omega arith)))

pub at_number : (entered : ℕ) (living : List Living) (number : ℕ) → IsKept entered living → span_at (spans_of entered living) number ≡ span_in living number
at_number entered living number kept = at_by entered living number kept (cases_lt number entered)

-- what a search for a number tells of the spans
pub got : (entered : ℕ) (living : List Living) (spans : List Span) (number index : ℕ) (own : Living) → IsKept entered living → spans_of entered living ≡ spans
    → IsPlaceOf living number index → own ≡ get_or living index own → span_of own.first own.count ≡ span_at spans number
got entered living spans number index own kept view h read =
    ap (λ x. span_of x.first x.count) (get_or_read living index own h.within read nobody)
    ∙ sym (at_number entered living number kept ∙ found living number index kept.rising h) ∙ ap (λ s. span_at s number) view

pub got_none : (entered : ℕ) (living : List Living) (spans : List Span) (number : ℕ) → IsKept entered living → spans_of entered living ≡ spans
    → ((index : ℕ) → index < length living → (living_at living index).number ≢ number) → ended_span ≡ span_at spans number
got_none entered living spans number kept view none =
    sym (at_number entered living number kept ∙ found_none living number none) ∙ ap (λ s. span_at s number) view

pub length-spans_of : (entered : ℕ) (living : List Living) → length (spans_of entered living) ≡ entered
length-spans_of entered living = length-map-range_with_len (span_in living) 0 entered

-- ---- one span changes

-- the spans are those of before, but for one number
pub changed : (entered : ℕ) (old new : List Living) (number : ℕ) (span : Span) → ((n : ℕ) → n ≢ number → span_in new n ≡ span_in old n) → span_in new number ≡ span
    → spans_of entered new ≡ set (spans_of entered old) number span
changed entered old new number span others own =
    same_lists (spans_of entered new) (set (spans_of entered old) number span)
    (length-spans_of entered new ∙ sym (length-set (spans_of entered old) number span ∙ length-spans_of entered old))
    (λ k d b. at_each k d (omega (arith, length-spans_of entered new)) (cases_eq k number))
  where
    at_each : (k : ℕ) (d : Span) → k < entered → (k ≡ number) ⊎ (k ≢ number) → get_or (spans_of entered new) k d ≡ get_or (set (spans_of entered old) number span) k d
    at_each k d b (inl e) =
        get_or-map-range_with_len (span_in new) 0 entered k number d b (omega arith) ∙ own
        ∙ sym (ap (λ n. get_or (set (spans_of entered old) number span) n d) e
        ∙ get_or-set_same (spans_of entered old) number span d (omega (arith, length-spans_of entered old)))
    at_each k d b (inr o) =
        get_or-map-range_with_len (span_in new) 0 entered k k d b (omega arith) ∙ others k o
        ∙ sym (get_or-set_other (spans_of entered old) number k span d o ∙ get_or-map-range_with_len (span_in old) 0 entered k k d b (omega arith))

-- ---- one more object

kept_pushed_at : (entered : ℕ) (living : List Living) (own : Living) (i : ℕ) → IsKept entered living → own.number ≡ entered → (i < length living) ⊎ (length living ≤ i)
    → i < length (living ++ own ∷ []) → (living_at (living ++ own ∷ []) i).number < entered + 1
kept_pushed_at entered living own i kept e (inl h) b = let below = kept.below i h in rw (get_or_append_left living (own ∷ []) nobody i h) (omega arith)
kept_pushed_at entered living own i kept e (inr h) b =
    let at : length living ≡ i = omega (arith, length_push living own) in
    rw (get_or_push living own nobody i at) (omega arith)

rising_pushed : (entered : ℕ) (living : List Living) (own : Living) (i j : ℕ) → IsKept entered living → own.number ≡ entered → i < j → (j < length living) ⊎ (length living ≤ j)
    → j < length (living ++ own ∷ []) → (living_at (living ++ own ∷ []) i).number < (living_at (living ++ own ∷ []) j).number
rising_pushed entered living own i j kept e l (inl h) b =
    let b' : i < length living = omega arith in
    rw (get_or_append_left living (own ∷ []) nobody i b', get_or_append_left living (own ∷ []) nobody j h) (kept.rising i j l h)
rising_pushed entered living own i j kept e l (inr h) b =
    let at : length living ≡ j = omega (arith, length_push living own) in
    let b' : i < length living = omega arith in
    let below = kept.below i b' in
    rw (get_or_append_left living (own ∷ []) nobody i b', get_or_push living own nobody j at) (omega arith)

pub kept_pushed : (entered : ℕ) (living : List Living) (own : Living) → IsKept entered living → own.number ≡ entered → entered < 4294967295 → IsKept (entered + 1) (living ++ own ∷ [])
kept_pushed entered living own kept e room = record {
  rising = λ i j l b. rising_pushed entered living own i j kept e l (cases_lt j (length living)) b;
  below = λ i b. kept_pushed_at entered living own i kept e (cases_lt i (length living)) b;
  few = omega arith;
}

pub pushed : (entered : ℕ) (living : List Living) (own : Living) → IsKept entered living → own.number ≡ entered
    → spans_of (entered + 1) (living ++ own ∷ []) ≡ spans_of entered living ++ span_of own.first own.count ∷ []
pushed entered living own kept e =
    let more = living ++ own ∷ [] in
    let at : living_at more (length living) ≡ own = get_or_push living own nobody (length living) refl in
    let last = span_at_place more entered (length living) (omega (arith, length_push living own))
    (λ k b same. let below = kept.below k b in let old = get_or_append_left living (own ∷ []) nobody k b in absurd (omega (arith, ap (λ x. x.number) old)))
    (ap (λ x. x.number) at ∙ e) in
    let front = same_lists (map (span_in more) (range_with_len 0 entered)) (spans_of entered living) (length-spans_of entered more ∙ sym (length-spans_of entered living))
    (λ k d b. let c : k < entered = omega (arith, length-spans_of entered more) in
    get_or-map-range_with_len (span_in more) 0 entered k k d c (omega arith)
    ∙ found_push_other (λ (xs : List Living). span_in xs k) (λ (x : Living). x.number == k) (λ (x : Living). span_of x.first x.count) ended_span
    refl (λ x rest. refl) living own (ne_eqb _ _ (λ same. absurd (omega arith)))
    ∙ sym (get_or-map-range_with_len (span_in living) 0 entered k k d c (omega arith))) in
    map-range_with_len_more (span_in more) 0 entered entered (omega arith)
    ∙ ap (λ xs. xs ++ span_in more entered ∷ []) front
    ∙ ap (λ s. spans_of entered living ++ s ∷ []) (last ∙ ap (λ x. span_of x.first x.count) at)

-- ---- an object less

other_removed : (living : List Living) (index n : ℕ) → index < length living → (living_at living index).number ≢ n → span_in (remove living index) n ≡ span_in living n
other_removed [] index n h o = absurd (omega arith)
other_removed (own ∷ rest) zero n h o = rw (ne_eqb own.number n o) refl
other_removed (own ∷ rest) (suc i) n h o =
    ap (λ s. if own.number == n then span_of own.first own.count else s) (other_removed rest i n (omega arith) o)

number_removed : (living : List Living) (index k : ℕ) → index < length living → (k < index) ⊎ (index ≤ k)
    → ((k < index) × (living_at (remove living index) k ≡ living_at living k)) ⊎ ((index ≤ k) × (living_at (remove living index) k ≡ living_at living (k + 1)))
number_removed living index k h (inl l) = inl (l, get_or-remove_below living index nobody k l h)
number_removed living index k h (inr g) = inr (g, get_or-remove_above living index nobody k g h)

pub kept_removed : (entered : ℕ) (living : List Living) (index : ℕ) → IsKept entered living → index < length living → IsKept entered (remove living index)
kept_removed entered living index kept h =
    record {
      rising = λ i j l b. rises i j l b (number_removed living index i h (cases_lt i index)) (number_removed living index j h (cases_lt j index));
      below = λ i b. falls i b (number_removed living index i h (cases_lt i index));
      few = kept.few;
    }
  where
    rises : (i j : ℕ) → i < j → j < length (remove living index)
        → ((i < index) × (living_at (remove living index) i ≡ living_at living i)) ⊎ ((index ≤ i) × (living_at (remove living index) i ≡ living_at living (i + 1)))
        → ((j < index) × (living_at (remove living index) j ≡ living_at living j)) ⊎ ((index ≤ j) × (living_at (remove living index) j ≡ living_at living (j + 1)))
        → (living_at (remove living index) i).number < (living_at (remove living index) j).number
    rises i j l b (inl x) (inl y) = rw (x.1, y.1) (kept.rising i j l (omega (arith, length-remove living index h)))
    rises i j l b (inl x) (inr y) = rw (x.1, y.1) (kept.rising i (j + 1) (omega arith) (omega (arith, length-remove living index h)))
    rises i j l b (inr x) (inl y) = let p = x.0 in let q = y.0 in absurd (omega arith)
    rises i j l b (inr x) (inr y) = rw (x.1, y.1) (kept.rising (i + 1) (j + 1) (omega arith) (omega (arith, length-remove living index h)))

    falls : (i : ℕ) → i < length (remove living index)
        → ((i < index) × (living_at (remove living index) i ≡ living_at living i)) ⊎ ((index ≤ i) × (living_at (remove living index) i ≡ living_at living (i + 1)))
        → (living_at (remove living index) i).number < entered
    falls i b (inl x) = rw x.1 (kept.below i (omega (arith, length-remove living index h)))
    falls i b (inr x) = rw x.1 (kept.below (i + 1) (omega (arith, length-remove living index h)))

removed_none : (living : List Living) (number index k : ℕ) → IsRising living → IsPlaceOf living number index → k < length (remove living index)
    → ((k < index) × (living_at (remove living index) k ≡ living_at living k)) ⊎ ((index ≤ k) × (living_at (remove living index) k ≡ living_at living (k + 1)))
    → (living_at (remove living index) k).number ≢ number
removed_none living number index k up h b (inl x) same =
    let less = up k index x.0 h.within in
    let e = h.same in
    let f : (living_at living k).number ≡ number = rw x.1 at same in
    absurd (omega arith)
removed_none living number index k up h b (inr x) same =
    let p = x.0 in
    let w = h.within in
    let less = up index (k + 1) (omega arith) (omega (arith, length-remove living index w)) in
    let e = h.same in
    let f : (living_at living (k + 1)).number ≡ number = rw x.1 at same in
    absurd (omega arith)

pub removed : (entered : ℕ) (living : List Living) (number index : ℕ) → IsKept entered living → IsPlaceOf living number index
    → spans_of entered (remove living index) ≡ set (spans_of entered living) number ended_span
removed entered living number index kept h =
    changed entered living (remove living index) number ended_span
    (λ n o. other_removed living index n h.within (λ same. o (sym same ∙ h.same)))
    (found_none (remove living index) number (λ k b. removed_none living number index k kept.rising h b (number_removed living index k h.within (cases_lt k index))))

-- an object that doesn't live stays as it is
pub stays_ended : (entered : ℕ) (living : List Living) (number : ℕ) → ((index : ℕ) → index < length living → (living_at living index).number ≢ number)
    → spans_of entered living ≡ set (spans_of entered living) number ended_span
stays_ended entered living number none = changed entered living living number ended_span (λ n o. refl) (found_none living number none)

-- ---- an object at another place

same_number : (living : List Living) (index : ℕ) (own : Living) (k : ℕ) → index < length living → own.number ≡ (living_at living index).number → (k ≡ index) ⊎ (k ≢ index)
    → (living_at (set living index own) k).number ≡ (living_at living k).number
same_number living index own k h e (inl same) = rw same (ap (λ x. x.number) (get_or-set_same living index own nobody h) ∙ e)
same_number living index own k h e (inr o) = ap (λ x. x.number) (get_or-set_other living index k own nobody o)

pub kept_set : (entered : ℕ) (living : List Living) (index : ℕ) (own : Living) → IsKept entered living → index < length living → own.number ≡ (living_at living index).number
    → IsKept entered (set living index own)
kept_set entered living index own kept h e = record {
  rising = λ i j l b. rw (same_number living index own i h e (cases_eq i index), same_number living index own j h e (cases_eq j index))
      (kept.rising i j l (omega (arith, length-set living index own)));
  below = λ i b. rw (same_number living index own i h e (cases_eq i index)) (kept.below i (omega (arith, length-set living index own)));
  few = kept.few;
}

pub moved : (entered : ℕ) (living : List Living) (number index : ℕ) (own : Living) → IsKept entered living → IsPlaceOf living number index
    → own.number ≡ (living_at living index).number → own.count ≡ (living_at living index).count
    → spans_of entered (set living index own) ≡ set (spans_of entered living) number (moved_span own.first (span_at (spans_of entered living) number))
moved entered living number index own kept h e f =
    let now = kept_set entered living index own kept h.within e in
    let at : living_at (set living index own) index ≡ own = get_or-set_same living index own nobody h.within in
    let place : IsPlaceOf (set living index own) number index = record {
      within = let w = h.within in omega (arith, length-set living index own);
      same = ap (λ x. x.number) at ∙ e ∙ h.same;
    } in
    let before : span_at (spans_of entered living) number ≡ span_of (living_at living index).first (living_at living index).count =
    at_number entered living number kept ∙ found living number index kept.rising h in
    changed entered living (set living index own) number (moved_span own.first (span_at (spans_of entered living) number))
    (λ n o. found_set_other (λ (xs : List Living). span_in xs n) (λ (x : Living). x.number == n) (λ (x : Living). span_of x.first x.count) ended_span
    refl (λ x rest. refl) living index own nobody (ne_eqb _ _ (λ same. o (sym same ∙ h.same))) (ne_eqb _ _ (λ same. o (sym same ∙ e ∙ h.same))))
    (found (set living index own) number index now.rising place ∙ ap (λ x. span_of x.first x.count) at ∙ ap (λ n. span_of own.first n) f
    ∙ sym (ap (λ s. moved_span own.first s) before))

-- ---- the last object and the next one that live

pub none_lives : (entered : ℕ) (living : List Living) (number : ℕ) → IsKept entered living → ((index : ℕ) → index < length living → (living_at living index).number ≢ number)
    → (span_at (spans_of entered living) number).alive ≡ false
none_lives entered living number kept none = ap (λ s. s.alive) (at_number entered living number kept ∙ found_none living number none)

pub last_lives : (entered : ℕ) (living : List Living) (index : ℕ) → IsKept entered living → index + 1 ≡ length living
    → IsLast (spans_of entered living) (living_at living index).number ((living_at living index).first + (living_at living index).count)
last_lives entered living index kept e =
    let h : index < length living = omega arith in
    let own = living_at living index in
    let at = at_number entered living own.number kept ∙ found living own.number index kept.rising (record { within = h; same = refl }) in
    record {
      alive = ap (λ s. s.alive) at;
      later = λ n l. none_lives entered living n kept (λ k b same. not_later n l k b same (cases_eq k index));
      ends = sym (ap (λ s. s.first + s.count) at);
    }
  where
    not_later : (n : ℕ) → (living_at living index).number < n → (k : ℕ) → k < length living → (living_at living k).number ≡ n → (k ≡ index) ⊎ (k ≢ index) → ⊥
    not_later n l k b same (inl f) = let g = ap (λ i. (living_at living i).number) f in omega arith
    not_later n l k b same (inr o) = let less = kept.rising k index (omega arith) (omega arith) in omega arith

pub end_none : (entered : ℕ) (living : List Living) (spans : List Span) → IsKept entered living → spans_of entered living ≡ spans → length living ≡ 0 → EndsAfterLast spans 0
end_none entered living spans kept view e =
    let P : List Span → Type 0 = λ s. EndsAfterLast s 0 in
    subst P view (inl ((λ n. none_lives entered living n kept (λ k b same. absurd (omega arith))), refl))

pub end_last : (entered : ℕ) (living : List Living) (spans : List Span) (index : ℕ) (own : Living) → IsKept entered living → spans_of entered living ≡ spans
    → index + 1 ≡ length living → own ≡ get_or living index own → EndsAfterLast spans (own.first + own.count)
end_last entered living spans index own kept view e read =
    let at : own ≡ living_at living index = get_or_read living index own (omega arith) read nobody in
    let P : List Span → Type 0 = λ s. EndsAfterLast s (own.first + own.count) in
    let Q : Living → Type 0 = λ x. EndsAfterLast (spans_of entered living) (x.first + x.count) in
    subst P view (subst Q (sym at) (inr ((living_at living index).number, last_lives entered living index kept e)))

pub end_fits : (entered : ℕ) (living : List Living) (spans : List Span) (index room : ℕ) (own : Living) → IsKept entered living → spans_of entered living ≡ spans
    → index < length living → own ≡ get_or living index own → HasRoom spans room → own.first + own.count ≤ room
end_fits entered living spans index room own kept view h read r =
    let at = got entered living spans own.number index own kept view
    (record { within = h; same = ap (λ x. x.number) (sym (get_or_read living index own h read nobody)) }) read in
    let within = r.within own.number (ap (λ s. s.alive) (sym at)) in
    rw (← at) at within

-- from a place on, where the numbers before it are smaller
pub next_lives : (entered : ℕ) (living : List Living) (from index : ℕ) → IsKept entered living → Parts living from index → index < length living
    → IsNext (spans_of entered living) from (living_at living index).number
next_lives entered living from index kept parts h =
    let own = living_at living index in
    record {
      from_on = parts.others index (omega arith) h;
      entered = let below = kept.below index h in omega (arith, length-spans_of entered living);
      alive = ap (λ s. s.alive) (at_number entered living own.number kept ∙ found living own.number index kept.rising (record { within = h; same = refl }));
      between = λ n low high. none_lives entered living n kept (λ k b same. not_between n low high k b same (cases_lt k index) (cases_eq k index));
    }
  where
    not_between : (n : ℕ) → from ≤ n → n < (living_at living index).number → (k : ℕ) → k < length living → (living_at living k).number ≡ n
        → (k < index) ⊎ (index ≤ k) → (k ≡ index) ⊎ (k ≢ index) → ⊥
    not_between n low high k b same (inl l) other = let less = parts.smaller k l in omega arith
    not_between n low high k b same (inr g) (inl f) = let e = ap (λ i. (living_at living i).number) f in omega arith
    not_between n low high k b same (inr g) (inr o) = let less = kept.rising index k (omega arith) b in omega arith

pub none_next : (entered : ℕ) (living : List Living) (from index : ℕ) → IsKept entered living → Parts living from index → length living ≤ index
    → (n : ℕ) → from ≤ n → (span_at (spans_of entered living) n).alive ≡ false
none_next entered living from index kept parts all n low =
    none_lives entered living n kept (λ k b same. let less = parts.smaller k (omega arith) in absurd (omega arith))

pub next_seen : (entered : ℕ) (living : List Living) (spans : List Span) (from index : ℕ) (own : Living) → IsKept entered living → spans_of entered living ≡ spans
    → Parts living from index → index < length living → own ≡ get_or living index own → IsNext spans from own.number
next_seen entered living spans from index own kept view parts h read =
    let at : own ≡ living_at living index = get_or_read living index own h read nobody in
    let P : List Span → Type 0 = λ s. IsNext s from own.number in
    let Q : Living → Type 0 = λ x. IsNext (spans_of entered living) from x.number in
    subst P view (subst Q (sym at) (next_lives entered living from index kept parts h))

-- ---- a search by halves

-- what a search by halves asks
pub numbers_rise : (living : List Living) → IsRising living → IsNonDecreasingBy (λ own. own.number) living
numbers_rise living up =
    IsNonDecreasingBy-from_default (λ own. own.number) living nobody (λ i j le b. by_place i j le b (cases_eq i j))
  where
    by_place : (i j : ℕ) → i ≤ j → j < length living → (i ≡ j) ⊎ (i ≢ j) → (living_at living i).number ≤ (living_at living j).number
    by_place i j le b (inl e) = let same = ap (λ k. (living_at living k).number) e in omega arith
    by_place i j le b (inr o) = let less = up i j (omega arith) b in omega arith

pub place_or_none : (living : List Living) (number index : ℕ) → IsRising living → Parts living number index → (IsPlaceOf living number index → ⊥)
    → (k : ℕ) → k < length living → (living_at living k).number ≢ number
place_or_none living number index up parts absent k b same = by_place (cases_lt k index) (cases_eq k index)
  where
    by_place : (k < index) ⊎ (index ≤ k) → (k ≡ index) ⊎ (k ≢ index) → ⊥
    by_place (inl l) other = let less = parts.smaller k l in omega arith
    by_place (inr g) (inl f) = absent (record { within = omega arith; same = ap (λ i. (living_at living i).number) (sym f) ∙ same })
    by_place (inr g) (inr o) =
        let less = up index k (omega arith) b in
        let most = parts.others index (omega arith) (omega arith) in
        omega arith

-- ---- how many live

-- numbers that rise are at least their places
pub number_from : (living : List Living) (index : ℕ) → IsRising living → index < length living → index ≤ (living_at living index).number
number_from living zero up h = omega arith
number_from living (suc i) up h =
    let before = number_from living i up (omega arith) in
    let less = up i (suc i) (omega arith) h in
    omega arith

few_by : (entered : ℕ) (living : List Living) (count : ℕ) → count ≡ length living → IsKept entered living → length living ≤ entered
few_by entered living zero e kept = omega arith
few_by entered living (suc last) e kept =
    let below = kept.below last (omega arith) in
    let least = number_from living last kept.rising (omega arith) in
    omega arith

pub few_live : (entered : ℕ) (living : List Living) → IsKept entered living → length living ≤ entered
few_live entered living kept = few_by entered living (length living) refl kept

abbrev one_if_live : Span → ℕ
one_if_live span = if span.alive then 1 else 0

none_counted : (entered : ℕ) → living_in (spans_of entered []) ≡ 0
none_counted zero = refl
none_counted (suc n) =
    let next : suc n ≡ n + 1 = omega arith in
    let more = sum_by-map-range_with_len_more one_if_live (span_in []) 0 n n (omega arith) in
    let rest = none_counted n in
    ap (λ k. living_in (spans_of k [])) next ∙ more ∙ ap (λ k. k + 0) rest

kept_rest : (entered : ℕ) (own : Living) (rest : List Living) → IsKept entered (own ∷ rest) → IsKept entered rest
kept_rest entered own rest kept = record {
  rising = λ i j l b. kept.rising (suc i) (suc j) (omega arith) (omega arith);
  below = λ i b. kept.below (suc i) (omega arith);
  few = kept.few;
}

pub counted : (entered : ℕ) (living : List Living) → IsKept entered living → living_in (spans_of entered living) ≡ length living
counted entered [] kept = none_counted entered
counted entered (own ∷ rest) kept =
    let less = kept_rest entered own rest kept in
    let first : own.number < entered = kept.below 0 (omega arith) in
    let gone : span_in rest own.number ≡ ended_span = found_none rest own.number (λ k b same. let up = kept.rising 0 (suc k) (omega arith) (omega arith) in absurd (omega arith)) in
    let whole = changed entered rest (own ∷ rest) own.number (span_of own.first own.count)
    (λ n o. rw (ne_eqb own.number n (λ same. o (sym same))) refl) (rw (eq-eqb own.number own.number refl) refl) in
    let sum = sum_by-set one_if_live (spans_of entered rest) own.number (span_of own.first own.count) ended_span (omega (arith, length-spans_of entered rest)) in
    let was : one_if_live (span_at (spans_of entered rest) own.number) ≡ 0 = ap one_if_live (at_number entered rest own.number less ∙ gone) in
    let before = counted entered rest less in
    let now : living_in (set (spans_of entered rest) own.number (span_of own.first own.count)) ≡ suc (length rest) = omega arith in
    ap living_in whole ∙ now
