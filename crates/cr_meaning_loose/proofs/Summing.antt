-- What is found in a forest is found in one of its pieces, and in an evaluation within.
use Rattle.std.proofs.Common.{◌≡◌, refl, sym, ◌∙◌, ap, subst, arith, inl, inr}
use Rattle.std.specs.Prelude.{ℕ, zero, suc, ◌<◌, ◌⊎◌, Bool, true, false, not, ◌&&◌, ◌||◌, Option, Some, None, List, [], ◌∷◌, slice_get}
use Rattle.std.specs.List.{list_all, list_any}
use Rattle.std.proofs.lemmas.Bool.{true≢false, false≢true, or_parts, or_from, or_left, or_right, or_cases, and_from, cases_Bool}
use Rattle.std.proofs.lemmas.Bool.Decides.{nat_tests}
use Rattle.cr_footprint.specs.Cell.{Cell as Place, same_cell}
use Rattle.cr_footprint.proofs.Rising.{same_cell-equal}
use Rattle.cr_meaning.specs.Events.{Event, is_side_effect}
use Rattle.cr_meaning.specs.Merged.{reads_at, writes_at}
use Rattle.cr_meaning.specs.Quiet.{is_quiet_work, is_noisy}
use Rattle.cr_meaning.specs.World.{Program}
use Rattle.cr_meaning.specs.declared.op.Op.{Op}
use Rattle.cr_meaning_seen.specs.Seen.{Forest, bare, node as tree, onto, Occurs, here, within, later, piece}
use Rattle.cr_meaning_frames.specs.Frame.{reads_in, AreReadsIn, IsPlainNode, ArePlain}
use Rattle.cr_meaning_orders.specs.Fixed.{spares, Spares}
use Rattle.cr_meaning_loose.specs.Sums.{among, some_in, is_noisy_op, is_loud_at, reads_cell, writes_cell, is_loud, is_read, is_written}
use Rattle.cr_meaning_loose.specs.Lists.{count_of}

-- ---- evaluations within

module _ (test : ℕ → Option (List Event) → Bool) where
  pub none_occurs : (forest : Forest) → some_in test forest ≡ false → (number : ℕ) (inner : Forest) (end : Option (List Event)) → Occurs number inner end forest → test number end ≡ false
  none_occurs bare e number inner end o = elim o [ ]
  none_occurs (tree number inner end next) e _ _ _ here = (or_parts (test number end) (some_in test inner || some_in test next) e).0
  none_occurs (tree m f x next) e number inner end (within o) =
      none_occurs f (or_parts (some_in test f) (some_in test next) (or_parts (test m x) (some_in test f || some_in test next) e).1).0 number inner end o
  none_occurs (tree m f x next) e number inner end (later o) =
      none_occurs next (or_parts (some_in test f) (some_in test next) (or_parts (test m x) (some_in test f || some_in test next) e).1).1 number inner end o

  pub none_if : (forest : Forest) → ((number : ℕ) (inner : Forest) (end : Option (List Event)) → Occurs number inner end forest → test number end ≡ false) → some_in test forest ≡ false
  none_if bare f = refl
  none_if (tree number inner end next) f =
      or_from (test number end) (some_in test inner || some_in test next) (f number inner end here)
      (or_from (some_in test inner) (some_in test next) (none_if inner (λ n i e o. f n i e (within o))) (none_if next (λ n i e o. f n i e (later o))))

  -- ---- pieces

  pub record Found (forest : Forest) : Type 0 where
    pub place : ℕ
    pub few : place < count_of forest
    pub operand : Forest
    pub is : piece forest place ≡ Some operand
    pub so : some_in test operand ≡ true

  -- an evaluation alone
  alone : (number : ℕ) (inner : Forest) (end : Option (List Event)) → some_in test (tree number inner end bare) ≡ (test number end || some_in test inner)
  alone number inner end = ap (λ b. test number end || b) (right (some_in test inner))
    where
      right : (b : Bool) → (b || false) ≡ b
      right true = refl
      right false = refl

  pub found : (forest : Forest) → some_in test forest ≡ true → Found forest
  found bare e = absurd (false≢true e)
  found (tree number inner end next) e = by (cases_Bool (test number end || some_in test inner)) (λ h. found next h)
    where
      behind : Found next → Found (tree number inner end next)
      behind h = let f = h.few in record { place = suc h.place; few = omega (arith, f); operand = h.operand; is = h.is; so = h.so }

      by : ((test number end || some_in test inner) ≡ true) ⊎ ((test number end || some_in test inner) ≡ false) → (some_in test next ≡ true → Found next) → Found (tree number inner end next)
      by (inl h) later_on = record { place = zero; few = omega arith; operand = tree number inner end bare; is = refl; so = alone number inner end ∙ h }
      by (inr h) later_on =
          let parts = or_parts (test number end) (some_in test inner) h in
          let F : Bool → Type 0 = λ b. (b || (some_in test inner || some_in test next)) ≡ true in
          let G : Bool → Type 0 = λ b. (b || some_in test next) ≡ true in
          behind (later_on (subst G parts.1 (subst F parts.0 e)))

  pub held_by : (forest operand : Forest) (place : ℕ) → piece forest place ≡ Some operand → some_in test operand ≡ true → some_in test forest ≡ true
  held_by bare operand place is so = absurd cc
  held_by (tree number inner end next) operand zero is so =
      let same : operand ≡ tree number inner end bare = cc in
      let h : (test number end || some_in test inner) ≡ true = sym (alone number inner end) ∙ ap (some_in test) (sym same) ∙ so in
      by (test number end) (some_in test inner) h
    where
      by : (a b : Bool) → (a || b) ≡ true → (a || (b || some_in test next)) ≡ true
      by true b h = refl
      by false true h = refl
      by false false h = absurd (false≢true h)
  held_by (tree number inner end next) operand (suc place) is so =
      or_right (test number end) (some_in test inner || some_in test next) (or_right (some_in test inner) (some_in test next) (held_by next operand place is so))

  pub free_of : (forest operand : Forest) (place : ℕ) → piece forest place ≡ Some operand → some_in test forest ≡ false → some_in test operand ≡ false
  free_of forest operand place is none = by (cases_Bool (some_in test operand))
    where
      by : (some_in test operand ≡ true) ⊎ (some_in test operand ≡ false) → some_in test operand ≡ false
      by (inl h) = absurd (true≢false (sym (held_by forest operand place is h) ∙ none))
      by (inr h) = h

  pub some_onto : (one more : Forest) → some_in test (onto one more) ≡ (some_in test one || some_in test more)
  some_onto bare more = refl
  some_onto (tree number inner end next) more =
      ap (λ b. test number end || (some_in test inner || b)) (some_onto next more) ∙ assoc (test number end) (some_in test inner) (some_in test next) (some_in test more)
    where
      assoc : (a b c d : Bool) → (a || (b || (c || d))) ≡ ((a || (b || c)) || d)
      assoc true b c d = refl
      assoc false true c d = refl
      assoc false false c d = refl

-- ---- events

same_self : (cell : Place) → same_cell cell cell ≡ true
same_self cell = grind (arith, nat_tests)

-- no side effect, and each cell that is read is of a set
reads_so : (kept : Place → Bool) (events : List Event) → list_any is_noisy events ≡ false → ((cell : Place) → list_any (reads_at cell) events ≡ true → kept cell ≡ true) → list_all (reads_in kept) events ≡ true
reads_so kept [] none f = refl
reads_so kept (event ∷ events) none f =
    let parts = or_parts (is_noisy event) (list_any is_noisy events) none in
    let quiet : not (is_side_effect event.deed) ≡ true = ap not parts.0 in
    and_from (reads_in kept event) (list_all (reads_in kept) events)
    (and_from (not (is_side_effect event.deed)) (kept event.cell) quiet (f event.cell (or_left (reads_at event.cell event) (list_any (reads_at event.cell) events) (and_from (not (is_side_effect event.deed)) (same_cell event.cell event.cell) quiet (same_self event.cell)))))
    (reads_so kept events parts.1 (λ cell h. f cell (or_right (reads_at cell event) (list_any (reads_at cell) events) h)))

and_true : (a b : Bool) → (a && b) ≡ true → (a ≡ true) × (b ≡ true)
and_true true b e = (refl, e)
and_true false b e = absurd (false≢true e)

quiet_reads : (kept : Place → Bool) (events : List Event) → list_all (reads_in kept) events ≡ true → list_any is_noisy events ≡ false
quiet_reads kept [] h = refl
quiet_reads kept (event ∷ events) h =
    let both = and_true (reads_in kept event) (list_all (reads_in kept) events) h in
    or_from (is_noisy event) (list_any is_noisy events) (by (is_side_effect event.deed) (and_true (not (is_side_effect event.deed)) (kept event.cell) both.0).0) (quiet_reads kept events both.1)
  where
    by : (b : Bool) → not b ≡ true → b ≡ false
    by true e = absurd (false≢true e)
    by false e = refl

kept_reads : (kept : Place → Bool) (events : List Event) (cell : Place) → list_all (reads_in kept) events ≡ true → kept cell ≡ false → list_any (reads_at cell) events ≡ false
kept_reads kept [] cell h free = refl
kept_reads kept (event ∷ events) cell h free =
    let both = and_true (reads_in kept event) (list_all (reads_in kept) events) h in
    or_from (reads_at cell event) (list_any (reads_at cell) events) (by (cases_Bool (reads_at cell event)) both.0) (kept_reads kept events cell both.1 free)
  where
    by : (reads_at cell event ≡ true) ⊎ (reads_at cell event ≡ false) → reads_in kept event ≡ true → reads_at cell event ≡ false
    by (inr e) k = e
    by (inl e) k =
        let same = same_cell-equal cell event.cell (and_true (not (is_side_effect event.deed)) (same_cell cell event.cell) e).1 in
        absurd (true≢false (sym (and_true (not (is_side_effect event.deed)) (kept event.cell) k).1 ∙ ap kept (sym same) ∙ free))

no_writes : (events : List Event) (cell : Place) → list_any is_noisy events ≡ false → list_any (writes_at cell) events ≡ false
no_writes [] cell h = refl
no_writes (event ∷ events) cell h =
    let parts = or_parts (is_noisy event) (list_any is_noisy events) h in
    or_from (writes_at cell event) (list_any (writes_at cell) events) (ap (λ b. b && same_cell cell event.cell) parts.0) (no_writes events cell parts.1)

spared_so : (kept : Place → Bool) (events : List Event) → ((cell : Place) → list_any (writes_at cell) events ≡ true → kept cell ≡ false) → list_all (spares kept) events ≡ true
spared_so kept [] f = refl
spared_so kept (event ∷ events) f =
    and_from (spares kept event) (list_all (spares kept) events) (by (cases_Bool (is_side_effect event.deed)))
    (spared_so kept events (λ cell h. f cell (or_right (writes_at cell event) (list_any (writes_at cell) events) h)))
  where
    by : (is_side_effect event.deed ≡ true) ⊎ (is_side_effect event.deed ≡ false) → spares kept event ≡ true
    by (inr e) = ap (λ b. not (b && kept event.cell)) e
    by (inl e) =
        let free : kept event.cell ≡ false = f event.cell (or_left (writes_at event.cell event) (list_any (writes_at event.cell) events) (and_from (is_side_effect event.deed) (same_cell event.cell event.cell) e (same_self event.cell))) in
        ap (λ b. not (b && kept event.cell)) e ∙ ap not free

spared_writes : (kept : Place → Bool) (events : List Event) (cell : Place) → list_all (spares kept) events ≡ true → kept cell ≡ true → list_any (writes_at cell) events ≡ false
spared_writes kept [] cell h k = refl
spared_writes kept (event ∷ events) cell h k =
    let both = and_true (spares kept event) (list_all (spares kept) events) h in
    or_from (writes_at cell event) (list_any (writes_at cell) events) (by (cases_Bool (writes_at cell event)) both.0) (spared_writes kept events cell both.1 k)
  where
    by : (writes_at cell event ≡ true) ⊎ (writes_at cell event ≡ false) → spares kept event ≡ true → writes_at cell event ≡ false
    by (inr e) s = e
    by (inl e) s =
        let two = and_true (is_side_effect event.deed) (same_cell cell event.cell) e in
        let same = same_cell-equal cell event.cell two.1 in
        let hit : (is_side_effect event.deed && kept event.cell) ≡ true = and_from (is_side_effect event.deed) (kept event.cell) two.0 (ap kept (sym same) ∙ k) in
        absurd (true≢false (sym s ∙ ap not hit))

-- ---- operands without a side effect, and those that spare a set

any_of : (test : Event → Bool) (end : Option (List Event)) (events : List Event) → end ≡ Some events → among test end ≡ false → list_any test events ≡ false
any_of test end events is none = sym (ap (among test) is) ∙ none

pub plain_so : (p : Program) (kept : Place → Bool) (forest : Forest) → is_loud p forest ≡ false → ((cell : Place) → is_read cell forest ≡ true → kept cell ≡ true) → ArePlain p kept forest
plain_so p kept forest quiet f number inner end o =
    let none = or_parts (is_noisy_op (slice_get p.ops number)) (among is_noisy end) (none_occurs (is_loud_at p) forest quiet number inner end o) in (
      (λ op is. by (is_quiet_work op.work) (sym (ap is_noisy_op is) ∙ none.0)),
      (λ events is. reads_so kept events (any_of is_noisy end events is none.1) (λ cell h. f cell (read cell events is h))),
    )
  where
    by : (b : Bool) → not b ≡ false → b ≡ true
    by true e = refl
    by false e = absurd (true≢false e)

    read : (cell : Place) (events : List Event) → end ≡ Some events → list_any (reads_at cell) events ≡ true → is_read cell forest ≡ true
    read cell events is h = cases (cases_Bool (is_read cell forest))
      where
        cases : (is_read cell forest ≡ true) ⊎ (is_read cell forest ≡ false) → is_read cell forest ≡ true
        cases (inl e) = e
        cases (inr e) = absurd (true≢false (sym h ∙ any_of (reads_at cell) end events is (none_occurs (reads_cell cell) forest e number inner end o)))

noisy_none : (p : Program) (number : ℕ) → IsPlainNode p number → is_noisy_op (slice_get p.ops number) ≡ false
noisy_none p number f = by (slice_get p.ops number) refl
  where
    by : (o : Option Op) → slice_get p.ops number ≡ o → is_noisy_op o ≡ false
    by None e = refl
    by (Some op) e = ap not (f op e)

all_of : (test : Event → Bool) (end : Option (List Event)) → ((events : List Event) → end ≡ Some events → list_any test events ≡ false) → among test end ≡ false
all_of test None f = refl
all_of test (Some events) f = f events refl

pub plain_quiet : (p : Program) (kept : Place → Bool) (forest : Forest) → ArePlain p kept forest → is_loud p forest ≡ false
plain_quiet p kept forest plain =
    none_if (is_loud_at p) forest (λ number inner end o. or_from (is_noisy_op (slice_get p.ops number)) (among is_noisy end)
    (noisy_none p number (plain number inner end o).0) (all_of is_noisy end (λ events is. quiet_reads kept events ((plain number inner end o).1 events is))))

pub plain_kept : (p : Program) (kept : Place → Bool) (forest : Forest) (cell : Place) → ArePlain p kept forest → kept cell ≡ false → is_read cell forest ≡ false
plain_kept p kept forest cell plain free =
    none_if (reads_cell cell) forest (λ number inner end o. all_of (reads_at cell) end (λ events is. kept_reads kept events cell ((plain number inner end o).1 events is) free))

pub quiet_writes : (p : Program) (forest : Forest) (cell : Place) → is_loud p forest ≡ false → is_written cell forest ≡ false
quiet_writes p forest cell quiet =
    none_if (writes_cell cell) forest (λ number inner end o. all_of (writes_at cell) end (λ events is. no_writes events cell (any_of is_noisy end events is (or_parts (is_noisy_op (slice_get p.ops number)) (among is_noisy end) (none_occurs (is_loud_at p) forest quiet number inner end o)).1)))

pub spares_so : (kept : Place → Bool) (forest : Forest) → ((cell : Place) → is_written cell forest ≡ true → kept cell ≡ false) → Spares kept forest
spares_so kept forest f number inner events o = spared_so kept events (λ cell h. f cell (cases cell h (cases_Bool (is_written cell forest))))
  where
    cases : (cell : Place) → list_any (writes_at cell) events ≡ true → (is_written cell forest ≡ true) ⊎ (is_written cell forest ≡ false) → is_written cell forest ≡ true
    cases cell h (inl e) = e
    cases cell h (inr e) = absurd (true≢false (sym h ∙ none_occurs (writes_cell cell) forest e number inner (Some events) o))

pub spares_written : (kept : Place → Bool) (forest : Forest) (cell : Place) → Spares kept forest → kept cell ≡ true → is_written cell forest ≡ false
spares_written kept forest cell spared k =
    none_if (writes_cell cell) forest (λ number inner end o. by number inner end o)
  where
    by : (number : ℕ) (inner : Forest) (end : Option (List Event)) → Occurs number inner end forest → among (writes_at cell) end ≡ false
    by number inner None o = refl
    by number inner (Some events) o = spared_writes kept events cell (spared number inner events o) k
