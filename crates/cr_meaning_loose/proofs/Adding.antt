-- A node's operands, one more at a time.
use Rattle.std.proofs.Common.{◌≡◌, refl, sym, ◌∙◌, ap, subst, arith, inl, inr}
use Rattle.std.specs.Prelude.{ℕ, zero, suc, ◌+◌, ◌<◌, ◌≤◌, ◌⊎◌, Bool, true, false, not, ◌&&◌, ◌||◌, Option, Some, None, List}
use Rattle.std.proofs.lemmas.Bool.{true≢false, false≢true, or_parts, or_from, or_left, or_right, or_cases, and_from, cases_Bool, cases_eq, not_from_true}
use Rattle.cr_footprint.specs.Cell.{Cell as Place}
use Rattle.cr_meaning.specs.Events.{Event}
use Rattle.cr_meaning.specs.World.{Program}
use Rattle.cr_meaning_seen.specs.Seen.{Forest, bare, node as tree, onto, piece}
use Rattle.cr_meaning_frames.specs.Frame.{ArePlain}
use Rattle.cr_meaning_orders.specs.Fixed.{Spares, IsFixedNode}
use Rattle.cr_meaning_loose.specs.Sums.{is_loud_at, reads_cell, writes_cell, is_loud, is_read, is_written, do_meet}
use Rattle.cr_meaning_loose.specs.Lists.{count_of}
use Rattle.cr_meaning_loose.proofs.Summing.{Found, found, held_by, free_of, plain_so, plain_quiet, plain_kept, quiet_writes, spares_so, spares_written}

-- ---- pieces of one and one more

abbrev alone : ℕ → Forest → Option (List Event) → Forest
alone number inner end = tree number inner end bare

pub before_it : (done more : Forest) (place : ℕ) → place < count_of done → piece (onto done more) place ≡ piece done place
before_it bare more place few = absurd (omega (arith, few))
before_it (tree number inner end next) more zero few = refl
before_it (tree number inner end next) more (suc place) few = before_it next more place (omega (arith, few))

pub at_it : (done : Forest) (number : ℕ) (inner : Forest) (end : Option (List Event)) → piece (onto done (alone number inner end)) (count_of done) ≡ Some (alone number inner end)
at_it bare number inner end = refl
at_it (tree m f x next) number inner end = at_it next number inner end

pub few_are : (done operand : Forest) (place : ℕ) → piece done place ≡ Some operand → place < count_of done
few_are bare operand place is = absurd cc
few_are (tree number inner end next) operand zero is = omega arith
few_are (tree number inner end next) operand (suc place) is = let f = few_are next operand place is in omega (arith, f)

pub data Side (done more operand : Forest) (place : ℕ) : Type 0 where
  among_them : place < count_of done → piece done place ≡ Some operand → Side done more operand place
  the_last : place ≡ count_of done → operand ≡ more → Side done more operand place

side : (done operand : Forest) (place number : ℕ) (inner : Forest) (end : Option (List Event)) → piece (onto done (alone number inner end)) place ≡ Some operand → Side done (alone number inner end) operand place
side bare operand zero number inner end is = let same : operand ≡ alone number inner end = cc in the_last refl same
side bare operand (suc place) number inner end is = absurd cc
side (tree m f x next) operand zero number inner end is = among_them (omega arith) is
side (tree m f x next) operand (suc place) number inner end is = by (side next operand place number inner end is)
  where
    by : Side next (alone number inner end) operand place → Side (tree m f x next) (alone number inner end) operand (suc place)
    by (among_them few h) = among_them (omega (arith, few)) h
    by (the_last e same) = the_last (ap suc e) same

-- ---- nodes whose operands can't be more than one, or have not begun

pub few_fixed : (p : Program) (count : ℕ) (forest : Forest) → count < 2 → IsFixedNode p count forest
few_fixed p count forest few = record {
  loud = 0;
  kept = λ cell. false;
  quiet = λ place operand within other is. absurd (other (omega (arith, few, within)));
  spared = λ operand within is. spares_so (λ cell. false) operand (λ cell h. refl);
  whole = λ place number inner within is. few;
}

pub bare_fixed : (p : Program) (count : ℕ) → IsFixedNode p count bare
bare_fixed p count = record {
  loud = 0;
  kept = λ cell. false;
  quiet = λ place operand within other is. absurd cc;
  spared = λ operand within is. absurd cc;
  whole = λ place number inner within is. absurd cc;
}

-- ---- what comes behind the operands

module _ (p : Program) (count : ℕ) (done : Forest) (number : ℕ) (inner : Forest) (end : Option (List Event)) where
  pub behind_fixed : count ≤ count_of done → IsFixedNode p count done → IsFixedNode p count (onto done (alone number inner end))
  behind_fixed all h = record {
    loud = h.loud;
    kept = h.kept;
    quiet = λ place operand few other is. h.quiet place operand few other (sym (before_it done (alone number inner end) place (omega (arith, all, few))) ∙ is);
    spared = λ operand few is. h.spared operand few (sym (before_it done (alone number inner end) h.loud (omega (arith, all, few))) ∙ is);
    whole = λ place m f few is. h.whole place m f few (sym (before_it done (alone number inner end) place (omega (arith, all, few))) ∙ is);
  }

  -- and all that is so with one more was so
  pub was_fixed : IsFixedNode p count (onto done (alone number inner end)) → IsFixedNode p count done
  was_fixed h = record {
    loud = h.loud;
    kept = h.kept;
    quiet = λ place operand few other is. h.quiet place operand few other (before_it done (alone number inner end) place (few_are done operand place is) ∙ is);
    spared = λ operand few is. h.spared operand few (before_it done (alone number inner end) h.loud (few_are done operand h.loud is) ∙ is);
    whole = λ place m f few is. h.whole place m f few (before_it done (alone number inner end) place (few_are done (tree m f None bare) place is) ∙ is);
  }

-- an operand that is cut off, where there are two
pub cut_is_loose : (p : Program) (count : ℕ) (done : Forest) (number : ℕ) (inner : Forest) → count_of done < count → 2 ≤ count → IsFixedNode p count (onto done (alone number inner None)) → ⊥
cut_is_loose p count done number inner few two h = let never : count < 2 = h.whole (count_of done) number inner few (at_it done number inner None) in omega (arith, never, two)

-- ---- one more operand

and_off : (a b : Bool) → (a && b) ≡ false → a ≡ true → b ≡ false
and_off true b e h = e
and_off false b e h = absurd (false≢true h)

-- where the two don't meet, and one of them writes the cell, the other doesn't read it
unread_first : (one other : Forest) (cell : Place) → do_meet one other cell ≡ false → is_written cell one ≡ true → is_read cell other ≡ false
unread_first one other cell apart h =
    (or_parts (is_read cell other) (is_written cell other) (and_off (is_written cell one) (is_read cell other || is_written cell other)
    (or_parts (is_written cell one && (is_read cell other || is_written cell other)) (is_written cell other && (is_read cell one || is_written cell one)) apart).0 h)).0

unread_second : (one other : Forest) (cell : Place) → do_meet one other cell ≡ false → is_written cell other ≡ true → is_read cell one ≡ false
unread_second one other cell apart h =
    (or_parts (is_read cell one) (is_written cell one) (and_off (is_written cell other) (is_read cell one || is_written cell one)
    (or_parts (is_written cell one && (is_read cell other || is_written cell other)) (is_written cell other && (is_read cell one || is_written cell one)) apart).1 h)).0

module _ (p : Program) (count : ℕ) (done : Forest) (number : ℕ) (inner : Forest) (events : List Event) where
  abbrev pub more : Forest
  more = alone number inner (Some events)

  whole_on : IsFixedNode p count done → (place m : ℕ) (f : Forest) → place < count → piece (onto done more) place ≡ Some (tree m f None bare) → count < 2
  whole_on h place m f few is = by (side done (tree m f None bare) place number inner (Some events) is)
    where
      by : Side done more (tree m f None bare) place → count < 2
      by (among_them within at) = h.whole place m f few at
      by (the_last e same) = absurd cc

  -- the loud one comes now, and none was before it
  loud_now : is_loud p done ≡ false → ((cell : Place) → do_meet done more cell ≡ false) → IsFixedNode p count done → IsFixedNode p count (onto done more)
  loud_now quiet apart h = record {
    loud = count_of done;
    kept = λ cell. not (is_written cell more);
    quiet = λ place operand few other is. quiet_at place operand other (side done operand place number inner (Some events) is);
    spared = λ operand few is. spared_at operand (side done operand (count_of done) number inner (Some events) is);
    whole = whole_on h;
  }
    where
      quiet_at : (place : ℕ) (operand : Forest) → (place ≡ count_of done → ⊥) → Side done more operand place → ArePlain p (λ cell. not (is_written cell more)) operand
      quiet_at place operand other (the_last e same) = absurd (other e)
      quiet_at place operand other (among_them few at) =
          plain_so p (λ cell. not (is_written cell more)) operand (free_of (is_loud_at p) done operand place at quiet)
          (λ cell h. ap not (written cell (held_by (reads_cell cell) done operand place at h) (cases_Bool (is_written cell more))))
        where
          written : (cell : Place) → is_read cell done ≡ true → (is_written cell more ≡ true) ⊎ (is_written cell more ≡ false) → is_written cell more ≡ false
          written cell h (inr e) = e
          written cell h (inl e) = absurd (true≢false (sym h ∙ unread_second done more cell (apart cell) e))

      spared_at : (operand : Forest) → Side done more operand (count_of done) → Spares (λ cell. not (is_written cell more)) operand
      spared_at operand (among_them few at) = absurd (omega (arith, few))
      spared_at operand (the_last e same) = subst (Spares (λ cell. not (is_written cell more))) (sym same) (spares_so (λ cell. not (is_written cell more)) more (λ cell h. ap not h))

  -- a quiet one comes
  quiet_now : is_loud p more ≡ false → ((cell : Place) → do_meet done more cell ≡ false) → count_of done < count → IsFixedNode p count done → IsFixedNode p count (onto done more)
  quiet_now still apart room h = record {
    loud = h.loud;
    kept = λ cell. not (is_written cell done);
    quiet = λ place operand few other is. quiet_at place operand few other (side done operand place number inner (Some events) is);
    spared = λ operand few is. spared_at operand (side done operand h.loud number inner (Some events) is);
    whole = whole_on h;
  }
    where
      kept : Place → Bool
      kept = λ cell. not (is_written cell done)

      -- what a quiet one reads none has written: it would be the loud one, which spares what the others read
      unwritten : (place : ℕ) (operand : Forest) (cell : Place) → ArePlain p h.kept operand → is_read cell operand ≡ true → is_written cell done ≡ false
      unwritten place operand cell plain read = by (cases_Bool (is_written cell done))
        where
          of_kept : (h.kept cell ≡ true) ⊎ (h.kept cell ≡ false) → h.kept cell ≡ true
          of_kept (inl e) = e
          of_kept (inr e) = absurd (true≢false (sym read ∙ plain_kept p h.kept operand cell plain e))

          by_found : Found (writes_cell cell) done → ⊥
          by_found f = cases (cases_eq f.place h.loud)
            where
              cases : (f.place ≡ h.loud) ⊎ (f.place ≡ h.loud → ⊥) → ⊥
              cases (inl e) =
                  let F : ℕ → Type 0 = λ n. (n < count) × (piece done n ≡ Some f.operand) in
                  let g = f.few in
                  let there : (h.loud < count) × (piece done h.loud ≡ Some f.operand) = subst F e ((omega (arith, g, room)), f.is) in
                  true≢false (sym f.so ∙ spares_written h.kept f.operand cell (h.spared f.operand there.0 there.1) (of_kept (cases_Bool (h.kept cell))))
              cases (inr other) =
                  let g = f.few in
                  true≢false (sym f.so ∙ quiet_writes p f.operand cell (plain_quiet p h.kept f.operand (h.quiet f.place f.operand (omega (arith, g, room)) other f.is)))

          by : (is_written cell done ≡ true) ⊎ (is_written cell done ≡ false) → is_written cell done ≡ false
          by (inr e) = e
          by (inl e) = absurd (by_found (found (writes_cell cell) done e))

      read_by_more : (cell : Place) → is_read cell more ≡ true → (is_written cell done ≡ true) ⊎ (is_written cell done ≡ false) → is_written cell done ≡ false
      read_by_more cell read (inr e) = e
      read_by_more cell read (inl e) = absurd (true≢false (sym read ∙ unread_first done more cell (apart cell) e))

      quiet_at : (place : ℕ) (operand : Forest) → place < count → (place ≡ h.loud → ⊥) → Side done more operand place → ArePlain p kept operand
      quiet_at place operand few other (the_last e same) =
          subst (ArePlain p kept) (sym same) (plain_so p kept more still (λ cell read. ap not (read_by_more cell read (cases_Bool (is_written cell done)))))
      quiet_at place operand few other (among_them within at) =
          let plain = h.quiet place operand few other at in
          plain_so p kept operand (plain_quiet p h.kept operand plain) (λ cell read. ap not (unwritten place operand cell plain read))

      spared_at : (operand : Forest) → Side done more operand h.loud → Spares kept operand
      spared_at operand (among_them few at) = spares_so kept operand (λ cell w. ap not (held_by (writes_cell cell) done operand h.loud at w))
      spared_at operand (the_last e same) =
          subst (Spares kept) (sym same) (spares_so kept more (λ cell w. absurd (true≢false (sym w ∙ quiet_writes p more cell still))))

  -- it keeps the order fixed where not both are loud and no cell is met
  pub more_fixed : (is_loud p done && is_loud p more) ≡ false → ((cell : Place) → do_meet done more cell ≡ false) → count_of done < count → IsFixedNode p count done → IsFixedNode p count (onto done more)
  more_fixed not_both apart room h = by (cases_Bool (is_loud p more))
    where
      by : (is_loud p more ≡ true) ⊎ (is_loud p more ≡ false) → IsFixedNode p count (onto done more)
      by (inr e) = quiet_now e apart room h
      by (inl e) = loud_now (off (is_loud p done) (is_loud p more) not_both e) apart h
        where
          off : (a b : Bool) → (a && b) ≡ false → b ≡ true → a ≡ false
          off true b n k = absurd (true≢false (sym k ∙ n))
          off false b n k = refl

  -- and only there
  last_is : (h : IsFixedNode p count (onto done more)) → count_of done < count → (h.loud ≡ count_of done → ⊥) → ArePlain p h.kept more
  last_is h room other = h.quiet (count_of done) more room (λ e. other (sym e)) (at_it done number inner (Some events))

  pub both_loud_are_loose : count_of done < count → (is_loud p done && is_loud p more) ≡ true → IsFixedNode p count (onto done more) → ⊥
  both_loud_are_loose room both h = by (cases_eq h.loud (count_of done))
    where
      two : (is_loud p done ≡ true) × (is_loud p more ≡ true)
      two = parts (is_loud p done) (is_loud p more) both
        where
          parts : (a b : Bool) → (a && b) ≡ true → (a ≡ true) × (b ≡ true)
          parts true b e = (refl, e)
          parts false b e = absurd (false≢true e)

      by : (h.loud ≡ count_of done) ⊎ (h.loud ≡ count_of done → ⊥) → ⊥
      by (inr other) = true≢false (sym two.1 ∙ plain_quiet p h.kept more (last_is h room other))
      by (inl e) =
          let f = found (is_loud_at p) done two.0 in
          let g = f.few in
          true≢false (sym f.so ∙ plain_quiet p h.kept f.operand (h.quiet f.place f.operand (omega (arith, g, room)) (λ same. absurd (omega (arith, g, same, e))) (before_it done more f.place g ∙ f.is)))

  pub met_are_loose : (cell : Place) → count_of done < count → do_meet done more cell ≡ true → IsFixedNode p count (onto done more) → ⊥
  met_are_loose cell room met h = by (or_cases (is_written cell done && (is_read cell more || is_written cell more)) (is_written cell more && (is_read cell done || is_written cell done)) met)
    where
      -- an operand that writes it, and another that accesses it
      clash : (one other : ℕ) (a b : Forest) → one < count → other < count → (one ≡ other → ⊥) → piece (onto done more) one ≡ Some a → piece (onto done more) other ≡ Some b
          → is_written cell a ≡ true → (is_read cell b ≡ true) ⊎ (is_written cell b ≡ true) → ⊥
      clash one other a b few room apart at there w access = cases (cases_eq one h.loud) access
        where
          cases : (one ≡ h.loud) ⊎ (one ≡ h.loud → ⊥) → (is_read cell b ≡ true) ⊎ (is_written cell b ≡ true) → ⊥
          cases (inr differ) access = true≢false (sym w ∙ quiet_writes p a cell (plain_quiet p h.kept a (h.quiet one a few differ at)))
          cases (inl e) (inr written) =
              true≢false (sym written ∙ quiet_writes p b cell (plain_quiet p h.kept b (h.quiet other b room (λ same. apart (e ∙ sym same)) there)))
          cases (inl e) (inl read) =
              let plain = h.quiet other b room (λ same. apart (e ∙ sym same)) there in
              let F : ℕ → Type 0 = λ n. (n < count) × (piece (onto done more) n ≡ Some a) in
              let loud = subst F e (few, at) in
              kept_cases plain (h.spared a loud.0 loud.1) (cases_Bool (h.kept cell)) read
            where
              kept_cases : ArePlain p h.kept b → Spares h.kept a → (h.kept cell ≡ true) ⊎ (h.kept cell ≡ false) → is_read cell b ≡ true → ⊥
              kept_cases plain spared (inl k) read = true≢false (sym w ∙ spares_written h.kept a cell spared k)
              kept_cases plain spared (inr k) read = true≢false (sym read ∙ plain_kept p h.kept b cell plain k)

      both : (a b : Bool) → (a && b) ≡ true → (a ≡ true) × (b ≡ true)
      both true b e = (refl, e)
      both false b e = absurd (false≢true e)

      last : piece (onto done more) (count_of done) ≡ Some more
      last = at_it done number inner (Some events)

      by : ((is_written cell done && (is_read cell more || is_written cell more)) ≡ true) ⊎ ((is_written cell more && (is_read cell done || is_written cell done)) ≡ true) → ⊥
      by (inl e) =
          let two = both (is_written cell done) (is_read cell more || is_written cell more) e in
          let f = found (writes_cell cell) done two.0 in
          let g = f.few in
          clash f.place (count_of done) f.operand more (omega (arith, g, room)) room (λ same. absurd (omega (arith, g, same))) (before_it done more f.place g ∙ f.is) last f.so (or_cases (is_read cell more) (is_written cell more) two.1)
      by (inr e) =
          let two = both (is_written cell more) (is_read cell done || is_written cell done) e in
          of_done two.0 (or_cases (is_read cell done) (is_written cell done) two.1)
        where
          of_done : is_written cell more ≡ true → (is_read cell done ≡ true) ⊎ (is_written cell done ≡ true) → ⊥
          of_done w (inl r) =
              let f = found (reads_cell cell) done r in let g = f.few in
              clash (count_of done) f.place more f.operand room (omega (arith, g, room)) (λ same. absurd (omega (arith, g, same))) last (before_it done more f.place g ∙ f.is) w (inl f.so)
          of_done w (inr r) =
              let f = found (writes_cell cell) done r in let g = f.few in
              clash (count_of done) f.place more f.operand room (omega (arith, g, room)) (λ same. absurd (omega (arith, g, same))) last (before_it done more f.place g ∙ f.is) w (inr f.so)
