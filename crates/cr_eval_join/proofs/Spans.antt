-- Own events on several cells of one object, put to those of the operands.
use Rattle.std.proofs.Common.{◌≡◌, ℕ, zero, suc, ◌+◌, ◌==◌, Bool, true, false, ◌&&◌, ◌||◌, Result, Ok, Err, IfOk, OnOk, List, [], ◌∷◌, ◌++◌, inl, inr, refl, sym, ◌∙◌, ap, subst, arith}
use Rattle.std.specs.List.{list_any}
use Rattle.std.proofs.lemmas.Bool.{and_parts, and_from, or_cases, or_left, or_right, eqb-true, eq-eqb, false≢true, false_from_ne_true}
use Rattle.std.proofs.lemmas.Bool.Decides.{nat_tests}
use Rattle.cr_footprint.specs.Cell.{Cell, same_cell, span, IsLeast}
use Rattle.cr_footprint.specs.Foot.{Sets, sets, with_reads, with_writes, open_in}
use Rattle.cr_footprint.specs.declared.foot.Foot.{Foot}
use Rattle.cr_footprint.specs.declared.end.FootEnd.{FootEnd}
use Rattle.cr_footprint.specs.declared.end.FootEnd.TheVariants as ending
use Rattle.cr_footprint.proofs.Rising.{same_cell-equal}
use Rattle.cr_meaning.specs.Events.{Event, Deed, Reads, Writes, conflicts, clash, own}
use Rattle.cr_meaning.specs.Work.{events_from}
use Rattle.cr_meaning.specs.Merged.{reads_at, writes_at, opens_at, sets_of}
use Rattle.cr_eval_join.specs.Parts.{IsFootOf}
use Rattle.cr_eval_join.specs.Feet.{trapped, AreBelow, Adds}
use Rattle.cr_eval_join.proofs.Booleans.{or_assoc, or_swap}

-- ---- the cells of a span, one by one

abbrev covered : Cell → ℕ → ℕ → ℕ → Bool
covered d object first zero = false
covered d object first (suc count) = same_cell d (object, first) || covered d object (suc first) count

span_empty : (d : Cell) (object first : ℕ) → false ≡ span object first (first + 0) d
span_empty d object first = grind (arith, nat_tests)

span_front : (d : Cell) (object first count : ℕ)
    → (same_cell d (object, first) || span object (suc first) (suc first + count) d) ≡ span object first (first + suc count) d
span_front d object first count = grind (arith, nat_tests)

span_cells : (d : Cell) (object first count : ℕ) → covered d object first count ≡ span object first (first + count) d
span_cells d object first zero = span_empty d object first
span_cells d object first (suc count) =
    ap (λ (b : Bool). same_cell d (object, first) || b) (span_cells d object (suc first) count) ∙ span_front d object first count

-- ---- a test of own events and others

adding : (p : Event → Bool) (deed : Deed) (d : Cell) (object first count : ℕ) (all : List Event) → ((c : Cell) → p (own deed c) ≡ same_cell d c)
    → list_any p (events_from deed object first count ++ all) ≡ (covered d object first count || list_any p all)
adding p deed d object first zero all h = refl
adding p deed d object first (suc count) all h =
    ap (λ (b : Bool). b || list_any p (events_from deed object (suc first) count ++ all)) (h (object, first))
    ∙ (ap (λ (b : Bool). same_cell d (object, first) || b) (adding p deed d object (suc first) count all h)
    ∙ or_assoc (same_cell d (object, first)) (covered d object (suc first) count) (list_any p all))

passing : (p : Event → Bool) (deed : Deed) (object first count : ℕ) (all : List Event) → ((c : Cell) → p (own deed c) ≡ false)
    → list_any p (events_from deed object first count ++ all) ≡ list_any p all
passing p deed object first zero all h = refl
passing p deed object first (suc count) all h =
    ap (λ (b : Bool). b || list_any p (events_from deed object (suc first) count ++ all)) (h (object, first))
    ∙ passing p deed object (suc first) count all h

-- the others first, and the span as a test
added_span : (p : Event → Bool) (deed : Deed) (d : Cell) (object first count : ℕ) (all : List Event) → ((c : Cell) → p (own deed c) ≡ same_cell d c)
    → list_any p (events_from deed object first count ++ all) ≡ (list_any p all || span object first (first + count) d)
added_span p deed d object first count all h =
    adding p deed d object first count all h
    ∙ (or_swap (covered d object first count) (list_any p all)
    ∙ ap (λ (b : Bool). list_any p all || b) (span_cells d object first count))

pub reads_are_added : (object first count : ℕ) (all : List Event)
    → sets_of (events_from Reads object first count ++ all) ≡ with_reads (sets_of all) (span object first (first + count))
reads_are_added object first count all = λ i. record {
  reads = λ d. added_span (reads_at d) Reads d object first count all (λ c. refl) i;
  writes = λ d. passing (writes_at d) Reads object first count all (λ c. refl) i;
  opens = λ d. passing (opens_at d) Reads object first count all (λ c. refl) i;
}

pub writes_are_added : (object first count : ℕ) (all : List Event)
    → sets_of (events_from Writes object first count ++ all) ≡ with_writes (sets_of all) (span object first (first + count))
writes_are_added object first count all = λ i. record {
  reads = λ d. passing (reads_at d) Writes object first count all (λ c. refl) i;
  writes = λ d. added_span (writes_at d) Writes d object first count all (λ c. refl) i;
  opens = λ d. added_span (opens_at d) Writes d object first count all (λ c. refl) i;
}

-- ---- a write that is open on one of the cells

abbrev any_open : (Cell → Bool) → ℕ → ℕ → ℕ → Bool
any_open q object first zero = false
any_open q object first (suc count) = q (object, first) || any_open q object (suc first) count

some_open : (q : Cell → Bool) (object first count : ℕ) (c : Cell) → q c ≡ true → covered c object first count ≡ true → any_open q object first count ≡ true
some_open q object first zero c here there = there
some_open q object first (suc count) c here there =
    elim (or_cases (same_cell c (object, first)) (covered c object (suc first) count) there) as (λ _. any_open q object first (suc count) ≡ true) [
      | inl same ↦ or_left (q (object, first)) (any_open q object (suc first) count) (sym (ap q (same_cell-equal c (object, first) same)) ∙ here)
      | inr later ↦ or_right (q (object, first)) (any_open q object (suc first) count) (some_open q object (suc first) count c here later)
    ]

same_itself : (c : Cell) → same_cell c c ≡ true
same_itself c = and_from (c.0 == c.0) (c.1 == c.1) (eq-eqb c.0 c.0 refl) (eq-eqb c.1 c.1 refl)

-- the cell on which it is
pub record IsOpenOn (q : Cell → Bool) (object first count : ℕ) : Type 0 where
  pub c : Cell
  pub here : q c ≡ true
  pub there : covered c object first count ≡ true

open_on : (q : Cell → Bool) (object first count : ℕ) → any_open q object first count ≡ true → IsOpenOn q object first count
open_on q object first zero h = absurd (false≢true h)
open_on q object first (suc count) h =
    elim (or_cases (q (object, first)) (any_open q object (suc first) count) h) as (λ _. IsOpenOn q object first (suc count)) [
      | inl here ↦ record {
        c = (object, first);
        here = here;
        there = or_left (same_cell (object, first) (object, first)) (covered (object, first) object (suc first) count) (same_itself (object, first));
      }
      | inr later ↦ let found = open_on q object (suc first) count later in record {
        c = found.c;
        here = found.here;
        there = or_right (same_cell found.c (object, first)) (covered found.c object (suc first) count) found.there;
      }
    ]

-- no cell of the span has one, or some cell has
none_open : (q : Cell → Bool) (object first count : ℕ) → ((c : Cell) → (q c && span object first (first + count) c) ≡ false) → any_open q object first count ≡ false
none_open q object first count none =
    false_from_ne_true (any_open q object first count) (λ h.
    let found = open_on q object first count h in
    false≢true (sym (none found.c)
    ∙ and_from (q found.c) (span object first (first + count) found.c) found.here (sym (span_cells found.c object first count) ∙ found.there)))

one_open : (q : Cell → Bool) (object first count : ℕ) (c : Cell) → (q c && span object first (first + count) c) ≡ true → any_open q object first count ≡ true
one_open q object first count c h =
    let parts = and_parts (q c) (span object first (first + count) c) h in
    some_open q object first count c parts.0 (span_cells c object first count ∙ parts.1)

span_clash : (deed : Deed) (object first count : ℕ) (all : List Event) (q : Cell → Bool) → ((c : Cell) → list_any (conflicts (own deed c)) all ≡ q c)
    → clash (events_from deed object first count) all ≡ any_open q object first count
span_clash deed object first zero all q h = refl
span_clash deed object first (suc count) all q h =
    ap (λ (x : Bool). x || clash (events_from deed object (suc first) count) all) (h (object, first))
    ∙ ap (λ (x : Bool). q (object, first) || x) (span_clash deed object (suc first) count all q h)

opens_of_foot : (deed : Deed) (all : List Event) (foot : Foot) → AreBelow all → IsFootOf foot all → (c : Cell) → list_any (conflicts (own deed c)) all ≡ (sets foot).opens c
opens_of_foot deed all foot b is c = b.opens deed c ∙ ap (λ (f : Sets). f.opens c) (sym is.same)

span_adds_whole : (with_span : Sets → (Cell → Bool) → Sets) (deed : Deed) (object first count : ℕ) (all : List Event) (foot : Foot) (r : Result Foot FootEnd)
    → sets_of (events_from deed object first count ++ all) ≡ with_span (sets_of all) (span object first (first + count)) → AreBelow all → IsFootOf foot all
    → IfOk r (λ new. sets new ≡ with_span (sets foot) (span object first (first + count)))
    → OnOk r ((c : Cell) → open_in (sets foot) (span object first (first + count)) c ≡ false)
    → ((o c : ℕ) → r ≡ Err (ending.Conflict o c) → IsLeast (open_in (sets foot) (span object first (first + count))) (o, c))
    → Adds (events_from deed object first count) all (trapped r)
span_adds_whole with_span deed object first count all foot (Ok new) law b is added apart conflict = (
  span_clash deed object first count all (λ c. (sets foot).opens c) (opens_of_foot deed all foot b is)
      ∙ none_open (λ c. (sets foot).opens c) object first count apart,
  record { same = added ∙ (ap (λ (f : Sets). with_span f (span object first (first + count))) is.same ∙ sym law) },
)
span_adds_whole with_span deed object first count all foot (Err (ending.Conflict o c)) law b is added apart conflict = (
  refl,
  span_clash deed object first count all (λ c. (sets foot).opens c) (opens_of_foot deed all foot b is)
      ∙ one_open (λ c. (sets foot).opens c) object first count (o, c) (conflict o c refl).inside,
)
span_adds_whole with_span deed object first count all foot (Err ending.NoMemory) law b is added apart conflict = tt

-- the same, where the span's end is known by its sum
pub span_adds : (with_span : Sets → (Cell → Bool) → Sets) (deed : Deed) (object first count last : ℕ) (all : List Event) (foot : Foot) (r : Result Foot FootEnd)
    → sets_of (events_from deed object first count ++ all) ≡ with_span (sets_of all) (span object first (first + count)) → last ≡ first + count
    → AreBelow all → IsFootOf foot all
    → IfOk r (λ new. sets new ≡ with_span (sets foot) (span object first last))
    → OnOk r ((c : Cell) → open_in (sets foot) (span object first last) c ≡ false)
    → ((o c : ℕ) → r ≡ Err (ending.Conflict o c) → IsLeast (open_in (sets foot) (span object first last)) (o, c))
    → Adds (events_from deed object first count) all (trapped r)
span_adds with_span deed object first count last all foot r law e b is added apart conflict =
    let A : ℕ → Type 0 = λ n. IfOk r (λ new. sets new ≡ with_span (sets foot) (span object first n)) in
    let B : ℕ → Type 0 = λ n. OnOk r ((c : Cell) → open_in (sets foot) (span object first n) c ≡ false) in
    let C : ℕ → Type 0 = λ n. (o c : ℕ) → r ≡ Err (ending.Conflict o c) → IsLeast (open_in (sets foot) (span object first n)) (o, c) in
    span_adds_whole with_span deed object first count all foot r law b is (subst A e added) (subst B e apart) (subst C e conflict)
