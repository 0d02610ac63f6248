-- What is kept of a node that is open, as evaluations within it end.
use Rattle.std.proofs.Common.{◌≡◌, refl, sym, ◌∙◌, ap, subst, arith, inl, inr}
use Rattle.std.specs.Prelude.{ℕ, ◌+◌, ◌<◌, ◌≤◌, ◌⊎◌, nat_lt, Bool, true, false, not, ◌&&◌, ◌||◌, Some, List, [], ◌∷◌, length, ◌==◌, slice_get}
use Rattle.std.specs.List.{list_any}
use Rattle.std.proofs.lemmas.Bool.{true≢false, false≢true, or_parts, or_left, or_right, or_cases, cases_Bool, ltb-true, ltb-false, eqb-true}
use Rattle.std.proofs.lemmas.Bool.Decides.{nat_tests}
use Rattle.cr_footprint.specs.Cell.{Cell, same_cell, holds, IsLeast}
use Rattle.cr_footprint.specs.Foot.{Sets, sets, no_events, union_of, then_of, meets}
use Rattle.cr_footprint.specs.declared.foot.Foot.{Foot}
use Rattle.cr_eval_join.specs.Parts.{IsFootOf}
use Rattle.cr_meaning.specs.Events.{Event, is_side_effect}
use Rattle.cr_meaning.specs.Merged.{reads_at, writes_at}
use Rattle.cr_meaning.specs.Quiet.{is_noisy}
use Rattle.cr_meaning.specs.World.{Program}
use Rattle.cr_meaning_seen.specs.Seen.{Forest, bare, node as tree, onto}
use Rattle.cr_meaning_orders.specs.Fixed.{IsFixedNode}
use Rattle.cr_meaning_loose.specs.Sums.{is_noisy_op, is_loud_at, reads_cell, writes_cell, is_loud, is_read, is_written, do_meet}
use Rattle.cr_meaning_loose.specs.Lists.{operands_at, count_of}
use Rattle.cr_meaning_loose.specs.Levels.{Level}
use Rattle.cr_meaning_loose.proofs.Summing.{some_onto}
use Rattle.cr_meaning_loose.proofs.Adding.{bare_fixed, behind_fixed, was_fixed, more_fixed, both_loud_are_loose, met_are_loose}
use Rattle.cr_order_watch.specs.Known.{is_asked, IsSum, IsOpen}
use Rattle.cr_order_watch.specs.declared.opened.Open.{Open}

-- ---- a node that begins

pub begins : (p : Program) (kept : Open) (number : ℕ) (levels : List Level) → kept.node ≡ number → kept.operands ≡ operands_at p number → kept.ended ≡ 0 → kept.asked ≡ is_asked p levels
    → kept.fixed ≡ true → kept.loud ≡ false → sets kept.foot ≡ no_events → IsOpen p kept (record { number = number; done = bare }) levels
begins p kept number levels node operands none asked fixed quiet empty = record {
  node = node;
  operands = operands;
  ended = omega (arith, none);
  asked = asked;
  fixed = λ e. bare_fixed p kept.operands;
  loose = λ e. absurd (true≢false (sym fixed ∙ e));
  sums = λ e few. record {
    loud_so = quiet;
    reads = λ cell. ap (λ (s : Sets). s.reads cell) empty;
    writes = λ cell. ap (λ (s : Sets). s.writes cell) empty;
  };
}

-- ---- sums

-- an event that is a side effect writes or touches its cell
noisy_writes : (events : List Event) → list_any is_noisy events ≡ true → (cell : Cell) × (list_any (writes_at cell) events ≡ true)
noisy_writes [] e = absurd (false≢true e)
noisy_writes (event ∷ events) e = by (or_cases (is_noisy event) (list_any is_noisy events) e) (λ h. noisy_writes events h)
  where
    self : same_cell event.cell event.cell ≡ true
    self = grind (arith, nat_tests)

    by : (is_noisy event ≡ true) ⊎ (list_any is_noisy events ≡ true) → (list_any is_noisy events ≡ true → (cell : Cell) × (list_any (writes_at cell) events ≡ true)) → (cell : Cell) × (list_any (writes_at cell) (event ∷ events) ≡ true)
    by (inl h) more = (event.cell, or_left (writes_at event.cell event) (list_any (writes_at event.cell) events) (ap (λ b. b && same_cell event.cell event.cell) h ∙ self))
    by (inr h) more = let i = more h in (i.0, or_right (writes_at i.0 event) (list_any (writes_at i.0) events) i.1)

writes_noisy : (events : List Event) (cell : Cell) → list_any (writes_at cell) events ≡ true → list_any is_noisy events ≡ true
writes_noisy [] cell e = absurd (false≢true e)
writes_noisy (event ∷ events) cell e = by (or_cases (writes_at cell event) (list_any (writes_at cell) events) e) (λ h. writes_noisy events cell h)
  where
    first : (a b : Bool) → (a && b) ≡ true → a ≡ true
    first true b h = refl
    first false b h = absurd (false≢true h)

    by : (writes_at cell event ≡ true) ⊎ (list_any (writes_at cell) events ≡ true) → (list_any (writes_at cell) events ≡ true → list_any is_noisy events ≡ true) → list_any is_noisy (event ∷ events) ≡ true
    by (inl h) more = or_left (is_noisy event) (list_any is_noisy events) (first (is_side_effect event.deed) (same_cell cell event.cell) h)
    by (inr h) more = or_right (is_noisy event) (list_any is_noisy events) (more h)

-- none is written exactly where no event is a side effect
pub noisy_by : (own : Foot) (events : List Event) (written : List Cell) → IsFootOf own events → ((cell : Cell) → holds written cell ≡ (sets own).writes cell) → (empty : Bool)
    → (empty ≡ true → written ≡ []) → (written ≡ [] → empty ≡ true) → not empty ≡ list_any is_noisy events
noisy_by own events written foot same empty one two = by empty refl (cases_Bool (list_any is_noisy events))
  where
    at : (cell : Cell) → holds written cell ≡ list_any (writes_at cell) events
    at cell = same cell ∙ ap (λ (s : Sets). s.writes cell) foot.same

    first : (cells : List Cell) → (cells ≡ [] → ⊥) → (cell : Cell) × (holds cells cell ≡ true)
    first [] some = absurd (some refl)
    first (cell ∷ cells) some = (cell, or_left (same_cell cell cell) (holds cells cell) self)
      where
        self : same_cell cell cell ≡ true
        self = grind (arith, nat_tests)

    by : (b : Bool) → empty ≡ b → (list_any is_noisy events ≡ true) ⊎ (list_any is_noisy events ≡ false) → not b ≡ list_any is_noisy events
    by true e (inr h) = sym h
    by true e (inl h) =
        let i = noisy_writes events h in
        absurd (false≢true (ap (λ l. holds l i.0) (sym (one e)) ∙ at i.0 ∙ i.1))
    by false e (inl h) = sym h
    by false e (inr h) =
        let i = first written (λ none. true≢false (sym (two none) ∙ e)) in
        absurd (true≢false (sym (writes_noisy events i.0 (sym (at i.0) ∙ i.1)) ∙ h))

order : (a b c : Bool) → ((c || a) || b) ≡ ((a || b) || (c || false))
order true b true = refl
order true b false = refl
order false true true = refl
order false true false = refl
order false false true = refl
order false false false = refl

swap : (a b : Bool) → (a || b) ≡ (b || (a || false))
swap true true = refl
swap true false = refl
swap false true = refl
swap false false = refl

-- the node's own events and work, with what is within
pub sums_up : (p : Program) (top : Open) (level : Level) (below : List Level) (own all : Foot) (events : List Event) (noisy own_noisy loud : Bool) → IsOpen p top level below → top.fixed ≡ true → top.asked ≡ true
    → IsFootOf own events → noisy ≡ is_noisy_op (slice_get p.ops top.node) → own_noisy ≡ list_any is_noisy events → loud ≡ ((top.loud || noisy) || own_noisy)
    → ((cell : Cell) → (sets all).reads cell ≡ ((sets top.foot).reads cell || (sets own).reads cell))
    → ((cell : Cell) → (sets all).writes cell ≡ ((sets top.foot).writes cell || (sets own).writes cell))
    → IsSum p loud all (tree level.number level.done (Some events) bare)
sums_up p top level below own all events noisy own_noisy loud h fixed asked foot n o l reads writes =
    let sum = h.sums fixed (inl asked) in
    let F : ℕ → Type 0 = λ k. noisy ≡ is_noisy_op (slice_get p.ops k) in
    let work : noisy ≡ is_noisy_op (slice_get p.ops level.number) = subst F h.node n in
    record {
      loud_so = l ∙ ap (λ b. (b || noisy) || own_noisy) sum.loud_so ∙ ap (λ b. (is_loud p level.done || b) || own_noisy) work ∙ ap (λ b. (is_loud p level.done || is_noisy_op (slice_get p.ops level.number)) || b) o
          ∙ order (is_noisy_op (slice_get p.ops level.number)) (list_any is_noisy events) (is_loud p level.done);
      reads = λ cell. reads cell ∙ ap (λ b. b || (sets own).reads cell) (sum.reads cell) ∙ ap (λ b. is_read cell level.done || b) (ap (λ (s : Sets). s.reads cell) foot.same)
          ∙ swap (is_read cell level.done) (list_any (reads_at cell) events);
      writes = λ cell. writes cell ∙ ap (λ b. b || (sets own).writes cell) (sum.writes cell) ∙ ap (λ b. is_written cell level.done || b) (ap (λ (s : Sets). s.writes cell) foot.same)
          ∙ swap (is_written cell level.done) (list_any (writes_at cell) events);
    }

-- ---- one more evaluation

counts : (done : Forest) (number : ℕ) (inner : Forest) (events : List Event) → count_of (onto done (tree number inner (Some events) bare)) ≡ count_of done + 1
counts bare number inner events = refl
counts (tree m f end next) number inner events = let c = counts next number inner events in omega (arith, c)

module _ (p : Program) (kept new : Open) (level : Level) (levels : List Level) (number : ℕ) (inner : Forest) (events : List Event) where
  abbrev more : Forest
  more = tree number inner (Some events) bare

  abbrev after : Level
  after = record { number = level.number; done = onto level.done more }

  sum_both : (loud : Bool) (foot all : Foot) → IsSum p kept.loud kept.foot level.done → IsSum p loud foot more
      → ((cell : Cell) → (sets all).reads cell ≡ ((sets kept.foot).reads cell || (sets foot).reads cell))
      → ((cell : Cell) → (sets all).writes cell ≡ ((sets kept.foot).writes cell || (sets foot).writes cell))
      → IsSum p (kept.loud || loud) all after.done
  sum_both loud foot all one other reads writes = record {
    loud_so = ap (λ b. b || loud) one.loud_so ∙ ap (λ b. is_loud p level.done || b) other.loud_so ∙ sym (some_onto (is_loud_at p) level.done more);
    reads = λ cell. reads cell ∙ ap (λ b. b || (sets foot).reads cell) (one.reads cell) ∙ ap (λ b. is_read cell level.done || b) (other.reads cell) ∙ sym (some_onto (reads_cell cell) level.done more);
    writes = λ cell. writes cell ∙ ap (λ b. b || (sets foot).writes cell) (one.writes cell) ∙ ap (λ b. is_written cell level.done || b) (other.writes cell) ∙ sym (some_onto (writes_cell cell) level.done more);
  }

  -- what a node stays, whatever ends within it
  pub record Stays : Type 0 where
    pub node : new.node ≡ kept.node
    pub operands : new.operands ≡ kept.operands
    pub asked : new.asked ≡ kept.asked

  at_more : (h : IsOpen p kept level levels) → kept.ended < kept.operands → count_of level.done < kept.operands
  at_more h room = let e = h.ended in omega (arith, e, room)

  -- an operand that meets another, or comes behind such a one
  pub clashes : IsOpen p kept level levels → kept.ended < kept.operands → Stays → new.ended ≡ kept.ended + 1 → new.fixed ≡ false → (IsFixedNode p kept.operands after.done → ⊥) → IsOpen p new after levels
  clashes h room s ended loose not_so =
      let a = h.ended in let b = s.operands in let c = counts level.done number inner events in
      let F : ℕ → Type 0 = λ n. IsFixedNode p n after.done in
      record {
        node = s.node ∙ h.node;
        operands = s.operands ∙ h.operands;
        ended = omega (arith, a, b, c, ended, room);
        asked = s.asked ∙ h.asked;
        fixed = λ e. absurd (true≢false (sym e ∙ loose));
        loose = λ e f. not_so (subst F s.operands f);
        sums = λ e few. absurd (true≢false (sym e ∙ loose));
      }

  pub clashed_before : IsOpen p kept level levels → kept.fixed ≡ false → IsFixedNode p kept.operands after.done → ⊥
  clashed_before h loose f = h.loose loose (was_fixed p kept.operands level.done number inner (Some events) f)

  pub both_loud : (loud : Bool) (foot : Foot) → IsOpen p kept level levels → kept.fixed ≡ true → kept.ended < kept.operands → IsSum p loud foot more → kept.loud ≡ true → loud ≡ true → IsFixedNode p kept.operands after.done → ⊥
  both_loud loud foot h fixed room sum one other f =
      let e = at_more h room in
      let mine = h.sums fixed (inr (omega (arith, e))) in
      both_loud_are_loose p kept.operands level.done number inner events e (and_true (is_loud p level.done) (is_loud p more) (sym mine.loud_so ∙ one) (sym sum.loud_so ∙ other)) f
    where
      and_true : (a b : Bool) → a ≡ true → b ≡ true → (a && b) ≡ true
      and_true true b x y = y
      and_true false b x y = x

  -- where they meet by their footprints, and where not
  meets_so : (loud : Bool) (foot : Foot) (cell : Cell) → IsSum p kept.loud kept.foot level.done → IsSum p loud foot more → meets (sets kept.foot) (sets foot) cell ≡ do_meet level.done more cell
  meets_so loud foot cell one other =
      ap (λ b. (b && ((sets foot).reads cell || (sets foot).writes cell)) || ((sets foot).writes cell && ((sets kept.foot).reads cell || b))) (one.writes cell)
      ∙ ap (λ b. (is_written cell level.done && ((sets foot).reads cell || (sets foot).writes cell)) || ((sets foot).writes cell && (b || is_written cell level.done))) (one.reads cell)
      ∙ ap (λ b. (is_written cell level.done && ((sets foot).reads cell || b)) || (b && (is_read cell level.done || is_written cell level.done))) (other.writes cell)
      ∙ ap (λ b. (is_written cell level.done && (b || is_written cell more)) || (is_written cell more && (is_read cell level.done || is_written cell level.done))) (other.reads cell)

  pub met : (loud : Bool) (foot : Foot) (cell : Cell) → IsOpen p kept level levels → kept.fixed ≡ true → kept.ended < kept.operands → IsSum p loud foot more → IsLeast (meets (sets kept.foot) (sets foot)) cell
      → IsFixedNode p kept.operands after.done → ⊥
  met loud foot cell h fixed room sum least f =
      let e = at_more h room in
      let mine = h.sums fixed (inr (omega (arith, e))) in
      met_are_loose p kept.operands level.done number inner events cell e (sym (meets_so loud foot cell mine sum) ∙ least.inside) f

  pub joins : (loud : Bool) (foot : Foot) → IsOpen p kept level levels → kept.fixed ≡ true → kept.ended < kept.operands → IsSum p loud foot more → (kept.loud && loud) ≡ false
      → Stays → new.ended ≡ kept.ended + 1 → new.loud ≡ (kept.loud || loud) → sets new.foot ≡ union_of (sets kept.foot) (sets foot) → ((cell : Cell) → meets (sets kept.foot) (sets foot) cell ≡ false) → new.fixed ≡ true
      → IsOpen p new after levels
  joins loud foot h fixed room sum quiet s ended louder joined apart still =
      let e = at_more h room in
      let mine = h.sums fixed (inr (omega (arith, e))) in
      let a = h.ended in let b = s.operands in let c = counts level.done number inner events in
      let F : ℕ → Type 0 = λ n. IsFixedNode p n after.done in
      let G : Bool → Type 0 = λ l. IsSum p l new.foot after.done in
      record {
        node = s.node ∙ h.node;
        operands = s.operands ∙ h.operands;
        ended = omega (arith, a, b, c, ended, room);
        asked = s.asked ∙ h.asked;
        fixed = λ x. subst F (sym s.operands) (more_fixed p kept.operands level.done number inner events (sym (ap (λ l. l && is_loud p more) mine.loud_so) ∙ ap (λ l. kept.loud && l) (sym sum.loud_so) ∙ quiet)
            (λ cell. sym (meets_so loud foot cell mine sum) ∙ apart cell) e (h.fixed fixed));
        loose = λ x. absurd (true≢false (sym still ∙ x));
        sums = λ x few. subst G (sym louder) (sum_both loud foot new.foot mine sum (λ cell. ap (λ (z : Sets). z.reads cell) joined) (λ cell. ap (λ (z : Sets). z.writes cell) joined));
      }

  -- what comes behind the operands
  pub follows : (loud : Bool) (foot : Foot) → IsOpen p kept level levels → kept.operands ≤ kept.ended → IsSum p loud foot more
      → Stays → new.ended ≡ kept.ended → new.fixed ≡ kept.fixed → new.loud ≡ (kept.loud || loud) → sets new.foot ≡ then_of (sets kept.foot) (sets foot) → kept.asked ≡ true → IsOpen p new after levels
  follows loud foot h full sum s ended same louder joined asked =
      let a = h.ended in let b = s.operands in let c = counts level.done number inner events in
      let F : ℕ → Type 0 = λ n. IsFixedNode p n after.done in
      let F' : ℕ → Type 0 = λ n. IsFixedNode p n after.done → ⊥ in
      let G : Bool → Type 0 = λ l. IsSum p l new.foot after.done in
      record {
        node = s.node ∙ h.node;
        operands = s.operands ∙ h.operands;
        ended = omega (arith, a, b, c, ended, full);
        asked = s.asked ∙ h.asked;
        fixed = λ x. subst F (sym s.operands) (behind_fixed p kept.operands level.done number inner (Some events) (omega (arith, a, full)) (h.fixed (sym same ∙ x)));
        loose = λ x. subst F' (sym s.operands) (λ f. h.loose (sym same ∙ x) (was_fixed p kept.operands level.done number inner (Some events) f));
        sums = λ x few. subst G (sym louder) (sum_both loud foot new.foot (h.sums (sym same ∙ x) (inl asked)) sum (λ cell. ap (λ (z : Sets). z.reads cell) joined) (λ cell. ap (λ (z : Sets). z.writes cell) joined));
      }

  -- what isn't asked for
  pub passes : IsOpen p kept level levels → is_asked p (level ∷ levels) ≡ false → IsOpen p kept after levels
  passes h none =
      let parts = or_parts (is_asked p levels) (nat_lt (count_of level.done) (operands_at p level.number)) none in
      let full : kept.operands ≤ count_of level.done = full_by (nat_lt (count_of level.done) (operands_at p level.number)) refl parts.1 in
      let a = h.ended in let c = counts level.done number inner events in
      record {
        node = h.node;
        operands = h.operands;
        ended = omega (arith, a, c, full);
        asked = h.asked;
        fixed = λ x. behind_fixed p kept.operands level.done number inner (Some events) full (h.fixed x);
        loose = λ x f. h.loose x (was_fixed p kept.operands level.done number inner (Some events) f);
        sums = λ x few. absurd (never few parts.0 full c);
      }
    where
      full_by : (b : Bool) → b ≡ nat_lt (count_of level.done) (operands_at p level.number) → nat_lt (count_of level.done) (operands_at p level.number) ≡ false → kept.operands ≤ count_of level.done
      full_by b e off = let o = h.operands in let n = ltb-false (count_of level.done) (operands_at p level.number) off in omega (arith, o, n)

      never : (kept.asked ≡ true) ⊎ (count_of after.done ≤ kept.operands) → is_asked p levels ≡ false → kept.operands ≤ count_of level.done → count_of after.done ≡ count_of level.done + 1 → ⊥
      never (inl e) none full c = true≢false (sym e ∙ h.asked ∙ none)
      never (inr few) none full c = omega (arith, few, full, c)

-- what is evaluated behind the operands of a node is asked for where the node is
pub asked_still : (p : Program) (top below : Open) (level other : Level) (levels : List Level) → IsOpen p top level (other ∷ levels) → IsOpen p below other levels → top.asked ≡ true → below.operands ≤ below.ended → below.asked ≡ true
asked_still p top below level other levels h k asked full = by (or_cases (is_asked p levels) (nat_lt (count_of other.done) (operands_at p other.number)) (sym h.asked ∙ asked))
  where
    by : (is_asked p levels ≡ true) ⊎ (nat_lt (count_of other.done) (operands_at p other.number) ≡ true) → below.asked ≡ true
    by (inl e) = k.asked ∙ e
    by (inr e) = let n = ltb-true (count_of other.done) (operands_at p other.number) e in let o = k.operands in let a = k.ended in absurd (omega (arith, n, o, a, full))

-- whether there are side effects, by the list of cells
pub noisy_len : (own : Foot) (events : List Event) (written : List Cell) → IsFootOf own events → ((cell : Cell) → holds written cell ≡ (sets own).writes cell) → not (length written == 0) ≡ list_any is_noisy events
noisy_len own events written foot same = noisy_by own events written foot same (length written == 0) (λ e. none written (eqb-true (length written) 0 e)) (λ e. ap (λ (l : List Cell). length l == 0) e)
  where
    none : (cells : List Cell) → length cells ≡ 0 → cells ≡ []
    none [] e = refl
    none (cell ∷ cells) e = absurd (omega (arith, e))
