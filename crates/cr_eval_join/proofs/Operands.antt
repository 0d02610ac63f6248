-- The events of one operand, and of two: whether they conflict, and the cells of all of them.
use Rattle.std.proofs.Common.{◌≡◌, ◌≢◌, ℕ, Bool, true, false, ◌&&◌, ◌||◌, List, [], ◌∷◌, ◌++◌, inl, inr, refl, sym, ◌∙◌, ap, ap₂}
use Rattle.std.specs.List.{list_any}
use Rattle.std.proofs.lemmas.Bool.{and_parts, or_cases, or_left, or_right, false≢true, false_from_ne_true}
use Rattle.std.proofs.lemmas.List.{append-nil}
use Rattle.std.proofs.lemmas.List.Folds.{list_any-append}
use Rattle.cr_footprint.specs.Cell.{Cell, same_cell}
use Rattle.cr_footprint.specs.Foot.{Sets, sets, no_events, union_of, then_of, meets}
use Rattle.cr_footprint.specs.declared.foot.Foot.{Foot}
use Rattle.cr_meaning.specs.Events.{Event, Step, Deed, Order, Beside, Sequence, conflicts, clash, below, own, gathered, operands_clash}
use Rattle.cr_meaning.specs.Merged.{sets_of, conflicts_at, clash_at}
use Rattle.cr_meaning.proofs.Merging.{conflicts_are_meetings, sequenced_never_conflict, own_conflicts_are_open, conflict_has_cell, operands_beside_are_united, sequenced_operand_is_settled}
use Rattle.cr_eval_join.specs.Parts.{IsFootOf}
use Rattle.cr_eval_join.specs.Feet.{AreBelow}
use Rattle.cr_eval_join.proofs.Booleans.{or_false}

abbrev pub step : Order → ℕ → Step
step order operand = record { order = order; operand = operand }

-- ---- one operand

clash_none : (events : List Event) → clash events [] ≡ false
clash_none [] = refl
clash_none (e ∷ events) = clash_none events

pub one_never_clashes : (order : Order) (events : List Event) → operands_clash order 0 (events ∷ []) ≡ false
one_never_clashes order events = ap (λ (b : Bool). b || false) (clash_none (below (step order 0) events))

union_nothing : (f : Sets) → union_of f no_events ≡ f
union_nothing f = λ i. record {
  reads = λ c. or_false (f.reads c) i;
  writes = λ c. or_false (f.writes c) i;
  opens = λ c. or_false (f.opens c) i;
}

pub one_alone : (events : List Event) → sets_of (gathered Beside 0 (events ∷ [])) ≡ sets_of events
one_alone events = operands_beside_are_united events [] ∙ union_nothing (sets_of events)

-- ---- two operands

two_clash : (order : Order) (one other : List Event)
    → operands_clash order 0 (one ∷ (other ∷ [])) ≡ clash (below (step order 0) one) (below (step order 1) other)
two_clash order one other =
    ap (λ (b : Bool). clash (below (step order 0) one) (below (step order 1) other ++ []) || (b || false)) (clash_none (below (step order 1) other))
    ∙ (or_false (clash (below (step order 0) one) (below (step order 1) other ++ []))
    ∙ ap (λ (events : List Event). clash (below (step order 0) one) events) (append-nil (below (step order 1) other)))

hits : (c : Cell) (e : Event) (others : List Event) → list_any (conflicts_at c e) others ≡ true → list_any (conflicts e) others ≡ true
hits c e [] h = h
hits c e (o ∷ others) h = elim (or_cases (conflicts_at c e o) (list_any (conflicts_at c e) others) h) as (λ _. list_any (conflicts e) (o ∷ others) ≡ true) [
  | inl here ↦ or_left (conflicts e o) (list_any (conflicts e) others) (and_parts (same_cell c e.cell) (conflicts e o) here).1
  | inr later ↦ or_right (conflicts e o) (list_any (conflicts e) others) (hits c e others later)
]

pub clash_on : (c : Cell) (events others : List Event) → clash_at events others c ≡ true → clash events others ≡ true
clash_on c [] others h = h
clash_on c (e ∷ events) others h = elim (or_cases (list_any (conflicts_at c e) others) (clash_at events others c) h) as (λ _. clash (e ∷ events) others ≡ true) [
  | inl here ↦ or_left (list_any (conflicts e) others) (clash events others) (hits c e others here)
  | inr later ↦ or_right (list_any (conflicts e) others) (clash events others) (clash_on c events others later)
]

pub no_clash : (events others : List Event) → ((c : Cell) → clash_at events others c ≡ false) → clash events others ≡ false
no_clash events others none =
    false_from_ne_true (clash events others)
    (λ h. false≢true (sym (none (conflict_has_cell events others h).0) ∙ (conflict_has_cell events others h).1))

-- two operands of which none is sequenced conflict where their footprints meet
on_cell : (order : Order) (one other : List Event) (f g : Sets) (c : Cell) → order ≢ Sequence → f ≡ sets_of one → g ≡ sets_of other
    → clash_at (below (step order 0) one) (below (step order 1) other) c ≡ meets f g c
on_cell order one other f g c h first second =
    conflicts_are_meetings order 0 1 one other c h refl ∙ ap₂ (λ (x : Sets). λ (y : Sets). meets x y c) (sym first) (sym second)

pub apart_never_clash : (order : Order) (one other : List Event) (f g : Sets) → order ≢ Sequence → f ≡ sets_of one → g ≡ sets_of other
    → ((c : Cell) → meets f g c ≡ false) → operands_clash order 0 (one ∷ (other ∷ [])) ≡ false
apart_never_clash order one other f g h first second none =
    two_clash order one other
    ∙ no_clash (below (step order 0) one) (below (step order 1) other) (λ c. on_cell order one other f g c h first second ∙ none c)

pub meeting_clash : (order : Order) (one other : List Event) (f g : Sets) → order ≢ Sequence → f ≡ sets_of one → g ≡ sets_of other
    → (c : Cell) → meets f g c ≡ true → operands_clash order 0 (one ∷ (other ∷ [])) ≡ true
meeting_clash order one other f g h first second c met =
    two_clash order one other
    ∙ clash_on c (below (step order 0) one) (below (step order 1) other) (on_cell order one other f g c h first second ∙ met)

pub two_united : (one other : List Event) (f g : Sets) (foot : Foot) → f ≡ sets_of one → g ≡ sets_of other → sets foot ≡ union_of f g
    → IsFootOf foot (gathered Beside 0 (one ∷ (other ∷ [])))
two_united one other f g foot first second e =
    record { same = e ∙ (ap₂ union_of first second ∙ sym (operands_beside_are_united one other)) }

-- a sequenced operand and the one behind it
pub sequence_never_clashes : (one other : List Event) → operands_clash Sequence 0 (one ∷ (other ∷ [])) ≡ false
sequence_never_clashes one other = two_clash Sequence one other ∙ sequenced_never_conflict 1 one other refl

pub two_in_sequence : (one other : List Event) (f g : Sets) (foot : Foot) → f ≡ sets_of one → g ≡ sets_of other → sets foot ≡ then_of f g
    → IsFootOf foot (gathered Sequence 0 (one ∷ (other ∷ [])))
two_in_sequence one other f g foot first second e =
    record { same = e ∙ (ap₂ then_of first second ∙ sym (sequenced_operand_is_settled one other)) }

-- ---- a node's own event conflicts with its operands' open writes

single : (deed : Deed) (c : Cell) (s : Step) (events : List Event) → list_any (conflicts (own deed c)) (below s events) ≡ (sets_of events).opens c
single deed c s events = sym (or_false (list_any (conflicts (own deed c)) (below s events))) ∙ own_conflicts_are_open deed c s events

pub nothing_below : AreBelow []
nothing_below = record { opens = λ deed c. refl }

pub one_below : (events : List Event) → AreBelow (gathered Beside 0 (events ∷ []))
one_below events = record {
  opens = λ deed c.
      ap (λ (all : List Event). list_any (conflicts (own deed c)) all) (append-nil (below (step Beside 0) events))
      ∙ (single deed c (step Beside 0) events ∙ ap (λ (f : Sets). f.opens c) (sym (one_alone events)));
}

pub two_below : (one other : List Event) → AreBelow (gathered Beside 0 (one ∷ (other ∷ [])))
two_below one other = record {
  opens = λ deed c.
      list_any-append (conflicts (own deed c)) (below (step Beside 0) one) (below (step Beside 1) other ++ [])
      ∙ (ap (λ (b : Bool). b || list_any (conflicts (own deed c)) (below (step Beside 1) other ++ [])) (single deed c (step Beside 0) one)
      ∙ (ap (λ (b : Bool). (sets_of one).opens c || b)
      (ap (λ (all : List Event). list_any (conflicts (own deed c)) all) (append-nil (below (step Beside 1) other)) ∙ single deed c (step Beside 1) other)
      ∙ ap (λ (f : Sets). f.opens c) (sym (operands_beside_are_united one other))));
}
