-- Events as sets: conflicts in pairs are those of the merged sets.
use Rattle.std.proofs.Common.{◌≡◌, inl, inr, refl, sym, ◌∙◌, ap}
use Rattle.std.specs.Prelude.{◌≢◌, ℕ, ◌==◌, Bool, true, false, not, ◌&&◌, ◌||◌, List, [], ◌∷◌, ◌++◌, map, if◌then◌else◌}
use Rattle.std.specs.List.{list_any}
use Rattle.std.proofs.lemmas.List.Folds.{list_any-append}
use Rattle.std.proofs.lemmas.Bool.{and_parts, and_from, or_cases, or_parts, or_from, or_left, or_right, eqb-true, eq-eqb, false≢true}
use Rattle.cr_footprint.specs.Cell.{Cell, same_cell}
use Rattle.cr_footprint.specs.Foot.{meets}
use Rattle.cr_meaning.specs.Events.{Event, Step, Deed, Reads, Touches, Writes, Order, Beside, Sequence, Arguments, is_write, is_side_effect, is_sequenced, are_apart, are_ordered, conflicts, clash, moved_below, below, own}
use Rattle.cr_meaning.specs.Merged.{reads_at, writes_at, opens_at, sets_of, conflicts_at, clash_at}
use Rattle.cr_meaning.specs.Laws
use Rattle.cr_meaning.proofs.Booleans.{same_two, same_three, same_six}

-- ---- tests of lists

any_same : {X : Type 0} (p q : X → Bool) → ((x : X) → p x ≡ q x) → (xs : List X) → list_any p xs ≡ list_any q xs
any_same p q h [] = refl
any_same p q h (x ∷ xs) = ap {B = Bool} (λ a. a || list_any p xs) (h x) ∙ ap {B = Bool} (λ b. q x || b) (any_same p q h xs)

any_map : {X Y : Type 0} (p : Y → Bool) (f : X → Y) (xs : List X) → list_any p (map f xs) ≡ list_any (λ x. p (f x)) xs
any_map p f [] = refl
any_map p f (x ∷ xs) = ap {B = Bool} (λ b. p (f x) || b) (any_map p f xs)

any_false : {X : Type 0} (xs : List X) → list_any (λ x. false) xs ≡ false
any_false [] = refl
any_false (x ∷ xs) = any_false xs

-- ---- cells

cells_equal : (c d : Cell) → same_cell c d ≡ true → c ≡ d
cells_equal c d e = λ i. (eqb-true c.0 d.0 (and_parts (c.0 == d.0) (c.1 == d.1) e).0 i, eqb-true c.1 d.1 (and_parts (c.0 == d.0) (c.1 == d.1) e).1 i)

-- a cell that is one is the same as another exactly where that one is
same_cells : (c d e : Cell) → (same_cell c d && same_cell d e) ≡ (same_cell c d && same_cell c e)
same_cells c d e = elim (same_cell c d) as (λ b. same_cell c d ≡ b → (b && same_cell d e) ≡ (b && same_cell c e))
    [ true ↦ λ h. ap {B = Bool} (λ x. same_cell x e) (sym (cells_equal c d h)) | false ↦ λ h. refl ] refl

-- ---- conflicts of two operands

-- one event and a list
one_event : (c : Cell) (at side : Bool) (others : List Event)
    → list_any (λ f. at && ((side || is_side_effect f.deed) && same_cell c f.cell)) others
    ≡ (at && ((side && (list_any (reads_at c) others || list_any (writes_at c) others)) || list_any (writes_at c) others))
one_event c at side [] = same_two (λ a. λ s. false) (λ a. λ s. a && ((s && false) || false)) refl at side
one_event c at side (f ∷ others) =
    ap {B = Bool} (λ b. (at && ((side || is_side_effect f.deed) && same_cell c f.cell)) || b) (one_event c at side others)
    ∙ same_six
    (λ a. λ s. λ w. λ d. λ rs. λ ws. (a && ((s || w) && d)) || (a && ((s && (rs || ws)) || ws)))
    (λ a. λ s. λ w. λ d. λ rs. λ ws. a && ((s && (((not w && d) || rs) || ((w && d) || ws))) || ((w && d) || ws)))
    refl at side (is_side_effect f.deed) (same_cell c f.cell) (list_any (reads_at c) others) (list_any (writes_at c) others)

-- two lists
two_lists : (c : Cell) (events others : List Event)
    → list_any (λ e. list_any (λ f. same_cell c e.cell && ((is_side_effect e.deed || is_side_effect f.deed) && same_cell c f.cell)) others) events
    ≡ meets (sets_of events) (sets_of others) c
two_lists c [] others = same_two (λ r. λ w. false) (λ r. λ w. (false && (r || w)) || (w && (false || false))) refl (list_any (reads_at c) others) (list_any (writes_at c) others)
two_lists c (e ∷ events) others =
    ap {B = Bool} (λ b. b || list_any (λ e. list_any (λ f. same_cell c e.cell && ((is_side_effect e.deed || is_side_effect f.deed) && same_cell c f.cell)) others) events)
    (one_event c (same_cell c e.cell) (is_side_effect e.deed) others)
    ∙ (ap {B = Bool} (λ b. (same_cell c e.cell && ((is_side_effect e.deed && (list_any (reads_at c) others || list_any (writes_at c) others)) || list_any (writes_at c) others)) || b)
    (two_lists c events others)
    ∙ same_six
    (λ a. λ s. λ rs. λ ws. λ r. λ w. (a && ((s && (rs || ws)) || ws)) || ((w && (rs || ws)) || (ws && (r || w))))
    (λ a. λ s. λ rs. λ ws. λ r. λ w. (((s && a) || w) && (rs || ws)) || (ws && (((not s && a) || r) || ((s && a) || w))))
    refl (same_cell c e.cell) (is_side_effect e.deed) (list_any (reads_at c) others) (list_any (writes_at c) others) (list_any (reads_at c) events) (list_any (writes_at c) events))

-- operands that are not apart
pair_at : (c : Cell) (step step' : Step) (e f : Event) → (step.operand == step'.operand) ≡ false → are_apart step step' ≡ false
    → conflicts_at c (moved_below step e) (moved_below step' f) ≡ (same_cell c e.cell && ((is_side_effect e.deed || is_side_effect f.deed) && same_cell c f.cell))
pair_at c step step' e f different apart =
    ap {B = Bool} (λ b. same_cell c e.cell && ((same_cell e.cell f.cell && (is_side_effect e.deed || is_side_effect f.deed)) && not (if b then are_ordered e.path e.deed f.path f.deed else are_apart step step'))) different
    ∙ (ap {B = Bool} (λ b. same_cell c e.cell && ((same_cell e.cell f.cell && (is_side_effect e.deed || is_side_effect f.deed)) && not b)) apart
    ∙ (same_three (λ a. λ d. λ s. a && ((d && s) && true)) (λ a. λ d. λ s. (a && d) && s) refl (same_cell c e.cell) (same_cell e.cell f.cell) (is_side_effect e.deed || is_side_effect f.deed)
    ∙ (ap {B = Bool} (λ b. b && (is_side_effect e.deed || is_side_effect f.deed)) (same_cells c e.cell f.cell)
    ∙ same_three (λ a. λ d. λ s. (a && d) && s) (λ a. λ d. λ s. a && (s && d)) refl (same_cell c e.cell) (same_cell c f.cell) (is_side_effect e.deed || is_side_effect f.deed))))

not_apart : (order : Order) (i j : ℕ) → order ≢ Sequence → are_apart (record { order = order; operand = i }) (record { order = order; operand = j }) ≡ false
not_apart Beside i j h = refl
not_apart Sequence i j h = absurd (h refl)
not_apart Arguments i j h = refl

pub conflicts_are_meetings : Laws.ConflictsAreMeetings
conflicts_are_meetings order i j events others c h different =
    any_map _ _ events ∙ (any_same _ _ (λ e. any_map _ _ others ∙ any_same _ _ (λ f. pair_at c (record { order = order; operand = i }) (record { order = order; operand = j }) e f different (not_apart order i j h)) others) events
    ∙ two_lists c events others)

-- ---- conflicts that can't be

and_false : (b : Bool) → (b && false) ≡ false
and_false true = refl
and_false false = refl

never : (events others : List Event) (f g : Event → Event) → ((e o : Event) → conflicts (f e) (g o) ≡ false) → clash (map f events) (map g others) ≡ false
never events others f g h =
    any_map _ f events ∙ (any_same _ _ (λ e. any_map _ g others ∙ (any_same _ _ (λ o. h e o) others ∙ any_false others)) events ∙ any_false events)

pub sequenced_never_conflict : Laws.SequencedNeverConflict
sequenced_never_conflict j events others different = never events others (moved_below (record { order = Sequence; operand = 0 })) (moved_below (record { order = Sequence; operand = j }))
    (λ e. λ f. ap {B = Bool} (λ b. (same_cell e.cell f.cell && (is_side_effect e.deed || is_side_effect f.deed)) && not (if b then are_ordered e.path e.deed f.path f.deed else true)) different
    ∙ and_false (same_cell e.cell f.cell && (is_side_effect e.deed || is_side_effect f.deed)))

pair_reads : (e f : Event) → is_side_effect e.deed ≡ false → is_side_effect f.deed ≡ false → conflicts e f ≡ false
pair_reads e f h k =
    ap {B = Bool} (λ b. (same_cell e.cell f.cell && (b || is_side_effect f.deed)) && not (are_ordered e.path e.deed f.path f.deed)) h
    ∙ (ap {B = Bool} (λ b. (same_cell e.cell f.cell && b) && not (are_ordered e.path e.deed f.path f.deed)) k
    ∙ same_two (λ a. λ b. (a && false) && b) (λ a. λ b. false) refl (same_cell e.cell f.cell) (not (are_ordered e.path e.deed f.path f.deed)))

reads_beside : (e : Event) (others : List Event) → is_side_effect e.deed ≡ false → list_any (λ o. is_side_effect o.deed) others ≡ false → list_any (conflicts e) others ≡ false
reads_beside e [] h k = refl
reads_beside e (o ∷ others) h k = or_from _ _ (pair_reads e o h (or_parts _ _ k).0) (reads_beside e others h (or_parts _ _ k).1)

pub reads_never_conflict : Laws.ReadsNeverConflict
reads_never_conflict [] others h k = refl
reads_never_conflict (e ∷ events) others h k = or_from _ _ (reads_beside e others (or_parts _ _ h).0 k) (reads_never_conflict events others (or_parts _ _ h).1 k)

-- ---- a node's own events

pair_own : (deed other : Deed) (same sequenced : Bool)
    → ((same && (is_side_effect deed || is_side_effect other)) && not (not (is_write other) || sequenced)) ≡ ((is_write other && not sequenced) && same)
pair_own deed Reads same sequenced = same_three (λ s. λ d. λ q. (s && (d || false)) && not (true || q)) (λ s. λ d. λ q. (false && not q) && s) refl same (is_side_effect deed) sequenced
pair_own deed Touches same sequenced = same_three (λ s. λ d. λ q. (s && (d || true)) && not (true || q)) (λ s. λ d. λ q. (false && not q) && s) refl same (is_side_effect deed) sequenced
pair_own deed Writes same sequenced = same_three (λ s. λ d. λ q. (s && (d || true)) && not (false || q)) (λ s. λ d. λ q. (true && not q) && s) refl same (is_side_effect deed) sequenced

or_false : (b : Bool) → (b || false) ≡ b
or_false true = refl
or_false false = refl

pub own_conflicts_are_open : Laws.OwnConflictsAreOpen
own_conflicts_are_open deed c step events =
    or_false _ ∙ (any_map (conflicts (own deed c)) (moved_below step) events
    ∙ any_same _ _ (λ e. pair_own deed e.deed (same_cell c e.cell) (list_any is_sequenced e.path)) events)

-- ---- the cell of a conflict

same_itself : (c : Cell) → same_cell c c ≡ true
same_itself c = and_from (c.0 == c.0) (c.1 == c.1) (eq-eqb c.0 c.0 refl) (eq-eqb c.1 c.1 refl)

pub conflict_has_cell : Laws.ConflictHasCell
conflict_has_cell [] others h = absurd (false≢true h)
conflict_has_cell (e ∷ events) others h = elim (or_cases (list_any (conflicts e) others) (clash events others) h) as (λ _. (c : Cell) × (clash_at (e ∷ events) others c ≡ true)) [
  | inl here ↦ (e.cell, or_left _ _ (any_same _ _ (λ f. ap {B = Bool} (λ b. b && conflicts e f) (same_itself e.cell)) others ∙ here))
  | inr later ↦ ((conflict_has_cell events others later).0, or_right _ _ (conflict_has_cell events others later).1)
]

-- ---- the sets of a node

pub nothing_has_no_sets : Laws.NothingHasNoSets
nothing_has_no_sets = refl

added : (s r : Bool) → ((true && s) || r) ≡ (r || s)
added = same_two (λ s. λ r. (true && s) || r) (λ s. λ r. r || s) refl

pub own_read_is_added : Laws.OwnReadIsAdded
own_read_is_added c events = λ i. record {
  reads = λ d. added (same_cell d c) (list_any (reads_at d) events) i;
  writes = λ d. list_any (writes_at d) events;
  opens = λ d. list_any (opens_at d) events;
}

pub own_touch_is_added : Laws.OwnTouchIsAdded
own_touch_is_added c events = λ i. record {
  reads = λ d. list_any (reads_at d) events;
  writes = λ d. added (same_cell d c) (list_any (writes_at d) events) i;
  opens = λ d. list_any (opens_at d) events;
}

pub own_write_is_added : Laws.OwnWriteIsAdded
own_write_is_added c events = λ i. record {
  reads = λ d. list_any (reads_at d) events;
  writes = λ d. added (same_cell d c) (list_any (writes_at d) events) i;
  opens = λ d. added (same_cell d c) (list_any (opens_at d) events) i;
}

-- a test of the events of two operands
two_parts : (p : Event → Bool) (s t : Step) (events others : List Event)
    → list_any p (below s events ++ (below t others ++ [])) ≡ (list_any (λ e. p (moved_below s e)) events || list_any (λ e. p (moved_below t e)) others)
two_parts p s t events others =
    list_any-append p (below s events) (below t others ++ [])
    ∙ (ap {B = Bool} (λ b. b || list_any p (below t others ++ [])) (any_map p (moved_below s) events)
    ∙ ap {B = Bool} (λ b. list_any (λ e. p (moved_below s e)) events || b) (list_any-append p (below t others) [] ∙ (or_false _ ∙ any_map p (moved_below t) others)))

abbrev step_of : Order → ℕ → Step
step_of order operand = record { order = order; operand = operand }

pub operands_beside_are_united : Laws.OperandsBesideAreUnited
operands_beside_are_united events others = λ i. record {
  reads = λ d. two_parts (reads_at d) (step_of Beside 0) (step_of Beside 1) events others i;
  writes = λ d. two_parts (writes_at d) (step_of Beside 0) (step_of Beside 1) events others i;
  opens = λ d. two_parts (opens_at d) (step_of Beside 0) (step_of Beside 1) events others i;
}

-- no write of a sequenced operand is open
closed_by : (d : Cell) (s : Step) (events : List Event) → is_sequenced s ≡ true → list_any (λ e. opens_at d (moved_below s e)) events ≡ false
closed_by d s events h = any_same _ _ (λ e. ap {B = Bool} (λ b. (is_write e.deed && not (b || list_any is_sequenced e.path)) && same_cell d e.cell) h
    ∙ same_two (λ w. λ m. (w && false) && m) (λ w. λ m. false) refl (is_write e.deed) (same_cell d e.cell)) events ∙ any_false events

pub sequenced_operand_is_settled : Laws.SequencedOperandIsSettled
sequenced_operand_is_settled events others = λ i. record {
  reads = λ d. two_parts (reads_at d) (step_of Sequence 0) (step_of Sequence 1) events others i;
  writes = λ d. two_parts (writes_at d) (step_of Sequence 0) (step_of Sequence 1) events others i;
  opens = λ d. (two_parts (opens_at d) (step_of Sequence 0) (step_of Sequence 1) events others
      ∙ ap {B = Bool} (λ b. b || list_any (opens_at d) others) (closed_by d (step_of Sequence 0) events refl)) i;
}

pub argument_is_settled : Laws.ArgumentIsSettled
argument_is_settled n events = λ i. record {
  reads = λ d. (any_map (reads_at d) (moved_below (step_of Arguments n)) events ∙ sym (or_false _)) i;
  writes = λ d. (any_map (writes_at d) (moved_below (step_of Arguments n)) events ∙ sym (or_false _)) i;
  opens = λ d. (any_map (opens_at d) (moved_below (step_of Arguments n)) events ∙ closed_by d (step_of Arguments n) events refl) i;
}
