-- What is told of the labels of a name.
use Rattle.std.proofs.Common.{◌≡◌, ap, arith, refl, subst, sym, ◌∙◌}
use Rattle.std.specs.Prelude.{ℕ, ◌+◌, ◌<◌, ◌≤◌, ◌&&◌, nat_lt, eqb, get_or, Bool, true, false, List, [], ◌∷◌, Option, Some, None, length, slice_get}
use Rattle.std.specs.List.{position_or_len}
use Rattle.std.proofs.lemmas.Bool.{and_from, and_parts, eqb-false, eqb-true, false≢true, ltb-false, ltb-true}
use Rattle.std.proofs.lemmas.List.{get_or_past}
use Rattle.std.proofs.lemmas.List.Sums.{position_or_len_is}
use Rattle.std.proofs.lemmas.Option.{slice_get-get_or, slice_get_within}
use Rattle.cr_syntax.specs.declared.node.Node.{Node}
use Rattle.cr_typed.specs.declared.typed.Typed.{Typed}
use Rattle.cr_meaning.specs.World.{Program}
use Rattle.cr_meaning.specs.Meaning.{start_of}
use Rattle.cr_meaning.specs.declared.run.Limits.{Limits}
use Rattle.cr_meaning.specs.declared.run.Run.{Run}
use Rattle.cr_meaning_operations.specs.Operations.{program_of}
use Rattle.cr_meaning_orders.specs.AnyOrder.{whole_of}
use Rattle.cr_meaning_seen.specs.Seen.{Forest}
use Rattle.cr_meaning_seen.proofs.Single.{sights_are_one}
use Rattle.cr_reached.specs.Evaluated.{IsEvaluated, IsRunMarked}
use Rattle.cr_reached.specs.Own.{AreWhole, IsWhole, is_set}
use Rattle.cr_reached.specs.Reached.{IsLabel, IsReachedIn, TellsReached, first_label, is_named, is_named_if}

-- a label is a node of the unit
pub label_within : (t : Typed) (name : List ℕ) (label : ℕ) → IsLabel t name label → label < length t.nodes
label_within t name label is = by (slice_get t.nodes label) refl is
  where
    by : (found : Option Node) → slice_get t.nodes label ≡ found → is_named_if t name found ≡ true → label < length t.nodes
    by None e named = absurd (false≢true named)
    by (Some node) e named = slice_get_within t.nodes label node e

-- ---- the first label

-- at a place of the unit a node is named where it passes the test
named_there : (t : Typed) (name : List ℕ) (place : ℕ) (d : Node) → place < length t.nodes → is_named_if t name (slice_get t.nodes place) ≡ is_named t name (get_or t.nodes place d)
named_there t name place d low = ap (is_named_if t name) (slice_get-get_or t.nodes place d low)

first_by : (t : Typed) (name : List ℕ) (nodes : List Node) (place : ℕ) → nodes ≡ t.nodes → place ≤ length t.nodes
    → ((k : ℕ) → k < place → is_named_if t name (slice_get t.nodes k) ≡ false) → (place < length t.nodes → is_named_if t name (slice_get t.nodes place) ≡ true)
    → place ≡ position_or_len (is_named t name) nodes
first_by t name [] place same few before here = let none = ap length same in omega (arith, few, none)
first_by t name (node ∷ nodes) place same few before here =
    sym (position_or_len_is (is_named t name) (node ∷ nodes) place node (subst (λ l. place ≤ length l) (sym same) few)
    (λ k low. subst (λ l. is_named t name (get_or l k node) ≡ false) (sym same) (sym (named_there t name k node (omega (arith, low, few))) ∙ before k low))
    (λ low. subst (λ l. is_named t name (get_or l place node) ≡ true) (sym same) (by (subst (λ l. place < length l) same low))))
  where
    by : place < length t.nodes → is_named t name (get_or t.nodes place node) ≡ true
    by low = sym (named_there t name place node low) ∙ here low

-- no label stands before a place
abbrev pub NoneBefore : Typed → List ℕ → ℕ → Type 0
NoneBefore t name place = (k : ℕ) → k < place → is_named_if t name (slice_get t.nodes k) ≡ false

pub none_more : (t : Typed) (name : List ℕ) (place : ℕ) → NoneBefore t name place → is_named_if t name (slice_get t.nodes place) ≡ false → NoneBefore t name (place + 1)
none_more t name place before here k low = by (eqb k place) refl
  where
    by : (b : Bool) → eqb k place ≡ b → is_named_if t name (slice_get t.nodes k) ≡ false
    by true e = subst (λ n. is_named_if t name (slice_get t.nodes n) ≡ false) (sym (eqb-true k place e)) here
    by false e = let other = eqb-false k place e in before k (omega (arith, low, other))

pub first_is : (t : Typed) (name : List ℕ) (place : ℕ) → place < length t.nodes → NoneBefore t name place → is_named_if t name (slice_get t.nodes place) ≡ true → place ≡ first_label t name
first_is t name place low before here = first_by t name t.nodes place refl (omega (arith, low)) before (λ _. here)

pub first_none : (t : Typed) (name : List ℕ) → NoneBefore t name (length t.nodes) → length t.nodes ≡ first_label t name
first_none t name before = first_by t name t.nodes (length t.nodes) refl (omega arith) before (λ low. absurd (omega (arith, low)))

-- ---- labels that are marked

-- what is marked is in the column
pub set_within : (column : List Bool) (node : ℕ) → is_set column node ≡ true → node < length column
set_within column node set = by (nat_lt node (length column)) refl
  where
    by : (t : Bool) → nat_lt node (length column) ≡ t → node < length column
    by true e = ltb-true node (length column) e
    by false e = absurd (false≢true (sym (get_or_past column node false (ltb-false node (length column) e)) ∙ set))

-- no label before a place is marked
abbrev pub NoneSetBefore : Typed → List ℕ → List Bool → ℕ → Type 0
NoneSetBefore t name column place = (label : ℕ) → label < place → IsLabel t name label → is_set column label ≡ true → ⊥

pub none_set_more : (t : Typed) (name : List ℕ) (column : List Bool) (place : ℕ) → NoneSetBefore t name column place
    → (is_set column place && is_named_if t name (slice_get t.nodes place)) ≡ false → NoneSetBefore t name column (place + 1)
none_set_more t name column place before here label low named set = by (eqb label place) refl
  where
    by : (b : Bool) → eqb label place ≡ b → ⊥
    by true e =
        let both = and_from (is_set column label) (is_named_if t name (slice_get t.nodes label)) set named in
        false≢true (sym here ∙ subst (λ n. (is_set column n && is_named_if t name (slice_get t.nodes n)) ≡ true) (eqb-true label place e) both)
    by false e = let other = eqb-false label place e in before label (omega (arith, low, other)) named set

pub none_set : (t : Typed) (name : List ℕ) (column : List Bool) (place : ℕ) → length column ≤ place → NoneSetBefore t name column place
    → (label : ℕ) → IsLabel t name label → is_set column label ≡ true → ⊥
none_set t name column place all before label named set = let low = set_within column label set in before label (omega (arith, low, all)) named set

pub one_set : (t : Typed) (name : List ℕ) (column : List Bool) (place : ℕ) → (is_set column place && is_named_if t name (slice_get t.nodes place)) ≡ true
    → (label : ℕ) × IsLabel t name label × (is_set column label ≡ true)
one_set t name column place here = let both = and_parts (is_set column place) (is_named_if t name (slice_get t.nodes place)) here in (place, both.1, both.0)

-- ---- labels that are evaluated whole

-- so a column of all operations says of each label whether it is whole
module _ (t : Typed) (name : List ℕ) (p : Program) (began whole : List Bool) (column : AreWhole p began whole) (enough : length t.nodes ≤ length whole) where
  bound : (label : ℕ) → IsLabel t name label → label < length whole
  bound label is = let few = label_within t name label is in omega (arith, few, enough)

  pub to_whole : (label : ℕ) → IsLabel t name label → is_set whole label ≡ true → IsWhole p began label
  to_whole label is set = (column label (bound label is)).0 set

  pub from_whole : (label : ℕ) → IsLabel t name label → IsWhole p began label → is_set whole label ≡ true
  from_whole label is it = (column label (bound label is)).1 it

-- one that is marked whole is evaluated whole, and where none is, none is
pub tells_by : (limits : Limits) (name : List ℕ) (typed : Typed) (outcome : Run) (began : List Bool) (found : Bool) → IsRunMarked (program_of typed limits) outcome began
    → (found ≡ true → (label : ℕ) × IsLabel typed name label × IsWhole (program_of typed limits) began label)
    → (found ≡ false → (label : ℕ) → IsLabel typed name label → IsWhole (program_of typed limits) began label → ⊥) → TellsReached limits name typed found
tells_by limits name typed outcome began found run some none = record { yes = yes; no = no }
  where
    yes : found ≡ true → IsReachedIn limits name typed
    yes e = let it = some e in record {
      label = it.0;
      named = it.1;
      reply = run.reply;
      forest = run.forest;
      seen = run.seen;
      whole = λ own is. (run.marked own).0 (it.2 own is);
    }

    no : found ≡ false → IsReachedIn limits name typed → ⊥
    no e it =
        let p = program_of typed limits in
        let same = (sights_are_one p (whole_of p) (start_of p.limits) it.reply run.reply it.forest run.forest it.seen run.seen).1 in
        none e it.label it.named (λ own is. (run.marked own).1 (subst (λ (f : Forest). IsEvaluated f own) same (it.whole own is)))
