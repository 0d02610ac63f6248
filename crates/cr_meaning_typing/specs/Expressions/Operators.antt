-- Operators, from types: where the constraint of a node gives it a type, its operation is good. In the order of C11 6.5.
use Rattle.std.specs.Prelude.{◌≡◌, ℕ, Bool, true, false, Option, Some, [], ◌∷◌, slice_index_or}
use Rattle.cr_check_constants.specs.declared.operator.Shift.{Shift}
use Rattle.cr_check_constants.specs.declared.operator.Relation.{Relation as Compared}
use Rattle.cr_check_operands.specs.declared.logic.Junction.TheVariants.{Conjunction, Disjunction}
use Rattle.cr_typed.specs.declared.typed.Typed.{Typed}
use Rattle.cr_check_types.specs.Types.{Qualified}
use Rattle.cr_check_operands.specs.Values.{Seen, Valued, value_of_seen}
use Rattle.cr_check_operands.specs.Rules.{shifted_value, difference_value, order_value, equality_value, logical_value, negated_value, conditional_value, comma_value}
use Rattle.cr_check_operands.specs.Places.{updated, stepped}
use Rattle.cr_check_expressions.specs.Ruled.{given, is_typed, converted}
use Rattle.cr_meaning.specs.World.{Program}
use Rattle.cr_meaning.specs.declared.op.Op.{Op}
use Rattle.cr_meaning.specs.declared.op.Operator.{Operator}
use Rattle.cr_meaning.specs.declared.op.Relation.{Relation}
use Rattle.cr_meaning.specs.declared.op.Work.TheVariants as work
use Rattle.cr_meaning.specs.declared.run.Limits.{Limits}
use Rattle.cr_meaning_soundness.specs.Sorts.{Sort, place}
use Rattle.cr_meaning_operations.specs.Shapes.{type_of_node, named_type, form_of}
use Rattle.cr_meaning_operations.specs.Operations.{node_op, parts_at, part_at, shift, difference, comparison, updated_integers, updated_shift, updated_sum, increment, program_of}
use Rattle.cr_meaning_typing.specs.Typed.Good.{IsGood, row_at}
use Rattle.cr_meaning_typing.specs.Typed.Columns.{AreColumns, IsValueAt, IsGoodAt}
use Rattle.cr_meaning_typing.specs.Expressions.Used.{beside_sort, IsUsedAt}

-- ---- two operands that are used as values

abbrev pub TwoAreGood : (Valued → Valued → Valued) → (Typed → ℕ → Op) → Type 0
TwoAreGood rule op = (p : Program) (t : Typed) (sorts : ℕ → Option Sort) (sees : ℕ → Bool) (at : ℕ → Seen) → AreColumns t at → (i a b : ℕ)
    → parts_at t i ≡ a ∷ b ∷ [] → at i ≡ given (rule (value_of_seen (at a)) (value_of_seen (at b))) → is_typed (at i) ≡ true
    → IsValueAt p t sorts a → IsValueAt p t sorts b → IsGoodAt p t sorts sees i (op t i)

-- K31
abbrev pub ShiftsAreGood : Type 0
ShiftsAreGood = (operator : Shift) (op : Operator) → TwoAreGood (shifted_value operator) (λ t i. shift t i op)

-- K30
abbrev pub DifferencesAreGood : Type 0
DifferencesAreGood = (complete : Qualified → Bool) → TwoAreGood (difference_value complete) difference

-- K32
abbrev pub OrdersAreGood : Type 0
OrdersAreGood = (operator : Compared) (relation : Relation) → TwoAreGood (order_value operator) (λ t i. comparison t i relation)

-- K33
abbrev pub EqualitiesAreGood : Type 0
EqualitiesAreGood = (operator : Compared) (relation : Relation) → TwoAreGood (equality_value operator) (λ t i. comparison t i relation)

-- K35
abbrev pub JunctionsAreGood : Type 0
JunctionsAreGood =
    TwoAreGood (logical_value Conjunction) (λ t i. node_op (parts_at t i) work.LogicalAnd)
    × TwoAreGood (logical_value Disjunction) (λ t i. node_op (parts_at t i) work.LogicalOr)

-- ---- one operand: `!` (K25), and casts (K27), of which the operand of one to void may be anything

abbrev pub NegationsAreGood : Type 0
NegationsAreGood = (p : Program) (t : Typed) (sorts : ℕ → Option Sort) (sees : ℕ → Bool) (at : ℕ → Seen) → AreColumns t at → (i a : ℕ)
    → parts_at t i ≡ a ∷ [] → at i ≡ given (negated_value (value_of_seen (at a))) → is_typed (at i) ≡ true
    → IsValueAt p t sorts a → IsGoodAt p t sorts sees i (node_op (parts_at t i) work.Not)

abbrev pub CastsAreGood : Type 0
CastsAreGood = (p : Program) (t : Typed) (sorts : ℕ → Option Sort) (sees : ℕ → Bool) (at : ℕ → Seen) → AreColumns t at → (i name a : ℕ)
    → parts_at t i ≡ name ∷ a ∷ [] → at i ≡ converted (named_type t i) (value_of_seen (at a)) → is_typed (at i) ≡ true
    → IsUsedAt p t sorts at a → IsGoodAt p t sorts sees i (node_op (part_at t i 1 ∷ []) (work.Cast (form_of t (slice_index_or t.named i 0))))

-- ---- `?:` (K36) and comma, whose value is that of the right operand, whatever it is

abbrev pub ConditionalsAreGood : Type 0
ConditionalsAreGood = (t : Typed) (limits : Limits) (sorts : ℕ → Option Sort) (sees : ℕ → Bool) (at : ℕ → Seen) → AreColumns t at → (i a b c : ℕ) (l r : Bool)
    → parts_at t i ≡ a ∷ b ∷ c ∷ [] → at i ≡ given (conditional_value (value_of_seen (at a)) l r (value_of_seen (at b)) (value_of_seen (at c))) → is_typed (at i) ≡ true
    → IsValueAt (program_of t limits) t sorts a → IsValueAt (program_of t limits) t sorts b → IsValueAt (program_of t limits) t sorts c
    → IsGoodAt (program_of t limits) t sorts sees i (node_op (parts_at t i) (work.Conditional (form_of t (row_at t i))))

abbrev pub CommasAreGood : Type 0
CommasAreGood = (t : Typed) (limits : Limits) (sorts : ℕ → Option Sort) (sees : ℕ → Bool) (at : ℕ → Seen) → AreColumns t at → (i a b : ℕ) (sa : Sort)
    → parts_at t i ≡ a ∷ b ∷ [] → at i ≡ given (comma_value (value_of_seen (at a)) (value_of_seen (at b))) → is_typed (at i) ≡ true
    → sorts a ≡ Some sa → IsUsedAt (program_of t limits) t sorts at b
    → IsGood (program_of t limits) sorts sees (node_op (parts_at t i) work.Comma) (beside_sort (program_of t limits) (row_at t i) (type_of_node t i))

-- ---- what is changed in its place: compound assignments (K37), and `++` and `--` (K22)

abbrev pub ChangesAreGood : Bool → (Typed → ℕ → Op) → Type 0
ChangesAreGood moves op = (p : Program) (t : Typed) (sorts : ℕ → Option Sort) (sees : ℕ → Bool) (at : ℕ → Seen) (complete : Qualified → Bool) (fixed : ℕ → Bool) → AreColumns t at
    → (i a b count : ℕ) → parts_at t i ≡ a ∷ b ∷ [] → at i ≡ given (updated complete fixed moves (at a) (value_of_seen (at b))) → is_typed (at i) ≡ true
    → sorts a ≡ Some (place count) → IsValueAt p t sorts b → IsGoodAt p t sorts sees i (op t i)

abbrev pub UpdatesAreGood : Type 0
UpdatesAreGood = (op : Operator) (back : Bool)
    → (ChangesAreGood false (λ t i. updated_integers t i op) × ChangesAreGood false (λ t i. updated_shift t i op)) × ChangesAreGood true (λ t i. updated_sum t i op back)

abbrev pub StepsAreGood : Type 0
StepsAreGood = (p : Program) (t : Typed) (sorts : ℕ → Option Sort) (sees : ℕ → Bool) (at : ℕ → Seen) (complete : Qualified → Bool) (fixed : ℕ → Bool) → AreColumns t at
    → (i a count : ℕ) (op : Operator) (back post : Bool) → parts_at t i ≡ a ∷ [] → at i ≡ given (stepped complete fixed (at a)) → is_typed (at i) ≡ true
    → sorts a ≡ Some (place count) → IsGoodAt p t sorts sees i (increment t i op back post)
