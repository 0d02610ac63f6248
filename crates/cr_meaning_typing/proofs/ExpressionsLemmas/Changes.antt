-- Compound assignments, `++` and `--`, by the types of their operands.
use Rattle.std.proofs.Common.{◌≡◌, ℕ, Bool, true, false, ◌&&◌, List, [], ◌∷◌, Option, Some, refl, sym, ap, subst, slice_index_or, if◌then◌else◌}
use Rattle.std.proofs.lemmas.Bool.{false≢true, and_parts}
use Rattle.cr_ints.specs.Conversions.{promote_of, common_of}
use Rattle.cr_ints.specs.declared.kind.IntKind.{IntKind}
use Rattle.cr_ints.specs.declared.kind.IntKind.TheVariants.{Int as IntegerKind}
use Rattle.cr_check_constants.specs.declared.constant.Constant.{Constant}
use Rattle.cr_check_constants.specs.declared.constant.Constant.TheVariants.{NotConstant}
use Rattle.cr_syntax.specs.declared.ctype.CType.TheVariants.{Int}
use Rattle.cr_typed.specs.declared.typed.Typed.{Typed}
use Rattle.cr_check_types.specs.Types.{Qualified, plain, pointer as to, array}
use Rattle.cr_check_operands.specs.Values.{Seen, Valued, number as a_number, address, whole, untyped, value_in, value_of_seen}
use Rattle.cr_check_operands.specs.Rules.{updated_by, updated_value, stepped_by}
use Rattle.cr_check_operands.specs.Places.{is_changeable, is_modifiable_seen, stored_value, updated, stepped}
use Rattle.cr_check_expressions.specs.Ruled.{given, is_typed}
use Rattle.cr_meaning.specs.World.{Program}
use Rattle.cr_meaning.specs.declared.op.Op.{Op}
use Rattle.cr_meaning.specs.declared.op.Form.TheVariants as form
use Rattle.cr_meaning.specs.declared.op.Operator.{Operator}
use Rattle.cr_meaning.specs.declared.op.Change.{Change}
use Rattle.cr_meaning.specs.declared.op.Change.TheVariants.{Arithmetic, Move}
use Rattle.cr_meaning.specs.declared.op.Work.TheVariants as work
use Rattle.cr_meaning_operations.specs.Shapes.{type_of_node, as_value, kind_in, as_element, is_volatile, form_by, form_of, number_of}
use Rattle.cr_meaning_operations.specs.Operations.{node_op, parts_at, change_of, common_kind, updated_integers, updated_shift, updated_sum, increment}
use Rattle.cr_meaning_soundness.specs.Sorts.{Sort, place}
use Rattle.cr_meaning_typing.specs.Typed.Good.{IsGood, value_sort, row_at}
use Rattle.cr_meaning_typing.specs.Typed.Columns.{AreColumns, IsValueAt, IsGoodAt}
use Rattle.cr_meaning_typing.specs.Expressions.Operators.{ChangesAreGood}
use Rattle.cr_meaning_typing.proofs.ExpressionsLemmas.Goods as more
use Rattle.cr_meaning_typing.proofs.ExpressionsLemmas.Types.{typeless, taken, of_type, seen_plain, value_as}

-- ---- what is changed is a place that may be

pub changes_right : (complete : Qualified → Bool) (fixed : ℕ → Bool) (moves : Bool) (left : Seen) (t : Qualified) → is_typed (given (updated complete fixed moves left (whole t))) ≡ false
changes_right complete fixed moves left t = by (is_modifiable_seen complete fixed left) (stored_value left)
  where
    by : (modifiable : Bool) (v : Valued) → is_typed (given (updated_value complete moves modifiable v (whole t))) ≡ false
    by true (a_number x) = refl
    by true (address u) = refl
    by true v = refl
    by false v = refl

modified : (modifiable : Bool) (v : Valued) (own : Seen) → own ≡ given (if modifiable then v else untyped) → is_typed own ≡ true → (modifiable ≡ true) × (own ≡ given v)
modified true v own e h = (refl, e)
modified false v own e h = typeless own _ e h refl

changeable : (complete : Qualified → Bool) (fixed : ℕ → Bool) (s : Seen) → is_modifiable_seen complete fixed s ≡ true → is_changeable fixed s.type ≡ true
changeable complete fixed s e = (and_parts (is_changeable fixed s.type) (complete s.type) (and_parts s.lvalue (is_changeable fixed s.type && complete s.type) e).1).0

-- ---- compound assignments

abbrev change_by : (Qualified → Qualified → Change) → Typed → ℕ → List ℕ → Qualified → Qualified → Op
change_by change t left ps x y = node_op ps (work.Update (change x y) (form_by t left x) (is_volatile x) false)

module _ (p : Program) (t : Typed) (sorts : ℕ → Option Sort) (sees : ℕ → Bool) (complete : Qualified → Bool) (fixed : ℕ → Bool) (a b row left right count : ℕ) where
  -- of integers
  integers_good : (kind : Qualified → Qualified → IntKind) (op : Operator) (x y : Qualified) (d : Constant) (own : Seen) → is_changeable fixed x ≡ true
      → own ≡ given (updated_by complete false (value_in x NotConstant) (value_in y d)) → is_typed own ≡ true → sorts a ≡ Some (place count) → sorts b ≡ Some (value_sort p right y)
      → IsGood p sorts sees (change_by (λ u v. Arithmetic op (kind u v)) t left (a ∷ b ∷ []) x y) (value_sort p row own.type)
  integers_good kind op (plain (Int l) u v) (plain (Int r) w z) d own ok e h sa sb =
      of_type p sorts sees _ row own _ (ap (λ (o : Seen). o.type) e) (more.updated p sorts sees a b count r (Arithmetic op (kind (plain (Int l) u v) (plain (Int r) w z))) (form.Number l) v false sa sb tt)
  integers_good kind op (to u v x) (plain (Int r) w z) d own ok e h sa sb = typeless own _ e h refl
  integers_good kind op (array n x) y d own ok e h sa sb = absurd (false≢true ok)
  integers_good kind op x y d own ok e h sa sb = typeless own _ e h refl

  -- and of pointers, which are moved
  moves_good : (op : Operator) (back : Bool) (x y : Qualified) (d : Constant) (own : Seen) → is_changeable fixed x ≡ true
      → own ≡ given (updated_by complete true (value_in x NotConstant) (value_in y d)) → is_typed own ≡ true → sorts a ≡ Some (place count) → sorts b ≡ Some (value_sort p right y)
      → IsGood p sorts sees (change_by (λ u v. change_of t op back (common_kind (as_value u) (as_value v)) (as_value u) (as_value v)) t left (a ∷ b ∷ []) x y) (value_sort p row own.type)
  moves_good op back (plain (Int l) u v) (plain (Int r) w z) d own ok e h sa sb =
      of_type p sorts sees _ row own _ (ap (λ (o : Seen). o.type) e) (more.updated p sorts sees a b count r (Arithmetic op (common_of l r)) (form.Number l) v false sa sb tt)
  moves_good op back (to u v x) (plain (Int r) w z) d own ok e h sa sb =
      of_type p sorts sees _ row own _ (taken (complete x) (address x) false own e h).1 (more.updated p sorts sees a b count r (Move back (as_element t x)) (form.Pointer (number_of t x)) v false sa sb tt)
  moves_good op back (array n x) y d own ok e h sa sb = absurd (false≢true ok)
  moves_good op back x y d own ok e h sa sb = typeless own _ e h refl

-- the left operand's row is that of its node
module _ (p : Program) (t : Typed) (sorts : ℕ → Option Sort) (sees : ℕ → Bool) (at : ℕ → Seen) (columns : AreColumns t at) (change : Qualified → Qualified → Change) (i a b : ℕ) where
  by_parts : parts_at t i ≡ a ∷ b ∷ [] → IsGood p sorts sees (change_by change t (row_at t a) (a ∷ b ∷ []) (at a).type (at b).type) (value_sort p (row_at t i) (at i).type)
      → IsGood p sorts sees (node_op (parts_at t i) (work.Update (change (type_of_node t (slice_index_or (parts_at t i) 0 0)) (type_of_node t (slice_index_or (parts_at t i) 1 0)))
      (form_of t (row_at t (slice_index_or (parts_at t i) 0 0))) (is_volatile (type_of_node t (slice_index_or (parts_at t i) 0 0))) false)) (value_sort p (row_at t i) (type_of_node t i))
  by_parts e g =
      subst (λ ps. IsGood p sorts sees (node_op ps (work.Update (change (type_of_node t (slice_index_or ps 0 0)) (type_of_node t (slice_index_or ps 1 0)))
      (form_of t (row_at t (slice_index_or ps 0 0))) (is_volatile (type_of_node t (slice_index_or ps 0 0))) false)) (value_sort p (row_at t i) (type_of_node t i))) (sym e)
      (subst (λ x. IsGood p sorts sees (change_by change t (row_at t a) (a ∷ b ∷ []) (type_of_node t a) (type_of_node t b)) (value_sort p (row_at t i) x)) (sym (columns.types i))
      (subst (λ x. IsGood p sorts sees (change_by change t (row_at t a) (a ∷ b ∷ []) x (type_of_node t b)) (value_sort p (row_at t i) (at i).type)) (sym (columns.types a))
      (subst (λ y. IsGood p sorts sees (change_by change t (row_at t a) (a ∷ b ∷ []) (at a).type y) (value_sort p (row_at t i) (at i).type)) (sym (columns.types b)) g)))

-- what the rule says of the types
pub record IsChanged (complete : Qualified → Bool) (fixed : ℕ → Bool) (moves : Bool) (x y own : Seen) : Type 0 where
  pub changeable : is_changeable fixed x.type ≡ true
  pub is : own ≡ given (updated_by complete moves (value_in x.type NotConstant) (value_in y.type y.constant))

is_changed : (complete : Qualified → Bool) (fixed : ℕ → Bool) (moves : Bool) (x y own : Seen) → own ≡ given (updated complete fixed moves x (value_of_seen y)) → is_typed own ≡ true
    → IsChanged complete fixed moves x y own
is_changed complete fixed moves x y own e h =
    let one = seen_plain (λ v. given (updated complete fixed moves x v)) (changes_right complete fixed moves x) y own e h in
    let both = modified (is_modifiable_seen complete fixed x) (updated_by complete moves (stored_value x) (value_in y.type y.constant)) own one h in
    record { changeable = changeable complete fixed x both.0; is = both.1 }

integers_update : (kind : Qualified → Qualified → IntKind) (op : Operator) → (p : Program) (t : Typed) (sorts : ℕ → Option Sort) (sees : ℕ → Bool) (at : ℕ → Seen) (complete : Qualified → Bool) (fixed : ℕ → Bool) → AreColumns t at
    → (i a b count : ℕ) → parts_at t i ≡ a ∷ b ∷ [] → at i ≡ given (updated complete fixed false (at a) (value_of_seen (at b))) → is_typed (at i) ≡ true
    → sorts a ≡ Some (place count) → IsValueAt p t sorts b
    → IsGood p sorts sees (node_op (parts_at t i) (work.Update (Arithmetic op (kind (type_of_node t (slice_index_or (parts_at t i) 0 0)) (type_of_node t (slice_index_or (parts_at t i) 1 0))))
    (form_of t (row_at t (slice_index_or (parts_at t i) 0 0))) (is_volatile (type_of_node t (slice_index_or (parts_at t i) 0 0))) false)) (value_sort p (row_at t i) (type_of_node t i))
integers_update kind op p t sorts sees at complete fixed columns i a b count e f h sa sb =
    let it = is_changed complete fixed false (at a) (at b) (at i) f h in
    by_parts p t sorts sees at columns (λ u v. Arithmetic op (kind u v)) i a b e
    (integers_good p t sorts sees complete fixed a b (row_at t i) (row_at t a) (row_at t b) count kind op (at a).type (at b).type (at b).constant (at i) it.changeable it.is h sa (value_as p t sorts at columns b sb))

pub integer_updates : (op : Operator) → ChangesAreGood false (λ t i. updated_integers t i op)
integer_updates op p t sorts sees at complete fixed columns i a b count e f h sa sb =
    integers_update (λ u v. common_kind (as_value u) (as_value v)) op p t sorts sees at complete fixed columns i a b count e f h sa sb

pub shift_updates : (op : Operator) → ChangesAreGood false (λ t i. updated_shift t i op)
shift_updates op p t sorts sees at complete fixed columns i a b count e f h sa sb =
    integers_update (λ u v. promote_of (kind_in (as_value u))) op p t sorts sees at complete fixed columns i a b count e f h sa sb

pub sum_updates : (op : Operator) (back : Bool) → ChangesAreGood true (λ t i. updated_sum t i op back)
sum_updates op back p t sorts sees at complete fixed columns i a b count e f h sa sb =
    let it = is_changed complete fixed true (at a) (at b) (at i) f h in
    by_parts p t sorts sees at columns (λ u v. change_of t op back (common_kind (as_value u) (as_value v)) (as_value u) (as_value v)) i a b e
    (moves_good p t sorts sees complete fixed a b (row_at t i) (row_at t a) (row_at t b) count op back (at a).type (at b).type (at b).constant (at i) it.changeable it.is h sa (value_as p t sorts at columns b sb))

-- ---- `++` and `--`

abbrev step_by : Operator → Bool → Bool → Typed → ℕ → List ℕ → Qualified → Op
step_by op back post t left ps x =
    node_op ps (work.Update (change_of t op back (common_of (kind_in (as_value x)) IntegerKind) (as_value x) (plain (Int IntegerKind) false false)) (form_by t left x) (is_volatile x) post)

step_good : (p : Program) (t : Typed) (sorts : ℕ → Option Sort) (sees : ℕ → Bool) (complete : Qualified → Bool) (fixed : ℕ → Bool) (a row left count : ℕ) (op : Operator) (back post : Bool)
    (x : Qualified) (own : Seen) → is_changeable fixed x ≡ true → own ≡ given (stepped_by complete (value_in x NotConstant)) → is_typed own ≡ true → sorts a ≡ Some (place count)
    → IsGood p sorts sees (step_by op back post t left (a ∷ []) x) (value_sort p row own.type)
step_good p t sorts sees complete fixed a row left count op back post (plain (Int l) u v) own ok e h sa =
    of_type p sorts sees _ row own _ (ap (λ (o : Seen). o.type) e) (more.stepped p sorts sees a count (Arithmetic op (common_of l IntegerKind)) (form.Number l) v post sa tt)
step_good p t sorts sees complete fixed a row left count op back post (to u v x) own ok e h sa =
    of_type p sorts sees _ row own _ (taken (complete x) (address x) false own e h).1 (more.stepped p sorts sees a count (Move back (as_element t x)) (form.Pointer (number_of t x)) v post sa tt)
step_good p t sorts sees complete fixed a row left count op back post (array n x) own ok e h sa = absurd (false≢true ok)
step_good p t sorts sees complete fixed a row left count op back post x own ok e h sa = typeless own _ e h refl

pub steps : (p : Program) (t : Typed) (sorts : ℕ → Option Sort) (sees : ℕ → Bool) (at : ℕ → Seen) (complete : Qualified → Bool) (fixed : ℕ → Bool) → AreColumns t at
    → (i a count : ℕ) (op : Operator) (back post : Bool) → parts_at t i ≡ a ∷ [] → at i ≡ given (stepped complete fixed (at a)) → is_typed (at i) ≡ true
    → sorts a ≡ Some (place count) → IsGoodAt p t sorts sees i (increment t i op back post)
steps p t sorts sees at complete fixed columns i a count op back post e f h sa =
    let both = modified (is_modifiable_seen complete fixed (at a)) (stepped_by complete (stored_value (at a))) (at i) f h in
    let good = step_good p t sorts sees complete fixed a (row_at t i) (row_at t a) count op back post (at a).type (at i) (changeable complete fixed (at a) both.0) both.1 h sa in
    subst (λ ps. IsGood p sorts sees (node_op ps (work.Update (change_of t op back (common_of (kind_in (as_value (type_of_node t (slice_index_or ps 0 0)))) IntegerKind) (as_value (type_of_node t (slice_index_or ps 0 0))) (plain (Int IntegerKind) false false))
    (form_of t (row_at t (slice_index_or ps 0 0))) (is_volatile (type_of_node t (slice_index_or ps 0 0))) post)) (value_sort p (row_at t i) (type_of_node t i))) (sym e)
    (subst (λ x. IsGood p sorts sees (step_by op back post t (row_at t a) (a ∷ []) (type_of_node t a)) (value_sort p (row_at t i) x)) (sym (columns.types i))
    (subst (λ x. IsGood p sorts sees (step_by op back post t (row_at t a) (a ∷ []) x) (value_sort p (row_at t i) (at i).type)) (sym (columns.types a)) good))
