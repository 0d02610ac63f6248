-- Operators of two operands and of one, by the types of these.
use Rattle.std.proofs.Common.{◌≡◌, ℕ, Bool, true, false, ◌&&◌, ◌||◌, List, [], ◌∷◌, Option, None, Some, refl, ap, ◌∙◌, slice_index_or, if◌then◌else◌}
use Rattle.cr_ints.specs.Conversions.{promote_of, common_of}
use Rattle.cr_ints.specs.declared.kind.IntKind.TheVariants.{Int as IntegerKind, Long as LongKind}
use Rattle.cr_check_constants.specs.Constants.{promoted_kind, common_kind as common_constant}
use Rattle.cr_check_constants.specs.declared.constant.Constant.{Constant}
use Rattle.cr_check_constants.specs.declared.constant.Constant.TheVariants.{NotConstant}
use Rattle.cr_check_constants.specs.declared.operator.Shift.{Shift}
use Rattle.cr_check_constants.specs.declared.operator.Relation.{Relation as Compared}
use Rattle.cr_check_operands.specs.declared.logic.Junction.{Junction}
use Rattle.cr_check_operands.specs.declared.logic.Junction.TheVariants.{Conjunction, Disjunction}
use Rattle.cr_syntax.specs.declared.ctype.CType.TheVariants.{Int, Void}
use Rattle.cr_typed.specs.declared.typed.Typed.{Typed}
use Rattle.cr_check_types.specs.Types.{Qualified, plain, pointer as to, array}
use Rattle.cr_check_operands.specs.Values.{Seen, Valued, number as a_number, address, whole, untyped, type_of_value, value_in, value_of_seen, value_beside_places, seen_of}
use Rattle.cr_check_operands.specs.Rules.{shifted_value, difference_value, order_value, equality_value, logical_by, logical_value, scalar_constant, negated_by, negated_value, an_int, are_alike, are_related, is_zero, is_bool, keeps_volatile, target_of, cast_by, is_null_cast_of}
use Rattle.cr_check_expressions.specs.Ruled.{given, is_typed, is_type, converted}
use Rattle.cr_meaning.specs.World.{Program}
use Rattle.cr_meaning.specs.declared.op.Op.{Op}
use Rattle.cr_meaning.specs.declared.op.Form.TheVariants as form
use Rattle.cr_meaning.specs.declared.op.Operator.{Operator}
use Rattle.cr_meaning.specs.declared.op.Operator.TheVariants as operator
use Rattle.cr_meaning.specs.declared.op.Relation.{Relation}
use Rattle.cr_meaning.specs.declared.op.Change.TheVariants.{Arithmetic as Arithmetical}
use Rattle.cr_meaning.specs.declared.op.Work.TheVariants as work
use Rattle.cr_meaning_operations.specs.Shapes.{type_of_node, named_type, as_value, kind_in, as_element, pointed_element, is_pointer, form_by, form_of, number_of}
use Rattle.cr_meaning_operations.specs.Operations.{node_op, parts_at, part_at, change_of, common_kind, shift, difference, comparison}
use Rattle.cr_meaning_soundness.specs.Sorts.{Sort, number, pointer}
use Rattle.cr_meaning_soundness.specs.Operands.{IsScalar}
use Rattle.cr_meaning_typing.specs.Typed.Good.{IsGood, value_sort, row_at}
use Rattle.cr_meaning_typing.specs.Typed.Columns.{AreColumns, IsValueAt, IsGoodAt}
use Rattle.cr_meaning_typing.proofs.TypedLemmas.Goods as good
use Rattle.cr_meaning_typing.specs.Expressions.Used.{used_sort, IsUsedAt}
use Rattle.cr_meaning_typing.specs.Expressions.Operators.{TwoAreGood}
use Rattle.cr_meaning_typing.proofs.ExpressionsLemmas.Goods as more
use Rattle.cr_meaning_typing.proofs.ExpressionsLemmas.Types.{typeless, taken, of_type, seen_plain, by_one, by_two, value_as}

-- ---- rules that take no array that is no place

pub record RefusesBoth (rule : Valued → Valued → Valued) : Type 0 where
  pub left : (t : Qualified) (v : Valued) → rule (whole t) v ≡ untyped
  pub right : (v : Valued) (t : Qualified) → rule v (whole t) ≡ untyped

shifts_right : (operator : Shift) (v : Valued) (t : Qualified) → shifted_value operator v (whole t) ≡ untyped
shifts_right operator (a_number x) t = refl
shifts_right operator v t = refl

pub shifts_refuse : (operator : Shift) → RefusesBoth (shifted_value operator)
shifts_refuse operator = record { left = λ t v. refl; right = shifts_right operator }

differences_right : (complete : Qualified → Bool) (v : Valued) (t : Qualified) → difference_value complete v (whole t) ≡ untyped
differences_right complete (a_number x) t = refl
differences_right complete (address u) t = refl
differences_right complete v t = refl

pub differences_refuse : (complete : Qualified → Bool) → RefusesBoth (difference_value complete)
differences_refuse complete = record { left = λ t v. refl; right = differences_right complete }

orders_right : (operator : Compared) (v : Valued) (t : Qualified) → order_value operator v (whole t) ≡ untyped
orders_right operator (a_number x) t = refl
orders_right operator (address u) t = refl
orders_right operator v t = refl

pub orders_refuse : (operator : Compared) → RefusesBoth (order_value operator)
orders_refuse operator = record { left = λ t v. refl; right = orders_right operator }

equalities_right : (operator : Compared) (v : Valued) (t : Qualified) → equality_value operator v (whole t) ≡ untyped
equalities_right operator (a_number x) t = refl
equalities_right operator (address u) t = refl
equalities_right operator v t = refl

pub equalities_refuse : (operator : Compared) → RefusesBoth (equality_value operator)
equalities_refuse operator = record { left = λ t v. refl; right = equalities_right operator }

junctions_right : (operator : Junction) (v : Valued) (t : Qualified) → logical_value operator v (whole t) ≡ untyped
junctions_right operator (a_number x) t = refl
junctions_right operator (address u) t = refl
junctions_right operator v t = refl

pub junctions_refuse : (operator : Junction) → RefusesBoth (logical_value operator)
junctions_refuse operator = record { left = λ t v. refl; right = junctions_right operator }

-- ---- it is enough to go by the types

abbrev pub ByTypes : (Valued → Valued → Valued) → (Typed → List ℕ → Qualified → Qualified → Op) → Type 0
ByTypes rule make = (p : Program) (t : Typed) (sorts : ℕ → Option Sort) (sees : ℕ → Bool) (a b row left right : ℕ) (x y : Qualified) (c d : Constant) (own : Seen)
    → own ≡ given (rule (value_in x c) (value_in y d)) → is_typed own ≡ true → sorts a ≡ Some (value_sort p left x) → sorts b ≡ Some (value_sort p right y)
    → IsGood p sorts sees (make t (a ∷ b ∷ []) x y) (value_sort p row own.type)

abbrev made_of : (Typed → List ℕ → Qualified → Qualified → Op) → Typed → ℕ → Op
made_of make t i = make t (parts_at t i) (type_of_node t (slice_index_or (parts_at t i) 0 0)) (type_of_node t (slice_index_or (parts_at t i) 1 0))

pub of_two : (rule : Valued → Valued → Valued) (make : Typed → List ℕ → Qualified → Qualified → Op) → RefusesBoth rule → ByTypes rule make → TwoAreGood rule (made_of make)
of_two rule make refuses each p t sorts sees at columns i a b e f h sa sb =
    let one = seen_plain (λ v. given (rule v (value_of_seen (at b)))) (λ u. ap (λ v. is_type (type_of_value v)) (refuses.left u (value_of_seen (at b)))) (at a) (at i) f h in
    let two = seen_plain (λ v. given (rule (value_in (at a).type (at a).constant) v)) (λ u. ap (λ v. is_type (type_of_value v)) (refuses.right (value_in (at a).type (at a).constant) u)) (at b) (at i) one h in
    by_two p t sorts sees at columns (value_sort p) (make t) i a b e
    (each p t sorts sees a b (row_at t i) (row_at t a) (row_at t b) (at a).type (at b).type (at a).constant (at b).constant (at i) two h
    (value_as p t sorts at columns a sa) (value_as p t sorts at columns b sb))

-- ---- shifts

abbrev shift_by : Operator → Typed → List ℕ → Qualified → Qualified → Op
shift_by op t ps x y = node_op ps (work.Binary (Arithmetical op (promote_of (kind_in (as_value x)))))

shift_good : (operator : Shift) (op : Operator) → ByTypes (shifted_value operator) (shift_by op)
unfolding promoted_kind
shift_good operator op p t sorts sees a b row left right (plain (Int l) u v) (plain (Int r) w z) c d own e h sa sb =
    of_type p sorts sees _ row own (plain (Int (promote_of l)) false false) (ap (λ (o : Seen). o.type) e) (good.integers p sorts sees a b l r (promote_of l) op sa sb)
shift_good operator op p t sorts sees a b row left right (plain (Int l) u v) y c d own e h sa sb = typeless own _ e h refl
shift_good operator op p t sorts sees a b row left right x y c d own e h sa sb = typeless own _ e h refl

pub shifts : (operator : Shift) (op : Operator) → TwoAreGood (shifted_value operator) (λ t i. shift t i op)
shifts operator op = of_two (shifted_value operator) (shift_by op) (shifts_refuse operator) (shift_good operator op)

-- ---- differences

abbrev difference_by : Typed → List ℕ → Qualified → Qualified → Op
difference_by t ps x y =
    if is_pointer (as_value x) && is_pointer (as_value y)
    then node_op ps (work.Distance (pointed_element t (as_value x)))
    else node_op ps (work.Binary (change_of t operator.Subtract true (common_kind (as_value x) (as_value y)) (as_value x) (as_value y)))

abbrev a_long : Valued
a_long = a_number (record { kind = LongKind; constant = NotConstant })

difference_good : (complete : Qualified → Bool) → ByTypes (difference_value complete) difference_by
unfolding common_constant
difference_good complete p t sorts sees a b row left right (plain (Int l) u v) (plain (Int r) w z) c d own e h sa sb =
    of_type p sorts sees _ row own (plain (Int (common_of l r)) false false) (ap (λ (o : Seen). o.type) e) (good.integers p sorts sees a b l r (common_of l r) operator.Subtract sa sb)
difference_good complete p t sorts sees a b row left right (to u v x) (plain (Int r) w z) c d own e h sa sb =
    of_type p sorts sees _ row own (to false false x) (taken (complete x) (address x) false own e h).1 (good.moved p sorts sees a b r true (as_element t x) sa sb)
difference_good complete p t sorts sees a b row left right (array n x) (plain (Int r) w z) c d own e h sa sb =
    of_type p sorts sees _ row own (to false false x) (taken (complete x) (address x) false own e h).1 (good.moved p sorts sees a b r true (as_element t x) sa sb)
difference_good complete p t sorts sees a b row left right (to u v x) (to w z y) c d own e h sa sb =
    of_type p sorts sees _ row own _ (taken (complete x && (complete y && are_alike x y)) a_long false own e h).1 (more.distance p sorts sees a b (as_element t x) sa sb)
difference_good complete p t sorts sees a b row left right (to u v x) (array m y) c d own e h sa sb =
    of_type p sorts sees _ row own _ (taken (complete x && (complete y && are_alike x y)) a_long false own e h).1 (more.distance p sorts sees a b (as_element t x) sa sb)
difference_good complete p t sorts sees a b row left right (array n x) (to w z y) c d own e h sa sb =
    of_type p sorts sees _ row own _ (taken (complete x && (complete y && are_alike x y)) a_long false own e h).1 (more.distance p sorts sees a b (as_element t x) sa sb)
difference_good complete p t sorts sees a b row left right (array n x) (array m y) c d own e h sa sb =
    of_type p sorts sees _ row own _ (taken (complete x && (complete y && are_alike x y)) a_long false own e h).1 (more.distance p sorts sees a b (as_element t x) sa sb)
difference_good complete p t sorts sees a b row left right x y c d own e h sa sb = typeless own _ e h refl

pub differences : (complete : Qualified → Bool) → TwoAreGood (difference_value complete) difference
differences complete = of_two (difference_value complete) difference_by (differences_refuse complete) (difference_good complete)

-- ---- comparisons

abbrev comparison_by : Relation → Typed → List ℕ → Qualified → Qualified → Op
comparison_by relation t ps x y =
    if is_pointer (as_value x) || is_pointer (as_value y) then node_op ps (work.ComparePointers relation) else node_op ps (work.Compare relation (common_kind (as_value x) (as_value y)))

order_good : (operator : Compared) (relation : Relation) → ByTypes (order_value operator) (comparison_by relation)
unfolding common_constant
order_good operator relation p t sorts sees a b row left right (plain (Int l) u v) (plain (Int r) w z) c d own e h sa sb =
    of_type p sorts sees _ row own (plain (Int IntegerKind) false false) (ap (λ (o : Seen). o.type) e) (good.compared p sorts sees a b l r (common_of l r) relation sa sb)
order_good operator relation p t sorts sees a b row left right (to u v x) (to w z y) c d own e h sa sb =
    of_type p sorts sees _ row own _ (taken (are_alike x y) an_int false own e h).1 (good.pointers_compared p sorts sees a b pointer pointer relation sa sb tt tt)
order_good operator relation p t sorts sees a b row left right (to u v x) (array m y) c d own e h sa sb =
    of_type p sorts sees _ row own _ (taken (are_alike x y) an_int false own e h).1 (good.pointers_compared p sorts sees a b pointer pointer relation sa sb tt tt)
order_good operator relation p t sorts sees a b row left right (array n x) (to w z y) c d own e h sa sb =
    of_type p sorts sees _ row own _ (taken (are_alike x y) an_int false own e h).1 (good.pointers_compared p sorts sees a b pointer pointer relation sa sb tt tt)
order_good operator relation p t sorts sees a b row left right (array n x) (array m y) c d own e h sa sb =
    of_type p sorts sees _ row own _ (taken (are_alike x y) an_int false own e h).1 (good.pointers_compared p sorts sees a b pointer pointer relation sa sb tt tt)
order_good operator relation p t sorts sees a b row left right (to u v x) (plain (Int r) w z) c d own e h sa sb = typeless own _ e h refl
order_good operator relation p t sorts sees a b row left right (array n x) (plain (Int r) w z) c d own e h sa sb = typeless own _ e h refl
order_good operator relation p t sorts sees a b row left right x y c d own e h sa sb = typeless own _ e h refl

pub orders : (operator : Compared) (relation : Relation) → TwoAreGood (order_value operator) (λ t i. comparison t i relation)
orders operator relation = of_two (order_value operator) (comparison_by relation) (orders_refuse operator) (order_good operator relation)

equality_good : (operator : Compared) (relation : Relation) → ByTypes (equality_value operator) (comparison_by relation)
unfolding common_constant
equality_good operator relation p t sorts sees a b row left right (plain (Int l) u v) (plain (Int r) w z) c d own e h sa sb =
    of_type p sorts sees _ row own (plain (Int IntegerKind) false false) (ap (λ (o : Seen). o.type) e) (good.compared p sorts sees a b l r (common_of l r) relation sa sb)
equality_good operator relation p t sorts sees a b row left right (to u v x) (to w z y) c d own e h sa sb =
    of_type p sorts sees _ row own _ (taken (are_related x y) an_int false own e h).1 (good.pointers_compared p sorts sees a b pointer pointer relation sa sb tt tt)
equality_good operator relation p t sorts sees a b row left right (to u v x) (array m y) c d own e h sa sb =
    of_type p sorts sees _ row own _ (taken (are_related x y) an_int false own e h).1 (good.pointers_compared p sorts sees a b pointer pointer relation sa sb tt tt)
equality_good operator relation p t sorts sees a b row left right (array n x) (to w z y) c d own e h sa sb =
    of_type p sorts sees _ row own _ (taken (are_related x y) an_int false own e h).1 (good.pointers_compared p sorts sees a b pointer pointer relation sa sb tt tt)
equality_good operator relation p t sorts sees a b row left right (array n x) (array m y) c d own e h sa sb =
    of_type p sorts sees _ row own _ (taken (are_related x y) an_int false own e h).1 (good.pointers_compared p sorts sees a b pointer pointer relation sa sb tt tt)
equality_good operator relation p t sorts sees a b row left right (to u v x) (plain (Int r) w z) c d own e h sa sb =
    of_type p sorts sees _ row own _ (taken (is_zero d) an_int false own e h).1 (good.pointers_compared p sorts sees a b pointer (number r) relation sa sb tt tt)
equality_good operator relation p t sorts sees a b row left right (array n x) (plain (Int r) w z) c d own e h sa sb =
    of_type p sorts sees _ row own _ (taken (is_zero d) an_int false own e h).1 (good.pointers_compared p sorts sees a b pointer (number r) relation sa sb tt tt)
equality_good operator relation p t sorts sees a b row left right (plain (Int l) u v) (to w z y) c d own e h sa sb =
    of_type p sorts sees _ row own _ (taken (is_zero c) an_int false own e h).1 (good.pointers_compared p sorts sees a b (number l) pointer relation sa sb tt tt)
equality_good operator relation p t sorts sees a b row left right (plain (Int l) u v) (array m y) c d own e h sa sb =
    of_type p sorts sees _ row own _ (taken (is_zero c) an_int false own e h).1 (good.pointers_compared p sorts sees a b (number l) pointer relation sa sb tt tt)
equality_good operator relation p t sorts sees a b row left right x y c d own e h sa sb = typeless own _ e h refl

pub equalities : (operator : Compared) (relation : Relation) → TwoAreGood (equality_value operator) (λ t i. comparison t i relation)
equalities operator relation = of_two (equality_value operator) (comparison_by relation) (equalities_refuse operator) (equality_good operator relation)

-- ---- scalars

-- a value that is one has such a sort
pub scalar_sort : (p : Program) (row : ℕ) (type : Qualified) (c k : Constant) → scalar_constant (value_in type c) ≡ Some k → IsScalar (value_sort p row type)
scalar_sort p row (plain (Int kind) u v) c k e = tt
scalar_sort p row (to u v x) c k e = tt
scalar_sort p row (array n x) c k e = tt
scalar_sort p row other c k e = absurd (cc e)

-- also where it may be such an array
pub scalar_used : (p : Program) (l : Bool) (row : ℕ) (type : Qualified) (c k : Constant) → scalar_constant (if l then value_in type c else value_beside_places type c) ≡ Some k
    → IsScalar (used_sort p l row type)
scalar_used p true row type c k e = scalar_sort p row type c k e
scalar_used p false row (plain of u v) c k e = scalar_sort p row (plain of u v) c k e
scalar_used p false row (to u v x) c k e = tt
scalar_used p false row (array n x) c k e = absurd (cc e)

-- ---- logical operators

pub record AreScalars (l r : Option Constant) (own : Seen) : Type 0 where
  pub first : Constant
  pub second : Constant
  pub left : l ≡ Some first
  pub right : r ≡ Some second
  pub type : own.type ≡ plain (Int IntegerKind) false false

both_scalars : (operator : Junction) (l r : Option Constant) (own : Seen) → own ≡ given (logical_by operator l r) → is_typed own ≡ true → AreScalars l r own
both_scalars operator (Some x) (Some y) own e h = record { first = x; second = y; left = refl; right = refl; type = ap (λ (o : Seen). o.type) e }
both_scalars operator (Some x) None own e h = typeless own _ e h refl
both_scalars operator None r own e h = typeless own _ e h refl

conjunction_good : ByTypes (logical_value Conjunction) (λ t ps x y. node_op ps work.LogicalAnd)
conjunction_good p t sorts sees a b row left right x y c d own e h sa sb =
    let both = both_scalars Conjunction (scalar_constant (value_in x c)) (scalar_constant (value_in y d)) own e h in
    of_type p sorts sees _ row own _ both.type
    (more.conjunction p sorts sees a b (value_sort p left x) (value_sort p right y) sa sb (scalar_sort p left x c both.first both.left) (scalar_sort p right y d both.second both.right))

disjunction_good : ByTypes (logical_value Disjunction) (λ t ps x y. node_op ps work.LogicalOr)
disjunction_good p t sorts sees a b row left right x y c d own e h sa sb =
    let both = both_scalars Disjunction (scalar_constant (value_in x c)) (scalar_constant (value_in y d)) own e h in
    of_type p sorts sees _ row own _ both.type
    (more.disjunction p sorts sees a b (value_sort p left x) (value_sort p right y) sa sb (scalar_sort p left x c both.first both.left) (scalar_sort p right y d both.second both.right))

pub conjunctions : TwoAreGood (logical_value Conjunction) (λ t i. node_op (parts_at t i) work.LogicalAnd)
conjunctions = of_two (logical_value Conjunction) (λ t ps x y. node_op ps work.LogicalAnd) (junctions_refuse Conjunction) conjunction_good

pub disjunctions : TwoAreGood (logical_value Disjunction) (λ t i. node_op (parts_at t i) work.LogicalOr)
disjunctions = of_two (logical_value Disjunction) (λ t ps x y. node_op ps work.LogicalOr) (junctions_refuse Disjunction) disjunction_good

-- ---- `!`

negated_typed : (l : Option Constant) (own : Seen) → own ≡ given (negated_by l) → is_typed own ≡ true → (k : Constant) × ((l ≡ Some k) × (own.type ≡ plain (Int IntegerKind) false false))
negated_typed (Some k) own e h = (k, (refl, ap (λ (o : Seen). o.type) e))
negated_typed None own e h = typeless own _ e h refl

pub negations : (p : Program) (t : Typed) (sorts : ℕ → Option Sort) (sees : ℕ → Bool) (at : ℕ → Seen) → AreColumns t at → (i a : ℕ)
    → parts_at t i ≡ a ∷ [] → at i ≡ given (negated_value (value_of_seen (at a))) → is_typed (at i) ≡ true
    → IsValueAt p t sorts a → IsGoodAt p t sorts sees i (node_op (parts_at t i) work.Not)
negations p t sorts sees at columns i a e f h sa =
    let one = seen_plain (λ v. given (negated_value v)) (λ u. refl) (at a) (at i) f h in
    let it = negated_typed (scalar_constant (value_in (at a).type (at a).constant)) (at i) one h in
    by_one p t sorts sees at columns (value_sort p) (λ ps x. node_op ps work.Not) i a e
    (of_type p sorts sees _ (row_at t i) (at i) _ it.1.1
    (good.negated p sorts sees a (value_sort p (row_at t a) (at a).type) (value_as p t sorts at columns a sa) (scalar_sort p (row_at t a) (at a).type (at a).constant it.0 it.1.0)))

-- ---- casts

cast_good : (p : Program) (t : Typed) (sorts : ℕ → Option Sort) (sees : ℕ → Bool) (b row named : ℕ) (type : Qualified) (v : Valued) (sb : Sort) (null : Bool) (own : Seen)
    → own ≡ seen_of (cast_by (target_of type) v) null → is_typed own ≡ true → sorts b ≡ Some sb → ((k : Constant) → scalar_constant v ≡ Some k → IsScalar sb)
    → IsGood p sorts sees (node_op (b ∷ []) (work.Cast (form_by t named type))) (value_sort p row own.type)
cast_good p t sorts sees b row named (plain (Int kind) c w) (a_number y) sb null own e h g s =
    of_type p sorts sees _ row own _ (ap (λ (o : Seen). o.type) e) (more.cast p sorts sees b sb (form.Number kind) g tt (s y.constant refl))
cast_good p t sorts sees b row named (plain (Int kind) c w) (address u) sb null own e h g s =
    of_type p sorts sees _ row own _ (taken (is_bool kind) (a_number (record { kind = kind; constant = NotConstant })) null own e h).1 (more.cast p sorts sees b sb (form.Number kind) g tt (s NotConstant refl))
cast_good p t sorts sees b row named (to c w x) (a_number y) sb null own e h g s =
    of_type p sorts sees _ row own _ (taken (is_zero y.constant) (address x) null own e h).1 (more.cast p sorts sees b sb (form.Pointer (number_of t x)) g tt (s y.constant refl))
cast_good p t sorts sees b row named (to c w x) (address u) sb null own e h g s =
    of_type p sorts sees _ row own _ (taken (keeps_volatile x u) (address x) null own e h).1 (more.cast p sorts sees b sb (form.Pointer (number_of t x)) g tt (s NotConstant refl))
cast_good p t sorts sees b row named (plain Void c w) untyped sb null own e h g s = typeless own _ e h refl
cast_good p t sorts sees b row named (plain Void c w) v sb null own e h g s =
    of_type p sorts sees _ row own (plain Void false false) (ap (λ (o : Seen). o.type) e) (more.cast p sorts sees b sb form.Void g tt tt)
cast_good p t sorts sees b row named type v sb null own e h g s = typeless own _ e h refl

pub casts : (p : Program) (t : Typed) (sorts : ℕ → Option Sort) (sees : ℕ → Bool) (at : ℕ → Seen) → AreColumns t at → (i name a : ℕ)
    → parts_at t i ≡ name ∷ a ∷ [] → at i ≡ converted (named_type t i) (value_of_seen (at a)) → is_typed (at i) ≡ true
    → IsUsedAt p t sorts at a → IsGoodAt p t sorts sees i (node_op (part_at t i 1 ∷ []) (work.Cast (form_of t (slice_index_or t.named i 0))))
casts p t sorts sees at columns i name a e f h sa =
    let sort = used_sort p (at a).lvalue (row_at t a) (at a).type in
    let used : sorts a ≡ Some sort = sa ∙ ap (λ x. Some (used_sort p (at a).lvalue (row_at t a) x)) (columns.types a) in
    by_two p t sorts sees at columns (value_sort p) (λ ps x y. node_op (slice_index_or ps 1 0 ∷ []) (work.Cast (form_of t (slice_index_or t.named i 0)))) i name a e
    (cast_good p t sorts sees a (row_at t i) (slice_index_or t.named i 0) (named_type t i) (value_of_seen (at a)) sort
    (is_null_cast_of (named_type t i) (value_of_seen (at a))) (at i) f h used (λ k g. scalar_used p (at a).lvalue (row_at t a) (at a).type (at a).constant k g))
