-- The operations of expressions, by the types of their operands.
use Rattle.std.proofs.Common.{◌≡◌, ℕ, Bool, true, false, List, [], ◌∷◌, Option, Some, ◌⊎◌, inl, inr, refl, sym, ap, subst, ◌∙◌, slice_index_or, if◌then◌else◌}
use Rattle.std.proofs.lemmas.Bool.{false≢true}
use Rattle.cr_ints.specs.Conversions.{common_of}
use Rattle.cr_check_constants.specs.Constants.{common_kind as common_constant}
use Rattle.cr_check_constants.specs.declared.constant.Constant.{Constant}
use Rattle.cr_check_constants.specs.declared.operator.Arithmetic.{Arithmetic}
use Rattle.cr_syntax.specs.declared.ctype.CType.TheVariants.{Int}
use Rattle.cr_check_types.specs.Types.{Qualified, plain, pointer as to, array}
use Rattle.cr_typed.specs.declared.typed.Typed.{Typed}
use Rattle.cr_check_operands.specs.Values.{Seen, Valued, number as a_number, address, whole, untyped, value_in, value_beside_places, value_of_seen}
use Rattle.cr_check_operands.specs.Rules.{integers_value, sum_value}
use Rattle.cr_check_expressions.specs.Known.{Source}
use Rattle.cr_check_expressions.specs.Ruled.{given, is_typed, is_type, complete}
use Rattle.cr_meaning.specs.World.{Program}
use Rattle.cr_meaning.specs.declared.op.Op.{Op}
use Rattle.cr_meaning.specs.declared.op.Operator.{Operator}
use Rattle.cr_meaning.specs.declared.op.Operator.TheVariants as operator
use Rattle.cr_meaning.specs.declared.op.Change.TheVariants.{Arithmetic as Arithmetical}
use Rattle.cr_meaning.specs.declared.op.Work.TheVariants as work
use Rattle.cr_meaning_operations.specs.Shapes.{type_of_node, value_type, as_value, kind_in, as_element}
use Rattle.cr_meaning_operations.specs.Operations.{node_op, parts_at, change_of, common_kind, integers as integers_op, sum as sum_op}
use Rattle.cr_meaning_soundness.specs.Sorts.{Sort, number}
use Rattle.cr_meaning_typing.specs.Typed.Good.{IsGood, value_sort, row_at}
use Rattle.cr_meaning_typing.specs.Typed.Columns.{AreColumns, IsValueAt, IsGoodAt}
use Rattle.cr_meaning_typing.proofs.TypedLemmas.Goods as good

pub good_as : (p : Program) (sorts : ℕ → Option Sort) (sees : ℕ → Bool) (op made : Op) (own kept : Sort) → op ≡ made → own ≡ kept → IsGood p sorts sees made kept
    → IsGood p sorts sees op own
good_as p sorts sees op made own kept e f g = subst (λ o. IsGood p sorts sees op o) (sym f) (subst (λ o. IsGood p sorts sees o kept) (sym e) g)

-- ---- operands that are no arrays, or places

-- a value that isn't that of an array beside places is the one of its type
pub decays : (s : Seen) → (value_of_seen s ≡ value_in s.type s.constant) ⊎ ((t : Qualified) × (value_of_seen s ≡ whole t))
decays s = by s.lvalue s.type
  where
    by : (l : Bool) (t : Qualified) → ((if l then value_in t s.constant else value_beside_places t s.constant) ≡ value_in t s.constant)
        ⊎ ((u : Qualified) × ((if l then value_in t s.constant else value_beside_places t s.constant) ≡ whole u))
    by true t = inl refl
    by false (plain of c v) = inl refl
    by false (to c v t) = inl refl
    by false (array n t) = inr (array n t, refl)

pub lacks : {A : Type 0} (own : Seen) (v : Valued) → own ≡ given v → is_typed own ≡ true → v ≡ untyped → A
lacks own v e h f = absurd (false≢true (sym (ap (λ (o : Seen). is_type o.type) (e ∙ ap given f)) ∙ h))

-- so where a rule takes no such array, its operands have the values of their types
pub one_plain : (rule : Valued → Valued) → ((t : Qualified) → rule (whole t) ≡ untyped) → (x own : Seen) → own ≡ given (rule (value_of_seen x)) → is_typed own ≡ true
    → own ≡ given (rule (value_in x.type x.constant))
one_plain rule refuses x own e h = elim (decays x) [
  | inl f ↦ e ∙ ap (λ v. given (rule v)) f
  | inr f ↦ lacks own (rule (value_of_seen x)) e h (ap rule f.1 ∙ refuses f.0)
]

pub two_plain : (rule : Valued → Valued → Valued) → ((t : Qualified) (v : Valued) → rule (whole t) v ≡ untyped) → ((v : Valued) (t : Qualified) → rule v (whole t) ≡ untyped)
    → (x y own : Seen) → own ≡ given (rule (value_of_seen x) (value_of_seen y)) → is_typed own ≡ true → own ≡ given (rule (value_in x.type x.constant) (value_in y.type y.constant))
two_plain rule left right x y own e h =
    one_plain (λ v. rule (value_in x.type x.constant) v) (λ t. right (value_in x.type x.constant) t) y own
    (one_plain (λ v. rule v (value_of_seen y)) (λ t. left t (value_of_seen y)) x own e h) h

-- ---- two integers

-- both are integers, and the result has their common kind
pub record Agree (p : Program) (a b own : Qualified) : Type 0 where
  pub left : (row : ℕ) → value_sort p row a ≡ number (kind_in (as_value a))
  pub right : (row : ℕ) → value_sort p row b ≡ number (kind_in (as_value b))
  pub is : own ≡ plain (Int (common_of (kind_in (as_value a)) (kind_in (as_value b)))) false false

pub integers_right : (op : Arithmetic) (v : Valued) (t : Qualified) → integers_value op v (whole t) ≡ untyped
integers_right op (a_number x) t = refl
integers_right op v t = refl

agree : (p : Program) (op : Arithmetic) (a b : Qualified) (c d : Constant) (own : Seen) → own ≡ given (integers_value op (value_in a c) (value_in b d))
    → is_typed own ≡ true → Agree p a b own.type
unfolding common_constant
agree p op (plain (Int k) x y) (plain (Int l) z w) c d own e h = record { left = λ row. refl; right = λ row. refl; is = ap (λ (o : Seen). o.type) e }
agree p op (plain (Int k) x y) b c d own e h = absurd (false≢true (sym (ap (λ (o : Seen). is_type o.type) e) ∙ h))
agree p op a b c d own e h = absurd (false≢true (sym (ap (λ (o : Seen). is_type o.type) e) ∙ h))

module _ (p : Program) (t : Typed) (sorts : ℕ → Option Sort) (sees : ℕ → Bool) (at : ℕ → Seen) (columns : AreColumns t at) where
  of_types : (i a b : ℕ) (op : Operator) → parts_at t i ≡ a ∷ b ∷ [] → Agree p (type_of_node t a) (type_of_node t b) (type_of_node t i)
      → IsValueAt p t sorts a → IsValueAt p t sorts b → IsGoodAt p t sorts sees i (integers_op t i op)
  of_types i a b op e h sa sb =
      let left = kind_in (value_type t a) in
      let right = kind_in (value_type t b) in
      good_as p sorts sees (integers_op t i op) (node_op (a ∷ b ∷ []) (work.Binary (Arithmetical op (common_of left right))))
      (value_sort p (row_at t i) (type_of_node t i)) (number (common_of left right))
      (ap (λ ps. node_op ps (work.Binary (Arithmetical op (common_kind (value_type t (slice_index_or ps 0 0)) (value_type t (slice_index_or ps 1 0)))))) e)
      (ap (value_sort p (row_at t i)) h.is)
      (good.integers p sorts sees a b left right (common_of left right) op (sa ∙ ap Some (h.left (row_at t a))) (sb ∙ ap Some (h.right (row_at t b))))

pub integers : (p : Program) (t : Typed) (sorts : ℕ → Option Sort) (sees : ℕ → Bool) (at : ℕ → Seen) → AreColumns t at → (i a b : ℕ) (op : Operator) (operator : Arithmetic)
    → parts_at t i ≡ a ∷ b ∷ [] → at i ≡ given (integers_value operator (value_of_seen (at a)) (value_of_seen (at b))) → is_typed (at i) ≡ true
    → IsValueAt p t sorts a → IsValueAt p t sorts b → IsGoodAt p t sorts sees i (integers_op t i op)
integers p t sorts sees at columns i a b op operator e f h sa sb =
    let made = two_plain (integers_value operator) (λ t v. refl) (integers_right operator) (at a) (at b) (at i) f h in
    let both = agree p operator (at a).type (at b).type (at a).constant (at b).constant (at i) made h in
    of_types p t sorts sees at columns i a b op e
    (subst (λ x. Agree p x (type_of_node t b) (type_of_node t i)) (sym (columns.types a))
    (subst (λ x. Agree p (at a).type x (type_of_node t i)) (sym (columns.types b)) (subst (λ x. Agree p (at a).type (at b).type x) (sym (columns.types i)) both))) sa sb

-- ---- sums: two integers, or a pointer and an integer in either order

-- what `+` makes of these types, as an operation
abbrev sum_parts : Typed → List ℕ → Op
sum_parts t ps =
    let a : ℕ = slice_index_or ps 0 0 in
    let b : ℕ = slice_index_or ps 1 0 in
    node_op ps (work.Binary (change_of t operator.Add false (common_kind (value_type t a) (value_type t b)) (value_type t a) (value_type t b)))

abbrev sum_by : Typed → ℕ → ℕ → Qualified → Qualified → Op
sum_by t a b x y = node_op (a ∷ b ∷ []) (work.Binary (change_of t operator.Add false (common_kind (as_value x) (as_value y)) (as_value x) (as_value y)))

pub sum_right : (complete : Qualified → Bool) (v : Valued) (t : Qualified) → sum_value complete v (whole t) ≡ untyped
sum_right complete (a_number x) t = refl
sum_right complete (address u) t = refl
sum_right complete v t = refl

no_type : {A : Type 0} → (own : Seen) → is_typed own ≡ true → (type : Qualified) → own.type ≡ type → is_type type ≡ false → A
no_type own h type e f = absurd (false≢true (sym f ∙ sym (ap is_type e) ∙ h))

pub moved_typed : (s : Source) (i : ℕ) (x : Qualified) (own : Seen) (b : Bool) → complete s i x ≡ b → own ≡ given (if b then address x else untyped) → is_typed own ≡ true → own.type ≡ to false false x
moved_typed s i x own true f e h = ap (λ (o : Seen). o.type) e
moved_typed s i x own false f e h = absurd (false≢true (sym (ap (λ (o : Seen). is_type o.type) e) ∙ h))

module _ (p : Program) (t : Typed) (sorts : ℕ → Option Sort) (sees : ℕ → Bool) (s : Source) (i a b row left right : ℕ) where
  sum_good : (x y : Qualified) (c d : Constant) (own : Seen) → own ≡ given (sum_value (complete s i) (value_in x c) (value_in y d)) → is_typed own ≡ true
      → sorts a ≡ Some (value_sort p left x) → sorts b ≡ Some (value_sort p right y)
      → IsGood p sorts sees (sum_by t a b x y) (value_sort p row own.type)
  unfolding common_constant
  sum_good (plain (Int l) u v) (plain (Int r) w z) c d own e h sa sb =
      subst (λ o. IsGood p sorts sees (sum_by t a b (plain (Int l) u v) (plain (Int r) w z)) (value_sort p row o)) (sym (ap (λ (o : Seen). o.type) e))
      (good.integers p sorts sees a b l r (common_of l r) operator.Add sa sb)
  sum_good (to u v x) (plain (Int r) w z) c d own e h sa sb =
      subst (λ o. IsGood p sorts sees (sum_by t a b (to u v x) (plain (Int r) w z)) (value_sort p row o)) (sym (moved_typed s i x own (complete s i x) refl e h))
      (good.moved p sorts sees a b r false (as_element t x) sa sb)
  sum_good (array n x) (plain (Int r) w z) c d own e h sa sb =
      subst (λ o. IsGood p sorts sees (sum_by t a b (array n x) (plain (Int r) w z)) (value_sort p row o)) (sym (moved_typed s i x own (complete s i x) refl e h))
      (good.moved p sorts sees a b r false (as_element t x) sa sb)
  sum_good (plain (Int l) u v) (to w z y) c d own e h sa sb =
      subst (λ o. IsGood p sorts sees (sum_by t a b (plain (Int l) u v) (to w z y)) (value_sort p row o)) (sym (moved_typed s i y own (complete s i y) refl e h))
      (good.moved_other p sorts sees a b l false (as_element t y) sa sb)
  sum_good (plain (Int l) u v) (array n y) c d own e h sa sb =
      subst (λ o. IsGood p sorts sees (sum_by t a b (plain (Int l) u v) (array n y)) (value_sort p row o)) (sym (moved_typed s i y own (complete s i y) refl e h))
      (good.moved_other p sorts sees a b l false (as_element t y) sa sb)
  sum_good x y c d own e h sa sb = absurd (false≢true (sym (ap (λ (o : Seen). is_type o.type) e) ∙ h))

pub sums : (p : Program) (t : Typed) (sorts : ℕ → Option Sort) (sees : ℕ → Bool) (at : ℕ → Seen) (s : Source) → AreColumns t at → (i a b : ℕ)
    → parts_at t i ≡ a ∷ b ∷ [] → at i ≡ given (sum_value (complete s i) (value_of_seen (at a)) (value_of_seen (at b))) → is_typed (at i) ≡ true
    → IsValueAt p t sorts a → IsValueAt p t sorts b → IsGoodAt p t sorts sees i (sum_op t i)
sums p t sorts sees at s columns i a b e f h sa sb =
    let plain_values = two_plain (sum_value (complete s i)) (λ t v. refl) (sum_right (complete s i)) (at a) (at b) (at i) f h in
    let made = sum_good p t sorts sees s i a b (row_at t i) (row_at t a) (row_at t b) (at a).type (at b).type (at a).constant (at b).constant (at i) plain_values h
    (sa ∙ ap (λ x. Some (value_sort p (row_at t a) x)) (columns.types a)) (sb ∙ ap (λ x. Some (value_sort p (row_at t b) x)) (columns.types b)) in
    good_as p sorts sees (sum_op t i) (sum_by t a b (at a).type (at b).type) (value_sort p (row_at t i) (type_of_node t i)) (value_sort p (row_at t i) (at i).type)
    (ap (λ ps. sum_parts t ps) e ∙ (λ j. sum_by t a b (columns.types a j) (columns.types b j)))
    (ap (value_sort p (row_at t i)) (columns.types i)) made
