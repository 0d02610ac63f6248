-- What operators make of operands whose types are bounded (C11 6.5).
use Rattle.std.proofs.Common.{◌≡◌, ℕ, ◌≤◌, ◌==◌, ◌&&◌, Bool, true, false, List, Option, None, Some, length, slice_get, refl, arith, if◌then◌else◌}
use Rattle.cr_syntax.specs.declared.ctype.CType.{CType}
use Rattle.cr_syntax.specs.declared.ctype.CType.TheVariants.{Void, Int, Struct}
use Rattle.cr_syntax.specs.declared.node.Node.{Node}
use Rattle.cr_check_types.specs.declared.layout.Layout.{Layout}
use Rattle.cr_check_types.specs.Types.{Qualified, plain, pointer, array}
use Rattle.cr_check_types.specs.Relations.{composite_of, is_defined}
use Rattle.cr_check_types.specs.Layouts.{layout_of}
use Rattle.cr_check_constants.specs.declared.constant.Constant.{Constant}
use Rattle.cr_check_constants.specs.declared.operator.Arithmetic.{Arithmetic}
use Rattle.cr_check_constants.specs.declared.operator.Shift.{Shift}
use Rattle.cr_check_constants.specs.declared.operator.Relation.{Relation}
use Rattle.cr_check_constants.specs.declared.operator.Sign.{Sign}
use Rattle.cr_check_constants.specs.declared.constant.Operand.{Operand}
use Rattle.cr_check_constants.specs.Literals.{integer_of, character_of}
use Rattle.cr_check_operands.specs.declared.logic.Junction.{Junction}
use Rattle.cr_check_operands.specs.Values.{Valued, number, address, structure, whole as entire, valueless, untyped, Seen, no_type, type_of_value, plain_value, value_in, value_beside_places, value_of_seen}
use Rattle.cr_check_operands.specs.Rules.{is_void, with_qualifiers_of, are_alike, are_related, is_zero, an_int, integers_value, shifted_value, moved, sum_value, difference_value, order_value, equality_value, scalar_constant, logical_by, negated_by, signed_value, merged, chosen_value, conditional_by, comma_value, is_bool, target_of, keeps_volatile, cast_by, size_value, updated_by, stepped_by}
use Rattle.cr_check_operands.specs.Places.{is_modifiable_seen, stored_value, stepped, followed, dereferenced, subscripted, structure_in, member_in as member_found, pointed_member_of, text_of}
use Rattle.cr_check_expressions.specs.declared.form.Form.{Form}
use Rattle.cr_check_expressions.specs.declared.form.Form.TheVariants as form
use Rattle.cr_check_expressions.specs.Known.{Meaning, an_object, a_function, Source}
use Rattle.cr_check_expressions.specs.Ruled.{seen_in, operand, value, complete, named_by, literal, member_in, pointed_structure, counts_agree, are_passed, called, combined, computed, ruled}
use Rattle.cr_check_expressions.specs.Ruled as rules
use Rattle.cr_typed.specs.Typed.{MOST_CELLS}
use Rattle.cr_meaning_types.specs.Fitting.Bounded.{IsBounded}
use Rattle.cr_meaning_types.proofs.FittingLemmas.Types.{qualified_bounded, alike_bounded}

module _ (nodes : List Node) (layouts : List Layout) (at : ℕ) where
  abbrev P : Qualified → Type 0
  P = IsBounded nodes layouts at

  abbrev V : Valued → Type 0
  V (address t) = P t
  V (entire t) = P t
  V v = Unit {0}

  either : (b : Bool) (v w : Valued) → V v → V w → V (if b then v else w)
  either true v w h g = h
  either false v w h g = g

  one_of : (b : Bool) (v : Valued) → V v → V (if b then v else untyped)
  one_of b v h = either b v untyped h tt

  -- ---- values and their types

  type_bounded : (v : Valued) → V v → P (type_of_value v)
  type_bounded (address t) h = h
  type_bounded (entire t) h = h
  type_bounded v h = tt

  plain_bounded : (of : CType) (c : Constant) → V (plain_value of c)
  plain_bounded (Int kind) c = tt
  plain_bounded Void c = tt
  plain_bounded (Struct node) c = tt
  plain_bounded other c = tt

  stored_bounded : (t : Qualified) (c : Constant) → P t → V (value_in t c)
  stored_bounded (plain of c v) k h = plain_bounded of k
  stored_bounded (pointer c v t) k h = h
  stored_bounded (array n t) k h = h.0

  beside_bounded : (t : Qualified) (c : Constant) → P t → V (value_beside_places t c)
  beside_bounded (plain of c v) k h = plain_bounded of k
  beside_bounded (pointer c v t) k h = h
  beside_bounded (array n t) k h = h

  seen_bounded : (s : Seen) → P s.type → V (value_of_seen s)
  seen_bounded s h = either s.lvalue (value_in s.type s.constant) (value_beside_places s.type s.constant) (stored_bounded s.type s.constant h) (beside_bounded s.type s.constant h)

  with_bounded : (from t : Qualified) → P t → P (with_qualifiers_of from t)
  with_bounded from t h = qualified_bounded nodes layouts at _ _ t h

  -- ---- operators

  moves : (whole : Qualified → Bool) (t : Qualified) → P t → V (moved whole t)
  moves whole t h = one_of (whole t) (address t) h

  integers : (operator : Arithmetic) (x y : Valued) → V (integers_value operator x y)
  integers operator (number x) (number y) = tt
  integers operator x y = tt

  shifts : (operator : Shift) (x y : Valued) → V (shifted_value operator x y)
  shifts operator (number x) (number y) = tt
  shifts operator x y = tt

  sums : (whole : Qualified → Bool) (x y : Valued) → V x → V y → V (sum_value whole x y)
  sums whole (number x) (number y) h g = tt
  sums whole (address t) (number y) h g = moves whole t h
  sums whole (number x) (address t) h g = moves whole t g
  sums whole x y h g = tt

  differences : (whole : Qualified → Bool) (x y : Valued) → V x → V (difference_value whole x y)
  differences whole (number x) (number y) h = tt
  differences whole (address t) (number y) h = moves whole t h
  differences whole (address t) (address u) h = one_of (whole t && (whole u && are_alike t u)) (number _) tt
  differences whole x y h = tt

  orders : (operator : Relation) (x y : Valued) → V (order_value operator x y)
  orders operator (number x) (number y) = tt
  orders operator (address t) (address u) = one_of (are_alike t u) an_int tt
  orders operator x y = tt

  equalities : (operator : Relation) (x y : Valued) → V (equality_value operator x y)
  equalities operator (number x) (number y) = tt
  equalities operator (address t) (address u) = one_of (are_related t u) an_int tt
  equalities operator (address t) (number y) = one_of (is_zero y.constant) an_int tt
  equalities operator (number x) (address u) = one_of (is_zero x.constant) an_int tt
  equalities operator x y = tt

  junctions : (operator : Junction) (x y : Option Constant) → V (logical_by operator x y)
  junctions operator (Some x) (Some y) = tt
  junctions operator x y = tt

  negates : (x : Option Constant) → V (negated_by x)
  negates (Some x) = tt
  negates None = tt

  signs : (operator : Sign) (x : Valued) → V (signed_value operator x)
  signs operator (number x) = tt
  signs operator x = tt

  sizes : (b : Bool) (bytes : ℕ) → V (size_value b bytes)
  sizes b bytes = one_of b (number _) tt

  merges : (l r : Bool) (t u : Qualified) → P t → P u → V (merged l r t u)
  merges l r t u h g =
      either r (address t) _ h (either l (address u) _ g (composed (are_alike t u) refl))
    where
      composed : (b : Bool) → are_alike t u ≡ b
          → V (if b then address (with_qualifiers_of u (composite_of t u)) else (if is_void t then address (with_qualifiers_of u t) else (if is_void u then address (with_qualifiers_of t u) else untyped)))
      composed true e = with_bounded u (composite_of t u) (alike_bounded nodes layouts at t u e h g)
      composed false e = either (is_void t) (address (with_qualifiers_of u t)) _ (with_bounded u t h) (one_of (is_void u) (address (with_qualifiers_of t u)) (with_bounded t u g))

  picks : (condition : Constant) (l r : Bool) (x y : Valued) → V x → V y → V (chosen_value condition l r x y)
  picks condition l r (number x) (number y) h g = tt
  picks condition l r (structure n) (structure m) h g = one_of (n == m) (structure n) tt
  picks condition l r valueless valueless h g = tt
  picks condition l r (address t) (address u) h g = merges l r t u h g
  picks condition l r (address t) (number y) h g = one_of (is_zero y.constant) (address t) h
  picks condition l r (number x) (address u) h g = one_of (is_zero x.constant) (address u) g
  picks condition l r x y h g = tt

  chooses : (condition : Option Constant) (l r : Bool) (x y : Valued) → V x → V y → V (conditional_by condition l r x y)
  chooses (Some condition) l r x y h g = picks condition l r x y h g
  chooses None l r x y h g = tt

  commas : (x y : Valued) → V y → V (comma_value x y)
  commas x (number y) h = tt
  commas x (address t) h = h
  commas x (entire t) h = h
  commas x (structure n) h = tt
  commas x valueless h = tt
  commas x untyped h = tt

  targets : (t : Qualified) → P t → V (target_of t)
  targets (plain of c v) h = plain_bounded of _
  targets (pointer c v t) h = h
  targets (array n t) h = tt

  casts : (x y : Valued) → V x → V (cast_by x y)
  casts valueless untyped h = tt
  casts valueless y h = tt
  casts (number x) (number y) h = tt
  casts (number x) (address u) h = one_of (is_bool x.kind) (number _) tt
  casts (address t) (number y) h = one_of (is_zero y.constant) (address t) h
  casts (address t) (address u) h = one_of (keeps_volatile t u) (address t) h
  casts x y h = tt

  updates : (whole : Qualified → Bool) (moving : Bool) (x y : Valued) → V x → V (updated_by whole moving x y)
  updates whole moving (number x) (number y) h = tt
  updates whole moving (address t) (number y) h = one_of moving (moved whole t) (moves whole t h)
  updates whole moving x y h = tt

  steps : (whole : Qualified → Bool) (x : Valued) → V x → V (stepped_by whole x)
  steps whole (number x) h = tt
  steps whole (address t) h = moves whole t h
  steps whole x h = tt

  -- ---- places

  follows : (whole : Qualified → Bool) (t : Qualified) → P t → P (followed whole t).type
  follows whole t h = by (whole t)
    where
      by : (b : Bool) → P (if b then rules.named_by (an_object t false) else no_type).type
      by true = h
      by false = tt

  dereferences : (whole : Qualified → Bool) (x : Valued) → V x → P (dereferenced whole x).type
  dereferences whole (address t) h = follows whole t h
  dereferences whole x h = tt

  subscripts : (whole : Qualified → Bool) (x y : Valued) → V x → V y → P (subscripted whole x y).type
  subscripts whole (address t) (number y) h g = follows whole t h
  subscripts whole (number x) (address t) h g = follows whole t g
  subscripts whole x y h g = tt

  abbrev pub IsFound : Option Qualified → Type 0
  IsFound None = Unit {0}
  IsFound (Some t) = P t

  members : (found : Option Qualified) (of : Qualified) (lvalue register : Bool) → IsFound found → P (member_found found of lvalue register).type
  members None of lvalue register h = tt
  members (Some t) of lvalue register h = with_bounded of t h

  pointed_members : (found : Option Qualified) (x : Valued) → IsFound found → P (pointed_member_of found x).type
  pointed_members found (address t) h = members found t true false h
  pointed_members found x h = tt

  -- ---- what a node reads beside its operands

  abbrev pub IsMeaning : Meaning → Type 0
  IsMeaning (an_object t register) = P t
  IsMeaning (a_function signature) = P signature.gives
  IsMeaning m = Unit {0}

  pub record IsSource (s : Source) : Type 0 where
    pub stands : (node : ℕ) → IsMeaning (s.stands node)
    pub text : (node : ℕ) → s.text node ≤ MOST_CELLS
    pub named : (node : Option ℕ) → P (s.named node)
    pub member : (node token : ℕ) → IsFound (s.member node token)

  names : (m : Meaning) → IsMeaning m → P (named_by m).type
  names (an_object t register) h = h
  names m h = tt

  calls : (m : Meaning) (argument : ℕ → Seen) (count : ℕ) → IsMeaning m → V (called m argument count)
  unfolding called
  calls (a_function signature) argument count h = one_of (counts_agree signature count && are_passed signature.parameter argument count) (value_in signature.gives _) (stored_bounded signature.gives _ h)
  calls m argument count h = tt

  literals : (o : Option Operand) → V (literal o)
  literals (Some operand) = tt
  literals None = tt

  texts : (count : ℕ) → count ≤ MOST_CELLS → P (text_of count).type
  texts count h = (tt, (refl, omega (arith, h)))

  module _ (seen : ℕ → Seen) (s : Source) (i : ℕ) (all : (k : ℕ) → P (seen k).type) (source : IsSource s) where
    operand_bounded : (o : Option ℕ) → P (seen_in seen o).type
    operand_bounded None = tt
    operand_bounded (Some part) = all part

    value_bounded : (parts : List ℕ) (k : ℕ) → V (value seen parts k)
    value_bounded parts k = seen_bounded (operand seen parts k) (operand_bounded (slice_get parts k))

    found_bounded : (token : ℕ) (o : Option ℕ) → IsFound (member_in s i token o)
    found_bounded token None = tt
    found_bounded token (Some node) = by (is_defined s.nodes i node)
      where
        by : (b : Bool) → IsFound (if b then s.member node token else None)
        by true = source.member node token
        by false = tt

    combined_bounded : (f : Form) (parts : List ℕ) → V (combined f seen s i parts)
    combined_bounded (form.Integers operator) parts = integers operator (value seen parts 0) (value seen parts 1)
    combined_bounded form.Sum parts = sums (complete s i) (value seen parts 0) (value seen parts 1) (value_bounded parts 0) (value_bounded parts 1)
    combined_bounded form.Difference parts = differences (complete s i) (value seen parts 0) (value seen parts 1) (value_bounded parts 0)
    combined_bounded (form.Shifted operator) parts = shifts operator (value seen parts 0) (value seen parts 1)
    combined_bounded (form.Order operator) parts = orders operator (value seen parts 0) (value seen parts 1)
    combined_bounded (form.Equality operator) parts = equalities operator (value seen parts 0) (value seen parts 1)
    combined_bounded (form.Logical operator) parts = junctions operator (scalar_constant (value seen parts 0)) (scalar_constant (value seen parts 1))
    combined_bounded form.Assign parts = one_of _ (stored_value (operand seen parts 0)) (stored_bounded (operand seen parts 0).type _ (operand_bounded (slice_get parts 0)))
    combined_bounded (form.Compound moving) parts =
        one_of (is_modifiable_seen (complete s i) s.fixed (operand seen parts 0)) _
        (updates (complete s i) moving (stored_value (operand seen parts 0)) (value seen parts 1) (stored_bounded (operand seen parts 0).type _ (operand_bounded (slice_get parts 0))))
    combined_bounded form.Comma parts = commas (value seen parts 0) (value seen parts 1) (value_bounded parts 1)
    combined_bounded f parts = tt

    step_bounded : (parts : List ℕ) → V (stepped (complete s i) s.fixed (operand seen parts 0))
    step_bounded parts =
        one_of (is_modifiable_seen (complete s i) s.fixed (operand seen parts 0)) _
        (steps (complete s i) (stored_value (operand seen parts 0)) (stored_bounded (operand seen parts 0).type _ (operand_bounded (slice_get parts 0))))

    computed_bounded : (f : Form) (n : Node) → V (computed f seen s i n)
    computed_bounded form.Integer n = literals (integer_of (s.spelling n.first))
    computed_bounded form.Character n = literals (character_of (s.spelling n.first))
    computed_bounded form.Call n = calls (s.stands i) (operand seen n.parts) (length n.parts) (source.stands i)
    computed_bounded form.StepBehind n = step_bounded n.parts
    computed_bounded form.StepBefore n = step_bounded n.parts
    computed_bounded form.Address n = one_of _ (address (operand seen n.parts 0).type) (operand_bounded (slice_get n.parts 0))
    computed_bounded (form.Signed operator) n = signs operator (value seen n.parts 0)
    computed_bounded form.Negated n = negates (scalar_constant (value seen n.parts 0))
    computed_bounded form.SizeofExpression n = sizes (complete s i (operand seen n.parts 0).type) (layout_of s.layouts (operand seen n.parts 0).type).size
    computed_bounded form.SizeofType n = sizes (complete s i (s.named (slice_get n.parts 0))) (layout_of s.layouts (s.named (slice_get n.parts 0))).size
    computed_bounded f n = combined_bounded f n.parts

    pub ruled_bounded : (f : Form) (n : Node) → P (ruled f seen s i n).type
    ruled_bounded form.Name n = names (s.stands i) (source.stands i)
    ruled_bounded form.Text n = texts (s.text i) (source.text i)
    ruled_bounded form.Group n = operand_bounded (slice_get n.parts 0)
    ruled_bounded form.Subscript n = subscripts (complete s i) (value seen n.parts 0) (value seen n.parts 1) (value_bounded n.parts 0) (value_bounded n.parts 1)
    ruled_bounded form.Member n = members (member_in s i n.last (structure_in (operand seen n.parts 0).type)) (operand seen n.parts 0).type (operand seen n.parts 0).lvalue (operand seen n.parts 0).register (found_bounded n.last (structure_in (operand seen n.parts 0).type))
    ruled_bounded form.PointerMember n = pointed_members (member_in s i n.last (pointed_structure (value seen n.parts 0))) (value seen n.parts 0) (found_bounded n.last (pointed_structure (value seen n.parts 0)))
    ruled_bounded form.Dereference n = dereferences (complete s i) (value seen n.parts 0) (value_bounded n.parts 0)
    ruled_bounded form.Cast n =
        type_bounded (cast_by (target_of (s.named (slice_get n.parts 0))) (value seen n.parts 1))
        (casts (target_of (s.named (slice_get n.parts 0))) (value seen n.parts 1) (targets (s.named (slice_get n.parts 0)) (source.named (slice_get n.parts 0))))
    ruled_bounded form.Conditional n =
        type_bounded (conditional_by (scalar_constant (value seen n.parts 0)) (operand seen n.parts 1).null (operand seen n.parts 2).null (value seen n.parts 1) (value seen n.parts 2))
        (chooses (scalar_constant (value seen n.parts 0)) (operand seen n.parts 1).null (operand seen n.parts 2).null (value seen n.parts 1) (value seen n.parts 2) (value_bounded n.parts 1) (value_bounded n.parts 2))
    ruled_bounded f n = type_bounded (computed f seen s i n) (computed_bounded f n)
