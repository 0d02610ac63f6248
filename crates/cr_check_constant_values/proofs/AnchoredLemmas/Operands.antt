-- What an expression is made of: where it is a constant so are its operands, and where its address is constant they are constants or places.
use Rattle.std.proofs.Common.{◌≡◌, ℕ, ◌==◌, ℤ, pos, Bool, true, false, ◌&&◌, not, Option, None, Some, refl, sym, ◌∙◌, if◌then◌else◌}
use Rattle.std.proofs.lemmas.Bool.{false≢true}
use Rattle.cr_syntax.specs.declared.ctype.CType.{CType}
use Rattle.cr_syntax.specs.declared.ctype.CType.TheVariants.{Void, Int, Struct}
use Rattle.cr_check_constants.specs.declared.constant.Constant.{Constant}
use Rattle.cr_check_constants.specs.declared.constant.Constant.TheVariants.{NotConstant, Undefined, Value}
use Rattle.cr_check_constants.specs.declared.operator.Arithmetic.{Arithmetic}
use Rattle.cr_check_constants.specs.declared.operator.Shift.{Shift}
use Rattle.cr_check_constants.specs.declared.operator.Relation.{Relation}
use Rattle.cr_check_constants.specs.declared.operator.Sign.{Sign}
use Rattle.cr_check_constants.specs.Constants.{is_not_zero, truth_of, one, both, beside}
use Rattle.cr_check_constants.specs.Operators.{logical_and_of, logical_or_of, chosen}
use Rattle.cr_check_types.specs.Types.{Qualified, plain, pointer, array}
use Rattle.cr_check_operands.specs.declared.logic.Junction.{Junction}
use Rattle.cr_check_operands.specs.declared.logic.Junction.TheVariants.{Conjunction, Disjunction}
use Rattle.cr_check_operands.specs.Values.{Valued, number, address, structure, whole, valueless, untyped, plain_value, value_in, value_beside_places, constant_of_value, Seen, no_type, place_of, value_of_seen}
use Rattle.cr_check_operands.specs.Rules.{are_alike, are_related, is_zero, is_void, moved, integers_value, shifted_value, sum_value, distance, difference_value, order_value, equality_value, scalar_constant, logical_constant, logical_by, logical_value, negated_by, negated_value, signed_value, merged, chosen_value, conditional_by, conditional_value, constant_or_none, comma_value, is_bool, keeps_volatile, cast_by, assignable, updated_by, stepped_by}
use Rattle.cr_check_operands.specs.Places.{is_modifiable_seen, stored_value, assigned, updated, stepped, address_value, followed, dereferenced, subscripted, member_in, pointed_member_of}
use Rattle.cr_check_constant_values.specs.Anchored.Anchored.{is_made}

-- ---- constants

both_made : (f : ℤ → ℤ → Constant) (x y : Constant) → is_made (both f x y) ≡ true → (is_made x ≡ true) × (is_made y ≡ true)
both_made f (Value a) (Value b) h = (refl, refl)
both_made f (Value a) Undefined h = (refl, refl)
both_made f Undefined (Value b) h = (refl, refl)
both_made f Undefined Undefined h = (refl, refl)
both_made f x y h = absurd (false≢true h)

one_made : (f : ℤ → Constant) (x : Constant) → is_made (one f x) ≡ true → is_made x ≡ true
one_made f (Value a) h = refl
one_made f Undefined h = refl
one_made f NotConstant h = absurd (false≢true h)

beside_made : (x answer : Constant) → is_made (beside x answer) ≡ true → (is_made x ≡ true) × (is_made answer ≡ true)
beside_made (Value a) answer h = (refl, h)
beside_made Undefined answer h = (refl, h)
beside_made NotConstant answer h = absurd (false≢true h)

and_made : (x y : Constant) → is_made (logical_and_of x y) ≡ true → (is_made x ≡ true) × (is_made y ≡ true)
and_made (Value a) y h = by (is_not_zero a) h
  where
    by : (b : Bool) → is_made (if b then one (λ y. truth_of (is_not_zero y)) y else beside y (Value (pos 0))) ≡ true → (true ≡ true) × (is_made y ≡ true)
    by true g = (refl, one_made _ y g)
    by false g = (refl, (beside_made y _ g).0)
and_made Undefined y h = (refl, (beside_made y _ h).0)
and_made NotConstant y h = absurd (false≢true h)

or_made : (x y : Constant) → is_made (logical_or_of x y) ≡ true → (is_made x ≡ true) × (is_made y ≡ true)
or_made (Value a) y h = by (is_not_zero a) h
  where
    by : (b : Bool) → is_made (if b then beside y (Value (pos 1)) else one (λ y. truth_of (is_not_zero y)) y) ≡ true → (true ≡ true) × (is_made y ≡ true)
    by true g = (refl, (beside_made y _ g).0)
    by false g = (refl, one_made _ y g)
or_made Undefined y h = (refl, (beside_made y _ h).0)
or_made NotConstant y h = absurd (false≢true h)

-- ---- values

-- what the value is made of, the expression is
abbrev pub made : Valued → Bool
made v = is_made (constant_of_value v)

plain_made : (of : CType) (c : Constant) → made (plain_value of c) ≡ true → is_made c ≡ true
plain_made (Int kind) c h = h
plain_made Void c h = absurd (false≢true h)
plain_made (Struct node) c h = absurd (false≢true h)
plain_made of c h = absurd (false≢true h)

stored_made : (t : Qualified) (c : Constant) → made (value_in t c) ≡ true → is_made c ≡ true
stored_made (plain of c v) k h = plain_made of k h
stored_made (pointer c v t) k h = absurd (false≢true h)
stored_made (array n t) k h = absurd (false≢true h)

beside_places_made : (t : Qualified) (c : Constant) → made (value_beside_places t c) ≡ true → is_made c ≡ true
beside_places_made (plain of c v) k h = plain_made of k h
beside_places_made (pointer c v t) k h = absurd (false≢true h)
beside_places_made (array n t) k h = absurd (false≢true h)

pub value_made : (s : Seen) → made (value_of_seen s) ≡ true → is_made s.constant ≡ true
value_made s h = by s.lvalue h
  where
    by : (b : Bool) → made (if b then value_in s.type s.constant else value_beside_places s.type s.constant) ≡ true → is_made s.constant ≡ true
    by true g = stored_made s.type s.constant g
    by false g = beside_places_made s.type s.constant g

-- none of two is made of constants
pub neither : (b : Bool) (v w : Valued) → made v ≡ false → made w ≡ false → made (if b then v else w) ≡ false
neither true v w h g = h
neither false v w h g = g

pub unmade : {A : Type 0} (v : Valued) → made v ≡ false → made v ≡ true → A
unmade v h g = absurd (false≢true (sym h ∙ g))

pub stored_not : (t : Qualified) → made (value_in t NotConstant) ≡ false
stored_not (plain of c v) = by of
  where
    by : (of : CType) → made (plain_value of NotConstant) ≡ false
    by (Int kind) = refl
    by Void = refl
    by (Struct node) = refl
    by of = refl
stored_not (pointer c v t) = refl
stored_not (array n t) = refl

-- ---- operators

abbrev pub Both : Valued → Valued → Type 0
Both v w = (made v ≡ true) × (made w ≡ true)

moved_not : (complete : Qualified → Bool) (t : Qualified) → made (moved complete t) ≡ false
moved_not complete t = neither (complete t) (address t) untyped refl refl

pub integers_made : (op : Arithmetic) (v w : Valued) → made (integers_value op v w) ≡ true → Both v w
integers_made op (number x) (number y) h = both_made _ x.constant y.constant h
integers_made op v w h = absurd (false≢true h)

pub shifted_made : (op : Shift) (v w : Valued) → made (shifted_value op v w) ≡ true → Both v w
shifted_made op (number x) (number y) h = both_made _ x.constant y.constant h
shifted_made op v w h = absurd (false≢true h)

pub sum_made : (complete : Qualified → Bool) (v w : Valued) → made (sum_value complete v w) ≡ true → Both v w
sum_made complete (number x) (number y) h = both_made _ x.constant y.constant h
sum_made complete (address t) (number y) h = unmade (moved complete t) (moved_not complete t) h
sum_made complete (number x) (address t) h = unmade (moved complete t) (moved_not complete t) h
sum_made complete v w h = absurd (false≢true h)

pub difference_made : (complete : Qualified → Bool) (v w : Valued) → made (difference_value complete v w) ≡ true → Both v w
difference_made complete (number x) (number y) h = both_made _ x.constant y.constant h
difference_made complete (address t) (number y) h = unmade (moved complete t) (moved_not complete t) h
difference_made complete (address t) (address u) h =
    unmade (distance complete t u) (neither (complete t && (complete u && are_alike t u)) _ untyped refl refl) h
difference_made complete v w h = absurd (false≢true h)

pub order_made : (op : Relation) (v w : Valued) → made (order_value op v w) ≡ true → Both v w
order_made op (number x) (number y) h = both_made _ x.constant y.constant h
order_made op (address t) (address u) h = unmade (order_value op (address t) (address u)) (neither (are_alike t u) _ untyped refl refl) h
order_made op v w h = absurd (false≢true h)

pub equality_made : (op : Relation) (v w : Valued) → made (equality_value op v w) ≡ true → Both v w
equality_made op (number x) (number y) h = both_made _ x.constant y.constant h
equality_made op (address t) (address u) h = unmade (equality_value op (address t) (address u)) (neither (are_related t u) _ untyped refl refl) h
equality_made op (address t) (number y) h = unmade (equality_value op (address t) (number y)) (neither (is_zero y.constant) _ untyped refl refl) h
equality_made op (number x) (address u) h = unmade (equality_value op (number x) (address u)) (neither (is_zero x.constant) _ untyped refl refl) h
equality_made op v w h = absurd (false≢true h)

-- a scalar as a constant
abbrev IfMade : Option Constant → Valued → Type 0
IfMade None v = Unit {0}
IfMade (Some c) v = is_made c ≡ true → made v ≡ true

scalar_is : (v : Valued) → IfMade (scalar_constant v) v
scalar_is (number x) = λ h. h
scalar_is (address t) = λ h. h
scalar_is (structure n) = tt
scalar_is (whole t) = tt
scalar_is valueless = tt
scalar_is untyped = tt

junction_made : (op : Junction) (x y : Constant) → is_made (logical_constant op x y) ≡ true → (is_made x ≡ true) × (is_made y ≡ true)
junction_made Conjunction x y h = and_made x y h
junction_made Disjunction x y h = or_made x y h

pub logical_made : (op : Junction) (v w : Valued) → made (logical_value op v w) ≡ true → Both v w
logical_made op v w h = by (scalar_constant v) (scalar_constant w) (scalar_is v) (scalar_is w) h
  where
    by : (o p : Option Constant) → IfMade o v → IfMade p w → made (logical_by op o p) ≡ true → Both v w
    by (Some x) (Some y) f g h = let z = junction_made op x y h in (f z.0, g z.1)
    by None p f g h = absurd (false≢true h)
    by (Some x) None f g h = absurd (false≢true h)

pub negated_made : (v : Valued) → made (negated_value v) ≡ true → made v ≡ true
negated_made v h = by (scalar_constant v) (scalar_is v) h
  where
    by : (o : Option Constant) → IfMade o v → made (negated_by o) ≡ true → made v ≡ true
    by (Some x) f h = f (one_made _ x h)
    by None f h = absurd (false≢true h)

pub signed_made : (op : Sign) (v : Valued) → made (signed_value op v) ≡ true → made v ≡ true
signed_made op (number x) h = one_made _ x.constant h
signed_made op v h = absurd (false≢true h)

-- ---- `?:`

abbrev All3 : Constant → Constant → Constant → Type 0
All3 c x y = (is_made c ≡ true) × ((is_made x ≡ true) × (is_made y ≡ true))

choice_made : (c x y : Constant) → is_made (chosen c x y) ≡ true → All3 c x y
choice_made (Value a) x y h = by (is_not_zero a) h
  where
    by : (b : Bool) → is_made (if b then beside y x else beside x y) ≡ true → All3 (Value a) x y
    by true g = let z = beside_made y x g in (refl, (z.1, z.0))
    by false g = let z = beside_made x y g in (refl, (z.0, z.1))
choice_made Undefined x y h = let z = beside_made x (beside y Undefined) h in (refl, (z.0, (beside_made y Undefined z.1).0))
choice_made NotConstant x y h = absurd (false≢true h)

merged_not : (l r : Bool) (t u : Qualified) → made (merged l r t u) ≡ false
merged_not l r t u =
    neither r (address t) _ refl
    (neither l (address u) _ refl
    (neither (are_alike t u) (address _) _ refl (neither (is_void t) (address _) _ refl (neither (is_void u) (address _) untyped refl refl))))

chosen_made : (c : Constant) (l r : Bool) (v w : Valued) → made (chosen_value c l r v w) ≡ true → (is_made c ≡ true) × Both v w
chosen_made c l r (number x) (number y) h = choice_made c x.constant y.constant (one_made _ (chosen c x.constant y.constant) h)
chosen_made c l r (structure n) (structure m) h = unmade (chosen_value c l r (structure n) (structure m)) (neither (n == m) (structure n) untyped refl refl) h
chosen_made c l r (address t) (address u) h = unmade (merged l r t u) (merged_not l r t u) h
chosen_made c l r (address t) (number y) h = unmade (chosen_value c l r (address t) (number y)) (neither (is_zero y.constant) (address t) untyped refl refl) h
chosen_made c l r (number x) (address u) h = unmade (chosen_value c l r (number x) (address u)) (neither (is_zero x.constant) (address u) untyped refl refl) h
chosen_made c l r valueless valueless h = absurd (false≢true h)
chosen_made c l r v w h = absurd (false≢true h)

pub conditional_made : (v : Valued) (l r : Bool) (w x : Valued) → made (conditional_value v l r w x) ≡ true → (made v ≡ true) × Both w x
conditional_made v l r w x h = by (scalar_constant v) (scalar_is v) h
  where
    by : (o : Option Constant) → IfMade o v → made (conditional_by o l r w x) ≡ true → (made v ≡ true) × Both w x
    by (Some c) f h = let z = chosen_made c l r w x h in (f z.0, z.1)
    by None f h = absurd (false≢true h)

-- ---- comma and casts

pub comma_made : (v w : Valued) → made (comma_value v w) ≡ true → Both v w
comma_made v (number y) h = by (scalar_constant v) (scalar_is v) h
  where
    by : (o : Option Constant) → IfMade o v → is_made (beside (constant_or_none o) (beside y.constant Undefined)) ≡ true → Both v (number y)
    by (Some x) f h = let z = beside_made x (beside y.constant Undefined) h in (f z.0, (beside_made y.constant Undefined z.1).0)
    by None f h = absurd (false≢true h)
comma_made v w h = absurd (false≢true h)

pub cast_made : (target v : Valued) → made (cast_by target v) ≡ true → made v ≡ true
cast_made (number x) (number y) h = one_made _ y.constant h
cast_made (number x) (address u) h = unmade (cast_by (number x) (address u)) (neither (is_bool x.kind) (number _) untyped refl refl) h
cast_made (address t) (number y) h = unmade (cast_by (address t) (number y)) (neither (is_zero y.constant) (address t) untyped refl refl) h
cast_made (address t) (address u) h = unmade (cast_by (address t) (address u)) (neither (keeps_volatile t u) (address t) untyped refl refl) h
cast_made valueless untyped h = absurd (false≢true h)
cast_made target v h = absurd (false≢true h)

-- ---- what is no constant

pub assigned_not : (complete : Qualified → Bool) (fixed : ℕ → Bool) (s : Seen) (v : Valued) → made (assigned complete fixed s v) ≡ false
assigned_not complete fixed s v = neither (is_modifiable_seen complete fixed s && assignable (stored_value s) v) (stored_value s) untyped (stored_not s.type) refl

pub updated_not : (complete : Qualified → Bool) (fixed : ℕ → Bool) (moves : Bool) (s : Seen) (v : Valued) → made (updated complete fixed moves s v) ≡ false
updated_not complete fixed moves s v = neither (is_modifiable_seen complete fixed s) _ untyped (by (stored_value s) v (stored_not s.type)) refl
  where
    by : (target operand : Valued) → made target ≡ false → made (updated_by complete moves target operand) ≡ false
    by (number x) (number y) h = h
    by (address t) (number y) h = neither moves (moved complete t) untyped (moved_not complete t) refl
    by target operand h = refl

pub stepped_not : (complete : Qualified → Bool) (fixed : ℕ → Bool) (s : Seen) → made (stepped complete fixed s) ≡ false
stepped_not complete fixed s = neither (is_modifiable_seen complete fixed s) _ untyped (by (stored_value s) (stored_not s.type)) refl
  where
    by : (target : Valued) → made target ≡ false → made (stepped_by complete target) ≡ false
    by (number x) h = h
    by (address t) h = moved_not complete t
    by target h = refl

pub address_not : (s : Seen) → made (address_value s) ≡ false
address_not s = neither (s.lvalue && not s.register) (address s.type) untyped refl refl

-- places are none
abbrev pub unmade_seen : Seen → Type 0
unmade_seen s = is_made s.constant ≡ false

followed_not : (complete : Qualified → Bool) (t : Qualified) → unmade_seen (followed complete t)
followed_not complete t = by (complete t)
  where
    by : (b : Bool) → unmade_seen (if b then place_of t false else no_type)
    by true = refl
    by false = refl

pub dereferenced_not : (complete : Qualified → Bool) (v : Valued) → unmade_seen (dereferenced complete v)
dereferenced_not complete (address t) = followed_not complete t
dereferenced_not complete v = refl

pub subscripted_not : (complete : Qualified → Bool) (v w : Valued) → unmade_seen (subscripted complete v w)
subscripted_not complete (address t) (number y) = followed_not complete t
subscripted_not complete (number x) (address t) = followed_not complete t
subscripted_not complete v w = refl

pub member_not : (o : Option Qualified) (t : Qualified) (lvalue register : Bool) → unmade_seen (member_in o t lvalue register)
member_not None t lvalue register = refl
member_not (Some type) t lvalue register = refl

pub pointed_not : (o : Option Qualified) (v : Valued) → unmade_seen (pointed_member_of o v)
pointed_not o (address t) = member_not o t true false
pointed_not o v = refl
