-- Each expression that breaks nothing has a value, where its operands have.
use Rattle.std.proofs.Common.{◌≡◌, ◌-◌, length, ℕ, zero, suc, Bool, true, false, not, ◌&&◌, List, [], ◌∷◌, Option, None, Some, inl, inr, refl, sym, ap, ◌∙◌, slice_get, ◌==◌, if◌then◌else◌}
use Rattle.std.proofs.lemmas.Bool.{not-false, false≢true}
use Rattle.cr_syntax.specs.declared.node.Node.{Node}
use Rattle.cr_syntax.specs.declared.ctype.CType.{CType}
use Rattle.cr_syntax.specs.declared.ctype.CType.TheVariants.{Void, Int, Struct, Unknown}
use Rattle.cr_check_types.specs.Types.{Qualified, plain, pointer, array}
use Rattle.cr_check_types.specs.Relations.{qualified}
use Rattle.cr_check_constants.specs.declared.constant.Constant.TheVariants.{NotConstant}
use Rattle.std.specs.Option.{is_some}
use Rattle.cr_check_constants.specs.declared.constant.Constant.{Constant}
use Rattle.cr_check_constants.specs.declared.constant.Operand.{Operand}
use Rattle.cr_check_constants.specs.declared.operator.Arithmetic.{Arithmetic}
use Rattle.cr_check_constants.specs.declared.operator.Shift.{Shift}
use Rattle.cr_check_constants.specs.declared.operator.Relation.{Relation}
use Rattle.cr_check_constants.specs.declared.operator.Sign.{Sign}
use Rattle.cr_check_operands.specs.declared.logic.Junction.{Junction}
use Rattle.cr_check_operands.specs.Values.{Valued, number, address, structure, whole, valueless, untyped, Seen, seen_of, plain_value, value_in, value_beside_places, type_of_value, place_of, no_type}
use Rattle.cr_check_operands.specs.Rules.{constant_in, volatile_in, an_int, comma_value, scalar_constant, is_void, are_alike, are_related, keeps_volatile, is_zero, is_bool, moved, integers_value, shifted_value, sum_value, difference_value, order_value, equality_value, logical_by, negated_by, signed_value, size_value, merged, chosen_value, conditional_by, target_of, cast_by, assignable, stepped_by, updated_by}
use Rattle.cr_check_operands.specs.Places.{is_modifiable_seen, stored_value, assigned, updated, stepped, address_value, structure_in, followed, subscripted, dereferenced, member_of, pointed_member_of, member_in as found_in}
use Rattle.cr_check_expressions.specs.declared.form.Form.{Form}
use Rattle.cr_check_expressions.specs.declared.form.Form.TheVariants as form
use Rattle.cr_check_expressions.specs.declared.least.Break.{Break}
use Rattle.cr_check_expressions.specs.Known.{Signature, Source, Meaning, an_object, an_enumerator, a_function, a_type, unclear}
use Rattle.cr_check_types.specs.Layouts.{layout_of}
use Rattle.cr_check_expressions.specs.Ruled.{sized, called, counts_agree, are_passed, is_mispassed, pointed_structure, complete, member_in, ruled, given, is_type, is_typed, named_by, operand, value, literal}
use Rattle.cr_check_expressions.specs.Breaks.{call_faults, argument_faults, argument_fault, fault, faults_in, lacks_one, lacks_two, lacks_three, names_no_value}
use Rattle.cr_meaning_typing.specs.Typed.Typing.{has_value, IsClear, IsFound, IsRead, IsThere, AreWorth}
use Rattle.cr_meaning_typing.specs.Typed.Laws.{HoldsAll}

-- the fault isn't there
pub unbroken : (row token : ℕ) (b : Bool) (rest : List (Option Break)) → HoldsAll (fault row token b ∷ rest) → b ≡ false
unbroken row token true rest h = absurd (h (record { token = token; row = row }) (inl refl))
unbroken row token false rest h = refl

pub worth_typed : (t : Qualified) → has_value t ≡ true → is_type t ≡ true
worth_typed (plain Unknown c v) h = h
worth_typed (plain of c v) h = refl
worth_typed (pointer c v t) h = refl
worth_typed (array n t) h = refl

-- ---- what the operators make of values is no array that is no place, but for a comma

abbrev pub is_decayed : Valued → Bool
is_decayed (whole t) = false
is_decayed v = true

pub either : (b : Bool) (v w : Valued) → is_decayed v ≡ true → is_decayed w ≡ true → is_decayed (if b then v else w) ≡ true
either true v w h g = h
either false v w h g = g

plains : (of : CType) (c : Constant) → is_decayed (plain_value of c) ≡ true
plains (Int kind) c = refl
plains Void c = refl
plains (Struct node) c = refl
plains other c = refl

pub stored : (t : Qualified) (c : Constant) → is_decayed (value_in t c) ≡ true
stored (plain of c v) k = plains of k
stored (pointer c v t) k = refl
stored (array n t) k = refl

moves_on : (complete : Qualified → Bool) (t : Qualified) → is_decayed (moved complete t) ≡ true
moves_on complete t = either (complete t) (address t) untyped refl refl

pub integers : (operator : Arithmetic) (x y : Valued) → is_decayed (integers_value operator x y) ≡ true
integers operator (number x) (number y) = refl
integers operator x y = refl

pub shifts : (operator : Shift) (x y : Valued) → is_decayed (shifted_value operator x y) ≡ true
shifts operator (number x) (number y) = refl
shifts operator x y = refl

pub sums : (complete : Qualified → Bool) (x y : Valued) → is_decayed (sum_value complete x y) ≡ true
sums complete (number x) (number y) = refl
sums complete (address t) (number y) = moves_on complete t
sums complete (number x) (address t) = moves_on complete t
sums complete x y = refl

pub differences : (complete : Qualified → Bool) (x y : Valued) → is_decayed (difference_value complete x y) ≡ true
differences complete (number x) (number y) = refl
differences complete (address t) (number y) = moves_on complete t
differences complete (address t) (address u) = either (complete t && (complete u && are_alike t u)) _ untyped refl refl
differences complete x y = refl

pub orders : (operator : Relation) (x y : Valued) → is_decayed (order_value operator x y) ≡ true
orders operator (number x) (number y) = refl
orders operator (address t) (address u) = either (are_alike t u) an_int untyped refl refl
orders operator x y = refl

pub equalities : (operator : Relation) (x y : Valued) → is_decayed (equality_value operator x y) ≡ true
equalities operator (number x) (number y) = refl
equalities operator (address t) (address u) = either (are_related t u) an_int untyped refl refl
equalities operator (address t) (number y) = either (is_zero y.constant) an_int untyped refl refl
equalities operator (number x) (address u) = either (is_zero x.constant) an_int untyped refl refl
equalities operator x y = refl

pub junctions : (operator : Junction) (x y : Option Constant) → is_decayed (logical_by operator x y) ≡ true
junctions operator (Some x) (Some y) = refl
junctions operator x y = refl

pub negates : (x : Option Constant) → is_decayed (negated_by x) ≡ true
negates (Some x) = refl
negates None = refl

pub signs : (operator : Sign) (x : Valued) → is_decayed (signed_value operator x) ≡ true
signs operator (number x) = refl
signs operator x = refl

pub sizes : (complete : Bool) (bytes : ℕ) → is_decayed (size_value complete bytes) ≡ true
sizes complete bytes = either complete _ untyped refl refl

merges : (l r : Bool) (t u : Qualified) → is_decayed (merged l r t u) ≡ true
merges l r t u =
    either r (address t) _ refl (either l (address u) _ refl (either (are_alike t u) _ _ refl (either (is_void t) _ _ refl (either (is_void u) _ untyped refl refl))))

picks : (condition : Constant) (l r : Bool) (x y : Valued) → is_decayed (chosen_value condition l r x y) ≡ true
picks condition l r (number x) (number y) = refl
picks condition l r (structure n) (structure m) = either (n == m) (structure n) untyped refl refl
picks condition l r valueless valueless = refl
picks condition l r (address t) (address u) = merges l r t u
picks condition l r (address t) (number y) = either (is_zero y.constant) (address t) untyped refl refl
picks condition l r (number x) (address u) = either (is_zero x.constant) (address u) untyped refl refl
picks condition l r x y = refl

pub chooses : (condition : Option Constant) (l r : Bool) (x y : Valued) → is_decayed (conditional_by condition l r x y) ≡ true
chooses (Some condition) l r x y = picks condition l r x y
chooses None l r x y = refl

pub casts : (x y : Valued) → is_decayed (cast_by x y) ≡ true
casts valueless untyped = refl
casts valueless y = refl
casts (number x) (number y) = refl
casts (number x) (address u) = either (is_bool x.kind) _ untyped refl refl
casts (address t) (number y) = either (is_zero y.constant) (address t) untyped refl refl
casts (address t) (address u) = either (keeps_volatile t u) (address t) untyped refl refl
casts x y = refl

pub addresses : (s : Seen) → is_decayed (address_value s) ≡ true
addresses s = either (s.lvalue && not s.register) (address s.type) untyped refl refl

steps_by : (complete : Qualified → Bool) (x : Valued) → is_decayed (stepped_by complete x) ≡ true
steps_by complete (number x) = refl
steps_by complete (address t) = moves_on complete t
steps_by complete x = refl

pub steps : (complete : Qualified → Bool) (fixed : ℕ → Bool) (s : Seen) → is_decayed (stepped complete fixed s) ≡ true
steps complete fixed s = either (is_modifiable_seen complete fixed s) (stepped_by complete (stored_value s)) untyped (steps_by complete (stored_value s)) refl

pub assigns : (complete : Qualified → Bool) (fixed : ℕ → Bool) (s : Seen) (y : Valued) → is_decayed (assigned complete fixed s y) ≡ true
assigns complete fixed s y = either (is_modifiable_seen complete fixed s && assignable (stored_value s) y) (stored_value s) untyped (stored s.type NotConstant) refl

updates_by : (complete : Qualified → Bool) (moves : Bool) (x y : Valued) → is_decayed (updated_by complete moves x y) ≡ true
updates_by complete moves (number x) (number y) = refl
updates_by complete moves (address t) (number y) = either moves (moved complete t) untyped (moves_on complete t) refl
updates_by complete moves x y = refl

pub updates : (complete : Qualified → Bool) (fixed : ℕ → Bool) (moves : Bool) (s : Seen) (y : Valued) → is_decayed (updated complete fixed moves s y) ≡ true
updates complete fixed moves s y =
    either (is_modifiable_seen complete fixed s) (updated_by complete moves (stored_value s) y) untyped (updates_by complete moves (stored_value s) y) refl

-- a value that has a type has one of a value, unless it is an array that is no place
pub given_worth : (v : Valued) → is_decayed v ≡ true → is_type (type_of_value v) ≡ true → has_value (type_of_value v) ≡ true
given_worth (number x) d h = refl
given_worth (address t) d h = refl
given_worth (structure n) d h = refl
given_worth (whole t) d h = absurd (false≢true d)
given_worth valueless d h = refl
given_worth untyped d h = h

both_true : (a o : Bool) → (a && not o) ≡ false → a ≡ true → o ≡ true
both_true true true e h = refl
both_true true false e h = sym e
both_true false o e h = absurd (false≢true h)

all_true : (a b o : Bool) → (a && (b && not o)) ≡ false → a ≡ true → b ≡ true → o ≡ true
all_true true b o e h g = both_true b o e g
all_true false b o e h g = absurd (false≢true h)

three_true : (a b c o : Bool) → (a && (b && (c && not o))) ≡ false → a ≡ true → b ≡ true → c ≡ true → o ≡ true
three_true true b c o e h g k = all_true b c o e g k
three_true false b c o e h g k = absurd (false≢true h)

-- the row of a node with one, two or three operands
one_typed : (own a : Seen) → lacks_one own a ≡ false → has_value a.type ≡ true → is_typed own ≡ true
one_typed own a e h = both_true (is_typed a) (is_typed own) e (worth_typed a.type h)

two_typed : (own a b : Seen) → lacks_two own a b ≡ false → has_value a.type ≡ true → has_value b.type ≡ true → is_typed own ≡ true
two_typed own a b e h g = all_true (is_typed a) (is_typed b) (is_typed own) e (worth_typed a.type h) (worth_typed b.type g)

three_typed : (own a b c : Seen) → lacks_three own a b c ≡ false → has_value a.type ≡ true → has_value b.type ≡ true → has_value c.type ≡ true → is_typed own ≡ true
three_typed own a b c e h g k = three_true (is_typed a) (is_typed b) (is_typed c) (is_typed own) e (worth_typed a.type h) (worth_typed b.type g) (worth_typed c.type k)

-- ---- what is no place

as_given : (own : Seen) (v : Valued) (null : Bool) → own ≡ seen_of v null → is_decayed v ≡ true → is_typed own ≡ true → has_value own.type ≡ true
as_given own v null e d h = ap (λ (o : Seen). has_value o.type) e ∙ given_worth v d (sym (ap (λ (o : Seen). is_type o.type) e) ∙ h)

-- ---- places

complete_worth : (s : Source) (i : ℕ) (t : Qualified) → complete s i t ≡ true → has_value t ≡ true
complete_worth s i (plain (Int kind) c v) h = refl
complete_worth s i (plain (Struct node) c v) h = refl
complete_worth s i (plain other c v) h = absurd (false≢true h)
complete_worth s i (pointer c v t) h = refl
complete_worth s i (array n t) h = refl

followed_by : (s : Source) (i : ℕ) (t : Qualified) (b : Bool) → complete s i t ≡ b → is_typed (if b then place_of t false else no_type) ≡ true
    → has_value (if b then place_of t false else no_type).type ≡ true
followed_by s i t true e h = complete_worth s i t e
followed_by s i t false e h = h

followed_worth : (s : Source) (i : ℕ) (t : Qualified) → is_typed (followed (complete s i) t) ≡ true → has_value (followed (complete s i) t).type ≡ true
followed_worth s i t h = followed_by s i t (complete s i t) refl h

subscripted_worth : (s : Source) (i : ℕ) (a b : Valued) → is_typed (subscripted (complete s i) a b) ≡ true → has_value (subscripted (complete s i) a b).type ≡ true
subscripted_worth s i (address t) (number y) h = followed_worth s i t h
subscripted_worth s i (number x) (address t) h = followed_worth s i t h
subscripted_worth s i a b h = h

dereferenced_worth : (s : Source) (i : ℕ) (a : Valued) → is_typed (dereferenced (complete s i) a) ≡ true → has_value (dereferenced (complete s i) a).type ≡ true
dereferenced_worth s i (address t) h = followed_worth s i t h
dereferenced_worth s i a h = h

as_seen : (own made : Seen) → own ≡ made → (is_typed made ≡ true → has_value made.type ≡ true) → is_typed own ≡ true → has_value own.type ≡ true
as_seen own made e f h = ap (λ (o : Seen). has_value o.type) e ∙ f (sym (ap (λ (o : Seen). is_type o.type) e) ∙ h)

-- ---- names

by_name : (m : Meaning) (own : Seen) → own ≡ named_by m → names_no_value m ≡ false → IsClear m → has_value own.type ≡ true
by_name (an_object type register) own e h c = ap (λ (o : Seen). has_value o.type) e ∙ c
by_name (an_enumerator value) own e h c = ap (λ (o : Seen). has_value o.type) e
by_name (a_function signature) own e h c = absurd (false≢true (sym h))
by_name a_type own e h c = absurd (false≢true (sym h))
by_name unclear own e h c = absurd c

by_literal : (o : Option Operand) (own : Seen) → own ≡ given (literal o) → IsThere o → has_value own.type ≡ true
by_literal None own e r = absurd r
by_literal (Some operand) own e r = ap (λ (o : Seen). has_value o.type) e

comma_worth : (a b : Valued) → has_value (type_of_value b) ≡ true → has_value (type_of_value (comma_value a b)) ≡ true
comma_worth a (number y) h = refl
comma_worth a (address t) h = refl
comma_worth a (structure n) h = refl
comma_worth a (whole t) h = h
comma_worth a valueless h = refl
comma_worth a untyped h = h

seen_worth : (l : Bool) (t : Qualified) (c : Constant) → has_value t ≡ true → has_value (type_of_value (if l then value_in t c else value_beside_places t c)) ≡ true
seen_worth true (plain (Int kind) c v) k h = refl
seen_worth true (plain Void c v) k h = refl
seen_worth true (plain (Struct node) c v) k h = refl
seen_worth true (plain other c v) k h = absurd (false≢true h)
seen_worth true (pointer c v t) k h = refl
seen_worth true (array n t) k h = refl
seen_worth false (plain (Int kind) c v) k h = refl
seen_worth false (plain Void c v) k h = refl
seen_worth false (plain (Struct node) c v) k h = refl
seen_worth false (plain other c v) k h = absurd (false≢true h)
seen_worth false (pointer c v t) k h = refl
seen_worth false (array n t) k h = refl

value_worth : (t : Qualified) (c : Constant) → has_value t ≡ true → is_type (type_of_value (value_in t c)) ≡ true
value_worth (plain (Int kind) c v) k h = refl
value_worth (plain Void c v) k h = refl
value_worth (plain (Struct node) c v) k h = refl
value_worth (plain other c v) k h = absurd (false≢true h)
value_worth (pointer c v t) k h = refl
value_worth (array n t) k h = refl

-- ---- members

qualified_worth : (c v : Bool) (t : Qualified) → has_value t ≡ true → has_value (qualified c v t) ≡ true
qualified_worth c v (plain of d w) h = h
qualified_worth c v (pointer d w t) h = refl
qualified_worth c v (array n t) h = refl

found_worth : (o : Option Qualified) (from : Qualified) (lvalue register : Bool) (own : Seen) → own ≡ found_in o from lvalue register → is_some o ≡ true → IsFound o
    → has_value own.type ≡ true
found_worth None from lvalue register own e h f = absurd (false≢true h)
found_worth (Some type) from lvalue register own e h f = ap (λ (o : Seen). has_value o.type) e ∙ qualified_worth (constant_in from) (volatile_in from) type f

found_member : (o : Option Qualified) (from own : Seen) → own ≡ member_of o from → is_some o ≡ true → IsFound o → has_value own.type ≡ true
found_member o from own e h f = found_worth o from.type from.lvalue from.register own e h f

pointed_worth : (s : Source) (i token : ℕ) (v : Valued) (own : Seen) → own ≡ pointed_member_of (member_in s i token (pointed_structure v)) v
    → is_some (member_in s i token (pointed_structure v)) ≡ true → IsFound (member_in s i token (pointed_structure v)) → has_value own.type ≡ true
pointed_worth s i token (address t) own e h f = found_worth (member_in s i token (structure_in t)) t true false own e h f
pointed_worth s i token other own e h f = absurd (false≢true h)

-- ---- calls

and_true : (x y : Bool) → x ≡ true → y ≡ false → (x && not y) ≡ true
and_true true false h g = refl
and_true x true h g = absurd (false≢true (sym g))
and_true false false h g = absurd (false≢true h)

called_worth : (gives : Qualified) (a b : Bool) (own : Seen) → own ≡ given (if a && b then value_in gives NotConstant else untyped) → a ≡ true → b ≡ true → has_value gives ≡ true
    → has_value own.type ≡ true
called_worth gives true true own e h g w = as_given own (value_in gives NotConstant) false e (stored gives NotConstant) (ap (λ (o : Seen). is_type o.type) e ∙ value_worth gives NotConstant w)
called_worth gives true false own e h g w = absurd (false≢true g)
called_worth gives false b own e h g w = absurd (false≢true h)

later : (x : Option Break) (rest : List (Option Break)) → HoldsAll (x ∷ rest) → HoldsAll rest
later x rest h = λ b among. h b (inr among)

passed_all : (nodes : List Node) (signature : Signature) (argument : ℕ → Seen) (parts : List ℕ) (k : ℕ)
    → HoldsAll (argument_faults (argument_fault nodes (a_function signature) argument parts) k) → are_passed signature.parameter argument k ≡ true
passed_all nodes signature argument parts zero h = refl
passed_all nodes signature argument parts (suc k) h =
    and_true (are_passed signature.parameter argument k) (is_mispassed (signature.parameter k) (argument k))
    (passed_all nodes signature argument parts k (later _ _ h)) (unbroken 18 _ _ _ h)

by_call : (m : Meaning) (own : Seen) (argument : ℕ → Seen) (nodes : List Node) (first : ℕ) (parts : List ℕ) → own ≡ given (called m argument (length parts))
    → HoldsAll (call_faults nodes m argument first parts) → IsClear m → has_value own.type ≡ true
unfolding call_faults called
by_call (a_function signature) own argument nodes first parts e h c =
    called_worth signature.gives (counts_agree signature (length parts)) (are_passed signature.parameter argument (length parts)) own e
    (not-false (counts_agree signature (length parts)) (unbroken 17 first _ _ h))
    (passed_all nodes signature argument parts (length parts) (later _ _ h)) c.0
by_call (an_object type register) own argument nodes first parts e h c = absurd (false≢true (sym (unbroken 17 first _ _ h)))
by_call (an_enumerator value) own argument nodes first parts e h c = absurd (false≢true (sym (unbroken 17 first _ _ h)))
by_call a_type own argument nodes first parts e h c = absurd (false≢true (sym (unbroken 17 first _ _ h)))
by_call unclear own argument nodes first parts e h c = absurd c

-- ---- all forms of the fragment

pub typed : (f : Form) (own : Seen) (at : ℕ → Seen) (s : Source) (i : ℕ) (n : Node) → own ≡ ruled f at s i n
    → HoldsAll (faults_in f own at s i n) → IsRead f at s i n → AreWorth f at n.parts → has_value own.type ≡ true
typed form.Name own at s i n e h r w = by_name (s.stands i) own e (unbroken 16 n.first _ [] h) r
typed form.Integer own at s i n e h r w = by_literal _ own e r
typed form.Character own at s i n e h r w = by_literal _ own e r
typed form.Text own at s i n e h r w = ap (λ (o : Seen). has_value o.type) e
typed form.Group own at s i n e h r w = ap (λ (o : Seen). has_value o.type) e ∙ (w 0 refl)
typed form.Subscript own at s i n e h r w = as_seen own _ e (subscripted_worth s i (value at n.parts 0) (value at n.parts 1)) (two_typed own (operand at n.parts 0) (operand at n.parts 1) (unbroken _ _ _ [] h) (w 0 refl) (w 1 refl))
typed form.Dereference own at s i n e h r w = as_seen own _ e (dereferenced_worth s i (value at n.parts 0)) (one_typed own (operand at n.parts 0) (unbroken _ _ _ [] h) (w 0 refl))
typed form.StepBehind own at s i n e h r w = as_given own _ false e (steps (complete s i) s.fixed (operand at n.parts 0)) (one_typed own (operand at n.parts 0) (unbroken _ _ _ [] h) (w 0 refl))
typed form.StepBefore own at s i n e h r w = as_given own _ false e (steps (complete s i) s.fixed (operand at n.parts 0)) (one_typed own (operand at n.parts 0) (unbroken _ _ _ [] h) (w 0 refl))
typed form.Address own at s i n e h r w = as_given own _ false e (addresses (operand at n.parts 0)) (one_typed own (operand at n.parts 0) (unbroken _ _ _ [] h) (w 0 refl))
typed (form.Signed operator) own at s i n e h r w = as_given own _ false e (signs operator (value at n.parts 0)) (one_typed own (operand at n.parts 0) (unbroken _ _ _ [] h) (w 0 refl))
typed form.Negated own at s i n e h r w = as_given own _ false e (negates (scalar_constant (value at n.parts 0))) (one_typed own (operand at n.parts 0) (unbroken _ _ _ [] h) (w 0 refl))
typed form.SizeofExpression own at s i n e h r w =
    as_given own (sized s i (operand at n.parts 0).type) false e (sizes (complete s i (operand at n.parts 0).type) (layout_of s.layouts (operand at n.parts 0).type).size)
    (one_typed own (operand at n.parts 0) (unbroken _ _ _ [] h) (w 0 refl))
typed form.SizeofType own at s i n e h r w =
    as_given own (sized s i (s.named (slice_get n.parts 0))) false e (sizes (complete s i (s.named (slice_get n.parts 0))) (layout_of s.layouts (s.named (slice_get n.parts 0))).size)
    (both_true (is_type (s.named (slice_get n.parts 0))) (is_typed own) (unbroken _ _ _ [] h) (worth_typed _ r))
typed form.Cast own at s i n e h r w =
    as_given own _ _ e (casts (target_of (s.named (slice_get n.parts 0))) (value at n.parts 1)) (all_true (is_type (s.named (slice_get n.parts 0))) (is_typed (operand at n.parts 1)) (is_typed own) (unbroken _ _ _ [] h) (worth_typed _ r) (worth_typed _ (w 1 refl)))
typed form.Conditional own at s i n e h r w = as_given own _ false e (chooses (scalar_constant (value at n.parts 0)) (operand at n.parts 1).null (operand at n.parts 2).null (value at n.parts 1) (value at n.parts 2)) (three_typed own (operand at n.parts 0) (operand at n.parts 1) (operand at n.parts 2) (unbroken _ _ _ [] h) (w 0 refl) (w 1 refl) (w 2 refl))
typed (form.Integers operator) own at s i n e h r w = as_given own _ false e (integers operator (value at n.parts 0) (value at n.parts 1)) (two_typed own (operand at n.parts 0) (operand at n.parts 1) (unbroken _ _ _ [] h) (w 0 refl) (w 1 refl))
typed form.Sum own at s i n e h r w = as_given own _ false e (sums (complete s i) (value at n.parts 0) (value at n.parts 1)) (two_typed own (operand at n.parts 0) (operand at n.parts 1) (unbroken _ _ _ [] h) (w 0 refl) (w 1 refl))
typed form.Difference own at s i n e h r w = as_given own _ false e (differences (complete s i) (value at n.parts 0) (value at n.parts 1)) (two_typed own (operand at n.parts 0) (operand at n.parts 1) (unbroken _ _ _ [] h) (w 0 refl) (w 1 refl))
typed (form.Shifted operator) own at s i n e h r w = as_given own _ false e (shifts operator (value at n.parts 0) (value at n.parts 1)) (two_typed own (operand at n.parts 0) (operand at n.parts 1) (unbroken _ _ _ [] h) (w 0 refl) (w 1 refl))
typed (form.Order operator) own at s i n e h r w = as_given own _ false e (orders operator (value at n.parts 0) (value at n.parts 1)) (two_typed own (operand at n.parts 0) (operand at n.parts 1) (unbroken _ _ _ [] h) (w 0 refl) (w 1 refl))
typed (form.Equality operator) own at s i n e h r w = as_given own _ false e (equalities operator (value at n.parts 0) (value at n.parts 1)) (two_typed own (operand at n.parts 0) (operand at n.parts 1) (unbroken _ _ _ [] h) (w 0 refl) (w 1 refl))
typed (form.Logical operator) own at s i n e h r w = as_given own _ false e (junctions operator (scalar_constant (value at n.parts 0)) (scalar_constant (value at n.parts 1))) (two_typed own (operand at n.parts 0) (operand at n.parts 1) (unbroken _ _ _ [] h) (w 0 refl) (w 1 refl))
typed form.Assign own at s i n e h r w = as_given own _ false e (assigns (complete s i) s.fixed (operand at n.parts 0) (value at n.parts 1)) (two_typed own (operand at n.parts 0) (operand at n.parts 1) (unbroken _ _ _ [] h) (w 0 refl) (w 1 refl))
typed (form.Compound moves) own at s i n e h r w = as_given own _ false e (updates (complete s i) s.fixed moves (operand at n.parts 0) (value at n.parts 1)) (two_typed own (operand at n.parts 0) (operand at n.parts 1) (unbroken _ _ _ [] h) (w 0 refl) (w 1 refl))
typed form.Comma own at s i n e h r w = ap (λ (o : Seen). has_value o.type) e ∙ comma_worth (value at n.parts 0) (value at n.parts 1) (seen_worth (operand at n.parts 1).lvalue (operand at n.parts 1).type (operand at n.parts 1).constant (w 1 refl))
typed form.Other own at s i n e h r w = absurd r
typed form.Call own at s i n e h r w = by_call (s.stands i) own (operand at n.parts) s.nodes n.first n.parts e h r
typed form.Member own at s i n e h r w =
    found_member (member_in s i n.last (structure_in (operand at n.parts 0).type)) (operand at n.parts 0) own e
    (both_true (is_typed (operand at n.parts 0)) (is_some (member_in s i n.last (structure_in (operand at n.parts 0).type))) (unbroken 20 (n.last - 1) _ [] h)
    (worth_typed (operand at n.parts 0).type (w 0 refl))) r
typed form.PointerMember own at s i n e h r w =
    pointed_worth s i n.last (value at n.parts 0) own e
    (both_true (is_typed (operand at n.parts 0)) (is_some (member_in s i n.last (pointed_structure (value at n.parts 0)))) (unbroken 21 (n.last - 1) _ [] h)
    (worth_typed (operand at n.parts 0).type (w 0 refl))) r
