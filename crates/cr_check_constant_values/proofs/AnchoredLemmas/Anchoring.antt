-- What is anchored has operands that are, form by form (C11 6.6p6, p9).
use Rattle.std.proofs.Common.{◌≡◌, ℕ, zero, suc, ◌<◌, Bool, true, false, ◌&&◌, ◌||◌, List, None, Some, length, slice_get, inl, inr, ◌⊎◌, refl, sym, subst, ap, ◌∙◌, if◌then◌else◌}
use Rattle.std.proofs.lemmas.Bool.{and_parts, false≢true, or_left, or_right}
use Rattle.std.proofs.lemmas.List.{get_or-take}
use Rattle.cr_syntax.specs.declared.node.Node.{Node}
use Rattle.cr_check_constants.specs.declared.constant.Constant.{Constant}
use Rattle.cr_check_constants.specs.declared.constant.Constant.TheVariants.{NotConstant, Value}
use Rattle.cr_check_types.specs.declared.shape.Shape.{Shape}
use Rattle.cr_check_types.specs.Types.{Qualified, type_at}
use Rattle.cr_check_operands.specs.Values.{untyped, value_in, Seen, seen_at}
use Rattle.cr_check_operands.specs.Rules.{is_zero, target_of}
use Rattle.cr_check_operands.specs.Places.{structure_in, assigned, updated, stepped, address_value}
use Rattle.cr_check_expressions.specs.declared.form.Form.{Form}
use Rattle.cr_check_expressions.specs.declared.form.Form.TheVariants as form
use Rattle.cr_check_expressions.specs.Forms.{form_of}
use Rattle.cr_check_expressions.specs.Known.{Source, Meaning, an_object, an_enumerator, a_function, a_type, unclear}
use Rattle.cr_check_expressions.specs.Ruled.{operand, value, complete, member_in, pointed_structure, counts_agree, are_passed, called, ruled, seen_in, no_fact, facts_at}
use Rattle.cr_check_declarations.specs.declared.tree.Tree.{Tree}
use Rattle.cr_check_declarations.specs.Before.{Before, type_in}
use Rattle.cr_check_initialisers.specs.declared.anchor.Anchor.{Anchor}
use Rattle.cr_check_initialisers.specs.declared.anchor.Anchor.TheVariants.{Moving, Place, Address}
use Rattle.cr_check_initialisers.specs.Anchors.{is_value, is_address, is_pointer, reached, address_of, member_of as member_anchor}
use Rattle.cr_check_initialised.specs.Anchors.{anchor_at, anchor_in, has_address, constant_in, anchor_by}
use Rattle.cr_check_unit.specs.declared.typing.Typing.{Typing}
use Rattle.cr_check_unit.specs.Typing.{cut, entry_at, before_in, source_in, IsRuled, IsRuledIf, IsTyping}
use Rattle.cr_check_constant_values.specs.Anchored.Anchored.{is_made, is_placed, is_anchored, is_operand}
use Rattle.cr_check_constant_values.specs.Anchored.Laws
use Rattle.cr_check_constant_values.proofs.AnchoredLemmas.Operands.{made, value_made, neither, unmade, stored_not, integers_made, shifted_made, sum_made, difference_made, order_made, equality_made, logical_made, negated_made, signed_made, conditional_made, comma_made, cast_made, assigned_not, updated_not, stepped_not, address_not, unmade_seen, dereferenced_not, subscripted_not, member_not, pointed_not}

called_not : (m : Meaning) (argument : ℕ → Seen) (count : ℕ) → made (called m argument count) ≡ false
unfolding called
called_not (a_function signature) argument count =
    neither (counts_agree signature count && are_passed signature.parameter argument count) (value_in signature.gives NotConstant) untyped (stored_not signature.gives) refl
called_not (an_object type register) argument count = refl
called_not (an_enumerator value) argument count = refl
called_not a_type argument count = refl
called_not unclear argument count = refl

-- ---- constants

module _ (at : ℕ → Seen) (s : Source) (i : ℕ) (n : Node) where
  abbrev IsMade : ℕ → Type 0
  IsMade k = is_made (operand at n.parts k).constant ≡ true

  of_value : (k : ℕ) → made (value at n.parts k) ≡ true → IsMade k
  of_value k h = value_made (operand at n.parts k) h

  never : (o : Seen) {A : Type 0} → unmade_seen o → is_made o.constant ≡ true → A
  never o h g = absurd (false≢true (sym h ∙ g))

  constants : (f : Form) (k : ℕ) → is_operand f k ≡ true → is_made (ruled f at s i n).constant ≡ true → IsMade k
  constants form.Group zero o h = h
  constants form.Group (suc k) o h = absurd (false≢true o)
  constants form.Subscript k o h = never (ruled form.Subscript at s i n) (subscripted_not (complete s i) (value at n.parts 0) (value at n.parts 1)) h
  constants form.Member k o h =
      never (ruled form.Member at s i n) (member_not (member_in s i n.last (structure_in (operand at n.parts 0).type)) (operand at n.parts 0).type (operand at n.parts 0).lvalue (operand at n.parts 0).register) h
  constants form.PointerMember k o h = never (ruled form.PointerMember at s i n) (pointed_not (member_in s i n.last (pointed_structure (value at n.parts 0))) (value at n.parts 0)) h
  constants form.Dereference k o h = never (ruled form.Dereference at s i n) (dereferenced_not (complete s i) (value at n.parts 0)) h
  constants form.Cast zero o h = absurd (false≢true o)
  constants form.Cast (suc zero) o h = of_value 1 (cast_made (target_of (s.named (slice_get n.parts 0))) (value at n.parts 1) h)
  constants form.Cast (suc (suc k)) o h = absurd (false≢true o)
  constants form.Conditional zero o h = of_value 0 (conditional_made (value at n.parts 0) (operand at n.parts 1).null (operand at n.parts 2).null (value at n.parts 1) (value at n.parts 2) h).0
  constants form.Conditional (suc zero) o h = of_value 1 (conditional_made (value at n.parts 0) (operand at n.parts 1).null (operand at n.parts 2).null (value at n.parts 1) (value at n.parts 2) h).1.0
  constants form.Conditional (suc (suc zero)) o h = of_value 2 (conditional_made (value at n.parts 0) (operand at n.parts 1).null (operand at n.parts 2).null (value at n.parts 1) (value at n.parts 2) h).1.1
  constants form.Conditional (suc (suc (suc k))) o h = absurd (false≢true o)
  constants (form.Integers operator) zero o h = of_value 0 (integers_made operator (value at n.parts 0) (value at n.parts 1) h).0
  constants (form.Integers operator) (suc zero) o h = of_value 1 (integers_made operator (value at n.parts 0) (value at n.parts 1) h).1
  constants (form.Integers operator) (suc (suc k)) o h = absurd (false≢true o)
  constants form.Sum zero o h = of_value 0 (sum_made (complete s i) (value at n.parts 0) (value at n.parts 1) h).0
  constants form.Sum (suc zero) o h = of_value 1 (sum_made (complete s i) (value at n.parts 0) (value at n.parts 1) h).1
  constants form.Sum (suc (suc k)) o h = absurd (false≢true o)
  constants form.Difference zero o h = of_value 0 (difference_made (complete s i) (value at n.parts 0) (value at n.parts 1) h).0
  constants form.Difference (suc zero) o h = of_value 1 (difference_made (complete s i) (value at n.parts 0) (value at n.parts 1) h).1
  constants form.Difference (suc (suc k)) o h = absurd (false≢true o)
  constants (form.Shifted operator) zero o h = of_value 0 (shifted_made operator (value at n.parts 0) (value at n.parts 1) h).0
  constants (form.Shifted operator) (suc zero) o h = of_value 1 (shifted_made operator (value at n.parts 0) (value at n.parts 1) h).1
  constants (form.Shifted operator) (suc (suc k)) o h = absurd (false≢true o)
  constants (form.Order operator) zero o h = of_value 0 (order_made operator (value at n.parts 0) (value at n.parts 1) h).0
  constants (form.Order operator) (suc zero) o h = of_value 1 (order_made operator (value at n.parts 0) (value at n.parts 1) h).1
  constants (form.Order operator) (suc (suc k)) o h = absurd (false≢true o)
  constants (form.Equality operator) zero o h = of_value 0 (equality_made operator (value at n.parts 0) (value at n.parts 1) h).0
  constants (form.Equality operator) (suc zero) o h = of_value 1 (equality_made operator (value at n.parts 0) (value at n.parts 1) h).1
  constants (form.Equality operator) (suc (suc k)) o h = absurd (false≢true o)
  constants (form.Logical operator) zero o h = of_value 0 (logical_made operator (value at n.parts 0) (value at n.parts 1) h).0
  constants (form.Logical operator) (suc zero) o h = of_value 1 (logical_made operator (value at n.parts 0) (value at n.parts 1) h).1
  constants (form.Logical operator) (suc (suc k)) o h = absurd (false≢true o)
  constants form.Comma zero o h = of_value 0 (comma_made (value at n.parts 0) (value at n.parts 1) h).0
  constants form.Comma (suc zero) o h = of_value 1 (comma_made (value at n.parts 0) (value at n.parts 1) h).1
  constants form.Comma (suc (suc k)) o h = absurd (false≢true o)
  constants form.Assign k o h = unmade (assigned (complete s i) s.fixed (operand at n.parts 0) (value at n.parts 1)) (assigned_not (complete s i) s.fixed (operand at n.parts 0) (value at n.parts 1)) h
  constants (form.Compound moves) k o h = unmade (updated (complete s i) s.fixed moves (operand at n.parts 0) (value at n.parts 1)) (updated_not (complete s i) s.fixed moves (operand at n.parts 0) (value at n.parts 1)) h
  constants form.Call k o h = unmade (called (s.stands i) (operand at n.parts) (length n.parts)) (called_not (s.stands i) (operand at n.parts) (length n.parts)) h
  constants form.StepBehind k o h = unmade (stepped (complete s i) s.fixed (operand at n.parts 0)) (stepped_not (complete s i) s.fixed (operand at n.parts 0)) h
  constants form.StepBefore k o h = unmade (stepped (complete s i) s.fixed (operand at n.parts 0)) (stepped_not (complete s i) s.fixed (operand at n.parts 0)) h
  constants form.Address k o h = unmade (address_value (operand at n.parts 0)) (address_not (operand at n.parts 0)) h
  constants (form.Signed operator) zero o h = of_value 0 (signed_made operator (value at n.parts 0) h)
  constants (form.Signed operator) (suc k) o h = absurd (false≢true o)
  constants form.Negated zero o h = of_value 0 (negated_made (value at n.parts 0) h)
  constants form.Negated (suc k) o h = absurd (false≢true o)
  constants f k o h = absurd (false≢true o)

-- ---- addresses

pub address_placed : (a : Anchor) (t : Qualified) → is_address a t ≡ true → is_placed a ≡ true
address_placed Address t h = refl
address_placed Place t h = refl
address_placed Moving t h = absurd (false≢true h)

pub value_is_made : (c : Constant) → is_value c ≡ true → is_made c ≡ true
value_is_made (Value v) h = refl
value_is_made c h = absurd (false≢true h)

zero_is_made : (c : Constant) → is_zero c ≡ true → is_made c ≡ true
zero_is_made (Value v) h = refl
zero_is_made c h = absurd (false≢true h)

reached_by : (b : Bool) → is_placed (reached b) ≡ true → b ≡ true
reached_by true h = refl
reached_by false h = absurd (false≢true h)

address_of_placed : (a : Anchor) → is_placed (address_of a) ≡ true → is_placed a ≡ true
address_of_placed Place h = refl
address_of_placed a h = absurd (false≢true h)

member_placed : (a : Anchor) → is_placed (member_anchor a) ≡ true → is_placed a ≡ true
member_placed Place h = refl
member_placed a h = absurd (false≢true h)

pub one_of : (a b : Bool) → (a || b) ≡ true → (a ≡ true) ⊎ (b ≡ true)
one_of true b h = inl refl
one_of false b h = inr h

cast_given : (b : Bool) → is_placed (if b then Address else Moving) ≡ true → b ≡ true
cast_given true h = refl
cast_given false h = absurd (false≢true h)

module _ (b : Before) (at : ℕ → Anchor) (static : Bool) (parts : List ℕ) where
  abbrev IsOne : ℕ → Type 0
  IsOne k = (is_made (operand b.seen parts k).constant || is_placed (anchor_in at parts k)) ≡ true

  of_anchor : (k : ℕ) → is_placed (anchor_in at parts k) ≡ true → IsOne k
  of_anchor k h = or_right (is_made (operand b.seen parts k).constant) (is_placed (anchor_in at parts k)) h

  of_address : (k : ℕ) → has_address b.seen at parts k ≡ true → IsOne k
  of_address k h = of_anchor k (address_placed (anchor_in at parts k) (operand b.seen parts k).type h)

  of_constant : (k : ℕ) → is_made (operand b.seen parts k).constant ≡ true → IsOne k
  of_constant k h = or_left (is_made (operand b.seen parts k).constant) (is_placed (anchor_in at parts k)) h

  of_subscript : is_placed (anchor_by form.Subscript b at static parts) ≡ true → IsOne 0 × IsOne 1
  of_subscript h =
      elim (one_of (has_address b.seen at parts 0 && is_value (constant_in b.seen parts 1)) (has_address b.seen at parts 1 && is_value (constant_in b.seen parts 0)) (reached_by _ h)) [
        | inl x ↦ (let y = and_parts (has_address b.seen at parts 0) (is_value (constant_in b.seen parts 1)) x in (of_address 0 y.0, of_constant 1 (value_is_made (constant_in b.seen parts 1) y.1)))
        | inr x ↦ (let y = and_parts (has_address b.seen at parts 1) (is_value (constant_in b.seen parts 0)) x in (of_constant 0 (value_is_made (constant_in b.seen parts 0) y.1), of_address 1 y.0))
      ]

  of_cast : is_placed (anchor_by form.Cast b at static parts) ≡ true → IsOne 1
  of_cast h =
      let type = type_in b.named (slice_get parts 0) in
      let both = and_parts (is_pointer type) (has_address b.seen at parts 1 || is_zero (constant_in b.seen parts 1)) (cast_given _ h) in
      elim (one_of (has_address b.seen at parts 1) (is_zero (constant_in b.seen parts 1)) both.1) [
        | inl x ↦ of_address 1 x
        | inr x ↦ of_constant 1 (zero_is_made (constant_in b.seen parts 1) x)
      ]

  places : (f : Form) (k : ℕ) → is_operand f k ≡ true → is_placed (anchor_by f b at static parts) ≡ true → IsOne k
  places form.Name k o h = absurd (false≢true o)
  places form.Text k o h = absurd (false≢true o)
  places form.Group zero o h = of_anchor 0 h
  places form.Group (suc k) o h = absurd (false≢true o)
  places form.Subscript zero o h = (of_subscript h).0
  places form.Subscript (suc zero) o h = (of_subscript h).1
  places form.Subscript (suc (suc k)) o h = absurd (false≢true o)
  places form.Member zero o h = of_anchor 0 (member_placed (anchor_in at parts 0) h)
  places form.Member (suc k) o h = absurd (false≢true o)
  places form.PointerMember zero o h = of_address 0 (reached_by (has_address b.seen at parts 0) h)
  places form.PointerMember (suc k) o h = absurd (false≢true o)
  places form.Address zero o h = of_anchor 0 (address_of_placed (anchor_in at parts 0) h)
  places form.Address (suc k) o h = absurd (false≢true o)
  places form.Dereference zero o h = of_address 0 (reached_by (has_address b.seen at parts 0) h)
  places form.Dereference (suc k) o h = absurd (false≢true o)
  places form.Cast zero o h = absurd (false≢true o)
  places form.Cast (suc zero) o h = of_cast h
  places form.Cast (suc (suc k)) o h = absurd (false≢true o)
  places f k o h = absurd (false≢true h)

-- ---- all of it

module _ (u : Tree) (texts : List (List ℕ)) (shapes : List Shape) (t : Typing) (is : IsTyping u texts shapes t) where
  ruled_at : (i : ℕ) (n : Node) → slice_get u.nodes.now i ≡ Some n → IsRuled u texts shapes (cut i t) (entry_at t i) i n
  ruled_at i n at = subst (IsRuledIf u texts shapes (cut i t) (entry_at t i) i) at (is.each i)

  module _ (i k part : ℕ) (n : Node) (e : slice_get n.parts k ≡ Some part) (low : part < i) where
    abbrev seen : ℕ → Seen
    seen = facts_at shapes (cut i t).facts

    abbrev anchor : ℕ → Anchor
    anchor = anchor_at (cut i t).anchors

    seen_is : operand seen n.parts k ≡ facts_at shapes t.facts part
    seen_is = ap (seen_in seen) e ∙ ap (seen_at shapes) (get_or-take i t.facts part no_fact low)

    anchor_is : anchor_in anchor n.parts k ≡ anchor_at t.anchors part
    anchor_is = ap (λ o. elim o [ None ↦ Moving | Some p ↦ anchor p ]) e ∙ get_or-take i t.anchors part Moving low

    back : (is_made (operand seen n.parts k).constant || is_placed (anchor_in anchor n.parts k)) ≡ true → is_anchored shapes t part ≡ true
    back h = sym (λ j. is_made (seen_is j).constant || is_placed (anchor_is j)) ∙ h

    pub operands_of : slice_get u.nodes.now i ≡ Some n → is_operand (form_of n.kind) k ≡ true → is_anchored shapes t i ≡ true → is_anchored shapes t part ≡ true
    operands_of at o h =
        let r = ruled_at i n at in
        elim (one_of (is_made (facts_at shapes t.facts i).constant) (is_placed (anchor_at t.anchors i)) h) [
          | inl x ↦
              back (or_left (is_made (operand seen n.parts k).constant) (is_placed (anchor_in anchor n.parts k))
              (constants seen (source_in (type_at shapes) u texts (cut i t)) i n (form_of n.kind) k o (ap (λ (s : Seen). is_made s.constant) (sym r.fact) ∙ x)))
          | inr x ↦ back (places (before_in shapes (cut i t)) anchor _ n.parts (form_of n.kind) k o (ap is_placed (sym r.anchor) ∙ x))
        ]

pub operands : Laws.OperandsAreAnchored
operands u texts shapes t is i k part n at e low o h = operands_of u texts shapes t is i k part n e low at o h
