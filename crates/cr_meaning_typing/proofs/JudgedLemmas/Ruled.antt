-- A rule reads nothing of other nodes but what the parts of its own have.
use Rattle.std.proofs.Common.{◌≡◌, ℕ, length, refl, ap, slice_get}
use Rattle.cr_syntax.specs.declared.node.Node.{Node}
use Rattle.cr_check_operands.specs.Values.{Seen, value_of_seen}
use Rattle.cr_check_operands.specs.Rules.{integers_value, shifted_value, sum_value, difference_value, order_value, equality_value, logical_value, negated_value, signed_value, comma_value}
use Rattle.cr_check_operands.specs.Places.{assigned, updated, stepped, address_value, dereferenced, subscripted, structure_in, member_of, pointed_member_of}
use Rattle.cr_check_expressions.specs.declared.form.Form.{Form}
use Rattle.cr_check_expressions.specs.declared.form.Form.TheVariants as form
use Rattle.cr_check_expressions.specs.Known.{Source}
use Rattle.cr_check_expressions.specs.Ruled.{operand, given, complete, member_in, pointed_structure, called, sized, converted, chosen, ruled}

pub same : (f : Form) (at other : ℕ → Seen) (s : Source) (i : ℕ) (n : Node) → operand at n.parts ≡ operand other n.parts → ruled f at s i n ≡ ruled f other s i n
same form.Name at other s i n e = refl
same form.Text at other s i n e = refl
same form.Integer at other s i n e = refl
same form.Character at other s i n e = refl
same form.SizeofType at other s i n e = refl
same form.Group at other s i n e = ap (λ (o : ℕ → Seen). o 0) e
same form.Subscript at other s i n e = ap (λ (o : ℕ → Seen). subscripted (complete s i) (value_of_seen (o 0)) (value_of_seen (o 1))) e
same form.Member at other s i n e = ap (λ (o : ℕ → Seen). member_of (member_in s i n.last (structure_in (o 0).type)) (o 0)) e
same form.PointerMember at other s i n e = ap (λ (o : ℕ → Seen). pointed_member_of (member_in s i n.last (pointed_structure (value_of_seen (o 0)))) (value_of_seen (o 0))) e
same form.Dereference at other s i n e = ap (λ (o : ℕ → Seen). dereferenced (complete s i) (value_of_seen (o 0))) e
same form.Cast at other s i n e = ap (λ (o : ℕ → Seen). converted (s.named (slice_get n.parts 0)) (value_of_seen (o 1))) e
same form.Conditional at other s i n e = ap (λ (o : ℕ → Seen). chosen o) e
same form.Call at other s i n e = ap (λ (o : ℕ → Seen). given (called (s.stands i) o (length n.parts))) e
same form.StepBehind at other s i n e = ap (λ (o : ℕ → Seen). given (stepped (complete s i) s.fixed (o 0))) e
same form.StepBefore at other s i n e = ap (λ (o : ℕ → Seen). given (stepped (complete s i) s.fixed (o 0))) e
same form.Address at other s i n e = ap (λ (o : ℕ → Seen). given (address_value (o 0))) e
same (form.Signed operator) at other s i n e = ap (λ (o : ℕ → Seen). given (signed_value operator (value_of_seen (o 0)))) e
same form.Negated at other s i n e = ap (λ (o : ℕ → Seen). given (negated_value (value_of_seen (o 0)))) e
same form.SizeofExpression at other s i n e = ap (λ (o : ℕ → Seen). given (sized s i (o 0).type)) e
same (form.Integers operator) at other s i n e = ap (λ (o : ℕ → Seen). given (integers_value operator (value_of_seen (o 0)) (value_of_seen (o 1)))) e
same form.Sum at other s i n e = ap (λ (o : ℕ → Seen). given (sum_value (complete s i) (value_of_seen (o 0)) (value_of_seen (o 1)))) e
same form.Difference at other s i n e = ap (λ (o : ℕ → Seen). given (difference_value (complete s i) (value_of_seen (o 0)) (value_of_seen (o 1)))) e
same (form.Shifted operator) at other s i n e = ap (λ (o : ℕ → Seen). given (shifted_value operator (value_of_seen (o 0)) (value_of_seen (o 1)))) e
same (form.Order operator) at other s i n e = ap (λ (o : ℕ → Seen). given (order_value operator (value_of_seen (o 0)) (value_of_seen (o 1)))) e
same (form.Equality operator) at other s i n e = ap (λ (o : ℕ → Seen). given (equality_value operator (value_of_seen (o 0)) (value_of_seen (o 1)))) e
same (form.Logical operator) at other s i n e = ap (λ (o : ℕ → Seen). given (logical_value operator (value_of_seen (o 0)) (value_of_seen (o 1)))) e
same form.Assign at other s i n e = ap (λ (o : ℕ → Seen). given (assigned (complete s i) s.fixed (o 0) (value_of_seen (o 1)))) e
same (form.Compound moves) at other s i n e = ap (λ (o : ℕ → Seen). given (updated (complete s i) s.fixed moves (o 0) (value_of_seen (o 1)))) e
same form.Comma at other s i n e = ap (λ (o : ℕ → Seen). given (comma_value (value_of_seen (o 0)) (value_of_seen (o 1)))) e
same form.Other at other s i n e = refl
