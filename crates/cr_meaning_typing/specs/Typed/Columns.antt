-- What is known of a typed unit's expressions.
use Rattle.std.specs.Prelude.{◌≡◌, ℕ, ℤ, Bool, true, Option, Some, None, [], ◌∷◌, slice_index_or}
use Rattle.cr_check_constants.specs.declared.constant.Constant.{Constant}
use Rattle.cr_check_constants.specs.declared.constant.Constant.TheVariants as constant
use Rattle.cr_check_constants.specs.declared.operator.Arithmetic.{Arithmetic}
use Rattle.cr_typed.specs.declared.typed.Typed.{Typed}
use Rattle.cr_check_operands.specs.Values.{Seen, value_of_seen}
use Rattle.cr_check_operands.specs.Rules.{integers_value, sum_value}
use Rattle.cr_check_expressions.specs.Known.{Source}
use Rattle.cr_check_expressions.specs.Ruled.{given, is_typed, complete}
use Rattle.cr_meaning.specs.World.{Program}
use Rattle.cr_meaning.specs.declared.op.Operator.{Operator}
use Rattle.cr_meaning.specs.declared.op.Op.{Op}
use Rattle.cr_meaning_soundness.specs.Sorts.{Sort}
use Rattle.cr_meaning_operations.specs.Shapes.{type_of_node}
use Rattle.cr_meaning_operations.specs.Operations.{parts_at, integers, sum, constant}
use Rattle.cr_meaning_typing.specs.Typed.Good.{IsGood, value_sort, row_at}

abbrev pub constant_value : Constant → Option ℤ
constant_value (constant.Value v) = Some v
constant_value other = None

-- the columns are what was judged
pub record AreColumns (t : Typed) (at : ℕ → Seen) : Type 0 where
  pub types : (i : ℕ) → type_of_node t i ≡ (at i).type
  pub constants : (i : ℕ) → slice_index_or t.constants i None ≡ constant_value (at i).constant

-- a node gives its value
abbrev pub IsValueAt : Program → Typed → (ℕ → Option Sort) → ℕ → Type 0
IsValueAt p t sorts a = sorts a ≡ Some (value_sort p (row_at t a) (type_of_node t a))

abbrev pub IsGoodAt : Program → Typed → (ℕ → Option Sort) → (ℕ → Bool) → ℕ → Op → Type 0
IsGoodAt p t sorts sees i op = IsGood p sorts sees op (value_sort p (row_at t i) (type_of_node t i))

abbrev pub IntegersAreGood : Type 0
IntegersAreGood = (p : Program) (t : Typed) (sorts : ℕ → Option Sort) (sees : ℕ → Bool) (at : ℕ → Seen) → AreColumns t at → (i a b : ℕ) (op : Operator) (operator : Arithmetic)
    → parts_at t i ≡ a ∷ b ∷ [] → at i ≡ given (integers_value operator (value_of_seen (at a)) (value_of_seen (at b))) → is_typed (at i) ≡ true
    → IsValueAt p t sorts a → IsValueAt p t sorts b → IsGoodAt p t sorts sees i (integers t i op)

abbrev pub SumsAreGood : Type 0
SumsAreGood = (p : Program) (t : Typed) (sorts : ℕ → Option Sort) (sees : ℕ → Bool) (at : ℕ → Seen) (s : Source) → AreColumns t at → (i a b : ℕ)
    → parts_at t i ≡ a ∷ b ∷ [] → at i ≡ given (sum_value (complete s i) (value_of_seen (at a)) (value_of_seen (at b))) → is_typed (at i) ≡ true
    → IsValueAt p t sorts a → IsValueAt p t sorts b → IsGoodAt p t sorts sees i (sum t i)
