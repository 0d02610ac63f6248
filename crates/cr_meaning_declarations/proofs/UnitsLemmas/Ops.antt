-- The operations of a unit's program, by its nodes.
use Rattle.std.proofs.Common.{◌≡◌, ℕ, zero, suc, ◌+◌, List, [], ◌∷◌, ◌++◌, Some, length, refl, ap, ◌∙◌, slice_get, arith}
use Rattle.cr_syntax.specs.declared.node.Node.{Node}
use Rattle.cr_typed.specs.declared.typed.Typed.{Typed}
use Rattle.cr_meaning.specs.declared.op.Op.{Op}
use Rattle.cr_meaning_operations.specs.Operations.{op_of, ops_from, unit_op}

-- an operation of a node, or the whole program's behind them
pub data IsOp (t : Typed) (number : ℕ) (op : Op) : Type 0 where
  of_node : (n : Node) → slice_get t.nodes number ≡ Some n → op ≡ op_of t number → IsOp t number op
  of_whole : number ≡ length t.nodes → op ≡ unit_op t → IsOp t number op

pub data IsOpFrom (t : Typed) (from i : ℕ) (nodes : List Node) (last op : Op) : Type 0 where
  inner : (n : Node) → slice_get nodes i ≡ Some n → op ≡ op_of t (from + i) → IsOpFrom t from i nodes last op
  behind : i ≡ length nodes → op ≡ last → IsOpFrom t from i nodes last op

found : (t : Typed) (from i : ℕ) (nodes : List Node) (last op : Op) → slice_get (ops_from t from nodes ++ last ∷ []) i ≡ Some op → IsOpFrom t from i nodes last op
found t from zero [] last op e = behind refl cc
found t from (suc i) [] last op e = absurd cc
found t from zero (node ∷ nodes) last op e = let same : from ≡ from + 0 = omega arith in let is : op ≡ op_of t from = cc in inner node refl (is ∙ ap (λ k. op_of t k) same)
found t from (suc i) (node ∷ nodes) last op e = by (found t (suc from) i nodes last op e)
  where
    by : IsOpFrom t (suc from) i nodes last op → IsOpFrom t from (suc i) (node ∷ nodes) last op
    by (inner n at is) = let same : suc from + i ≡ from + suc i = omega arith in inner n at (is ∙ ap (λ k. op_of t k) same)
    by (behind e is) = behind (omega (arith, e)) is

pub is_op : (t : Typed) (number : ℕ) (op : Op) → slice_get (ops_from t 0 t.nodes ++ unit_op t ∷ []) number ≡ Some op → IsOp t number op
is_op t number op e = by (found t 0 number t.nodes (unit_op t) op e)
  where
    by : IsOpFrom t 0 number t.nodes (unit_op t) op → IsOp t number op
    by (inner n at is) = let same : 0 + number ≡ number = omega arith in of_node n at (is ∙ ap (λ k. op_of t k) same)
    by (behind e is) = of_whole e is
