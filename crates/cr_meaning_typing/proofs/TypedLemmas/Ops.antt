-- The operations of a unit's program, by its nodes.
use Rattle.std.proofs.Common.{◌≡◌, ℕ, zero, suc, ◌+◌, List, [], ◌∷◌, ◌++◌, Some, length, refl, ap, ◌∙◌, slice_get, arith}
use Rattle.cr_syntax.specs.declared.node.Node.{Node}
use Rattle.cr_typed.specs.declared.typed.Typed.{Typed}
use Rattle.cr_meaning.specs.declared.op.Op.{Op}
use Rattle.cr_meaning.specs.declared.run.Limits.{Limits}
use Rattle.cr_meaning_operations.specs.Operations.{op_of, ops_from, unit_op}
use Rattle.cr_meaning_typing.specs.Typed.Whole.{AreOps}

each_from : (t : Typed) (from i : ℕ) (nodes : List Node) (n : Node) (last : Op) → slice_get nodes i ≡ Some n → slice_get (ops_from t from nodes ++ last ∷ []) i ≡ Some (op_of t (from + i))
each_from t from i [] n last e = absurd (cc e)
each_from t from zero (node ∷ nodes) n last e = let same : from ≡ from + 0 = omega arith in ap (λ k. Some (op_of t k)) same
each_from t from (suc i) (node ∷ nodes) n last e =
    let same : suc from + i ≡ from + suc i = omega arith in each_from t (suc from) i nodes n last e ∙ ap (λ k. Some (op_of t k)) same

last_from : (t : Typed) (from : ℕ) (nodes : List Node) (last : Op) → slice_get (ops_from t from nodes ++ last ∷ []) (length nodes) ≡ Some last
last_from t from [] last = refl
last_from t from (node ∷ nodes) last = last_from t (suc from) nodes last

count_from : (t : Typed) (from : ℕ) (nodes : List Node) (last : Op) → length (ops_from t from nodes ++ last ∷ []) ≡ length nodes + 1
count_from t from [] last = refl
count_from t from (node ∷ nodes) last = let rest = count_from t (suc from) nodes last in omega (arith, rest)

pub ops : (t : Typed) (limits : Limits) → AreOps t limits
ops t limits = record {
  each = λ i n e. each_from t 0 i t.nodes n (unit_op t) e ∙ (let same : 0 + i ≡ i = omega arith in ap (λ k. Some (op_of t k)) same);
  root = last_from t 0 t.nodes (unit_op t);
  count = count_from t 0 t.nodes (unit_op t);
}
