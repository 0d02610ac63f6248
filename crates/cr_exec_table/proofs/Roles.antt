-- The operation of a node, made by its role, is that of the definition.
use Rattle.std.proofs.Common.{◌≡◌, ℕ, ℤ, Bool, true, false, ◌&&◌, ◌||◌, Option, Some, None, List, [], slice_index_or, if◌then◌else◌, refl}
use Rattle.cr_meaning.specs.declared.op.Work.{Work}
use Rattle.cr_meaning.specs.declared.op.Work.TheVariants as work
use Rattle.cr_meaning.specs.declared.op.Relation.{Relation}
use Rattle.cr_meaning.specs.declared.op.Operator.TheVariants as operator
use Rattle.cr_syntax.specs.declared.node.Kind.{Kind}
use Rattle.cr_syntax.specs.declared.node.Kind.TheVariants as kind
use Rattle.cr_typed.specs.declared.typed.Typed.{Typed}
use Rattle.cr_meaning_operations.specs.Shapes.{type_of_node, pointed_element, kind_in, is_pointer}
use Rattle.cr_meaning_operations.specs.Operations.{kind_at, parts_at, node_op, left_type, right_type, constant_by, value_or, op_by, common_kind}
use Rattle.cr_exec_table.specs.Roles.{role_of, assignment_role, binary_role, unary_role, statement_role, op_in, op_at, duty_work, reach_work, leaf_work, sum_change}

node_if : (b : Bool) (parts : List ℕ) (x y : Work) → node_op parts (if b then x else y) ≡ (if b then node_op parts x else node_op parts y)
node_if true parts x y = refl
node_if false parts x y = refl

constant_is : (t : Typed) (node : ℕ) (value : Option ℤ) → node_op [] (work.Constant (kind_in (type_of_node t node)) (value_or value)) ≡ constant_by t node value
constant_is t node None = refl
constant_is t node (Some value) = refl

comparison_is : (t : Typed) (node : ℕ) (relation : Relation)
    → node_op (parts_at t node) (if is_pointer (left_type t node) || is_pointer (right_type t node) then work.ComparePointers relation else work.Compare relation (common_kind (left_type t node) (right_type t node)))
    ≡ (if is_pointer (left_type t node) || is_pointer (right_type t node) then node_op (parts_at t node) (work.ComparePointers relation) else node_op (parts_at t node) (work.Compare relation (common_kind (left_type t node) (right_type t node))))
comparison_is t node relation =
    node_if (is_pointer (left_type t node) || is_pointer (right_type t node)) (parts_at t node) (work.ComparePointers relation) (work.Compare relation (common_kind (left_type t node) (right_type t node)))

same : (t : Typed) (node : ℕ) (k : Kind) → op_in t node (role_of k) ≡ op_by t node k
unfolding op_in role_of assignment_role binary_role unary_role statement_role duty_work reach_work leaf_work
same t node kind.Subtract =
    node_if (is_pointer (left_type t node) && is_pointer (right_type t node)) (parts_at t node) (work.Distance (pointed_element t (left_type t node))) (work.Binary (sum_change t node operator.Subtract true))
same t node kind.Equal = comparison_is t node _
same t node kind.NotEqual = comparison_is t node _
same t node kind.Less = comparison_is t node _
same t node kind.Greater = comparison_is t node _
same t node kind.LessEqual = comparison_is t node _
same t node kind.GreaterEqual = comparison_is t node _
same t node kind.SizeofExpression = constant_is t node (slice_index_or t.constants node None)
same t node kind.SizeofType = constant_is t node (slice_index_or t.constants node None)
same t node kind.Integer = constant_is t node (slice_index_or t.constants node None)
same t node kind.Character = constant_is t node (slice_index_or t.constants node None)
same t node other = refl

pub op_is : (t : Typed) (node : ℕ) → op_in t node (role_of (kind_at t node)) ≡ op_at t node
unfolding op_at
op_is t node = same t node (kind_at t node)
