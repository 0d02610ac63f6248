-- Names whose declarations stand before them (C11 6.2.1p7), and what is asked of typedef names besides.
use Rattle.std.specs.Prelude.{◌≡◌, ℕ, ◌<◌, None, Some, slice_get, slice_index_or}
use Rattle.cr_syntax.specs.declared.node.Kind.TheVariants as kind
use Rattle.cr_syntax.specs.declared.node.Node.{Node}
use Rattle.cr_check_declarations.specs.declared.tree.Tree.{Tree}
use Rattle.cr_check_declarations.specs.Before.{kind_in}
use Rattle.cr_meaning_types.specs.Found.Found.{IsOrdinary}

-- a name finds a declaration that stands before it: an enumerator, or a declarator that declares an ordinary identifier
pub record IsFoundBefore (u : Tree) (i : ℕ) : Type 0 where
  pub declared : ℕ
  pub is : slice_index_or u.visible.now i None ≡ Some declared
  pub below : declared < i
  pub ordinary : (kind_in u.nodes.now (Some declared) ≡ Some kind.Enumerator → ⊥) → IsOrdinary u declared

-- premise: what a typedef name finds is no enumerator
pub record AreAsked (u : Tree) : Type 0 where
  pub typed : (i p : ℕ) (n : Node) → slice_get u.nodes.now i ≡ Some n → n.kind ≡ kind.TypedefName → slice_index_or u.visible.now i None ≡ Some p
      → kind_in u.nodes.now (Some p) ≡ Some kind.Enumerator → ⊥
