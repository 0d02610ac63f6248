-- What is asked of names, tags and constants, where the rest is given by how they were resolved (C11 6.2.1, 6.4.4, 6.7.2.3).
use Rattle.std.specs.Prelude.{◌≡◌, ℕ, ◌<◌, true, None, Some, slice_get, slice_index_or}
use Rattle.std.specs.Option.{is_some}
use Rattle.cr_syntax.specs.declared.node.Kind.{Kind}
use Rattle.cr_syntax.specs.declared.node.Kind.TheVariants as kind
use Rattle.cr_syntax.specs.declared.node.Node.{Node}
use Rattle.cr_check_expressions.specs.Forms.{form_of}
use Rattle.cr_check_declarations.specs.declared.tree.Tree.{Tree}
use Rattle.cr_check_declarations.specs.Before.{kind_in}
use Rattle.cr_check_declarations.specs.Named.{declaration_of, names_ordinary}
use Rattle.cr_meaning_types.specs.Known.Sighted.{is_use, is_tagged, IsSpelled}

-- a declarator of a declaration or a parameter, and of no member (6.2.3)
pub record IsOrdinary (u : Tree) (p : ℕ) : Type 0 where
  pub declaration : ℕ
  pub is : declaration_of u.nodes.now u.above.now p ≡ Some declaration
  pub ordinary : names_ordinary (kind_in u.nodes.now (Some declaration)) ≡ true

-- A name finds a declaration that stands before it: that of a typedef name is no enumerator, and what is no enumerator is ordinary.
pub record IsNameFound (u : Tree) (i : ℕ) (k : Kind) : Type 0 where
  pub declared : ℕ
  pub is : slice_index_or u.visible.now i None ≡ Some declared
  pub below : declared < i
  pub typed : k ≡ kind.TypedefName → kind_in u.nodes.now (Some declared) ≡ Some kind.Enumerator → ⊥
  pub ordinary : (kind_in u.nodes.now (Some declared) ≡ Some kind.Enumerator → ⊥) → IsOrdinary u declared

-- a tag finds one that is declared, and a constant has a value
pub record AreFound (u : Tree) : Type 0 where
  pub names : (i : ℕ) (n : Node) → slice_get u.nodes.now i ≡ Some n → is_use n.kind ≡ true → IsNameFound u i n.kind
  pub tags : (i : ℕ) (n : Node) → slice_get u.nodes.now i ≡ Some n → is_tagged n.kind ≡ true → is_some (slice_index_or u.tags.now i None) ≡ true
  pub constants : (i : ℕ) (n : Node) → slice_get u.nodes.now i ≡ Some n → IsSpelled u (form_of n.kind) n.first
