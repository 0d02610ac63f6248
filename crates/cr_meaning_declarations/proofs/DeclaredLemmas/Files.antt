-- What each file's typed unit has: a unit of the grammar, whose nodes are listed in order and are those of the tree that was checked.
use Rattle.std.proofs.Common.{◌≡◌, ℕ, List, length, sym, subst, ap, ◌∙◌}
use Rattle.cr_syntax_order.specs.Listed.{AreListed}
use Rattle.cr_typed.specs.declared.typed.Typed.{Typed}
use Rattle.cr_meaning_declarations.specs.Units.Owned.{AreOfUnit}
use Rattle.cr_meaning_declarations.specs.Declared.Files.{IsUnitOfFile}
use Rattle.cr_meaning_declarations.proofs.DeclaredLemmas.Nodes.{of_unit}

module _ (file : List ℕ) (t : Typed) (it : IsUnitOfFile file t) where
  pub nodes_of : it.unit.nodes ≡ t.nodes
  nodes_of = sym it.made_by.elaborated.nodes_are

  pub tree_of : it.tree.nodes.now ≡ t.nodes
  tree_of = it.made_by.is.whole.tree.nodes ∙ nodes_of

  pub count_of_nodes : length t.nodes ≡ length it.unit.nodes
  count_of_nodes = ap length it.made_by.elaborated.nodes_are

  pub order_of : AreListed t.nodes 0 t.items (length t.nodes)
  order_of =
      subst (λ is. AreListed t.nodes 0 is (length t.nodes)) (sym it.made_by.elaborated.items_are)
      (subst (λ ns. AreListed ns 0 it.unit.items (length ns)) nodes_of it.listed)

-- A module on a file's unit opens this: `open has_unit file t it use {unit, order}`.
pub record HasUnit (file : List ℕ) (t : Typed) (it : IsUnitOfFile file t) : Type 0 where
  pub unit : AreOfUnit t
  pub order : AreListed t.nodes 0 t.items (length t.nodes)
  pub nodes_are : it.unit.nodes ≡ t.nodes
  pub tree_nodes : it.tree.nodes.now ≡ t.nodes
  pub count : length t.nodes ≡ length it.unit.nodes

abbrev pub has_unit : (file : List ℕ) (t : Typed) (it : IsUnitOfFile file t) → HasUnit file t it
has_unit file t it = record {
  unit = of_unit file t it;
  order = order_of file t it;
  nodes_are = nodes_of file t it;
  tree_nodes = tree_of file t it;
  count = count_of_nodes file t it;
}
