-- What is known of a unit's nodes before any of them is judged.
use Rattle.std.specs.Prelude.{◌≡◌, ℕ, List, None, length}
use Rattle.cr_syntax.specs.declared.unit.Unit as tree
use Rattle.cr_check_enclosing.specs.Above.{AreAbove}
use Rattle.cr_check_enclosing.specs.Around.{AreAround}
use Rattle.cr_scopes.specs.declared.names.Names.{Names}
use Rattle.cr_scopes_bindings.specs.Bindings.{AreBindings}
use Rattle.cr_rows.specs.Columns.{AreOf}
use Rattle.cr_check_declarations.specs.declared.tree.Tree.{Tree}
use Rattle.cr_check_surroundings.specs.declared.surroundings.Surroundings.{Surroundings}
use Rattle.cr_check_surroundings.specs.Named.{earlier_for, same_for, tag_of, visible_for}
use Rattle.cr_check_surroundings.specs.Previous.{before_of}

pub record AreSurroundings (file : List ℕ) (unit : tree.Unit) (names : Names) (s : Surroundings) : Type 0 where
  pub bindings : AreBindings file unit names s.bindings
  pub above : AreAbove unit.nodes s.above
  pub previous : AreOf (before_of unit.nodes (length unit.nodes)) None (length unit.nodes) s.previous
  pub around : AreAround unit.nodes s.above s.around
  pub visible : AreOf (visible_for s.bindings unit.nodes s.above) None (length unit.nodes) s.visible
  pub earlier : AreOf (earlier_for s.bindings unit.nodes s.above) None (length unit.nodes) s.earlier
  pub same : AreOf (same_for s.bindings unit.nodes s.above) None (length unit.nodes) s.same
  pub tags : AreOf (tag_of s.bindings names unit.nodes unit.tokens.list.items) None (length unit.nodes) s.tags

-- the tree is that of a unit, with what is known of its nodes
pub record IsTree (bytes : List ℕ) (unit : tree.Unit) (s : Surroundings) (t : Tree) : Type 0 where
  pub file : t.file.now ≡ bytes
  pub tokens : t.tokens.now ≡ unit.tokens.list.items
  pub nodes : t.nodes.now ≡ unit.nodes
  pub names : t.names.now ≡ s.bindings.spellings
  pub above : t.above.now ≡ s.above
  pub previous : t.previous.now ≡ s.previous
  pub around : t.around.now ≡ s.around
  pub visible : t.visible.now ≡ s.visible
  pub earlier : t.earlier.now ≡ s.earlier
  pub same : t.same.now ≡ s.same
  pub tags : t.tags.now ≡ s.tags
