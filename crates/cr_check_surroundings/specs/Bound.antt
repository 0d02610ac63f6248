-- What the declarations of a unit's names are, by tokens and by nodes.
use Rattle.std.specs.Prelude.{ℕ, List, Option, None, length}
use Rattle.cr_syntax.specs.declared.unit.Unit as tree
use Rattle.cr_scopes.specs.declared.names.Names.{Names}
use Rattle.cr_scopes_bindings.specs.Bindings.{AreBindings}
use Rattle.cr_rows.specs.Columns.{AreOf}
use Rattle.cr_check_surroundings.specs.declared.bound.BoundNodes.{BoundNodes}
use Rattle.cr_check_surroundings.specs.Links.{AreLinks}
use Rattle.cr_check_surroundings.specs.Named.{tag_of}

pub record AreBound (file : List ℕ) (unit : tree.Unit) (names : Names) (above : List (Option ℕ)) (b : BoundNodes) : Type 0 where
  pub bindings : AreBindings file unit names b.bindings
  pub links : AreLinks b.bindings unit.nodes above (length unit.nodes) b.links
  pub tags : AreOf (tag_of b.bindings names unit.nodes unit.tokens.list.items) None (length unit.nodes) b.tags
