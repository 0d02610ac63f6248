-- The declarations of names by nodes, of so many nodes.
use Rattle.std.specs.Prelude.{ℕ, List, Option, None}
use Rattle.cr_syntax.specs.declared.node.Node.{Node}
use Rattle.cr_scopes_bindings.specs.declared.bindings.Bindings.{Bindings}
use Rattle.cr_rows.specs.Columns.{AreOf}
use Rattle.cr_check_surroundings.specs.declared.links.Links.{Links}
use Rattle.cr_check_surroundings.specs.Named.{earlier_for, same_for, visible_for}

pub record AreLinks (b : Bindings) (nodes : List Node) (above : List (Option ℕ)) (bound : ℕ) (links : Links) : Type 0 where
  pub visible : AreOf (visible_for b nodes above) None bound links.visible
  pub earlier : AreOf (earlier_for b nodes above) None bound links.earlier
  pub same : AreOf (same_for b nodes above) None bound links.same
