-- Tests of rows of nodes.
use Rattle.std.proofs.Common.{◌≡◌, ℕ, ◌+◌, Bool, List, drop}
use Rattle.cr_syntax.specs.declared.node.Node.{Node}
use Rattle.cr_syntax.specs.Trees.{none, one}
use Rattle.cr_syntax.specs.Kept.{row_in}
use Rattle.cr_syntax.specs.Context.{ends_open}
use Rattle.cr_syntax.specs.Kept.{IsFirst}

pub open_last : (ns : List Node) (row next : List ℕ) (n : Node) (r : Bool) → next ≡ drop 1 row → IsFirst ns row n → row_in ns next ≡ none →
    ((i j : ℕ) → r ≡ ends_open (one n.kind i j (row_in ns n.parts))) → r ≡ ends_open (row_in ns row)
open_last ns row next n r q f e h = rw (f.tree, ← q, e) (h n.first (n.last + 1))
