-- The tree of a unit.
use Rattle.std.proofs.Common.{ℕ, List}
use Rattle.cr_syntax.specs.Words.{AreSpans}
use Rattle.cr_syntax.specs.declared.unit.Unit as source
use Rattle.cr_check_declarations.specs.declared.tree.Tree.{Tree}
use Rattle.cr_check_surroundings.specs.declared.surroundings.Surroundings.{Surroundings}
use Rattle.cr_check_surroundings.specs.Surroundings.{IsTree}

pub tree_spans : (file : List ℕ) (unit : source.Unit) (s : Surroundings) (u : Tree) → IsTree file unit s u → AreSpans file unit.tokens.list.items
    → AreSpans u.file.now u.tokens.now
tree_spans file unit s u h spans = rw (h.file, h.tokens) spans
