-- What the statements of a unit are checked by, and which constraints a unit breaks.
use Rattle.std.specs.Prelude.{◌≡◌, ℕ, ◌⊎◌, List, Bool, true, false, None, map, slice_get, slice_index_or, if◌then◌else◌}
use Rattle.cr_syntax.specs.declared.node.Kind.{Kind}
use Rattle.cr_syntax.specs.declared.node.Kind.TheVariants as kind
use Rattle.cr_syntax.specs.declared.node.Node.{Node}
use Rattle.cr_check_enclosing.specs.Around.{outermost}
use Rattle.cr_check_types.specs.declared.shape.Shape.{Shape}
use Rattle.cr_check_types.specs.Types.{type_at}
use Rattle.cr_check_expressions.specs.declared.least.Break.{Break}
use Rattle.cr_check_expressions.specs.Known.{named_row}
use Rattle.cr_check_expressions.specs.Ruled.{facts_at}
use Rattle.cr_check_statements.specs.Setting.{Scene, result_row}
use Rattle.cr_check_statements.specs.Statements.{IsBroken as IsStatementBroken}
use Rattle.cr_check_labels.specs.Labelled.{Scene as Labelled}
use Rattle.cr_check_labels.specs.Again.{AreAgain}
use Rattle.cr_check_labels.specs.Gotos.{AreLabels}
use Rattle.cr_check_declarations.specs.declared.tree.Tree.{Tree}
use Rattle.cr_check_unit.specs.declared.typing.Typing.{Typing}
use Rattle.cr_check_unit.specs.declared.statements.Marked.{Marked}
use Rattle.cr_check_unit.specs.Breaks.{IsBroken}

-- ---- labels, and what functions give

abbrev pub labelled_in : List Shape → Tree → Typing → Labelled
labelled_in shapes u t = record {
  nodes = u.nodes.now;
  at = facts_at shapes t.facts;
  around = λ node. slice_index_or u.around.now node outermost;
  name = λ token. slice_index_or u.names.now token token;
}

abbrev pub is_definition : Kind → Bool
is_definition kind.FunctionDefinition = true
is_definition k = false

-- the row of what a function gives, which the whole declarator of its definition names (6.9.1p2)
abbrev pub result_in : List ℕ → Node → ℕ
result_in named n = if is_definition n.kind then named_row named (slice_get n.parts 1) else 0

pub record AreMarked (shapes : List Shape) (u : Tree) (t : Typing) (m : Marked) : Type 0 where
  pub results : m.results ≡ map (result_in t.named) u.nodes.now
  pub again : AreAgain (labelled_in shapes u t) m.again
  pub labels : AreLabels (labelled_in shapes u t) m.labels

-- ---- statements

abbrev pub scene_in : List Shape → Tree → Typing → Marked → Scene
scene_in shapes u t m = record {
  nodes = u.nodes.now;
  at = facts_at shapes t.facts;
  around = λ node. slice_index_or u.around.now node outermost;
  gives = λ function. type_at shapes (result_row m.results function);
  again = λ node. slice_index_or m.again node false;
  label = λ node. slice_index_or m.labels node None;
}

-- an expression, a declaration or a statement of the unit breaks it
abbrev pub IsUnitBroken : Tree → List (List ℕ) → List Shape → Typing → Marked → Break → Type 0
IsUnitBroken u texts shapes t m b = IsBroken u texts shapes t b ⊎ IsStatementBroken (scene_in shapes u t m) b
