-- What was judged of the nodes of a typed unit: by all its columns, and not by those before each node.
use Rattle.std.specs.Prelude.{◌≡◌, ℕ, List, [], Option, Some, length, slice_get, slice_index_or}
use Rattle.cr_syntax.specs.declared.node.Kind.TheVariants as kind
use Rattle.cr_syntax.specs.declared.node.Node.{Node}
use Rattle.cr_syntax.specs.declared.unit.Unit as source
use Rattle.cr_check_enclosing.specs.declared.context.Around.{Around}
use Rattle.cr_check_enclosing.specs.Above.{AreAbove}
use Rattle.cr_check_enclosing.specs.Around.{AreAround, outermost}
use Rattle.cr_check_types.specs.Types.{type_at}
use Rattle.cr_scopes.specs.declared.names.Names.{Names}
use Rattle.cr_check_operands.specs.Values.{Seen}
use Rattle.cr_check_expressions.specs.declared.least.Break.{Break}
use Rattle.cr_check_expressions.specs.Breaks.{IsAmong}
use Rattle.cr_check_expressions.specs.Forms.{form_of}
use Rattle.cr_check_expressions.specs.Known.{Source}
use Rattle.cr_check_expressions.specs.Ruled.{facts_at, ruled}
use Rattle.cr_check_declarations.specs.declared.tree.Tree.{Tree}
use Rattle.cr_check_statements.specs.Setting.{Scene}
use Rattle.cr_check_statements.specs.Statements.{faults_in}
use Rattle.cr_check_unit.specs.Typing.{cut, source_in}
use Rattle.cr_check_unit.specs.Statements.{scene_in}
use Rattle.cr_check.specs.declared.checked.Checked.{Checked}
use Rattle.cr_typed.specs.declared.typed.Typed.{Typed}
use Rattle.cr_typed_unit.specs.Typed.{IsTypedBy}
use Rattle.cr_meaning_operations.specs.Shapes.{named_type}
use Rattle.cr_meaning_typing.specs.Typed.Columns.{AreColumns}

-- what each expression was found to have
abbrev pub seen_in : Checked → ℕ → Seen
seen_in checked i = facts_at checked.table checked.whole.typing.facts i

-- what its rule reads of the unit
abbrev pub source_of : Tree → Checked → ℕ → Source
source_of tree checked i = source_in (type_at checked.table) tree checked.texts (cut i checked.whole.typing)

-- what its statements are checked by
abbrev pub scene_of : Tree → Checked → Scene
scene_of tree checked = scene_in checked.table tree checked.whole.typing checked.whole.marked

-- at each node `at` is what was found, which the rule of the node makes of what its operands have, and no statement breaks a constraint
pub record IsJudged (t : Typed) (at : ℕ → Seen) (s : ℕ → Source) (scene : Scene) (above : List (Option ℕ)) (around : List Around) : Type 0 where
  pub columns : AreColumns t at
  pub ruled : (i : ℕ) (n : Node) → slice_get t.nodes i ≡ Some n → at i ≡ ruled (form_of n.kind) at (s i) i n
  pub sees : scene.at ≡ at
  pub nodes : scene.nodes ≡ t.nodes
  pub stands : (i : ℕ) → scene.around i ≡ slice_index_or around i outermost
  pub allowed : (i : ℕ) (n : Node) (b : Break) → slice_get t.nodes i ≡ Some n → IsAmong (faults_in n.kind scene i n) b → ⊥
  -- the nodes above and around are those of the typed unit
  pub above_are : AreAbove t.nodes above
  pub around_are : AreAround t.nodes above around
  -- the type that a cast names (6.5.4), what the function around a `return` gives (6.8.6.4), and the bytes of a literal (6.4.5)
  pub casts : (i : ℕ) (n : Node) → slice_get t.nodes i ≡ Some n → n.kind ≡ kind.Cast → (s i).named (slice_get n.parts 0) ≡ named_type t i
  pub returns : (i : ℕ) (n : Node) → slice_get t.nodes i ≡ Some n → n.kind ≡ kind.Return → scene.gives (scene.around i).function ≡ named_type t i
  pub texts : (i k : ℕ) → (s i).text k ≡ length (slice_index_or t.texts k [])

-- of each typed unit
abbrev pub UnitsAreJudged : Type 0
UnitsAreJudged = (file : List ℕ) (unit : source.Unit) (names : Names) (checked : Checked) (typed : Typed) (by : IsTypedBy file unit names checked typed)
    → IsJudged typed (seen_in checked) (source_of by.tree checked) (scene_of by.tree checked) checked.surroundings.above checked.surroundings.around
