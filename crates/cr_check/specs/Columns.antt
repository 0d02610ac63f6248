-- What a unit of a file is checked by.
use Rattle.std.specs.Prelude.{◌≡◌, ℕ, List, [], None, slice_index_or}
use Rattle.cr_tokens.specs.declared.token.Token.{Token}
use Rattle.cr_syntax.specs.declared.node.Node.{Node}
use Rattle.cr_syntax.specs.declared.unit.Unit as source
use Rattle.cr_check_types.specs.declared.shape.Shape.{Shape}
use Rattle.cr_check_types.specs.Types.{type_at, unknown}
use Rattle.cr_scopes.specs.declared.names.Names.{Names}
use Rattle.cr_check_declarators.specs.Specifiers.{nothing}
use Rattle.cr_check_declarators.specs.Declarators.{name_alone}
use Rattle.cr_check_expressions.specs.declared.known.Declared.TheVariants.{Unclear}
use Rattle.cr_check_expressions.specs.declared.least.Break.{Break}
use Rattle.cr_check_expressions.specs.Known.{meaning_by, spelling_of}
use Rattle.cr_check_expressions.specs.Breaks.{IsFirst}
use Rattle.cr_check_declarations.specs.declared.tree.Tree.{Tree}
use Rattle.cr_check_literals.specs.Texts.{AreTexts}
use Rattle.cr_check_surroundings.specs.declared.surroundings.Surroundings.{Surroundings}
use Rattle.cr_check_surroundings.specs.Surroundings.{AreSurroundings, IsTree}
use Rattle.cr_check_unit.specs.declared.statements.Whole.{Whole}
use Rattle.cr_check_unit.specs.Typing.{IsTyping, AreWithin}
use Rattle.cr_check_unit.specs.Statements.{AreMarked, IsUnitBroken}
use Rattle.cr_check_definitions.specs.Known.{Known}
use Rattle.cr_check.specs.declared.checked.Checked.{Checked}

-- a typing of the unit by its surroundings, and what its statements are checked by
pub record IsWhole (file : List ℕ) (unit : source.Unit) (s : Surroundings) (texts : List (List ℕ)) (shapes : List Shape) (w : Whole) (u : Tree) : Type 0 where
  pub tree : IsTree file unit s u
  pub none : type_at shapes 0 ≡ unknown
  pub within : AreWithin shapes w.typing
  pub typing : IsTyping u texts shapes w.typing
  pub marked : AreMarked shapes u w.typing w.marked

-- the surroundings, the literals and the typing are those of the unit
pub record IsChecked (file : List ℕ) (unit : source.Unit) (names : Names) (j : Checked) (u : Tree) : Type 0 where
  pub surroundings : AreSurroundings file unit names j.surroundings
  pub texts : AreTexts file unit.tokens.list.items unit.nodes j.texts
  pub whole : IsWhole file unit j.surroundings j.texts j.table j.whole u

-- a constraint but K40 is broken
abbrev pub IsBrokenBy : List (List ℕ) → List Shape → Whole → Tree → Break → Type 0
IsBrokenBy texts shapes w u b = IsUnitBroken u texts shapes w.typing w.marked b

abbrev pub IsBrokenIn : Checked → Tree → Break → Type 0
IsBrokenIn j u b = IsBrokenBy j.texts j.table j.whole u b

-- what is known of the declarations
abbrev pub known_by : List ℕ → List Token → List Node → Checked → Known
known_by file tokens nodes j = record {
  nodes = nodes;
  spelling = spelling_of file tokens;
  above = λ node. slice_index_or j.surroundings.above node None;
  declarer = λ token. slice_index_or j.surroundings.bindings.declarers token None;
  specified = λ node. slice_index_or j.whole.typing.specified node nothing;
  function = λ node. (slice_index_or j.whole.typing.declarators node name_alone).function;
  stands = λ node. meaning_by (type_at j.table) (slice_index_or j.whole.typing.parameters node []) (slice_index_or j.whole.typing.declared node Unclear);
  named = λ node. type_at j.table (slice_index_or j.whole.typing.named node 0);
}

abbrev pub known_in : List ℕ → source.Unit → Checked → Known
known_in file unit j = known_by file unit.tokens.list.items unit.nodes j

-- and the first break is known
pub record IsWholeFirst (file : List ℕ) (unit : source.Unit) (s : Surroundings) (texts : List (List ℕ)) (shapes : List Shape) (w : Whole) : Type 0 where
  pub tree : Tree
  pub is : IsWhole file unit s texts shapes w tree
  pub first : IsFirst (IsBrokenBy texts shapes w tree) w.broken

pub record IsCheckedFirst (file : List ℕ) (unit : source.Unit) (names : Names) (j : Checked) : Type 0 where
  pub tree : Tree
  pub is : IsChecked file unit names j tree
  pub first : IsFirst (IsBrokenIn j tree) j.whole.broken
