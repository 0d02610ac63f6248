-- What a reader expects of the sizes of types of a unit that breaks no constraint.
use Rattle.std.specs.Prelude.{ℕ, ◌≤◌, List, [], length, slice_index_or}
use Rattle.cr_tokens.specs.declared.token.Token.{Token}
use Rattle.cr_tokens.specs.Tokens.{Tokenizes}
use Rattle.cr_syntax.specs.declared.node.Node.{Node}
use Rattle.cr_syntax.specs.declared.unit.Unit as source
use Rattle.cr_scopes.specs.declared.names.Names.{Names}
use Rattle.cr_check_enclosing.specs.Around.{AreAround}
use Rattle.cr_check_types.specs.declared.shape.Shape.{Shape}
use Rattle.cr_check_types.specs.Layouts.{nothing}
use Rattle.cr_check_expressions.specs.declared.least.Break.{Break}
use Rattle.cr_check_literals.specs.Texts.{AreTexts}
use Rattle.cr_check_declarations.specs.declared.tree.Tree.{Tree}
use Rattle.cr_check_unit.specs.declared.typing.Typing.{Typing}
use Rattle.cr_check_unit.specs.Typing.{IsTyping}
use Rattle.cr_check_unit.specs.Breaks.{IsBroken}
use Rattle.cr_check.specs.declared.checked.Checked.{Checked}
use Rattle.cr_check.specs.Checked.{IsSound}
use Rattle.cr_check.specs.Columns.{IsChecked}
use Rattle.cr_typed.specs.declared.typed.Typed.{Typed}
use Rattle.cr_typed.specs.Typed.{MOST_CELLS}
use Rattle.cr_typed_columns.specs.declared.checked.CheckedColumns.{CheckedColumns}
use Rattle.cr_typed_columns.specs.Reading.{parsed_of}
use Rattle.cr_typed_columns.specs.Columns.{IsElaborated}
use Rattle.cr_typed_fit.specs.Fits.{IsFitting}
use Rattle.cr_typed_unit.specs.Typed.{AreColumnsOf}
use Rattle.cr_meaning_types.specs.Known.Shaped.{IsShaped}
use Rattle.cr_meaning_types.specs.Known.Sighted.{AreSighted}
use Rattle.cr_meaning_types.specs.Known.Sized.{AreTypedefs}
use Rattle.cr_meaning_types.specs.Fitting.Bounded.{IsBoundedIn}

-- all types are bounded, those of expressions, of names and their parameters, of members and of what is initialised
abbrev pub TypesAreBounded : Type 0
TypesAreBounded = (u : Tree) (texts : List (List ℕ)) (shapes : List Shape) (t : Typing) → IsTyping u texts shapes t → ((b : Break) → IsBroken u texts shapes t b → ⊥)
    → IsShaped u → AreAround u.nodes.now u.above.now u.around.now → AreSighted u → AreTypedefs u
    → ((node : ℕ) → length (slice_index_or texts node []) ≤ MOST_CELLS)
    → (at : ℕ) → length u.nodes.now ≤ at → (p : ℕ) → IsBoundedIn u.nodes.now t.layouts shapes at t p

-- and so is each structure (K7)
abbrev pub StructuresAreBounded : Type 0
StructuresAreBounded = (u : Tree) (texts : List (List ℕ)) (shapes : List Shape) (t : Typing) → IsTyping u texts shapes t → ((b : Break) → IsBroken u texts shapes t b → ⊥)
    → (p : ℕ) → (slice_index_or t.layouts p nothing).cells ≤ MOST_CELLS

-- a string literal has no more bytes than an array may have cells, since a file has no more
abbrev pub LiteralsAreShort : Type 0
LiteralsAreShort = (file : List ℕ) (tokens : List Token) (nodes : List Node) (texts : List (List ℕ)) → Tokenizes file tokens → AreTexts file tokens nodes texts
    → (node : ℕ) → length (slice_index_or texts node []) ≤ MOST_CELLS

-- so what is made of a unit without fault as a typed one fits, which is tested of it
abbrev pub TypedUnitsFit : Type 0
TypedUnitsFit = (file : List ℕ) (unit : source.Unit) (names : Names) (checked : Checked) (u : Tree) (j : CheckedColumns) (t : Typed)
    → IsChecked file unit names checked u → IsSound file unit names checked u → AreColumnsOf names checked u j → IsElaborated file (parsed_of unit) checked.texts j t
    → Tokenizes file unit.tokens.list.items → IsShaped u → AreSighted u → AreTypedefs u → IsFitting t
