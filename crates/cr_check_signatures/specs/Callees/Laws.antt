-- Calls of the library's functions (C11 6.5.2.2, K9), in a unit that breaks no constraint.
use Rattle.std.specs.Prelude.{◌≡◌, ℕ, true, List, Some, length, slice_get}
use Rattle.cr_syntax.specs.declared.node.Kind.TheVariants as kind
use Rattle.cr_syntax.specs.declared.node.Node.{Node}
use Rattle.cr_syntax.specs.declared.unit.Unit as source
use Rattle.cr_scopes.specs.declared.names.Names.{Names}
use Rattle.cr_check_types.specs.declared.shape.Shape.{Shape}
use Rattle.cr_check_types.specs.Types.{Qualified, type_at}
use Rattle.cr_check_expressions.specs.declared.least.Break.{Break}
use Rattle.cr_check_expressions.specs.Known.{Signature, a_function, spelling_of}
use Rattle.cr_check_expressions.specs.Ruled.{is_type}
use Rattle.cr_check_declarators.specs.declared.functions.Library.{Library}
use Rattle.cr_check_declarators.specs.Functions.{library_of, library_type}
use Rattle.cr_check_declarations.specs.declared.tree.Tree.{Tree}
use Rattle.cr_check_surroundings.specs.declared.surroundings.Surroundings.{Surroundings}
use Rattle.cr_check_surroundings.specs.Surroundings.{AreSurroundings, IsTree}
use Rattle.cr_check_unit.specs.declared.typing.Typing.{Typing}
use Rattle.cr_check_unit.specs.Typing.{cut, source_in, IsTyping}
use Rattle.cr_check_unit.specs.Breaks.{IsBroken}

-- what a function gives and its parameters have types
pub record IsTyped (s : Signature) : Type 0 where
  pub gives : is_type s.gives ≡ true
  pub each : (k : ℕ) (type : Qualified) → s.parameter k ≡ Some type → is_type type ≡ true

-- a function has the type of this one of the library
pub record IsOf (l : Library) (s : Signature) : Type 0 where
  pub parameters : List Qualified
  pub count : s.count ≡ length parameters
  pub each : (k : ℕ) → s.parameter k ≡ slice_get parameters k
  pub is : library_type l (record { result = s.gives; variadic = s.more; parameters = parameters }) ≡ true

-- a called name that is spelled like a library's function, and stands for a function, stands for one of its type
abbrev pub LibraryCallsAreTyped : Type 0
LibraryCallsAreTyped = (file : List ℕ) (unit : source.Unit) (names : Names) (s : Surroundings) (u : Tree) (texts : List (List ℕ)) (shapes : List Shape) (t : Typing)
    → AreSurroundings file unit names s → IsTree file unit s u → IsTyping u texts shapes t → ((b : Break) → IsBroken u texts shapes t b → ⊥)
    → (i : ℕ) (n : Node) → slice_get unit.nodes i ≡ Some n → n.kind ≡ kind.Call → (signature : Signature) → (source_in (type_at shapes) u texts (cut i t)).stands i ≡ a_function signature → IsTyped signature
    → (l : Library) → library_of (spelling_of file unit.tokens.list.items n.first) ≡ Some l → IsOf l signature
