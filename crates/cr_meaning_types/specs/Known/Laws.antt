-- What a reader expects of the types of a unit that breaks no constraint.
use Rattle.std.specs.Prelude.{◌≡◌, ℕ, List, [], false, Some, slice_get, slice_index_or}
use Rattle.cr_check_enclosing.specs.Around.{AreAround}
use Rattle.cr_check_types.specs.declared.shape.Shape.{Shape}
use Rattle.cr_check_types.specs.Types.{type_at}
use Rattle.cr_check_expressions.specs.declared.known.Member.{Member}
use Rattle.cr_check_expressions.specs.declared.least.Break.{Break}
use Rattle.cr_check_declarations.specs.declared.tree.Tree.{Tree}
use Rattle.cr_check_unit.specs.declared.typing.Typing.{Typing}
use Rattle.cr_check_unit.specs.Typing.{IsTyping}
use Rattle.cr_check_unit.specs.Breaks.{IsBroken}
use Rattle.cr_meaning_typing.specs.Typed.Whole.{AreReadable}
use Rattle.cr_meaning_types.specs.Known.Shaped.{IsShaped}
use Rattle.cr_meaning_types.specs.Known.Sighted.{AreSighted}
use Rattle.cr_meaning_types.specs.Known.Sized.{is_open, AreTypedefs}
use Rattle.cr_meaning_types.specs.Known.Known.{AreKnown}

-- each declared type is known, where the declarations that names see stand before them
abbrev pub TypesAreKnown : Type 0
TypesAreKnown = (u : Tree) (texts : List (List ℕ)) (shapes : List Shape) (t : Typing) → IsTyping u texts shapes t → ((b : Break) → IsBroken u texts shapes t b → ⊥)
    → IsShaped u → AreSighted u → AreKnown u shapes t

-- and so is all that an expression reads
abbrev pub ExpressionsReadTypes : Type 0
ExpressionsReadTypes = (u : Tree) (texts : List (List ℕ)) (shapes : List Shape) (t : Typing) → IsTyping u texts shapes t → ((b : Break) → IsBroken u texts shapes t b → ⊥)
    → IsShaped u → AreSighted u → AreReadable u texts shapes t

-- no member is an array of unknown size, where typedef names see typedefs
abbrev pub MembersAreSized : Type 0
MembersAreSized = (u : Tree) (texts : List (List ℕ)) (shapes : List Shape) (t : Typing) → IsTyping u texts shapes t → ((b : Break) → IsBroken u texts shapes t b → ⊥)
    → IsShaped u → AreSighted u → AreAround u.nodes.now u.above.now u.around.now → AreTypedefs u
    → (i k : ℕ) (member : Member) → slice_get (slice_index_or t.members i []) k ≡ Some member → is_open (type_at shapes member.row) ≡ false
