-- What a reader expects of the names of a file's typed unit.
use Rattle.std.specs.Prelude.{◌≡◌, ℕ, true, List, None, Some, slice_get, slice_index_or}
use Rattle.std.specs.Option.{is_some}
use Rattle.cr_syntax.specs.declared.node.Node.{Node}
use Rattle.cr_check_expressions.specs.Forms.{form_of}
use Rattle.cr_typed.specs.declared.typed.Typed.{Typed}
use Rattle.cr_meaning_types.specs.Known.Sighted.{is_use, is_tagged, IsSpelled}
use Rattle.cr_meaning_declarations.specs.Declared.Files.{IsAssembledFile}
use Rattle.cr_meaning_types.specs.Found.Found.{AreFound}
use Rattle.cr_meaning_references.specs.Told.Told.{IsFoundBefore, AreAsked}

-- each name finds a declaration that stands before it, and declares an ordinary identifier (6.2.1p7, 6.2.3)
abbrev pub NamesAreFound : Type 0
NamesAreFound = (file : List ℕ) (t : Typed) (it : IsAssembledFile file t) (i : ℕ) (n : Node) → slice_get it.checked.by.tree.nodes.now i ≡ Some n → is_use n.kind ≡ true
    → IsFoundBefore it.checked.by.tree i

-- each tag finds one that is declared (6.7.2.3)
abbrev pub TagsAreFound : Type 0
TagsAreFound = (file : List ℕ) (t : Typed) (it : IsAssembledFile file t) (i : ℕ) (n : Node) → slice_get it.checked.by.tree.nodes.now i ≡ Some n → is_tagged n.kind ≡ true
    → is_some (slice_index_or it.checked.by.tree.tags.now i None) ≡ true

-- so of names only this is asked still
abbrev pub AllAreFound : Type 0
AllAreFound = (file : List ℕ) (t : Typed) (it : IsAssembledFile file t) → AreAsked it.checked.by.tree → AreFound it.checked.by.tree

-- each constant has a value (6.4.4)
abbrev pub ConstantsHaveValues : Type 0
ConstantsHaveValues = (file : List ℕ) (t : Typed) (it : IsAssembledFile file t) → (i : ℕ) (n : Node) → slice_get it.checked.by.tree.nodes.now i ≡ Some n
    → IsSpelled it.checked.by.tree (form_of n.kind) n.first
