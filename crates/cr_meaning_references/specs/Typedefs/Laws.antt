-- Laws of the typedef names of a file's typed unit.
use Rattle.std.specs.Prelude.{◌≡◌, ℕ, List, None, Some, slice_get, slice_index_or}
use Rattle.cr_syntax.specs.declared.node.Kind.TheVariants as kind
use Rattle.cr_syntax.specs.declared.node.Node.{Node}
use Rattle.cr_check_declarations.specs.declared.tree.Tree.{Tree}
use Rattle.cr_check_declarations.specs.Before.{kind_in}
use Rattle.cr_typed.specs.declared.typed.Typed.{Typed}
use Rattle.cr_meaning_declarations.specs.Declared.Files.{IsAssembledFile}
use Rattle.cr_meaning_types.specs.Known.Sized.{AreTypedefs}

-- the declaration that a typedef name sees says `typedef` (6.7.8p3)
abbrev pub TypedefsAreSeen : Type 0
TypedefsAreSeen = (file : List ℕ) (t : Typed) (it : IsAssembledFile file t) → AreTypedefs it.checked.by.tree

-- so what it sees is no enumerator (6.2.1p4, 6.7.2.2p3)
abbrev pub SeeNoEnumerators : Tree → Type 0
SeeNoEnumerators u = (i p : ℕ) (n : Node) → slice_get u.nodes.now i ≡ Some n → n.kind ≡ kind.TypedefName → slice_index_or u.visible.now i None ≡ Some p
    → kind_in u.nodes.now (Some p) ≡ Some kind.Enumerator → ⊥

abbrev pub TypedefsAreNoEnumerators : Type 0
TypedefsAreNoEnumerators = (file : List ℕ) (t : Typed) (it : IsAssembledFile file t) → SeeNoEnumerators it.checked.by.tree
