-- Definitions of functions (C11 6.9.1), of which the subset has none that takes `...`.
use Rattle.std.specs.Prelude.{◌≡◌, ℕ, Bool, false, List, Some, slice_get, slice_index_or}
use Rattle.cr_syntax.specs.declared.node.Kind.TheVariants as kind
use Rattle.cr_syntax.specs.declared.node.Node.{Node}
use Rattle.cr_scopes_linkage.specs.Shared.Origins.{IsDeclarer}
use Rattle.cr_check_expressions.specs.declared.known.Declared.TheVariants.{Function, Unclear}
use Rattle.cr_check_expressions.specs.Known.{Signature, a_function}
use Rattle.cr_typed.specs.declared.typed.Typed.{Typed}
use Rattle.cr_meaning_typing.specs.Judged.Judged.{source_of}
use Rattle.cr_meaning_declarations.specs.Declared.Files.{IsUnitOfFile}
use Rattle.cr_meaning_objects.specs.Called.Laws.{IsMeant}

-- what a definition declares takes no `...`, where the definition is an external declaration, as all are
abbrev pub DefinitionsTakeNoMore : Type 0
DefinitionsTakeNoMore = (file : List ℕ) (t : Typed) (it : IsUnitOfFile file t)
    → (token d q k : ℕ) (m : Node) → IsDeclarer t.nodes token d q m → m.kind ≡ kind.FunctionDefinition → slice_get t.items k ≡ Some d
    → (row : ℕ) (more : Bool) → slice_index_or it.checked.checked.whole.typing.declared q Unclear ≡ Function row more → more ≡ false

-- so a call that means it doesn't either: their declarations have one outline (6.2.7p2, K9)
abbrev pub CallsTakeNoMore : Type 0
CallsTakeNoMore = (file : List ℕ) (t : Typed) (it : IsUnitOfFile file t)
    → (i d k : ℕ) (signature : Signature) → (source_of it.checked.by.tree it.checked.checked i).stands i ≡ a_function signature → IsMeant file t it i d → slice_get t.items k ≡ Some d
    → signature.more ≡ false
