-- What is used is defined, of the objects of a file's unit (C11 6.9p3, p5, K40).
use Rattle.std.specs.Prelude.{◌≡◌, ℕ, true, List, None, Some, slice_get, slice_index_or}
use Rattle.cr_syntax.specs.declared.node.Kind.TheVariants as kind
use Rattle.cr_syntax.specs.declared.node.Node.{Node}
use Rattle.cr_scopes_bindings.specs.Entities.{entity_at, declared_entity}
use Rattle.cr_scopes_linkage.specs.Shared.Origins.{IsDeclarer}
use Rattle.cr_typed.specs.declared.typed.Typed.{Typed}
use Rattle.cr_typed.specs.declared.typed.Duration.TheVariants as duration
use Rattle.cr_meaning_operations.specs.Operations.{entity_of}
use Rattle.cr_meaning_typing.specs.Judged.Judged.{seen_in}
use Rattle.cr_meaning_declarations.specs.Declared.Files.{IsUnitOfFile}
use Rattle.cr_meaning_objects.specs.Objects.Laws.{DeclaresObject}

-- a name of an entity that a declaration declares as an object names one that the program has (6.9p3, p5, K40)
abbrev pub NamedObjectsAreKept : Type 0
NamedObjectsAreKept = (file : List ℕ) (t : Typed) (it : IsUnitOfFile file t)
    → (i token k declaration q : ℕ) (n m : Node) → slice_get t.nodes i ≡ Some n → n.kind ≡ kind.Identifier → entity_at it.names n.first ≡ Some k
    → IsDeclarer t.nodes token declaration q m → declared_entity it.names token ≡ Some k → DeclaresObject it.checked.checked.whole.typing q
    → slice_index_or t.durations (entity_of t i) duration.NoObject ≡ duration.NoObject → ⊥

-- the declaration that is visible at a token declares an object, by its whole declarator
pub record SeesObject (file : List ℕ) (t : Typed) (it : IsUnitOfFile file t) (name : ℕ) : Type 0 where
  pub token : ℕ
  pub visible : slice_index_or it.checked.checked.surroundings.bindings.visible name None ≡ Some token
  pub declarator : ℕ
  pub declares : slice_index_or it.checked.checked.surroundings.bindings.declarers token None ≡ Some declarator
  pub object : DeclaresObject it.checked.checked.whole.typing declarator

-- a name that is a place sees an object (6.5.1p2)
abbrev pub PlacesSeeObjects : Type 0
PlacesSeeObjects = (file : List ℕ) (t : Typed) (it : IsUnitOfFile file t)
    → (i : ℕ) (n : Node) → slice_get t.nodes i ≡ Some n → n.kind ≡ kind.Identifier → (seen_in it.checked.checked i).lvalue ≡ true → SeesObject file t it n.first
