-- What a reader expects of the entities of a file's typed unit.
use Rattle.std.specs.Prelude.{◌≡◌, ℕ, true, List, slice_index_or}
use Rattle.cr_syntax.specs.declared.node.Kind.TheVariants as kind
use Rattle.cr_typed.specs.declared.typed.Typed.{Typed}
use Rattle.cr_typed.specs.declared.typed.Duration.TheVariants as duration
use Rattle.cr_meaning_operations.specs.Operations.{kind_at, entity_of, is_static_by, is_lasting}
use Rattle.cr_meaning_declarations.specs.Declared.Files.{IsUnitOfFile}

-- the node that declares an entity first stands for itself; a `goto` stands for its label (6.8.6.1)
abbrev pub FirstsAreTheirOwn : Type 0
FirstsAreTheirOwn = (file : List ℕ) (t : Typed) → IsUnitOfFile file t → (i : ℕ) → (kind_at t i ≡ kind.Goto → ⊥) → entity_of t (entity_of t i) ≡ entity_of t i

-- what a name stands for, where it has static duration, is one of the objects that are entered before main (6.2.4p3)
abbrev pub StaticObjectsLast : Type 0
StaticObjectsLast = (file : List ℕ) (t : Typed) → IsUnitOfFile file t → (i : ℕ) → (kind_at t i ≡ kind.Goto → ⊥) → is_static_by (slice_index_or t.durations (entity_of t i) duration.NoObject) ≡ true
    → is_lasting t (entity_of t i) (kind_at t (entity_of t i)) ≡ true
