-- What a reader expects of the names of a file's typed unit.
use Rattle.std.specs.Prelude.{◌≡◌, ℕ, true, List, slice_index_or}
use Rattle.cr_syntax.specs.declared.node.Kind.TheVariants as kind
use Rattle.cr_scopes_visibility.specs.Sight.Scopes.{is_blocklike}
use Rattle.cr_typed.specs.declared.typed.Typed.{Typed}
use Rattle.cr_typed.specs.declared.typed.Duration.TheVariants as duration
use Rattle.cr_meaning_operations.specs.Operations.{kind_at, entity_of, is_automatic_by}
use Rattle.cr_meaning_declarations.specs.Declared.Files.{IsUnitOfFile}
use Rattle.cr_meaning_declarations.specs.Sight.Under.{is_under}

-- an automatic object is named only in each block and each `for` in which it is declared (6.2.1p4, 6.2.4p5)
abbrev pub NamesStandInScopes : Type 0
NamesStandInScopes = (file : List ℕ) (t : Typed) → IsUnitOfFile file t → (i holder : ℕ) → kind_at t i ≡ kind.Identifier
    → is_automatic_by (slice_index_or t.durations (entity_of t i) duration.NoObject) ≡ true → is_blocklike (kind_at t holder) ≡ true → is_under t holder (entity_of t i) ≡ true
    → is_under t holder i ≡ true
