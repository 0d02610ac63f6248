-- What a reader expects of names in the constant initialisers of a file's unit.
use Rattle.std.specs.Prelude.{◌≡◌, ◌≤◌, ℕ, true, false, List, Some, slice_get, slice_index_or}
use Rattle.cr_syntax.specs.declared.node.Kind.TheVariants as kind
use Rattle.cr_syntax.specs.declared.node.Node.{Node}
use Rattle.cr_scopes.specs.Units.{unit_events}
use Rattle.cr_scopes_visibility.specs.Sight.Scopes.{is_using}
use Rattle.cr_scopes_visibility.specs.Once.Told.{count_of}
use Rattle.cr_check_constant_values.specs.Anchored.Anchored.{is_anchored}
use Rattle.cr_typed.specs.declared.typed.Typed.{Typed}
use Rattle.cr_typed.specs.declared.typed.Duration.TheVariants as duration
use Rattle.cr_meaning_operations.specs.Operations.{entity_of, is_automatic_by}
use Rattle.cr_meaning_declarations.specs.Declared.Files.{IsUnitOfFile}
use Rattle.cr_meaning_typing.specs.Judged.Judged.{seen_in}
use Rattle.cr_meaning_references.specs.Constant.Outside.{IsOutside}

-- a place that a name names, and whose address is constant, is no automatic object (6.2.4p3, 6.6p9), where the name is told once
abbrev pub AnchoredNamesLast : Type 0
AnchoredNamesLast = (file : List ℕ) (t : Typed) (it : IsUnitOfFile file t) → (i : ℕ) (n : Node) → slice_get t.nodes i ≡ Some n → n.kind ≡ kind.Identifier
    → (seen_in it.checked.checked i).lvalue ≡ true → is_anchored it.checked.checked.table it.checked.checked.whole.typing i ≡ true → count_of n.first (unit_events it.unit) ≤ 1
    → is_automatic_by (slice_index_or t.durations (entity_of t i) duration.NoObject) ≡ false

-- and a name that is used, also a called one, is told once where it stands among no definition's parameters, which are told twice (6.9.1)
abbrev pub NamesAreToldOnce : Type 0
NamesAreToldOnce = (file : List ℕ) (t : Typed) (it : IsUnitOfFile file t) (i : ℕ) (n : Node) → slice_get t.nodes i ≡ Some n → is_using n.kind ≡ true → IsOutside t i
    → count_of n.first (unit_events it.unit) ≤ 1
