-- The declarations of one object of a file's unit (C11 6.2.2, 6.2.4p3).
use Rattle.std.specs.Prelude.{◌≡◌, ℕ, ◌<◌, Bool, true, List, Some, slice_index_or}
use Rattle.cr_syntax.specs.declared.node.Node.{Node}
use Rattle.cr_scopes_bindings.specs.Entities.{declared_entity}
use Rattle.cr_scopes_linkage.specs.Shared.Origins.{IsDeclarer}
use Rattle.cr_check_expressions.specs.declared.known.Declared.TheVariants.{Object, Unclear}
use Rattle.cr_check_declarators.specs.Specifiers.{nothing}
use Rattle.cr_check_initialised.specs.Durations.{is_static}
use Rattle.cr_check_unit.specs.declared.typing.Typing.{Typing}
use Rattle.cr_check_signatures.specs.Functions.Linked.{has_linkage, does_at}
use Rattle.cr_typed.specs.declared.typed.Typed.{Typed}
use Rattle.cr_typed.specs.declared.typed.Duration.TheVariants as duration
use Rattle.cr_meaning_operations.specs.Operations.{entity_of, is_static_by}
use Rattle.cr_meaning_declarations.specs.Declared.Files.{IsUnitOfFile}

-- a declarator declares an object, by the columns of a check
abbrev pub DeclaresObject : Typing → ℕ → Type 0
DeclaresObject t p = (row : ℕ) × ((register : Bool) × (slice_index_or t.declared p Unclear ≡ Object row register))

-- a declarator declares with linkage (6.2.2), and of static duration (6.2.4p3)
pub record HasLinkage (file : List ℕ) (t : Typed) (it : IsUnitOfFile file t) (p : ℕ) : Type 0 where
  pub linked : has_linkage (does_at it.checked.by.tree it.checked.checked.table it.checked.checked.whole.typing p).linkage ≡ true
  pub lasts : is_static it.checked.by.tree (λ s. slice_index_or it.checked.checked.whole.typing.specified s nothing) (Some p) ≡ true

-- an object whose entity another declaration declares too has linkage, and so static duration (6.2.2p6, 6.2.4p3, 6.7p3)
abbrev pub SharedObjectsAreLinked : Type 0
SharedObjectsAreLinked = (file : List ℕ) (t : Typed) (it : IsUnitOfFile file t)
    → (one other k i q : ℕ) (m : Node) → IsDeclarer t.nodes one i q m → declared_entity it.names one ≡ Some k → declared_entity it.names other ≡ Some k → (other ≡ one → ⊥)
    → DeclaresObject it.checked.checked.whole.typing q → HasLinkage file t it q

-- what declares an object is behind declarations of objects alone (6.2.2p2, K9)
abbrev pub ObjectsFollowObjects : Type 0
ObjectsFollowObjects = (file : List ℕ) (t : Typed) (it : IsUnitOfFile file t)
    → (one other k i q j r : ℕ) (m n : Node) → IsDeclarer t.nodes one i q m → IsDeclarer t.nodes other j r n → declared_entity it.names one ≡ Some k → declared_entity it.names other ≡ Some k
    → DeclaresObject it.checked.checked.whole.typing q → other < one → DeclaresObject it.checked.checked.whole.typing r

-- what has static duration by one of its declarations has it by the first (6.2.4p3)
abbrev pub FirstsAreStatic : Type 0
FirstsAreStatic = (file : List ℕ) (t : Typed) (it : IsUnitOfFile file t)
    → (node : ℕ) → is_static_by (slice_index_or t.durations node duration.NoObject) ≡ true → is_static_by (slice_index_or t.durations (entity_of t node) duration.NoObject) ≡ true
