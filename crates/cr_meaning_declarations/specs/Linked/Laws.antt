-- What declares one entity of a file's unit (C11 6.2.2p2, 6.7p3).
use Rattle.std.specs.Prelude.{◌≡◌, ℕ, ◌<◌, true, List, None, Some, length, slice_index_or}
use Rattle.cr_syntax.specs.declared.node.Node.{Node}
use Rattle.cr_scopes_events.specs.Declarators.{declarator_of}
use Rattle.cr_scopes_events.specs.Scripts.{storage_of, role_by}
use Rattle.cr_scopes.specs.Resolved.{past_of}
use Rattle.cr_scopes.specs.Units.{unit_events}
use Rattle.cr_scopes_bindings.specs.Entities.{declared_entity, previous_of}
use Rattle.cr_scopes_linkage.specs.Shared.Sorts.{is_value, IsOfOneSort}
use Rattle.cr_scopes_linkage.specs.Shared.Origins.{IsDeclarer}
use Rattle.cr_check_surroundings.specs.Raised.{raised_of}
use Rattle.cr_typed.specs.declared.typed.Typed.{Typed}
use Rattle.cr_meaning_declarations.specs.Declared.Files.{IsUnitOfFile}

-- a token is told as a value, as a type or as a tag alone
abbrev pub TokensAreOfOneSort : Type 0
TokensAreOfOneSort = (file : List ℕ) (t : Typed) (it : IsUnitOfFile file t) (token : ℕ) → IsOfOneSort token (past_of (unit_events it.unit) (length (unit_events it.unit)))

-- a declaration or a definition declares a token as an object or a function
pub record DeclaresValue (nodes : List Node) (token : ℕ) : Type 0 where
  pub declaration : ℕ
  pub declarator : ℕ
  pub node : Node
  pub is : IsDeclarer nodes token declaration declarator node
  pub value : is_value (role_by (storage_of nodes node.parts) (declarator_of nodes declarator).next) ≡ true

-- what declares the entity of an object or a function declares an object or a function
abbrev pub ValuesShareEntities : Type 0
ValuesShareEntities = (file : List ℕ) (t : Typed) (it : IsUnitOfFile file t) (one other k : ℕ) → declared_entity it.names one ≡ Some k → declared_entity it.names other ≡ Some k
    → DeclaresValue t.nodes other → DeclaresValue t.nodes one

-- of two declarators of declarations the one whose name stands first has the lesser number
abbrev pub DeclaratorsAreInOrder : Type 0
DeclaratorsAreInOrder = (file : List ℕ) (t : Typed) → IsUnitOfFile file t → (one other i q j r : ℕ) (m n : Node) → IsDeclarer t.nodes one i q m → IsDeclarer t.nodes other j r n → one < other → q < r

-- what is known as the declaration before a declarator is the declarator of the last token before its own that declares the same
abbrev pub ColumnsFindTheDeclarationBefore : Type 0
ColumnsFindTheDeclarationBefore = (file : List ℕ) (t : Typed) (it : IsUnitOfFile file t) (one other i q j r : ℕ) (m n : Node) → IsDeclarer t.nodes one i q m → IsDeclarer t.nodes other j r n
    → previous_of it.names one ≡ Some other → slice_index_or it.checked.by.tree.same.now q None ≡ raised_of it.unit.nodes it.checked.checked.surroundings.above (Some r) q
