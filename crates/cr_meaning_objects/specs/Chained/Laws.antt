-- The declarations of one function of a file's unit (C11 6.2.2p2, 6.2.7p2, 6.9p3).
use Rattle.std.specs.Prelude.{◌≡◌, ℕ, ◌<◌, Bool, true, List, Some, slice_index_or}
use Rattle.cr_syntax.specs.declared.node.Kind.TheVariants as kind
use Rattle.cr_syntax.specs.declared.node.Node.{Node}
use Rattle.cr_scopes_bindings.specs.Entities.{declared_entity}
use Rattle.cr_scopes_linkage.specs.Shared.Origins.{IsDeclarer}
use Rattle.cr_check_expressions.specs.declared.known.Declared.TheVariants.{Function, Unclear}
use Rattle.cr_check_linkage.specs.NameTypes.{is_known}
use Rattle.cr_check_unit.specs.declared.typing.Typing.{Typing}
use Rattle.cr_check_signatures.specs.Functions.Linked.{now_at, IsFunction, Follows}
use Rattle.cr_check_signatures.specs.Functions.Outlines.{outline}
use Rattle.cr_typed.specs.declared.typed.Typed.{Typed}
use Rattle.cr_meaning_declarations.specs.Declared.Files.{IsUnitOfFile}
use Rattle.cr_meaning_declarations.specs.Linked.Laws.{DeclaresValue}

-- a declarator declares a function, by the columns of a check
abbrev pub DeclaresFunction : Typing → ℕ → Type 0
DeclaresFunction t p = (row : ℕ) × ((more : Bool) × (slice_index_or t.declared p Unclear ≡ Function row more))

-- what a declaration declares as an object or a function has a known type
abbrev pub ValuesAreKnown : Type 0
ValuesAreKnown = (file : List ℕ) (t : Typed) (it : IsUnitOfFile file t)
    → (token : ℕ) (v : DeclaresValue t.nodes token) → is_known (now_at it.checked.checked.table it.checked.checked.whole.typing v.declarator) ≡ true

-- a declaration that is of the entity of a function and before one of its declarations
pub record IsBehind (file : List ℕ) (t : Typed) (it : IsUnitOfFile file t) (q r : ℕ) : Type 0 where
  pub declares : DeclaresFunction it.checked.checked.whole.typing r
  pub function : IsFunction it.checked.by.tree it.checked.checked.table it.checked.checked.whole.typing r
  pub follows : Follows it.checked.by.tree it.checked.checked.table it.checked.checked.whole.typing q r
  pub alike : outline (now_at it.checked.checked.table it.checked.checked.whole.typing r) ≡ outline (now_at it.checked.checked.table it.checked.checked.whole.typing q)

-- what declares a function is behind all earlier declarations of its entity, and they declare functions too (6.2.2p2, K9)
abbrev pub DeclarationsFollow : Type 0
DeclarationsFollow = (file : List ℕ) (t : Typed) (it : IsUnitOfFile file t)
    → (one other k i q j r : ℕ) (m n : Node) → IsDeclarer t.nodes one i q m → IsDeclarer t.nodes other j r n → declared_entity it.names one ≡ Some k → declared_entity it.names other ≡ Some k
    → DeclaresFunction it.checked.checked.whole.typing q → other < one → IsBehind file t it q r

-- a definition declares a function (K2, K10)
abbrev pub DefinitionsDeclareFunctions : Type 0
DefinitionsDeclareFunctions = (file : List ℕ) (t : Typed) (it : IsUnitOfFile file t)
    → (token i q : ℕ) (m : Node) → IsDeclarer t.nodes token i q m → m.kind ≡ kind.FunctionDefinition → DeclaresFunction it.checked.checked.whole.typing q

-- so of the declarations of an entity one at most is a definition (6.9p3, p5, K10)
abbrev pub FunctionsHaveOneBody : Type 0
FunctionsHaveOneBody = (file : List ℕ) (t : Typed) (it : IsUnitOfFile file t)
    → (one other k i q j r : ℕ) (m n : Node) → IsDeclarer t.nodes one i q m → IsDeclarer t.nodes other j r n → declared_entity it.names one ≡ Some k → declared_entity it.names other ≡ Some k
    → m.kind ≡ kind.FunctionDefinition → n.kind ≡ kind.FunctionDefinition → one ≡ other

-- and any two have one outline (6.2.7p2, K9)
abbrev pub FunctionsAreOfOneOutline : Type 0
FunctionsAreOfOneOutline = (file : List ℕ) (t : Typed) (it : IsUnitOfFile file t)
    → (one other k i q j r : ℕ) (m n : Node) → IsDeclarer t.nodes one i q m → IsDeclarer t.nodes other j r n → declared_entity it.names one ≡ Some k → declared_entity it.names other ≡ Some k
    → DeclaresFunction it.checked.checked.whole.typing q → DeclaresFunction it.checked.checked.whole.typing r
    → (one ≡ other → ⊥) → outline (now_at it.checked.checked.table it.checked.checked.whole.typing q) ≡ outline (now_at it.checked.checked.table it.checked.checked.whole.typing r)
