-- A law of the parameters of functions (C11 6.7.6.3).
use Rattle.std.specs.Prelude.{◌≡◌, ℕ, ◌<◌, false, List, [], None, Some, map, slice_get, slice_index_or}
use Rattle.cr_syntax.specs.declared.node.Node.{Node}
use Rattle.cr_scopes_events.specs.Declarators.{declarator_of}
use Rattle.cr_check_types.specs.declared.shape.Shape.{Shape}
use Rattle.cr_check_types.specs.Types.{Qualified, type_at}
use Rattle.cr_check_declarators.specs.Functions.{adjusted_type}
use Rattle.cr_check_declarations.specs.declared.tree.Tree.{Tree}
use Rattle.cr_check_declarations.specs.Before.{parts_in}
use Rattle.cr_check_declarations.specs.Named.{parameter_nodes}
use Rattle.cr_check_unit.specs.declared.typing.Typing.{Typing}
use Rattle.cr_check_unit.specs.Typing.{entry_at, IsTyping}
use Rattle.cr_check_signatures.specs.Functions.Outlines.{head}

-- parts stand below their nodes, which are above them
pub record AreParted (u : Tree) : Type 0 where
  pub below : (i k p : ℕ) (n : Node) → slice_get u.nodes.now i ≡ Some n → slice_get n.parts k ≡ Some p → p < i
  pub above : (i k p : ℕ) (n : Node) → slice_get u.nodes.now i ≡ Some n → slice_get n.parts k ≡ Some p → slice_index_or u.above.now p None ≡ Some i

-- the types of the parameters in the list of a function declarator, adjusted
abbrev pub listed_types : Tree → List Shape → Typing → ℕ → List Qualified
listed_types u shapes t l = map (λ p. adjusted_type (type_at shapes (slice_index_or t.named p 0))) (parameter_nodes u.nodes.now (slice_get (parts_in u.nodes.now (Some l)) 1))

-- what declares a function has the parameters of the list next to its name, qualifiers and what pointers point to aside
abbrev pub ParametersAreListed : Type 0
ParametersAreListed = (u : Tree) (texts : List (List ℕ)) (shapes : List Shape) (t : Typing) → IsTyping u texts shapes t → AreParted u
    → (p token l : ℕ) → (declarator_of u.nodes.now p).name ≡ Some token → (entry_at t p).own.declarator.misplaced ≡ false → (entry_at t p).own.declarator.function ≡ Some l
    → map head (map (type_at shapes) (slice_index_or t.parameters p [])) ≡ map head (listed_types u shapes t l)
