-- What a reader expects of the declared identifiers of a unit.
use Rattle.std.specs.Prelude.{◌≡◌, ℕ, Some, length, slice_get}
use Rattle.cr_syntax.specs.declared.node.Kind.TheVariants as kind
use Rattle.cr_syntax.specs.declared.node.Node.{Node}
use Rattle.cr_syntax_order.specs.Listed.{AreListed}
use Rattle.cr_typed.specs.declared.typed.Typed.{Typed}
use Rattle.cr_meaning_declarations.specs.Units.Owned.{AreOfUnit, IsBody}

-- the first node of a unit whose nodes are listed in order is neither a declaration nor a declarator
abbrev pub FirstDeclaresNothing : Type 0
FirstDeclaresNothing = (t : Typed) → AreOfUnit t → AreListed t.nodes 0 t.items (length t.nodes) → IsBody t 0

-- a token is the identifier that one node declares at the most (6.7.6p4)
abbrev pub TokensAreDeclaredOnce : Type 0
TokensAreDeclaredOnce = (t : Typed) → AreOfUnit t → AreListed t.nodes 0 t.items (length t.nodes) → (one other : ℕ) (n m : Node) → slice_get t.nodes one ≡ Some n → slice_get t.nodes other ≡ Some m
    → n.kind ≡ kind.NameDeclarator → m.kind ≡ kind.NameDeclarator → n.first ≡ m.first → one ≡ other
