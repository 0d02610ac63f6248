-- Names that stand among no definition's parameters.
use Rattle.std.specs.Prelude.{◌≡◌, ◌==◌, ◌||◌, ℕ, suc, Bool, false, Some, slice_get}
use Rattle.cr_syntax.specs.declared.node.Kind.TheVariants as kind
use Rattle.cr_syntax.specs.declared.node.Node.{Node}
use Rattle.cr_scopes_events.specs.declared.declarator.Derivation.TheVariants as derivation
use Rattle.cr_scopes_events.specs.Declarators.{declarator_of}
use Rattle.cr_scopes_events.specs.Scripts.{parts_at}
use Rattle.cr_typed.specs.declared.typed.Typed.{Typed}
use Rattle.cr_meaning_declarations.specs.Sight.Under.{is_under}

-- the name is the node, or stands under it
abbrev pub leads : Typed → ℕ → ℕ → Bool
leads t i x = (x == i) || is_under t x i

-- no parameter of a definition's own list leads to it
abbrev pub IsOutside : Typed → ℕ → Type 0
IsOutside t i = (d q l k x : ℕ) (m : Node) → slice_get t.nodes d ≡ Some m → m.kind ≡ kind.FunctionDefinition → slice_get m.parts 1 ≡ Some q
    → (declarator_of t.nodes q).next ≡ derivation.Function l → slice_get (parts_at t.nodes l) (suc k) ≡ Some x → leads t i x ≡ false
