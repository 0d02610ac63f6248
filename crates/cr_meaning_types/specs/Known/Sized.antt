-- Which types have a size: no member is an array of unknown size (C11 6.7.2.1p3, K14).
use Rattle.std.specs.Prelude.{◌≡◌, ℕ, ◌==◌, Bool, false, None, Some, slice_get, slice_index_or}
use Rattle.cr_syntax.specs.declared.node.Kind.TheVariants as kind
use Rattle.cr_syntax.specs.declared.node.Node.{Node}
use Rattle.cr_scopes_events.specs.declared.naming.Storage.TheVariants.{TypedefWord}
use Rattle.cr_scopes_events.specs.Scripts.{storage_of}
use Rattle.cr_check_types.specs.Types.{Qualified, plain, pointer, array}
use Rattle.cr_check_declarations.specs.declared.tree.Tree.{Tree}
use Rattle.cr_check_declarations.specs.Before.{parts_in}
use Rattle.cr_check_declarations.specs.Named.{declaration_of}

-- an array of unknown size
abbrev pub is_open : Qualified → Bool
is_open (plain of c v) = false
is_open (pointer c v t) = false
is_open (array n t) = n == 0

-- the specifiers of a declaration say `typedef`
abbrev pub IsTypedef : Tree → ℕ → Type 0
IsTypedef u declaration = storage_of u.nodes.now (parts_in u.nodes.now (Some declaration)) ≡ TypedefWord

-- premise, of names: the declaration that a typedef name sees is a `typedef` (6.7.8p3)
abbrev pub AreTypedefs : Tree → Type 0
AreTypedefs u = (i p d : ℕ) (n : Node) → slice_get u.nodes.now i ≡ Some n → n.kind ≡ kind.TypedefName → slice_index_or u.visible.now i None ≡ Some p
    → declaration_of u.nodes.now u.above.now p ≡ Some d → IsTypedef u d
