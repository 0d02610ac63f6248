-- A law of typedef names.
use Rattle.std.specs.Prelude.{◌≡◌, ℕ, List, Some, length, slice_get}
use Rattle.cr_tokens.specs.declared.token.Token.{Token}
use Rattle.cr_syntax.specs.declared.node.Kind.TheVariants as kind
use Rattle.cr_syntax.specs.declared.node.Node.{Node}
use Rattle.cr_syntax.specs.Words.{lexemes_of}
use Rattle.cr_syntax.specs.Kept.{AreWithin, PartsAreBelow, ItemsAreNodes, row_in}
use Rattle.cr_syntax.specs.Spells.{Limit}
use Rattle.cr_syntax.specs.Units.{IsUnit}
use Rattle.cr_scopes_events.specs.Events.{events_of}
use Rattle.cr_scopes.specs.Resolved.{past_of}
use Rattle.cr_scopes.specs.Spelled.{name_of}
use Rattle.cr_scopes_bindings.specs.Visible.{visible}
use Rattle.cr_scopes_typedef_names.specs.Parsed.Apart.{AreApart, ParametersAreNone}
use Rattle.cr_scopes_typedef_names.specs.Typedefs.Sees.{is_of_typedef, AreSpelled, IsTypedef}

-- what is visible at a typedef name is declared by a declaration that says `typedef` (6.7.8p3)
abbrev pub TypedefNamesSeeTypedefs : Type 0
TypedefNamesSeeTypedefs = (file : List ℕ) (tokens : List Token) (limit : Limit) (nodes : List Node) (items : List ℕ) → AreSpelled file tokens → AreWithin (length tokens) nodes
    → PartsAreBelow nodes → ItemsAreNodes nodes items → IsUnit limit (lexemes_of file tokens) (row_in nodes items) → AreApart nodes (is_of_typedef nodes) → ParametersAreNone nodes
    → (i : ℕ) (n : Node) → slice_get nodes i ≡ Some n → n.kind ≡ kind.TypedefName → (token : ℕ)
    → visible (name_of file tokens) (past_of (events_of tokens nodes items) (length (events_of tokens nodes items))) n.first ≡ Some token → IsTypedef nodes token
