-- Typedef names, and the declarations that they see.
use Rattle.std.specs.Prelude.{◌≡◌, ◌≢◌, ◌<◌, ◌==◌, ◌&&◌, ℕ, Bool, true, false, List, [], length}
use Rattle.std.specs.List.{list_any}
use Rattle.cr_tokens.specs.declared.token.Token.{Token}
use Rattle.cr_syntax.specs.declared.node.Kind.{Kind}
use Rattle.cr_syntax.specs.declared.node.Kind.TheVariants as kind
use Rattle.cr_syntax.specs.declared.node.Node.{Node}
use Rattle.cr_scopes_events.specs.declared.naming.Storage.TheVariants.{TypedefWord}
use Rattle.cr_scopes_events.specs.Scripts.{storage_of}
use Rattle.cr_scopes.specs.Spelled.{spelling_of}
use Rattle.cr_scopes_typedef_names.specs.Tellings.Tellings.{is_external, IsDeclarer}

abbrev pub is_typedef_name : Kind → Bool
is_typedef_name kind.TypedefName = true
is_typedef_name k = false

-- the token is that of some typedef name
abbrev pub is_of_typedef : List Node → ℕ → Bool
is_of_typedef nodes token = list_any (λ n. is_typedef_name n.kind && (n.first == token)) nodes

-- each token has some bytes
abbrev pub AreSpelled : List ℕ → List Token → Type 0
AreSpelled file tokens = (token : ℕ) → token < length tokens → spelling_of file tokens token ≢ []

-- a declaration, or the definition of a function, that has a declarator of the token and says `typedef`
pub record IsTypedef (nodes : List Node) (token : ℕ) : Type 0 where
  pub declares : IsDeclarer nodes token is_external
  pub says : storage_of nodes declares.own.parts ≡ TypedefWord
