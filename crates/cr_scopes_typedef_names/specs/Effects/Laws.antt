-- Laws of the scopes that events make.
use Rattle.std.specs.Prelude.{◌≡◌, ◌≢◌, ◌<◌, ℕ, zero, true, List, [], length}
use Rattle.cr_tokens.specs.declared.token.Token.{Token}
use Rattle.cr_syntax.specs.Scopes.{is_type}
use Rattle.cr_scopes_events.specs.declared.event.Event.{Event}
use Rattle.cr_scopes.specs.Spelled.{spelling_of, name_of}
use Rattle.cr_scopes_bindings.specs.Visible.{is_named, latest, visible}
use Rattle.cr_scopes_typedef_names.specs.Effects.Effects.{scopes_of, scopes_at, Decides, IsSpelled}

-- the latest declaration that is in scope decides whether a name is a type (6.2.1p4, 6.7.8p3)
abbrev pub TypesAreTypedefs : Type 0
TypesAreTypedefs = (name : ℕ → ℕ) (spelling : ℕ → List ℕ) (s : ℕ) (spelled : List ℕ) (past : List Event) → IsSpelled name spelling s spelled
    → Decides past (is_type (scopes_of spelling past) spelled) (latest name s zero past)

-- what is visible where a token is named first decides whether it is a type there
abbrev pub VisibleDecides : Type 0
VisibleDecides = (name : ℕ → ℕ) (spelling : ℕ → List ℕ) (token : ℕ) (past : List Event) → IsSpelled name spelling (name token) (spelling token) → is_named token past ≡ true
    → Decides past (is_type (scopes_at spelling past token) (spelling token)) (visible name past token)

-- of a file's tokens one with some bytes has the name of those that are spelled like it
abbrev pub SpellingsAreNames : Type 0
SpellingsAreNames = (file : List ℕ) (tokens : List Token) (token : ℕ) → token < length tokens → spelling_of file tokens token ≢ []
    → IsSpelled (name_of file tokens) (spelling_of file tokens) (name_of file tokens token) (spelling_of file tokens token)
