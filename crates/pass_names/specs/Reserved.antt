-- Functions whose names mean something outside the file: main (C11 5.1.2.2.1), and those of the library.
use Rattle.std.specs.Prelude.{ℕ, Bool, ◌&&◌, ◌||◌, List, [], ◌∷◌, codes, if◌then◌else◌}
use Rattle.std.specs.List.{flat_map}
use Rattle.std.specs.Str.{bytes_eq}
use Rattle.cr_tokens.specs.declared.token.Token.{Token}
use Rattle.cr_scopes_events.specs.declared.event.Event.{Event}
use Rattle.cr_scopes_events.specs.declared.event.Event.TheVariants.{Name}
use Rattle.cr_scopes_events.specs.declared.event.Role.{Role}
use Rattle.cr_scopes_events.specs.declared.event.Role.TheVariants.{Function}
use Rattle.pass_levels.specs.Places.{spelling_at}

abbrev pub is_main : List ℕ → Bool
is_main text = bytes_eq text (codes "main")

-- the library's functions (7.21.6.3, 7.21.7.8, 7.22.4.1, 7.22.4.4)
abbrev pub is_of_library : List ℕ → Bool
is_of_library text = bytes_eq text (codes "printf") || bytes_eq text (codes "putchar") || bytes_eq text (codes "abort") || bytes_eq text (codes "exit")

-- main's name, and where the library counts the names of its functions
abbrev pub is_reserved : Bool → List ℕ → Bool
is_reserved library text = is_main text || (library && is_of_library text)

abbrev pub reserved_by : Role → Bool → ℕ → List ℕ
reserved_by Function reserved token = if reserved then token ∷ [] else []
reserved_by _ reserved token = []

-- a token that declares a function of such a name; objects of these names are others
abbrev pub reserved_in : List ℕ → List Token → Bool → Event → List ℕ
reserved_in file tokens library (Name token role) = reserved_by role (is_reserved library (spelling_at file tokens token)) token
reserved_in file tokens library _ = []

-- all tokens that do
abbrev pub reserved_tokens : List ℕ → List Token → Bool → List Event → List ℕ
reserved_tokens file tokens library events = flat_map (reserved_in file tokens library) events
