-- Scopes of ordinary identifiers, as far as the grammar asks: which of them are typedef names (C11 6.2.1, 6.7.8).
use Rattle.std.specs.Prelude.{ℕ, Bool, false, List, [], ◌∷◌, Option, None, Some, if◌then◌else◌}
use Rattle.std.specs.Str.{bytes_eq}
use Rattle.std.specs.declared.vec.Vec.{Vec}
use Rattle.cr_syntax.specs.declared.scopes.TypeName.{TypeName}

-- The scopes that are open, the innermost first, each with its names, in the order of their first declarations.
abbrev pub Scopes : Type 0
Scopes = List (List TypeName)

-- what one scope says of an identifier
abbrev pub said_of : List TypeName → List ℕ → Option Bool
said_of [] s = None
said_of (n ∷ ns) s = if bytes_eq s n.name then Some n.is_type else said_of ns s

-- whether an identifier is a type: the innermost scope that declares it decides (6.2.1p4)
abbrev pub is_type : Scopes → List ℕ → Bool
is_type [] s = false
is_type (names ∷ outer) s = elim (said_of names s) [ None ↦ is_type outer s | Some b ↦ b ]

-- a name is declared in a scope: of two declarations of one name the later decides
abbrev pub put : TypeName → List TypeName → List TypeName
put n [] = n ∷ []
put n (m ∷ ms) = if bytes_eq n.name m.name then n ∷ ms else m ∷ put n ms

-- a name enters the innermost scope
abbrev pub enter : TypeName → Scopes → Scopes
enter n [] = (n ∷ []) ∷ []
enter n (names ∷ outer) = put n names ∷ outer

-- the names of a scope, from the map that holds them
abbrev pub names_in : {A : Type 0} → List (Vec ℕ A × Bool) → List TypeName
names_in [] = []
names_in (e ∷ es) = record { name = e.0.items; is_type = e.1 } ∷ names_in es
