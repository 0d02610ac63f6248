-- The scopes that a caller lists, as the grammar has them.
use Rattle.std.specs.Prelude.{List, [], ◌∷◌}
use Rattle.cr_syntax.specs.declared.scopes.TypeName.{TypeName}
use Rattle.cr_syntax.specs.Scopes.{Scopes, put}
use Rattle.cr_exprs.specs.declared.names.TypeNames.{TypeNames}

-- names that are declared one after the other in a scope
abbrev pub names_onto : List TypeName → List TypeName → List TypeName
names_onto [] scope = scope
names_onto (n ∷ ns) scope = names_onto ns (put n scope)

-- the scopes with the innermost last, before those with the innermost first
abbrev pub scopes_onto : List (List TypeName) → Scopes → Scopes
scopes_onto [] done = done
scopes_onto (names ∷ outer) done = scopes_onto outer (names_onto names [] ∷ done)

abbrev pub scopes_of : TypeNames → Scopes
scopes_of n = scopes_onto n.scopes []
