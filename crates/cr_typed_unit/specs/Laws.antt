-- What a reader expects of the typed unit of a file.
use Rattle.std.specs.Prelude.{◌≡◌, ℕ, List}
use Rattle.cr_syntax.specs.declared.unit.Unit as source
use Rattle.cr_scopes.specs.declared.names.Names.{Names}
use Rattle.cr_typed.specs.declared.typed.Typed.{Typed}
use Rattle.cr_check.specs.Laws.{AreSameLists}
use Rattle.cr_typed_unit.specs.Typed.{IsTypedOf}

-- A unit has one typed unit at most, and another unit with the same lists has the same one.
abbrev pub OneTypedUnit : Type 0
OneTypedUnit = (file : List ℕ) (u v : source.Unit) (names : Names) (one other : Typed) → AreSameLists u v
    → IsTypedOf file u names one → IsTypedOf file v names other → one ≡ other
