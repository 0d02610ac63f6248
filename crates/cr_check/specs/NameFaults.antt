-- The first fault of the names of a unit, those among them that show only once types are known.
use Rattle.std.specs.Prelude.{◌≡◌, ℕ, ◌<◌, ◌≤◌, Bool, true, false, ◌&&◌, List, Option, None, Some, length, nat_lt, slice_index_or, if◌then◌else◌}
use Rattle.cr_syntax.specs.declared.node.Node.{Node}
use Rattle.cr_syntax.specs.declared.unit.Unit as source
use Rattle.cr_scopes.specs.declared.fault.NameFault.{NameFault}
use Rattle.cr_scopes.specs.declared.fault.NameFault.TheVariants.{Twice}
use Rattle.cr_scopes.specs.declared.names.Names.{Names}
use Rattle.cr_scopes.specs.Faults.{is_other}
use Rattle.cr_scopes.specs.Resolved.{fault_at, token_of}
use Rattle.cr_scopes.specs.Spelled.{name_of}
use Rattle.cr_scopes.specs.Units.{AreUnitEntities, IsUnitFirst, unit_events}
use Rattle.cr_scopes_bindings.specs.Nodes.{name_at}
use Rattle.cr_check_declarations.specs.declared.tree.Tree.{Tree}
use Rattle.cr_check_definitions.specs.Known.{declared_in, first_part}
use Rattle.cr_check_definitions.specs.Typedefs.{IsTwice}
use Rattle.cr_check.specs.declared.checked.Checked.{Checked}
use Rattle.cr_check.specs.Columns.{IsChecked, known_in}

-- a typedef name is declared again at this token with another type (C11 6.7p3), as the unit is checked
pub record IsRepeated (file : List ℕ) (unit : source.Unit) (names : Names) (token : ℕ) : Type 0 where
  pub checked : Checked
  pub tree : Tree
  pub is : IsChecked file unit names checked tree
  pub twice : IsTwice (known_in file unit checked) names token

-- a fault that an event of the unit has, by the names alone
abbrev pub HasFault : List ℕ → source.Unit → NameFault → Type 0
HasFault file unit fault = (event : ℕ) × (fault_at (name_of file unit.tokens.list.items) (unit_events unit) event ≡ Some fault)

-- The first fault of names that stand for these entities: the one at the least token of those that show by the names alone, and of the typedef
-- names that are declared again with another type. At one token the former comes first.
pub data IsFirstByTypes (file : List ℕ) (unit : source.Unit) (names : Names) : NameFault → Type 0 where
  by_names : {fault : NameFault} → IsUnitFirst file unit (Some fault)
      → ((token : ℕ) → IsRepeated file unit names token → token_of fault ≤ token) → IsFirstByTypes file unit names fault
  by_types : {token : ℕ} → IsRepeated file unit names token → ((other : ℕ) → IsRepeated file unit names other → token ≤ other)
      → ((other : NameFault) → HasFault file unit other → token < token_of other) → IsFirstByTypes file unit names (Twice token)

-- the first fault of the names of a unit
pub record IsFirstNameFault (file : List ℕ) (unit : source.Unit) (fault : NameFault) : Type 0 where
  pub names : Names
  pub are : AreUnitEntities file unit names
  pub first : IsFirstByTypes file unit names fault

-- the first of the tokens at which a typedef name is declared again with another type, or that there is none
abbrev pub IsFirstRepeated : List ℕ → source.Unit → Names → Option ℕ → Type 0
IsFirstRepeated file unit names None = (token : ℕ) → IsRepeated file unit names token → ⊥
IsFirstRepeated file unit names (Some token) = IsRepeated file unit names token × ((other : ℕ) → IsRepeated file unit names other → token ≤ other)

-- a typedef name at a lesser token comes before
abbrev pub lesser_of : NameFault → Option ℕ → NameFault
lesser_of fault None = fault
lesser_of fault (Some token) = if nat_lt token (token_of fault) then Twice token else fault

-- ---- names that are declared again

abbrev pub first_declared : Names → Option ℕ → Option ℕ
first_declared names None = None
first_declared names (Some entity) = first_part (declared_in names entity)

-- what a token stands for is declared first at another one
abbrev pub stands_again : Names → ℕ → Bool
stands_again names token = is_other token (first_declared names (slice_index_or names.of_token token None))

abbrev pub again_before : Names → ℕ → Option ℕ → Bool
again_before names before None = false
again_before names before (Some token) = nat_lt token before && stands_again names token

-- no node below a bound declares a name again at a token before this one
abbrev pub NoneBefore : List Node → Names → ℕ → ℕ → Type 0
NoneBefore nodes names before bound = (node token : ℕ) → node < bound → name_at nodes node ≡ Some token
    → stands_again names token ≡ true → before ≤ token
