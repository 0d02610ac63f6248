-- Laws of the whole check.
use Rattle.std.specs.Prelude.{◌≡◌, ℕ, List}
use Rattle.cr_syntax.specs.declared.unit.Unit as source
use Rattle.cr_scopes.specs.declared.fault.NameFault.{NameFault}
use Rattle.cr_scopes.specs.declared.names.Names.{Names}
use Rattle.cr_check.specs.declared.checked.Checked.{Checked}
use Rattle.cr_check.specs.declared.fault.TypeFault.{TypeFault}
use Rattle.cr_check.specs.declared.fault.TypeFault.TheVariants.{NoMemory}
use Rattle.cr_check.specs.Checked.{IsSoundOf, IsFirstFault}
use Rattle.cr_check.specs.NameFaults.{IsFirstNameFault}

-- two units with the same tokens, nodes and external declarations
pub record AreSameLists (u v : source.Unit) : Type 0 where
  pub tokens : u.tokens.list.items ≡ v.tokens.list.items
  pub nodes : u.nodes ≡ v.nodes
  pub items : u.items ≡ v.items

-- A unit that is sound by one check has no fault by any other one, nor has another unit with the same lists; of want of memory nothing
-- is said.
abbrev pub HasNoFault : Type 0
HasNoFault = (file : List ℕ) (u v : source.Unit) (names : Names) (checked : Checked) (fault : TypeFault) → AreSameLists u v
    → IsSoundOf file u names checked → IsFirstFault file v names fault → (fault ≡ NoMemory → ⊥) → ⊥

-- two units with the same lists have one first fault of their names
abbrev pub OneNameFault : Type 0
OneNameFault = (file : List ℕ) (u v : source.Unit) (fault other : NameFault) → AreSameLists u v
    → IsFirstNameFault file u fault → IsFirstNameFault file v other → fault ≡ other

-- and one first fault of the check
abbrev pub OneFault : Type 0
OneFault = (file : List ℕ) (u v : source.Unit) (names : Names) (fault other : TypeFault) → AreSameLists u v
    → IsFirstFault file u names fault → IsFirstFault file v names other → (fault ≡ NoMemory → ⊥) → (other ≡ NoMemory → ⊥) → fault ≡ other
