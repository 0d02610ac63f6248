-- A typed unit, and the first fault of one that isn't.
use Rattle.std.specs.Prelude.{◌≡◌, ℕ, ◌-◌, ◌⊎◌, Bool, true, false, List, Option, None, Some, length, if◌then◌else◌}
use Rattle.cr_syntax.specs.declared.unit.Unit as source
use Rattle.cr_scopes.specs.declared.names.Names.{Names}
use Rattle.cr_check_expressions.specs.declared.least.Break.{Break}
use Rattle.cr_check_expressions.specs.Breaks.{IsFirst}
use Rattle.cr_check_declarations.specs.declared.tree.Tree.{Tree}
use Rattle.cr_check_definitions.specs.Typedefs.{IsFirstTwice}
use Rattle.cr_check_definitions.specs.Defined.{is_defined}
use Rattle.cr_check.specs.declared.checked.Checked.{Checked}
use Rattle.cr_check.specs.declared.fault.TypeFault.{TypeFault}
use Rattle.cr_check.specs.declared.fault.TypeFault.TheVariants.{NoMemory, Twice, Broken}
use Rattle.cr_check.specs.Columns.{IsChecked, IsBrokenIn, known_in}

-- no typedef name is declared again with another type
abbrev pub AgreesOnTypedefs : List ℕ → source.Unit → Names → Checked → Type 0
AgreesOnTypedefs file unit names j = IsFirstTwice (known_in file unit j) names None

-- no constraint but K40 is broken
abbrev pub HoldsAll : Checked → Tree → Type 0
HoldsAll j u = (b : Break) → IsBrokenIn j u b → ⊥

abbrev pub is_program : List ℕ → source.Unit → Names → Checked → Bool
is_program file unit names j = is_defined (known_in file unit j) unit.items names

-- no fault is in the unit
pub record IsSound (file : List ℕ) (unit : source.Unit) (names : Names) (j : Checked) (u : Tree) : Type 0 where
  pub typedefs : AgreesOnTypedefs file unit names j
  pub constraints : HoldsAll j u
  pub defined : is_program file unit names j ≡ true

pub record IsSoundOf (file : List ℕ) (unit : source.Unit) (names : Names) (j : Checked) : Type 0 where
  pub tree : Tree
  pub is : IsChecked file unit names j tree
  pub sound : IsSound file unit names j tree

-- ---- faults

-- K40 is broken at the last token, where no other constraint is
pub record LacksDefinition (file : List ℕ) (unit : source.Unit) (names : Names) (j : Checked) (u : Tree) (b : Break) : Type 0 where
  pub others : HoldsAll j u
  pub defined : is_program file unit names j ≡ false
  pub is : b ≡ record { token = length unit.tokens.list.items - 1; row = 40 }

-- the first constraint that is broken: by tokens, then by rows, and K40 behind all others
abbrev pub IsFirstBroken : List ℕ → source.Unit → Names → Checked → Tree → Break → Type 0
IsFirstBroken file unit names j u b = IsFirst (IsBrokenIn j u) (Some b) ⊎ LacksDefinition file unit names j u b

-- typedef names come before constraints
pub record IsBrokenFirst (file : List ℕ) (unit : source.Unit) (names : Names) (j : Checked) (u : Tree) (b : Break) : Type 0 where
  pub typedefs : AgreesOnTypedefs file unit names j
  pub broken : IsFirstBroken file unit names j u b

abbrev pub IsFaultBy : List ℕ → source.Unit → Names → Checked → Tree → TypeFault → Type 0
IsFaultBy file unit names j u NoMemory = Unit {0}
IsFaultBy file unit names j u (Twice token) = IsFirstTwice (known_in file unit j) names (Some token)
IsFaultBy file unit names j u (Broken row token) = IsBrokenFirst file unit names j u (record { token = token; row = row })

pub record IsFaultIn (file : List ℕ) (unit : source.Unit) (names : Names) (j : Checked) (fault : TypeFault) : Type 0 where
  pub tree : Tree
  pub is : IsChecked file unit names j tree
  pub by : IsFaultBy file unit names j tree fault

pub record IsFaultOf (file : List ℕ) (unit : source.Unit) (names : Names) (fault : TypeFault) : Type 0 where
  pub checked : Checked
  pub is : IsFaultIn file unit names checked fault

-- the first fault of a unit; of want of memory nothing is said
abbrev pub IsFirstFault : List ℕ → source.Unit → Names → TypeFault → Type 0
IsFirstFault file unit names NoMemory = Unit {0}
IsFirstFault file unit names (Twice token) = IsFaultOf file unit names (Twice token)
IsFirstFault file unit names (Broken row token) = IsFaultOf file unit names (Broken row token)

-- ---- what is found of a checked unit

abbrev pub IsFound : List ℕ → source.Unit → Names → Checked → Option TypeFault → Type 0
IsFound file unit names j None = IsSoundOf file unit names j
IsFound file unit names j (Some fault) = IsFaultIn file unit names j fault

-- the first of what is found: a typedef name, a broken constraint, a name without definition
abbrev pub constraint_of : Option Break → Bool → ℕ → Option TypeFault
constraint_of (Some b) defined last = Some (Broken b.row b.token)
constraint_of None defined last = if defined then None else Some (Broken 40 last)

abbrev pub found_of : Option ℕ → Option Break → Bool → ℕ → Option TypeFault
found_of (Some token) broken defined last = Some (Twice token)
found_of None broken defined last = constraint_of broken defined last
