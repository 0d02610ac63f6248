-- The first fault of what is found.
use Rattle.std.proofs.Common.{◌≡◌, ℕ, ◌-◌, Bool, true, false, List, Option, None, Some, length, inl, inr, refl, sym, subst}
use Rattle.cr_syntax.specs.declared.unit.Unit as source
use Rattle.cr_scopes.specs.declared.names.Names.{Names}
use Rattle.cr_check_expressions.specs.declared.least.Break.{Break}
use Rattle.cr_check_expressions.specs.Breaks.{IsFirst}
use Rattle.cr_check_declarations.specs.declared.tree.Tree.{Tree}
use Rattle.cr_check_definitions.specs.Typedefs.{IsFirstTwice}
use Rattle.cr_check.specs.declared.checked.Checked.{Checked}
use Rattle.cr_check.specs.declared.fault.TypeFault.{TypeFault}
use Rattle.cr_check.specs.declared.fault.TypeFault.TheVariants.{NoMemory, Twice, Broken}
use Rattle.cr_check.specs.Columns.{IsChecked, IsBrokenIn, IsCheckedFirst, known_in}
use Rattle.cr_check.specs.Checked.{AgreesOnTypedefs, HoldsAll, IsFaultIn, IsFirstFault, IsFound, is_program, constraint_of, found_of}

module _ (file : List ℕ) (unit : source.Unit) (names : Names) (j : Checked) (u : Tree) (is : IsChecked file unit names j u) where
  defined_by : (defined : Bool) → AgreesOnTypedefs file unit names j → HoldsAll j u → is_program file unit names j ≡ defined
      → IsFound file unit names j (constraint_of None defined (length unit.tokens.list.items - 1))
  defined_by true typedefs holds e = record { tree = u; is = is; sound = record { typedefs = typedefs; constraints = holds; defined = e } }
  defined_by false typedefs holds e = record {
    tree = u;
    is = is;
    by = record { typedefs = typedefs; broken = inr (record { others = holds; defined = e; is = refl }) };
  }

  broken_by : (broken : Option Break) → AgreesOnTypedefs file unit names j → IsFirst (IsBrokenIn j u) broken
      → IsFound file unit names j (constraint_of broken (is_program file unit names j) (length unit.tokens.list.items - 1))
  broken_by None typedefs first = defined_by (is_program file unit names j) typedefs first refl
  broken_by (Some b) typedefs first = record { tree = u; is = is; by = record { typedefs = typedefs; broken = inl first } }

  found_by : (twice : Option ℕ) (broken : Option Break) → IsFirstTwice (known_in file unit j) names twice → IsFirst (IsBrokenIn j u) broken
      → IsFound file unit names j (found_of twice broken (is_program file unit names j) (length unit.tokens.list.items - 1))
  found_by (Some token) broken first b = record { tree = u; is = is; by = first }
  found_by None broken typedefs b = broken_by broken typedefs b

pub found_is : (file : List ℕ) (unit : source.Unit) (names : Names) (j : Checked) (twice : Option ℕ) → IsCheckedFirst file unit names j
    → IsFirstTwice (known_in file unit j) names twice
    → IsFound file unit names j (found_of twice j.whole.broken (is_program file unit names j) (length unit.tokens.list.items - 1))
found_is file unit names j twice h t = found_by file unit names j h.tree h.is twice j.whole.broken t h.first

pub fault_is : (file : List ℕ) (unit : source.Unit) (names : Names) (j : Checked) (fault : TypeFault) → IsFaultIn file unit names j fault
    → IsFirstFault file unit names fault
fault_is file unit names j NoMemory h = tt
fault_is file unit names j (Twice token) h = record { checked = j; is = h }
fault_is file unit names j (Broken row token) h = record { checked = j; is = h }

pub want_is : (file : List ℕ) (unit : source.Unit) (names : Names) (fault : TypeFault) → fault ≡ NoMemory → IsFirstFault file unit names fault
want_is file unit names fault e = subst (IsFirstFault file unit names) (sym e) tt
