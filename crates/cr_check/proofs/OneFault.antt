-- A unit that is checked twice has one first fault.
use Rattle.std.proofs.Common.{◌≡◌, ℕ, ◌≤◌, List, Option, None, Some, inl, inr, refl, sym, ap, subst, ◌∙◌, arith}
use Rattle.cr_syntax.specs.declared.unit.Unit as source
use Rattle.cr_scopes.specs.declared.names.Names.{Names}
use Rattle.cr_check_expressions.specs.declared.least.Break.{Break}
use Rattle.cr_check_expressions.proofs.Firsts.{same_first, one_first}
use Rattle.cr_check_declarations.specs.declared.tree.Tree.{Tree}
use Rattle.cr_check_definitions.specs.Known.{Known}
use Rattle.cr_check_definitions.specs.Typedefs.{IsFirstTwice, IsTwice}
use Rattle.cr_check.specs.declared.checked.Checked.{Checked}
use Rattle.cr_check.specs.declared.fault.TypeFault.{TypeFault}
use Rattle.cr_check.specs.declared.fault.TypeFault.TheVariants.{NoMemory, Twice, Broken}
use Rattle.cr_check.specs.Columns.{IsBrokenIn, known_in}
use Rattle.cr_check.specs.Checked.{IsFaultBy, IsFaultOf, IsFirstBroken, IsFirstFault}
use Rattle.cr_check.specs.Laws.{AreSameLists}
use Rattle.cr_check.proofs.Units.{checked_carried, fault_carried}
use Rattle.cr_check.proofs.Verdicts.{AgreeOn, agree}

some_is : {A : Type 0} (x y : A) → Some x ≡ Some y → x ≡ y
some_is x y e = cc e

one_twice : (known : Known) (names : Names) (a b : ℕ) → IsFirstTwice known names (Some a) → IsFirstTwice known names (Some b) → a ≡ b
one_twice known names a b h g =
    let le = h.1 b g.0 in
    let ge = g.1 a h.0 in
    omega (arith, le, ge)

module _ (file : List ℕ) (unit : source.Unit) (names : Names) (j k : Checked) (t s : Tree) (there : AgreeOn file unit j k t s) (back : AgreeOn file unit k j s t) where
  one_broken : (b c : Break) → IsFirstBroken file unit names j t b → IsFirstBroken file unit names k s c → b ≡ c
  one_broken b c (inl first) (inl last) =
      some_is b c
      (one_first (IsBrokenIn j t) (Some b) (Some c) first
      (same_first (IsBrokenIn k s) (IsBrokenIn j t) (Some c) there.breaks back.breaks last))
  one_broken b c (inl first) (inr lacks) = absurd (lacks.others b (back.breaks b first.is))
  one_broken b c (inr lacks) (inl first) = absurd (lacks.others c (there.breaks c first.is))
  one_broken b c (inr lacks) (inr also) = lacks.is ∙ sym also.is

  one_by : (fault other : TypeFault) → IsFaultBy file unit names j t fault → IsFaultBy file unit names k s other
      → (fault ≡ NoMemory → ⊥) → (other ≡ NoMemory → ⊥) → fault ≡ other
  one_by NoMemory other h g some also = absurd (some refl)
  one_by (Twice a) NoMemory h g some also = absurd (also refl)
  one_by (Twice a) (Twice b) h g some also =
      ap Twice (one_twice (known_in file unit j) names a b h (subst (λ known. IsFirstTwice known names (Some b)) (sym there.known) g))
  one_by (Twice a) (Broken row token) h g some also = absurd (g.typedefs a (subst (λ known. IsTwice known names a) there.known h.0))
  one_by (Broken row token) NoMemory h g some also = absurd (also refl)
  one_by (Broken row token) (Twice b) h g some also = absurd (h.typedefs b (subst (λ known. IsTwice known names b) back.known g.0))
  one_by (Broken row token) (Broken other place) h g some also =
      ap (λ (b : Break). Broken b.row b.token)
      (one_broken (record { token = token; row = row }) (record { token = place; row = other }) h.broken g.broken)

by_columns : (file : List ℕ) (u v : source.Unit) (names : Names) (fault other : TypeFault) → AreSameLists u v → IsFaultOf file u names fault
    → IsFaultOf file v names other → (fault ≡ NoMemory → ⊥) → (other ≡ NoMemory → ⊥) → fault ≡ other
by_columns file u v names fault other same h g =
    let j = h.checked in
    let k = g.checked in
    let t = h.is.tree in
    let s = g.is.tree in
    let is = checked_carried u v same file names j t h.is.is in
    one_by file v names j k t s (agree file v names j k t s is g.is.is) (agree file v names k j s t g.is.is is) fault other
    (fault_carried u v same file names j t fault h.is.by) g.is.by

pub one_fault : (file : List ℕ) (u v : source.Unit) (names : Names) (fault other : TypeFault) → AreSameLists u v → IsFirstFault file u names fault
    → IsFirstFault file v names other → (fault ≡ NoMemory → ⊥) → (other ≡ NoMemory → ⊥) → fault ≡ other
one_fault file u v names NoMemory other same h g some also = absurd (some refl)
one_fault file u v names (Twice a) NoMemory same h g some also = absurd (also refl)
one_fault file u v names (Twice a) (Twice b) same h g some also = by_columns file u v names (Twice a) (Twice b) same h g some also
one_fault file u v names (Twice a) (Broken row b) same h g some also = by_columns file u v names (Twice a) (Broken row b) same h g some also
one_fault file u v names (Broken row a) NoMemory same h g some also = absurd (also refl)
one_fault file u v names (Broken row a) (Twice b) same h g some also = by_columns file u v names (Broken row a) (Twice b) same h g some also
one_fault file u v names (Broken row a) (Broken other b) same h g some also =
    by_columns file u v names (Broken row a) (Broken other b) same h g some also
