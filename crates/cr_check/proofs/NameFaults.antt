-- The first fault of names: what is found is it, a unit has one, and one whose names are known has none.
use Rattle.std.proofs.Common.{◌≡◌, ℕ, ◌<◌, ◌≤◌, Bool, true, false, List, Option, None, Some, nat_lt, if◌then◌else◌, length, inl, inr, refl, sym, ap, subst, ◌∙◌, arith}
use Rattle.std.proofs.lemmas.Bool.{ltb-true, ltb-false}
use Rattle.std.proofs.lemmas.Option.{none-some}
use Rattle.cr_tokens.specs.declared.token.Token.{Token}
use Rattle.cr_syntax.specs.declared.node.Node.{Node}
use Rattle.cr_syntax.specs.declared.unit.Unit as source
use Rattle.cr_scopes_events.specs.Events.{events_of}
use Rattle.cr_scopes.specs.declared.fault.NameFault.{NameFault}
use Rattle.cr_scopes.specs.declared.fault.NameFault.TheVariants.{Twice}
use Rattle.cr_scopes.specs.declared.names.Names.{Names}
use Rattle.cr_scopes.specs.Resolved.{AreEntities, IsFirstOrNone, fault_at, token_of, told_below}
use Rattle.cr_scopes.specs.Spelled.{name_of}
use Rattle.cr_scopes.specs.Units.{AreUnitEntities, AreUnitNames, IsUnitFirst, unit_events}
use Rattle.cr_scopes.proofs.One.{one_entities, one_first}
use Rattle.cr_check_declarations.specs.declared.tree.Tree.{Tree}
use Rattle.cr_check_definitions.specs.Typedefs.{IsFirstTwice, IsTwice}
use Rattle.cr_check.specs.declared.checked.Checked.{Checked}
use Rattle.cr_check.specs.declared.fault.TypeFault.TheVariants as type_fault
use Rattle.cr_check.specs.Columns.{IsChecked, IsCheckedFirst, known_by, known_in}
use Rattle.cr_check.specs.Checked.{IsFaultOf, IsFirstFault, IsSoundOf}
use Rattle.cr_check.specs.Laws.{AreSameLists}
use Rattle.cr_check.specs.NameFaults.{HasFault, IsFirstByTypes, IsFirstNameFault, IsFirstRepeated, IsRepeated, NoneBefore, lesser_of, by_names, by_types}
use Rattle.cr_check.proofs.Again.{repeated_again}
use Rattle.cr_check.proofs.Units.{carried, checked_carried}
use Rattle.cr_check.proofs.Verdicts.{agree}

-- ---- what is found

-- what one check says of typedef names each says
repeated_by : (file : List ℕ) (unit : source.Unit) (names : Names) (j : Checked) (t : Tree) (token : ℕ) → IsChecked file unit names j t
    → IsRepeated file unit names token → IsTwice (known_in file unit j) names token
repeated_by file unit names j t token is h =
    subst (λ known. IsTwice known names token) (agree file unit names h.checked j h.tree t h.is is).known h.twice

first_by : (file : List ℕ) (unit : source.Unit) (names : Names) (j : Checked) (t : Tree) (token : Option ℕ) → IsChecked file unit names j t
    → IsFirstTwice (known_in file unit j) names token → IsFirstRepeated file unit names token
first_by file unit names j t None is none = λ token h. none token (repeated_by file unit names j t token is h)
first_by file unit names j t (Some token) is (twice, least) =
    (record { checked = j; tree = t; is = is; twice = twice }, λ other h. least other (repeated_by file unit names j t other is h))

pub repeated_is : (file : List ℕ) (unit : source.Unit) (names : Names) (j : Checked) (token : Option ℕ) → IsCheckedFirst file unit names j
    → IsFirstTwice (known_in file unit j) names token → IsFirstRepeated file unit names token
repeated_is file unit names j token h first = first_by file unit names j h.tree token h.is first

module _ (file : List ℕ) (unit : source.Unit) (names : Names) (fault : NameFault) (h : IsUnitFirst file unit (Some fault)) where
  by_less : (token : ℕ) (less : Bool) → nat_lt token (token_of fault) ≡ less → IsFirstRepeated file unit names (Some token)
      → IsFirstByTypes file unit names (if less then Twice token else fault)
  by_less token true e (repeated, least) = by_types repeated least (λ other has.
      let low = ltb-true token (token_of fault) e in
      let first = h.first has.0 other has.1 in
      omega (arith, low, first))
  by_less token false e (repeated, least) = by_names h (λ other is.
      let low = ltb-false token (token_of fault) e in
      let first = least other is in
      omega (arith, low, first))

  by_lesser : (token : Option ℕ) → IsFirstRepeated file unit names token → IsFirstByTypes file unit names (lesser_of fault token)
  by_lesser None none = by_names h (λ token is. absurd (none token is))
  by_lesser (Some token) first = by_less token (nat_lt token (token_of fault)) refl first

pub first_is : (file : List ℕ) (unit : source.Unit) (names : Names) (fault first : NameFault) (token : Option ℕ) → first ≡ lesser_of fault token
    → AreUnitEntities file unit names → IsUnitFirst file unit (Some fault) → IsFirstRepeated file unit names token
    → IsFirstNameFault file unit first
first_is file unit names fault first token e are h repeated = record {
  names = names;
  are = are;
  first = subst (IsFirstByTypes file unit names) (sym e) (by_lesser file unit names fault h token repeated);
}

-- where no name is declared again before it, no typedef name is
pub none_before_is : (file : List ℕ) (unit : source.Unit) (names : Names) (fault : NameFault) → AreUnitEntities file unit names
    → IsUnitFirst file unit (Some fault) → NoneBefore unit.nodes names (token_of fault) (length unit.nodes) → IsFirstNameFault file unit fault
none_before_is file unit names fault are h none = record {
  names = names;
  are = are;
  first = by_names h (λ token is.
      let again = repeated_again file unit names token is in none again.node token again.there again.declares again.again);
}

-- where the names are known, it is what the check finds
pub twice_is_first : (file : List ℕ) (unit : source.Unit) (names : Names) (token : ℕ) → AreUnitNames file unit names
    → IsFaultOf file unit names (type_fault.Twice token) → IsFirstNameFault file unit (Twice token)
twice_is_first file unit names token known found =
    let first = first_by file unit names found.checked found.is.tree (Some token) found.is.is found.is.by in
    record {
      names = names;
      are = known.names;
      first = by_types first.0 first.1 (λ other has. absurd (none-some other (sym (known.right has.0) ∙ has.1)));
    }

-- ---- a unit has one

same_back : (u v : source.Unit) → AreSameLists u v → AreSameLists v u
same_back u v same = record { tokens = sym same.tokens; nodes = sym same.nodes; items = sym same.items }

module _ (u v : source.Unit) (same : AreSameLists u v) (file : List ℕ) (names : Names) where
  repeated_carried : (token : ℕ) → IsRepeated file u names token → IsRepeated file v names token
  repeated_carried token h = record {
    checked = h.checked;
    tree = h.tree;
    is = checked_carried u v same file names h.checked h.tree h.is;
    twice = carried u v same (λ ts ns is. IsTwice (known_by file ts ns h.checked) names token) h.twice;
  }

  fault_carried : (fault : NameFault) → HasFault file u fault → HasFault file v fault
  fault_carried fault h = carried u v same (λ ts ns is. (event : ℕ) × (fault_at (name_of file ts) (events_of ts ns is) event ≡ Some fault)) h

  entities_carried : AreUnitEntities file u names → AreUnitEntities file v names
  entities_carried h = carried u v same (λ ts ns is. AreEntities (name_of file ts) (events_of ts ns is) (length ts) names) h

  first_carried : (fault : NameFault) → IsUnitFirst file u (Some fault) → IsUnitFirst file v (Some fault)
  first_carried fault h = carried u v same (λ ts ns is. IsFirstOrNone (name_of file ts) (events_of ts ns is) (Some fault)) h

by_types_carried : (u v : source.Unit) (same : AreSameLists u v) (file : List ℕ) (names : Names) (fault : NameFault)
    → IsFirstByTypes file u names fault → IsFirstByTypes file v names fault
by_types_carried u v same file names fault (by_names h least) =
    by_names (first_carried u v same file names fault h) (λ token is. least token (repeated_carried v u (same_back u v same) file names token is))
by_types_carried u v same file names _ (by_types {token = token} h least before) =
    by_types (repeated_carried u v same file names token h)
    (λ other is. least other (repeated_carried v u (same_back u v same) file names other is))
    (λ other has. before other (fault_carried v u (same_back u v same) file names other has))

module _ (file : List ℕ) (unit : source.Unit) (names : Names) where
  apart : (token : ℕ) (fault : NameFault) → IsUnitFirst file unit (Some fault)
      → ((other : ℕ) → IsRepeated file unit names other → token_of fault ≤ other) → IsRepeated file unit names token
      → ((other : NameFault) → HasFault file unit other → token < token_of other) → ⊥
  apart token fault h least is before =
      let low = before fault (h.event, h.is) in
      let high = least token is in
      omega (arith, low, high)

  one_by_types : (fault other : NameFault) → IsFirstByTypes file unit names fault → IsFirstByTypes file unit names other → fault ≡ other
  one_by_types fault other (by_names h least) (by_names g also) =
      one_first (name_of file unit.tokens.list.items) (unit_events unit) fault other h g
  one_by_types fault _ (by_names h least) (by_types {token = token} is all before) = absurd (apart token fault h least is before)
  one_by_types _ other (by_types {token = token} is all before) (by_names h least) = absurd (apart token other h least is before)
  one_by_types _ _ (by_types {token = a} is all before) (by_types {token = b} also both rest) =
      let le = all b also in
      let ge = both a is in
      ap Twice (let e : a ≡ b = omega (arith, le, ge) in e)

-- the names of units with the same lists
pub same_entities : (file : List ℕ) (u v : source.Unit) (names other : Names) → AreSameLists u v → AreUnitEntities file u names
    → AreUnitEntities file v other → names ≡ other
same_entities file u v names other same are also =
    one_entities (told_below (name_of file v.tokens.list.items) (unit_events v) (length v.tokens.list.items)) (length v.tokens.list.items) names other
    (entities_carried u v same file names are) also

pub one_name_fault : (file : List ℕ) (u v : source.Unit) (fault other : NameFault) → AreSameLists u v → IsFirstNameFault file u fault
    → IsFirstNameFault file v other → fault ≡ other
one_name_fault file u v fault other same h g =
    let names = same_entities file u v h.names g.names same h.are g.are in
    one_by_types file v g.names fault other
    (subst (λ names. IsFirstByTypes file v names fault) names (by_types_carried u v same file h.names fault h.first)) g.first

-- ---- a unit whose names are known, and typedef names have one type each, has none

pub sound_repeats_none : (file : List ℕ) (unit : source.Unit) (names : Names) (j : Checked) → IsSoundOf file unit names j
    → (token : ℕ) → IsRepeated file unit names token → ⊥
sound_repeats_none file unit names j sound token h =
    sound.sound.typedefs token (repeated_by file unit names j sound.tree token sound.is h)

pub broken_repeats_none : (file : List ℕ) (unit : source.Unit) (names : Names) (row place : ℕ)
    → IsFirstFault file unit names (type_fault.Broken row place) → (token : ℕ) → IsRepeated file unit names token → ⊥
broken_repeats_none file unit names row place found token h =
    found.is.by.typedefs token (repeated_by file unit names found.checked found.is.tree token found.is.is h)

none_by : (file : List ℕ) (unit : source.Unit) (names : Names) (fault : NameFault) → AreUnitNames file unit names
    → ((token : ℕ) → IsRepeated file unit names token → ⊥) → IsFirstByTypes file unit names fault → ⊥
none_by file unit names fault known none (by_names h least) = none-some fault (sym (known.right h.event) ∙ h.is)
none_by file unit names _ known none (by_types {token = token} is all before) = none token is

pub no_name_fault : (file : List ℕ) (u v : source.Unit) (names : Names) (fault : NameFault) → AreSameLists u v → AreUnitNames file u names
    → ((token : ℕ) → IsRepeated file u names token → ⊥) → IsFirstNameFault file v fault → ⊥
no_name_fault file u v names fault same known none h =
    let back = same_back u v same in
    let one : h.names ≡ names = same_entities file v u h.names names back h.are known.names in
    none_by file u names fault known none
    (subst (λ names. IsFirstByTypes file u names fault) one (by_types_carried v u back file h.names fault h.first))
