-- A file is read in one way.
use Rattle.std.proofs.Common.{◌≡◌, ◌<◌, ℕ, List, Option, Some, None, refl, sym, ap, subst, ◌∙◌}
use Rattle.std.proofs.lemmas.List.{ext_get_or}
use Rattle.std.proofs.lemmas.Option.{get_or_from_slice_get, none-some}
use Rattle.cr_tokens.specs.declared.token.Token.{Token}
use Rattle.cr_tokens.proofs.Wholes.{one_list}
use Rattle.cr_syntax.specs.declared.unit.Unit as source
use Rattle.cr_syntax.specs.Units.{IsTreeOf}
use Rattle.cr_syntax.specs.Words.{Lexeme}
use Rattle.cr_syntax.specs.Trees.{Trees}
use Rattle.cr_syntax_machine_laws.specs.MachineLaws.{TreeIsNotRefused}
use Rattle.cr_syntax_machine_laws.proofs.MachineUnitComplete.{one_unit}
use Rattle.cr_exprs_descent.specs.declared.fault.ParseFault.{ParseFault}
use Rattle.cr_exprs_descent.specs.declared.fault.ParseFault.TheVariants.{NoMemory, Unexpected, Ended, TooDeep, OutsideSubset}
use Rattle.cr_decls.specs.Unit.{IsRefused}
use Rattle.cr_scopes_events.specs.Events.{events_of}
use Rattle.cr_scopes.specs.declared.fault.NameFault.{NameFault}
use Rattle.cr_scopes.specs.declared.fault.NameFault.TheVariants as name_fault
use Rattle.cr_scopes.specs.declared.names.Names.{Names}
use Rattle.cr_scopes.specs.declared.told.Told.{Told}
use Rattle.cr_scopes.specs.Resolved.{AreNames, IsFirstFault, count_of, entity_of, nobody}
use Rattle.cr_scopes.specs.Spelled.{name_of}
use Rattle.cr_scopes.specs.Units.{IsUnitFault}
use Rattle.cr_scopes.proofs.One.{one_entities}
use Rattle.cr_check.specs.declared.checked.Checked.{Checked}
use Rattle.cr_check.specs.declared.fault.TypeFault.{TypeFault}
use Rattle.cr_check.specs.declared.fault.TypeFault.TheVariants as type_fault
use Rattle.cr_check.specs.Checked as checked
use Rattle.cr_check.specs.Checked.{IsSoundOf}
use Rattle.cr_check.specs.Laws.{AreSameLists}
use Rattle.cr_check.proofs.Verdicts.{no_fault}
use Rattle.cr_syntax_order.proofs.Alike as listing
use Rattle.cr_lawful_analysis.specs.Analysis.{AreItsNames, IsParsed, IsRead, IsUnitOf, IsUnread, Read, Tree, tree_of, tokens_alone, unit_read, no_tokens, no_unit, of_unit}
use Rattle.cr_lawful_analysis.specs.Members.{structures_of}
use Rattle.cr_lawful_analysis.proofs.Alike.{same_structures}

pub same_tree : (file : List ℕ) (tokens : List Token) (tree other : Tree) → IsParsed file tokens tree → IsParsed file tokens other → tree ≡ other
same_tree file tokens tree other is also =
    let e = one_unit is.is_tree.is_unit also.is_tree.is_unit in
    let same = listing.one_list tree.nodes other.nodes tree.items other.items is.below also.below is.listed also.listed e in
    ap {B = Tree} (λ x. record { nodes = x; items = tree.items }) same.0 ∙ ap {B = Tree} (λ x. record { nodes = other.nodes; items = x }) same.1

pub one_names : (file : List ℕ) (tokens : List Token) (tree : Tree) (names other : Names) → AreItsNames file tokens tree names → AreItsNames file tokens tree other → names ≡ other
one_names file tokens tree names other are also = one_entities _ _ names other are.names also.names

-- Two units of the same tokens have the same lists, and the same names.
same_lists : (file : List ℕ) (tokens : List Token) (u v : source.Unit) (names other : Names) (j k : Checked) → IsUnitOf file tokens u names j
    → IsUnitOf file tokens v other k → AreSameLists u v
same_lists file tokens u v names other j k is also =
    let trees = same_tree file tokens (tree_of u) (tree_of v) is.parsed also.parsed in
    record {
      tokens = is.tokens_are ∙ sym also.tokens_are;
      nodes = ap (λ (t : Tree). t.nodes) trees;
      items = ap (λ (t : Tree). t.items) trees;
    }

one_of_unit : (file : List ℕ) (tokens : List Token) (u v : source.Unit) (names other : Names) (j k : Checked) → IsUnitOf file tokens u names j
    → IsUnitOf file tokens v other k
    → unit_read tokens (tree_of u) names (structures_of u.nodes j) ≡ unit_read tokens (tree_of v) other (structures_of v.nodes k)
one_of_unit file tokens u v names other j k is also =
    let trees = same_tree file tokens (tree_of u) (tree_of v) is.parsed also.parsed in
    let lists = same_lists file tokens u v names other j k is also in
    let same = one_names file tokens (tree_of v) names other (subst (λ t. AreItsNames file tokens t names) trees is.known) also.known in
    let structures = same_structures file u v other j k lists (subst (λ n. IsSoundOf file u n j) same is.sound) also.sound in
    λ x. unit_read tokens (trees x) (same x) (structures x)

pub one_read : (file : List ℕ) (read other : Read) → IsRead file read → IsRead file other → read ≡ other
one_read file _ _ (no_tokens none) (no_tokens also) = refl
one_read file _ _ (no_tokens none) (no_unit are a) = absurd (none _ are)
one_read file _ _ (no_tokens none) (of_unit are a) = absurd (none _ are)
one_read file _ _ (no_unit are a) (no_tokens none) = absurd (none _ are)
one_read file _ _ (no_unit {tokens = tokens} are a) (no_unit {tokens = others} also b) =
    ap (λ x. tokens_alone (Some x)) (one_list file tokens others are also)
one_read file _ _ (no_unit {tokens = tokens} are a) (of_unit {tokens = others} {unit = unit} {names = names} {checked = checked} also b) =
    absurd (a unit names checked (subst (λ x. IsUnitOf file x unit names checked) (sym (one_list file tokens others are also)) b))
one_read file _ _ (of_unit are a) (no_tokens none) = absurd (none _ are)
one_read file _ _ (of_unit {tokens = tokens} {unit = unit} {names = names} {checked = checked} are a) (no_unit {tokens = others} also b) =
    absurd (b unit names checked (subst (λ x. IsUnitOf file x unit names checked) (one_list file tokens others are also) a))
one_read file _ _ (of_unit {tokens = tokens} {unit = u} {names = names} {checked = j} are a) (of_unit {tokens = others} {unit = v} {names = other} {checked = k} also b) =
    let same = one_list file tokens others are also in
    ap (λ x. unit_read x (tree_of u) names (structures_of u.nodes j)) same
    ∙ one_of_unit file others u v names other j k (subst (λ x. IsUnitOf file x u names j) same a) b

-- what is refused is no unit
pub unparsed : TreeIsNotRefused → (ts : List Lexeme) (fault : ParseFault) → (fault ≡ NoMemory → ⊥) → IsRefused ts fault → (t : Trees) → IsTreeOf ts t → ⊥
unparsed law ts NoMemory some refused t is = some refl
unparsed law ts (Unexpected k) some refused t is = law ts t _ is refused
unparsed law ts Ended some refused t is = law ts t _ is refused
unparsed law ts (TooDeep k) some refused t is = law ts t _ is refused
unparsed law ts (OutsideSubset k row) some refused t is = law ts t _ is refused

-- a unit with a fault of names has no entities
faulty : (file : List ℕ) (tokens : List Token) (tree other : Tree) (names : Names) (fault : NameFault) → IsParsed file tokens tree
    → IsFirstFault (name_of file tokens) (events_of tokens tree.nodes tree.items) fault → IsParsed file tokens other → AreItsNames file tokens other names → ⊥
faulty file tokens tree other names fault parsed first also are =
    let known = subst (λ t. AreItsNames file tokens t names) (same_tree file tokens other tree also parsed) are in
    none-some fault (sym (known.right first.event) ∙ first.is)

pub unnamed : (file : List ℕ) (u : source.Unit) (fault : NameFault) → (fault ≡ name_fault.NoMemory → ⊥) → IsUnitFault file u fault
    → IsParsed file u.tokens.list.items (tree_of u) → IsUnread file u.tokens.list.items
unnamed file u name_fault.NoMemory some first parsed = λ v names checked is. some refl
unnamed file u (name_fault.Unknown t) some first parsed = λ v names checked is.
    faulty file u.tokens.list.items (tree_of u) (tree_of v) names (name_fault.Unknown t) parsed first is.parsed is.known
unnamed file u (name_fault.Twice t) some first parsed = λ v names checked is.
    faulty file u.tokens.list.items (tree_of u) (tree_of v) names (name_fault.Twice t) parsed first is.parsed is.known

-- a unit that breaks a constraint is not one that breaks none
pub unsound : (file : List ℕ) (u : source.Unit) (names : Names) (fault : TypeFault) → (fault ≡ type_fault.NoMemory → ⊥)
    → checked.IsFirstFault file u names fault → IsParsed file u.tokens.list.items (tree_of u)
    → AreItsNames file u.tokens.list.items (tree_of u) names → IsUnread file u.tokens.list.items
unsound file u names fault some first parsed known = λ v other checked is.
    let tokens = u.tokens.list.items in
    let trees = same_tree file tokens (tree_of v) (tree_of u) is.parsed parsed in
    let lists : AreSameLists v u = record {
      tokens = is.tokens_are;
      nodes = ap (λ (t : Tree). t.nodes) trees;
      items = ap (λ (t : Tree). t.items) trees;
    } in
    let same = one_names file tokens (tree_of u) other names (subst (λ t. AreItsNames file tokens t other) trees is.known) known in
    no_fault file v u names checked fault lists (subst (λ n. IsSoundOf file v n checked) same is.sound) first some
