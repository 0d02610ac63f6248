-- A typedef name that is declared again with another type is declared again.
use Rattle.std.proofs.Common.{◌≡◌, ℕ, zero, suc, ◌+◌, ◌<◌, ◌≤◌, ◌==◌, Bool, true, false, not, ◌&&◌, List, [], ◌∷◌, Option, None, Some, length, nat_lt, slice_index_or, if◌then◌else◌, inl, inr, refl, sym, ap, subst, ◌∙◌, arith}
use Rattle.std.proofs.lemmas.Bool.{true≢false, cases_lt, eqb-true, lt-ltb}
use Rattle.std.proofs.lemmas.List.{get_or_past}
use Rattle.std.proofs.lemmas.Option.{none-some}
use Rattle.cr_syntax.specs.declared.node.Node.{Node}
use Rattle.cr_syntax.specs.declared.unit.Unit as source
use Rattle.cr_scopes.specs.declared.names.Names.{Names}
use Rattle.cr_scopes.specs.Faults.{is_other}
use Rattle.cr_scopes.specs.Looking.{or_else}
use Rattle.cr_scopes.specs.Resolved.{is_number}
use Rattle.cr_scopes_bindings.specs.Last.{AreLast, last_with}
use Rattle.cr_scopes_bindings.specs.Nodes.{name_at}
use Rattle.cr_check_types.specs.Types.{Qualified}
use Rattle.cr_check_definitions.specs.Known.{Known, declared_in, first_part}
use Rattle.cr_check_definitions.specs.Typedefs.{first_given, given_if, typedef_if, typedef_of}
use Rattle.cr_check.specs.Columns.{known_in}
use Rattle.cr_check.specs.NameFaults.{IsRepeated, NoneBefore, again_before, first_declared, stands_again}

some_is : {A : Type 0} (x y : A) → Some x ≡ Some y → x ≡ y
some_is x y e = cc e

-- ---- the node that declares a token

number_is : (o : Option ℕ) (k : ℕ) → is_number o k ≡ true → o ≡ Some k
number_is None k e = absurd (true≢false (sym e))
number_is (Some j) k e = ap Some (eqb-true j k e)

key_step : (key : ℕ → Option ℕ) (i k node : ℕ) (b : Bool) → is_number (key i) k ≡ b → (if b then Some i else last_with key i k) ≡ Some node
    → (last_with key i k ≡ Some node → (node < i) × (key node ≡ Some k)) → (node < suc i) × (key node ≡ Some k)
key_step key i k node true q e rest =
    let same : i ≡ node = some_is i node e in
    (omega (arith, same), subst (λ n. key n ≡ Some k) same (number_is (key i) k q))
key_step key i k node false q e rest =
    let found = rest e in
    let low = found.0 in
    (omega (arith, low), found.1)

key_is : (key : ℕ → Option ℕ) (n k node : ℕ) → last_with key n k ≡ Some node → (node < n) × (key node ≡ Some k)
key_is key zero k node e = absurd (none-some node e)
key_is key (suc i) k node e = key_step key i k node (is_number (key i) k) refl e (key_is key i k node)

-- what has a key among so many stands at one of them
in_column : (key : ℕ → Option ℕ) (bound keys k node : ℕ) (column : List (Option ℕ)) → AreLast key bound keys column
    → slice_index_or column k None ≡ Some node → (node < bound) × (key node ≡ Some k)
in_column key bound keys k node column h e = elim (cases_lt k keys) [
  | inl low ↦ key_is key bound k node (sym (h.each k low) ∙ e)
  | inr past ↦ absurd (none-some node (sym (get_or_past column k None (let c = h.count in omega (arith, c, past))) ∙ e))
]

declarer_of : (known : Known) (node : Option ℕ) (own : Qualified) → typedef_if known node ≡ Some own → (there : ℕ) × (node ≡ Some there)
declarer_of known None own e = absurd (none-some own e)
declarer_of known (Some node) own e = (node, refl)

-- ---- and the first declaration of what it stands for

other_by : (given : ℕ → Option Qualified) (first token : ℕ) (rest : List ℕ) (own type : Qualified) (same : Bool) → (first == token) ≡ same
    → given token ≡ Some own → or_else (given first) (first_given given rest) ≡ Some type → (own ≡ type → ⊥) → not same ≡ true
other_by given first token rest own type true e is found other =
    let here : given first ≡ Some own = ap given (eqb-true first token e) ∙ is in
    absurd (other (some_is own type (sym (ap (λ x. or_else x (first_given given rest)) here) ∙ found)))
other_by given first token rest own type false e is found other = refl

other_in : (given : ℕ → Option Qualified) (token : ℕ) (declared : List ℕ) (own type : Qualified) → given token ≡ Some own
    → first_given given declared ≡ Some type → (own ≡ type → ⊥) → is_other token (first_part declared) ≡ true
other_in given token [] own type is found other = absurd (none-some type found)
other_in given token (first ∷ rest) own type is found other =
    other_by given first token rest own type (first == token) refl is found other

again_by : (known : Known) (names : Names) (token : ℕ) (entity : Option ℕ) (own type : Qualified) → typedef_of known token ≡ Some own
    → given_if known names entity ≡ Some type → (own ≡ type → ⊥) → is_other token (first_declared names entity) ≡ true
again_by known names token None own type is found other = absurd (none-some type found)
again_by known names token (Some entity) own type is found other =
    other_in (typedef_of known) token (declared_in names entity) own type is found other

-- a node declares a name at this token, and it stands for what is declared first at another
pub record IsAgain (nodes : List Node) (names : Names) (token : ℕ) : Type 0 where
  pub node : ℕ
  pub there : node < length nodes
  pub declares : name_at nodes node ≡ Some token
  pub again : stands_again names token ≡ true

pub repeated_again : (file : List ℕ) (unit : source.Unit) (names : Names) (token : ℕ) → IsRepeated file unit names token
    → IsAgain unit.nodes names token
repeated_again file unit names token h =
    let known = known_in file unit h.checked in
    let declarers = h.is.surroundings.bindings.declarers in
    let declarer = declarer_of known (known.declarer token) h.twice.own h.twice.is in
    let at = in_column (name_at unit.nodes) (length unit.nodes) (length unit.tokens.list.items) token declarer.0
    h.checked.surroundings.bindings.declarers declarers declarer.1 in
    record {
      node = declarer.0;
      there = at.0;
      declares = at.1;
      again = again_by known names token (slice_index_or names.of_token token None) h.twice.own h.twice.first h.twice.is h.twice.given h.twice.other;
    }

-- ---- the search

before_by : (names : Names) (before token : ℕ) (low : Bool) → nat_lt token before ≡ low → (low && stands_again names token) ≡ false
    → stands_again names token ≡ true → before ≤ token
before_by names before token true e none again = absurd (true≢false (sym again ∙ none))
before_by names before token false e none again = elim (cases_lt token before) [
  | inl less ↦ absurd (true≢false (sym (lt-ltb token before less) ∙ e))
  | inr behind ↦ behind
]

pub none_yet : (nodes : List Node) (names : Names) (before : ℕ) → NoneBefore nodes names before 0
none_yet nodes names before node token low is again = absurd (omega (arith, low))

pub all_looked_at : (nodes : List Node) (names : Names) (before at : ℕ) → length nodes ≤ at → NoneBefore nodes names before at
    → NoneBefore nodes names before (length nodes)
all_looked_at nodes names before at end none node token low is again = none node token (omega (arith, end, low)) is again

pub is_one : (nodes : List Node) (names : Names) (before : ℕ) → true ≡ false → NoneBefore nodes names before (length nodes)
is_one nodes names before e = absurd (true≢false e)

-- one node more
pub one_more : (nodes : List Node) (names : Names) (before bound number : ℕ) (declared : Option ℕ) → number ≡ bound
    → declared ≡ name_at nodes number → again_before names before declared ≡ false → NoneBefore nodes names before bound
    → NoneBefore nodes names before (bound + 1)
one_more nodes names before bound number declared n d none rest node token low is again = elim (cases_lt node bound) [
  | inl older ↦ rest node token older is again
  | inr newest ↦
      let same : number ≡ node = omega (arith, n, low, newest) in
      let here : declared ≡ Some token = d ∙ ap (name_at nodes) same ∙ is in
      before_by names before token (nat_lt token before) refl (sym (ap (again_before names before) here) ∙ none) again
]
