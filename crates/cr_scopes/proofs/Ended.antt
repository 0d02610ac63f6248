-- What is known when all events are followed.
use Rattle.std.proofs.Common.{◌≡◌, ℕ, zero, suc, ◌+◌, ◌<◌, ◌≤◌, Bool, true, false, List, [], ◌∷◌, Option, None, Some, length, slice_get, slice_index_or, nat_lt, nat_le, nat_eq, drop, if◌then◌else◌, refl, sym, ap, subst, ◌∙◌, inl, inr, arith}
use Rattle.std.specs.HashMap.{get}
use Rattle.std.specs.Map.{lookup}
use Rattle.std.proofs.lemmas.Option.{slice_get_past}
use Rattle.std.proofs.lemmas.Bool.{true≢false, cases_lt, leb-true, leb-false, cond-true, cond-false, lt-ltb, le-ltb}
use Rattle.std.proofs.lemmas.List.{get_or_past}
use Rattle.cr_tokens.specs.declared.token.Token.{Token}
use Rattle.cr_syntax.specs.declared.unit.Unit as tree
use Rattle.cr_scopes_events.specs.declared.event.Event.{Event}
use Rattle.cr_scopes.specs.declared.fault.NameFault.{NameFault}
use Rattle.cr_scopes.specs.declared.fault.NameFault.TheVariants.{NoMemory, Unknown, Twice}
use Rattle.cr_scopes.specs.declared.names.Names.{Names}
use Rattle.cr_scopes.specs.declared.told.Told.{Told}
use Rattle.cr_scopes.specs.declared.state.State.{State}
use Rattle.cr_scopes.specs.declared.scope.Space.{Space}
use Rattle.cr_scopes.specs.Looking.{unseen}
use Rattle.cr_scopes.specs.Scopes.{looked}
use Rattle.cr_scopes.specs.Spelled.{name_of}
use Rattle.cr_scopes.specs.Resolved.{told, past_of, with_event, fault_if, fault_at, token_of, told_below, AreEntities, AreNames, IsFirstOrNone}
use Rattle.cr_scopes.specs.Building.{told_in}
use Rattle.cr_scopes.specs.States.{name_in, AreTold, IsState, same_pair, lesser, IsFirstBelow, IsLeast}
use Rattle.cr_scopes.specs.Units.{unit_events, AreUnitEntities, AreUnitNames, IsUnitFault, IsUnitFirst}

abbrev token_if : Option NameFault → ℕ
token_if None = 0
token_if (Some fault) = token_of fault

abbrev is_there : Option NameFault → Bool
is_there None = false
is_there (Some fault) = true

no_fault : (fault : NameFault) → None ≡ Some fault → ⊥
no_fault fault e = true≢false (sym (ap is_there e))

same_token : (f g : NameFault) → Some f ≡ Some g → token_of f ≤ token_of g
same_token f g e = let q : token_of f ≡ token_of g = ap token_if e in omega (arith, q)

newest_is : (at : ℕ → Option NameFault) (j k : ℕ) → j < k + 1 → k ≤ j → at k ≡ at j
newest_is at j k low high = ap at (let e : k ≡ j = omega (arith, low, high) in e)

-- the lesser of the least fault so far and the next
lesser_is : (at : ℕ → Option NameFault) (k : ℕ) (f g : NameFault) (b : Bool) → nat_le (token_of f) (token_of g) ≡ b
    → IsFirstBelow at k f → Some g ≡ at k → IsLeast at (k + 1) (if b then Some f else Some g)
lesser_is at k f g true le h e = record {
  event = h.event;
  below = let l = h.below in omega (arith, l);
  is = h.is;
  first = λ j other low eq. elim (cases_lt j k) [
    | inl older ↦ h.first j other older eq
    | inr newest ↦
        let a = leb-true (token_of f) (token_of g) le in
        let b = same_token g other (e ∙ newest_is at j k low newest ∙ eq) in
        omega (arith, a, b)
  ];
  earliest = h.earliest;
}
lesser_is at k f g false le h e = record {
  event = k;
  below = omega arith;
  is = sym e;
  first = λ j other low eq. elim (cases_lt j k) [
    | inl older ↦
        let a = leb-false (token_of f) (token_of g) le in
        let b = h.first j other older eq in
        omega (arith, a, b)
    | inr newest ↦ same_token g other (e ∙ newest_is at j k low newest ∙ eq)
  ];
  earliest = λ j other older eq.
      let a = leb-false (token_of f) (token_of g) le in
      let b = h.first j other older eq in
      omega (arith, a, b);
}

pub least_more : (at : ℕ → Option NameFault) (k : ℕ) (a b : Option NameFault) → IsLeast at k a → b ≡ at k → IsLeast at (k + 1) (lesser a b)
least_more at k None None h e = λ j low. elim (cases_lt j k) [
  | inl older ↦ h j older
  | inr newest ↦ sym (newest_is at j k low newest) ∙ sym e
]
least_more at k None (Some g) h e = record {
  event = k;
  below = omega arith;
  is = sym e;
  first = λ j other low eq. elim (cases_lt j k) [
    | inl older ↦ absurd (no_fault other (sym (h j older) ∙ eq))
    | inr newest ↦ same_token g other (e ∙ newest_is at j k low newest ∙ eq)
  ];
  earliest = λ j other older eq. absurd (no_fault other (sym (h j older) ∙ eq));
}
least_more at k (Some f) None h e = record {
  event = h.event;
  below = let l = h.below in omega (arith, l);
  is = h.is;
  first = λ j other low eq. elim (cases_lt j k) [
    | inl older ↦ h.first j other older eq
    | inr newest ↦ absurd (no_fault other (e ∙ newest_is at j k low newest ∙ eq))
  ];
  earliest = h.earliest;
}
least_more at k (Some f) (Some g) h e = lesser_is at k f g (nat_le (token_of f) (token_of g)) refl h e

-- one event more
pub past_more : (events : List Event) (k : ℕ) (event : Event) → slice_get events k ≡ Some event → event ∷ past_of events k ≡ past_of events (k + 1)
past_more events k event e =
    ap (λ o. with_event o (past_of events k)) (sym e) ∙ ap (past_of events) (let s : suc k ≡ k + 1 = omega arith in s)

pub fault_is : (name : ℕ → ℕ) (events : List Event) (k : ℕ) (event : Event) → slice_get events k ≡ Some event
    → fault_if name (past_of events k) (Some event) ≡ fault_at name events k
fault_is name events k event e = ap (fault_if name (past_of events k)) (sym e)

-- an event is followed
pub next_state : (name row : ℕ → ℕ) (events : List Event) (k : ℕ) (event : Event) (old new : State) → row ≡ name
    → slice_get events k ≡ Some event
    → ((past : List Event) → IsState row past old → IsState row (event ∷ past) new)
    → IsState name (past_of events k) old → IsState name (past_of events (k + 1)) new
next_state name row events k event old new same is follows h =
    subst (λ past. IsState name past new) (past_more events k event is)
    (subst (λ n. IsState n (event ∷ past_of events k) new) same
    (follows (past_of events k) (subst (λ n. IsState n (past_of events k) old) (sym same) h)))

pub next_least : (name row : ℕ → ℕ) (events : List Event) (k : ℕ) (event : Event) (old : State) (first fault both : Option NameFault) → row ≡ name
    → slice_get events k ≡ Some event
    → ((past : List Event) → IsState row past old → fault ≡ fault_if row past (Some event))
    → both ≡ lesser first fault
    → IsState name (past_of events k) old → IsLeast (fault_at name events) k first → IsLeast (fault_at name events) (k + 1) both
next_least name row events k event old first fault both same is follows l h least =
    subst (IsLeast (fault_at name events) (k + 1)) (sym l)
    (least_more (fault_at name events) k first fault least
    (follows (past_of events k) (subst (λ n. IsState n (past_of events k) old) (sym same) h)
    ∙ ap (λ n. fault_if n (past_of events k) (Some event)) same ∙ fault_is name events k event is))

pub none_yet : (at : ℕ → Option NameFault) → IsLeast at 0 None
none_yet at = λ j low. absurd (let e : ⊥ = omega (arith, low) in e)

pub ended_told : (name : ℕ → ℕ) (events : List Event) (k : ℕ) (state : State) → IsState name (past_of events k) state → k ≡ length events
    → AreTold name (past_of events (length events)) state.told.items
ended_told name events k state h all = subst (λ n. AreTold name (past_of events n) state.told.items) all h.told

pub ended_least : (at : ℕ → Option NameFault) (k n : ℕ) (fault : Option NameFault) → IsLeast at k fault → k ≡ n → IsLeast at n fault
ended_least at k n fault h all = subst (λ m. IsLeast at m fault) all h

-- before all events
none_in : (space : Space) (s d : ℕ) → unseen ≡ looked space s (drop d [])
none_in space s zero = refl
none_in space s (suc d) = refl

pub starts : (name : ℕ → ℕ) (state : State) → state.scopes ≡ [] → state.depth ≡ 0 → state.linked ≡ []
    → ((q : ℕ × ℕ) → get same_pair state.members q ≡ None)
    → ((t : ℕ) → t < length state.told.items → slice_index_or state.told.items t None ≡ None) → IsState name [] state
starts name state a b c d e = record {
  scopes = λ space s k. none_in space s k ∙ ap (λ xs. looked space s (drop k xs)) (sym a);
  depth = b;
  linked = λ s. ap (lookup (nat_eq s)) c;
  members = λ structure s. d (structure, s);
  told = e;
}

no_fault_past : (name : ℕ → ℕ) (events : List Event) (k : ℕ) → length events ≤ k → fault_at name events k ≡ None
no_fault_past name events k past = ap (fault_if name (past_of events k)) (slice_get_past events k past)

-- ---- behind all events

told_row : (row : List ℕ) (rows : List (Option Told)) (events : List Event) (tokens : ℕ) → length rows ≡ tokens
    → AreTold (name_in row) (past_of events (length events)) rows → (t : ℕ) → told_in rows t ≡ told_below (name_in row) events tokens t
told_row row rows events tokens whole h t = elim (cases_lt t tokens) [
  | inl low ↦
      h t (omega (arith, low, whole))
      ∙ sym (cond-true (nat_lt t tokens) (told (name_in row) t (past_of events (length events))) None (lt-ltb t tokens low))
  | inr past ↦
      get_or_past rows t None (omega (arith, past, whole))
      ∙ sym (cond-false (nat_lt t tokens) (told (name_in row) t (past_of events (length events))) None (le-ltb t tokens past))
]

entities_by : (file : List ℕ) (unit : tree.Unit) (row : List ℕ) (rows : List (Option Told)) (found : Names)
    → ((t : ℕ) → name_in row t ≡ name_of file unit.tokens.list.items t) → length rows ≡ length unit.tokens.list.items
    → AreTold (name_in row) (past_of (unit_events unit) (length (unit_events unit))) rows
    → AreNames (told_in rows) (length rows) found → AreUnitEntities file unit found
entities_by file unit row rows found names whole told_rows entities =
    let events = unit_events unit in
    let tokens = unit.tokens.list.items in
    subst (λ name. AreEntities name events (length tokens) found) (λ i. λ t. names t i)
    (subst (λ n. AreNames (told_below (name_in row) events (length tokens)) n found) whole
    (subst (λ at. AreNames at (length rows) found) (λ i. λ t. told_row row rows events (length tokens) whole told_rows t i) entities))

-- what tokens stand for gives the entities of the unit
pub unit_entities : (file : List ℕ) (unit : tree.Unit) (tokens : List Token) (row : List ℕ) (events : List Event) (rows : List (Option Told))
    (found : Names) → tokens ≡ unit.tokens.list.items → events ≡ unit_events unit
    → ((t : ℕ) → name_in row t ≡ name_of file tokens t) → length rows ≡ length tokens
    → AreTold (name_in row) (past_of events (length events)) rows → AreNames (told_in rows) (length rows) found → AreUnitEntities file unit found
unit_entities file unit tokens row events rows found t e names whole told_rows entities =
    entities_by file unit row rows found
    (subst (λ ts. (k : ℕ) → name_in row k ≡ name_of file ts k) t names)
    (whole ∙ ap length t)
    (subst (λ es. AreTold (name_in row) (past_of es (length es)) rows) e told_rows)
    entities

-- the first fault of all events is that of the unit
first_by : (name : ℕ → ℕ) (events : List Event) (fault : Option NameFault) → IsLeast (fault_at name events) (length events) fault
    → IsFirstOrNone name events fault
first_by name events None least = λ k. elim (cases_lt k (length events)) [
  | inl low ↦ least k low
  | inr past ↦ no_fault_past name events k past
]
first_by name events (Some fault) h = record {
  event = h.event;
  is = h.is;
  first = λ k other e. elim (cases_lt k (length events)) [
    | inl low ↦ h.first k other low e
    | inr past ↦ absurd (no_fault other (sym (no_fault_past name events k past) ∙ e))
  ];
  earliest = h.earliest;
}

pub unit_first : (file : List ℕ) (unit : tree.Unit) (tokens : List Token) (row : List ℕ) (events : List Event) (fault : Option NameFault)
    → tokens ≡ unit.tokens.list.items → events ≡ unit_events unit → ((t : ℕ) → name_in row t ≡ name_of file tokens t)
    → IsLeast (fault_at (name_in row) events) (length events) fault → IsUnitFirst file unit fault
unit_first file unit tokens row events fault t e names least =
    subst (λ name. IsFirstOrNone name (unit_events unit) fault)
    (λ i. λ k. subst (λ ts. (k : ℕ) → name_in row k ≡ name_of file ts k) t names k i)
    (subst (λ es. IsFirstOrNone (name_in row) es fault) e (first_by (name_in row) events fault least))

-- what is known of both is what is resolved

fault_of_unit : (file : List ℕ) (unit : tree.Unit) (fault : NameFault) → IsUnitFirst file unit (Some fault) → IsUnitFault file unit fault
fault_of_unit file unit NoMemory h = tt
fault_of_unit file unit (Unknown t) h = h
fault_of_unit file unit (Twice t) h = h

pub first_is : (file : List ℕ) (unit : tree.Unit) (fault : NameFault) (found : Option NameFault) → found ≡ Some fault
    → IsUnitFirst file unit found → IsUnitFault file unit fault
first_is file unit fault found e h = fault_of_unit file unit fault (subst (IsUnitFirst file unit) e h)

pub all_resolved : (file : List ℕ) (unit : tree.Unit) (names : Names) (found : Option NameFault) → found ≡ None
    → IsUnitFirst file unit found → AreUnitEntities file unit names → AreUnitNames file unit names
all_resolved file unit names found e h are = record { right = subst (IsUnitFirst file unit) e h; names = are }
