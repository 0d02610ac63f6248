-- What is kept of the events follows them.
use Rattle.std.proofs.Common.{◌≡◌, ℕ, zero, suc, ◌+◌, ◌-◌, ◌==◌, Bool, true, false, ◌&&◌, List, [], ◌∷◌, Option, None, Some, length, nat_eq, slice_set, drop, if◌then◌else◌, refl, sym, ap, subst, ◌∙◌, inl, inr, arith}
use Rattle.std.specs.Map.{lookup}
use Rattle.std.specs.HashMap.{HashMap, get}
use Rattle.std.proofs.lemmas.List.{get_or-set_other, length-set}
use Rattle.std.proofs.lemmas.Grind.{get_or-set_at}
use Rattle.std.proofs.lemmas.Bool.{true≢false, and_parts, cases_eq, eqb-true, eq-eqb, ne_eqb, cond-true, cond-false}
use Rattle.cr_scopes_events.specs.declared.event.Event.{Event}
use Rattle.cr_scopes_events.specs.declared.event.Event.TheVariants.{Node, Opens, Closes, Name, Member}
use Rattle.cr_scopes_events.specs.declared.event.Role.{Role}
use Rattle.cr_scopes.specs.declared.fault.NameFault.{NameFault}
use Rattle.cr_scopes.specs.declared.fault.NameFault.TheVariants.{Twice}
use Rattle.cr_scopes.specs.declared.scope.Space.{Space}
use Rattle.cr_scopes.specs.declared.scope.Space.TheVariants.{Ordinary, Tag, Content}
use Rattle.cr_scopes.specs.declared.scope.Scope.{Scope}
use Rattle.cr_scopes.specs.declared.scope.Look.{Look}
use Rattle.cr_scopes.specs.declared.told.Told.{Told}
use Rattle.cr_scopes.specs.declared.state.State.{State}
use Rattle.cr_scopes.specs.Looking.{is_outermost, links, linked, begun_by, begun, or_else, stands_in, noted_if, look, first_member}
use Rattle.cr_scopes.specs.Faults.{wrong_by, fault_by, fault_where, is_other, fault_of}
use Rattle.cr_scopes.specs.Scopes.{blank, looked, IsNamed}
use Rattle.cr_scopes.specs.Resolved.{told, told_of, told_if, declares, declares_by, space_of}
use Rattle.cr_scopes.specs.States.{AreScopes, AreLinked, AreTold, IsState, HasLinked, HasNamed, outermost_of, named_fault, same_pair}

or_none : (o : Option ℕ) → o ≡ or_else o None
or_none None = refl
or_none (Some x) = refl

and_false : (b : Bool) → (b && false) ≡ false
and_false true = refl
and_false false = refl

-- linkage
pub link_none : (name token : ℕ) (known : List (ℕ × ℕ)) → HasLinked false name token known known
link_none name token known q =
    or_none (lookup (nat_eq q) known)
    ∙ ap (λ b. or_else (lookup (nat_eq q) known) (if b then Some token else None)) (sym (and_false (name == q)))

and_true : (b : Bool) → (b && true) ≡ b
and_true true = refl
and_true false = refl

kept_at : (name token first q : ℕ) (known : List (ℕ × ℕ)) (b : Bool) → (name == q) ≡ b → lookup (nat_eq name) known ≡ Some first
    → lookup (nat_eq q) known ≡ or_else (lookup (nat_eq q) known) (if b then Some token else None)
kept_at name token first q known true e h =
    let is : lookup (nat_eq q) known ≡ Some first = subst (λ x. lookup (nat_eq x) known ≡ Some first) (eqb-true name q e) h in
    is ∙ sym (ap (λ o. or_else o (Some token)) is)
kept_at name token first q known false e h = or_none (lookup (nat_eq q) known)

pub link_kept : (name token first : ℕ) (known : List (ℕ × ℕ)) → lookup (nat_eq name) known ≡ Some first → HasLinked true name token known known
link_kept name token first known h q =
    kept_at name token first q known (name == q) refl h
    ∙ ap (λ b. or_else (lookup (nat_eq q) known) (if b then Some token else None)) (sym (and_true (name == q)))

same_test : (a b : ℕ) (r : Bool) → (a == b) ≡ r → (b == a) ≡ r
same_test a b true e = eq-eqb b a (sym (eqb-true a b e))
same_test a b false e = ne_eqb b a (λ is. true≢false (sym (eq-eqb a b (sym is)) ∙ e))

put_at : (name token q : ℕ) (known : List (ℕ × ℕ)) (b : Bool) → (name == q) ≡ b → lookup (nat_eq name) known ≡ None
    → (if b then Some token else lookup (nat_eq q) known) ≡ or_else (lookup (nat_eq q) known) (if b then Some token else None)
put_at name token q known true e h =
    sym (ap (λ o. or_else o (Some token)) (subst (λ x. lookup (nat_eq x) known ≡ None) (eqb-true name q e) h))
put_at name token q known false e h = or_none (lookup (nat_eq q) known)

pub link_put : (name token : ℕ) (known new : List (ℕ × ℕ)) → lookup (nat_eq name) known ≡ None
    → ((q : ℕ) → lookup (nat_eq q) new ≡ (if q == name then Some token else lookup (nat_eq q) known)) → HasLinked true name token known new
link_put name token known new h p q =
    p q
    ∙ ap (λ b. if b then Some token else lookup (nat_eq q) known) (same_test name q (name == q) refl)
    ∙ put_at name token q known (name == q) refl h
    ∙ ap (λ b. or_else (lookup (nat_eq q) known) (if b then Some token else None)) (sym (and_true (name == q)))

-- a scope opens
scopes_opened : (name : ℕ → ℕ) (past : List Event) (scopes : List Scope) → AreScopes name past scopes → AreScopes name (Opens ∷ past) (blank ∷ scopes)
scopes_opened name past scopes h Ordinary s zero = ap {B = Look} (λ (l : Look). record { here = None; seen = l.seen }) (h Ordinary s 0)
scopes_opened name past scopes h Tag s zero = ap {B = Look} (λ (l : Look). record { here = None; seen = l.seen }) (h Tag s 0)
scopes_opened name past scopes h Content s zero = ap {B = Look} (λ (l : Look). record { here = None; seen = l.seen }) (h Content s 0)
scopes_opened name past scopes h space s (suc d) = h space s d

pub opened : (name : ℕ → ℕ) (past : List Event) (old new : State) → new.scopes ≡ blank ∷ old.scopes → new.depth ≡ old.depth + 1
    → new.linked ≡ old.linked → new.members ≡ old.members → new.told ≡ old.told → IsState name past old → IsState name (Opens ∷ past) new
opened name past old new a b c d e h = record {
  scopes = subst (AreScopes name (Opens ∷ past)) (sym a) (scopes_opened name past old.scopes h.scopes);
  depth = let k = h.depth in omega (arith, b, k);
  linked = subst (AreLinked name (Opens ∷ past)) (sym c) h.linked;
  members = λ structure s. ap (λ x. get same_pair x (structure, s)) d ∙ h.members structure s;
  told = subst (λ x. AreTold name (Opens ∷ past) x.items) (sym e) h.told;
}

drop_more : (d : ℕ) (scopes : List Scope) → drop (suc d) scopes ≡ drop d (drop 1 scopes)
drop_more zero [] = refl
drop_more (suc d) [] = refl
drop_more d (scope ∷ scopes) = refl

pub closed : (name : ℕ → ℕ) (past : List Event) (old new : State) → new.scopes ≡ drop 1 old.scopes → new.depth ≡ old.depth - 1
    → new.linked ≡ old.linked → new.members ≡ old.members → new.told ≡ old.told → IsState name past old → IsState name (Closes ∷ past) new
closed name past old new a b c d e h = record {
  scopes = λ space s k. h.scopes space s (suc k) ∙ ap (looked space s) (drop_more k old.scopes ∙ ap (drop k) (sym a));
  depth = let k = h.depth in b ∙ ap (λ n. n - 1) k;
  linked = subst (AreLinked name (Closes ∷ past)) (sym c) h.linked;
  members = λ structure s. ap (λ x. get same_pair x (structure, s)) d ∙ h.members structure s;
  told = subst (λ x. AreTold name (Closes ∷ past) x.items) (sym e) h.told;
}

-- a node says nothing of names
pub went_on : (name : ℕ → ℕ) (past : List Event) (i : ℕ) (state : State) → IsState name past state → IsState name (Node i ∷ past) state
went_on name past i state h = record {
  scopes = h.scopes;
  depth = h.depth;
  linked = h.linked;
  members = h.members;
  told = h.told;
}

-- a member
pair_is : (a b : ℕ × ℕ) → same_pair a b ≡ true → a ≡ b
pair_is a b e =
    let both = and_parts (a.0 == b.0) (a.1 == b.1) e in
    ap (λ x. (x, a.1)) (eqb-true a.0 b.0 both.0) ∙ ap (λ y. (b.0, y)) (eqb-true a.1 b.1 both.1)

module _ {S : Type 0} where
  pair_kept_by : (known : HashMap (ℕ × ℕ) ℕ S) (key q : ℕ × ℕ) (first token : ℕ) (b : Bool) → same_pair key q ≡ b → get same_pair known key ≡ Some first
      → get same_pair known q ≡ or_else (get same_pair known q) (if b then Some token else None)
  pair_kept_by known key q first token true e h =
      let is : get same_pair known q ≡ Some first = subst (λ x. get same_pair known x ≡ Some first) (pair_is key q e) h in
      is ∙ sym (ap (λ o. or_else o (Some token)) is)
  pair_kept_by known key q first token false e h = or_none (get same_pair known q)

  pub pair_kept : (known : HashMap (ℕ × ℕ) ℕ S) (key : ℕ × ℕ) (first token : ℕ) → get same_pair known key ≡ Some first
      → (q : ℕ × ℕ) → get same_pair known q ≡ or_else (get same_pair known q) (if same_pair key q then Some token else None)
  pair_kept known key first token h q = pair_kept_by known key q first token (same_pair key q) refl h

  pair_put_by : (known : HashMap (ℕ × ℕ) ℕ S) (key q : ℕ × ℕ) (token : ℕ) (b : Bool) → same_pair key q ≡ b → get same_pair known key ≡ None
      → (if b then Some token else get same_pair known q) ≡ or_else (get same_pair known q) (if b then Some token else None)
  pair_put_by known key q token true e h =
      sym (ap (λ o. or_else o (Some token)) (subst (λ x. get same_pair known x ≡ None) (pair_is key q e) h))
  pair_put_by known key q token false e h = or_none (get same_pair known q)

  pub pair_put : (known new : HashMap (ℕ × ℕ) ℕ S) (key : ℕ × ℕ) (token : ℕ) → get same_pair known key ≡ None
      → ((q : ℕ × ℕ) → get same_pair new q ≡ (if same_pair key q then Some token else get same_pair known q))
      → (q : ℕ × ℕ) → get same_pair new q ≡ or_else (get same_pair known q) (if same_pair key q then Some token else None)
  pair_put known new key token h p q = p q ∙ pair_put_by known key q token (same_pair key q) refl h

pub member_noted : (name : ℕ → ℕ) (past : List Event) (token structure n : ℕ) (old new : State) → n ≡ name token
    → ((q : ℕ × ℕ) → get same_pair new.members q ≡ or_else (get same_pair old.members q) (if same_pair (structure, n) q then Some token else None))
    → new.scopes ≡ old.scopes → new.depth ≡ old.depth → new.linked ≡ old.linked → new.told ≡ old.told
    → IsState name past old → IsState name (Member token structure ∷ past) new
member_noted name past token structure n old new is m a b c e h = record {
  scopes = subst (AreScopes name (Member token structure ∷ past)) (sym a) h.scopes;
  depth = b ∙ h.depth;
  linked = subst (AreLinked name (Member token structure ∷ past)) (sym c) h.linked;
  members = λ k s. m (k, s)
      ∙ ap (λ x. or_else x (if (structure == k) && (n == s) then Some token else None)) (h.members k s)
      ∙ ap (λ x. or_else (first_member name k s past) (if (structure == k) && (x == s) then Some token else None)) is;
  told = subst (λ x. AreTold name (Member token structure ∷ past) x.items) (sym e) h.told;
}

pub member_fault : (name : ℕ → ℕ) (past : List Event) (token structure n : ℕ) (old : State) (first : Option ℕ) (fault : Option NameFault) → n ≡ name token
    → first ≡ get same_pair old.members (structure, n) → fault ≡ fault_where (is_other token first) (Twice token) → IsState name past old
    → fault ≡ fault_of name past (Member token structure)
member_fault name past token structure n old first fault is a f h =
    f ∙ ap (λ o. fault_where (is_other token o) (Twice token)) (a ∙ h.members structure n ∙ ap (λ x. first_member name structure x past) is)

-- a name
outermost_is : (name : ℕ → ℕ) (past : List Event) (state : State) → IsState name past state → outermost_of state ≡ is_outermost past
outermost_is name past state h = ap (λ d. d == 0) h.depth

found_at : (name : ℕ → ℕ) (past : List Event) (state : State) (space : Space) (n t : ℕ) → n ≡ name t → IsState name past state
    → looked space n state.scopes ≡ look name space (name t) zero past
found_at name past state space n t is h = ap (λ x. looked space x state.scopes) is ∙ sym (h.scopes space (name t) 0)

pub name_fault : (name : ℕ → ℕ) (past : List Event) (token n : ℕ) (r : Role) (old : State) (fault : Option NameFault) → n ≡ name token
    → fault ≡ named_fault n token r old → IsState name past old → fault ≡ fault_of name past (Name token r)
name_fault name past token n r old fault is f h =
    f
    ∙ ap (λ o. fault_where (wrong_by o r (looked Ordinary n old.scopes) (looked Content n old.scopes)) (fault_by r token)) (outermost_is name past old h)
    ∙ ap (λ l. fault_where (wrong_by (is_outermost past) r l (looked Content n old.scopes)) (fault_by r token)) (found_at name past old Ordinary n token is h)
    ∙ ap (λ l. fault_where (wrong_by (is_outermost past) r (look name Ordinary (name token) zero past) l) (fault_by r token)) (found_at name past old Content n token is h)

begun_is : (name : ℕ → ℕ) (past : List Event) (token n : ℕ) (r : Role) (old : State) → n ≡ name token → IsState name past old
    → begun_by (outermost_of old) (lookup (nat_eq n) old.linked) token r ≡ begun name past token r
begun_is name past token n r old is h =
    ap (λ o. begun_by o (lookup (nat_eq n) old.linked) token r) (outermost_is name past old h)
    ∙ ap (λ o. begun_by (is_outermost past) o token r) (h.linked n ∙ ap (λ x. linked name x past) is)

scopes_named : (name : ℕ → ℕ) (past : List Event) (token : ℕ) (r : Role) (old new : List Scope) → AreScopes name past old
    → IsNamed (name token) (begun name past token r) old new → AreScopes name (Name token r ∷ past) new
scopes_named name past token r old new h n space s zero =
    ap (noted_if (stands_in space r && (name token == s)) (begun name past token r)) (h space s 0) ∙ sym (n.looks space s)
scopes_named name past token r old new h n space s (suc d) = h space s (suc d) ∙ ap (looked space s) (sym (n.outer d))

told_named : (name : ℕ → ℕ) (past : List Event) (token : ℕ) (r : Role) (rows : List (Option Told)) (what : Option Told)
    → AreTold name past rows → what ≡ told_of name past token r → AreTold name (Name token r ∷ past) (slice_set rows token what)
told_named name past token r rows what h is t low = elim (cases_eq t token) [
  | inl here ↦
      get_or-set_at rows token t what None here (omega (arith, low, length-set rows token what))
      ∙ is ∙ sym (cond-true (t == token) (told_of name past token r) (told name t past) (eq-eqb t token here))
  | inr other ↦
      get_or-set_other rows token t what None other
      ∙ h t (omega (arith, low, length-set rows token what))
      ∙ sym (cond-false (t == token) (told_of name past token r) (told name t past) (ne_eqb t token other))
]

pub name_noted : (name : ℕ → ℕ) (past : List Event) (token n : ℕ) (r : Role) (old new : State) → n ≡ name token
    → HasNamed n token r old new → IsState name past old → IsState name (Name token r ∷ past) new
name_noted name past token n r old new is n' h =
    let scopes : AreScopes name (Name token r ∷ past) new.scopes =
    scopes_named name past token r old.scopes new.scopes h.scopes
    (subst (λ x. IsNamed x (begun name past token r) old.scopes new.scopes) is
    (subst (λ f. IsNamed n f old.scopes new.scopes) (begun_is name past token n r old is h) n'.scopes)) in
    record {
      scopes = scopes;
      depth = n'.depth ∙ h.depth;
      linked = λ q. n'.linked q
          ∙ ap (λ o. or_else o (if (n == q) && links (outermost_of old) r then Some token else None)) (h.linked q)
          ∙ ap (λ x. or_else (linked name q past) (if (x == q) && links (outermost_of old) r then Some token else None)) is
          ∙ ap (λ o. or_else (linked name q past) (if (name token == q) && links o r then Some token else None)) (outermost_is name past old h);
      members = λ k s. ap (λ x. get same_pair x (k, s)) n'.members ∙ h.members k s;
      told = subst (AreTold name (Name token r ∷ past)) (sym n'.told)
          (told_named name past token r old.told.items _ h.told
          (ap (λ l. told_if (declares_by r l) r (looked (space_of r) n new.scopes).seen) (found_at name past old Tag n token is h)
          ∙ ap (λ x. told_if (declares name past token r) r (looked (space_of r) x new.scopes).seen) is
          ∙ ap (λ l. told_if (declares name past token r) r l.seen) (sym (scopes (space_of r) (name token) 0))));
    }

pub told_count : (old new : List (Option Told)) (token : ℕ) (what : Option Told) → new ≡ slice_set old token what → length new ≡ length old
told_count old new token what e = ap length e ∙ length-set old token what
