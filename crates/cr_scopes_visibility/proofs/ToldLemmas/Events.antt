-- What events leave of what is told: all uses of the nodes below a bound, each behind declarations that stand below it, and no declaration that
-- stands at the bound or behind it.
use Rattle.std.proofs.Common.{◌≡◌, ℕ, zero, suc, ◌+◌, ◌<◌, ◌≤◌, ◌==◌, ◌&&◌, ◌||◌, not, Bool, true, false, inl, inr, List, [], ◌∷◌, ◌++◌, Option, None, Some, length, drop, slice_get, refl, sym, ap, subst, ◌∙◌, if◌then◌else◌, arith}
use Rattle.std.proofs.lemmas.Bool.{false≢true, cases_lt, eqb-true, eq-eqb, and_parts, and_right, or_right}
use Rattle.cr_syntax.specs.declared.node.Node.{Node}
use Rattle.cr_scopes_events.specs.declared.event.Role.{Role}
use Rattle.cr_scopes_events.specs.declared.event.Role.TheVariants as role
use Rattle.cr_scopes_events.specs.declared.event.Event.{Event}
use Rattle.cr_scopes_events.specs.declared.event.Event.TheVariants as event
use Rattle.cr_scopes.specs.declared.scope.Space.TheVariants.{Ordinary}
use Rattle.cr_scopes.specs.Looking.{stands_in}
use Rattle.cr_scopes.specs.Resolved.{with_event, past_of}
use Rattle.cr_scopes_bindings.specs.Visible.{is_named}
use Rattle.cr_scopes_visibility.specs.Alone.Sight.{is_used}
use Rattle.cr_scopes_visibility.specs.Sight.Scopes.{is_using}
use Rattle.cr_scopes_visibility.specs.Uses.Uses.{is_use, is_declared, is_before}
use Rattle.cr_scopes_visibility.specs.Told.Told.{IsDeclaredBelow, IsTold, AreApart}
use Rattle.cr_scopes_visibility.proofs.SightLemmas.Steps.{came_none, came_some}

-- one of two that isn't the first is the second
other_of : (a b : Bool) → a ≡ false → (a || b) ≡ true → b ≡ true
other_of true b f h = absurd (false≢true (sym f))
other_of false b f h = h

-- events that come behind others
abbrev pub onto : List Event → List Event → List Event
onto past [] = past
onto past (e ∷ es) = onto (e ∷ past) es

pub onto_append : (past xs ys : List Event) → onto past (xs ++ ys) ≡ onto (onto past xs) ys
onto_append past [] ys = refl
onto_append past (x ∷ xs) ys = onto_append (x ∷ past) xs ys

pub declared_later : (nodes : List Node) (token b c : ℕ) → b ≤ c → IsDeclaredBelow nodes token b → IsDeclaredBelow nodes token c
declared_later nodes token b c le h = record { declarer = h.declarer; names = h.names; below = (let less = h.below in omega (arith, less, le)); last = h.last; stands = h.stands }

-- ---- a token that is named stays so

pub still_named : (token : ℕ) (past : List Event) (e : Event) → is_named token past ≡ true → is_named token (e ∷ past) ≡ true
still_named token past (event.Name t r) h = or_right (token == t) (is_named token past) h
still_named token past event.Opens h = h
still_named token past event.Closes h = h
still_named token past (event.Member t k) h = h
still_named token past (event.Node i) h = h

pub named_onto : (token : ℕ) (past es : List Event) → is_named token past ≡ true → is_named token (onto past es) ≡ true
named_onto token past [] h = h
named_onto token past (e ∷ es) h = named_onto token (e ∷ past) es (still_named token past e h)

pub still_declared : (token : ℕ) (past : List Event) (e : Event) → is_declared token past ≡ true → is_declared token (e ∷ past) ≡ true
still_declared token past (event.Name t r) h = or_right (stands_in Ordinary r && (token == t)) (is_declared token past) h
still_declared token past event.Opens h = h
still_declared token past event.Closes h = h
still_declared token past (event.Member t k) h = h
still_declared token past (event.Node i) h = h

module _ (nodes : List Node) (apart : AreApart nodes) where
  -- of nodes that use a name
  abbrev Uses : ℕ → Node → Type 0
  Uses i n = (slice_get nodes i ≡ Some n) × (is_using n.kind ≡ true)

  pub record Holds (past : List Event) (bound : ℕ) : Type 0 where
    pub told : (i : ℕ) (n : Node) → Uses i n → i < bound → is_named n.first past ≡ true
    pub good : (i : ℕ) (n : Node) → Uses i n → is_named n.first past ≡ true → IsTold nodes n.first i past
    pub declared : (token : ℕ) → is_declared token past ≡ true → IsDeclaredBelow nodes token bound

  pub at_first : Holds [] 0
  at_first = record {
    told = λ i n u low. absurd (omega (arith, low));
    good = λ i n u h. absurd (false≢true h);
    declared = λ token h. absurd (false≢true h);
  }

  -- what was told of a token stays
  told_still : (token i t : ℕ) (r : Role) (past : List Event) → is_named token past ≡ true → IsTold nodes token i past → IsTold nodes token i (event.Name t r ∷ past)
  told_still token i t r past named h = record {
    used = ap (λ b. if b then is_used r else is_use token past) known ∙ h.used;
    behind = λ declared e. h.behind declared (sym (ap (λ b. if b then is_declared declared past else is_before declared token past) known) ∙ e);
  }
    where
      known : ((token == t) && not (is_named token past)) ≡ false
      known = and_right (token == t) (not (is_named token past)) (ap not named)

  -- one name more
  pub name_more : (t : ℕ) (r : Role) (past : List Event) (bound : ℕ)
      → ((i : ℕ) (n : Node) → Uses i n → n.first ≡ t → is_named n.first past ≡ false → IsTold nodes n.first i (event.Name t r ∷ past))
      → (stands_in Ordinary r ≡ true → is_declared t past ≡ false → IsDeclaredBelow nodes t bound) → Holds past bound → Holds (event.Name t r ∷ past) bound
  name_more t r past bound used declares h = record {
    told = λ i n u low. still_named n.first past (event.Name t r) (h.told i n u low);
    good = λ i n u named. by i n u named (is_named n.first past) refl;
    declared = λ token e. of_token token e (stands_in Ordinary r && (token == t)) refl (is_declared token past) refl;
  }
    where
      by : (i : ℕ) (n : Node) → Uses i n → is_named n.first (event.Name t r ∷ past) ≡ true → (b : Bool) → is_named n.first past ≡ b → IsTold nodes n.first i (event.Name t r ∷ past)
      by i n u named true q = told_still n.first i t r past q (h.good i n u q)
      by i n u named false q = by_token (n.first == t) refl
        where
          by_token : (b : Bool) → (n.first == t) ≡ b → IsTold nodes n.first i (event.Name t r ∷ past)
          by_token true e = used i n u (eqb-true n.first t e) q
          by_token false e = absurd (false≢true (sym q ∙ other_of (n.first == t) (is_named n.first past) e named))

      of_token : (token : ℕ) → is_declared token (event.Name t r ∷ past) ≡ true → (a : Bool) → (stands_in Ordinary r && (token == t)) ≡ a → (b : Bool) → is_declared token past ≡ b → IsDeclaredBelow nodes token bound
      of_token token e a p true q = h.declared token q
      of_token token e false p false q = absurd (false≢true (sym q ∙ other_of (stands_in Ordinary r && (token == t)) (is_declared token past) p e))
      of_token token e true p false q =
          let both = and_parts (stands_in Ordinary r) (token == t) p in
          let same : token ≡ t = eqb-true token t both.1 in
          subst (λ x. IsDeclaredBelow nodes x bound) (sym same) (declares both.0 (ap (λ x. is_declared x past) (sym same) ∙ q))

  -- events that are no names
  pub opens_more : (past : List Event) (bound : ℕ) → Holds past bound → Holds (event.Opens ∷ past) bound
  opens_more past bound h = record { told = h.told; good = λ i n u e. (let x = h.good i n u e in record { used = x.used; behind = x.behind }); declared = h.declared }

  pub closes_more : (past : List Event) (bound : ℕ) → Holds past bound → Holds (event.Closes ∷ past) bound
  closes_more past bound h = record { told = h.told; good = λ i n u e. (let x = h.good i n u e in record { used = x.used; behind = x.behind }); declared = h.declared }

  pub member_more : (t k : ℕ) (past : List Event) (bound : ℕ) → Holds past bound → Holds (event.Member t k ∷ past) bound
  member_more t k past bound h = record { told = h.told; good = λ i n u e. (let x = h.good i n u e in record { used = x.used; behind = x.behind }); declared = h.declared }

  pub node_more : (k : ℕ) (past : List Event) (bound : ℕ) → Holds past bound → Holds (event.Node k ∷ past) bound
  node_more k past bound h = record { told = h.told; good = λ i n u e. (let x = h.good i n u e in record { used = x.used; behind = x.behind }); declared = h.declared }

  -- a node that uses a name, at the bound or behind it
  pub use_more : (i : ℕ) (m : Node) (past : List Event) (bound : ℕ) → Uses i m → bound ≤ i → Holds past bound → Holds (event.Name m.first role.Used ∷ past) bound
  use_more i m past bound own le h = name_more m.first role.Used past bound own_use (λ e. absurd (false≢true e)) h
    where
      own_use : (j : ℕ) (n : Node) → Uses j n → n.first ≡ m.first → is_named n.first past ≡ false → IsTold nodes n.first j (event.Name m.first role.Used ∷ past)
      own_use j n u same fresh = record {
        used = ap (λ b. if b then true else is_use n.first past) known;
        behind = λ declared e.
            (let told : is_declared declared past ≡ true = sym (ap (λ b. if b then is_declared declared past else is_before declared n.first past) known) ∙ e in
            let one : i ≡ j = apart.uses i j m n own.0 u.0 own.1 u.1 (sym same) in
            declared_later nodes declared bound j (omega (arith, le, one)) (h.declared declared told));
      }
        where
          known : ((n.first == m.first) && not (is_named n.first past)) ≡ true
          known = (λ j. eq-eqb n.first m.first same j && not (fresh j))

  -- the node at the bound is told too
  pub further : (i : ℕ) (past : List Event) → ((m : Node) → Uses i m → is_named m.first past ≡ true) → Holds past i → Holds past (i + 1)
  further i past own h = record {
    told = λ j n u low. by j n u low;
    good = h.good;
    declared = λ token e. declared_later nodes token i (i + 1) (omega arith) (h.declared token e);
  }
    where
      by : (j : ℕ) (n : Node) → Uses j n → j < i + 1 → is_named n.first past ≡ true
      by j n u low = elim (cases_lt j i) [
        | inl less ↦ h.told j n u less
        | inr ge ↦ (let same : j ≡ i = omega (arith, low, ge) in own n (sym (ap (slice_get nodes) same) ∙ u.0, u.1))
      ]

-- ---- of events that came, the latest first

came : (events : List Event) (k : ℕ) → onto (past_of events k) (drop k events) ≡ onto [] events
came events zero = refl
came events (suc k) = by (slice_get events k) refl (came events k)
  where
    by : (o : Option Event) → slice_get events k ≡ o → onto (past_of events k) (drop k events) ≡ onto [] events → onto (with_event o (past_of events k)) (drop (suc k) events) ≡ onto [] events
    by None e h = ap (onto (past_of events k)) (came_none events k e) ∙ h
    by (Some x) e h = ap (onto (past_of events k)) (sym (came_some events k x e)) ∙ h

none_left : (es : List Event) → drop (length es) es ≡ []
none_left [] = refl
none_left (e ∷ es) = none_left es

pub all_came : (events : List Event) → onto [] events ≡ past_of events (length events)
all_came events = sym (came events (length events)) ∙ ap (onto (past_of events (length events))) (none_left events)
