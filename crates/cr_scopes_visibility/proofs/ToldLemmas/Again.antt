-- What is told once more: a definition's parameters, behind its declarator (C11 6.2.1p4).
use Rattle.std.proofs.Common.{◌≡◌, ℕ, zero, suc, ◌<◌, ◌==◌, ◌&&◌, ◌⊎◌, inl, inr, Bool, true, false, List, [], ◌∷◌, ◌++◌, Option, None, Some, take, drop, nat_lt, slice_get, refl, sym, ap, subst, ◌∙◌, if◌then◌else◌, arith}
use Rattle.std.specs.List.{flat_map}
use Rattle.std.proofs.lemmas.Bool.{false≢true, and_from, eq-eqb, or_left, ltb-true, lt-ltb}
use Rattle.cr_tokens.specs.declared.token.Token.{Token}
use Rattle.cr_syntax.specs.declared.node.Kind.{Kind}
use Rattle.cr_syntax.specs.declared.node.Kind.TheVariants as kind
use Rattle.cr_syntax.specs.declared.node.Node.{Node}
use Rattle.cr_scopes.specs.declared.scope.Space.TheVariants.{Ordinary}
use Rattle.cr_scopes.specs.Looking.{stands_in}
use Rattle.cr_scopes_bindings.specs.Visible.{is_named}
use Rattle.cr_scopes_events.specs.declared.event.Event.{Event}
use Rattle.cr_scopes_events.specs.declared.event.Event.TheVariants as event
use Rattle.cr_scopes_events.specs.declared.event.Step.{Step}
use Rattle.cr_scopes_events.specs.declared.event.Step.TheVariants.{Happens}
use Rattle.cr_scopes_events.specs.declared.declarator.Derivation.{Derivation}
use Rattle.cr_scopes_events.specs.declared.declarator.Derivation.TheVariants as derivation
use Rattle.cr_scopes_events.specs.declared.declarator.Declarator.{Declarator}
use Rattle.cr_scopes_events.specs.Values.{before}
use Rattle.cr_scopes_events.specs.Declarators.{nowhere, innermost, derived, in_first, declared_by, declared_if, declarator_of}
use Rattle.cr_scopes_events.specs.Scripts.{parts_if, parts_at, inside, block, script_by, script_if}
use Rattle.cr_scopes_events.specs.Events.{events_by, events_at}
use Rattle.cr_scopes_events.proofs.Walks.{events_ruled}
use Rattle.cr_scopes_events.proofs.Descents.{declarator_ruled}
use Rattle.cr_scopes_visibility.specs.Uses.Uses.{is_declared}
use Rattle.cr_scopes_visibility.specs.Told.Told.{AreApart}
use Rattle.cr_scopes_visibility.proofs.ToldLemmas.Events.{onto, still_named, still_declared, Holds, opens_more, closes_more, member_more, node_more, name_more}

-- ---- an event has come before

abbrev pub IsAgain : List Event → Event → Type 0
IsAgain past (event.Name t r) = (is_named t past ≡ true) × (stands_in Ordinary r ≡ true → is_declared t past ≡ true)
IsAgain past event.Opens = Unit {0}
IsAgain past event.Closes = Unit {0}
IsAgain past (event.Member t k) = Unit {0}
IsAgain past (event.Node i) = Unit {0}

abbrev pub AreAgain : List Event → List Event → Type 0
AreAgain past [] = Unit {0}
AreAgain past (e ∷ es) = IsAgain past e × AreAgain past es

one_later : (past : List Event) (x e : Event) → IsAgain past e → IsAgain (x ∷ past) e
one_later past x (event.Name t r) h = (still_named t past x h.0, λ e. still_declared t past x (h.1 e))
one_later past x event.Opens h = tt
one_later past x event.Closes h = tt
one_later past x (event.Member t k) h = tt
one_later past x (event.Node i) h = tt

pub later : (past : List Event) (x : Event) (es : List Event) → AreAgain past es → AreAgain (x ∷ past) es
later past x [] h = tt
later past x (e ∷ es) h = (one_later past x e h.0, later past x es h.1)

one_onto : (past xs : List Event) (e : Event) → IsAgain past e → IsAgain (onto past xs) e
one_onto past [] e h = h
one_onto past (x ∷ xs) e h = one_onto (x ∷ past) xs e (one_later past x e h)

pub later_onto : (past xs es : List Event) → AreAgain past es → AreAgain (onto past xs) es
later_onto past [] es h = h
later_onto past (x ∷ xs) es h = later_onto (x ∷ past) xs es (later past x es h)

-- what is told has come
just_now : (past : List Event) (e : Event) → IsAgain (e ∷ past) e
just_now past (event.Name t r) = (or_left (t == t) (is_named t past) (eq-eqb t t refl), λ e. or_left (stands_in Ordinary r && (t == t)) (is_declared t past) (and_from (stands_in Ordinary r) (t == t) e (eq-eqb t t refl)))
just_now past event.Opens = tt
just_now past event.Closes = tt
just_now past (event.Member t k) = tt
just_now past (event.Node i) = tt

pub told_again : (past es : List Event) → AreAgain (onto past es) es
told_again past [] = tt
told_again past (e ∷ es) = (one_onto (e ∷ past) es e (just_now past e), told_again (e ∷ past) es)

again_left : (past xs ys : List Event) → AreAgain past (xs ++ ys) → AreAgain past xs
again_left past [] ys h = tt
again_left past (x ∷ xs) ys h = (h.0, again_left past xs ys h.1)

again_right : (past xs ys : List Event) → AreAgain past (xs ++ ys) → AreAgain past ys
again_right past [] ys h = h
again_right past (x ∷ xs) ys h = again_right past xs ys h.1

-- ---- of steps, by the events of the nodes before

module _ (past : List Event) (at : ℕ → List Event) where
  abbrev AllAgain : List Step → Type 0
  AllAgain steps = AreAgain past (flat_map (events_by at) steps)

  steps_left : (xs ys : List Step) → AllAgain (xs ++ ys) → AllAgain xs
  steps_left [] ys h = tt
  steps_left (x ∷ xs) ys h = append (events_by at x) (flat_map (events_by at) (xs ++ ys)) (flat_map (events_by at) xs) h (λ g. steps_left xs ys g)
    where
      append : (xs ys zs : List Event) → AreAgain past (xs ++ ys) → (AreAgain past ys → AreAgain past zs) → AreAgain past (xs ++ zs)
      append [] ys zs h f = f h
      append (x ∷ xs) ys zs h f = (h.0, append xs ys zs h.1 f)

  steps_right : (xs ys : List Step) → AllAgain (xs ++ ys) → AllAgain ys
  steps_right [] ys h = h
  steps_right (x ∷ xs) ys h = steps_right xs ys (again_right past (events_by at x) (flat_map (events_by at) (xs ++ ys)) h)

  each_part : (ps : List ℕ) → AllAgain (inside ps) → (k p : ℕ) → slice_get ps k ≡ Some p → AreAgain past (at p)
  each_part [] h k p e = absurd cc
  each_part (q ∷ ps) h zero p e = let same : q ≡ p = cc in subst (λ x. AreAgain past (at x)) same (again_left past (at q) (flat_map (events_by at) (inside ps)) h)
  each_part (q ∷ ps) h (suc k) p e = each_part ps (again_right past (at q) (flat_map (events_by at) (inside ps)) h) k p e

-- ---- a definition's parameters

module _ (nodes : List Node) (apart : AreApart nodes) (tokens : List Token) where
  abbrev all_at : ℕ → List Event
  all_at = events_at tokens nodes

  -- each of these parts has been told
  abbrev pub EachAgain : List Event → List ℕ → Type 0
  EachAgain past ps = (k p : ℕ) → slice_get ps k ≡ Some p → AreAgain past (all_at p)

  within : (past : List Event) (i p : ℕ) → p < i → AreAgain past (before [] i all_at p) → AreAgain past (all_at p)
  within past i p low h = subst (λ b. AreAgain past (if b then all_at p else [])) (lt-ltb p i low) h

  parts_told : (past : List Event) (i : ℕ) (ps : List ℕ) → ((k p : ℕ) → slice_get ps k ≡ Some p → p < i) → AllAgain past (before [] i all_at) (inside ps) → EachAgain past ps
  parts_told past i ps low h k p e = within past i p (low k p e) (each_part past (before [] i all_at) ps h k p e)

  script_told : (past : List Event) (i : ℕ) (m : Node) → slice_get nodes i ≡ Some m → AreAgain past (all_at i) → AllAgain past (before [] i all_at) (script_by m.kind tokens nodes i m)
  script_told past i m at h =
      subst (λ o. AllAgain past (before [] i all_at) (script_if o tokens nodes i)) at (subst (AreAgain past) (events_ruled tokens nodes i) h).1

  abbrev IsList : List Event → Derivation → Type 0
  IsList past d = (l : ℕ) → d ≡ derivation.Function l → EachAgain past (drop 1 (parts_at nodes l))

  taken_one : (ps : List ℕ) (k p : ℕ) → slice_get (take 1 ps) k ≡ Some p → slice_get ps k ≡ Some p
  taken_one [] k p e = absurd cc
  taken_one (q ∷ ps) zero p e = e
  taken_one (q ∷ ps) (suc k) p e = absurd cc

  dropped_one : (ps : List ℕ) (k p : ℕ) → slice_get (drop 1 ps) k ≡ Some p → slice_get ps (suc k) ≡ Some p
  dropped_one [] k p e = absurd cc
  dropped_one (q ∷ ps) k p e = e

  module _ (past : List Event) (i : ℕ) (m : Node) (at : slice_get nodes i ≡ Some m) (told : AreAgain past (all_at i)) (rest : (q : ℕ) → q < i → AreAgain past (all_at q) → IsList past (declarator_of nodes q).next) where
    low : (k p : ℕ) → slice_get m.parts k ≡ Some p → p < i
    low k p e = apart.below i k p m at e

    no_list : (d : Derivation) → (d ≡ derivation.Nothing) ⊎ (d ≡ derivation.Other) → IsList past d
    no_list d (inl x) l e = let never : derivation.Nothing ≡ derivation.Function l = sym x ∙ e in absurd cc
    no_list d (inr x) l e = let never : derivation.Other ≡ derivation.Function l = sym x ∙ e in absurd cc

    around : (outer : Derivation) (d : Declarator) → IsList past outer → IsList past d.next → IsList past (derived outer d).next
    around outer d own inner = by d.next refl
      where
        by : (x : Derivation) → d.next ≡ x → IsList past (innermost outer x)
        by derivation.Nothing q = own
        by (derivation.Function f) q = λ l e. inner l (q ∙ e)
        by derivation.Other q = no_list derivation.Other (inr refl)

    -- the first part of a declarator
    first_list : (ps : List ℕ) → m.parts ≡ ps → EachAgain past (take 1 ps) → IsList past (in_first (before nowhere i (declarator_of nodes)) ps).next
    first_list [] e h = no_list derivation.Nothing (inl refl)
    first_list (q ∷ ps) e h = by (nat_lt q i) refl
      where
        by : (b : Bool) → nat_lt q i ≡ b → IsList past (if b then declarator_of nodes q else nowhere).next
        by true x = rest q (ltb-true q i x) (h 0 q refl)
        by false x = no_list derivation.Nothing (inl refl)

    parts_all : AllAgain past (before [] i all_at) (inside m.parts) → EachAgain past m.parts
    parts_all h = parts_told past i m.parts low h

    plain : (outer : Derivation) → (outer ≡ derivation.Nothing) ⊎ (outer ≡ derivation.Other) → AllAgain past (before [] i all_at) (inside m.parts)
        → IsList past (derived outer (in_first (before nowhere i (declarator_of nodes)) m.parts)).next
    plain outer o h =
        around outer (in_first (before nowhere i (declarator_of nodes)) m.parts) (no_list outer o)
        (first_list m.parts refl (λ k p e. parts_all h k p (taken_one m.parts k p e)))

    -- the list that a function declarator has itself
    own_list : AllAgain past (before [] i all_at) (inside (take 1 m.parts) ++ block (drop 1 m.parts) [] [])
        → IsList past (derived (derivation.Function i) (in_first (before nowhere i (declarator_of nodes)) m.parts)).next
    own_list h =
        around (derivation.Function i) (in_first (before nowhere i (declarator_of nodes)) m.parts) own
        (first_list m.parts refl (parts_told past i (take 1 m.parts) (λ k p e. low k p (taken_one m.parts k p e)) (steps_left past (before [] i all_at) (inside (take 1 m.parts)) (block (drop 1 m.parts) [] []) h)))
      where
        scoped : AllAgain past (before [] i all_at) (inside (drop 1 m.parts) ++ [] ++ [])
        scoped = steps_left past (before [] i all_at) (inside (drop 1 m.parts) ++ [] ++ []) (Happens event.Closes ∷ []) (steps_right past (before [] i all_at) (inside (take 1 m.parts)) (block (drop 1 m.parts) [] []) h).1

        listed : EachAgain past (drop 1 m.parts)
        listed =
            parts_told past i (drop 1 m.parts) (λ k p e. low (suc k) p (dropped_one m.parts k p e))
            (steps_left past (before [] i all_at) (inside (drop 1 m.parts)) [] (steps_left past (before [] i all_at) (inside (drop 1 m.parts) ++ []) [] scoped))

        own : IsList past (derivation.Function i)
        own l e =
            let same : i ≡ l = cc in
            subst (λ x. EachAgain past (drop 1 (parts_at nodes x))) same
            (subst (λ o. EachAgain past (drop 1 (parts_if o))) (sym at) listed)

    by_kind : (k : Kind) → m.kind ≡ k → IsList past (declared_by k (before nowhere i (declarator_of nodes)) i m).next
    by_kind kind.GroupDeclarator e = plain derivation.Nothing (inl refl) (subst (λ k. AllAgain past (before [] i all_at) (script_by k tokens nodes i m)) e (script_told past i m at told))
    by_kind kind.PointerDeclarator e = plain derivation.Other (inr refl) (subst (λ k. AllAgain past (before [] i all_at) (script_by k tokens nodes i m)) e (script_told past i m at told))
    by_kind kind.ArrayDeclarator e = plain derivation.Other (inr refl) (subst (λ k. AllAgain past (before [] i all_at) (script_by k tokens nodes i m)) e (script_told past i m at told))
    by_kind kind.FunctionDeclarator e = own_list (subst (λ k. AllAgain past (before [] i all_at) (script_by k tokens nodes i m)) e (script_told past i m at told))
    by_kind k e = no_list derivation.Nothing (inl refl)

  list_by : (fuel i : ℕ) (past : List Event) → i < fuel → AreAgain past (all_at i) → IsList past (declarator_of nodes i).next
  list_by zero i past low told = absurd (omega (arith, low))
  list_by (suc fuel) i past low told =
      subst (λ (d : Declarator). IsList past d.next) (sym (declarator_ruled nodes i)) (by (slice_get nodes i) refl (λ q less h. list_by fuel q past (omega (arith, low, less)) h))
    where
      by : (o : Option Node) → slice_get nodes i ≡ o → ((q : ℕ) → q < i → AreAgain past (all_at q) → IsList past (declarator_of nodes q).next)
          → IsList past (declared_if o (before nowhere i (declarator_of nodes)) i).next
      by None at rest = λ l e. (let never : derivation.Nothing ≡ derivation.Function l = e in absurd cc)
      by (Some m) at rest = by_kind past i m at told rest m.kind refl

  -- where a declarator has been told, so has the list of its function
  pub list_told : (i : ℕ) (past : List Event) → AreAgain past (all_at i) → (l : ℕ) → (declarator_of nodes i).next ≡ derivation.Function l → EachAgain past (drop 1 (parts_at nodes l))
  list_told i past told = list_by (suc i) i past (omega arith) told

  -- ---- what is told again changes nothing

  one_again : (past : List Event) (e : Event) (bound : ℕ) → IsAgain past e → Holds nodes apart past bound → Holds nodes apart (e ∷ past) bound
  one_again past (event.Name t r) bound again h =
      name_more nodes apart t r past bound
      (λ i n u same fresh. absurd (false≢true (sym fresh ∙ ap (λ x. is_named x past) same ∙ again.0)))
      (λ e fresh. absurd (false≢true (sym fresh ∙ again.1 e))) h
  one_again past event.Opens bound again h = opens_more nodes apart past bound h
  one_again past event.Closes bound again h = closes_more nodes apart past bound h
  one_again past (event.Member t k) bound again h = member_more nodes apart t k past bound h
  one_again past (event.Node i) bound again h = node_more nodes apart i past bound h

  pub again_holds : (past es : List Event) (bound : ℕ) → AreAgain past es → Holds nodes apart past bound → Holds nodes apart (onto past es) bound
  again_holds past [] bound again h = h
  again_holds past (e ∷ es) bound again h = again_holds (e ∷ past) es bound (later past e es again.1) (one_again past e bound again.0 h)
