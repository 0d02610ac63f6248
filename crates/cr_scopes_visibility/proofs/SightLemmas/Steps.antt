-- What events leave of the scopes that are open: those of a node keep what is outside of it, and of a token that isn't in scope only its
-- declaration makes another.
use Rattle.std.proofs.Common.{◌≡◌, ℕ, zero, suc, ◌==◌, Bool, true, false, ◌||◌, inl, inr, List, [], ◌∷◌, ◌++◌, Option, None, Some, length, drop, slice_get, refl, sym, ap, subst, ◌∙◌}
use Rattle.std.specs.Prelude.{if◌then◌else◌}
use Rattle.std.specs.List.{flat_map}
use Rattle.std.proofs.lemmas.Bool.{false≢true, eqb-true}
use Rattle.cr_scopes_events.specs.declared.event.Role.{Role}
use Rattle.cr_scopes_events.specs.declared.event.Event.{Event}
use Rattle.cr_scopes_events.specs.declared.event.Event.TheVariants as event
use Rattle.cr_scopes_events.specs.declared.event.Step.{Step}
use Rattle.cr_scopes_events.specs.declared.event.Step.TheVariants.{Happens, Inside}
use Rattle.cr_scopes_events.specs.Scripts.{in_scope}
use Rattle.cr_scopes_events.specs.Events.{events_by}
use Rattle.cr_scopes.specs.Looking.{stands_in}
use Rattle.cr_scopes.specs.declared.scope.Space.TheVariants.{Ordinary}
use Rattle.cr_scopes.specs.Resolved.{with_event, past_of}
use Rattle.cr_scopes_bindings.specs.declared.scoped.Binding.{Binding}
use Rattle.cr_scopes_bindings.specs.declared.scoped.Binding.TheVariants.{Bound, Mark}
use Rattle.cr_scopes_bindings.specs.Stacks.{outside, entered, stack_of}
use Rattle.cr_scopes_visibility.specs.Alone.Sight.{is_bound, is_used, IsSeen}

-- ---- an event of a list, and those behind it

pub came_none : (es : List Event) (k : ℕ) → slice_get es k ≡ None → drop (suc k) es ≡ drop k es
came_none [] zero e = refl
came_none [] (suc k) e = refl
came_none (x ∷ es) zero e = absurd cc
came_none (x ∷ es) (suc k) e = came_none es k e

pub came_some : (es : List Event) (k : ℕ) (x : Event) → slice_get es k ≡ Some x → drop k es ≡ x ∷ drop (suc k) es
came_some [] k x e = absurd cc
came_some (y ∷ es) zero x e = let same : y ≡ x = cc in ap (λ z. z ∷ es) same
came_some (y ∷ es) (suc k) x e = came_some es k x e

module _ (name : ℕ → ℕ) (tok site : ℕ) where
  -- ---- events

  abbrev pub run : List Binding → List Event → List Binding
  run st [] = st
  run st (e ∷ es) = run (entered name e st) es

  -- a use doesn't find the token
  abbrev pub Asked : List Binding → Event → Type 0
  Asked st (event.Name t r) = is_used r ≡ true → t ≡ site → is_bound tok st ≡ false
  Asked st event.Opens = Unit {0}
  Asked st event.Closes = Unit {0}
  Asked st (event.Member t k) = Unit {0}
  Asked st (event.Node i) = Unit {0}

  abbrev pub AreAsked : List Binding → List Event → Type 0
  AreAsked st [] = Unit {0}
  AreAsked st (e ∷ es) = Asked st e × AreAsked (entered name e st) es

  -- an event is no use
  abbrev pub IsUnused : Event → Type 0
  IsUnused (event.Name t r) = is_used r ≡ true → t ≡ site → ⊥
  IsUnused event.Opens = Unit {0}
  IsUnused event.Closes = Unit {0}
  IsUnused (event.Member t k) = Unit {0}
  IsUnused (event.Node i) = Unit {0}

  abbrev pub AreUnused : List Event → Type 0
  AreUnused [] = Unit {0}
  AreUnused (e ∷ es) = IsUnused e × AreUnused es

  -- where the token isn't in scope it stays so, and no use finds it
  abbrev pub AreTame : List Event → Type 0
  AreTame es = (st : List Binding) → is_bound tok st ≡ false → (is_bound tok (run st es) ≡ false) × AreAsked st es

  -- what is outside stays
  abbrev pub AreLevel : List Event → Type 0
  AreLevel es = (st : List Binding) → outside (run st es) ≡ outside st

  run_append : (st : List Binding) (xs ys : List Event) → run st (xs ++ ys) ≡ run (run st xs) ys
  run_append st [] ys = refl
  run_append st (x ∷ xs) ys = run_append (entered name x st) xs ys

  asked_append : (st : List Binding) (xs ys : List Event) → AreAsked st xs → AreAsked (run st xs) ys → AreAsked st (xs ++ ys)
  asked_append st [] ys h g = g
  asked_append st (x ∷ xs) ys h g = (h.0, asked_append (entered name x st) xs ys h.1 g)

  unused_append : (xs ys : List Event) → AreUnused xs → AreUnused ys → AreUnused (xs ++ ys)
  unused_append [] ys h g = g
  unused_append (x ∷ xs) ys h g = (h.0, unused_append xs ys h.1 g)

  one_asked : (st : List Binding) (e : Event) → IsUnused e → Asked st e
  one_asked st (event.Name t r) h = λ u e. absurd (h u e)
  one_asked st event.Opens h = tt
  one_asked st event.Closes h = tt
  one_asked st (event.Member t k) h = tt
  one_asked st (event.Node i) h = tt

  unused_asked : (st : List Binding) (es : List Event) → AreUnused es → AreAsked st es
  unused_asked st [] h = tt
  unused_asked st (e ∷ es) h = (one_asked st e h.0, unused_asked (entered name e st) es h.1)

  -- ---- what one event does

  other_unbound : (t : ℕ) (r : Role) (st : List Binding) → (t ≡ tok → ⊥) → is_bound tok st ≡ false → is_bound tok (entered name (event.Name t r) st) ≡ false
  other_unbound t r st other h = by (stands_in Ordinary r)
    where
      at : (b : Bool) → (t == tok) ≡ b → ((t == tok) || is_bound tok st) ≡ false
      at true q = absurd (other (eqb-true t tok q))
      at false q = ap (λ b. b || is_bound tok st) q ∙ h

      by : (b : Bool) → is_bound tok (if b then Bound (name t) t ∷ st else st) ≡ false
      by true = at (t == tok) refl
      by false = h

  name_level : (t : ℕ) (r : Role) (st : List Binding) → outside (entered name (event.Name t r) st) ≡ outside st
  name_level t r st = by (stands_in Ordinary r)
    where
      by : (b : Bool) → outside (if b then Bound (name t) t ∷ st else st) ≡ outside st
      by true = refl
      by false = refl

  -- ---- steps, by the events of the nodes before

  module _ (at : ℕ → List Event) where
    abbrev runs : List Binding → List Step → List Binding
    runs st [] = st
    runs st (s ∷ steps) = runs (run st (events_by at s)) steps

    abbrev AllAsked : List Binding → List Step → Type 0
    AllAsked st [] = Unit {0}
    AllAsked st (s ∷ steps) = AreAsked st (events_by at s) × AllAsked (run st (events_by at s)) steps

    abbrev AllUnused : List Step → Type 0
    AllUnused [] = Unit {0}
    AllUnused (s ∷ steps) = AreUnused (events_by at s) × AllUnused steps

    -- Steps of a node under the holder don't use the token, and of another node they are tame.
    pub record AreFine (under : Bool) (steps : List Step) : Type 0 where
      pub level : (st : List Binding) → outside (runs st steps) ≡ outside st
      pub tame : under ≡ false → (st : List Binding) → is_bound tok st ≡ false → (is_bound tok (runs st steps) ≡ false) × AllAsked st steps
      pub unused : under ≡ true → AllUnused steps

    runs_append : (st : List Binding) (xs ys : List Step) → runs st (xs ++ ys) ≡ runs (runs st xs) ys
    runs_append st [] ys = refl
    runs_append st (x ∷ xs) ys = runs_append (run st (events_by at x)) xs ys

    all_append : (st : List Binding) (xs ys : List Step) → AllAsked st xs → AllAsked (runs st xs) ys → AllAsked st (xs ++ ys)
    all_append st [] ys h g = g
    all_append st (x ∷ xs) ys h g = (h.0, all_append (run st (events_by at x)) xs ys h.1 g)

    none_append : (xs ys : List Step) → AllUnused xs → AllUnused ys → AllUnused (xs ++ ys)
    none_append [] ys h g = g
    none_append (x ∷ xs) ys h g = (h.0, none_append xs ys h.1 g)

    none_asked : (st : List Binding) (steps : List Step) → AllUnused steps → AllAsked st steps
    none_asked st [] h = tt
    none_asked st (s ∷ steps) h = (unused_asked st (events_by at s) h.0, none_asked (run st (events_by at s)) steps h.1)

    pub nothing : (u : Bool) → AreFine u []
    nothing u = record { level = λ st. refl; tame = λ e st h. (h, tt); unused = λ e. tt }

    pub both : (u : Bool) (xs ys : List Step) → AreFine u xs → AreFine u ys → AreFine u (xs ++ ys)
    both u xs ys h g = record {
      level = λ st. ap outside (runs_append st xs ys) ∙ g.level (runs st xs) ∙ h.level st;
      tame = λ e st b.
          let x = h.tame e st b in let y = g.tame e (runs st xs) x.0 in (ap (is_bound tok) (runs_append st xs ys) ∙ y.0, all_append st xs ys x.1 y.1);
      unused = λ e. none_append xs ys (h.unused e) (g.unused e);
    }

    pub each : (u : Bool) (f : ℕ → List Step) (ps : List ℕ) → ((k p : ℕ) → slice_get ps k ≡ Some p → AreFine u (f p)) → AreFine u (flat_map f ps)
    each u f [] h = nothing u
    each u f (p ∷ ps) h = both u (f p) (flat_map f ps) (h 0 p refl) (each u f ps (λ k q e. h (suc k) q e))

    -- ---- scopes

    abbrev pub closing : List Step
    closing = Happens event.Closes ∷ []

    scope_runs : (st : List Binding) (xs : List Step) → ((s : List Binding) → outside (runs s xs) ≡ outside s) → runs st (in_scope xs) ≡ st
    scope_runs st xs level = runs_append (Mark ∷ st) xs closing ∙ level (Mark ∷ st)

    scope_asked : (st : List Binding) (xs : List Step) → AllAsked (Mark ∷ st) xs → AllAsked st (in_scope xs)
    scope_asked st xs h = ((tt, tt), all_append (Mark ∷ st) xs closing h ((tt, tt), tt))

    -- a scope whose steps don't find the token
    pub scoped : (xs : List Step) → ((s : List Binding) → outside (runs s xs) ≡ outside s) → ((st : List Binding) → is_bound tok st ≡ false → AllAsked (Mark ∷ st) xs) → AreFine false (in_scope xs)
    scoped xs level asked = record {
      level = λ st. ap outside (scope_runs st xs level);
      tame = λ e st b. (ap (is_bound tok) (scope_runs st xs level) ∙ b, scope_asked st xs (asked st b));
      unused = λ e. absurd (false≢true e);
    }

    -- what stands under the holder, in a scope of its own
    pub closed : (xs : List Step) → AreFine true xs → AreFine false (in_scope xs)
    closed xs h = scoped xs h.level (λ st b. none_asked (Mark ∷ st) xs (h.unused refl))

    -- and behind what doesn't
    pub closed_behind : (xs ys : List Step) → AreFine false xs → AreFine true ys → AreFine false (in_scope (xs ++ ys))
    closed_behind xs ys h g =
        scoped (xs ++ ys) (λ st. ap outside (runs_append st xs ys) ∙ g.level (runs st xs) ∙ h.level st)
        (λ st b. all_append (Mark ∷ st) xs ys (h.tame refl (Mark ∷ st) b).1 (none_asked (runs (Mark ∷ st) xs) ys (g.unused refl)))

    pub scope : (u : Bool) (xs : List Step) → AreFine u xs → AreFine u (in_scope xs)
    scope u xs h = record {
      level = λ st. ap outside (scope_runs st xs h.level);
      tame = λ e st b. (ap (is_bound tok) (scope_runs st xs h.level) ∙ b, scope_asked st xs (h.tame e (Mark ∷ st) b).1);
      unused = λ e. (((tt, tt), none_append xs closing (h.unused e) ((tt, tt), tt)));
    }

    -- ---- single steps

    pub named : (u : Bool) (t : ℕ) (r : Role) → (u ≡ false → t ≡ tok → ⊥) → (u ≡ true → is_used r ≡ true → t ≡ site → ⊥) → AreFine u (Happens (event.Name t r) ∷ [])
    named u t r other unused = record {
      level = λ st. name_level t r st;
      tame = λ e st b. (other_unbound t r st (other e) b, (((λ q same. b), tt), tt));
      unused = λ e. ((unused e, tt), tt);
    }

    pub a_member : (u : Bool) (t k : ℕ) → AreFine u (Happens (event.Member t k) ∷ [])
    a_member u t k = record { level = λ st. refl; tame = λ e st b. (b, ((tt, tt), tt)); unused = λ e. ((tt, tt), tt) }

    pub part : (u : Bool) (p : ℕ) → AreLevel (at p) → (u ≡ false → AreTame (at p)) → (u ≡ true → AreUnused (at p)) → AreFine u (Inside p ∷ [])
    part u p level tame unused = record {
      level = λ st. level st;
      tame = λ e st b. let x = tame e st b in (x.0, (x.1, tt));
      unused = λ e. (unused e, tt);
    }

    -- ---- so of all events of steps

    all_run : (st : List Binding) (steps : List Step) → run st (flat_map (events_by at) steps) ≡ runs st steps
    all_run st [] = refl
    all_run st (s ∷ steps) = run_append st (events_by at s) (flat_map (events_by at) steps) ∙ all_run (run st (events_by at s)) steps

    all_asked : (st : List Binding) (steps : List Step) → AllAsked st steps → AreAsked st (flat_map (events_by at) steps)
    all_asked st [] h = tt
    all_asked st (s ∷ steps) h = asked_append st (events_by at s) (flat_map (events_by at) steps) h.0 (all_asked (run st (events_by at s)) steps h.1)

    all_unused : (steps : List Step) → AllUnused steps → AreUnused (flat_map (events_by at) steps)
    all_unused [] h = tt
    all_unused (s ∷ steps) h = unused_append (events_by at s) (flat_map (events_by at) steps) h.0 (all_unused steps h.1)

    pub fine_level : (u : Bool) (steps : List Step) → AreFine u steps → AreLevel (flat_map (events_by at) steps)
    fine_level u steps h st = ap outside (all_run st steps) ∙ h.level st

    pub fine_tame : (steps : List Step) → AreFine false steps → AreTame (flat_map (events_by at) steps)
    fine_tame steps h st b = let x = h.tame refl st b in (ap (is_bound tok) (all_run st steps) ∙ x.0, all_asked st steps x.1)

    pub fine_unused : (steps : List Step) → AreFine true steps → AreUnused (flat_map (events_by at) steps)
    fine_unused steps h = all_unused steps (h.unused refl)

  -- ---- of events that came, the latest first

  record Came (past rest : List Event) : Type 0 where
    unseen : IsSeen name tok site past → ⊥
    left : AreAsked (stack_of name past) rest

  one_unseen : (past : List Event) (x : Event) → Asked (stack_of name past) x → (IsSeen name tok site past → ⊥) → IsSeen name tok site (x ∷ past) → ⊥
  one_unseen past (event.Name t r) asked h (inl s) = false≢true (sym (asked s.0.0 s.0.1) ∙ s.1)
  one_unseen past (event.Name t r) asked h (inr s) = h s
  one_unseen past event.Opens asked h s = h s
  one_unseen past event.Closes asked h s = h s
  one_unseen past (event.Member t k) asked h s = h s
  one_unseen past (event.Node i) asked h s = h s

  came : (events : List Event) → AreAsked [] events → (k : ℕ) → Came (past_of events k) (drop k events)
  came events g zero = record { unseen = λ s. s; left = g }
  came events g (suc k) = by (slice_get events k) refl (came events g k)
    where
      by : (o : Option Event) → slice_get events k ≡ o → Came (past_of events k) (drop k events) → Came (with_event o (past_of events k)) (drop (suc k) events)
      by None e h = record { unseen = h.unseen; left = subst (AreAsked (stack_of name (past_of events k))) (sym (came_none events k e)) h.left }
      by (Some x) e h =
          let next = subst (AreAsked (stack_of name (past_of events k))) (came_some events k x e) h.left in
          record { unseen = one_unseen (past_of events k) x next.0 h.unseen; left = next.1 }

  pub never_seen : (events : List Event) → AreAsked [] events → IsSeen name tok site (past_of events (length events)) → ⊥
  never_seen events g = (came events g (length events)).unseen
