-- What a parser reads, and the events that are told of it: both enter the same names.
use Rattle.std.proofs.Common.{◌≡◌, ℕ, Bool, true, false, List, [], ◌∷◌, ◌++◌, None, Some, ◌==◌, ◌||◌, refl, sym, ap, subst, ◌∙◌, if◌then◌else◌}
use Rattle.std.specs.Str.{bytes_eq}
use Rattle.std.specs.List.{flat_map}
use Rattle.std.proofs.lemmas.Bool.{true≢false, or_left, or_right, eq-eqb}
use Rattle.std.proofs.lemmas.Grind.{flat_map-append}
use Rattle.cr_syntax.specs.declared.scopes.TypeName.{TypeName}
use Rattle.cr_syntax.specs.Scopes.{Scopes, said_of, is_type, put, enter}
use Rattle.cr_scopes_events.specs.declared.event.Role.{Role}
use Rattle.cr_scopes_events.specs.declared.event.Event.{Event}
use Rattle.cr_scopes_events.specs.declared.event.Event.TheVariants.{Node, Opens, Closes, Name, Member}
use Rattle.cr_scopes_events.specs.declared.event.Step.{Step}
use Rattle.cr_scopes_events.specs.declared.event.Step.TheVariants.{Happens}
use Rattle.cr_scopes_events.specs.Scripts.{inside, in_scope}
use Rattle.cr_scopes_events.specs.Events.{events_by}
use Rattle.cr_scopes.specs.declared.scope.Space.TheVariants.{Ordinary}
use Rattle.cr_scopes.specs.Looking.{stands_in}
use Rattle.cr_scopes_bindings.specs.Visible.{is_named}
use Rattle.cr_scopes_typedef_names.specs.Effects.Effects.{type_name, closed, affected, scopes_of}
use Rattle.cr_scopes_typedef_names.proofs.EffectsLemmas.Entering.{entered_is}

-- ---- names that enter

abbrev pub enter_all : List TypeName → Scopes → Scopes
enter_all [] c = c
enter_all (n ∷ ns) c = enter_all ns (enter n c)

abbrev pub put_all : List TypeName → List TypeName → List TypeName
put_all [] names = names
put_all (n ∷ ns) names = put_all ns (put n names)

pub enter_append : (ns ms : List TypeName) (c : Scopes) → enter_all (ns ++ ms) c ≡ enter_all ms (enter_all ns c)
enter_append [] ms c = refl
enter_append (n ∷ ns) ms c = enter_append ns ms (enter n c)

-- they enter the innermost scope alone
pub enter_inner : (ns : List TypeName) (names : List TypeName) (c : Scopes) → enter_all ns (names ∷ c) ≡ put_all ns names ∷ c
enter_inner [] names c = refl
enter_inner (n ∷ ns) names c = enter_inner ns (put n names) c

-- two lists of scopes say the same of each identifier
abbrev pub Sees : Scopes → Scopes → Type 0
Sees c d = (s : List ℕ) → is_type c s ≡ is_type d s

sees_one : (n : TypeName) (c d : Scopes) → Sees c d → Sees (enter n c) (enter n d)
sees_one n c d h s = entered_is n c s ∙ ap (λ x. if bytes_eq s n.name then n.is_type else x) (h s) ∙ sym (entered_is n d s)

pub sees_all : (ns : List TypeName) (c d : Scopes) → Sees c d → Sees (enter_all ns c) (enter_all ns d)
sees_all [] c d h = h
sees_all (n ∷ ns) c d h = sees_all ns (enter n c) (enter n d) (sees_one n c d h)

-- ---- events in turn

abbrev pub onto : List Event → List Event → List Event
onto past [] = past
onto past (e ∷ es) = onto (e ∷ past) es

still_named : (token : ℕ) (past : List Event) (e : Event) → is_named token past ≡ true → is_named token (e ∷ past) ≡ true
still_named token past (Name t r) h = or_right (token == t) (is_named token past) h
still_named token past Opens h = h
still_named token past Closes h = h
still_named token past (Member t k) h = h
still_named token past (Node i) h = h

pub named_onto : (token : ℕ) (past es : List Event) → is_named token past ≡ true → is_named token (onto past es) ≡ true
named_onto token past [] h = h
named_onto token past (e ∷ es) h = named_onto token (e ∷ past) es (still_named token past e h)

-- what is named in events is named behind them
pub named_in : (token : ℕ) (past es : List Event) → is_named token es ≡ true → is_named token (onto past es) ≡ true
named_in token past [] h = absurd (true≢false (sym h))
named_in token past (Name t r ∷ es) h = by (token == t) refl h (λ x. named_in token (Name t r ∷ past) es x)
  where
    by : (b : Bool) → (token == t) ≡ b → (b || is_named token es) ≡ true → (is_named token es ≡ true → is_named token (onto (Name t r ∷ past) es) ≡ true) → is_named token (onto (Name t r ∷ past) es) ≡ true
    by true q h rest = named_onto token (Name t r ∷ past) es (or_left (token == t) (is_named token past) q)
    by false q h rest = rest h
named_in token past (Opens ∷ es) h = named_in token (Opens ∷ past) es h
named_in token past (Closes ∷ es) h = named_in token (Closes ∷ past) es h
named_in token past (Member t k ∷ es) h = named_in token (Member t k ∷ past) es h
named_in token past (Node i ∷ es) h = named_in token (Node i ∷ past) es h

-- and in longer lists
pub named_left : (token : ℕ) (xs ys : List Event) → is_named token xs ≡ true → is_named token (xs ++ ys) ≡ true
named_left token [] ys h = absurd (true≢false (sym h))
named_left token (Name t r ∷ xs) ys h = by (token == t) h (λ x. named_left token xs ys x)
  where
    by : (b : Bool) → (b || is_named token xs) ≡ true → (is_named token xs ≡ true → is_named token (xs ++ ys) ≡ true) → (b || is_named token (xs ++ ys)) ≡ true
    by true h rest = refl
    by false h rest = rest h
named_left token (Opens ∷ xs) ys h = named_left token xs ys h
named_left token (Closes ∷ xs) ys h = named_left token xs ys h
named_left token (Member t k ∷ xs) ys h = named_left token xs ys h
named_left token (Node i ∷ xs) ys h = named_left token xs ys h

pub named_right : (token : ℕ) (xs ys : List Event) → is_named token ys ≡ true → is_named token (xs ++ ys) ≡ true
named_right token [] ys h = h
named_right token (x ∷ xs) ys h = still_named token (xs ++ ys) x (named_right token xs ys h)

module _ (spelling : ℕ → List ℕ) (typed : ℕ → Bool) where
  abbrev pub after : Scopes → List Event → Scopes
  after c [] = c
  after c (e ∷ es) = after (affected spelling e c) es

  pub after_append : (c : Scopes) (xs ys : List Event) → after c (xs ++ ys) ≡ after (after c xs) ys
  after_append c [] ys = refl
  after_append c (x ∷ xs) ys = after_append (affected spelling x c) xs ys

  pub scopes_onto : (past es : List Event) → scopes_of spelling (onto past es) ≡ after (scopes_of spelling past) es
  scopes_onto past [] = refl
  scopes_onto past (e ∷ es) = scopes_onto (e ∷ past) es

  -- where one of the tokens is named first, it is a type
  abbrev pub Fits : List Event → Event → Type 0
  Fits past (Name t r) = typed t ≡ true → is_named t past ≡ false → is_type (scopes_of spelling past) (spelling t) ≡ true
  Fits past Opens = Unit {0}
  Fits past Closes = Unit {0}
  Fits past (Member t k) = Unit {0}
  Fits past (Node i) = Unit {0}

  abbrev pub AreFit : List Event → List Event → Type 0
  AreFit past [] = Unit {0}
  AreFit past (e ∷ es) = Fits past e × AreFit (e ∷ past) es

  pub fit_append : (past xs ys : List Event) → AreFit past xs → AreFit (onto past xs) ys → AreFit past (xs ++ ys)
  fit_append past [] ys h g = g
  fit_append past (x ∷ xs) ys h g = (h.0, fit_append (x ∷ past) xs ys h.1 g)

  -- what is told again
  pub fit_again : (past es : List Event) → ((t : ℕ) → is_named t es ≡ true → is_named t past ≡ true) → AreFit past es
  fit_again past [] h = tt
  fit_again past (Name t r ∷ es) h = (
    λ u first. absurd (true≢false (sym (h t (or_left (t == t) (is_named t es) (eq-eqb t t refl))) ∙ first)),
    fit_again (Name t r ∷ past) es (λ x e. or_right (x == t) (is_named x past) (h x (or_right (x == t) (is_named x es) e))),
  )
  fit_again past (Opens ∷ es) h = (tt, fit_again (Opens ∷ past) es h)
  fit_again past (Closes ∷ es) h = (tt, fit_again (Closes ∷ past) es h)
  fit_again past (Member t k ∷ es) h = (tt, fit_again (Member t k ∷ past) es h)
  fit_again past (Node i ∷ es) h = (tt, fit_again (Node i ∷ past) es h)

  -- ---- a parser's scopes and events

  -- from the one scopes to the other the parser enters what the events enter, wherever they are told
  pub record Follows (c e : Scopes) (es : List Event) : Type 0 where
    pub names : List TypeName
    pub parsed : e ≡ enter_all names c
    pub told : (d : Scopes) → after d es ≡ enter_all names d
    pub fit : (past : List Event) → Sees c (scopes_of spelling past) → AreFit past es

  pub nothing : (c : Scopes) → Follows c c []
  nothing c = record { names = []; parsed = refl; told = λ d. refl; fit = λ past h. tt }

  pub in_turn : {c e f : Scopes} {xs ys : List Event} → Follows c e xs → Follows e f ys → Follows c f (xs ++ ys)
  in_turn {c = c} {e = e} {f = f} {xs = xs} {ys = ys} h g = record {
    names = h.names ++ g.names;
    parsed = g.parsed ∙ ap (enter_all g.names) h.parsed ∙ sym (enter_append h.names g.names c);
    told = λ d. after_append d xs ys ∙ ap (λ x. after x ys) (h.told d) ∙ g.told (enter_all h.names d) ∙ sym (enter_append h.names g.names d);
    fit = λ past see.
        fit_append past xs ys (h.fit past see)
        (g.fit (onto past xs)
        (subst (λ x. Sees e x) (sym (scopes_onto past xs ∙ h.told (scopes_of spelling past)))
        (subst (λ x. Sees x (enter_all h.names (scopes_of spelling past))) (sym h.parsed) (sees_all h.names c (scopes_of spelling past) see))));
  }

  -- an event that enters nothing
  pub quiet : {c : Scopes} (e : Event) → ((d : Scopes) → affected spelling e d ≡ d) → ((past : List Event) → Fits past e) → Follows c c (e ∷ [])
  quiet e still fits = record { names = []; parsed = refl; told = still; fit = λ past h. (fits past, tt) }

  pub visits : {c : Scopes} (i : ℕ) → Follows c c (Node i ∷ [])
  visits i = quiet (Node i) (λ d. refl) (λ past. tt)

  pub belongs : {c : Scopes} (t k : ℕ) → Follows c c (Member t k ∷ [])
  belongs t k = quiet (Member t k) (λ d. refl) (λ past. tt)

  -- a name of another name space, or a use, at another token
  pub mentions : {c : Scopes} (t : ℕ) (r : Role) → stands_in Ordinary r ≡ false → typed t ≡ false → Follows c c (Name t r ∷ [])
  mentions t r other non =
      quiet (Name t r) (λ d. ap (λ b. if b then enter (type_name spelling t r) d else d) other) (λ past u. absurd (true≢false (sym u ∙ non)))

  -- a use of a name that is a type
  pub uses : {c : Scopes} (t : ℕ) (r : Role) → stands_in Ordinary r ≡ false → is_type c (spelling t) ≡ true → Follows c c (Name t r ∷ [])
  uses t r other is-type = record {
    names = [];
    parsed = refl;
    told = λ d. ap (λ b. if b then enter (type_name spelling t r) d else d) other;
    fit = λ past see. ((λ u first. sym (see (spelling t)) ∙ is-type), tt);
  }

  -- a declaration
  pub enters : {c : Scopes} (t : ℕ) (r : Role) → stands_in Ordinary r ≡ true → typed t ≡ false → Follows c (enter (type_name spelling t r) c) (Name t r ∷ [])
  enters t r ordinary non = record {
    names = type_name spelling t r ∷ [];
    parsed = refl;
    told = λ d. ap (λ b. if b then enter (type_name spelling t r) d else d) ordinary;
    fit = λ past see. ((λ u. absurd (true≢false (sym u ∙ non))), tt);
  }

  -- what stands in a scope of its own leaves what is outside
  pub same_outside : {c e : Scopes} {names : List TypeName} {es : List Event} → Follows ([] ∷ c) (names ∷ e) es → e ≡ c
  same_outside {c = c} {e = e} {names = names} h = ap closed (h.parsed ∙ enter_inner h.names [] c)

  scope_events : (d : Scopes) (ns : List TypeName) (es : List Event) → after ([] ∷ d) es ≡ enter_all ns ([] ∷ d) → after d (Opens ∷ es ++ Closes ∷ []) ≡ d
  scope_events d ns es h = after_append ([] ∷ d) es (Closes ∷ []) ∙ ap closed (h ∙ enter_inner ns [] d)

  pub scoped : {c e : Scopes} {names : List TypeName} {es : List Event} → Follows ([] ∷ c) (names ∷ e) es → Follows c e (Opens ∷ es ++ Closes ∷ [])
  scoped {c = c} {e = e} {es = es} h = record {
    names = [];
    parsed = same_outside h;
    told = λ d. scope_events d h.names es (h.told ([] ∷ d));
    fit = λ past see. (tt, fit_append (Opens ∷ past) es (Closes ∷ []) (h.fit (Opens ∷ past) see) (tt, tt));
  }

  -- what is seen behind events
  pub sees_behind : {c e : Scopes} {es : List Event} (past : List Event) → Follows c e es → Sees c (scopes_of spelling past) → Sees e (scopes_of spelling (onto past es))
  sees_behind {c = c} {e = e} {es = es} past h see =
      subst (λ x. Sees e x) (sym (scopes_onto past es ∙ h.told (scopes_of spelling past)))
      (subst (λ x. Sees x (enter_all h.names (scopes_of spelling past))) (sym h.parsed) (sees_all h.names c (scopes_of spelling past) see))

  sees_under : (names : List TypeName) (c d : Scopes) → Sees c d → Sees (names ∷ c) (names ∷ d)
  sees_under names c d h s = ap (λ x. elim (said_of names s) as (λ _. Bool) [ None ↦ x | Some b ↦ b ]) (h s)

  -- A definition: behind its declarator the list of its own parameters is told again, and its items in the scope of those. The parser has the
  -- scope of the body inside of that one.
  pub again_block : {c d e : Scopes} {own names other : List TypeName} (first list items : List Event) (params : List TypeName) → Follows c d first → own ≡ put_all params []
      → ((x : Scopes) → after x list ≡ enter_all params x) → ((token : ℕ) → is_named token list ≡ true → is_named token first ≡ true) → Follows ([] ∷ (own ∷ d)) (names ∷ (other ∷ e)) items
      → Follows c e (first ++ (Opens ∷ ((list ++ items) ++ Closes ∷ [])))
  again_block {c = c} {d = d} {e = e} {own = own} first list items params h own-is told again z =
      let same : e ≡ d = ap closed (same_outside z) in
      record {
        names = h.names;
        parsed = same ∙ h.parsed;
        told = λ x.
            after_append x first (Opens ∷ ((list ++ items) ++ Closes ∷ []))
            ∙ ap (λ y. after y (Opens ∷ ((list ++ items) ++ Closes ∷ []))) (h.told x)
            ∙ scope_events (enter_all h.names x) (params ++ z.names) (list ++ items)
            (after_append ([] ∷ enter_all h.names x) list items ∙ ap (λ y. after y items) (told ([] ∷ enter_all h.names x)) ∙ z.told (enter_all params ([] ∷ enter_all h.names x))
            ∙ sym (enter_append params z.names ([] ∷ enter_all h.names x)));
        fit = λ past see.
            let behind = onto past first in
            let inner : scopes_of spelling (onto (Opens ∷ behind) list) ≡ own ∷ scopes_of spelling behind =
            scopes_onto (Opens ∷ behind) list ∙ told ([] ∷ scopes_of spelling behind) ∙ enter_inner params [] (scopes_of spelling behind) ∙ ap (λ x. x ∷ scopes_of spelling behind) (sym own-is) in
            fit_append past first (Opens ∷ ((list ++ items) ++ Closes ∷ [])) (h.fit past see) (
              tt,
              fit_append (Opens ∷ behind) (list ++ items) (Closes ∷ [])
                  (fit_append (Opens ∷ behind) list items (fit_again (Opens ∷ behind) list (λ token e. named_in token past first (again token e)))
                  (z.fit (onto (Opens ∷ behind) list) (subst (λ x. Sees ([] ∷ (own ∷ d)) x) (sym inner) (sees_under own d (scopes_of spelling behind) (sees_behind past h see)))))
                  (tt, tt),
            );
      }

  -- ---- steps, by the events of the nodes before

  module _ (at : ℕ → List Event) where
    abbrev pub Does : Scopes → Scopes → List Step → Type 0
    Does c e steps = Follows c e (flat_map (events_by at) steps)

    pub does_more : {c e f : Scopes} (xs ys : List Step) → Does c e xs → Does e f ys → Does c f (xs ++ ys)
    does_more {c = c} {f = f} xs ys h g = subst (λ es. Follows c f es) (sym (flat_map-append (events_by at) xs ys)) (in_turn h g)

    pub does_scope : {c e : Scopes} {names : List TypeName} (steps : List Step) → Does ([] ∷ c) (names ∷ e) steps → Does c e (in_scope steps)
    does_scope {c = c} {e = e} steps h = subst (λ es. Follows c e (Opens ∷ es)) (sym (flat_map-append (events_by at) steps (Happens Closes ∷ []))) (scoped h)

    pub inside_is : (ps : List ℕ) → flat_map (events_by at) (inside ps) ≡ flat_map at ps
    inside_is [] = refl
    inside_is (p ∷ ps) = ap (λ es. at p ++ es) (inside_is ps)

    pub does_inside : {c e : Scopes} (ps : List ℕ) → Follows c e (flat_map at ps) → Does c e (inside ps)
    does_inside {c = c} {e = e} ps h = subst (λ es. Follows c e es) (sym (inside_is ps)) h
