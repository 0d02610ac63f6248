-- Declarators: the scope of a declarator's own parameters stands in the parser while it is read, and is told again before a definition's body.
use Rattle.std.proofs.Common.{◌≡◌, ℕ, ◌<◌, Bool, true, false, ◌||◌, List, [], ◌∷◌, ◌++◌, Some, slice_index, take, drop, refl, sym, ap, subst, ◌∙◌, arith, if◌then◌else◌}
use Rattle.std.specs.List.{flat_map}
use Rattle.std.proofs.lemmas.Bool.{true≢false, lt-ltb}
use Rattle.std.proofs.lemmas.List.{append-nil}
use Rattle.cr_tokens.specs.declared.token.Token.{Token}
use Rattle.cr_syntax.specs.declared.node.Kind.{Kind}
use Rattle.cr_syntax.specs.declared.node.Kind.TheVariants as kind
use Rattle.cr_syntax.specs.declared.node.Node.{Node}
use Rattle.cr_syntax.specs.declared.part.Context.{Context}
use Rattle.cr_syntax.specs.declared.scopes.TypeName.{TypeName}
use Rattle.cr_syntax.specs.Scopes.{Scopes}
use Rattle.cr_syntax.specs.Trees.{Trees, none, one, ◌&◌}
use Rattle.cr_syntax.specs.Kept.{AreBelow, PartsAreBelow}
use Rattle.cr_syntax.specs.Context.{is_bare, declared_in, past_part}
use Rattle.cr_syntax.proofs.Arena.{below_first, below_rest}
use Rattle.cr_scopes_events.specs.declared.event.Event.{Event}
use Rattle.cr_scopes_events.specs.declared.event.Event.TheVariants as event
use Rattle.cr_scopes_events.specs.declared.event.Step.{Step}
use Rattle.cr_scopes_events.specs.declared.event.Step.TheVariants.{Inside}
use Rattle.cr_scopes_events.specs.declared.naming.Naming.{Naming}
use Rattle.cr_scopes_events.specs.declared.declarator.Derivation.{Derivation}
use Rattle.cr_scopes_events.specs.declared.declarator.Derivation.TheVariants.{Nothing, Function, Other}
use Rattle.cr_scopes_events.specs.declared.declarator.Declarator.{Declarator}
use Rattle.cr_scopes_events.specs.Values.{before}
use Rattle.cr_scopes_events.specs.Declarators.{nowhere, innermost, derived, in_first, declared_by, declared_if, declarator_of}
use Rattle.cr_scopes_events.specs.Scripts.{kind_if, kind_at, parts_if, parts_at, inside, block, declares, declarator_in, list_of, script_by, script_if}
use Rattle.cr_scopes_events.specs.Events.{events_by, events_at}
use Rattle.cr_scopes_events.proofs.Walks.{events_ruled}
use Rattle.cr_scopes_events.proofs.Descents.{declarator_ruled, plain}
use Rattle.cr_scopes_bindings.specs.Visible.{is_named}
use Rattle.cr_scopes_typedef_names.proofs.ParsedLemmas.Following.{enter_all, put_all, enter_inner, named_left, named_right, after, Follows, nothing, in_turn, visits, Does, does_inside, does_scope, same_outside}
use Rattle.cr_scopes_typedef_names.proofs.ParsedLemmas.Rows.{Single, single, IsNode}

or_none : (b : Bool) → (b || false) ≡ b
or_none true = refl
or_none false = refl

-- what is next to the name stays next to it
innermost_stays : (x d : Derivation) → innermost x (innermost Other d) ≡ innermost Other d
innermost_stays x Nothing = refl
innermost_stays x (Function k) = refl
innermost_stays x Other = refl

function_stays : (q : ℕ) (x d : Derivation) → innermost x (innermost (Function q) d) ≡ innermost (Function q) d
function_stays q x Nothing = refl
function_stays q x (Function k) = refl
function_stays q x Other = refl

module _ (spelling : ℕ → List ℕ) (typed : ℕ → Bool) (tokens : List Token) (nodes : List Node) (low : PartsAreBelow nodes) where
  abbrev pub at : ℕ → List Event
  at = events_at tokens nodes

  abbrev pub below : ℕ → ℕ → List Event
  below bound = before [] bound at

  abbrev pub Goes : Scopes → Scopes → List Event → Type 0
  Goes c e es = Follows spelling typed c e es

  abbrev pub Makes : ℕ → Scopes → Scopes → List Step → Type 0
  Makes bound c e steps = Does spelling typed (below bound) c e steps

  -- ---- nodes and their scripts

  pub below_is : (bound q : ℕ) → q < bound → below bound q ≡ at q
  below_is bound q lt = ap (λ b. if b then at q else []) (lt-ltb q bound lt)

  pub below_all : (bound : ℕ) (ps : List ℕ) → AreBelow ps bound → flat_map (below bound) ps ≡ flat_map at ps
  below_all bound [] under = refl
  below_all bound (p ∷ ps) under =
      ap (λ es. es ++ flat_map (below bound) ps) (below_is bound p (below_first p ps bound under))
      ∙ ap (λ es. at p ++ es) (below_all bound ps (below_rest p ps bound under))

  pub goes_below : {c e : Scopes} (bound q : ℕ) → q < bound → Goes c e (at q) → Goes c e (below bound q)
  goes_below {c = c} {e = e} bound q lt h = subst (λ es. Goes c e es) (sym (below_is bound q lt)) h

  pub all_below : {c e : Scopes} (bound : ℕ) (ps : List ℕ) → AreBelow ps bound → Goes c e (flat_map at ps) → Makes bound c e (inside ps)
  all_below {c = c} {e = e} bound ps under h =
      does_inside spelling typed (below bound) ps (subst (λ es. Goes c e es) (sym (below_all bound ps under)) h)

  pub node_events : {q i j : ℕ} {k : Kind} {b : Trees} (n : IsNode nodes low q k i j b) → at q ≡ event.Node q ∷ flat_map (events_by (below q)) (script_by k tokens nodes q n.own)
  node_events {q = q} n =
      events_ruled tokens nodes q
      ∙ ap (λ o. event.Node q ∷ flat_map (events_by (below q)) (script_if o tokens nodes q)) n.at
      ∙ ap (λ x. event.Node q ∷ flat_map (events_by (below q)) (script_by x tokens nodes q n.own)) n.kind

  pub of_node : {c e : Scopes} {q i j : ℕ} {k : Kind} {b : Trees} (n : IsNode nodes low q k i j b) → Makes q c e (script_by k tokens nodes q n.own) → Goes c e (at q)
  of_node {c = c} {e = e} {q = q} n h = subst (λ es. Goes c e es) (sym (node_events n)) (in_turn spelling typed (visits spelling typed q) h)

  pub kind_is : {q i j : ℕ} {k : Kind} {b : Trees} (n : IsNode nodes low q k i j b) → kind_at nodes q ≡ Some k
  kind_is n = ap kind_if n.at ∙ ap Some n.kind

  pub parts_are : {q i j : ℕ} {k : Kind} {b : Trees} (n : IsNode nodes low q k i j b) → parts_at nodes q ≡ n.own.parts
  parts_are n = ap parts_if n.at

  -- ---- a declarator's own parameters

  -- these names are those that the list of parameters enters, wherever it is told, and it is told among these events
  pub record Owns (next : Derivation) (own : List TypeName) (bound : ℕ) (es : List Event) : Type 0 where
    pub names : List TypeName
    pub is : own ≡ put_all names []
    pub told : (d : Scopes) → after spelling typed d (flat_map at (list_of nodes next)) ≡ enter_all names d
    pub again : (token : ℕ) → is_named token (flat_map at (list_of nodes next)) ≡ true → is_named token es ≡ true
    pub under : AreBelow (list_of nodes next) bound

  owns_none : (next : Derivation) (bound : ℕ) (es : List Event) → list_of nodes next ≡ [] → Owns next [] bound es
  owns_none next bound es e = record {
    names = [];
    is = refl;
    told = λ d. ap (λ ps. after spelling typed d (flat_map at ps)) e;
    again = λ token h. absurd (true≢false (sym h ∙ ap (λ ps. is_named token (flat_map at ps)) e));
    under = subst (λ ps. AreBelow ps bound) (sym e) (λ i lt. absurd (omega (arith, lt)));
  }

  owns_more : {own : List TypeName} {r : ℕ} {es : List Event} (next : Derivation) (q : ℕ) (fs : List Event) → r < q → ((token : ℕ) → is_named token es ≡ true → is_named token fs ≡ true) → Owns next own r es → Owns next own q fs
  owns_more next q fs lt longer h = record {
    names = h.names;
    is = h.is;
    told = h.told;
    again = λ token e. longer token (h.again token e);
    under = λ i l. (let z = h.under i l in omega (arith, z, lt));
  }

  pub record IsDeclared (t : Trees) (c out : Scopes) (q : ℕ) : Type 0 where
    pub own : List TypeName
    pub outer : Scopes
    pub scopes : out ≡ own ∷ outer
    pub follows : Goes c outer (at q)
    pub owns : Owns (declarator_of nodes q).next own q (at q)
    pub bare : is_bare t ≡ true → ((declarator_of nodes q).next ≡ Nothing) × (own ≡ [])
    pub derived : is_bare t ≡ false → (x : Derivation) → innermost x (declarator_of nodes q).next ≡ (declarator_of nodes q).next
    pub name : (declarator_of nodes q).name ≡ Some (declared_in t)
    pub by_itself : (way : Naming) → declares way nodes q (kind_at nodes q) ≡ declarator_in way nodes q
    pub named_after : (h : Context) → (past_part h t).name ≡ declared_in t
    pub typed_after : (h : Context) → (past_part h t).type_name ≡ h.type_name
    pub bare_after : (h : Context) → (past_part h t).bare ≡ is_bare t

  -- what a node declares
  pub ruled : {q i j : ℕ} {k : Kind} {b : Trees} (n : IsNode nodes low q k i j b) → declarator_of nodes q ≡ declared_by k (before nowhere q (declarator_of nodes)) q n.own
  ruled {q = q} n =
      declarator_ruled nodes q ∙ ap (λ o. declared_if o (before nowhere q (declarator_of nodes)) q) n.at
      ∙ ap (λ x. declared_by x (before nowhere q (declarator_of nodes)) q n.own) n.kind

  first_is : (q r : ℕ) (rs : List ℕ) → r < q → in_first (before nowhere q (declarator_of nodes)) (r ∷ rs) ≡ declarator_of nodes r
  first_is q r rs lt = ap (λ b. if b then declarator_of nodes r else nowhere) (lt-ltb r q lt)

  -- its first part's events come first
  first_events : (q r : ℕ) (es rest : List Event) → r < q → es ≡ event.Node q ∷ (below q r ++ rest) → (token : ℕ) → is_named token (at r) ≡ true → is_named token es ≡ true
  first_events q r es rest lt is token h =
      subst (λ x. is_named token x ≡ true) (sym (is ∙ ap (λ x. event.Node q ∷ (x ++ rest)) (below_is q r lt))) (named_left token (at r) rest h)

  -- an identifier
  pub name_alone : {c : Scopes} {q i j : ℕ} (n : IsNode nodes low q kind.NameDeclarator i j none) → n.own.parts ≡ [] → IsDeclared (one kind.NameDeclarator i j none) c ([] ∷ c) q
  name_alone {c = c} {q = q} n e = record {
    own = [];
    outer = c;
    scopes = refl;
    follows = of_node n (subst (λ ps. Makes q c c (inside ps)) (sym e) (nothing spelling typed c));
    owns = owns_none (declarator_of nodes q).next q (at q) (ap (λ d. list_of nodes d.next) (ruled n));
    bare = λ u. (ap (λ d. d.next) (ruled n), refl);
    derived = λ u x. absurd (true≢false u);
    name = ap (λ d. d.name) (ruled n) ∙ ap Some n.first;
    by_itself = λ way. ap (declares way nodes q) (kind_is n);
    named_after = λ h. refl;
    typed_after = λ h. or_none h.type_name;
    bare_after = λ h. refl;
  }

  -- one in brackets
  pub in_brackets : {c out : Scopes} {q r i j : ℕ} {t : Trees} (u : Trees) → Single t → (n : IsNode nodes low q kind.GroupDeclarator i j (t & u)) → n.own.parts ≡ r ∷ [] → r < q → IsDeclared t c out r
      → IsDeclared (one kind.GroupDeclarator i j (t & u)) c out q
  in_brackets {c = c} {q = q} {r = r} u single n e lt x =
      let same : declarator_of nodes q ≡ declarator_of nodes r =
      ruled n ∙ ap (λ ps. derived Nothing (in_first (before nowhere q (declarator_of nodes)) ps)) e ∙ ap (derived Nothing) (first_is q r [] lt) ∙ sym (plain (declarator_of nodes r)) in
      let told : at q ≡ event.Node q ∷ (below q r ++ []) = node_events n ∙ ap (λ ps. event.Node q ∷ flat_map (events_by (below q)) (inside ps)) e in
      record {
        own = x.own;
        outer = x.outer;
        scopes = x.scopes;
        follows = of_node n (subst (λ ps. Makes q c x.outer (inside ps)) (sym e) (in_turn spelling typed (goes_below q r lt x.follows) (nothing spelling typed x.outer)));
        owns = owns_more (declarator_of nodes q).next q (at q) lt (first_events q r (at q) [] lt told) (subst (λ (d : Declarator). Owns d.next x.own r (at r)) (sym same) x.owns);
        bare = λ u. (ap (λ d. d.next) same ∙ (x.bare u).0, (x.bare u).1);
        derived = λ u y. ap (λ (d : Declarator). innermost y d.next) same ∙ x.derived u y ∙ sym (ap (λ d. d.next) same);
        name = ap (λ d. d.name) same ∙ x.name;
        by_itself = λ way. ap (declares way nodes q) (kind_is n);
        named_after = λ h. refl;
        typed_after = λ h. or_none h.type_name;
        bare_after = λ h. refl;
      }

  -- the own parameters under a pointer or an array
  owns_other : {q r : ℕ} {own : List TypeName} (t : Trees) (next : Derivation) (fs : List Event) → r < q → ((token : ℕ) → is_named token (at r) ≡ true → is_named token fs ≡ true)
      → (is_bare t ≡ true → (next ≡ Nothing) × (own ≡ [])) → (is_bare t ≡ false → (x : Derivation) → innermost x next ≡ next) → Owns next own r (at r) → Owns (innermost Other next) own q fs
  owns_other {q = q} {r = r} {own = own} t next fs lt longer bare derives h = by (is_bare t) refl
    where
      by : (b : Bool) → is_bare t ≡ b → Owns (innermost Other next) own q fs
      by true u = subst (λ x. Owns (innermost Other next) x q fs) (sym (bare u).1) (owns_none (innermost Other next) q fs (ap (λ d. list_of nodes (innermost Other d)) (bare u).0))
      by false u = owns_more (innermost Other next) q fs lt longer (subst (λ x. Owns x own r (at r)) (sym (derives u Other)) h)

  -- a pointer to it
  pub pointing : {c out : Scopes} {q r i j : ℕ} {t : Trees} (n : IsNode nodes low q kind.PointerDeclarator i j t) → n.own.parts ≡ r ∷ [] → r < q → IsDeclared t c out r
      → IsDeclared (one kind.PointerDeclarator i j t) c out q
  pointing {c = c} {q = q} {r = r} {t = t} n e lt x =
      let same : declarator_of nodes q ≡ derived Other (declarator_of nodes r) =
      ruled n ∙ ap (λ ps. derived Other (in_first (before nowhere q (declarator_of nodes)) ps)) e ∙ ap (derived Other) (first_is q r [] lt) in
      let told : at q ≡ event.Node q ∷ (below q r ++ []) = node_events n ∙ ap (λ ps. event.Node q ∷ flat_map (events_by (below q)) (inside ps)) e in
      record {
        own = x.own;
        outer = x.outer;
        scopes = x.scopes;
        follows = of_node n (subst (λ ps. Makes q c x.outer (inside ps)) (sym e) (in_turn spelling typed (goes_below q r lt x.follows) (nothing spelling typed x.outer)));
        owns = subst (λ (d : Declarator). Owns d.next x.own q (at q)) (sym same) (owns_other t (declarator_of nodes r).next (at q) lt (first_events q r (at q) [] lt told) x.bare x.derived x.owns);
        bare = λ u. absurd (true≢false (sym u));
        derived = λ u y. ap (λ (d : Declarator). innermost y d.next) same ∙ innermost_stays y (declarator_of nodes r).next ∙ sym (ap (λ d. d.next) same);
        name = ap (λ d. d.name) same ∙ x.name;
        by_itself = λ way. ap (declares way nodes q) (kind_is n);
        named_after = λ h. refl;
        typed_after = λ h. or_none h.type_name;
        bare_after = λ h. refl;
      }

  -- an array of it, whose size stands outside of its own parameters' scope
  pub arraying : {c out f : Scopes} {q r i j : ℕ} {rs : List ℕ} {t : Trees} (u : Trees) → Single t → (n : IsNode nodes low q kind.ArrayDeclarator i j (t & u)) → n.own.parts ≡ r ∷ rs → r < q → AreBelow rs q
      → (x : IsDeclared t c out r) → Goes x.outer f (flat_map at rs) → IsDeclared (one kind.ArrayDeclarator i j (t & u)) c (x.own ∷ f) q
  arraying {c = c} {f = f} {q = q} {r = r} {rs = rs} u (single {k = k} {i = a} {j = z} {b = b}) n e lt under x size =
      let same : declarator_of nodes q ≡ derived Other (declarator_of nodes r) =
      ruled n ∙ ap (λ ps. derived Other (in_first (before nowhere q (declarator_of nodes)) ps)) e ∙ ap (derived Other) (first_is q r rs lt) in
      let told : at q ≡ event.Node q ∷ (below q r ++ flat_map (events_by (below q)) (inside rs)) = node_events n ∙ ap (λ ps. event.Node q ∷ flat_map (events_by (below q)) (inside ps)) e in
      record {
        own = x.own;
        outer = f;
        scopes = refl;
        follows = of_node n (subst (λ ps. Makes q c f (inside ps)) (sym e) (in_turn spelling typed (goes_below q r lt x.follows) (all_below q rs under size)));
        owns = subst (λ (d : Declarator). Owns d.next x.own q (at q)) (sym same)
            (owns_other (one k a z b) (declarator_of nodes r).next (at q) lt (first_events q r (at q) (flat_map (events_by (below q)) (inside rs)) lt told) x.bare x.derived x.owns);
        bare = λ u. absurd (true≢false (sym u));
        derived = λ u y. ap (λ (d : Declarator). innermost y d.next) same ∙ innermost_stays y (declarator_of nodes r).next ∙ sym (ap (λ d. d.next) same);
        name = ap (λ d. d.name) same ∙ x.name;
        by_itself = λ way. ap (declares way nodes q) (kind_is n);
        named_after = λ h. refl;
        typed_after = λ h. or_none h.type_name;
        bare_after = λ h. refl;
      }

  -- ---- functions

  abbrev inner : Scopes → List TypeName
  inner [] = []
  inner (names ∷ c) = names

  -- the script of a function's declarator
  abbrev function_steps : List ℕ → List Step
  function_steps ps = inside (take 1 ps) ++ block (drop 1 ps) [] []

  -- without parameters
  pub calling_none : {c out : Scopes} {q r i j : ℕ} {t : Trees} (u : Trees) → Single t → (n : IsNode nodes low q kind.FunctionDeclarator i j (t & u)) → n.own.parts ≡ r ∷ [] → r < q → IsDeclared t c out r
      → IsDeclared (one kind.FunctionDeclarator i j (t & u)) c out q
  calling_none {c = c} {q = q} {r = r} u (single {k = k} {i = a} {j = z} {b = b}) n e lt x =
      let same : declarator_of nodes q ≡ derived (Function q) (declarator_of nodes r) =
      ruled n ∙ ap (λ ps. derived (Function q) (in_first (before nowhere q (declarator_of nodes)) ps)) e ∙ ap (derived (Function q)) (first_is q r [] lt) in
      let told : at q ≡ event.Node q ∷ (below q r ++ event.Opens ∷ event.Closes ∷ []) = node_events n ∙ ap (λ ps. event.Node q ∷ flat_map (events_by (below q)) (function_steps ps)) e in
      let longer = first_events q r (at q) (event.Opens ∷ event.Closes ∷ []) lt told in
      let none-listed : list_of nodes (Function q) ≡ [] = ap (λ ps. drop 1 ps) (parts_are n ∙ e) in
      record {
        own = x.own;
        outer = x.outer;
        scopes = x.scopes;
        follows = of_node n (subst (λ ps. Makes q c x.outer (function_steps ps)) (sym e)
            (in_turn spelling typed (goes_below q r lt x.follows) (does_scope spelling typed (below q) [] (nothing spelling typed ([] ∷ x.outer)))));
        owns = subst (λ (d : Declarator). Owns d.next x.own q (at q)) (sym same) (by longer none-listed (is_bare (one k a z b)) refl);
        bare = λ u. absurd (true≢false (sym u));
        derived = λ u y. ap (λ (d : Declarator). innermost y d.next) same ∙ function_stays q y (declarator_of nodes r).next ∙ sym (ap (λ d. d.next) same);
        name = ap (λ d. d.name) same ∙ x.name;
        by_itself = λ way. ap (declares way nodes q) (kind_is n);
        named_after = λ h. refl;
        typed_after = λ h. or_none h.type_name;
        bare_after = λ h. refl;
      }
    where
      by : ((token : ℕ) → is_named token (at r) ≡ true → is_named token (at q) ≡ true) → list_of nodes (Function q) ≡ [] → (v : Bool) → is_bare (one k a z b) ≡ v
          → Owns (innermost (Function q) (declarator_of nodes r).next) x.own q (at q)
      by longer none-listed true u =
          subst (λ own. Owns (innermost (Function q) (declarator_of nodes r).next) own q (at q)) (sym (x.bare u).1)
          (owns_none (innermost (Function q) (declarator_of nodes r).next) q (at q) (ap (λ d. list_of nodes (innermost (Function q) d)) (x.bare u).0 ∙ none-listed))
      by longer none-listed false u =
          owns_more (innermost (Function q) (declarator_of nodes r).next) q (at q) lt longer (subst (λ d. Owns d x.own r (at r)) (sym (x.derived u (Function q))) x.owns)

  -- with parameters, in a scope of their own
  pub calling : {c out f : Scopes} {names : List TypeName} {q r p i j : ℕ} {t : Trees} (u : Trees) → Single t → (n : IsNode nodes low q kind.FunctionDeclarator i j (t & u)) → n.own.parts ≡ r ∷ p ∷ [] → r < q → p < q
      → (x : IsDeclared t c out r) → Goes ([] ∷ x.outer) (names ∷ f) (at p) → IsDeclared (one kind.FunctionDeclarator i j (t & u)) c ((if is_bare t then names else x.own) ∷ f) q
  calling {c = c} {f = f} {names = names} {q = q} {r = r} {p = p} u (single {k = k} {i = a} {j = z} {b = b}) n e lt less x y =
      let same : declarator_of nodes q ≡ derived (Function q) (declarator_of nodes r) =
      ruled n ∙ ap (λ ps. derived (Function q) (in_first (before nowhere q (declarator_of nodes)) ps)) e ∙ ap (derived (Function q)) (first_is q r (p ∷ []) lt) in
      let told : at q ≡ event.Node q ∷ (below q r ++ event.Opens ∷ (below q p ++ event.Closes ∷ [])) = node_events n ∙ ap (λ ps. event.Node q ∷ flat_map (events_by (below q)) (function_steps ps)) e in
      let longer = first_events q r (at q) (event.Opens ∷ (below q p ++ event.Closes ∷ [])) lt told in
      let listed : list_of nodes (Function q) ≡ p ∷ [] = ap (λ ps. drop 1 ps) (parts_are n ∙ e) in
      let outside : f ≡ x.outer = same_outside spelling typed y in
      let whole : Makes q c f (function_steps (r ∷ p ∷ [])) =
      in_turn spelling typed (goes_below q r lt x.follows) (does_scope spelling typed (below q) (Inside p ∷ []) (in_turn spelling typed (goes_below q p less y) (nothing spelling typed (names ∷ f)))) in
      record {
        own = if is_bare (one k a z b) then names else x.own;
        outer = f;
        scopes = refl;
        follows = of_node n (subst (λ ps. Makes q c f (function_steps ps)) (sym e) whole);
        owns = subst (λ (d : Declarator). Owns d.next (if is_bare (one k a z b) then names else x.own) q (at q)) (sym same) (by longer listed told (is_bare (one k a z b)) refl);
        bare = λ u. absurd (true≢false (sym u));
        derived = λ u w. ap (λ (d : Declarator). innermost w d.next) same ∙ function_stays q w (declarator_of nodes r).next ∙ sym (ap (λ d. d.next) same);
        name = ap (λ d. d.name) same ∙ x.name;
        by_itself = λ way. ap (declares way nodes q) (kind_is n);
        named_after = λ h. refl;
        typed_after = λ h. or_none h.type_name;
        bare_after = λ h. refl;
      }
    where
      listed_owns : list_of nodes (Function q) ≡ p ∷ [] → at q ≡ event.Node q ∷ (below q r ++ event.Opens ∷ (below q p ++ event.Closes ∷ [])) → Owns (Function q) names q (at q)
      listed_owns listed told = record {
        names = y.names;
        is = ap inner (y.parsed ∙ enter_inner y.names [] x.outer);
        told = λ d. ap (λ ps. after spelling typed d (flat_map at ps)) listed ∙ ap (after spelling typed d) (append-nil (at p)) ∙ y.told d;
        again = λ token h.
            let here : is_named token (at p) ≡ true = sym (ap (is_named token) (append-nil (at p))) ∙ sym (ap (λ ps. is_named token (flat_map at ps)) listed) ∙ h in
            let there : is_named token (below q p ++ event.Closes ∷ []) ≡ true = named_left token (below q p) (event.Closes ∷ []) (ap (is_named token) (below_is q p less) ∙ here) in
            ap (is_named token) told ∙ named_right token (below q r) (event.Opens ∷ (below q p ++ event.Closes ∷ [])) there;
        under = subst (λ ps. AreBelow ps q) (sym listed) (λ i l. let first : i ≡ 0 = omega (arith, l) in subst (λ m. slice_index (p ∷ []) m < q) (sym first) less);
      }

      by : ((token : ℕ) → is_named token (at r) ≡ true → is_named token (at q) ≡ true) → list_of nodes (Function q) ≡ p ∷ []
          → at q ≡ event.Node q ∷ (below q r ++ event.Opens ∷ (below q p ++ event.Closes ∷ [])) → (v : Bool) → is_bare (one k a z b) ≡ v
          → Owns (innermost (Function q) (declarator_of nodes r).next) (if v then names else x.own) q (at q)
      by longer listed told true u = subst (λ d. Owns (innermost (Function q) d) names q (at q)) (sym (x.bare u).0) (listed_owns listed told)
      by longer listed told false u =
          owns_more (innermost (Function q) (declarator_of nodes r).next) q (at q) lt longer (subst (λ d. Owns d x.own r (at r)) (sym (x.derived u (Function q))) x.owns)
