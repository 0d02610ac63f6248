-- The name of a declaration or a definition is told by its script, and what a part of a statement tells is told by the statement's.
use Rattle.std.proofs.Common.{◌≡◌, ℕ, zero, suc, ◌<◌, ◌==◌, ◌⊎◌, true, false, inl, inr, Bool, List, [], ◌∷◌, ◌++◌, ◌-◌, Option, None, Some, length, take, drop, slice_get, refl, sym, ap, subst, ◌∙◌, arith, if◌then◌else◌}
use Rattle.std.specs.List.{flat_map}
use Rattle.std.proofs.lemmas.Bool.{cases_lt, eq-eqb, lt-ltb, or_left, or_right, false≢true}
use Rattle.std.proofs.lemmas.Option.{slice_get_within}
use Rattle.cr_tokens.specs.declared.token.Token.{Token}
use Rattle.cr_syntax.specs.declared.node.Kind.{Kind}
use Rattle.cr_syntax.specs.declared.node.Kind.TheVariants as kind
use Rattle.cr_syntax.specs.declared.node.Node.{Node}
use Rattle.cr_scopes_events.specs.declared.event.Role.{Role}
use Rattle.cr_scopes_events.specs.declared.event.Event.{Event}
use Rattle.cr_scopes_events.specs.declared.event.Event.TheVariants as event
use Rattle.cr_scopes_events.specs.declared.event.Step.{Step}
use Rattle.cr_scopes_events.specs.declared.event.Step.TheVariants.{Happens, Inside}
use Rattle.cr_scopes_events.specs.declared.naming.Naming.TheVariants.{Declared}
use Rattle.cr_scopes_events.specs.declared.naming.Storage.{Storage}
use Rattle.cr_scopes_events.specs.declared.declarator.Declarator.{Declarator}
use Rattle.cr_scopes_events.specs.Values.{before}
use Rattle.cr_scopes_events.specs.Declarators.{nowhere, declared_by, declared_if, declarator_of}
use Rattle.cr_scopes_events.specs.Scripts.{kind_if, kind_at, parts_if, parts_at, inside, in_scope, in_scopes, block, storage_of, role_by, event_by, declarator_in, declares, declaration_in, declaration, own_parameters, items_of, script_by, script_if, script_of}
use Rattle.cr_scopes_events.specs.Events.{events_by, events_at, events_of}
use Rattle.cr_scopes_events.proofs.Walks.{events_ruled}
use Rattle.cr_scopes_events.proofs.Descents.{declarator_ruled}
use Rattle.cr_scopes.specs.Resolved.{with_event, past_of}
use Rattle.cr_scopes_bindings.specs.Visible.{is_named}
use Rattle.cr_scopes_linkage.specs.Shared.Sorts.{Never}
use Rattle.cr_scopes_linkage.specs.Shared.Origins.{is_external, IsDeclaring, IsDeclarer}
use Rattle.cr_scopes_linkage.specs.Functions.Laws

-- ---- a name among events

-- it is told in this role
abbrev pub Has : ℕ → Role → List Event → Type 0
Has token r es = (k : ℕ) × (slice_get es k ≡ Some (event.Name token r))

has_left : (token : ℕ) (r : Role) (xs ys : List Event) → Has token r xs → Has token r (xs ++ ys)
has_left token r [] ys (k, e) = absurd (cc e)
has_left token r (x ∷ xs) ys (zero, e) = (zero, e)
has_left token r (x ∷ xs) ys (suc k, e) = let rest = has_left token r xs ys (k, e) in (suc rest.0, rest.1)

has_right : (token : ℕ) (r : Role) (xs ys : List Event) → Has token r ys → Has token r (xs ++ ys)
has_right token r [] ys h = h
has_right token r (x ∷ xs) ys h = let rest = has_right token r xs ys h in (suc rest.0, rest.1)

has_each : (token : ℕ) (r : Role) (f : ℕ → List Event) (ps : List ℕ) (k p : ℕ) → slice_get ps k ≡ Some p → Has token r (f p) → Has token r (flat_map f ps)
has_each token r f [] k p e h = absurd (cc e)
has_each token r f (q ∷ ps) zero p e h = let same : q ≡ p = cc e in has_left token r (f q) (flat_map f ps) (subst (λ x. Has token r (f x)) (sym same) h)
has_each token r f (q ∷ ps) (suc k) p e h = has_right token r (f q) (flat_map f ps) (has_each token r f ps k p e h)

-- ---- so it is told

stays : (token : ℕ) (o : Option Event) (past : List Event) → is_named token past ≡ true → is_named token (with_event o past) ≡ true
stays token None past h = h
stays token (Some (event.Name t r)) past h = or_right (token == t) (is_named token past) h
stays token (Some event.Opens) past h = h
stays token (Some event.Closes) past h = h
stays token (Some (event.Member t k)) past h = h
stays token (Some (event.Node i)) past h = h

named_past : (token : ℕ) (events : List Event) (k n : ℕ) (r : Role) → slice_get events k ≡ Some (event.Name token r) → k < n → is_named token (past_of events n) ≡ true
named_past token events k zero r e less = absurd (omega (arith, less))
named_past token events k (suc n) r e less = elim (cases_lt k n) [
  | inl more ↦ stays token (slice_get events n) (past_of events n) (named_past token events k n r e more)
  | inr le ↦
      (let same : k ≡ n = omega (arith, less, le) in
      ap (λ o. is_named token (with_event o (past_of events n))) (ap (slice_get events) (sym same) ∙ e) ∙ or_left (token == token) (is_named token (past_of events n)) (eq-eqb token token refl))
]

never_before : (test : Role → Bool) (token : ℕ) (o : Option Event) (past : List Event) → Never test token (with_event o past) → Never test token past
never_before test token None past h = h
never_before test token (Some (event.Name t r)) past h = h.1
never_before test token (Some event.Opens) past h = h
never_before test token (Some event.Closes) past h = h
never_before test token (Some (event.Member t k)) past h = h
never_before test token (Some (event.Node i)) past h = h

never_past : (test : Role → Bool) (token : ℕ) (events : List Event) (k n : ℕ) (r : Role) → slice_get events k ≡ Some (event.Name token r) → k < n → Never test token (past_of events n) → test r ≡ false
never_past test token events k zero r e less h = absurd (omega (arith, less))
never_past test token events k (suc n) r e less h = elim (cases_lt k n) [
  | inl more ↦ never_past test token events k n r e more (never_before test token (slice_get events n) (past_of events n) h)
  | inr le ↦
      (let same : k ≡ n = omega (arith, less, le) in
      (subst (λ o. Never test token (with_event o (past_of events n))) (ap (slice_get events) (sym same) ∙ e) h).0 refl)
]

-- of all events together
pub is_there : (token : ℕ) (r : Role) (events : List Event) → Has token r events → is_named token (past_of events (length events)) ≡ true
is_there token r events h = named_past token events h.0 (length events) r h.1 (slice_get_within events h.0 (event.Name token r) h.1)

-- and then it isn't never told so
pub not_never : (test : Role → Bool) (token : ℕ) (r : Role) (events : List Event) → Has token r events → Never test token (past_of events (length events)) → test r ≡ false
not_never test token r events h never = never_past test token events h.0 (length events) r h.1 (slice_get_within events h.0 (event.Name token r) h.1) never

-- ---- a name among steps, by the events of the nodes before

module _ (token : ℕ) (r : Role) (at : ℕ → List Event) where
  abbrev Says : List Step → Type 0
  Says steps = (k : ℕ) × ((s : Step) × ((slice_get steps k ≡ Some s) × Has token r (events_by at s)))

  says_left : (xs ys : List Step) → Says xs → Says (xs ++ ys)
  says_left [] ys (k, (s, (e, h))) = absurd (cc e)
  says_left (x ∷ xs) ys (zero, rest) = (zero, rest)
  says_left (x ∷ xs) ys (suc k, rest) = let more = says_left xs ys (k, rest) in (suc more.0, more.1)

  says_right : (xs ys : List Step) → Says ys → Says (xs ++ ys)
  says_right [] ys h = h
  says_right (x ∷ xs) ys h = let rest = says_right xs ys h in (suc rest.0, rest.1)

  says_each : (f : ℕ → List Step) (ps : List ℕ) (k p : ℕ) → slice_get ps k ≡ Some p → Says (f p) → Says (flat_map f ps)
  says_each f [] k p e h = absurd (cc e)
  says_each f (q ∷ ps) zero p e h = let same : q ≡ p = cc e in says_left (f q) (flat_map f ps) (subst (λ x. Says (f x)) (sym same) h)
  says_each f (q ∷ ps) (suc k) p e h = says_right (f q) (flat_map f ps) (says_each f ps k p e h)

  has_said : (steps : List Step) → Says steps → Has token r (flat_map (events_by at) steps)
  has_said [] (k, (s, (e, h))) = absurd (cc e)
  has_said (x ∷ steps) (zero, (s, (e, h))) = let same : x ≡ s = cc e in has_left token r (events_by at x) (flat_map (events_by at) steps) (subst (λ y. Has token r (events_by at y)) (sym same) h)
  has_said (x ∷ steps) (suc k, rest) = has_right token r (events_by at x) (flat_map (events_by at) steps) (has_said steps (k, rest))

  -- ---- parts

  inside_says : (ps : List ℕ) (k p : ℕ) → slice_get ps k ≡ Some p → Has token r (at p) → Says (inside ps)
  inside_says ps k p e h = says_each (λ part. Inside part ∷ []) ps k p e (0, (Inside p, (refl, h)))

  scope_says : (steps : List Step) → Says steps → Says (in_scope steps)
  scope_says steps h = says_right (Happens event.Opens ∷ []) (steps ++ Happens event.Closes ∷ []) (says_left steps (Happens event.Closes ∷ []) h)

  scopes_says : (ps : List ℕ) (k p : ℕ) → slice_get ps k ≡ Some p → Has token r (at p) → Says (in_scopes ps)
  scopes_says ps k p e h = says_each (λ part. in_scope (Inside part ∷ [])) ps k p e (scope_says (Inside p ∷ []) (0, (Inside p, (refl, h))))

  first_says : (xs ys zs : List ℕ) (k p : ℕ) → slice_get xs k ≡ Some p → Has token r (at p) → Says (block xs ys zs)
  first_says xs ys zs k p e h = scope_says (inside xs ++ in_scopes ys ++ inside zs) (says_left (inside xs ++ in_scopes ys) (inside zs) (says_left (inside xs) (in_scopes ys) (inside_says xs k p e h)))

  middle_says : (xs ys zs : List ℕ) (k p : ℕ) → slice_get ys k ≡ Some p → Has token r (at p) → Says (block xs ys zs)
  middle_says xs ys zs k p e h =
      scope_says (inside xs ++ in_scopes ys ++ inside zs) (says_left (inside xs ++ in_scopes ys) (inside zs) (says_right (inside xs) (in_scopes ys) (scopes_says ys k p e h)))

  last_says : (xs ys zs : List ℕ) (k p : ℕ) → slice_get zs k ≡ Some p → Has token r (at p) → Says (block xs ys zs)
  last_says xs ys zs k p e h =
      scope_says (inside xs ++ in_scopes ys ++ inside zs) (says_right (inside xs ++ in_scopes ys) (inside zs) (inside_says zs k p e h))

-- a part is one of the first, or one of the others
in_either : (m : ℕ) (ps : List ℕ) (k p : ℕ) → slice_get ps k ≡ Some p → (slice_get (take m ps) k ≡ Some p) ⊎ ((j : ℕ) × (slice_get (drop m ps) j ≡ Some p))
in_either zero ps k p e = inr (k, e)
in_either (suc m) [] k p e = absurd (cc e)
in_either (suc m) (x ∷ ps) zero p e = inl e
in_either (suc m) (x ∷ ps) (suc k) p e = elim (in_either m ps k p e) [ inl h ↦ inl h | inr h ↦ inr h ]

-- what tells all its parts, in their order
abbrev pub is_statement : Kind → Bool
is_statement kind.Compound = true
is_statement kind.ExpressionStatement = true
is_statement kind.If = true
is_statement kind.Switch = true
is_statement kind.While = true
is_statement kind.Do = true
is_statement kind.For = true
is_statement kind.Label = true
is_statement kind.Case = true
is_statement kind.Default = true
is_statement kind.Goto = true
is_statement kind.Break = true
is_statement kind.Continue = true
is_statement kind.Return = true
is_statement k = false

abbrev is_init : Option Kind → Bool
is_init (Some kind.InitDeclarator) = true
is_init o = false

module _ (tokens : List Token) (nodes : List Node) (token : ℕ) (r : Role) where
  abbrev at : ℕ → ℕ → List Event
  at i = before [] i (events_at tokens nodes)

  abbrev Says_at : ℕ → List Step → Type 0
  Says_at i steps = Says token r (at i) steps

  node_has : (i : ℕ) → Says_at i (script_of tokens nodes i) → Has token r (events_at tokens nodes i)
  node_has i h = let rest = has_said token r (at i) (script_of tokens nodes i) h in subst (Has token r) (sym (events_ruled tokens nodes i)) (suc rest.0, rest.1)

  below_has : (i p : ℕ) → p < i → Has token r (events_at tokens nodes p) → Has token r (at i p)
  below_has i p low h = subst (λ b. Has token r (if b then events_at tokens nodes p else [])) (sym (lt-ltb p i low)) h

  -- ---- statements

  split_says : (i m : ℕ) (ps : List ℕ) (k p : ℕ) → slice_get ps k ≡ Some p → Has token r (at i p) → Says_at i (block (take m ps) (drop m ps) [])
  split_says i m ps k p e h = elim (in_either m ps k p e) [
    | inl f ↦ first_says token r (at i) (take m ps) (drop m ps) [] k p f h
    | inr f ↦ middle_says token r (at i) (take m ps) (drop m ps) [] f.0 p f.1 h
  ]

  statement_says : (i : ℕ) (n : Node) (k : Kind) → is_statement k ≡ true → (j p : ℕ) → slice_get n.parts j ≡ Some p → Has token r (at i p) → Says_at i (script_by k tokens nodes i n)
  statement_says i n kind.Compound s j p e h = first_says token r (at i) n.parts [] [] j p e h
  statement_says i n kind.ExpressionStatement s j p e h = inside_says token r (at i) n.parts j p e h
  statement_says i n kind.If s j p e h = split_says i 1 n.parts j p e h
  statement_says i n kind.Switch s j p e h = split_says i 1 n.parts j p e h
  statement_says i n kind.While s j p e h = split_says i 1 n.parts j p e h
  statement_says i n kind.Do s j p e h = elim (in_either 1 n.parts j p e) [
    | inl f ↦ middle_says token r (at i) [] (take 1 n.parts) (drop 1 n.parts) j p f h
    | inr f ↦ last_says token r (at i) [] (take 1 n.parts) (drop 1 n.parts) f.0 p f.1 h
  ]
  statement_says i n kind.For s j p e h = split_says i (length n.parts - 1) n.parts j p e h
  statement_says i n kind.Label s j p e h = inside_says token r (at i) n.parts j p e h
  statement_says i n kind.Case s j p e h = inside_says token r (at i) n.parts j p e h
  statement_says i n kind.Default s j p e h = inside_says token r (at i) n.parts j p e h
  statement_says i n kind.Goto s j p e h = inside_says token r (at i) n.parts j p e h
  statement_says i n kind.Break s j p e h = inside_says token r (at i) n.parts j p e h
  statement_says i n kind.Continue s j p e h = inside_says token r (at i) n.parts j p e h
  statement_says i n kind.Return s j p e h = inside_says token r (at i) n.parts j p e h
  statement_says i n k s j p e h = absurd (false≢true s)

  -- what a part of a statement tells, the statement tells
  pub statement_tells : (i : ℕ) (n : Node) → slice_get nodes i ≡ Some n → is_statement n.kind ≡ true → (j p : ℕ) → slice_get n.parts j ≡ Some p → p < i → Has token r (events_at tokens nodes p) → Has token r (events_at tokens nodes i)
  statement_tells i n here s j p e low h = node_has i (subst (λ o. Says_at i (script_if o tokens nodes i)) (sym here) (statement_says i n n.kind s j p e (below_has i p low h)))

  dropped : (ps : List ℕ) (k b : ℕ) → slice_get ps (suc (suc k)) ≡ Some b → slice_get (drop 2 ps) k ≡ Some b
  dropped [] k b e = absurd (cc e)
  dropped (x ∷ []) k b e = absurd (cc e)
  dropped (x ∷ y ∷ ps) k b e = e

  -- what a part of a definition's body tells, the definition tells
  pub body_tells : (i : ℕ) (n : Node) → slice_get nodes i ≡ Some n → n.kind ≡ kind.FunctionDefinition → (k b : ℕ) (body : Node) → slice_get n.parts (suc (suc k)) ≡ Some b → slice_get nodes b ≡ Some body
      → (j p : ℕ) → slice_get body.parts j ≡ Some p → p < i → Has token r (events_at tokens nodes p) → Has token r (events_at tokens nodes i)
  body_tells i n here is k b body e there j p f low h =
      node_has i
      (subst (λ o. Says_at i (script_if o tokens nodes i)) (sym here)
      (subst (λ c. Says_at i (script_by c tokens nodes i n)) (sym is)
      (says_right token r (at i) (declaration_in (Declared (storage_of nodes n.parts)) nodes (take 2 n.parts)) (in_scope (own ++ flat_map (items_of nodes) (drop 2 n.parts)))
      (scope_says token r (at i) (own ++ flat_map (items_of nodes) (drop 2 n.parts))
      (says_right token r (at i) own (flat_map (items_of nodes) (drop 2 n.parts))
      (says_each token r (at i) (items_of nodes) (drop 2 n.parts) k b (dropped n.parts k b e)
      (inside_says token r (at i) (parts_at nodes b) j p (ap (λ o. slice_get (parts_if o) j) there ∙ f) (below_has i p low h))))))))
    where
      own : List Step
      own = flat_map (own_parameters nodes) (take 1 (drop 1 n.parts))

  -- ---- a declarator

  named_as : (i : ℕ) (way : Storage) (q : ℕ) → role_by way (declarator_of nodes q).next ≡ r → (o : Option ℕ) → (declarator_of nodes q).name ≡ o → o ≡ Some token
      → Says_at i (elim o [ None ↦ [] | Some name ↦ Happens (event_by (Declared way) (declarator_of nodes q).next name) ∷ [] ])
  named_as i way q is None e f = absurd (cc f)
  named_as i way q is (Some name) e f =
      let same : name ≡ token = cc f in
      (0, (Happens (event_by (Declared way) (declarator_of nodes q).next name), (refl, (0, ap (λ x. Some (event.Name x (role_by way (declarator_of nodes q).next))) same ∙ ap (λ x. Some (event.Name token x)) is))))

  declarator_says : (i : ℕ) (way : Storage) (q : ℕ) → role_by way (declarator_of nodes q).next ≡ r → (declarator_of nodes q).name ≡ Some token → Says_at i (declarator_in (Declared way) nodes q)
  declarator_says i way q is e = let rest = named_as i way q is (declarator_of nodes q).name refl e in (suc rest.0, rest.1)

  -- one with an initialiser declares nothing by itself
  no_init : (p : ℕ) → kind_at nodes p ≡ Some kind.InitDeclarator → (declarator_of nodes p).name ≡ Some token → ⊥
  no_init p is e = by (slice_get nodes p) refl
    where
      by : (o : Option Node) → slice_get nodes p ≡ o → ⊥
      by None at = let never : None ≡ Some kind.InitDeclarator = sym (ap kind_if at) ∙ is in cc never
      by (Some m) at =
          let same : Some m.kind ≡ Some kind.InitDeclarator = sym (ap kind_if at) ∙ is in
          let k : m.kind ≡ kind.InitDeclarator = cc same in
          let d : declarator_of nodes p ≡ nowhere =
          declarator_ruled nodes p ∙ ap (λ o. declared_if o (before nowhere p (declarator_of nodes)) p) at ∙ ap (λ c. declared_by c (before nowhere p (declarator_of nodes)) p m) k in
          let never : None ≡ Some token = sym (ap (λ (x : Declarator). x.name) d) ∙ e in
          cc never

  first_taken : (ps : List ℕ) (q : ℕ) → slice_get ps 0 ≡ Some q → slice_get (take 1 ps) 0 ≡ Some q
  first_taken [] q e = absurd (cc e)
  first_taken (x ∷ ps) q e = e

  -- a part that declares
  part_says : (i : ℕ) (way : Storage) (p q : ℕ) → role_by way (declarator_of nodes q).next ≡ r → IsDeclaring nodes p q → (declarator_of nodes q).name ≡ Some token → (o : Option Kind) → kind_at nodes p ≡ o
      → Says_at i (declares (Declared way) nodes p o)
  part_says i way p q is (inl same) e (Some kind.InitDeclarator) f = absurd (no_init q (ap (kind_at nodes) (sym same) ∙ f) e)
  part_says i way p q is (inr h) e (Some kind.InitDeclarator) f =
      says_left token r (at i) (flat_map (declarator_in (Declared way) nodes) (take 1 (parts_at nodes p))) (inside (drop 1 (parts_at nodes p)))
      (says_each token r (at i) (declarator_in (Declared way) nodes) (take 1 (parts_at nodes p)) 0 q (first_taken (parts_at nodes p) q h.1) (declarator_says i way q is e))
  part_says i way p q is (inl same) e o f = subst (λ x. Says_at i (declarator_in (Declared way) nodes x)) (sym same) (declarator_says i way q is e)
  part_says i way p q is (inr h) e o f = absurd (false≢true (ap is_init (sym f ∙ h.0)))

  second_taken : (ps : List ℕ) (p : ℕ) → slice_get ps 1 ≡ Some p → slice_get (drop 1 (take 2 ps)) 0 ≡ Some p
  second_taken [] p e = absurd (cc e)
  second_taken (x ∷ []) p e = absurd (cc e)
  second_taken (x ∷ y ∷ ps) p e = e

  -- ---- a declaration or a definition

  module _ (i q : ℕ) (m : Node) (d : IsDeclarer nodes token i q m) (told_as : role_by (storage_of nodes m.parts) (declarator_of nodes q).next ≡ r) where
    abbrev words : Storage
    words = storage_of nodes m.parts

    -- of a definition it is the second part
    definition_says : m.kind ≡ kind.FunctionDefinition → Says_at i (script_by kind.FunctionDefinition tokens nodes i m)
    definition_says is =
        says_left token r (at i) (declaration_in (Declared words) nodes (take 2 m.parts))
        (in_scope (flat_map (own_parameters nodes) (take 1 (drop 1 m.parts)) ++ flat_map (items_of nodes) (drop 2 m.parts)))
        (says_right token r (at i) (inside (take 1 (take 2 m.parts))) (flat_map (λ part. declares (Declared words) nodes part (kind_at nodes part)) (drop 1 (take 2 m.parts)))
        (says_each token r (at i) (λ part. declares (Declared words) nodes part (kind_at nodes part)) (drop 1 (take 2 m.parts)) 0 d.part (second_taken m.parts d.part second)
        (part_says i words d.part q told_as d.declares d.name (kind_at nodes d.part) refl)))
      where
        second : slice_get m.parts 1 ≡ Some d.part
        second = subst (λ x. slice_get m.parts (suc x) ≡ Some d.part) (d.first is) d.is

    -- a declaration has another part before it
    declaration_says : (ps : List ℕ) → m.parts ≡ ps → Says_at i (declaration nodes ps)
    declaration_says [] e = absurd (cc (sym (ap (λ xs. slice_get xs (suc d.place)) e) ∙ d.is))
    declaration_says (s ∷ []) e = absurd (cc (sym (ap (λ xs. slice_get xs (suc d.place)) e) ∙ d.is))
    declaration_says (s ∷ x ∷ ps) e =
        says_right token r (at i) (inside (s ∷ [])) (flat_map (λ part. declares (Declared (storage_of nodes (s ∷ x ∷ ps))) nodes part (kind_at nodes part)) (x ∷ ps))
        (says_each token r (at i) (λ part. declares (Declared (storage_of nodes (s ∷ x ∷ ps))) nodes part (kind_at nodes part)) (x ∷ ps) d.place d.part (sym (ap (λ xs. slice_get xs (suc d.place)) e) ∙ d.is)
        (part_says i (storage_of nodes (s ∷ x ∷ ps)) d.part q (ap (λ xs. role_by (storage_of nodes xs) (declarator_of nodes q).next) (sym e) ∙ told_as) d.declares d.name (kind_at nodes d.part) refl))

    external_says : (k : Kind) → m.kind ≡ k → is_external k ≡ true → Says_at i (script_by k tokens nodes i m)
    external_says kind.Declaration is h = declaration_says m.parts refl
    external_says kind.FunctionDefinition is h = definition_says is
    external_says k is h = absurd (false≢true h)

    -- the name that it declares it tells
    pub external_tells : Has token r (events_at tokens nodes i)
    external_tells = node_has i (subst (λ o. Says_at i (script_if o tokens nodes i)) (sym d.at) (external_says m.kind refl d.external))

  -- what an item tells, the unit tells
  pub item_tells : (items : List ℕ) (place i : ℕ) (m : Node) → slice_get items place ≡ Some i → slice_get nodes i ≡ Some m → Has token r (events_at tokens nodes i) → Has token r (events_of tokens nodes items)
  item_tells items place i m e here h =
      has_each token r (before [] (length nodes) (events_at tokens nodes)) items place i e
      (subst (λ b. Has token r (if b then events_at tokens nodes i else [])) (sym (lt-ltb i (length nodes) (slice_get_within nodes i m here))) h)

pub told : Laws.DefinitionsAreTold
told tokens nodes items place i q token m e d is =
    let r = role_by (storage_of nodes m.parts) (declarator_of nodes q).next in
    is_there token r (events_of tokens nodes items) (item_tells tokens nodes token r items place i m e d.at (external_tells tokens nodes token r i q m d refl))
