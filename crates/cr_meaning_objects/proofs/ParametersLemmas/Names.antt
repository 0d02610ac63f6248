-- The identifier of a parameter, by which a run enters its object, and the type of that.
use Rattle.std.proofs.Common.{◌≡◌, ℕ, zero, suc, ◌<◌, ◌≤◌, inl, inr, Bool, true, false, List, [], ◌∷◌, Option, None, Some, length, nat_lt, slice_get, slice_index_or, refl, sym, ap, subst, ◌∙◌, arith, if◌then◌else◌}
use Rattle.std.proofs.lemmas.Bool.{cases_lt, cases_eq, false≢true, eqb-true, eq-eqb, lt-ltb}
use Rattle.std.proofs.lemmas.Option.{slice_get_within, same_Some}
use Rattle.cr_syntax.specs.declared.node.Kind.{Kind}
use Rattle.cr_syntax.specs.declared.node.Kind.TheVariants as kind
use Rattle.cr_syntax.specs.declared.node.Node.{Node}
use Rattle.cr_scopes_events.specs.declared.event.Role.{Role}
use Rattle.cr_scopes_events.specs.declared.event.Role.TheVariants as role
use Rattle.cr_scopes_events.specs.declared.event.Event.{Event}
use Rattle.cr_scopes_events.specs.declared.event.Event.TheVariants as event
use Rattle.cr_scopes_events.specs.declared.naming.Storage.{Storage}
use Rattle.cr_scopes_events.specs.declared.naming.Storage.TheVariants.{TypedefWord, ExternWord, NoWord}
use Rattle.cr_scopes_events.specs.declared.declarator.Derivation.{Derivation}
use Rattle.cr_scopes_events.specs.declared.declarator.Derivation.TheVariants as derivation
use Rattle.cr_scopes_events.specs.declared.declarator.Declarator.{Declarator as Named}
use Rattle.cr_scopes_events.specs.Values.{before}
use Rattle.cr_scopes_events.specs.Declarators.{nowhere, declared_by as names_by, declared_if, declarator_of}
use Rattle.cr_scopes_events.proofs.Descents.{declarator_ruled}
use Rattle.cr_scopes_events.specs.Scripts as scripts
use Rattle.cr_scopes_events.specs.Scripts.{storage_of, role_by}
use Rattle.cr_scopes_events.specs.Events.{events_of}
use Rattle.cr_scopes.specs.Resolved.{is_number, with_event, past_of}
use Rattle.cr_scopes.specs.Spelled.{name_of as spelled_name}
use Rattle.cr_scopes.specs.Units.{unit_events}
use Rattle.cr_scopes_bindings.specs.Last.{last_with}
use Rattle.cr_scopes_bindings.specs.Nodes.{named_by, named_if, name_at}
use Rattle.cr_scopes_bindings.specs.Entities as bound
use Rattle.cr_scopes_visibility.specs.Alone.Alone.{IsAlone}
use Rattle.cr_scopes_visibility.specs.Alone.Sight.{is_used, IsSeen}
use Rattle.cr_scopes_visibility.proofs.AloneLemmas.First.{within_is, number_same as number_of}
use Rattle.cr_scopes_visibility.proofs.AloneLemmas.Sight.{seen_is}
use Rattle.cr_scopes_linkage.specs.Shared.Origins.{is_external, IsDeclarer}
use Rattle.cr_scopes_typedef_names.specs.Tellings.Tellings.{is_tag, Telling, by_declaration, by_parameter, by_enumerator, by_tag, by_use, AllNames}
use Rattle.cr_scopes_typedef_names.proofs.TellingsLemmas.Scripts.{all_told}
use Rattle.cr_check_enclosing.specs.Above.{above_of}
use Rattle.cr_check_types.specs.Types.{Qualified, type_at}
use Rattle.cr_check_expressions.specs.declared.known.Declared.{Declared}
use Rattle.cr_check_expressions.specs.declared.known.Declared.TheVariants.{Object, Enumerator, Function, TypeName, Unclear}
use Rattle.cr_check_expressions.specs.declared.least.Break.{Break}
use Rattle.cr_check_unit.specs.Breaks.{IsBroken}
use Rattle.cr_check_signatures.specs.Functions.Outlines.{head}
use Rattle.cr_check_signatures.proofs.FunctionsLemmas.Linked.{is_function}
use Rattle.cr_typed.specs.declared.typed.Typed.{Typed}
use Rattle.cr_typed_columns.specs.Reading.{Parsed, parsed_of, kind_of, entry_of}
use Rattle.cr_typed_columns.specs.Entities as entities
use Rattle.cr_typed_columns.specs.Functions as functions
use Rattle.cr_typed_columns.specs.Names as names
use Rattle.cr_meaning_operations.specs.Shapes.{named_type}
use Rattle.cr_meaning_declarations.proofs.NamesLemmas.Leaves.{is_named, named_once, no_use}
use Rattle.cr_meaning_declarations.proofs.NamesLemmas.Parents.{is_deriving, IsPartOf, one_parent, above_is, IsInside, as_part, whole_is}
use Rattle.cr_meaning_declarations.proofs.NamesLemmas.Walks as walks
use Rattle.cr_meaning_declarations.proofs.NamesLemmas.Walks.{all_alone, unit_good}
use Rattle.cr_meaning_declarations.specs.Declared.Files.{IsUnitOfFile}
use Rattle.cr_meaning_declarations.proofs.DeclaredLemmas.Bodies.{last_has, type_is}
use Rattle.cr_meaning_declarations.proofs.LinkedLemmas.Owned.{HasOwn, own_there, part_of, in_init, alone}
use Rattle.cr_meaning_declarations.proofs.DeclaredLemmas.Files.{has_unit}
use Rattle.cr_meaning_objects.proofs.ParametersLemmas.Heads.{composite_head}
use Rattle.cr_meaning_objects.proofs.ComposedLemmas.Named.{IsName}

-- ---- the last number that has a key

last_is : (key : ℕ → Option ℕ) (bound k i : ℕ) → key i ≡ Some k → i < bound → ((j : ℕ) → i < j → j < bound → key j ≡ Some k → ⊥) → last_with key bound k ≡ Some i
last_is key zero k i own low others = absurd (omega (arith, low))
last_is key (suc b) k i own low others = by (is_number (key b) k) refl (λ less. last_is key b k i own less (λ j x y e. others j x (omega (arith, y)) e))
  where
    by : (c : Bool) → is_number (key b) k ≡ c → (i < b → last_with key b k ≡ Some i) → (if is_number (key b) k then Some b else last_with key b k) ≡ Some i
    by true q rest = ap (λ c. if c then Some b else last_with key b k) q ∙ elim (cases_lt i b) [
      | inl less ↦ absurd (others b less (omega arith) (number_of (key b) k q))
      | inr le ↦ (let same : b ≡ i = omega (arith, low, le) in ap Some same)
    ]
    by false q rest = ap (λ c. if c then Some b else last_with key b k) q ∙ rest (elim (cases_lt i b) [
      | inl less ↦ less
      | inr le ↦
          (let same : b ≡ i = omega (arith, low, le) in
          absurd (false≢true (sym q ∙ ap (λ j. is_number (key j) k) same ∙ ap (λ o. is_number o k) own ∙ eq-eqb k k refl)))
    ])

-- ---- a use that is seen is among the events

used_at : (name : ℕ → ℕ) (events : List Event) (token site n : ℕ) → IsSeen name token site (past_of events n) → (k : ℕ) × ((r : Role) × ((slice_get events k ≡ Some (event.Name site r)) × (is_used r ≡ true)))
used_at name events token site zero h = absurd h
used_at name events token site (suc n) h = by (slice_get events n) refl h (λ x. used_at name events token site n x)
  where
    by : (o : Option Event) → slice_get events n ≡ o → IsSeen name token site (with_event o (past_of events n))
        → (IsSeen name token site (past_of events n) → (k : ℕ) × ((r : Role) × ((slice_get events k ≡ Some (event.Name site r)) × (is_used r ≡ true))))
        → (k : ℕ) × ((r : Role) × ((slice_get events k ≡ Some (event.Name site r)) × (is_used r ≡ true)))
    by None e h rest = rest h
    by (Some (event.Name t r)) e (inl x) rest = (n, (r, (e ∙ ap (λ y. Some (event.Name y r)) x.0.1, x.0.0)))
    by (Some (event.Name t r)) e (inr x) rest = rest x
    by (Some event.Opens) e h rest = rest h
    by (Some event.Closes) e h rest = rest h
    by (Some (event.Member t k)) e h rest = rest h
    by (Some (event.Node i)) e h rest = rest h

pub told_at : (P : ℕ → Role → Type 0) (events : List Event) (k token : ℕ) (r : Role) → AllNames P events → slice_get events k ≡ Some (event.Name token r) → P token r
told_at P [] k token r h e = absurd (cc e)
told_at P (event.Name t s ∷ es) zero token r h e =
    let same : event.Name t s ≡ event.Name token r = cc e in
    let one : t ≡ token = cc same in
    let other : s ≡ r = cc same in
    subst (λ y. P y r) one (subst (P t) other h.0)
told_at P (event.Name t s ∷ es) (suc k) token r h e = told_at P es k token r h.1 e
told_at P (event.Opens ∷ es) zero token r h e = absurd (cc e)
told_at P (event.Opens ∷ es) (suc k) token r h e = told_at P es k token r h e
told_at P (event.Closes ∷ es) zero token r h e = absurd (cc e)
told_at P (event.Closes ∷ es) (suc k) token r h e = told_at P es k token r h e
told_at P (event.Member t j ∷ es) zero token r h e = absurd (cc e)
told_at P (event.Member t j ∷ es) (suc k) token r h e = told_at P es k token r h e
told_at P (event.Node i ∷ es) zero token r h e = absurd (cc e)
told_at P (event.Node i ∷ es) (suc k) token r h e = told_at P es k token r h e

role_unused : (s : Storage) (next : Derivation) → is_used (role_by s next) ≡ false
role_unused TypedefWord next = refl
role_unused ExternWord derivation.Nothing = refl
role_unused ExternWord (derivation.Function f) = refl
role_unused ExternWord derivation.Other = refl
role_unused NoWord derivation.Nothing = refl
role_unused NoWord (derivation.Function f) = refl
role_unused NoWord derivation.Other = refl

tag_unused : (r : Role) → is_tag r ≡ true → is_used r ≡ false
tag_unused role.Content h = refl
tag_unused role.Alone h = refl
tag_unused role.Mentioned h = refl
tag_unused r h = absurd (false≢true h)

-- ---- kinds

-- an enumerator is no declarator
enumerator_names_nothing : (nodes : List Node) (p : ℕ) (n : Node) (token : ℕ) → slice_get nodes p ≡ Some n → n.kind ≡ kind.Enumerator → (declarator_of nodes p).name ≡ Some token → ⊥
enumerator_names_nothing nodes p n token at is e =
    let d : declarator_of nodes p ≡ nowhere =
    declarator_ruled nodes p ∙ ap (λ o. declared_if o (before nowhere p (declarator_of nodes)) p) at ∙ ap (λ k. names_by k (before nowhere p (declarator_of nodes)) p n) is in
    let never : None ≡ Some token = sym (ap (λ (x : Named). x.name) d) ∙ e in
    cc never

no_external : (k : Kind) → is_external k ≡ true → k ≡ kind.Parameter → ⊥
no_external k h e = false≢true (sym (ap is_external e) ∙ h)

module _ (file : List ℕ) (t : Typed) (it : IsUnitOfFile file t) where
  open it use {made_by, typing, shapes, tree, columns}
  open has_unit file t it use {unit, nodes_are, tree_nodes, order, count}

  abbrev parsed : Parsed
  parsed = parsed_of it.unit

  holds : (b : Break) → IsBroken tree it.checked.checked.texts shapes typing b → ⊥
  holds b broken = made_by.sound.constraints b (inl broken)

  -- the token of a declared identifier
  pub token_at : (i : ℕ) (n : Node) → slice_get t.nodes i ≡ Some n → n.kind ≡ kind.NameDeclarator → entities.named_token it.unit.nodes i ≡ Some n.first
  token_at i n at is =
      ap (λ ns. entities.named_token ns i) nodes_are ∙ ap (λ o. if entities.is_name (scripts.kind_if o) then scripts.first_if o else None) at
      ∙ ap (λ k. if entities.is_name (Some k) then Some n.first else None) is

  pub name_there : (i token : ℕ) → entities.named_token it.unit.nodes i ≡ Some token → IsName file t it i token
  name_there i token e = by (slice_get t.nodes i) refl (ap (λ ns. entities.named_token ns i) (sym nodes_are) ∙ e)
    where
      by_kind : (m : Node) → slice_get t.nodes i ≡ Some m → (k : Kind) → m.kind ≡ k → (if entities.is_name (Some k) then Some m.first else None) ≡ Some token → IsName file t it i token
      by_kind m at kind.NameDeclarator is f = let same : m.first ≡ token = cc f in record { node = m; at = at; is = is; first = same }
      by_kind m at k is f = absurd (cc f)

      by : (o : Option Node) → slice_get t.nodes i ≡ o → entities.named_token t.nodes i ≡ Some token → IsName file t it i token
      by None at f =
          let never : None ≡ Some token = sym (ap (λ o. if entities.is_name (scripts.kind_if o) then scripts.first_if o else None) at) ∙ f in
          absurd (cc never)
      by (Some m) at f = by_kind m at m.kind refl (sym (ap (λ o. if entities.is_name (scripts.kind_if o) then scripts.first_if o else None) at) ∙ f)

  -- one token, one identifier
  pub one_name : (i j token : ℕ) → IsName file t it i token → IsName file t it j token → i ≡ j
  one_name i j token x y =
      let w = (unit.within j y.node y.at).0 in
      let same = y.first in
      named_once t unit order i j x.node y.node token x.at x.is x.first y.at (ap is_named y.is) (omega (arith, same)) (omega (arith, same)) (omega (arith, same, w))

  -- it isn't used
  unused : (i token : ℕ) (r : Role) → IsName file t it i token → Telling it.unit.nodes token r → is_used r ≡ true → ⊥
  unused i token r x (by_declaration d e) u = false≢true (sym (role_unused (storage_of it.unit.nodes d.own.parts) (declarator_of it.unit.nodes d.declarator).next) ∙ ap is_used (sym e) ∙ u)
  unused i token r x (by_parameter d e) u = false≢true (ap is_used (sym e) ∙ u)
  unused i token r x (by_enumerator d e) u = false≢true (ap is_used (sym e) ∙ u)
  unused i token r x (by_tag d e) u = false≢true (sym (tag_unused r e) ∙ u)
  unused i token r x (by_use d e) u = no_use t unit order i d.node x.node d.own x.at x.is (ap (λ ns. slice_get ns d.node) (sym nodes_are) ∙ d.at) d.is (d.first ∙ sym x.first)

  -- ---- a parameter with a name

  module _ (x p token : ℕ) (nx np : Node) (at_x : slice_get t.nodes x ≡ Some nx) (is : nx.kind ≡ kind.Parameter) (second : slice_get nx.parts 1 ≡ Some p) (at_p : slice_get t.nodes p ≡ Some np)
      (name : (declarator_of t.nodes p).name ≡ Some token) where
    part_x : IsPartOf t unit p x
    part_x = record { parent = nx; at = at_x; place = 1; is = second }

    pub has_own : HasOwn t unit order token
    has_own = own_there t unit order token p name

    abbrev pub own : ℕ
    own = has_own.own

    own_name : IsName file t it own token
    own_name = record { node = has_own.node; at = has_own.at; is = has_own.is; first = has_own.first }

    pub own_low : own < length t.nodes
    own_low = slice_get_within t.nodes own has_own.node has_own.at

    own_token : entities.named_token it.unit.nodes own ≡ Some token
    own_token = token_at own has_own.node has_own.at has_own.is ∙ ap Some has_own.first

    few_tokens : token < length it.unit.tokens.list.items
    few_tokens =
        let w = unit.within own has_own.node has_own.at in
        let low = w.0 in
        let high = w.1 in
        let first = has_own.first in
        let tokens : length t.tokens ≡ length it.unit.tokens.list.items = ap length made_by.elaborated.tokens_are in
        omega (arith, low, high, first, tokens)

    -- its declarator is in no other one
    alone_p : (b : ℕ) → IsInside t unit p b → ⊥
    alone_p b inner =
        let e : x ≡ b = one_parent t unit p x b part_x (as_part t unit p b inner) in
        let one : nx ≡ inner.outer = same_Some nx inner.outer (sym at_x ∙ ap (slice_get t.nodes) e ∙ inner.at) in
        false≢true (ap (is_deriving t unit) (sym is ∙ ap (λ (y : Node). y.kind) one) ∙ inner.derives)

    -- so it is the last node that has the name
    whole_p : (q : ℕ) → p ≤ q → (declarator_of t.nodes q).name ≡ Some token → p ≡ q
    whole_p q le e =
        let first = has_own.first in
        whole_is t unit order own has_own.node has_own.at has_own.is p q (name ∙ ap Some (sym first)) (e ∙ ap Some (sym first)) le alone_p

    declares_it : (q : ℕ) → name_at t.nodes q ≡ Some token → (declarator_of t.nodes q).name ≡ Some token
    declares_it q e = by (slice_get t.nodes q) refl e
      where
        by_kind : (m : Node) → slice_get t.nodes q ≡ Some m → (k : Kind) → m.kind ≡ k → named_by k m.first (declarator_of t.nodes q).name ≡ Some token → (declarator_of t.nodes q).name ≡ Some token
        by_kind m at kind.Enumerator k f =
            let same : m.first ≡ token = cc f in
            let w = (unit.within q m at).0 in
            let one : own ≡ q = named_once t unit order own q has_own.node m token has_own.at has_own.is has_own.first at (ap is_named k) (omega (arith, same)) (omega (arith, same)) (omega (arith, same, w)) in
            let node : has_own.node ≡ m = same_Some has_own.node m (sym has_own.at ∙ ap (slice_get t.nodes) one ∙ at) in
            let never : kind.NameDeclarator ≡ kind.Enumerator = sym has_own.is ∙ ap (λ (y : Node). y.kind) node ∙ k in
            absurd (cc never)
        by_kind m at k is f = f

        by : (o : Option Node) → slice_get t.nodes q ≡ o → named_if o (declarator_of t.nodes q).name ≡ Some token → (declarator_of t.nodes q).name ≡ Some token
        by None at f = absurd (cc f)
        by (Some m) at f = by_kind m at m.kind refl f

    names_it : name_at t.nodes p ≡ Some token
    names_it = ap (λ o. named_if o (declarator_of t.nodes p).name) at_p ∙ by np.kind refl
      where
        by : (k : Kind) → np.kind ≡ k → named_by k np.first (declarator_of t.nodes p).name ≡ Some token
        by kind.Enumerator e = absurd (enumerator_names_nothing t.nodes p np token at_p e name)
        by k e = name

    low_p : p < length t.nodes
    low_p = slice_get_within t.nodes p np at_p

    pub whole_of_own : entities.whole_of it.unit.nodes columns own ≡ Some p
    whole_of_own =
        ap (entry_of columns.declarers.now None) own_token ∙ ap (λ column. slice_index_or column token None) made_by.are.declarers
        ∙ made_by.is.surroundings.bindings.declarers.each token few_tokens
        ∙ last_is (name_at it.unit.nodes) (length it.unit.nodes) token p (ap (λ ns. name_at ns p) nodes_are ∙ names_it) (let c = count in let l = low_p in omega (arith, c, l))
        (λ j less low e. let same : p ≡ j = whole_p j (omega (arith, less)) (declares_it j (ap (λ ns. name_at ns j) (sym nodes_are) ∙ e)) in absurd (omega (arith, less, same)))

    -- a definition enters it
    pub parameter_is : functions.parameter_name parsed x ≡ Some own
    parameter_is =
        ap (λ o. entities.name_node parsed (entities.declared_token it.unit.nodes o)) part_is
        ∙ ap (entities.name_node parsed) (ap (λ ns. (declarator_of ns p).name) nodes_are ∙ name)
        ∙ ap (λ b. if b then last_with (entities.named_token it.unit.nodes) (length it.unit.nodes) token else None) (lt-ltb token (length it.unit.tokens.list.items) few_tokens)
        ∙ last_is (entities.named_token it.unit.nodes) (length it.unit.nodes) token own own_token (let c = count in let l = own_low in omega (arith, c, l))
        (λ j less low e. let same : own ≡ j = one_name own j token own_name (name_there j token e) in absurd (omega (arith, less, same)))
      where
        part_is : slice_get (scripts.parts_at it.unit.nodes x) 1 ≡ Some p
        part_is = ap (λ ns. slice_get (scripts.parts_at ns x) 1) nodes_are ∙ ap (λ o. slice_get (scripts.parts_if o) 1) at_x ∙ second

    pub own_kind : scripts.kind_at it.unit.nodes own ≡ Some kind.NameDeclarator
    own_kind = ap (λ ns. scripts.kind_at ns own) nodes_are ∙ ap scripts.kind_if has_own.at ∙ ap Some has_own.is

    -- ---- no declaration shares its entity (6.2.2p6, 6.7p3)

    -- no declaration and no definition declares it
    undeclared : (i q : ℕ) (m : Node) → IsDeclarer t.nodes token i q m → ⊥
    undeclared i q m d = elim d.declares [
      | inl same_q ↦
          (let e : x ≡ i = one_parent t unit p x i part_x (subst (λ y. IsPartOf t unit y i) (same_q ∙ sym same) (part_of t unit order token i q m d)) in
          let one : nx ≡ m = same_Some nx m (sym at_x ∙ ap (slice_get t.nodes) e ∙ d.at) in
          no_external m.kind d.external (ap (λ (y : Node). y.kind) (sym one) ∙ is))
      | inr init ↦
          (let inner = in_init t unit order token i q m d init.0 init.1 in
          let e : x ≡ d.part = one_parent t unit p x d.part part_x (subst (λ y. IsPartOf t unit y d.part) (sym same) inner) in
          let k : Some nx.kind ≡ Some kind.InitDeclarator = ap scripts.kind_if (sym at_x) ∙ ap (scripts.kind_at t.nodes) e ∙ init.0 in
          let never : kind.Parameter ≡ kind.InitDeclarator = sym is ∙ same_Some nx.kind kind.InitDeclarator k in
          cc never)
    ]
      where
        first : has_own.node.first ≡ token
        first = has_own.first

        same : p ≡ q
        same = elim (cases_lt q p) [
          | inl less ↦
              sym (whole_is t unit order own has_own.node has_own.at has_own.is q p (d.name ∙ ap Some (sym first)) (name ∙ ap Some (sym first)) (omega (arith, less)) (alone t unit order token i q m d))
          | inr le ↦ whole_p q le d.name
        ]

    abbrev whole_past : List Event
    whole_past = past_of (unit_events it.unit) (length (unit_events it.unit))

    is_alone : IsAlone token whole_past
    is_alone =
        let good = unit_good token t unit order own has_own.node has_own.at has_own.is has_own.first (λ i. Unit {0}) heart it.unit.tokens.list.items (λ k q e. tt) in
        let moved : unit_events it.unit ≡ events_of it.unit.tokens.list.items t.nodes t.items =
        ap (λ ns. events_of it.unit.tokens.list.items ns it.unit.items) nodes_are ∙ ap (events_of it.unit.tokens.list.items t.nodes) (sym made_by.elaborated.items_are) in
        subst (λ es. IsAlone token (past_of es (length es))) (sym moved) (all_alone token (events_of it.unit.tokens.list.items t.nodes t.items) good)
      where
        heart : walks.AreNamedWell token t unit order own has_own.node has_own.at has_own.is has_own.first (λ i. Unit {0})
        heart d i m at external placed k q r next e declares named =
            absurd (undeclared i r m (record { at = at; external = external; place = k; first = next; part = q; is = e; declares = declares; name = named }))

    -- an identifier that stands for what begins with it is its own
    alone_here : (j other : ℕ) → IsName file t it j other → bound.first_of it.names (bound.entity_at it.names other) ≡ Some token → own ≡ j
    alone_here j other y e = elim (cases_eq other token) [
      | inl same ↦ one_name own j token own_name (record { node = y.node; at = y.at; is = y.is; first = y.first ∙ same })
      | inr apart ↦
          (let w = unit.within j y.node y.at in
          let low = w.0 in
          let high = w.1 in
          let first = y.first in
          let tokens : length t.tokens ≡ length it.unit.tokens.list.items = ap length made_by.elaborated.tokens_are in
          let seen = seen_is (spelled_name file it.unit.tokens.list.items) (unit_events it.unit) (length it.unit.tokens.list.items) it.names token other it.known (omega (arith, low, high, first, tokens)) apart is_alone e in
          let used = used_at (spelled_name file it.unit.tokens.list.items) (unit_events it.unit) token other (length (unit_events it.unit)) seen in
          absurd (unused j other used.1.0 y (told_at (Telling it.unit.nodes) (unit_events it.unit) used.0 other used.1.0 (all_told it.unit.tokens.list.items it.unit.nodes it.unit.items) used.1.1.0) used.1.1.1))
    ]

    -- ---- its type

    abbrev entity : Option ℕ
    entity = entities.entity_of it.unit.nodes columns.names.now own

    entity_is : entity ≡ bound.entity_at it.names token
    entity_is = ap (bound.entity_if columns.names.now) own_token ∙ ap (λ ns. bound.entity_at ns token) made_by.are.names_are

    -- where it declares its entity first, it does so last too
    last_own : names.is_here own (entities.first_declared parsed columns.names.now entity) ≡ true → entities.last_declared it.unit.nodes columns.names.now entity ≡ Some own
    last_own h = by (bound.entity_at it.names token) refl
      where
        first_is : names.is_here own (entities.name_node parsed (bound.first_of it.names (bound.entity_at it.names token))) ≡ true
        first_is =
            ap (λ o. names.is_here own (entities.name_node parsed (bound.first_of it.names o))) (sym entity_is)
            ∙ ap (λ ns. names.is_here own (entities.name_node parsed (bound.first_of ns entity))) (sym made_by.are.names_are) ∙ h

        -- the token that it begins with
        begins : (o : Option ℕ) → names.is_here own (entities.name_node parsed o) ≡ true → o ≡ Some token
        begins None f = absurd (false≢true f)
        begins (Some first) f = found (entities.name_node parsed (Some first)) refl f
          where
            found : (o : Option ℕ) → entities.name_node parsed (Some first) ≡ o → names.is_here own o ≡ true → Some first ≡ Some token
            found None e g = absurd (false≢true g)
            found (Some node) e g =
                let same : node ≡ own = eqb-true node own g in
                has (nat_lt first (length it.unit.tokens.list.items)) (e ∙ ap Some same)
              where
                has : (c : Bool) → (if c then last_with (entities.named_token it.unit.nodes) (length it.unit.nodes) first else None) ≡ Some own → Some first ≡ Some token
                has true f =
                    let key = number_of (entities.named_token it.unit.nodes own) first (last_has (entities.named_token it.unit.nodes) (length it.unit.nodes) first own f) in
                    sym key ∙ own_token
                has false f = absurd (cc f)

        by : (o : Option ℕ) → bound.entity_at it.names token ≡ o → entities.last_declared it.unit.nodes columns.names.now entity ≡ Some own
        by None e = absurd (false≢true (ap (λ o. names.is_here own (entities.name_node parsed (bound.first_of it.names o))) (sym e) ∙ first_is))
        by (Some k) e =
            let few = (within_is (length it.names.entities) (slice_index_or it.names.of_token token None) k e).1 in
            ap (entities.last_declared it.unit.nodes columns.names.now) (entity_is ∙ e)
            ∙ ap (λ ns. if nat_lt k (length ns.entities) then last_with (entities.entity_of it.unit.nodes ns) (length it.unit.nodes) k else None) made_by.are.names_are
            ∙ ap (λ c. if c then last_with (entities.entity_of it.unit.nodes it.names) (length it.unit.nodes) k else None) few
            ∙ last_is (entities.entity_of it.unit.nodes it.names) (length it.unit.nodes) k own (ap (bound.entity_if it.names) own_token ∙ e) (let c = count in let l = own_low in omega (arith, c, l))
            (λ j less low f. other j less (entities.named_token it.unit.nodes j) refl f)
          where
            other : (j : ℕ) → own < j → (o : Option ℕ) → entities.named_token it.unit.nodes j ≡ o → bound.entity_if it.names o ≡ Some k → ⊥
            other j less None g f = cc f
            other j less (Some tj) g f =
                let same : own ≡ j = alone_here j tj (name_there j tj g) (ap (bound.first_of it.names) (f ∙ sym e) ∙ begins (bound.first_of it.names (bound.entity_at it.names token)) first_is) in
                absurd (omega (arith, less, same))

    abbrev declared : Declared
    declared = slice_index_or typing.declared p Unclear

    pub above_p : entry_of columns.above.now None (Some p) ≡ Some x
    above_p =
        ap (λ column. slice_index_or column p None) made_by.are.above
        ∙ made_by.is.surroundings.above.each p (let c = count in let l = low_p in omega (arith, c, l))
        ∙ ap (λ ns. above_of ns (length ns) p) nodes_are ∙ above_is t unit p x part_x

    named_p : names.type_named columns (Some p) ≡ type_at shapes (slice_index_or typing.named p 0)
    named_p = ap (λ s. type_at s (slice_index_or columns.named.now p 0)) made_by.are.table ∙ ap (λ rows. type_at shapes (slice_index_or rows p 0)) made_by.are.named

    named_own : names.type_named columns (entities.whole_of it.unit.nodes columns own) ≡ type_at shapes (slice_index_or typing.named p 0)
    named_own = ap (names.type_named columns) whole_of_own ∙ named_p

    alone_kind : names.is_initialised (kind_of it.unit.nodes (Some x)) ≡ false
    alone_kind = ap (λ ns. names.is_initialised (scripts.kind_at ns x)) nodes_are ∙ ap (λ o. names.is_initialised (scripts.kind_if o)) at_x ∙ ap (λ k. names.is_initialised (Some k)) is

    -- the identifier has the word of its declarator's type
    pub own_head : is_function declared ≡ false → head (named_type t own) ≡ head (type_at shapes (slice_index_or typing.named p 0))
    own_head unlike =
        ap head (type_is file t it own own_low) ∙ ap (λ k. head (names.named_by k parsed columns own)) own_kind
        ∙ of_here (names.is_here own (entities.first_declared parsed columns.names.now entity)) refl
      where
        whole_type : Qualified
        whole_type = type_at columns.table.now (slice_index_or columns.composites.now p 0)

        composite_is : (q : entities.last_declared it.unit.nodes columns.names.now entity ≡ Some own) → names.composite_type it.unit.nodes columns entity ≡ whole_type
        composite_is q =
            ap (λ o. type_at columns.table.now (entry_of columns.composites.now 0 (names.with_initialiser it.unit.nodes columns (names.whole_if it.unit.nodes columns o)))) q
            ∙ ap (λ o. type_at columns.table.now (entry_of columns.composites.now 0 (names.with_initialiser it.unit.nodes columns o))) whole_of_own
            ∙ ap (λ o. type_at columns.table.now (entry_of columns.composites.now 0 (names.initialised_if it.unit.nodes o (Some p)))) above_p
            ∙ ap (λ c. type_at columns.table.now (entry_of columns.composites.now 0 (if c then Some x else Some p))) alone_kind

        whole_head : head whole_type ≡ head (type_at shapes (slice_index_or typing.named p 0))
        whole_head =
            ap (λ s. head (type_at s (slice_index_or columns.composites.now p 0))) made_by.are.table ∙ ap (λ rows. head (type_at shapes (slice_index_or rows p 0))) made_by.are.composites
            ∙ composite_head tree it.checked.checked.texts shapes typing made_by.is.whole.typing holds p np (ap (λ ns. slice_get ns p) tree_nodes ∙ at_p)

        by_declared : (d : Declared) → declared ≡ d → entities.last_declared it.unit.nodes columns.names.now entity ≡ Some own
            → head (names.entity_type d it.unit.nodes columns own entity) ≡ head (type_at shapes (slice_index_or typing.named p 0))
        by_declared (Object row register) e q = ap head (composite_is q) ∙ whole_head
        by_declared (Function row more) e q = absurd (false≢true (sym unlike ∙ ap is_function e))
        by_declared (Enumerator value) e q = ap head named_own
        by_declared TypeName e q = ap head named_own
        by_declared Unclear e q = ap head named_own

        of_here : (b : Bool) → names.is_here own (entities.first_declared parsed columns.names.now entity) ≡ b
            → head (if b then names.entity_type (entities.declared_of columns (entities.whole_of it.unit.nodes columns own)) it.unit.nodes columns own entity else names.type_named columns (entities.whole_of it.unit.nodes columns own))
            ≡ head (type_at shapes (slice_index_or typing.named p 0))
        of_here false q = ap head named_own
        of_here true q =
            ap (λ w. head (names.entity_type (entities.declared_of columns w) it.unit.nodes columns own entity)) whole_of_own
            ∙ ap (λ column. head (names.entity_type (slice_index_or column p Unclear) it.unit.nodes columns own entity)) made_by.are.declared
            ∙ by_declared declared refl (last_own q)
