-- Two external declarations that define functions of one name are one: each is told as a function, so they share an entity (C11 6.2.2p2), of which
-- one declaration at most has a body.
use Rattle.std.proofs.Common.{◌≡◌, ℕ, zero, suc, ◌+◌, ◌<◌, ◌⊎◌, inl, inr, Bool, true, false, List, Option, None, Some, length, slice_get, refl, sym, ap, subst, ◌∙◌, arith}
use Rattle.std.proofs.lemmas.Bool.{cases_lt, cases_eq, false≢true}
use Rattle.std.proofs.lemmas.Option.{slice_get_within, same_Some}
use Rattle.cr_syntax.specs.declared.node.Kind.{Kind}
use Rattle.cr_syntax.specs.declared.node.Kind.TheVariants as kind
use Rattle.cr_syntax.specs.declared.node.Node.{Node as SyntaxNode}
use Rattle.cr_scopes_events.specs.declared.event.Role.{Role}
use Rattle.cr_scopes_events.specs.declared.event.Role.TheVariants as role
use Rattle.cr_scopes_events.specs.declared.event.Event.{Event}
use Rattle.cr_scopes_events.specs.declared.event.Event.TheVariants.{Node, Opens, Closes, Name, Member}
use Rattle.cr_scopes_events.specs.declared.naming.Storage.{Storage}
use Rattle.cr_scopes_events.specs.declared.naming.Storage.TheVariants.{TypedefWord, ExternWord, NoWord}
use Rattle.cr_scopes_events.specs.declared.declarator.Derivation.{Derivation}
use Rattle.cr_scopes_events.specs.declared.declarator.Derivation.TheVariants as derivation
use Rattle.cr_scopes_events.specs.Declarators.{declarator_of}
use Rattle.cr_scopes_events.specs.Scripts as scripts
use Rattle.cr_scopes_events.specs.Scripts.{storage_of, role_by}
use Rattle.cr_scopes.specs.Faults.{is_typedef}
use Rattle.cr_scopes.specs.Resolved.{with_event, past_of}
use Rattle.cr_scopes.specs.Spelled.{spelling_of, name_of}
use Rattle.cr_scopes.specs.Units.{unit_events}
use Rattle.cr_scopes_linkage.specs.Shared.Sorts.{is_value, is_tag, Never}
use Rattle.cr_scopes_linkage.specs.Shared.Origins.{is_external, is_tagged, IsDeclarer, IsTold, declared, tagged, otherwise, AreTold}
use Rattle.cr_scopes_linkage.proofs.SharedLemmas.Told.{all_told}
use Rattle.cr_scopes_typedef_names.specs.Tellings.Tellings as tellings
use Rattle.cr_scopes_typedef_names.specs.Tellings.Tellings.{Telling, by_declaration, by_parameter, by_enumerator, by_tag, by_use}
use Rattle.cr_scopes_typedef_names.proofs.TellingsLemmas.Scripts.{all_told as all_telling}
use Rattle.cr_scopes_linkage.specs.Functions.Functions.{is_no_function, is_other, IsFunction, AreValues}
use Rattle.cr_scopes_linkage.proofs.FunctionsLemmas.Shared.{share}
use Rattle.cr_scopes_linkage.proofs.FunctionsLemmas.Told.{told}
use Rattle.cr_scopes_linkage.proofs.SharedLemmas.Looked.{tag_no_value}
use Rattle.cr_typed.specs.declared.typed.Typed.{Typed}
use Rattle.cr_meaning_declarations.proofs.NamesLemmas.Leaves.{is_named, named_once, no_tag, no_use}
use Rattle.cr_meaning_declarations.proofs.NamesLemmas.Parents.{is_deriving, IsPartOf, one_parent, IsInside, as_part, whole_is}
use Rattle.cr_meaning_declarations.specs.Declared.Files.{IsUnitOfFile}
use Rattle.cr_meaning_declarations.proofs.DeclaredLemmas.Bodies.{node_of}
use Rattle.cr_meaning_declarations.proofs.LinkedLemmas.Owned.{HasOwn, own_there, part_of, in_init, alone, one_declaration, one_role}
use Rattle.cr_meaning_declarations.proofs.DeclaredLemmas.Files.{has_unit}
use Rattle.cr_meaning_objects.proofs.ChainedLemmas.Words.{value_is}
use Rattle.cr_meaning_objects.proofs.ChainedLemmas.Known.{owned, function_plain, definition_declares}
use Rattle.cr_meaning_objects.proofs.ChainedLemmas.Chained.{one_body}
use Rattle.cr_meaning_objects.proofs.ParametersLemmas.Names.{told_at}
use Rattle.cr_meaning_objects.proofs.ParametersLemmas.Parameters.{function_next}
use Rattle.cr_meaning_objects.specs.Mains.Laws
use Rattle.cr_meaning_objects.proofs.MainsLemmas.Spelled.{alike}

-- ---- roles

pub function_role : (s : Storage) (next : Derivation) (l : ℕ) → next ≡ derivation.Function l → is_value (role_by s next) ≡ true → role_by s next ≡ role.Function
function_role s next l e v = ap (role_by s) e ∙ by s (ap (λ n. is_value (role_by s n)) (sym e) ∙ v)
  where
    by : (s : Storage) → is_value (role_by s (derivation.Function l)) ≡ true → role_by s (derivation.Function l) ≡ role.Function
    by TypedefWord h = absurd (false≢true h)
    by ExternWord h = refl
    by NoWord h = refl

pub value_plain : (r : Role) → is_value r ≡ true → is_other r ≡ false
value_plain role.Object h = refl
value_plain role.ExternObject h = refl
value_plain role.Function h = refl
value_plain r h = absurd (false≢true h)

-- what a declaration tells is a value or a type
pub value_or_type : (s : Storage) (next : Derivation) → (is_value (role_by s next) ≡ true) ⊎ (is_typedef (role_by s next) ≡ true)
value_or_type TypedefWord next = inr refl
value_or_type ExternWord derivation.Nothing = inl refl
value_or_type ExternWord (derivation.Function f) = inl refl
value_or_type ExternWord derivation.Other = inl refl
value_or_type NoWord derivation.Nothing = inl refl
value_or_type NoWord (derivation.Function f) = inl refl
value_or_type NoWord derivation.Other = inl refl

tag_same : (r : Role) → tellings.is_tag r ≡ true → is_tag r ≡ true
tag_same role.Content h = refl
tag_same role.Alone h = refl
tag_same role.Mentioned h = refl
tag_same r h = absurd (false≢true h)

parameter_only : (k : Kind) → tellings.is_parameter k ≡ true → k ≡ kind.Parameter
parameter_only kind.Parameter h = refl
parameter_only k h = absurd (false≢true h)

enumerator_only : (k : Kind) → tellings.is_enumerator k ≡ true → k ≡ kind.Enumerator
enumerator_only kind.Enumerator h = refl
enumerator_only k h = absurd (false≢true h)

-- ---- events by their numbers

abbrev pub At : List Event → ℕ → ℕ → Role → Type 0
At events token k r = slice_get events k ≡ Some (Name token r)

pub never_past : (test : Role → Bool) (events : List Event) (token : ℕ) → ((k : ℕ) (r : Role) → At events token k r → test r ≡ false) → (n : ℕ) → Never test token (past_of events n)
never_past test events token h zero = tt
never_past test events token h (suc n) = by (slice_get events n) refl (never_past test events token h n)
  where
    by : (o : Option Event) → slice_get events n ≡ o → Never test token (past_of events n) → Never test token (with_event o (past_of events n))
    by None e rest = rest
    by (Some (Name t r)) e rest = ((λ same. h n r (e ∙ ap (λ x. Some (Name x r)) same)), rest)
    by (Some Opens) e rest = rest
    by (Some Closes) e rest = rest
    by (Some (Member t k)) e rest = rest
    by (Some (Node i)) e rest = rest

record IsValueAt (events : List Event) (token : ℕ) : Type 0 where
  place : ℕ
  own : Role
  at : At events token place own
  value : is_value own ≡ true

decide : (events : List Event) (token n : ℕ) → Never is_value token (past_of events n) ⊎ IsValueAt events token
decide events token zero = inl tt
decide events token (suc n) = by (slice_get events n) refl (decide events token n)
  where
    one : (t : ℕ) (r : Role) → slice_get events n ≡ Some (Name t r) → (b : Bool) → is_value r ≡ b → Never is_value token (past_of events n) ⊎ IsValueAt events token → Never is_value token (with_event (Some (Name t r)) (past_of events n)) ⊎ IsValueAt events token
    one t r e b q (inr x) = inr x
    one t r e false q (inl never) = inl ((λ same. q), never)
    one t r e true q (inl never) = elim (cases_eq t token) [
      | inl same ↦ inr (record { place = n; own = r; at = e ∙ ap (λ x. Some (Name x r)) same; value = q })
      | inr apart ↦ inl ((λ same. absurd (apart same)), never)
    ]

    by : (o : Option Event) → slice_get events n ≡ o → Never is_value token (past_of events n) ⊎ IsValueAt events token → Never is_value token (with_event o (past_of events n)) ⊎ IsValueAt events token
    by None e rest = rest
    by (Some (Name t r)) e rest = one t r e (is_value r) refl rest
    by (Some Opens) e rest = rest
    by (Some Closes) e rest = rest
    by (Some (Member t k)) e rest = rest
    by (Some (Node i)) e rest = rest

told_past : (nodes : List SyntaxNode) (events : List Event) (n k token : ℕ) (r : Role) → AreTold nodes (past_of events n) → k < n → At events token k r → IsTold nodes token r
told_past nodes events zero k token r h less e = absurd (omega (arith, less))
told_past nodes events (suc n) k token r h less e = elim (cases_lt k n) [
  | inl more ↦ told_past nodes events n k token r (before (slice_get events n) h) more e
  | inr le ↦ (let same : k ≡ n = omega (arith, less, le) in (subst (λ o. AreTold nodes (with_event o (past_of events n))) (ap (slice_get events) (sym same) ∙ e) h).0)
]
  where
    before : (o : Option Event) → AreTold nodes (with_event o (past_of events n)) → AreTold nodes (past_of events n)
    before None h = h
    before (Some (Name t s)) h = h.1
    before (Some Opens) h = h
    before (Some Closes) h = h
    before (Some (Member t j)) h = h
    before (Some (Node i)) h = h

module _ (file : List ℕ) (t : Typed) (it : IsUnitOfFile file t) where
  open it use {made_by}
  open has_unit file t it use {unit, nodes_are, order}

  abbrev events : List Event
  events = unit_events it.unit

  abbrev whole : List Event
  whole = past_of events (length events)

  pub is_told : (token k : ℕ) (r : Role) → At events token k r → IsTold t.nodes token r
  is_told token k r e =
      told_past t.nodes events (length events) k token r (subst (λ ns. AreTold ns whole) nodes_are (all_told it.unit.tokens.list.items it.unit.nodes it.unit.items)) (slice_get_within events k (Name token r) e) e

  pub telling : (token k : ℕ) (r : Role) → At events token k r → Telling t.nodes token r
  telling token k r e = subst (λ ns. Telling ns token r) nodes_are (told_at (Telling it.unit.nodes) events k token r (all_telling it.unit.tokens.list.items it.unit.nodes it.unit.items) e)

  -- ---- a token that a declaration or a definition declares

  module _ (token i q : ℕ) (m : SyntaxNode) (d : IsDeclarer t.nodes token i q m) where
    own : HasOwn t unit order token
    own = own_there t unit order token q d.name

    few : token < length it.unit.tokens.list.items
    few =
        let w = unit.within own.own own.node own.at in
        let low = w.0 in
        let high = w.1 in
        let first = own.first in
        let tokens : length t.tokens ≡ length it.unit.tokens.list.items = ap length made_by.elaborated.tokens_are in
        omega (arith, low, high, first, tokens)

    no_tags : (x : ℕ) (n : SyntaxNode) → slice_get t.nodes x ≡ Some n → is_tagged n.kind ≡ true → n.first + 1 ≡ token → ⊥
    no_tags x n at is e = no_tag t unit order own.own x own.node n own.at own.is at is (e ∙ sym own.first)

    -- no parameter has its name
    pub no_parameter : tellings.IsDeclarer t.nodes token tellings.is_parameter → ⊥
    no_parameter p = elim p.declares [
      | inl e ↦ elim d.declares [
        | inl f ↦ apart (one_parent t unit q i p.node (subst (λ y. IsPartOf t unit y i) f (part_of t unit order token i q m d)) (subst (λ y. IsPartOf t unit y p.node) (e ∙ same) part_p))
        | inr f ↦
            (let x = one_parent t unit q d.part p.node (in_init t unit order token i q m d f.0 f.1) (subst (λ y. IsPartOf t unit y p.node) (e ∙ same) part_p) in
            let k : Some kind.InitDeclarator ≡ Some p.own.kind = sym f.0 ∙ ap (scripts.kind_at t.nodes) x ∙ ap scripts.kind_if p.at in
            let never : kind.InitDeclarator ≡ kind.Parameter = same_Some kind.InitDeclarator p.own.kind k ∙ own_kind in
            cc never)
      ]
      | inr e ↦ elim d.declares [
        | inl f ↦
            (let x = one_parent t unit q i p.part (subst (λ y. IsPartOf t unit y i) f (part_of t unit order token i q m d)) (subst (λ y. IsPartOf t unit y p.part) same (in_first_p e.0 e.1)) in
            let k : Some m.kind ≡ Some kind.InitDeclarator = ap scripts.kind_if (sym d.at) ∙ ap (scripts.kind_at t.nodes) x ∙ e.0 in
            let is : m.kind ≡ kind.InitDeclarator = same_Some m.kind kind.InitDeclarator k in
            false≢true (ap is_external (sym is) ∙ d.external))
        | inr f ↦
            (let x = one_parent t unit q d.part p.part (in_init t unit order token i q m d f.0 f.1) (subst (λ y. IsPartOf t unit y p.part) same (in_first_p e.0 e.1)) in
            apart (one_parent t unit d.part i p.node (part_of t unit order token i q m d) (subst (λ y. IsPartOf t unit y p.node) (sym x) part_p)))
      ]
    ]
      where
        own_kind : p.own.kind ≡ kind.Parameter
        own_kind = parameter_only p.own.kind p.is

        part_p : IsPartOf t unit p.part p.node
        part_p = record { parent = p.own; at = p.at; place = suc p.place; is = p.has }

        in_first_p : scripts.kind_at t.nodes p.part ≡ Some kind.InitDeclarator → slice_get (scripts.parts_at t.nodes p.part) 0 ≡ Some p.declarator → IsPartOf t unit p.declarator p.part
        in_first_p e f = let n = node_of t unit order p.part kind.InitDeclarator e in record { parent = n.0; at = n.1.0; place = 0; is = sym (ap (λ o. slice_get (scripts.parts_if o) 0) n.1.0) ∙ f }

        apart : i ≡ p.node → ⊥
        apart e =
            let one : m ≡ p.own = same_Some m p.own (sym d.at ∙ ap (slice_get t.nodes) e ∙ p.at) in
            let is : m.kind ≡ kind.Parameter = ap (λ (y : SyntaxNode). y.kind) one ∙ own_kind in
            false≢true (ap is_external (sym is) ∙ d.external)

        -- its declarator is in no other one
        alone_p : (b : ℕ) → IsInside t unit p.declarator b → ⊥
        alone_p b inner = elim p.declares [
          | inl e ↦
              (let x = one_parent t unit p.declarator p.node b (subst (λ y. IsPartOf t unit y p.node) e part_p) (as_part t unit p.declarator b inner) in
              let one : p.own ≡ inner.outer = same_Some p.own inner.outer (sym p.at ∙ ap (slice_get t.nodes) x ∙ inner.at) in
              false≢true (ap (is_deriving t unit) (sym own_kind ∙ ap (λ (y : SyntaxNode). y.kind) one) ∙ inner.derives))
          | inr e ↦
              (let x = one_parent t unit p.declarator p.part b (in_first_p e.0 e.1) (as_part t unit p.declarator b inner) in
              let k : Some kind.InitDeclarator ≡ Some inner.outer.kind = sym e.0 ∙ ap (scripts.kind_at t.nodes) x ∙ ap scripts.kind_if inner.at in
              false≢true (ap (is_deriving t unit) (same_Some kind.InitDeclarator inner.outer.kind k) ∙ inner.derives))
        ]

        same : p.declarator ≡ q
        same =
            let first = own.first in
            let mine = d.name ∙ ap Some (sym first) in
            let its = p.names ∙ ap Some (sym first) in
            elim (cases_lt q p.declarator) [
              | inl less ↦ sym (whole_is t unit order own.own own.node own.at own.is q p.declarator mine its (omega (arith, less)) (alone t unit order token i q m d))
              | inr le ↦ whole_is t unit order own.own own.node own.at own.is p.declarator q its mine le alone_p
            ]

    pub no_enumerator : tellings.IsBearer t.nodes token tellings.is_enumerator → ⊥
    no_enumerator e =
        let is = enumerator_only e.own.kind e.is in
        let first = e.first in
        let w = (unit.within e.node e.own e.at).0 in
        let one : own.own ≡ e.node = named_once t unit order own.own e.node own.node e.own token own.at own.is own.first e.at (ap is_named is) (omega (arith, first)) (omega (arith, first)) (omega (arith, first, w)) in
        let node : own.node ≡ e.own = same_Some own.node e.own (sym own.at ∙ ap (slice_get t.nodes) one ∙ e.at) in
        let never : kind.NameDeclarator ≡ kind.Enumerator = sym own.is ∙ ap (λ (y : SyntaxNode). y.kind) node ∙ is in
        cc never

    no_uses : tellings.IsBearer t.nodes token tellings.is_use → ⊥
    no_uses e = no_use t unit order own.own e.node own.node e.own own.at own.is e.at e.is (e.first ∙ sym own.first)

    -- so each event tells it as a value, a type or a tag
    unlike : (r : Role) → is_value r ≡ false → is_typedef r ≡ false → is_tag r ≡ false → Telling t.nodes token r → ⊥
    unlike r v y z (by_declaration x e) = elim (value_or_type (storage_of t.nodes x.own.parts) (declarator_of t.nodes x.declarator).next) [
      | inl value ↦ false≢true (sym v ∙ ap is_value e ∙ value)
      | inr type ↦ false≢true (sym y ∙ ap is_typedef e ∙ type)
    ]
    unlike r v y z (by_parameter x e) = no_parameter x
    unlike r v y z (by_enumerator x e) = no_enumerator x
    unlike r v y z (by_tag x e) = false≢true (sym z ∙ tag_same r e)
    unlike r v y z (by_use x e) = no_uses x

    abbrev role_of : Role
    role_of = role_by (storage_of t.nodes m.parts) (declarator_of t.nodes q).next

    -- which is what its declaration tells
    pub each : (k : ℕ) (r : Role) → At events token k r → role_of ≡ r
    each k r e = by (is_told token k r e)
      where
        by : IsTold t.nodes token r → role_of ≡ r
        by (declared j s n x is) = one_role t unit order token i q j s m n d x ∙ is
        by (tagged j n at is f tags) = absurd (no_tags j n at is f)
        by (otherwise v y z) = absurd (unlike r v y z (telling token k r e))

  -- ---- the unit's events

  -- what is told as a value is one of its tokens, and is told as nothing else
  pub values : AreValues (length it.unit.tokens.list.items) whole
  values token = by (decide events token (length events))
    where
      of_told : (k : ℕ) (r : Role) → is_value r ≡ true → IsTold t.nodes token r → At events token k r → (token < length it.unit.tokens.list.items) × Never is_other token whole
      of_told k r v (declared i q m d is) e =
          (few token i q m d, never_past is_other events token (λ j s f. value_plain s (ap is_value (sym (each token i q m d j s f)) ∙ ap is_value is ∙ v)) (length events))
      of_told k r v (tagged i m at is f tags) e = absurd (false≢true (sym (tag_no_value r tags) ∙ v))
      of_told k r v (otherwise x y z) e = absurd (false≢true (sym x ∙ v))

      by : Never is_value token whole ⊎ IsValueAt events token → Never is_value token whole ⊎ ((token < length it.unit.tokens.list.items) × Never is_other token whole)
      by (inl never) = inl never
      by (inr x) = inr (of_told x.place x.own x.value (is_told token x.place x.own x.at) x.at)

  -- ---- definitions

  is_function : (token i q k : ℕ) (m : SyntaxNode) → IsDeclarer t.nodes token i q m → m.kind ≡ kind.FunctionDefinition → slice_get t.items k ≡ Some i → IsFunction token whole
  is_function token i q k m d is e = record {
    named =
        told it.unit.tokens.list.items it.unit.nodes it.unit.items k i q token m (ap (λ is. slice_get is k) (sym made_by.elaborated.items_are) ∙ e) (subst (λ ns. IsDeclarer ns token i q m) (sym nodes_are) d) is;
    each = never_past is_no_function events token (λ j r f. ap is_no_function (sym (each token i q m d j r f) ∙ own_role)) (length events);
  }
    where
      value : is_value (role_by (storage_of t.nodes m.parts) (declarator_of t.nodes q).next) ≡ true
      value =
          let o = owned file t it token i q m d in
          value_is (storage_of t.nodes m.parts) (declarator_of t.nodes q).next
          (function_plain file t it i m d.at d.external q o.node o.at o.names o.declaration (definition_declares file t it token i q m d is))

      own_role : role_by (storage_of t.nodes m.parts) (declarator_of t.nodes q).next ≡ role.Function
      own_role =
          let next = function_next file t it token i q m d is in
          function_role (storage_of t.nodes m.parts) (declarator_of t.nodes q).next next.0 next.1 value

  once : (one other i q j r k l : ℕ) (m n : SyntaxNode) → IsDeclarer t.nodes one i q m → IsDeclarer t.nodes other j r n → m.kind ≡ kind.FunctionDefinition → n.kind ≡ kind.FunctionDefinition
      → slice_get t.items k ≡ Some i → slice_get t.items l ≡ Some j → spelling_of file it.unit.tokens.list.items one ≡ spelling_of file it.unit.tokens.list.items other → i ≡ j
  once one other i q j r k l m n d e is has f g same =
      let low = few one i q m d in
      let less = few other j r n e in
      let named = alike file it.unit.tokens.list.items one other low less same in
      let entity = share (name_of file it.unit.tokens.list.items) events (length it.unit.tokens.list.items) it.names one other it.known values low less (is_function one i q k m d is f) (is_function other j r l n e has g) named in
      let tokens : one ≡ other = one_body file t it one other entity.0 i q j r m n d e entity.1.0 entity.1.1 is has in
      one_declaration t unit order other i q j r m n (subst (λ x. IsDeclarer t.nodes x i q m) tokens d) e

pub defined_once : Laws.NamesAreDefinedOnce
defined_once file t it one other i q j r k l m n d e is has f g same = once file t it one other i q j r k l m n d e is has f g same
