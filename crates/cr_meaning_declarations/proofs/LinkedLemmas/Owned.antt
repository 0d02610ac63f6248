-- A token is declared by one declarator of one declaration at the most (C11 6.7.6p4).
use Rattle.std.proofs.Common.{◌≡◌, ℕ, zero, suc, ◌<◌, Bool, true, false, List, [], ◌∷◌, Option, None, Some, length, nat_lt, slice_get, inl, inr, refl, sym, ap, subst, ◌∙◌, arith, if◌then◌else◌}
use Rattle.std.proofs.lemmas.Bool.{cases_lt, false≢true, ltb-true}
use Rattle.std.proofs.lemmas.Option.{same_Some}
use Rattle.cr_syntax.specs.declared.node.Kind.{Kind}
use Rattle.cr_syntax.specs.declared.node.Kind.TheVariants as kind
use Rattle.cr_syntax.specs.declared.node.Node.{Node}
use Rattle.cr_syntax_order.specs.Listed.{AreListed}
use Rattle.cr_scopes_events.specs.Values.{before}
use Rattle.cr_scopes_events.specs.Declarators.{nowhere, in_first, declared_by, declared_if, declarator_of}
use Rattle.cr_scopes_events.specs.Scripts as scripts
use Rattle.cr_scopes_events.specs.Scripts.{storage_of, role_by}
use Rattle.cr_scopes_events.proofs.Descents.{declarator_ruled}
use Rattle.cr_scopes_linkage.specs.Shared.Origins.{is_external, IsDeclarer}
use Rattle.cr_typed.specs.declared.typed.Typed.{Typed}
use Rattle.cr_meaning_declarations.specs.Units.Owned.{AreOfUnit}
use Rattle.cr_meaning_declarations.proofs.NamesLemmas.Parents.{is_deriving, IsPartOf, one_parent, IsInside, as_part, whole_is}
use Rattle.cr_meaning_declarations.proofs.DeclaredLemmas.Bodies.{node_of}

module _ (t : Typed) (unit : AreOfUnit t) (order : AreListed t.nodes 0 t.items (length t.nodes)) (token : ℕ) where
  -- ---- the identifier itself

  pub record HasOwn : Type 0 where
    pub own : ℕ
    pub node : Node
    pub at : slice_get t.nodes own ≡ Some node
    pub is : node.kind ≡ kind.NameDeclarator
    pub first : node.first ≡ token

  of_first : (a : ℕ) (ps : List ℕ) → (in_first (before nowhere a (declarator_of t.nodes)) ps).name ≡ Some token → ((b : ℕ) → b < a → (declarator_of t.nodes b).name ≡ Some token → HasOwn) → HasOwn
  of_first a [] e rest = absurd cc
  of_first a (b ∷ ps) e rest = by (nat_lt b a) refl e
    where
      by : (c : Bool) → nat_lt b a ≡ c → (if c then declarator_of t.nodes b else nowhere).name ≡ Some token → HasOwn
      by true q f = rest b (ltb-true b a q) f
      by false q f = absurd cc

  of_kind : (a : ℕ) (m : Node) → slice_get t.nodes a ≡ Some m → (k : Kind) → m.kind ≡ k → (declared_by k (before nowhere a (declarator_of t.nodes)) a m).name ≡ Some token
      → ((b : ℕ) → b < a → (declarator_of t.nodes b).name ≡ Some token → HasOwn) → HasOwn
  of_kind a m at kind.NameDeclarator is e rest = record { own = a; node = m; at = at; is = is; first = cc }
  of_kind a m at kind.GroupDeclarator is e rest = of_first a m.parts e rest
  of_kind a m at kind.PointerDeclarator is e rest = of_first a m.parts e rest
  of_kind a m at kind.ArrayDeclarator is e rest = of_first a m.parts e rest
  of_kind a m at kind.FunctionDeclarator is e rest = of_first a m.parts e rest
  of_kind a m at k is e rest = absurd cc

  of_node : (a : ℕ) (o : Option Node) → slice_get t.nodes a ≡ o → (declared_if o (before nowhere a (declarator_of t.nodes)) a).name ≡ Some token
      → ((b : ℕ) → b < a → (declarator_of t.nodes b).name ≡ Some token → HasOwn) → HasOwn
  of_node a None at e rest = absurd cc
  of_node a (Some m) at e rest = of_kind a m at m.kind refl e rest

  own_by : (fuel a : ℕ) → a < fuel → (declarator_of t.nodes a).name ≡ Some token → HasOwn
  own_by zero a low e = absurd (omega (arith, low))
  own_by (suc fuel) a low e =
      of_node a (slice_get t.nodes a) refl (subst (λ d. d.name ≡ Some token) (declarator_ruled t.nodes a) e) (λ b less f. own_by fuel b (omega (arith, low, less)) f)

  pub own_there : (q : ℕ) → (declarator_of t.nodes q).name ≡ Some token → HasOwn
  own_there q e = own_by (suc q) q (omega arith) e

  -- ---- its declaration

  kinds_differ : (k : Kind) → is_external k ≡ true → is_deriving t unit k ≡ true → ⊥
  kinds_differ kind.Declaration h g = false≢true g
  kinds_differ kind.FunctionDefinition h g = false≢true g
  kinds_differ k h g = false≢true h

  module _ (i q : ℕ) (m : Node) (d : IsDeclarer t.nodes token i q m) where
    pub part_of : IsPartOf t unit d.part i
    part_of = record { parent = m; at = d.at; place = suc d.place; is = d.is }

    pub in_init : scripts.kind_at t.nodes d.part ≡ Some kind.InitDeclarator → slice_get (scripts.parts_at t.nodes d.part) 0 ≡ Some q → IsPartOf t unit q d.part
    in_init e f =
        let n = node_of t unit order d.part kind.InitDeclarator e in
        record { parent = n.0; at = n.1.0; place = 0; is = sym (ap (λ o. slice_get (scripts.parts_if o) 0) n.1.0) ∙ f }

    -- its declarator is in no other one
    pub alone : (b : ℕ) → IsInside t unit q b → ⊥
    alone b inner = elim d.declares [
      | inl same ↦
          (let e : i ≡ b = one_parent t unit q i b (subst (λ y. IsPartOf t unit y i) same part_of) (as_part t unit q b inner) in
          let one : m ≡ inner.outer = same_Some m inner.outer (sym d.at ∙ ap (slice_get t.nodes) e ∙ inner.at) in
          kinds_differ inner.outer.kind (subst (λ (y : Node). is_external y.kind ≡ true) one d.external) inner.derives)
      | inr init ↦
          (let e : d.part ≡ b = one_parent t unit q d.part b (in_init init.0 init.1) (as_part t unit q b inner) in
          let y = node_of t unit order d.part kind.InitDeclarator init.0 in
          let one : y.0 ≡ inner.outer = same_Some y.0 inner.outer (sym y.1.0 ∙ ap (slice_get t.nodes) e ∙ inner.at) in
          false≢true (ap (is_deriving t unit) (sym y.1.1 ∙ ap (λ (z : Node). z.kind) one) ∙ inner.derives))
    ]

    -- a declaration is no initialised declarator
    no_init : (p : ℕ) → i ≡ p → scripts.kind_at t.nodes p ≡ Some kind.InitDeclarator → ⊥
    no_init p e f =
        let y = node_of t unit order p kind.InitDeclarator f in
        let one : m ≡ y.0 = same_Some m y.0 (sym d.at ∙ ap (slice_get t.nodes) e ∙ y.1.0) in
        false≢true (ap is_external (sym y.1.1 ∙ ap (λ (z : Node). z.kind) (sym one)) ∙ d.external)

  -- two declarations of the token are one
  one_declarator : (i q j r : ℕ) (m n : Node) → IsDeclarer t.nodes token i q m → IsDeclarer t.nodes token j r n → q ≡ r
  one_declarator i q j r m n d e =
      let x = own_there q d.name in
      let mine : (declarator_of t.nodes q).name ≡ Some x.node.first = d.name ∙ ap Some (sym x.first) in
      let its : (declarator_of t.nodes r).name ≡ Some x.node.first = e.name ∙ ap Some (sym x.first) in
      elim (cases_lt r q) [
        | inl less ↦ sym (whole_is t unit order x.own x.node x.at x.is r q its mine (omega (arith, less)) (alone j r n e))
        | inr le ↦ whole_is t unit order x.own x.node x.at x.is q r mine its le (alone i q m d)
      ]

  pub one_declaration : (i q j r : ℕ) (m n : Node) (d : IsDeclarer t.nodes token i q m) (e : IsDeclarer t.nodes token j r n) → i ≡ j
  one_declaration i q j r m n d e = elim d.declares [
    | inl own ↦ elim e.declares [
      | inl other ↦ one_parent t unit q i j (subst (λ y. IsPartOf t unit y i) own (part_of i q m d)) (subst (λ y. IsPartOf t unit y j) (other ∙ sym same) (part_of j r n e))
      | inr other ↦ absurd (no_init i q m d e.part
          (one_parent t unit q i e.part (subst (λ y. IsPartOf t unit y i) own (part_of i q m d)) (subst (λ y. IsPartOf t unit y e.part) (sym same) (in_init j r n e other.0 other.1))) other.0)
    ]
    | inr own ↦ elim e.declares [
      | inl other ↦ absurd (no_init j r n e d.part
          (one_parent t unit r j d.part (subst (λ y. IsPartOf t unit y j) other (part_of j r n e)) (subst (λ y. IsPartOf t unit y d.part) same (in_init i q m d own.0 own.1))) own.0)
      | inr other ↦
          (let parts : d.part ≡ e.part = one_parent t unit q d.part e.part (in_init i q m d own.0 own.1) (subst (λ y. IsPartOf t unit y e.part) (sym same) (in_init j r n e other.0 other.1)) in
          one_parent t unit e.part i j (subst (λ y. IsPartOf t unit y i) parts (part_of i q m d)) (part_of j r n e))
    ]
  ]
    where
      same : q ≡ r
      same = one_declarator i q j r m n d e

  -- so it is told as one thing
  pub one_role : (i q j r : ℕ) (m n : Node) → IsDeclarer t.nodes token i q m → IsDeclarer t.nodes token j r n
      → role_by (storage_of t.nodes m.parts) (declarator_of t.nodes q).next ≡ role_by (storage_of t.nodes n.parts) (declarator_of t.nodes r).next
  one_role i q j r m n d e =
      let place = one_declaration i q j r m n d e in
      let node : m ≡ n = same_Some m n (sym d.at ∙ ap (slice_get t.nodes) place ∙ e.at) in
      let declarators = one_declarator i q j r m n d e in
      ap (λ (x : Node). role_by (storage_of t.nodes x.parts) (declarator_of t.nodes q).next) node ∙ ap (λ x. role_by (storage_of t.nodes n.parts) (declarator_of t.nodes x).next) declarators
