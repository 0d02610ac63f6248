-- No declaration stands in an initialised declarator, so the next declaration stands behind it (C11 6.7.6).
use Rattle.std.proofs.Common.{◌≡◌, ℕ, suc, ◌<◌, ◌≤◌, ◌==◌, Bool, true, false, ◌||◌, List, Some, length, slice_get, inl, inr, refl, sym, ap, subst, ◌∙◌, arith}
use Rattle.std.proofs.lemmas.Bool.{cases_lt, false≢true, eqb-true}
use Rattle.std.proofs.lemmas.Option.{same_Some}
use Rattle.cr_syntax.specs.declared.node.Kind.TheVariants as kind
use Rattle.cr_syntax.specs.declared.node.Node.{Node}
use Rattle.cr_syntax_order.specs.Listed.{AreListed, no_node, one_more}
use Rattle.cr_syntax_nodes.proofs.Order.{own_before}
use Rattle.cr_scopes_events.specs.Scripts as scripts
use Rattle.cr_scopes_linkage.specs.Shared.Origins.{IsDeclarer}
use Rattle.cr_typed.specs.declared.typed.Typed.{Typed}
use Rattle.cr_meaning_declarations.specs.Units.Owned.{AreOfUnit}
use Rattle.cr_meaning_declarations.proofs.NamesLemmas.Parents.{IsPartOf}
use Rattle.cr_meaning_declarations.specs.Sight.Under.{is_under}
use Rattle.cr_meaning_declarations.proofs.SightLemmas.Under.{under_at, directly, further}
use Rattle.cr_meaning_declarations.proofs.LinkedLemmas.Owned.{part_of, in_init}
use Rattle.cr_meaning_declarations.proofs.LinkedLemmas.Order.{stands_alone, forth, external_alone, climbs}

-- ---- statements, declarations and definitions

-- a list begins before its first part
before_first : {ns : List Node} {from end : ℕ} {ps : List ℕ} (q : ℕ) → AreListed ns from ps end → slice_get ps 0 ≡ Some q → from ≤ q
before_first q no_node e = absurd cc
before_first q (one_more {p = p} at below rest) e = let same : p ≡ q = cc in let x = forth below in omega (arith, x, same)

module _ (t : Typed) (unit : AreOfUnit t) (order : AreListed t.nodes 0 t.items (length t.nodes)) where
  -- ---- what is below a declarator

  -- all from its first number on stands under it
  under_all : {from end : ℕ} {ps : List ℕ} → AreListed t.nodes from ps end → (q : ℕ) → ((k p : ℕ) → slice_get ps k ≡ Some p → IsPartOf t unit p q) → (z : ℕ) → from ≤ z → z < end → is_under t q z ≡ true
  under_all no_node q parts z low high = absurd (omega (arith, low, high))
  under_all (one_more {p = p} {n = n} at below rest) q parts z low high = elim (cases_lt z p) [
    | inl less ↦ further t unit z p q (under_all below p (λ k x e. record { parent = n; at = at; place = k; is = e }) z low less) (parts 0 p refl)
    | inr ge ↦ elim (cases_lt p z) [
      | inl more ↦ under_all rest q (λ k x e. parts (suc k) x e) z (omega (arith, more)) high
      | inr le ↦ (let same : p ≡ z = omega (arith, ge, le) in subst (λ y. is_under t q y ≡ true) same (directly t unit q p (parts 0 p refl)))
    ]
  ]

  -- ---- what stands alone stands under nothing else

  -- ---- the next declaration

  module _ (b j q r s : ℕ) (n y : Node) (e : IsDeclarer t.nodes b j r n) (at : slice_get t.nodes s ≡ Some y) (is : y.kind ≡ kind.InitDeclarator) (first : slice_get y.parts 0 ≡ Some q) (rises : q < r) (apart : r ≡ s → ⊥) where
    plain : stands_alone y.kind ≡ false
    plain = ap stands_alone is

    not_under : is_under t s r ≡ true → ⊥
    not_under under = elim e.declares [
      | inl same ↦
          (let part = subst (λ z. IsPartOf t unit z j) same (part_of t unit order b j r n e) in
          from_declaration (j == s) refl (sym (under_at t unit s r j part) ∙ under))
      | inr init ↦
          (let part = in_init t unit order b j r n e init.0 init.1 in
          from_initial init.0 init.1 (e.part == s) refl (sym (under_at t unit s r e.part part) ∙ under))
    ]
      where
        from_declaration : (c : Bool) → (j == s) ≡ c → (c || is_under t s j) ≡ true → ⊥
        from_declaration true f g =
            let same : n ≡ y = same_Some n y (sym e.at ∙ ap (slice_get t.nodes) (eqb-true j s f) ∙ at) in
            false≢true (sym plain ∙ ap (λ (z : Node). stands_alone z.kind) (sym same) ∙ external_alone n.kind e.external)
        from_declaration false f g = climbs t unit order (suc (length t.nodes)) j s n y (omega arith) e.at (external_alone n.kind e.external) at plain g

        from_initial : scripts.kind_at t.nodes e.part ≡ Some kind.InitDeclarator → slice_get (scripts.parts_at t.nodes e.part) 0 ≡ Some r → (c : Bool) → (e.part == s) ≡ c → (c || is_under t s e.part) ≡ true → ⊥
        from_initial init second true f g =
            let parts : slice_get y.parts 0 ≡ Some r =
            ap (λ o. slice_get (scripts.parts_if o) 0) (sym at) ∙ ap (λ z. slice_get (scripts.parts_at t.nodes z) 0) (sym (eqb-true e.part s f)) ∙ second in
            let same : q ≡ r = same_Some q r (sym first ∙ parts) in
            absurd (omega (arith, same, rises))
        from_initial init second false f g = from_declaration (j == s) refl (sym (under_at t unit s e.part j (part_of t unit order b j r n e)) ∙ g)

    pub stands_behind : s < r
    stands_behind = elim (cases_lt s r) [
      | inl low ↦ low
      | inr ge ↦ elim (cases_lt r s) [
        | inl below ↦
            (let mine = own_before t.nodes t.items order s y at in
            let start = before_first q mine.1 first in
            absurd (not_under (under_all mine.1 s (λ k p f. record { parent = y; at = at; place = k; is = f }) r (omega (arith, start, rises)) below)))
        | inr le ↦ absurd (apart (omega (arith, ge, le)))
      ]
    ]
