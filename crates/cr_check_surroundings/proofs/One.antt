-- What is known of a unit with its names is determined by them.
use Rattle.std.proofs.Common.{◌≡◌, ℕ, zero, suc, ◌+◌, ◌<◌, ◌≤◌, Bool, true, false, if◌then◌else◌, nat_lt, List, Option, Some, None, length, slice_get, slice_index_or, refl, sym, ap, ◌∙◌, subst, inl, inr, arith}
use Rattle.std.proofs.lemmas.List.{ext_get_or, get_or_past}
use Rattle.std.proofs.lemmas.Bool.{cases_lt, ltb-true}
use Rattle.cr_syntax.specs.declared.node.Node.{Node}
use Rattle.cr_syntax.specs.declared.unit.Unit as tree
use Rattle.cr_check_enclosing.specs.declared.context.Around.{Around}
use Rattle.cr_check_enclosing.specs.Above.{above_of, AreAbove}
use Rattle.cr_check_enclosing.specs.Around.{below, inside_if, outermost, AreAround}
use Rattle.cr_scopes.specs.declared.names.Names.{Names}
use Rattle.cr_rows.specs.Columns.{AreOf}
use Rattle.cr_scopes_bindings.proofs.One.{one_bindings, one_of}
use Rattle.cr_check_surroundings.specs.declared.surroundings.Surroundings.{Surroundings}
use Rattle.cr_check_surroundings.specs.Named.{earlier_for, same_for, tag_of, visible_for}
use Rattle.cr_check_surroundings.specs.Surroundings.{AreSurroundings}

one_above : (nodes : List Node) (a b : List (Option ℕ)) → AreAbove nodes a → AreAbove nodes b → a ≡ b
one_above nodes a b h g =
    one_of (above_of nodes (length nodes)) None (length nodes) a b (record { count = h.count; each = h.each }) (record { count = g.count; each = g.each })

-- What a node has from above is that of a later node, so it is determined from the last one on.
module _ (nodes : List Node) (above : List (Option ℕ)) (a b : List Around) (h : AreAround nodes above a) (g : AreAround nodes above b) where
  abbrev IsOne : ℕ → Type 0
  IsOne part = slice_index_or a part outermost ≡ slice_index_or b part outermost

  by_place : (at part : ℕ) (lies : Bool) → nat_lt part at ≡ lies → (part < at → at < length nodes → IsOne at)
      → (if lies then inside_if (slice_get nodes at) at (slice_index_or a at outermost) else outermost)
      ≡ (if lies then inside_if (slice_get nodes at) at (slice_index_or b at outermost) else outermost)
  by_place at part false e later = refl
  by_place at part true e later = elim (cases_lt at (length nodes)) [
    | inl low ↦ ap (inside_if (slice_get nodes at) at) (later (ltb-true part at e) low)
    | inr past ↦ ap (inside_if (slice_get nodes at) at)
        (get_or_past a at outermost (let c = h.count in omega (arith, past, c)) ∙ sym (get_or_past b at outermost (let c = g.count in omega (arith, past, c))))
  ]

  by_above : (part : ℕ) (at : Option ℕ) → ((p : ℕ) → part < p → p < length nodes → IsOne p)
      → below nodes (λ p. slice_index_or a p outermost) part at ≡ below nodes (λ p. slice_index_or b p outermost) part at
  by_above part None later = refl
  by_above part (Some at) later = by_place at part (nat_lt part at) refl (later at)

  from_the_last : (m part : ℕ) → part < length nodes → length nodes ≤ part + m → IsOne part
  from_the_last zero part low far = absurd (omega (arith, low, far))
  from_the_last (suc m) part low far =
      h.each part low
      ∙ (by_above part (slice_index_or above part None) (λ p behind inside. from_the_last m p inside (omega (arith, far, behind)))
      ∙ sym (g.each part low))

  one_around : a ≡ b
  one_around =
      ext_get_or outermost a b (h.count ∙ sym g.count)
      (λ part low. let c = h.count in from_the_last (length nodes) part (omega (arith, low, c)) (omega arith))

pub one_surroundings : (file : List ℕ) (unit : tree.Unit) (names : Names) (s t : Surroundings) → AreSurroundings file unit names s
    → AreSurroundings file unit names t → s ≡ t
one_surroundings file unit names s t h g =
    let nodes = unit.nodes in
    let bound : s.bindings ≡ t.bindings = one_bindings file unit names s.bindings t.bindings h.bindings g.bindings in
    let over : s.above ≡ t.above = one_above nodes s.above t.above h.above g.above in
    λ i. record {
      bindings = bound i;
      above = over i;
      previous = one_of _ None (length nodes) s.previous t.previous h.previous g.previous i;
      around = one_around nodes s.above s.around t.around h.around (subst (λ a. AreAround nodes a t.around) (sym over) g.around) i;
      visible = one_of _ None (length nodes) s.visible t.visible h.visible
          (subst (λ a. AreOf (visible_for s.bindings nodes a) None (length nodes) t.visible) (sym over)
          (subst (λ b. AreOf (visible_for b nodes t.above) None (length nodes) t.visible) (sym bound) g.visible)) i;
      earlier = one_of _ None (length nodes) s.earlier t.earlier h.earlier
          (subst (λ a. AreOf (earlier_for s.bindings nodes a) None (length nodes) t.earlier) (sym over)
          (subst (λ b. AreOf (earlier_for b nodes t.above) None (length nodes) t.earlier) (sym bound) g.earlier)) i;
      same = one_of _ None (length nodes) s.same t.same h.same
          (subst (λ a. AreOf (same_for s.bindings nodes a) None (length nodes) t.same) (sym over)
          (subst (λ b. AreOf (same_for b nodes t.above) None (length nodes) t.same) (sym bound) g.same)) i;
      tags = one_of _ None (length nodes) s.tags t.tags h.tags
          (subst (λ b. AreOf (tag_of b names nodes unit.tokens.list.items) None (length nodes) t.tags) (sym bound) g.tags) i;
    }
