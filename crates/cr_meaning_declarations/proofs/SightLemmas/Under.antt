-- What stands under a node, by the node above.
use Rattle.std.proofs.Common.{◌≡◌, ℕ, zero, suc, ◌+◌, ◌<◌, ◌≤◌, ◌==◌, Bool, true, false, ◌||◌, Option, None, Some, length, slice_get, refl, sym, ap, subst, ◌∙◌, arith}
use Rattle.std.proofs.lemmas.Bool.{false≢true, or_left, or_right, eqb-true, eq-eqb}
use Rattle.std.proofs.lemmas.Option.{slice_get_within}
use Rattle.cr_check_enclosing.specs.Above.{above_of}
use Rattle.cr_typed.specs.declared.typed.Typed.{Typed}
use Rattle.cr_meaning_declarations.specs.Units.Owned.{AreOfUnit}
use Rattle.cr_meaning_declarations.proofs.NamesLemmas.Parents.{IsPartOf, part_below, no_item, above_is, above_some}
use Rattle.cr_meaning_declarations.specs.Sight.Under.{under_above, under_by, is_under}

module _ (t : Typed) (unit : AreOfUnit t) (holder : ℕ) where
  abbrev above : ℕ → Option ℕ
  above p = above_of t.nodes (length t.nodes) p

  above_low : (a i : ℕ) → above a ≡ Some i → (a < i) × (i < length t.nodes)
  above_low a i e = let h = above_some t unit (length t.nodes) a i e in (part_below t unit a i h, slice_get_within t.nodes i h.parent h.at)

  same_above : (f g : ℕ → Bool) (o : Option ℕ) → ((i : ℕ) → o ≡ Some i → f i ≡ g i) → under_above holder f o ≡ under_above holder g o
  same_above f g None h = refl
  same_above f g (Some i) h = ap (λ b. (i == holder) || b) (h i refl)

  enough : (m n a : ℕ) → length t.nodes < m + a → length t.nodes < n + a → a ≤ length t.nodes → under_by m t holder a ≡ under_by n t holder a
  enough zero n a x y few = absurd (omega (arith, x, few))
  enough (suc m) zero a x y few = absurd (omega (arith, y, few))
  enough (suc m) (suc n) a x y few =
      same_above (under_by m t holder) (under_by n t holder) (above a)
      (λ i e. let low = above_low a i e in enough m n i (omega (arith, x, low.0)) (omega (arith, y, low.0)) (omega (arith, low.1)))

  abbrev all : ℕ
  all = length t.nodes

  under_is : (a : ℕ) → is_under t holder a ≡ under_above holder (is_under t holder) (above a)
  under_is a =
      same_above (under_by all t holder) (is_under t holder) (above a)
      (λ i e. let low = above_low a i e in enough all (suc all) i (omega (arith, low.0)) (omega (arith, low.0)) (omega (arith, low.1)))

  pub under_at : (a i : ℕ) → IsPartOf t unit a i → is_under t holder a ≡ ((i == holder) || is_under t holder i)
  under_at a i h = under_is a ∙ ap (under_above holder (is_under t holder)) (above_is t unit a i h)

  pub directly : (a : ℕ) → IsPartOf t unit a holder → is_under t holder a ≡ true
  directly a h = under_at a holder h ∙ or_left (holder == holder) (is_under t holder holder) (eq-eqb holder holder refl)

  pub deeper : (a i : ℕ) → IsPartOf t unit a i → is_under t holder i ≡ true → is_under t holder a ≡ true
  deeper a i h u = under_at a i h ∙ or_right (i == holder) (is_under t holder i) u

  -- a part of another node stands there where the node does
  pub alike : (a i : ℕ) → IsPartOf t unit a i → (i ≡ holder → ⊥) → is_under t holder a ≡ is_under t holder i
  alike a i h other = under_at a i h ∙ by (i == holder) refl
    where
      by : (b : Bool) → (i == holder) ≡ b → ((i == holder) || is_under t holder i) ≡ is_under t holder i
      by true q = absurd (other (eqb-true i holder q))
      by false q = ap (λ b. b || is_under t holder i) q

  -- nothing is above an item
  pub outermost_outside : (a : ℕ) → above a ≡ None → is_under t holder a ≡ false
  outermost_outside a q = under_is a ∙ ap (under_above holder (is_under t holder)) q

  pub item_outside : (k p : ℕ) → slice_get t.items k ≡ Some p → is_under t holder p ≡ false
  item_outside k p e = under_is p ∙ by (above p) refl
    where
      by : (o : Option ℕ) → above p ≡ o → under_above holder (is_under t holder) (above p) ≡ false
      by None q = ap (under_above holder (is_under t holder)) q
      by (Some a) q = absurd (no_item t unit p a k (above_some t unit (length t.nodes) p a q) e)

  -- and it stands before the node
  below_by : (m a : ℕ) → under_by m t holder a ≡ true → a < holder
  below_by zero a e = absurd (false≢true e)
  below_by (suc m) a e = by (above a) refl e (λ i f. below_by m i f)
    where
      at : (i : ℕ) → a < i → (b : Bool) → (i == holder) ≡ b → (b || under_by m t holder i) ≡ true → ((j : ℕ) → under_by m t holder j ≡ true → j < holder) → a < holder
      at i low true p f rest = let same = eqb-true i holder p in omega (arith, low, same)
      at i low false p f rest = let more = rest i f in omega (arith, low, more)

      by : (o : Option ℕ) → above a ≡ o → under_above holder (under_by m t holder) o ≡ true → ((j : ℕ) → under_by m t holder j ≡ true → j < holder) → a < holder
      by None q f rest = absurd (false≢true f)
      by (Some i) q f rest = at i (above_low a i q).0 (i == holder) refl f rest

  pub not_above : (a : ℕ) → holder ≤ a → is_under t holder a ≡ false
  not_above a le = by (is_under t holder a) refl
    where
      by : (b : Bool) → is_under t holder a ≡ b → b ≡ false
      by false q = refl
      by true q = let low = below_by (suc (length t.nodes)) a q in absurd (omega (arith, low, le))

module _ (t : Typed) (unit : AreOfUnit t) where
  further_by : (m i x a : ℕ) → length t.nodes ≤ m + i → is_under t x i ≡ true → IsPartOf t unit x a → is_under t a i ≡ true
  further_by zero i x a high inner h =
      let low = part_below t unit x a h in
      let few = slice_get_within t.nodes a h.parent h.at in
      absurd (false≢true (sym (not_above t unit x i (omega (arith, high, low, few))) ∙ inner))
  further_by (suc m) i x a high inner h = by (above_of t.nodes (length t.nodes) i) refl (λ b low g. further_by m b x a (omega (arith, high, low)) g h)
    where
      at : (b : ℕ) → IsPartOf t unit i b → (c : Bool) → (b == x) ≡ c → (c || is_under t x b) ≡ true → ((d : ℕ) → i < d → is_under t x d ≡ true → is_under t a d ≡ true) → is_under t a i ≡ true
      at b g true q f rest = deeper t unit a i b g (directly t unit a b (subst (λ y. IsPartOf t unit y a) (sym (eqb-true b x q)) h))
      at b g false q f rest = deeper t unit a i b g (rest b (part_below t unit i b g) f)

      by : (o : Option ℕ) → above_of t.nodes (length t.nodes) i ≡ o → ((d : ℕ) → i < d → is_under t x d ≡ true → is_under t a d ≡ true) → is_under t a i ≡ true
      by None q rest = absurd (false≢true (sym (outermost_outside t unit x i q) ∙ inner))
      by (Some b) q rest = let g = above_some t unit (length t.nodes) i b q in at b g (b == x) refl (sym (under_at t unit x i b g) ∙ inner) rest

  -- what stands under a node stands under the one above it
  pub further : (i x a : ℕ) → is_under t x i ≡ true → IsPartOf t unit x a → is_under t a i ≡ true
  further i x a inner h = further_by (length t.nodes) i x a (omega arith) inner h
