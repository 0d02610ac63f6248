-- A name that stands among no definition's parameters is told once: one part at the most of each node leads to it.
use Rattle.std.proofs.Common.{◌≡◌, ℕ, zero, suc, ◌+◌, ◌<◌, ◌≤◌, ◌==◌, ◌⊎◌, inl, inr, Bool, true, false, ◌||◌, List, [], ◌∷◌, Option, None, Some, length, drop, slice_get, refl, sym, ap, subst, ◌∙◌, arith, if◌then◌else◌}
use Rattle.std.proofs.lemmas.Bool.{false≢true, or_left, or_right, eqb-true, eq-eqb, ne_eqb}
use Rattle.std.proofs.lemmas.Option.{slice_get_within}
use Rattle.cr_syntax.specs.declared.node.Kind.TheVariants as kind
use Rattle.cr_syntax.specs.declared.node.Node.{Node}
use Rattle.cr_syntax_order.specs.Listed.{AreListed, no_node, one_more}
use Rattle.cr_syntax_nodes.proofs.Order.{own_before}
use Rattle.cr_scopes_events.specs.declared.declarator.Derivation.{Derivation}
use Rattle.cr_scopes_events.specs.declared.declarator.Derivation.TheVariants as derivation
use Rattle.cr_scopes_events.specs.Declarators.{declarator_of}
use Rattle.cr_scopes_events.specs.Scripts as scripts
use Rattle.cr_scopes_events.specs.Events.{events_of}
use Rattle.cr_scopes.specs.Units.{unit_events}
use Rattle.cr_scopes_bindings.specs.Nodes.{named_by, named_if}
use Rattle.cr_scopes_visibility.specs.Sight.Scopes.{is_using}
use Rattle.cr_scopes_visibility.specs.Told.Told.{AreApart}
use Rattle.cr_scopes_visibility.specs.Once.Told.{count_of, weight_of, AreWeights}
use Rattle.cr_scopes_visibility.proofs.OnceLemmas.Counting.{told_once}
use Rattle.cr_scopes_visibility.proofs.SightLemmas.Reaching.{reaches}
use Rattle.cr_check_enclosing.specs.Above.{above_of}
use Rattle.cr_typed.specs.declared.typed.Typed.{Typed}
use Rattle.cr_meaning_declarations.proofs.NamesLemmas.Leaves.{no_use}
use Rattle.cr_meaning_declarations.proofs.NamesLemmas.Parents.{IsPartOf, part_below, no_item, above_some}
use Rattle.cr_meaning_declarations.specs.Declared.Files.{IsUnitOfFile}
use Rattle.cr_meaning_declarations.specs.Sight.Under.{is_under}
use Rattle.cr_meaning_declarations.proofs.SightLemmas.Under.{under_at, directly, further, not_above, outermost_outside}
use Rattle.cr_meaning_declarations.proofs.DeclaredLemmas.Files.{has_unit}
use Rattle.cr_meaning_declarations.proofs.LinkedLemmas.Order.{forth}
use Rattle.cr_meaning_declarations.proofs.SightLemmas.Names.{using_used as used_same}
use Rattle.cr_meaning_references.proofs.ToldLemmas.Orderly.{apart}
use Rattle.cr_meaning_references.specs.Constant.Outside.{leads, IsOutside}
use Rattle.cr_meaning_references.specs.Constant.Laws

-- ---- numbers that rise along a list

pub risen : {ns : List Node} {from end : ℕ} {ps : List ℕ} → AreListed ns from ps end → (k q : ℕ) → slice_get ps k ≡ Some q → from ≤ q
risen no_node k q e = absurd cc
risen (one_more {p = p} at below rest) zero q e = let same : p ≡ q = cc in let x = forth below in omega (arith, x, same)
risen (one_more {p = p} at below rest) (suc k) q e = let x = forth below in let y = risen rest k q e in omega (arith, x, y)

behind : (ps : List ℕ) (k x : ℕ) → slice_get (drop 1 ps) k ≡ Some x → slice_get ps (suc k) ≡ Some x
behind [] k x e = absurd cc
behind (p ∷ ps) k x e = e

other : (b c : Bool) → (b || c) ≡ true → (b ≡ true) ⊎ (c ≡ true)
other true c h = inl refl
other false c h = inr h

module _ (file : List ℕ) (t : Typed) (it : IsUnitOfFile file t) (i : ℕ) (n : Node) (at : slice_get t.nodes i ≡ Some n) (using : is_using n.kind ≡ true) (outside : IsOutside t i) where
  open it use {made_by}
  open has_unit file t it use {unit, nodes_are, order}

  are_apart : AreApart t.nodes
  are_apart = apart t unit order

  -- ---- one branch leads to the name

  abbrev to : ℕ → Bool
  to x = leads t i x

  -- of two nodes neither of which stands under the other
  branch : (a b : ℕ) → is_under t a b ≡ false → is_under t b a ≡ false → (m y : ℕ) → length t.nodes ≤ m + y → ((y == a) || is_under t a y) ≡ true → ((y == b) || is_under t b y) ≡ true → a ≡ b
  branch a b x z zero y high h g = ends (other (y == a) (is_under t a y) h) (other (y == b) (is_under t b y) g)
    where
      ends : ((y == a) ≡ true) ⊎ (is_under t a y ≡ true) → ((y == b) ≡ true) ⊎ (is_under t b y ≡ true) → a ≡ b
      ends (inl e) (inl f) = sym (eqb-true y a e) ∙ eqb-true y b f
      ends (inl e) (inr f) = absurd (false≢true (sym (ap (is_under t b) (eqb-true y a e) ∙ z) ∙ f))
      ends (inr e) (inl f) = absurd (false≢true (sym (ap (is_under t a) (eqb-true y b f) ∙ x) ∙ e))
      ends (inr e) (inr f) = up (above_of t.nodes (length t.nodes) y) refl
        where
          up : (o : Option ℕ) → above_of t.nodes (length t.nodes) y ≡ o → a ≡ b
          up None q = absurd (false≢true (sym (outermost_outside t unit a y q) ∙ e))
          up (Some c) q = let p = above_some t unit (length t.nodes) y c q in let low = part_below t unit y c p in let few = slice_get_within t.nodes c p.parent p.at in absurd (omega (arith, high, low, few))
  branch a b x z (suc m) y high h g = ends (other (y == a) (is_under t a y) h) (other (y == b) (is_under t b y) g) (λ c low k l. branch a b x z m c (omega (arith, high, low)) k l)
    where
      ends : ((y == a) ≡ true) ⊎ (is_under t a y ≡ true) → ((y == b) ≡ true) ⊎ (is_under t b y ≡ true)
          → ((c : ℕ) → y < c → ((c == a) || is_under t a c) ≡ true → ((c == b) || is_under t b c) ≡ true → a ≡ b) → a ≡ b
      ends (inl e) (inl f) rest = sym (eqb-true y a e) ∙ eqb-true y b f
      ends (inl e) (inr f) rest = absurd (false≢true (sym (ap (is_under t b) (eqb-true y a e) ∙ z) ∙ f))
      ends (inr e) (inl f) rest = absurd (false≢true (sym (ap (is_under t a) (eqb-true y b f) ∙ x) ∙ e))
      ends (inr e) (inr f) rest = up (above_of t.nodes (length t.nodes) y) refl
        where
          up : (o : Option ℕ) → above_of t.nodes (length t.nodes) y ≡ o → a ≡ b
          up None q = absurd (false≢true (sym (outermost_outside t unit a y q) ∙ e))
          up (Some c) q = let p = above_some t unit (length t.nodes) y c q in rest c (part_below t unit y c p) (sym (under_at t unit a y c p) ∙ e) (sym (under_at t unit b y c p) ∙ f)

  turned : (x : ℕ) → to x ≡ true → ((i == x) || is_under t x i) ≡ true
  turned x h = elim (other (x == i) (is_under t x i) h) [
    | inl e ↦ or_left (i == x) (is_under t x i) (eq-eqb i x (sym (eqb-true x i e)))
    | inr f ↦ or_right (i == x) (is_under t x i) f
  ]

  one_branch : (a b : ℕ) → is_under t a b ≡ false → is_under t b a ≡ false → to a ≡ true → to b ≡ true → a ≡ b
  one_branch a b x z h g = branch a b x z (length t.nodes) i (omega arith) (turned a h) (turned b g)

  beside : (a b c : ℕ) → IsPartOf t unit a c → IsPartOf t unit b c → is_under t a b ≡ false
  beside a b c h g =
      let low = part_below t unit a c h in
      under_at t unit a b c g ∙ ap (λ x. x || is_under t a c) (ne_eqb c a (λ e. absurd (omega (arith, low, e)))) ∙ not_above t unit a c (omega (arith, low))

  -- ---- weights

  abbrev weight : ℕ → ℕ
  weight x = if to x then 1 else 0

  none : (ps : List ℕ) → ((k y : ℕ) → slice_get ps k ≡ Some y → to y ≡ false) → weight_of weight ps ≡ 0
  none [] h = refl
  none (p ∷ ps) h =
      let own : weight p ≡ 0 = ap (λ b. if b then 1 else 0) (h 0 p refl) in
      let rest = none ps (λ k y e. h (suc k) y e) in
      omega (arith, own, rest)

  abbrev AreOne : List ℕ → Type 0
  AreOne ps = (j k x y : ℕ) → slice_get ps j ≡ Some x → slice_get ps k ≡ Some y → to x ≡ true → to y ≡ true → x ≡ y

  lone : (ps : List ℕ) (from end : ℕ) → AreListed t.nodes from ps end → AreOne ps → weight_of weight ps ≤ 1
  lone [] from end no_node h = omega arith
  lone (p ∷ ps) from end (one_more there below rest) h = by (to p) refl (lone ps (p + 1) end rest (λ j k x y e f. h (suc j) (suc k) x y e f))
    where
      no_more : to p ≡ true → (k y : ℕ) → slice_get ps k ≡ Some y → (b : Bool) → to y ≡ b → b ≡ false
      no_more q k y e false f = refl
      no_more q k y e true f = let same = h 0 (suc k) p y refl e q f in let low = risen rest k y e in absurd (omega (arith, same, low))

      by : (b : Bool) → to p ≡ b → weight_of weight ps ≤ 1 → weight p + weight_of weight ps ≤ 1
      by true q few =
          let own : weight p ≡ 1 = ap (λ b. if b then 1 else 0) q in
          let zero_is = none ps (λ k y e. no_more q k y e (to y) refl) in
          omega (arith, own, zero_is)
      by false q few = let own : weight p ≡ 0 = ap (λ b. if b then 1 else 0) q in omega (arith, own, few)

  part_of : (a k x : ℕ) (m : Node) → slice_get t.nodes a ≡ Some m → slice_get m.parts k ≡ Some x → IsPartOf t unit x a
  part_of a k x m there e = record { parent = m; at = there; place = k; is = e }

  -- what a part leads to, its node leads to
  upward : (a x : ℕ) → IsPartOf t unit x a → to x ≡ true → is_under t a i ≡ true
  upward a x p h = elim (other (x == i) (is_under t x i) h) [
    | inl e ↦ subst (λ y. is_under t a y ≡ true) (eqb-true x i e) (directly t unit a x p)
    | inr f ↦ further t unit i x a f p
  ]

  parts_lone : (a : ℕ) (m : Node) → slice_get t.nodes a ≡ Some m → weight_of weight m.parts ≤ 1
  parts_lone a m there =
      let own = own_before t.nodes t.items order a m there in
      lone m.parts own.0 a own.1 (λ j k x y e f h g. one_branch x y (beside x y a (part_of a j x m there e) (part_of a k y m there f)) (beside y x a (part_of a k y m there f) (part_of a j x m there e)) h g)

  parts_led : (a : ℕ) (m : Node) → slice_get t.nodes a ≡ Some m → is_under t a i ≡ false → weight_of weight m.parts ≡ 0
  parts_led a m there out = none m.parts (λ k y e. by k y e (to y) refl)
    where
      by : (k y : ℕ) → slice_get m.parts k ≡ Some y → (b : Bool) → to y ≡ b → b ≡ false
      by k y e false q = refl
      by k y e true q = absurd (false≢true (sym out ∙ upward a y (part_of a k y m there e) q))

  parts_few : (a : ℕ) (m : Node) → slice_get t.nodes a ≡ Some m → weight_of weight m.parts ≤ weight a
  parts_few a m there = by (is_under t a i) refl
    where
      by : (b : Bool) → is_under t a i ≡ b → weight_of weight m.parts ≤ weight a
      by true q = let own : weight a ≡ 1 = ap (λ b. if b then 1 else 0) (or_right (a == i) (is_under t a i) q) in let few = parts_lone a m there in omega (arith, own, few)
      by false q = let few = parts_led a m there q in omega (arith, few)

  uses_few : (a : ℕ) (m : Node) → slice_get t.nodes a ≡ Some m → is_using m.kind ≡ true → m.first ≡ n.first → weight_of weight m.parts + 1 ≤ weight a
  uses_few a m there used first =
      let same : a ≡ i = are_apart.uses a i m n there at used using first in
      let zero_is = parts_led a m there (not_above t unit a i (omega (arith, same))) in
      let own : weight a ≡ 1 = ap (λ b. if b then 1 else 0) (or_left (a == i) (is_under t a i) (eq-eqb a i same)) in
      omega (arith, zero_is, own)

  -- nothing declares the token
  undeclared : (q : ℕ) → (declarator_of t.nodes q).name ≡ Some n.first → ⊥
  undeclared q e =
      let x = (reaches t.nodes (λ a. Unit {0}) (λ a b m there derives f g. tt) q tt).name n.first e in
      no_use t unit order x.0 i x.1.0 n x.1.1.0 x.1.1.1.0.0 at (used_same n.kind using) (sym x.1.1.1.0.1)

  no_enumerator : (a : ℕ) (m : Node) → slice_get t.nodes a ≡ Some m → m.kind ≡ kind.Enumerator → m.first ≡ n.first → ⊥
  no_enumerator a m there enumerates first =
      are_apart.declared a i n (ap (λ o. named_if o (declarator_of t.nodes a).name) there ∙ ap (λ k. named_by k m.first (declarator_of t.nodes a).name) enumerates ∙ ap Some first) at using

  lists_few : (d q : ℕ) (m : Node) → slice_get t.nodes d ≡ Some m → m.kind ≡ kind.FunctionDefinition → slice_get m.parts 1 ≡ Some q
      → weight_of weight (scripts.list_of t.nodes (declarator_of t.nodes q).next) ≡ 0
  lists_few d q m there defines e = by (declarator_of t.nodes q).next refl
    where
      by : (x : Derivation) → (declarator_of t.nodes q).next ≡ x → weight_of weight (scripts.list_of t.nodes x) ≡ 0
      by derivation.Nothing f = refl
      by derivation.Other f = refl
      by (derivation.Function l) f = none (drop 1 (scripts.parts_at t.nodes l)) (λ k y g. outside d q l k y m there defines e f (behind (scripts.parts_at t.nodes l) k y g))

  are_weights : AreWeights t.nodes weight n.first
  are_weights = record {
    parts = parts_few;
    uses = uses_few;
    declared = undeclared;
    enumerators = no_enumerator;
    tags = λ a m there tagged first. are_apart.tags a i m n there at tagged using first;
    lists = lists_few;
  }

  item_top : (k p : ℕ) → slice_get t.items k ≡ Some p → (a : ℕ) → is_under t a p ≡ false
  item_top k p e a = by (above_of t.nodes (length t.nodes) p) refl
    where
      by : (o : Option ℕ) → above_of t.nodes (length t.nodes) p ≡ o → is_under t a p ≡ false
      by None q = outermost_outside t unit a p q
      by (Some c) q = absurd (no_item t unit p c k (above_some t unit (length t.nodes) p c q) e)

  items_lone : weight_of weight t.items ≤ 1
  items_lone = lone t.items 0 (length t.nodes) order (λ j k x y e f h g. one_branch x y (item_top k y f x) (item_top j x e y) h g)

  counted : count_of n.first (unit_events it.unit) ≤ 1
  counted =
      let few = told_once it.unit.tokens.list.items t.nodes t.items weight n.first are_weights in
      let all = items_lone in
      subst (λ es. count_of n.first es ≤ 1) (sym moved) (omega (arith, few, all))
    where
      moved : unit_events it.unit ≡ events_of it.unit.tokens.list.items t.nodes t.items
      moved = ap (λ ns. events_of it.unit.tokens.list.items ns it.unit.items) nodes_are ∙ ap (events_of it.unit.tokens.list.items t.nodes) (sym made_by.elaborated.items_are)

pub once : Laws.NamesAreToldOnce
once file t it i n at using outside = counted file t it i n at using outside
