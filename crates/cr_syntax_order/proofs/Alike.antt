-- Nodes that are listed in order are known by their trees.
use native.Mathlib.Omega.{arith}
use Rattle.std.proofs.Common.{◌≡◌, ℕ, suc, ◌+◌, ◌<◌, ◌≤◌, Bool, true, false, List, [], ◌∷◌, Some, length, slice_get, refl, sym, ap, subst, ◌∙◌, true≢false, inl, inr}
use Rattle.std.proofs.lemmas.Bool.{cases_lt}
use Rattle.cr_syntax.specs.declared.node.Kind.{Kind}
use Rattle.cr_syntax.specs.declared.node.Kind.TheVariants.{Void}
use Rattle.cr_syntax.specs.declared.node.Node.{Node}
use Rattle.cr_syntax.specs.Kept.{PartsAreBelow, row_in}
use Rattle.cr_syntax.specs.Trees.{Trees, none, node}
use Rattle.cr_syntax.proofs.Arena.{row_at}
use Rattle.cr_syntax_order.specs.Listed.{AreListed, no_node, one_more}

-- the first tree of a row, and what stands behind it
abbrev is_none : Trees → Bool
is_none none = true
is_none (node k i j a n) = false

abbrev kind_in : Trees → Kind
kind_in none = Void
kind_in (node k i j a n) = k

abbrev first_in : Trees → ℕ
first_in none = 0
first_in (node k i j a n) = i

abbrev end_in : Trees → ℕ
end_in none = 0
end_in (node k i j a n) = j

abbrev parts_in : Trees → Trees
parts_in none = none
parts_in (node k i j a n) = a

abbrev rest_in : Trees → Trees
rest_in none = none
rest_in (node k i j a n) = n

same_node : (n m : Node) → n.kind ≡ m.kind → n.first ≡ m.first → n.last ≡ m.last → n.parts ≡ m.parts → n ≡ m
same_node n m kind first last parts =
    ap {B = Node} (λ x. record { kind = x; first = n.first; last = n.last; parts = n.parts }) kind
    ∙ ap {B = Node} (λ x. record { kind = m.kind; first = x; last = n.last; parts = n.parts }) first
    ∙ ap {B = Node} (λ x. record { kind = m.kind; first = m.first; last = x; parts = n.parts }) last
    ∙ ap {B = Node} (λ x. record { kind = m.kind; first = m.first; last = m.last; parts = x }) parts

-- the two rows are the same, and so are the nodes in them and below them
record AreAlike (ns ms : List Node) (from : ℕ) (ps qs : List ℕ) (end stop : ℕ) : Type 0 where
  row : ps ≡ qs
  ends : end ≡ stop
  each : (k : ℕ) → from ≤ k → k < end → slice_get ns k ≡ slice_get ms k

module _ (ns ms : List Node) (f : PartsAreBelow ns) (g : PartsAreBelow ms) where
  between : {from p end : ℕ} → ((k : ℕ) → from ≤ k → k < p → slice_get ns k ≡ slice_get ms k) → slice_get ns p ≡ slice_get ms p
      → ((k : ℕ) → p + 1 ≤ k → k < end → slice_get ns k ≡ slice_get ms k) → (k : ℕ) → from ≤ k → k < end → slice_get ns k ≡ slice_get ms k
  between {p = p} before here after k low high = elim (cases_lt k p) [
    | inl lt ↦ before k low lt
    | inr ge ↦ elim (cases_lt p k) [
      | inl gt ↦ after k (omega (arith, gt)) high
      | inr le ↦ (let is : p ≡ k = omega (arith, ge, le) in subst (λ x. slice_get ns x ≡ slice_get ms x) is here)
    ]
  ]

  alike : {from end stop : ℕ} {ps qs : List ℕ} → AreListed ns from ps end → AreListed ms from qs stop → row_in ns ps ≡ row_in ms qs → AreAlike ns ms from ps qs end stop
  alike no_node no_node e = record { row = refl; ends = refl; each = λ k low high. absurd (omega (arith, low, high)) }
  alike no_node (one_more {p = q} {ps = qs} {n = m} at below rest) e = absurd (true≢false (ap is_none (e ∙ row_at ms g q m qs at)))
  alike (one_more {p = p} {ps = ps} {n = n} at below rest) no_node e = absurd (true≢false (ap is_none (sym e ∙ row_at ns f p n ps at)))
  alike {stop = stop} (one_more {p = p} {ps = ps} {n = n} at below rest) (one_more {p = q} {ps = qs} {n = m} at' below' rest') e =
      let same : node n.kind n.first (n.last + 1) (row_in ns n.parts) (row_in ns ps) ≡ node m.kind m.first (m.last + 1) (row_in ms m.parts) (row_in ms qs) =
      sym (row_at ns f p n ps at) ∙ e ∙ row_at ms g q m qs at' in
      let inner = alike below below' (ap parts_in same) in
      let is : p ≡ q = inner.ends in
      let outer = alike rest (subst (λ x. AreListed ms (x + 1) qs stop) (sym is) rest') (ap rest_in same) in
      let last : n.last + 1 ≡ m.last + 1 = ap end_in same in
      let nodes : n ≡ m = same_node n m (ap kind_in same) (ap first_in same) (omega (arith, last)) inner.row in
      record {
        row = ap (λ x. x ∷ ps) is ∙ ap (λ xs. q ∷ xs) outer.row;
        ends = outer.ends;
        each = between inner.each (at ∙ ap Some nodes ∙ sym (subst (λ x. slice_get ms x ≡ Some m) (sym is) at')) outer.each;
      }

all_same : (ns ms : List Node) → length ns ≡ length ms → ((k : ℕ) → k < length ns → slice_get ns k ≡ slice_get ms k) → ns ≡ ms
all_same [] [] l f = refl
all_same [] (m ∷ ms) l f = absurd (omega (arith, l))
all_same (n ∷ ns) [] l f = absurd (omega (arith, l))
all_same (n ∷ ns) (m ∷ ms) l f =
    let first = f 0 (omega arith) in
    let is : n ≡ m = cc in
    let rest = all_same ns ms (omega (arith, l)) (λ k lt. f (suc k) (omega (arith, lt))) in
    ap (λ x. x ∷ ns) is ∙ ap (λ xs. m ∷ xs) rest

pub one_list : (nodes others : List Node) (items more : List ℕ) → PartsAreBelow nodes → PartsAreBelow others
    → AreListed nodes 0 items (length nodes) → AreListed others 0 more (length others) → row_in nodes items ≡ row_in others more
    → (nodes ≡ others) × (items ≡ more)
one_list nodes others items more f g is also e =
    let a = alike nodes others f g is also e in
    (all_same nodes others a.ends (λ k low. a.each k (omega arith) low), a.row)
