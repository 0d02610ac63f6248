-- Nodes that are listed in order end in order.
use Rattle.std.proofs.Common.{◌≡◌, ℕ, ◌+◌, ◌<◌, ◌≤◌, ◌⊎◌, List, [], ◌∷◌, Some, length, slice_get, inl, inr, sym, ap, subst, ◌∙◌, arith}
use Rattle.std.proofs.lemmas.Bool.{cases_lt}
use Rattle.std.proofs.lemmas.Option.{slice_get_within}
use Rattle.cr_syntax.specs.declared.node.Kind.{Kind}
use Rattle.cr_syntax.specs.declared.node.Node.{Node}
use Rattle.cr_syntax.specs.Kept.{PartsAreBelow, row_in}
use Rattle.cr_syntax.specs.Trees.{Trees, node}
use Rattle.cr_syntax.proofs.Arena.{row_at}
use Rattle.cr_syntax_order.specs.Listed.{AreListed, no_node, one_more}
use Rattle.cr_syntax_nodes.specs.Nodes.{Rises, one_more as rises_more}
use Rattle.cr_syntax_nodes.specs.Order.{IsBeforeOrIn}
use Rattle.cr_syntax_nodes.proofs.Made.{forth}

-- what stands at one number
same_at : (ns : List Node) (p k : ℕ) (n m : Node) → p ≡ k → slice_get ns p ≡ Some n → slice_get ns k ≡ Some m → n ≡ m
same_at ns p k n m e at here = let is : Some n ≡ Some m = sym at ∙ ap (slice_get ns) e ∙ here in cc

-- the nodes below a node, by its number

own : {ns : List Node} {from end : ℕ} {ps : List ℕ} → AreListed ns from ps end → (k : ℕ) (m : Node) → from ≤ k → k < end → slice_get ns k ≡ Some m → (first : ℕ) × AreListed ns first m.parts k
own no_node k m low high here = absurd (omega (arith, low, high))
own {ns = ns} {from = from} (one_more {p = p} {n = n} at below rest) k m low high here = elim (cases_lt k p) [
  | inl less ↦ own below k m low less here
  | inr ge ↦ elim (cases_lt p k) [
    | inl more ↦ own rest k m (omega (arith, more)) high here
    | inr le ↦ (let e : p ≡ k = omega (arith, ge, le) in (from, subst (λ x. AreListed ns from x k) (ap (λ (x : Node). x.parts) (same_at ns p k n m e at here)) (subst (λ x. AreListed ns from n.parts x) e below)))
  ]
]

pub own_before : (nodes : List Node) (items : List ℕ) → AreListed nodes 0 items (length nodes) → (k : ℕ) (n : Node) → slice_get nodes k ≡ Some n → (from : ℕ) × AreListed nodes from n.parts k
own_before nodes items listed k n at = let within = slice_get_within nodes k n at in own listed k n (omega arith) (omega (arith, within)) at

-- a row's first tree, and what stands behind it
opened : {k : Kind} {i j a b : ℕ} {t u : Trees} → Rises i j (node k a b t u) → (i ≤ a) × ((a ≤ b) × Rises b j u)
opened (rises_more le le' r) = (le, (le', r))

-- the nodes from one number to before another stand from token i to before token j, in order
record AreOrdered (ns : List Node) (from end i j : ℕ) : Type 0 where
  inside : (k : ℕ) (m : Node) → from ≤ k → k < end → slice_get ns k ≡ Some m → (i ≤ m.first) × (m.last < j)
  pairs : (k l : ℕ) (m n : Node) → from ≤ k → k < l → l < end → slice_get ns k ≡ Some m → slice_get ns l ≡ Some n → IsBeforeOrIn m n

module _ (ns : List Node) (f : PartsAreBelow ns) (rise : (k : ℕ) (n : Node) → slice_get ns k ≡ Some n → Rises n.first (n.last + 1) (row_in ns n.parts)) where
  -- a node, what is below it, and what stands behind
  one_ordered : {from p end i j : ℕ} {n : Node} → slice_get ns p ≡ Some n → i ≤ n.first → n.first ≤ n.last + 1 → n.last + 1 ≤ j → AreOrdered ns from p n.first (n.last + 1) → AreOrdered ns (p + 1) end (n.last + 1) j → AreOrdered ns from end i j
  one_ordered {from = from} {p = p} {end = end} {i = i} {j = j} {n = n} at begin forward stop inner outer = record {
    inside = λ k m low high here. elim (cases_lt k p) [
      | inl less ↦ (let b = inner.inside k m low less here in (omega (arith, begin, b.0), omega (arith, stop, b.1)))
      | inr ge ↦ elim (cases_lt p k) [
        | inl more ↦ (let b = outer.inside k m (omega (arith, more)) high here in (omega (arith, begin, forward, b.0), b.1))
        | inr le ↦ (let is : n ≡ m = same_at ns p k n m (omega (arith, ge, le)) at here in subst (λ (x : Node). (i ≤ x.first) × (x.last < j)) is (begin, omega (arith, stop)))
      ]
    ];
    pairs = λ k l m o low less high here there. elim (cases_lt l p) [
      | inl under ↦ inner.pairs k l m o low less under here there
      | inr ge ↦ elim (cases_lt p l) [
        | inr le ↦ (let is : n ≡ o = same_at ns p l n o (omega (arith, ge, le)) at there in
            let b = inner.inside k m low (omega (arith, less, le)) here in
            subst (λ (x : Node). IsBeforeOrIn m x) is (inr (b.0, omega (arith, b.1))))
        | inl above ↦ elim (cases_lt p k) [
          | inl beyond ↦ outer.pairs k l m o (omega (arith, beyond)) less high here there
          | inr low-k ↦ (let b = outer.inside l o (omega (arith, above)) high there in inl (ends k m low low-k here (λ x. omega (arith, b.0, x))))
        ]
      ]
    ];
  }
    where
      -- what stands up to the node ends with it
      ends : {P : Type 0} (k : ℕ) (m : Node) → from ≤ k → k ≤ p → slice_get ns k ≡ Some m → (m.last ≤ n.last → P) → P
      ends k m low le here g = elim (cases_lt k p) [
        | inl less ↦ (let b = inner.inside k m low less here in g (omega (arith, b.1)))
        | inr ge ↦ (let is : n ≡ m = same_at ns p k n m (omega (arith, ge, le)) at here in g (subst (λ (x : Node). x.last ≤ n.last) is (omega arith)))
      ]

  ordered : {from end i j : ℕ} {ps : List ℕ} → AreListed ns from ps end → Rises i j (row_in ns ps) → AreOrdered ns from end i j
  ordered no_node r = record { inside = λ k m low high here. absurd (omega (arith, low, high)); pairs = λ k l m n low less high here there. absurd (omega (arith, low, less, high)) }
  ordered {i = i} {j = j} (one_more {p = p} {ps = ps} {n = n} at below rest) r =
      let o = opened (subst (λ t. Rises i j t) (row_at ns f p n ps at) r) in
      one_ordered at o.0 o.1.0 (forth o.1.1) (ordered below (rise p n at)) (ordered rest o.1.1)

  pub in_order : {j : ℕ} {ps : List ℕ} → AreListed ns 0 ps (length ns) → Rises 0 j (row_in ns ps) → (k l : ℕ) (m n : Node) → k < l → slice_get ns k ≡ Some m → slice_get ns l ≡ Some n → IsBeforeOrIn m n
  in_order listed r k l m n less here there = let within = slice_get_within ns l n there in (ordered listed r).pairs k l m n (omega arith) less (omega (arith, within)) here there
