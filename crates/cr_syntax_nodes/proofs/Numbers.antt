-- Every node of a unit stands in its trees.
use Rattle.std.proofs.Common.{◌≡◌, ℕ, zero, suc, ◌+◌, ◌<◌, ◌≤◌, ◌==◌, Bool, true, false, cond, List, [], ◌∷◌, ◌++◌, Some, length, slice_get, refl, sym, subst, arith, inl, inr}
use Rattle.std.specs.List.{count_by, flat_map}
use Rattle.std.proofs.lemmas.List.Sums.{sum_by-append, sum_by-cons}
use Rattle.std.proofs.lemmas.Bool.{eqb-true, cases_lt}
use Rattle.std.proofs.lemmas.Option.{slice_get_within}
use Rattle.cr_syntax.specs.declared.node.Node.{Node}
use Rattle.cr_syntax.specs.Trees.{Trees}
use Rattle.cr_syntax.specs.Kept.{AreBelow, PartsAreBelow, NamedOnce, ItemsAreNodes, row_in}
use Rattle.cr_syntax.proofs.Arena.{below_first, below_rest, row_at}
use Rattle.cr_syntax_nodes.proofs.Occurs.{Occurs, here, behind, in_parts}

abbrev times : List ℕ → ℕ → ℕ
times ps k = count_by (λ p. p == k) ps

-- a number of a row
data In (k : ℕ) : List ℕ → Type 0 where
  first : {ps : List ℕ} → In k (k ∷ ps)
  later : {p : ℕ} {ps : List ℕ} → In k ps → In k (p ∷ ps)

in_of : (k : ℕ) (ps : List ℕ) → 0 < times ps k → In k ps
in_of k [] lt = absurd (omega arith)
in_of k (p ∷ ps) lt = by (p == k) refl (λ x. in_of k ps x) (subst (λ m. 0 < m) (sum_by-cons (λ x. cond (x == k) 1 0) p ps) lt)
  where
    by : (b : Bool) → (p == k) ≡ b → (0 < times ps k → In k ps) → 0 < cond b 1 0 + times ps k → In k (p ∷ ps)
    by true q f lt = subst (λ x. In k (x ∷ ps)) (sym (eqb-true p k q)) first
    by false q f lt = later (f (omega arith))

below : {k : ℕ} (ps : List ℕ) (bound : ℕ) → AreBelow ps bound → In k ps → k < bound
below [] bound f x = elim x [ ]
below {k = k} (p ∷ ps) bound f first = below_first p ps bound f
below (p ∷ ps) bound f (later x) = below ps bound (below_rest p ps bound f) x

-- the node that a number of all parts is one of
record HasParent (ns : List Node) (k : ℕ) : Type 0 where
  number : ℕ
  parent : Node
  at : slice_get ns number ≡ Some parent
  is_part : In k parent.parts

parent_of : (ns : List Node) (k : ℕ) → 0 < times (flat_map (λ n. n.parts) ns) k → HasParent ns k
parent_of [] k lt = absurd (omega arith)
parent_of (n ∷ ns) k lt =
    let e : times (n.parts ++ flat_map (λ m. m.parts) ns) k ≡ times n.parts k + times (flat_map (λ m. m.parts) ns) k = sum_by-append (λ x. cond (x == k) 1 0) n.parts (flat_map (λ m. m.parts) ns) in
    elim (cases_lt 0 (times n.parts k)) [
      | inl x ↦ record { number = 0; parent = n; at = refl; is_part = in_of k n.parts x }
      | inr ge ↦ (let r = parent_of ns k (omega (arith, e)) in record { number = suc r.number; parent = r.parent; at = r.at; is_part = r.is_part })
    ]

pub some_at : (ns : List Node) (p : ℕ) → p < length ns → (m : Node) × (slice_get ns p ≡ Some m)
some_at [] p lt = absurd (omega arith)
some_at (n ∷ ns) zero lt = (n, refl)
some_at (n ∷ ns) (suc p) lt = some_at ns p (omega arith)

abbrev pub OccursIn : List Node → Node → Trees → Type 0
OccursIn ns n t = Occurs n.kind n.first (n.last + 1) (row_in ns n.parts) t

module _ (ns : List Node) (f : PartsAreBelow ns) where
  in_row : {k : ℕ} {n : Node} (row : List ℕ) → slice_get ns k ≡ Some n → AreBelow row (length ns) → In k row → OccursIn ns n (row_in ns row)
  in_row [] q b x = elim x [ ]
  in_row {k = k} {n = n} (p ∷ ps) q b first = subst (λ t. OccursIn ns n t) (sym (row_at ns f k n ps q)) here
  in_row {n = n} (p ∷ ps) q b (later x) =
      let m = some_at ns p (below_first p ps (length ns) b) in
      subst (λ t. OccursIn ns n t) (sym (row_at ns f p m.0 ps m.1)) (behind (in_row ps q (below_rest p ps (length ns) b) x))

  pub occurs : (items : List ℕ) → NamedOnce ns items → ItemsAreNodes ns items → (fuel k : ℕ) (n : Node) → length ns ≤ k + fuel → slice_get ns k ≡ Some n → OccursIn ns n (row_in ns items)
  occurs items once are zero k n le q = let lt = slice_get_within ns k n q in absurd (omega arith)
  occurs items once are (suc fuel) k n le q =
      let lt = slice_get_within ns k n q in
      let e : times (flat_map (λ m. m.parts) ns ++ items) k ≡ times (flat_map (λ m. m.parts) ns) k + times items k = sum_by-append (λ x. cond (x == k) 1 0) (flat_map (λ m. m.parts) ns) items in
      let o = once k lt in
      elim (cases_lt 0 (times items k)) [
        | inl x ↦ in_row items q are (in_of k items x)
        | inr ge ↦
            (let p = parent_of ns k (omega (arith, e, o)) in
            let above = below p.parent.parts p.number (f p.number p.parent p.at) p.is_part in
            let inner = slice_get_within ns p.number p.parent p.at in
            in_parts (in_row p.parent.parts q (λ i l. let b = f p.number p.parent p.at i l in omega arith) p.is_part)
            (occurs items once are fuel p.number p.parent (omega arith) p.at))
      ]
