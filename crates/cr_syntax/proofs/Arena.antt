-- The tree of a node in a list of nodes whose parts are below them.
use Rattle.std.proofs.Common.{◌≡◌, ℕ, zero, suc, ◌+◌, ◌<◌, List, [], ◌∷◌, ◌++◌, Some, length, get_or, slice_get, refl, sym, ap, subst, ◌∙◌, arith, length-append}
use Rattle.std.proofs.Math.ListN.{get_or-append}
use Rattle.std.proofs.Math.Seq.{get_or-append_seam}
use Rattle.std.proofs.lemmas.Option.{slice_get_within, slice_get_read}
use Rattle.cr_syntax.specs.Kept.{IsFirst}
use Rattle.cr_syntax.specs.declared.node.Node.{Node}
use Rattle.cr_syntax.specs.Kept.{PartsAreBelow, AreBelow}
use Rattle.cr_syntax.specs.Trees.{Trees, none, node, one, ◌&◌, row_of, tree_of, grown, trees_of}

pub below_first : (p : ℕ) (ps : List ℕ) (bound : ℕ) → AreBelow (p ∷ ps) bound → p < bound
below_first p ps bound f = f 0 (omega arith)

pub below_rest : (p : ℕ) (ps : List ℕ) (bound : ℕ) → AreBelow (p ∷ ps) bound → AreBelow ps bound
below_rest p ps bound f i lt = f (suc i) (omega arith)

grown_keeps : (ns : List Node) (made : List Trees) (k : ℕ) → k < length made → get_or (grown made ns) k none ≡ get_or made k none
grown_keeps [] made k lt = refl
grown_keeps (n ∷ ns) made k lt =
    grown_keeps ns (made ++ tree_of made n ∷ []) k (omega (arith, length-append made (tree_of made n ∷ []))) ∙ get_or-append made (tree_of made n ∷ []) none k lt

same_row : (made whole : List Trees) (ps : List ℕ) → ((k : ℕ) → k < length made → get_or whole k none ≡ get_or made k none) → AreBelow ps (length made) → row_of made ps ≡ row_of whole ps
same_row made whole [] f b = refl
same_row made whole (p ∷ ps) f b =
    let e = f p (below_first p ps (length made) b) in
    let r = same_row made whole ps f (below_rest p ps (length made) b) in
    cc

same_tree : (made whole : List Trees) (n : Node) → ((k : ℕ) → k < length made → get_or whole k none ≡ get_or made k none) → AreBelow n.parts (length made) → tree_of made n ≡ tree_of whole n
same_tree made whole n f b = ap (one n.kind n.first (n.last + 1)) (same_row made whole n.parts f b)

grown_at : (ns : List Node) (made : List Trees) (k : ℕ) (n : Node) → slice_get ns k ≡ Some n → AreBelow n.parts (length made + k) → get_or (grown made ns) (length made + k) none ≡ tree_of (grown made ns) n
grown_at [] made k n q b = absurd (let w = slice_get_within [] k n q in omega (arith, w))
grown_at (m ∷ ns) made zero n q b =
    let is : m ≡ n = cc in
    let longer : length made < length (made ++ tree_of made m ∷ []) = omega (arith, length-append made (tree_of made m ∷ [])) in
    let here : get_or (grown made (m ∷ ns)) (length made) none ≡ tree_of made m =
    grown_keeps ns (made ++ tree_of made m ∷ []) (length made) longer ∙ get_or-append_seam made (tree_of made m) [] none in
    let same : tree_of made m ≡ tree_of (grown made (m ∷ ns)) m =
    same_tree made (grown made (m ∷ ns)) m (grown_keeps (m ∷ ns) made) (subst (λ x. AreBelow x.parts (length made)) (sym is) (subst (λ x. AreBelow n.parts x) (omega arith) b)) in
    let zero-is : length made + 0 ≡ length made = omega arith in
    rw (zero-is) (here ∙ same ∙ ap (λ x. tree_of (grown made (m ∷ ns)) x) is)
grown_at (m ∷ ns) made (suc k) n q b =
    let next : length (made ++ tree_of made m ∷ []) + k ≡ length made + suc k = omega (arith, length-append made (tree_of made m ∷ [])) in
    subst (λ x. get_or (grown made (m ∷ ns)) x none ≡ tree_of (grown made (m ∷ ns)) n) next
    (grown_at ns (made ++ tree_of made m ∷ []) k n q (subst (λ x. AreBelow n.parts x) (sym next) b))

-- the tree of node k
pub tree_at : (ns : List Node) → PartsAreBelow ns → (k : ℕ) (n : Node) → slice_get ns k ≡ Some n → get_or (trees_of ns) k none ≡ tree_of (trees_of ns) n
unfolding trees_of
tree_at ns f k n q =
    let e : 0 + k ≡ k = omega arith in
    subst (λ x. get_or (grown [] ns) x none ≡ tree_of (grown [] ns) n) e (grown_at ns [] k n q (subst (λ x. AreBelow n.parts x) (sym e) (f k n q)))

-- a row of numbers whose first is k
pub row_at : (ns : List Node) → PartsAreBelow ns → (k : ℕ) (n : Node) (ps : List ℕ) → slice_get ns k ≡ Some n →
    row_of (trees_of ns) (k ∷ ps) ≡ node n.kind n.first (n.last + 1) (row_of (trees_of ns) n.parts) (row_of (trees_of ns) ps)
row_at ns f k n ps q = ap (λ x. x & row_of (trees_of ns) ps) (tree_at ns f k n q)

pub first_is : (ns : List Node) (row : List ℕ) (k : ℕ) (n : Node) → PartsAreBelow ns → AreBelow row (length ns) → 0 < length row → k ≡ get_or row 0 0 → n ≡ get_or ns k n → IsFirst ns row n
first_is ns [] k n f b lt q r = absurd (omega arith)
first_is ns (p ∷ ps) k n f b lt q r =
    let here : slice_get ns p ≡ Some n = slice_get_read ns (length ns) p n refl (below_first p ps (length ns) b) (subst (λ x. n ≡ get_or ns x n) q r) in
    record { some = omega arith; tree = row_at ns f p n ps here; below = f p n here }
