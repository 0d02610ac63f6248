-- Rows of nodes, by the kinds that stand in them.
use Rattle.std.proofs.Common.{◌≡◌, ℕ, zero, suc, ◌<◌, ◌≤◌, true, List, [], ◌∷◌, Some, length, slice_get, refl, subst, arith}
use Rattle.std.specs.List.{slice_index, sum_by}
use Rattle.std.proofs.lemmas.List.Sums.{sum_by-cons}
use Rattle.std.proofs.lemmas.Option.{get_or_from_slice_get, slice_get_within}
use Rattle.cr_syntax.specs.declared.node.Node.{Node}
use Rattle.cr_syntax.specs.declared.part.Part.{Part}
use Rattle.cr_syntax.specs.Kept.{AreBelow, PartsAreBelow, row_in}
use Rattle.cr_syntax.specs.Symbols as symbol
use Rattle.cr_syntax.specs.Symbols.{Depth}
use Rattle.cr_syntax.specs.Grammar.{Side}
use Rattle.cr_syntax.specs.Trees.{Trees, none, node}
use Rattle.cr_syntax.specs.Words.{Lexeme}
use Rattle.cr_syntax.proofs.Arena.{below_first, below_rest, row_at}
use Rattle.cr_syntax_order.specs.Listed.{AreListed, no_node, one_more}
use Rattle.cr_syntax_nodes.specs.Laid.{IsLaid, stands_for}
use Rattle.cr_syntax_nodes.proofs.Numbers.{some_at}
use Rattle.pass_levels.specs.Nodes.{node_at}
use Rattle.pass_widths.proofs.Own.{AllStand, list_stands}

pub at_is : (nodes : List Node) (k : ℕ) (n : Node) → slice_get nodes k ≡ Some n → node_at nodes k ≡ n
at_is nodes k n at = get_or_from_slice_get nodes k n _ at

-- the parts of a node are nodes
pub parts_within : (nodes : List Node) → PartsAreBelow nodes → (k : ℕ) (n : Node) → slice_get nodes k ≡ Some n → AreBelow n.parts (length nodes)
parts_within nodes f k n at = λ i lt. let below = f k n at i lt in let inner = slice_get_within nodes k n at in omega (arith, below, inner)

-- and so is each of a row that is listed
pub listed_within : {nodes : List Node} {from end : ℕ} {ps : List ℕ} → AreListed nodes from ps end → AreBelow ps (length nodes)
listed_within no_node = λ i lt. absurd (omega (arith, lt))
listed_within {nodes = nodes} (one_more {p = p} {ps = ps} {n = n} at below rest) = by (listed_within rest)
  where
    by : AreBelow ps (length nodes) → (i : ℕ) → i < length (p ∷ ps) → slice_index (p ∷ ps) i < length nodes
    by more zero lt = slice_get_within nodes p n at
    by more (suc i) lt = more i (omega (arith, lt))

pub sum_ones : (ps : List ℕ) → sum_by (λ p. 1) ps ≡ length ps
sum_ones [] = refl
sum_ones (p ∷ ps) = let rest = sum_ones ps in let both = sum_by-cons (λ q. 1) p ps in omega (arith, rest, both)

module _ (nodes : List Node) (f : PartsAreBelow nodes) (part : Part) (g c : ℕ → ℕ)
    (each : (q : ℕ) (m : Node) → slice_get nodes q ≡ Some m → stands_for part m.kind ≡ true → g q ≤ c q) where
  -- what is at most that, where a node stands for the part, is so of a row of such nodes
  pub sum_stands : (ps : List ℕ) → AreBelow ps (length nodes) → AllStand part (row_in nodes ps) → sum_by g ps ≤ sum_by c ps
  sum_stands [] b h = omega arith
  sum_stands (q ∷ ps) b h =
      let m : (m : Node) × (slice_get nodes q ≡ Some m) = some_at nodes q (below_first q ps (length nodes) b) in
      let s = subst (λ t. AllStand part t) (row_at nodes f q m.0 ps m.1) h in
      let here = each q m.0 m.1 s.0 in
      let rest = sum_stands ps (below_rest q ps (length nodes) b) s.1 in
      let one = sum_by-cons g q ps in
      let other = sum_by-cons c q ps in
      omega (arith, here, rest, one, other)

-- the parts of a list that may be left out
pub optional_stands : (ts : List Lexeme) (l : Depth) (p : Part) (s : Side) (t : Trees) (i j : ℕ) → IsLaid ts (symbol.OptionalList l p ∷ s) t i j → AllStand p t
optional_stands ts l p s none i j h = tt
optional_stands ts l p s (node k a b t u) i j h = list_stands ts p (node k a b t u) i h.0
