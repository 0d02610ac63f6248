-- What nodes count is paid for by tokens of their own.
use Rattle.std.proofs.Common.{◌≡◌, ℕ, ◌+◌, ◌≤◌, List, ◌∷◌, Some, length, slice_get, sym, subst, arith}
use Rattle.std.specs.List.{sum_by}
use Rattle.std.proofs.lemmas.List.Sums.{sum_by-cons}
use Rattle.cr_syntax.specs.declared.node.Kind.{Kind}
use Rattle.cr_syntax.specs.declared.node.Node.{Node}
use Rattle.cr_syntax.specs.Kept.{PartsAreBelow, row_in}
use Rattle.cr_syntax.specs.Spells.{Limit}
use Rattle.cr_syntax.specs.Tables.{side_of}
use Rattle.cr_syntax.specs.Trees.{Trees, node}
use Rattle.cr_syntax.specs.Words.{Lexeme}
use Rattle.cr_syntax.proofs.Arena.{row_at}
use Rattle.cr_syntax_order.specs.Listed.{AreListed, no_node, one_more}
use Rattle.cr_syntax_nodes.specs.Nodes.{IsMade}
use Rattle.cr_syntax_nodes.proofs.Laid.{laid}
use Rattle.cr_syntax_nodes.proofs.Made.{forth, made_in, rises}
use Rattle.cr_syntax_nodes.proofs.Occurs.{Occurs, here, inside, behind}
use Rattle.pass_widths.specs.Few.{AreOfUnit}
use Rattle.pass_widths.proofs.Counted.{total, total_next}
use Rattle.pass_widths.proofs.Own.{laid_wide, own, width, within}

-- node n as it is made
abbrev pub IsMadeNode : List Lexeme → Limit → List Node → Node → Type 0
IsMadeNode ts limit nodes n = IsMade ts limit n.kind n.first (n.last + 1) (row_in nodes n.parts)

-- Each node counts w and saves c for the node whose part it is; its own tokens and what its parts save pay for both.
abbrev pub Pays : List Lexeme → Limit → List Node → (ℕ → ℕ) → (ℕ → ℕ) → Type 0
Pays ts limit nodes w c = (k : ℕ) (n : Node) → slice_get nodes k ≡ Some n → IsMadeNode ts limit nodes n
    → w k + c k + width (row_in nodes n.parts) + n.first ≤ n.last + 1 + sum_by c n.parts

-- the tokens of a node's own
pub made_wide : {ts : List Lexeme} {limit : Limit} (nodes : List Node) (n : Node) → IsMadeNode ts limit nodes n
    → n.first + own (side_of n.kind) + width (row_in nodes n.parts) ≤ n.last + 1
made_wide {ts = ts} nodes n made = laid_wide ts (side_of n.kind) (n.last + 1) (row_in nodes n.parts) n.first (n.last + 1) n.first (rises made.spells) (laid made.spells)

module _ (ts : List Lexeme) (limit : Limit) (nodes : List Node) (f : PartsAreBelow nodes) (w c : ℕ → ℕ) (pays : Pays ts limit nodes w c) where
  -- a row of nodes, with all below them
  row_paid : {from end : ℕ} {ps : List ℕ} → AreListed nodes from ps end
      → ((k : Kind) (i j : ℕ) (b : Trees) → Occurs k i j b (row_in nodes ps) → IsMade ts limit k i j b)
      → total w end + sum_by c ps ≤ total w from + width (row_in nodes ps)
  row_paid no_node made = omega arith
  row_paid {from = from} {end = end} (one_more {p = p} {ps = ps} {n = n} at below rest) made =
      let tree : row_in nodes (p ∷ ps) ≡ node n.kind n.first (n.last + 1) (row_in nodes n.parts) (row_in nodes ps) = row_at nodes f p n ps at in
      let occurs : (k : Kind) (i j : ℕ) (b : Trees) → Occurs k i j b (node n.kind n.first (n.last + 1) (row_in nodes n.parts) (row_in nodes ps)) → IsMade ts limit k i j b =
      λ k i j b o. made k i j b (subst (λ t. Occurs k i j b t) (sym tree) o) in
      let own_made = occurs n.kind n.first (n.last + 1) (row_in nodes n.parts) here in
      let paid = pays p n at own_made in
      let inner = row_paid below (λ k i j b o. occurs k i j b (inside o)) in
      let outer = row_paid rest (λ k i j b o. occurs k i j b (behind o)) in
      let on = forth (rises own_made.spells) in
      let next = total_next w p in
      let both = sum_by-cons c p ps in
      subst (λ t. total w end + sum_by c (p ∷ ps) ≤ total w from + width t) (sym tree) (omega (arith, paid, inner, outer, on, next, both))

-- what the nodes of a unit count, and what its items save, are no more than its tokens
pub unit_paid : {count : ℕ} {nodes : List Node} {items : List ℕ} (u : AreOfUnit count nodes items) (w c : ℕ → ℕ) → Pays u.lexemes u.limit nodes w c
    → total w (length nodes) + sum_by c items ≤ count
unit_paid {nodes = nodes} u w c pays =
    let paid = row_paid u.lexemes u.limit nodes u.below w c pays u.listed (λ k i j b o. made_in u.is_unit.spells o) in
    let wide = within (rises u.is_unit.spells) in
    let all = u.count_is in
    omega (arith, paid, wide, all)

-- where each node counts no more than its own tokens
pub own_paid : {count : ℕ} {nodes : List Node} {items : List ℕ} (u : AreOfUnit count nodes items) (w : ℕ → ℕ)
    → ((k : ℕ) (n : Node) → slice_get nodes k ≡ Some n → IsMadeNode u.lexemes u.limit nodes n → w k ≤ own (side_of n.kind)) → total w (length nodes) ≤ count
own_paid {nodes = nodes} u w few =
    let paid = unit_paid u w (λ k. 0) (λ k n at made. let le = few k n at made in let wide = made_wide nodes n made in omega (arith, le, wide)) in
    omega (arith, paid)
