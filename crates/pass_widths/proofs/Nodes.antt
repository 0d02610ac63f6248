-- A unit has at most twice as many nodes as tokens.
use Rattle.std.proofs.Common.{ℕ, zero, suc, ◌+◌, ◌*◌, ◌-◌, ◌≤◌, List, length, min, lit≤, ap, arith}
use Rattle.std.specs.List.{sum_by}
use Rattle.cr_syntax.specs.declared.node.Kind.{Kind}
use Rattle.cr_syntax.specs.declared.node.Kind.TheVariants as kind
use Rattle.cr_syntax.specs.declared.node.Node.{Node}
use Rattle.cr_syntax.specs.Tables.{rule_of, side_of}
use Rattle.cr_syntax_nodes.specs.Nodes.{least}
use Rattle.cr_syntax_nodes.proofs.Counts.{counted, row_counted}
use Rattle.pass_levels.specs.Nodes.{node_at}
use Rattle.pass_widths.specs.Few.{AreOfUnit}
use Rattle.pass_widths.proofs.Counted.{total}
use Rattle.pass_widths.proofs.Own.{own}
use Rattle.pass_widths.proofs.Paid.{made_wide, own_paid, unit_paid}
use Rattle.pass_widths.proofs.Rows.{at_is, parts_within, sum_ones}

-- a node with a token of its own, and one without
abbrev owner : Kind → ℕ
owner k = min 1 (own (side_of k))

abbrev bare : Kind → ℕ
bare k = 1 - own (side_of k)

-- a node without tokens of its own has two parts at the least
parts_or_own : (k : Kind) → bare k + 1 ≤ own (side_of k) + least (side_of k)
unfolding rule_of
parts_or_own kind.FunctionDefinition = lit≤ tt
parts_or_own _ = lit≤ tt

module _ {count : ℕ} {nodes : List Node} {items : List ℕ} (u : AreOfUnit count nodes items) where
  owners_few : total (λ k. owner (node_at nodes k).kind) (length nodes) ≤ count
  owners_few = own_paid u (λ k. owner (node_at nodes k).kind) (λ k n at made.
      let same = ap (λ (m : Node). owner m.kind) (at_is nodes k n at) in omega (arith, same))

  bare_few : total (λ k. bare (node_at nodes k).kind) (length nodes) + sum_by (λ k. 1) items ≤ count
  bare_few = unit_paid u (λ k. bare (node_at nodes k).kind) (λ k. 1) (λ k n at made.
      let same = ap (λ (m : Node). bare m.kind) (at_is nodes k n at) in
      let test = parts_or_own n.kind in
      let some = (counted made.spells).least in
      let row = row_counted nodes u.below n.parts (parts_within nodes u.below k n at) in
      let ones = sum_ones n.parts in
      let wide = made_wide nodes n made in
      omega (arith, same, test, some, row, ones, wide))

  pub nodes_few : length nodes ≤ 2 * count
  nodes_few = let one = owners_few in let other = bare_few in let both = all (length nodes) in omega (arith, one, other, both)
    where
      either : (x : ℕ) → 1 ≤ min 1 x + (1 - x)
      either x = omega arith

      all : (n : ℕ) → n ≤ total (λ k. owner (node_at nodes k).kind) n + total (λ k. bare (node_at nodes k).kind) n
      all zero = omega arith
      all (suc n) = let rest = all n in let here = either (own (side_of (node_at nodes n).kind)) in omega (arith, rest, here)
