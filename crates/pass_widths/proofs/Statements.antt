-- The levels of pass s.
use Rattle.std.proofs.Common.{◌≡◌, ℕ, ◌+◌, ◌≤◌, Bool, true, false, List, Some, length, take, drop, slice_get, lit≤, sym, subst, arith}
use Rattle.std.specs.List.{list_any, sum_by}
use Rattle.std.proofs.lemmas.List.{length-drop}
use Rattle.cr_tokens.specs.declared.token.Token.{Token}
use Rattle.cr_syntax.specs.declared.node.Kind.{Kind}
use Rattle.cr_syntax.specs.declared.node.Kind.TheVariants as kind
use Rattle.cr_syntax.specs.declared.node.Node.{Node}
use Rattle.cr_syntax.specs.declared.part.Part.TheVariants as part
use Rattle.cr_syntax.specs.Kept.{AreBelow, PartsAreBelow, row_in}
use Rattle.cr_syntax.specs.Tables.{rule_of, side_of}
use Rattle.cr_syntax.specs.Words.{Lexeme}
use Rattle.cr_syntax_nodes.specs.Nodes.{IsUpTo, most}
use Rattle.cr_syntax_nodes.specs.Laid.{IsLaid}
use Rattle.cr_syntax_nodes.proofs.Laid.{laid}
use Rattle.pass_edit.specs.declared.change.Text.TheVariants.{Nothing, Semicolon}
use Rattle.pass_levels.specs.Level.{level_of}
use Rattle.pass_levels.specs.Nodes.{node_at}
use Rattle.pass_stmts.specs.declared.labels.Jump.{Jump}
use Rattle.pass_stmts.specs.Bodies.{bodies_by, bodies_of, first_body_of, last_of, second_branch_of}
use Rattle.pass_stmts.specs.Labels.{function_at, functions_of, jumps_of, label_by, labels_give, names_label}
use Rattle.pass_stmts.specs.Statements.{bodies_give, braces_give, elses_give, emptied_give, items_at, items_by, items_give, s_offering, unwrapped_by}
use Rattle.pass_widths.specs.Few.{AreFew, AreOfUnit}
use Rattle.pass_widths.proofs.Credits.{all_save, block_test, credit, credit_by, credit_of, none_more, saved}
use Rattle.pass_widths.proofs.Levels.{becoming_count, by_credit, by_own, each_one, front_few, in_place_count, last_few, levels_few, parts_most}
use Rattle.pass_widths.proofs.Own.{own, row_stands}
use Rattle.pass_widths.proofs.Paid.{IsMadeNode}
use Rattle.pass_widths.proofs.Rows.{at_is, parts_within}

-- items, each of which saves a token
pub items_paid : (ts : List Lexeme) (nodes : List Node) (f : PartsAreBelow nodes) (k : Kind) (ps : List ℕ) (i j : ℕ) → AreBelow ps (length nodes)
    → IsLaid ts (side_of k) (row_in nodes ps) i j → length (items_by k ps) + credit_by k ps ≤ own (side_of k) + sum_by (credit nodes) ps
unfolding rule_of
items_paid ts nodes f kind.Compound ps i j b h =
    let all = all_save ts nodes f part.BlockItem block_test ps b (row_stands part.BlockItem (row_in nodes ps) (i + 1) h.1.0) in omega (arith, all)
items_paid ts nodes f k ps i j b h = none_more _ _ (saved ts nodes f k ps i j b h)

-- a body, of an `if` one or two

first_own : (k : Kind) (ps : List ℕ) → length (first_body_of (bodies_by k) ps) ≤ own (side_of k)
unfolding rule_of
first_own kind.If ps = let e = front_few (drop 1 ps) in omega (arith, e)
first_own kind.Switch ps = let e = front_few (last_of ps) in omega (arith, e)
first_own kind.While ps = let e = front_few (last_of ps) in omega (arith, e)
first_own kind.Do ps = let e = front_few (take 1 ps) in omega (arith, e)
first_own kind.For ps = let e = front_few (last_of ps) in omega (arith, e)
first_own _ ps = lit≤ tt

second_own : (k : Kind) (ps : List ℕ) → IsUpTo (most (side_of k)) (length ps) → length (second_branch_of (bodies_by k) ps) ≤ own (side_of k)
unfolding rule_of
second_own kind.If ps h = let e = length-drop 1 ps in let e' = length-drop 1 (drop 1 ps) in omega (arith, h, e, e')
second_own _ ps h = lit≤ tt

bodies_own : (k : Kind) (ps : List ℕ) → IsUpTo (most (side_of k)) (length ps) → length (bodies_of (bodies_by k) ps) ≤ own (side_of k)
unfolding rule_of
bodies_own kind.If ps h = let e = length-drop 1 ps in omega (arith, h, e)
bodies_own kind.Switch ps h = let e = last_few ps in omega (arith, e)
bodies_own kind.While ps h = let e = last_few ps in omega (arith, e)
bodies_own kind.Do ps h = let e = front_few ps in omega (arith, e)
bodies_own kind.For ps h = let e = last_few ps in omega (arith, e)
bodies_own kind.Label ps h = let e = last_few ps in omega (arith, e)
bodies_own kind.Case ps h = let e = last_few ps in omega (arith, e)
bodies_own kind.Default ps h = let e = last_few ps in omega (arith, e)
bodies_own _ ps h = lit≤ tt

label_own : (k : Kind) (named : Bool) (tokens : List Token) (n : Node) → length (label_by k named tokens n) ≤ own (side_of k)
unfolding rule_of
label_own kind.Label true tokens n = lit≤ tt
label_own kind.Label false tokens n = lit≤ tt
label_own _ named tokens n = lit≤ tt

unwrapped_one : (k : Kind) (tokens : List Token) (n : Node) → length (unwrapped_by k tokens n) ≤ 1
unwrapped_one kind.Compound tokens n = lit≤ tt
unwrapped_one _ tokens n = lit≤ tt

module _ (file : List ℕ) (tokens : List Token) {nodes : List Node} {items : List ℕ} (u : AreOfUnit (length tokens) nodes items) where
  -- the items of a node
  items_at_paid : (k : ℕ) (n : Node) → slice_get nodes k ≡ Some n → IsMadeNode u.lexemes u.limit nodes n
      → length (items_at nodes k) + credit_of n ≤ own (side_of n.kind) + sum_by (credit nodes) n.parts
  items_at_paid k n at made =
      subst (λ m. length (items_by m.kind m.parts) + credit_of n ≤ own (side_of n.kind) + sum_by (credit nodes) n.parts) (sym (at_is nodes k n at))
      (items_paid u.lexemes nodes u.below n.kind n.parts n.first (n.last + 1) (parts_within nodes u.below k n at) (laid made.spells))

  gone : length (level_of (items_give tokens nodes) (length nodes)) ≤ length tokens
  gone = by_credit u (items_give tokens nodes) (λ k n at made.
      let e = becoming_count tokens nodes (items_at nodes k) Nothing in let paid = items_at_paid k n at made in omega (arith, e, paid))

  braces : length (level_of (braces_give tokens nodes) (length nodes)) ≤ length tokens
  braces = by_credit u (braces_give tokens nodes) (λ k n at made.
      let e = each_one (λ p. unwrapped_by (node_at nodes p).kind tokens (node_at nodes p)) (items_at nodes k) (λ p. unwrapped_one (node_at nodes p).kind tokens (node_at nodes p)) in
      let paid = items_at_paid k n at made in omega (arith, e, paid))

  bodies : length (level_of (bodies_give tokens nodes) (length nodes)) ≤ length tokens
  bodies = by_own u (bodies_give tokens nodes) (λ k n at made.
      let e = in_place_count tokens nodes k (first_body_of (bodies_by (node_at nodes k).kind) (node_at nodes k).parts) in
      let le = subst (λ m. length (first_body_of (bodies_by m.kind) m.parts) ≤ own (side_of n.kind)) (sym (at_is nodes k n at)) (first_own n.kind n.parts) in
      omega (arith, e, le))

  elses : length (level_of (elses_give tokens nodes) (length nodes)) ≤ length tokens
  elses = by_own u (elses_give tokens nodes) (λ k n at made.
      let e = in_place_count tokens nodes k (second_branch_of (bodies_by (node_at nodes k).kind) (node_at nodes k).parts) in
      let le = subst (λ m. length (second_branch_of (bodies_by m.kind) m.parts) ≤ own (side_of n.kind)) (sym (at_is nodes k n at)) (second_own n.kind n.parts (parts_most u k n at made)) in
      omega (arith, e, le))

  emptied : length (level_of (emptied_give tokens nodes) (length nodes)) ≤ length tokens
  emptied = by_own u (emptied_give tokens nodes) (λ k n at made.
      let e = becoming_count tokens nodes (bodies_of (bodies_by (node_at nodes k).kind) (node_at nodes k).parts) Semicolon in
      let le = subst (λ m. length (bodies_of (bodies_by m.kind) m.parts) ≤ own (side_of n.kind)) (sym (at_is nodes k n at)) (bodies_own n.kind n.parts (parts_most u k n at made)) in
      omega (arith, e, le))

  labels : (functions : List ℕ) (jumps : List Jump) → length (level_of (labels_give file tokens nodes functions jumps) (length nodes)) ≤ length tokens
  labels functions jumps = by_own u (labels_give file tokens nodes functions jumps) (λ k n at made.
      subst (λ m. length (label_by m.kind (list_any (names_label file tokens (function_at functions k) m.first) jumps) tokens m) ≤ own (side_of n.kind)) (sym (at_is nodes k n at))
      (label_own n.kind (list_any (names_label file tokens (function_at functions k) n.first) jumps) tokens n))

  pub statements_few : AreFew (length tokens) (s_offering file tokens nodes)
  statements_few = levels_few (length tokens) (s_offering file tokens nodes).levels
      (gone, (bodies, (elses, (emptied, (braces, (labels (functions_of nodes) (jumps_of nodes (functions_of nodes)), tt))))))
