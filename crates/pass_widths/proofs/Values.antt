-- The levels of pass v.
use Rattle.std.proofs.Common.{ℕ, ◌+◌, ◌≤◌, Bool, true, false, List, [], ◌∷◌, Option, None, Some, length, drop, slice_get, if◌then◌else◌, lit≤, sym, subst, arith}
use Rattle.std.specs.List.{sum_by}
use Rattle.cr_tokens.specs.declared.token.Token.{Token}
use Rattle.cr_syntax.specs.declared.node.Kind.{Kind}
use Rattle.cr_syntax.specs.declared.node.Kind.TheVariants as kind
use Rattle.cr_syntax.specs.declared.node.Node.{Node}
use Rattle.cr_syntax.specs.declared.part.Part.TheVariants as part
use Rattle.cr_syntax.specs.Kept.{AreBelow, PartsAreBelow, row_in}
use Rattle.cr_syntax.specs.Tables.{rule_of, side_of}
use Rattle.cr_syntax.specs.Words.{Lexeme}
use Rattle.cr_syntax_nodes.specs.Laid.{IsLaid}
use Rattle.cr_syntax_nodes.proofs.Laid.{laid}
use Rattle.cr_scopes.specs.declared.names.Names.{Names}
use Rattle.pass_levels.specs.Level.{level_of}
use Rattle.pass_levels.specs.Nodes.{node_at}
use Rattle.pass_params.specs.Functions.{part_at}
use Rattle.pass_values.specs.Declarators.{Facts, initial_of}
use Rattle.pass_values.specs.Values.{assigned_by, assigned_from, assigned_give, assignment_by, bared_alone, bared_by, bared_of, declarator_from, facts_in, initials_by, initials_give, items_by, items_give, left_by, moved_at, moved_by, moved_to, only_of, only_use, other_use, statement_by, statement_of, v_offering}
use Rattle.pass_widths.specs.Few.{AreFew, AreOfUnit}
use Rattle.pass_widths.proofs.Counted.{gathered_few, if_one}
use Rattle.pass_widths.proofs.Credits.{all_save, block_test, credit, credit_by, credit_of, declarators_save, none_more, saved}
use Rattle.pass_widths.proofs.Levels.{by_credit, by_own, each_one, levels_few}
use Rattle.pass_widths.proofs.Own.{own, row_stands}
use Rattle.pass_widths.proofs.Rows.{at_is, parts_within}

else_one : {X : Type 0} (b : Bool) (x : X) → length (if b then [] else x ∷ []) ≤ 1
else_one true x = lit≤ tt
else_one false x = lit≤ tt

-- each declarator gives one at the most

moved_to_one : (o : Option ℕ) (f : Facts) (n : Node) (row : List ℕ) (at expression : ℕ) → length (moved_to o f n row at expression) ≤ 1
moved_to_one None f n row at expression = lit≤ tt
moved_to_one (Some used) f n row at expression = else_one _ _

moved_one : (o : Option ℕ) (f : Facts) (n : Node) (row : List ℕ) (at : ℕ) → length (moved_by o f n row at) ≤ 1
moved_one None f n row at = lit≤ tt
moved_one (Some expression) f n row at = moved_to_one (only_use f (part_at row at)) f n row at expression

row_few : (f : Facts) (n : Node) (row : List ℕ) → length (initials_by kind.Declaration f n row) ≤ length row
row_few f n row = gathered_few (moved_at f n row)
    (λ at. moved_one (initial_of f.nodes (part_at row at)) f n row at) (length row)

-- and each statement

assigned_from_one : (o : Option ℕ) (f : Facts) (n : Node) (expression other : ℕ) → length (assigned_from o f n expression other) ≤ 1
assigned_from_one None f n expression other = lit≤ tt
assigned_from_one (Some at) f n expression other = lit≤ tt

assigned_one : (o : Option ℕ) (f : Facts) (n : Node) (expression token : ℕ) → length (assigned_by o f n expression token) ≤ 1
assigned_one None f n expression token = lit≤ tt
assigned_one (Some other) f n expression token = assigned_from_one (declarator_from f token) f n expression other

left_one : (k : Kind) (f : Facts) (n : Node) (expression : ℕ) (left : Node) → length (left_by k f n expression left) ≤ 1
left_one kind.Identifier f n expression left = assigned_one (other_use f left.first) f n expression left.first
left_one _ f n expression left = lit≤ tt

assignment_one : (k : Kind) (f : Facts) (n : Node) (parts : List ℕ) → length (assignment_by k f n parts) ≤ 1
assignment_one kind.Assign f n parts = left_one (node_at f.nodes (part_at parts 0)).kind f n (part_at parts 1) (node_at f.nodes (part_at parts 0))
assignment_one _ f n parts = lit≤ tt

statement_one : (o : Option ℕ) (f : Facts) (n : Node) → length (statement_of o f n) ≤ 1
statement_one None f n = lit≤ tt
statement_one (Some p) f n = assignment_one (node_at f.nodes p).kind f n (node_at f.nodes p).parts

statement_own : (k : Kind) (f : Facts) (n : Node) → length (statement_by k f n) ≤ own (side_of k)
unfolding rule_of
statement_own kind.ExpressionStatement f n = statement_one (slice_get n.parts 0) f n
statement_own _ f n = lit≤ tt

-- and each declaration in a block

bared_of_one : (o : Option ℕ) (f : Facts) (n : Node) (p : ℕ) → length (bared_of o f n p) ≤ 1
bared_of_one None f n p = lit≤ tt
bared_of_one (Some expression) f n p = if_one _ _

bared_alone_one : (o : Option ℕ) (f : Facts) (n : Node) → length (bared_alone o f n) ≤ 1
bared_alone_one None f n = lit≤ tt
bared_alone_one (Some p) f n = bared_of_one (initial_of f.nodes p) f n p

bared_one : (k : Kind) (f : Facts) (n : Node) → length (bared_by k f n) ≤ 1
bared_one kind.Declaration f n = bared_alone_one (only_of (drop 1 n.parts)) f n
bared_one _ f n = lit≤ tt

module _ (ts : List Lexeme) (nodes : List Node) (below : PartsAreBelow nodes) (f : Facts) where
  initials_paid : (k : Kind) (n : Node) (ps : List ℕ) (i j : ℕ) → AreBelow ps (length nodes) → IsLaid ts (side_of k) (row_in nodes ps) i j
      → length (initials_by k f n (drop 1 ps)) + credit_by k ps ≤ own (side_of k) + sum_by (credit nodes) ps
  unfolding rule_of
  initials_paid kind.Declaration n ps i j b h =
      let few = row_few f n (drop 1 ps) in let all = declarators_save ts nodes below ps i j b h in omega (arith, few, all)
  initials_paid k n ps i j b h = none_more _ _ (saved ts nodes below k ps i j b h)

  items_paid : (k : Kind) (ps : List ℕ) (i j : ℕ) → AreBelow ps (length nodes) → IsLaid ts (side_of k) (row_in nodes ps) i j
      → length (items_by k f ps) + credit_by k ps ≤ own (side_of k) + sum_by (credit nodes) ps
  unfolding rule_of
  items_paid kind.Compound ps i j b h =
      let few = each_one (λ p. bared_by (node_at f.nodes p).kind f (node_at f.nodes p)) ps (λ p. bared_one (node_at f.nodes p).kind f (node_at f.nodes p)) in
      let all = all_save ts nodes below part.BlockItem block_test ps b (row_stands part.BlockItem (row_in nodes ps) (i + 1) h.1.0) in omega (arith, few, all)
  items_paid k ps i j b h = none_more _ _ (saved ts nodes below k ps i j b h)

module _ (tokens : List Token) {nodes : List Node} {items : List ℕ} (names : Names) (u : AreOfUnit (length tokens) nodes items) where
  initials : length (level_of (initials_give (facts_in tokens nodes names)) (length nodes)) ≤ length tokens
  initials = by_credit u (initials_give (facts_in tokens nodes names)) (λ k n at made.
      subst (λ (m : Node). length (initials_by m.kind (facts_in tokens nodes names) m (drop 1 m.parts)) + credit_of n ≤ own (side_of n.kind) + sum_by (credit nodes) n.parts) (sym (at_is nodes k n at))
      (initials_paid u.lexemes nodes u.below (facts_in tokens nodes names) n.kind n n.parts n.first (n.last + 1) (parts_within nodes u.below k n at) (laid made.spells)))

  assigned : length (level_of (assigned_give (facts_in tokens nodes names)) (length nodes)) ≤ length tokens
  assigned = by_own u (assigned_give (facts_in tokens nodes names)) (λ k n at made.
      subst (λ (m : Node). length (statement_by m.kind (facts_in tokens nodes names) m) ≤ own (side_of n.kind)) (sym (at_is nodes k n at)) (statement_own n.kind (facts_in tokens nodes names) n))

  declarations : length (level_of (items_give (facts_in tokens nodes names)) (length nodes)) ≤ length tokens
  declarations = by_credit u (items_give (facts_in tokens nodes names)) (λ k n at made.
      subst (λ (m : Node). length (items_by m.kind (facts_in tokens nodes names) m.parts) + credit_of n ≤ own (side_of n.kind) + sum_by (credit nodes) n.parts) (sym (at_is nodes k n at))
      (items_paid u.lexemes nodes u.below (facts_in tokens nodes names) n.kind n.parts n.first (n.last + 1) (parts_within nodes u.below k n at) (laid made.spells)))

  pub values_few : AreFew (length tokens) (v_offering tokens nodes names)
  values_few = levels_few (length tokens) (v_offering tokens nodes names).levels (initials, (assigned, (declarations, tt)))
