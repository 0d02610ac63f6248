-- The levels of pass i.
use Rattle.std.proofs.Common.{◌≡◌, ℕ, ◌≤◌, List, Option, None, Some, length, slice_get, lit≤, refl, sym, subst, arith}
use Rattle.cr_tokens.specs.declared.token.Token.{Token}
use Rattle.cr_syntax.specs.declared.node.Kind.{Kind}
use Rattle.cr_syntax.specs.declared.node.Kind.TheVariants as kind
use Rattle.cr_syntax.specs.declared.node.Node.{Node}
use Rattle.cr_syntax.specs.Tables.{rule_of, side_of}
use Rattle.cr_scopes.specs.declared.names.Names.{Names}
use Rattle.pass_levels.specs.Level.{level_of}
use Rattle.pass_levels.specs.Nodes.{node_at}
use Rattle.pass_inline.specs.declared.known.Way.{Way}
use Rattle.pass_inline.specs.declared.known.Way.TheVariants.{Block, Expression}
use Rattle.pass_inline.specs.Inlined.{Facts, call_by, calls_give, facts_in, i_offering, inlining_by, place_of, statement_by, statement_of, statements_give}
use Rattle.pass_widths.specs.Few.{AreFew, AreOfUnit}
use Rattle.pass_widths.proofs.Counted.{if_one}
use Rattle.pass_widths.proofs.Levels.{by_own, levels_few}
use Rattle.pass_widths.proofs.Own.{own}
use Rattle.pass_widths.proofs.Rows.{at_is}

inlined_one : (o : Option ℕ) (f : Facts) (way : Way) (call : ℕ) (n : Node) → length (inlining_by o f way call n) ≤ 1
inlined_one None f way call n = lit≤ tt
inlined_one (Some at) f way call n = if_one _ _

call_one : (k : Kind) (f : Facts) (way : Way) (call : ℕ) (n : Node) → length (call_by k f way call n) ≤ 1
call_one kind.Call f way call n = inlined_one (place_of f (node_at f.nodes call).first) f way call n
call_one _ f way call n = lit≤ tt

-- a call and an expression statement have tokens of their own

call_own : (k : Kind) (f : Facts) (way : Way) (call : ℕ) (n : Node) → length (call_by k f way call n) ≤ own (side_of k)
unfolding rule_of
call_own kind.Call f way call n = let one = inlined_one (place_of f (node_at f.nodes call).first) f way call n in omega (arith, one)
call_own _ f way call n = lit≤ tt

statement_one : (o : Option ℕ) (f : Facts) (n : Node) → length (statement_of o f n) ≤ 1
statement_one None f n = lit≤ tt
statement_one (Some part) f n = call_one (node_at f.nodes part).kind f Block part n

statement_own : (k : Kind) (f : Facts) (n : Node) → length (statement_by k f n) ≤ own (side_of k)
unfolding rule_of
statement_own kind.ExpressionStatement f n = statement_one (slice_get n.parts 0) f n
statement_own _ f n = lit≤ tt

module _ (tokens : List Token) {nodes : List Node} {items : List ℕ} (names : Names) (u : AreOfUnit (length tokens) nodes items) where
  calls : (f : Facts) → f.nodes ≡ nodes → length (level_of (calls_give f) (length nodes)) ≤ length tokens
  calls f same = by_own u (calls_give f) (λ k n at made.
      subst (λ ns. length (call_by (node_at ns k).kind f Expression k (node_at ns k)) ≤ own (side_of n.kind)) (sym same)
      (subst (λ m. length (call_by m.kind f Expression k m) ≤ own (side_of n.kind)) (sym (at_is nodes k n at)) (call_own n.kind f Expression k n)))

  statements : (f : Facts) → f.nodes ≡ nodes → length (level_of (statements_give f) (length nodes)) ≤ length tokens
  statements f same = by_own u (statements_give f) (λ k n at made.
      subst (λ ns. length (statement_by (node_at ns k).kind f (node_at ns k)) ≤ own (side_of n.kind)) (sym same)
      (subst (λ m. length (statement_by m.kind f m) ≤ own (side_of n.kind)) (sym (at_is nodes k n at)) (statement_own n.kind f n)))

  pub inlined_few : AreFew (length tokens) (i_offering tokens nodes names)
  inlined_few = levels_few (length tokens) (i_offering tokens nodes names).levels
      (calls (facts_in tokens nodes names) refl, (statements (facts_in tokens nodes names) refl, tt))
