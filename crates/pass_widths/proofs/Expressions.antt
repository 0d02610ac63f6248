-- The levels of pass c.
use Rattle.std.proofs.Common.{ℕ, ◌-◌, ◌≤◌, true, false, List, [], ◌∷◌, length, take, drop, nat_le, if◌then◌else◌, lit≤, sym, subst, arith}
use Rattle.cr_tokens.specs.declared.token.Token.{Token}
use Rattle.cr_syntax.specs.declared.node.Kind.{Kind}
use Rattle.cr_syntax.specs.declared.node.Kind.TheVariants as kind
use Rattle.cr_syntax.specs.declared.node.Node.{Node}
use Rattle.cr_syntax.specs.Tables.{rule_of, side_of}
use Rattle.pass_edit.specs.declared.change.Text.{Text}
use Rattle.pass_edit.specs.declared.change.Text.TheVariants.{One, Zero}
use Rattle.pass_exprs.specs.declared.operands.Operands.{Operands}
use Rattle.pass_exprs.specs.declared.operands.Operands.TheVariants.{BehindFirst, EveryPart, NoExpression, NoPart}
use Rattle.pass_exprs.specs.Expressions.{c_offering, constant_gives, first_gives, last_gives, last_of_several, operands_at}
use Rattle.pass_exprs.specs.Operands.{is_expression, operands_by, operands_of}
use Rattle.pass_levels.specs.declared.counted.Counted.{Counted}
use Rattle.pass_levels.specs.Level.{level_of}
use Rattle.pass_levels.specs.Nodes.{becoming}
use Rattle.pass_widths.specs.Few.{AreFew, AreOfUnit}
use Rattle.pass_widths.proofs.Levels.{by_own, front_few, in_place_count, last_few, levels_few}
use Rattle.pass_widths.proofs.Own.{own}
use Rattle.pass_widths.proofs.Rows.{at_is}

-- an expression has a token of its own

constant_own : (k : Kind) (x : Counted) → length (if is_expression (operands_by k) then x ∷ [] else []) ≤ own (side_of k)
unfolding rule_of
constant_own kind.FunctionDefinition x = lit≤ tt
constant_own _ x = lit≤ tt

-- of its operands one may be named
abbrev one_of : Operands → ℕ
one_of NoExpression = 0
one_of _ = 1

one_own : (k : Kind) → one_of (operands_by k) ≤ own (side_of k)
unfolding rule_of
one_own kind.FunctionDefinition = lit≤ tt
one_own _ = lit≤ tt

first_one : (o : Operands) (ps : List ℕ) → length (take 1 (operands_of o ps)) ≤ one_of o
first_one NoExpression ps = lit≤ tt
first_one EveryPart ps = front_few ps
first_one BehindFirst ps = front_few (drop 1 ps)
first_one NoPart ps = lit≤ tt

several_one : (ps : List ℕ) → length (last_of_several ps) ≤ 1
several_one ps = elim (nat_le 2 (length ps)) as (λ b. length (if b then drop (length ps - 1) ps else []) ≤ 1) [ true ↦ last_few ps | false ↦ omega arith ]

last_one : (o : Operands) (ps : List ℕ) → length (last_of_several (operands_of o ps)) ≤ one_of o
last_one NoExpression ps = lit≤ tt
last_one EveryPart ps = several_one ps
last_one BehindFirst ps = several_one (drop 1 ps)
last_one NoPart ps = lit≤ tt

module _ (tokens : List Token) {nodes : List Node} {items : List ℕ} (u : AreOfUnit (length tokens) nodes items) where
  constants : (text : Text) → length (level_of (constant_gives tokens nodes text) (length nodes)) ≤ length tokens
  constants text = by_own u (constant_gives tokens nodes text) (λ k n at made.
      subst (λ m. length (if is_expression (operands_by m.kind) then becoming tokens m text ∷ [] else []) ≤ own (side_of n.kind)) (sym (at_is nodes k n at)) (constant_own n.kind (becoming tokens n text)))

  firsts : length (level_of (first_gives tokens nodes) (length nodes)) ≤ length tokens
  firsts = by_own u (first_gives tokens nodes) (λ k n at made.
      let e = in_place_count tokens nodes k (take 1 (operands_at nodes k)) in
      let le = subst (λ m. length (take 1 (operands_of (operands_by m.kind) m.parts)) ≤ one_of (operands_by n.kind)) (sym (at_is nodes k n at)) (first_one (operands_by n.kind) n.parts) in
      let paid = one_own n.kind in omega (arith, e, le, paid))

  lasts : length (level_of (last_gives tokens nodes) (length nodes)) ≤ length tokens
  lasts = by_own u (last_gives tokens nodes) (λ k n at made.
      let e = in_place_count tokens nodes k (last_of_several (operands_at nodes k)) in
      let le = subst (λ m. length (last_of_several (operands_of (operands_by m.kind) m.parts)) ≤ one_of (operands_by n.kind)) (sym (at_is nodes k n at)) (last_one (operands_by n.kind) n.parts) in
      let paid = one_own n.kind in omega (arith, e, le, paid))

  pub expressions_few : AreFew (length tokens) (c_offering tokens nodes)
  expressions_few = levels_few (length tokens) (c_offering tokens nodes).levels (constants Zero, (constants One, (firsts, (lasts, tt))))
