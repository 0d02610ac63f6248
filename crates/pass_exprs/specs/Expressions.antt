-- Pass c: expressions.
use Rattle.std.specs.Prelude.{ℕ, ◌-◌, nat_le, List, [], ◌∷◌, length, take, drop, if◌then◌else◌}
use Rattle.cr_tokens.specs.declared.token.Token.{Token}
use Rattle.cr_syntax.specs.declared.node.Node.{Node}
use Rattle.pass_edit.specs.declared.change.Change.{Change}
use Rattle.pass_edit.specs.declared.change.Text.{Text}
use Rattle.pass_edit.specs.declared.change.Text.TheVariants.{One, Zero}
use Rattle.pass_edit.specs.Forms.{nothing_kept}
use Rattle.pass_edit.specs.Menu.{Offering}
use Rattle.pass_levels.specs.declared.counted.Counted.{Counted}
use Rattle.pass_levels.specs.Level.{level_of}
use Rattle.pass_levels.specs.Nodes.{becoming, in_its_place, node_at}
use Rattle.pass_exprs.specs.Operands.{is_expression, operands_by, operands_of}

-- an expression becomes a constant
abbrev pub constant_gives : List Token → List Node → Text → ℕ → List Counted
constant_gives tokens nodes text k = if is_expression (operands_by (node_at nodes k).kind) then becoming tokens (node_at nodes k) text ∷ [] else []

-- the operands of node k
abbrev pub operands_at : List Node → ℕ → List ℕ
operands_at nodes k = operands_of (operands_by (node_at nodes k).kind) (node_at nodes k).parts

-- the last of two or more
abbrev pub last_of_several : List ℕ → List ℕ
last_of_several operands = if nat_le 2 (length operands) then drop (length operands - 1) operands else []

-- an expression with an operand becomes the first one
abbrev pub first_gives : List Token → List Node → ℕ → List Counted
first_gives tokens nodes k = in_its_place tokens nodes k (take 1 (operands_at nodes k))

-- one with several becomes the last one
abbrev pub last_gives : List Token → List Node → ℕ → List Counted
last_gives tokens nodes k = in_its_place tokens nodes k (last_of_several (operands_at nodes k))

-- What pass c offers: each expression becomes 0, at level 1 the constant 1, at level 2 its first operand, at level 3 the last one of several.
abbrev pub c_offering : List Token → List Node → Offering
c_offering tokens nodes = record {
  levels = level_of (constant_gives tokens nodes Zero) (length nodes)
      ∷ (level_of (constant_gives tokens nodes One) (length nodes)
      ∷ (level_of (first_gives tokens nodes) (length nodes)
      ∷ (level_of (last_gives tokens nodes) (length nodes)
      ∷ [])));
  kept = nothing_kept;
}
