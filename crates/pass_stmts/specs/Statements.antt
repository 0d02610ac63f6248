-- Pass s: statements.
use Rattle.std.specs.Prelude.{ℕ, List, [], ◌∷◌, ◌++◌, length}
use Rattle.std.specs.List.{flat_map}
use Rattle.cr_tokens.specs.declared.token.Token.{Token}
use Rattle.cr_syntax.specs.declared.node.Kind.{Kind}
use Rattle.cr_syntax.specs.declared.node.Kind.TheVariants.{Compound}
use Rattle.cr_syntax.specs.declared.node.Node.{Node}
use Rattle.pass_edit.specs.declared.change.Text.TheVariants.{Nothing, Semicolon}
use Rattle.pass_edit.specs.Forms.{nothing_kept}
use Rattle.pass_edit.specs.Menu.{Offering}
use Rattle.pass_levels.specs.declared.counted.Counted.{Counted}
use Rattle.pass_levels.specs.Level.{level_of}
use Rattle.pass_levels.specs.Nodes.{each_becoming, in_its_place, node_at}
use Rattle.pass_levels.specs.Places.{gone}
use Rattle.pass_stmts.specs.Bodies.{bodies_by, bodies_of, first_body_of, second_branch_of}
use Rattle.pass_stmts.specs.Labels.{functions_of, jumps_of, labels_give}

-- the items of a compound statement; no other node has any
abbrev pub items_by : Kind → List ℕ → List ℕ
items_by Compound parts = parts
items_by _ parts = []

abbrev pub items_at : List Node → ℕ → List ℕ
items_at nodes k = items_by (node_at nodes k).kind (node_at nodes k).parts

-- each item of a compound statement goes
abbrev pub items_give : List Token → List Node → ℕ → List Counted
items_give tokens nodes k = each_becoming tokens nodes (items_at nodes k) Nothing

-- a statement becomes its body, of an `if` the first one
abbrev pub bodies_give : List Token → List Node → ℕ → List Counted
bodies_give tokens nodes k = in_its_place tokens nodes k (first_body_of (bodies_by (node_at nodes k).kind) (node_at nodes k).parts)

-- an `if` with `else` becomes its second body
abbrev pub elses_give : List Token → List Node → ℕ → List Counted
elses_give tokens nodes k = in_its_place tokens nodes k (second_branch_of (bodies_by (node_at nodes k).kind) (node_at nodes k).parts)

-- each body becomes an empty statement
abbrev pub emptied_give : List Token → List Node → ℕ → List Counted
emptied_give tokens nodes k = each_becoming tokens nodes (bodies_of (bodies_by (node_at nodes k).kind) (node_at nodes k).parts) Semicolon

-- the first and the last token of a compound statement go, which are its braces
abbrev pub unwrapped : List Token → Node → Counted
unwrapped tokens n = record { first = n.first; last = n.last; edit = gone tokens n.first n.first ∷ (gone tokens n.last n.last ∷ []) }

abbrev pub unwrapped_by : Kind → List Token → Node → List Counted
unwrapped_by Compound tokens n = unwrapped tokens n ∷ []
unwrapped_by _ tokens n = []

-- of each item that is a compound statement the two braces go
abbrev pub braces_give : List Token → List Node → ℕ → List Counted
braces_give tokens nodes k = flat_map (λ p. unwrapped_by (node_at nodes p).kind tokens (node_at nodes p)) (items_at nodes k)

-- What pass s offers: at level 0 items of compound statements go, at level 1 statements become their bodies, at level 2 the bodies behind
-- `else`, at level 3 bodies become empty statements, at level 4 the braces of items go, and at level 5 labels that no `goto` names.
abbrev pub s_offering : List ℕ → List Token → List Node → Offering
s_offering file tokens nodes = record {
  levels = level_of (items_give tokens nodes) (length nodes)
      ∷ (level_of (bodies_give tokens nodes) (length nodes)
      ∷ (level_of (elses_give tokens nodes) (length nodes)
      ∷ (level_of (emptied_give tokens nodes) (length nodes)
      ∷ (level_of (braces_give tokens nodes) (length nodes)
      ∷ (level_of (labels_give file tokens nodes (functions_of nodes) (jumps_of nodes (functions_of nodes))) (length nodes)
      ∷ [])))));
  kept = nothing_kept;
}
