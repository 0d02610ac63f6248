-- Which structures the expressions of a unit name members of.
use Rattle.std.specs.Prelude.{ℕ, List, Option, None, map}
use Rattle.cr_syntax.specs.declared.node.Kind.{Kind}
use Rattle.cr_syntax.specs.declared.node.Kind.TheVariants as kind
use Rattle.cr_syntax.specs.declared.node.Node.{Node}
use Rattle.cr_check_operands.specs.Values.{Seen}
use Rattle.cr_check_operands.specs.Places.{structure_in}
use Rattle.cr_check_expressions.specs.Ruled.{facts_at, operand, pointed_structure, value}
use Rattle.cr_check.specs.declared.checked.Checked.{Checked}

-- The structure whose member a node names (6.5.2.3), by its content: with `.` the one that its operand is, with `->` the one that its operand
-- points to. These are the structures in which the constraints ask for the member.
abbrev pub structure_by : Kind → (ℕ → Seen) → List ℕ → Option ℕ
structure_by kind.Member at parts = structure_in (operand at parts 0).type
structure_by kind.PointerMember at parts = pointed_structure (value at parts 0)
structure_by other at parts = None

abbrev pub structure_of : (ℕ → Seen) → Node → Option ℕ
structure_of at n = structure_by n.kind at n.parts

-- what nodes have, as they were checked
abbrev pub seen_in : Checked → ℕ → Seen
seen_in j = facts_at j.table j.whole.typing.facts

-- for each node the structure whose member it names
abbrev pub structures_by : (ℕ → Seen) → List Node → List (Option ℕ)
structures_by at nodes = map (structure_of at) nodes

abbrev pub structures_of : List Node → Checked → List (Option ℕ)
structures_of nodes j = structures_by (seen_in j) nodes
