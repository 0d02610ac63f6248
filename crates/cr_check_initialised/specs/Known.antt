-- What initialisers ask of the nodes before them.
use Rattle.std.specs.Prelude.{◌≡◌, ℕ, ◌≤◌, List, [], Bool, Option, None, Some, length, slice_get, slice_index_or}
use Rattle.cr_syntax.specs.declared.node.Node.{Node}
use Rattle.cr_check_types.specs.declared.shape.Shape.{Shape}
use Rattle.cr_check_types.specs.Types.{Qualified}
use Rattle.cr_check_expressions.specs.declared.known.Member.{Member}
use Rattle.cr_check_expressions.specs.Known.{Meaning, meaning_at, declared_by, parameters_in, room_of_declared}
use Rattle.cr_check_initialisers.specs.declared.anchor.Anchor.{Anchor}
use Rattle.cr_check_initialisers.specs.Known.{Known, cells_of, member_types, is_text_if, is_list_if, parts_if, first_if}
use Rattle.cr_check_declarations.specs.declared.before.Columns.{Columns}
use Rattle.cr_check_declarations.specs.Before.{Before, before_at, AreColumns}
use Rattle.cr_check_initialised.specs.Anchors.{anchor_at}

abbrev pub known_by : List Node → Before → (ℕ → Anchor) → (ℕ → List Qualified) → Known
known_by nodes b anchor members = record {
  cells = λ t. cells_of b.layouts t;
  members = members;
  seen = b.seen;
  anchor = anchor;
  literal = λ i. is_text_if (slice_get nodes i);
  listed = λ i. is_list_if (slice_get nodes i);
  initialisers = λ i. parts_if (slice_get nodes i);
  first = λ i. first_if (slice_get nodes i);
}

-- ---- the same by columns and the rows of a table

abbrev pub members_at : List Shape → List (List Member) → ℕ → List Qualified
members_at shapes members structure = member_types shapes (slice_index_or members structure [])

abbrev pub known_at : List Shape → List Node → Columns → List Anchor → Known
known_at shapes nodes columns anchors =
    known_by nodes (before_at shapes columns) (anchor_at anchors) (members_at shapes columns.members.now)

-- what a node declares
abbrev pub declared_at : List Shape → Columns → Option ℕ → Meaning
declared_at shapes columns node =
    meaning_at shapes (parameters_in columns.parameters.now node) (declared_by columns.declared.now node)

-- ---- the rows are there

pub record AreReady (shapes : List Shape) (c : Columns) : Type 0 where
  pub columns : AreColumns shapes c
  pub declared : (node : Option ℕ) → room_of_declared (declared_by c.declared.now node) ≤ length shapes
