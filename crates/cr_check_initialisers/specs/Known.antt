-- What is known where an initialiser is judged (C11 6.7.9).
use Rattle.std.specs.Prelude.{ℕ, ◌*◌, List, [], Bool, true, false, Option, None, Some, map, slice_get, slice_index_or}
use Rattle.cr_syntax.specs.declared.node.Kind.{Kind}
use Rattle.cr_syntax.specs.declared.node.Kind.TheVariants.{InitializerList, Text}
use Rattle.cr_syntax.specs.declared.node.Node.{Node}
pub use Rattle.cr_syntax.specs.Numbered.{first_if, parts_if}
use Rattle.cr_check_types.specs.declared.shape.Shape.{Shape}
use Rattle.cr_check_types.specs.Types.{Qualified, type_at}
use Rattle.cr_check_types.specs.declared.layout.Layout.{Layout}
use Rattle.cr_check_types.specs.Layouts.{count_of, element_of, single_of}
use Rattle.cr_check_operands.specs.declared.fact.Fact.{Fact}
use Rattle.cr_check_expressions.specs.declared.known.Member.{Member}
use Rattle.cr_check_operands.specs.Values.{Seen, no_type, seen_at}
use Rattle.cr_check_initialisers.specs.declared.anchor.Anchor.{Anchor}
use Rattle.cr_check_initialisers.specs.declared.anchor.Anchor.TheVariants.{Moving}
use Rattle.cr_check_initialisers.specs.declared.source.Source.{Source}

-- how many cells a type has, and the types of a structure's members in order; of a node what it has as an expression, what of its
-- address is constant, whether it is a string literal, whether it is a list in braces and the initialisers in it, and its first
-- token
pub record Known : Type 0 where
  pub cells : Qualified → ℕ
  pub members : ℕ → List Qualified
  pub seen : ℕ → Seen
  pub anchor : ℕ → Anchor
  pub literal : ℕ → Bool
  pub listed : ℕ → Bool
  pub initialisers : ℕ → List ℕ
  pub first : ℕ → ℕ

-- ---- the same of a unit's nodes

-- the types of members
abbrev pub member_types : List Shape → List Member → List Qualified
member_types shapes members = map (λ member. type_at shapes member.row) members

-- the scalars in a type (6.2.5p21)
abbrev pub cells_of : List Layout → Qualified → ℕ
cells_of layouts type = count_of type * (single_of layouts (element_of type)).cells

abbrev pub seen_if : List Shape → Option Fact → Seen
seen_if shapes None = no_type
seen_if shapes (Some fact) = seen_at shapes fact

abbrev pub is_text : Kind → Bool
is_text Text = true
is_text kind = false

abbrev pub is_list : Kind → Bool
is_list InitializerList = true
is_list kind = false

abbrev pub is_text_if : Option Node → Bool
is_text_if None = false
is_text_if (Some node) = is_text node.kind

abbrev pub is_list_if : Option Node → Bool
is_list_if None = false
is_list_if (Some node) = is_list node.kind

unfoldable pub known_of : Source → Known
known_of s = record {
  cells = λ t. cells_of s.layouts.now t;
  members = λ d. member_types s.table.now (slice_index_or s.members.now d []);
  seen = λ i. seen_if s.table.now (slice_get s.facts.now i);
  anchor = λ i. slice_index_or s.anchors.now i Moving;
  literal = λ i. is_text_if (slice_get s.nodes.now i);
  listed = λ i. is_list_if (slice_get s.nodes.now i);
  initialisers = λ i. parts_if (slice_get s.nodes.now i);
  first = λ i. first_if (slice_get s.nodes.now i);
}
