-- What the nodes before a node have, by the rows of a table of types.
use Rattle.std.specs.Prelude.{ℕ, ◌<◌, List, [], Bool, false, Option, None, Some, length, map, slice_get, slice_index_or}
use Rattle.cr_syntax.specs.declared.node.Kind.{Kind}
use Rattle.cr_syntax.specs.declared.node.Node.{Node}
pub use Rattle.cr_syntax.specs.Numbered.{kind_if, first_if, first_in, parts_if}
use Rattle.cr_check_types.specs.declared.layout.Layout.{Layout}
use Rattle.cr_check_types.specs.declared.shape.Shape.{Shape}
use Rattle.cr_check_types.specs.Types.{Qualified, unknown, type_at}
use Rattle.cr_check_types.specs.Relations.{AreRows}
use Rattle.cr_check_operands.specs.Values.{Seen}
use Rattle.cr_check_expressions.specs.declared.known.Member.{Member}
use Rattle.cr_check_expressions.specs.Ruled.{facts_at, AreFacts}
use Rattle.cr_check_declarators.specs.declared.words.Specified.{Specified}
use Rattle.cr_check_declarators.specs.declared.declarator.Declarator.{Declarator}
use Rattle.cr_check_declarators.specs.declared.enumerators.Enumerated.{Enumerated}
use Rattle.cr_check_declarators.specs.Specifiers.{nothing}
use Rattle.cr_check_declarators.specs.Declarators.{name_alone}
use Rattle.cr_check_declarations.specs.declared.before.Columns.{Columns}

-- ---- nodes by number

abbrev pub kind_in : List Node → Option ℕ → Option Kind
kind_in nodes None = None
kind_in nodes (Some node) = kind_if (slice_get nodes node)

abbrev pub parts_in : List Node → Option ℕ → List ℕ
parts_in nodes None = []
parts_in nodes (Some node) = parts_if (slice_get nodes node)

-- ---- what they have

pub record Before : Type 0 where
  -- what an expression has
  pub seen : ℕ → Seen
  -- what specifiers say
  pub specified : ℕ → Specified
  -- the type that specifiers or a type name name, and that a whole declarator gives its name, or the result of its function
  pub named : ℕ → Qualified
  -- what a declarator has, and what it derives, from the name outwards
  pub declarator : ℕ → Declarator
  pub derived : ℕ → Qualified
  -- the types of the parameters of its function
  pub parameters : ℕ → List Qualified
  -- the layouts of the structures, and those with a constant member, by the nodes of their contents
  pub layouts : List Layout
  pub fixed : ℕ → Bool
  pub enumerated : ℕ → Option Enumerated

abbrev pub before_at : List Shape → Columns → Before
before_at shapes columns = record {
  seen = facts_at shapes columns.facts.now;
  specified = λ p. slice_index_or columns.specified.now p nothing;
  named = λ p. type_at shapes (slice_index_or columns.named.now p 0);
  declarator = λ p. slice_index_or columns.declarators.now p name_alone;
  derived = λ p. type_at shapes (slice_index_or columns.derivations.now p 0);
  parameters = λ p. map (type_at shapes) (slice_index_or columns.parameters.now p []);
  layouts = columns.layouts.now;
  fixed = λ p. slice_index_or columns.fixed.now p false;
  enumerated = λ p. slice_index_or columns.enumerated.now p None;
}

-- ---- of a node that may not be there

abbrev pub type_in : (ℕ → Qualified) → Option ℕ → Qualified
type_in at None = unknown
type_in at (Some node) = at node

abbrev pub specified_in : (ℕ → Specified) → Option ℕ → Specified
specified_in at None = nothing
specified_in at (Some node) = at node

abbrev pub declarator_in : (ℕ → Declarator) → Option ℕ → Declarator
declarator_in at None = name_alone
declarator_in at (Some node) = at node

abbrev pub enumerated_in : (ℕ → Option Enumerated) → Option ℕ → Option Enumerated
enumerated_in at None = None
enumerated_in at (Some node) = at node

-- ---- the rows are there

-- the rows of members
abbrev pub rows_of : List Member → List ℕ
rows_of members = map (λ member. member.row) members

pub record AreColumns (shapes : List Shape) (columns : Columns) : Type 0 where
  pub facts : AreFacts shapes columns.facts.now
  pub named : (p : ℕ) → slice_index_or columns.named.now p 0 < length shapes
  pub derivations : (p : ℕ) → slice_index_or columns.derivations.now p 0 < length shapes
  pub parameters : (p : ℕ) → AreRows shapes (slice_index_or columns.parameters.now p [])
  pub members : (p : ℕ) → AreRows shapes (rows_of (slice_index_or columns.members.now p []))
