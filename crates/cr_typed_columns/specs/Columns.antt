-- All columns of a typed unit, by what was checked of its nodes.
use Rattle.std.specs.Prelude.{◌≡◌, ℕ, ◌++◌, List, [], Bool, true, false, Option, Some, length, map, slice_index_or, if◌then◌else◌}
use Rattle.cr_syntax.specs.declared.node.Kind.{Kind}
use Rattle.cr_syntax.specs.declared.node.Kind.TheVariants as kind
use Rattle.cr_syntax.specs.declared.node.Node.{Node}
use Rattle.cr_typed_columns.specs.Reading.{Parsed}
use Rattle.cr_scopes_events.specs.Scripts.{kind_at}
use Rattle.cr_check_types.specs.declared.layout.Layout.{Layout}
use Rattle.cr_check_types.specs.declared.shape.Shape.{Shape}
use Rattle.cr_check_types.specs.Types.{Qualified, unknown, type_at, IsRow}
use Rattle.cr_check_types.specs.Layouts as layouts
use Rattle.cr_check_types.specs.Shared.{IsCanonical, IsWithAll}
use Rattle.cr_typed.specs.declared.typed.Typed.{Typed}
use Rattle.cr_typed.specs.declared.typed.Put.{Put}
use Rattle.cr_check_expressions.specs.declared.known.Member.{Member}
use Rattle.cr_check_initialisers.specs.Plans.{Entry, puts_of}
use Rattle.cr_typed_columns.specs.declared.checked.CheckedColumns.{CheckedColumns}
use Rattle.cr_typed_columns.specs.declared.assembling.Columns.{Columns}
use Rattle.cr_typed_columns.specs.declared.assembling.Entities.{Entities}
use Rattle.cr_typed_columns.specs.declared.assembling.Shaped.{Shaped}
use Rattle.cr_typed_columns.specs.declared.assembling.Values.{Values}
use Rattle.cr_typed_columns.specs.Rows.{listed, levels_of_all, levels_upto, put_entry, put_type, AreRowsOf, AreAllRows, AreAllPuts}
use Rattle.cr_typed_columns.specs.Names.{ref_of, duration_of, named_of}
use Rattle.cr_typed_columns.specs.Expressions.{type_of_node, constant_of, valued_of, chosen_of}
use Rattle.cr_typed_columns.specs.Functions.{parameters_of, main_of}

-- ---- structures, by the nodes of their contents (6.7.2.1)

abbrev pub is_structure : Option Kind → Bool
is_structure (Some kind.StructContent) = true
is_structure k = false

abbrev pub member_type : (ℕ → Qualified) → Member → Qualified
member_type look member = look member.row

abbrev pub member_types : List Node → CheckedColumns → ℕ → List Qualified
member_types nodes j i =
    if is_structure (kind_at nodes i) then map (member_type (type_at j.table.now)) (slice_index_or j.members.now i []) else []

abbrev pub layout_at : CheckedColumns → ℕ → Layout
layout_at j i = slice_index_or j.layouts.now i layouts.nothing

-- ---- initialisers (6.7.9)

abbrev pub puts_at : CheckedColumns → ℕ → List Put
puts_at j i = puts_of (slice_index_or j.lines.now i [])

abbrev pub plan_entries : CheckedColumns → ℕ → List Entry
plan_entries j i = map (put_entry j.table.now) (puts_at j i)

abbrev pub plan_types : CheckedColumns → ℕ → List Qualified
plan_types j i = map (put_type j.table.now) (puts_at j i)

-- ---- the table

-- the types of a unit, each behind those below it: of its expressions, of its names, of its members, and of what is initialised
abbrev pub types_of_unit : Parsed → CheckedColumns → List Qualified
types_of_unit u j =
    levels_of_all (listed (type_of_node j) (length u.nodes))
    ++ (levels_of_all (listed (named_of u j) (length u.nodes))
    ++ (levels_upto (member_types u.nodes j) (length u.nodes) ++ levels_upto (plan_types j) (length u.nodes)))

-- each of them once, behind the row of no type
pub record IsTableOf (types : List Qualified) (shapes : List Shape) : Type 0 where
  pub first : List Shape
  pub alone : length first ≡ 1
  pub no_type : IsRow first 0 unknown
  pub with_all : IsWithAll first types shapes
  pub canonical : IsCanonical shapes

-- the table, and rows of it
pub record IsShaped (u : Parsed) (j : CheckedColumns) (s : Shaped) : Type 0 where
  pub shapes : IsTableOf (types_of_unit u j) s.shapes
  pub types : AreRowsOf s.shapes (listed (type_of_node j) (length u.nodes)) s.types
  pub named : AreRowsOf s.shapes (listed (named_of u j) (length u.nodes)) s.named
  pub members : AreAllRows s.shapes (member_types u.nodes j) (length u.nodes) s.members
  pub plans : AreAllPuts s.shapes (plan_entries j) (length u.nodes) s.plans

-- ---- the columns

-- what names stand for
pub record AreEntities (u : Parsed) (j : CheckedColumns) (e : Entities) : Type 0 where
  pub refs : e.refs ≡ listed (ref_of u j) (length u.nodes)
  pub durations : e.durations ≡ listed (duration_of u.nodes j) (length u.nodes)
  pub parameters : e.parameters ≡ listed (parameters_of u j) (length u.nodes)

-- what nodes give by themselves
pub record AreValues (nodes : List Node) (j : CheckedColumns) (v : Values) : Type 0 where
  pub valued : v.valued ≡ listed (valued_of nodes j) (length nodes)
  pub constants : v.constants ≡ listed (constant_of j) (length nodes)
  pub layouts_are : v.layouts ≡ listed (layout_at j) (length nodes)
  pub chosen : v.chosen ≡ listed (chosen_of nodes j) (length nodes)

-- all that is worked out of a unit
pub record AreColumns (file : List ℕ) (u : Parsed) (j : CheckedColumns) (c : Columns) : Type 0 where
  pub shaped : IsShaped u j c.shaped
  pub entities : AreEntities u j c.entities
  pub values : AreValues u.nodes j c.values
  pub main : c.main ≡ main_of file u

pub record IsElaborated (file : List ℕ) (u : Parsed) (texts : List (List ℕ)) (j : CheckedColumns) (t : Typed) : Type 0 where
  pub file_is : t.file ≡ file
  pub tokens_are : t.tokens ≡ u.tokens
  pub nodes_are : t.nodes ≡ u.nodes
  pub items_are : t.items ≡ u.items
  pub shapes : IsTableOf (types_of_unit u j) t.shapes
  pub types : AreRowsOf t.shapes (listed (type_of_node j) (length u.nodes)) t.types
  pub refs : t.refs ≡ listed (ref_of u j) (length u.nodes)
  pub valued : t.valued ≡ listed (valued_of u.nodes j) (length u.nodes)
  pub named : AreRowsOf t.shapes (listed (named_of u j) (length u.nodes)) t.named
  pub durations : t.durations ≡ listed (duration_of u.nodes j) (length u.nodes)
  pub constants : t.constants ≡ listed (constant_of j) (length u.nodes)
  pub layouts_are : t.layouts ≡ listed (layout_at j) (length u.nodes)
  pub members : AreAllRows t.shapes (member_types u.nodes j) (length u.nodes) t.members
  pub chosen : t.chosen ≡ listed (chosen_of u.nodes j) (length u.nodes)
  pub parameters : t.parameters ≡ listed (parameters_of u j) (length u.nodes)
  pub plans : AreAllPuts t.shapes (plan_entries j) (length u.nodes) t.plans
  pub texts_are : t.texts ≡ texts
  pub main : t.main ≡ main_of file u
