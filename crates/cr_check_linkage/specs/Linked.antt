-- The declarations of a linked name (C11 6.2.2): what each does and those before it did, the type that uses see, and the composite type
-- of all so far.
use Rattle.std.specs.Prelude.{◌≡◌, ℕ, ◌<◌, ◌&&◌, List, [], Bool, true, false, Option, None, Some, length, map, slice_get, slice_index_or, if◌then◌else◌}
use Rattle.std.specs.Option.{is_some}
use Rattle.cr_syntax.specs.declared.node.Kind.{Kind}
use Rattle.cr_syntax.specs.declared.node.Kind.TheVariants as kind
use Rattle.cr_syntax.specs.declared.node.Node.{Node}
use Rattle.cr_check_enclosing.specs.declared.context.Place.{Place}
use Rattle.cr_check_enclosing.specs.declared.context.Place.TheVariants as place
use Rattle.cr_check_types.specs.declared.shape.Shape.{Shape}
use Rattle.cr_check_types.specs.Types.{type_at}
use Rattle.cr_check_types.specs.Relations.{AreRows}
use Rattle.cr_check_expressions.specs.declared.known.Declared.TheVariants.{Unclear}
use Rattle.cr_check_declarators.specs.declared.words.Specified.{Specified}
use Rattle.cr_check_declarators.specs.declared.declarator.Declarator.{Declarator}
use Rattle.cr_check_declarators.specs.declared.linkages.Linkage.{Linkage}
use Rattle.cr_check_declarators.specs.declared.linkages.Linkage.TheVariants.{Alone, Internal, External}
use Rattle.cr_check_declarators.specs.declared.linkages.Declaration.{Declaration}
use Rattle.cr_check_declarators.specs.Linkages.{linkage_of, with_declaration_of}
use Rattle.cr_check_declarations.specs.declared.tree.Tree.{Tree}
use Rattle.cr_check_declarations.specs.declared.before.Columns.{Columns}
use Rattle.cr_check_declarations.specs.Before.{kind_in, specified_in}
use Rattle.cr_check_declarations.specs.Named.{is_declarator, declaration_of, is_initialised, specifiers_in, class_of}
use Rattle.cr_check_declarations.specs.Faults.{place_of}
use Rattle.cr_check_linkage.specs.NameTypes.{NameType, of_none, type_as, joined_type}
use Rattle.cr_check_linkage.specs.declared.links.Links.{Links}

-- ---- what the nodes before a node have

pub record Past : Type 0 where
  -- what the declarations of a linked name did, up to the one at the node
  pub linked : ℕ → Option Declaration
  -- the type with which uses of this declaration see its name
  pub seen : ℕ → NameType
  -- the composite type of all its declarations up to this one
  pub composite : ℕ → NameType

abbrev pub name_type_at : List Shape → Columns → ℕ → NameType
name_type_at shapes columns p =
    type_as (slice_index_or columns.declared.now p Unclear) (type_at shapes (slice_index_or columns.named.now p 0))
    (map (type_at shapes) (slice_index_or columns.parameters.now p []))

abbrev pub composite_at : List Shape → Columns → Links → ℕ → NameType
composite_at shapes columns links p =
    type_as (slice_index_or columns.declared.now p Unclear) (type_at shapes (slice_index_or links.composites.now p 0))
    (map (type_at shapes) (slice_index_or links.parameters.now p []))

abbrev pub past_at : List Shape → Columns → Links → Past
past_at shapes columns links = record {
  linked = λ p. slice_index_or links.linked.now p None;
  seen = name_type_at shapes columns;
  composite = composite_at shapes columns links;
}

abbrev pub linked_in : (ℕ → Option Declaration) → Option ℕ → Option Declaration
linked_in at None = None
linked_in at (Some node) = at node

abbrev pub name_type_in : (ℕ → NameType) → Option ℕ → NameType
name_type_in at None = of_none
name_type_in at (Some node) = at node

-- the rows are there
pub record AreLinks (shapes : List Shape) (links : Links) : Type 0 where
  pub composites : (p : ℕ) → slice_index_or links.composites.now p 0 < length shapes
  pub parameters : (p : ℕ) → AreRows shapes (slice_index_or links.parameters.now p [])

-- ---- what a declaration of a name does

abbrev pub is_body_behind : Option Kind → Bool
is_body_behind (Some kind.FunctionDefinition) = true
is_body_behind k = false

abbrev pub is_file : Place → Bool
is_file place.File = true
is_file at = false

abbrev pub linkage_in : Option Declaration → Option Linkage
linkage_in None = None
linkage_in (Some declaration) = Some declaration.linkage

-- the linkage of the name of a whole declarator, by the declaration that is visible directly before it (6.2.2p4)
abbrev pub linkage_by : Tree → (ℕ → Specified) → Declarator → Option Declaration → ℕ → Option ℕ → Linkage
linkage_by t said own visible i None = Alone
linkage_by t said own visible i (Some declaration) =
    linkage_of (place_of t i) (class_of (specified_in said (specifiers_in t.nodes.now (Some declaration))).storage) (is_some own.function)
    (linkage_in visible)

-- it has a body (6.9.1), or an initialiser at file scope (6.9.2p1)
abbrev pub declaration_by : Tree → ℕ → Linkage → Option ℕ → Declaration
declaration_by t i linkage declaration = record {
  linkage = linkage;
  defines = is_body_behind (kind_in t.nodes.now declaration);
  initialised = is_file (place_of t i) && is_initialised (kind_in t.nodes.now (slice_index_or t.above.now i None));
}

abbrev pub declaration_at : Tree → (ℕ → Specified) → Declarator → (ℕ → Option Declaration) → ℕ → Declaration
declaration_at t said own linked i =
    declaration_by t i
    (linkage_by t said own (linked_in linked (slice_index_or t.earlier.now i None)) i (declaration_of t.nodes.now t.above.now i))
    (declaration_of t.nodes.now t.above.now i)

-- ---- what the declarations of a name did so far

-- none of a name without linkage
abbrev pub linked_as : Linkage → Declaration → Option Declaration
linked_as Alone all = None
linked_as Internal all = Some all
linked_as External all = Some all

abbrev pub with_linked : Option Declaration → Declaration → Option Declaration
with_linked before now = linked_as now.linkage (with_declaration_of before now)

-- an initialised declarator declares what its declarator does
abbrev pub linked_by : Kind → Tree → (ℕ → Specified) → Declarator → (ℕ → Option Declaration) → ℕ → Node → Option Declaration
linked_by kind.InitDeclarator t said own linked i n = linked_in linked (slice_get n.parts 0)
linked_by k t said own linked i n =
    if is_declarator k
    then with_linked (linked_in linked (slice_index_or t.same.now i None)) (declaration_at t said own linked i)
    else None

-- ---- the type that uses see

abbrev pub seen_with : Option Declaration → NameType → NameType → NameType
seen_with None earlier own = own
seen_with (Some declaration) earlier own = joined_type earlier own

-- 6.2.7p4: a linked name is seen with the composite of its own type and that of the declaration of a linked name that is visible directly
-- before it
abbrev pub seen_by : Option Declaration → Past → Option ℕ → NameType → NameType
seen_by None past earlier own = own
seen_by (Some declaration) past earlier own = seen_with (linked_in past.linked earlier) (name_type_in past.seen earlier) own

-- ---- the composite type of all declarations so far

-- the declaration before it: of an initialised declarator, whose type its initialiser may have completed, its declarator
abbrev pub same_by : Kind → Option Declaration → Option ℕ → Node → Option ℕ
same_by kind.InitDeclarator linked same n = slice_get n.parts 0
same_by k None same n = None
same_by k (Some declaration) same n = same

abbrev pub composite_by : Kind → Option Declaration → Past → Option ℕ → Node → NameType → NameType
composite_by k linked past same n seen = joined_type (name_type_in past.composite (same_by k linked same n)) seen
