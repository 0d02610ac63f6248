-- Typings of a unit: each node has what its rules make of the columns before it.
use Rattle.std.specs.Prelude.{◌≡◌, ℕ, ◌<◌, ◌≤◌, List, [], ◌∷◌, ◌++◌, false, Option, None, Some, length, map, take, slice_get, slice_index_or}
use Rattle.cr_syntax.specs.declared.node.Node.{Node}
use Rattle.cr_check_types.specs.declared.shape.Shape.{Shape}
use Rattle.cr_check_types.specs.Types.{Qualified, unknown, type_at}
use Rattle.cr_check_types.specs.Relations.{AreRows}
use Rattle.cr_check_types.specs.Layouts as layouts
use Rattle.cr_check_operands.specs.Values.{seen_at}
use Rattle.cr_check_operands.specs.Places.{found_by}
use Rattle.cr_check_expressions.specs.declared.known.Declared.TheVariants.{Unclear}
use Rattle.cr_check_expressions.specs.Known.{Source, Meaning, spelling_of, meaning_by, declared_by, parameters_in, named_row, member_row, room_of_declared}
use Rattle.cr_check_expressions.specs.Forms.{form_of}
use Rattle.cr_check_expressions.specs.Ruled.{no_fact, facts_at, ruled, AreFacts}
use Rattle.cr_check_declarators.specs.Specifiers.{nothing}
use Rattle.cr_check_declarators.specs.Declarators.{name_alone}
use Rattle.cr_check_declarations.specs.declared.tree.Tree.{Tree}
use Rattle.cr_check_declarations.specs.Before.{Before, rows_of}
use Rattle.cr_check_declarations.specs.Specifiers.{said_by}
use Rattle.cr_check_declarations.specs.Declarators.{declarator_by, derived_by}
use Rattle.cr_check_declarations.specs.Named.{named_by, declared_by as declares_by, declaration_of, parameters_by, members_by}
use Rattle.cr_check_declarations.specs.Contents.{layout_by, fixed_by, enumerator_by}
use Rattle.cr_check_initialisers.specs.declared.anchor.Anchor.TheVariants.{Moving}
use Rattle.cr_check_initialisers.specs.Known as initial
use Rattle.cr_check_initialisers.specs.Plans.{entries_of}
use Rattle.cr_check_initialised.specs.Anchors.{names_static, anchor_at, anchor_by}
use Rattle.cr_check_initialised.specs.Known.{known_by, members_at}
use Rattle.cr_check_initialised.specs.Initialised.{object_of, named_first, planned_by, IsFilled, AreSeated}
use Rattle.cr_check_linkage.specs.NameTypes.{NameType, type_as, type_or, parameters_or}
use Rattle.cr_check_linkage.specs.Linked.{Past, linked_by, seen_by, composite_by}
use Rattle.cr_check_unit.specs.declared.typing.Typing.{Typing}
use Rattle.cr_check_unit.specs.declared.entry.Entry.{Entry}

-- ---- columns

abbrev pub nothing_typed : Typing
nothing_typed = record {
  facts = [];
  specified = [];
  named = [];
  declarators = [];
  derivations = [];
  declared = [];
  parameters = [];
  members = [];
  layouts = [];
  fixed = [];
  enumerated = [];
  anchors = [];
  lines = [];
  linked = [];
  composites = [];
  composite_parameters = [];
}

-- the columns before node i
abbrev pub cut : ℕ → Typing → Typing
cut i t = record {
  facts = take i t.facts;
  specified = take i t.specified;
  named = take i t.named;
  declarators = take i t.declarators;
  derivations = take i t.derivations;
  declared = take i t.declared;
  parameters = take i t.parameters;
  members = take i t.members;
  layouts = take i t.layouts;
  fixed = take i t.fixed;
  enumerated = take i t.enumerated;
  anchors = take i t.anchors;
  lines = take i t.lines;
  linked = take i t.linked;
  composites = take i t.composites;
  composite_parameters = take i t.composite_parameters;
}

-- one node more
abbrev pub with_entry : Typing → Entry → Typing
with_entry t e = record {
  facts = t.facts ++ e.fact ∷ [];
  specified = t.specified ++ e.own.specified ∷ [];
  named = t.named ++ e.own.named ∷ [];
  declarators = t.declarators ++ e.own.declarator ∷ [];
  derivations = t.derivations ++ e.own.derivations ∷ [];
  declared = t.declared ++ e.declared ∷ [];
  parameters = t.parameters ++ e.parameters ∷ [];
  members = t.members ++ e.members ∷ [];
  layouts = t.layouts ++ e.own.layout ∷ [];
  fixed = t.fixed ++ e.fixed ∷ [];
  enumerated = t.enumerated ++ e.own.enumerated ∷ [];
  anchors = t.anchors ++ e.anchor ∷ [];
  lines = t.lines ++ e.lines ∷ [];
  linked = t.linked ++ e.linked ∷ [];
  composites = t.composites ++ e.composite ∷ [];
  composite_parameters = t.composite_parameters ++ e.composite_parameters ∷ [];
}

-- what node i has
abbrev pub entry_at : Typing → ℕ → Entry
entry_at t i = record {
  fact = slice_index_or t.facts i no_fact;
  own = record {
    specified = slice_index_or t.specified i nothing;
    declarator = slice_index_or t.declarators i name_alone;
    derivations = slice_index_or t.derivations i 0;
    named = slice_index_or t.named i 0;
    layout = slice_index_or t.layouts i layouts.nothing;
    enumerated = slice_index_or t.enumerated i None;
  };
  declared = slice_index_or t.declared i Unclear;
  parameters = slice_index_or t.parameters i [];
  members = slice_index_or t.members i [];
  fixed = slice_index_or t.fixed i false;
  anchor = slice_index_or t.anchors i Moving;
  lines = slice_index_or t.lines i [];
  linked = slice_index_or t.linked i None;
  composite = slice_index_or t.composites i 0;
  composite_parameters = slice_index_or t.composite_parameters i [];
}

-- ---- what the rules read of them

abbrev pub before_in : List Shape → Typing → Before
before_in shapes t = record {
  seen = facts_at shapes t.facts;
  specified = λ p. slice_index_or t.specified p nothing;
  named = λ p. type_at shapes (slice_index_or t.named p 0);
  declarator = λ p. slice_index_or t.declarators p name_alone;
  derived = λ p. type_at shapes (slice_index_or t.derivations p 0);
  parameters = λ p. map (type_at shapes) (slice_index_or t.parameters p []);
  layouts = t.layouts;
  fixed = λ p. slice_index_or t.fixed p false;
  enumerated = λ p. slice_index_or t.enumerated p None;
}

abbrev pub source_in : (ℕ → Qualified) → Tree → List (List ℕ) → Typing → Source
source_in look u texts t = record {
  nodes = u.nodes.now;
  spelling = spelling_of u.file.now u.tokens.now;
  stands = λ node. meaning_by look (parameters_in t.parameters (slice_index_or u.visible.now node None))
      (declared_by t.declared (slice_index_or u.visible.now node None));
  text = λ node. length (slice_index_or texts node []);
  named = λ node. look (named_row t.named node);
  member = λ structure token. found_by look (member_row u.names.now t.members structure token);
  layouts = t.layouts;
  fixed = λ structure. slice_index_or t.fixed structure false;
}

-- what initialisers ask
abbrev pub known_in : List Shape → Tree → Typing → initial.Known
known_in shapes u t = known_by u.nodes.now (before_in shapes t) (anchor_at t.anchors) (members_at shapes t.members)

-- what a node declares
abbrev pub declared_in : List Shape → Typing → Option ℕ → Meaning
declared_in shapes t node = meaning_by (type_at shapes) (parameters_in t.parameters node) (declared_by t.declared node)

-- the object that a node's first part declares
abbrev pub object_in : List Shape → Typing → Node → Option Qualified
object_in shapes t n = object_of (declared_in shapes t (slice_get n.parts 0))

-- what the declarations of linked names ask
abbrev pub past_in : List Shape → Typing → Past
past_in shapes t = record {
  linked = λ p. slice_index_or t.linked p None;
  seen = λ p. type_as (slice_index_or t.declared p Unclear) (type_at shapes (slice_index_or t.named p 0))
      (map (type_at shapes) (slice_index_or t.parameters p []));
  composite = λ p. type_as (slice_index_or t.declared p Unclear) (type_at shapes (slice_index_or t.composites p 0))
      (map (type_at shapes) (slice_index_or t.composite_parameters p []));
}

-- the type that a node names by itself
abbrev pub own_named : List Shape → Tree → Typing → Entry → ℕ → Node → Qualified
own_named shapes u t e i n = named_by n.kind u e.own.specified e.own.declarator (type_at shapes e.own.derivations) (before_in shapes t) i n

-- that of the name that it declares; whatever row that has
abbrev pub own_type : List Shape → Tree → Typing → Entry → ℕ → Node → NameType
own_type shapes u t e i n =
    type_as (declares_by n.kind u.nodes.now (before_in shapes t).specified e.own.declarator 0 e.own.enumerated (declaration_of u.nodes.now u.above.now i))
    (own_named shapes u t e i n) (parameters_by n.kind u.nodes.now (before_in shapes t) n)

-- the same, where an earlier declaration is visible
abbrev pub seen_type : List Shape → Tree → Typing → Entry → ℕ → Node → NameType
seen_type shapes u t e i n = seen_by e.linked (past_in shapes t) (slice_index_or u.earlier.now i None) (own_type shapes u t e i n)

-- the same, where an initialiser completes it: the type with which uses see the name
abbrev pub name_type : List Shape → Entry → NameType
name_type shapes e = type_as e.declared (type_at shapes e.own.named) (map (type_at shapes) e.parameters)

abbrev pub composite_type : List Shape → Tree → Typing → Entry → ℕ → Node → NameType
composite_type shapes u t e i n = composite_by n.kind e.linked (past_in shapes t) (slice_index_or u.same.now i None) n (name_type shapes e)

-- ---- typings

-- What node i has is what its rules make of the columns before it, all types read by the same table.
pub record IsRuled (u : Tree) (texts : List (List ℕ)) (shapes : List Shape) (t : Typing) (e : Entry) (i : ℕ) (n : Node) : Type 0 where
  pub fact : seen_at shapes e.fact ≡ ruled (form_of n.kind) (facts_at shapes t.facts) (source_in (type_at shapes) u texts t) i n
  pub specified : e.own.specified ≡ said_by n.kind (before_in shapes t).specified (slice_index_or u.tags.now i None) n
  pub declarator : e.own.declarator ≡ declarator_by n.kind (spelling_of u.file.now u.tokens.now) u.nodes.now (before_in shapes t) i n
  pub derived : type_at shapes e.own.derivations ≡ derived_by n.kind (spelling_of u.file.now u.tokens.now) u.nodes.now (before_in shapes t) n
  pub linked : e.linked ≡ linked_by n.kind u (before_in shapes t).specified e.own.declarator (past_in shapes t).linked i n
  -- the type that it names, as uses see it, completed by an initialiser, and the plan of that
  pub filled : IsFilled (known_in shapes u t) i (planned_by n.kind t.layouts (object_in shapes t n) n.parts)
      (named_first n.kind (object_in shapes t n) (type_or (own_named shapes u t e i n) (seen_type shapes u t e i n)))
      (type_at shapes e.own.named) (entries_of shapes e.lines)
  pub enumerated : e.own.enumerated ≡ enumerator_by n.kind (before_in shapes t) (slice_index_or u.previous.now i None) n
  pub declared : e.declared ≡ declares_by n.kind u.nodes.now (before_in shapes t).specified e.own.declarator e.own.named e.own.enumerated
      (declaration_of u.nodes.now u.above.now i)
  pub parameters : map (type_at shapes) e.parameters
      ≡ parameters_or (parameters_by n.kind u.nodes.now (before_in shapes t) n) (seen_type shapes u t e i n)
  pub composite : type_at shapes e.composite ≡ type_or (type_at shapes e.own.named) (composite_type shapes u t e i n)
  pub composite_parameters : map (type_at shapes) e.composite_parameters
      ≡ parameters_or (map (type_at shapes) e.parameters) (composite_type shapes u t e i n)
  pub members : e.members ≡ members_by n.kind u.nodes.now u.names.now t.named t.members n.parts
  pub layout : e.own.layout ≡ layout_by n.kind (before_in shapes t) (map (type_at shapes) (rows_of e.members))
  pub fixed : e.fixed ≡ fixed_by n.kind (before_in shapes t) (map (type_at shapes) (rows_of e.members))
  pub anchor : e.anchor
      ≡ anchor_by (form_of n.kind) (before_in shapes t) (anchor_at t.anchors)
      (names_static (declared_in shapes t (slice_index_or u.visible.now i None)) u (before_in shapes t).specified (slice_index_or u.visible.now i None))
      n.parts

abbrev pub IsRuledIf : Tree → List (List ℕ) → List Shape → Typing → Entry → ℕ → Option Node → Type 0
IsRuledIf u texts shapes t e i None = Unit {0}
IsRuledIf u texts shapes t e i (Some n) = IsRuled u texts shapes t e i n

-- so many entries in each column
pub record AreWhole (t : Typing) (count : ℕ) : Type 0 where
  pub facts : length t.facts ≡ count
  pub specified : length t.specified ≡ count
  pub named : length t.named ≡ count
  pub declarators : length t.declarators ≡ count
  pub derivations : length t.derivations ≡ count
  pub declared : length t.declared ≡ count
  pub parameters : length t.parameters ≡ count
  pub members : length t.members ≡ count
  pub layouts : length t.layouts ≡ count
  pub fixed : length t.fixed ≡ count
  pub enumerated : length t.enumerated ≡ count
  pub anchors : length t.anchors ≡ count
  pub lines : length t.lines ≡ count
  pub linked : length t.linked ≡ count
  pub composites : length t.composites ≡ count
  pub composite_parameters : length t.composite_parameters ≡ count

-- Each node of the unit has so, and nothing else has an entry. The first row, which stands for what has no entry, is that of no type.
pub record IsTyping (u : Tree) (texts : List (List ℕ)) (shapes : List Shape) (t : Typing) : Type 0 where
  pub none : type_at shapes 0 ≡ unknown
  pub whole : AreWhole t (length u.nodes.now)
  pub each : (i : ℕ) → IsRuledIf u texts shapes (cut i t) (entry_at t i) i (slice_get u.nodes.now i)

-- ---- the rows are there

pub record IsWithin (shapes : List Shape) (e : Entry) : Type 0 where
  pub fact : e.fact.row < length shapes
  pub derivations : e.own.derivations < length shapes
  pub named : e.own.named < length shapes
  pub declared : room_of_declared e.declared ≤ length shapes
  pub parameters : AreRows shapes e.parameters
  pub members : AreRows shapes (rows_of e.members)
  pub lines : AreSeated shapes e.lines
  pub composite : e.composite < length shapes
  pub composite_parameters : AreRows shapes e.composite_parameters

pub record AreWithin (shapes : List Shape) (t : Typing) : Type 0 where
  pub facts : AreFacts shapes t.facts
  pub each : (p : ℕ) → IsWithin shapes (entry_at t p)
