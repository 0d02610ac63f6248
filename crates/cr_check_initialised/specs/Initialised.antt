-- The type of an initialised declarator's object, which its initialiser completes, and the plan of the initialiser (C11 6.7.9).
use Rattle.std.specs.Prelude.{◌≡◌, ℕ, suc, ◌<◌, ◌≤◌, ◌==◌, ◌&&◌, List, [], ◌∷◌, Bool, true, false, not, Option, None, Some, length, nat_lt, slice_get, if◌then◌else◌}
use Rattle.cr_syntax.specs.declared.node.Kind.{Kind}
use Rattle.cr_syntax.specs.declared.node.Kind.TheVariants as kind
use Rattle.cr_syntax.specs.declared.node.Node.{Node}
use Rattle.cr_check_types.specs.declared.layout.Layout.{Layout}
use Rattle.cr_check_types.specs.declared.shape.Shape.{Shape}
use Rattle.cr_check_types.specs.Types.{Qualified, plain, pointer, array, type_at}
use Rattle.cr_check_types.specs.Layouts.{layout_of}
use Rattle.cr_check_expressions.specs.Known.{Meaning, an_object, an_enumerator, a_function, a_type, unclear}
use Rattle.cr_check_expressions.specs.Ruled.{is_type}
use Rattle.cr_check_declarators.specs.Declarators.{most_cells}
use Rattle.cr_check_initialisers.specs.declared.lines.Line.{Line}
use Rattle.cr_check_initialisers.specs.declared.lines.Line.TheVariants as line
use Rattle.cr_check_initialisers.specs.Known.{Known}
use Rattle.cr_check_initialisers.specs.Places.{sized}
use Rattle.cr_check_initialisers.specs.Plans.{Entry, IsPlan, entries_of, length_asked}
use Rattle.cr_check_initialisers.specs.declared.anchor.Anchor.{Anchor}
use Rattle.cr_check_declarations.specs.declared.tree.Tree.{Tree}
use Rattle.cr_check_declarations.specs.declared.before.Columns.{Columns}
use Rattle.cr_check_initialised.specs.declared.initialised.Filled.{Filled}
use Rattle.cr_check_initialised.specs.Known.{known_at, declared_at}

-- ---- the object

-- the type of the object that a name stands for
abbrev pub object_of : Meaning → Option Qualified
object_of (an_object type register) = Some type
object_of (an_enumerator value) = None
object_of (a_function signature) = None
object_of a_type = None
object_of unclear = None

abbrev pub type_or : Qualified → Option Qualified → Qualified
type_or other None = other
type_or other (Some type) = type

-- the type that a node names before its initialiser is read: an initialised declarator that of its object
abbrev pub named_first : Kind → Option Qualified → Qualified → Qualified
named_first kind.InitDeclarator object named = type_or named object
named_first k object named = named

-- ---- what is planned

-- of an array of unknown size an element is weighed
abbrev pub weighed : Qualified → Qualified
weighed (plain of c v) = plain of c v
weighed (pointer c v t) = pointer c v t
weighed (array n t) = if n == 0 then t else array n t

-- a type is there, and doesn't have too many cells (K7)
abbrev pub is_planned : List Layout → Qualified → Bool
is_planned layouts type = is_type type && not (nat_lt most_cells (layout_of layouts (weighed type)).cells)

pub record Planned : Type 0 where
  pub type : Qualified
  pub initialiser : ℕ

abbrev pub planned_if : Bool → Qualified → ℕ → Option Planned
planned_if so type initialiser = if so then Some (record { type = type; initialiser = initialiser }) else None

abbrev pub planned_in : List Layout → Option Qualified → Option ℕ → Option Planned
planned_in layouts None initialiser = None
planned_in layouts (Some type) None = None
planned_in layouts (Some type) (Some initialiser) = planned_if (is_planned layouts type) type initialiser

-- an initialised declarator's object and its initialiser
abbrev pub planned_by : Kind → List Layout → Option Qualified → List ℕ → Option Planned
planned_by kind.InitDeclarator layouts object parts = planned_in layouts object (slice_get parts 1)
planned_by k layouts object parts = None

-- ---- the plan

-- An array of unknown size has as many elements as the plan of its initialiser asks for, at the end of the list (6.7.9p22); by the
-- completed type the initialiser is planned then. Of another type the two plans are one.
pub record IsCompleted (k : Known) (type : Qualified) (above node : ℕ) (completed : Qualified) (xs : List Entry) : Type 0 where
  pub first : List Entry
  pub is_first : IsPlan k type above node first
  pub is : completed ≡ sized type (length_asked k type first)
  pub plan : IsPlan k completed above node xs

-- the type that node i names, and its plan; where nothing is planned, the type is as given
abbrev pub IsFilled : Known → ℕ → Option Planned → Qualified → Qualified → List Entry → Type 0
IsFilled k i None type named xs = (named ≡ type) × (xs ≡ [])
IsFilled k i (Some p) type named xs = IsCompleted k p.type i p.initialiser named xs

-- ---- the same by rows

abbrev pub object_at : List Shape → Columns → Node → Option Qualified
object_at shapes columns n = object_of (declared_at shapes columns (slice_get n.parts 0))

-- what a node that would name the type of a row has
abbrev pub IsFilledBy : List Shape → Tree → Columns → List Anchor → ℕ → Filled → ℕ → Node → Type 0
IsFilledBy shapes t columns anchors named f i n =
    IsFilled (known_at shapes t.nodes.now columns anchors) i (planned_by n.kind columns.layouts.now (object_at shapes columns n) n.parts)
    (named_first n.kind (object_at shapes columns n) (type_at shapes named)) (type_at shapes f.row) (entries_of shapes f.lines)

-- the rows of lines are there
abbrev pub room_of_line : Line → ℕ
room_of_line (line.Put p) = suc p.row
room_of_line (line.Excess list) = 0

abbrev pub AreSeated : List Shape → List Line → Type 0
AreSeated shapes [] = Unit {0}
AreSeated shapes (x ∷ xs) = (room_of_line x ≤ length shapes) × AreSeated shapes xs

-- a row that isn't there is that of no type
abbrev pub seat : List Shape → ℕ → ℕ
seat shapes row = if nat_lt row (length shapes) then row else 0

abbrev pub seated : List Shape → Line → Line
seated shapes (line.Put p) = line.Put (record { node = p.node; cell = p.cell; row = seat shapes p.row; user = p.user })
seated shapes (line.Excess list) = line.Excess list
