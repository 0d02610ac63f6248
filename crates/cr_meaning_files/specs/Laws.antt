-- What the grammar and the check give of a file's typed unit.
use Rattle.std.specs.Prelude.{◌≡◌, ◌≤◌, ◌⊎◌, ℕ, ℤ, true, false, List, Some, length, slice_get, slice_index_or}
use Rattle.cr_ints.specs.declared.kind.IntKind.TheVariants.{Int as IntegerKind}
use Rattle.cr_ints.specs.IntKind.{Represents}
use Rattle.cr_syntax.specs.declared.node.Kind.TheVariants as kind
use Rattle.cr_syntax.specs.declared.node.Node.{Node}
use Rattle.cr_scopes.specs.Units.{unit_events}
use Rattle.cr_scopes_visibility.specs.Sight.Scopes.{is_using}
use Rattle.cr_scopes_visibility.specs.Once.Told.{count_of}
use Rattle.cr_check_expressions.specs.Forms.{form_of}
use Rattle.cr_check_expressions.specs.Known.{an_enumerator}
use Rattle.cr_typed.specs.Typed.{MOST_CELLS}
use Rattle.cr_typed.specs.declared.typed.Typed.{Typed}
use Rattle.cr_typed.specs.declared.typed.Duration.TheVariants as duration
use Rattle.cr_meaning.specs.declared.run.Limits.{Limits}
use Rattle.cr_meaning_operations.specs.Shapes.{named_type, cells_of, type_of_node}
use Rattle.cr_meaning_operations.specs.Operations.{kind_at, part_at, name_of, entity_of, is_automatic_by, program_of}
use Rattle.cr_meaning_typing.specs.Typed.Placed.{IsNamed}
use Rattle.cr_meaning_typing.specs.Typed.Typing.{has_value, is_expression}
use Rattle.cr_meaning_declarations.specs.Declared.Files.{IsUnitOfFile}
use Rattle.cr_meaning_objects.specs.Parameters.Laws.{named_at}
use Rattle.cr_meaning_objects.specs.Composed.Laws.{IsObject}
use Rattle.cr_meaning_typing.specs.Sorts.Founded.{AreLaidOut, AreReached}
use Rattle.cr_meaning_typing.specs.Sorts.Table.{exits_at}
use Rattle.cr_meaning_soundness.specs.Sorts.{IsAmong}
use Rattle.cr_meaning_typing.specs.Whole.Statements.{is_declarator, AreStatementsLaid}
use Rattle.cr_meaning_files.specs.Reached.{is_reached}
use Rattle.cr_meaning_files.specs.Seen.{sees}
use Rattle.cr_meaning_files.specs.Local.{is_entered, is_early, is_named_locally, is_object_by}
use Rattle.cr_meaning_files.specs.Files.{judgement_of, AreRead, AreVisible}
use Rattle.cr_meaning_files.specs.Structures.{IsWhole}

-- expressions have as many parts as their rules read, all of them expressions, used as values but where a place is taken; and only a literal
-- fills an array
pub record IsTold (file : List ℕ) (t : Typed) (it : IsUnitOfFile file t) : Type 0 where
  pub expressions : AreRead file t it → AreLaidOut t (judgement_of file t it)
  pub statements : AreStatementsLaid t (judgement_of file t it)

abbrev pub AreTold : Type 0
AreTold = (file : List ℕ) (t : Typed) (it : IsUnitOfFile file t) → IsTold file t it

abbrev pub AreClosed : Type 0
AreClosed = (file : List ℕ) (t : Typed) (it : IsUnitOfFile file t) → AreReached t (judgement_of file t it)

-- each expression has a value, where what it reads is known
abbrev pub AreWorth : Type 0
AreWorth = (file : List ℕ) (t : Typed) (it : IsUnitOfFile file t) → AreRead file t it → (i : ℕ) → is_expression (form_of (kind_at t i)) ≡ true
    → has_value ((judgement_of file t it).at i).type ≡ true

-- an enumerator that a name stands for lies in int (6.7.2.2p2)
abbrev pub EnumeratorsAreNumbers : Type 0
EnumeratorsAreNumbers = (file : List ℕ) (t : Typed) (it : IsUnitOfFile file t) (i node : ℕ) (v : ℤ) → ((judgement_of file t it).source i).stands node ≡ an_enumerator v → Represents IntegerKind v

-- main is a definition (5.1.2.2.1), whose body is a block that a run reaches
pub record IsMain (t : Typed) : Type 0 where
  pub defines : kind_at t t.main ≡ kind.FunctionDefinition
  pub block : kind_at t (part_at t t.main 2) ≡ kind.Compound
  pub reached : is_reached t (part_at t t.main 2) ≡ true

abbrev pub MainsAreDefined : Type 0
MainsAreDefined = (file : List ℕ) (t : Typed) → IsUnitOfFile file t → IsMain t

-- the label of a `goto` is one of a block around it (6.8.6.1p1, K42)
abbrev pub LabelsStandAround : Type 0
LabelsStandAround = (file : List ℕ) (t : Typed) (it : IsUnitOfFile file t) (i : ℕ) → is_reached t i ≡ true → kind_at t i ≡ kind.Goto
    → IsAmong (entity_of t i) (exits_at t (judgement_of file t it) i).labels

-- a declarator sees the object that it declares, since a block or a `for` around it enters that (6.2.4p6, 6.8.2p2, 6.8.5.3p1)
abbrev pub DeclaratorsSeeObjects : Type 0
DeclaratorsSeeObjects = (file : List ℕ) (t : Typed) → IsUnitOfFile file t → (i : ℕ) → is_reached t i ≡ true → is_declarator (kind_at t i) ≡ true → sees t i (name_of t i) ≡ true

-- a name sees the automatic object that a block or a `for` around it declares, or the definition around it as a parameter (6.2.1p4, 6.2.4p5)
abbrev pub NamesSeeObjects : Type 0
NamesSeeObjects = (file : List ℕ) (t : Typed) → IsUnitOfFile file t → (i : ℕ) → kind_at t i ≡ kind.Identifier → is_named_locally t i ≡ true → sees t i (entity_of t i) ≡ true

-- a name that a run may reach, also a called one, is told once, since it stands among no definition's parameters, which are told twice (6.9.1)
abbrev pub ReachedNamesAreToldOnce : Type 0
ReachedNamesAreToldOnce = (file : List ℕ) (t : Typed) (it : IsUnitOfFile file t) (i : ℕ) (n : Node) → slice_get t.nodes i ≡ Some n → is_using n.kind ≡ true → is_reached t i ≡ true
    → count_of n.first (unit_events it.unit) ≤ 1

-- what is executed before main names no automatic object, since it is made of constants and of constant addresses (6.2.4p3, 6.6p9, 6.7.9p4, K12)
abbrev pub EarlyNamesLast : Type 0
EarlyNamesLast = (file : List ℕ) (t : Typed) (it : IsUnitOfFile file t) (i : ℕ) (n : Node) → slice_get t.nodes i ≡ Some n → n.kind ≡ kind.Identifier → is_reached t i ≡ true
    → ((judgement_of file t it).at i).lvalue ≡ true → is_early t i ≡ true → is_automatic_by (slice_index_or t.durations (entity_of t i) duration.NoObject) ≡ false

-- an automatic object is declared in a block or a `for`, or is a parameter of a definition (6.2.4p5, 6.9.1p9)
abbrev pub AutomaticObjectsAreEntered : Type 0
AutomaticObjectsAreEntered = (file : List ℕ) (t : Typed) → IsUnitOfFile file t → (e : ℕ) → is_automatic_by (slice_index_or t.durations e duration.NoObject) ≡ true → is_entered t e ≡ true

-- what a name stands for has a type of objects, and the cells of this type, some and not too many
pub record HasWholeCells (t : Typed) (limits : Limits) (declared : ℕ) : Type 0 where
  pub whole : IsWhole t (named_type t declared)
  pub counted : length ((program_of t limits).shape declared) ≡ cells_of t (named_type t declared)
  pub some : 1 ≤ length ((program_of t limits).shape declared)
  pub few : length ((program_of t limits).shape declared) ≤ MOST_CELLS

-- so has an object of the program that declarations declare: one of them defines it, with a complete type (6.7p7, 6.9.2, K6, K7, K14)
abbrev pub ObjectsHaveWholeCells : Type 0
ObjectsHaveWholeCells = (file : List ℕ) (t : Typed) (it : IsUnitOfFile file t) (limits : Limits) (node q : ℕ) → IsObject file t it node q
    → is_object_by (slice_index_or t.durations (entity_of t node) duration.NoObject) ≡ true → HasWholeCells t limits (entity_of t node)

-- a declarator, or the same with its initialiser
abbrev pub IsDeclaredAt : Typed → ℕ → ℕ → Type 0
IsDeclaredAt t q p = (p ≡ q) ⊎ ((n : Node) × ((slice_get t.nodes p ≡ Some n) × ((n.kind ≡ kind.InitDeclarator) × (slice_get n.parts 0 ≡ Some q))))

-- and a node that stands for it, with the type of one of its declarators, names whole cells (6.2.7p3)
abbrev pub NodesNameWholeCells : Type 0
NodesNameWholeCells = (file : List ℕ) (t : Typed) (it : IsUnitOfFile file t) (limits : Limits) (node q p i : ℕ) → IsObject file t it node q → IsDeclaredAt t q p → type_of_node t i ≡ named_at file t it p
    → entity_of t i ≡ entity_of t node → is_object_by (slice_index_or t.durations (entity_of t i) duration.NoObject) ≡ true → IsNamed (program_of t limits) t i

-- what a run may name as a place is an object of the program, which has whole cells: the object of a declaration (6.9p3, p5, K40), or a parameter of
-- the definition around it (6.9.1p9), and never one of a declarator that defines no function (6.2.1p4)
abbrev pub PlacesNameObjects : Type 0
PlacesNameObjects = (file : List ℕ) (t : Typed) (it : IsUnitOfFile file t) (limits : Limits) → AreVisible (program_of t limits) t (judgement_of file t it)
