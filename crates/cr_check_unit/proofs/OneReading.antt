-- What rules read of columns that are alike is the same.
use Rattle.std.proofs.Common.{◌≡◌, ℕ, zero, suc, ◌==◌, ◌∷◌, [], List, Bool, Option, None, Some, length, map, slice_get, slice_index_or, if◌then◌else◌, refl, sym, ap, ◌∙◌}
use Rattle.std.proofs.lemmas.List.{length-map}
use Rattle.cr_syntax.specs.declared.node.Node.{Node}
use Rattle.cr_check_types.specs.declared.shape.Shape.{Shape}
use Rattle.cr_check_types.specs.Types.{Qualified, type_at}
use Rattle.cr_check_operands.specs.Places.{found_by}
use Rattle.cr_check_expressions.specs.declared.known.Declared.{Declared}
use Rattle.cr_check_expressions.specs.declared.known.Declared.TheVariants.{Object, Enumerator, Function, TypeName, Unclear}
use Rattle.cr_check_expressions.specs.declared.known.Member.{Member}
use Rattle.cr_check_expressions.specs.Known.{Meaning, an_object, an_enumerator, a_function, a_type, unclear, meaning_at, declared_by, parameters_in, named_row, member_row, row_of_name, spelling_of}
use Rattle.cr_check_declarations.specs.declared.tree.Tree.{Tree}
use Rattle.cr_check_declarations.specs.Before.{rows_of}
use Rattle.cr_check_declarations.specs.Faults.{Has}
use Rattle.cr_check_initialisers.specs.Known.{member_types}
use Rattle.cr_check_initialised.specs.Known.{known_by}
use Rattle.cr_check_initialised.specs.Initialised.{object_of}
use Rattle.cr_check_linkage.specs.NameTypes.{NameType, of_object, of_function, of_none, type_as}
use Rattle.cr_check_unit.specs.declared.typing.Typing.{Typing}
use Rattle.cr_check_unit.specs.declared.entry.Entry.{Entry}
use Rattle.cr_check_unit.specs.Typing.{entry_at, before_in, source_in, known_in, object_in, past_in, name_type}
use Rattle.cr_check_unit.specs.Laws.{member_at, AreAlike}

-- columns in which each node has the same
pub record Alike (shapes later : List Shape) (t s : Typing) : Type 0 where
  pub none : type_at shapes 0 ≡ type_at later 0
  pub each : (p : ℕ) → AreAlike shapes later (entry_at t p) (entry_at s p)
  pub layouts : t.layouts ≡ s.layouts

-- ---- rows by their types

found_map : (look : ℕ → Qualified) (rows : List ℕ) (k : ℕ) → found_by look (slice_get rows k) ≡ slice_get (map look rows) k
found_map look [] k = refl
found_map look (row ∷ rows) zero = refl
found_map look (row ∷ rows) (suc k) = found_map look rows k

pub function_alike : (look last : ℕ → Qualified) (row other : ℕ) (rows others : List ℕ) (more : Bool) → look row ≡ last other
    → map look rows ≡ map last others
    → a_function (record { gives = look row; count = length rows; parameter = λ k. found_by look (slice_get rows k); more = more })
    ≡ a_function (record { gives = last other; count = length others; parameter = λ k. found_by last (slice_get others k); more = more })
function_alike look last row other rows others more gives parameters = λ t. a_function (record {
  gives = gives t;
  count = (sym (length-map rows look) ∙ ap length parameters ∙ length-map others last) t;
  parameter = λ k. (found_map look rows k ∙ ap (λ types. slice_get types k) parameters ∙ sym (found_map last others k)) t;
  more = more;
})

-- ---- members by their names and types

abbrev first_named : ℕ → List (ℕ × Qualified) → Option Qualified
first_named name [] = None
first_named name (m ∷ ms) = if m.0 == name then Some m.1 else first_named name ms

named_or : (look : ℕ → Qualified) (row : ℕ) (x : Bool) (found : Option ℕ) (type : Option Qualified) → found_by look found ≡ type
    → found_by look (if x then Some row else found) ≡ (if x then Some (look row) else type)
named_or look row Bool.true found type h = refl
named_or look row Bool.false found type h = h

member_map : (shapes : List Shape) (name : ℕ) (ms : List Member)
    → found_by (type_at shapes) (row_of_name name ms) ≡ first_named name (map (member_at shapes) ms)
member_map shapes name [] = refl
member_map shapes name (m ∷ ms) = named_or (type_at shapes) m.row (m.name == name) (row_of_name name ms) (first_named name (map (member_at shapes) ms))
    (member_map shapes name ms)

types_map : (shapes : List Shape) (ms : List Member) → map (type_at shapes) (rows_of ms) ≡ map (λ m. m.1) (map (member_at shapes) ms)
types_map shapes [] = refl
types_map shapes (m ∷ ms) = ap (λ types. type_at shapes m.row ∷ types) (types_map shapes ms)

pub rows_alike : (shapes later : List Shape) (ms others : List Member) → map (member_at shapes) ms ≡ map (member_at later) others
    → map (type_at shapes) (rows_of ms) ≡ map (type_at later) (rows_of others)
rows_alike shapes later ms others is = types_map shapes ms ∙ ap (map (λ m. m.1)) is ∙ sym (types_map later others)

-- as initialisers read them
types_of : (shapes : List Shape) (ms : List Member) → member_types shapes ms ≡ map (λ m. m.1) (map (member_at shapes) ms)
types_of shapes [] = refl
types_of shapes (m ∷ ms) = λ i. type_at shapes m.row ∷ types_of shapes ms i

contents_alike : (shapes later : List Shape) (ms others : List Member) → map (member_at shapes) ms ≡ map (member_at later) others
    → member_types shapes ms ≡ member_types later others
contents_alike shapes later ms others is = types_of shapes ms ∙ ap (map (λ m. m.1)) is ∙ sym (types_of later others)

-- ---- the types of names

-- by what the name stands for
abbrev as_of : Meaning → Qualified → List Qualified → NameType
as_of (an_object t register) type parameters = of_object type
as_of (an_enumerator value) type parameters = of_none
as_of (a_function signature) type parameters =
    of_function (record { result = type; variadic = signature.more; parameters = parameters })
as_of a_type type parameters = of_none
as_of unclear type parameters = of_none

as_meaning : (shapes : List Shape) (rows : List ℕ) (declared : Declared) (type : Qualified) (parameters : List Qualified)
    → type_as declared type parameters ≡ as_of (meaning_at shapes rows declared) type parameters
as_meaning shapes rows (Object row register) type parameters = refl
as_meaning shapes rows (Enumerator value) type parameters = refl
as_meaning shapes rows (Function row more) type parameters = refl
as_meaning shapes rows TypeName type parameters = refl
as_meaning shapes rows Unclear type parameters = refl

pub name_alike : (shapes later : List Shape) (rows others : List ℕ) (declared other : Declared) (type same : Qualified)
    (parameters like : List Qualified) → meaning_at shapes rows declared ≡ meaning_at later others other → type ≡ same → parameters ≡ like
    → type_as declared type parameters ≡ type_as other same like
name_alike shapes later rows others declared other type same parameters like h k l =
    as_meaning shapes rows declared type parameters
    ∙ (λ i. as_of (h i) (k i) (l i))
    ∙ sym (as_meaning later others other same like)

-- ---- what rules read

pub before_alike : (shapes later : List Shape) (t s : Typing) → Alike shapes later t s → before_in shapes t ≡ before_in later s
before_alike shapes later t s h = λ i. record {
  seen = λ p. (h.each p).fact i;
  specified = λ p. ap (λ (own : Has). own.specified) (h.each p).own i;
  named = λ p. ap (λ (own : Has). own.named) (h.each p).own i;
  declarator = λ p. ap (λ (own : Has). own.declarator) (h.each p).own i;
  derived = λ p. ap (λ (own : Has). own.derived) (h.each p).own i;
  parameters = λ p. (h.each p).parameters i;
  layouts = h.layouts i;
  fixed = λ p. (h.each p).fixed i;
  enumerated = λ p. ap (λ (own : Has). own.enumerated) (h.each p).own i;
}

pub stands_alike : (shapes later : List Shape) (t s : Typing) (node : Option ℕ) → Alike shapes later t s
    → meaning_at shapes (parameters_in t.parameters node) (declared_by t.declared node)
    ≡ meaning_at later (parameters_in s.parameters node) (declared_by s.declared node)
stands_alike shapes later t s None h = refl
stands_alike shapes later t s (Some p) h = (h.each p).declared

pub named_alike : (shapes later : List Shape) (t s : Typing) (node : Option ℕ) → Alike shapes later t s
    → type_at shapes (named_row t.named node) ≡ type_at later (named_row s.named node)
named_alike shapes later t s None h = h.none
named_alike shapes later t s (Some p) h = ap (λ (own : Has). own.named) (h.each p).own

member_alike : (shapes later : List Shape) (u : Tree) (t s : Typing) (structure token : ℕ) → Alike shapes later t s
    → found_by (type_at shapes) (member_row u.names.now t.members structure token)
    ≡ found_by (type_at later) (member_row u.names.now s.members structure token)
member_alike shapes later u t s structure token h =
    let name = slice_index_or u.names.now token 0 in
    member_map shapes name (slice_index_or t.members structure [])
    ∙ ap (first_named name) (h.each structure).members
    ∙ sym (member_map later name (slice_index_or s.members structure []))

pub source_alike : (u : Tree) (texts : List (List ℕ)) (shapes later : List Shape) (t s : Typing) → Alike shapes later t s
    → source_in (type_at shapes) u texts t ≡ source_in (type_at later) u texts s
source_alike u texts shapes later t s h = λ i. record {
  nodes = u.nodes.now;
  spelling = spelling_of u.file.now u.tokens.now;
  stands = λ node. stands_alike shapes later t s (slice_index_or u.visible.now node None) h i;
  text = λ node. length (slice_index_or texts node []);
  named = λ node. named_alike shapes later t s node h i;
  member = λ structure token. member_alike shapes later u t s structure token h i;
  layouts = h.layouts i;
  fixed = λ structure. (h.each structure).fixed i;
}

pub object_alike : (shapes later : List Shape) (t s : Typing) (n : Node) → Alike shapes later t s → object_in shapes t n ≡ object_in later s n
object_alike shapes later t s n h = ap object_of (stands_alike shapes later t s (slice_get n.parts 0) h)

pub known_alike : (u : Tree) (shapes later : List Shape) (t s : Typing) → Alike shapes later t s → known_in shapes u t ≡ known_in later u s
known_alike u shapes later t s h = λ i. known_by u.nodes.now (before_alike shapes later t s h i) (λ p. (h.each p).anchor i)
    (λ structure. contents_alike shapes later (slice_index_or t.members structure []) (slice_index_or s.members structure [])
    (h.each structure).members i)

pub entry_name : (shapes later : List Shape) (d e : Entry) → AreAlike shapes later d e → name_type shapes d ≡ name_type later e
entry_name shapes later d e a =
    name_alike shapes later d.parameters e.parameters d.declared e.declared (type_at shapes d.own.named) (type_at later e.own.named)
    (map (type_at shapes) d.parameters) (map (type_at later) e.parameters) a.declared (ap (λ (own : Has). own.named) a.own) a.parameters

pub past_alike : (shapes later : List Shape) (t s : Typing) → Alike shapes later t s → past_in shapes t ≡ past_in later s
past_alike shapes later t s h = λ i. record {
  linked = λ p. (h.each p).linked i;
  seen = λ p. entry_name shapes later (entry_at t p) (entry_at s p) (h.each p) i;
  composite = λ p. let x = entry_at t p in let y = entry_at s p in
      name_alike shapes later x.parameters y.parameters x.declared y.declared (type_at shapes x.composite) (type_at later y.composite)
      (map (type_at shapes) x.composite_parameters) (map (type_at later) y.composite_parameters) (h.each p).declared (h.each p).composite
      (h.each p).composite_parameters i;
}
