-- What is typed stays so when the table of types grows.
use Rattle.std.proofs.Common.{◌≡◌, ◌==◌, ℕ, zero, suc, ◌<◌, ◌≤◌, ◌∷◌, [], List, Bool, Option, None, Some, IfSome, length, map, slice_get, slice_index_or, if◌then◌else◌, refl, sym, ap, subst, ◌∙◌, arith}
use Rattle.cr_syntax.specs.declared.node.Node.{Node}
use Rattle.cr_check_types.specs.declared.shape.Shape.{Shape}
use Rattle.cr_check_types.specs.Types.{Qualified, type_at, Grows}
use Rattle.cr_check_types.specs.Relations.{AreRows}
use Rattle.cr_check_operands.specs.Places.{found_by}
use Rattle.cr_check_expressions.specs.declared.known.Declared.{Declared}
use Rattle.cr_check_expressions.specs.declared.known.Declared.TheVariants.{Object, Enumerator, Function, TypeName, Unclear}
use Rattle.cr_check_expressions.specs.declared.known.Known.{Known}
use Rattle.cr_check_expressions.specs.declared.known.Member.{Member}
use Rattle.cr_check_expressions.specs.Known.{an_object, a_function, meaning_by, declared_by, parameters_in, named_row, member_row, row_of_name, room_of_declared, spelling_of, AreKnown}
use Rattle.cr_check_expressions.specs.Ruled.{fact_at, facts_at, AreFacts}
use Rattle.cr_check_expressions.proofs.Kept.{seen_kept, facts_kept}
use Rattle.cr_check_declarations.specs.declared.tree.Tree.{Tree}
use Rattle.cr_check_declarations.specs.declared.before.Columns.{Columns}
use Rattle.cr_check_declarations.specs.Before.{rows_of, AreColumns}
use Rattle.cr_check_initialised.specs.Anchors.{anchor_at}
use Rattle.cr_check_initialised.specs.Known.{known_by, members_at, AreReady}
use Rattle.cr_check_initialised.proofs.Kept.{members_kept, object_same, seated_kept}
use Rattle.cr_check_linkage.specs.declared.links.Links.{Links}
use Rattle.cr_check_linkage.specs.NameTypes.{type_as}
use Rattle.cr_check_linkage.specs.Linked.{AreLinks}
use Rattle.cr_check_unit.specs.declared.typing.Typing.{Typing}
use Rattle.cr_check_unit.specs.declared.entry.Entry.{Entry}
use Rattle.cr_check_unit.specs.Typing.{entry_at, before_in, source_in, known_in, object_in, past_in, IsWithin, AreWithin}

-- ---- rows

pub rows_kept : (old new : List Shape) (rows : List ℕ) → Grows old new → AreRows old rows → AreRows new rows
rows_kept old new rows grows h k low =
    let l = grows.longer in
    let e = h k low in
    omega (arith, l, e)

-- a row that is there
some_row : (shapes : List Shape) (rows : List ℕ) (k : ℕ) → AreRows shapes rows → IfSome (slice_get rows k) (λ row. row < length shapes)
some_row shapes [] k h = tt
some_row shapes (row ∷ rows) zero h = h 0 (omega arith)
some_row shapes (row ∷ rows) (suc k) h = some_row shapes rows k (λ j low. h (suc j) (omega (arith, low)))

member_by : (shapes : List Shape) (name : ℕ) (m : Member) (ms : List Member) (x : Bool) → m.row < length shapes
    → IfSome (row_of_name name ms) (λ row. row < length shapes)
    → IfSome (if x then Some m.row else row_of_name name ms) (λ row. row < length shapes)
member_by shapes name m ms Bool.true h rest = h
member_by shapes name m ms Bool.false h rest = rest

member_within : (shapes : List Shape) (name : ℕ) (ms : List Member) → AreRows shapes (rows_of ms)
    → IfSome (row_of_name name ms) (λ row. row < length shapes)
member_within shapes name [] h = tt
member_within shapes name (m ∷ ms) h = member_by shapes name m ms (m.name == name) (h 0 (omega arith))
    (member_within shapes name ms (λ j low. h (suc j) (omega (arith, low))))

pub types_kept : (old new : List Shape) (rows : List ℕ) → Grows old new → AreRows old rows → map (type_at new) rows ≡ map (type_at old) rows
types_kept old new [] grows h = refl
types_kept old new (row ∷ rows) grows h =
    λ s. grows.keeps row (h 0 (omega arith)) s ∷ types_kept old new rows grows (λ j low. h (suc j) (omega (arith, low))) s

-- ---- entries

pub within_kept : (old new : List Shape) (e : Entry) → Grows old new → IsWithin old e → IsWithin new e
within_kept old new e grows h =
    let l = grows.longer in
    let a = h.fact in
    let b = h.derivations in
    let c = h.named in
    let d = h.declared in
    let k = h.composite in
    record {
      fact = omega (arith, l, a);
      derivations = omega (arith, l, b);
      named = omega (arith, l, c);
      declared = omega (arith, l, d);
      parameters = rows_kept old new e.parameters grows h.parameters;
      members = rows_kept old new (rows_of e.members) grows h.members;
      lines = seated_kept old new e.lines grows h.lines;
      composite = omega (arith, l, k);
      composite_parameters = rows_kept old new e.composite_parameters grows h.composite_parameters;
    }

pub all_kept : (old new : List Shape) (t : Typing) → Grows old new → AreWithin old t → AreWithin new t
all_kept old new t grows h = record {
  facts = facts_kept old new t.facts grows h.facts;
  each = λ p. within_kept old new (entry_at t p) grows (h.each p);
}

-- ---- columns

are_columns : (shapes : List Shape) (t : Typing) (c : Columns) → c.facts.now ≡ t.facts → c.named.now ≡ t.named
    → c.derivations.now ≡ t.derivations → c.parameters.now ≡ t.parameters → c.members.now ≡ t.members → AreWithin shapes t → AreColumns shapes c
are_columns shapes t c facts named derivations parameters members h = record {
  facts = subst (AreFacts shapes) (sym facts) h.facts;
  named = λ p. subst (λ xs. slice_index_or xs p 0 < length shapes) (sym named) (h.each p).named;
  derivations = λ p. subst (λ xs. slice_index_or xs p 0 < length shapes) (sym derivations) (h.each p).derivations;
  parameters = λ p. subst (λ xs. AreRows shapes (slice_index_or xs p [])) (sym parameters) (h.each p).parameters;
  members = λ p. subst (λ xs. AreRows shapes (rows_of (slice_index_or xs p []))) (sym members) (h.each p).members;
}

declared_within : (shapes : List Shape) (t : Typing) (node : Option ℕ) → AreWithin shapes t → room_of_declared (declared_by t.declared node) ≤ length shapes
declared_within shapes t None h = omega arith
declared_within shapes t (Some p) h = (h.each p).declared

pub are_ready : (shapes : List Shape) (t : Typing) (c : Columns) → c.facts.now ≡ t.facts → c.named.now ≡ t.named
    → c.derivations.now ≡ t.derivations → c.declared.now ≡ t.declared → c.parameters.now ≡ t.parameters → c.members.now ≡ t.members
    → AreWithin shapes t → AreReady shapes c
are_ready shapes t c facts named derivations declared parameters members h = record {
  columns = are_columns shapes t c facts named derivations parameters members h;
  declared = λ node. subst (λ xs. room_of_declared (declared_by xs node) ≤ length shapes) (sym declared) (declared_within shapes t node h);
}

parameters_within : (shapes : List Shape) (t : Typing) (node : Option ℕ) (k : ℕ) → AreWithin shapes t
    → IfSome (slice_get (parameters_in t.parameters node) k) (λ row. row < length shapes)
parameters_within shapes t None k h = tt
parameters_within shapes t (Some p) k h = some_row shapes (slice_index_or t.parameters p []) k (h.each p).parameters

named_within : (shapes : List Shape) (t : Typing) (node : Option ℕ) → AreWithin shapes t → named_row t.named node < length shapes
named_within shapes t None h = h.facts.room
named_within shapes t (Some p) h = (h.each p).named

pub are_known : (shapes : List Shape) (t : Typing) (k : Known) → k.declared.now ≡ t.declared → k.parameters.now ≡ t.parameters
    → k.named.now ≡ t.named → k.members.now ≡ t.members → AreWithin shapes t → AreKnown (length shapes) k
are_known shapes t k declared parameters named members h = record {
  declared = λ node. subst (λ xs. room_of_declared (declared_by xs node) ≤ length shapes) (sym declared) (declared_within shapes t node h);
  parameters = λ node j. subst (λ xs. IfSome (slice_get (parameters_in xs node) j) (λ row. row < length shapes)) (sym parameters)
      (parameters_within shapes t node j h);
  named = λ node. subst (λ xs. named_row xs node < length shapes) (sym named) (named_within shapes t node h);
  members = λ structure token.
      subst (λ xs. IfSome (member_row k.names.now xs structure token) (λ row. row < length shapes)) (sym members)
      (member_within shapes (slice_index_or k.names.now token 0) (slice_index_or t.members structure []) (h.each structure).members);
}

-- ---- what the rules read

pub before_kept : (old new : List Shape) (t : Typing) → Grows old new → AreWithin old t → before_in new t ≡ before_in old t
before_kept old new t grows h = λ s. record {
  seen = λ p. seen_kept old new (fact_at t.facts p) grows (h.facts.rows p) s;
  specified = (before_in old t).specified;
  named = λ p. grows.keeps (slice_index_or t.named p 0) (h.each p).named s;
  declarator = (before_in old t).declarator;
  derived = λ p. grows.keeps (slice_index_or t.derivations p 0) (h.each p).derivations s;
  parameters = λ p. types_kept old new (slice_index_or t.parameters p []) grows (h.each p).parameters s;
  layouts = t.layouts;
  fixed = (before_in old t).fixed;
  enumerated = (before_in old t).enumerated;
}

found_same : (new old : ℕ → Qualified) (count : ℕ) (row : Option ℕ) → ((r : ℕ) → r < count → new r ≡ old r) → IfSome row (λ r. r < count)
    → found_by new row ≡ found_by old row
found_same new old count None keeps h = refl
found_same new old count (Some row) keeps h = ap Some (keeps row h)

meaning_same : (new old : ℕ → Qualified) (count : ℕ) (rows : List ℕ) (d : Declared) → ((r : ℕ) → r < count → new r ≡ old r)
    → room_of_declared d ≤ count → ((k : ℕ) → IfSome (slice_get rows k) (λ r. r < count)) → meaning_by new rows d ≡ meaning_by old rows d
meaning_same new old count rows (Object row register) keeps h p = ap (λ type. an_object type register) (keeps row (omega (arith, h)))
meaning_same new old count rows (Enumerator value) keeps h p = refl
meaning_same new old count rows (Function row more) keeps h p = λ t. a_function (record {
  gives = keeps row (omega (arith, h)) t;
  count = length rows;
  parameter = λ k. found_same new old count (slice_get rows k) keeps (p k) t;
  more = more;
})
meaning_same new old count rows TypeName keeps h p = refl
meaning_same new old count rows Unclear keeps h p = refl

pub source_kept : (old new : List Shape) (u : Tree) (texts : List (List ℕ)) (t : Typing) → Grows old new → AreWithin old t
    → source_in (type_at new) u texts t ≡ source_in (type_at old) u texts t
source_kept old new u texts t grows h = λ s. record {
  nodes = u.nodes.now;
  spelling = spelling_of u.file.now u.tokens.now;
  stands = λ node.
      let d = slice_index_or u.visible.now node None in
      meaning_same (type_at new) (type_at old) (length old) (parameters_in t.parameters d) (declared_by t.declared d) grows.keeps
      (declared_within old t d h) (λ k. parameters_within old t d k h) s;
  text = λ node. length (slice_index_or texts node []);
  named = λ node. grows.keeps (named_row t.named node) (named_within old t node h) s;
  member = λ structure token.
      found_same (type_at new) (type_at old) (length old) (member_row u.names.now t.members structure token) grows.keeps
      (member_within old (slice_index_or u.names.now token 0) (slice_index_or t.members structure []) (h.each structure).members) s;
  layouts = t.layouts;
  fixed = λ structure. slice_index_or t.fixed structure Bool.false;
}

pub known_kept : (old new : List Shape) (u : Tree) (t : Typing) → Grows old new → AreWithin old t → known_in new u t ≡ known_in old u t
known_kept old new u t grows h =
    ap (λ b. known_by u.nodes.now b (anchor_at t.anchors) (members_at new t.members)) (before_kept old new t grows h)
    ∙ (λ s. known_by u.nodes.now (before_in old t) (anchor_at t.anchors)
    (λ d. members_kept old new (slice_index_or t.members d []) grows (h.each d).members s))

pub object_kept : (old new : List Shape) (t : Typing) (n : Node) → Grows old new → AreWithin old t → object_in new t n ≡ object_in old t n
object_kept old new t n grows h =
    let d = slice_get n.parts 0 in
    object_same old new (parameters_in t.parameters d) (declared_by t.declared d) grows (declared_within old t d h)

pub seen_facts_kept : (old new : List Shape) (t : Typing) → Grows old new → AreWithin old t → facts_at new t.facts ≡ facts_at old t.facts
seen_facts_kept old new t grows h = λ s. λ p. seen_kept old new (fact_at t.facts p) grows (h.facts.rows p) s

-- ---- declarations of linked names

pub are_links : (shapes : List Shape) (t : Typing) (l : Links) → l.composites.now ≡ t.composites → l.parameters.now ≡ t.composite_parameters
    → AreWithin shapes t → AreLinks shapes l
are_links shapes t l composites parameters h = record {
  composites = λ p. subst (λ xs. slice_index_or xs p 0 < length shapes) (sym composites) (h.each p).composite;
  parameters = λ p. subst (λ xs. AreRows shapes (slice_index_or xs p [])) (sym parameters) (h.each p).composite_parameters;
}

pub name_kept : (old new : List Shape) (d : Declared) (row : ℕ) (rows : List ℕ) → Grows old new → row < length old → AreRows old rows
    → type_as d (type_at new row) (map (type_at new) rows) ≡ type_as d (type_at old row) (map (type_at old) rows)
name_kept old new d row rows grows low h =
    ap (λ type. type_as d type (map (type_at new) rows)) (grows.keeps row low) ∙ ap (type_as d (type_at old row)) (types_kept old new rows grows h)

pub past_kept : (old new : List Shape) (t : Typing) → Grows old new → AreWithin old t → past_in new t ≡ past_in old t
past_kept old new t grows h = λ s. record {
  linked = (past_in old t).linked;
  seen = λ p. name_kept old new (slice_index_or t.declared p Unclear) (slice_index_or t.named p 0) (slice_index_or t.parameters p []) grows
      (h.each p).named (h.each p).parameters s;
  composite = λ p. name_kept old new (slice_index_or t.declared p Unclear) (slice_index_or t.composites p 0)
      (slice_index_or t.composite_parameters p []) grows (h.each p).composite (h.each p).composite_parameters s;
}
