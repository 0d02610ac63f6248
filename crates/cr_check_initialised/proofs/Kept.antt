-- What initialised declarators have stays so when the table of types grows.
use Rattle.std.proofs.Common.{◌≡◌, ◌==◌, ℕ, zero, suc, ◌+◌, ◌<◌, ◌≤◌, ◌∷◌, [], List, Bool, Option, None, Some, length, map, nat_lt, slice_get, slice_index_or, if◌then◌else◌, refl, sym, ap, subst, ◌∙◌, arith}
use Rattle.std.proofs.lemmas.Bool.{ltb-true, ltb-false}
use Rattle.cr_syntax.specs.declared.node.Node.{Node}
use Rattle.cr_check_types.specs.declared.layout.Layout.{Layout}
use Rattle.cr_check_types.specs.declared.shape.Shape.{Shape}
use Rattle.cr_check_types.specs.Types.{Qualified, plain, pointer, array, unknown, type_at, IsRow, Grows}
use Rattle.cr_check_types.specs.Relations.{AreRows}
use Rattle.cr_check_operands.specs.declared.fact.Fact.{Fact}
use Rattle.cr_check_operands.specs.Values.{Seen, no_type, seen_at}
use Rattle.cr_check_expressions.specs.declared.known.Member.{Member}
use Rattle.cr_check_expressions.specs.declared.known.Declared.{Declared}
use Rattle.cr_check_expressions.specs.declared.known.Declared.TheVariants.{Object, Enumerator, Function, TypeName, Unclear}
use Rattle.cr_check_expressions.specs.Known.{declared_by, parameters_in, meaning_at, room_of_declared}
use Rattle.cr_check_expressions.specs.Ruled.{no_fact, fact_at, facts_at}
use Rattle.cr_check_expressions.proofs.Kept.{seen_kept, grows_on}
use Rattle.cr_check_types.proofs.Tables.{beyond}
use Rattle.cr_check_initialisers.specs.declared.anchor.Anchor.{Anchor}
use Rattle.cr_check_initialisers.specs.declared.lines.Line.{Line}
use Rattle.cr_check_initialisers.specs.declared.lines.Line.TheVariants as line
use Rattle.cr_check_initialisers.specs.Known.{Known, cells_of, seen_if, member_types, is_text_if, is_list_if, parts_if, first_if}
use Rattle.cr_check_initialisers.specs.Places.{sized}
use Rattle.cr_check_initialisers.specs.Plans.{Entry, put, IsPlan, entry_of, entries_of, is_open, length_asked}
use Rattle.cr_check_declarations.specs.declared.tree.Tree.{Tree}
use Rattle.cr_check_declarations.specs.declared.before.Columns.{Columns}
use Rattle.cr_check_declarations.specs.Before.{before_at, rows_of}
use Rattle.cr_check_initialised.specs.declared.initialised.Filled.{Filled}
use Rattle.cr_check_initialised.specs.declared.initialised.Object as code
use Rattle.cr_check_initialised.specs.Anchors.{anchor_at}
use Rattle.cr_check_initialised.specs.Known.{known_by, known_at, members_at, declared_at, AreReady}
use Rattle.cr_check_initialised.specs.Initialised.{object_of, object_at, named_first, planned_by, Planned, IsCompleted, IsFilled, IsFilledBy, AreSeated, seat, seated}
use Rattle.cr_check_initialised.specs.Objects.{planned_of}

-- ---- the table's first row

pub first_row : (shapes : List Shape) (c : Columns) → AreReady shapes c → IsRow shapes 0 unknown
first_row shapes c h = record { within = h.columns.facts.room; is = h.columns.facts.first }

pub row_kept : (old new : List Shape) (row : ℕ) (type : Qualified) → Grows old new → IsRow old row type → IsRow new row type
row_kept old new row type grows h =
    let l = grows.longer in
    let w = h.within in
    record { within = omega (arith, l, w); is = grows.keeps row h.within ∙ h.is }

-- ---- what is known

seen_same : (shapes : List Shape) (facts : List Fact) (i : ℕ) → type_at shapes 0 ≡ unknown → seen_if shapes (slice_get facts i) ≡ facts_at shapes facts i
seen_same shapes [] i first =
    ap (λ type. record { type = type; lvalue = Bool.false; register = Bool.false; constant = no_fact.constant; null = Bool.false }) (sym first)
seen_same shapes (f ∷ fs) zero first = refl
seen_same shapes (f ∷ fs) (suc i) first = seen_same shapes fs i first

-- the columns as `cr_check_initialisers` reads them
pub same_known : (shapes : List Shape) (nodes : List Node) (c : Columns) (anchors : List Anchor) → IsRow shapes 0 unknown
    → record {
      cells = λ t. cells_of c.layouts.now t;
      members = members_at shapes c.members.now;
      seen = λ i. seen_if shapes (slice_get c.facts.now i);
      anchor = anchor_at anchors;
      literal = λ i. is_text_if (slice_get nodes i);
      listed = λ i. is_list_if (slice_get nodes i);
      initialisers = λ i. parts_if (slice_get nodes i);
      first = λ i. first_if (slice_get nodes i);
    } ≡ known_at shapes nodes c anchors
same_known shapes nodes c anchors row = λ s. record {
  cells = λ t. cells_of c.layouts.now t;
  members = members_at shapes c.members.now;
  seen = λ i. seen_same shapes c.facts.now i row.is s;
  anchor = anchor_at anchors;
  literal = λ i. is_text_if (slice_get nodes i);
  listed = λ i. is_list_if (slice_get nodes i);
  initialisers = λ i. parts_if (slice_get nodes i);
  first = λ i. first_if (slice_get nodes i);
}

pub members_kept : (old new : List Shape) (members : List Member) → Grows old new → AreRows old (rows_of members)
    → member_types new members ≡ member_types old members
members_kept old new [] grows h = refl
members_kept old new (m ∷ ms) grows h =
    λ s. grows.keeps m.row (h 0 (omega arith)) s ∷ members_kept old new ms grows (λ j low. h (suc j) (omega (arith, low))) s

pub known_kept : (old new : List Shape) (nodes : List Node) (c : Columns) (anchors : List Anchor) → Grows old new → AreReady old c
    → known_at new nodes c anchors ≡ known_at old nodes c anchors
known_kept old new nodes c anchors grows h = λ s. record {
  cells = λ t. cells_of c.layouts.now t;
  members = λ d. members_kept old new (slice_index_or c.members.now d []) grows (h.columns.members d) s;
  seen = λ p. seen_kept old new (fact_at c.facts.now p) grows (h.columns.facts.rows p) s;
  anchor = anchor_at anchors;
  literal = λ i. is_text_if (slice_get nodes i);
  listed = λ i. is_list_if (slice_get nodes i);
  initialisers = λ i. parts_if (slice_get nodes i);
  first = λ i. first_if (slice_get nodes i);
}

pub object_same : (old new : List Shape) (rows : List ℕ) (d : Declared) → Grows old new → room_of_declared d ≤ length old
    → object_of (meaning_at new rows d) ≡ object_of (meaning_at old rows d)
object_same old new rows (Object row register) grows h = ap Some (grows.keeps row (omega (arith, h)))
object_same old new rows (Enumerator value) grows h = refl
object_same old new rows (Function row more) grows h = refl
object_same old new rows TypeName grows h = refl
object_same old new rows Unclear grows h = refl

pub object_kept : (old new : List Shape) (c : Columns) (n : Node) → Grows old new → AreReady old c → object_at new c n ≡ object_at old c n
object_kept old new c n grows h =
    object_same old new (parameters_in c.parameters.now (slice_get n.parts 0)) (declared_by c.declared.now (slice_get n.parts 0)) grows
    (h.declared (slice_get n.parts 0))

-- ---- lines

pub entries_kept : (old new : List Shape) (lines : List Line) → Grows old new → AreSeated old lines → entries_of new lines ≡ entries_of old lines
unfolding entries_of
entries_kept old new [] grows h = refl
entries_kept old new (line.Put p ∷ ls) grows h =
    let low = h.0 in
    λ s. put (record { cell = p.cell; type = grows.keeps p.row (omega (arith, low)) s }) p.node p.user ∷ entries_kept old new ls grows h.1 s
entries_kept old new (line.Excess list ∷ ls) grows h = ap (λ xs. entry_of old (line.Excess list) ∷ xs) (entries_kept old new ls grows h.1)

pub seated_kept : (old new : List Shape) (lines : List Line) → Grows old new → AreSeated old lines → AreSeated new lines
seated_kept old new [] grows h = tt
seated_kept old new (l ∷ ls) grows h =
    let low = h.0 in
    let more = grows.longer in
    (omega (arith, low, more), seated_kept old new ls grows h.1)

type_by_test : (shapes : List Shape) (row : ℕ) (x : Bool) → nat_lt row (length shapes) ≡ x → type_at shapes 0 ≡ unknown
    → type_at shapes (if x then row else 0) ≡ type_at shapes row
type_by_test shapes row Bool.true e first = refl
type_by_test shapes row Bool.false e first = first ∙ sym (beyond shapes row (ltb-false row (length shapes) e))

seat_same : (shapes : List Shape) (row : ℕ) → type_at shapes 0 ≡ unknown → type_at shapes (seat shapes row) ≡ type_at shapes row
seat_same shapes row first = type_by_test shapes row (nat_lt row (length shapes)) refl first

entries_seated : (shapes : List Shape) (lines : List Line) → IsRow shapes 0 unknown → entries_of shapes (map (seated shapes) lines) ≡ entries_of shapes lines
unfolding entries_of
entries_seated shapes [] row = refl
entries_seated shapes (line.Put p ∷ ls) row =
    λ s. put (record { cell = p.cell; type = seat_same shapes p.row row.is s }) p.node p.user ∷ entries_seated shapes ls row s
entries_seated shapes (line.Excess list ∷ ls) row = ap (λ xs. entry_of shapes (line.Excess list) ∷ xs) (entries_seated shapes ls row)

seat_by_test : (shapes : List Shape) (row : ℕ) (x : Bool) → nat_lt row (length shapes) ≡ x → 0 < length shapes → (if x then row else 0) < length shapes
seat_by_test shapes row Bool.true e room = ltb-true row (length shapes) e
seat_by_test shapes row Bool.false e room = room

all_seated : (shapes : List Shape) (lines : List Line) → IsRow shapes 0 unknown → AreSeated shapes (map (seated shapes) lines)
all_seated shapes [] row = tt
all_seated shapes (line.Put p ∷ ls) row =
    let low = seat_by_test shapes p.row (nat_lt p.row (length shapes)) refl row.within in
    (omega (arith, low), all_seated shapes ls row)
all_seated shapes (line.Excess list ∷ ls) row = (omega arith, all_seated shapes ls row)

pub seated_same : (shapes : List Shape) (lines rows : List Line) → IsRow shapes 0 unknown → rows ≡ map (seated shapes) lines
    → entries_of shapes rows ≡ entries_of shapes lines
seated_same shapes lines rows row e = ap (entries_of shapes) e ∙ entries_seated shapes lines row

pub seated_there : (shapes : List Shape) (lines rows : List Line) → IsRow shapes 0 unknown → rows ≡ map (seated shapes) lines → AreSeated shapes rows
seated_there shapes lines rows row e = subst (AreSeated shapes) (sym e) (all_seated shapes lines row)

-- ---- what a node has, in whatever table comes later

-- a type that isn't an array of unknown size has its size
size_of_known : (n m : ℕ) (t : Qualified) (x : Bool) → (n == 0) ≡ x → x ≡ Bool.false → array (if x then m else n) t ≡ array n t
size_of_known n m t Bool.true e f = absurd cc
size_of_known n m t Bool.false e f = refl

sized_closed : (t : Qualified) (m : ℕ) → is_open t ≡ Bool.false → sized t m ≡ t
sized_closed (plain of c v) m h = refl
sized_closed (pointer c v t) m h = refl
sized_closed (array n t) m h = size_of_known n m t (n == 0) refl h

-- an object that has its size
pub whole_is : (k : Known) (type : Qualified) (above node : ℕ) (xs ys : List Entry) → is_open type ≡ Bool.false → IsPlan k type above node xs
    → ys ≡ xs → IsCompleted k type above node type ys
whole_is k type above node xs ys h p e = record {
  first = xs;
  is_first = p;
  is = sym (sized_closed type (length_asked k type xs) h);
  plan = subst (IsPlan k type above node) (sym e) p;
}

-- an array with the length that its initialiser asks for
pub lengthened_is : (old new : List Shape) (nodes : List Node) (c : Columns) (anchors : List Anchor) (row made count above node : ℕ)
    (first xs ys : List Entry) → AreReady old c → Grows old new
    → IsPlan (known_at old nodes c anchors) (type_at old row) above node first
    → count ≡ length_asked (known_at old nodes c anchors) (type_at old row) first
    → IsRow new made (sized (type_at old row) count)
    → IsPlan (known_at new nodes c anchors) (type_at new made) above node xs → ys ≡ xs
    → IsCompleted (known_at old nodes c anchors) (type_at old row) above node (type_at new made) ys
lengthened_is old new nodes c anchors row made count above node first xs ys h grows p counted is q e = record {
  first = first;
  is_first = p;
  is = is.is ∙ ap (sized (type_at old row)) counted;
  plan = subst (IsPlan (known_at old nodes c anchors) (type_at new made) above node) (sym e)
      (subst (λ k. IsPlan k (type_at new made) above node xs) (known_kept old new nodes c anchors grows h) q);
}

pub filled_later : (old new later : List Shape) (u : Tree) (c : Columns) (anchors : List Anchor) (named i : ℕ) (f : Filled) (n : Node)
    (o : code.Object) → AreReady old c → Grows old new → Grows new later → f.row < length new → AreSeated new f.lines
    → planned_of (type_at old) (Some o) ≡ planned_by n.kind c.layouts.now (object_at old c n) n.parts
    → IsCompleted (known_at old u.nodes.now c anchors) (type_at old o.row) i o.initialiser (type_at new f.row) (entries_of new f.lines)
    → IsFilledBy later u c anchors named f i n
filled_later old new later u c anchors named i f n o h grows more within lines planned is =
    let all = grows_on old new later grows more in
    let type = named_first n.kind (object_at later c n) (type_at later named) in
    let k = known_at old u.nodes.now c anchors in
    let p = planned_by n.kind c.layouts.now (object_at later c n) n.parts in
    let e : planned_of (type_at old) (Some o) ≡ p =
    planned ∙ ap (λ x. planned_by n.kind c.layouts.now x n.parts) (sym (object_kept old later c n all h)) in
    let one : IsFilled k i p type (type_at new f.row) (entries_of new f.lines) =
    subst (λ x. IsFilled k i x type (type_at new f.row) (entries_of new f.lines)) e is in
    let two : IsFilled k i p type (type_at later f.row) (entries_of new f.lines) =
    subst (λ x. IsFilled k i p type x (entries_of new f.lines)) (sym (more.keeps f.row within)) one in
    let three : IsFilled k i p type (type_at later f.row) (entries_of later f.lines) =
    subst (λ x. IsFilled k i p type (type_at later f.row) x) (sym (entries_kept new later f.lines more lines)) two in
    subst (λ x. IsFilled x i p type (type_at later f.row) (entries_of later f.lines)) (sym (known_kept old later u.nodes.now c anchors all h)) three

pub unfilled_later : (old later : List Shape) (u : Tree) (c : Columns) (anchors : List Anchor) (named i : ℕ) (f : Filled) (n : Node)
    → AreReady old c → Grows old later → f.row < length old → named < length old → f.lines ≡ []
    → planned_of (type_at old) None ≡ planned_by n.kind c.layouts.now (object_at old c n) n.parts
    → type_at old f.row ≡ named_first n.kind (object_at old c n) (type_at old named)
    → IsFilledBy later u c anchors named f i n
unfolding entries_of
unfilled_later old later u c anchors named i f n h grows within low lines planned is =
    let k = known_at later u.nodes.now c anchors in
    let type = named_first n.kind (object_at later c n) (type_at later named) in
    let e : None ≡ planned_by n.kind c.layouts.now (object_at later c n) n.parts =
    planned ∙ ap (λ x. planned_by n.kind c.layouts.now x n.parts) (sym (object_kept old later c n grows h)) in
    let t : type_at later f.row ≡ type =
    grows.keeps f.row within
    ∙ is
    ∙ ap (λ x. named_first n.kind x (type_at old named)) (sym (object_kept old later c n grows h))
    ∙ ap (λ x. named_first n.kind (object_at later c n) x) (sym (grows.keeps named low)) in
    subst (λ x. IsFilled k i x type (type_at later f.row) (entries_of later f.lines)) e (t, ap (entries_of later) lines)
