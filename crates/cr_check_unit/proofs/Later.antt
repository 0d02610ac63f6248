-- What a node has stays what its rules make of the columns before it, in whatever table comes later.
use Rattle.std.proofs.Common.{◌≡◌, ℕ, ◌<◌, List, [], Option, None, Some, length, map, slice_get, slice_index_or, refl, sym, ap, subst, ◌∙◌, arith}
use Rattle.cr_syntax.specs.declared.node.Node.{Node}
use Rattle.cr_check_types.specs.declared.shape.Shape.{Shape}
use Rattle.cr_check_types.specs.Types.{Qualified, type_at, IsRow, Grows}
use Rattle.cr_check_types.specs.Relations.{AreRows}
use Rattle.cr_check_operands.specs.declared.fact.Fact.{Fact}
use Rattle.cr_check_operands.specs.Values.{seen_at}
use Rattle.cr_check_expressions.specs.declared.least.Break.{Break}
use Rattle.cr_check_expressions.specs.Known.{meaning_by, declared_by, parameters_in}
use Rattle.cr_check_expressions.specs.Forms.{form_of}
use Rattle.cr_check_expressions.specs.Ruled.{facts_at, ruled}
use Rattle.cr_check_expressions.specs.Breaks.{lesser, first_of, faults_if}
use Rattle.cr_check_expressions.proofs.Kept.{seen_kept, grows_on}
use Rattle.cr_check_expressions.specs.declared.known.Declared.{Declared}
use Rattle.cr_check_expressions.specs.declared.known.Declared.TheVariants.{Unclear}
use Rattle.cr_check_declarators.specs.declared.words.Specified.{Specified}
use Rattle.cr_check_declarators.specs.declared.declarator.Declarator.{Declarator}
use Rattle.cr_check_declarators.specs.declared.linkages.Declaration.{Declaration}
use Rattle.cr_check_declarators.specs.Specifiers.{nothing}
use Rattle.cr_check_declarations.specs.declared.tree.Tree.{Tree}
use Rattle.cr_check_declarations.specs.declared.before.Columns.{Columns}
use Rattle.cr_check_declarations.specs.Before.{Before, before_at}
use Rattle.cr_check_declarations.specs.Named.{named_by}
use Rattle.cr_check_declarations.specs.Faults.{has_at, faults_if as declaration_faults_if}
use Rattle.cr_check_initialisers.specs.declared.anchor.Anchor.{Anchor}
use Rattle.cr_check_initialisers.specs.Plans.{entries_of}
use Rattle.cr_check_initialised.specs.declared.initialised.Filled.{Filled}
use Rattle.cr_check_initialised.specs.Anchors.{names_static, anchor_at, anchor_by}
use Rattle.cr_check_initialised.specs.Known.{known_by, known_at, members_at}
use Rattle.cr_check_initialised.specs.Initialised.{object_of, object_at, named_first, planned_by, IsFilled, IsFilledBy}
use Rattle.cr_check_initialised.specs.Faults.{faults_if as initialiser_faults_if}
use Rattle.cr_check_initialised.proofs.Kept.{entries_kept}
use Rattle.cr_check_linkage.specs.declared.links.Links.{Links}
use Rattle.cr_check_linkage.specs.NameTypes.{NameType, type_as, type_or, parameters_or}
use Rattle.cr_check_linkage.specs.Linked.{Past, past_at}
use Rattle.cr_check_linkage.specs.Faults.{faults_if as linked_faults_if}
use Rattle.cr_check_unit.specs.declared.typing.Typing.{Typing}
use Rattle.cr_check_unit.specs.declared.entry.Entry.{Entry}
use Rattle.cr_check_unit.specs.Typing.{before_in, source_in, known_in, declared_in, object_in, past_in, IsWithin, AreWithin}
use Rattle.cr_check_unit.specs.Breaks.{expression_faults, declaration_faults, initialiser_faults, linked_faults, object_if}
use Rattle.cr_check_unit.proofs.Kept.{types_kept, before_kept, source_kept, known_kept, object_kept, seen_facts_kept, name_kept, past_kept}

-- the columns as the code hands them in, and as they are read by a later table
pub before_later : (now later : List Shape) (t : Typing) (c : Columns) → ((shapes : List Shape) → before_at shapes c ≡ before_in shapes t)
    → Grows now later → AreWithin now t → before_at now c ≡ before_in later t
before_later now later t c is grows h = is now ∙ sym (before_kept now later t grows h)

pub below_later : (now later : List Shape) (row : ℕ) → Grows now later → row < length now → row < length later
below_later now later row grows low = let l = grows.longer in omega (arith, l, low)

pub fact_later : (old new later : List Shape) (u : Tree) (texts : List (List ℕ)) (t : Typing) (fact : Fact) (i : ℕ) (n : Node)
    → Grows old new → Grows new later → AreWithin old t → fact.row < length new
    → seen_at new fact ≡ ruled (form_of n.kind) (facts_at old t.facts) (source_in (type_at old) u texts t) i n
    → seen_at later fact ≡ ruled (form_of n.kind) (facts_at later t.facts) (source_in (type_at later) u texts t) i n
fact_later old new later u texts t fact i n grows more h within is =
    seen_kept new later fact more within
    ∙ is
    ∙ ap (λ a. ruled (form_of n.kind) a (source_in (type_at old) u texts t) i n)
    (sym (seen_facts_kept old later t (grows_on old new later grows more) h))
    ∙ ap (λ s. ruled (form_of n.kind) (facts_at later t.facts) s i n)
    (sym (source_kept old later u texts t (grows_on old new later grows more) h))

-- a row whose type is a rule of the columns
pub row_later : (old new later : List Shape) (t : Typing) (c : Columns) (f : Before → Qualified) (row : ℕ)
    → ((shapes : List Shape) → before_at shapes c ≡ before_in shapes t) → Grows old new → Grows new later → AreWithin old t
    → IsRow new row (f (before_at old c)) → type_at later row ≡ f (before_in later t)
row_later old new later t c f row is grows more h made =
    more.keeps row made.within ∙ made.is ∙ ap f (before_later old later t c is (grows_on old new later grows more) h)

-- the type that a node names, by what it derives
pub named_later : (old new later : List Shape) (u : Tree) (t : Typing) (c : Columns) (said : Specified) (own : Declarator) (derived row i : ℕ)
    (n : Node) → ((shapes : List Shape) → before_at shapes c ≡ before_in shapes t) → Grows old new → Grows new later → AreWithin old t
    → derived < length old → IsRow new row (named_by n.kind u said own (type_at old derived) (before_at old c) i n)
    → type_at later row ≡ named_by n.kind u said own (type_at later derived) (before_in later t) i n
named_later old new later u t c said own derived row i n is grows more h within made =
    let all = grows_on old new later grows more in
    more.keeps row made.within
    ∙ made.is
    ∙ ap (λ d. named_by n.kind u said own d (before_at old c) i n) (sym (all.keeps derived within))
    ∙ ap (λ b. named_by n.kind u said own (type_at later derived) b i n) (before_later old later t c is all h)

-- what is a rule of the columns and of the types of rows
pub whole_later : {A : Type 0} → (now later : List Shape) (t : Typing) (c : Columns) (f : Before → List Qualified → A) (x : A) (rows : List ℕ)
    → ((shapes : List Shape) → before_at shapes c ≡ before_in shapes t) → Grows now later → AreWithin now t → AreRows now rows
    → x ≡ f (before_at now c) (map (type_at now) rows) → x ≡ f (before_in later t) (map (type_at later) rows)
whole_later now later t c f x rows is grows h within made =
    made
    ∙ ap (λ b. f b (map (type_at now) rows)) (before_later now later t c is grows h)
    ∙ ap (f (before_in later t)) (sym (types_kept now later rows grows within))

-- ---- initialisers

-- what they ask of the columns as the code hands them in
pub known_handed : (shapes : List Shape) (u : Tree) (t : Typing) (c : Columns) (anchors : List Anchor) → before_at shapes c ≡ before_in shapes t
    → c.members.now ≡ t.members → anchors ≡ t.anchors → known_at shapes u.nodes.now c anchors ≡ known_in shapes u t
known_handed shapes u t c anchors before members same =
    ap (λ b. known_by u.nodes.now b (anchor_at anchors) (members_at shapes c.members.now)) before
    ∙ ap (λ xs. known_by u.nodes.now (before_in shapes t) (anchor_at xs) (members_at shapes c.members.now)) same
    ∙ ap (λ ms. known_by u.nodes.now (before_in shapes t) (anchor_at t.anchors) (members_at shapes ms)) members

pub object_handed : (shapes : List Shape) (t : Typing) (c : Columns) (n : Node) → c.declared.now ≡ t.declared → c.parameters.now ≡ t.parameters
    → object_at shapes c n ≡ object_in shapes t n
object_handed shapes t c n declared parameters =
    let d = slice_get n.parts 0 in
    ap (λ xs. object_of (meaning_by (type_at shapes) (parameters_in xs d) (declared_by c.declared.now d))) parameters
    ∙ ap (λ xs. object_of (meaning_by (type_at shapes) (parameters_in t.parameters d) (declared_by xs d))) declared

-- what of its address is constant
pub anchor_later : (now later : List Shape) (u : Tree) (t : Typing) (c : Columns) (anchors : List Anchor) (own : Anchor) (v : Option ℕ) (n : Node)
    → ((shapes : List Shape) → before_at shapes c ≡ before_in shapes t) → c.declared.now ≡ t.declared → anchors ≡ t.anchors
    → Grows now later → AreWithin now t
    → ((look : ℕ → Qualified) (rows : List ℕ) → own ≡ anchor_by (form_of n.kind) (before_at now c) (anchor_at anchors)
    (names_static (meaning_by look rows (declared_by c.declared.now v)) u (before_at now c).specified v) n.parts)
    → own ≡ anchor_by (form_of n.kind) (before_in later t) (anchor_at t.anchors)
    (names_static (declared_in later t v) u (before_in later t).specified v) n.parts
anchor_later now later u t c anchors own v n before declared same grows h is =
    let look = type_at later in
    let rows = parameters_in t.parameters v in
    is look rows
    ∙ ap (λ b. anchor_by (form_of n.kind) b (anchor_at anchors) (names_static (meaning_by look rows (declared_by c.declared.now v)) u b.specified v) n.parts)
    (before_later now later t c before grows h)
    ∙ ap (λ xs. anchor_by (form_of n.kind) (before_in later t) (anchor_at xs) (names_static (meaning_by look rows (declared_by c.declared.now v)) u (before_in later t).specified v) n.parts)
    same
    ∙ ap (λ ds. anchor_by (form_of n.kind) (before_in later t) (anchor_at t.anchors) (names_static (meaning_by look rows (declared_by ds v)) u (before_in later t).specified v) n.parts)
    declared

-- the type that a node names, and its plan
pub filled_in : (later : List Shape) (u : Tree) (t : Typing) (c : Columns) (anchors : List Anchor) (named i : ℕ) (f : Filled) (n : Node)
    (type : Qualified) → before_at later c ≡ before_in later t → c.members.now ≡ t.members → c.layouts.now ≡ t.layouts
    → c.declared.now ≡ t.declared → c.parameters.now ≡ t.parameters → anchors ≡ t.anchors → type_at later named ≡ type
    → IsFilledBy later u c anchors named f i n
    → IsFilled (known_in later u t) i (planned_by n.kind t.layouts (object_in later t n) n.parts) (named_first n.kind (object_in later t n) type)
    (type_at later f.row) (entries_of later f.lines)
filled_in later u t c anchors named i f n type before members layouts declared parameters same is h =
    let row = type_at later f.row in
    let xs = entries_of later f.lines in
    let k = known_in later u t in
    let a = subst (λ x. IsFilled x i (planned_by n.kind c.layouts.now (object_at later c n) n.parts) (named_first n.kind (object_at later c n) (type_at later named)) row xs)
    (known_handed later u t c anchors before members same) h in
    let b = subst (λ x. IsFilled k i (planned_by n.kind c.layouts.now x n.parts) (named_first n.kind x (type_at later named)) row xs)
    (object_handed later t c n declared parameters) a in
    let d = subst (λ x. IsFilled k i (planned_by n.kind x (object_in later t n) n.parts) (named_first n.kind (object_in later t n) (type_at later named)) row xs) layouts b in
    subst (λ x. IsFilled k i (planned_by n.kind t.layouts (object_in later t n) n.parts) (named_first n.kind (object_in later t n) x) row xs) is d

-- ---- declarations of linked names

abbrev past_of : List Shape → List Declared → List ℕ → List (List ℕ) → List (Option Declaration) → List ℕ → List (List ℕ) → Past
past_of shapes declared named parameters linked composites rows = record {
  linked = λ p. slice_index_or linked p None;
  seen = λ p. type_as (slice_index_or declared p Unclear) (type_at shapes (slice_index_or named p 0)) (map (type_at shapes) (slice_index_or parameters p []));
  composite = λ p. type_as (slice_index_or declared p Unclear) (type_at shapes (slice_index_or composites p 0)) (map (type_at shapes) (slice_index_or rows p []));
}

-- what they ask of the columns as the code hands them in
pub past_handed : (shapes : List Shape) (t : Typing) (c : Columns) (l : Links) → c.declared.now ≡ t.declared → c.named.now ≡ t.named
    → c.parameters.now ≡ t.parameters → l.linked.now ≡ t.linked → l.composites.now ≡ t.composites → l.parameters.now ≡ t.composite_parameters
    → past_at shapes c l ≡ past_in shapes t
past_handed shapes t c l declared named parameters linked composites rows =
    λ s. past_of shapes (declared s) (named s) (parameters s) (linked s) (composites s) (rows s)

-- a row whose type they make of a name's own one
pub joined_later : (old new later : List Shape) (past : Past) (f : Past → NameType → NameType) (d known : Declared) (own row : ℕ) (rows : List ℕ)
    (type : Qualified) (types : List Qualified) (handed : Past) → Grows new later
    → IsRow new row (type_or (type_at old own) (f handed (type_as d (type_at old own) (map (type_at old) rows)))) → handed ≡ past
    → d ≡ known → type_at old own ≡ type → map (type_at old) rows ≡ types → type_at later row ≡ type_or type (f past (type_as known type types))
joined_later old new later past f d known own row rows type types handed grows made same said is are =
    grows.keeps row made.within ∙ made.is ∙ (λ s. type_or (is s) (f (same s) (type_as (said s) (is s) (are s))))

-- rows of parameters
pub parameters_later : (old new later : List Shape) (past : Past) (f : Past → NameType → NameType) (d known : Declared) (own : ℕ) (rows made : List ℕ)
    (type : Qualified) (types : List Qualified) (handed : Past) → Grows new later → AreRows new made
    → map (type_at new) made ≡ parameters_or (map (type_at old) rows) (f handed (type_as d (type_at old own) (map (type_at old) rows)))
    → handed ≡ past → d ≡ known → type_at old own ≡ type → map (type_at old) rows ≡ types
    → map (type_at later) made ≡ parameters_or types (f past (type_as known type types))
parameters_later old new later past f d known own rows made type types handed grows within so same said is are =
    types_kept new later made grows within ∙ so ∙ (λ s. parameters_or (are s) (f (same s) (type_as (said s) (is s) (are s))))

-- ---- breaks

has_kept : (now later : List Shape) (e : Entry) → Grows now later → IsWithin now e → has_at later e.own ≡ has_at now e.own
has_kept now later e grows h = λ s. record {
  specified = e.own.specified;
  declarator = e.own.declarator;
  derived = grows.keeps e.own.derivations h.derivations s;
  named = grows.keeps e.own.named h.named s;
  layout = e.own.layout;
  enumerated = e.own.enumerated;
}

expression_kept : (now later : List Shape) (u : Tree) (texts : List (List ℕ)) (t : Typing) (e : Entry) (i : ℕ) (n : Option Node)
    → Grows now later → AreWithin now t → IsWithin now e → expression_faults u texts later t e i n ≡ expression_faults u texts now t e i n
expression_kept now later u texts t e i n grows h within =
    ap (λ own. faults_if n own (facts_at later t.facts) (source_in (type_at later) u texts t) i)
    (seen_kept now later e.fact grows within.fact)
    ∙ ap (λ a. faults_if n (seen_at now e.fact) a (source_in (type_at later) u texts t) i)
    (seen_facts_kept now later t grows h)
    ∙ ap (λ s. faults_if n (seen_at now e.fact) (facts_at now t.facts) s i) (source_kept now later u texts t grows h)

object_if_kept : (now later : List Shape) (t : Typing) (n : Option Node) → Grows now later → AreWithin now t → object_if later t n ≡ object_if now t n
object_if_kept now later t None grows h = refl
object_if_kept now later t (Some n) grows h = object_kept now later t n grows h

initialiser_kept : (now later : List Shape) (u : Tree) (t : Typing) (e : Entry) (i : ℕ) (n : Option Node)
    → Grows now later → AreWithin now t → IsWithin now e → initialiser_faults u later t e i n ≡ initialiser_faults u now t e i n
initialiser_kept now later u t e i n grows h within =
    let bracket = e.own.declarator.sizeless in
    let before = before_in now t in
    ap (λ k. initialiser_faults_if n k u (before_in later t) bracket (object_if later t n) (type_at later e.own.named) (entries_of later e.lines) i)
    (known_kept now later u t grows h)
    ∙ ap (λ b. initialiser_faults_if n (known_in now u t) u b bracket (object_if later t n) (type_at later e.own.named) (entries_of later e.lines) i)
    (before_kept now later t grows h)
    ∙ ap (λ o. initialiser_faults_if n (known_in now u t) u before bracket o (type_at later e.own.named) (entries_of later e.lines) i)
    (object_if_kept now later t n grows h)
    ∙ ap (λ x. initialiser_faults_if n (known_in now u t) u before bracket (object_if now t n) x (entries_of later e.lines) i)
    (grows.keeps e.own.named within.named)
    ∙ ap (λ xs. initialiser_faults_if n (known_in now u t) u before bracket (object_if now t n) (type_at now e.own.named) xs i)
    (entries_kept now later e.lines grows within.lines)

declaration_kept : (now later : List Shape) (u : Tree) (t : Typing) (e : Entry) (i : ℕ) (n : Option Node)
    → Grows now later → AreWithin now t → IsWithin now e → declaration_faults u later t e i n ≡ declaration_faults u now t e i n
declaration_kept now later u t e i n grows h within =
    ap (λ own. declaration_faults_if n own (before_in later t) u i) (has_kept now later e grows within)
    ∙ ap (λ b. declaration_faults_if n (has_at now e.own) b u i) (before_kept now later t grows h)

linked_kept : (now later : List Shape) (u : Tree) (t : Typing) (e : Entry) (i : ℕ) (n : Option Node)
    → Grows now later → AreWithin now t → IsWithin now e → linked_faults u later t e i n ≡ linked_faults u now t e i n
linked_kept now later u t e i n grows h within =
    λ s. linked_faults_if n e.linked u (λ p. slice_index_or t.specified p nothing) e.own.declarator (past_kept now later t grows h s)
    (name_kept now later e.declared e.own.named e.parameters grows within.named within.parameters s) i

pub breaks_later : (now later : List Shape) (u : Tree) (texts : List (List ℕ)) (t : Typing) (e : Entry) (i : ℕ) (n : Option Node)
    (b : Option Break) → Grows now later → AreWithin now t → IsWithin now e
    → b ≡ lesser (first_of (expression_faults u texts now t e i n))
    (lesser (first_of (declaration_faults u now t e i n)) (lesser (first_of (initialiser_faults u now t e i n)) (first_of (linked_faults u now t e i n))))
    → b ≡ lesser (first_of (expression_faults u texts later t e i n))
    (lesser (first_of (declaration_faults u later t e i n)) (lesser (first_of (initialiser_faults u later t e i n)) (first_of (linked_faults u later t e i n))))
breaks_later now later u texts t e i n b grows h within is =
    let expressions = sym (expression_kept now later u texts t e i n grows h within) in
    let declarations = sym (declaration_kept now later u t e i n grows h within) in
    let initialisers = sym (initialiser_kept now later u t e i n grows h within) in
    let linked = sym (linked_kept now later u t e i n grows h within) in
    is ∙ (λ s. lesser (first_of (expressions s)) (lesser (first_of (declarations s)) (lesser (first_of (initialisers s)) (first_of (linked s)))))
