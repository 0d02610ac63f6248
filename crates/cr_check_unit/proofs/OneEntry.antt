-- What rules make of columns that are alike is alike: a lemma for each column.
use Rattle.std.proofs.Common.{◌≡◌, ℕ, ℤ, ◌∷◌, [], ◌++◌, List, Bool, Option, None, Some, drop, map, slice_index_or, if◌then◌else◌, refl, sym, ap, subst, ◌∙◌}
use Rattle.std.specs.List.{flat_map}
use Rattle.std.proofs.lemmas.List.{map-append}
use Rattle.cr_syntax.specs.declared.node.Kind.{Kind}
use Rattle.cr_syntax.specs.declared.node.Kind.TheVariants as kind
use Rattle.cr_syntax.specs.declared.node.Node.{Node}
use Rattle.cr_check_types.specs.declared.shape.Shape.{Shape}
use Rattle.cr_check_types.specs.Types.{Qualified, type_at}
use Rattle.cr_check_operands.specs.Values.{seen_at}
use Rattle.cr_check_expressions.specs.declared.known.Declared.{Declared}
use Rattle.cr_check_expressions.specs.declared.known.Declared.TheVariants.{TypeName, Unclear}
use Rattle.cr_check_expressions.specs.declared.known.Member.{Member}
use Rattle.cr_check_expressions.specs.Known.{an_object, meaning_at, spelling_of}
use Rattle.cr_check_expressions.specs.Forms.{form_of}
use Rattle.cr_check_expressions.specs.Ruled.{facts_at, ruled}
use Rattle.cr_check_declarators.specs.declared.words.Class.{Class}
use Rattle.cr_check_declarators.specs.declared.words.Specified.{Specified}
use Rattle.cr_check_declarators.specs.declared.declarator.Declarator.{Declarator}
use Rattle.cr_check_declarators.specs.declared.enumerators.Enumerated.{Enumerated}
use Rattle.cr_check_declarations.specs.declared.tree.Tree.{Tree}
use Rattle.cr_check_declarations.specs.Before.{Before, kind_in, rows_of}
use Rattle.cr_check_declarations.specs.Specifiers.{said_by}
use Rattle.cr_check_declarations.specs.Declarators.{declarator_by, derived_by}
use Rattle.cr_check_declarations.specs.Named.{named_by, declared_by, ordinary_by, ordinary_of, named_declared, value_by, class_of, is_typedef, is_register, is_variadic, names_ordinary, declares_name, specifiers_in, declaration_of, parameters_by, members_by, member_of, name_number, constant_by}
use Rattle.cr_scopes_events.specs.Declarators.{declarator_of}
use Rattle.cr_check_declarations.specs.Contents.{layout_by, fixed_by, enumerator_by}
use Rattle.cr_check_declarations.specs.Faults.{Has, has_at}
use Rattle.cr_check_initialisers.specs.Plans.{entries_of}
use Rattle.cr_check_initialised.specs.Anchors.{names_static, anchor_by}
use Rattle.cr_check_initialised.specs.Initialised.{named_first, planned_by, IsFilled}
use Rattle.cr_check_initialised.proofs.Fillings.{one_filling}
use Rattle.cr_check_linkage.specs.NameTypes.{type_as, type_or, parameters_or}
use Rattle.cr_check_linkage.specs.Linked.{linked_by, seen_by, composite_by}
use Rattle.cr_check_unit.specs.declared.typing.Typing.{Typing}
use Rattle.cr_check_unit.specs.declared.entry.Entry.{Entry}
use Rattle.cr_check_unit.specs.Typing.{before_in, source_in, known_in, object_in, own_named, own_type, seen_type, name_type, composite_type, IsRuled}
use Rattle.cr_check_unit.specs.Laws.{member_at, AreAlike}
use Rattle.cr_check_unit.proofs.OneReading.{Alike, function_alike, name_alike, rows_alike, before_alike, stands_alike, source_alike, object_alike, known_alike, past_alike}

-- two that are the same rule of what is read
by_rule : {A B : Type 0} → (f : B → A) (x y : A) (b c : B) → x ≡ f b → y ≡ f c → b ≡ c → x ≡ y
by_rule f x y b c h k is = h ∙ ap f is ∙ sym k

-- ---- as an expression

fact_alike : (u : Tree) (texts : List (List ℕ)) (shapes later : List Shape) (t s : Typing) (d e : Entry) (i : ℕ) (n : Node)
    → Alike shapes later t s → IsRuled u texts shapes t d i n → IsRuled u texts later s e i n → seen_at shapes d.fact ≡ seen_at later e.fact
fact_alike u texts shapes later t s d e i n h x y =
    x.fact
    ∙ ap (λ b. ruled (form_of n.kind) b.seen (source_in (type_at shapes) u texts t) i n) (before_alike shapes later t s h)
    ∙ ap (λ source. ruled (form_of n.kind) (facts_at later s.facts) source i n) (source_alike u texts shapes later t s h)
    ∙ sym y.fact

-- ---- as a part of a declaration

specified_alike : (u : Tree) (texts : List (List ℕ)) (shapes later : List Shape) (t s : Typing) (d e : Entry) (i : ℕ) (n : Node)
    → Alike shapes later t s → IsRuled u texts shapes t d i n → IsRuled u texts later s e i n → d.own.specified ≡ e.own.specified
specified_alike u texts shapes later t s d e i n h x y =
    by_rule (λ (b : Before). said_by n.kind b.specified (slice_index_or u.tags.now i None) n) d.own.specified e.own.specified
    (before_in shapes t) (before_in later s) x.specified y.specified (before_alike shapes later t s h)

declarator_alike : (u : Tree) (texts : List (List ℕ)) (shapes later : List Shape) (t s : Typing) (d e : Entry) (i : ℕ) (n : Node)
    → Alike shapes later t s → IsRuled u texts shapes t d i n → IsRuled u texts later s e i n → d.own.declarator ≡ e.own.declarator
declarator_alike u texts shapes later t s d e i n h x y =
    by_rule (λ b. declarator_by n.kind (spelling_of u.file.now u.tokens.now) u.nodes.now b i n) d.own.declarator e.own.declarator
    (before_in shapes t) (before_in later s) x.declarator y.declarator (before_alike shapes later t s h)

derived_alike : (u : Tree) (texts : List (List ℕ)) (shapes later : List Shape) (t s : Typing) (d e : Entry) (i : ℕ) (n : Node)
    → Alike shapes later t s → IsRuled u texts shapes t d i n → IsRuled u texts later s e i n
    → type_at shapes d.own.derivations ≡ type_at later e.own.derivations
derived_alike u texts shapes later t s d e i n h x y =
    by_rule (λ b. derived_by n.kind (spelling_of u.file.now u.tokens.now) u.nodes.now b n) (type_at shapes d.own.derivations)
    (type_at later e.own.derivations) (before_in shapes t) (before_in later s) x.derived y.derived (before_alike shapes later t s h)

own_named_alike : (u : Tree) (texts : List (List ℕ)) (shapes later : List Shape) (t s : Typing) (d e : Entry) (i : ℕ) (n : Node)
    → Alike shapes later t s → IsRuled u texts shapes t d i n → IsRuled u texts later s e i n
    → own_named shapes u t d i n ≡ own_named later u s e i n
own_named_alike u texts shapes later t s d e i n h x y = λ j.
    named_by n.kind u (specified_alike u texts shapes later t s d e i n h x y j) (declarator_alike u texts shapes later t s d e i n h x y j)
    (derived_alike u texts shapes later t s d e i n h x y j) (before_alike shapes later t s h j) i n

enumerated_alike : (u : Tree) (texts : List (List ℕ)) (shapes later : List Shape) (t s : Typing) (d e : Entry) (i : ℕ) (n : Node)
    → Alike shapes later t s → IsRuled u texts shapes t d i n → IsRuled u texts later s e i n → d.own.enumerated ≡ e.own.enumerated
enumerated_alike u texts shapes later t s d e i n h x y =
    by_rule (λ b. enumerator_by n.kind b (slice_index_or u.previous.now i None) n) d.own.enumerated e.own.enumerated
    (before_in shapes t) (before_in later s) x.enumerated y.enumerated (before_alike shapes later t s h)

-- ---- the declarations of a linked name, and the type with which uses see it

linked_alike : (u : Tree) (texts : List (List ℕ)) (shapes later : List Shape) (t s : Typing) (d e : Entry) (i : ℕ) (n : Node)
    → Alike shapes later t s → IsRuled u texts shapes t d i n → IsRuled u texts later s e i n → d.linked ≡ e.linked
linked_alike u texts shapes later t s d e i n h x y =
    x.linked
    ∙ (λ j. linked_by n.kind u (before_alike shapes later t s h j).specified (declarator_alike u texts shapes later t s d e i n h x y j)
    (past_alike shapes later t s h j).linked i n)
    ∙ sym y.linked

own_type_alike : (u : Tree) (texts : List (List ℕ)) (shapes later : List Shape) (t s : Typing) (d e : Entry) (i : ℕ) (n : Node)
    → Alike shapes later t s → IsRuled u texts shapes t d i n → IsRuled u texts later s e i n
    → own_type shapes u t d i n ≡ own_type later u s e i n
own_type_alike u texts shapes later t s d e i n h x y = λ j.
    type_as (declared_by n.kind u.nodes.now (before_alike shapes later t s h j).specified (declarator_alike u texts shapes later t s d e i n h x y j) 0
    (enumerated_alike u texts shapes later t s d e i n h x y j) (declaration_of u.nodes.now u.above.now i))
    (own_named_alike u texts shapes later t s d e i n h x y j) (parameters_by n.kind u.nodes.now (before_alike shapes later t s h j) n)

seen_type_alike : (u : Tree) (texts : List (List ℕ)) (shapes later : List Shape) (t s : Typing) (d e : Entry) (i : ℕ) (n : Node)
    → Alike shapes later t s → IsRuled u texts shapes t d i n → IsRuled u texts later s e i n
    → seen_type shapes u t d i n ≡ seen_type later u s e i n
seen_type_alike u texts shapes later t s d e i n h x y = λ j.
    seen_by (linked_alike u texts shapes later t s d e i n h x y j) (past_alike shapes later t s h j) (slice_index_or u.earlier.now i None)
    (own_type_alike u texts shapes later t s d e i n h x y j)

parameters_alike : (u : Tree) (texts : List (List ℕ)) (shapes later : List Shape) (t s : Typing) (d e : Entry) (i : ℕ) (n : Node)
    → Alike shapes later t s → IsRuled u texts shapes t d i n → IsRuled u texts later s e i n
    → map (type_at shapes) d.parameters ≡ map (type_at later) e.parameters
parameters_alike u texts shapes later t s d e i n h x y =
    x.parameters
    ∙ (λ j. parameters_or (parameters_by n.kind u.nodes.now (before_alike shapes later t s h j) n)
    (seen_type_alike u texts shapes later t s d e i n h x y j))
    ∙ sym y.parameters

-- ---- what an initialiser fills

filled_alike : (u : Tree) (texts : List (List ℕ)) (shapes later : List Shape) (t s : Typing) (d e : Entry) (i : ℕ) (n : Node)
    → Alike shapes later t s → IsRuled u texts shapes t d i n → IsRuled u texts later s e i n
    → (type_at shapes d.own.named ≡ type_at later e.own.named) × (entries_of shapes d.lines ≡ entries_of later e.lines)
filled_alike u texts shapes later t s d e i n h x y =
    let known = known_alike u shapes later t s h in
    let object = object_alike shapes later t s n h in
    let named : type_or (own_named shapes u t d i n) (seen_type shapes u t d i n) ≡ type_or (own_named later u s e i n) (seen_type later u s e i n) =
    λ j. type_or (own_named_alike u texts shapes later t s d e i n h x y j) (seen_type_alike u texts shapes later t s d e i n h x y j) in
    let planned = planned_by n.kind s.layouts (object_in later s n) n.parts in
    let first = named_first n.kind (object_in later s n) (type_or (own_named later u s e i n) (seen_type later u s e i n)) in
    one_filling (known_in later u s) i planned first (type_at shapes d.own.named) (type_at later e.own.named) (entries_of shapes d.lines)
    (entries_of later e.lines)
    (subst (λ P. P) (λ j. IsFilled (known j) i (planned_by n.kind (h.layouts j) (object j) n.parts) (named_first n.kind (object j) (named j))
    (type_at shapes d.own.named) (entries_of shapes d.lines)) x.filled)
    y.filled

named_alike : (u : Tree) (texts : List (List ℕ)) (shapes later : List Shape) (t s : Typing) (d e : Entry) (i : ℕ) (n : Node)
    → Alike shapes later t s → IsRuled u texts shapes t d i n → IsRuled u texts later s e i n
    → type_at shapes d.own.named ≡ type_at later e.own.named
named_alike u texts shapes later t s d e i n h x y = (filled_alike u texts shapes later t s d e i n h x y).0

lines_alike : (u : Tree) (texts : List (List ℕ)) (shapes later : List Shape) (t s : Typing) (d e : Entry) (i : ℕ) (n : Node)
    → Alike shapes later t s → IsRuled u texts shapes t d i n → IsRuled u texts later s e i n
    → entries_of shapes d.lines ≡ entries_of later e.lines
lines_alike u texts shapes later t s d e i n h x y = (filled_alike u texts shapes later t s d e i n h x y).1

-- ---- what a name stands for, by the row that its declarator names

either : (shapes later : List Shape) (rows others : List ℕ) (x : Bool) (a b c d : Declared) → meaning_at shapes rows a ≡ meaning_at later others b
    → meaning_at shapes rows c ≡ meaning_at later others d → meaning_at shapes rows (if x then a else c) ≡ meaning_at later others (if x then b else d)
either shapes later rows others Bool.true a b c d h k = h
either shapes later rows others Bool.false a b c d h k = k

value_alike : (nodes : List Node) (shapes later : List Shape) (storage : Option Class) (function : Option ℕ) (rows others : List ℕ)
    (row other : ℕ) → type_at shapes row ≡ type_at later other → map (type_at shapes) rows ≡ map (type_at later) others
    → meaning_at shapes rows (value_by nodes storage function row) ≡ meaning_at later others (value_by nodes storage function other)
value_alike nodes shapes later storage None rows others row other is h = ap (λ type. an_object type (is_register storage)) is
value_alike nodes shapes later storage (Some function) rows others row other is h =
    function_alike (type_at shapes) (type_at later) row other rows others (is_variadic nodes function) is h

ordinary_alike : (nodes : List Node) (shapes later : List Shape) (said : ℕ → Specified) (own : Declarator) (specifiers : Option ℕ)
    (rows others : List ℕ) (row other : ℕ) → type_at shapes row ≡ type_at later other → map (type_at shapes) rows ≡ map (type_at later) others
    → meaning_at shapes rows (ordinary_by nodes said own row specifiers) ≡ meaning_at later others (ordinary_by nodes said own other specifiers)
ordinary_alike nodes shapes later said own None rows others row other is h = refl
ordinary_alike nodes shapes later said own (Some specifiers) rows others row other is h =
    let storage = class_of (said specifiers).storage in
    either shapes later rows others (is_typedef storage) TypeName TypeName (value_by nodes storage own.function row)
    (value_by nodes storage own.function other) refl (value_alike nodes shapes later storage own.function rows others row other is h)

declares_alike : (k : Kind) (nodes : List Node) (shapes later : List Shape) (said : ℕ → Specified) (own : Declarator) (declaration : Option ℕ)
    (rows others : List ℕ) (row other : ℕ) → type_at shapes row ≡ type_at later other → map (type_at shapes) rows ≡ map (type_at later) others
    → meaning_at shapes rows (named_declared k nodes said own row declaration) ≡ meaning_at later others (named_declared k nodes said own other declaration)
declares_alike k nodes shapes later said own declaration rows others row other is h =
    either shapes later rows others (declares_name k) (ordinary_of nodes said own row declaration) (ordinary_of nodes said own other declaration)
    Unclear Unclear
    (either shapes later rows others (names_ordinary (kind_in nodes declaration)) (ordinary_by nodes said own row (specifiers_in nodes declaration))
    (ordinary_by nodes said own other (specifiers_in nodes declaration)) Unclear Unclear
    (ordinary_alike nodes shapes later said own (specifiers_in nodes declaration) rows others row other is h) refl)
    refl

constant_of : (shapes later : List Shape) (rows others : List ℕ) (own : Enumerated) (value : Option ℤ) → own.value ≡ value
    → meaning_at shapes rows (constant_by (Some own)) ≡ meaning_at later others (constant_by (Some own))
constant_of shapes later rows others own None is = rw is refl
constant_of shapes later rows others own (Some value) is = rw is refl

constant_alike : (shapes later : List Shape) (rows others : List ℕ) (enumerated : Option Enumerated)
    → meaning_at shapes rows (constant_by enumerated) ≡ meaning_at later others (constant_by enumerated)
constant_alike shapes later rows others None = refl
constant_alike shapes later rows others (Some own) = constant_of shapes later rows others own own.value refl

rule_alike : (k : Kind) (nodes : List Node) (shapes later : List Shape) (said : ℕ → Specified) (own : Declarator)
    (enumerated : Option Enumerated) (declaration : Option ℕ) (rows others : List ℕ) (row other : ℕ) → type_at shapes row ≡ type_at later other
    → map (type_at shapes) rows ≡ map (type_at later) others
    → meaning_at shapes rows (declared_by k nodes said own row enumerated declaration)
    ≡ meaning_at later others (declared_by k nodes said own other enumerated declaration)
rule_alike kind.Enumerator nodes shapes later said own enumerated declaration rows others row other is h =
    constant_alike shapes later rows others enumerated
rule_alike k nodes shapes later said own enumerated declaration rows others row other is h =
    declares_alike k nodes shapes later said own declaration rows others row other is h

declared_alike : (u : Tree) (texts : List (List ℕ)) (shapes later : List Shape) (t s : Typing) (d e : Entry) (i : ℕ) (n : Node)
    → Alike shapes later t s → IsRuled u texts shapes t d i n → IsRuled u texts later s e i n
    → meaning_at shapes d.parameters d.declared ≡ meaning_at later e.parameters e.declared
declared_alike u texts shapes later t s d e i n h x y =
    let nodes = u.nodes.now in
    let declaration = declaration_of nodes u.above.now i in
    let before = before_in shapes t in
    ap (meaning_at shapes d.parameters) x.declared
    ∙ rule_alike n.kind nodes shapes later before.specified d.own.declarator d.own.enumerated declaration d.parameters e.parameters
    d.own.named e.own.named (named_alike u texts shapes later t s d e i n h x y) (parameters_alike u texts shapes later t s d e i n h x y)
    ∙ ap (λ own. meaning_at later e.parameters (declared_by n.kind nodes before.specified own e.own.named d.own.enumerated declaration))
    (declarator_alike u texts shapes later t s d e i n h x y)
    ∙ ap (λ own. meaning_at later e.parameters (declared_by n.kind nodes before.specified e.own.declarator e.own.named own declaration))
    (enumerated_alike u texts shapes later t s d e i n h x y)
    ∙ ap (λ (b : Before). meaning_at later e.parameters (declared_by n.kind nodes b.specified e.own.declarator e.own.named e.own.enumerated declaration))
    (before_alike shapes later t s h)
    ∙ ap (meaning_at later e.parameters) (sym y.declared)

-- ---- members

declarators_alike : (nodes : List Node) (names : List ℕ) (shapes later : List Shape) (named other ps : List ℕ)
    → ((p : ℕ) → type_at shapes (slice_index_or named p 0) ≡ type_at later (slice_index_or other p 0))
    → map (member_at shapes) (map (member_of nodes names named) ps) ≡ map (member_at later) (map (member_of nodes names other) ps)
declarators_alike nodes names shapes later named other [] h = refl
declarators_alike nodes names shapes later named other (p ∷ ps) h =
    λ i. (name_number names (declarator_of nodes p).name, h p i) ∷ declarators_alike nodes names shapes later named other ps h i

contents_alike : (shapes later : List Shape) (members other : List (List Member)) (ps : List ℕ)
    → ((p : ℕ) → map (member_at shapes) (slice_index_or members p []) ≡ map (member_at later) (slice_index_or other p []))
    → map (member_at shapes) (flat_map (λ p. slice_index_or members p []) ps) ≡ map (member_at later) (flat_map (λ p. slice_index_or other p []) ps)
contents_alike shapes later members other [] h = refl
contents_alike shapes later members other (p ∷ ps) h =
    map-append (member_at shapes) (slice_index_or members p []) (flat_map (λ q. slice_index_or members q []) ps)
    ∙ (λ i. h p i ++ contents_alike shapes later members other ps h i)
    ∙ sym (map-append (member_at later) (slice_index_or other p []) (flat_map (λ q. slice_index_or other q []) ps))

list_alike : (k : Kind) (nodes : List Node) (names : List ℕ) (shapes later : List Shape) (t s : Typing) (parts : List ℕ) → Alike shapes later t s
    → map (member_at shapes) (members_by k nodes names t.named t.members parts) ≡ map (member_at later) (members_by k nodes names s.named s.members parts)
list_alike kind.MemberDeclaration nodes names shapes later t s parts h =
    declarators_alike nodes names shapes later t.named s.named (drop 1 parts) (λ p. ap (λ (own : Has). own.named) (h.each p).own)
list_alike kind.StructContent nodes names shapes later t s parts h =
    contents_alike shapes later t.members s.members parts (λ p. (h.each p).members)
list_alike k nodes names shapes later t s parts h = refl

members_alike : (u : Tree) (texts : List (List ℕ)) (shapes later : List Shape) (t s : Typing) (d e : Entry) (i : ℕ) (n : Node)
    → Alike shapes later t s → IsRuled u texts shapes t d i n → IsRuled u texts later s e i n
    → map (member_at shapes) d.members ≡ map (member_at later) e.members
members_alike u texts shapes later t s d e i n h x y =
    ap (map (member_at shapes)) x.members
    ∙ list_alike n.kind u.nodes.now u.names.now shapes later t s n.parts h
    ∙ ap (map (member_at later)) (sym y.members)

-- ---- structures

whole_alike : {A : Type 0} → (u : Tree) (texts : List (List ℕ)) (shapes later : List Shape) (t s : Typing) (d e : Entry) (i : ℕ) (n : Node)
    (f : Before → List Qualified → A) → Alike shapes later t s → IsRuled u texts shapes t d i n → IsRuled u texts later s e i n
    → f (before_in shapes t) (map (type_at shapes) (rows_of d.members)) ≡ f (before_in later s) (map (type_at later) (rows_of e.members))
whole_alike u texts shapes later t s d e i n f h x y =
    ap (λ b. f b (map (type_at shapes) (rows_of d.members))) (before_alike shapes later t s h)
    ∙ ap (f (before_in later s)) (rows_alike shapes later d.members e.members (members_alike u texts shapes later t s d e i n h x y))

layout_alike : (u : Tree) (texts : List (List ℕ)) (shapes later : List Shape) (t s : Typing) (d e : Entry) (i : ℕ) (n : Node)
    → Alike shapes later t s → IsRuled u texts shapes t d i n → IsRuled u texts later s e i n → d.own.layout ≡ e.own.layout
layout_alike u texts shapes later t s d e i n h x y =
    x.layout ∙ whole_alike u texts shapes later t s d e i n (λ b types. layout_by n.kind b types) h x y ∙ sym y.layout

fixed_alike : (u : Tree) (texts : List (List ℕ)) (shapes later : List Shape) (t s : Typing) (d e : Entry) (i : ℕ) (n : Node)
    → Alike shapes later t s → IsRuled u texts shapes t d i n → IsRuled u texts later s e i n → d.fixed ≡ e.fixed
fixed_alike u texts shapes later t s d e i n h x y =
    x.fixed ∙ whole_alike u texts shapes later t s d e i n (λ b types. fixed_by n.kind b types) h x y ∙ sym y.fixed

-- ---- the composite of all declarations so far

entry_type_alike : (u : Tree) (texts : List (List ℕ)) (shapes later : List Shape) (t s : Typing) (d e : Entry) (i : ℕ) (n : Node)
    → Alike shapes later t s → IsRuled u texts shapes t d i n → IsRuled u texts later s e i n
    → name_type shapes d ≡ name_type later e
entry_type_alike u texts shapes later t s d e i n h x y =
    name_alike shapes later d.parameters e.parameters d.declared e.declared (type_at shapes d.own.named) (type_at later e.own.named)
    (map (type_at shapes) d.parameters) (map (type_at later) e.parameters) (declared_alike u texts shapes later t s d e i n h x y)
    (named_alike u texts shapes later t s d e i n h x y) (parameters_alike u texts shapes later t s d e i n h x y)

composite_type_alike : (u : Tree) (texts : List (List ℕ)) (shapes later : List Shape) (t s : Typing) (d e : Entry) (i : ℕ) (n : Node)
    → Alike shapes later t s → IsRuled u texts shapes t d i n → IsRuled u texts later s e i n
    → composite_type shapes u t d i n ≡ composite_type later u s e i n
composite_type_alike u texts shapes later t s d e i n h x y = λ j.
    composite_by n.kind (linked_alike u texts shapes later t s d e i n h x y j) (past_alike shapes later t s h j) (slice_index_or u.same.now i None) n
    (entry_type_alike u texts shapes later t s d e i n h x y j)

composite_alike : (u : Tree) (texts : List (List ℕ)) (shapes later : List Shape) (t s : Typing) (d e : Entry) (i : ℕ) (n : Node)
    → Alike shapes later t s → IsRuled u texts shapes t d i n → IsRuled u texts later s e i n
    → type_at shapes d.composite ≡ type_at later e.composite
composite_alike u texts shapes later t s d e i n h x y =
    x.composite
    ∙ (λ j. type_or (named_alike u texts shapes later t s d e i n h x y j) (composite_type_alike u texts shapes later t s d e i n h x y j))
    ∙ sym y.composite

composite_parameters_alike : (u : Tree) (texts : List (List ℕ)) (shapes later : List Shape) (t s : Typing) (d e : Entry) (i : ℕ) (n : Node)
    → Alike shapes later t s → IsRuled u texts shapes t d i n → IsRuled u texts later s e i n
    → map (type_at shapes) d.composite_parameters ≡ map (type_at later) e.composite_parameters
composite_parameters_alike u texts shapes later t s d e i n h x y =
    x.composite_parameters
    ∙ (λ j. parameters_or (parameters_alike u texts shapes later t s d e i n h x y j) (composite_type_alike u texts shapes later t s d e i n h x y j))
    ∙ sym y.composite_parameters

-- ---- address constants

anchor_alike : (u : Tree) (texts : List (List ℕ)) (shapes later : List Shape) (t s : Typing) (d e : Entry) (i : ℕ) (n : Node)
    → Alike shapes later t s → IsRuled u texts shapes t d i n → IsRuled u texts later s e i n → d.anchor ≡ e.anchor
anchor_alike u texts shapes later t s d e i n h x y =
    let visible = slice_index_or u.visible.now i None in
    x.anchor
    ∙ (λ j. anchor_by (form_of n.kind) (before_alike shapes later t s h j) (λ p. (h.each p).anchor j)
    (names_static (stands_alike shapes later t s visible h j) u (before_alike shapes later t s h j).specified visible) n.parts)
    ∙ sym y.anchor

-- ---- all of it

own_alike : (u : Tree) (texts : List (List ℕ)) (shapes later : List Shape) (t s : Typing) (d e : Entry) (i : ℕ) (n : Node)
    → Alike shapes later t s → IsRuled u texts shapes t d i n → IsRuled u texts later s e i n → has_at shapes d.own ≡ has_at later e.own
own_alike u texts shapes later t s d e i n h x y = λ j. record {
  specified = specified_alike u texts shapes later t s d e i n h x y j;
  declarator = declarator_alike u texts shapes later t s d e i n h x y j;
  derived = derived_alike u texts shapes later t s d e i n h x y j;
  named = named_alike u texts shapes later t s d e i n h x y j;
  layout = layout_alike u texts shapes later t s d e i n h x y j;
  enumerated = enumerated_alike u texts shapes later t s d e i n h x y j;
}

pub entry_alike : (u : Tree) (texts : List (List ℕ)) (shapes later : List Shape) (t s : Typing) (d e : Entry) (i : ℕ) (n : Node)
    → Alike shapes later t s → IsRuled u texts shapes t d i n → IsRuled u texts later s e i n → AreAlike shapes later d e
entry_alike u texts shapes later t s d e i n h x y = record {
  fact = fact_alike u texts shapes later t s d e i n h x y;
  own = own_alike u texts shapes later t s d e i n h x y;
  declared = declared_alike u texts shapes later t s d e i n h x y;
  parameters = parameters_alike u texts shapes later t s d e i n h x y;
  members = members_alike u texts shapes later t s d e i n h x y;
  fixed = fixed_alike u texts shapes later t s d e i n h x y;
  anchor = anchor_alike u texts shapes later t s d e i n h x y;
  lines = lines_alike u texts shapes later t s d e i n h x y;
  linked = linked_alike u texts shapes later t s d e i n h x y;
  composite = composite_alike u texts shapes later t s d e i n h x y;
  composite_parameters = composite_parameters_alike u texts shapes later t s d e i n h x y;
}
