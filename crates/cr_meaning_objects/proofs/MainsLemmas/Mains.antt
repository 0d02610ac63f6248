-- Main is the definition that was checked to have main's type (C11 5.1.2.2.1).
use Rattle.std.proofs.Common.{◌≡◌, ℕ, zero, suc, ◌<◌, ◌==◌, ◌&&◌, ◌||◌, inl, inr, Bool, true, false, not, List, [], ◌∷◌, Option, None, Some, length, map, slice_get, slice_index_or, refl, sym, ap, subst, ◌∙◌, arith, if◌then◌else◌}
use Rattle.std.specs.Prelude.{codes}
use Rattle.std.specs.List.{list_any}
use Rattle.std.specs.Str.{bytes_eq}
use Rattle.std.proofs.lemmas.Bool.{and_parts, and_from, cases_lt, false≢true, ne_eqb}
use Rattle.std.proofs.lemmas.Option.{slice_get_within, get_or_from_slice_get, same_Some}
use Rattle.std.proofs.lemmas.Slice.Eq.{bytes_eq-Decides}
use Rattle.cr_ints.specs.declared.kind.IntKind.TheVariants.{Int as IntegerKind}
use Rattle.cr_tokens.specs.declared.token.Token.{Token}
use Rattle.cr_syntax.specs.declared.ctype.CType.{CType}
use Rattle.cr_syntax.specs.declared.ctype.CType.TheVariants.{Void, Int}
use Rattle.cr_syntax.specs.declared.node.Kind.{Kind}
use Rattle.cr_syntax.specs.declared.node.Kind.TheVariants as kind
use Rattle.cr_syntax.specs.declared.node.Node.{Node}
use Rattle.cr_scopes_events.specs.Declarators.{declarator_of}
use Rattle.cr_scopes_events.specs.Scripts as scripts
use Rattle.cr_scopes.specs.Spelled as spelled
use Rattle.cr_scopes_linkage.specs.Shared.Origins.{is_external, IsDeclarer}
use Rattle.cr_check_types.specs.Types.{Qualified, plain, pointer, array, type_at}
use Rattle.cr_check_operands.specs.Places.{found_by}
use Rattle.cr_check_expressions.specs.declared.known.Declared.TheVariants.{Enumerator, TypeName, Unclear}
use Rattle.cr_check_expressions.specs.Known as expressions
use Rattle.cr_check_expressions.specs.Known.{meaning_by}
use Rattle.cr_check_declarators.specs.declared.words.Class.{Class}
use Rattle.cr_check_declarators.specs.declared.words.Specified.{Specified}
use Rattle.cr_check_declarators.specs.declared.declarator.Declarator.{Declarator}
use Rattle.cr_check_declarators.specs.declared.enumerators.Enumerated.{Enumerated}
use Rattle.cr_check_declarators.specs.Functions.{is_int, is_plain_int}
use Rattle.cr_check_declarations.specs.Before.{kind_in}
use Rattle.cr_check_declarations.specs.Named.{class_of, is_typedef, value_by, ordinary_by, ordinary_of, names_ordinary, specifiers_in, declared_by, declares_name}
use Rattle.cr_check_definitions.specs.Known.{Known}
use Rattle.cr_check_definitions.specs.Mains as mains
use Rattle.cr_check_definitions.specs.Mains.{is_words, takes_nothing_or_words, has_mains_type, is_main_by, is_named_main, has_main}
use Rattle.cr_check.specs.Columns.{known_in}
use Rattle.cr_check_signatures.specs.Functions.Outlines.{head}
use Rattle.cr_check_signatures.proofs.FunctionsLemmas.Chained.{row_or, keeps, constant_row}
use Rattle.cr_typed.specs.declared.typed.Typed.{Typed}
use Rattle.cr_typed_columns.specs.Reading.{Parsed, parsed_of}
use Rattle.cr_typed_columns.specs.Entities.{declared_token, is_definition}
use Rattle.cr_typed_columns.specs.Functions as functions
use Rattle.cr_meaning.specs.declared.run.Limits.{Limits}
use Rattle.cr_meaning_soundness.specs.Sorts.{number, pointer as a_pointer, sorts_in}
use Rattle.cr_meaning_soundness.specs.Programs.{AreMainParameters}
use Rattle.cr_meaning_operations.specs.Shapes.{named_type, shape_of}
use Rattle.cr_meaning_operations.specs.Operations.{kind_at, parts_if, part_at, object_shape, parameter_of, strings_of, program_of}
use Rattle.cr_meaning_types.proofs.KnownLemmas.Naming.{ruled}
use Rattle.cr_meaning_declarations.specs.Declared.Files.{IsUnitOfFile}
use Rattle.cr_meaning_declarations.proofs.DeclaredLemmas.Files.{has_unit}
use Rattle.cr_meaning_objects.specs.Chained.Laws.{DeclaresFunction}
use Rattle.cr_meaning_objects.proofs.ChainedLemmas.Known.{holds, owned, definition_declares}
use Rattle.cr_meaning_objects.specs.Parameters.Laws.{AreParameters}
use Rattle.cr_meaning_objects.proofs.ParametersLemmas.Parameters.{own_types}
use Rattle.cr_meaning_objects.specs.Mains.Laws
use Rattle.cr_meaning_objects.specs.Mains.Laws.{IsMain}
use Rattle.cr_meaning_objects.proofs.MainsLemmas.Defined.{defined_once}

-- ---- an entry of which a test holds

record IsFoundIn (test : ℕ → Bool) (items : List ℕ) : Type 0 where
  place : ℕ
  item : ℕ
  at : slice_get items place ≡ Some item
  passes : test item ≡ true

found : (test : ℕ → Bool) (items : List ℕ) → list_any test items ≡ true → IsFoundIn test items
found test [] e = absurd (false≢true e)
found test (x ∷ items) e = by (test x) refl e (λ f. found test items f)
  where
    by : (b : Bool) → test x ≡ b → (b || list_any test items) ≡ true → (list_any test items ≡ true → IsFoundIn test items) → IsFoundIn test (x ∷ items)
    by true q f rest = record { place = 0; item = x; at = refl; passes = q }
    by false q f rest = let r = rest f in record { place = suc r.place; item = r.item; at = r.at; passes = r.passes }

-- the last node that defines main does
last_main : (file : List ℕ) (u : Parsed) (m i : ℕ) → i < m → functions.is_main file u i ≡ true → functions.is_main file u (functions.main_below file u m) ≡ true
last_main file u zero i low e = absurd (omega (arith, low))
last_main file u (suc m) i low e = by (functions.is_main file u m) refl (λ less. last_main file u m i less e)
  where
    by : (b : Bool) → functions.is_main file u m ≡ b → (i < m → functions.is_main file u (functions.main_below file u m) ≡ true)
        → functions.is_main file u (if functions.is_main file u m then m else functions.main_below file u m) ≡ true
    by true q rest = ap (λ b. functions.is_main file u (if b then m else functions.main_below file u m)) q ∙ q
    by false q rest = ap (λ b. functions.is_main file u (if b then m else functions.main_below file u m)) q ∙ rest (elim (cases_lt i m) [
      | inl less ↦ less
      | inr ge ↦ (let same : m ≡ i = omega (arith, low, ge) in absurd (false≢true (sym q ∙ ap (functions.is_main file u) same ∙ e)))
    ])

-- ---- the row of a function is that of the type that its declarator names

value_row : (nodes : List Node) (c : Option Class) (function : Option ℕ) (row : ℕ) → row_or row (value_by nodes c function row) ≡ row
value_row nodes c None row = refl
value_row nodes c (Some f) row = refl

ordinary_row : (nodes : List Node) (said : ℕ → Specified) (has : Declarator) (row : ℕ) (o : Option ℕ) → row_or row (ordinary_by nodes said has row o) ≡ row
ordinary_row nodes said has row None = refl
ordinary_row nodes said has row (Some s) =
    keeps row (is_typedef (class_of (said s).storage)) TypeName (value_by nodes (class_of (said s).storage) has.function row) refl (value_row nodes (class_of (said s).storage) has.function row)

declared_row : (k : Kind) (nodes : List Node) (said : ℕ → Specified) (has : Declarator) (row : ℕ) (e : Option Enumerated) (d : Option ℕ) → row_or row (declared_by k nodes said has row e d) ≡ row
declared_row kind.Enumerator nodes said has row e d = constant_row row e
declared_row k nodes said has row e d =
    keeps row (declares_name k) (ordinary_of nodes said has row d) Unclear
    (keeps row (names_ordinary (kind_in nodes d)) (ordinary_by nodes said has row (specifiers_in nodes d)) Unclear (ordinary_row nodes said has row (specifiers_in nodes d)) refl) refl

-- ---- words of types, and cells

int_head : (type : Qualified) → is_int type ≡ true → head type ≡ plain (Int IntegerKind) false false
int_head (plain of c v) h = by of h
  where
    by : (of : CType) → is_int (plain of c v) ≡ true → plain of false false ≡ plain (Int IntegerKind) false false
    by (Int IntegerKind) h = refl
    by (Int k) h = absurd (false≢true h)
    by of h = absurd (false≢true h)
int_head (pointer c v t) h = absurd (false≢true h)
int_head (array n t) h = absurd (false≢true h)

words_head : (type : Qualified) → is_words type ≡ true → head type ≡ pointer false false (plain Void false false)
words_head (plain of c v) h = absurd (false≢true h)
words_head (pointer c v t) h = refl
words_head (array n t) h = absurd (false≢true h)

int_cells : (t : Typed) (type : Qualified) → head type ≡ plain (Int IntegerKind) false false → sorts_in (shape_of t type) ≡ number IntegerKind ∷ []
int_cells t (plain of c v) e = let same : of ≡ Int IntegerKind = cc e in ap (λ o. sorts_in (shape_of t (plain o c v))) same
int_cells t (pointer c v below) e = absurd (cc e)
int_cells t (array n below) e = absurd (cc e)

pointer_cells : (t : Typed) (type : Qualified) → head type ≡ pointer false false (plain Void false false) → sorts_in (shape_of t type) ≡ a_pointer ∷ []
pointer_cells t (plain of c v) e = absurd (cc e)
pointer_cells t (pointer c v below) e = refl
pointer_cells t (array n below) e = absurd (cc e)

-- none, or an int and a pointer
data AreMains (types : List Qualified) : Type 0 where
  no_words : types ≡ [] → AreMains types
  two_words : (count vector : Qualified) → types ≡ count ∷ vector ∷ [] → is_int count ≡ true → is_words vector ≡ true → AreMains types

more_than_two : (n : ℕ) (x : Bool) → 2 < n → (if n == 2 then x else n == 0) ≡ true → ⊥
more_than_two n x less h =
    let two : (n == 2) ≡ false = ne_eqb n 2 (λ e. absurd (omega (arith, less, e))) in
    let none : (n == 0) ≡ false = ne_eqb n 0 (λ e. absurd (omega (arith, less, e))) in
    false≢true (sym none ∙ sym (ap (λ b. if b then x else n == 0) two) ∙ h)

are_mains : (look : ℕ → Qualified) (rows : List ℕ) → takes_nothing_or_words (length rows) (λ k. found_by look (slice_get rows k)) ≡ true → AreMains (map look rows)
are_mains look [] h = no_words refl
are_mains look (a ∷ []) h = absurd (false≢true h)
are_mains look (a ∷ b ∷ []) h = let x = and_parts (is_int (look a)) (is_words (look b)) h in two_words (look a) (look b) refl x.0 x.1
are_mains look (a ∷ b ∷ c ∷ rows) h = absurd (more_than_two (length (a ∷ b ∷ c ∷ rows)) (is_int (look a) && is_words (look b)) (omega arith) h)

entered : (t : Typed) (limits : Limits) (types : List Qualified) (objects : List ℕ) → AreMains types → AreParameters t types objects → AreMainParameters (program_of t limits) (strings_of t objects) (map (parameter_of t) objects)
entered t limits types objects (no_words e) h = by objects (h.words ∙ ap (map head) e)
  where
    by : (objects : List ℕ) → map (λ object. head (named_type t object)) objects ≡ [] → AreMainParameters (program_of t limits) (strings_of t objects) (map (parameter_of t) objects)
    by [] f = tt
    by (x ∷ xs) f = absurd (cc f)
entered t limits types objects (two_words count vector e i w) h = by objects (h.words ∙ ap (map head) e) h.names
  where
    by : (objects : List ℕ) → map (λ object. head (named_type t object)) objects ≡ head count ∷ head vector ∷ [] → ((k object : ℕ) → slice_get objects k ≡ Some object → kind_at t object ≡ kind.NameDeclarator)
        → AreMainParameters (program_of t limits) (strings_of t objects) (map (parameter_of t) objects)
    by [] f names = absurd (cc f)
    by (x ∷ []) f names = absurd (cc f)
    by (x ∷ y ∷ []) f names =
        let one : head (named_type t x) ≡ head count = cc f in
        let other : head (named_type t y) ≡ head vector = cc f in (
          (
            ap (λ k. sorts_in (object_shape t x k)) (names 0 x refl) ∙ int_cells t (named_type t x) (one ∙ int_head count i),
            ap (λ k. sorts_in (object_shape t y k)) (names 1 y refl) ∙ pointer_cells t (named_type t y) (other ∙ words_head vector w),
          ),
          tt,
        )
    by (x ∷ y ∷ z ∷ xs) f names = absurd (cc f)

-- ---- spellings

same_spelling : (file : List ℕ) (tokens : List Token) (token : ℕ) → expressions.spelling_of file tokens token ≡ spelled.spelling_of file tokens token
same_spelling file tokens token = by (slice_get tokens token)
  where
    by : (o : Option Token) → expressions.spelling_if file o ≡ spelled.spelling_if file o
    by None = refl
    by (Some x) = refl

only_definition : (o : Option Kind) → is_definition o ≡ true → o ≡ Some kind.FunctionDefinition
only_definition (Some kind.FunctionDefinition) e = refl
only_definition o e = absurd (false≢true e)

module _ (file : List ℕ) (t : Typed) (it : IsUnitOfFile file t) where
  open it use {made_by, typing, shapes}
  open has_unit file t it use {nodes_are}

  abbrev known : Known
  known = known_in file it.unit it.checked.checked

  abbrev parsed : Parsed
  parsed = parsed_of it.unit

  abbrev tokens : List Token
  tokens = it.unit.tokens.list.items

  -- ---- definitions of main

  record IsNamedMain (i : ℕ) : Type 0 where
    node : Node
    at : slice_get t.nodes i ≡ Some node
    is : node.kind ≡ kind.FunctionDefinition
    declarator : ℕ
    second : slice_get node.parts 1 ≡ Some declarator
    token : ℕ
    name : (declarator_of t.nodes declarator).name ≡ Some token
    spells : spelled.spelling_of file tokens token ≡ codes "main"

  named_main : (i : ℕ) (m : Node) (q token : ℕ) → slice_get it.unit.nodes i ≡ Some m → m.kind ≡ kind.FunctionDefinition → slice_get m.parts 1 ≡ Some q → (declarator_of it.unit.nodes q).name ≡ Some token
      → bytes_eq (expressions.spelling_of file tokens token) (codes "main") ≡ true → IsNamedMain i
  named_main i m q token at is second name spells = record {
    node = m;
    at = ap (λ ns. slice_get ns i) (sym nodes_are) ∙ at;
    is = is;
    declarator = q;
    second = second;
    token = token;
    name = ap (λ ns. (declarator_of ns q).name) (sym nodes_are) ∙ name;
    spells = sym (same_spelling file tokens token) ∙ (bytes_eq-Decides (expressions.spelling_of file tokens token) (codes "main")).0 spells;
  }

  -- what defines it by the columns
  of_columns : (i : ℕ) → functions.is_main file parsed i ≡ true → IsNamedMain i
  of_columns i h = of_node (slice_get it.unit.nodes i) refl
    where
      both : (is_definition (scripts.kind_at it.unit.nodes i) ≡ true) × (functions.is_spelled_main file tokens (declared_token it.unit.nodes (slice_get (scripts.parts_at it.unit.nodes i) 1)) ≡ true)
      both = and_parts (is_definition (scripts.kind_at it.unit.nodes i)) _ h

      of_node : (o : Option Node) → slice_get it.unit.nodes i ≡ o → IsNamedMain i
      of_node None at = absurd (false≢true (ap (λ o. is_definition (scripts.kind_if o)) (sym at) ∙ both.0))
      of_node (Some m) at = of_part (slice_get m.parts 1) refl (ap (λ o. functions.is_spelled_main file tokens (declared_token it.unit.nodes (slice_get (scripts.parts_if o) 1))) (sym at) ∙ both.1)
        where
          defines : m.kind ≡ kind.FunctionDefinition
          defines = same_Some m.kind kind.FunctionDefinition (ap scripts.kind_if (sym at) ∙ only_definition (scripts.kind_at it.unit.nodes i) both.0)

          of_part : (o : Option ℕ) → slice_get m.parts 1 ≡ o → functions.is_spelled_main file tokens (declared_token it.unit.nodes o) ≡ true → IsNamedMain i
          of_part None e f = absurd (false≢true f)
          of_part (Some q) e f = of_name (declarator_of it.unit.nodes q).name refl f
            where
              of_name : (o : Option ℕ) → (declarator_of it.unit.nodes q).name ≡ o → functions.is_spelled_main file tokens o ≡ true → IsNamedMain i
              of_name None n g = absurd (false≢true g)
              of_name (Some token) n g = named_main i m q token at defines e n g

  -- and what was checked to define it with its type
  record IsChecked (i : ℕ) : Type 0 where
    own : IsNamedMain i
    column : functions.is_main file parsed i ≡ true
    type : has_mains_type (known.stands own.declarator) ≡ true

  of_check : (i : ℕ) → mains.is_main known i ≡ true → IsChecked i
  unfolding named_main
  of_check i h = of_node (slice_get it.unit.nodes i) refl
    where
      of_node : (o : Option Node) → slice_get it.unit.nodes i ≡ o → IsChecked i
      of_node None at = absurd (false≢true (ap (λ o. is_main_by known i (scripts.kind_if o)) (sym at) ∙ h))
      of_node (Some m) at = of_kind m.kind refl (ap (λ o. is_main_by known i (scripts.kind_if o)) (sym at) ∙ h)
        where
          of_kind : (k : Kind) → m.kind ≡ k → is_main_by known i (Some m.kind) ≡ true → IsChecked i
          of_kind kind.FunctionDefinition is g = of_part (slice_get m.parts 1) refl (ap (λ o. mains.is_main_if known (slice_get (scripts.parts_if o) 1)) (sym at) ∙ ap (λ k. is_main_by known i (Some k)) (sym is) ∙ g)
            where
              of_part : (o : Option ℕ) → slice_get m.parts 1 ≡ o → mains.is_main_if known o ≡ true → IsChecked i
              of_part None e f = absurd (false≢true f)
              of_part (Some q) e f = of_name (declarator_of it.unit.nodes q).name refl both.0
                where
                  both : (is_named_main known q ≡ true) × (has_mains_type (known.stands q) ≡ true)
                  both = and_parts (is_named_main known q) (has_mains_type (known.stands q)) f

                  of_name : (o : Option ℕ) → (declarator_of it.unit.nodes q).name ≡ o → mains.is_spelled_main known o ≡ true → IsChecked i
                  of_name None n x = absurd (false≢true x)
                  of_name (Some token) n x = record {
                    own = named_main i m q token at is e n x;
                    column =
                        and_from (is_definition (scripts.kind_at it.unit.nodes i)) (functions.is_spelled_main file tokens (declared_token it.unit.nodes (slice_get (scripts.parts_at it.unit.nodes i) 1)))
                        (ap (λ o. is_definition (scripts.kind_if o)) at ∙ ap (λ k. is_definition (Some k)) is)
                        (ap (λ o. functions.is_spelled_main file tokens (declared_token it.unit.nodes (slice_get (scripts.parts_if o) 1))) at
                        ∙ ap (λ o. functions.is_spelled_main file tokens (declared_token it.unit.nodes o)) e ∙ ap (functions.is_spelled_main file tokens) n ∙ x);
                    type = both.1;
                  }
          of_kind k is g = absurd (false≢true (ap (λ k. is_main_by known i (Some k)) (sym is) ∙ g))

  item : IsFoundIn (mains.is_main known) it.unit.items
  item = found (mains.is_main known) it.unit.items (and_parts (has_main known it.unit.items) _ made_by.sound.defined).0

  checked_main : IsChecked item.item
  checked_main = of_check item.item item.passes

  -- main is defined
  pub main_is : functions.is_main file parsed (functions.main_of file parsed) ≡ true
  main_is =
      let own = checked_main.own in
      let low = slice_get_within t.nodes item.item own.node own.at in
      let count : length t.nodes ≡ length it.unit.nodes = ap length made_by.elaborated.nodes_are in
      last_main file parsed (length it.unit.nodes) item.item (omega (arith, low, count)) checked_main.column

  own_main : IsNamedMain t.main
  own_main = subst IsNamedMain (sym made_by.elaborated.main) (of_columns (functions.main_of file parsed) main_is)

  declarer : (i : ℕ) (x : IsNamedMain i) → IsDeclarer t.nodes x.token i x.declarator x.node
  declarer i x = record { at = x.at; external = ap is_external x.is; place = 0; first = λ e. refl; part = x.declarator; is = x.second; declares = inl refl; name = x.name }

  module _ (k : ℕ) (there : slice_get t.items k ≡ Some t.main) where
    -- it is the one that was checked
    same : item.item ≡ t.main
    same =
        let x = checked_main.own in
        let y = own_main in
        defined_once file t it x.token y.token item.item x.declarator t.main y.declarator item.place k x.node y.node (declarer item.item x) (declarer t.main y) x.is y.is
        (ap (λ is. slice_get is item.place) made_by.elaborated.items_are ∙ item.at) there (x.spells ∙ sym y.spells)

    abbrev q : ℕ
    q = own_main.declarator

    same_declarator : checked_main.own.declarator ≡ q
    same_declarator =
        let x = checked_main.own in
        let y = own_main in
        let node : x.node ≡ y.node = same_Some x.node y.node (sym x.at ∙ ap (slice_get t.nodes) same ∙ y.at) in
        same_Some x.declarator y.declarator (sym x.second ∙ ap (λ (n : Node). slice_get n.parts 1) node ∙ y.second)

    type : has_mains_type (meaning_by (type_at shapes) (slice_index_or typing.parameters q []) (slice_index_or typing.declared q Unclear)) ≡ true
    type = ap (λ d. has_mains_type (known.stands d)) (sym same_declarator) ∙ checked_main.type

    declares : IsDeclarer t.nodes own_main.token t.main q own_main.node
    declares = declarer t.main own_main

    function : DeclaresFunction typing q
    function = definition_declares file t it own_main.token t.main q own_main.node declares own_main.is

    abbrev row : ℕ
    row = function.0

    row_is : row ≡ slice_index_or typing.named q 0
    row_is =
        let o = owned file t it own_main.token t.main q own_main.node declares in
        let at : slice_get made_by.tree.nodes.now q ≡ Some o.node = ap (λ ns. slice_get ns q) (made_by.is.whole.tree.nodes ∙ nodes_are) ∙ o.at in
        let r = ruled made_by.tree it.checked.checked.texts shapes typing made_by.is.whole.typing (holds file t it) q o.node at in
        sym (ap (row_or (slice_index_or typing.named q 0)) (sym r.declared ∙ function.1.1)) ∙ declared_row o.node.kind made_by.tree.nodes.now _ _ (slice_index_or typing.named q 0) _ _

    parts_are : (is_plain_int (type_at shapes row) ≡ true)
        × ((not function.1.0 ≡ true) × (takes_nothing_or_words (length (slice_index_or typing.parameters q [])) (λ j. found_by (type_at shapes) (slice_get (slice_index_or typing.parameters q []) j)) ≡ true))
    parts_are =
        let rows = slice_index_or typing.parameters q [] in
        let all = ap (λ d. has_mains_type (meaning_by (type_at shapes) rows d)) (sym function.1.1) ∙ type in
        let one = and_parts (is_plain_int (type_at shapes row)) (not function.1.0 && takes_nothing_or_words (length rows) (λ j. found_by (type_at shapes) (slice_get rows j))) all in
        (one.0, and_parts (not function.1.0) (takes_nothing_or_words (length rows) (λ j. found_by (type_at shapes) (slice_get rows j))) one.1)

    second_is : part_at t t.main 1 ≡ q
    second_is = ap (λ o. slice_index_or (parts_if o) 1 0) own_main.at ∙ get_or_from_slice_get own_main.node.parts 1 q 0 own_main.second

    main : (limits : Limits) → IsMain file t it limits
    main limits = record {
      gives = ap (λ d. is_plain_int (type_at shapes (slice_index_or typing.named d 0))) second_is ∙ ap (λ r. is_plain_int (type_at shapes r)) (sym row_is) ∙ parts_are.0;
      parameters =
          entered t limits (map (type_at shapes) (slice_index_or typing.parameters q [])) (slice_index_or t.parameters t.main []) (are_mains (type_at shapes) (slice_index_or typing.parameters q []) parts_are.1.1)
          (own_types file t it own_main.token t.main q own_main.node declares own_main.is);
    }

pub declared_so : Laws.MainsAreDeclaredSo
declared_so file t it limits k there = main file t it k there limits
