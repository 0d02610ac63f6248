-- What a definition gives, and how many parameters it has, by its own declarator (C11 6.9.1p2, p7).
use Rattle.std.proofs.Common.{◌≡◌, ℕ, zero, suc, ◌-◌, ◌<◌, inl, inr, Bool, true, false, List, [], ◌∷◌, ◌++◌, Option, None, Some, length, map, slice_get, slice_index_or, refl, sym, subst, ap, ◌∙◌, arith, if◌then◌else◌}
use Rattle.std.specs.Prelude.{option_to_list}
use Rattle.std.specs.List.{list_any, flat_map}
use Rattle.std.specs.Option.{is_some}
use Rattle.std.proofs.lemmas.Bool.{false≢true, or_parts, not-false, lt-ltb, eq-eqb, cases_lt}
use Rattle.std.proofs.lemmas.Option.{slice_get_within}
use Rattle.cr_syntax.specs.declared.ctype.CType.{CType}
use Rattle.cr_syntax.specs.declared.ctype.CType.TheVariants.{Void, Int}
use Rattle.cr_syntax.specs.declared.node.Kind.{Kind}
use Rattle.cr_syntax.specs.declared.node.Kind.TheVariants as kind
use Rattle.cr_syntax.specs.declared.node.Node.{Node}
use Rattle.cr_scopes_events.specs.Declarators.{declarator_of}
use Rattle.cr_scopes_events.specs.Scripts as scripts
use Rattle.cr_scopes.specs.Resolved.{is_number}
use Rattle.cr_scopes_bindings.specs.Last.{last_with}
use Rattle.cr_scopes_linkage.specs.Shared.Origins.{IsDeclarer}
use Rattle.cr_check_enclosing.specs.declared.context.Place.{Place}
use Rattle.cr_check_types.specs.Types.{Qualified, plain, pointer as to, array, type_at}
use Rattle.cr_check_expressions.specs.Known.{named_row}
use Rattle.cr_check_declarators.specs.declared.words.Class.{Class}
use Rattle.cr_check_declarators.specs.declared.words.Specified.{Specified}
use Rattle.cr_check_declarators.specs.declared.declarator.Declarator.{Declarator}
use Rattle.cr_check_declarators.specs.Specifiers.{is_member}
use Rattle.cr_check_declarators.specs.Declarators.{name_alone, function_fault_of, open_fault_of}
use Rattle.cr_check_declarators.specs.Functions.{adjusted_type}
use Rattle.cr_check_declarations.specs.Before as before
use Rattle.cr_check_declarations.specs.Before.{Before, kind_in, parts_in, declarator_in, specified_in, type_in}
use Rattle.cr_check_declarations.specs.Named as checked_names
use Rattle.cr_check_declarations.specs.Named.{is_declarator, is_initialised, is_typedef, class_of, specifiers_in, declaration_of}
use Rattle.cr_check_declarations.specs.Faults as faults
use Rattle.cr_check_declarations.specs.Faults.{Has, has_at, fault_at, token_if, place_of, name_token, name_in, list_in, is_nameless, parameter_faults, definition_faults, declarator_faults, whole_faults, faults_in}
use Rattle.cr_check_signatures.specs.Parameters.Laws.{AreParted, listed_types}
use Rattle.cr_check_signatures.proofs.ParametersLemmas.Listed.{listed}
use Rattle.cr_check_unit.specs.Typing.{cut, entry_at, before_in}
use Rattle.cr_check_unit.specs.Statements.{result_in}
use Rattle.cr_check_unit.specs.Statements as statements
use Rattle.cr_check_signatures.specs.Functions.Outlines.{head}
use Rattle.cr_typed.specs.declared.typed.Typed.{Typed}
use Rattle.cr_typed_columns.specs.Reading.{parsed_of, entry_of, part_of}
use Rattle.cr_typed_columns.specs.Entities as entities
use Rattle.cr_typed_columns.specs.Functions as columns
use Rattle.cr_meaning.specs.World.{Program}
use Rattle.cr_meaning_soundness.specs.Sorts.{sort_of}
use Rattle.cr_meaning_operations.specs.Shapes.{form_by}
use Rattle.cr_meaning_typing.specs.Typed.Good.{value_sort}
use Rattle.cr_meaning_typing.specs.Typed.Laws.{HoldsAll}
use Rattle.cr_meaning_typing.proofs.TypedLemmas.Worth.{unbroken}
use Rattle.cr_meaning_typing.specs.Calls.Calls.{IsGiven}
use Rattle.cr_meaning_typing.specs.Judged.Judged.{scene_of}
use Rattle.cr_meaning_types.specs.Known.Shaped.{fits}
use Rattle.cr_meaning_types.proofs.KnownLemmas.Declaring.{declarator_holds, in_place as well_placed}
use Rattle.cr_meaning_types.proofs.KnownLemmas.Naming.{holds_all, declarator_early}
use Rattle.cr_meaning_declarations.specs.Declared.Files.{IsUnitOfFile}
use Rattle.cr_meaning_declarations.proofs.DeclaredLemmas.Nodes.{of_unit}
use Rattle.cr_meaning_declarations.proofs.DeclaredLemmas.Bodies.{listed_at}
use Rattle.cr_meaning_declarations.proofs.LinkedLemmas.Owned.{HasOwn, own_there}
use Rattle.cr_meaning_declarations.proofs.DeclaredLemmas.Files.{order_of}
use Rattle.cr_meaning_objects.proofs.ChainedLemmas.Known.{is_typing, holds, nodes_are, owned, there, IsOwned, function_there}
use Rattle.cr_meaning_objects.specs.Called.Laws
use Rattle.cr_meaning_objects.proofs.CalledLemmas.Meant.{is_alike}
use Rattle.cr_meaning_references.proofs.TreesLemmas.Shaped.{shaped}

-- ---- what a function gives

word_sort : (p : Program) (t : Typed) (row : ℕ) (of : CType) (c v d w : Bool) → IsGiven (plain of c v) → value_sort p row (plain of c v) ≡ sort_of p (form_by t 0 (plain of d w))
word_sort p t row Void c v d w g = refl
word_sort p t row (Int k) c v d w g = refl
word_sort p t row of c v d w g = absurd g

same_head : (of other : CType) (c v d w : Bool) → head (plain of c v) ≡ head (plain other d w) → other ≡ of
same_head of other c v d w e = cc

given_sort : (p : Program) (t : Typed) (row : ℕ) (a b : Qualified) → head b ≡ head a → IsGiven a → value_sort p row a ≡ sort_of p (form_by t 0 b)
given_sort p t row (plain of c v) (plain other d w) e g =
    let same = same_head other of d w c v e in
    word_sort p t row of c v d w g ∙ ap (λ o. sort_of p (form_by t 0 (plain o d w))) same
given_sort p t row (to c v a) (to d w b) e g = refl
given_sort p t row (plain of c v) (to d w b) e g = absurd cc
given_sort p t row (plain of c v) (array n b) e g = absurd cc
given_sort p t row (to c v a) (plain other d w) e g = absurd cc
given_sort p t row (to c v a) (array n b) e g = absurd cc
given_sort p t row (array n a) b e g = absurd g

-- ---- lists

pub mapped_at : (f : Node → ℕ) (nodes : List Node) (i : ℕ) (n : Node) → slice_get nodes i ≡ Some n → slice_index_or (map f nodes) i 0 ≡ f n
mapped_at f [] i n e = absurd cc
mapped_at f (x ∷ nodes) zero n e = let same : x ≡ n = cc in ap f same
mapped_at f (x ∷ nodes) (suc i) n e = mapped_at f nodes i n e

as_many : {A B : Type 0} (f : A → B) (xs : List A) → length (map f xs) ≡ length xs
as_many f [] = refl
as_many f (x ∷ xs) = ap suc (as_many f xs)

pub record IsMapped {A B : Type 0} (f : A → B) (xs : List A) (k : ℕ) (y : B) : Type 0 where
  pub item : A
  pub at : slice_get xs k ≡ Some item
  pub is : f item ≡ y

pub mapped : {A B : Type 0} (f : A → B) (xs : List A) (k : ℕ) (y : B) → slice_get (map f xs) k ≡ Some y → IsMapped f xs k y
mapped f [] k y e = absurd cc
mapped f (x ∷ xs) zero y e = record { item = x; at = refl; is = cc }
mapped f (x ∷ xs) (suc k) y e = let own = mapped f xs k y e in record { item = own.item; at = own.at; is = own.is }

any_none : (test : ℕ → Bool) (xs : List ℕ) → list_any test xs ≡ false → (k x : ℕ) → slice_get xs k ≡ Some x → test x ≡ false
any_none test [] e k x f = absurd cc
any_none test (y ∷ ys) e zero x f = let same : y ≡ x = cc in ap test (sym same) ∙ (or_parts (test y) (list_any test ys) e).0
any_none test (y ∷ ys) e (suc k) x f = any_none test ys (or_parts (test y) (list_any test ys) e).1 k x f

all_named : (g : ℕ → Option ℕ) (ps : List ℕ) → ((k p : ℕ) → slice_get ps k ≡ Some p → (x : ℕ) × (g p ≡ Some x)) → length (flat_map (λ p. option_to_list (g p)) ps) ≡ length ps
all_named g [] h = refl
all_named g (p ∷ ps) h =
    ap (λ o. length (option_to_list o ++ flat_map (λ p. option_to_list (g p)) ps)) (h 0 p refl).1 ∙ ap suc (all_named g ps (λ k q e. h (suc k) q e))

some_last : (key : ℕ → Option ℕ) (bound k q : ℕ) → q < bound → key q ≡ Some k → (x : ℕ) × (last_with key bound k ≡ Some x)
some_last key zero k q low e = absurd (omega (arith, low))
some_last key (suc bound) k q low e = by (is_number (key bound) k) refl (λ less. some_last key bound k q less e)
  where
    by : (b : Bool) → is_number (key bound) k ≡ b → (q < bound → (x : ℕ) × (last_with key bound k ≡ Some x)) → (x : ℕ) × (last_with key (suc bound) k ≡ Some x)
    by true f rest = (bound, ap (λ b. if b then Some bound else last_with key bound k) f)
    by false f rest = elim (cases_lt q bound) [
      | inl less ↦ (let x = rest less in (x.0, ap (λ b. if b then Some bound else last_with key bound k) f ∙ x.1))
      | inr ge ↦
          (let same : bound ≡ q = omega (arith, low, ge) in
          absurd (false≢true (sym f ∙ ap (λ y. is_number (key y) k) same ∙ ap (λ o. is_number o k) e ∙ eq-eqb k k refl)))
    ]

there_is : (o : Option ℕ) → is_some o ≡ true → (x : ℕ) × (o ≡ Some x)
there_is None h = absurd (false≢true h)
there_is (Some x) h = (x, refl)

-- ---- nodes by two names

kind_same : (o : Option Node) → scripts.kind_if o ≡ before.kind_if o
kind_same None = refl
kind_same (Some n) = refl

parts_same : (o : Option Node) → scripts.parts_if o ≡ before.parts_if o
parts_same None = refl
parts_same (Some n) = refl

listed_same : (k : Option Kind) (parts : List ℕ) (list : ℕ) → columns.listed_by k parts list ≡ checked_names.listed_by k parts list
listed_same (Some kind.VoidParameters) parts list = refl
listed_same (Some kind.Parameters) parts list = refl
listed_same (Some kind.VariadicParameters) parts list = refl
listed_same k parts list = refl

nodes_same : (nodes : List Node) (o : Option ℕ) → columns.parameter_nodes nodes o ≡ checked_names.parameter_nodes nodes o
nodes_same nodes None = refl
nodes_same nodes (Some list) =
    listed_same (scripts.kind_at nodes list) (scripts.parts_at nodes list) list
    ∙ (λ j. checked_names.listed_by (kind_same (slice_get nodes list) j) (parts_same (slice_get nodes list) j) list)

-- ---- constraints

pub function_holds : (own : Has) (b : Before) (nodes : List Node) (i : ℕ) (at : Place) (storage : Option Class) (initialised : Bool) (base : Qualified) (name : ℕ)
    → HoldsAll (declarator_faults own b nodes i at storage initialised base name) → function_fault_of own.declarator at (is_typedef storage) own.named ≡ false
function_holds own b nodes i at storage initialised base name h =
    unbroken 8 name (function_fault_of own.declarator at (is_typedef storage) own.named)
    (fault_at 14 (open_fault_of own.declarator at storage initialised) ∷ fault_at 41 (token_if (is_member at) own.declarator.volatile) ∷ []) (λ x among. h x (inr (inr (inr among))))

all_have_names : (b : Before) (nodes : List Node) (i : ℕ) (said : Specified) (declarator function : Option ℕ) → HoldsAll (definition_faults b nodes i said declarator function)
    → list_any (is_nameless nodes) (checked_names.parameter_nodes nodes (list_in nodes function)) ≡ false
all_have_names b nodes i said declarator function h =
    unbroken 10 (before.first_in nodes (list_in nodes function) - 1) (list_any (is_nameless nodes) (checked_names.parameter_nodes nodes (list_in nodes function)))
    (parameter_faults b nodes i (checked_names.parameter_nodes nodes (list_in nodes function))) (λ x among. h x (inr (inr (inr among))))

module _ (file : List ℕ) (t : Typed) (it : IsUnitOfFile file t) where
  open it use {columns as by_columns}

  abbrev nodes : List Node
  nodes = it.checked.by.tree.nodes.now

  parted : AreParted it.checked.by.tree
  parted = record {
    below = λ i k p n at e. ((shaped file t it).parts i n at k p e).below;
    above = λ i k p n at e. ((shaped file t it).parts i n at k p e).above;
  }

  -- ---- a definition and its declarator

  module _ (token d q : ℕ) (m : Node) (defines : IsDeclarer t.nodes token d q m) (body : m.kind ≡ kind.FunctionDefinition) where
    here : slice_get nodes d ≡ Some m
    here = there file t it d m defines.at

    part_second : slice_get m.parts 1 ≡ Some defines.part
    part_second = subst (λ x. slice_get m.parts (suc x) ≡ Some defines.part) (defines.first body) defines.is

    part_is : defines.part ≡ q
    part_is = elim defines.declares [
      | inl e ↦ e
      | inr init ↦
          (let x = (shaped file t it).parts d m here 1 defines.part part_second in
          let own : is_declarator x.own.kind ≡ true = ap (λ k. fits k 1 x.own.kind) (sym body) ∙ x.fits in
          let kind_is : Some x.own.kind ≡ Some kind.InitDeclarator = ap scripts.kind_if (sym (ap (λ ns. slice_get ns defines.part) (nodes_are file t it) ∙ x.at)) ∙ init.0 in
          let never : x.own.kind ≡ kind.InitDeclarator = cc in
          absurd (false≢true (ap is_declarator (sym never) ∙ own)))
    ]

    second : slice_get m.parts 1 ≡ Some q
    second = part_second ∙ ap Some part_is

    low : q < d
    low = parted.below d 1 q m here second

    abbrev own : Declarator
    own = (entry_at it.checked.checked.whole.typing q).own.declarator

    gives_is : (scene_of it.checked.by.tree it.checked.checked).gives (Some d) ≡ type_at it.checked.checked.table (slice_index_or it.checked.checked.whole.typing.named q 0)
    gives_is =
        ap (λ rs. type_at it.checked.checked.table (slice_index_or rs d 0)) it.checked.by.is.whole.marked.results
        ∙ ap (type_at it.checked.checked.table) (mapped_at (result_in it.checked.checked.whole.typing.named) nodes d m here
        ∙ ap (λ k. if statements.is_definition k then named_row it.checked.checked.whole.typing.named (slice_get m.parts 1) else 0) body
        ∙ ap (named_row it.checked.checked.whole.typing.named) second)

    -- ---- what the constraints give

    abbrev earlier : Before
    earlier = before_in it.checked.checked.table (cut d it.checked.checked.whole.typing)

    abbrev defined_as : Option ℕ
    defined_as = (declarator_in earlier.declarator (slice_get m.parts 1)).function

    held : HoldsAll (definition_faults earlier nodes d (specified_in earlier.specified (slice_get m.parts 0)) (slice_get m.parts 1) defined_as)
    held =
        subst (λ k. HoldsAll (faults_in k (has_at it.checked.checked.table (entry_at it.checked.checked.whole.typing d).own) earlier it.checked.by.tree d m)) body
        (holds_all it.checked.by.tree it.checked.checked.texts it.checked.checked.table it.checked.checked.whole.typing (is_typing file t it) (holds file t it) d m here)

    same_function : defined_as ≡ own.function
    same_function =
        ap (λ (x : Declarator). x.function) (ap (declarator_in earlier.declarator) second
        ∙ declarator_early it.checked.by.tree it.checked.checked.texts it.checked.checked.table it.checked.checked.whole.typing (is_typing file t it) (holds file t it) d m here q low)

    list_is : (l : ℕ) × (own.function ≡ Some l)
    list_is = there_is own.function (ap is_some (sym same_function) ∙ function_there earlier nodes d (specified_in earlier.specified (slice_get m.parts 0)) (slice_get m.parts 1) defined_as held)

    abbrev l : ℕ
    l = list_is.0

    o : IsOwned file t it token d q m
    o = owned file t it token d q m defines

    misplaced : own.misplaced ≡ false
    misplaced = whole (declaration_of nodes it.checked.by.tree.above.now q) o.declaration
        (declarator_holds o.node.kind (has_at it.checked.checked.table (entry_at it.checked.checked.whole.typing q).own) (before_in it.checked.checked.table (cut q it.checked.checked.whole.typing)) it.checked.by.tree q o.node o.is
        (holds_all it.checked.by.tree it.checked.checked.texts it.checked.checked.table it.checked.checked.whole.typing (is_typing file t it) (holds file t it) q o.node (there file t it q o.node o.at)))
      where
        has : Has
        has = has_at it.checked.checked.table (entry_at it.checked.checked.whole.typing q).own

        b : Before
        b = before_in it.checked.checked.table (cut q it.checked.checked.whole.typing)

        whole : (x : Option ℕ) → x ≡ Some d → HoldsAll (whole_faults has b it.checked.by.tree q x) → own.misplaced ≡ false
        whole None e h = absurd cc
        whole (Some x) e h =
            let storage = class_of (specified_in b.specified (specifiers_in nodes (Some x))).storage in
            well_placed own (place_of it.checked.by.tree q) (is_typedef storage) has.named
            (function_holds has b nodes q (place_of it.checked.by.tree q) storage (is_initialised (kind_in nodes (slice_index_or it.checked.by.tree.above.now q None))) (type_in b.named (specifiers_in nodes (Some x)))
            (name_token nodes q (Some x)) h)

    -- ---- its parameters

    abbrev list : List ℕ
    list = checked_names.parameter_nodes nodes (slice_get (parts_in nodes (Some l)) 1)

    nameless : list_any (is_nameless nodes) list ≡ false
    nameless =
        ap (λ f. list_any (is_nameless nodes) (checked_names.parameter_nodes nodes (list_in nodes f))) (sym list_is.1 ∙ sym same_function)
        ∙ all_have_names earlier nodes d (specified_in earlier.specified (slice_get m.parts 0)) (slice_get m.parts 1) defined_as held

    unit_nodes : it.unit.nodes ≡ nodes
    unit_nodes = sym it.checked.by.is.whole.tree.nodes

    -- each of them declares a name
    named : (k p : ℕ) → slice_get list k ≡ Some p → (x : ℕ) × (columns.parameter_name (parsed_of it.unit) p ≡ Some x)
    named k p e = of_part (slice_get (parts_in nodes (Some p)) 1) refl (there_is (faults.parameter_name nodes p) (not-false (is_some (faults.parameter_name nodes p)) (any_none (is_nameless nodes) list nameless k p e)))
      where
        part_same : (o : Option ℕ) → slice_get (parts_in nodes (Some p)) 1 ≡ o → part_of it.unit.nodes (Some p) 1 ≡ o
        part_same o f = ap (λ ns. slice_get (scripts.parts_at ns p) 1) unit_nodes ∙ ap (λ ps. slice_get ps 1) (parts_same (slice_get nodes p)) ∙ f

        of_token : (x token : ℕ) → part_of it.unit.nodes (Some p) 1 ≡ Some x → (declarator_of t.nodes x).name ≡ Some token → (y : ℕ) × (columns.parameter_name (parsed_of it.unit) p ≡ Some y)
        of_token x token f g = (
          last.0,
          ap (λ o. entities.name_node (parsed_of it.unit) (entities.declared_token it.unit.nodes o)) f
              ∙ ap (entities.name_node (parsed_of it.unit)) (ap (λ ns. (declarator_of ns x).name) (unit_nodes ∙ sym (nodes_are file t it)) ∙ g)
              ∙ ap (λ b. if b then last_with (entities.named_token it.unit.nodes) (length it.unit.nodes) token else None) (lt-ltb token (length it.unit.tokens.list.items) few) ∙ last.1,
        )
          where
            own_name : HasOwn t (of_unit file t it) (order_of file t it) token
            own_name = own_there t (of_unit file t it) (order_of file t it) token x g

            few : token < length it.unit.tokens.list.items
            few =
                let w = (of_unit file t it).within own_name.own own_name.node own_name.at in
                let low = w.0 in
                let high = w.1 in
                let first = own_name.first in
                let count : length t.tokens ≡ length it.unit.tokens.list.items = ap length it.checked.by.elaborated.tokens_are in
                omega (arith, low, high, count, first)

            key : entities.named_token it.unit.nodes own_name.own ≡ Some token
            key =
                ap (λ ns. entities.named_token ns own_name.own) (unit_nodes ∙ sym (nodes_are file t it))
                ∙ ap (λ o. if entities.is_name (scripts.kind_if o) then scripts.first_if o else None) own_name.at
                ∙ ap (λ k. if entities.is_name (Some k) then Some own_name.node.first else None) own_name.is ∙ ap Some own_name.first

            last : (y : ℕ) × (last_with (entities.named_token it.unit.nodes) (length it.unit.nodes) token ≡ Some y)
            last =
                let w = slice_get_within t.nodes own_name.own own_name.node own_name.at in
                let count : length t.nodes ≡ length it.unit.nodes = ap length it.checked.by.elaborated.nodes_are in
                some_last (entities.named_token it.unit.nodes) (length it.unit.nodes) token own_name.own (omega (arith, w, count)) key

        of_part : (o : Option ℕ) → slice_get (parts_in nodes (Some p)) 1 ≡ o → (x : ℕ) × (faults.parameter_name nodes p ≡ Some x) → (y : ℕ) × (columns.parameter_name (parsed_of it.unit) p ≡ Some y)
        of_part None f g = let never : None ≡ Some g.0 = ap (name_in nodes) (sym f) ∙ g.1 in absurd cc
        of_part (Some x) f g = of_token x g.0 (part_same (Some x) f) (ap (λ ns. (declarator_of ns x).name) (nodes_are file t it) ∙ ap (name_in nodes) (sym f) ∙ g.1)

    parameters_are : slice_index_or t.parameters d [] ≡ flat_map (λ p. option_to_list (columns.parameter_name (parsed_of it.unit) p)) list
    parameters_are =
        ap (λ ps. slice_index_or ps d []) it.checked.by.elaborated.parameters
        ∙ listed_at (columns.parameters_of (parsed_of it.unit) by_columns) (length it.unit.nodes) d []
        (let w = slice_get_within t.nodes d m defines.at in let count : length t.nodes ≡ length it.unit.nodes = ap length it.checked.by.elaborated.nodes_are in omega (arith, w, count))
        ∙ ap (λ k. if entities.is_definition k then flat_map (λ p. option_to_list (columns.parameter_name (parsed_of it.unit) p)) (columns.parameter_nodes it.unit.nodes (part_of it.unit.nodes (columns.function_of it.unit.nodes by_columns d) 1)) else [])
        (ap (λ ns. scripts.kind_at ns d) unit_nodes ∙ ap scripts.kind_if here ∙ ap Some body)
        ∙ ap (λ ps. flat_map (λ p. option_to_list (columns.parameter_name (parsed_of it.unit) p)) ps) list_same
      where
        function_is : columns.function_of it.unit.nodes by_columns d ≡ Some l
        function_is =
            ap (λ o. (entry_of by_columns.declarators.now name_alone o).function) (ap (λ ns. slice_get (scripts.parts_at ns d) 1) unit_nodes ∙ ap (λ o. slice_get (scripts.parts_if o) 1) here ∙ second)
            ∙ ap (λ column. (slice_index_or column q name_alone).function) it.checked.by.are.declarators ∙ list_is.1

        list_same : columns.parameter_nodes it.unit.nodes (part_of it.unit.nodes (columns.function_of it.unit.nodes by_columns d) 1) ≡ list
        list_same =
            ap (λ f. columns.parameter_nodes it.unit.nodes (part_of it.unit.nodes f 1)) function_is
            ∙ ap (λ ns. columns.parameter_nodes ns (slice_get (scripts.parts_at ns l) 1)) unit_nodes
            ∙ nodes_same nodes (slice_get (scripts.parts_at nodes l) 1)
            ∙ ap (λ ps. checked_names.parameter_nodes nodes (slice_get ps 1)) (parts_same (slice_get nodes l))

    list_heads : map head (map (type_at it.checked.checked.table) (slice_index_or it.checked.checked.whole.typing.parameters q []))
        ≡ map head (listed_types it.checked.by.tree it.checked.checked.table it.checked.checked.whole.typing l)
    list_heads =
        listed it.checked.by.tree it.checked.checked.texts it.checked.checked.table it.checked.checked.whole.typing (is_typing file t it) parted q token l
        (ap (λ ns. (declarator_of ns q).name) (sym (nodes_are file t it)) ∙ defines.name) misplaced list_is.1

    -- so they are adjusted
    pub adjusted_at : (k : ℕ) (y : Qualified) → slice_get (map head (map (type_at it.checked.checked.table) (slice_index_or it.checked.checked.whole.typing.parameters q []))) k ≡ Some y
        → (x : Qualified) × (y ≡ head (adjusted_type x))
    adjusted_at k y e =
        let own = mapped head (listed_types it.checked.by.tree it.checked.checked.table it.checked.checked.whole.typing l) k y (ap (λ ts. slice_get ts k) (sym list_heads) ∙ e) in
        let inner = mapped (λ p. adjusted_type (type_at it.checked.checked.table (slice_index_or it.checked.checked.whole.typing.named p 0))) list k own.item own.at in
        (type_at it.checked.checked.table (slice_index_or it.checked.checked.whole.typing.named inner.item 0), sym own.is ∙ ap head (sym inner.is))

    count_is : length (slice_index_or t.parameters d []) ≡ length (slice_index_or it.checked.checked.whole.typing.parameters q [])
    count_is =
        ap length parameters_are ∙ all_named (columns.parameter_name (parsed_of it.unit)) list named
        ∙ sym (as_many (λ p. adjusted_type (type_at it.checked.checked.table (slice_index_or it.checked.checked.whole.typing.named p 0))) list)
        ∙ sym (as_many head (listed_types it.checked.by.tree it.checked.checked.table it.checked.checked.whole.typing l))
        ∙ ap length (sym list_heads)
        ∙ as_many head (map (type_at it.checked.checked.table) (slice_index_or it.checked.checked.whole.typing.parameters q []))
        ∙ as_many (type_at it.checked.checked.table) (slice_index_or it.checked.checked.whole.typing.parameters q [])

pub fitting : Laws.DefinitionsFitCalls
fitting file t it p i d signature stands given meant =
    let alike = is_alike file t it i d signature stands meant in
    let look = type_at it.checked.checked.table in
    let rows = slice_index_or it.checked.checked.whole.typing.parameters meant.whole [] in
    record {
      gives = λ row. given_sort p t row signature.gives ((scene_of it.checked.by.tree it.checked.checked).gives (Some d))
          (ap head (gives_is file t it meant.name d meant.whole meant.own meant.defines meant.body) ∙ alike.result) given;
      count =
          count_is file t it meant.name d meant.whole meant.own meant.defines meant.body
          ∙ sym (as_many look rows) ∙ sym (as_many head (map look rows)) ∙ ap length alike.heads ∙ as_many head (map look alike.rows) ∙ as_many look alike.rows ∙ sym alike.count;
    }
