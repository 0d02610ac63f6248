-- An object of the program has a type of objects, the composite of its declarations', and the cells of this type (C11 6.2.7p3, 6.7p7, 6.9.2, K6,
-- K14): one of its declarations defines it, whose type is complete, by its declarator or by its initialiser.
use Rattle.std.proofs.Common.{◌≡◌, ℕ, suc, ◌<◌, ◌≤◌, ◌==◌, ◌&&◌, inl, inr, Bool, true, false, not, nat_lt, List, Option, None, Some, length, slice_get, slice_index_or, refl, sym, ap, subst, ◌∙◌, arith, if◌then◌else◌}
use Rattle.std.specs.Option.{is_some}
use Rattle.std.proofs.lemmas.Bool.{false≢true, and_parts, not-true, eqb-true, ltb-true}
use Rattle.std.proofs.lemmas.List.{get_or-take, length-map}
use Rattle.std.proofs.lemmas.Option.{slice_get_within, same_Some}
use Rattle.cr_memory.specs.declared.value.Scalar.{Scalar}
use Rattle.cr_memory.specs.declared.value.Guard.{Guard}
use Rattle.cr_syntax.specs.declared.node.Kind.{Kind}
use Rattle.cr_syntax.specs.declared.node.Kind.TheVariants as kind
use Rattle.cr_syntax.specs.declared.node.Node.{Node}
use Rattle.cr_syntax.specs.Tables.{rule_of, side_of}
use Rattle.cr_syntax_nodes.specs.Nodes.{least}
use Rattle.cr_scopes_bindings.specs.Last.{last_with}
use Rattle.cr_scopes_events.specs.Scripts as scripts
use Rattle.cr_scopes_linkage.specs.Shared.Origins.{is_external}
use Rattle.cr_check_enclosing.specs.declared.context.Place.{Place}
use Rattle.cr_check_types.specs.declared.layout.Layout.{Layout}
use Rattle.cr_check_types.specs.Types.{Qualified, plain, pointer as to, array, type_at}
use Rattle.cr_check_types.specs.Relations.{composite_of, is_complete_at}
use Rattle.cr_check_types.specs.Layouts.{layout_of}
use Rattle.cr_check_expressions.specs.declared.known.Declared.TheVariants.{Object, Function, Unclear}
use Rattle.cr_check_expressions.specs.Known.{meaning_by, parameters_in}
use Rattle.cr_check_declarators.specs.declared.words.Class.{Class}
use Rattle.cr_check_declarators.specs.declared.words.Class.TheVariants as class
use Rattle.cr_check_declarators.specs.declared.words.Storage.{Storage}
use Rattle.cr_check_declarators.specs.declared.words.Specified.{Specified}
use Rattle.cr_check_declarators.specs.Specifiers.{nothing}
use Rattle.cr_check_declarators.specs.Declarators.{most_cells, is_extern as is_extern_of, may_be_open}
use Rattle.cr_check_declarations.specs.Before.{kind_if as found_kind, parts_if as found_parts, kind_in, type_in, specified_in}
use Rattle.cr_check_declarations.specs.Named.{class_of, is_typedef, is_initialised, specifiers_in, declaration_of}
use Rattle.cr_check_declarations.specs.Faults.{has_at, name_token, place_of, declarator_faults, whole_faults}
use Rattle.cr_check_initialisers.specs.Plans.{is_open}
use Rattle.cr_check_initialised.specs.Durations.{is_kept_class, is_kept, is_static}
use Rattle.cr_check_initialised.specs.Initialised.{Planned, object_of, is_planned, planned_in, planned_if, planned_by}
use Rattle.cr_check_unit.specs.Typing.{cut, entry_at, before_in, object_in, declared_in}
use Rattle.cr_typed.specs.declared.typed.Typed.{Typed}
use Rattle.cr_typed.specs.declared.typed.Duration.TheVariants as duration
use Rattle.cr_typed.specs.Typed.{MOST_CELLS}
use Rattle.cr_typed_columns.specs.Reading.{kind_of, part_of, entry_of}
use Rattle.cr_typed_columns.specs.Entities as entities
use Rattle.cr_typed_columns.specs.Names as names
use Rattle.cr_meaning.specs.declared.run.Limits.{Limits}
use Rattle.cr_meaning_operations.specs.Shapes.{named_type, cells_of, shape_of, type_of_node}
use Rattle.cr_meaning_operations.specs.Operations.{kind_if, kind_at, parts_if, part_at, entity_of, object_shape, program_of}
use Rattle.cr_meaning_typing.specs.Typed.Laws.{HoldsAll}
use Rattle.cr_meaning_typing.specs.Typed.Placed.{IsNamed}
use Rattle.cr_meaning_typing.specs.Typed.Typing.{has_value, is_expression}
use Rattle.cr_meaning_typing.specs.Judged.Judged.{seen_in}
use Rattle.cr_check_expressions.specs.Forms.{form_of as rule_form}
use Rattle.cr_meaning_types.specs.Known.Shaped.{IsPart}
use Rattle.cr_meaning_types.specs.Known.Sized as known_sized
use Rattle.cr_meaning_types.proofs.KnownLemmas.Sized.{bracketless, bracketed}
use Rattle.cr_meaning_declarations.specs.Declared.Files.{IsUnitOfFile, assembled}
use Rattle.cr_meaning_declarations.proofs.DeclaredLemmas.Bodies.{listed_at, last_has}
use Rattle.cr_meaning_declarations.proofs.DeclaredLemmas.Files.{has_unit, tree_of}
use Rattle.cr_meaning_declarations.proofs.DeclaredLemmas.Nodes.{of_unit}
use Rattle.cr_meaning_references.proofs.TypedefsLemmas.Files.{are_seen}
use Rattle.cr_meaning_objects.proofs.ChainedLemmas.Known.{there, words, HasWords, owned, IsOwned, definition_declares}
use Rattle.cr_meaning_objects.proofs.ObjectsLemmas.Alone.{Stands, in_file, in_block, in_clause, stands_there}
use Rattle.cr_meaning_objects.proofs.KeptLemmas.Kept.{duration_at, duration_is}
use Rattle.cr_meaning_files.specs.Celled.{HasSizedElements}
use Rattle.cr_meaning_files.proofs.Elements.{celled}
use Rattle.cr_meaning_objects.specs.Composed.Laws.{Becomes, IsObject}
use Rattle.cr_meaning_objects.proofs.ComposedLemmas.Named.{complete, initialised, firsts, objects_named}
use Rattle.cr_meaning_types.specs.Fitting.Bounded.{IsBounded, Declares}
use Rattle.cr_meaning_types.proofs.FittingLemmas.Names.{declares_all}
use Rattle.cr_meaning_files.specs.Local.{is_object_by}
use Rattle.cr_meaning_files.specs.Structures.{IsWhole, AreMembersWhole}
use Rattle.cr_meaning_references.proofs.TreesLemmas.Tree.{needed}
use Rattle.cr_meaning_files.specs.Laws.{HasWholeCells, IsDeclaredAt}
use Rattle.cr_meaning_files.proofs.Filling.{ruled}
use Rattle.cr_meaning_references.proofs.TreesLemmas.Shaped.{surrounded, shaped}
use Rattle.cr_meaning_references.proofs.TreesLemmas.Sighted.{sighted}
use Rattle.cr_meaning_files.proofs.Apart.{counted}
use Rattle.cr_meaning_files.proofs.Made.{complete_whole, early, whole_some}
use Rattle.cr_meaning_files.proofs.Completed.{before_later, complete_before}
use Rattle.cr_meaning_files.proofs.Small.{bounds, element_few}
use Rattle.cr_meaning_files.proofs.Whole.{declares_object, DeclaresObject, is_scope, element_complete, declares, asked, complete_there}
use Rattle.cr_meaning_files.proofs.Initialised.{completed_early}
use Rattle.cr_meaning_files.proofs.Composed.{whole_sized}
use Rattle.cr_scopes_visibility.proofs.AloneLemmas.First.{number_same as number_is}

-- ---- types

same_open : (type : Qualified) → is_open type ≡ known_sized.is_open type
same_open (plain of c v) = refl
same_open (to c v below) = refl
same_open (array n below) = refl

-- a type of objects stays one where sizes below become known
composite_whole : (t : Typed) (one other : Qualified) → IsWhole t one → IsWhole t (composite_of one other)
composite_whole t (plain of c v) other h = h
composite_whole t (to c v below) (plain of d w) h = tt
composite_whole t (to c v below) (to d w more) h = tt
composite_whole t (to c v below) (array m more) h = tt
composite_whole t (array n below) (plain of d w) h = h
composite_whole t (array n below) (to d w more) h = h
composite_whole t (array n below) (array m more) h = (some (n == 0) refl, composite_whole t below more h.1)
  where
    some : (b : Bool) → (n == 0) ≡ b → 1 ≤ (if b then m else n)
    some true e = let none = eqb-true n 0 e in let least = h.0 in absurd (omega (arith, none, least))
    some false e = h.0

becomes_whole : (t : Typed) (one whole : Qualified) → IsWhole t one → Becomes one whole → IsWhole t whole
becomes_whole t one whole h e = subst (IsWhole t) e (composite_whole t one whole h)

-- ---- storage classes

extern_class : (c : Class) → entities.is_extern_class c ≡ false → is_extern_of (Some c) ≡ false
extern_class class.Extern h = absurd (false≢true (sym h))
extern_class c h = refl

-- what isn't `extern` by the columns isn't by the check
shut_class : (s : Option Storage) → entities.is_extern s ≡ false → is_extern_of (class_of s) ≡ false
shut_class None h = refl
shut_class (Some s) h = by s.typedefs
  where
    by : (b : Bool) → is_extern_of (if b then Some class.Typedef else Some s.class) ≡ false
    by true = refl
    by false = extern_class s.class h

kept_class : (c : Class) → entities.is_extern_class c ≡ true → is_kept_class (Some c) ≡ true
kept_class class.Extern h = refl
kept_class c h = absurd (false≢true h)

-- and what is, is of static duration
extern_kept : (s : Option Storage) → is_typedef (class_of s) ≡ false → entities.is_extern s ≡ true → is_kept_class (class_of s) ≡ true
extern_kept None h e = absurd (false≢true e)
extern_kept (Some s) h e = by s.typedefs h
  where
    by : (b : Bool) → is_typedef (if b then Some class.Typedef else Some s.class) ≡ false → is_kept_class (if b then Some class.Typedef else Some s.class) ≡ true
    by true h = absurd (false≢true (sym h))
    by false h = kept_class s.class e

-- ---- places

scope_there : (p : Place) → Stands p → is_scope p ≡ true
scope_there p (in_file e) = ap is_scope e
scope_there p (in_block e) = ap is_scope e
scope_there p (in_clause e) = ap is_scope e

open_there : (p : Place) → Stands p → (c : Option Class) → is_extern_of c ≡ false → may_be_open p c ≡ false
open_there p (in_file e) c h = ap (λ x. may_be_open x c) e ∙ h
open_there p (in_block e) c h = ap (λ x. may_be_open x c) e ∙ h
open_there p (in_clause e) c h = ap (λ x. may_be_open x c) e ∙ h

-- ---- brackets without a size (K14)

-- ---- durations

-- an object that a declaration declares lives by these two
duration_there : (row : ℕ) (register : Bool) (p : Place) (own static kept : Bool) → Stands p → names.by_declared (Object row register) p own static kept ≡ names.of_object static kept
duration_there row register p own static kept (in_file e) = ap (λ x. names.by_place x own static kept) e
duration_there row register p own static kept (in_block e) = ap (λ x. names.by_place x own static kept) e
duration_there row register p own static kept (in_clause e) = ap (λ x. names.by_place x own static kept) e

-- with linkage it lasts
kept_there : (p : Place) → Stands p → (c : Option Class) → is_kept_class c ≡ true → is_kept p c ≡ true
kept_there p (in_file e) c h = ap (λ x. is_kept x c) e
kept_there p (in_block e) c h = ap (λ x. is_kept x c) e ∙ h
kept_there p (in_clause e) c h = ap (λ x. is_kept x c) e ∙ h

not_over : (cells : ℕ) → cells ≤ MOST_CELLS → nat_lt most_cells cells ≡ false
not_over cells few = by (nat_lt most_cells cells) refl
  where
    by : (b : Bool) → nat_lt most_cells cells ≡ b → b ≡ false
    by false e = refl
    by true e = let more = ltb-true most_cells cells e in absurd (omega (arith, few, more))

initialised_needs : 1 < least (side_of kind.InitDeclarator)
unfolding rule_of
initialised_needs = omega arith

module _ (file : List ℕ) (t : Typed) (it : IsUnitOfFile file t) (made : AreMembersWhole t)
    (worth : (i : ℕ) → is_expression (rule_form (kind_at t i)) ≡ true → has_value (seen_in it.checked.checked i).type ≡ true) (limits : Limits) where
  open it use {made_by, tree, typing, shapes, columns}
  open has_unit file t it use {nodes_are as same_nodes}

  abbrev ns : List Node
  ns = tree.nodes.now

  abbrev named : ℕ → Qualified
  named p = type_at shapes (slice_index_or typing.named p 0)

  -- ---- a declared name of an object

  module _ (node r : ℕ) (x : IsObject file t it node r) where
    abbrev d : ℕ
    d = x.declaration

    abbrev m : Node
    m = x.holder

    o : IsOwned file t it x.own.first d r m
    o = owned file t it x.own.first d r m x.declarer

    r_there : slice_get ns r ≡ Some o.node
    r_there = there file t it r o.node o.at

    d_there : slice_get ns d ≡ Some m
    d_there = there file t it d m x.declarer.at

    -- it stands in a declaration
    is_declaration : m.kind ≡ kind.Declaration
    is_declaration = by m.kind refl x.declarer.external
      where
        by : (k : Kind) → m.kind ≡ k → is_external k ≡ true → m.kind ≡ kind.Declaration
        by kind.Declaration e h = e
        by kind.FunctionDefinition e h =
            let f = definition_declares file t it x.own.first d r m x.declarer e in
            let never : Object x.object.0 x.object.1.0 ≡ Function f.0 f.1.0 = sym x.object.1.1 ∙ f.1.1 in
            absurd cc
        by k e h = absurd (false≢true h)

    stands : Stands (place_of tree r)
    stands = stands_there file t it x.own.first d r m x.declarer x.object

    part_d : IsPart tree d m (suc x.declarer.place) x.declarer.part
    part_d = (shaped file t it).parts d m d_there (suc x.declarer.place) x.declarer.part x.declarer.is

    part_at_t : slice_get t.nodes x.declarer.part ≡ Some part_d.own
    part_at_t = ap (λ xs. slice_get xs x.declarer.part) (sym (tree_of file t it)) ∙ part_d.at

    -- ---- its specifiers

    w : HasWords file t it d m
    w = words file t it d m x.declarer.at x.declarer.external

    abbrev storage : Option Storage
    storage = (slice_index_or typing.specified w.specifiers nothing).storage

    specifiers_are : specifiers_in ns (Some d) ≡ Some w.specifiers
    specifiers_are = ap (λ p. slice_get (found_parts p) 0) d_there ∙ w.first

    low : w.specifiers < r
    low = (shaped file t it).ordered r d w.specifiers o.node r_there o.names o.declaration specifiers_are

    class_early : class_of (specified_in (before_in shapes (cut r typing)).specified (specifiers_in ns (Some d))).storage ≡ class_of storage
    class_early =
        ap (λ p. class_of (specified_in (before_in shapes (cut r typing)).specified p).storage) specifiers_are
        ∙ ap (λ (y : Specified). class_of y.storage) (get_or-take r typing.specified w.specifiers nothing low)

    object_there : declares_object (slice_index_or typing.declared r Unclear) ≡ true
    object_there = ap declares_object x.object.1.1

    abbrev declared : DeclaresObject ns (before_in shapes (cut r typing)).specified (entry_at typing r).own.declarator (declaration_of ns tree.above.now r)
    declared = declares file t it r o.node o.at o.is object_there

    same_declaration : declared.declaration ≡ d
    same_declaration = same_Some declared.declaration d (sym declared.is ∙ o.declaration)

    untyped : is_typedef (class_of storage) ≡ false
    untyped =
        sym (ap is_typedef class_early)
        ∙ subst (λ e. is_typedef (class_of (specified_in (before_in shapes (cut r typing)).specified (specifiers_in ns (Some e))).storage) ≡ false) same_declaration declared.plain

    asked_there : HoldsAll (whole_faults (has_at shapes (entry_at typing r).own) (before_in shapes (cut r typing)) tree r (Some d))
    asked_there =
        subst (λ e. HoldsAll (whole_faults (has_at shapes (entry_at typing r).own) (before_in shapes (cut r typing)) tree r (Some e))) same_declaration (asked file t it r o.node o.at o.is object_there)

    -- ---- its type

    -- K6
    whole_closed : is_open (named r) ≡ false → IsWhole t (named r)
    whole_closed e =
        complete_whole t r (named r)
        (ap (λ xs. is_complete_at xs r (named r)) (sym (tree_of file t it)) ∙ complete_there file t it r o.node o.at o.is object_there (scope_there (place_of tree r) stands) e)

    above_there : x.declarer.part ≡ r → slice_index_or tree.above.now r None ≡ Some d
    above_there same = ap (λ p. slice_index_or tree.above.now p None) (sym same) ∙ part_d.above

    -- K14: without `extern` and without an initialiser it is no array of unknown size
    closed : x.declarer.part ≡ r → is_extern_of (class_of storage) ≡ false → is_open (named r) ≡ false
    closed same shut = same_open (named r) ∙ bracketless tree it.checked.checked.texts shapes typing made_by.is.whole.typing (λ b broken. made_by.sound.constraints b (inl broken)) (shaped file t it) (surrounded file t it)
        (sighted file t it) (are_seen file t (assembled file t it)) r o.node r_there o.is sizeless
      where
        initialised_not : is_initialised (kind_in ns (slice_index_or tree.above.now r None)) ≡ false
        initialised_not = ap (λ p. is_initialised (kind_in ns p)) (above_there same) ∙ ap (λ p. is_initialised (found_kind p)) d_there ∙ ap (λ k. is_initialised (Some k)) is_declaration

        sizeless : is_some (entry_at typing r).own.declarator.sizeless ≡ false
        sizeless =
            let own = has_at shapes (entry_at typing r).own in
            let before = before_in shapes (cut r typing) in
            let of = type_in before.named (specifiers_in ns (Some d)) in
            let name = name_token ns r (Some d) in
            bracketed own before ns r (place_of tree r) (class_of storage) of name (open_there (place_of tree r) stands (class_of storage) shut)
            (subst (λ b. HoldsAll (declarator_faults own before ns r (place_of tree r) (class_of storage) b of name)) initialised_not
            (subst (λ c. HoldsAll (declarator_faults own before ns r (place_of tree r) c (is_initialised (kind_in ns (slice_index_or tree.above.now r None))) of name)) class_early asked_there))

    -- ---- with an initialiser

    module _ (init : scripts.kind_at t.nodes x.declarer.part ≡ Some kind.InitDeclarator) (first : slice_get (scripts.parts_at t.nodes x.declarer.part) 0 ≡ Some r) where
      abbrev a : ℕ
      a = x.declarer.part

      abbrev n : Node
      n = part_d.own

      is_init : n.kind ≡ kind.InitDeclarator
      is_init = same_Some n.kind kind.InitDeclarator (sym (ap scripts.kind_if part_at_t) ∙ init)

      first_part : slice_get n.parts 0 ≡ Some r
      first_part = sym (ap (λ p. slice_get (scripts.parts_if p) 0) part_at_t) ∙ first

      r_below : r < a
      r_below = ((shaped file t it).parts a n part_d.at 0 r first_part).below

      second : slice_get n.parts 1 ≡ Some (part_at t a 1)
      second = sym (ap (λ p. slice_get (parts_if p) 1) part_at_t) ∙ needed t (of_unit file t it) a 1 kind.InitDeclarator (ap kind_if part_at_t ∙ is_init) refl initialised_needs

      row_is : x.object.0 ≡ slice_index_or typing.named r 0
      row_is =
          subst (Declares (λ row. row ≡ slice_index_or typing.named r 0)) (sym (ruled file t it r o.node o.at).declared ∙ x.object.1.1)
          (declares_all (λ row. row ≡ slice_index_or typing.named r 0) o.node.kind ns (before_in shapes (cut r typing)).specified (entry_at typing r).own.declarator (entry_at typing r).own.named
          (entry_at typing r).own.enumerated (declaration_of ns tree.above.now r) refl)

      object_is : object_in shapes (cut a typing) n ≡ Some (named r)
      object_is =
          ap (λ p. object_of (declared_in shapes (cut a typing) p)) first_part
          ∙ ap (λ e. object_of (meaning_by (type_at shapes) (parameters_in (cut a typing).parameters (Some r)) e)) (get_or-take a typing.declared r Unclear r_below ∙ x.object.1.1)
          ∙ ap (λ row. Some (type_at shapes row)) row_is

      -- what it declares as an array of unknown size is planned: its elements are complete, and have no more cells than they may
      weighs : is_open (named r) ≡ true → is_planned (cut a typing).layouts (named r) ≡ true
      weighs = by (named r) refl
        where
          by : (type : Qualified) → named r ≡ type → is_open type ≡ true → is_planned (cut a typing).layouts type ≡ true
          by (plain of c v) f e = absurd (false≢true e)
          by (to c v below) f e = absurd (false≢true e)
          by (array count below) f e =
              let early_below = before_later r a (omega (arith, r_below)) below (complete_before t.nodes r below (element_complete file t it r o.node o.at count below f)) in
              let few = element_few file t it r count below f in
              let same = ap (λ (l : Layout). l.cells) (early file t it a below early_below) in
              ap (λ b. not (nat_lt most_cells (layout_of (cut a typing).layouts (if b then below else array count below)).cells)) e
              ∙ ap not (not_over (layout_of (cut a typing).layouts below).cells (omega (arith, few, same)))

      planned : is_open (named r) ≡ true → (q : Planned) × (planned_by n.kind (cut a typing).layouts (object_in shapes (cut a typing) n) n.parts ≡ Some q)
      planned e = (
        record { type = named r; initialiser = part_at t a 1 },
        ap (λ k. planned_by k (cut a typing).layouts (object_in shapes (cut a typing) n) n.parts) is_init
            ∙ (λ j. planned_in (cut a typing).layouts (object_is j) (second j))
            ∙ ap (λ b. planned_if b (named r) (part_at t a 1)) (weighs e),
      )

      whole_completed : is_open (named r) ≡ true → IsWhole t (named a)
      whole_completed e = let q = planned e in (completed_early file t it made worth limits a n part_at_t is_init q.0 q.1).whole

    -- ---- whether it defines the object

    abbrev open_by : List Node → List Specified → Option ℕ → Bool
    open_by xs said above = entities.is_declaration (kind_of xs above) && entities.is_extern (entry_of said nothing (part_of xs above 0)).storage

    open_at : (above : ℕ) → slice_index_or tree.above.now r None ≡ Some above → entities.is_open it.unit.nodes columns (Some r) ≡ open_by t.nodes typing.specified (Some above)
    open_at above e =
        (λ j. open_by (same_nodes j) (made_by.are.specified j) (slice_index_or (made_by.are.above j) r None))
        ∙ ap (open_by t.nodes typing.specified) (ap (λ column. slice_index_or column r None) (sym made_by.is.whole.tree.above) ∙ e)

    -- as the words of its declaration have it, where it isn't initialised
    open_is : x.declarer.part ≡ r → entities.is_open it.unit.nodes columns (Some r) ≡ entities.is_extern storage
    open_is same =
        open_at d (above_there same)
        ∙ ap (λ p. entities.is_declaration (scripts.kind_if p) && entities.is_extern (entry_of typing.specified nothing (slice_get (scripts.parts_if p) 0)).storage) x.declarer.at
        ∙ ap (λ k. entities.is_declaration (Some k) && entities.is_extern (entry_of typing.specified nothing (slice_get m.parts 0)).storage) is_declaration
        ∙ ap (λ p. entities.is_extern (entry_of typing.specified nothing p).storage) w.first

    whole_kept : entities.keeps it.unit.nodes columns (Some r) ≡ true → IsWhole t (named_type t (entity_of t node))
    whole_kept keeps = by (is_open (named r)) refl
      where
        shut : x.declarer.part ≡ r → entities.is_extern storage ≡ false
        shut same = sym (open_is same) ∙ not-true (entities.is_open it.unit.nodes columns (Some r)) (and_parts (entities.is_object (entities.declared_of columns (Some r))) (not (entities.is_open it.unit.nodes columns (Some r))) keeps).1

        by : (b : Bool) → is_open (named r) ≡ b → IsWhole t (named_type t (entity_of t node))
        by false e = becomes_whole t (named r) (named_type t (entity_of t node)) (whole_closed e) (complete file t it node r x)
        by true e = elim x.declarer.declares [
          | inl same ↦ absurd (false≢true (sym (closed same (shut_class storage (shut same))) ∙ e))
          | inr init ↦
              becomes_whole t (named x.declarer.part) (named_type t (entity_of t node)) (whole_completed init.0 init.1 e)
              (initialised file t it node r x x.declarer.part part_d.own part_at_t (is_init init.0 init.1) (first_part init.0 init.1))
        ]

    -- ---- how long it lives

    abbrev said : ℕ → Specified
    said p = slice_index_or typing.specified p nothing

    static_is : is_static tree said (Some r) ≡ is_kept (place_of tree r) (class_of storage)
    static_is =
        ap (λ p. is_kept (place_of tree r) (class_of (specified_in said (specifiers_in ns p)).storage)) o.declaration
        ∙ ap (λ p. is_kept (place_of tree r) (class_of (specified_in said p).storage)) specifiers_are

    -- an automatic one says no `extern`, and so it is its own definition
    automatic_kept : is_static tree said (Some r) ≡ false → entities.keeps it.unit.nodes columns (Some r) ≡ true
    automatic_kept none =
        (λ j. object_column j && not (open_none j))
      where
        object_column : entities.is_object (entities.declared_of columns (Some r)) ≡ true
        object_column = ap (λ ds. entities.is_object (slice_index_or ds r Unclear)) made_by.are.declared ∙ ap entities.is_object x.object.1.1

        no_extern : (b : Bool) → entities.is_extern storage ≡ b → b ≡ false
        no_extern false e = refl
        no_extern true e = absurd (false≢true (sym none ∙ static_is ∙ kept_there (place_of tree r) stands (class_of storage) (extern_kept storage untyped e)))

        open_none : entities.is_open it.unit.nodes columns (Some r) ≡ false
        open_none = elim x.declarer.declares [
          | inl same ↦ open_is same ∙ no_extern (entities.is_extern storage) refl
          | inr init ↦
              (let part = (shaped file t it).parts x.declarer.part part_d.own part_d.at 0 r (first_part init.0 init.1) in
              open_at x.declarer.part part.above
              ∙ ap (λ p. entities.is_declaration p && entities.is_extern (entry_of typing.specified nothing (slice_get (scripts.parts_at t.nodes x.declarer.part) 0)).storage) init.0)
        ]

    duration_of_name : (k : ℕ) → entities.whole_of it.unit.nodes columns node ≡ Some r → entities.entity_of it.unit.nodes it.names node ≡ Some k
        → slice_index_or t.durations node duration.NoObject ≡ names.of_object (is_static tree said (Some r)) (entities.is_kept it.unit.nodes columns (Some k))
    duration_of_name k whole entity =
        let kept = entities.is_kept it.unit.nodes columns (entities.entity_of it.unit.nodes it.names node) in
        let static = slice_index_or columns.statics.now r false in
        let own = names.is_own it.unit.nodes columns (Some r) (names.around_of columns (Some r)).function in
        duration_at file t it node (slice_get_within t.nodes node x.own x.at)
        ∙ duration_is file t it node r whole
        ∙ ap (λ e. names.by_declared e (place_of tree r) own static kept) x.object.1.1
        ∙ duration_there x.object.0 x.object.1.0 (place_of tree r) own static kept stands
        ∙ ap (λ b. names.of_object b kept)
        (ap (λ column. slice_index_or column r false) made_by.are.statics ∙ listed_at (λ i. is_static tree said (Some i)) (length ns) r false (slice_get_within ns r o.node r_there))
        ∙ ap (λ e. names.of_object (is_static tree said (Some r)) (entities.is_kept it.unit.nodes columns e)) entity

  -- ---- an object of the program

  module _ (node q : ℕ) (x : IsObject file t it node q) (there_is : is_object_by (slice_index_or t.durations (entity_of t node) duration.NoObject) ≡ true) where
    abbrev f : ℕ
    f = entity_of t node

    -- by any declared name of its entity
    by_name : (i : ℕ) → entities.entity_of it.unit.nodes it.names i ≡ Some x.entity → ((r : ℕ) → (y : IsObject file t it i r) → entities.whole_of it.unit.nodes columns i ≡ Some r → entities.keeps it.unit.nodes columns (Some r) ≡ true)
        → IsWhole t (named_type t f)
    by_name i e keeps =
        let y = objects_named file t it node q x i e in
        subst (λ z. IsWhole t (named_type t z)) y.1.1.1 (whole_kept i y.0 y.1.0 (keeps y.0 y.1.0 y.1.1.0))

    first_entity : entities.entity_of it.unit.nodes it.names f ≡ Some x.entity
    first_entity = firsts file t it node q x

    first : (r : ℕ) × (IsObject file t it f r × ((entities.whole_of it.unit.nodes columns f ≡ Some r) × (entity_of t f ≡ f)))
    first = objects_named file t it node q x f first_entity

    -- a declaration of it defines it
    kept_name : entities.is_kept it.unit.nodes columns (Some x.entity) ≡ true → IsWhole t (named_type t f)
    kept_name h = found (nat_lt x.entity (length columns.names.now.entities)) h
      where
        key : ℕ → Option ℕ
        key = entities.kept_entity it.unit.nodes columns

        of_last : (l : ℕ) → (b : Bool) → entities.keeps it.unit.nodes columns (entities.whole_of it.unit.nodes columns l) ≡ b
            → (if b then entities.entity_of it.unit.nodes columns.names.now l else None) ≡ Some x.entity → IsWhole t (named_type t f)
        of_last l false keeps e = absurd cc
        of_last l true keeps e =
            by_name l (ap (λ xs. entities.entity_of it.unit.nodes xs l) (sym made_by.are.names_are) ∙ e) (λ r y whole. ap (entities.keeps it.unit.nodes columns) (sym whole) ∙ keeps)

        some : (p : Option ℕ) → last_with key (length it.unit.nodes) x.entity ≡ p → is_some p ≡ true → IsWhole t (named_type t f)
        some None e h = absurd (false≢true h)
        some (Some l) e h = of_last l (entities.keeps it.unit.nodes columns (entities.whole_of it.unit.nodes columns l)) refl (number_is (key l) x.entity (last_has key (length it.unit.nodes) x.entity l e))

        found : (b : Bool) → is_some (if b then last_with key (length it.unit.nodes) x.entity else None) ≡ true → IsWhole t (named_type t f)
        found true h = some (last_with key (length it.unit.nodes) x.entity) refl h
        found false h = absurd (false≢true h)

    pub object_whole : IsWhole t (named_type t f)
    object_whole = by (is_static tree (said f first.0 first.1.0) (Some first.0)) refl (entities.is_kept it.unit.nodes columns (Some x.entity)) refl
        (sym (ap is_object_by (duration_of_name f first.0 first.1.0 x.entity first.1.1.0 first_entity)) ∙ there_is)
      where
        by : (b : Bool) → is_static tree (said f first.0 first.1.0) (Some first.0) ≡ b → (kept : Bool) → entities.is_kept it.unit.nodes columns (Some x.entity) ≡ kept
            → is_object_by (names.of_object b kept) ≡ true → IsWhole t (named_type t f)
        by false e kept k h = by_name f first_entity (λ r y whole. subst (λ z. entities.keeps it.unit.nodes columns z ≡ true) (sym first.1.1.0 ∙ whole) (automatic_kept f first.0 first.1.0 e))
        by true e true k h = kept_name k
        by true e false k h = absurd (false≢true h)

    -- it has the cells of this type
    counts : length ((program_of t limits).shape f) ≡ cells_of t (named_type t f)
    counts =
        let cells = shape_of t (named_type t f) in
        ap (λ k. length (object_shape t f k)) (ap kind_if first.1.0.at ∙ first.1.0.is)
        ∙ sym (length-map cells (λ (own : Scalar × Guard). own.0))
        ∙ counted file t it made (named_type t f) object_whole (made_by.fits.cells_fit (slice_index_or t.named f 0))

    pub has_cells : HasWholeCells t limits f
    has_cells =
        let some = whole_some file t it made (named_type t f) object_whole in
        let few = made_by.fits.cells_fit (slice_index_or t.named f 0) in
        let all = counts in
        record { whole = object_whole; counted = all; some = omega (arith, some, all); few = omega (arith, few, all) }

  -- ---- a node that stands for it

  -- arrays that nodes name have elements of known sizes (6.7.6.2p1)
  sized_elements : (p : ℕ) → HasSizedElements (named p)
  sized_elements p = by (named p) refl
    where
      by : (type : Qualified) → named p ≡ type → HasSizedElements type
      by (plain of c v) e = tt
      by (to c v below) e = tt
      by (array count below) e =
          let bound = subst (IsBounded ns typing.layouts (length ns)) e (bounds file t it p).named in
          whole_sized t below (complete_whole t (length ns) below (ap (λ xs. is_complete_at xs (length ns) below) (sym (tree_of file t it)) ∙ bound.1.0))

  pub names_cells : (node q p i : ℕ) → IsObject file t it node q → IsDeclaredAt t q p → type_of_node t i ≡ named p → entity_of t i ≡ entity_of t node
      → is_object_by (slice_index_or t.durations (entity_of t i) duration.NoObject) ≡ true → IsNamed (program_of t limits) t i
  names_cells node q p i x declared type entity there_is =
      celled (program_of t limits) t i (subst HasSizedElements (sym type) (sized_elements p))
      (subst (λ e. Becomes (type_of_node t i) (named_type t e)) (sym entity) (subst (λ y. Becomes y (named_type t (entity_of t node))) (sym type) (becomes declared)))
      cells.counted cells.some cells.few
    where
      becomes : IsDeclaredAt t q p → Becomes (named p) (named_type t (entity_of t node))
      becomes (inl same) = subst (λ z. Becomes (named z) (named_type t (entity_of t node))) (sym same) (complete file t it node q x)
      becomes (inr (n, (at, (is, first)))) = initialised file t it node q x p n at is first

      cells : HasWholeCells t limits (entity_of t i)
      cells = subst (HasWholeCells t limits) (sym entity) (has_cells node q x (subst (λ e. is_object_by (slice_index_or t.durations e duration.NoObject) ≡ true) entity there_is))
