-- What is initialised is an object, whose type is complete where it is declared, or an array of unknown size (C11 6.7p7, K6).
use Rattle.std.proofs.Common.{◌≡◌, ℕ, zero, suc, ◌<◌, ◌≤◌, ◌==◌, inl, Bool, true, false, ◌&&◌, ◌||◌, not, nat_lt, List, [], ◌∷◌, Option, None, Some, length, slice_get, slice_index_or, refl, sym, ap, subst, ◌∙◌, arith, if◌then◌else◌}
use Rattle.std.specs.Option.{is_some}
use Rattle.std.proofs.lemmas.Bool.{false≢true, and_parts, or_parts, not-false, lt-ltb, ltb-true}
use Rattle.std.proofs.lemmas.List.{get_or-take}
use Rattle.std.proofs.lemmas.Option.{slice_get_within}
use Rattle.cr_syntax.specs.declared.ctype.CType.TheVariants.{Int, Struct, Unknown}
use Rattle.cr_syntax.specs.declared.node.Kind.{Kind}
use Rattle.cr_syntax.specs.declared.node.Kind.TheVariants as kind
use Rattle.cr_syntax.specs.declared.node.Node.{Node}
use Rattle.cr_syntax.specs.Tables.{rule_of, side_of}
use Rattle.cr_syntax_nodes.specs.Nodes.{most}
use Rattle.cr_scopes_visibility.specs.Sight.Scopes.{is_blocklike}
use Rattle.cr_check_enclosing.specs.declared.context.Place.{Place}
use Rattle.cr_check_enclosing.specs.declared.context.Place.TheVariants as place
use Rattle.cr_check_enclosing.specs.declared.context.Around.{Around}
use Rattle.cr_check_enclosing.specs.Above.{above_of}
use Rattle.cr_check_enclosing.specs.Around.{outermost, inside, below}
use Rattle.cr_check_types.specs.declared.layout.Layout.{Layout}
use Rattle.cr_check_types.specs.Types.{Qualified, plain, pointer as to, array, type_at}
use Rattle.cr_check_types.specs.Relations.{is_content_if, is_complete_at}
use Rattle.cr_check_types.specs.Layouts.{layout_of}
use Rattle.cr_check_expressions.specs.declared.known.Declared.{Declared}
use Rattle.cr_check_expressions.specs.declared.known.Declared.TheVariants.{Object, Enumerator, Function, TypeName, Unclear}
use Rattle.cr_check_expressions.specs.Known.{meaning_by, declared_by, parameters_in}
use Rattle.cr_check_declarators.specs.declared.words.Class.{Class}
use Rattle.cr_check_declarators.specs.declared.words.Class.TheVariants as class
use Rattle.cr_check_declarators.specs.declared.words.Specified.{Specified}
use Rattle.cr_check_declarators.specs.declared.declarator.Declarator.{Declarator}
use Rattle.cr_check_declarators.specs.declared.enumerators.Enumerated.{Enumerated}
use Rattle.cr_check_declarators.specs.Declarators.{declares_type, is_object_of, whole_elements, whole_object, function_fault_of, open_fault_of, cells_fault_of}
use Rattle.cr_check_declarators.specs.Specifiers.{is_member}
use Rattle.cr_check_declarations.specs.Before.{Before, kind_if as found_kind, kind_in, specified_in}
use Rattle.cr_check_declarations.specs.Named.{class_of, is_typedef, is_initialised, is_declaration, is_declarator, declares_name, value_by, declared_as, ordinary_by, ordinary_of, names_ordinary, specifiers_in, declared_by as declares_by, declaration_at, above_in, declaration_of}
use Rattle.cr_check_declarations.specs.Faults.{Has, has_at, fault_at, token_if, place_of, is_incomplete, declarator_faults, whole_faults}
use Rattle.cr_check_expressions.specs.Breaks.{fault}
use Rattle.cr_check_initialisers.specs.Places.{sized}
use Rattle.cr_check_initialisers.specs.Plans.{is_open}
use Rattle.cr_check_initialised.specs.Initialised.{Planned, object_of, planned_in, planned_if, is_planned, planned_by}
use Rattle.cr_check_unit.specs.Typing.{cut, entry_at, before_in, object_in}
use Rattle.cr_typed.specs.declared.typed.Typed.{Typed}
use Rattle.cr_meaning_operations.specs.Operations.{kind_if, kind_at, parts_if, parts_at}
use Rattle.cr_meaning_typing.specs.Typed.Laws.{HoldsAll}
use Rattle.cr_meaning_typing.specs.Typed.Typing.{has_value}
use Rattle.cr_meaning_typing.proofs.TypedLemmas.Worth.{unbroken}
use Rattle.cr_meaning_typing.specs.Judged.Judged.{seen_in, source_of, scene_of, IsJudged}
use Rattle.cr_meaning_typing.proofs.JudgedLemmas.Judged.{judged}
use Rattle.cr_meaning_declarations.proofs.NamesLemmas.Parents.{IsPartOf, above_some}
use Rattle.cr_meaning_types.specs.Known.Shaped.{IsPart, is_filled, fits}
use Rattle.cr_meaning_types.proofs.KnownLemmas.Declaring.{there_is, declarator_holds}
use Rattle.cr_meaning_types.specs.Fitting.Bounded.{IsBounded, Declares}
use Rattle.cr_meaning_types.proofs.FittingLemmas.Names.{declares_all}
use Rattle.cr_meaning_types.proofs.FittingLemmas.Bounding.{own_bounded_at}
use Rattle.cr_meaning_types.proofs.FittingLemmas.Literals.{literals}
use Rattle.cr_meaning_types.proofs.KnownLemmas.Sizes.{declarator_names}
use Rattle.cr_meaning_references.proofs.TypedefsLemmas.Files.{are_seen}
use Rattle.cr_meaning_declarations.specs.Declared.Files.{IsUnitOfFile, assembled}
use Rattle.cr_meaning_declarations.proofs.DeclaredLemmas.Nodes.{of_unit}
use Rattle.cr_meaning_declarations.proofs.DeclaredLemmas.Files.{tree_of}
use Rattle.cr_meaning_declarations.proofs.DeclaredLemmas.Once.{place_declaration as declaration_place, place_init as initialised_place}
use Rattle.cr_meaning_references.proofs.TreesLemmas.Grammar.{part_in, Stands}
use Rattle.cr_meaning_references.proofs.TreesLemmas.Tree.{has_part, at_most}
use Rattle.cr_meaning_files.proofs.Filling.{ruled}
use Rattle.cr_meaning_files.proofs.Laid.{around_at}
use Rattle.cr_meaning_references.proofs.TreesLemmas.Shaped.{surrounded, shaped}
use Rattle.cr_meaning_references.proofs.TreesLemmas.Sighted.{sighted}
use Rattle.cr_meaning_files.proofs.Results.{all}
use Rattle.cr_meaning_files.proofs.Declared.{types_known}
use Rattle.cr_meaning_files.proofs.Sight.{holds_declaration}

-- ---- what declares an object

abbrev pub declares_object : Declared → Bool
declares_object (Object row register) = true
declares_object d = false

-- of a declaration of ordinary identifiers, without `typedef`, and no function
pub record DeclaresObject (nodes : List Node) (said : ℕ → Specified) (own : Declarator) (d : Option ℕ) : Type 0 where
  pub declaration : ℕ
  pub is : d ≡ Some declaration
  pub ordinary : names_ordinary (kind_in nodes (Some declaration)) ≡ true
  pub plain : is_typedef (class_of (specified_in said (specifiers_in nodes (Some declaration))).storage) ≡ false
  pub object : is_some own.function ≡ false

by_class : (nodes : List Node) (storage : Option Class) (own : Declarator) (row : ℕ) → declares_object (declared_as nodes storage own row) ≡ true → (is_typedef storage ≡ false) × (is_some own.function ≡ false)
by_class nodes storage own row e = by (is_typedef storage) own.function e
  where
    by : (b : Bool) (f : Option ℕ) → declares_object (if b then TypeName else value_by nodes storage f row) ≡ true → (b ≡ false) × (is_some f ≡ false)
    by true f e = absurd (false≢true e)
    by false None e = (refl, refl)
    by false (Some f) e = absurd (false≢true e)

by_specifiers : (nodes : List Node) (said : ℕ → Specified) (own : Declarator) (row : ℕ) (o : Option ℕ) → declares_object (ordinary_by nodes said own row o) ≡ true
    → (is_typedef (class_of (specified_in said o).storage) ≡ false) × (is_some own.function ≡ false)
by_specifiers nodes said own row None e = absurd (false≢true e)
by_specifiers nodes said own row (Some s) e = by_class nodes (class_of (said s).storage) own row e

by_declaration : (nodes : List Node) (said : ℕ → Specified) (own : Declarator) (row : ℕ) (d : Option ℕ) → declares_object (ordinary_of nodes said own row d) ≡ true → DeclaresObject nodes said own d
by_declaration nodes said own row None e = absurd (false≢true e)
by_declaration nodes said own row (Some d) e = by (names_ordinary (kind_in nodes (Some d))) refl e
  where
    by : (b : Bool) → names_ordinary (kind_in nodes (Some d)) ≡ b → declares_object (if b then ordinary_by nodes said own row (specifiers_in nodes (Some d)) else Unclear) ≡ true → DeclaresObject nodes said own (Some d)
    by false o e = absurd (false≢true e)
    by true o e = let both = by_specifiers nodes said own row (specifiers_in nodes (Some d)) e in record { declaration = d; is = refl; ordinary = o; plain = both.0; object = both.1 }

by_kind : (k : Kind) (nodes : List Node) (said : ℕ → Specified) (own : Declarator) (row : ℕ) (e : Option Enumerated) (d : Option ℕ) → is_declarator k ≡ true → declares_object (declares_by k nodes said own row e d) ≡ true
    → DeclaresObject nodes said own d
by_kind kind.Enumerator nodes said own row e d is h = absurd (false≢true is)
by_kind k nodes said own row e d is h = by (declares_name k) h
  where
    by : (b : Bool) → declares_object (if b then ordinary_of nodes said own row d else Unclear) ≡ true → DeclaresObject nodes said own d
    by true h = by_declaration nodes said own row d h
    by false h = absurd (false≢true h)

-- the type of the object
object_type : (look : ℕ → Qualified) (rows : List ℕ) (d : Declared) (row : ℕ) (type : Qualified) → Declares (λ own. own ≡ row) d → object_of (meaning_by look rows d) ≡ Some type
    → (declares_object d ≡ true) × (look row ≡ type)
object_type look rows (Object own register) row type h e = let same : look own ≡ type = cc e in (refl, ap look (sym h) ∙ same)
object_type look rows (Function own more) row type h e = absurd (cc e)
object_type look rows (Enumerator value) row type h e = absurd (cc e)
object_type look rows TypeName row type h e = absurd (cc e)
object_type look rows Unclear row type h e = absurd (cc e)

-- what is planned is planned of an object
pub planned_object : (k : Kind) (layouts : List Layout) (object : Option Qualified) (parts : List ℕ) (q : Planned) → planned_by k layouts object parts ≡ Some q → object ≡ Some q.type
planned_object kind.InitDeclarator layouts object parts q e = by object (slice_get parts 1) e
  where
    of_test : (b : Bool) (type : Qualified) (i : ℕ) → planned_if b type i ≡ Some q → Some type ≡ Some q.type
    of_test true type i e = let same : record { type = type; initialiser = i } ≡ q = cc e in ap (λ (p : Planned). Some p.type) same
    of_test false type i e = absurd (cc e)

    by : (o : Option Qualified) (i : Option ℕ) → planned_in layouts o i ≡ Some q → o ≡ Some q.type
    by None i e = absurd (cc e)
    by (Some type) None e = absurd (cc e)
    by (Some type) (Some i) e = of_test (is_planned layouts type) type i e
planned_object k layouts object parts q e = absurd (cc e)

-- ---- places

-- at file scope, in a block or in a clause
abbrev pub is_scope : Place → Bool
is_scope place.File = true
is_scope place.Block = true
is_scope place.Clause = true
is_scope other = false

holder_place : (k : Kind) (i : ℕ) (a : Around) → is_blocklike k ≡ true → is_scope (inside k i a).place ≡ true
unfolding inside
holder_place kind.Compound i a h = refl
holder_place kind.For i a h = refl
holder_place k i a h = absurd (false≢true h)

typedef_same : (storage : Option Class) → declares_type storage ≡ is_typedef storage
typedef_same None = refl
typedef_same (Some class.Typedef) = refl
typedef_same (Some c) = refl

is_object : (p : Place) (storage : Option Class) (function : Bool) → is_scope p ≡ true → is_typedef storage ≡ false → function ≡ false → is_object_of p storage function ≡ true
is_object place.File storage function s t f = (λ j. not (f j) && not ((typedef_same storage ∙ t) j))
is_object place.Block storage function s t f = (λ j. not (f j) && not ((typedef_same storage ∙ t) j))
is_object place.Clause storage function s t f = (λ j. not (f j) && not ((typedef_same storage ∙ t) j))
is_object p storage function s t f = absurd (false≢true s)

-- an initialised declarator stands in neither a definition nor a parameter
no_definition : (place : ℕ) → place < 3 → Stands (part_in (side_of kind.FunctionDefinition) place) kind.InitDeclarator → ⊥
unfolding rule_of
no_definition zero low h = false≢true h
no_definition (suc zero) low h = false≢true h
no_definition (suc (suc zero)) low h = false≢true h
no_definition (suc (suc (suc k))) low h = absurd (omega (arith, low))

no_parameter : (place : ℕ) → place < 2 → Stands (part_in (side_of kind.Parameter) place) kind.InitDeclarator → ⊥
unfolding rule_of
no_parameter zero low h = false≢true h
no_parameter (suc zero) low h = false≢true h
no_parameter (suc (suc k)) low h = absurd (omega (arith, low))

pub definition_counts : most (side_of kind.FunctionDefinition) ≡ Some 3
unfolding rule_of
definition_counts = refl

pub parameter_counts : most (side_of kind.Parameter) ≡ Some 2
unfolding rule_of
parameter_counts = refl

-- ---- types

complete_later : (nodes : List Node) (at later : ℕ) → at ≤ later → (type : Qualified) → is_complete_at nodes at type ≡ true → is_complete_at nodes later type ≡ true
complete_later nodes at later le (plain (Struct node) c v) e =
    let both = and_parts (nat_lt node at) (is_content_if (slice_get nodes node)) e in
    let low = ltb-true node at both.0 in
    ap (λ b. b && is_content_if (slice_get nodes node)) (lt-ltb node later (omega (arith, low, le))) ∙ both.1
complete_later nodes at later le (plain (Int kind) c v) e = refl
complete_later nodes at later le (plain of c v) e = absurd (false≢true e)
complete_later nodes at later le (to c v below) e = refl
complete_later nodes at later le (array n below) e =
    let both = and_parts (not (n == 0)) (is_complete_at nodes at below) e in
    ap (λ b. b && is_complete_at nodes later below) both.0 ∙ complete_later nodes at later le below both.1

-- a type is complete, unless it is an array of unknown size
sized_whole : (complete : Qualified → Bool) (type : Qualified) → has_value type ≡ true → is_open type ≡ false → whole_object complete type ≡ true → complete type ≡ true
sized_whole complete (plain Unknown c v) h o e = absurd (false≢true h)
sized_whole complete (plain of c v) h o e = e
sized_whole complete (to c v below) h o e = e
sized_whole complete (array n below) h o e = sym (ap (λ b. b || complete (array n below)) o) ∙ e

-- K6
module _ (own : Has) (b : Before) (nodes : List Node) (i : ℕ) (at : Place) (storage : Option Class) (initialised : Bool) (of : Qualified) (name : ℕ) where
  object_whole : is_scope at ≡ true → is_typedef storage ≡ false → is_some own.declarator.function ≡ false → HoldsAll (declarator_faults own b nodes i at storage initialised of name)
      → whole_object (is_complete_at nodes i) own.named ≡ true
  object_whole scope typedef function h =
      let misplaced = function_fault_of own.declarator at (is_typedef storage) own.named in
      let fault_6 = unbroken 6 name (is_incomplete own nodes i at storage of)
      (fault_at 7 own.declarator.wrong ∷ fault_at 7 (cells_fault_of own.declarator (layout_of b.layouts of)) ∷ fault 8 name misplaced
      ∷ fault_at 14 (open_fault_of own.declarator at storage initialised) ∷ fault_at 41 (token_if (is_member at) own.declarator.volatile) ∷ []) h in
      let object = (or_parts (not (whole_elements (is_complete_at nodes i) own.derived of)) (is_object_of at storage (is_some own.declarator.function) && not (whole_object (is_complete_at nodes i) own.named)) fault_6).1 in
      whole_by (is_object_of at storage (is_some own.declarator.function)) (whole_object (is_complete_at nodes i) own.named) object (is_object at storage (is_some own.declarator.function) scope typedef function)
    where
      whole_by : (a b : Bool) → (a && not b) ≡ false → a ≡ true → b ≡ true
      whole_by true b h e = not-false b h
      whole_by false b h e = absurd (false≢true e)

module _ (file : List ℕ) (t : Typed) (it : IsUnitOfFile file t) where
  open it use {made_by, tree as u, typing, shapes as table}

  abbrev ns : List Node
  ns = u.nodes.now

  abbrev is : IsJudged t (seen_in it.checked.checked) (source_of u it.checked.checked) (scene_of u it.checked.checked) it.checked.checked.surroundings.above it.checked.checked.surroundings.around
  is = judged file it.unit it.names it.checked.checked t made_by

  abbrev around : ℕ → Around
  around p = slice_index_or it.checked.checked.surroundings.around p outermost

  -- a declaration stands at file scope, in a block or in a clause
  pub declaration_scope : (d : ℕ) → d < length t.nodes → kind_at t d ≡ kind.Declaration → is_scope (around d).place ≡ true
  declaration_scope d low of = by (above_of t.nodes (length t.nodes) d) refl
    where
      by : (o : Option ℕ) → above_of t.nodes (length t.nodes) d ≡ o → is_scope (around d).place ≡ true
      by None q =
          ap (λ (a : Around). is_scope a.place) (is.around_are.each d low ∙ ap (below t.nodes (λ p. slice_index_or it.checked.checked.surroundings.around p outermost) d) (is.above_are.each d low ∙ q))
      by (Some x) q =
          let h = above_some t (of_unit file t it) (length t.nodes) d x q in
          let part = has_part t (of_unit file t it) x h.place d (ap (λ o. slice_get (parts_if o) h.place) h.at ∙ h.is) in
          ap (λ (a : Around). is_scope a.place) (around_at file t it x h.place d part) ∙ holder_place (kind_at t x) x (around x) (holds_declaration file t it x d h of)

  -- the elements of an array that a node names are complete
  pub element_complete : (i : ℕ) (n : Node) → slice_get t.nodes i ≡ Some n → (most : ℕ) (below : Qualified) → type_at table (slice_index_or typing.named i 0) ≡ array most below → is_complete_at t.nodes i below ≡ true
  element_complete i n at most below g =
      let bound = subst (IsBounded ns typing.layouts i) g
      (own_bounded_at u it.checked.checked.texts table typing made_by.is.whole.typing (λ b broken. made_by.sound.constraints b (inl broken)) (shaped file t it) (surrounded file t it) (sighted file t it) (are_seen file t (assembled file t it))
      (literals file it.unit.tokens.list.items it.unit.nodes it.checked.checked.texts it.tokenizes made_by.is.texts) i n (ap (λ xs. slice_get xs i) (tree_of file t it) ∙ at)).named in
      ap (λ xs. is_complete_at xs i below) (sym (tree_of file t it)) ∙ bound.1.0

  -- ---- a declarator that declares an object

  module _ (q : ℕ) (node : Node) (q_at : slice_get t.nodes q ≡ Some node) (declarator : is_declarator node.kind ≡ true) (object : declares_object (slice_index_or typing.declared q Unclear) ≡ true) where
    abbrev own_said : ℕ → Specified
    own_said = (before_in table (cut q typing)).specified

    abbrev own_has : Has
    own_has = has_at table (entry_at typing q).own

    q_at_u : slice_get ns q ≡ Some node
    q_at_u = ap (λ xs. slice_get xs q) (tree_of file t it) ∙ q_at

    pub declares : DeclaresObject ns own_said (entry_at typing q).own.declarator (declaration_of ns u.above.now q)
    declares =
        by_kind node.kind ns own_said (entry_at typing q).own.declarator (entry_at typing q).own.named (entry_at typing q).own.enumerated (declaration_of ns u.above.now q) declarator
        (ap declares_object (sym (ruled file t it q node q_at).declared) ∙ object)

    -- what is asked of it
    pub asked : HoldsAll (whole_faults own_has (before_in table (cut q typing)) u q (Some declares.declaration))
    asked =
        subst (λ o. HoldsAll (whole_faults own_has (before_in table (cut q typing)) u q o)) declares.is
        (declarator_holds node.kind own_has (before_in table (cut q typing)) u q node declarator
        (all u it.checked.checked.texts table typing made_by.is.whole.typing (λ b broken. made_by.sound.constraints b (inl broken)) q node q_at_u))

    own_known : has_value own_has.named ≡ true
    own_known = (types_known file t it q node q_at_u).declared (declarator_names node.kind declarator) declares.declaration declares.is

    -- K6: at file scope, in a block or in a clause its type is complete, unless it is an array of unknown size
    pub complete_there : is_scope (place_of u q) ≡ true → is_open own_has.named ≡ false → is_complete_at ns q own_has.named ≡ true
    complete_there scope closed =
        sized_whole (is_complete_at ns q) own_has.named own_known closed (object_whole own_has (before_in table (cut q typing)) ns q (place_of u q) _ _ _ _ scope declares.plain declares.object asked)

  module _ (i : ℕ) (n : Node) (at : slice_get t.nodes i ≡ Some n) (init : n.kind ≡ kind.InitDeclarator) where
    at_u : slice_get ns i ≡ Some n
    at_u = ap (λ xs. slice_get xs i) (tree_of file t it) ∙ at

    low : i < length t.nodes
    low = slice_get_within t.nodes i n at

    init_at : kind_at t i ≡ kind.InitDeclarator
    init_at = ap kind_if at ∙ init

    -- the node above it is a declaration, where it is one of ordinary identifiers
    parent_kind : (d : ℕ) → above_of t.nodes (length t.nodes) i ≡ Some d → names_ordinary (kind_in ns (Some d)) ≡ true → kind_at t d ≡ kind.Declaration
    parent_kind d q ordinary = by (kind_at t d) refl (known (slice_get t.nodes d) refl (ap (λ xs. names_ordinary (kind_in xs (Some d))) (sym (tree_of file t it)) ∙ ordinary))
      where
        h : IsPartOf t (of_unit file t it) i d
        h = above_some t (of_unit file t it) (length t.nodes) i d q

        here : slice_get (parts_at t d) h.place ≡ Some i
        here = ap (λ o. slice_get (parts_if o) h.place) h.at ∙ h.is

        within : h.place < length (parts_at t d)
        within = slice_get_within (parts_at t d) h.place i here

        stands : Stands (part_in (side_of (kind_at t d)) h.place) kind.InitDeclarator
        stands = subst (Stands (part_in (side_of (kind_at t d)) h.place)) init_at (has_part t (of_unit file t it) d h.place i here).stands

        known : (o : Option Node) → slice_get t.nodes d ≡ o → names_ordinary (kind_in t.nodes (Some d)) ≡ true → names_ordinary (Some (kind_at t d)) ≡ true
        known None e g = absurd (false≢true (sym (ap (λ o. names_ordinary (found_kind o)) e) ∙ g))
        known (Some m) e g = ap (λ o. names_ordinary (Some (kind_if o))) e ∙ sym (ap (λ o. names_ordinary (found_kind o)) e) ∙ g

        by : (k : Kind) → kind_at t d ≡ k → names_ordinary (Some k) ≡ true → k ≡ kind.Declaration
        by kind.Declaration e g = refl
        by kind.FunctionDefinition e g =
            let few = at_most t (of_unit file t it) d kind.FunctionDefinition 3 e refl definition_counts in
            let less = within in
            absurd (no_definition h.place (omega (arith, few, less)) (subst (λ k. Stands (part_in (side_of k) h.place) kind.InitDeclarator) e stands))
        by kind.Parameter e g =
            let few = at_most t (of_unit file t it) d kind.Parameter 2 e refl parameter_counts in
            let less = within in
            absurd (no_parameter h.place (omega (arith, few, less)) (subst (λ k. Stands (part_in (side_of k) h.place) kind.InitDeclarator) e stands))
        by k e g = absurd (false≢true g)

    own_scope : (d : ℕ) → above_of t.nodes (length t.nodes) i ≡ Some d → kind_at t d ≡ kind.Declaration → is_scope (around i).place ≡ true
    own_scope d q of =
        let h = above_some t (of_unit file t it) (length t.nodes) i d q in
        let part = has_part t (of_unit file t it) d h.place i (ap (λ o. slice_get (parts_if o) h.place) h.at ∙ h.is) in
        ap (λ (a : Around). is_scope a.place) (around_at file t it d h.place i part)
        ∙ ap is_scope (declaration_place (kind_at t d) d (around d) of)
        ∙ declaration_scope d (slice_get_within t.nodes d h.parent h.at) of

    -- its declarator
    first : (q : ℕ) × (slice_get n.parts 0 ≡ Some q)
    first = there_is (slice_get n.parts 0) ((shaped file t it).filled i n at_u 0 (ap (λ k. is_filled k 0) init))

    abbrev q : ℕ
    q = first.0

    part : IsPart u i n 0 q
    part = (shaped file t it).parts i n at_u 0 q first.1

    declarator : is_declarator part.own.kind ≡ true
    declarator = sym (ap (λ k. fits k 0 part.own.kind) init) ∙ part.fits

    q_at : slice_get t.nodes q ≡ Some part.own
    q_at = ap (λ xs. slice_get xs q) (sym (tree_of file t it)) ∙ part.at

    -- the declaration of its declarator is the node above it
    declaration_above : (d : ℕ) → declaration_of ns u.above.now q ≡ Some d → above_of t.nodes (length t.nodes) i ≡ Some d
    declaration_above d e =
        sym (is.above_are.each i low) ∙ ap (λ xs. slice_index_or xs i None) (sym made_by.is.whole.tree.above) ∙ by (is_declaration (kind_in ns (slice_index_or u.above.now i None))) (sym inner ∙ e)
      where
        inner : declaration_of ns u.above.now q ≡ declaration_at ns (slice_index_or u.above.now i None)
        inner =
            (λ j. if is_initialised (kind_in ns (part.above j)) then declaration_at ns (above_in u.above.now (part.above j)) else declaration_at ns (part.above j))
            ∙ ap (λ o. if is_initialised (found_kind o) then declaration_at ns (slice_index_or u.above.now i None) else declaration_at ns (Some i)) at_u
            ∙ ap (λ k. if is_initialised (Some k) then declaration_at ns (slice_index_or u.above.now i None) else declaration_at ns (Some i)) init

        by : (b : Bool) → (if b then slice_index_or u.above.now i None else None) ≡ Some d → slice_index_or u.above.now i None ≡ Some d
        by true f = f
        by false f = absurd (cc f)

    -- ---- the object's type

    abbrev said : ℕ → Specified
    said = (before_in table (cut q typing)).specified

    abbrev column : Declared
    column = declared_by (cut i typing).declared (Some q)

    column_is : column ≡ declares_by part.own.kind ns said (entry_at typing q).own.declarator (entry_at typing q).own.named (entry_at typing q).own.enumerated (declaration_of ns u.above.now q)
    column_is = get_or-take i typing.declared q Unclear part.below ∙ (ruled file t it q part.own q_at).declared

    scope : (d : ℕ) → declaration_of ns u.above.now q ≡ Some d → names_ordinary (kind_in ns (Some d)) ≡ true → is_scope (place_of u q) ≡ true
    scope d e ordinary =
        let above = declaration_above d e in
        ap (λ (a : Around). is_scope a.place) part.around
        ∙ ap is_scope (initialised_place n.kind i (slice_index_or u.around.now i outermost) init)
        ∙ ap (λ xs. is_scope (slice_index_or xs i outermost).place) made_by.is.whole.tree.around
        ∙ own_scope d above (parent_kind d above ordinary)

    module _ (p : Planned) (planned : planned_by n.kind (cut i typing).layouts (object_in table (cut i typing) n) n.parts ≡ Some p) where
      object_is : object_of (meaning_by (type_at table) (parameters_in (cut i typing).parameters (Some q)) column) ≡ Some p.type
      object_is =
          ap (λ o. object_of (meaning_by (type_at table) (parameters_in (cut i typing).parameters o) (declared_by (cut i typing).declared o))) (sym first.1)
          ∙ planned_object n.kind (cut i typing).layouts (object_in table (cut i typing) n) n.parts p planned

      both : (declares_object column ≡ true) × (type_at table (entry_at typing q).own.named ≡ p.type)
      both =
          object_type (type_at table) (parameters_in (cut i typing).parameters (Some q)) column (entry_at typing q).own.named p.type
          (subst (Declares (λ row. row ≡ (entry_at typing q).own.named)) (sym column_is)
          (declares_all (λ row. row ≡ (entry_at typing q).own.named) part.own.kind ns said (entry_at typing q).own.declarator (entry_at typing q).own.named (entry_at typing q).own.enumerated (declaration_of ns u.above.now q) refl))
          object_is

      object : declares_object (slice_index_or typing.declared q Unclear) ≡ true
      object = ap declares_object (sym (get_or-take i typing.declared q Unclear part.below)) ∙ both.0

      -- of known size
      pub object_complete : is_open p.type ≡ false → is_complete_at t.nodes i p.type ≡ true
      object_complete known_size =
          let d = declares q part.own q_at declarator object in
          let at_q = subst (λ type. is_complete_at ns q type ≡ true) both.1 (complete_there q part.own q_at declarator object (scope d.declaration d.is d.ordinary) (ap is_open both.1 ∙ known_size)) in
          let below = part.below in
          ap (λ xs. is_complete_at xs i p.type) (sym (tree_of file t it)) ∙ complete_later ns q i (omega (arith, below)) p.type at_q

      -- and so is what the initialiser completes, if it is of known size
      pub completed_complete : (named : Qualified) (most : ℕ) → type_at table (slice_index_or typing.named i 0) ≡ named → named ≡ sized p.type most → is_open named ≡ false → is_complete_at t.nodes i named ≡ true
      completed_complete named most is_named e known_size = by p.type refl
        where
          same : (type : Qualified) → p.type ≡ type → is_open type ≡ false → sized type most ≡ type → is_complete_at t.nodes i named ≡ true
          same type f closed g =
              subst (λ x. is_complete_at t.nodes i x ≡ true) (f ∙ sym g ∙ ap (λ x. sized x most) (sym f) ∙ sym e) (object_complete (ap is_open f ∙ closed))

          of_array : (below : Qualified) → named ≡ array most below → is_complete_at t.nodes i named ≡ true
          of_array below g =
              let complete = element_complete i n at most below (is_named ∙ g) in
              subst (λ x. is_complete_at t.nodes i x ≡ true) (sym g) ((λ j. not ((ap is_open (sym g) ∙ known_size) j) && complete j))

          by : (type : Qualified) → p.type ≡ type → is_complete_at t.nodes i named ≡ true
          by (plain of c v) f = same (plain of c v) f refl refl
          by (to c v below) f = same (to c v below) f refl refl
          by (array m below) f = of_test (m == 0) refl
            where
              of_test : (b : Bool) → (m == 0) ≡ b → is_complete_at t.nodes i named ≡ true
              of_test true q = of_array below (e ∙ ap (λ x. sized x most) f ∙ ap (λ c. array (if c then most else m) below) q)
              of_test false q = same (array m below) f q (ap (λ c. array (if c then most else m) below) q)
