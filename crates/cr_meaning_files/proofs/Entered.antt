-- An automatic object is declared by a declaration in a block or a `for`, or by a parameter of a definition (C11 6.2.4p5, 6.9.1p9).
use Rattle.std.proofs.Common.{◌≡◌, ℕ, zero, suc, ◌+◌, ◌<◌, ◌≤◌, ◌==◌, ◌⊎◌, inl, inr, Bool, true, false, ◌||◌, not, List, [], ◌∷◌, ◌++◌, Option, None, Some, drop, length, slice_get, slice_index_or, refl, sym, ap, subst, ◌∙◌, arith, if◌then◌else◌}
use Rattle.std.specs.Prelude.{option_to_list}
use Rattle.std.specs.List.{list_any, flat_map}
use Rattle.std.specs.Option.{is_some}
use Rattle.std.proofs.lemmas.Bool.{false≢true, and_from, cases_lt, lt-ltb, or_left, or_right, eqb-true, eq-eqb}
use Rattle.std.proofs.lemmas.Option.{slice_get_within, same_Some}
use Rattle.cr_syntax.specs.declared.node.Kind.{Kind}
use Rattle.cr_syntax.specs.declared.node.Kind.TheVariants as kind
use Rattle.cr_syntax.specs.declared.node.Node.{Node}
use Rattle.cr_syntax.specs.Tables.{rule_of, side_of}
use Rattle.cr_syntax_nodes.proofs.Numbers.{some_at}
use Rattle.cr_scopes_events.specs.Values.{before}
use Rattle.cr_scopes_events.specs.declared.declarator.Declarator.{Declarator as Named}
use Rattle.cr_scopes_events.specs.Declarators.{nowhere, declared_by as names_by, declared_if, declarator_of}
use Rattle.cr_scopes_events.specs.Scripts as scripts
use Rattle.cr_scopes_events.proofs.Descents.{declarator_ruled}
use Rattle.cr_scopes_linkage.specs.Shared.Origins.{is_external}
use Rattle.cr_check_expressions.specs.Known.{spelling_of}
use Rattle.cr_check_expressions.specs.Forms.{form_of}
use Rattle.cr_check_declarators.specs.declared.declarator.Declarator.{Declarator}
use Rattle.cr_check_declarators.specs.declared.enumerators.Enumerated.{Enumerated}
use Rattle.cr_check_declarators.specs.Declarators.{name_alone, function_by, is_hole_type}
use Rattle.cr_check_declarations.specs.Before.{kind_in, kind_if as kind_of_node, specified_in}
use Rattle.cr_check_declarations.specs.Declarators.{declarator_by, inner_derived}
use Rattle.cr_check_declarations.specs.Before.{declarator_in}
use Rattle.cr_check_declarations.specs.Named.{class_of, is_typedef, is_initialised, is_declarator, is_declaration as is_declaration_kind, declares_name, names_ordinary, ordinary_by, ordinary_of, specifiers_in, declared_by as declares_by, above_in, declaration_at, declaration_of}
use Rattle.cr_check_declarations.specs.Faults.{has_at, is_specifier, whole_faults}
use Rattle.cr_check_unit.specs.Typing.{cut, entry_at, before_in}
use Rattle.cr_meaning_typing.specs.Typed.Laws.{HoldsAll}
use Rattle.cr_meaning_typing.specs.Typed.Typing.{is_expression}
use Rattle.cr_meaning_types.specs.Known.Shaped.{fits}
use Rattle.cr_meaning_types.proofs.KnownLemmas.Declaring.{declarator_holds, in_place}
use Rattle.cr_meaning_types.proofs.KnownLemmas.Reading.{row}
use Rattle.cr_meaning_objects.proofs.ChainedLemmas.Known.{definitions}
use Rattle.cr_meaning_objects.proofs.ObjectsLemmas.Alone.{value_made}
use Rattle.cr_meaning_objects.proofs.ObjectsLemmas.Declaring.{IsLast, last_there}
use Rattle.cr_meaning_objects.proofs.ObjectsLemmas.Statics.{no_constant, object_if, only_initialised, last_below}
use Rattle.cr_meaning_objects.proofs.ParametersLemmas.Parameters.{parameter_place as place_parameter}
use Rattle.cr_meaning_files.proofs.Lists.{list_counts}
use Rattle.cr_meaning_files.proofs.Parameters.{found_below, unit_parts, parameters_are, named_locally}
use Rattle.cr_meaning_files.proofs.Lasting.{static_seen}
use Rattle.cr_meaning_files.proofs.Tables.{initialiser_there}
use Rattle.cr_meaning_references.proofs.TreesLemmas.Tree.{at_most}
use Rattle.cr_meaning_files.proofs.Filling.{ruled}
use Rattle.cr_meaning_files.proofs.Mains.{body_only}
use Rattle.cr_meaning_files.proofs.Results.{all}
use Rattle.cr_meaning_files.proofs.Early.{declarator_plain, never}
use Rattle.cr_scopes_bindings.specs.Last.{last_with}
use Rattle.cr_scopes_bindings.specs.Nodes.{name_at}
use Rattle.cr_check_enclosing.specs.declared.context.Place.{Place}
use Rattle.cr_check_enclosing.specs.declared.context.Place.TheVariants as place
use Rattle.cr_check_enclosing.specs.declared.context.Around.{Around}
use Rattle.cr_check_enclosing.specs.Above.{above_of}
use Rattle.cr_check_enclosing.specs.Around.{outermost, inside, below}
use Rattle.cr_check_expressions.specs.declared.known.Declared.{Declared}
use Rattle.cr_check_expressions.specs.declared.known.Declared.TheVariants.{Object, Function, Unclear}
use Rattle.cr_check_declarators.specs.declared.words.Specified.{Specified}
use Rattle.cr_check_declarators.specs.Specifiers.{nothing}
use Rattle.cr_check_initialised.specs.Durations.{is_kept, is_static as is_static_by_words}
use Rattle.cr_typed.specs.declared.typed.Typed.{Typed}
use Rattle.cr_typed.specs.declared.typed.Duration.{Duration}
use Rattle.cr_typed.specs.declared.typed.Duration.TheVariants as duration
use Rattle.cr_typed_columns.specs.Reading.{parsed_of, part_of, entry_of}
use Rattle.cr_typed_columns.specs.Functions as functions
use Rattle.cr_typed_columns.specs.Entities as entities
use Rattle.cr_typed_columns.specs.Names as names
use Rattle.cr_meaning_operations.specs.Operations.{kind_if, kind_at, parts_if, parts_at, part_at, is_name, name_by, name_of, entity_of, is_automatic_by, is_static_by, is_automatic, is_declaration, declarators_of}
use Rattle.cr_meaning_declarations.specs.Units.Owned.{declared_by, is_declared, declares, owns}
use Rattle.cr_meaning_declarations.proofs.UnitsLemmas.Handing.{owning}
use Rattle.cr_meaning_declarations.proofs.NamesLemmas.Leaves.{is_named, named_once}
use Rattle.cr_meaning_declarations.proofs.NamesLemmas.Parents.{IsPartOf, part_below, above_is, above_some}
use Rattle.cr_meaning_declarations.specs.Declared.Files.{IsUnitOfFile}
use Rattle.cr_meaning_declarations.proofs.DeclaredLemmas.Bodies.{IsThere, listed_at, last_has, name_there, node_of}
use Rattle.cr_meaning_declarations.proofs.DeclaredLemmas.Once as declared
use Rattle.cr_meaning_declarations.proofs.DeclaredLemmas.Once.{IsAutomatic, automatic_at, token_is, place_declaration, place_init}
use Rattle.cr_meaning_declarations.proofs.DeclaredLemmas.Files.{has_unit}
use Rattle.cr_meaning_declarations.proofs.LastingLemmas.Begun.{one_of}
use Rattle.cr_meaning_typing.specs.Judged.Judged.{seen_in, source_of, scene_of, IsJudged}
use Rattle.cr_meaning_typing.proofs.JudgedLemmas.Judged.{judged}
use Rattle.cr_meaning_files.specs.Reached.{is_declaring, is_definition, is_list}
use Rattle.cr_meaning_files.specs.Seen.{is_one_of, sees}
use Rattle.cr_meaning_files.specs.Local.{declaration_if, declaration_by, declaration_around, is_held_by, is_local, is_parameter_below, is_parameter, is_own_parameter, is_object_by, is_entered, is_early}
use Rattle.cr_meaning_references.proofs.TreesLemmas.Grammar.{Stands, part_in}
use Rattle.cr_meaning_references.proofs.TreesLemmas.Tree.{has_part}
use Rattle.cr_meaning_references.proofs.TreesLemmas.Shaped.{shaped}
use Rattle.cr_meaning_references.proofs.TreesLemmas.Fitting.{initialised_counts as init_counts}
use Rattle.cr_meaning_files.proofs.Laid.{around_at}
use Rattle.cr_meaning_files.proofs.Sight.{any_filtered, drop_first, specifiers_declare_nothing}
use Rattle.cr_meaning_files.proofs.Planned.{is_around, is_naming, is_holding, around_holding, naming_is, HasFirst, first_of, named_at, init_named, key_name}
use Rattle.cr_meaning_files.proofs.Whole.{definition_counts as definition_most, parameter_counts as parameter_most}
use Rattle.cr_meaning_files.proofs.Functions.{begins_function}
use Rattle.cr_meaning_files.proofs.Named.{only_definition}
use Rattle.cr_scopes_visibility.proofs.AloneLemmas.First.{number_same}
use Rattle.cr_meaning_objects.proofs.CalledLemmas.Fitting.{function_holds}

-- ---- durations (6.2.4)

abbrev is_parameter_place : Place → Bool
is_parameter_place place.Parameter = true
is_parameter_place p = false

record IsAutomaticBy (d : Declared) (p : Place) (own static : Bool) : Type 0 where
  row : ℕ
  register : Bool
  object : d ≡ Object row register
  either : ((p ≡ place.Parameter) × (own ≡ true)) ⊎ ((static ≡ false) × (is_parameter_place p ≡ false))

automatic_by : (d : Declared) (p : Place) (own static kept : Bool) → is_automatic_by (names.by_declared d p own static kept) ≡ true → IsAutomaticBy d p own static
automatic_by (Object row register) place.Parameter true static kept h = record { row = row; register = register; object = refl; either = inl (refl, refl) }
automatic_by (Object row register) place.Parameter false static kept h = absurd (false≢true h)
automatic_by (Object row register) p own true true h = absurd (false≢true h)
automatic_by (Object row register) p own true false h = absurd (false≢true h)
automatic_by (Object row register) p own false kept h = record { row = row; register = register; object = refl; either = inr (refl, refl) }
automatic_by d p own static kept h = absurd (false≢true h)

-- ---- kinds

around_plain : (k : Kind) → is_around k ≡ true → is_declaration k ≡ false
around_plain kind.Declaration h = absurd (false≢true h)
around_plain k h = refl

-- ---- what declares an object

by_specifiers : (nodes : List Node) (saying : ℕ → Specified) (own : Declarator) (row : ℕ) (o : Option ℕ) (x : ℕ) (register : Bool) → ordinary_by nodes saying own row o ≡ Object x register → own.function ≡ None
by_specifiers nodes saying own row None x register h = let never : Unclear ≡ Object x register = h in absurd cc
by_specifiers nodes saying own row (Some s) x register h = (value_made (is_typedef (class_of (saying s).storage)) nodes (class_of (saying s).storage) own.function row x register h).1

object_declares : (k : Kind) (nodes : List Node) (saying : ℕ → Specified) (own : Declarator) (row : ℕ) (e : Option Enumerated) (d : Option ℕ) (x : ℕ) (register : Bool) → declares_by k nodes saying own row e d ≡ Object x register
    → (names_ordinary (kind_in nodes d) ≡ true) × (own.function ≡ None)
object_declares kind.Enumerator nodes saying own row e d x register h = absurd (no_constant e x register h)
object_declares k nodes saying own row e d x register h =
    let named = object_if (declares_name k) (ordinary_of nodes saying own row d) x register h in
    let ordinary = object_if (names_ordinary (kind_in nodes d)) (ordinary_by nodes saying own row (specifiers_in nodes d)) x register named.1 in
    (ordinary.0, by_specifiers nodes saying own row (specifiers_in nodes d) x register ordinary.1)

-- a function's declarator declares one, or is misplaced
function_never : (o : Option ℕ) (bare : Bool) (inner : Declarator) (node : ℕ) (empty : Bool) → (function_by o bare inner node empty).function ≡ None → (function_by o bare inner node empty).misplaced ≡ false → ⊥
function_never None true inner node empty f m = let never : Some node ≡ None = f in cc
function_never None false inner node empty f m = false≢true (sym m)
function_never (Some other) bare inner node empty f m = false≢true (sym m)

function_no_object : (o : Declared) (row x : ℕ) (more register : Bool) → o ≡ Function row more → o ≡ Object x register → ⊥
function_no_object o row x more register e h = let other : Function row more ≡ Object x register = sym e ∙ h in cc

-- of automatic or of static duration
either_duration : (d : Duration) → is_object_by d ≡ true → (is_automatic_by d ≡ true) ⊎ (is_static_by d ≡ true)
either_duration duration.NoObject h = absurd (false≢true h)
either_duration duration.Automatic h = inl refl
either_duration duration.Static h = inr refl

no_specifier : (k : Kind) → (not (is_declaring k) || not (is_specifier k)) ≡ true
no_specifier kind.InitDeclarator = refl
no_specifier k = refl

naming_declares : (k : Kind) → is_naming k ≡ true → (is_declaring k ≡ true) × (is_declarator k ≡ true)
naming_declares kind.NameDeclarator h = (refl, refl)
naming_declares kind.GroupDeclarator h = (refl, refl)
naming_declares kind.PointerDeclarator h = (refl, refl)
naming_declares kind.ArrayDeclarator h = (refl, refl)
naming_declares kind.FunctionDeclarator h = (refl, refl)
naming_declares k h = absurd (false≢true h)

no_block : (k : Kind) → is_declaring k ≡ true → k ≡ kind.Compound → ⊥
no_block kind.Compound h e = false≢true h
no_block k h e = false≢true (ap is_declaring (sym e) ∙ h)

ordinary_kind : (k : Kind) → names_ordinary (Some k) ≡ true → (k ≡ kind.Declaration) ⊎ ((k ≡ kind.FunctionDefinition) ⊎ (k ≡ kind.Parameter))
ordinary_kind kind.Declaration h = inl refl
ordinary_kind kind.FunctionDefinition h = inr (inl refl)
ordinary_kind kind.Parameter h = inr (inr refl)
ordinary_kind k h = absurd (false≢true h)

keeps_function : (k : Kind) (i : ℕ) (a : Around) → is_definition k ≡ false → (inside k i a).function ≡ a.function
unfolding inside
keeps_function kind.FunctionDefinition i a h = absurd (false≢true (sym h))
keeps_function k i a h = refl

list_plain : (k : Kind) → names.is_list (Some k) ≡ true → is_declarator k ≡ false
list_plain kind.Parameters h = refl
list_plain kind.VariadicParameters h = refl
list_plain k h = absurd (false≢true h)

list_parts : (k : Kind) → names.is_list (Some k) ≡ true → (ps : List ℕ) (x : ℕ) → functions.listed_by (Some k) ps x ≡ ps
list_parts kind.Parameters h ps x = refl
list_parts kind.VariadicParameters h ps x = refl
list_parts k h ps x = absurd (false≢true h)

any_left : (test : ℕ → Bool) (xs ys : List ℕ) → list_any test xs ≡ true → list_any test (xs ++ ys) ≡ true
any_left test [] ys h = absurd (false≢true h)
any_left test (x ∷ xs) ys h = elim (one_of (test x) (list_any test xs) h) [
  | inl own ↦ or_left (test x) (list_any test (xs ++ ys)) own
  | inr rest ↦ or_right (test x) (list_any test (xs ++ ys)) (any_left test xs ys rest)
]

any_right : (test : ℕ → Bool) (xs ys : List ℕ) → list_any test ys ≡ true → list_any test (xs ++ ys) ≡ true
any_right test [] ys h = h
any_right test (x ∷ xs) ys h = or_right (test x) (list_any test (xs ++ ys)) (any_right test xs ys h)

any_in : (g : ℕ → List ℕ) (e : ℕ) (xs : List ℕ) (k p : ℕ) → slice_get xs k ≡ Some p → is_one_of (g p) e ≡ true → is_one_of (flat_map g xs) e ≡ true
any_in g e [] k p at h = let other : None ≡ Some p = at in absurd cc
any_in g e (x ∷ xs) zero p at h = any_left (λ own. own == e) (g x) (flat_map g xs) (ap (λ y. is_one_of (g y) e) (same_Some x p at) ∙ h)
any_in g e (x ∷ xs) (suc k) p at h = any_right (λ own. own == e) (g x) (flat_map g xs) (any_in g e xs k p at h)

module _ (file : List ℕ) (t : Typed) (it : IsUnitOfFile file t) where
  open it use {made_by, typing, shapes, tree, columns}
  open has_unit file t it use {unit as u, nodes_are as same_nodes, tree_nodes, order}

  abbrev is : IsJudged t (seen_in it.checked.checked) (source_of made_by.tree it.checked.checked) (scene_of made_by.tree it.checked.checked) it.checked.checked.surroundings.above it.checked.checked.surroundings.around
  is = judged file it.unit it.names it.checked.checked t made_by

  abbrev said : ℕ → Specified
  said p = slice_index_or typing.specified p nothing

  abbrev above : ℕ → Option ℕ
  above a = above_of t.nodes (length t.nodes) a

  abbrev around : ℕ → Around
  around i = slice_index_or it.checked.checked.surroundings.around i outermost

  -- ---- parts, and the function around a node

  unit_part : (i k p : ℕ) → slice_get (parts_at t i) k ≡ Some p → part_of t.nodes (Some i) k ≡ Some p
  unit_part i k p g = by (slice_get t.nodes i) refl
    where
      by : (o : Option Node) → slice_get t.nodes i ≡ o → part_of t.nodes (Some i) k ≡ Some p
      by None at = ap (λ o. slice_get (scripts.parts_if o) k) at ∙ sym (ap (λ o. slice_get (parts_if o) k) at) ∙ g
      by (Some n) at = ap (λ o. slice_get (scripts.parts_if o) k) at ∙ sym (ap (λ o. slice_get (parts_if o) k) at) ∙ g

  function_kind : (m x : ℕ) → length t.nodes ≤ m + x → x < length t.nodes → (f : ℕ) → (around x).function ≡ Some f → is_definition (kind_at t f) ≡ true
  function_kind zero x high low f e = absurd (omega (arith, high, low))
  function_kind (suc m) x high low f e = by (above x) refl (λ y less few g. function_kind m y (omega (arith, high, less)) few f g)
    where
      by : (o : Option ℕ) → above x ≡ o → ((y : ℕ) → x < y → y < length t.nodes → (around y).function ≡ Some f → is_definition (kind_at t f) ≡ true) → is_definition (kind_at t f) ≡ true
      by None q rest =
          let none : None ≡ Some f = sym (ap (λ (a : Around). a.function) (is.around_are.each x low ∙ ap (below t.nodes (λ p. slice_index_or it.checked.checked.surroundings.around p outermost) x) (is.above_are.each x low ∙ q))) ∙ e in
          absurd cc
      by (Some y) q rest = at (is_definition (kind_at t y)) refl
        where
          h : IsPartOf t u x y
          h = above_some t u (length t.nodes) x y q

          own : (around x).function ≡ (inside (kind_at t y) y (around y)).function
          own = ap (λ (a : Around). a.function) (around_at file t it y h.place x (has_part t u y h.place x (ap (λ o. slice_get (parts_if o) h.place) h.at ∙ h.is)))

          at : (b : Bool) → is_definition (kind_at t y) ≡ b → is_definition (kind_at t f) ≡ true
          at true g = ap (λ z. is_definition (kind_at t z)) (sym (same_Some y f (sym (begins_function (kind_at t y) y (around y) g) ∙ sym own ∙ e))) ∙ g
          at false g = rest y (part_below t u x y h) (slice_get_within t.nodes y h.parent h.at) (sym (keeps_function (kind_at t y) y (around y) g) ∙ sym own ∙ e)

  below_there : (m f e : ℕ) → f < m → is_one_of (slice_index_or t.parameters f []) e ≡ true → is_parameter_below m t e ≡ true
  below_there zero f e low h = absurd (omega (arith, low))
  below_there (suc m) f e low h = elim (cases_lt f m) [
    | inl less ↦ or_right (is_one_of (slice_index_or t.parameters m []) e) (is_parameter_below m t e) (below_there m f e less h)
    | inr ge ↦
        (let same : m ≡ f = omega (arith, low, ge) in
        or_left (is_one_of (slice_index_or t.parameters m []) e) (is_parameter_below m t e) (ap (λ x. is_one_of (slice_index_or t.parameters x []) e) same ∙ h))
  ]

  -- ---- the declaration around a node

  -- a number of steps that is enough
  enough : (m n a : ℕ) → length t.nodes < m + a → length t.nodes < n + a → a ≤ length t.nodes → declaration_by m t a ≡ declaration_by n t a
  enough zero n a x y few = absurd (omega (arith, x, few))
  enough (suc m) zero a x y few = absurd (omega (arith, y, few))
  enough (suc m) (suc n) a x y few = by (above a) refl (λ i low less. enough m n i (omega (arith, x, low)) (omega (arith, y, low)) (omega (arith, less)))
    where
      by : (o : Option ℕ) → above a ≡ o → ((i : ℕ) → a < i → i < length t.nodes → declaration_by m t i ≡ declaration_by n t i) → declaration_if t (declaration_by m t) (above a) ≡ declaration_if t (declaration_by n t) (above a)
      by None e rest = ap (declaration_if t (declaration_by m t)) e ∙ sym (ap (declaration_if t (declaration_by n t)) e)
      by (Some i) e rest =
          let p = above_some t u (length t.nodes) a i e in
          ap (declaration_if t (declaration_by m t)) e
          ∙ ap (λ r. if is_declaration (kind_at t i) then Some i else r) (rest i (part_below t u a i p) (slice_get_within t.nodes i p.parent p.at))
          ∙ sym (ap (declaration_if t (declaration_by n t)) e)

  around_part : (x y : ℕ) → IsPartOf t u x y → declaration_around t x ≡ (if is_declaration (kind_at t y) then Some y else declaration_around t y)
  around_part x y p =
      let low = part_below t u x y p in
      let few = slice_get_within t.nodes y p.parent p.at in
      ap (declaration_if t (declaration_by (length t.nodes) t)) (above_is t u x y p)
      ∙ ap (λ r. if is_declaration (kind_at t y) then Some y else r) (enough (length t.nodes) (suc (length t.nodes)) y (omega (arith, low)) (omega (arith, low)) (omega (arith, few)))

  -- that of a name is that of its declarator
  around_name : (m a : ℕ) (n : Node) → a < m → slice_get t.nodes a ≡ Some n → is_naming n.kind ≡ true → declaration_around t (name_by m t a) ≡ declaration_around t a
  around_name zero a n low at h = absurd (omega (arith, low))
  around_name (suc m) a n low at h = by (is_name n.kind) refl (λ b x less f g. around_name m b x (omega (arith, low, less)) f g)
    where
      kind_is : kind_at t a ≡ n.kind
      kind_is = ap kind_if at

      by : (b : Bool) → is_name n.kind ≡ b → ((b : ℕ) (x : Node) → b < a → slice_get t.nodes b ≡ Some x → is_naming x.kind ≡ true → declaration_around t (name_by m t b) ≡ declaration_around t b)
          → declaration_around t (name_by (suc m) t a) ≡ declaration_around t a
      by true e rest = ap (declaration_around t) (ap (λ k. if is_name k then a else name_by m t (part_at t a 0)) kind_is ∙ ap (λ b. if b then a else name_by m t (part_at t a 0)) e)
      by false e rest =
          let around = naming_is n.kind h e in
          let f = first_of file t it a (ap is_holding kind_is ∙ around_holding n.kind around) in
          let next : name_by (suc m) t a ≡ name_by m t f.inner = ap (λ k. if is_name k then a else name_by m t (part_at t a 0)) kind_is ∙ ap (λ b. if b then a else name_by m t (part_at t a 0)) e ∙ ap (name_by m t) f.same in
          let p : IsPartOf t u f.inner a = record { parent = n; at = at; place = 0; is = sym (ap (λ o. slice_get (parts_if o) 0) at) ∙ f.is } in
          ap (declaration_around t) next ∙ rest f.inner f.node f.below f.at f.naming ∙ around_part f.inner a p
          ∙ ap (λ b. if b then Some a else declaration_around t a) (ap is_declaration kind_is ∙ around_plain n.kind around)

  -- ---- the whole declarator of an automatic object

  module _ (e : ℕ) (automatic : is_automatic_by (slice_index_or t.durations e duration.NoObject) ≡ true) where
    own : IsAutomatic file t it e
    own = automatic_at file t it e automatic

    record HasWhole : Type 0 where
      whole : ℕ
      node : Node
      at : slice_get t.nodes whole ≡ Some node
      named : (declarator_of t.nodes whole).name ≡ Some own.node.first
      by : IsAutomaticBy (slice_index_or typing.declared whole Unclear) (around whole).place (names.is_own it.unit.nodes columns (Some whole) (around whole).function) (is_static_by_words tree said (Some whole))

    column : entities.whole_of it.unit.nodes columns e ≡ last_with (name_at t.nodes) (length t.nodes) own.node.first
    column =
        ap (entry_of columns.declarers.now None) (token_is file t it e own.node own.at own.is own.automatic) ∙ ap (λ column. slice_index_or column own.node.first None) made_by.are.declarers
        ∙ made_by.is.surroundings.bindings.declarers.each own.node.first few ∙ ap (λ ns. last_with (name_at ns) (length ns) own.node.first) same_nodes
      where
        few : own.node.first < length it.unit.tokens.list.items
        few =
            let w = u.within e own.node own.at in
            let from = w.0 in
            let high = w.1 in
            let tokens_are : length t.tokens ≡ length it.unit.tokens.list.items = ap length made_by.elaborated.tokens_are in
            omega (arith, from, high, tokens_are)

    has_whole : HasWhole
    has_whole = by (entities.whole_of it.unit.nodes columns e) refl own.automatic
      where
        kept : Bool
        kept = entities.is_kept it.unit.nodes columns (entities.entity_of it.unit.nodes columns.names.now e)

        by : (o : Option ℕ) → entities.whole_of it.unit.nodes columns e ≡ o
            → is_automatic_by (names.by_declared (entities.declared_of columns o) (names.around_of columns o).place (names.is_own it.unit.nodes columns o (names.around_of columns o).function) (entry_of columns.statics.now false o)
            (entities.is_kept it.unit.nodes columns (entities.entity_of it.unit.nodes columns.names.now e))) ≡ true → HasWhole
        by None q h = absurd (false≢true h)
        by (Some w) q h =
            let found : last_with (name_at t.nodes) (length t.nodes) own.node.first ≡ Some w = sym column ∙ q in
            let low = last_below (name_at t.nodes) (length t.nodes) own.node.first w found in
            let o = some_at t.nodes w low in
            let key = number_same (name_at t.nodes w) own.node.first (last_has (name_at t.nodes) (length t.nodes) own.node.first w found) in
            record {
              whole = w;
              node = o.0;
              at = o.1;
              named = key_name file t it e own.node own.at own.is w o.0 o.1 key;
              by = automatic_by (slice_index_or typing.declared w Unclear) (around w).place (names.is_own it.unit.nodes columns (Some w) (around w).function) (is_static_by_words tree said (Some w)) kept
                  (sym (ap is_automatic_by (moved w low)) ∙ h);
            }
          where
            moved : (w : ℕ) → w < length t.nodes
                → names.by_declared (slice_index_or columns.declared.now w Unclear) (slice_index_or columns.around.now w outermost).place (names.is_own it.unit.nodes columns (Some w) (slice_index_or columns.around.now w outermost).function) (slice_index_or columns.statics.now w false) kept
                ≡ names.by_declared (slice_index_or typing.declared w Unclear) (around w).place (names.is_own it.unit.nodes columns (Some w) (around w).function) (is_static_by_words tree said (Some w)) kept
            moved w low =
                ap (λ ds. names.by_declared (slice_index_or ds w Unclear) (slice_index_or columns.around.now w outermost).place (names.is_own it.unit.nodes columns (Some w) (slice_index_or columns.around.now w outermost).function) (slice_index_or columns.statics.now w false) kept) made_by.are.declared
                ∙ ap (λ column. names.by_declared (slice_index_or typing.declared w Unclear) (slice_index_or column w outermost).place (names.is_own it.unit.nodes columns (Some w) (slice_index_or column w outermost).function) (slice_index_or columns.statics.now w false) kept) made_by.are.around
                ∙ ap (λ s. names.by_declared (slice_index_or typing.declared w Unclear) (around w).place (names.is_own it.unit.nodes columns (Some w) (around w).function) s kept)
                (ap (λ column. slice_index_or column w false) made_by.are.statics
                ∙ listed_at (λ i. is_static_by_words tree said (Some i)) (length tree.nodes.now) w false (subst (λ ns. w < length ns) (sym tree_nodes) low))

    -- a declarator of the name has it as its own
    same_name : (x : ℕ) (n : Node) → slice_get t.nodes x ≡ Some n → n.kind ≡ kind.NameDeclarator → n.first ≡ own.node.first → x ≡ e
    same_name x n at is first =
        let within = (u.within e own.node own.at).0 in
        named_once t u order x e n own.node n.first at is refl own.at (ap is_named own.is) (omega (arith, first)) (omega (arith, first)) (omega (arith, first, within))

    -- ---- in a declaration

    module _ (d p : ℕ) (h : IsPartOf t u p d) (is : kind_at t d ≡ kind.Declaration) (declaring : is_declaring (kind_at t p) ≡ true) (listed : (kind_at t p ≡ kind.FunctionDeclarator) → ⊥) (name : name_of t p ≡ e) where
      is_own_name : is_automatic t p ≡ true
      is_own_name = ap (λ x. is_automatic_by (slice_index_or t.durations x duration.NoObject)) name ∙ automatic

      declares_it : declares t e p ≡ true
      declares_it = by (kind_at t p) refl declaring
        where
          by : (k : Kind) → kind_at t p ≡ k → is_declaring k ≡ true → is_declared (declared_by t p k) e ≡ true
          by kind.InitDeclarator q g = eq-eqb (entity_of t (name_of t p)) e (declared.once file t it p is_own_name ∙ name)
          by kind.NameDeclarator q g = eq-eqb p e (sym (name_self (length t.nodes)) ∙ name)
            where
              name_self : (m : ℕ) → name_by m t p ≡ p
              name_self zero = refl
              name_self (suc m) = ap (λ k. if is_name k then p else name_by m t (part_at t p 0)) q
          by kind.PointerDeclarator q g = eq-eqb (name_of t p) e name
          by kind.GroupDeclarator q g = eq-eqb (name_of t p) e name
          by kind.ArrayDeclarator q g = eq-eqb (name_of t p) e name
          by kind.FunctionDeclarator q g = absurd (listed q)
          by k q g = absurd (false≢true g)

      holds_it : owns t d e ≡ true
      holds_it = owning t d e kind.Declaration is (of_place h.place (ap (λ o. slice_get (parts_if o) h.place) h.at ∙ h.is))
        where
          of_place : (k : ℕ) → slice_get (parts_at t d) k ≡ Some p → list_any (declares t e) (declarators_of t d) ≡ true
          of_place zero g =
              let first = subst (λ c. Stands (part_in (side_of c) 0) (kind_at t p)) is (has_part t u d 0 p g).stands in
              absurd (false≢true (sym (specifiers_declare_nothing (kind_at t p) first) ∙ declaring))
          of_place (suc m) g = any_filtered (is_automatic t) (declares t e) (drop 1 (parts_at t d)) m p (drop_first (parts_at t d) m p g) is_own_name declares_it

    -- ---- the declaration that has it

    abbrev w : HasWhole
    w = has_whole

    naming : is_naming w.node.kind ≡ true
    naming = by w.node.kind (ap (λ o. (declared_if o (before nowhere w.whole (declarator_of t.nodes)) w.whole).name) (sym w.at) ∙ ap (λ (d : Named). d.name) (sym (declarator_ruled t.nodes w.whole)) ∙ w.named)
      where
        by : (k : Kind) → (names_by k (before nowhere w.whole (declarator_of t.nodes)) w.whole w.node).name ≡ Some own.node.first → is_naming k ≡ true
        by kind.NameDeclarator h = refl
        by kind.GroupDeclarator h = refl
        by kind.PointerDeclarator h = refl
        by kind.ArrayDeclarator h = refl
        by kind.FunctionDeclarator h = refl
        by k h = let never : None ≡ Some own.node.first = h in absurd cc

    low : w.whole < length t.nodes
    low = slice_get_within t.nodes w.whole w.node w.at

    at_u : slice_get tree.nodes.now w.whole ≡ Some w.node
    at_u = ap (λ ns. slice_get ns w.whole) tree_nodes ∙ w.at

    object_is : (names_ordinary (kind_in tree.nodes.now (declaration_of tree.nodes.now tree.above.now w.whole)) ≡ true) × ((entry_at typing w.whole).own.declarator.function ≡ None)
    object_is =
        object_declares w.node.kind tree.nodes.now (before_in shapes (cut w.whole typing)).specified (entry_at typing w.whole).own.declarator (entry_at typing w.whole).own.named (entry_at typing w.whole).own.enumerated
        (declaration_of tree.nodes.now tree.above.now w.whole) w.by.row w.by.register (sym (ruled file t it w.whole w.node w.at).declared ∙ w.by.object)

    record HasDeclaration : Type 0 where
      declaration : ℕ
      holder : ℕ
      part : IsPartOf t u holder declaration
      direct : (holder ≡ w.whole) ⊎ ((kind_at t holder ≡ kind.InitDeclarator) × IsPartOf t u w.whole holder)
      of : declaration_of tree.nodes.now tree.above.now w.whole ≡ Some declaration
      ordinary : names_ordinary (Some (kind_at t declaration)) ≡ true

    above_column : (x : ℕ) → x < length t.nodes → slice_index_or tree.above.now x None ≡ above x
    above_column x few = ap (λ xs. slice_index_or xs x None) made_by.is.whole.tree.above ∙ is.above_are.each x few

    kind_there : (x : ℕ) (n : Node) → slice_get t.nodes x ≡ Some n → kind_in tree.nodes.now (Some x) ≡ Some (kind_at t x)
    kind_there x n at = ap (λ ns. kind_in ns (Some x)) tree_nodes ∙ ap kind_of_node at ∙ ap Some (sym (ap kind_if at))

    abbrev ns : List Node
    ns = tree.nodes.now

    abbrev whole_declaration : Option ℕ → Option ℕ
    whole_declaration o = if is_initialised (kind_in ns o) then declaration_at ns (above_in tree.above.now o) else declaration_at ns o

    declaration_is : HasDeclaration
    declaration_is = by (slice_index_or tree.above.now w.whole None) refl
      where
        ends : (y p : ℕ) → IsPartOf t u p y → (p ≡ w.whole) ⊎ ((kind_at t p ≡ kind.InitDeclarator) × IsPartOf t u w.whole p) → declaration_of ns tree.above.now w.whole ≡ declaration_at ns (Some y) → HasDeclaration
        ends y p part direct same = at (is_declaration_kind (kind_in ns (Some y))) refl
          where
            at : (b : Bool) → is_declaration_kind (kind_in ns (Some y)) ≡ b → HasDeclaration
            at true q =
                let of : declaration_of ns tree.above.now w.whole ≡ Some y = same ∙ ap (λ b. if b then Some y else None) q in
                record { declaration = y; holder = p; part = part; direct = direct; of = of; ordinary = ap names_ordinary (sym (kind_there y part.parent part.at)) ∙ ap (λ o. names_ordinary (kind_in ns o)) (sym of) ∙ object_is.0 }
            at false q =
                let none : declaration_of ns tree.above.now w.whole ≡ None = same ∙ ap (λ b. if b then Some y else None) q in
                absurd (false≢true (ap (λ o. names_ordinary (kind_in ns o)) (sym none) ∙ object_is.0))

        nothing_above : declaration_of ns tree.above.now w.whole ≡ None → HasDeclaration
        nothing_above none = absurd (false≢true (ap (λ o. names_ordinary (kind_in ns o)) (sym none) ∙ object_is.0))

        by : (o : Option ℕ) → slice_index_or tree.above.now w.whole None ≡ o → HasDeclaration
        by None q = nothing_above (ap whole_declaration q)
        by (Some x) q = initial (is_initialised (kind_in ns (Some x))) refl
          where
            h : IsPartOf t u w.whole x
            h = above_some t u (length t.nodes) w.whole x (sym (above_column w.whole low) ∙ q)

            few : x < length t.nodes
            few = slice_get_within t.nodes x h.parent h.at

            initial : (b : Bool) → is_initialised (kind_in ns (Some x)) ≡ b → HasDeclaration
            initial false f = ends x w.whole h (inl refl) (ap whole_declaration q ∙ ap (λ b. if b then declaration_at ns (above_in tree.above.now (Some x)) else declaration_at ns (Some x)) f)
            initial true f = over (slice_index_or tree.above.now x None) refl
              where
                same : declaration_of ns tree.above.now w.whole ≡ declaration_at ns (slice_index_or tree.above.now x None)
                same = ap whole_declaration q ∙ ap (λ b. if b then declaration_at ns (above_in tree.above.now (Some x)) else declaration_at ns (Some x)) f

                kind_is : kind_at t x ≡ kind.InitDeclarator
                kind_is = same_Some (kind_at t x) kind.InitDeclarator (sym (kind_there x h.parent h.at) ∙ only_initialised (kind_in ns (Some x)) f)

                over : (o : Option ℕ) → slice_index_or tree.above.now x None ≡ o → HasDeclaration
                over None g = nothing_above (same ∙ ap (declaration_at ns) g)
                over (Some y) g = ends y x (above_some t u (length t.nodes) x y (sym (above_column x few) ∙ g)) (inr (kind_is, h)) (same ∙ ap (declaration_at ns) g)

    abbrev d : HasDeclaration
    d = declaration_is

    -- no function's declarator declares an object (K8)
    plainly : (kind_at t w.whole ≡ kind.FunctionDeclarator) → ⊥
    plainly q =
        function_never inner.function (is_hole_type (inner_derived (before_in shapes (cut w.whole typing)) (slice_get w.node.parts 0))) inner w.whole (not (is_some (slice_get w.node.parts 1)))
        (sym (ap (λ (x : Declarator). x.function) rule) ∙ object_is.1) (sym (ap (λ (x : Declarator). x.misplaced) rule) ∙ misplaced)
      where
        inner : Declarator
        inner = declarator_in (before_in shapes (cut w.whole typing)).declarator (slice_get w.node.parts 0)

        rule : (entry_at typing w.whole).own.declarator ≡ declarator_by kind.FunctionDeclarator (spelling_of tree.file.now tree.tokens.now) tree.nodes.now (before_in shapes (cut w.whole typing)) w.whole w.node
        rule =
            (ruled file t it w.whole w.node w.at).declarator
            ∙ ap (λ k. declarator_by k (spelling_of tree.file.now tree.tokens.now) tree.nodes.now (before_in shapes (cut w.whole typing)) w.whole w.node) (sym (ap kind_if w.at) ∙ q)

        holds : HoldsAll (whole_faults (has_at shapes (entry_at typing w.whole).own) (before_in shapes (cut w.whole typing)) tree w.whole (Some d.declaration))
        holds =
            subst (λ o. HoldsAll (whole_faults (has_at shapes (entry_at typing w.whole).own) (before_in shapes (cut w.whole typing)) tree w.whole o)) d.of
            (declarator_holds w.node.kind (has_at shapes (entry_at typing w.whole).own) (before_in shapes (cut w.whole typing)) tree w.whole w.node (naming_declares w.node.kind naming).1
            (all tree it.checked.checked.texts shapes typing made_by.is.whole.typing (λ b broken. made_by.sound.constraints b (inl broken)) w.whole w.node at_u))

        misplaced : (entry_at typing w.whole).own.declarator.misplaced ≡ false
        misplaced =
            in_place (entry_at typing w.whole).own.declarator _ _ _
            (function_holds (has_at shapes (entry_at typing w.whole).own) (before_in shapes (cut w.whole typing)) tree.nodes.now w.whole _ _ _ _ _ holds)

    -- ---- its name

    whole_name : name_of t w.whole ≡ e
    whole_name =
        let x = named_at file t it (length t.nodes) w.whole w.node low w.at naming in
        same_name (name_of t w.whole) x.node x.at x.is (same_Some x.node.first own.node.first (sym x.name ∙ w.named))

    second_initial : (p : ℕ) → kind_at t p ≡ kind.InitDeclarator → slice_get (parts_at t p) 1 ≡ Some w.whole → (is_expression (form_of (kind_at t w.whole)) || is_list (kind_at t w.whole)) ≡ true
    unfolding rule_of
    second_initial p q g =
        let h = has_part t u p 1 w.whole g in
        let stands : Stands (part_in (side_of kind.InitDeclarator) 1) (kind_at t w.whole) = subst (λ c. Stands (part_in (side_of c) 1) (kind_at t w.whole)) q h.stands in
        initialiser_there (part_in (side_of kind.InitDeclarator) 1) (kind_at t w.whole) refl stands

    init_name : (p : ℕ) → kind_at t p ≡ kind.InitDeclarator → IsPartOf t u w.whole p → name_of t p ≡ e
    init_name p q h =
        let f = first_of file t it p (ap is_holding q) in
        let x = init_named file t it (length t.nodes) p (slice_get_within t.nodes p h.parent h.at) q f in
        let same : f.inner ≡ w.whole = first f h.place (ap (λ o. slice_get (parts_if o) h.place) h.at ∙ h.is) in
        same_name (name_of t p) x.0 x.1.0 x.1.1.0 (same_Some x.0.first own.node.first (sym x.1.1.1 ∙ ap (λ y. (declarator_of t.nodes y).name) same ∙ w.named))
      where
        first : (f : HasFirst file t it p) → (k : ℕ) → slice_get (parts_at t p) k ≡ Some w.whole → f.inner ≡ w.whole
        first f zero g = same_Some f.inner w.whole (sym f.is ∙ g)
        first f (suc zero) g =
            absurd (never (is_expression (form_of (kind_at t w.whole)) || is_list (kind_at t w.whole))
            (row _ _ (declarator_plain (kind_at t w.whole)) (ap is_declarator (ap kind_if w.at) ∙ (naming_declares w.node.kind naming).1)) (second_initial p q g))
        first f (suc (suc k)) g = let few = at_most t u p kind.InitDeclarator 2 q refl init_counts in let within = slice_get_within (parts_at t p) (suc (suc k)) w.whole g in absurd (omega (arith, few, within))

    holder_name : name_of t d.holder ≡ e
    holder_name = elim d.direct [ inl same ↦ ap (name_of t) same ∙ whole_name | inr init ↦ init_name d.holder init.0 init.1 ]

    holder_declaring : is_declaring (kind_at t d.holder) ≡ true
    holder_declaring = elim d.direct [ inl same ↦ ap is_declaring (ap (kind_at t) same ∙ ap kind_if w.at) ∙ (naming_declares w.node.kind naming).0 | inr init ↦ ap is_declaring init.0 ]

    holder_plain : (kind_at t d.holder ≡ kind.FunctionDeclarator) → ⊥
    holder_plain q = elim d.direct [ inl same ↦ plainly (ap (kind_at t) (sym same) ∙ q) | inr init ↦ (let other : kind.InitDeclarator ≡ kind.FunctionDeclarator = sym init.0 ∙ q in cc) ]

    -- ---- a definition declares a function

    holder_at : slice_get tree.nodes.now d.declaration ≡ Some d.part.parent
    holder_at = ap (λ ns. slice_get ns d.declaration) tree_nodes ∙ d.part.at

    no_definition : (kind_at t d.declaration ≡ kind.FunctionDefinition) → ⊥
    no_definition q = by d.part.place d.part.is
      where
        defines : d.part.parent.kind ≡ kind.FunctionDefinition
        defines = sym (ap kind_if d.part.at) ∙ q

        own_kind : (h : Node) → slice_get tree.nodes.now d.holder ≡ Some h → kind_at t d.holder ≡ h.kind
        own_kind h there = ap kind_if (ap (λ ns. slice_get ns d.holder) (sym tree_nodes) ∙ there)

        function_there : (holder : ℕ) → holder ≡ w.whole → slice_get d.part.parent.parts 1 ≡ Some holder → ⊥
        function_there holder same g =
            let f = definitions file t it own.node.first d.declaration w.whole d.part.parent (record {
              at = d.part.at;
              external = ap is_external defines;
              place = 0;
              first = λ x. refl;
              part = w.whole;
              is = g ∙ ap Some same;
              declares = inl refl;
              name = w.named;
            }) defines in
            function_no_object (slice_index_or typing.declared w.whole Unclear) f.0 w.by.row f.1.0 w.by.register f.1.1 w.by.object

        by : (k : ℕ) → slice_get d.part.parent.parts k ≡ Some d.holder → ⊥
        by zero g =
            let h = (shaped file t it).parts d.declaration d.part.parent holder_at 0 d.holder g in
            never (is_specifier h.own.kind) (row _ _ (no_specifier h.own.kind) (sym (ap is_declaring (own_kind h.own h.at)) ∙ holder_declaring)) (sym (ap (λ c. fits c 0 h.own.kind) defines) ∙ h.fits)
        by (suc zero) g =
            let h = (shaped file t it).parts d.declaration d.part.parent holder_at 1 d.holder g in
            elim d.direct [
              | inl same ↦ function_there d.holder same g
              | inr init ↦ false≢true (sym (ap is_declarator (sym (own_kind h.own h.at) ∙ init.0)) ∙ sym (ap (λ c. fits c 1 h.own.kind) defines) ∙ h.fits)
            ]
        by (suc (suc zero)) g =
            let h = has_part t u d.declaration 2 d.holder (ap (λ o. slice_get (parts_if o) 2) d.part.at ∙ g) in
            no_block (kind_at t d.holder) holder_declaring (body_only (kind_at t d.holder) (subst (λ c. Stands (part_in (side_of c) 2) (kind_at t d.holder)) q h.stands))
        by (suc (suc (suc k))) g =
            let few = at_most t u d.declaration kind.FunctionDefinition 3 q refl definition_most in
            let within = slice_get_within d.part.parent.parts (suc (suc (suc k))) d.holder g in
            let same : length (parts_at t d.declaration) ≡ length d.part.parent.parts = ap (λ o. length (parts_if o)) d.part.at in
            absurd (omega (arith, few, within, same))

    -- ---- a declaration in a block or a `for`

    declaration_low : d.declaration < length t.nodes
    declaration_low = slice_get_within t.nodes d.declaration d.part.parent d.part.at

    module _ (declares_so : kind_at t d.declaration ≡ kind.Declaration) where
      around_it : declaration_around t e ≡ Some d.declaration
      around_it = ap (declaration_around t) (sym whole_name) ∙ around_name (length t.nodes) w.whole w.node low w.at naming ∙ from_whole
        where
          from_holder : (x : ℕ) → IsPartOf t u x d.declaration → declaration_around t x ≡ Some d.declaration
          from_holder x h = around_part x d.declaration h ∙ ap (λ b. if b then Some d.declaration else declaration_around t d.declaration) (ap is_declaration declares_so)

          from_whole : declaration_around t w.whole ≡ Some d.declaration
          from_whole = elim d.direct [
            | inl same ↦ from_holder w.whole (subst (λ x. IsPartOf t u x d.declaration) same d.part)
            | inr init ↦ around_part w.whole d.holder init.1 ∙ ap (λ b. if b then Some d.holder else declaration_around t d.holder) (ap is_declaration init.0) ∙ from_holder d.holder d.part
          ]

      part_around : (x y : ℕ) → IsPartOf t u x y → around x ≡ inside (kind_at t y) y (around y)
      part_around x y h = around_at file t it y h.place x (has_part t u y h.place x (ap (λ o. slice_get (parts_if o) h.place) h.at ∙ h.is))

      whole_place : (around w.whole).place ≡ (around d.declaration).place
      whole_place = elim d.direct [
        | inl same ↦ ap (λ x. (around x).place) (sym same) ∙ holder_place
        | inr init ↦ ap (λ (a : Around). a.place) (part_around w.whole d.holder init.1) ∙ place_init (kind_at t d.holder) d.holder (around d.holder) init.0 ∙ holder_place
      ]
        where
          holder_place : (around d.holder).place ≡ (around d.declaration).place
          holder_place = ap (λ (a : Around). a.place) (part_around d.holder d.declaration d.part) ∙ place_declaration (kind_at t d.declaration) d.declaration (around d.declaration) declares_so

      inside_something : is_some (above d.declaration) ≡ true
      inside_something = by (above d.declaration) refl
        where
          at_file : above d.declaration ≡ None → (around w.whole).place ≡ place.File
          at_file q =
              whole_place
              ∙ ap (λ (a : Around). a.place) (is.around_are.each d.declaration declaration_low ∙ ap (below t.nodes (λ p. slice_index_or it.checked.checked.surroundings.around p outermost) d.declaration) (is.above_are.each d.declaration declaration_low ∙ q))

          static_there : (around w.whole).place ≡ place.File → is_static_by_words tree said (Some w.whole) ≡ true
          static_there q =
              ap (λ p. is_kept p (class_of (specified_in said (specifiers_in tree.nodes.now (declaration_of tree.nodes.now tree.above.now w.whole))).storage))
              (ap (λ xs. (slice_index_or xs w.whole outermost).place) made_by.is.whole.tree.around ∙ q)

          by : (o : Option ℕ) → above d.declaration ≡ o → is_some o ≡ true
          by (Some x) q = refl
          by None q = elim w.by.either [
            | inl p ↦ (let other : place.File ≡ place.Parameter = sym (at_file q) ∙ p.0 in absurd cc)
            | inr free ↦ absurd (false≢true (sym free.0 ∙ static_there (at_file q)))
          ]

      local : is_local t e ≡ true
      local =
          and_from _ _ automatic (ap (is_held_by t e) around_it
          ∙ and_from _ _ inside_something (holds_it d.declaration d.holder d.part declares_so holder_declaring holder_plain holder_name))

    -- ---- a parameter

    module _ (parameter_so : kind_at t d.declaration ≡ kind.Parameter) where
      listed_so : d.part.parent.kind ≡ kind.Parameter
      listed_so = sym (ap kind_if d.part.at) ∙ parameter_so

      stands_second : (d.holder ≡ w.whole) × (slice_get (parts_at t d.declaration) 1 ≡ Some w.whole)
      stands_second = by d.part.place d.part.is
        where
          own_kind : (h : Node) → slice_get tree.nodes.now d.holder ≡ Some h → kind_at t d.holder ≡ h.kind
          own_kind h there = ap kind_if (ap (λ ns. slice_get ns d.holder) (sym tree_nodes) ∙ there)

          by : (k : ℕ) → slice_get d.part.parent.parts k ≡ Some d.holder → (d.holder ≡ w.whole) × (slice_get (parts_at t d.declaration) 1 ≡ Some w.whole)
          by zero g =
              let h = (shaped file t it).parts d.declaration d.part.parent holder_at 0 d.holder g in
              absurd (never (is_specifier h.own.kind) (row _ _ (no_specifier h.own.kind) (sym (ap is_declaring (own_kind h.own h.at)) ∙ holder_declaring)) (sym (ap (λ c. fits c 0 h.own.kind) listed_so) ∙ h.fits))
          by (suc zero) g =
              let h = (shaped file t it).parts d.declaration d.part.parent holder_at 1 d.holder g in
              elim d.direct [
                | inl same ↦ (same, ap (λ o. slice_get (parts_if o) 1) d.part.at ∙ g ∙ ap Some same)
                | inr init ↦ absurd (false≢true (sym (ap is_declarator (sym (own_kind h.own h.at) ∙ init.0)) ∙ sym (ap (λ c. fits c 1 h.own.kind) listed_so) ∙ h.fits))
              ]
          by (suc (suc k)) g =
              let few = at_most t u d.declaration kind.Parameter 2 parameter_so refl parameter_most in
              let within = slice_get_within d.part.parent.parts (suc (suc k)) d.holder g in
              let same : length (parts_at t d.declaration) ≡ length d.part.parent.parts = ap (λ o. length (parts_if o)) d.part.at in
              absurd (omega (arith, few, within, same))

      part_whole : IsPartOf t u w.whole d.declaration
      part_whole = subst (λ x. IsPartOf t u x d.declaration) stands_second.0 d.part

      own_one : names.is_own it.unit.nodes columns (Some w.whole) (around w.whole).function ≡ true
      own_one = elim w.by.either [
        | inl p ↦ p.1
        | inr free ↦
            absurd (false≢true (sym free.1 ∙ ap is_parameter_place
            (ap (λ (a : Around). a.place) (around_at file t it d.declaration part_whole.place w.whole (has_part t u d.declaration part_whole.place w.whole (ap (λ o. slice_get (parts_if o) part_whole.place) part_whole.at ∙ part_whole.is)))
            ∙ place_parameter (kind_at t d.declaration) d.declaration (around d.declaration) parameter_so)))
      ]

      -- the identifier that the parameter declares
      its_name : functions.parameter_name (parsed_of it.unit) d.declaration ≡ Some e
      its_name =
          ap (λ ns. entities.name_node (parsed_of it.unit) (entities.declared_token ns (part_of ns (Some d.declaration) 1))) same_nodes
          ∙ ap (λ o. entities.name_node (parsed_of it.unit) (entities.declared_token t.nodes o)) (unit_part d.declaration 1 w.whole stands_second.1)
          ∙ ap (entities.name_node (parsed_of it.unit)) w.named
          ∙ ap (λ b. if b then last_with (entities.named_token it.unit.nodes) (length it.unit.nodes) own.node.first else None) (lt-ltb own.node.first (length it.unit.tokens.list.items) few)
          ∙ found
        where
          few : own.node.first < length it.unit.tokens.list.items
          few =
              let x = u.within e own.node own.at in
              let from = x.0 in
              let high = x.1 in
              let tokens_are : length t.tokens ≡ length it.unit.tokens.list.items = ap length made_by.elaborated.tokens_are in
              omega (arith, from, high, tokens_are)

          count : length t.nodes ≡ length it.unit.nodes
          count = ap length made_by.elaborated.nodes_are

          last : IsLast (entities.named_token it.unit.nodes) (length it.unit.nodes) own.node.first e
          last = last_there (entities.named_token it.unit.nodes) (length it.unit.nodes) own.node.first e (let w = slice_get_within t.nodes e own.node own.at in let c = count in omega (arith, w, c)) (token_is file t it e own.node own.at own.is own.automatic)

          found : last_with (entities.named_token it.unit.nodes) (length it.unit.nodes) own.node.first ≡ Some e
          found =
              let n = node_of t u order last.last kind.NameDeclarator (ap (λ ns. scripts.kind_at ns last.last) (sym same_nodes) ∙ name_there it.unit.nodes last.last (subst IsThere (sym last.has) tt)) in
              let token : entities.named_token it.unit.nodes last.last ≡ Some n.0.first =
              ap (λ ns. entities.named_token ns last.last) same_nodes
              ∙ ap (λ o. if entities.is_name (scripts.kind_if o) then scripts.first_if o else None) n.1.0
              ∙ ap (λ k. if entities.is_name (Some k) then Some n.0.first else None) n.1.1 in
              last.is ∙ ap Some (same_name last.last n.0 n.1.0 n.1.1 (same_Some n.0.first own.node.first (sym token ∙ last.has)))

      above_column_of : (x : ℕ) → x < length t.nodes → slice_index_or columns.above.now x None ≡ above x
      above_column_of x few = ap (λ xs. slice_index_or xs x None) made_by.are.above ∙ is.above_are.each x few

      above_it : entry_of columns.above.now None (entry_of columns.above.now None (Some w.whole)) ≡ above d.declaration
      above_it = ap (entry_of columns.above.now None) (above_column_of w.whole low ∙ above_is t u w.whole d.declaration part_whole) ∙ above_column_of d.declaration declaration_low

      -- the list that has it, and the definition of the list
      module _ (f : ℕ) (f_is : (around w.whole).function ≡ Some f) where
        defines : is_definition (kind_at t f) ≡ true
        defines = function_kind (length t.nodes) w.whole (omega arith) low f f_is

        f_there : (n : Node) × ((slice_get t.nodes f ≡ Some n) × (n.kind ≡ kind.FunctionDefinition))
        f_there = by (slice_get t.nodes f) refl
          where
            by : (o : Option Node) → slice_get t.nodes f ≡ o → (n : Node) × ((slice_get t.nodes f ≡ Some n) × (n.kind ≡ kind.FunctionDefinition))
            by None at = absurd (false≢true (sym (ap (λ o. is_definition (kind_if o)) at) ∙ defines))
            by (Some n) at = (n, (at, only_definition n.kind (sym (ap (λ o. is_definition (kind_if o)) at) ∙ defines)))

        same_list : (l : ℕ) (o : Option ℕ) → functions.function_of it.unit.nodes columns f ≡ o → names.is_same (Some l) o ≡ true → functions.function_of it.unit.nodes columns f ≡ Some l
        same_list l None q h = absurd (false≢true h)
        same_list l (Some x) q h = q ∙ ap Some (eqb-true x l h)

        list_kind : (l : ℕ) → functions.function_of it.unit.nodes columns f ≡ Some l → kind_at t l ≡ kind.FunctionDeclarator
        list_kind l q = by (part_of it.unit.nodes (Some f) 1) refl (sym (ap (λ column. (entry_of column name_alone (part_of it.unit.nodes (Some f) 1)).function) made_by.are.declarators) ∙ q)
          where
            by : (o : Option ℕ) → part_of it.unit.nodes (Some f) 1 ≡ o → (entry_of typing.declarators name_alone o).function ≡ Some l → kind_at t l ≡ kind.FunctionDeclarator
            by None g h = let other : None ≡ Some l = h in absurd cc
            by (Some a) g h =
                let p = has_part t u f 1 a (unit_parts file t it f 1 a g) in
                (found_below file t it (suc a) a (omega arith) (slice_get_within t.nodes a p.own p.own_at) l h).1

        -- what stands in the list is entered
        entered_by : (l x k : ℕ) → functions.function_of it.unit.nodes columns f ≡ Some l → slice_get (parts_at t l) 1 ≡ Some x → slice_get (functions.listed_by (scripts.kind_at t.nodes x) (scripts.parts_at t.nodes x) x) k ≡ Some d.declaration
            → is_parameter t e ≡ true
        entered_by l x k q first listed = below_there (length t.nodes) f e (slice_get_within t.nodes f f_there.0 f_there.1.0) (ap (λ ps. is_one_of ps e) (parameters_are file t it f (slice_get_within t.nodes f f_there.0 f_there.1.0)) ∙ there)
          where
            there : is_one_of (functions.parameters_of (parsed_of it.unit) columns f) e ≡ true
            there =
                ap (λ b. is_one_of (if b then flat_map (λ p. option_to_list (functions.parameter_name (parsed_of it.unit) p)) (functions.parameter_nodes it.unit.nodes (part_of it.unit.nodes (functions.function_of it.unit.nodes columns f) 1)) else []) e)
                (ap (λ ns. entities.is_definition (scripts.kind_at ns f)) same_nodes ∙ ap (λ o. entities.is_definition (scripts.kind_if o)) f_there.1.0 ∙ ap (λ k. entities.is_definition (Some k)) f_there.1.1)
                ∙ ap (λ o. is_one_of (flat_map (λ p. option_to_list (functions.parameter_name (parsed_of it.unit) p)) (functions.parameter_nodes it.unit.nodes (part_of it.unit.nodes o 1))) e) q
                ∙ ap (λ ns. is_one_of (flat_map (λ p. option_to_list (functions.parameter_name (parsed_of it.unit) p)) (functions.parameter_nodes ns (part_of ns (Some l) 1))) e) same_nodes
                ∙ ap (λ o. is_one_of (flat_map (λ p. option_to_list (functions.parameter_name (parsed_of it.unit) p)) (functions.parameter_nodes t.nodes o)) e) (unit_part l 1 x first)
                ∙ any_in (λ p. option_to_list (functions.parameter_name (parsed_of it.unit) p)) e (functions.listed_by (scripts.kind_at t.nodes x) (scripts.parts_at t.nodes x) x) k d.declaration listed
                (ap (λ o. is_one_of (option_to_list o) e) its_name ∙ or_left (e == e) false (eq-eqb e e refl))

        -- a list's parts stand behind its declarator
        behind_declarator : (l x : ℕ) → functions.function_of it.unit.nodes columns f ≡ Some l → IsPartOf t u x l → is_declarator (kind_at t x) ≡ false → slice_get (parts_at t l) 1 ≡ Some x
        behind_declarator l x q h plain = by h.place h.is
          where
            kind_is : kind_at t l ≡ kind.FunctionDeclarator
            kind_is = list_kind l q

            by : (k : ℕ) → slice_get h.parent.parts k ≡ Some x → slice_get (parts_at t l) 1 ≡ Some x
            by zero g =
                let p = (shaped file t it).parts l h.parent (ap (λ ns. slice_get ns l) tree_nodes ∙ h.at) 0 x g in
                let own : kind_at t x ≡ p.own.kind = ap kind_if (ap (λ ns. slice_get ns x) (sym tree_nodes) ∙ p.at) in
                absurd (false≢true (sym plain ∙ ap is_declarator own ∙ sym (ap (λ c. fits c 0 p.own.kind) (sym (ap kind_if h.at) ∙ kind_is)) ∙ p.fits))
            by (suc zero) g = ap (λ o. slice_get (parts_if o) 1) h.at ∙ g
            by (suc (suc k)) g =
                let few = at_most t u l kind.FunctionDeclarator 2 kind_is refl list_counts in
                let within = slice_get_within h.parent.parts (suc (suc k)) x g in
                let same : length (parts_at t l) ≡ length h.parent.parts = ap (λ o. length (parts_if o)) h.at in
                absurd (omega (arith, few, within, same))

        of_above : (o : Option ℕ) → above d.declaration ≡ o → names.is_same (names.function_above it.unit.nodes columns o) (functions.function_of it.unit.nodes columns f) ≡ true → is_parameter t e ≡ true
        of_above None q h = absurd (false≢true h)
        of_above (Some x) q h = by (names.is_list (scripts.kind_at it.unit.nodes x)) refl h
          where
            part : IsPartOf t u d.declaration x
            part = above_some t u (length t.nodes) d.declaration x q

            kind_here : scripts.kind_at it.unit.nodes x ≡ Some (kind_at t x)
            kind_here = ap (λ ns. scripts.kind_at ns x) same_nodes ∙ ap scripts.kind_if part.at ∙ ap Some (sym (ap kind_if part.at))

            by : (b : Bool) → names.is_list (scripts.kind_at it.unit.nodes x) ≡ b → names.is_same (if b then slice_index_or columns.above.now x None else Some x) (functions.function_of it.unit.nodes columns f) ≡ true → is_parameter t e ≡ true
            by false g h =
                let its = same_list x (functions.function_of it.unit.nodes columns f) refl h in
                entered_by x d.declaration 0 its (behind_declarator x d.declaration its part (ap is_declarator parameter_so))
                (ap (λ o. slice_get (functions.listed_by o (scripts.parts_at t.nodes d.declaration) d.declaration) 0) (ap scripts.kind_if d.part.at ∙ ap Some listed_so))
            by true g h = over (above x) refl (sym (ap (λ o. names.is_same o (functions.function_of it.unit.nodes columns f)) (above_column_of x (slice_get_within t.nodes x part.parent part.at))) ∙ h)
              where
                lists : names.is_list (Some (kind_at t x)) ≡ true
                lists = ap names.is_list (sym kind_here) ∙ g

                over : (o : Option ℕ) → above x ≡ o → names.is_same o (functions.function_of it.unit.nodes columns f) ≡ true → is_parameter t e ≡ true
                over None q h = absurd (false≢true h)
                over (Some l) q h =
                    let its = same_list l (functions.function_of it.unit.nodes columns f) refl h in
                    let parts : slice_get (scripts.parts_at t.nodes x) part.place ≡ Some d.declaration = ap (λ o. slice_get (scripts.parts_if o) part.place) part.at ∙ part.is in
                    entered_by l x part.place its (behind_declarator l x its (above_some t u (length t.nodes) x l q) (list_plain (kind_at t x) lists))
                    (ap (λ o. slice_get (functions.listed_by o (scripts.parts_at t.nodes x) x) part.place) (ap scripts.kind_if part.at ∙ ap Some (sym (ap kind_if part.at))) ∙ ap (λ ps. slice_get ps part.place) (list_parts (kind_at t x) lists (scripts.parts_at t.nodes x) x) ∙ parts)

        of_definition : names.is_own it.unit.nodes columns (Some w.whole) (Some f) ≡ true → is_parameter t e ≡ true
        of_definition h = of_above (above d.declaration) refl (sym (ap (λ o. names.is_same (names.function_above it.unit.nodes columns o) (functions.function_of it.unit.nodes columns f)) above_it) ∙ h)

      entered : is_own_parameter t e ≡ true
      entered = and_from _ _ automatic (by (around w.whole).function refl own_one)
        where
          by : (o : Option ℕ) → (around w.whole).function ≡ o → names.is_own it.unit.nodes columns (Some w.whole) o ≡ true → is_parameter t e ≡ true
          by None q h = absurd (false≢true h)
          by (Some f) q h = of_definition f q h

    pub automatic_entered : is_entered t e ≡ true
    automatic_entered = elim (ordinary_kind (kind_at t d.declaration) d.ordinary) [
      | inl declares_so ↦ or_left (is_local t e) (is_own_parameter t e) (local declares_so)
      | inr other ↦ elim other [
        | inl defines ↦ absurd (no_definition defines)
        | inr parameter_so ↦ or_right (is_local t e) (is_own_parameter t e) (entered parameter_so)
      ]
    ]

  -- so a name sees its object
  pub named_seen : (i : ℕ) → kind_at t i ≡ kind.Identifier → (is_automatic_by (slice_index_or t.durations (entity_of t i) duration.NoObject) ≡ true → is_early t i ≡ false)
      → is_object_by (slice_index_or t.durations (entity_of t i) duration.NoObject) ≡ true → sees t i (entity_of t i) ≡ true
  named_seen i q late object = elim (either_duration (slice_index_or t.durations (entity_of t i) duration.NoObject) object) [
    | inl automatic ↦ named_locally file t it i q (and_from _ _ (automatic_entered (entity_of t i) automatic) (ap not (late automatic)))
    | inr static ↦ static_seen file t it i q static
  ]
