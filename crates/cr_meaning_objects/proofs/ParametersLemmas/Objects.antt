-- What a parameter of a definition declares is an automatic object of a complete type (C11 6.2.4p5, 6.7.6.3p4, p7, 6.9.1p7).
use Rattle.std.proofs.Common.{◌≡◌, ℕ, zero, suc, ◌<◌, ◌⊎◌, inl, inr, Bool, true, false, List, [], ◌∷◌, Option, None, Some, length, slice_get, slice_index_or, refl, sym, ap, subst, ◌∙◌, arith, if◌then◌else◌}
use Rattle.std.proofs.lemmas.Bool.{false≢true, eq-eqb}
use Rattle.std.proofs.lemmas.Option.{same_Some}
use Rattle.cr_syntax.specs.declared.ctype.CType.{CType}
use Rattle.cr_syntax.specs.declared.ctype.CType.TheVariants.{Unknown}
use Rattle.cr_syntax.specs.declared.node.Kind.{Kind}
use Rattle.cr_syntax.specs.declared.node.Kind.TheVariants as kind
use Rattle.cr_syntax.specs.declared.node.Node.{Node}
use Rattle.cr_scopes_events.specs.Declarators.{declarator_of}
use Rattle.cr_scopes_events.specs.Scripts as scripts
use Rattle.cr_scopes_visibility.proofs.SightLemmas.Reaching.{is_deriving, reaches}
use Rattle.cr_check_enclosing.specs.declared.context.Around.{Around}
use Rattle.cr_check_enclosing.specs.declared.context.Place.{Place}
use Rattle.cr_check_enclosing.specs.declared.context.Place.TheVariants as place
use Rattle.cr_check_enclosing.specs.Around.{outermost, inside}
use Rattle.cr_check_types.specs.Types.{Qualified, plain, pointer, array}
use Rattle.cr_check_types.specs.Relations.{is_complete_at}
use Rattle.cr_check_expressions.specs.declared.known.Declared.{Declared}
use Rattle.cr_check_expressions.specs.declared.known.Declared.TheVariants.{Object, Unclear}
use Rattle.cr_check_declarators.specs.Functions.{adjusted_type}
use Rattle.cr_check_declarators.specs.Declarators.{name_alone, whole_leaf, whole_object}
use Rattle.cr_check_declarations.specs.Before as early
use Rattle.cr_check_declarations.specs.Named.{listed_by, parameter_nodes}
use Rattle.cr_check_declarations.specs.Faults.{list_in}
use Rattle.cr_check_signatures.specs.Functions.Outlines.{head}
use Rattle.cr_check_signatures.proofs.FunctionsLemmas.Linked.{is_function}
use Rattle.cr_typed.specs.declared.typed.Typed.{Typed}
use Rattle.cr_typed.specs.declared.typed.Duration.{Duration}
use Rattle.cr_typed.specs.declared.typed.Duration.TheVariants as duration
use Rattle.cr_typed_columns.specs.Reading.{kind_of, part_of, entry_of}
use Rattle.cr_typed_columns.specs.Entities as entities
use Rattle.cr_typed_columns.specs.Functions as functions
use Rattle.cr_typed_columns.specs.Names as names
use Rattle.cr_meaning_declarations.specs.Declared.Files.{IsUnitOfFile}
use Rattle.cr_meaning_declarations.proofs.DeclaredLemmas.Bodies.{listed_at}
use Rattle.cr_meaning_declarations.proofs.DeclaredLemmas.Files.{has_unit}
use Rattle.cr_meaning_types.specs.Known.Shaped.{is_parameter_kind, IsPart}
use Rattle.cr_meaning_objects.specs.Parameters.Laws
use Rattle.cr_meaning_objects.specs.Parameters.Laws.{named_at, IsOwnParameter, HasObject}
use Rattle.cr_meaning_objects.proofs.ParametersLemmas.Names.{has_own, own, own_low, whole_of_own, above_p, own_head}
use Rattle.cr_meaning_objects.proofs.ParametersLemmas.Parameters.{plain as no_function_there, parameter_head, declarator_head, second, definer, function_at_name, parameter_whole, parameter_place as placed, in_tree}
use Rattle.cr_meaning_references.proofs.TreesLemmas.Shaped.{shaped}

-- ---- around nodes

-- a definition begins a function, and no other node does
begins : (k : Kind) (i : ℕ) (a : Around) → k ≡ kind.FunctionDefinition → (inside k i a).function ≡ Some i
unfolding inside
begins k i a e = ap (λ c. (inside c i a).function) e

hands_on : (k : Kind) (i : ℕ) (a : Around) → (k ≡ kind.FunctionDefinition → ⊥) → (inside k i a).function ≡ a.function
unfolding inside
hands_on kind.FunctionDefinition i a h = absurd (h refl)
hands_on k i a h = refl

deriving_apart : (k : Kind) → is_deriving k ≡ true → k ≡ kind.FunctionDefinition → ⊥
deriving_apart k h e = false≢true (sym (ap is_deriving e) ∙ h)

abbrev pub is_listing : Kind → Bool
is_listing kind.Parameters = true
is_listing kind.VariadicParameters = true
is_listing k = false

listing_apart : (k : Kind) → is_listing k ≡ true → k ≡ kind.FunctionDefinition → ⊥
listing_apart k h e = false≢true (sym (ap is_listing e) ∙ h)

listing_is : (k : Kind) → names.is_list (Some k) ≡ is_listing k
listing_is kind.Parameters = refl
listing_is kind.VariadicParameters = refl
listing_is k = refl

-- a parameter is a part of the list, or alone in its place
listed_so : (k : Kind) (parts : List ℕ) (list j x : ℕ) → slice_get (listed_by (Some k) parts list) j ≡ Some x → ((is_listing k ≡ true) × (slice_get parts j ≡ Some x)) ⊎ (list ≡ x)
listed_so kind.VoidParameters parts list j x e = absurd (cc e)
listed_so kind.Parameters parts list j x e = inl (refl, e)
listed_so kind.VariadicParameters parts list j x e = inl (refl, e)
listed_so k parts list j x e = inr (lone j e)
  where
    lone : (j : ℕ) → slice_get (list ∷ []) j ≡ Some x → list ≡ x
    lone zero f = same_Some list x f
    lone (suc j) f = absurd (cc f)

-- ---- durations

-- a definition's own parameter that declares an object is automatic (6.2.4p5)
enters : (d : Declared) (p : Place) (own static kept : Bool) (row : ℕ) (register : Bool) → d ≡ Object row register → p ≡ place.Parameter → own ≡ true
    → names.by_declared d p own static kept ≡ duration.Automatic
enters d p own static kept row register e f g =
    ap (λ x. names.by_declared x p own static kept) e ∙ ap (λ x. names.by_place x own static kept) f ∙ ap names.of_parameter g

-- ---- types

-- a type with the word of an adjusted one is adjusted (6.7.6.3p7)
head_adjusts : (type whole : Qualified) → head type ≡ adjusted_type whole → adjusted_type type ≡ type
head_adjusts (plain of c v) whole e = refl
head_adjusts (pointer c v t) whole e = refl
head_adjusts (array n t) (plain of c v) e = absurd (cc e)
head_adjusts (array n t) (pointer c v u) e = absurd (cc e)
head_adjusts (array n t) (array m u) e = absurd (cc e)

leaf_alike : (nodes : List Node) (at : ℕ) (of : CType) (c v d w : Bool) → whole_leaf (is_complete_at nodes at) of c v ≡ whole_leaf (is_complete_at nodes at) of d w
leaf_alike nodes at Unknown c v d w = refl
leaf_alike nodes at of c v d w = refl

-- and it is complete where another type with its word is
whole_alike : (nodes : List Node) (at : ℕ) (one other : Qualified) → head one ≡ head other → adjusted_type other ≡ other → whole_object (is_complete_at nodes at) one ≡ true
    → whole_object (is_complete_at nodes at) other ≡ true
whole_alike nodes at (plain of c v) (plain to d w) e a h =
    let same : of ≡ to = cc e in
    subst (λ x. whole_leaf (is_complete_at nodes at) x d w ≡ true) same (sym (leaf_alike nodes at of c v d w) ∙ h)
whole_alike nodes at (pointer c v t) (plain to d w) e a h = absurd (cc e)
whole_alike nodes at (array n t) (plain to d w) e a h = absurd (cc e)
whole_alike nodes at one (pointer d w u) e a h = refl
whole_alike nodes at one (array m u) e a h = absurd (cc a)

module _ (file : List ℕ) (t : Typed) (it : IsUnitOfFile file t) where
  open it use {made_by, typing, tree, columns}
  open has_unit file t it use {nodes_are, tree_nodes}

  in_unit : (i : ℕ) (n : Node) → slice_get tree.nodes.now i ≡ Some n → slice_get t.nodes i ≡ Some n
  in_unit i n at = ap (λ ns. slice_get ns i) (sym tree_nodes) ∙ at

  abbrev around : ℕ → Around
  around i = slice_index_or tree.around.now i outermost

  above_column : (i a : ℕ) → slice_index_or tree.above.now i None ≡ Some a → slice_index_or columns.above.now i None ≡ Some a
  above_column i a e = ap (λ xs. slice_index_or xs i None) (made_by.are.above ∙ sym made_by.is.whole.tree.above) ∙ e

  kind_there : (i : ℕ) (n : Node) → slice_get t.nodes i ≡ Some n → kind_of it.unit.nodes (Some i) ≡ Some n.kind
  kind_there i n at = ap (λ ns. scripts.kind_at ns i) nodes_are ∙ ap scripts.kind_if at

  function_around : (a b : ℕ) (n : Node) (k : ℕ) → IsPart tree a n k b → (n.kind ≡ kind.FunctionDefinition → ⊥) → (around b).function ≡ (around a).function
  function_around a b n k part other = ap (λ (x : Around). x.function) part.around ∙ hands_on n.kind a (around a) other

  module _ (d x p token : ℕ) (o : IsOwnParameter file t it d x p token) where
    abbrev q : ℕ
    q = o.whole

    abbrev l : ℕ
    l = o.list

    -- ---- the list stands in the function

    -- a node below the definition, whose function that is
    abbrev IsInside : ℕ → Type 0
    IsInside a = (a < d) × ((around a).function ≡ Some d)

    goes : (a b : ℕ) (m : Node) → slice_get t.nodes a ≡ Some m → is_deriving m.kind ≡ true → slice_get m.parts 0 ≡ Some b → IsInside a → IsInside b
    goes a b m at derives e h =
        let part = (shaped file t it).parts a m (in_tree file t it a m at) 0 b e in
        let one = part.below in
        let two = h.0 in
        (omega (arith, one, two), function_around a b m 0 part (deriving_apart m.kind derives) ∙ h.1)

    inside_q : IsInside q
    inside_q = let part = definer file t it o.name d q o.own o.defines o.body in (part.below, ap (λ (y : Around). y.function) part.around ∙ begins o.own.kind d (around d) o.body)

    found : (m : Node) × ((slice_get t.nodes l ≡ Some m) × ((m.kind ≡ kind.FunctionDeclarator) × IsInside l))
    found = (reaches t.nodes IsInside goes q inside_q).next l o.next

    abbrev list_node : Node
    list_node = found.0

    list_apart : list_node.kind ≡ kind.FunctionDefinition → ⊥
    list_apart same = let never : kind.FunctionDeclarator ≡ kind.FunctionDefinition = sym found.1.1.0 ∙ same in cc never

    -- ---- the parameter stands in the list

    record IsListed : Type 0 where
      low : x < d
      function : (around x).function ≡ Some d
      above : names.function_above it.unit.nodes columns (slice_index_or columns.above.now x None) ≡ Some l

    is_listed : IsListed
    is_listed = by (slice_get list_node.parts 1) refl (ap (λ y. slice_get (parameter_nodes t.nodes (slice_get (early.parts_if y) 1)) o.place) (sym found.1.0) ∙ o.listed)
      where
        at_l : slice_get tree.nodes.now l ≡ Some list_node
        at_l = in_tree file t it l list_node found.1.0

        low_l : l < d
        low_l = found.1.1.1.0

        -- alone
        alone : IsPart tree l list_node 1 x → IsListed
        alone part = record {
          low = let one = part.below in let two = low_l in omega (arith, one, two);
          function = function_around l x list_node 1 part list_apart ∙ found.1.1.1.1;
          above =
              ap (names.function_above it.unit.nodes columns) (above_column x l part.above)
              ∙ ap (λ k. if names.is_list k then slice_index_or columns.above.now l None else Some l) (kind_there l list_node found.1.0 ∙ ap Some found.1.1.0);
        }

        -- among others
        among : (y : ℕ) → (part : IsPart tree l list_node 1 y) → is_listing part.own.kind ≡ true → slice_get part.own.parts o.place ≡ Some x → IsListed
        among y part lists e =
            let inner = (shaped file t it).parts y part.own part.at o.place x e in
            let one = part.below in
            let two = inner.below in
            let three = low_l in
            record {
              low = omega (arith, one, two, three);
              function = function_around y x part.own o.place inner (listing_apart part.own.kind lists) ∙ function_around l y list_node 1 part list_apart ∙ found.1.1.1.1;
              above =
                  ap (names.function_above it.unit.nodes columns) (above_column x y inner.above)
                  ∙ ap (λ k. if names.is_list k then slice_index_or columns.above.now y None else Some y) (kind_there y part.own (in_unit y part.own part.at))
                  ∙ ap (λ b. if b then slice_index_or columns.above.now y None else Some y) (listing_is part.own.kind ∙ lists)
                  ∙ above_column y l part.above;
            }

        by : (c : Option ℕ) → slice_get list_node.parts 1 ≡ c → slice_get (parameter_nodes t.nodes c) o.place ≡ Some x → IsListed
        by None f e = absurd (cc e)
        by (Some y) f e = elim (listed_so part.own.kind part.own.parts y o.place x (ap (λ z. slice_get (listed_by (early.kind_if z) (early.parts_if z) y) o.place) (sym (in_unit y part.own part.at)) ∙ e)) [
          | inl both ↦ among y part both.0 both.1
          | inr same ↦ alone ((shaped file t it).parts l list_node at_l 1 x (f ∙ ap Some same))
        ]
          where
            part : IsPart tree l list_node 1 y
            part = (shaped file t it).parts l list_node at_l 1 y f

    -- ---- its declarator

    here : slice_get tree.nodes.now x ≡ Some o.parameter
    here = in_tree file t it x o.parameter o.at

    part_p : IsPart tree x o.parameter 1 p
    part_p = (shaped file t it).parts x o.parameter here 1 p o.second

    at_p : slice_get t.nodes p ≡ Some part_p.own
    at_p = in_unit p part_p.own part_p.at

    name_tree : (declarator_of tree.nodes.now p).name ≡ Some token
    name_tree = ap (λ ns. (declarator_of ns p).name) tree_nodes ∙ o.names

    parameter_apart : o.parameter.kind ≡ kind.FunctionDefinition → ⊥
    parameter_apart same = let never : kind.Parameter ≡ kind.FunctionDefinition = sym o.is ∙ same in cc never

    function_p : (around p).function ≡ Some d
    function_p = function_around x p o.parameter 1 part_p parameter_apart ∙ is_listed.function

    place_p : (around p).place ≡ place.Parameter
    place_p = ap (λ (y : Around). y.place) part_p.around ∙ placed o.parameter.kind x (around x) o.is

    -- ---- its object

    abbrev node : ℕ
    node = own file t it x p token o.parameter part_p.own o.at o.is o.second at_p o.names

    function_d : functions.function_of it.unit.nodes columns d ≡ Some l
    function_d =
        ap (λ c. (entry_of columns.declarators.now name_alone c).function) part_is
        ∙ ap (λ column. (slice_index_or column q name_alone).function) made_by.are.declarators
        ∙ function_at_name file t it o.name d q o.own o.defines o.body l o.next
      where
        part_is : part_of it.unit.nodes (Some d) 1 ≡ Some q
        part_is = ap (λ ns. slice_get (scripts.parts_at ns d) 1) nodes_are ∙ ap (λ y. slice_get (scripts.parts_if y) 1) o.defines.at ∙ second file t it o.name d q o.own o.defines o.body

    own_list : names.is_own it.unit.nodes columns (Some p) (Some d) ≡ true
    own_list =
        ap (λ c. names.is_same (names.function_above it.unit.nodes columns (entry_of columns.above.now None c)) (functions.function_of it.unit.nodes columns d))
        (above_p file t it x p token o.parameter part_p.own o.at o.is o.second at_p o.names)
        ∙ ap (λ c. names.is_same c (functions.function_of it.unit.nodes columns d)) is_listed.above
        ∙ ap (names.is_same (Some l)) function_d ∙ eq-eqb l l refl

    around_column : (f : Around → Duration) → f (slice_index_or columns.around.now p outermost) ≡ f (around p)
    around_column f = ap (λ xs. f (slice_index_or xs p outermost)) (made_by.are.around ∙ sym made_by.is.whole.tree.around)

    duration_is : names.duration_of it.unit.nodes columns node ≡ duration.Automatic
    duration_is =
        ap by_whole (whole_of_own file t it x p token o.parameter part_p.own o.at o.is o.second at_p o.names)
        ∙ around_column (λ a. names.by_declared (slice_index_or columns.declared.now p Unclear) a.place (names.is_own it.unit.nodes columns (Some p) a.function) (slice_index_or columns.statics.now p false) kept)
        ∙ enters (slice_index_or columns.declared.now p Unclear) (around p).place (names.is_own it.unit.nodes columns (Some p) (around p).function) (slice_index_or columns.statics.now p false) kept o.row o.register
        (ap (λ ds. slice_index_or ds p Unclear) made_by.are.declared ∙ o.object) place_p (ap (names.is_own it.unit.nodes columns (Some p)) function_p ∙ own_list)
      where
        kept : Bool
        kept = entities.is_kept it.unit.nodes columns (entities.entity_of it.unit.nodes columns.names.now node)

        by_whole : Option ℕ → Duration
        by_whole c =
            names.by_declared (entities.declared_of columns c) (names.around_of columns c).place (names.is_own it.unit.nodes columns c (names.around_of columns c).function) (entry_of columns.statics.now false c) kept

    automatic : slice_index_or t.durations node duration.NoObject ≡ duration.Automatic
    automatic =
        ap (λ ds. slice_index_or ds node duration.NoObject) made_by.elaborated.durations
        ∙ listed_at (names.duration_of it.unit.nodes columns) (length it.unit.nodes) node duration.NoObject
        (let few = own_low file t it x p token o.parameter part_p.own o.at o.is o.second at_p o.names in let c : length t.nodes ≡ length it.unit.nodes = ap length made_by.elaborated.nodes_are in omega (arith, few, c))
        ∙ duration_is

    -- ---- its type

    unlike : is_function (slice_index_or typing.declared p Unclear) ≡ false
    unlike = ap is_function o.object

    adjusted : adjusted_type (named_at file t it p) ≡ named_at file t it p
    adjusted = head_adjusts (named_at file t it p) _ (declarator_head file t it x p token o.parameter here (ap is_parameter_kind o.is) o.second name_tree)

    complete : whole_object (is_complete_at t.nodes d) (named_at file t it p) ≡ true
    complete =
        whole_alike t.nodes d (named_at file t it x) (named_at file t it p) (parameter_head file t it x p token o.parameter here (ap is_parameter_kind o.is) o.second name_tree) adjusted
        (subst (λ ns. whole_object (is_complete_at ns d) (named_at file t it x) ≡ true) tree_nodes
        (parameter_whole file t it o.name d q o.own o.defines o.body l o.next o.place x p in_list (ap (λ y. slice_get (early.parts_if y) 1) here ∙ o.second) is_listed.low low_p
        (no_function_there file t it x p token o.parameter here (ap is_parameter_kind o.is) o.second name_tree)))
      where
        low_p : p < d
        low_p = let one = part_p.below in let two = is_listed.low in omega (arith, one, two)

        in_list : slice_get (parameter_nodes tree.nodes.now (list_in tree.nodes.now (Some l))) o.place ≡ Some x
        in_list = ap (λ ns. slice_get (parameter_nodes ns (list_in ns (Some l))) o.place) tree_nodes ∙ o.listed

    its_object : HasObject file t it d p token
    its_object =
        let mine = has_own file t it x p token o.parameter part_p.own o.at o.is o.second at_p o.names in
        record {
          node = node;
          own = mine.node;
          at = mine.at;
          is = mine.is;
          first = mine.first;
          automatic = automatic;
          word = own_head file t it x p token o.parameter part_p.own o.at o.is o.second at_p o.names unlike;
          adjusted = adjusted;
          complete = complete;
        }

pub objects : Laws.ParametersAreObjects
objects file t it d x p token o = its_object file t it d x p token o
