-- A definition whose own parameters end in `...` would be a refused form of the grammar (C11 6.9.1).
use Rattle.std.proofs.Common.{◌≡◌, ℕ, zero, suc, ◌+◌, ◌<◌, ◌≤◌, ◌==◌, Bool, true, false, List, [], ◌∷◌, Option, None, Some, length, slice_get, slice_index_or, ◌⊎◌, inl, inr, refl, sym, ap, subst, ◌∙◌, arith, if◌then◌else◌}
use Rattle.std.proofs.lemmas.Bool.{false≢true, and_from, or_left, eq-eqb}
use Rattle.std.proofs.lemmas.Option.{same_Some}
use Rattle.cr_syntax.specs.declared.node.Kind.{Kind}
use Rattle.cr_syntax.specs.declared.node.Kind.TheVariants as kind
use Rattle.cr_syntax.specs.declared.node.Node.{Node}
use Rattle.cr_syntax.specs.declared.part.Part.TheVariants as part
use Rattle.cr_syntax.specs.declared.word.Word.TheVariants as word
use Rattle.cr_syntax.specs.Words.{Lexeme, lexemes_of}
use Rattle.cr_syntax.specs.Symbols as symbol
use Rattle.cr_syntax.specs.Grammar.{Side, part as needed}
use Rattle.cr_syntax.specs.Tables.{rule_of, side_of}
use Rattle.cr_syntax.specs.Kept.{AreBelow, row_in}
use Rattle.cr_syntax.specs.Spells.{Upto, Is}
use Rattle.cr_syntax.specs.Trees.{Trees, node as tree_node}
use Rattle.cr_syntax.specs.Units.{Completes, Has, has_here, has_after, most_levels, own_parameters, after_first, ellipsis_at, one_begins_at, variadic_definition, Outside, variadic_function}
use Rattle.cr_syntax.proofs.Arena.{row_at, below_first, below_rest}
use Rattle.cr_syntax_machine_laws.proofs.MachineOwn.{lets_upto, within_other}
use Rattle.cr_syntax_nodes.specs.Laid.{stands_for, IsLaid}
use Rattle.cr_syntax_nodes.specs.Nodes.{Rises}
use Rattle.cr_syntax_nodes.proofs.Made.{forth, made_in, rises}
use Rattle.cr_syntax_nodes.proofs.Numbers.{some_at, occurs}
use Rattle.cr_scopes_events.specs.declared.declarator.Derivation.TheVariants as derivation
use Rattle.cr_scopes_events.specs.Declarators.{declarator_of}
use Rattle.cr_scopes_events.specs.Scripts as scripts
use Rattle.cr_scopes_linkage.specs.Shared.Origins.{IsDeclarer}
use Rattle.cr_check_expressions.specs.declared.known.Declared.TheVariants.{Function, TypeName, Unclear}
use Rattle.cr_check_declarators.specs.declared.words.Class.{Class}
use Rattle.cr_check_declarators.specs.declared.declarator.Declarator.{Declarator}
use Rattle.cr_check_declarations.specs.Before.{Before, kind_if, parts_if, kind_in, specified_in, type_in}
use Rattle.cr_check_declarations.specs.Named.{is_declarator, class_of, is_typedef, is_initialised, is_variadic_list, is_variadic, value_by, specifiers_in, declaration_of}
use Rattle.cr_check_declarations.specs.Faults.{Has as HasNode, has_at, place_of, name_token, whole_faults}
use Rattle.cr_check_unit.specs.Typing.{cut, entry_at, before_in}
use Rattle.cr_typed.specs.declared.typed.Typed.{Typed}
use Rattle.cr_meaning_typing.specs.Typed.Laws.{HoldsAll}
use Rattle.cr_meaning_declarations.proofs.UnitsLemmas.Handing.{laid_at, parts_below}
use Rattle.cr_meaning_types.specs.Known.Shaped.{fits}
use Rattle.cr_meaning_types.proofs.KnownLemmas.Declaring.{declarator_holds, in_place as well_placed}
use Rattle.cr_meaning_types.proofs.KnownLemmas.Naming.{holds_all}
use Rattle.cr_meaning_declarations.specs.Declared.Files.{IsUnitOfFile}
use Rattle.cr_meaning_declarations.proofs.DeclaredLemmas.Nodes.{unit_tokens}
use Rattle.cr_meaning_declarations.proofs.DeclaredLemmas.Files.{has_unit}
use Rattle.cr_meaning_declarations.proofs.NamesLemmas.Leaves.{opened}
use Rattle.cr_meaning_objects.proofs.ParametersLemmas.Lists.{good}
use Rattle.cr_meaning_objects.proofs.ChainedLemmas.Known.{is_typing, holds, nodes_are, owned, there, definition_declares, IsOwned}
use Rattle.cr_meaning_objects.proofs.ObjectsLemmas.Alone.{declared_is}
use Rattle.cr_meaning_objects.proofs.CalledLemmas.Meant.{is_alike}
use Rattle.cr_meaning_objects.proofs.CalledLemmas.Fitting.{function_holds}
use Rattle.cr_meaning_objects.specs.Closed.Laws
use Rattle.cr_meaning_objects.proofs.ClosedLemmas.Own.{IsOwn, own_list}
use Rattle.cr_meaning_references.proofs.TreesLemmas.Shaped.{shaped}

-- what declares a function has the declarator of one next to its name
function_made : (c : Bool) (nodes : List Node) (of : Option Class) (f : Option ℕ) (row x : ℕ) (more : Bool) → (if c then TypeName else value_by nodes of f row) ≡ Function x more
    → (l : ℕ) × ((f ≡ Some l) × (is_variadic nodes l ≡ more))
function_made true nodes of f row x more e = absurd cc
function_made false nodes of None row x more e = absurd cc
function_made false nodes of (Some l) row x more e = (l, (refl, cc))

only_variadic : (k : Kind) → is_variadic_list (Some k) ≡ true → k ≡ kind.VariadicParameters
only_variadic kind.VariadicParameters h = refl
only_variadic k h = absurd (false≢true h)

only_block : (k : Kind) → stands_for part.Compound k ≡ true → k ≡ kind.Compound
unfolding rule_of
only_block kind.Compound h = refl
only_block k h = absurd (false≢true h)

block_opens : (ts : List Lexeme) (t : Trees) (i j : ℕ) → IsLaid ts (side_of kind.Compound) t i j → Is ts i word.LeftBrace
unfolding rule_of
block_opens ts t i j h = h.0

-- a node of a row is in its trees
among_row : (nodes : List Node) (low : (k : ℕ) (n : Node) → slice_get nodes k ≡ Some n → AreBelow n.parts k) (test : Kind → ℕ → ℕ → Trees → Bool) (ps : List ℕ) → AreBelow ps (length nodes)
    → (k d : ℕ) (m : Node) → slice_get ps k ≡ Some d → slice_get nodes d ≡ Some m → test m.kind m.first (m.last + 1) (row_in nodes m.parts) ≡ true → Has test (row_in nodes ps)
among_row nodes low test [] below k d m e at h = absurd cc
among_row nodes low test (p ∷ ps) below zero d m e at h =
    let same : p ≡ d = cc in
    subst (Has test) (sym (row_at nodes low p m ps (ap (slice_get nodes) same ∙ at))) (has_here h)
among_row nodes low test (p ∷ ps) below (suc k) d m e at h =
    let x = some_at nodes p (below_first p ps (length nodes) below) in
    subst (Has test) (sym (row_at nodes low p x.0 ps x.1)) (has_after (among_row nodes low test ps (below_rest p ps (length nodes) below) k d m e at h))

module _ (file : List ℕ) (t : Typed) (it : IsUnitOfFile file t) (token d q k : ℕ) (m : Node) (defines : IsDeclarer t.nodes token d q m) (is : m.kind ≡ kind.FunctionDefinition) (item : slice_get t.items k ≡ Some d) where
  open it use {made_by, typing, tree}
  open has_unit file t it use {unit, nodes_are as same_nodes}

  abbrev ts : List Lexeme
  ts = lexemes_of file it.unit.tokens.list.items

  rise : (p : ℕ) (n : Node) → slice_get t.nodes p ≡ Some n → Rises n.first (n.last + 1) (row_in t.nodes n.parts)
  rise p n at = rises (made_in unit.is_unit.spells (occurs t.nodes unit.below t.items unit.once unit.are (length t.nodes) p n (omega arith) at)).spells

  o : IsOwned file t it token d q m
  o = owned file t it token d q m defines

  -- ---- the list next to the name

  abbrev own : Declarator
  own = (entry_at typing q).own.declarator

  misplaced : own.misplaced ≡ false
  misplaced = by (declaration_of tree.nodes.now tree.above.now q) o.declaration
      (declarator_holds o.node.kind has b tree q o.node o.is (holds_all tree it.checked.checked.texts it.checked.checked.table typing (is_typing file t it) (holds file t it) q o.node (there file t it q o.node o.at)))
    where
      has : HasNode
      has = has_at it.checked.checked.table (entry_at typing q).own

      b : Before
      b = before_in it.checked.checked.table (cut q typing)

      by : (x : Option ℕ) → x ≡ Some d → HoldsAll (whole_faults has b tree q x) → own.misplaced ≡ false
      by None e h = absurd cc
      by (Some x) e h =
          let storage = class_of (specified_in b.specified (specifiers_in tree.nodes.now (Some x))).storage in
          well_placed own (place_of tree q) (is_typedef storage) has.named
          (function_holds has b tree.nodes.now q (place_of tree q) storage (is_initialised (kind_in tree.nodes.now (slice_index_or tree.above.now q None))) (type_in b.named (specifiers_in tree.nodes.now (Some x)))
          (name_token tree.nodes.now q (Some x)) h)

  named : (declarator_of tree.nodes.now q).name ≡ Some token
  named = ap (λ ns. (declarator_of ns q).name) (sym (nodes_are file t it)) ∙ defines.name

  module _ (l : ℕ) (function : own.function ≡ Some l) where
    next : (declarator_of t.nodes q).next ≡ derivation.Function l
    next =
        ap (λ ns. (declarator_of ns q).next) (nodes_are file t it)
        ∙ (good tree it.checked.checked.texts it.checked.checked.table typing (is_typing file t it) (holds file t it) (shaped file t it) q token l named misplaced function).next

    list : IsOwn t.nodes unit.below rise o.node l
    list = own_list t.nodes unit.below rise q l token o.node o.at defines.name next

    -- ---- the parts of the definition

    record HasBody : Type 0 where
      first : ℕ
      rest : List ℕ
      body : ℕ
      own_body : Node
      at : slice_get t.nodes body ≡ Some own_body
      parts : m.parts ≡ first ∷ q ∷ body ∷ rest
      begins : own_body.first ≡ o.node.last + 1
      block : own_body.kind ≡ kind.Compound

    second : slice_get m.parts 1 ≡ Some q
    second = subst (λ x. slice_get m.parts (suc x) ≡ Some defines.part) (defines.first is) defines.is ∙ ap Some (same defines.declares)
      where
        same : (defines.part ≡ q) ⊎ ((scripts.kind_at t.nodes defines.part ≡ Some kind.InitDeclarator) × (slice_get (scripts.parts_at t.nodes defines.part) 0 ≡ Some q)) → defines.part ≡ q
        same (inl e) = e
        same (inr init) =
            let x = (shaped file t it).parts d m (there file t it d m defines.at) 1 defines.part (subst (λ x. slice_get m.parts (suc x) ≡ Some defines.part) (defines.first is) defines.is) in
            let kind_is : Some x.own.kind ≡ Some kind.InitDeclarator = ap scripts.kind_if (sym (ap (λ ns. slice_get ns defines.part) (nodes_are file t it) ∙ x.at)) ∙ init.0 in
            let never : x.own.kind ≡ kind.InitDeclarator = cc in
            absurd (false≢true (ap is_declarator (sym never) ∙ ap (λ c. fits c 1 x.own.kind) (sym is) ∙ x.fits))

    abbrev behind_name : Side
    behind_name = needed part.Declarator ∷ symbol.Enters ∷ needed part.Compound ∷ symbol.Ends ∷ []

    abbrev body_side : Side
    body_side = symbol.Enters ∷ needed part.Compound ∷ symbol.Ends ∷ []

    body_there : (ps : List ℕ) → m.parts ≡ ps → slice_get ps 1 ≡ Some q → AreBelow ps (length t.nodes) → IsLaid unit.tokens (side_of kind.FunctionDefinition) (row_in t.nodes ps) m.first (m.last + 1) → HasBody
    unfolding rule_of
    body_there [] e f b h = absurd cc
    body_there (p ∷ []) e f b h = absurd cc
    body_there (p ∷ r ∷ []) e f b h =
        let x = some_at t.nodes p (below_first p (r ∷ []) (length t.nodes) b) in
        let y = some_at t.nodes r (below_first r [] (length t.nodes) (below_rest p (r ∷ []) (length t.nodes) b)) in
        let g = subst (λ u. IsLaid unit.tokens (side_of kind.FunctionDefinition) u m.first (m.last + 1)) (row_at t.nodes unit.below p x.0 (r ∷ []) x.1) h in
        let z = subst (λ u. IsLaid unit.tokens behind_name u (x.0.last + 1) (m.last + 1)) (row_at t.nodes unit.below r y.0 [] y.1) g.1 in
        absurd z.1
    body_there (p ∷ r ∷ s ∷ ps) e f b h =
        let x = some_at t.nodes p (below_first p (r ∷ s ∷ ps) (length t.nodes) b) in
        let later = below_rest p (r ∷ s ∷ ps) (length t.nodes) b in
        let y = some_at t.nodes r (below_first r (s ∷ ps) (length t.nodes) later) in
        let w = some_at t.nodes s (below_first s ps (length t.nodes) (below_rest r (s ∷ ps) (length t.nodes) later)) in
        let g = subst (λ u. IsLaid unit.tokens (side_of kind.FunctionDefinition) u m.first (m.last + 1)) (row_at t.nodes unit.below p x.0 (r ∷ s ∷ ps) x.1) h in
        let z = subst (λ u. IsLaid unit.tokens behind_name u (x.0.last + 1) (m.last + 1)) (row_at t.nodes unit.below r y.0 (s ∷ ps) y.1) g.1 in
        let v = subst (λ u. IsLaid unit.tokens body_side u (y.0.last + 1) (m.last + 1)) (row_at t.nodes unit.below s w.0 ps w.1) z.1 in
        let same : r ≡ q = same_Some r q f in
        let one : y.0 ≡ o.node = same_Some y.0 o.node (sym y.1 ∙ ap (slice_get t.nodes) same ∙ o.at) in
        record {
          first = p;
          rest = ps;
          body = s;
          own_body = w.0;
          at = w.1;
          parts = e ∙ ap (λ c. p ∷ c ∷ s ∷ ps) same;
          begins = v.0.1 ∙ ap (λ (c : Node). c.last + 1) one;
          block = only_block w.0.kind v.0.0;
        }

    body_is : HasBody
    body_is = body_there m.parts refl second (parts_below t unit d m defines.at) (subst (λ c. IsLaid unit.tokens (side_of c) (row_in t.nodes m.parts) m.first (m.last + 1)) is (laid_at t unit d m defines.at))

    brace : Is ts body_is.own_body.first word.LeftBrace
    brace =
        let b = body_is.own_body in
        subst (λ ls. Is ls b.first word.LeftBrace) (unit_tokens file t it)
        (block_opens unit.tokens (row_in t.nodes b.parts) b.first (b.last + 1) (subst (λ c. IsLaid unit.tokens (side_of c) (row_in t.nodes b.parts) b.first (b.last + 1)) body_is.block (laid_at t unit body_is.body b body_is.at)))

    -- ---- a list that ends in `...`

    record IsVariadic : Type 0 where
      list_node : Node
      tree_is : (others : Trees) × (after_first (row_in t.nodes list.own.parts) ≡ tree_node kind.VariadicParameters list_node.first (list_node.last + 1) (row_in t.nodes list_node.parts) others)
      low : list_node.last ≤ list.own.last

    variadic_list : (ps : List ℕ) → list.own.parts ≡ ps → is_variadic_list (kind_in t.nodes (slice_get ps 1)) ≡ true → AreBelow ps (length t.nodes) → Rises list.own.first (list.own.last + 1) (row_in t.nodes ps) → IsVariadic
    variadic_list [] e h b r = absurd (false≢true h)
    variadic_list (p ∷ []) e h b r = absurd (false≢true h)
    variadic_list (p ∷ v ∷ ps) e h b r =
        let x = some_at t.nodes p (below_first p (v ∷ ps) (length t.nodes) b) in
        let y = some_at t.nodes v (below_first v ps (length t.nodes) (below_rest p (v ∷ ps) (length t.nodes) b)) in
        let one = opened (subst (Rises list.own.first (list.own.last + 1)) (row_at t.nodes unit.below p x.0 (v ∷ ps) x.1) r) in
        let two = opened (subst (Rises (x.0.last + 1) (list.own.last + 1)) (row_at t.nodes unit.below v y.0 ps y.1) one.1.1) in
        let end = forth two.1.1 in
        let kind_is : y.0.kind ≡ kind.VariadicParameters = only_variadic y.0.kind (ap (λ w. is_variadic_list (kind_if w)) (sym y.1) ∙ h) in
        record {
          list_node = y.0;
          tree_is = (
            row_in t.nodes ps,
            ap (λ u. after_first (row_in t.nodes u)) e ∙ ap after_first (row_at t.nodes unit.below p x.0 (v ∷ ps) x.1) ∙ row_at t.nodes unit.below v y.0 ps y.1
                ∙ ap (λ c. tree_node c y.0.first (y.0.last + 1) (row_in t.nodes y.0.parts) (row_in t.nodes ps)) kind_is,
          );
          low = omega (arith, end);
        }

    module _ (variadic : is_variadic tree.nodes.now l ≡ true) where
      v : IsVariadic
      v =
          variadic_list list.own.parts refl
          (ap (λ w. is_variadic_list (kind_in t.nodes (slice_get (parts_if w) 1))) (sym list.at) ∙ ap (λ ns. is_variadic ns l) (nodes_are file t it) ∙ variadic)
          (parts_below t unit l list.own list.at) (rise l list.own list.at)

      abbrev dots : ℕ
      dots = v.list_node.last

      abbrev opening : ℕ
      opening = body_is.own_body.first

      in_order : dots < opening
      in_order = let x = v.low in let y = list.inside in let z = body_is.begins in omega (arith, x, y, z)

      row_is : row_in t.nodes m.parts ≡ row_in t.nodes (body_is.first ∷ q ∷ body_is.body ∷ body_is.rest)
      row_is = ap (row_in t.nodes) body_is.parts

      first_node : (x : Node) × (slice_get t.nodes body_is.first ≡ Some x)
      first_node =
          let b = subst (λ ps. AreBelow ps (length t.nodes)) body_is.parts (parts_below t unit d m defines.at) in
          some_at t.nodes body_is.first (below_first body_is.first (q ∷ body_is.body ∷ body_is.rest) (length t.nodes) b)

      from_name : after_first (row_in t.nodes m.parts) ≡ tree_node o.node.kind o.node.first (o.node.last + 1) (row_in t.nodes o.node.parts) (row_in t.nodes (body_is.body ∷ body_is.rest))
      from_name =
          ap after_first (row_is ∙ row_at t.nodes unit.below body_is.first first_node.0 (q ∷ body_is.body ∷ body_is.rest) first_node.1)
          ∙ row_at t.nodes unit.below q o.node (body_is.body ∷ body_is.rest) o.at

      ends_so : ellipsis_at dots (own_parameters (after_first (row_in t.nodes m.parts))) ≡ true
      ends_so =
          ap (λ u. ellipsis_at dots (own_parameters u)) from_name ∙ ap (ellipsis_at dots) (list.list (row_in t.nodes (body_is.body ∷ body_is.rest)) ∙ v.tree_is.1)
          ∙ eq-eqb (dots + 1) (dots + 1) refl

      begins_so : one_begins_at opening (after_first (after_first (row_in t.nodes m.parts))) ≡ true
      begins_so =
          ap (λ u. one_begins_at opening (after_first u)) from_name ∙ ap (one_begins_at opening) (row_at t.nodes unit.below body_is.body body_is.own_body body_is.rest body_is.at)
          ∙ or_left (opening == opening) (one_begins_at opening (row_in t.nodes body_is.rest)) (eq-eqb opening opening refl)

      test_holds : variadic_definition dots opening m.kind m.first (m.last + 1) (row_in t.nodes m.parts) ≡ true
      test_holds =
          ap (λ c. variadic_definition dots opening c m.first (m.last + 1) (row_in t.nodes m.parts)) is
          ∙ and_from (ellipsis_at dots (own_parameters (after_first (row_in t.nodes m.parts)))) (one_begins_at opening (after_first (after_first (row_in t.nodes m.parts)))) ends_so begins_so

      has_it : Has (variadic_definition dots opening) (row_in it.unit.nodes it.unit.items)
      has_it =
          subst (λ ns. Has (variadic_definition dots opening) (row_in ns it.unit.items)) (sym same_nodes)
          (subst (λ ps. Has (variadic_definition dots opening) (row_in t.nodes ps)) made_by.elaborated.items_are
          (among_row t.nodes unit.below (variadic_definition dots opening) t.items unit.are k d m item defines.at test_holds))

      completes : Completes (Upto opening most_levels) ts (opening + 1) (row_in it.unit.nodes it.unit.items)
      completes = record {
        text = ts;
        alike = λ i x low e. e;
        is_unit = record { after = it.is_tree.is_unit.after; spells = within_other (lets_upto opening most_levels (length ts)) it.is_tree.is_unit.spells };
      }

      outside : Outside ts dots 8
      outside = variadic_function opening in_order brace completes has_it

      never : ⊥
      never = it.is_tree.inside dots 8 outside

  takes_no_more : (row : ℕ) (more : Bool) → slice_index_or typing.declared q Unclear ≡ Function row more → more ≡ false
  takes_no_more row more e =
      let f = function_made _ tree.nodes.now _ own.function (entry_at typing q).own.named row more (sym (declared_is file t it d m defines.at defines.external q o.node o.at o.names o.declaration) ∙ e) in
      by more (f.0) f.1.0 f.1.1
    where
      by : (b : Bool) (l : ℕ) → own.function ≡ Some l → is_variadic tree.nodes.now l ≡ b → b ≡ false
      by false l function h = refl
      by true l function h = absurd (never l function h)

pub closed : Laws.DefinitionsTakeNoMore
closed file t it token d q k m defines is item row more e = takes_no_more file t it token d q k m defines is item row more e

pub calls_closed : Laws.CallsTakeNoMore
calls_closed file t it i d k signature stands meant item =
    let own = definition_declares file t it meant.name d meant.whole meant.own meant.defines meant.body in
    sym ((is_alike file t it i d signature stands meant).more own.0 own.1.0 own.1.1)
    ∙ takes_no_more file t it meant.name d meant.whole k meant.own meant.defines meant.body item own.0 own.1.0 own.1.1
