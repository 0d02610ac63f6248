-- What declares a function where a call sees it is a declarator of a declaration or a definition (C11 6.2.1p4, 6.7.6.3, K8, K11).
use Rattle.std.proofs.Common.{◌≡◌, ℕ, zero, suc, ◌+◌, ◌<◌, ◌&&◌, ◌⊎◌, inl, inr, Bool, true, false, List, [], ◌∷◌, Option, None, Some, length, take, nat_lt, slice_get, slice_index_or, refl, sym, ap, subst, ◌∙◌, arith, if◌then◌else◌}
use Rattle.std.specs.Option.{is_some}
use Rattle.std.proofs.lemmas.Bool.{false≢true, and_parts, cases_lt}
use Rattle.std.proofs.lemmas.List.{get_or_past, get_or-take, length-take}
use Rattle.std.proofs.lemmas.Option.{slice_get_within, same_Some}
use Rattle.cr_syntax.specs.declared.node.Kind.{Kind}
use Rattle.cr_syntax.specs.declared.node.Kind.TheVariants as kind
use Rattle.cr_syntax.specs.declared.node.Node.{Node}
use Rattle.cr_syntax.specs.declared.part.Part.TheVariants as part
use Rattle.cr_syntax.specs.Symbols as symbol
use Rattle.cr_syntax.specs.Grammar.{Side, part as needed}
use Rattle.cr_syntax.specs.Tables.{rule_of, side_of}
use Rattle.cr_syntax.specs.Kept.{AreBelow, row_in}
use Rattle.cr_syntax.proofs.Arena.{row_at, below_first, below_rest}
use Rattle.cr_syntax_nodes.specs.Laid.{stands_for, IsLaid}
use Rattle.cr_syntax_nodes.proofs.Numbers.{some_at}
use Rattle.cr_scopes_events.specs.Declarators.{declarator_of}
use Rattle.cr_scopes_events.specs.Scripts as scripts
use Rattle.cr_scopes_events.specs.declared.event.Event.{Event}
use Rattle.cr_scopes.specs.Resolved.{past_of}
use Rattle.cr_scopes.specs.Spelled.{name_of}
use Rattle.cr_scopes.specs.States.{name_in}
use Rattle.cr_scopes.specs.Units.{unit_events}
use Rattle.cr_scopes_bindings.specs.Bindings.{entry_if}
use Rattle.cr_scopes_bindings.specs.Nodes.{named_by, named_if, name_at}
use Rattle.cr_scopes_bindings.specs.Visible.{visible}
use Rattle.cr_scopes_linkage.specs.Shared.Origins.{is_external, IsDeclarer}
use Rattle.cr_scopes_visibility.specs.Sight.Scopes.{is_using}
use Rattle.cr_scopes_visibility.specs.Told.Told.{is_declaration, AreApart, IsHeld, IsDeclarator, IsEnumerator, IsDeclaredBelow, IsTold}
use Rattle.cr_scopes_visibility.proofs.ToldLemmas.Walks.{told}
use Rattle.cr_scopes_visibility.specs.Uses.Uses.{Finds}
use Rattle.cr_scopes_visibility.proofs.UsesLemmas.Finding.{all_find}
use Rattle.cr_check_enclosing.specs.declared.context.Around.{Around}
use Rattle.cr_check_enclosing.specs.declared.context.Place.TheVariants as place
use Rattle.cr_check_enclosing.specs.Around.{outermost}
use Rattle.cr_check_types.specs.Types.{Qualified, type_at}
use Rattle.cr_check_expressions.specs.declared.known.Declared.{Declared}
use Rattle.cr_check_expressions.specs.declared.known.Declared.TheVariants.{Object, Enumerator, Function, TypeName, Unclear}
use Rattle.cr_check_expressions.specs.Known.{Signature, a_function, meaning_by, declared_by as stands_by, parameters_in}
use Rattle.cr_check_declarators.specs.declared.declarator.Declarator.{Declarator}
use Rattle.cr_check_declarators.specs.declared.linkages.Declaration.{Declaration}
use Rattle.cr_check_declarators.specs.declared.words.Specified.{Specified}
use Rattle.cr_check_declarators.specs.Linkages.{linkage_of}
use Rattle.cr_check_declarations.specs.declared.tree.Tree.{Tree}
use Rattle.cr_check_declarations.specs.Named.{is_declarator, class_of, specifiers_in, declaration_of}
use Rattle.cr_check_declarations.specs.Before.{specified_in}
use Rattle.cr_check_declarations.specs.Faults.{is_specifier, place_of}
use Rattle.cr_check_linkage.specs.Linked.{linked_in, linkage_in, linkage_by}
use Rattle.cr_check_signatures.specs.Functions.Linked.{has_linkage, IsFunction}
use Rattle.cr_check_signatures.proofs.FunctionsLemmas.Linked.{functions}
use Rattle.cr_check_surroundings.specs.Named.{used_by, used_name, visible_if}
use Rattle.cr_check_surroundings.specs.Raised.{initialises, raised_by, raised_if, raised, raised_of}
use Rattle.cr_check_unit.specs.Typing.{cut, entry_at, before_in, past_in}
use Rattle.cr_typed.specs.declared.typed.Typed.{Typed}
use Rattle.cr_meaning_typing.specs.Judged.Judged.{source_of}
use Rattle.cr_meaning_declarations.proofs.UnitsLemmas.Handing.{laid_at, parts_below}
use Rattle.cr_meaning_types.specs.Known.Shaped.{fits}
use Rattle.cr_meaning_declarations.specs.Declared.Files.{IsUnitOfFile}
use Rattle.cr_meaning_declarations.proofs.DeclaredLemmas.Files.{has_unit}
use Rattle.cr_meaning_declarations.proofs.DeclaredLemmas.Once.{place_init as init_place}
use Rattle.cr_meaning_references.proofs.ToldLemmas.Names.{last_is, initial}
use Rattle.cr_meaning_references.proofs.ToldLemmas.Orderly.{apart, named_within}
use Rattle.cr_meaning_references.proofs.TreesLemmas.Shaped.{shaped}
use Rattle.cr_meaning_objects.specs.Chained.Laws.{DeclaresFunction}
use Rattle.cr_meaning_objects.proofs.ChainedLemmas.Known.{is_typing, holds, nodes_are}
use Rattle.cr_meaning_objects.proofs.ChainedLemmas.Chained.{no_init}
use Rattle.cr_meaning_objects.proofs.ParametersLemmas.Parameters.{parameter_place}
use Rattle.cr_meaning_files.specs.Meant as Laws
use Rattle.cr_meaning_files.specs.Meant.{SeesFunction}

-- ---- kinds

-- a declarator, with its initialiser or without
abbrev names_by : Kind → Bool
names_by kind.InitDeclarator = true
names_by k = is_declarator k

named : (k : Kind) → is_declarator k ≡ true → names_by k ≡ true
named kind.InitDeclarator h = refl
named k h = h

no_specifier : (k : Kind) → names_by k ≡ true → is_specifier k ≡ true → ⊥
no_specifier kind.NameDeclarator h g = false≢true g
no_specifier kind.GroupDeclarator h g = false≢true g
no_specifier kind.PointerDeclarator h g = false≢true g
no_specifier kind.ArrayDeclarator h g = false≢true g
no_specifier kind.FunctionDeclarator h g = false≢true g
no_specifier kind.AbstractPointer h g = false≢true g
no_specifier kind.AbstractGroup h g = false≢true g
no_specifier kind.AbstractArray h g = false≢true g
no_specifier kind.AbstractArrayOf h g = false≢true g
no_specifier kind.InitDeclarator h g = false≢true g
no_specifier k h g = false≢true h

no_block : (k : Kind) → stands_for part.Compound k ≡ true → names_by k ≡ true → ⊥
unfolding rule_of
no_block kind.Compound h g = false≢true g
no_block k h g = false≢true h

name_kind : (k : Kind) (first token : ℕ) (o : Option ℕ) → is_declarator k ≡ true → named_by k first o ≡ Some token → o ≡ Some token
name_kind kind.Enumerator first token o h e = absurd (false≢true h)
name_kind k first token o h e = e

-- a parameter has no linkage (6.2.2p6)
parameter_alone : (u : Tree) (said : ℕ → Specified) (own : Declarator) (before : Option Declaration) (i : ℕ) (o : Option ℕ) → place_of u i ≡ place.Parameter → has_linkage (linkage_by u said own before i o) ≡ false
parameter_alone u said own before i None e = refl
parameter_alone u said own before i (Some d) e =
    ap (λ p. has_linkage (linkage_of p (class_of (specified_in said (specifiers_in u.nodes.now (Some d))).storage) (is_some own.function) (linkage_in before))) e

function_declared : (look : ℕ → Qualified) (rows : List ℕ) (d : Declared) (s : Signature) → meaning_by look rows d ≡ a_function s → (row : ℕ) × ((more : Bool) × (d ≡ Function row more))
function_declared look rows (Function row more) s e = (row, (more, refl))
function_declared look rows (Object row register) s e = absurd cc
function_declared look rows (Enumerator value) s e = absurd cc
function_declared look rows TypeName s e = absurd cc
function_declared look rows Unclear s e = absurd cc

-- what is read behind an initialised declarator is the whole of it
abbrev IsRaised : List Node → List (Option ℕ) → ℕ → ℕ → Type 0
IsRaised nodes above r i = (raised nodes above r i ≡ r) ⊎ ((a : ℕ) × ((m : Node) × ((raised nodes above r i ≡ a) × ((slice_get nodes a ≡ Some m) × (m.kind ≡ kind.InitDeclarator)))))

raised_is : (nodes : List Node) (above : List (Option ℕ)) (r i : ℕ) → IsRaised nodes above r i
raised_is nodes above r i = over (slice_index_or above r None) refl
  where
    choice : (a : ℕ) (m : Node) → slice_get nodes a ≡ Some m → (b : Bool) → (initialises m.kind m.parts r && nat_lt a i) ≡ b → raised nodes above r i ≡ (if b then a else r) → IsRaised nodes above r i
    choice a m at false q e = inl e
    choice a m at true q e = inr (a, (m, (e, (at, (initial m.kind m.parts r (and_parts (initialises m.kind m.parts r) (nat_lt a i) q).0).0))))

    node : (a : ℕ) (o : Option Node) → slice_get nodes a ≡ o → raised nodes above r i ≡ raised_by o a r i → IsRaised nodes above r i
    node a None at e = inl e
    node a (Some m) at e = choice a m at (initialises m.kind m.parts r && nat_lt a i) refl e

    over : (o : Option ℕ) → slice_index_or above r None ≡ o → IsRaised nodes above r i
    over None q = inl (ap (λ o. raised_if nodes o r i) q)
    over (Some a) q = node a (slice_get nodes a) refl (ap (λ o. raised_if nodes o r i) q)

module _ (file : List ℕ) (t : Typed) (it : IsUnitOfFile file t) where
  open it use {made_by, typing, shapes, tree}
  open has_unit file t it use {unit, nodes_are as same_nodes}

  in_tree : (p : ℕ) (n : Node) → slice_get t.nodes p ≡ Some n → slice_get tree.nodes.now p ≡ Some n
  in_tree p n at = ap (λ ns. slice_get ns p) (sym (nodes_are file t it)) ∙ at

  -- ---- what holds a declarator

  abbrev behind_name : Side
  behind_name = needed part.Declarator ∷ symbol.Enters ∷ needed part.Compound ∷ symbol.Ends ∷ []

  abbrev body_side : Side
  body_side = symbol.Enters ∷ needed part.Compound ∷ symbol.Ends ∷ []

  abbrev IsLaidOut : Side → List ℕ → ℕ → ℕ → Type 0
  IsLaidOut side ps i j = IsLaid unit.tokens side (row_in t.nodes ps) i j

  -- behind its declarator a definition has a block
  block_there : (ps : List ℕ) (i j : ℕ) → AreBelow ps (length t.nodes) → IsLaidOut (side_of kind.FunctionDefinition) ps i j → (k r : ℕ) → slice_get ps (suc (suc k)) ≡ Some r
      → (x : Node) → slice_get t.nodes r ≡ Some x → stands_for part.Compound x.kind ≡ true
  unfolding rule_of
  block_there [] i j b h k r e x at = absurd cc
  block_there (p ∷ []) i j b h k r e x at = absurd cc
  block_there (p ∷ q ∷ []) i j b h k r e x at = absurd cc
  block_there (p ∷ q ∷ s ∷ ps) i j b h k r e x at = by k e
    where
      later : AreBelow (q ∷ s ∷ ps) (length t.nodes)
      later = below_rest p (q ∷ s ∷ ps) (length t.nodes) b

      latest : AreBelow (s ∷ ps) (length t.nodes)
      latest = below_rest q (s ∷ ps) (length t.nodes) later

      m : (m : Node) × (slice_get t.nodes p ≡ Some m)
      m = some_at t.nodes p (below_first p (q ∷ s ∷ ps) (length t.nodes) b)

      n : (n : Node) × (slice_get t.nodes q ≡ Some n)
      n = some_at t.nodes q (below_first q (s ∷ ps) (length t.nodes) later)

      o : (o : Node) × (slice_get t.nodes s ≡ Some o)
      o = some_at t.nodes s (below_first s ps (length t.nodes) latest)

      own : stands_for part.Compound o.0.kind ≡ true
      own =
          let g = subst (λ u. IsLaid unit.tokens (side_of kind.FunctionDefinition) u i j) (row_at t.nodes unit.below p m.0 (q ∷ s ∷ ps) m.1) h in
          let y = subst (λ u. IsLaid unit.tokens behind_name u (m.0.last + 1) j) (row_at t.nodes unit.below q n.0 (s ∷ ps) n.1) g.1 in
          (subst (λ u. IsLaid unit.tokens body_side u (n.0.last + 1) j) (row_at t.nodes unit.below s o.0 ps o.1) y.1).0.0

      no_more : (ps : List ℕ) (a : ℕ) → AreBelow ps (length t.nodes) → IsLaidOut (symbol.Ends ∷ []) ps a j → (k : ℕ) → slice_get ps k ≡ Some r → ⊥
      no_more [] a c g k f = cc
      no_more (y ∷ ys) a c g k f =
          let z = some_at t.nodes y (below_first y ys (length t.nodes) c) in subst (λ u. IsLaid unit.tokens (symbol.Ends ∷ []) u a j) (row_at t.nodes unit.below y z.0 ys z.1) g

      end : IsLaidOut (symbol.Ends ∷ []) ps (o.0.last + 1) j
      end =
          let g = subst (λ u. IsLaid unit.tokens (side_of kind.FunctionDefinition) u i j) (row_at t.nodes unit.below p m.0 (q ∷ s ∷ ps) m.1) h in
          let y = subst (λ u. IsLaid unit.tokens behind_name u (m.0.last + 1) j) (row_at t.nodes unit.below q n.0 (s ∷ ps) n.1) g.1 in
          (subst (λ u. IsLaid unit.tokens body_side u (n.0.last + 1) j) (row_at t.nodes unit.below s o.0 ps o.1) y.1).1

      by : (k : ℕ) → slice_get (p ∷ q ∷ s ∷ ps) (suc (suc k)) ≡ Some r → stands_for part.Compound x.kind ≡ true
      by zero f =
          let same : s ≡ r = cc in
          let one : o.0 ≡ x = same_Some o.0 x (sym o.1 ∙ ap (slice_get t.nodes) same ∙ at) in
          subst (λ (w : Node). stands_for part.Compound w.kind ≡ true) one own
      by (suc k) f = absurd (no_more ps (o.0.last + 1) (below_rest s ps (length t.nodes) latest) end k f)

  -- a part that names is one of a declaration behind its specifiers, the first behind those of a definition, or a parameter's
  data IsHolder (d place : ℕ) (m : Node) : Type 0 where
    of_declaration : (k : ℕ) → place ≡ suc k → m.kind ≡ kind.Declaration → IsHolder d place m
    of_definition : place ≡ 1 → m.kind ≡ kind.FunctionDefinition → IsHolder d place m
    of_parameter : m.kind ≡ kind.Parameter → IsHolder d place m

  holder : (p : ℕ) (x : Node) (h : IsHeld t.nodes p) → slice_get t.nodes p ≡ Some x → names_by x.kind ≡ true → IsHolder h.declaration h.place h.node
  holder p x h at names = by h.node.kind refl h.declares h.place h.is
    where
      has : (k : ℕ) → slice_get h.node.parts k ≡ Some p → fits h.node.kind k x.kind ≡ true
      has k e =
          let w = (shaped file t it).parts h.declaration h.node (in_tree h.declaration h.node h.at) k p e in
          let one : w.own ≡ x = same_Some w.own x (sym w.at ∙ in_tree p x at) in
          subst (λ (y : Node). fits h.node.kind k y.kind ≡ true) one w.fits

      by : (c : Kind) → h.node.kind ≡ c → is_declaration c ≡ true → (k : ℕ) → slice_get h.node.parts k ≡ Some p → IsHolder h.declaration k h.node
      by kind.Declaration is d zero e = absurd (no_specifier x.kind names (ap (λ c. fits c 0 x.kind) (sym is) ∙ has 0 e))
      by kind.Declaration is d (suc k) e = of_declaration k refl is
      by kind.FunctionDefinition is d zero e = absurd (no_specifier x.kind names (ap (λ c. fits c 0 x.kind) (sym is) ∙ has 0 e))
      by kind.FunctionDefinition is d (suc zero) e = of_definition refl is
      by kind.FunctionDefinition is d (suc (suc k)) e =
          absurd (no_block x.kind
          (block_there h.node.parts h.node.first (h.node.last + 1) (parts_below t unit h.declaration h.node h.at)
          (subst (λ c. IsLaidOut (side_of c) h.node.parts h.node.first (h.node.last + 1)) is (laid_at t unit h.declaration h.node h.at)) k p e x at) names)
      by kind.Parameter is d k e = of_parameter is
      by c is d k e = absurd (false≢true d)

  function_at : (p : ℕ) → DeclaresFunction typing p → IsFunction tree shapes typing p
  function_at p f = functions tree it.checked.checked.texts shapes typing (is_typing file t it) (holds file t it) p f.0 f.1.0 f.1.1

  -- ---- the declaration of a declarator

  record IsDeclared (token r : ℕ) : Type 0 where
    declaration : ℕ
    node : Node
    is : IsDeclarer t.nodes token declaration r node

  module _ (token r : ℕ) (f : DeclaresFunction typing r) (name : name_at t.nodes r ≡ Some token) where
    own : IsFunction tree shapes typing r
    own = function_at r f

    at : slice_get t.nodes r ≡ Some own.node
    at = ap (λ ns. slice_get ns r) (nodes_are file t it) ∙ own.at

    name_is : (declarator_of t.nodes r).name ≡ Some token
    name_is = name_kind own.node.kind own.node.first token (declarator_of t.nodes r).name own.is (sym (ap (λ o. named_if o (declarator_of t.nodes r).name) at) ∙ name)

    alone : place_of tree r ≡ place.Parameter → ⊥
    alone e =
        false≢true (sym (parameter_alone tree (before_in shapes (cut r typing)).specified (entry_at typing r).own.declarator
        (linked_in (past_in shapes (cut r typing)).linked (slice_index_or tree.earlier.now r None)) r (declaration_of tree.nodes.now tree.above.now r) e) ∙ own.has)

    no_definition : (k : Kind) → k ≡ kind.Declaration → k ≡ kind.FunctionDefinition → ⊥
    no_definition k e g = let never : kind.Declaration ≡ kind.FunctionDefinition = sym e ∙ g in cc

    -- by the part that is it, or that initialises it
    made : (part : ℕ) (h : IsHeld t.nodes part) → IsHolder h.declaration h.place h.node → (h.node.kind ≡ kind.Parameter → ⊥)
        → (part ≡ r) ⊎ ((scripts.kind_at t.nodes part ≡ Some kind.InitDeclarator) × (slice_get (scripts.parts_at t.nodes part) 0 ≡ Some r)) → IsDeclared token r
    made part h (of_declaration k e is) none declares = record {
      declaration = h.declaration;
      node = h.node;
      is = record {
        at = h.at;
        external = ap is_external is;
        place = k;
        first = λ g. absurd (no_definition h.node.kind is g);
        part = part;
        is = subst (λ x. slice_get h.node.parts x ≡ Some part) e h.is;
        declares = declares;
        name = name_is;
      };
    }
    made part h (of_definition e is) none declares = record {
      declaration = h.declaration;
      node = h.node;
      is = record {
        at = h.at;
        external = ap is_external is;
        place = 0;
        first = λ g. refl;
        part = part;
        is = subst (λ x. slice_get h.node.parts x ≡ Some part) e h.is;
        declares = declares;
        name = name_is;
      };
    }
    made part h (of_parameter is) none declares = absurd (none is)

    placed : (p : ℕ) (h : IsHeld t.nodes p) → h.node.kind ≡ kind.Parameter → place_of tree p ≡ place.Parameter
    placed p h is =
        ap (λ (x : Around). x.place) ((shaped file t it).parts h.declaration h.node (in_tree h.declaration h.node h.at) h.place p h.is).around
        ∙ parameter_place h.node.kind h.declaration (slice_index_or tree.around.now h.declaration outermost) is

    declared : IsDeclarator t.nodes r → IsDeclared token r
    declared (inl h) = made r h (holder r own.node h at (named own.node.kind own.is)) (λ is. alone (placed r h is)) (inl refl)
    declared (inr h) =
        made h.outer h.held (holder h.outer h.node h.held h.at (ap names_by h.initialises))
        (λ is. alone (ap (λ (x : Around). x.place) ((shaped file t it).parts h.outer h.node (in_tree h.outer h.node h.at) 0 r h.is).around
        ∙ init_place h.node.kind h.outer (slice_index_or tree.around.now h.outer outermost) h.initialises ∙ placed h.outer h.held is))
        (inr (ap scripts.kind_if h.at ∙ ap Some h.initialises, ap (λ o. slice_get (scripts.parts_if o) 0) h.at ∙ h.is))

    -- and it is no enumerator
    any : IsDeclarator t.nodes r ⊎ IsEnumerator t.nodes r → IsDeclared token r
    any (inl h) = declared h
    any (inr h) =
        let one : own.node ≡ h.node = same_Some own.node h.node (sym at ∙ h.at) in
        absurd (false≢true (ap is_declarator (sym h.is) ∙ ap (λ (x : Node). is_declarator x.kind) (sym one) ∙ own.is))

  -- ---- what a call sees

  module _ (i : ℕ) (n : Node) (here : slice_get t.nodes i ≡ Some n) (is : n.kind ≡ kind.Call) (signature : Signature) (stands : (source_of tree it.checked.checked i).stands i ≡ a_function signature) where
    open has_unit file t it use {order}

    there : slice_get it.unit.nodes i ≡ Some n
    there = ap (λ ns. slice_get ns i) same_nodes ∙ here

    count : length t.tokens ≡ length it.unit.tokens.list.items
    count = ap length made_by.elaborated.tokens_are

    pub few : n.first < length it.unit.tokens.list.items
    few = let w = unit.within i n here in let low = w.0 in let high = w.1 in let c = count in omega (arith, low, high, c)

    abbrev past : List Event
    past = past_of (unit_events it.unit) (length (unit_events it.unit))

    pub use_told : IsTold it.unit.nodes n.first i past
    use_told = told it.unit.tokens.list.items it.unit.nodes it.unit.items it.listed (subst AreApart (sym same_nodes) (apart t unit order)) i n there (ap is_using is)

    finds : Finds (name_of file it.unit.tokens.list.items) n.first past
    finds = all_find (name_of file it.unit.tokens.list.items) (unit_events it.unit) n.first it.known.right use_told.used

    below : IsDeclaredBelow it.unit.nodes finds.declared i
    below = use_told.behind finds.declared finds.before

    abbrev r : ℕ
    r = below.declarer

    abbrev p : ℕ
    p = raised it.unit.nodes it.checked.checked.surroundings.above r i

    name : name_at t.nodes r ≡ Some finds.declared
    name = ap (λ ns. name_at ns r) (sym same_nodes) ∙ below.names

    low : finds.declared < length it.unit.tokens.list.items
    low = let w = named_within t unit order r finds.declared name in let c = count in omega (arith, w, c)

    spelled : name_in it.checked.checked.surroundings.bindings.spellings ≡ name_of file it.unit.tokens.list.items
    spelled = λ j x. made_by.is.surroundings.bindings.spellings.each x j

    column : slice_index_or it.checked.checked.surroundings.bindings.visible n.first None ≡ Some finds.declared
    column = made_by.is.surroundings.bindings.visible.each n.first few ∙ ap (λ f. visible f past n.first) spelled ∙ finds.is

    declarer : slice_index_or it.checked.checked.surroundings.bindings.declarers finds.declared None ≡ Some r
    declarer =
        made_by.is.surroundings.bindings.declarers.each finds.declared low
        ∙ last_is (name_at it.unit.nodes) (length it.unit.nodes) finds.declared r below.names (let w = slice_get_within it.unit.nodes i n there in let less = below.below in omega (arith, w, less)) below.last

    sees : slice_index_or tree.visible.now i None ≡ Some p
    sees =
        ap (λ vs. slice_index_or vs i None) made_by.is.whole.tree.visible
        ∙ made_by.is.surroundings.visible.each i (slice_get_within it.unit.nodes i n there)
        ∙ ap (λ o. raised_of it.unit.nodes it.checked.checked.surroundings.above (visible_if it.checked.checked.surroundings.bindings (used_name o)) i) there
        ∙ ap (λ k. raised_of it.unit.nodes it.checked.checked.surroundings.above (visible_if it.checked.checked.surroundings.bindings (used_by k n.first)) i) is
        ∙ ap (λ o. raised_of it.unit.nodes it.checked.checked.surroundings.above (entry_if it.checked.checked.surroundings.bindings.declarers o) i) column
        ∙ ap (λ o. raised_of it.unit.nodes it.checked.checked.surroundings.above o i) declarer

    abbrev look : ℕ → Qualified
    look = type_at shapes

    declares_it : DeclaresFunction typing p
    declares_it = elim (cases_lt p i) [
      | inl less ↦ (so.0, (so.1.0, sym (get_or-take i typing.declared p Unclear less) ∙ so.1.1))
      | inr far ↦
          (let few = length-take i typing.declared in
          let none : slice_index_or (take i typing.declared) p Unclear ≡ Unclear = get_or_past (take i typing.declared) p Unclear (omega (arith, few, far)) in
          let never : Unclear ≡ Function so.0 so.1.0 = sym none ∙ so.1.1 in
          absurd cc)
    ]
      where
        so : (row : ℕ) × ((more : Bool) × (slice_index_or (take i typing.declared) p Unclear ≡ Function row more))
        so =
            function_declared look (slice_index_or (take i typing.parameters) p []) (slice_index_or (take i typing.declared) p Unclear) signature
            (ap (λ o. meaning_by look (parameters_in (take i typing.parameters) o) (stands_by (take i typing.declared) o)) (sym sees) ∙ stands)

    whole_is : p ≡ r
    whole_is = elim (raised_is it.unit.nodes it.checked.checked.surroundings.above r i) [
      | inl e ↦ e
      | inr x ↦
          (let fn = function_at p declares_it in
          let at : slice_get tree.nodes.now p ≡ Some x.1.0 = ap (λ ns. slice_get ns p) made_by.is.whole.tree.nodes ∙ ap (slice_get it.unit.nodes) x.1.1.0 ∙ x.1.1.1.0 in
          let one : fn.node ≡ x.1.0 = same_Some fn.node x.1.0 (sym fn.at ∙ at) in
          absurd (no_init fn.node.kind (ap (λ (y : Node). y.kind) one ∙ x.1.1.1.1) fn.is))
    ]

    function : DeclaresFunction typing r
    function = subst (DeclaresFunction typing) whole_is declares_it

    it_is : IsDeclared finds.declared r
    it_is = any finds.declared r function name (subst (λ ns. IsDeclarator ns r ⊎ IsEnumerator ns r) same_nodes below.stands)

    sees_function : SeesFunction file t it i n.first
    sees_function = record {
      token = finds.declared;
      declaration = it_is.declaration;
      declarator = r;
      node = it_is.node;
      found = finds.is;
      sees = sees ∙ ap Some whole_is;
      declares = it_is.is;
      function = function;
    }

pub seen : Laws.CallsSeeDeclarations
seen file t it i n at is signature stands = sees_function file t it i n at is signature stands
