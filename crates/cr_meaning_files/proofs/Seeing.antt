-- What a name that is a place sees: a declarator of a declaration, or one of a parameter, which stands in a list (C11 6.2.1p4, 6.5.1p2).
use Rattle.std.proofs.Common.{◌≡◌, ℕ, zero, suc, ◌+◌, ◌<◌, ◌≤◌, ◌&&◌, ◌||◌, ◌⊎◌, inl, inr, Bool, true, false, List, Option, None, Some, length, nat_lt, slice_get, slice_index_or, refl, sym, ap, subst, ◌∙◌, arith, if◌then◌else◌}
use Rattle.std.proofs.lemmas.Bool.{cases_lt, false≢true}
use Rattle.std.proofs.lemmas.Option.{slice_get_within, same_Some}
use Rattle.cr_syntax.specs.declared.node.Kind.{Kind}
use Rattle.cr_syntax.specs.declared.node.Kind.TheVariants as kind
use Rattle.cr_syntax.specs.declared.node.Node.{Node}
use Rattle.cr_syntax.specs.declared.part.Part.{Part}
use Rattle.cr_syntax.specs.Kept.{row_in}
use Rattle.cr_syntax.specs.Tables.{rule_of, side_of}
use Rattle.cr_syntax.specs.Units.{unit_side}
use Rattle.cr_syntax_nodes.specs.Laid.{stands_for}
use Rattle.cr_syntax_nodes.proofs.Laid.{laid}
use Rattle.cr_scopes_events.specs.declared.event.Event.{Event}
use Rattle.cr_scopes_events.specs.declared.declarator.Declarator.{Declarator as Named}
use Rattle.cr_scopes_events.specs.Values.{before}
use Rattle.cr_scopes_events.specs.Declarators.{nowhere, declared_by as names_by, declared_if, declarator_of}
use Rattle.cr_scopes_events.proofs.Descents.{declarator_ruled}
use Rattle.cr_scopes_events.specs.Scripts as scripts
use Rattle.cr_scopes.specs.Resolved.{past_of}
use Rattle.cr_scopes.specs.Spelled.{name_of as spelled_name}
use Rattle.cr_scopes.specs.Units.{unit_events}
use Rattle.cr_scopes_bindings.specs.Bindings.{entry_if}
use Rattle.cr_scopes_bindings.specs.Nodes.{named_by, named_if, name_at}
use Rattle.cr_scopes_bindings.specs.Visible.{visible}
use Rattle.cr_scopes_linkage.specs.Shared.Origins.{IsDeclaring}
use Rattle.cr_scopes_typedef_names.specs.Tellings.Tellings.{is_parameter}
use Rattle.cr_scopes_visibility.specs.Told.Told.{IsHeld, IsHeldInside, IsDeclarator, is_declaration as tells_names}
use Rattle.cr_scopes_visibility.specs.Uses.Uses.{Finds}
use Rattle.cr_scopes_visibility.specs.Once.Told.{count_of}
use Rattle.cr_check_surroundings.specs.Named.{used_by, used_name, visible_if}
use Rattle.cr_check_surroundings.specs.Raised.{initialises, raised_by, raised_if, raised, raised_of}
use Rattle.cr_check_enclosing.specs.Above.{above_of}
use Rattle.cr_check_expressions.specs.Forms.{form_of}
use Rattle.cr_check_declarations.specs.Before as early
use Rattle.cr_check_declarations.specs.Named.{is_declarator, listed_by, parameter_nodes}
use Rattle.cr_check_declarations.specs.Faults.{list_in}
use Rattle.cr_typed.specs.declared.typed.Typed.{Typed}
use Rattle.cr_meaning_operations.specs.Shapes.{type_of_node}
use Rattle.cr_meaning_operations.specs.Operations.{kind_if, kind_at, parts_if, parts_at}
use Rattle.cr_meaning_declarations.proofs.UnitsLemmas.Rows.{clear_side, clear_laid, clear_at}
use Rattle.cr_meaning_declarations.proofs.UnitsLemmas.Handing.{laid_at, parts_below}
use Rattle.cr_meaning_declarations.proofs.NamesLemmas.Walks.{without, clears}
use Rattle.cr_meaning_declarations.proofs.NamesLemmas.Parents.{IsPartOf, one_parent, above_some}
use Rattle.cr_meaning_typing.specs.Typed.Typing.{is_expression}
use Rattle.cr_meaning_typing.specs.Judged.Judged.{seen_in}
use Rattle.cr_meaning_types.specs.Known.Shaped.{fits, IsPart}
use Rattle.cr_meaning_declarations.specs.Declared.Files.{IsUnitOfFile}
use Rattle.cr_meaning_objects.specs.Objects.Laws.{DeclaresObject}
use Rattle.cr_meaning_references.proofs.ToldLemmas.Orderly.{apart}
use Rattle.cr_meaning_references.proofs.ToldLemmas.Names.{initial}
use Rattle.cr_meaning_objects.proofs.ComposedLemmas.Told.{item_there}
use Rattle.cr_meaning_files.specs.Celled.{HasSeenType, SeesParameter}
use Rattle.cr_meaning_files.proofs.Names as celled
use Rattle.cr_meaning_files.proofs.Types.{typed}
use Rattle.cr_meaning_objects.specs.Parameters.Laws.{named_at}
use Rattle.cr_meaning_objects.proofs.ParametersLemmas.Objects.{is_listing}
use Rattle.cr_meaning_objects.proofs.ParametersLemmas.Parameters.{in_tree}
use Rattle.cr_meaning_declarations.specs.Sight.Under.{is_under}
use Rattle.cr_meaning_declarations.proofs.SightLemmas.Under.{directly}
use Rattle.cr_meaning_declarations.proofs.DeclaredLemmas.Files.{has_unit}
use Rattle.cr_meaning_declarations.proofs.LastingLemmas.Begun.{one_of}
use Rattle.cr_meaning_files.specs.Reached.{is_item}
use Rattle.cr_meaning_files.specs.Laws.{IsDeclaredAt}
use Rattle.cr_meaning_files.proofs.Loops.{whole}
use Rattle.cr_meaning_references.proofs.TreesLemmas.Tree.{HasPart, has_part, at_most}
use Rattle.cr_meaning_references.proofs.TreesLemmas.Shaped.{shaped}
use Rattle.cr_meaning_files.proofs.Planned.{is_naming}
use Rattle.cr_meaning_files.proofs.Lists.{list_counts}
use Rattle.cr_meaning_files.proofs.Whole.{parameter_counts as parameter_most}
use Rattle.cr_meaning_files.proofs.Named.{is_for, only_for}

-- ---- kinds

parameter_only : (k : Kind) → is_parameter k ≡ true → k ≡ kind.Parameter
parameter_only kind.Parameter h = refl
parameter_only k h = absurd (false≢true h)

only_parameter : (k : Kind) → is_parameter k ≡ true → (k ≡ kind.Parameter) ⊎ (k ≡ kind.Parameter)
only_parameter kind.Parameter h = inl refl
only_parameter k h = absurd (false≢true h)

only_listing : (k : Kind) → is_listing k ≡ true → (k ≡ kind.Parameters) ⊎ (k ≡ kind.VariadicParameters)
only_listing kind.Parameters h = inl refl
only_listing kind.VariadicParameters h = inr refl
only_listing k h = absurd (false≢true h)

abbrev is_function_declarator : Kind → Bool
is_function_declarator kind.FunctionDeclarator = true
is_function_declarator k = false

only_function_declarator : (k : Kind) → is_function_declarator k ≡ true → k ≡ kind.FunctionDeclarator
only_function_declarator kind.FunctionDeclarator h = refl
only_function_declarator k h = absurd (false≢true h)

-- a parameter stands in a list, or behind its declarator alone
no_parameter : (p : Part) (k : Kind) → without kind.Parameter kind.Parameter p ≡ true → stands_for p k ≡ true → is_parameter k ≡ false
no_parameter p k c s = clears is_parameter kind.Parameter kind.Parameter only_parameter p k c s

parameter_sides : (k : Kind) → (is_for k || ((is_listing k || is_function_declarator k) || clear_side is_parameter (without kind.Parameter kind.Parameter) no_parameter (side_of k))) ≡ true
unfolding rule_of
parameter_sides kind.For = refl
parameter_sides k = refl

parameter_running : (k : Kind) → (is_expression (form_of k) || is_item k) ≡ true → is_parameter k ≡ false
parameter_running kind.Parameter h = absurd (false≢true h)
parameter_running k h = refl

parameter_item : clear_side is_parameter (without kind.Parameter kind.Parameter) no_parameter unit_side ≡ true
unfolding rule_of
parameter_item = refl

-- and a list behind its declarator
no_listing : (p : Part) (k : Kind) → without kind.Parameters kind.VariadicParameters p ≡ true → stands_for p k ≡ true → is_listing k ≡ false
no_listing p k c s = clears is_listing kind.Parameters kind.VariadicParameters only_listing p k c s

listing_sides : (k : Kind) → (is_for k || (is_function_declarator k || clear_side is_listing (without kind.Parameters kind.VariadicParameters) no_listing (side_of k))) ≡ true
unfolding rule_of
listing_sides kind.For = refl
listing_sides k = refl

listing_running : (k : Kind) → (is_expression (form_of k) || is_item k) ≡ true → is_listing k ≡ false
listing_running kind.Parameters h = absurd (false≢true h)
listing_running kind.VariadicParameters h = absurd (false≢true h)
listing_running k h = refl

listing_item : clear_side is_listing (without kind.Parameters kind.VariadicParameters) no_listing unit_side ≡ true
unfolding rule_of
listing_item = refl

-- neither is a declarator
listing_plain : (k : Kind) → is_listing k ≡ true → is_declarator k ≡ false
listing_plain kind.Parameters h = refl
listing_plain kind.VariadicParameters h = refl
listing_plain k h = absurd (false≢true h)

listing_parts : (k : Kind) → is_listing k ≡ true → (parts : List ℕ) (list : ℕ) → listed_by (Some k) parts list ≡ parts
listing_parts kind.Parameters h parts list = refl
listing_parts kind.VariadicParameters h parts list = refl
listing_parts k h parts list = absurd (false≢true h)

-- ---- declarators

-- what has a name is a declarator that has one
names_by_kind : (k : Kind) (at : ℕ → Named) (i : ℕ) (n : Node) (token : ℕ) → (names_by k at i n).name ≡ Some token → is_naming k ≡ true
names_by_kind kind.NameDeclarator at i n token e = refl
names_by_kind kind.GroupDeclarator at i n token e = refl
names_by_kind kind.PointerDeclarator at i n token e = refl
names_by_kind kind.ArrayDeclarator at i n token e = refl
names_by_kind kind.FunctionDeclarator at i n token e = refl
names_by_kind k at i n token e = absurd (cc e)

naming : (nodes : List Node) (i token : ℕ) (n : Node) → slice_get nodes i ≡ Some n → (declarator_of nodes i).name ≡ Some token → is_naming n.kind ≡ true
naming nodes i token n at e =
    names_by_kind n.kind (before nowhere i (declarator_of nodes)) i n token
    (ap (λ o. (declared_if o (before nowhere i (declarator_of nodes)) i).name) (sym at) ∙ ap (λ (d : Named). d.name) (sym (declarator_ruled nodes i)) ∙ e)

module _ (file : List ℕ) (t : Typed) (it : IsUnitOfFile file t) where
  open it use {made_by, typing, tree}
  open has_unit file t it use {unit as u, nodes_are, tree_nodes, order}

  abbrev name : ℕ → ℕ
  name = spelled_name file it.unit.tokens.list.items

  abbrev past : List Event
  past = past_of (unit_events it.unit) (length (unit_events it.unit))

  in_unit : (i : ℕ) (n : Node) → slice_get it.unit.nodes i ≡ Some n → slice_get t.nodes i ≡ Some n
  in_unit i n at = ap (λ ns. slice_get ns i) (sym nodes_are) ∙ at

  -- ---- the list of a parameter

  -- a part of such a kind stands in a node that may have it
  held_by : (test holds : Kind → Bool) (clear : Part → Bool) (clearing : (p : Part) (k : Kind) → clear p ≡ true → stands_for p k ≡ true → test k ≡ false)
      → ((k : Kind) → (is_for k || (holds k || clear_side test clear clearing (side_of k))) ≡ true) → ((k : Kind) → (is_expression (form_of k) || is_item k) ≡ true → test k ≡ false)
      → (a i : ℕ) → IsPartOf t u a i → test (kind_at t a) ≡ true → holds (kind_at t i) ≡ true
  held_by test holds clear clearing sides running a i h is = elim (one_of (is_for h.parent.kind) _ (sides h.parent.kind)) [
    | inl loop ↦
        absurd (false≢true (sym (running (kind_at t a) ((whole t u i h.parent h.at (only_for h.parent.kind loop)).kinds h.place a (ap (λ o. slice_get (parts_if o) h.place) h.at ∙ h.is))) ∙ is))
    | inr rest ↦ elim (one_of (holds h.parent.kind) _ rest) [
      | inl own ↦ ap holds (ap kind_if h.at) ∙ own
      | inr clean ↦
          (let row = clear_laid test clear clearing u.tokens (side_of h.parent.kind) (row_in t.nodes h.parent.parts) h.parent.first (h.parent.last + 1) clean (laid_at t u i h.parent h.at) in
          let one = clear_at test clear clearing t.nodes u.below h.parent.parts (parts_below t u i h.parent h.at) row h.place a h.is in
          absurd (false≢true (sym (ap (λ o. test (kind_if o)) one.1.0 ∙ one.1.1) ∙ is)))
    ]
  ]

  -- and it stands in a node at all, where no external declaration is of such a kind
  has_parent : (test : Kind → Bool) (clear : Part → Bool) (clearing : (p : Part) (k : Kind) → clear p ≡ true → stands_for p k ≡ true → test k ≡ false)
      → clear_side test clear clearing unit_side ≡ true → (a : ℕ) → a < length t.nodes → test (kind_at t a) ≡ true → (i : ℕ) × IsPartOf t u a i
  has_parent test clear clearing clean a low is = by (above_of t.nodes (length t.nodes) a) refl
    where
      by : (o : Option ℕ) → above_of t.nodes (length t.nodes) a ≡ o → (i : ℕ) × IsPartOf t u a i
      by (Some i) e = (i, above_some t u (length t.nodes) a i e)
      by None e =
          let item = item_there t u a low e in
          let row = clear_laid test clear clearing u.tokens unit_side (row_in t.nodes t.items) 0 (length u.tokens) clean (laid u.is_unit.spells) in
          let one = clear_at test clear clearing t.nodes u.below t.items u.are row item.0 a item.1 in
          absurd (false≢true (sym (ap (λ o. test (kind_if o)) one.1.0 ∙ one.1.1) ∙ is))

  -- what stands behind the declarator of a function, which is no declarator
  behind_it : (l y : ℕ) → kind_at t l ≡ kind.FunctionDeclarator → IsPartOf t u y l → is_declarator (kind_at t y) ≡ false → HasPart t u l 1 y
  behind_it l y is h plain = has_part t u l 1 y (by h.place h.is)
    where
      by : (k : ℕ) → slice_get h.parent.parts k ≡ Some y → slice_get (parts_at t l) 1 ≡ Some y
      by zero g =
          let p = (shaped file t it).parts l h.parent (in_tree file t it l h.parent h.at) 0 y g in
          let own : kind_at t y ≡ p.own.kind = ap kind_if (ap (λ ns. slice_get ns y) (sym tree_nodes) ∙ p.at) in
          absurd (false≢true (sym plain ∙ ap is_declarator own ∙ sym (ap (λ c. fits c 0 p.own.kind) (sym (ap kind_if h.at) ∙ is)) ∙ p.fits))
      by (suc zero) g = ap (λ o. slice_get (parts_if o) 1) h.at ∙ g
      by (suc (suc k)) g =
          let few = at_most t u l kind.FunctionDeclarator 2 is refl list_counts in
          let within = slice_get_within h.parent.parts (suc (suc k)) y g in
          let same : length (parts_at t l) ≡ length h.parent.parts = ap (λ o. length (parts_if o)) h.at in
          absurd (omega (arith, few, within, same))

  -- the declarator of a function that has the parameter in its list
  pub record InList (x : ℕ) : Type 0 where
    pub list : ℕ
    pub whole : ℕ
    pub listed : kind_at t list ≡ kind.FunctionDeclarator
    pub its_list : HasPart t u list 1 whole
    pub inside : (x ≡ whole) ⊎ (is_under t whole x ≡ true)
    pub place : ℕ
    pub is : slice_get (parameter_nodes t.nodes (list_in t.nodes (Some list))) place ≡ Some x

  pub in_list : (x : ℕ) (n : Node) → slice_get t.nodes x ≡ Some n → n.kind ≡ kind.Parameter → InList x
  in_list x n at is = by (one_of (is_listing (kind_at t a)) _ holds)
    where
      kind_x : kind_at t x ≡ kind.Parameter
      kind_x = ap kind_if at ∙ is

      parent : (i : ℕ) × IsPartOf t u x i
      parent = has_parent is_parameter (without kind.Parameter kind.Parameter) no_parameter parameter_item x (slice_get_within t.nodes x n at) (ap is_parameter kind_x)

      a : ℕ
      a = parent.0

      holds : (is_listing (kind_at t a) || is_function_declarator (kind_at t a)) ≡ true
      holds =
          held_by is_parameter (λ k. is_listing k || is_function_declarator k) (without kind.Parameter kind.Parameter) no_parameter parameter_sides parameter_running x a parent.1 (ap is_parameter kind_x)

      listed_at : (l y : ℕ) → HasPart t u l 1 y → parameter_nodes t.nodes (list_in t.nodes (Some l)) ≡ listed_by (early.kind_if (slice_get t.nodes y)) (early.parts_if (slice_get t.nodes y)) y
      listed_at l y h = ap (λ o. parameter_nodes t.nodes (slice_get (early.parts_if o) 1)) h.at ∙ ap (parameter_nodes t.nodes) h.is

      by : (is_listing (kind_at t a) ≡ true) ⊎ (is_function_declarator (kind_at t a) ≡ true) → InList x
      by (inr alone) =
          let listed = only_function_declarator (kind_at t a) alone in
          let own = behind_it a x listed parent.1 (ap is_declarator kind_x) in
          record {
            list = a;
            whole = x;
            listed = listed;
            its_list = own;
            inside = inl refl;
            place = 0;
            is = ap (λ ps. slice_get ps 0) (listed_at a x own) ∙ ap (λ c. slice_get (listed_by c (early.parts_if (slice_get t.nodes x)) x) 0) (ap early.kind_if at ∙ ap Some is);
          }
      by (inl lists) =
          let outer = has_parent is_listing (without kind.Parameters kind.VariadicParameters) no_listing listing_item a (slice_get_within t.nodes a parent.1.parent parent.1.at) lists in
          let listed =
          only_function_declarator (kind_at t outer.0)
          (held_by is_listing is_function_declarator (without kind.Parameters kind.VariadicParameters) no_listing listing_sides listing_running a outer.0 outer.1 lists) in
          let own = behind_it outer.0 a listed outer.1 (listing_plain (kind_at t a) lists) in
          record {
            list = outer.0;
            whole = a;
            listed = listed;
            its_list = own;
            inside = inr (directly t u a x parent.1);
            place = parent.1.place;
            is =
                ap (λ ps. slice_get ps parent.1.place) (listed_at outer.0 a own)
                ∙ ap (λ o. slice_get (listed_by (early.kind_if o) (early.parts_if o) a) parent.1.place) parent.1.at
                ∙ ap (λ ps. slice_get ps parent.1.place) (listing_parts parent.1.parent.kind (ap is_listing (sym (ap kind_if parent.1.at)) ∙ lists) parent.1.parent.parts a)
                ∙ parent.1.is;
          }

  -- ---- what a name sees

  -- a name sees a parameter, whose type it has
  pub record IsReceived (i first : ℕ) : Type 0 where
    pub token : ℕ
    pub is : visible name past first ≡ Some token
    pub parameter : ℕ
    pub declarator : ℕ
    pub node : Node
    pub at : slice_get t.nodes parameter ≡ Some node
    pub kind_is : node.kind ≡ kind.Parameter
    pub second : slice_get node.parts 1 ≡ Some declarator
    pub names : (declarator_of t.nodes declarator).name ≡ Some token
    pub object : DeclaresObject typing declarator
    pub type : type_of_node t i ≡ named_at file t it declarator

  -- a declarator of the name that stands in a declaration or a parameter is the whole one
  pub held : (d place p q : ℕ) (m : Node) → slice_get t.nodes d ≡ Some m → tells_names m.kind ≡ true → slice_get m.parts (suc place) ≡ Some p → IsDeclaring t.nodes p q → IsDeclarator t.nodes q
  held d place p q m at declares e way = elim way [
    | inl same ↦ inl (subst (IsHeld t.nodes) same own)
    | inr init ↦ inr (in_init (slice_get t.nodes p) refl init.0 init.1)
  ]
    where
      own : IsHeld t.nodes p
      own = record { declaration = d; node = m; at = at; declares = declares; place = suc place; is = e }

      in_init : (o : Option Node) → slice_get t.nodes p ≡ o → scripts.kind_at t.nodes p ≡ Some kind.InitDeclarator → slice_get (scripts.parts_at t.nodes p) 0 ≡ Some q → IsHeldInside t.nodes q
      in_init None there k f = let never : None ≡ Some kind.InitDeclarator = sym (ap scripts.kind_if there) ∙ k in absurd (cc never)
      in_init (Some x) there k f = record {
        outer = p;
        node = x;
        at = there;
        initialises = same_Some x.kind kind.InitDeclarator (sym (ap scripts.kind_if there) ∙ k);
        is = sym (ap (λ o. slice_get (scripts.parts_if o) 0) there) ∙ f;
        held = own;
      }

  name_key : (q token : ℕ) → (declarator_of t.nodes q).name ≡ Some token → name_at t.nodes q ≡ Some token
  name_key q token e = by (slice_get t.nodes q) refl
    where
      by : (o : Option Node) → slice_get t.nodes q ≡ o → named_if o (declarator_of t.nodes q).name ≡ Some token
      by None at =
          let none : (declarator_of t.nodes q).name ≡ None =
          ap (λ (d : Named). d.name) (declarator_ruled t.nodes q) ∙ ap (λ o. (declared_if o (before nowhere q (declarator_of t.nodes)) q).name) at in
          let never : None ≡ Some token = sym none ∙ e in
          absurd (cc never)
      by (Some x) at = named_by_kind x.kind (naming t.nodes q token x at e)
        where
          named_by_kind : (k : Kind) → is_naming k ≡ true → named_by k x.first (declarator_of t.nodes q).name ≡ Some token
          named_by_kind kind.Enumerator h = absurd (false≢true h)
          named_by_kind k h = e

  module _ (i : ℕ) (n : Node) (at : slice_get t.nodes i ≡ Some n) (is : n.kind ≡ kind.Identifier) (few : count_of n.first (unit_events it.unit) ≤ 1) where
    there : slice_get it.unit.nodes i ≡ Some n
    there = ap (λ ns. slice_get ns i) nodes_are ∙ at

    abbrev finds : Finds name n.first past
    finds = celled.finds file t it i n at is few

    abbrev v : ℕ
    v = (celled.declared file t it i n at is few).declarer

    -- the token that is visible is the one that it finds
    visible_is : (token : ℕ) → slice_index_or it.checked.checked.surroundings.bindings.visible n.first None ≡ Some token → token ≡ finds.declared
    visible_is token e = same_Some token finds.declared (sym e ∙ celled.column file t it i n at is few)

    pub visible_there : (token : ℕ) → slice_index_or it.checked.checked.surroundings.bindings.visible n.first None ≡ Some token → visible name past n.first ≡ Some token
    visible_there token e = finds.is ∙ ap Some (sym (visible_is token e))

    -- and its whole declarator the one that it sees
    its_whole : (token q : ℕ) → slice_index_or it.checked.checked.surroundings.bindings.visible n.first None ≡ Some token → IsDeclarator t.nodes q → (declarator_of t.nodes q).name ≡ Some token → q ≡ v
    its_whole token q e declares named = elim (cases_lt q v) [
      | inl less ↦ absurd ((apart t u order).wholes q v token declares (name_key q token named) less v_names)
      | inr le ↦ elim (cases_lt v q) [
        | inl more ↦ absurd ((celled.declared file t it i n at is few).last q more (ap (λ ns. name_at ns q) nodes_are ∙ name_key q token named ∙ ap Some (visible_is token e)))
        | inr ge ↦ omega (arith, le, ge)
      ]
    ]
      where
        v_names : name_at t.nodes v ≡ Some token
        v_names = celled.names_it file t it i n at is few ∙ ap Some (sym (visible_is token e))

    module _ (lvalue : (seen_in it.checked.checked i).lvalue ≡ true) where
      sees_it : slice_index_or tree.visible.now i None ≡ Some (raised it.unit.nodes it.checked.checked.surroundings.above v i)
      sees_it =
          ap (λ vs. slice_index_or vs i None) made_by.is.whole.tree.visible
          ∙ made_by.is.surroundings.visible.each i (slice_get_within it.unit.nodes i n there)
          ∙ ap (λ o. raised_of it.unit.nodes it.checked.checked.surroundings.above (visible_if it.checked.checked.surroundings.bindings (used_name o)) i) there
          ∙ ap (λ k. raised_of it.unit.nodes it.checked.checked.surroundings.above (visible_if it.checked.checked.surroundings.bindings (used_by k n.first)) i) is
          ∙ ap (λ o. raised_of it.unit.nodes it.checked.checked.surroundings.above (entry_if it.checked.checked.surroundings.bindings.declarers o) i) (celled.column file t it i n at is few)
          ∙ ap (λ o. raised_of it.unit.nodes it.checked.checked.surroundings.above o i) (celled.declarer file t it i n at is few)

      seen : HasSeenType file t it i
      seen = typed file t it i n at is lvalue

      seen_is : seen.declarator ≡ raised it.unit.nodes it.checked.checked.surroundings.above v i
      seen_is = same_Some seen.declarator (raised it.unit.nodes it.checked.checked.surroundings.above v i) (sym seen.sees ∙ sees_it)

      -- the name has the type of that declarator, or of the same with its initialiser
      abbrev HasDeclaredType : ℕ → Type 0
      HasDeclaredType q = (p : ℕ) × (IsDeclaredAt t q p × (type_of_node t i ≡ named_at file t it p))

      whole_type : HasDeclaredType v
      whole_type = by_above (slice_index_or it.checked.checked.surroundings.above v None) seen_is
        where
          plain : seen.declarator ≡ v → HasDeclaredType v
          plain e = (v, (inl refl, seen.type ∙ ap (λ p. named_at file t it p) e))

          of_node : (a : ℕ) (o : Option Node) → slice_get it.unit.nodes a ≡ o → seen.declarator ≡ raised_by o a v i → HasDeclaredType v
          of_node a None a_there e = plain e
          of_node a (Some m) a_there e = choice (initialises m.kind m.parts v) refl e
            where
              choice : (b : Bool) → initialises m.kind m.parts v ≡ b → seen.declarator ≡ (if b && nat_lt a i then a else v) → HasDeclaredType v
              choice false q f = plain f
              choice true q f = behind (nat_lt a i) f
                where
                  behind : (b : Bool) → seen.declarator ≡ (if b then a else v) → HasDeclaredType v
                  behind false f = plain f
                  behind true f =
                      let first = initial m.kind m.parts v q in
                      (a, (inr (m, (in_unit a m a_there, (first.0, first.1))), seen.type ∙ ap (λ p. named_at file t it p) f))

          by_above : (o : Option ℕ) → seen.declarator ≡ raised_if it.unit.nodes o v i → HasDeclaredType v
          by_above None e = plain e
          by_above (Some a) e = of_node a (slice_get it.unit.nodes a) refl e

      pub declared_type : (token q : ℕ) → slice_index_or it.checked.checked.surroundings.bindings.visible n.first None ≡ Some token → IsDeclarator t.nodes q → (declarator_of t.nodes q).name ≡ Some token
          → HasDeclaredType q
      declared_type token q e declares named = subst HasDeclaredType (sym (its_whole token q e declares named)) whole_type

      -- ---- a parameter

      module _ (s : SeesParameter file t it n.first) where
        abbrev q : ℕ
        q = s.parameter.declarator

        parameter_kind : s.parameter.own.kind ≡ kind.Parameter
        parameter_kind = parameter_only s.parameter.own.kind s.parameter.is

        here : slice_get (parts_at t s.parameter.node) (suc s.parameter.place) ≡ Some s.parameter.part
        here = ap (λ o. slice_get (parts_if o) (suc s.parameter.place)) s.parameter.at ∙ s.parameter.has

        -- behind its specifiers a parameter has one declarator
        second : slice_get s.parameter.own.parts 1 ≡ Some s.parameter.part
        second = by s.parameter.place s.parameter.has here
          where
            by : (k : ℕ) → slice_get s.parameter.own.parts (suc k) ≡ Some s.parameter.part → slice_get (parts_at t s.parameter.node) (suc k) ≡ Some s.parameter.part
                → slice_get s.parameter.own.parts 1 ≡ Some s.parameter.part
            by zero e f = e
            by (suc k) e f =
                let few_parts = at_most t u s.parameter.node kind.Parameter 2 (ap kind_if s.parameter.at ∙ parameter_kind) refl parameter_most in
                let within = slice_get_within (parts_at t s.parameter.node) (suc (suc k)) s.parameter.part f in
                absurd (omega (arith, few_parts, within))

        part : IsPart tree s.parameter.node s.parameter.own 1 s.parameter.part
        part = (shaped file t it).parts s.parameter.node s.parameter.own (in_tree file t it s.parameter.node s.parameter.own s.parameter.at) 1 s.parameter.part second

        -- without an initialiser
        plain : s.parameter.part ≡ q
        plain = elim s.parameter.declares [
          | inl same ↦ same
          | inr init ↦
              (let k : part.own.kind ≡ kind.InitDeclarator =
              same_Some part.own.kind kind.InitDeclarator (sym (ap scripts.kind_if (ap (λ ns. slice_get ns s.parameter.part) (sym tree_nodes) ∙ part.at)) ∙ init.0) in
              absurd (false≢true (sym (ap is_declarator k) ∙ sym (ap (λ c. fits c 1 part.own.kind) parameter_kind) ∙ part.fits)))
        ]

        declares : IsDeclarator t.nodes q
        declares = held s.parameter.node 0 s.parameter.part q s.parameter.own s.parameter.at (ap tells_names parameter_kind) second (inl plain)

        own_type : type_of_node t i ≡ named_at file t it q
        own_type = by (declared_type s.token q s.visible declares s.parameter.names)
          where
            part_q : IsPartOf t u q s.parameter.node
            part_q = record { parent = s.parameter.own; at = s.parameter.at; place = 1; is = second ∙ ap Some plain }

            by : HasDeclaredType q → type_of_node t i ≡ named_at file t it q
            by (p, (inl same, e)) = e ∙ ap (λ x. named_at file t it x) same
            by (p, (inr (m, (m_at, (initialised, first))), e)) =
                let one = one_parent t u q p s.parameter.node (record { parent = m; at = m_at; place = 0; is = first }) part_q in
                let node : m ≡ s.parameter.own = same_Some m s.parameter.own (sym m_at ∙ ap (slice_get t.nodes) one ∙ s.parameter.at) in
                let never : kind.InitDeclarator ≡ kind.Parameter = sym initialised ∙ ap (λ (x : Node). x.kind) node ∙ parameter_kind in
                absurd (cc never)

        pub received : IsReceived i n.first
        received = record {
          token = s.token;
          is = visible_there s.token s.visible;
          parameter = s.parameter.node;
          declarator = q;
          node = s.parameter.own;
          at = s.parameter.at;
          kind_is = parameter_kind;
          second = second ∙ ap Some plain;
          names = s.parameter.names;
          object = s.object;
          type = own_type;
        }
