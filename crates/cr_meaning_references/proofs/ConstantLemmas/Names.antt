-- A name of a place whose address is constant sees a declaration of static duration, which is that of what it stands for (C11 6.2.4p3, 6.6p9).
use Rattle.std.proofs.Common.{◌≡◌, ℕ, zero, suc, ◌<◌, ◌≤◌, ◌⊎◌, inl, inr, Bool, true, false, ◌&&◌, List, [], ◌∷◌, Option, None, Some, length, take, nat_lt, slice_get, slice_index_or, refl, sym, ap, subst, ◌∙◌, arith, if◌then◌else◌}
use Rattle.std.proofs.lemmas.Bool.{false≢true, and_parts, eqb-true, cases_lt}
use Rattle.std.proofs.lemmas.List.{get_or-take, get_or_past}
use Rattle.std.proofs.lemmas.Option.{slice_get_within}
use Rattle.cr_syntax.specs.declared.node.Kind.{Kind}
use Rattle.cr_syntax.specs.declared.node.Kind.TheVariants as kind
use Rattle.cr_syntax.specs.declared.node.Node.{Node}
use Rattle.cr_scopes_events.specs.Scripts as scripts
use Rattle.cr_scopes_events.specs.declared.event.Event.{Event}
use Rattle.cr_scopes.specs.Resolved.{is_number, past_of}
use Rattle.cr_scopes.specs.Spelled.{name_of as spelled_name}
use Rattle.cr_scopes.specs.States.{name_in}
use Rattle.cr_scopes.specs.Units.{unit_events}
use Rattle.cr_scopes_events.specs.Declarators.{declarator_of}
use Rattle.cr_scopes_bindings.specs.Last.{last_with}
use Rattle.cr_scopes_bindings.specs.Nodes.{named_if, name_at}
use Rattle.cr_scopes_bindings.specs.Entities as bound
use Rattle.cr_scopes_bindings.specs.Bindings.{entry_if}
use Rattle.cr_scopes_bindings.specs.Visible.{visible}
use Rattle.cr_scopes_visibility.specs.Sight.Scopes.{is_using}
use Rattle.cr_scopes_visibility.specs.Told.Told.{AreApart, IsTold}
use Rattle.cr_scopes_visibility.proofs.ToldLemmas.Walks.{told}
use Rattle.cr_scopes_visibility.specs.Uses.Uses.{Finds}
use Rattle.cr_scopes_visibility.proofs.UsesLemmas.Finding.{all_find}
use Rattle.cr_scopes_visibility.specs.Once.Told.{count_of}
use Rattle.cr_scopes_visibility.proofs.OnceLemmas.Meaning.{meant}
use Rattle.cr_check_enclosing.specs.declared.context.Around.{Around}
use Rattle.cr_check_enclosing.specs.declared.context.Place.{Place}
use Rattle.cr_check_enclosing.specs.declared.context.Place.TheVariants as place
use Rattle.cr_check_enclosing.specs.Around.{outermost}
use Rattle.cr_check_types.specs.Types.{type_at}
use Rattle.cr_check_operands.specs.Values.{Seen}
use Rattle.cr_check_expressions.specs.declared.known.Declared.{Declared}
use Rattle.cr_check_expressions.specs.declared.known.Declared.TheVariants.{Object}
use Rattle.cr_check_expressions.specs.Forms.{form_of}
use Rattle.cr_check_expressions.specs.Known.{Meaning, an_object, an_enumerator, a_function, a_type, unclear}
use Rattle.cr_check_expressions.specs.Ruled.{named_by, ruled, facts_at}
use Rattle.cr_check_declarators.specs.declared.words.Class.{Class}
use Rattle.cr_check_declarators.specs.declared.words.Specified.{Specified}
use Rattle.cr_check_declarators.specs.Specifiers.{nothing}
use Rattle.cr_check_declarations.specs.Before.{specified_in}
use Rattle.cr_check_declarations.specs.Named.{declaration_of, specifiers_in, class_of}
use Rattle.cr_check_surroundings.specs.Named.{used_by, used_name, visible_if}
use Rattle.cr_check_surroundings.specs.Raised.{initialises, raised_by, raised_if, raised, raised_of}
use Rattle.cr_check_initialisers.specs.declared.anchor.Anchor.TheVariants.{Moving, Place as Placed}
use Rattle.cr_check_initialised.specs.Anchors.{names_object, names_static, anchor_at, anchor_by}
use Rattle.cr_check_initialised.specs.Durations.{is_kept_class, is_kept, is_static}
use Rattle.cr_check_unit.specs.Typing.{cut, entry_at, before_in, source_in, declared_in, IsRuled, IsRuledIf}
use Rattle.cr_check_constant_values.specs.Anchored.Anchored.{is_made, is_placed, is_anchored}
use Rattle.cr_typed.specs.declared.typed.Typed.{Typed}
use Rattle.cr_typed.specs.declared.typed.Duration.TheVariants as duration
use Rattle.cr_typed_columns.specs.Reading.{parsed_of, entry_of}
use Rattle.cr_typed_columns.specs.Entities as entities
use Rattle.cr_typed_columns.specs.Names as names
use Rattle.cr_meaning_operations.specs.Operations.{entity_of, is_automatic_by}
use Rattle.cr_meaning_declarations.specs.Declared.Files.{IsUnitOfFile}
use Rattle.cr_meaning_declarations.proofs.DeclaredLemmas.Bodies.{listed_at, last_has}
use Rattle.cr_meaning_declarations.proofs.DeclaredLemmas.Once.{IsAutomatic, automatic_at, alone, token_is, place_init}
use Rattle.cr_meaning_declarations.proofs.SightLemmas.Names.{entity_there}
use Rattle.cr_meaning_declarations.proofs.DeclaredLemmas.Files.{has_unit}
use Rattle.cr_meaning_declarations.proofs.LastingLemmas.Begun.{one_of}
use Rattle.cr_meaning_references.proofs.ToldLemmas.Orderly.{apart}
use Rattle.cr_meaning_references.proofs.ToldLemmas.Names.{initial}
use Rattle.cr_meaning_references.specs.Constant.Laws
use Rattle.cr_meaning_references.proofs.TreesLemmas.Shaped.{shaped}

-- ---- durations

-- what is automatic and static is a parameter
static_parameter : (d : Declared) (p : Place) (own kept : Bool) → is_automatic_by (names.by_declared d p own true kept) ≡ true → p ≡ place.Parameter
static_parameter (Object row register) place.Parameter own kept h = refl
static_parameter (Object row register) p own true h = by p h
  where
    by : (p : Place) → is_automatic_by (names.by_place p own true true) ≡ true → p ≡ place.Parameter
    by place.Parameter h = refl
    by p h = absurd (false≢true h)
static_parameter (Object row register) p own false h = by p h
  where
    by : (p : Place) → is_automatic_by (names.by_place p own true false) ≡ true → p ≡ place.Parameter
    by place.Parameter h = refl
    by p h = absurd (false≢true h)
static_parameter d p own kept h = absurd (false≢true h)

-- what a name names as a place is an object, and no constant
object_unmade : (m : Meaning) → (named_by m).lvalue ≡ true → is_made (named_by m).constant ≡ false
object_unmade (an_object type register) h = refl
object_unmade (an_enumerator value) h = absurd (false≢true h)
object_unmade (a_function signature) h = absurd (false≢true h)
object_unmade a_type h = absurd (false≢true h)
object_unmade unclear h = absurd (false≢true h)

static_if : (b : Bool) → is_placed (if b then Placed else Moving) ≡ true → b ≡ true
static_if true h = refl
static_if false h = absurd (false≢true h)

-- what is known later of specifiers says no less
kept_later : (p : Place) (c d : Option Class) → (d ≡ c) ⊎ (d ≡ None) → is_kept p d ≡ true → is_kept p c ≡ true
kept_later p c d (inl same) h = ap (is_kept p) (sym same) ∙ h
kept_later place.File c d (inr none) h = refl
kept_later place.Block c d (inr none) h = absurd (false≢true (sym (ap is_kept_class none) ∙ h))
kept_later place.Clause c d (inr none) h = absurd (false≢true (sym (ap is_kept_class none) ∙ h))
kept_later p c d (inr none) h = by p h
  where
    by : (p : Place) → is_kept p d ≡ true → is_kept p c ≡ true
    by place.File h = refl
    by place.Block h = absurd (false≢true (sym (ap is_kept_class none) ∙ h))
    by place.Clause h = absurd (false≢true (sym (ap is_kept_class none) ∙ h))
    by p h = absurd (false≢true h)

taken_few : {A : Type 0} (i : ℕ) (xs : List A) → length (take i xs) ≤ i
taken_few zero xs = omega arith
taken_few (suc i) [] = omega arith
taken_few (suc i) (x ∷ xs) = let h = taken_few i xs in omega (arith, h)

module _ (file : List ℕ) (t : Typed) (it : IsUnitOfFile file t) where
  open it use {made_by, typing, shapes, tree, columns}
  open has_unit file t it use {unit, nodes_are, tree_nodes, order}

  abbrev said : ℕ → Specified
  said p = slice_index_or typing.specified p nothing

  -- ---- of a declarator with its initialiser

  said_later : (i : ℕ) (o : Option ℕ) → (class_of (specified_in (before_in shapes (cut i typing)).specified o).storage ≡ class_of (specified_in said o).storage)
      ⊎ (class_of (specified_in (before_in shapes (cut i typing)).specified o).storage ≡ None)
  said_later i None = inl refl
  said_later i (Some s) = elim (cases_lt s i) [
    | inl low ↦ inl (ap (λ (x : Specified). class_of x.storage) (get_or-take i typing.specified s nothing low))
    | inr past ↦ inr (ap (λ (x : Specified). class_of x.storage) (get_or_past (take i typing.specified) s nothing (let few = taken_few i typing.specified in omega (arith, few, past))))
  ]

  static_later : (i v : ℕ) → is_static tree (before_in shapes (cut i typing)).specified (Some v) ≡ true → is_static tree said (Some v) ≡ true
  static_later i v h =
      let specifiers = specifiers_in tree.nodes.now (declaration_of tree.nodes.now tree.above.now v) in
      kept_later (slice_index_or tree.around.now v outermost).place (class_of (specified_in said specifiers).storage) (class_of (specified_in (before_in shapes (cut i typing)).specified specifiers).storage) (said_later i specifiers) h

  static_inside : (a w : ℕ) (m : Node) → slice_get tree.nodes.now a ≡ Some m → m.kind ≡ kind.InitDeclarator → slice_get m.parts 0 ≡ Some w → is_static tree said (Some a) ≡ true → is_static tree said (Some w) ≡ true
  static_inside a w m at is e h =
      let part = (shaped file t it).parts a m at 0 w e in
      let around : (slice_index_or tree.around.now w outermost).place ≡ (slice_index_or tree.around.now a outermost).place =
      ap (λ (x : Around). x.place) part.around ∙ place_init m.kind a (slice_index_or tree.around.now a outermost) is in
      let declaration = (shaped file t it).initialised a w m at is e in
      (λ j. is_kept (around j) (class_of (specified_in said (specifiers_in tree.nodes.now (declaration j))).storage)) ∙ h

  -- so of the declarator alone
  static_raised : (w i : ℕ) → is_static tree said (Some (raised it.unit.nodes it.checked.checked.surroundings.above w i)) ≡ true → is_static tree said (Some w) ≡ true
  static_raised w i = by (slice_index_or it.checked.checked.surroundings.above w None)
    where
      choice : (a : ℕ) (m : Node) → slice_get it.unit.nodes a ≡ Some m → (b : Bool) → (initialises m.kind m.parts w && nat_lt a i) ≡ b → is_static tree said (Some (if b then a else w)) ≡ true → is_static tree said (Some w) ≡ true
      choice a m at true q h =
          let first = initial m.kind m.parts w (and_parts (initialises m.kind m.parts w) (nat_lt a i) q).0 in
          static_inside a w m (ap (λ ns. slice_get ns a) made_by.is.whole.tree.nodes ∙ at) first.0 first.1 h
      choice a m at false q h = h

      at_above : (a : ℕ) (o : Option Node) → slice_get it.unit.nodes a ≡ o → is_static tree said (Some (raised_by o a w i)) ≡ true → is_static tree said (Some w) ≡ true
      at_above a None at h = h
      at_above a (Some m) at h = choice a m at (initialises m.kind m.parts w && nat_lt a i) refl h

      by : (o : Option ℕ) → is_static tree said (Some (raised_if it.unit.nodes o w i)) ≡ true → is_static tree said (Some w) ≡ true
      by None h = h
      by (Some a) h = at_above a (slice_get it.unit.nodes a) refl h

  module _ (i : ℕ) (n : Node) (at : slice_get t.nodes i ≡ Some n) (is : n.kind ≡ kind.Identifier) where
    ruled_at : IsRuled tree it.checked.checked.texts shapes (cut i typing) (entry_at typing i) i n
    ruled_at = subst (IsRuledIf tree it.checked.checked.texts shapes (cut i typing) (entry_at typing i) i) (ap (λ ns. slice_get ns i) tree_nodes ∙ at) (made_by.is.whole.typing.each i)

    -- the declaration that it sees has static duration
    sees_static : (facts_at shapes typing.facts i).lvalue ≡ true → is_anchored shapes typing i ≡ true
        → is_static tree (before_in shapes (cut i typing)).specified (slice_index_or tree.visible.now i None) ≡ true
    sees_static lvalue h =
        elim (one_of (is_made (facts_at shapes typing.facts i).constant) (is_placed (anchor_at typing.anchors i)) h) [
          | inl x ↦ absurd (false≢true (sym (ap (λ (s : Seen). is_made s.constant) fact ∙ object_unmade _ (ap (λ (s : Seen). s.lvalue) (sym fact) ∙ lvalue)) ∙ x))
          | inr x ↦ (and_parts (names_object meaning) (is_static tree (before_in shapes (cut i typing)).specified (slice_index_or tree.visible.now i None)) (static_if _ (ap is_placed (sym anchor) ∙ x))).1
        ]
      where
        meaning : Meaning
        meaning = declared_in shapes (cut i typing) (slice_index_or tree.visible.now i None)

        fact : facts_at shapes typing.facts i ≡ named_by ((source_in (type_at shapes) tree it.checked.checked.texts (cut i typing)).stands i)
        fact = ruled_at.fact ∙ ap (λ k. ruled (form_of k) (facts_at shapes (cut i typing).facts) (source_in (type_at shapes) tree it.checked.checked.texts (cut i typing)) i n) is

        anchor : anchor_at typing.anchors i ≡ (if names_static meaning tree (before_in shapes (cut i typing)).specified (slice_index_or tree.visible.now i None) then Placed else Moving)
        anchor =
            ruled_at.anchor
            ∙ ap (λ k. anchor_by (form_of k) (before_in shapes (cut i typing)) (anchor_at (cut i typing).anchors) (names_static meaning tree (before_in shapes (cut i typing)).specified (slice_index_or tree.visible.now i None)) n.parts) is

    -- ---- which declaration that is

    few_tokens : n.first < length it.unit.tokens.list.items
    few_tokens =
        let w = unit.within i n at in
        let low = w.0 in
        let high = w.1 in
        let count : length t.tokens ≡ length it.unit.tokens.list.items = ap length made_by.elaborated.tokens_are in
        omega (arith, low, high, count)

    there : slice_get it.unit.nodes i ≡ Some n
    there = ap (λ ns. slice_get ns i) nodes_are ∙ at

    abbrev past : List Event
    past = past_of (unit_events it.unit) (length (unit_events it.unit))

    use_told : IsTold it.unit.nodes n.first i past
    use_told = told it.unit.tokens.list.items it.unit.nodes it.unit.items it.listed (subst AreApart (sym nodes_are) (apart t unit order)) i n there (used n.kind is)
      where
        used : (k : Kind) → k ≡ kind.Identifier → is_using k ≡ true
        used k e = ap is_using e

    finds : Finds (spelled_name file it.unit.tokens.list.items) n.first past
    finds = all_find (spelled_name file it.unit.tokens.list.items) (unit_events it.unit) n.first it.known.right use_told.used

    spelled : name_in it.checked.checked.surroundings.bindings.spellings ≡ spelled_name file it.unit.tokens.list.items
    spelled = λ j x. made_by.is.surroundings.bindings.spellings.each x j

    module _ (own : IsAutomatic file t it (entity_of t i)) (once : count_of n.first (unit_events it.unit) ≤ 1) where
      abbrev e : ℕ
      e = entity_of t i

      mentioned : names.mentioned_token it.unit.nodes i ≡ Some n.first
      mentioned =
          ap (λ o. if names.is_mention (scripts.kind_if o) then scripts.first_if o else None) there
          ∙ ap (λ k. if names.is_mention (Some k) then Some n.first else None) is

      no_goto : names.is_goto (scripts.kind_at it.unit.nodes i) ≡ false
      no_goto = ap (λ o. names.is_goto (scripts.kind_if o)) there ∙ ap (λ k. names.is_goto (Some k)) is

      -- the token that declares the entity first is that of the object
      first_token : bound.first_of it.names (bound.entity_at it.names n.first) ≡ Some own.node.first
      first_token = by (bound.first_of it.names (bound.entity_at it.names n.first)) found
        where
          found : entities.name_node (parsed_of it.unit) (bound.first_of it.names (bound.entity_at it.names n.first)) ≡ Some e
          found =
              ap (λ o. entities.name_node (parsed_of it.unit) (bound.first_of it.names (bound.entity_if it.names o))) (sym mentioned)
              ∙ ap (λ ns. entities.name_node (parsed_of it.unit) (bound.first_of ns (bound.entity_if ns (names.mentioned_token it.unit.nodes i)))) (sym made_by.are.names_are)
              ∙ ap (λ b. if b then slice_index_or columns.labels.now i None else entities.first_declared (parsed_of it.unit) columns.names.now (bound.entity_if columns.names.now (names.mentioned_token it.unit.nodes i))) (sym no_goto)
              ∙ entity_there file t it i n at is own

          number : (token : ℕ) (b : Bool) → (if b then last_with (entities.named_token it.unit.nodes) (length it.unit.nodes) token else None) ≡ Some e → is_number (entities.named_token it.unit.nodes e) token ≡ true
          number token true f = last_has (entities.named_token it.unit.nodes) (length it.unit.nodes) token e f
          number token false f = let never : None ≡ Some e = f in absurd cc

          by : (o : Option ℕ) → entities.name_node (parsed_of it.unit) o ≡ Some e → o ≡ Some own.node.first
          by None f = let never : None ≡ Some e = f in absurd cc
          by (Some token) f =
              let key = number token (nat_lt token (length it.unit.tokens.list.items)) f in
              let same : own.node.first ≡ token = eqb-true own.node.first token (sym (ap (λ o. is_number o token) (token_is file t it e own.node own.at own.is own.automatic)) ∙ key) in
              ap Some (sym same)

      found_is : finds.declared ≡ own.node.first
      found_is =
          meant (spelled_name file it.unit.tokens.list.items) (unit_events it.unit) (length it.unit.tokens.list.items) it.names own.node.first n.first finds.declared it.known few_tokens
          (alone file t it e own.node own.at own.is own.automatic) use_told.used first_token once finds.is

      column : slice_index_or it.checked.checked.surroundings.bindings.visible n.first None ≡ Some own.node.first
      column = made_by.is.surroundings.bindings.visible.each n.first few_tokens ∙ ap (λ f. visible f past n.first) spelled ∙ finds.is ∙ ap Some found_is

      whole_is : entities.whole_of it.unit.nodes columns e ≡ slice_index_or it.checked.checked.surroundings.bindings.declarers own.node.first None
      whole_is = ap (entry_of columns.declarers.now None) (token_is file t it e own.node own.at own.is own.automatic) ∙ ap (λ c. slice_index_or c own.node.first None) made_by.are.declarers

      visible_is : slice_index_or tree.visible.now i None ≡ raised_of it.unit.nodes it.checked.checked.surroundings.above (entities.whole_of it.unit.nodes columns e) i
      visible_is =
          ap (λ vs. slice_index_or vs i None) made_by.is.whole.tree.visible
          ∙ made_by.is.surroundings.visible.each i (slice_get_within it.unit.nodes i n there)
          ∙ ap (λ o. raised_of it.unit.nodes it.checked.checked.surroundings.above (visible_if it.checked.checked.surroundings.bindings (used_name o)) i) there
          ∙ ap (λ k. raised_of it.unit.nodes it.checked.checked.surroundings.above (visible_if it.checked.checked.surroundings.bindings (used_by k n.first)) i) is
          ∙ ap (λ o. raised_of it.unit.nodes it.checked.checked.surroundings.above (entry_if it.checked.checked.surroundings.bindings.declarers o) i) column
          ∙ ap (λ o. raised_of it.unit.nodes it.checked.checked.surroundings.above o i) (sym whole_is)

      few_own : own.node.first < length it.unit.tokens.list.items
      few_own =
          let w = unit.within e own.node own.at in
          let low = w.0 in
          let high = w.1 in
          let count : length t.tokens ≡ length it.unit.tokens.list.items = ap length made_by.elaborated.tokens_are in
          omega (arith, low, high, count)

      -- its declarator is there
      no_whole : (w : ℕ) → entities.whole_of it.unit.nodes columns e ≡ Some w → slice_get tree.nodes.now w ≡ None → ⊥
      no_whole w q none =
          let found : last_with (name_at it.unit.nodes) (length it.unit.nodes) own.node.first ≡ Some w =
          sym (made_by.is.surroundings.bindings.declarers.each own.node.first few_own) ∙ sym whole_is ∙ q in
          let gone : slice_get it.unit.nodes w ≡ None = ap (λ ns. slice_get ns w) (sym made_by.is.whole.tree.nodes) ∙ none in
          false≢true (sym (ap (λ o. is_number (named_if o (declarator_of it.unit.nodes w).name) own.node.first) gone) ∙ last_has (name_at it.unit.nodes) (length it.unit.nodes) own.node.first w found)

      -- an object of static duration isn't automatic
      never : is_static tree (before_in shapes (cut i typing)).specified (slice_index_or tree.visible.now i None) ≡ true → ⊥
      never static = by (entities.whole_of it.unit.nodes columns e) refl (ap (is_static tree (before_in shapes (cut i typing)).specified) (sym visible_is) ∙ static) own.automatic
        where
          by : (o : Option ℕ) → entities.whole_of it.unit.nodes columns e ≡ o
              → is_static tree (before_in shapes (cut i typing)).specified (raised_of it.unit.nodes it.checked.checked.surroundings.above o i) ≡ true
              → is_automatic_by (names.by_declared (entities.declared_of columns o) (names.around_of columns o).place (names.is_own it.unit.nodes columns o (names.around_of columns o).function) (entry_of columns.statics.now false o)
              (entities.is_kept it.unit.nodes columns (entities.entity_of it.unit.nodes columns.names.now e))) ≡ true → ⊥
          by None q h g = false≢true h
          by (Some w) q h g = at_whole (slice_get tree.nodes.now w) refl
            where
              static_w : is_static tree said (Some w) ≡ true
              static_w = static_raised w i (static_later i (raised it.unit.nodes it.checked.checked.surroundings.above w i) h)

              place_is : (names.around_of columns (Some w)).place ≡ (slice_index_or tree.around.now w outermost).place
              place_is = ap (λ column. (slice_index_or column w outermost).place) (made_by.are.around ∙ sym made_by.is.whole.tree.around)

              at_whole : (o : Option Node) → slice_get tree.nodes.now w ≡ o → ⊥
              at_whole None there_w = no_whole w q there_w
              at_whole (Some m) there_w =
                  let low = slice_get_within tree.nodes.now w m there_w in
                  let statics : entry_of columns.statics.now false (Some w) ≡ true =
                  ap (λ c. slice_index_or c w false) made_by.are.statics ∙ listed_at (λ p. is_static tree said (Some p)) (length tree.nodes.now) w false low ∙ static_w in
                  let parameter = static_parameter (entities.declared_of columns (Some w)) (names.around_of columns (Some w)).place
                  (names.is_own it.unit.nodes columns (Some w) (names.around_of columns (Some w)).function)
                  (entities.is_kept it.unit.nodes columns (entities.entity_of it.unit.nodes columns.names.now e))
                  (ap (λ b. is_automatic_by (names.by_declared (entities.declared_of columns (Some w)) (names.around_of columns (Some w)).place (names.is_own it.unit.nodes columns (Some w) (names.around_of columns (Some w)).function) b
                  (entities.is_kept it.unit.nodes columns (entities.entity_of it.unit.nodes columns.names.now e)))) (sym statics) ∙ g) in
                  false≢true (sym (ap (λ p. is_kept p (class_of (specified_in said (specifiers_in tree.nodes.now (declaration_of tree.nodes.now tree.above.now w))).storage)) (sym place_is ∙ parameter)) ∙ static_w)

    not_automatic : (facts_at shapes typing.facts i).lvalue ≡ true → is_anchored shapes typing i ≡ true → count_of n.first (unit_events it.unit) ≤ 1
        → is_automatic_by (slice_index_or t.durations (entity_of t i) duration.NoObject) ≡ false
    not_automatic lvalue h once = by (is_automatic_by (slice_index_or t.durations (entity_of t i) duration.NoObject)) refl
      where
        by : (b : Bool) → is_automatic_by (slice_index_or t.durations (entity_of t i) duration.NoObject) ≡ b → b ≡ false
        by false q = refl
        by true q = absurd (never (automatic_at file t it (entity_of t i) q) once (sees_static lvalue h))

pub last : Laws.AnchoredNamesLast
last file t it i n at is lvalue h once = not_automatic file t it i n at is lvalue h once
