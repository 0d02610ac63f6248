-- The initialiser of an object of static duration has a plan: the object has a known type, with no more cells than it may have (C11 6.7.9, K7).
use Rattle.std.proofs.Common.{◌≡◌, ℕ, zero, suc, ◌*◌, ◌<◌, ◌≤◌, ◌==◌, inl, Bool, true, false, ◌&&◌, ◌||◌, not, nat_lt, List, [], ◌∷◌, Option, None, Some, length, slice_get, slice_index_or, refl, sym, ap, subst, ◌∙◌, arith, mul_assoc, if◌then◌else◌}
use Rattle.std.proofs.lemmas.Bool.{false≢true, and_from, lt-ltb, ltb-true}
use Rattle.std.proofs.lemmas.List.{get_or-take}
use Rattle.std.proofs.lemmas.Option.{slice_get_within, same_Some}
use Rattle.cr_syntax.specs.declared.ctype.CType.TheVariants.{Int, Void, Struct}
use Rattle.cr_syntax.specs.declared.node.Kind.{Kind}
use Rattle.cr_syntax.specs.declared.node.Kind.TheVariants as kind
use Rattle.cr_syntax.specs.declared.node.Node.{Node}
use Rattle.cr_syntax.specs.declared.part.Part.{Part}
use Rattle.cr_syntax.specs.declared.part.Part.TheVariants as part
use Rattle.cr_syntax.specs.Tables.{rule_of, part_of, side_of}
use Rattle.cr_syntax_nodes.specs.Nodes.{least}
use Rattle.cr_syntax_nodes.specs.Laid.{is_among, stands_for, parts_of as alternatives_of}
use Rattle.cr_syntax_nodes.proofs.Numbers.{some_at}
use Rattle.cr_scopes_events.specs.declared.declarator.Declarator.{Declarator}
use Rattle.cr_scopes_events.specs.Values.{before}
use Rattle.cr_scopes_events.specs.Declarators.{nowhere, in_first, declared_by, declared_if, declarator_of}
use Rattle.cr_scopes_events.specs.Scripts as scripts
use Rattle.cr_scopes_events.proofs.Descents.{declarator_ruled}
use Rattle.cr_scopes_bindings.specs.Last.{last_with}
use Rattle.cr_scopes_bindings.specs.Nodes.{named_by, named_if, name_at}
use Rattle.cr_check_enclosing.specs.declared.context.Place.{Place}
use Rattle.cr_check_enclosing.specs.declared.context.Place.TheVariants as place
use Rattle.cr_check_enclosing.specs.declared.context.Around.{Around}
use Rattle.cr_check_enclosing.specs.Around.{outermost}
use Rattle.cr_check_types.specs.declared.layout.Layout.{Layout}
use Rattle.cr_check_types.specs.Types.{Qualified, plain, pointer as to, array, type_at}
use Rattle.cr_check_types.specs.Layouts.{count_of, element_of, single_of, layout_of, nothing as no_layout}
use Rattle.cr_check_expressions.specs.declared.known.Declared.{Declared}
use Rattle.cr_check_expressions.specs.declared.known.Declared.TheVariants.{Object, Unclear}
use Rattle.cr_check_expressions.specs.Known.{meaning_by, declared_by as declared_in, parameters_in}
use Rattle.cr_check_expressions.specs.Ruled.{is_type}
use Rattle.cr_check_declarators.specs.declared.words.Specified.{Specified}
use Rattle.cr_check_declarators.specs.Specifiers.{nothing}
use Rattle.cr_check_declarators.specs.Declarators.{most_cells}
use Rattle.cr_check_declarations.specs.Before.{specified_in}
use Rattle.cr_check_declarations.specs.Named.{declares_name, declaration_of, specifiers_in, class_of}
use Rattle.cr_check_declarations.specs.Faults.{place_of}
use Rattle.cr_check_initialised.specs.Durations.{is_kept, is_static as is_static_by_words}
use Rattle.cr_check_initialised.specs.Initialised.{object_of, weighed, is_planned, planned_if, planned_in, planned_by}
use Rattle.cr_check_unit.specs.Typing.{cut, before_in, object_in}
use Rattle.cr_typed.specs.declared.typed.Typed.{Typed}
use Rattle.cr_typed.specs.declared.typed.Duration.TheVariants as duration
use Rattle.cr_typed.specs.Typed.{MOST_CELLS}
use Rattle.cr_typed_columns.specs.Reading.{entry_of}
use Rattle.cr_typed_columns.specs.Entities as entities
use Rattle.cr_typed_columns.specs.Names as names
use Rattle.cr_meaning_operations.specs.Operations.{kind_if, kind_at, parts_if, parts_at, part_at, is_name, name_by, name_of, is_static_by, is_static}
use Rattle.cr_meaning_declarations.proofs.NamesLemmas.Leaves.{is_named, named_once}
use Rattle.cr_meaning_declarations.proofs.NamesLemmas.Parents.{IsPartOf, one_parent, is_deriving, IsInside, as_part as inner_part_of, whole_is}
use Rattle.cr_meaning_typing.specs.Typed.Typing.{has_value}
use Rattle.cr_meaning_types.specs.Known.Shaped.{IsPart}
use Rattle.cr_meaning_types.proofs.KnownLemmas.Declaring.{HasType, declared_typed}
use Rattle.cr_meaning_types.specs.Fitting.Bounded.{IsBounded, Declares}
use Rattle.cr_meaning_types.proofs.FittingLemmas.Names.{early}
use Rattle.cr_meaning_types.proofs.FittingLemmas.Bounding.{bounded, structures}
use Rattle.cr_meaning_types.proofs.FittingLemmas.Literals.{literals}
use Rattle.cr_meaning_types.proofs.KnownLemmas.Reading.{row}
use Rattle.cr_meaning_objects.proofs.ObjectsLemmas.Declaring.{last_there}
use Rattle.cr_meaning_references.proofs.TypedefsLemmas.Files.{are_seen}
use Rattle.cr_meaning_declarations.specs.Declared.Files.{IsUnitOfFile, assembled}
use Rattle.cr_meaning_declarations.proofs.DeclaredLemmas.Bodies.{listed_at}
use Rattle.cr_meaning_declarations.proofs.DeclaredLemmas.Files.{has_unit}
use Rattle.cr_meaning_declarations.proofs.DeclaredLemmas.Once.{place_init}
use Rattle.cr_meaning_references.proofs.TreesLemmas.Grammar.{part_in, Stands, is_of, of_part, among_drop}
use Rattle.cr_meaning_references.proofs.TreesLemmas.Tree.{has_part, needed}
use Rattle.cr_meaning_references.proofs.TreesLemmas.Shaped.{surrounded, shaped}
use Rattle.cr_meaning_references.proofs.TreesLemmas.Expressions.{is_jump}
use Rattle.cr_meaning_references.proofs.TreesLemmas.Sighted.{sighted}
use Rattle.cr_meaning_files.proofs.Declared.{types_known}

-- ---- the grammar

-- a declarator around another
abbrev pub is_around : Kind → Bool
is_around kind.GroupDeclarator = true
is_around kind.PointerDeclarator = true
is_around kind.ArrayDeclarator = true
is_around kind.FunctionDeclarator = true
is_around k = false

abbrev pub is_naming : Kind → Bool
is_naming kind.NameDeclarator = true
is_naming k = is_around k

abbrev pub is_naming_part : Part → Bool
is_naming_part part.Declarator = true
is_naming_part part.DirectDeclarator = true
is_naming_part p = false

naming_kinds : (k : Kind) → (not (is_among (part_of k) (alternatives_of part.Declarator)) || is_naming k) ≡ true
unfolding rule_of
naming_kinds kind.NameDeclarator = refl
naming_kinds k = refl

naming_stand : (p : Part) (k : Kind) → is_naming_part p ≡ true → stands_for p k ≡ true → is_naming k ≡ true
naming_stand part.Declarator k c s = row _ _ (naming_kinds k) s
naming_stand part.DirectDeclarator k c s = row _ _ (naming_kinds k) (among_drop 1 (part_of k) (alternatives_of part.Declarator) s)
naming_stand p k c s = absurd (false≢true c)

pub naming_there : (o : Option Part) (k : Kind) → is_of is_naming_part o ≡ true → Stands o k → is_naming k ≡ true
naming_there = of_part is_naming_part is_naming naming_stand

-- what has a declarator as its first part
abbrev pub is_holding : Kind → Bool
is_holding kind.InitDeclarator = true
is_holding k = is_around k

holding_first : (k : Kind) → (not (is_holding k) || (is_of is_naming_part (part_in (side_of k) 0) && nat_lt 0 (least (side_of k)))) ≡ true
unfolding rule_of
holding_first kind.InitDeclarator = refl
holding_first k = refl

holding_there : (k : Kind) → is_holding k ≡ true → is_jump k ≡ false
holding_there kind.Break h = absurd (false≢true h)
holding_there k h = refl

pub around_holding : (k : Kind) → is_around k ≡ true → is_holding k ≡ true
around_holding kind.InitDeclarator h = refl
around_holding k h = h

pub init_counts : nat_lt 1 (least (side_of kind.InitDeclarator)) ≡ true
unfolding rule_of
init_counts = refl

pub naming_is : (k : Kind) → is_naming k ≡ true → is_name k ≡ false → is_around k ≡ true
naming_is kind.NameDeclarator h e = absurd (false≢true (sym e))
naming_is k h e = h

pub only_name : (k : Kind) → is_name k ≡ true → k ≡ kind.NameDeclarator
only_name kind.NameDeclarator h = refl
only_name k h = absurd (false≢true h)

-- a declarator is no enumerator
plainly_named : (k : Kind) (first : ℕ) (name : Option ℕ) → is_naming k ≡ true → named_by k first name ≡ name
plainly_named kind.Enumerator first name h = absurd (false≢true h)
plainly_named k first name h = refl

-- ---- durations (6.2.4)

record IsStaticBy (d : Declared) (static : Bool) : Type 0 where
  row : ℕ
  register : Bool
  object : d ≡ Object row register
  static_is : static ≡ true

static_by : (d : Declared) (p : Place) (own static kept : Bool) → is_static_by (names.by_declared d p own static kept) ≡ true → IsStaticBy d static
static_by (Object row register) place.Parameter true static kept h = absurd (false≢true h)
static_by (Object row register) place.Parameter false static kept h = absurd (false≢true h)
static_by (Object row register) p own true kept h = record { row = row; register = register; object = refl; static_is = refl }
static_by (Object row register) p own false kept h = absurd (false≢true h)
static_by d p own static kept h = absurd (false≢true h)

-- ---- types

pub value_type : (type : Qualified) → has_value type ≡ true → is_type type ≡ true
value_type (plain (Int kind) c v) h = refl
value_type (plain Void c v) h = refl
value_type (plain (Struct node) c v) h = refl
value_type (plain of c v) h = absurd (false≢true h)
value_type (to c v below) h = refl
value_type (array n below) h = refl

few_cells : (x : ℕ) → x ≤ MOST_CELLS → nat_lt most_cells x ≡ false
few_cells x few = by (nat_lt most_cells x) refl
  where
    by : (b : Bool) → nat_lt most_cells x ≡ b → b ≡ false
    by false e = refl
    by true e = let more = ltb-true most_cells x e in absurd (omega (arith, more, few))

module _ (file : List ℕ) (t : Typed) (it : IsUnitOfFile file t) where
  open it use {made_by, typing, shapes, tree, columns}
  open has_unit file t it use {unit as u, nodes_are as same_nodes, tree_nodes, count, order}

  abbrev said : ℕ → Specified
  said p = slice_index_or typing.specified p nothing

  -- ---- the name of a declarator

  pub record HasFirst (a : ℕ) : Type 0 where
    pub inner : ℕ
    pub node : Node
    pub at : slice_get t.nodes inner ≡ Some node
    pub below : inner < a
    pub naming : is_naming node.kind ≡ true
    pub is : slice_get (parts_at t a) 0 ≡ Some inner
    pub same : part_at t a 0 ≡ inner

  pub first_of : (a : ℕ) → is_holding (kind_at t a) ≡ true → HasFirst a
  first_of a h =
      let x = and_parts_of (kind_at t a) h in
      let e = needed t u a 0 (kind_at t a) refl (holding_there (kind_at t a) h) (ltb-true 0 (least (side_of (kind_at t a))) x.1) in
      let p = has_part t u a 0 (part_at t a 0) e in
      record { inner = part_at t a 0; node = p.own; at = p.own_at; below = p.below; naming = sym (ap (λ o. is_naming (kind_if o)) p.own_at) ∙ naming_there (part_in (side_of (kind_at t a)) 0) (kind_at t (part_at t a 0)) x.0 p.stands; is = e; same = refl }
    where
      and_parts_of : (k : Kind) → is_holding k ≡ true → (is_of is_naming_part (part_in (side_of k) 0) ≡ true) × (nat_lt 0 (least (side_of k)) ≡ true)
      and_parts_of k h = both (is_of is_naming_part (part_in (side_of k) 0)) (nat_lt 0 (least (side_of k))) (row _ _ (holding_first k) h)
        where
          both : (a b : Bool) → (a && b) ≡ true → (a ≡ true) × (b ≡ true)
          both true true e = (refl, refl)
          both true false e = absurd (false≢true e)
          both false b e = absurd (false≢true e)

  pub record HasName (m a : ℕ) : Type 0 where
    pub node : Node
    pub at : slice_get t.nodes (name_by m t a) ≡ Some node
    pub is : node.kind ≡ kind.NameDeclarator
    pub name : (declarator_of t.nodes a).name ≡ Some node.first

  -- a declarator around another declares what that does
  name_inside : (a b : ℕ) (n : Node) → slice_get t.nodes a ≡ Some n → is_around n.kind ≡ true → slice_get n.parts 0 ≡ Some b → b < a → (declarator_of t.nodes a).name ≡ (declarator_of t.nodes b).name
  name_inside a b n at h first low =
      ap (λ (d : Declarator). d.name) (declarator_ruled t.nodes a) ∙ ap (λ o. (declared_if o (before nowhere a (declarator_of t.nodes)) a).name) at ∙ by n.kind h ∙ ap (λ (d : Declarator). d.name) (in_parts n.parts first)
      ∙ ap (λ x. (if x then declarator_of t.nodes b else nowhere).name) (lt-ltb b a low)
    where
      at_before : ℕ → Declarator
      at_before = before nowhere a (declarator_of t.nodes)

      by : (k : Kind) → is_around k ≡ true → (declared_by k (before nowhere a (declarator_of t.nodes)) a n).name ≡ (in_first (before nowhere a (declarator_of t.nodes)) n.parts).name
      by kind.GroupDeclarator h = refl
      by kind.PointerDeclarator h = refl
      by kind.ArrayDeclarator h = refl
      by kind.FunctionDeclarator h = refl
      by k h = absurd (false≢true h)

      in_parts : (ps : List ℕ) → slice_get ps 0 ≡ Some b → in_first (before nowhere a (declarator_of t.nodes)) ps ≡ before nowhere a (declarator_of t.nodes) b
      in_parts [] e = let never : None ≡ Some b = e in absurd cc
      in_parts (x ∷ ps) e = ap (before nowhere a (declarator_of t.nodes)) (same_Some x b e)

  pub named_at : (m a : ℕ) (n : Node) → a < m → slice_get t.nodes a ≡ Some n → is_naming n.kind ≡ true → HasName m a
  named_at zero a n low at h = absurd (omega (arith, low))
  named_at (suc m) a n low at h = by (is_name n.kind) refl (λ b x less f g. named_at m b x (omega (arith, low, less)) f g)
    where
      kind_is : kind_at t a ≡ n.kind
      kind_is = ap kind_if at

      by : (b : Bool) → is_name n.kind ≡ b → ((b : ℕ) (x : Node) → b < a → slice_get t.nodes b ≡ Some x → is_naming x.kind ≡ true → HasName m b) → HasName (suc m) a
      by true e rest =
          let is = only_name n.kind e in
          let self : name_by (suc m) t a ≡ a = ap (λ k. if is_name k then a else name_by m t (part_at t a 0)) kind_is ∙ ap (λ b. if b then a else name_by m t (part_at t a 0)) e in
          record {
            node = n;
            at = ap (slice_get t.nodes) self ∙ at;
            is = is;
            name = ap (λ (d : Declarator). d.name) (declarator_ruled t.nodes a) ∙ ap (λ o. (declared_if o (before nowhere a (declarator_of t.nodes)) a).name) at
                ∙ ap (λ k. (declared_by k (before nowhere a (declarator_of t.nodes)) a n).name) is;
          }
      by false e rest =
          let around = naming_is n.kind h e in
          let f = first_of a (ap is_holding kind_is ∙ around_holding n.kind around) in
          let r = rest f.inner f.node f.below f.at f.naming in
          let next : name_by (suc m) t a ≡ name_by m t f.inner = ap (λ k. if is_name k then a else name_by m t (part_at t a 0)) kind_is ∙ ap (λ b. if b then a else name_by m t (part_at t a 0)) e ∙ ap (name_by m t) f.same in
          record {
            node = r.node;
            at = ap (slice_get t.nodes) next ∙ r.at;
            is = r.is;
            name = name_inside a f.inner n at around (sym (ap (λ o. slice_get (parts_if o) 0) at) ∙ f.is) f.below ∙ r.name;
          }

  -- that of an initialised one is that of its first part
  pub init_named : (m d : ℕ) → d < m → kind_at t d ≡ kind.InitDeclarator → (f : HasFirst d) → (x : Node) × ((slice_get t.nodes (name_by m t d) ≡ Some x) × ((x.kind ≡ kind.NameDeclarator) × ((declarator_of t.nodes f.inner).name ≡ Some x.first)))
  init_named zero d low is f = absurd (omega (arith, low))
  init_named (suc m) d low is f =
      let less = f.below in
      let r = named_at m f.inner f.node (omega (arith, low, less)) f.at f.naming in
      let next : name_by (suc m) t d ≡ name_by m t f.inner = ap (λ k. if is_name k then d else name_by m t (part_at t d 0)) is ∙ ap (name_by m t) f.same in
      (r.node, (ap (slice_get t.nodes) next ∙ r.at, (r.is, r.name)))

  -- another node of the name is no enumerator, since its token is that of an identifier
  pub key_name : (e : ℕ) (x : Node) → slice_get t.nodes e ≡ Some x → x.kind ≡ kind.NameDeclarator → (w : ℕ) (o : Node) → slice_get t.nodes w ≡ Some o → name_at t.nodes w ≡ Some x.first → (declarator_of t.nodes w).name ≡ Some x.first
  key_name e x here named w o there g = by o.kind refl (sym (ap (λ p. named_if p (declarator_of t.nodes w).name) there) ∙ g)
    where
      by : (k : Kind) → o.kind ≡ k → named_by k o.first (declarator_of t.nodes w).name ≡ Some x.first → (declarator_of t.nodes w).name ≡ Some x.first
      by kind.Enumerator h g =
          let first : o.first ≡ x.first = same_Some o.first x.first g in
          let within = (u.within w o there).0 in
          let same : e ≡ w = named_once t u order e w x o x.first here named refl there (ap is_named h) (omega (arith, first)) (omega (arith, first)) (omega (arith, first, within)) in
          let node : x ≡ o = same_Some x o (sym here ∙ ap (slice_get t.nodes) same ∙ there) in
          let never : kind.NameDeclarator ≡ kind.Enumerator = sym named ∙ ap (λ (z : Node). z.kind) node ∙ h in
          absurd cc
      by k h g = g

  module _ (d : ℕ) (n : Node) (at : slice_get t.nodes d ≡ Some n) (is : n.kind ≡ kind.InitDeclarator) (static : is_static t d ≡ true) where
    kind_is : kind_at t d ≡ kind.InitDeclarator
    kind_is = ap kind_if at ∙ is

    at_u : slice_get tree.nodes.now d ≡ Some n
    at_u = ap (λ ns. slice_get ns d) tree_nodes ∙ at

    low : d < length t.nodes
    low = slice_get_within t.nodes d n at

    f : HasFirst d
    f = first_of d (ap is_holding kind_is)

    first_is : slice_get n.parts 0 ≡ Some f.inner
    first_is = sym (ap (λ o. slice_get (parts_if o) 0) at) ∙ f.is

    own : (x : Node) × ((slice_get t.nodes (name_of t d) ≡ Some x) × ((x.kind ≡ kind.NameDeclarator) × ((declarator_of t.nodes f.inner).name ≡ Some x.first)))
    own = init_named (length t.nodes) d low kind_is f

    abbrev e : ℕ
    e = name_of t d

    token_few : own.0.first < length it.unit.tokens.list.items
    token_few =
        let w = u.within (name_of t d) own.0 own.1.0 in
        let from = w.0 in
        let high = w.1 in
        let tokens_are : length t.tokens ≡ length it.unit.tokens.list.items = ap length made_by.elaborated.tokens_are in
        omega (arith, from, high, tokens_are)

    -- ---- its declarator is the whole one of the name

    key_first : name_at t.nodes f.inner ≡ Some own.0.first
    key_first = ap (λ o. named_if o (declarator_of t.nodes f.inner).name) f.at ∙ plainly_named f.node.kind f.node.first (declarator_of t.nodes f.inner).name f.naming ∙ own.1.1.1

    alone : (b : ℕ) → IsInside t u f.inner b → ⊥
    alone b inner =
        let above : IsPartOf t u f.inner d = record { parent = n; at = at; place = 0; is = first_is } in
        let same = one_parent t u f.inner b d (inner_part_of t u f.inner b inner) above in
        let one : inner.outer ≡ n = same_Some inner.outer n (sym inner.at ∙ ap (slice_get t.nodes) same ∙ at) in
        false≢true (sym (ap (λ (z : Node). is_deriving t u z.kind) one ∙ ap (is_deriving t u) is) ∙ inner.derives)

    whole : entities.whole_of it.unit.nodes columns (name_of t d) ≡ Some f.inner
    whole =
        let l = last_there (name_at t.nodes) (length t.nodes) own.0.first f.inner (slice_get_within t.nodes f.inner f.node f.at) key_first in
        let w = some_at t.nodes l.last l.low in
        ap (entry_of columns.declarers.now None) named ∙ ap (λ column. slice_index_or column own.0.first None) made_by.are.declarers
        ∙ made_by.is.surroundings.bindings.declarers.each own.0.first token_few ∙ ap (λ ns. last_with (name_at ns) (length ns) own.0.first) same_nodes
        ∙ l.is ∙ ap Some (sym (whole_is t u order (name_of t d) own.0 own.1.0 own.1.1.0 f.inner l.last own.1.1.1 (key_name (name_of t d) own.0 own.1.0 own.1.1.0 l.last w.0 w.1 l.has) l.behind alone))
      where
        named : entities.named_token it.unit.nodes (name_of t d) ≡ Some own.0.first
        named =
            ap (λ ns. entities.named_token ns (name_of t d)) same_nodes
            ∙ ap (λ o. if entities.is_name (scripts.kind_if o) then scripts.first_if o else None) own.1.0
            ∙ ap (λ k. if entities.is_name (Some k) then Some own.0.first else None) own.1.1.0

    -- ---- so it declares an object of static duration

    by_words : IsStaticBy (slice_index_or typing.declared f.inner Unclear) (is_static_by_words tree said (Some f.inner))
    by_words = static_by (slice_index_or typing.declared f.inner Unclear) (names.around_of columns (Some f.inner)).place own_one (is_static_by_words tree said (Some f.inner)) kept
        (sym (ap is_static_by columns_are) ∙ static_it)
      where
        own_one : Bool
        own_one = names.is_own it.unit.nodes columns (Some f.inner) (names.around_of columns (Some f.inner)).function

        kept : Bool
        kept = entities.is_kept it.unit.nodes columns (entities.entity_of it.unit.nodes columns.names.now (name_of t d))

        static_it : is_static_by (names.duration_of it.unit.nodes columns (name_of t d)) ≡ true
        static_it =
            ap is_static_by (sym (ap (λ ds. slice_index_or ds (name_of t d) duration.NoObject) made_by.elaborated.durations
            ∙ listed_at (names.duration_of it.unit.nodes columns) (length it.unit.nodes) (name_of t d) duration.NoObject (let few = slice_get_within t.nodes (name_of t d) own.0 own.1.0 in let c = count in omega (arith, few, c))))
            ∙ static

        columns_are : names.duration_of it.unit.nodes columns (name_of t d)
            ≡ names.by_declared (slice_index_or typing.declared f.inner Unclear) (names.around_of columns (Some f.inner)).place own_one (is_static_by_words tree said (Some f.inner)) kept
        columns_are =
            ap (λ o. names.by_declared (entities.declared_of columns o) (names.around_of columns o).place (names.is_own it.unit.nodes columns o (names.around_of columns o).function) (entry_of columns.statics.now false o) kept) whole
            ∙ ap (λ ds. names.by_declared (slice_index_or ds f.inner Unclear) (names.around_of columns (Some f.inner)).place own_one (slice_index_or columns.statics.now f.inner false) kept) made_by.are.declared
            ∙ ap (λ s. names.by_declared (slice_index_or typing.declared f.inner Unclear) (names.around_of columns (Some f.inner)).place own_one s kept)
            (ap (λ column. slice_index_or column f.inner false) made_by.are.statics
            ∙ listed_at (λ i. is_static_by_words tree said (Some i)) (length tree.nodes.now) f.inner false (subst (λ ns. f.inner < length ns) (sym tree_nodes) (slice_get_within t.nodes f.inner f.node f.at)))

    -- the words of its declaration are known at it
    pub lasting : is_static_by_words tree (before_in shapes (cut d typing)).specified (Some d) ≡ true
    lasting =
        ap (λ (x : Specified). is_kept (place_of tree d) (class_of x.storage)) (by (declaration_of tree.nodes.now tree.above.now d) refl)
        ∙ ap (λ p. is_kept p (class_of (specified_in said (specifiers_in tree.nodes.now (declaration_of tree.nodes.now tree.above.now d))).storage)) (sym place_is)
        ∙ ap (λ o. is_kept (place_of tree f.inner) (class_of (specified_in said (specifiers_in tree.nodes.now o)).storage)) (sym ((shaped file t it).initialised d f.inner n at_u is first_is))
        ∙ by_words.static_is
      where
        inner : IsPart tree d n 0 f.inner
        inner = (shaped file t it).parts d n at_u 0 f.inner first_is

        place_is : place_of tree f.inner ≡ place_of tree d
        place_is = ap (λ (x : Around). x.place) inner.around ∙ place_init n.kind d (slice_index_or tree.around.now d outermost) is

        at_specifiers : (x : ℕ) → declaration_of tree.nodes.now tree.above.now d ≡ Some x → (o : Option ℕ) → specifiers_in tree.nodes.now (Some x) ≡ o
            → specified_in (before_in shapes (cut d typing)).specified o ≡ specified_in said o
        at_specifiers x g None h = refl
        at_specifiers x g (Some s) h = get_or-take d typing.specified s nothing ((shaped file t it).ordered d x s n at_u (ap declares_name is) g h)

        by : (o : Option ℕ) → declaration_of tree.nodes.now tree.above.now d ≡ o
            → specified_in (before_in shapes (cut d typing)).specified (specifiers_in tree.nodes.now (declaration_of tree.nodes.now tree.above.now d)) ≡ specified_in said (specifiers_in tree.nodes.now (declaration_of tree.nodes.now tree.above.now d))
        by None g = (λ j. specified_in (before_in shapes (cut d typing)).specified (specifiers_in tree.nodes.now (g j)))
            ∙ sym (λ j. specified_in said (specifiers_in tree.nodes.now (g j)))
        by (Some x) g = (λ j. specified_in (before_in shapes (cut d typing)).specified (specifiers_in tree.nodes.now (g j)))
            ∙ at_specifiers x g (specifiers_in tree.nodes.now (Some x)) refl
            ∙ sym (λ j. specified_in said (specifiers_in tree.nodes.now (g j)))

    -- ---- and its initialiser has a plan

    typed : has_value (type_at shapes by_words.row) ≡ true
    typed =
        subst (HasType (type_at shapes)) by_words.object
        (declared_typed tree it.checked.checked.texts shapes typing made_by.is.whole.typing (λ b broken. made_by.sound.constraints b (inl broken)) (shaped file t it) f.inner f.node at_q (types_known file t it f.inner f.node at_q))
      where
        at_q : slice_get tree.nodes.now f.inner ≡ Some f.node
        at_q = ap (λ ns. slice_get ns f.inner) tree_nodes ∙ f.at

    bounds : IsBounded tree.nodes.now typing.layouts (length tree.nodes.now) (type_at shapes by_words.row)
    bounds =
        subst (Declares (λ r. IsBounded tree.nodes.now typing.layouts (length tree.nodes.now) (type_at shapes r))) by_words.object
        (bounded tree it.checked.checked.texts shapes typing made_by.is.whole.typing (λ b broken. made_by.sound.constraints b (inl broken)) (shaped file t it) (surrounded file t it) (sighted file t it) (are_seen file t (assembled file t it))
        (literals file it.unit.tokens.list.items it.unit.nodes it.checked.checked.texts it.tokenizes made_by.is.texts) (length tree.nodes.now) (omega arith) f.inner).declared

    structure_few : (node : ℕ) → (slice_index_or (cut d typing).layouts node no_layout).cells ≤ MOST_CELLS
    structure_few node =
        early (λ (l : Layout). l.cells ≤ MOST_CELLS) d typing.layouts node no_layout (omega arith)
        (λ less. structures tree it.checked.checked.texts shapes typing made_by.is.whole.typing (λ b broken. made_by.sound.constraints b (inl broken)) node)

    -- of the layouts before the declarator none has more cells than that of all
    less_cells : (type : Qualified) → (single_of (cut d typing).layouts (element_of type)).cells ≤ (single_of typing.layouts (element_of type)).cells
    less_cells (plain (Struct node) c v) =
        early (λ (l : Layout). l.cells ≤ (slice_index_or typing.layouts node no_layout).cells) d typing.layouts node no_layout (omega arith) (λ less. omega arith)
    less_cells (plain of c v) = omega arith
    less_cells (to c v below) = omega arith
    less_cells (array m below) = less_cells below

    type_few : (type : Qualified) → IsBounded tree.nodes.now typing.layouts (length tree.nodes.now) type → (layout_of (cut d typing).layouts type).cells ≤ MOST_CELLS
    type_few (plain (Struct node) c v) h = let few = structure_few node in omega (arith, few)
    type_few (plain (Int k) c v) h = omega arith
    type_few (plain of c v) h = omega arith
    type_few (to c v below) h = omega arith
    type_few (array m below) h =
        let all = mul_assoc m (count_of below) (single_of typing.layouts (element_of below)).cells in
        let few = h.1.1 in
        let less : m * count_of below * (single_of (cut d typing).layouts (element_of below)).cells ≤ m * count_of below * (single_of typing.layouts (element_of below)).cells = more (m * count_of below) _ _ (less_cells below) in
        omega (arith, all, few, less)
      where
        more : (c x y : ℕ) → x ≤ y → c * x ≤ c * y
        more zero x y h = omega arith
        more (suc c) x y h = let r = more c x y h in omega (arith, h, r)

    weighed_few : (type : Qualified) → IsBounded tree.nodes.now typing.layouts (length tree.nodes.now) type → (layout_of (cut d typing).layouts (weighed type)).cells ≤ MOST_CELLS
    weighed_few (plain of c v) h = type_few (plain of c v) h
    weighed_few (to c v below) h = type_few (to c v below) h
    weighed_few (array m below) h = by (m == 0)
      where
        by : (b : Bool) → (layout_of (cut d typing).layouts (if b then below else array m below)).cells ≤ MOST_CELLS
        by true = type_few below h.0
        by false = type_few (array m below) h

    second_is : slice_get n.parts 1 ≡ Some (part_at t d 1)
    second_is =
        sym (ap (λ o. slice_get (parts_if o) 1) at)
        ∙ needed t u d 1 kind.InitDeclarator kind_is refl (ltb-true 1 (least (side_of kind.InitDeclarator)) init_counts)

    pub planned : (type : Qualified) × (planned_by n.kind (cut d typing).layouts (object_in shapes (cut d typing) n) n.parts ≡ Some (record { type = type; initialiser = part_at t d 1 }))
    planned = (
      type_at shapes by_words.row,
      ap (λ k. planned_by k (cut d typing).layouts (object_in shapes (cut d typing) n) n.parts) is
          ∙ ap (λ o. planned_in (cut d typing).layouts o (slice_get n.parts 1)) object
          ∙ ap (planned_in (cut d typing).layouts (Some (type_at shapes by_words.row))) second_is
          ∙ ap (λ b. planned_if b (type_at shapes by_words.row) (part_at t d 1)) is_so,
    )
      where
        object : object_in shapes (cut d typing) n ≡ Some (type_at shapes by_words.row)
        object =
            ap (λ o. object_of (meaning_by (type_at shapes) (parameters_in (cut d typing).parameters o) (declared_in (cut d typing).declared o))) first_is
            ∙ ap (λ x. object_of (meaning_by (type_at shapes) (parameters_in (cut d typing).parameters (Some f.inner)) x)) (get_or-take d typing.declared f.inner Unclear f.below ∙ by_words.object)

        is_so : is_planned (cut d typing).layouts (type_at shapes by_words.row) ≡ true
        is_so = and_from _ _ (value_type (type_at shapes by_words.row) typed) (ap not (few_cells _ (weighed_few (type_at shapes by_words.row) bounds)))
