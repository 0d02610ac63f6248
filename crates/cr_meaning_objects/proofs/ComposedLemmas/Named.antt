-- The type of an object, which its first declaration has, is the composite at its last one (C11 6.2.7p3, p4).
use Rattle.std.proofs.Common.{◌≡◌, ℕ, suc, ◌+◌, ◌<◌, ◌≤◌, Bool, true, false, List, Option, None, Some, length, nat_lt, slice_get, slice_index_or, inl, inr, refl, sym, subst, ap, ◌∙◌, arith, if◌then◌else◌}
use Rattle.std.proofs.lemmas.Bool.{cases_lt, false≢true, eq-eqb, lt-ltb, ltb-true}
use Rattle.std.proofs.lemmas.Option.{slice_get_within, same_Some}
use Rattle.cr_syntax.specs.declared.node.Kind.{Kind}
use Rattle.cr_syntax.specs.declared.node.Kind.TheVariants as kind
use Rattle.cr_syntax.specs.declared.node.Node.{Node}
use Rattle.cr_syntax.specs.Kept.{row_in}
use Rattle.cr_syntax_nodes.specs.Nodes.{Rises}
use Rattle.cr_syntax_nodes.proofs.Made.{made_in, rises}
use Rattle.cr_syntax_nodes.proofs.Numbers.{occurs}
use Rattle.cr_syntax_nodes.proofs.Order.{in_order}
use Rattle.cr_scopes_events.specs.declared.event.Role.{Role}
use Rattle.cr_scopes_events.specs.Declarators.{declarator_of}
use Rattle.cr_scopes_events.specs.Scripts as scripts
use Rattle.cr_scopes_events.specs.Scripts.{storage_of}
use Rattle.cr_scopes_events.specs.Events.{events_of}
use Rattle.cr_scopes.specs.Resolved.{past_of}
use Rattle.cr_scopes.specs.Spelled.{name_of as spelled_name}
use Rattle.cr_scopes.specs.Units.{unit_events}
use Rattle.cr_scopes_bindings.specs.Last.{last_with}
use Rattle.cr_scopes_bindings.specs.Nodes.{named_by}
use Rattle.cr_scopes_bindings.specs.Entities as bound
use Rattle.cr_scopes_linkage.specs.Shared.Sorts.{Never}
use Rattle.cr_scopes_linkage.specs.Shared.Origins.{is_external, IsDeclarer}
use Rattle.cr_scopes_typedef_names.specs.Tellings.Tellings.{Telling, by_declaration, by_parameter, by_enumerator, by_tag, by_use}
use Rattle.cr_scopes_typedef_names.proofs.TellingsLemmas.Scripts.{all_told}
use Rattle.cr_check_types.specs.Types.{Qualified, type_at}
use Rattle.cr_check_expressions.specs.declared.known.Declared.TheVariants.{Object, Function, TypeName, Unclear}
use Rattle.cr_check_declarators.specs.declared.words.Class.{Class}
use Rattle.cr_check_declarations.specs.Named.{is_declarator, is_typedef, is_register, is_variadic, class_of, value_by}
use Rattle.cr_check_unit.specs.Typing.{entry_at}
use Rattle.cr_typed.specs.declared.typed.Typed.{Typed}
use Rattle.cr_typed_columns.specs.Reading.{Parsed, parsed_of, entry_of}
use Rattle.cr_typed_columns.specs.Entities as entities
use Rattle.cr_typed_columns.specs.Names as names
use Rattle.cr_meaning_operations.specs.Shapes.{named_type}
use Rattle.cr_meaning_operations.specs.Operations.{entity_if, entity_of}
use Rattle.cr_meaning_declarations.proofs.NamesLemmas.Leaves as leaves
use Rattle.cr_meaning_declarations.proofs.NamesLemmas.Leaves.{name_alone}
use Rattle.cr_meaning_declarations.specs.Declared.Files.{IsUnitOfFile}
use Rattle.cr_meaning_declarations.proofs.DeclaredLemmas.Bodies.{listed_at, last_has, name_there as kind_there, IsThere, node_of, type_is}
use Rattle.cr_meaning_declarations.proofs.LastingLemmas.Begun.{begun_own}
use Rattle.cr_meaning_declarations.specs.Linked.Laws.{DeclaresValue}
use Rattle.cr_meaning_declarations.proofs.LinkedLemmas.Owned.{own_there}
use Rattle.cr_meaning_declarations.proofs.LinkedLemmas.Order.{in_order_is}
use Rattle.cr_meaning_declarations.proofs.LinkedLemmas.Sorts.{values_share}
use Rattle.cr_meaning_declarations.proofs.DeclaredLemmas.Files.{has_unit}
use Rattle.cr_meaning_objects.specs.Chained.Laws.{DeclaresFunction}
use Rattle.cr_meaning_objects.proofs.ChainedLemmas.Words.{no_type}
use Rattle.cr_meaning_objects.proofs.ChainedLemmas.Known.{words, owned, there, IsOwned}
use Rattle.cr_meaning_objects.proofs.ChainedLemmas.Chained.{follow as functions_follow}
use Rattle.cr_meaning_objects.specs.Objects.Laws.{DeclaresObject}
use Rattle.cr_meaning_objects.proofs.ObjectsLemmas.Declaring.{is_silent, never_told, IsLast, last_there, entity_of_declared, few_of, declares_entity, first_declares, first_least}
use Rattle.cr_meaning_objects.proofs.ObjectsLemmas.Alone.{declared_is}
use Rattle.cr_meaning_objects.proofs.ObjectsLemmas.Objects.{value_there, follows_at}
use Rattle.cr_meaning_objects.proofs.ObjectsLemmas.Statics.{role_speaks, use_same, declarer_is}
use Rattle.cr_meaning_objects.specs.Composed.Laws
use Rattle.cr_meaning_objects.specs.Composed.Laws.{Becomes, IsObject}
use Rattle.cr_meaning_objects.proofs.ComposedLemmas.Sizes.{becomes_itself, becomes_further}
use Rattle.cr_meaning_objects.proofs.ComposedLemmas.Begun.{first_exists}
use Rattle.cr_meaning_objects.proofs.ComposedLemmas.Apart.{stands_behind}
use Rattle.cr_meaning_objects.proofs.ComposedLemmas.Steps.{own_becomes, initialised_object, initialised_becomes, behind_becomes, Next, chain_from, chain}
use Rattle.cr_meaning_references.proofs.TreesLemmas.Shaped.{shaped}
use Rattle.cr_scopes_visibility.proofs.AloneLemmas.First.{number_same as number_is}

-- ---- what tells a declared name

-- what declares otherwise than by an initialised declarator
external_plain : (k : Kind) → is_external k ≡ true → names.is_initialised (Some k) ≡ false
external_plain kind.Declaration h = refl
external_plain kind.FunctionDefinition h = refl
external_plain k h = absurd (false≢true h)

module _ (file : List ℕ) (t : Typed) (it : IsUnitOfFile file t) where
  open it use {made_by, typing, shapes, tree, columns}
  open has_unit file t it use {unit, order, nodes_are as same_nodes, count}

  abbrev parsed : Parsed
  parsed = parsed_of it.unit

  abbrev tokens : ℕ
  tokens = length it.unit.tokens.list.items

  abbrev spelled : ℕ → ℕ
  spelled = spelled_name file it.unit.tokens.list.items

  abbrev named : ℕ → Qualified
  named p = type_at shapes (slice_index_or typing.named p 0)

  abbrev composite : ℕ → Qualified
  composite p = type_at shapes (slice_index_or typing.composites p 0)

  -- ---- declared identifiers

  pub record IsName (i token : ℕ) : Type 0 where
    pub node : Node
    pub at : slice_get t.nodes i ≡ Some node
    pub is : node.kind ≡ kind.NameDeclarator
    pub first : node.first ≡ token

  name_low : (i token : ℕ) → IsName i token → i < length t.nodes
  name_low i token y = slice_get_within t.nodes i y.node y.at

  token_at : (i token : ℕ) → IsName i token → entities.named_token it.unit.nodes i ≡ Some token
  token_at i token y =
      ap (λ ns. entities.named_token ns i) same_nodes
      ∙ ap (λ o. if entities.is_name (scripts.kind_if o) then scripts.first_if o else None) y.at
      ∙ ap (λ k. if entities.is_name (Some k) then Some y.node.first else None) y.is
      ∙ ap Some y.first

  kind_at : (i token : ℕ) → IsName i token → scripts.kind_at it.unit.nodes i ≡ Some kind.NameDeclarator
  kind_at i token y = ap (λ ns. scripts.kind_at ns i) same_nodes ∙ ap scripts.kind_if y.at ∙ ap Some y.is

  name_there : (i token : ℕ) → entities.named_token it.unit.nodes i ≡ Some token → IsName i token
  name_there i token e =
      let n = node_of t unit order i kind.NameDeclarator (ap (λ ns. scripts.kind_at ns i) (sym same_nodes) ∙ kind_there it.unit.nodes i (subst IsThere (sym e) tt)) in
      let own : IsName i n.0.first = record { node = n.0; at = n.1.0; is = n.1.1; first = refl } in
      record { node = n.0; at = n.1.0; is = n.1.1; first = same_Some n.0.first token (sym (token_at i n.0.first own) ∙ e) }

  token_few : (i token : ℕ) → IsName i token → token < tokens
  token_few i token y =
      let w = unit.within i y.node y.at in
      let low = w.0 in
      let high = w.1 in
      let first = y.first in
      let tokens_are : length t.tokens ≡ tokens = ap length made_by.elaborated.tokens_are in
      omega (arith, low, high, tokens_are, first)

  -- each event of such a name declares it
  speaks : (i token : ℕ) → IsName i token → Never is_silent token (past_of (unit_events it.unit) (length (unit_events it.unit)))
  speaks i token y =
      never_told is_silent (Telling it.unit.nodes) token told (events_of it.unit.tokens.list.items it.unit.nodes it.unit.items) (all_told it.unit.tokens.list.items it.unit.nodes it.unit.items)
      (length (events_of it.unit.tokens.list.items it.unit.nodes it.unit.items))
    where
      moved : (l : ℕ) (n : Node) → slice_get it.unit.nodes l ≡ Some n → slice_get t.nodes l ≡ Some n
      moved l n at = ap (λ ns. slice_get ns l) (sym same_nodes) ∙ at

      told : (u : ℕ) (r : Role) → Telling it.unit.nodes u r → u ≡ token → is_silent r ≡ false
      told u r (by_declaration e is) same = ap is_silent is ∙ role_speaks (scripts.storage_of it.unit.nodes e.own.parts) (declarator_of it.unit.nodes e.declarator).next
      told u r (by_parameter e is) same = ap is_silent is
      told u r (by_enumerator e is) same = ap is_silent is
      told u r (by_tag e tags) same = absurd (leaves.no_tag t unit order i e.node y.node e.own y.at y.is (moved e.node e.own e.at) e.is (e.second ∙ same ∙ sym y.first))
      told u r (by_use e is) same = absurd (leaves.no_use t unit order i e.node y.node e.own y.at y.is (moved e.node e.own e.at) (use_same e.own.kind e.is) (e.first ∙ same ∙ sym y.first))

  rise_at : (k : ℕ) (n : Node) → slice_get t.nodes k ≡ Some n → Rises n.first (n.last + 1) (row_in t.nodes n.parts)
  rise_at k n q = rises (made_in unit.is_unit.spells (occurs t.nodes unit.below t.items unit.once unit.are (length t.nodes) k n (omega arith) q)).spells

  -- identifiers are numbered as they stand
  names_rise : (x y : ℕ) (a b : ℕ) → IsName x a → IsName y b → a < b → x < y
  names_rise x y a b m n less = elim (cases_lt x y) [
    | inl low ↦ low
    | inr ge ↦
        (let mine = m.first in
        let its = n.first in
        elim (cases_lt y x) [
          | inl more ↦
              (let one = (name_alone t unit order y n.node n.at n.is).1 in
              elim (in_order t.nodes unit.below rise_at order (rises unit.is_unit.spells) y x n.node m.node more n.at m.at) [
                | inl ends ↦ absurd (omega (arith, ends, one, less, mine, its))
                | inr inside ↦ (let stops = inside.1 in let own = (name_alone t unit order x m.node m.at m.is).1 in absurd (omega (arith, stops, one, own, less, mine, its)))
              ])
          | inr le ↦
              (let e : x ≡ y = omega (arith, ge, le) in
              let same : m.node ≡ n.node = same_Some m.node n.node (sym m.at ∙ ap (slice_get t.nodes) e ∙ n.at) in
              let first : m.node.first ≡ n.node.first = ap (λ (z : Node). z.first) same in
              absurd (omega (arith, first, less, mine, its)))
        ])
  ]

  above_is : (p : ℕ) → entry_of columns.above.now None (Some p) ≡ slice_index_or tree.above.now p None
  above_is p = ap (λ column. slice_index_or column p None) (made_by.are.above ∙ sym made_by.is.whole.tree.above)

  raised_by : (p a : ℕ) (n : Node) → slice_get t.nodes a ≡ Some n → slice_index_or tree.above.now p None ≡ Some a
      → names.with_initialiser it.unit.nodes columns (Some p) ≡ (if names.is_initialised (Some n.kind) then Some a else Some p)
  raised_by p a n at above =
      ap (λ o. names.initialised_if it.unit.nodes o (Some p)) (above_is p ∙ above)
      ∙ ap (λ ns. if names.is_initialised (scripts.kind_at ns a) then Some a else Some p) same_nodes
      ∙ ap (λ o. if names.is_initialised (scripts.kind_if o) then Some a else Some p) at

  module _ (node q : ℕ) (x : IsObject file t it node q) where
    abbrev token : ℕ
    token = x.own.first

    abbrev k : ℕ
    k = x.entity

    name : IsName node token
    name = record { node = x.own; at = x.at; is = x.is; first = refl }

    abbrev v : DeclaresValue t.nodes token
    v = record { declaration = x.declaration; declarator = q; node = x.holder; is = x.declarer; value = value_there file t it token x.declaration q x.holder x.declarer x.object }

    own_entity : bound.entity_at it.names token ≡ Some k
    own_entity = entity_of_declared it.names token k x.declares

    few : k < length it.names.entities
    few = few_of spelled (unit_events it.unit) tokens it.names it.known token k own_entity

    -- ---- any declaration of the object

    module _ (i other : ℕ) (y : IsName i other) (e : bound.entity_at it.names other ≡ Some k) where
      theirs : bound.declared_entity it.names other ≡ Some k
      theirs = declares_entity spelled (unit_events it.unit) tokens it.names it.known other k (token_few i other y) e (speaks i other y)

      w : DeclaresValue t.nodes other
      w = values_share file t it other token k theirs x.declares v

      abbrev r : ℕ
      r = w.declarator

      declarer : slice_index_or it.checked.checked.surroundings.bindings.declarers other None ≡ Some r
      declarer = declarer_is file t it other w.declaration r w.node w.is (token_few i other y)

      whole : entities.whole_of it.unit.nodes columns i ≡ Some r
      whole = ap (entry_of columns.declarers.now None) (token_at i other y) ∙ ap (λ column. slice_index_or column other None) made_by.are.declarers ∙ declarer

      one_declarator : other ≡ token → r ≡ q
      one_declarator same =
          same_Some r q (sym declarer ∙ ap (λ z. slice_index_or it.checked.checked.surroundings.bindings.declarers z None) same ∙ declarer_is file t it token x.declaration q x.holder x.declarer (token_few node token name))

      abbrev of : Option Class
      of = class_of (entry_at typing (words file t it w.declaration w.node w.is.at w.is.external).specifiers).own.specified.storage

      abbrev row : ℕ
      row = (entry_at typing r).own.named

      -- what is behind an object is no function
      later : token < other → DeclaresObject typing r
      later more = by (entry_at typing r).own.declarator.function refl
        where
          o : IsOwned file t it other w.declaration r w.node
          o = owned file t it other w.declaration r w.node w.is

          plain : is_typedef of ≡ false
          plain = sym (words file t it w.declaration w.node w.is.at w.is.external).say ∙ no_type (storage_of t.nodes w.node.parts) (declarator_of t.nodes r).next w.value

          declared : (f : Option ℕ) → (entry_at typing r).own.declarator.function ≡ f → slice_index_or typing.declared r Unclear ≡ value_by tree.nodes.now of f row
          declared f g =
              declared_is file t it w.declaration w.node w.is.at w.is.external r o.node o.at o.names o.declaration
              ∙ ap (λ c. if c then TypeName else value_by tree.nodes.now of (entry_at typing r).own.declarator.function row) plain
              ∙ ap (λ z. value_by tree.nodes.now of z row) g

          by : (f : Option ℕ) → (entry_at typing r).own.declarator.function ≡ f → DeclaresObject typing r
          by None g = (row, (is_register of, declared None g))
          by (Some f) g =
              let function : DeclaresFunction typing r = (row, (is_variadic tree.nodes.now f, declared (Some f) g)) in
              let d = (functions_follow file t it other token k w.declaration r x.declaration q w.node x.holder w.is x.declarer theirs x.declares function more).declares in
              let never : Object x.object.0 x.object.1.0 ≡ Function d.0 d.1.0 = sym x.object.1.1 ∙ d.1.1 in
              absurd cc

      object : DeclaresObject typing r
      object = elim (cases_lt other token) [
        | inl less ↦ follows_at file t it token other k x.declaration q w.declaration r x.holder w.node x.declarer w.is x.declares theirs x.object less
        | inr le ↦ elim (cases_lt token other) [
          | inl more ↦ later more
          | inr ge ↦ subst (DeclaresObject typing) (sym (one_declarator (omega (arith, le, ge)))) x.object
        ]
      ]

      becomes : token ≤ other → Becomes (composite q) (composite r)
      becomes le = elim (cases_lt token other) [
        | inl more ↦ chain file t it other token k more theirs x.declares w v object x.object
        | inr ge ↦ subst (λ p. Becomes (composite q) (composite p)) (sym (one_declarator (omega (arith, le, ge)))) (becomes_itself (composite q))
      ]

      -- with its initialiser
      record HasTop : Type 0 where
        top : ℕ
        is : names.with_initialiser it.unit.nodes columns (Some r) ≡ Some top
        grown : Becomes (composite r) (composite top)

      topped : HasTop
      topped = elim w.is.declares [
        | inl same ↦
            (let part = (shaped file t it).parts w.declaration w.node (there file t it w.declaration w.node w.is.at) (suc w.is.place) w.is.part w.is.is in
            record {
              top = r;
              is = raised_by r w.declaration w.node w.is.at (ap (λ p. slice_index_or tree.above.now p None) (sym same) ∙ part.above) ∙ ap (λ c. if c then Some w.declaration else Some r) (external_plain w.node.kind w.is.external);
              grown = becomes_itself (composite r);
            })
        | inr init ↦
            (let n = node_of t unit order w.is.part kind.InitDeclarator init.0 in
            let first : slice_get n.0.parts 0 ≡ Some r = ap (λ o. slice_get (scripts.parts_if o) 0) (sym n.1.0) ∙ init.1 in
            let part = (shaped file t it).parts w.is.part n.0 (there file t it w.is.part n.0 n.1.0) 0 r first in
            record {
              top = w.is.part;
              is = raised_by r w.is.part n.0 n.1.0 part.above ∙ ap (λ z. if names.is_initialised (Some z) then Some w.is.part else Some r) n.1.1;
              grown = initialised_becomes file t it other w object w.is.part n.0 n.1.0 n.1.1 first;
            })
      ]

    -- ---- the last one

    abbrev key : ℕ → Option ℕ
    key = entities.entity_of it.unit.nodes it.names

    record IsNamed (i : ℕ) : Type 0 where
      other : ℕ
      name_is : IsName i other
      stands : bound.entity_at it.names other ≡ Some k

    named_there : (i : ℕ) → key i ≡ Some k → IsNamed i
    named_there i e = by (entities.named_token it.unit.nodes i) refl e
      where
        by : (o : Option ℕ) → entities.named_token it.unit.nodes i ≡ o → bound.entity_if it.names o ≡ Some k → IsNamed i
        by None g f = let never : None ≡ Some k = f in absurd cc
        by (Some other) g f = record { other = other; name_is = name_there i other g; stands = f }

    final : IsLast key (length it.unit.nodes) k node
    final =
        last_there key (length it.unit.nodes) k node (let low = name_low node token name in let c = count in omega (arith, low, c))
        (ap (bound.entity_if it.names) (token_at node token name) ∙ own_entity)

    z : IsNamed final.last
    z = named_there final.last final.has

    behind : token ≤ z.other
    behind = elim (cases_lt z.other token) [
      | inl less ↦ (let rise = names_rise final.last node z.other token z.name_is name less in let le = final.behind in absurd (omega (arith, rise, le)))
      | inr le ↦ omega (arith, le)
    ]

    abbrev last_declarator : ℕ
    last_declarator = r final.last z.other z.name_is z.stands

    top_is : HasTop final.last z.other z.name_is z.stands
    top_is = topped final.last z.other z.name_is z.stands

    abbrev typed_by : Option ℕ → Qualified
    typed_by o = type_at columns.table.now (entry_of columns.composites.now 0 o)

    composed : names.composite_type it.unit.nodes columns (Some k) ≡ composite top_is.top
    composed =
        ap (λ ns. typed_by (names.with_initialiser it.unit.nodes columns (names.whole_if it.unit.nodes columns (entities.last_declared it.unit.nodes ns (Some k))))) made_by.are.names_are
        ∙ ap (λ c. typed_by (names.with_initialiser it.unit.nodes columns (names.whole_if it.unit.nodes columns (if c then last_with key (length it.unit.nodes) k else None)))) (lt-ltb k (length it.names.entities) few)
        ∙ ap (λ o. typed_by (names.with_initialiser it.unit.nodes columns (names.whole_if it.unit.nodes columns o))) final.is
        ∙ ap (λ o. typed_by (names.with_initialiser it.unit.nodes columns o)) (whole final.last z.other z.name_is z.stands)
        ∙ ap typed_by top_is.is
        ∙ ap (λ s. type_at s (slice_index_or columns.composites.now top_is.top 0)) made_by.are.table
        ∙ ap (λ rows. type_at shapes (slice_index_or rows top_is.top 0)) made_by.are.composites

    -- ---- the first one

    entity_at : (i other : ℕ) → IsName i other → bound.entity_at it.names other ≡ Some k → entities.entity_of it.unit.nodes columns.names.now i ≡ Some k
    entity_at i other y e = ap (bound.entity_if columns.names.now) (token_at i other y) ∙ ap (λ ns. bound.entity_at ns other) made_by.are.names_are ∙ e

    abbrev first_node : Option ℕ
    first_node = entities.first_declared parsed columns.names.now (Some k)

    named_first : (f other : ℕ) (y : IsName f other) (e : bound.entity_at it.names other ≡ Some k) → names.is_here f first_node ≡ true → named_type t f ≡ names.composite_type it.unit.nodes columns (Some k)
    named_first f other y e here =
        let entity = entity_at f other y e in
        let own = entities.entity_of it.unit.nodes columns.names.now f in
        let d = object f other y e in
        type_is file t it f (name_low f other y) ∙ ap (λ c. names.named_by c parsed columns f) (kind_at f other y)
        ∙ ap (λ b. if b then names.entity_type (entities.declared_of columns (entities.whole_of it.unit.nodes columns f)) it.unit.nodes columns f own else names.type_named columns (entities.whole_of it.unit.nodes columns f))
        (ap (λ o. names.is_here f (entities.first_declared parsed columns.names.now o)) entity ∙ here)
        ∙ ap (λ o. names.entity_type (entities.declared_of columns o) it.unit.nodes columns f own) (whole f other y e)
        ∙ ap (λ column. names.entity_type (slice_index_or column (r f other y e) Unclear) it.unit.nodes columns f own) made_by.are.declared
        ∙ ap (λ c. names.entity_type c it.unit.nodes columns f own) d.1.1
        ∙ ap (names.composite_type it.unit.nodes columns) entity

    refers : slice_index_or t.refs node None ≡ first_node
    refers =
        ap (λ rs. slice_index_or rs node None) made_by.elaborated.refs
        ∙ listed_at (names.ref_of parsed columns) (length it.unit.nodes) node None (let low = name_low node token name in let c = count in omega (arith, low, c))
        ∙ ap (λ c. if names.is_goto c then slice_index_or columns.labels.now node None else entities.first_declared parsed columns.names.now (bound.entity_if columns.names.now (if names.is_mention c then scripts.first_at it.unit.nodes node else None))) (kind_at node token name)
        ∙ ap (λ o. entities.first_declared parsed columns.names.now (bound.entity_if columns.names.now o)) (ap (λ ns. scripts.first_at ns node) same_nodes ∙ ap scripts.first_if x.at)
        ∙ ap (λ ns. entities.first_declared parsed columns.names.now (bound.entity_at ns token)) made_by.are.names_are
        ∙ ap (entities.first_declared parsed columns.names.now) own_entity

    -- the node that declares the entity first is one of its names
    first_there : (f : ℕ) → first_node ≡ Some f → IsNamed f
    first_there f e = by (bound.first_of it.names (Some k)) refl (sym (ap (λ ns. entities.name_node parsed (bound.first_of ns (Some k))) made_by.are.names_are) ∙ e)
      where
        by : (o : Option ℕ) → bound.first_of it.names (Some k) ≡ o → entities.name_node parsed o ≡ Some f → IsNamed f
        by None g h = let never : None ≡ Some f = h in absurd cc
        by (Some first) g h = at (nat_lt first tokens) refl h
          where
            at : (b : Bool) → nat_lt first tokens ≡ b → (if b then last_with (entities.named_token it.unit.nodes) (length it.unit.nodes) first else None) ≡ Some f → IsNamed f
            at false c d = let never : None ≡ Some f = d in absurd cc
            at true c d =
                record {
                  other = first;
                  name_is = name_there f first (number_is (entities.named_token it.unit.nodes f) first (last_has (entities.named_token it.unit.nodes) (length it.unit.nodes) first f d));
                  stands = begun_own spelled (unit_events it.unit) tokens it.names first k it.known (ltb-true first tokens c) g;
                }

    -- the object has the composite type at its last declaration
    whole_type : (f : ℕ) → slice_index_or t.refs node None ≡ Some f → named_type t (entity_of t node) ≡ composite top_is.top
    whole_type f e =
        let there_first = first_there f (sym refers ∙ e) in
        ap (λ o. named_type t (entity_if o node)) e
        ∙ named_first f there_first.other there_first.name_is there_first.stands (ap (names.is_here f) (sym refers ∙ e) ∙ eq-eqb f f refl)
        ∙ composed

    all_become : Becomes (composite q) (composite top_is.top)
    all_become = becomes_further (composite q) (composite last_declarator) (composite top_is.top) (becomes final.last z.other z.name_is z.stands behind) top_is.grown

    -- ---- the first declaration is there

    exists : (f : ℕ) × (slice_index_or t.refs node None ≡ Some f)
    exists =
        let begin = first_exists spelled (unit_events it.unit) tokens it.names token k it.known (token_few node token name) own_entity in
        let first = begin.0 in
        let least = first_least spelled (unit_events it.unit) tokens it.names it.known token k first (token_few node token name) own_entity (speaks node token name) begin.1 in
        let low = token_few node token name in
        let few_first : first < tokens = omega (arith, least, low) in
        let own = begun_own spelled (unit_events it.unit) tokens it.names first k it.known few_first begin.1 in
        let its = first_declares spelled (unit_events it.unit) tokens it.names it.known k first begin.1 few own in
        let u = values_share file t it first token k its x.declares v in
        let h = own_there t unit order first u.declarator u.is.name in
        let y : IsName h.own first = record { node = h.node; at = h.at; is = h.is; first = h.first } in
        let l = last_there (entities.named_token it.unit.nodes) (length it.unit.nodes) first h.own (let high = name_low h.own first y in let c = count in omega (arith, high, c)) (token_at h.own first y) in (
          l.last,
          refers ∙ ap (λ ns. entities.name_node parsed (bound.first_of ns (Some k))) made_by.are.names_are
              ∙ ap (entities.name_node parsed) begin.1
              ∙ ap (λ b. if b then last_with (entities.named_token it.unit.nodes) (length it.unit.nodes) first else None) (lt-ltb first tokens few_first)
              ∙ l.is,
        )

    -- it declares the entity
    first_stands : key (entity_of t node) ≡ Some k
    first_stands =
        let y = first_there exists.0 (sym refers ∙ exists.1) in
        ap (λ o. key (entity_if o node)) exists.1 ∙ ap (bound.entity_if it.names) (token_at exists.0 y.other y.name_is) ∙ y.stands

    completes : Becomes (named q) (named_type t (entity_of t node))
    completes =
        let o = owned file t it token x.declaration q x.holder x.declarer in
        subst (Becomes (named q)) (sym (whole_type exists.0 exists.1))
        (becomes_further (named q) (composite q) (composite top_is.top) (own_becomes file t it q o.node (there file t it q o.node o.at) x.object) all_become)

    -- ---- with its initialiser

    module _ (i : ℕ) (n : Node) (at : slice_get t.nodes i ≡ Some n) (is : n.kind ≡ kind.InitDeclarator) (first : slice_get n.parts 0 ≡ Some q) where
      top_same : last_declarator ≡ q → top_is.top ≡ i
      top_same same =
          same_Some top_is.top i
          (sym top_is.is ∙ ap (λ p. names.with_initialiser it.unit.nodes columns (Some p)) same
          ∙ raised_by q i n at ((shaped file t it).parts i n (there file t it i n at) 0 q first).above ∙ ap (λ c. if names.is_initialised (Some c) then Some i else Some q) is)

      apart : (one : ℕ) (u : DeclaresValue t.nodes one) → u.declarator ≡ i → ⊥
      apart one u same =
          let o = owned file t it one u.declaration u.declarator u.node u.is in
          let own : o.node ≡ n = same_Some o.node n (sym o.at ∙ ap (slice_get t.nodes) same ∙ at) in
          false≢true (ap is_declarator (sym is ∙ ap (λ (y : Node). y.kind) (sym own)) ∙ o.is)

      next : Next file t it i token
      next one u object less last linked =
          behind_becomes file t it one token u v object x.object less last linked i n at is first
          (stands_behind t unit order one u.declaration q u.declarator i u.node n u.is at is first
          (in_order_is file t it token one x.declaration q u.declaration u.declarator x.holder u.node x.declarer u.is less) (apart one u))

      grown : Becomes (composite i) (composite top_is.top)
      grown = elim (cases_lt token z.other) [
        | inl more ↦
            becomes_further (composite i) (composite last_declarator) (composite top_is.top)
            (chain_from file t it i (suc z.other) z.other token k (omega arith) more (theirs final.last z.other z.name_is z.stands) x.declares (w final.last z.other z.name_is z.stands)
            (object final.last z.other z.name_is z.stands) next) top_is.grown
        | inr ge ↦
            (let le = behind in
            subst (λ p. Becomes (composite i) (composite p)) (sym (top_same (one_declarator final.last z.other z.name_is z.stands (omega (arith, ge, le))))) (becomes_itself (composite i)))
      ]

      initialises : Becomes (named i) (named_type t (entity_of t node))
      initialises =
          subst (Becomes (named i)) (sym (whole_type exists.0 exists.1))
          (becomes_further (named i) (composite i) (composite top_is.top)
          (own_becomes file t it i n (there file t it i n at) (initialised_object file t it token v x.object i n at is first)) grown)

pub complete : Laws.CompositesComplete
complete file t it node q x = completes file t it node q x

pub initialised : Laws.InitialisersComplete
initialised file t it node q x i n at is first = initialises file t it node q x i n at is first

module _ (file : List ℕ) (t : Typed) (it : IsUnitOfFile file t) (node q : ℕ) (x : IsObject file t it node q) (i : ℕ)
    (e : entities.entity_of it.unit.nodes it.names i ≡ Some x.entity) where
  abbrev y : IsNamed file t it node q x i
  y = named_there file t it node q x i e

  abbrev its_value : DeclaresValue t.nodes y.other
  its_value = w file t it node q x i y.other y.name_is y.stands

  -- its declarator declares the object
  its_object : IsObject file t it i its_value.declarator
  its_object = record {
    own = y.name_is.node;
    at = y.name_is.at;
    is = y.name_is.is;
    entity = x.entity;
    declares = ap (bound.declared_entity it.names) y.name_is.first ∙ theirs file t it node q x i y.other y.name_is y.stands;
    declaration = its_value.declaration;
    holder = its_value.node;
    declarer = subst (λ z. IsDeclarer t.nodes z its_value.declaration its_value.declarator its_value.node) (sym y.name_is.first) its_value.is;
    object = object file t it node q x i y.other y.name_is y.stands;
  }

  its_entity : entity_of t i ≡ entity_of t node
  unfolding its_object
  its_entity =
      let first = exists file t it node q x in
      ap (λ o. entity_if o i) (refers file t it i its_value.declarator its_object ∙ sym (refers file t it node q x) ∙ first.1) ∙ sym (ap (λ o. entity_if o node) first.1)

pub objects_named : Laws.NamesOfObjectsAreObjects
objects_named file t it node q x i e = (
  (its_value file t it node q x i e).declarator,
  (
    its_object file t it node q x i e,
    (
      (let y = named_there file t it node q x i e in whole file t it node q x i y.other y.name_is y.stands),
      its_entity file t it node q x i e,
    ),
  ),
)

pub firsts : Laws.FirstsDeclareTheirObjects
firsts file t it node q x = first_stands file t it node q x
