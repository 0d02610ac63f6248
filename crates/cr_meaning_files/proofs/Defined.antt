-- A called function of the unit's own is defined by the definition that its name's row has (C11 6.5.2.2p1, 6.9p3, K40).
use Rattle.std.specs.Prelude.{codes, is_none}
use Rattle.std.proofs.Common.{◌≡◌, ℕ, suc, ◌<◌, ◌&&◌, not, inl, inr, Bool, true, false, List, [], Option, None, Some, length, map, drop, slice_get, slice_index_or, refl, sym, ap, subst, ◌∙◌, arith, if◌then◌else◌}
use Rattle.std.proofs.lemmas.Bool.{cases_lt, false≢true, eq-eqb, lt-ltb}
use Rattle.std.proofs.lemmas.List.{get_or-map}
use Rattle.std.proofs.lemmas.Option.{slice_get_within}
use Rattle.cr_tokens.specs.declared.token.Token.{Token}
use Rattle.cr_syntax.specs.declared.ctype.CType.TheVariants as type
use Rattle.cr_syntax.specs.declared.node.Kind.{Kind}
use Rattle.cr_syntax.specs.declared.node.Kind.TheVariants as kind
use Rattle.cr_syntax.specs.declared.node.Node.{Node}
use Rattle.cr_scopes_events.specs.declared.event.Event.{Event}
use Rattle.cr_scopes_events.specs.Declarators.{declarator_of}
use Rattle.cr_scopes_events.specs.Scripts as scripts
use Rattle.cr_scopes.specs.declared.names.Names.{Names}
use Rattle.cr_scopes.specs.Spelled.{name_of as spelled_name}
use Rattle.cr_scopes.specs.Units.{unit_events}
use Rattle.cr_scopes_bindings.specs.Last.{last_with}
use Rattle.cr_scopes_bindings.specs.Entities as bound
use Rattle.cr_scopes_linkage.specs.Shared.Origins.{is_external, IsDeclarer}
use Rattle.cr_scopes_linkage.specs.Shared.Sorts.{is_value}
use Rattle.cr_scopes_visibility.specs.Sight.Scopes.{is_using}
use Rattle.cr_check_signatures.proofs.CalleesLemmas.Spelled.{same_spelling}
use Rattle.cr_check_definitions.specs.Known as checks
use Rattle.cr_check_definitions.specs.Known.{Known, kind_above}
use Rattle.cr_check_definitions.specs.Defined.{is_definition, is_extern, is_library, open_by, is_open_if}
use Rattle.cr_check.specs.Columns.{known_in}
use Rattle.cr_check_types.specs.Types.{Qualified, plain, unknown, type_at}
use Rattle.cr_check_declarators.specs.declared.functions.Library.TheVariants as library
use Rattle.cr_check_declarators.specs.Functions.{library_of}
use Rattle.cr_check_expressions.specs.declared.known.Declared.TheVariants.{Object, Function, Unclear}
use Rattle.cr_check_expressions.specs.Known as expressions
use Rattle.cr_check_expressions.specs.Known.{meaning_by, spelling_of}
use Rattle.cr_typed.specs.declared.typed.Typed.{Typed}
use Rattle.cr_typed_columns.specs.Reading.{Parsed, parsed_of}
use Rattle.cr_typed_columns.specs.Entities as entities
use Rattle.cr_typed_columns.specs.Names as names
use Rattle.cr_meaning.specs.declared.op.Callee.{Callee}
use Rattle.cr_meaning.specs.declared.op.Callee.TheVariants as callee
use Rattle.cr_meaning.specs.declared.op.Parameter.{Parameter}
use Rattle.cr_meaning_operations.specs.Shapes.{named_type, value_type}
use Rattle.cr_meaning_operations.specs.Operations.{parts_at, first_if, first_at, entity_if, entity_of, function_in, spelling_if, calls, is_text, function_of, callee_of}
use Rattle.cr_meaning_declarations.specs.Declared.Files.{IsUnitOfFile}
use Rattle.cr_meaning_declarations.proofs.DeclaredLemmas.Bodies.{listed_at, IsThere, name_there, node_of}
use Rattle.cr_meaning_declarations.specs.Linked.Laws.{DeclaresValue}
use Rattle.cr_meaning_declarations.proofs.LinkedLemmas.Sorts.{values_share}
use Rattle.cr_meaning_declarations.proofs.DeclaredLemmas.Files.{has_unit}
use Rattle.cr_meaning_objects.specs.Chained.Laws.{DeclaresFunction}
use Rattle.cr_meaning_objects.proofs.ChainedLemmas.Words.{value_is}
use Rattle.cr_meaning_objects.proofs.ChainedLemmas.Known.{there, owned, function_plain}
use Rattle.cr_meaning_objects.proofs.ChainedLemmas.Chained as chained
use Rattle.cr_meaning_objects.proofs.ObjectsLemmas.Declaring.{IsLast, last_there, entity_of_declared, few_of, token_low}
use Rattle.cr_meaning_objects.proofs.ObjectsLemmas.Objects.{follows_at}
use Rattle.cr_meaning_objects.proofs.KeptLemmas.Defined.{whole_by, entity_by, IsDefined, defined_there, IsFirst, first_node}
use Rattle.cr_meaning_objects.proofs.KeptLemmas.Kept.{sort_of}
use Rattle.cr_meaning_objects.proofs.ObjectsLemmas.Statics.{declarer_is}
use Rattle.cr_meaning_files.proofs.Names.{declare}
use Rattle.cr_meaning_objects.specs.Called.Laws.{IsMeant}
use Rattle.cr_meaning_files.specs.Meant as Laws
use Rattle.cr_meaning_files.specs.Meant.{SeesFunction}
use Rattle.cr_meaning_files.proofs.Declarers.{seen}
use Rattle.cr_meaning_files.proofs.Entities.{one_name}
use Rattle.cr_meaning_files.proofs.Meant.{stands as stand}
use Rattle.cr_meaning_references.proofs.TreesLemmas.Shaped.{shaped}

-- ---- what leaves no definition open

-- a declaration that isn't the library's, and doesn't leave the definition to another one, is one
is_body : (body own : Bool) → own ≡ false → (not body && not own) ≡ false → body ≡ true
is_body true own e h = refl
is_body false true e h = absurd (false≢true (sym e))
is_body false false e h = absurd (false≢true (sym h))

body_kind : (k : Kind) → is_definition (Some k) ≡ true → k ≡ kind.FunctionDefinition
body_kind kind.FunctionDefinition h = refl
body_kind k h = absurd (false≢true h)

-- ---- the library's names

-- a call of another function than the library's is spelled like none of these
no_library : (texts : List Bool) (f : Callee) (parameters : List Parameter) (rest : ℕ) (is_main : Bool) (a b c d : Bool)
    → (if a then callee.Printf texts else (if b then callee.Putchar else (if c then callee.Exit else (if d then callee.Abort else f)))) ≡ callee.Function parameters rest is_main
    → (if a then Some library.Printf else (if b then Some library.Putchar else (if d then Some library.Abort else (if c then Some library.Exit else None)))) ≡ None
no_library texts f parameters rest is_main true b c d e = absurd cc
no_library texts f parameters rest is_main false true c d e = absurd cc
no_library texts f parameters rest is_main false false true d e = absurd cc
no_library texts f parameters rest is_main false false false true e = absurd cc
no_library texts f parameters rest is_main false false false false e = refl

spelled_if : (file : List ℕ) (o : Option Token) → spelling_if file o ≡ expressions.spelling_if file o
spelled_if file None = refl
spelled_if file (Some token) = refl

-- ---- the definition with an entity

record IsDefiner (nodes : List Node) (n : Names) (i k : ℕ) : Type 0 where
  body : scripts.kind_at nodes i ≡ Some kind.FunctionDefinition
  declarator : ℕ
  second : slice_get (scripts.parts_at nodes i) 1 ≡ Some declarator
  token : ℕ
  name : (declarator_of nodes declarator).name ≡ Some token
  entity : bound.entity_at n token ≡ Some k

definer : (nodes : List Node) (n : Names) (i k : ℕ) → entities.defined_entity nodes n i ≡ Some k → IsDefiner nodes n i k
definer nodes n i k e = by (scripts.kind_at nodes i) refl e
  where
    by_name : scripts.kind_at nodes i ≡ Some kind.FunctionDefinition → (q : ℕ) → slice_get (scripts.parts_at nodes i) 1 ≡ Some q → (o : Option ℕ) → (declarator_of nodes q).name ≡ o → bound.entity_if n o ≡ Some k → IsDefiner nodes n i k
    by_name c q f None h g = absurd cc
    by_name c q f (Some token) h g = record { body = c; declarator = q; second = f; token = token; name = h; entity = g }

    by_part : scripts.kind_at nodes i ≡ Some kind.FunctionDefinition → (o : Option ℕ) → slice_get (scripts.parts_at nodes i) 1 ≡ o → bound.entity_if n (entities.declared_token nodes o) ≡ Some k → IsDefiner nodes n i k
    by_part c None f g = absurd cc
    by_part c (Some q) f g = by_name c q f (declarator_of nodes q).name refl g

    by : (c : Option Kind) → scripts.kind_at nodes i ≡ c → (if entities.is_definition c then bound.entity_if n (entities.declared_token nodes (slice_get (scripts.parts_at nodes i) 1)) else None) ≡ Some k → IsDefiner nodes n i k
    by (Some kind.FunctionDefinition) q f = by_part q (slice_get (scripts.parts_at nodes i) 1) refl f
    by c q f = absurd cc

module _ (file : List ℕ) (t : Typed) (it : IsUnitOfFile file t) where
  open it use {made_by, typing, shapes, tree, columns}
  open has_unit file t it use {unit, order, nodes_are as same_nodes, count}

  abbrev parsed : Parsed
  parsed = parsed_of it.unit

  abbrev tokens : ℕ
  tokens = length it.unit.tokens.list.items

  abbrev spelled : ℕ → ℕ
  spelled = spelled_name file it.unit.tokens.list.items

  abbrev events : List Event
  events = unit_events it.unit

  abbrev known : Known
  known = known_in file it.unit it.checked.checked

  -- the type that a node names in the typed unit
  type_is : (i : ℕ) → i < length t.nodes → named_type t i ≡ names.named_of parsed columns i
  type_is i less =
      let rows = made_by.fits.named_count in
      let c = count in
      sym (get_or-map (type_at t.shapes) t.named i 0 unknown (omega (arith, less, rows)))
      ∙ ap (λ ts. slice_index_or ts i unknown) made_by.elaborated.named.are
      ∙ listed_at (names.named_of parsed columns) (length it.unit.nodes) i unknown (omega (arith, less, c))

  -- ---- a call of a function of the unit's own

  module _ (i : ℕ) (n : Node) (at : slice_get t.nodes i ≡ Some n) (parameters : List Parameter) (rest : ℕ) (is_main : Bool) (called : callee_of t i ≡ callee.Function parameters rest is_main) where
    written : spelling_if t.file (slice_get t.tokens (first_at t i)) ≡ spelling_of file it.unit.tokens.list.items n.first
    written =
        ap (λ bytes. spelling_if bytes (slice_get t.tokens (first_at t i))) made_by.elaborated.file_is
        ∙ ap (λ ts. spelling_if file (slice_get ts (first_at t i))) made_by.elaborated.tokens_are
        ∙ ap (λ o. spelling_if file (slice_get it.unit.tokens.list.items (first_if o))) at
        ∙ spelled_if file (slice_get it.unit.tokens.list.items n.first)

    -- it is spelled like none of the library's
    spelled_own : library_of (spelling_of file it.unit.tokens.list.items n.first) ≡ None
    spelled_own =
        ap library_of (sym written)
        ∙ no_library (map (λ part. is_text (value_type t part)) (drop 1 (parts_at t i))) (function_of t (function_in (named_type t (entity_of t i)))) parameters rest is_main
        (calls t i (codes "printf")) (calls t i (codes "putchar")) (calls t i (codes "exit")) (calls t i (codes "abort")) called

  -- what declares a function is told as a value
  told_value : (token declaration q : ℕ) (m : Node) → IsDeclarer t.nodes token declaration q m → DeclaresFunction typing q
      → is_value (scripts.role_by (scripts.storage_of t.nodes m.parts) (declarator_of t.nodes q).next) ≡ true
  told_value token declaration q m d function =
      let o = owned file t it token declaration q m d in
      value_is (scripts.storage_of t.nodes m.parts) (declarator_of t.nodes q).next (function_plain file t it declaration m d.at d.external q o.node o.at o.names o.declaration function)

  module _ (token k declaration q : ℕ) (m : Node) (d : IsDeclarer t.nodes token declaration q m)
      (mine : bound.declared_entity it.names token ≡ Some k) (function : DeclaresFunction typing q) where
    -- ---- what declares the entity of a function

    abbrev own_value : DeclaresValue t.nodes token
    own_value = record { declaration = declaration; declarator = q; node = m; is = d; value = told_value token declaration q m d function }

    record IsFunction (other : ℕ) : Type 0 where
      value : DeclaresValue t.nodes other
      is : DeclaresFunction typing value.declarator

    -- a function as well
    is_function : (other : ℕ) → bound.declared_entity it.names other ≡ Some k → IsFunction other
    is_function other its = elim (cases_lt other token) [
      | inl less ↦ record { value = v; is = (chained.follow file t it token other k declaration q v.declaration v.declarator m v.node d v.is mine its function less).declares }
      | inr ge ↦ elim (cases_lt token other) [
        | inl more ↦ elim (sort_of file t it other v) [
          | inl object ↦
              (let x = follows_at file t it other token k v.declaration v.declarator declaration q v.node m v.is d its mine object more in
              let never : Function function.0 function.1.0 ≡ Object x.0 x.1.0 = sym function.1.1 ∙ x.1.1 in
              absurd cc)
          | inr is ↦ record { value = v; is = is }
        ]
        | inr le ↦ (let same : token ≡ other = omega (arith, ge, le) in subst IsFunction same (record { value = own_value; is = function }))
      ]
    ]
      where
        v : DeclaresValue t.nodes other
        v = values_share file t it other token k its mine own_value

    -- ---- where it is called

    module _ (i : ℕ) (n : Node) (at : slice_get t.nodes i ≡ Some n) (call : n.kind ≡ kind.Call) (stands : bound.entity_at it.names n.first ≡ Some k)
        (own : library_of (spelling_of file it.unit.tokens.list.items n.first) ≡ None) where
      x : IsDefined file t it k
      x = defined_there file t it token k declaration q m d mine i n at (ap is_using call) stands

      abbrev e : ℕ
      e = x.defining

      o : IsFunction e
      o = is_function e x.declares

      abbrev w : ℕ
      w = o.value.declarator

      abbrev definition : ℕ
      definition = o.value.declaration

      e_entity : bound.entity_at it.names e ≡ Some k
      e_entity = entity_of_declared it.names e k x.declares

      e_low : e < tokens
      e_low = token_low spelled events tokens it.names it.known e k e_entity

      declarer : slice_index_or it.checked.checked.surroundings.bindings.declarers e None ≡ Some w
      declarer = declarer_is file t it e definition w o.value.node o.value.is e_low

      of_own : is_library known e ≡ false
      of_own =
          ap (λ s. not (is_none (library_of s))) (same_spelling file it.unit.tokens.list.items e n.first
          (one_name spelled events tokens it.names it.known k e n.first e_low (token_low spelled events tokens it.names it.known n.first k stands) e_entity stands))
          ∙ ap (λ l. not (is_none l)) own

      -- so a body stands behind its declarator (K40)
      bodied : is_definition (kind_above known w) ≡ true
      bodied = is_body (is_definition (kind_above known w)) (is_library known e) of_own
          (sym (ap (λ y. open_by (meaning_by (type_at shapes) (slice_index_or typing.parameters w []) y) (kind_above known w) (is_extern known w) (is_library known e)) o.is.1.1)
          ∙ sym (ap (is_open_if known e) declarer) ∙ x.closed)

      above : (a j : ℕ) (c : Node) → slice_get t.nodes a ≡ Some c → slice_get c.parts j ≡ Some w → kind_above known w ≡ Some c.kind
      above a j c here has =
          ap (λ column. checks.kind_if it.unit.nodes (slice_index_or column w None)) (sym made_by.is.whole.tree.above)
          ∙ ap (checks.kind_if it.unit.nodes) ((shaped file t it).parts a c (there file t it a c here) j w has).above
          ∙ ap (λ ns. scripts.kind_at ns a) same_nodes ∙ ap scripts.kind_if here

      direct : o.value.is.part ≡ w
      direct = elim o.value.is.declares [
        | inl same ↦ same
        | inr init ↦
            (let c = node_of t unit order o.value.is.part kind.InitDeclarator init.0 in
            absurd (false≢true (sym (ap is_definition (above o.value.is.part 0 c.0 c.1.0 (ap (λ p. slice_get (scripts.parts_if p) 0) (sym c.1.0) ∙ init.1) ∙ ap Some c.1.1)) ∙ bodied)))
      ]

      defines : o.value.node.kind ≡ kind.FunctionDefinition
      defines = body_kind o.value.node.kind (ap is_definition (sym (above definition (suc o.value.is.place) o.value.node o.value.is.at (o.value.is.is ∙ ap Some direct))) ∙ bodied)

      second : slice_get o.value.node.parts 1 ≡ Some w
      second = subst (λ p. slice_get o.value.node.parts (suc p) ≡ Some o.value.is.part) (o.value.is.first defines) o.value.is.is ∙ ap Some direct

      key : entities.defined_entity it.unit.nodes it.names definition ≡ Some k
      key =
          ap (λ ns. entities.defined_entity ns it.names definition) same_nodes
          ∙ ap (λ p. if entities.is_definition (scripts.kind_if p) then bound.entity_if it.names (entities.declared_token t.nodes (slice_get (scripts.parts_if p) 1)) else None) o.value.is.at
          ∙ ap (λ c. if entities.is_definition (Some c) then bound.entity_if it.names (entities.declared_token t.nodes (slice_get o.value.node.parts 1)) else None) defines
          ∙ ap (λ p. bound.entity_if it.names (entities.declared_token t.nodes p)) second
          ∙ ap (bound.entity_if it.names) o.value.is.name ∙ e_entity

      -- ---- the definition that the columns find

      last : IsLast (entities.defined_entity it.unit.nodes it.names) (length it.unit.nodes) k definition
      last =
          let c = count in
          let less = slice_get_within t.nodes definition o.value.node o.value.is.at in
          last_there (entities.defined_entity it.unit.nodes it.names) (length it.unit.nodes) k definition (omega (arith, c, less)) key

      found : entities.definition_of it.unit.nodes it.names (Some k) ≡ Some last.last
      found =
          ap (λ b. if b then last_with (entities.defined_entity it.unit.nodes it.names) (length it.unit.nodes) k else None) (lt-ltb k (length it.names.entities) (few_of spelled events tokens it.names it.known n.first k stands))
          ∙ last.is

      body : IsDefiner it.unit.nodes it.names last.last k
      body = definer it.unit.nodes it.names last.last k last.has

      own_node : (c : Node) × ((slice_get t.nodes last.last ≡ Some c) × (c.kind ≡ kind.FunctionDefinition))
      own_node = node_of t unit order last.last kind.FunctionDefinition (ap (λ ns. scripts.kind_at ns last.last) (sym same_nodes) ∙ body.body)

      name : (declarator_of t.nodes body.declarator).name ≡ Some body.token
      name = ap (λ ns. (declarator_of ns body.declarator).name) (sym same_nodes) ∙ body.name

      own_part : slice_get own_node.0.parts 1 ≡ Some body.declarator
      own_part = ap (λ p. slice_get (scripts.parts_if p) 1) (sym own_node.1.0) ∙ ap (λ ns. slice_get (scripts.parts_at ns last.last) 1) (sym same_nodes) ∙ body.second

      declares_there : IsDeclarer t.nodes body.token last.last body.declarator own_node.0
      declares_there = record {
        at = own_node.1.0;
        external = ap is_external own_node.1.1;
        place = 0;
        first = λ g. refl;
        part = body.declarator;
        is = own_part;
        declares = inl refl;
        name = name;
      }

      -- ---- the row of the name

      g : IsFunction x.first
      g = is_function x.first x.own

      named : IsFirst file t it i k x.first
      named = first_node file t it k x.first g.value.declaration g.value.declarator g.value.node g.value.is x.begins x.own i n at (ap (λ c. names.is_mention (Some c)) call) stands

      abbrev node : ℕ
      node = named.node

      abbrev whole : Option ℕ
      whole = entities.whole_of it.unit.nodes columns node

      whole_is : whole ≡ Some g.value.declarator
      whole_is =
          whole_by file t it node x.first named.named
          ∙ declarer_is file t it x.first g.value.declaration g.value.declarator g.value.node g.value.is (token_low spelled events tokens it.names it.known x.first k (entity_of_declared it.names x.first k x.own))

      is_name : scripts.kind_at it.unit.nodes node ≡ Some kind.NameDeclarator
      is_name = name_there it.unit.nodes node (subst IsThere (sym named.named) tt)

      abbrev type_of : Option ℕ → Qualified
      type_of o = plain (type.Function (names.or_first node o)) false false

      row : named_type t node ≡ plain (type.Function last.last) false false
      row =
          type_is node (let less = named.low in let c = count in omega (arith, less, c))
          ∙ ap (λ c. names.named_by c parsed columns node) is_name
          ∙ ap (λ ns. if names.is_here node (entities.first_declared parsed ns (entities.entity_of it.unit.nodes ns node)) then names.entity_type (entities.declared_of columns whole) it.unit.nodes columns node (entities.entity_of it.unit.nodes ns node)
          else names.type_named columns whole) made_by.are.names_are
          ∙ ap (λ y. if names.is_here node (entities.first_declared parsed it.names y) then names.entity_type (entities.declared_of columns whole) it.unit.nodes columns node y else names.type_named columns whole)
          (entity_by file t it node x.first named.named ∙ entity_of_declared it.names x.first k x.own)
          ∙ ap (λ y. if names.is_here node y then names.entity_type (entities.declared_of columns whole) it.unit.nodes columns node (Some k) else names.type_named columns whole) named.declared
          ∙ ap (λ b. if b then names.entity_type (entities.declared_of columns whole) it.unit.nodes columns node (Some k) else names.type_named columns whole) (eq-eqb node node refl)
          ∙ ap (λ y. names.entity_type (entities.declared_of columns y) it.unit.nodes columns node (Some k)) whole_is
          ∙ ap (λ y. names.entity_type y it.unit.nodes columns node (Some k)) (ap (λ ds. slice_index_or ds g.value.declarator Unclear) made_by.are.declared ∙ g.is.1.1)
          ∙ ap (λ ns. type_of (entities.definition_of it.unit.nodes ns (Some k))) made_by.are.names_are
          ∙ ap type_of found

      entity_is : entity_of t i ≡ node
      entity_is = ap (λ y. entity_if y i) named.is

      it_is : function_in (named_type t (entity_of t i)) ≡ last.last
      it_is = ap (λ y. function_in (named_type t y)) entity_is ∙ ap function_in row

      -- what the call sees and that definition declare one entity
      meant : slice_index_or tree.visible.now i None ≡ Some q → IsMeant file t it i last.last
      meant sees = record {
        entity = k;
        token = token;
        declaration = declaration;
        declarator = q;
        node = m;
        sees = sees;
        declares = d;
        stands = mine;
        name = body.token;
        whole = body.declarator;
        own = own_node.0;
        defines = declares_there;
        body = own_node.1.1;
        same = declare file t it body.declarator body.token k name body.entity;
      }

      called_there : slice_index_or tree.visible.now i None ≡ Some q → IsMeant file t it i (function_in (named_type t (entity_of t i)))
      called_there sees = subst (IsMeant file t it i) (sym it_is) (meant sees)

pub define : Laws.CallsMeanDefinitions
define file t it i n at call told_few signature stands parameters rest is_main called =
    let s : SeesFunction file t it i n.first = seen file t it i n at call signature stands in
    let both = stand file t it s.token s.declaration s.declarator s.node s.declares (told_value file t it s.token s.declaration s.declarator s.node s.declares s.function)
    i n at (ap is_using call) told_few s.found in
    called_there file t it s.token both.0 s.declaration s.declarator s.node s.declares both.1.1 s.function i n at call both.1.0
    (spelled_own file t it i n at parameters rest is_main called) s.sees
