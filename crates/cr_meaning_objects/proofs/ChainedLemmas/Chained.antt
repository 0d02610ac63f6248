-- The declarations of a function stand one behind the other (C11 6.2.2p2, 6.2.7p2).
use Rattle.std.proofs.Common.{◌≡◌, ℕ, zero, suc, ◌<◌, ◌&&◌, inl, inr, ◌⊎◌, Bool, true, false, List, [], ◌∷◌, Option, None, Some, map, nat_lt, slice_get, slice_index_or, refl, sym, ap, ◌∙◌, arith, if◌then◌else◌}
use Rattle.std.proofs.lemmas.Bool.{cases_lt, false≢true, eqb-true, eq-eqb, ltb-true, and_parts}
use Rattle.cr_syntax.specs.declared.node.Kind.{Kind}
use Rattle.cr_syntax.specs.declared.node.Kind.TheVariants as kind
use Rattle.cr_syntax.specs.declared.node.Node.{Node}
use Rattle.cr_scopes_events.specs.Declarators.{declarator_of}
use Rattle.cr_scopes_events.specs.Scripts.{storage_of, role_by}
use Rattle.cr_scopes.specs.Resolved.{is_number}
use Rattle.cr_scopes_bindings.specs.Last.{last_with}
use Rattle.cr_scopes_bindings.specs.Entities.{entity_at, declares, declared_entity, before_of, previous_of}
use Rattle.cr_scopes_linkage.specs.Shared.Sorts.{is_value}
use Rattle.cr_scopes_linkage.specs.Shared.Origins.{IsDeclarer}
use Rattle.cr_check_surroundings.specs.Raised.{is_first, initialises, raised_by, raised_if, raised}
use Rattle.cr_check_types.specs.Types.{Qualified, type_at}
use Rattle.cr_check_expressions.specs.declared.known.Declared.{Declared}
use Rattle.cr_check_expressions.specs.declared.known.Declared.TheVariants.{Object, Enumerator, Function, TypeName, Unclear}
use Rattle.cr_check_declarations.specs.Before.{kind_if, kind_in}
use Rattle.cr_check_declarations.specs.Named.{is_declarator, declares_name, declaration_of}
use Rattle.cr_check_linkage.specs.Linked.{is_body_behind}
use Rattle.cr_check_linkage.specs.NameTypes.{is_known, type_as}
use Rattle.cr_check_signatures.specs.Functions.Linked.{same_at, does_at, now_at, IsFunction, directly, behind}
use Rattle.cr_check_signatures.specs.Functions.Outlines.{outline}
use Rattle.cr_check_signatures.proofs.FunctionsLemmas.Linked.{functions}
use Rattle.cr_check_signatures.proofs.FunctionsLemmas.Chained.{declarations_alike}
use Rattle.cr_check_signatures.proofs.FunctionsLemmas.Followed.{defined_once}
use Rattle.cr_typed.specs.declared.typed.Typed.{Typed}
use Rattle.cr_meaning_declarations.specs.Declared.Files.{IsUnitOfFile}
use Rattle.cr_meaning_declarations.proofs.DeclaredLemmas.Nodes.{of_unit}
use Rattle.cr_meaning_declarations.specs.Linked.Laws.{DeclaresValue}
use Rattle.cr_meaning_declarations.proofs.LinkedLemmas.Owned.{one_role}
use Rattle.cr_meaning_declarations.proofs.LinkedLemmas.Sorts.{values_share}
use Rattle.cr_meaning_declarations.proofs.LinkedLemmas.Order.{in_order_is}
use Rattle.cr_meaning_declarations.proofs.LinkedLemmas.Columns.{columns_find}
use Rattle.cr_meaning_declarations.proofs.DeclaredLemmas.Files.{order_of}
use Rattle.cr_meaning_objects.specs.Chained.Laws
use Rattle.cr_meaning_objects.specs.Chained.Laws.{DeclaresFunction, IsBehind}
use Rattle.cr_meaning_objects.proofs.ChainedLemmas.Words.{value_is, no_type}
use Rattle.cr_meaning_objects.proofs.ChainedLemmas.Known.{nodes_are, is_typing, holds, owned, is_known_there, function_plain, types_known, value_is_known, there, definition_declares}
use Rattle.cr_meaning_objects.proofs.ObjectsLemmas.Declaring.{IsLast, entity_if_declared as entity_is}
use Rattle.cr_meaning_references.proofs.TreesLemmas.Shaped.{shaped}
use Rattle.cr_scopes_visibility.proofs.AloneLemmas.First.{number_same as number_is}

-- ---- the last token before one that declares the same

number_there : (j k : ℕ) → j ≡ k → is_number (Some j) k ≡ true
number_there j k e = eq-eqb j k e

last_there : (key : ℕ → Option ℕ) (b k q : ℕ) → q < b → key q ≡ Some k → IsLast key b k q
last_there key zero k q less h = absurd (omega (arith, less))
last_there key (suc b) k q less h = by (is_number (key b) k) refl (λ x. last_there key b k q x h)
  where
    by : (c : Bool) → is_number (key b) k ≡ c → (q < b → IsLast key b k q) → IsLast key (suc b) k q
    by true e rest = record { last = b; is = ap (λ c. if c then Some b else last_with key b k) e; has = number_is (key b) k e; behind = omega (arith, less); low = omega arith }
    by false e rest = elim (cases_lt q b) [
      | inl more ↦
          (let x = rest more in
          let low = x.low in
          record { last = x.last; is = ap (λ c. if c then Some b else last_with key b k) e ∙ x.is; has = x.has; behind = x.behind; low = omega (arith, low) })
      | inr ge ↦
          (let same : b ≡ q = omega (arith, less, ge) in
          absurd (false≢true (sym e ∙ ap (λ y. is_number (key y) k) same ∙ ap (λ o. is_number o k) h ∙ number_there k k refl)))
    ]

-- ---- what the declaration before is read from

pub record IsInitialised (nodes : List Node) (a r q : ℕ) : Type 0 where
  pub node : Node
  pub at : slice_get nodes a ≡ Some node
  pub is : node.kind ≡ kind.InitDeclarator
  pub first : slice_get node.parts 0 ≡ Some r
  pub below : a < q

pub first_part : (part : ℕ) (ps : List ℕ) → is_first part ps ≡ true → slice_get ps 0 ≡ Some part
first_part part [] h = absurd (false≢true h)
first_part part (x ∷ xs) h = ap Some (eqb-true x part h)

pub initial : (k : Kind) (ps : List ℕ) (r : ℕ) → initialises k ps r ≡ true → (k ≡ kind.InitDeclarator) × (slice_get ps 0 ≡ Some r)
initial kind.InitDeclarator ps r h = (refl, first_part r ps h)
initial k ps r h = absurd (false≢true h)

pub raised_is : (nodes : List Node) (above : List (Option ℕ)) (r q : ℕ) → (raised nodes above r q ≡ r) ⊎ ((a : ℕ) × ((raised nodes above r q ≡ a) × IsInitialised nodes a r q))
raised_is nodes above r q = over (slice_index_or above r None) refl
  where
    over : (o : Option ℕ) → slice_index_or above r None ≡ o → (raised nodes above r q ≡ r) ⊎ ((a : ℕ) × ((raised nodes above r q ≡ a) × IsInitialised nodes a r q))
    over None e = inl (ap (λ o. raised_if nodes o r q) e)
    over (Some a) e = node (slice_get nodes a) refl
      where
        node : (o : Option Node) → slice_get nodes a ≡ o → (raised nodes above r q ≡ r) ⊎ ((a : ℕ) × ((raised nodes above r q ≡ a) × IsInitialised nodes a r q))
        node None f = inl (ap (λ o. raised_if nodes o r q) e ∙ ap (λ o. raised_by o a r q) f)
        node (Some n) f = by (initialises n.kind n.parts r && nat_lt a q) refl
          where
            by : (b : Bool) → (initialises n.kind n.parts r && nat_lt a q) ≡ b → (raised nodes above r q ≡ r) ⊎ ((a : ℕ) × ((raised nodes above r q ≡ a) × IsInitialised nodes a r q))
            by false g = inl (ap (λ o. raised_if nodes o r q) e ∙ ap (λ o. raised_by o a r q) f ∙ ap (λ b. if b then a else r) g)
            by true g =
                let both = and_parts (initialises n.kind n.parts r) (nat_lt a q) g in
                let x = initial n.kind n.parts r both.0 in
                inr (a, (ap (λ o. raised_if nodes o r q) e ∙ ap (λ o. raised_by o a r q) f ∙ ap (λ b. if b then a else r) g, record { node = n; at = f; is = x.0; first = x.1; below = ltb-true a q both.1 }))

-- ---- outlines of functions

-- what has the outline of a function is one
function_of : (d e : Declared) (type other : Qualified) (qs rs : List Qualified) (row : ℕ) (more : Bool) → e ≡ Function row more → outline (type_as d type qs) ≡ outline (type_as e other rs)
    → (x : ℕ) × ((y : Bool) × (d ≡ Function x y))
function_of d e type other qs rs row more f h = by d (h ∙ ap (λ z. outline (type_as z other rs)) f)
  where
    by : (d : Declared) → outline (type_as d type qs) ≡ outline (type_as (Function row more) other rs) → (x : ℕ) × ((y : Bool) × (d ≡ Function x y))
    by (Object x register) g = absurd cc
    by (Function x y) g = (x, (y, refl))
    by (Enumerator value) g = absurd cc
    by TypeName g = absurd cc
    by Unclear g = absurd cc

pub no_init : (k : Kind) → k ≡ kind.InitDeclarator → is_declarator k ≡ true → ⊥
no_init k e h = false≢true (ap is_declarator (sym e) ∙ h)

module _ (file : List ℕ) (t : Typed) (it : IsUnitOfFile file t) where
  open it use {made_by, typing, shapes, tree}

  function_at : (p : ℕ) → DeclaresFunction typing p → IsFunction tree shapes typing p
  function_at p f = functions tree it.checked.checked.texts shapes typing (is_typing file t it) (holds file t it) p f.0 f.1.0 f.1.1

  same_function : (p q : ℕ) → DeclaresFunction typing q → outline (now_at shapes typing p) ≡ outline (now_at shapes typing q) → DeclaresFunction typing p
  same_function p q f e =
      function_of (slice_index_or typing.declared p Unclear) (slice_index_or typing.declared q Unclear) (type_at shapes (slice_index_or typing.named p 0)) (type_at shapes (slice_index_or typing.named q 0))
      (map (type_at shapes) (slice_index_or typing.parameters p [])) (map (type_at shapes) (slice_index_or typing.parameters q [])) f.0 f.1.0 f.1.1 e

  -- the declaration directly before one of a function
  module _ (one other : ℕ) (v : DeclaresValue t.nodes one) (w : DeclaresValue t.nodes other) (f : DeclaresFunction typing v.declarator) (less : other < one) (last : previous_of it.names one ≡ Some other) where
    abbrev q : ℕ
    q = v.declarator

    abbrev r : ℕ
    r = w.declarator

    rises : r < q
    rises = in_order_is file t it other one w.declaration r v.declaration q w.node v.node w.is v.is less

    -- where the declaration before is read from a node, this has the outline of the later declaration
    alike_at : (a : ℕ) → same_at tree q ≡ Some a → a < q → is_known (now_at shapes typing a) ≡ true → outline (now_at shapes typing a) ≡ outline (now_at shapes typing q)
    alike_at a same below known =
        declarations_alike tree it.checked.checked.texts shapes typing (is_typing file t it) (holds file t it) q a one (function_at q f).linked
        (ap (λ ns. (declarator_of ns q).name) (sym (nodes_are file t it)) ∙ v.is.name) same below known (value_is_known file t it one v)

    read : same_at tree q ≡ Some (raised it.unit.nodes it.checked.checked.surroundings.above r q)
    read = columns_find file t it one other v.declaration q w.declaration r v.node w.node v.is w.is last

    -- it is read from no initialised declarator, since this declares no function (K11)
    never : (a : ℕ) → same_at tree q ≡ Some a → IsInitialised it.unit.nodes a r q → ⊥
    never a same x =
        let at : slice_get tree.nodes.now a ≡ Some x.node = ap (λ ns. slice_get ns a) made_by.is.whole.tree.nodes ∙ x.at in
        let here : slice_get t.nodes a ≡ Some x.node = ap (λ ns. slice_get ns a) made_by.elaborated.nodes_are ∙ x.at in
        let o = owned file t it other w.declaration r w.node w.is in
        let declaration : declaration_of tree.nodes.now tree.above.now a ≡ Some w.declaration = sym ((shaped file t it).initialised a r x.node at x.is x.first) ∙ o.declaration in
        let known = is_known_there file t it w.declaration w.node w.is.at w.is.external a x.node here (ap declares_name x.is) declaration (types_known file t it)
        (no_type (storage_of t.nodes w.node.parts) (declarator_of t.nodes r).next w.value) in
        let is = function_at a (same_function a q f (alike_at a same x.below known)) in
        let one_node : Some is.node ≡ Some x.node = sym is.at ∙ at in
        let node : is.node ≡ x.node = cc in
        no_init is.node.kind (ap (λ (y : Node). y.kind) node ∙ x.is) is.is

    same_is : same_at tree q ≡ Some r
    same_is = elim (raised_is it.unit.nodes it.checked.checked.surroundings.above r q) [
      | inl e ↦ read ∙ ap Some e
      | inr x ↦ absurd (never x.0 (read ∙ ap Some x.1.0) x.1.1)
    ]

    alike : outline (now_at shapes typing r) ≡ outline (now_at shapes typing q)
    alike = alike_at r same_is rises (value_is_known file t it other w)

    declares_function : DeclaresFunction typing r
    declares_function = same_function r q f alike

    directly_behind : IsBehind file t it q r
    directly_behind = record { declares = declares_function; function = function_at r declares_function; follows = directly same_is rises; alike = alike }

    name_is : (declarator_of tree.nodes.now r).name ≡ Some other
    name_is = ap (λ ns. (declarator_of ns r).name) (sym (nodes_are file t it)) ∙ w.is.name

    further : (s : ℕ) → IsBehind file t it r s → IsBehind file t it q s
    further s x = record { declares = x.declares; function = x.function; follows = behind r other same_is rises (function_at r declares_function) name_is x.follows; alike = x.alike ∙ alike }

  chain : (fuel one other k : ℕ) → one < fuel → other < one → declared_entity it.names one ≡ Some k → declared_entity it.names other ≡ Some k → (v : DeclaresValue t.nodes one) (w : DeclaresValue t.nodes other)
      → DeclaresFunction typing v.declarator → IsBehind file t it v.declarator w.declarator
  chain zero one other k low less mine its v w f = absurd (omega (arith, low))
  chain (suc fuel) one other k low less mine its v w f = elim (cases_lt other x.last) [
    | inl more ↦
        (let here = values_share file t it x.last one k x.has mine v in
        let early = x.low in
        let step = directly_behind one x.last v here f x.low last in
        further one x.last v here f x.low last w.declarator (chain fuel x.last other k (omega (arith, low, early)) more x.has its here w step.declares))
    | inr past ↦
        (let from = x.behind in
        let same : x.last ≡ other = omega (arith, past, from) in
        directly_behind one other v w f less (last ∙ ap Some same))
  ]
    where
      x : IsLast (declared_entity it.names) one k other
      x = last_there (declared_entity it.names) one k other less its

      last : previous_of it.names one ≡ Some x.last
      last = ap (before_of it.names one) (entity_is (declares it.names one) (entity_at it.names one) k mine) ∙ x.is

  -- a declarator of a function has no `typedef`
  value_of : (token i q : ℕ) (m : Node) → IsDeclarer t.nodes token i q m → DeclaresFunction typing q → is_value (role_by (storage_of t.nodes m.parts) (declarator_of t.nodes q).next) ≡ true
  value_of token i q m d f =
      let o = owned file t it token i q m d in
      value_is (storage_of t.nodes m.parts) (declarator_of t.nodes q).next (function_plain file t it i m d.at d.external q o.node o.at o.names o.declaration f)

  follows_at : (one other k i q j r : ℕ) (m n : Node) → IsDeclarer t.nodes one i q m → IsDeclarer t.nodes other j r n → declared_entity it.names one ≡ Some k → declared_entity it.names other ≡ Some k
      → DeclaresFunction typing q → other < one → IsBehind file t it q r
  follows_at one other k i q j r m n d e mine its f less =
      let v : DeclaresValue t.nodes one = record { declaration = i; declarator = q; node = m; is = d; value = value_of one i q m d f } in
      let x = values_share file t it other one k its mine v in
      let role = one_role t (of_unit file t it) (order_of file t it) other j r x.declaration x.declarator n x.node e x.is in
      chain (suc one) one other k (omega arith) less mine its v (record { declaration = j; declarator = r; node = n; is = e; value = ap is_value role ∙ x.value }) f

  named_in : (token i q : ℕ) (m : Node) → IsDeclarer t.nodes token i q m → (declarator_of tree.nodes.now q).name ≡ Some token
  named_in token i q m d = ap (λ ns. (declarator_of ns q).name) (sym (nodes_are file t it)) ∙ d.name

  -- a definition has a body
  defines : (token i q : ℕ) (m : Node) → IsDeclarer t.nodes token i q m → m.kind ≡ kind.FunctionDefinition → (does_at tree shapes typing q).defines ≡ true
  defines token i q m d is =
      let o = owned file t it token i q m d in
      ap (λ x. is_body_behind (kind_in tree.nodes.now x)) o.declaration ∙ ap (λ x. is_body_behind (kind_if x)) (there file t it i m d.at) ∙ ap (λ k. is_body_behind (Some k)) is

  -- of two definitions none is behind the other
  no_second : (one other k i q j r : ℕ) (m n : Node) → IsDeclarer t.nodes one i q m → IsDeclarer t.nodes other j r n → declared_entity it.names one ≡ Some k → declared_entity it.names other ≡ Some k
      → DeclaresFunction typing q → m.kind ≡ kind.FunctionDefinition → n.kind ≡ kind.FunctionDefinition → other < one → ⊥
  no_second one other k i q j r m n d e mine its f own earlier less =
      let x = follows_at one other k i q j r m n d e mine its f less in
      false≢true (sym (defined_once tree shapes typing q r one (function_at q f) (named_in one i q m d) x.function x.follows (defines other j r n e earlier)) ∙ defines one i q m d own)

pub follow : Laws.DeclarationsFollow
follow file t it one other k i q j r m n d e mine its f less = follows_at file t it one other k i q j r m n d e mine its f less

pub one_body : Laws.FunctionsHaveOneBody
one_body file t it one other k i q j r m n d e mine its own earlier = elim (cases_lt other one) [
  | inl less ↦ absurd (no_second file t it one other k i q j r m n d e mine its (definition_declares file t it one i q m d own) own earlier less)
  | inr le ↦ elim (cases_lt one other) [
    | inl more ↦ absurd (no_second file t it other one k j r i q n m e d its mine (definition_declares file t it other j r n e earlier) earlier own more)
    | inr ge ↦ omega (arith, le, ge)
  ]
]

pub one_outline : Laws.FunctionsAreOfOneOutline
one_outline file t it one other k i q j r m n d e mine its f g differ = elim (cases_lt other one) [
  | inl less ↦ sym (follows_at file t it one other k i q j r m n d e mine its f less).alike
  | inr le ↦ elim (cases_lt one other) [
    | inl more ↦ (follows_at file t it other one k j r i q n m e d its mine g more).alike
    | inr ge ↦ absurd (differ (omega (arith, le, ge)))
  ]
]
