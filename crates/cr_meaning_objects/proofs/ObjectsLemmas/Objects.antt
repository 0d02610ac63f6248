-- The declarations of an object stand one behind the other, and all declare an object (C11 6.2.2p2, 6.2.7p2).
use Rattle.std.proofs.Common.{◌≡◌, ℕ, zero, suc, ◌<◌, Bool, true, false, List, [], None, Some, length, map, slice_get, slice_index_or, inl, inr, refl, sym, ap, ◌∙◌, arith, if◌then◌else◌}
use Rattle.std.proofs.lemmas.Bool.{cases_lt}
use Rattle.cr_syntax.specs.declared.node.Kind.TheVariants as kind
use Rattle.cr_syntax.specs.declared.node.Node.{Node}
use Rattle.cr_scopes_events.specs.Declarators.{declarator_of}
use Rattle.cr_scopes_events.specs.Scripts.{storage_of, role_by}
use Rattle.cr_scopes.specs.Spelled.{name_of as spelled_name}
use Rattle.cr_scopes.specs.Units.{unit_events}
use Rattle.cr_scopes_bindings.specs.Entities.{declared_entity, before_of, previous_of}
use Rattle.cr_scopes_linkage.specs.Shared.Sorts.{is_value}
use Rattle.cr_scopes_linkage.specs.Shared.Origins.{IsDeclarer}
use Rattle.cr_scopes_linkage.proofs.SharedLemmas.Shared.{only_alone}
use Rattle.cr_check_surroundings.specs.Raised.{raised}
use Rattle.cr_check_types.specs.Types.{Qualified, type_at}
use Rattle.cr_check_expressions.specs.Known.{spelling_of}
use Rattle.cr_check_expressions.specs.declared.known.Declared.{Declared}
use Rattle.cr_check_expressions.specs.declared.known.Declared.TheVariants.{Object, Enumerator, Function, TypeName, Unclear}
use Rattle.cr_check_declarators.specs.declared.declarator.Declarator.{Declarator}
use Rattle.cr_check_declarations.specs.Before.{declarator_in}
use Rattle.cr_check_declarations.specs.Declarators.{declarator_by}
use Rattle.cr_check_declarations.specs.Named.{declares_name, declaration_of, is_typedef, is_register, class_of, value_by}
use Rattle.cr_check_linkage.specs.NameTypes.{is_known, type_as}
use Rattle.cr_check_unit.specs.Typing.{cut, entry_at, before_in}
use Rattle.cr_check_signatures.specs.Functions.Linked.{same_at, now_at, has_linkage, does_at, IsLinked}
use Rattle.cr_check_signatures.specs.Functions.Outlines.{outline}
use Rattle.cr_check_signatures.proofs.FunctionsLemmas.Linked.{declarations}
use Rattle.cr_check_signatures.proofs.FunctionsLemmas.Chained.{declarations_alike}
use Rattle.cr_typed.specs.declared.typed.Typed.{Typed}
use Rattle.cr_meaning_types.proofs.KnownLemmas.Naming.{ruled, declarator_early}
use Rattle.cr_meaning_declarations.specs.Declared.Files.{IsUnitOfFile}
use Rattle.cr_meaning_declarations.proofs.DeclaredLemmas.Nodes.{of_unit}
use Rattle.cr_meaning_declarations.specs.Linked.Laws.{DeclaresValue}
use Rattle.cr_meaning_declarations.proofs.LinkedLemmas.Owned.{one_role}
use Rattle.cr_meaning_declarations.proofs.LinkedLemmas.Sorts.{values_share, within as token_there}
use Rattle.cr_meaning_declarations.proofs.LinkedLemmas.Order.{in_order_is}
use Rattle.cr_meaning_declarations.proofs.LinkedLemmas.Columns.{columns_find}
use Rattle.cr_meaning_declarations.proofs.DeclaredLemmas.Files.{order_of}
use Rattle.cr_meaning_objects.proofs.ChainedLemmas.Words.{value_is, no_type}
use Rattle.cr_meaning_objects.proofs.ChainedLemmas.Known.{words, IsOwned, owned, nodes_are, is_typing, holds, there, is_known_there, types_known, value_is_known}
use Rattle.cr_meaning_objects.specs.Objects.Laws
use Rattle.cr_meaning_objects.specs.Objects.Laws.{DeclaresObject, HasLinkage}
use Rattle.cr_meaning_objects.proofs.ObjectsLemmas.Declaring.{IsLast, last_there, entity_of_declared}
use Rattle.cr_meaning_objects.proofs.ObjectsLemmas.Alone.{value_made, declared_is, untyped, linked_or_alone}
use Rattle.cr_meaning_objects.proofs.ChainedLemmas.Chained.{IsInitialised, raised_is}
use Rattle.cr_meaning_references.proofs.TreesLemmas.Shaped.{shaped}

-- ---- what the declaration before is read from

-- ---- outlines of objects

-- what has the outline of an object is one
object_of : (d e : Declared) (type other : Qualified) (qs rs : List Qualified) (row : ℕ) (register : Bool) → e ≡ Object row register → outline (type_as d type qs) ≡ outline (type_as e other rs)
    → (x : ℕ) × ((y : Bool) × (d ≡ Object x y))
object_of d e type other qs rs row register f h = by d (h ∙ ap (λ z. outline (type_as z other rs)) f)
  where
    by : (d : Declared) → outline (type_as d type qs) ≡ outline (type_as (Object row register) other rs) → (x : ℕ) × ((y : Bool) × (d ≡ Object x y))
    by (Object x y) g = (x, (y, refl))
    by (Function x more) g = absurd cc
    by (Enumerator value) g = absurd cc
    by TypeName g = absurd cc
    by Unclear g = absurd cc

module _ (file : List ℕ) (t : Typed) (it : IsUnitOfFile file t) where
  open it use {made_by, typing, shapes, tree}

  -- ---- linkage

  shared_at : (one other k i q : ℕ) (m : Node) → IsDeclarer t.nodes one i q m → declared_entity it.names one ≡ Some k → declared_entity it.names other ≡ Some k → (other ≡ one → ⊥) → DeclaresObject typing q → HasLinkage file t it q
  shared_at one other k i q m d mine its differ object = elim (linked_or_alone file t it one i q m d object) [
    | inl linked ↦ linked
    | inr alone ↦ absurd (differ (only_alone (spelled_name file it.unit.tokens.list.items) (unit_events it.unit) (length it.unit.tokens.list.items) it.names one other k it.known (token_there file t it one k mine) (token_there file t it other k its) alone mine its))
  ]

  -- ---- a declaration before

  -- what declares a value with no function next to its name declares an object
  object_there : (token : ℕ) (v : DeclaresValue t.nodes token) → (entry_at typing v.declarator).own.declarator.function ≡ None → DeclaresObject typing v.declarator
  object_there token v none =
      let o = owned file t it token v.declaration v.declarator v.node v.is in
      let w = words file t it v.declaration v.node v.is.at v.is.external in
      let row = (entry_at typing v.declarator).own.named in
      let of = class_of (entry_at typing w.specifiers).own.specified.storage in
      let plain : is_typedef of ≡ false = sym w.say ∙ no_type (storage_of t.nodes v.node.parts) (declarator_of t.nodes v.declarator).next v.value in (
        row,
        (
          is_register of,
          declared_is file t it v.declaration v.node v.is.at v.is.external v.declarator o.node o.at o.names o.declaration
              ∙ ap (λ c. if c then TypeName else value_by tree.nodes.now of (entry_at typing v.declarator).own.declarator.function row) plain
              ∙ ap (λ x. value_by tree.nodes.now of x row) none,
        ),
      )

  -- directly before one of an object
  module _ (one other : ℕ) (v : DeclaresValue t.nodes one) (w : DeclaresValue t.nodes other) (object : DeclaresObject typing v.declarator) (less : other < one) (last : previous_of it.names one ≡ Some other)
      (has : has_linkage (does_at tree shapes typing v.declarator).linkage ≡ true) where
    abbrev q : ℕ
    q = v.declarator

    abbrev r : ℕ
    r = w.declarator

    rises : r < q
    rises = in_order_is file t it other one w.declaration r v.declaration q w.node v.node w.is v.is less

    mine : IsOwned file t it one v.declaration q v.node
    mine = owned file t it one v.declaration q v.node v.is

    is_linked : IsLinked tree shapes typing q
    is_linked = declarations tree it.checked.checked.texts shapes typing (is_typing file t it) (holds file t it) q mine.node (there file t it q mine.node mine.at) mine.is has

    -- what is read there is an object too
    object_at : (a : ℕ) → same_at tree q ≡ Some a → a < q → is_known (now_at shapes typing a) ≡ true → DeclaresObject typing a
    object_at a same below known =
        object_of (slice_index_or typing.declared a Unclear) (slice_index_or typing.declared q Unclear) (type_at shapes (slice_index_or typing.named a 0)) (type_at shapes (slice_index_or typing.named q 0))
        (map (type_at shapes) (slice_index_or typing.parameters a [])) (map (type_at shapes) (slice_index_or typing.parameters q [])) object.0 object.1.0 object.1.1
        (declarations_alike tree it.checked.checked.texts shapes typing (is_typing file t it) (holds file t it) q a one is_linked
        (ap (λ ns. (declarator_of ns q).name) (sym (nodes_are file t it)) ∙ v.is.name) same below known (value_is_known file t it one v))

    read : same_at tree q ≡ Some (raised it.unit.nodes it.checked.checked.surroundings.above r q)
    read = columns_find file t it one other v.declaration q w.declaration r v.node w.node v.is w.is last

    -- with its initialiser it declares what it declares without
    of_initialised : (a : ℕ) → same_at tree q ≡ Some a → IsInitialised it.unit.nodes a r q → DeclaresObject typing r
    of_initialised a same x =
        let at : slice_get tree.nodes.now a ≡ Some x.node = ap (λ ns. slice_get ns a) made_by.is.whole.tree.nodes ∙ x.at in
        let here : slice_get t.nodes a ≡ Some x.node = ap (λ ns. slice_get ns a) made_by.elaborated.nodes_are ∙ x.at in
        let o = owned file t it other w.declaration r w.node w.is in
        let declaration : declaration_of tree.nodes.now tree.above.now a ≡ Some w.declaration = sym ((shaped file t it).initialised a r x.node at x.is x.first) ∙ o.declaration in
        let names : declares_name x.node.kind ≡ true = ap declares_name x.is in
        let known = is_known_there file t it w.declaration w.node w.is.at w.is.external a x.node here names declaration (types_known file t it)
        (no_type (storage_of t.nodes w.node.parts) (declarator_of t.nodes r).next w.value) in
        let is = object_at a same x.below known in
        let said = words file t it w.declaration w.node w.is.at w.is.external in
        let of = class_of (entry_at typing said.specifiers).own.specified.storage in
        let none = value_made (is_typedef of) tree.nodes.now of (entry_at typing a).own.declarator.function (entry_at typing a).own.named is.0 is.1.0
        (sym (declared_is file t it w.declaration w.node w.is.at w.is.external a x.node here names declaration) ∙ is.1.1) in
        let low = ((shaped file t it).parts a x.node at 0 r x.first).below in
        let early = before_in shapes (cut a typing) in
        let own : (entry_at typing a).own.declarator ≡ (entry_at typing r).own.declarator =
        (ruled tree it.checked.checked.texts shapes typing (is_typing file t it) (holds file t it) a x.node at).declarator
        ∙ ap (λ k. declarator_by k (spelling_of tree.file.now tree.tokens.now) tree.nodes.now early a x.node) x.is
        ∙ ap (declarator_in early.declarator) x.first
        ∙ declarator_early tree it.checked.checked.texts shapes typing (is_typing file t it) (holds file t it) a x.node at r low in
        object_there other w (ap (λ (d : Declarator). d.function) (sym own) ∙ none.1)

    directly_object : DeclaresObject typing r
    directly_object = elim (raised_is it.unit.nodes it.checked.checked.surroundings.above r q) [
      | inl e ↦ object_at r (read ∙ ap Some e) rises (value_is_known file t it other w)
      | inr x ↦ of_initialised x.0 (read ∙ ap Some x.1.0) x.1.1
    ]

  chain : (fuel one other k : ℕ) → one < fuel → other < one → declared_entity it.names one ≡ Some k → declared_entity it.names other ≡ Some k → (v : DeclaresValue t.nodes one) (w : DeclaresValue t.nodes other)
      → DeclaresObject typing v.declarator → DeclaresObject typing w.declarator
  chain zero one other k low less mine its v w object = absurd (omega (arith, low))
  chain (suc fuel) one other k low less mine its v w object = elim (cases_lt other x.last) [
    | inl more ↦
        (let here = values_share file t it x.last one k x.has mine v in
        let early = x.low in
        chain fuel x.last other k (omega (arith, low, early)) more x.has its here w (directly_object one x.last v here object x.low last linked))
    | inr past ↦
        (let from = x.behind in
        let same : x.last ≡ other = omega (arith, past, from) in
        directly_object one other v w object less (last ∙ ap Some same) linked)
  ]
    where
      x : IsLast (declared_entity it.names) one k other
      x = last_there (declared_entity it.names) one k other less its

      last : previous_of it.names one ≡ Some x.last
      last = ap (before_of it.names one) (entity_of_declared it.names one k mine) ∙ x.is

      linked : has_linkage (does_at tree shapes typing v.declarator).linkage ≡ true
      linked = (shared_at one x.last k v.declaration v.declarator v.node v.is mine x.has (λ e. (let early = x.low in absurd (omega (arith, early, e)))) object).linked

  -- what declares an object declares a value
  pub value_there : (token i q : ℕ) (m : Node) → IsDeclarer t.nodes token i q m → DeclaresObject typing q → is_value (role_by (storage_of t.nodes m.parts) (declarator_of t.nodes q).next) ≡ true
  value_there token i q m d object =
      value_is (storage_of t.nodes m.parts) (declarator_of t.nodes q).next ((words file t it i m d.at d.external).say ∙ untyped file t it token i q m d object)

  pub follows_at : (one other k i q j r : ℕ) (m n : Node) → IsDeclarer t.nodes one i q m → IsDeclarer t.nodes other j r n → declared_entity it.names one ≡ Some k → declared_entity it.names other ≡ Some k
      → DeclaresObject typing q → other < one → DeclaresObject typing r
  follows_at one other k i q j r m n d e mine its object less =
      let v : DeclaresValue t.nodes one = record { declaration = i; declarator = q; node = m; is = d; value = value_there one i q m d object } in
      let x = values_share file t it other one k its mine v in
      let role = one_role t (of_unit file t it) (order_of file t it) other j r x.declaration x.declarator n x.node e x.is in
      chain (suc one) one other k (omega arith) less mine its v (record { declaration = j; declarator = r; node = n; is = e; value = ap is_value role ∙ x.value }) object

pub shared : Laws.SharedObjectsAreLinked
shared file t it one other k i q m d mine its differ object = shared_at file t it one other k i q m d mine its differ object

pub follow : Laws.ObjectsFollowObjects
follow file t it one other k i q j r m n d e mine its object less = follows_at file t it one other k i q j r m n d e mine its object less
