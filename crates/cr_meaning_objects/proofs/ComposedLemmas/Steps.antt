-- From one declaration of an object to the next one its composite type keeps what the earlier ones tell (C11 6.2.7p3, p4, K9).
use Rattle.std.proofs.Common.{◌≡◌, ℕ, zero, suc, ◌<◌, ◌&&◌, Bool, true, false, not, List, [], ◌∷◌, Option, None, Some, map, nat_lt, slice_get, slice_index_or, inl, inr, refl, sym, subst, ap, ◌∙◌, arith, if◌then◌else◌}
use Rattle.std.proofs.lemmas.Bool.{cases_lt, false≢true, eq-eqb, lt-ltb, not-false}
use Rattle.std.proofs.lemmas.List.{get_or-take}
use Rattle.cr_syntax.specs.declared.node.Kind.{Kind}
use Rattle.cr_syntax.specs.declared.node.Kind.TheVariants as kind
use Rattle.cr_syntax.specs.declared.node.Node.{Node}
use Rattle.cr_scopes_events.specs.Declarators.{declarator_of}
use Rattle.cr_scopes_events.specs.Scripts.{storage_of}
use Rattle.cr_scopes_bindings.specs.Entities.{declared_entity, before_of, previous_of}
use Rattle.cr_check_surroundings.specs.Raised.{is_first, initialises, raised_by, raised_if, raised}
use Rattle.cr_check_types.specs.Types.{Qualified, type_at}
use Rattle.cr_check_types.specs.Relations.{are_compatible}
use Rattle.cr_check_expressions.specs.Known.{spelling_of}
use Rattle.cr_check_expressions.specs.Ruled.{is_type}
use Rattle.cr_check_expressions.specs.declared.known.Declared.TheVariants.{TypeName, Unclear}
use Rattle.cr_check_declarators.specs.declared.words.Class.{Class}
use Rattle.cr_check_declarators.specs.declared.declarator.Declarator.{Declarator}
use Rattle.cr_check_declarators.specs.declared.linkages.Declaration.{Declaration}
use Rattle.cr_check_declarations.specs.Before.{declarator_in}
use Rattle.cr_check_declarations.specs.Declarators.{declarator_by}
use Rattle.cr_check_declarations.specs.Faults.{fault_at, token_if, name_in}
use Rattle.cr_check_declarations.specs.Named.{is_declarator, declares_name, declaration_of, is_typedef, is_register, class_of, value_by}
use Rattle.cr_check_linkage.specs.NameTypes.{NameType, of_object, type_as, type_or, joined_type, disagrees, is_known}
use Rattle.cr_check_linkage.specs.Linked.{name_type_in, same_by}
use Rattle.cr_check_linkage.specs.Faults.{faults_in}
use Rattle.cr_check_unit.specs.Typing.{cut, entry_at, before_in, past_in}
use Rattle.cr_check_unit.specs.Breaks.{IsNodeBreak}
use Rattle.cr_check_signatures.specs.Functions.Linked.{same_at, earlier_at, now_at, has_linkage, does_at, IsLinked}
use Rattle.cr_check_signatures.proofs.FunctionsLemmas.Linked.{declarations, HoldsAll}
use Rattle.cr_typed.specs.declared.typed.Typed.{Typed}
use Rattle.cr_meaning_types.proofs.KnownLemmas.Naming.{ruled, declarator_early}
use Rattle.cr_meaning_declarations.specs.Declared.Files.{IsUnitOfFile}
use Rattle.cr_meaning_declarations.specs.Linked.Laws.{DeclaresValue}
use Rattle.cr_meaning_declarations.proofs.LinkedLemmas.Sorts.{values_share}
use Rattle.cr_meaning_declarations.proofs.LinkedLemmas.Order.{in_order_is}
use Rattle.cr_meaning_declarations.proofs.LinkedLemmas.Columns.{columns_find}
use Rattle.cr_meaning_objects.proofs.ChainedLemmas.Words.{no_type}
use Rattle.cr_meaning_objects.proofs.ChainedLemmas.Known.{words, IsOwned, owned, nodes_are, is_typing, holds, there, is_known_there, types_known, value_is_known}
use Rattle.cr_meaning_objects.specs.Objects.Laws.{DeclaresObject}
use Rattle.cr_meaning_objects.proofs.ObjectsLemmas.Declaring.{IsLast, last_there, entity_of_declared}
use Rattle.cr_meaning_objects.proofs.ObjectsLemmas.Alone.{value_made, declared_is}
use Rattle.cr_meaning_objects.proofs.ObjectsLemmas.Objects.{shared, follows_at}
use Rattle.cr_meaning_objects.specs.Composed.Laws.{Becomes}
use Rattle.cr_meaning_objects.proofs.ComposedLemmas.Sizes.{becomes_further, becomes_typed, joined_own, joined_earlier}
use Rattle.cr_meaning_objects.proofs.ChainedLemmas.Chained.{raised_is}
use Rattle.cr_meaning_references.proofs.TreesLemmas.Shaped.{shaped}

-- ---- what the declaration before is read from

first_is : (ps : List ℕ) (r : ℕ) → slice_get ps 0 ≡ Some r → is_first r ps ≡ true
first_is [] r e = absurd cc
first_is (x ∷ xs) r e = let same : x ≡ r = cc in eq-eqb x r same

-- ---- faults that aren't there

unbroken_at : (row token : ℕ) (o : Option ℕ) (b : Bool) → o ≡ Some token → HoldsAll (fault_at row (token_if b o) ∷ []) → b ≡ false
unbroken_at row token o true e h = absurd (h (record { token = token; row = row }) (inl (ap (fault_at row) e)))
unbroken_at row token o false e h = refl

they_agree : (one other : Qualified) → is_type one ≡ true → is_type other ≡ true → disagrees (of_object one) (of_object other) ≡ false → are_compatible one other ≡ true
they_agree one other k l e = not-false (are_compatible one other) (sym (λ j. k j && (l j && not (are_compatible one other))) ∙ e)

same_declarator : (k : Kind) (l : Option Declaration) (d : Declaration) (same : Option ℕ) (n : Node) → is_declarator k ≡ true → l ≡ Some d → same_by k l same n ≡ same
same_declarator kind.InitDeclarator l d same n h e = absurd (false≢true h)
same_declarator k l d same n h e = ap (λ o. same_by k o same n) e

module _ (file : List ℕ) (t : Typed) (it : IsUnitOfFile file t) where
  open it use {made_by, typing, shapes, texts, tree}

  abbrev pub named : ℕ → Qualified
  named p = type_at shapes (slice_index_or typing.named p 0)

  -- the composite of all declarations up to this one
  abbrev pub composite : ℕ → Qualified
  composite p = type_at shapes (slice_index_or typing.composites p 0)

  type_is : (p : ℕ) → DeclaresObject typing p → now_at shapes typing p ≡ of_object (named p)
  type_is p object = ap (λ d. type_as d (named p) (map (type_at shapes) (slice_index_or typing.parameters p []))) object.1.1

  composite_is : (p : ℕ) → DeclaresObject typing p → (q : ℕ) → p < q → (past_in shapes (cut q typing)).composite p ≡ of_object (composite p)
  composite_is p object q less =
      (λ j. type_as (get_or-take q typing.declared p Unclear less j) (type_at shapes (get_or-take q typing.composites p 0 less j)) (map (type_at shapes) (get_or-take q typing.composite_parameters p [] less j)))
      ∙ ap (λ d. type_as d (composite p) (map (type_at shapes) (slice_index_or typing.composite_parameters p []))) object.1.1

  known_type : (p : ℕ) → DeclaresObject typing p → is_known (now_at shapes typing p) ≡ true → is_type (named p) ≡ true
  known_type p object k = sym (ap is_known (type_is p object)) ∙ k

  -- ---- one node

  module _ (p : ℕ) (n : Node) (at : slice_get tree.nodes.now p ≡ Some n) (object : DeclaresObject typing p) where
    abbrev earlier : NameType
    earlier = name_type_in (past_in shapes (cut p typing)).composite (same_by n.kind (slice_index_or typing.linked p None) (slice_index_or tree.same.now p None) n)

    made : composite p ≡ type_or (named p) (joined_type earlier (of_object (named p)))
    made =
        (ruled tree texts shapes typing (is_typing file t it) (holds file t it) p n at).composite
        ∙ ap (λ x. type_or (named p) (joined_type earlier x)) (type_is p object)

    pub own_becomes : Becomes (named p) (composite p)
    own_becomes = subst (Becomes (named p)) (sym made) (joined_own earlier (named p))

    earlier_becomes : (r : ℕ) → earlier ≡ of_object (composite r) → are_compatible (composite r) (named p) ≡ true → Becomes (composite r) (composite p)
    earlier_becomes r before agrees =
        subst (Becomes (composite r)) (sym (made ∙ ap (λ x. type_or (named p) (joined_type x (of_object (named p)))) before)) (joined_earlier (composite r) (named p) agrees)

  -- ---- an initialised declarator

  module _ (token : ℕ) (w : DeclaresValue t.nodes token) (its : DeclaresObject typing w.declarator) (a : ℕ) (n : Node) (here : slice_get t.nodes a ≡ Some n) (is : n.kind ≡ kind.InitDeclarator)
      (first : slice_get n.parts 0 ≡ Some w.declarator) where
    abbrev r : ℕ
    r = w.declarator

    at : slice_get tree.nodes.now a ≡ Some n
    at = there file t it a n here

    o : IsOwned file t it token w.declaration r w.node
    o = owned file t it token w.declaration r w.node w.is

    declaration : declaration_of tree.nodes.now tree.above.now a ≡ Some w.declaration
    declaration = sym ((shaped file t it).initialised a r n at is first) ∙ o.declaration

    names : declares_name n.kind ≡ true
    names = ap declares_name is

    low : r < a
    low = ((shaped file t it).parts a n at 0 r first).below

    abbrev of : Option Class
    of = class_of (entry_at typing (words file t it w.declaration w.node w.is.at w.is.external).specifiers).own.specified.storage

    none : (is_typedef of ≡ false) × ((entry_at typing r).own.declarator.function ≡ None)
    none =
        value_made (is_typedef of) tree.nodes.now of (entry_at typing r).own.declarator.function (entry_at typing r).own.named its.0 its.1.0
        (sym (declared_is file t it w.declaration w.node w.is.at w.is.external r o.node o.at o.names o.declaration) ∙ its.1.1)

    own : (entry_at typing a).own.declarator ≡ (entry_at typing r).own.declarator
    own =
        let early = before_in shapes (cut a typing) in
        (ruled tree texts shapes typing (is_typing file t it) (holds file t it) a n at).declarator
        ∙ ap (λ k. declarator_by k (spelling_of tree.file.now tree.tokens.now) tree.nodes.now early a n) is
        ∙ ap (declarator_in early.declarator) first
        ∙ declarator_early tree texts shapes typing (is_typing file t it) (holds file t it) a n at r low

    -- it declares an object too
    pub initialised_object : DeclaresObject typing a
    initialised_object =
        let row = (entry_at typing a).own.named in (
          row,
          (
            is_register of,
            declared_is file t it w.declaration w.node w.is.at w.is.external a n here names declaration
                ∙ ap (λ c. if c then TypeName else value_by tree.nodes.now of (entry_at typing a).own.declarator.function row) none.0
                ∙ ap (λ x. value_by tree.nodes.now of x row) (ap (λ (d : Declarator). d.function) own ∙ none.1),
          ),
        )

    pub initialised_known : is_type (named a) ≡ true
    initialised_known =
        known_type a initialised_object
        (is_known_there file t it w.declaration w.node w.is.at w.is.external a n here names declaration (types_known file t it)
        (no_type (storage_of t.nodes w.node.parts) (declarator_of t.nodes r).next w.value))

    nothing_broken : HoldsAll (faults_in n.kind (entry_at typing a).linked tree (before_in shapes (cut a typing)).specified (entry_at typing a).own.declarator (past_in shapes (cut a typing)) (now_at shapes typing a) a n)
    nothing_broken b among = holds file t it b (record { node = a; among = subst (λ x. IsNodeBreak tree texts shapes (cut a typing) (entry_at typing a) a x b) (sym at) (inr (inr (inr among))) })

    -- K9: the type that its initialiser completes agrees with those before
    agrees : disagrees (name_type_in (past_in shapes (cut a typing)).composite (slice_get n.parts 0)) (now_at shapes typing a) ≡ false
    agrees =
        unbroken_at 9 token (name_in tree.nodes.now (slice_get n.parts 0)) (disagrees (name_type_in (past_in shapes (cut a typing)).composite (slice_get n.parts 0)) (now_at shapes typing a))
        (ap (name_in tree.nodes.now) first ∙ ap (λ ns. (declarator_of ns r).name) (sym (nodes_are file t it)) ∙ w.is.name)
        (subst (λ k. HoldsAll (faults_in k (entry_at typing a).linked tree (before_in shapes (cut a typing)).specified (entry_at typing a).own.declarator (past_in shapes (cut a typing)) (now_at shapes typing a) a n)) is nothing_broken)

    before_it : name_type_in (past_in shapes (cut a typing)).composite (slice_get n.parts 0) ≡ of_object (composite r)
    before_it = ap (name_type_in (past_in shapes (cut a typing)).composite) first ∙ composite_is r its a low

    declarator_known : is_type (named r) ≡ true
    declarator_known = known_type r its (value_is_known file t it token w)

    pub initialised_becomes : Becomes (composite r) (composite a)
    initialised_becomes =
        earlier_becomes a n at initialised_object r
        (ap (λ k. name_type_in (past_in shapes (cut a typing)).composite (same_by k (slice_index_or typing.linked a None) (slice_index_or tree.same.now a None) n)) is ∙ before_it)
        (they_agree (composite r) (named a) (becomes_typed (named r) (composite r) (own_becomes r o.node (there file t it r o.node o.at) its) ∙ declarator_known) initialised_known
        (ap (λ x. disagrees x (of_object (named a))) (sym before_it)
        ∙ ap (disagrees (name_type_in (past_in shapes (cut a typing)).composite (slice_get n.parts 0))) (sym (type_is a initialised_object)) ∙ agrees))

  -- ---- one declaration and the next

  module _ (one other : ℕ) (v : DeclaresValue t.nodes one) (w : DeclaresValue t.nodes other) (object : DeclaresObject typing v.declarator) (its : DeclaresObject typing w.declarator) (less : other < one)
      (last : previous_of it.names one ≡ Some other) (has : has_linkage (does_at tree shapes typing v.declarator).linkage ≡ true) where
    abbrev q : ℕ
    q = v.declarator

    abbrev earlier_one : ℕ
    earlier_one = w.declarator

    rises : earlier_one < q
    rises = in_order_is file t it other one w.declaration earlier_one v.declaration q w.node v.node w.is v.is less

    mine : IsOwned file t it one v.declaration q v.node
    mine = owned file t it one v.declaration q v.node v.is

    is_linked : IsLinked tree shapes typing q
    is_linked = declarations tree texts shapes typing (is_typing file t it) (holds file t it) q mine.node (there file t it q mine.node mine.at) mine.is has

    read : same_at tree q ≡ Some (raised it.unit.nodes it.checked.checked.surroundings.above earlier_one q)
    read = columns_find file t it one other v.declaration q w.declaration earlier_one v.node w.node v.is w.is last

    from : (a : ℕ) (n : Node) → slice_get tree.nodes.now a ≡ Some n → same_at tree q ≡ Some a → a < q → DeclaresObject typing a → is_type (named a) ≡ true → Becomes (composite a) (composite q)
    from a n at same below there_object known =
        let before_it : earlier_at tree shapes typing q ≡ of_object (composite a) = ap (name_type_in (past_in shapes (cut q typing)).composite) same ∙ composite_is a there_object q below in
        earlier_becomes q mine.node (there file t it q mine.node mine.at) object a
        (ap (name_type_in (past_in shapes (cut q typing)).composite) (same_declarator mine.node.kind (slice_index_or typing.linked q None) _ (same_at tree q) mine.node mine.is is_linked.linked) ∙ before_it)
        (they_agree (composite a) (named q) (becomes_typed (named a) (composite a) (own_becomes a n at there_object) ∙ known) (known_type q object (value_is_known file t it one v))
        (ap (λ x. disagrees x (of_object (named q))) (sym before_it) ∙ ap (disagrees (earlier_at tree shapes typing q)) (sym (type_is q object))
        ∙ is_linked.agrees one (ap (λ ns. (declarator_of ns q).name) (sym (nodes_are file t it)) ∙ v.is.name)))

    pub next_becomes : Becomes (composite earlier_one) (composite q)
    next_becomes = elim (raised_is it.unit.nodes it.checked.checked.surroundings.above earlier_one q) [
      | inl e ↦
          (let o = owned file t it other w.declaration earlier_one w.node w.is in
          from earlier_one o.node (there file t it earlier_one o.node o.at) (read ∙ ap Some e) rises its (known_type earlier_one its (value_is_known file t it other w)))
      | inr x ↦
          (let a = x.0 in
          let i = x.1.1 in
          let here : slice_get t.nodes a ≡ Some i.node = ap (λ ns. slice_get ns a) made_by.elaborated.nodes_are ∙ i.at in
          becomes_further (composite earlier_one) (composite a) (composite q) (initialised_becomes other w its a i.node here i.is i.first)
          (from a i.node (there file t it a i.node here) (read ∙ ap Some x.1.0) i.below (initialised_object other w its a i.node here i.is i.first) (initialised_known other w its a i.node here i.is i.first)))
    ]

  -- with its initialiser, where the next one stands behind that
  module _ (one other : ℕ) (v : DeclaresValue t.nodes one) (w : DeclaresValue t.nodes other) (object : DeclaresObject typing v.declarator) (its : DeclaresObject typing w.declarator) (less : other < one)
      (last : previous_of it.names one ≡ Some other) (has : has_linkage (does_at tree shapes typing v.declarator).linkage ≡ true) (a : ℕ) (n : Node) (here : slice_get t.nodes a ≡ Some n)
      (is : n.kind ≡ kind.InitDeclarator) (first : slice_get n.parts 0 ≡ Some w.declarator) (behind : a < v.declarator) where
    above : slice_index_or it.checked.checked.surroundings.above w.declarator None ≡ Some a
    above =
        ap (λ column. slice_index_or column w.declarator None) (sym made_by.is.whole.tree.above)
        ∙ ((shaped file t it).parts a n (there file t it a n here) 0 w.declarator first).above

    raised_here : raised it.unit.nodes it.checked.checked.surroundings.above w.declarator v.declarator ≡ a
    raised_here =
        ap (λ o. raised_if it.unit.nodes o w.declarator v.declarator) above
        ∙ ap (λ ns. raised_by (slice_get ns a) a w.declarator v.declarator) (sym made_by.elaborated.nodes_are)
        ∙ ap (λ o. raised_by o a w.declarator v.declarator) here
        ∙ ap (λ b. if b && nat_lt a v.declarator then a else w.declarator) (ap (λ k. initialises k n.parts w.declarator) is ∙ first_is n.parts w.declarator first)
        ∙ ap (λ b. if b then a else w.declarator) (lt-ltb a v.declarator behind)

    pub behind_becomes : Becomes (composite a) (composite v.declarator)
    behind_becomes =
        from one other v w object its less last has a n (there file t it a n here) (read one other v w object its less last has ∙ ap Some raised_here) behind
        (initialised_object other w its a n here is first) (initialised_known other w its a n here is first)

  -- ---- all further ones

  -- how the next declaration keeps what a node tells
  abbrev pub Next : ℕ → ℕ → Type 0
  Next p other = (one : ℕ) (v : DeclaresValue t.nodes one) → DeclaresObject typing v.declarator → other < one → previous_of it.names one ≡ Some other
      → has_linkage (does_at tree shapes typing v.declarator).linkage ≡ true → Becomes (composite p) (composite v.declarator)

  pub chain_from : (p fuel one other k : ℕ) → one < fuel → other < one → declared_entity it.names one ≡ Some k → declared_entity it.names other ≡ Some k → (v : DeclaresValue t.nodes one)
      → DeclaresObject typing v.declarator → Next p other → Becomes (composite p) (composite v.declarator)
  chain_from p zero one other k low less mine its v object next = absurd (omega (arith, low))
  chain_from p (suc fuel) one other k low less mine its v object next = elim (cases_lt other x.last) [
    | inl more ↦
        (let here = values_share file t it x.last one k x.has mine v in
        let early = x.low in
        let between = follows_at file t it one x.last k v.declaration v.declarator here.declaration here.declarator v.node here.node v.is here.is mine x.has object x.low in
        becomes_further (composite p) (composite here.declarator) (composite v.declarator) (chain_from p fuel x.last other k (omega (arith, low, early)) more x.has its here between next)
        (next_becomes one x.last v here object between x.low last linked))
    | inr past ↦
        (let from_it = x.behind in
        let same : x.last ≡ other = omega (arith, past, from_it) in
        next one v object less (last ∙ ap Some same) linked)
  ]
    where
      x : IsLast (declared_entity it.names) one k other
      x = last_there (declared_entity it.names) one k other less its

      last : previous_of it.names one ≡ Some x.last
      last = ap (before_of it.names one) (entity_of_declared it.names one k mine) ∙ x.is

      linked : has_linkage (does_at tree shapes typing v.declarator).linkage ≡ true
      linked = (shared file t it one x.last k v.declaration v.declarator v.node v.is mine x.has (λ e. (let early = x.low in absurd (omega (arith, early, e)))) object).linked

  pub chain : (one other k : ℕ) → other < one → declared_entity it.names one ≡ Some k → declared_entity it.names other ≡ Some k → (v : DeclaresValue t.nodes one) (w : DeclaresValue t.nodes other)
      → DeclaresObject typing v.declarator → DeclaresObject typing w.declarator → Becomes (composite w.declarator) (composite v.declarator)
  chain one other k less mine its v w object first =
      chain_from w.declarator (suc one) one other k (omega arith) less mine its v object (λ next u there_object behind last linked. next_becomes next other u w there_object first behind last linked)
