-- The declaration that a call sees and the definition have one outline.
use Rattle.std.proofs.Common.{◌≡◌, ℕ, suc, inl, inr, Bool, true, false, List, [], Option, None, Some, length, map, take, slice_get, slice_index_or, refl, sym, subst, ap, ◌∙◌, arith}
use Rattle.std.proofs.lemmas.Bool.{cases_lt, cases_eq, false≢true}
use Rattle.std.proofs.lemmas.List.{get_or_past, get_or-take, length-take}
use Rattle.cr_syntax.specs.declared.node.Kind.{Kind}
use Rattle.cr_syntax.specs.declared.node.Kind.TheVariants as kind
use Rattle.cr_syntax.specs.declared.node.Node.{Node}
use Rattle.cr_scopes_events.specs.Declarators.{declarator_of}
use Rattle.cr_scopes_bindings.specs.Nodes.{named_by, named_if, name_at}
use Rattle.cr_scopes_linkage.specs.Shared.Origins.{is_external, IsDeclarer}
use Rattle.cr_scopes_events.specs.Scripts as scripts
use Rattle.cr_scopes_visibility.specs.Told.Told.{is_declaration, IsHeldInside, IsDeclarator}
use Rattle.cr_check_types.specs.Types.{Qualified, type_at}
use Rattle.cr_check_operands.specs.Places.{found_by}
use Rattle.cr_check_expressions.specs.declared.known.Declared.TheVariants.{Enumerator, Function, Unclear}
use Rattle.cr_check_expressions.specs.Known.{Signature, a_function, meaning_by, declared_by as stands_by, parameters_in}
use Rattle.cr_check_declarations.specs.Named.{is_declarator}
use Rattle.cr_check_linkage.specs.NameTypes.{NameType, of_object, of_function, of_none, type_as}
use Rattle.cr_check_unit.specs.Typing.{cut, entry_at, IsRuled, IsRuledIf}
use Rattle.cr_check_signatures.specs.Functions.Linked.{now_at}
use Rattle.cr_check_signatures.specs.Functions.Outlines.{head, outline}
use Rattle.cr_check_signatures.proofs.FunctionsLemmas.Linked.{functions}
use Rattle.cr_check_signatures.proofs.FunctionsLemmas.Chained.{row_or, declared_row}
use Rattle.cr_check_signatures.proofs.CalleesLemmas.Callees.{IsDeclaredSo, declared_so}
use Rattle.cr_typed.specs.declared.typed.Typed.{Typed}
use Rattle.cr_meaning_declarations.specs.Declared.Files.{IsUnitOfFile}
use Rattle.cr_meaning_typing.specs.Judged.Judged.{source_of}
use Rattle.cr_meaning_declarations.proofs.DeclaredLemmas.Files.{has_unit}
use Rattle.cr_meaning_references.proofs.ToldLemmas.Orderly.{apart}
use Rattle.cr_meaning_objects.specs.Chained.Laws.{DeclaresFunction}
use Rattle.cr_meaning_objects.proofs.ChainedLemmas.Known.{is_typing, holds, owned, definition_declares}
use Rattle.cr_meaning_objects.proofs.ChainedLemmas.Chained.{one_outline}
use Rattle.cr_meaning_objects.specs.Called.Laws.{IsMeant}

-- ---- what a name stands for as a function

-- ---- the row of what is declared is that of the named type

-- ---- outlines

abbrev result_of : Qualified → NameType → Qualified
result_of other (of_object type) = other
result_of other (of_function f) = f.result
result_of other of_none = other

abbrev parameters_of : NameType → List Qualified
parameters_of (of_object type) = []
parameters_of (of_function f) = f.parameters
parameters_of of_none = []

abbrev more_of : NameType → Bool
more_of (of_object type) = false
more_of (of_function f) = f.variadic
more_of of_none = false

-- ---- a name of a declaration

pub declares_kind : (k : Kind) → is_external k ≡ true → is_declaration k ≡ true
declares_kind kind.Declaration h = refl
declares_kind kind.FunctionDefinition h = refl
declares_kind k h = absurd (false≢true h)

named_kind : (k : Kind) (first token : ℕ) (o : Option ℕ) → is_declarator k ≡ true → o ≡ Some token → named_by k first o ≡ Some token
named_kind kind.Enumerator first token o h e = absurd (false≢true h)
named_kind k first token o h e = e

module _ (file : List ℕ) (t : Typed) (it : IsUnitOfFile file t) where
  open it use {made_by, typing, shapes, tree}
  open has_unit file t it use {unit as u, order}

  abbrev look : ℕ → Qualified
  look = type_at shapes

  -- ---- one token is declared by one declarator

  whole : (token i q : ℕ) (m : Node) → IsDeclarer t.nodes token i q m → IsDeclarator t.nodes q
  whole token i q m d = elim d.declares [
    | inl same ↦ inl (record { declaration = i; node = m; at = d.at; declares = declares_kind m.kind d.external; place = suc d.place; is = d.is ∙ ap Some same })
    | inr init ↦ inr (inside (slice_get t.nodes d.part) refl init.0 init.1)
  ]
    where
      inside : (o : Option Node) → slice_get t.nodes d.part ≡ o → scripts.kind_if o ≡ Some kind.InitDeclarator → slice_get (scripts.parts_if o) 0 ≡ Some q → IsHeldInside t.nodes q
      inside None at is first = let never : None ≡ Some kind.InitDeclarator = is in absurd cc
      inside (Some x) at is first = record {
        outer = d.part;
        node = x;
        at = at;
        initialises = (let e : Some x.kind ≡ Some kind.InitDeclarator = is in cc);
        is = first;
        held = record { declaration = i; node = m; at = d.at; declares = declares_kind m.kind d.external; place = suc d.place; is = d.is };
      }

  name_is : (token i q : ℕ) (m : Node) → IsDeclarer t.nodes token i q m → name_at t.nodes q ≡ Some token
  name_is token i q m d =
      let o = owned file t it token i q m d in
      ap (λ x. named_if x (declarator_of t.nodes q).name) o.at ∙ named_kind o.node.kind o.node.first token (declarator_of t.nodes q).name o.is d.name

  one_declarator : (token i q j r : ℕ) (m n : Node) → IsDeclarer t.nodes token i q m → IsDeclarer t.nodes token j r n → q ≡ r
  one_declarator token i q j r m n d e = elim (cases_lt q r) [
    | inl less ↦ absurd ((apart t u order).wholes q r token (whole token i q m d) (name_is token i q m d) less (name_is token j r n e))
    | inr le ↦ elim (cases_lt r q) [
      | inl more ↦ absurd ((apart t u order).wholes r q token (whole token j r n e) (name_is token j r n e) more (name_is token i q m d))
      | inr ge ↦ omega (arith, le, ge)
    ]
  ]

  -- ---- the declaration that is seen

  module _ (i d : ℕ) (signature : Signature) (stands : (source_of tree it.checked.checked i).stands i ≡ a_function signature) (meant : IsMeant file t it i d) where
    abbrev r : ℕ
    r = meant.declarator

    abbrev pub q : ℕ
    q = meant.whole

    seen : meaning_by look (slice_index_or (take i typing.parameters) r []) (slice_index_or (take i typing.declared) r Unclear) ≡ a_function signature
    seen = ap (λ o. meaning_by look (parameters_in (take i typing.parameters) o) (stands_by (take i typing.declared) o)) (sym meant.sees) ∙ stands

    so : IsDeclaredSo look (slice_index_or typing.parameters r []) (slice_index_or typing.declared r Unclear) signature
    so = elim (cases_lt r i) [
      | inl less ↦ declared_so look (slice_index_or typing.parameters r []) (slice_index_or typing.declared r Unclear) signature
          (sym (λ j. meaning_by look (get_or-take i typing.parameters r [] less j) (get_or-take i typing.declared r Unclear less j)) ∙ seen)
      | inr past ↦
          (let few = length-take i typing.declared in
          let none : slice_index_or (take i typing.declared) r Unclear ≡ Unclear = get_or_past (take i typing.declared) r Unclear (omega (arith, few, past)) in
          absurd (never (slice_index_or (take i typing.parameters) r []) (sym (ap (meaning_by look (slice_index_or (take i typing.parameters) r [])) none) ∙ seen)))
    ]
      where
        never : (rows : List ℕ) → meaning_by look rows Unclear ≡ a_function signature → ⊥
        never rows e = cc

    its : DeclaresFunction typing r
    its = (so.row, (so.more, so.is))

    mine : DeclaresFunction typing q
    mine = definition_declares file t it meant.name d q meant.own meant.defines meant.body

    row_is : so.row ≡ slice_index_or typing.named r 0
    row_is =
        let is = functions tree it.checked.checked.texts shapes typing (is_typing file t it) (holds file t it) r so.row so.more so.is in
        let made : IsRuled tree it.checked.checked.texts shapes (cut r typing) (entry_at typing r) r is.node =
        subst (IsRuledIf tree it.checked.checked.texts shapes (cut r typing) (entry_at typing r) r) is.at ((is_typing file t it).each r) in
        sym (ap (row_or (slice_index_or typing.named r 0)) (sym made.declared ∙ so.is)) ∙ declared_row is.node.kind tree.nodes.now _ _ (slice_index_or typing.named r 0) _ _

    alike : outline (now_at shapes typing q) ≡ outline (now_at shapes typing r)
    alike = elim (cases_eq meant.name meant.token) [
      | inl same ↦ ap (λ p. outline (now_at shapes typing p))
          (one_declarator meant.token d q meant.declaration r meant.own meant.node (subst (λ x. IsDeclarer t.nodes x d q meant.own) same meant.defines) meant.declares)
      | inr differ ↦
          one_outline file t it meant.name meant.token meant.entity d q meant.declaration r meant.own meant.node meant.defines meant.declares meant.same meant.stands mine its differ
    ]

    both : outline (of_function (record { result = look (slice_index_or typing.named q 0); variadic = mine.1.0; parameters = map look (slice_index_or typing.parameters q []) }))
        ≡ outline (of_function (record { result = look so.row; variadic = so.more; parameters = map look (slice_index_or typing.parameters r []) }))
    both =
        let back = sym row_is in
        ap (λ z. outline (type_as z (look (slice_index_or typing.named q 0)) (map look (slice_index_or typing.parameters q [])))) (sym mine.1.1)
        ∙ alike ∙ ap outline (λ j. type_as (so.is j) (look (back j)) (map look (slice_index_or typing.parameters r [])))

    pub record IsAlike : Type 0 where
      pub rows : List ℕ
      pub count : signature.count ≡ length rows
      pub each : (k : ℕ) → signature.parameter k ≡ found_by look (slice_get rows k)
      pub result : head (look (slice_index_or typing.named q 0)) ≡ head signature.gives
      pub heads : map head (map look (slice_index_or typing.parameters q [])) ≡ map head (map look rows)
      pub more : (row : ℕ) (own : Bool) → slice_index_or typing.declared q Unclear ≡ Function row own → own ≡ signature.more

    pub is_alike : IsAlike
    is_alike = record {
      rows = slice_index_or typing.parameters r [];
      count = ap (λ (s : Signature). s.count) (sym so.same);
      each = λ k. ap (λ (s : Signature). s.parameter k) (sym so.same);
      result = ap (result_of (look so.row)) both ∙ ap (λ (s : Signature). head s.gives) so.same;
      heads = ap parameters_of both;
      more = λ row own e.
          let same : Function mine.0 mine.1.0 ≡ Function row own = sym mine.1.1 ∙ e in
          let one : mine.1.0 ≡ own = cc in
          sym one ∙ ap more_of both ∙ ap (λ (s : Signature). s.more) so.same;
    }
