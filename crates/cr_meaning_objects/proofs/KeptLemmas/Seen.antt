-- A name that is a place sees a declarator of an object, whatever initialiser stands behind that (C11 6.5.1p2, 6.2.1p7).
use Rattle.std.proofs.Common.{◌≡◌, ℕ, Bool, true, false, ◌&&◌, List, [], Option, None, Some, nat_lt, slice_get, slice_index_or, refl, sym, subst, ap, ◌∙◌, if◌then◌else◌}
use Rattle.std.proofs.lemmas.Bool.{false≢true, and_parts}
use Rattle.std.proofs.lemmas.List.{get_or-take}
use Rattle.std.proofs.lemmas.Option.{slice_get_within, same_Some}
use Rattle.cr_syntax.specs.declared.node.Kind.TheVariants as kind
use Rattle.cr_syntax.specs.declared.node.Node.{Node}
use Rattle.cr_scopes_bindings.specs.Bindings.{entry_if}
use Rattle.cr_check_types.specs.Types.{Qualified, type_at}
use Rattle.cr_check_operands.specs.Values.{Seen}
use Rattle.cr_check_expressions.specs.declared.known.Declared.{Declared}
use Rattle.cr_check_expressions.specs.declared.known.Declared.TheVariants.{Object, Enumerator, Function, TypeName, Unclear}
use Rattle.cr_check_expressions.specs.Forms.{form_of}
use Rattle.cr_check_expressions.specs.Known.{meaning_by, spelling_of}
use Rattle.cr_check_expressions.specs.Ruled.{named_by, facts_at}
use Rattle.cr_check_expressions.specs.Ruled as rules
use Rattle.cr_check_declarators.specs.declared.words.Class.{Class}
use Rattle.cr_check_declarators.specs.declared.words.Specified.{Specified}
use Rattle.cr_check_declarators.specs.declared.declarator.Declarator.{Declarator}
use Rattle.cr_check_declarations.specs.Before.{Before, kind_in, declarator_in}
use Rattle.cr_check_declarations.specs.Declarators.{declarator_by}
use Rattle.cr_check_declarations.specs.Named.{is_typedef, is_register, class_of, value_by, ordinary_by, ordinary_of, names_ordinary, declares_name, declared_by, declaration_of, specifiers_in}
use Rattle.cr_check_surroundings.specs.Named.{used_by, used_name, visible_if}
use Rattle.cr_check_surroundings.specs.Raised.{initialises, raised_by, raised_if, raised, raised_of}
use Rattle.cr_check_unit.specs.Typing.{cut, entry_at, before_in, source_in, declared_in, IsRuled}
use Rattle.cr_typed.specs.declared.typed.Typed.{Typed}
use Rattle.cr_meaning_types.specs.Known.Shaped.{fits, IsPart}
use Rattle.cr_meaning_types.specs.Known.Sighted.{is_use, IsSeen}
use Rattle.cr_meaning_types.proofs.KnownLemmas.Naming.{ruled, specified_early, declarator_early}
use Rattle.cr_meaning_types.proofs.KnownLemmas.Sizes.{declarator_names}
use Rattle.cr_meaning_declarations.specs.Declared.Files.{IsUnitOfFile}
use Rattle.cr_meaning_objects.proofs.ChainedLemmas.Known.{is_typing, holds, there, declares_by_kind}
use Rattle.cr_meaning_references.proofs.ToldLemmas.Names.{initial}
use Rattle.cr_meaning_references.proofs.TreesLemmas.Shaped.{shaped}
use Rattle.cr_meaning_references.proofs.TreesLemmas.Sighted.{sighted}
use Rattle.cr_meaning_objects.specs.Objects.Laws.{DeclaresObject}
use Rattle.cr_meaning_objects.specs.Kept.Laws
use Rattle.cr_meaning_objects.specs.Kept.Laws.{SeesObject}

abbrev IsObject : Declared → Type 0
IsObject d = (row : ℕ) × ((register : Bool) × (d ≡ Object row register))

-- what a name names as a place is an object
place_object : (look : ℕ → Qualified) (rows : List ℕ) (d : Declared) → (named_by (meaning_by look rows d)).lvalue ≡ true → IsObject d
place_object look rows (Object row register) h = (row, (register, refl))
place_object look rows (Enumerator value) h = absurd (false≢true h)
place_object look rows (Function row more) h = absurd (false≢true h)
place_object look rows TypeName h = absurd (false≢true h)
place_object look rows Unclear h = absurd (false≢true h)

-- ---- what two declarators of a declaration declare

value_object : (nodes : List Node) (c : Option Class) (f : Option ℕ) (row other : ℕ) → IsObject (value_by nodes c f row) → IsObject (value_by nodes c f other)
value_object nodes c None row other h = (other, (is_register c, refl))
value_object nodes c (Some f) row other h = let never : value_by nodes c (Some f) row ≡ Object h.0 h.1.0 = h.1.1 in absurd cc

as_object : (b : Bool) (nodes : List Node) (c : Option Class) (f : Option ℕ) (row other : ℕ) → IsObject (if b then TypeName else value_by nodes c f row) → IsObject (if b then TypeName else value_by nodes c f other)
as_object true nodes c f row other h = let never : TypeName ≡ Object h.0 h.1.0 = h.1.1 in absurd cc
as_object false nodes c f row other h = value_object nodes c f row other h

by_specifiers : (nodes : List Node) (one two : ℕ → Specified) (own its : Declarator) (row other : ℕ) (o : Option ℕ) → own.function ≡ its.function → ((s : ℕ) → o ≡ Some s → one s ≡ two s)
    → IsObject (ordinary_by nodes one own row o) → IsObject (ordinary_by nodes two its other o)
by_specifiers nodes one two own its row other None f same h = let never : Unclear ≡ Object h.0 h.1.0 = h.1.1 in absurd cc
by_specifiers nodes one two own its row other (Some s) f same h =
    let moved = subst (λ (x : Specified). IsObject (if is_typedef (class_of x.storage) then TypeName else value_by nodes (class_of x.storage) own.function row)) (same s refl) h in
    subst (λ g. IsObject (if is_typedef (class_of (two s).storage) then TypeName else value_by nodes (class_of (two s).storage) g other)) f
    (as_object (is_typedef (class_of (two s).storage)) nodes (class_of (two s).storage) own.function row other moved)

by_declaration : (b : Bool) (nodes : List Node) (one two : ℕ → Specified) (own its : Declarator) (row other : ℕ) (o : Option ℕ) → own.function ≡ its.function → ((s : ℕ) → o ≡ Some s → one s ≡ two s)
    → IsObject (if b then ordinary_by nodes one own row o else Unclear) → IsObject (if b then ordinary_by nodes two its other o else Unclear)
by_declaration true nodes one two own its row other o f same h = by_specifiers nodes one two own its row other o f same h
by_declaration false nodes one two own its row other o f same h = let never : Unclear ≡ Object h.0 h.1.0 = h.1.1 in absurd cc

module _ (file : List ℕ) (t : Typed) (it : IsUnitOfFile file t) where
  open it use {made_by, typing, shapes, tree, texts}

  abbrev early : ℕ → Before
  early i = before_in shapes (cut i typing)

  -- with its initialiser a declarator declares what it declares without
  inside : (a w : ℕ) (m : Node) → slice_get tree.nodes.now a ≡ Some m → m.kind ≡ kind.InitDeclarator → slice_get m.parts 0 ≡ Some w → DeclaresObject typing a → DeclaresObject typing w
  inside a w m at is first object = (made.0, (made.1.0, own_w.declared ∙ made.1.1))
    where
      part : IsPart tree a m 0 w
      part = (shaped file t it).parts a m at 0 w first

      own_a : IsRuled tree texts shapes (cut a typing) (entry_at typing a) a m
      own_a = ruled tree texts shapes typing (is_typing file t it) (holds file t it) a m at

      own_w : IsRuled tree texts shapes (cut w typing) (entry_at typing w) w part.own
      own_w = ruled tree texts shapes typing (is_typing file t it) (holds file t it) w part.own part.at

      names_w : declares_name part.own.kind ≡ true
      names_w = declarator_names part.own.kind (ap (λ k. fits k 0 part.own.kind) (sym is) ∙ part.fits)

      one_declarator : (entry_at typing a).own.declarator ≡ (entry_at typing w).own.declarator
      one_declarator =
          own_a.declarator ∙ ap (λ k. declarator_by k (spelling_of tree.file.now tree.tokens.now) tree.nodes.now (early a) a m) is ∙ ap (declarator_in (early a).declarator) first
          ∙ declarator_early tree texts shapes typing (is_typing file t it) (holds file t it) a m at w part.below

      declaration : declaration_of tree.nodes.now tree.above.now w ≡ declaration_of tree.nodes.now tree.above.now a
      declaration = (shaped file t it).initialised a w m at is first

      -- both read what the same specifiers say
      read : (d : Option ℕ) → declaration_of tree.nodes.now tree.above.now w ≡ d → (s : ℕ) → specifiers_in tree.nodes.now d ≡ Some s → (early a).specified s ≡ (early w).specified s
      read None e s f = absurd (cc f)
      read (Some d) e s f =
          let low = (shaped file t it).ordered w d s part.own part.at names_w e f in
          let low_a = (shaped file t it).ordered a d s m at (ap declares_name is) (sym declaration ∙ e) f in
          specified_early tree texts shapes typing (is_typing file t it) (holds file t it) a m at s low_a
          ∙ sym (specified_early tree texts shapes typing (is_typing file t it) (holds file t it) w part.own part.at s low)

      its : IsObject (ordinary_of tree.nodes.now (early a).specified (entry_at typing a).own.declarator (entry_at typing a).own.named (declaration_of tree.nodes.now tree.above.now a))
      its =
          let e = declares_by_kind m.kind tree.nodes.now (early a).specified (entry_at typing a).own.declarator (entry_at typing a).own.named (entry_at typing a).own.enumerated (declaration_of tree.nodes.now tree.above.now a) (ap declares_name is) in
          (object.0, (object.1.0, sym e ∙ sym own_a.declared ∙ object.1.1))

      moved : IsObject (ordinary_of tree.nodes.now (early w).specified (entry_at typing w).own.declarator (entry_at typing w).own.named (declaration_of tree.nodes.now tree.above.now a))
      moved =
          by_declaration (names_ordinary (kind_in tree.nodes.now (declaration_of tree.nodes.now tree.above.now a))) tree.nodes.now (early a).specified (early w).specified (entry_at typing a).own.declarator (entry_at typing w).own.declarator
          (entry_at typing a).own.named (entry_at typing w).own.named (specifiers_in tree.nodes.now (declaration_of tree.nodes.now tree.above.now a)) (ap (λ (x : Declarator). x.function) one_declarator)
          (λ s e. read (declaration_of tree.nodes.now tree.above.now a) declaration s e) its

      made : IsObject (declared_by part.own.kind tree.nodes.now (early w).specified (entry_at typing w).own.declarator (entry_at typing w).own.named (entry_at typing w).own.enumerated (declaration_of tree.nodes.now tree.above.now w))
      made =
          let e = declares_by_kind part.own.kind tree.nodes.now (early w).specified (entry_at typing w).own.declarator (entry_at typing w).own.named (entry_at typing w).own.enumerated (declaration_of tree.nodes.now tree.above.now w) names_w in
          let same = ap (ordinary_of tree.nodes.now (early w).specified (entry_at typing w).own.declarator (entry_at typing w).own.named) declaration in
          (moved.0, (moved.1.0, e ∙ same ∙ moved.1.1))

  -- so what is read of a declarator is of the declarator alone
  of_raised : (w i : ℕ) → DeclaresObject typing (raised it.unit.nodes it.checked.checked.surroundings.above w i) → DeclaresObject typing w
  of_raised w i = by (slice_index_or it.checked.checked.surroundings.above w None)
    where
      choice : (a : ℕ) (m : Node) → slice_get it.unit.nodes a ≡ Some m → (b : Bool) → (initialises m.kind m.parts w && nat_lt a i) ≡ b → DeclaresObject typing (if b then a else w) → DeclaresObject typing w
      choice a m at true q h =
          let first = initial m.kind m.parts w (and_parts (initialises m.kind m.parts w) (nat_lt a i) q).0 in
          inside a w m (ap (λ ns. slice_get ns a) made_by.is.whole.tree.nodes ∙ at) first.0 first.1 h
      choice a m at false q h = h

      at_above : (a : ℕ) (o : Option Node) → slice_get it.unit.nodes a ≡ o → DeclaresObject typing (raised_by o a w i) → DeclaresObject typing w
      at_above a None at h = h
      at_above a (Some m) at h = choice a m at (initialises m.kind m.parts w && nat_lt a i) refl h

      by : (o : Option ℕ) → DeclaresObject typing (raised_if it.unit.nodes o w i) → DeclaresObject typing w
      by None h = h
      by (Some a) h = at_above a (slice_get it.unit.nodes a) refl h

  module _ (i : ℕ) (n : Node) (at : slice_get t.nodes i ≡ Some n) (is : n.kind ≡ kind.Identifier) (lvalue : (facts_at shapes typing.facts i).lvalue ≡ true) where
    here : slice_get tree.nodes.now i ≡ Some n
    here = there file t it i n at

    sees : IsSeen tree i n.kind
    sees = (sighted file t it).names i n here (ap is_use is)

    own : IsRuled tree texts shapes (cut i typing) (entry_at typing i) i n
    own = ruled tree texts shapes typing (is_typing file t it) (holds file t it) i n here

    fact : facts_at shapes typing.facts i ≡ named_by (declared_in shapes (cut i typing) (Some sees.declared))
    fact =
        own.fact ∙ ap (λ k. rules.ruled (form_of k) (facts_at shapes (cut i typing).facts) (source_in (type_at shapes) tree texts (cut i typing)) i n) is
        ∙ ap (λ o. named_by (declared_in shapes (cut i typing) o)) sees.is

    declares : DeclaresObject typing sees.declared
    declares =
        let x = place_object (type_at shapes) (slice_index_or (cut i typing).parameters sees.declared []) (slice_index_or (cut i typing).declared sees.declared Unclear) (ap (λ (s : Seen). s.lvalue) (sym fact) ∙ lvalue) in
        (x.0, (x.1.0, sym (get_or-take i typing.declared sees.declared Unclear sees.below) ∙ x.1.1))

    there_u : slice_get it.unit.nodes i ≡ Some n
    there_u = ap (λ ns. slice_get ns i) (sym made_by.elaborated.nodes_are) ∙ at

    column : raised_of it.unit.nodes it.checked.checked.surroundings.above (entry_if it.checked.checked.surroundings.bindings.declarers (slice_index_or it.checked.checked.surroundings.bindings.visible n.first None)) i ≡ Some sees.declared
    column =
        sym (ap (λ vs. slice_index_or vs i None) made_by.is.whole.tree.visible
        ∙ made_by.is.surroundings.visible.each i (slice_get_within it.unit.nodes i n there_u)
        ∙ ap (λ o. raised_of it.unit.nodes it.checked.checked.surroundings.above (visible_if it.checked.checked.surroundings.bindings (used_name o)) i) there_u
        ∙ ap (λ k. raised_of it.unit.nodes it.checked.checked.surroundings.above (visible_if it.checked.checked.surroundings.bindings (used_by k n.first)) i) is)
        ∙ sees.is

    sees_object : SeesObject file t it n.first
    sees_object = by (slice_index_or it.checked.checked.surroundings.bindings.visible n.first None) refl column
      where
        of_token : (token : ℕ) → slice_index_or it.checked.checked.surroundings.bindings.visible n.first None ≡ Some token
            → (o : Option ℕ) → slice_index_or it.checked.checked.surroundings.bindings.declarers token None ≡ o → raised_of it.unit.nodes it.checked.checked.surroundings.above o i ≡ Some sees.declared → SeesObject file t it n.first
        of_token token v None e f = absurd (cc f)
        of_token token v (Some w) e f = record {
          token = token;
          visible = v;
          declarator = w;
          declares = e;
          object = of_raised w i (subst (DeclaresObject typing) (sym (same_Some (raised it.unit.nodes it.checked.checked.surroundings.above w i) sees.declared f)) declares);
        }

        by : (o : Option ℕ) → slice_index_or it.checked.checked.surroundings.bindings.visible n.first None ≡ o
            → raised_of it.unit.nodes it.checked.checked.surroundings.above (entry_if it.checked.checked.surroundings.bindings.declarers o) i ≡ Some sees.declared → SeesObject file t it n.first
        by None e f = absurd (cc f)
        by (Some token) e f = of_token token e (slice_index_or it.checked.checked.surroundings.bindings.declarers token None) refl f

pub see : Laws.PlacesSeeObjects
see file t it i n at is lvalue = sees_object file t it i n at is lvalue
