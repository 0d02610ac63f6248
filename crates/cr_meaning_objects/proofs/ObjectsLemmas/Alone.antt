-- An object of a declaration has linkage and static duration, or no linkage (C11 6.2.2p3 to p6, 6.2.4p3).
use Rattle.std.proofs.Common.{◌≡◌, ℕ, suc, ◌+◌, ◌<◌, ◌==◌, ◌&&◌, not, Bool, true, false, List, [], ◌∷◌, Option, None, Some, length, drop, slice_get, slice_index_or, ◌⊎◌, inl, inr, refl, sym, subst, ap, ◌∙◌, arith, if◌then◌else◌}
use Rattle.std.specs.Prelude.{fold}
use Rattle.std.specs.Option.{is_some}
use Rattle.std.proofs.lemmas.Bool.{cases_lt, false≢true, ne_eqb}
use Rattle.std.proofs.lemmas.Option.{slice_get_within, same_Some}
use Rattle.cr_syntax.specs.declared.node.Kind.{Kind}
use Rattle.cr_syntax.specs.declared.node.Kind.TheVariants as kind
use Rattle.cr_syntax.specs.declared.node.Node.{Node}
use Rattle.cr_syntax.specs.declared.part.Part.TheVariants as part
use Rattle.cr_syntax.specs.Tables.{rule_of, side_of}
use Rattle.cr_syntax.specs.Words.{Lexeme}
use Rattle.cr_syntax.specs.Trees.{Trees, node as tree_node}
use Rattle.cr_syntax.specs.Kept.{row_in}
use Rattle.cr_syntax.proofs.Arena.{row_at}
use Rattle.cr_syntax_nodes.specs.Laid.{stands_for, IsLaid}
use Rattle.cr_scopes_events.specs.declared.event.Role.TheVariants as role
use Rattle.cr_scopes_events.specs.declared.naming.Storage.{Storage as Word}
use Rattle.cr_scopes_events.specs.declared.naming.Storage.TheVariants.{NoWord}
use Rattle.cr_scopes_events.specs.declared.declarator.Derivation.{Derivation}
use Rattle.cr_scopes_events.specs.declared.declarator.Derivation.TheVariants.{Nothing, Function as Derived, Other}
use Rattle.cr_scopes_events.specs.Declarators.{declarator_of}
use Rattle.cr_scopes_events.specs.Scripts as scripts
use Rattle.cr_scopes_events.specs.Scripts.{with_word, words_of, storage_of, role_by}
use Rattle.cr_scopes_events.specs.Events.{events_of}
use Rattle.cr_scopes.specs.Resolved.{past_of}
use Rattle.cr_scopes.specs.Units.{unit_events}
use Rattle.cr_scopes_visibility.specs.Alone.Alone.{stands_alone, IsAlone}
use Rattle.cr_scopes_linkage.specs.Shared.Origins.{is_external, IsDeclarer}
use Rattle.cr_check_enclosing.specs.declared.context.Around.{Around}
use Rattle.cr_check_enclosing.specs.declared.context.Place.{Place}
use Rattle.cr_check_enclosing.specs.declared.context.Place.TheVariants as place
use Rattle.cr_check_enclosing.specs.Above.{above_of}
use Rattle.cr_check_enclosing.specs.Around.{outermost, below}
use Rattle.cr_check_expressions.specs.declared.known.Declared.TheVariants.{Object, Function, TypeName, Unclear}
use Rattle.cr_check_declarators.specs.declared.linkages.Linkage.{Linkage}
use Rattle.cr_check_declarators.specs.declared.linkages.Linkage.TheVariants.{Alone, Internal, External}
use Rattle.cr_check_declarators.specs.declared.words.Class.{Class}
use Rattle.cr_check_declarators.specs.declared.words.Class.TheVariants as class
use Rattle.cr_check_declarators.specs.declared.words.Storage.{Storage}
use Rattle.cr_check_declarators.specs.declared.words.Specified.{Specified}
use Rattle.cr_check_declarators.specs.Linkages.{inherited, linkage_of}
use Rattle.cr_check_declarators.specs.Specifiers.{nothing, is_typedef_word, specified_by, both_storages, may_stand, storage_by, storage_fault_of, inline_fault_of}
use Rattle.cr_check_declarations.specs.Before.{kind_if, parts_if, Before, specified_in}
use Rattle.cr_check_declarations.specs.Specifiers.{declares_by, are_specifiers, joined_in}
use Rattle.cr_check_declarations.specs.Named.{class_of, is_typedef, value_by, specifiers_in, declaration_of, declares_name, declared_by, ordinary_of, ordinary_by, names_ordinary}
use Rattle.cr_check_declarations.specs.Faults.{has_at, fault_at, place_of, is_nothing, declares_function, declares_functions, faults_in}
use Rattle.cr_check_expressions.specs.Breaks.{fault}
use Rattle.cr_check_initialised.specs.Durations.{is_kept, is_static}
use Rattle.cr_check_linkage.specs.Linked.{linkage_in, linked_in, linkage_by}
use Rattle.cr_check_signatures.specs.Functions.Linked.{has_linkage, does_at}
use Rattle.cr_check_unit.specs.Typing.{cut, entry_at, before_in, past_in}
use Rattle.cr_typed.specs.declared.typed.Typed.{Typed}
use Rattle.cr_meaning_typing.specs.Typed.Laws.{HoldsAll}
use Rattle.cr_meaning_declarations.proofs.UnitsLemmas.Rows.{clear_laid, clear_at}
use Rattle.cr_meaning_declarations.proofs.UnitsLemmas.Handing.{laid_at, parts_below}
use Rattle.cr_meaning_declarations.proofs.NamesLemmas.Parents.{IsPartOf, no_item, above_some, whole_is}
use Rattle.cr_meaning_declarations.proofs.NamesLemmas.Words.{word_of, Agrees, word_agrees, words_agree}
use Rattle.cr_meaning_declarations.proofs.NamesLemmas.Walks.{is_holder, without, no_external, sides_clear, AreNamedWell, all_alone, unit_good, only_external}
use Rattle.cr_meaning_types.specs.Known.Shaped.{is_single, fits, IsPart}
use Rattle.cr_meaning_types.proofs.KnownLemmas.Naming.{ruled, specified_early, holds_all}
use Rattle.cr_meaning_types.proofs.KnownLemmas.Declaring.{unplaced}
use Rattle.cr_meaning_declarations.specs.Declared.Files.{IsUnitOfFile}
use Rattle.cr_meaning_declarations.proofs.LinkedLemmas.Owned.{HasOwn, own_there, alone as in_no_other, one_role}
use Rattle.cr_meaning_declarations.proofs.DeclaredLemmas.Files.{has_unit}
use Rattle.cr_meaning_declarations.proofs.DeclaredLemmas.Once.{place_declaration, place_init, place_holder, no_plain}
use Rattle.cr_meaning_objects.proofs.ChainedLemmas.Known.{HasWords, words, IsOwned, owned, nodes_are, is_typing, holds, there, external_is, definition_declares, single_plain, declares_by_kind}
use Rattle.cr_meaning_objects.specs.Objects.Laws.{DeclaresObject, HasLinkage}
use Rattle.cr_meaning_objects.proofs.ObjectsLemmas.Next.{no_function}
use Rattle.cr_meaning_references.proofs.TreesLemmas.Shaped.{shaped}

-- ---- storage classes

-- one storage class that is neither `typedef` nor `extern` says nothing of names
no_word : (word : Word) (st : Option Storage) (p : Place) (function : Bool) → Agrees word st → is_some (storage_by p function st) ≡ false → is_typedef (class_of st) ≡ false → (class_of st ≡ Some class.Extern → ⊥) → word ≡ NoWord
no_word word None p function h k typed extern = h
no_word word (Some one) p function h k typed extern = by_class (may_stand p function one.class) k
  where
    class_is : one.typedefs ≡ is_typedef_word one.class → class_of (Some one) ≡ Some one.class
    class_is e = ap (λ b. if b then Some class.Typedef else Some one.class) e ∙ own one.class
      where
        own : (c : Class) → (if is_typedef_word c then Some class.Typedef else Some c) ≡ Some c
        own class.Typedef = refl
        own c = refl

    plain : (c : Class) → is_typedef (Some c) ≡ false → (Some c ≡ Some class.Extern → ⊥) → word_of c ≡ NoWord
    plain class.Typedef h g = absurd (false≢true (sym h))
    plain class.Extern h g = absurd (g refl)
    plain c h g = refl

    none : (o : Option ℕ) → is_some o ≡ false → o ≡ None
    none None e = refl
    none (Some x) e = absurd (false≢true (sym e))

    by_class : (b : Bool) → is_some (if b then one.second else Some one.token) ≡ false → word ≡ NoWord
    by_class true k =
        let said = h (none one.second k) in
        let same = class_is said.typedefs in
        said.is ∙ plain one.class (ap is_typedef (sym same) ∙ typed) (λ e. extern (same ∙ e))
    by_class false k = absurd (false≢true (sym k))

-- what has linkage has static duration, and what has none stands in a block
linked_inherited : (o : Option Linkage) → has_linkage (inherited o) ≡ true
linked_inherited None = refl
linked_inherited (Some Alone) = refl
linked_inherited (Some Internal) = refl
linked_inherited (Some External) = refl

-- where declarations stand
pub data Stands (p : Place) : Type 0 where
  in_file : p ≡ place.File → Stands p
  in_block : p ≡ place.Block → Stands p
  in_clause : p ≡ place.Clause → Stands p

abbrev IsLinkedBy : Place → Option Class → Option Linkage → Type 0
IsLinkedBy p c visible = (has_linkage (linkage_of p c false visible) ≡ true) × (is_kept p c ≡ true)

abbrev IsInner : Place → Option Class → Type 0
IsInner p c = ((p ≡ place.Block) ⊎ (p ≡ place.Clause)) × (c ≡ Some class.Extern → ⊥)

by_file : (c : Option Class) (visible : Option Linkage) → is_typedef c ≡ false → IsLinkedBy place.File c visible
by_file None visible h = (refl, refl)
by_file (Some class.Typedef) visible h = absurd (false≢true (sym h))
by_file (Some class.Extern) visible h = (linked_inherited visible, refl)
by_file (Some class.Static) visible h = (refl, refl)
by_file (Some class.Auto) visible h = (refl, refl)
by_file (Some class.Register) visible h = (refl, refl)

by_block : (p : Place) → (p ≡ place.Block) ⊎ (p ≡ place.Clause) → (c : Option Class) (visible : Option Linkage) → is_typedef c ≡ false → IsLinkedBy p c visible ⊎ IsInner p c
by_block place.Block s (Some class.Extern) visible h = inl (linked_inherited visible, refl)
by_block place.Clause s (Some class.Extern) visible h = inl (linked_inherited visible, refl)
by_block p s (Some class.Extern) visible h = absurd (elim s [ inl e ↦ cc | inr e ↦ cc ])
by_block p s None visible h = inr (s, λ e. cc)
by_block p s (Some class.Typedef) visible h = absurd (false≢true (sym h))
by_block p s (Some class.Static) visible h = inr (s, λ e. cc)
by_block p s (Some class.Auto) visible h = inr (s, λ e. cc)
by_block p s (Some class.Register) visible h = inr (s, λ e. cc)

by_place : (p : Place) → Stands p → (c : Option Class) (visible : Option Linkage) → is_typedef c ≡ false → IsLinkedBy p c visible ⊎ IsInner p c
by_place p (in_file e) c visible h = inl (subst (λ x. IsLinkedBy x c visible) (sym e) (by_file c visible h))
by_place p (in_block e) c visible h = by_block p (inl e) c visible h
by_place p (in_clause e) c visible h = by_block p (inr e) c visible h

-- ---- kinds

begins_declaration : (ts : List Lexeme) (k : Kind) (a b : ℕ) (v u : Trees) (i j : ℕ) → IsLaid ts (side_of kind.Declaration) (tree_node k a b v u) i j → stands_for part.Specifiers k ≡ true
unfolding rule_of
begins_declaration ts k a b v u i j l = l.0.0

-- what declares an object says no `typedef`, and is no function
pub value_made : (c : Bool) (nodes : List Node) (of : Option Class) (f : Option ℕ) (row x : ℕ) (register : Bool) → (if c then TypeName else value_by nodes of f row) ≡ Object x register → (c ≡ false) × (f ≡ None)
value_made true nodes of f row x register e = absurd cc
value_made false nodes of None row x register e = (refl, refl)
value_made false nodes of (Some f) row x register e = absurd cc

object_role : (next : Derivation) → ((f : ℕ) → next ≡ Derived f → ⊥) → role_by NoWord next ≡ role.Object
object_role Nothing f = refl
object_role (Derived x) f = absurd (f x refl)
object_role Other f = refl

module _ (file : List ℕ) (t : Typed) (it : IsUnitOfFile file t) where
  open it use {made_by, typing, shapes, tree}
  open has_unit file t it use {unit, order, nodes_are as same_nodes}

  abbrev said : ℕ → Specified
  said p = (entry_at typing p).own.specified

  -- ---- what a declarator declares, by its words

  module _ (i : ℕ) (m : Node) (at : slice_get t.nodes i ≡ Some m) (external : is_external m.kind ≡ true) (p : ℕ) (n : Node) (here : slice_get t.nodes p ≡ Some n) (names : declares_name n.kind ≡ true)
      (of : declaration_of tree.nodes.now tree.above.now p ≡ Some i) where
    abbrev pub words_at : HasWords file t it i m
    words_at = words file t it i m at external

    pub specifiers_at : specifiers_in tree.nodes.now (Some i) ≡ Some words_at.specifiers
    specifiers_at = ap (λ x. slice_get (parts_if x) 0) (there file t it i m at) ∙ words_at.first

    pub declared_is : slice_index_or typing.declared p Unclear
        ≡ (if is_typedef (class_of (said words_at.specifiers).storage) then TypeName
        else value_by tree.nodes.now (class_of (said words_at.specifiers).storage) (entry_at typing p).own.declarator.function (entry_at typing p).own.named)
    declared_is =
        let early = (before_in shapes (cut p typing)).specified in
        let row = (entry_at typing p).own.named in
        let own = (entry_at typing p).own.declarator in
        let low : words_at.specifiers < p = (shaped file t it).ordered p i words_at.specifiers n (there file t it p n here) names of specifiers_at in
        (ruled tree it.checked.checked.texts shapes typing (is_typing file t it) (holds file t it) p n (there file t it p n here)).declared
        ∙ declares_by_kind n.kind tree.nodes.now early own row (entry_at typing p).own.enumerated (declaration_of tree.nodes.now tree.above.now p) names
        ∙ ap (ordinary_of tree.nodes.now early own row) of
        ∙ ap (λ b. if b then ordinary_by tree.nodes.now early own row (specifiers_in tree.nodes.now (Some i)) else Unclear)
        (ap (λ x. names_ordinary (kind_if x)) (there file t it i m at) ∙ (external_is m.kind external).1.1)
        ∙ ap (ordinary_by tree.nodes.now early own row) specifiers_at
        ∙ ap (λ (x : Specified). if is_typedef (class_of x.storage) then TypeName else value_by tree.nodes.now (class_of x.storage) own.function row)
        (specified_early tree it.checked.checked.texts shapes typing (is_typing file t it) (holds file t it) p n (there file t it p n here) words_at.specifiers low)

  -- ---- places

  abbrev around : ℕ → Around
  around p = slice_index_or tree.around.now p outermost

  -- what stands under no node stands at file scope
  file_place : (p : ℕ) → p < length t.nodes → above_of t.nodes (length t.nodes) p ≡ None → place_of tree p ≡ place.File
  file_place p low none =
      let few : p < length it.unit.nodes = subst (λ ns. p < length ns) (sym same_nodes) low in
      let up : slice_index_or it.checked.checked.surroundings.above p None ≡ None = made_by.is.surroundings.above.each p few ∙ ap (λ ns. above_of ns (length ns) p) same_nodes ∙ none in
      ap (λ column. (slice_index_or column p outermost).place) made_by.is.whole.tree.around ∙ ap (λ (x : Around). x.place) (made_by.is.surroundings.around.each p few)
      ∙ ap (λ o. (below it.unit.nodes (λ x. slice_index_or it.checked.checked.surroundings.around x outermost) p o).place) up

  -- a declaration stands at file scope, in a block or in a clause
  holder : (i a : ℕ) (m : Node) (h : IsPartOf t unit i a) → slice_get t.nodes i ≡ Some m → is_external m.kind ≡ true → is_holder h.parent.kind ≡ true
  holder i a m h at external = by (is_holder h.parent.kind) refl
    where
      by : (b : Bool) → is_holder h.parent.kind ≡ b → b ≡ true
      by true q = refl
      by false q =
          let row = clear_laid is_external (without kind.Declaration kind.FunctionDefinition) no_external unit.tokens (side_of h.parent.kind) (row_in t.nodes h.parent.parts) h.parent.first (h.parent.last + 1)
          (sides_clear h.parent.kind q) (laid_at t unit a h.parent h.at) in
          let one = clear_at is_external (without kind.Declaration kind.FunctionDefinition) no_external t.nodes unit.below h.parent.parts (parts_below t unit a h.parent h.at) row h.place i h.is in
          let same : one.0 ≡ m = same_Some one.0 m (sym one.1.0 ∙ at) in
          sym one.1.1 ∙ ap (λ (x : Node). is_external x.kind) same ∙ external

  where_it_stands : (i : ℕ) (m : Node) → slice_get t.nodes i ≡ Some m → m.kind ≡ kind.Declaration → Stands (place_of tree i)
  where_it_stands i m at is = by (above_of t.nodes (length t.nodes) i) refl
    where
      by : (o : Option ℕ) → above_of t.nodes (length t.nodes) i ≡ o → Stands (place_of tree i)
      by None q = in_file (file_place i (slice_get_within t.nodes i m at) q)
      by (Some a) q =
          let h = above_some t unit (length t.nodes) i a q in
          let has = (shaped file t it).parts a h.parent (there file t it a h.parent h.at) h.place i h.is in
          let e = ap (λ (x : Around). x.place) has.around in
          elim (place_holder h.parent.kind a (around a) (holder i a m h at (ap is_external is))) [ inl x ↦ in_block (e ∙ x) | inr x ↦ in_clause (e ∙ x) ]

  -- its declarators stand there too
  module _ (token i q : ℕ) (m : Node) (d : IsDeclarer t.nodes token i q m) (is : m.kind ≡ kind.Declaration) where
    part_is : IsPart tree i m (suc d.place) d.part
    part_is = (shaped file t it).parts i m (there file t it i m d.at) (suc d.place) d.part d.is

    part_place : place_of tree d.part ≡ place_of tree i
    part_place = ap (λ (x : Around). x.place) part_is.around ∙ place_declaration m.kind i (around i) is

    pub place_is : place_of tree q ≡ place_of tree i
    place_is = elim d.declares [
      | inl same ↦ ap (place_of tree) (sym same) ∙ part_place
      | inr init ↦
          (let at : slice_get t.nodes d.part ≡ Some part_is.own = ap (λ ns. slice_get ns d.part) (nodes_are file t it) ∙ part_is.at in
          let kind_is : Some part_is.own.kind ≡ Some kind.InitDeclarator = ap scripts.kind_if (sym at) ∙ init.0 in
          let init_is : part_is.own.kind ≡ kind.InitDeclarator = cc in
          let first : slice_get part_is.own.parts 0 ≡ Some q = ap (λ o. slice_get (scripts.parts_if o) 0) (sym at) ∙ init.1 in
          let inner = (shaped file t it).parts d.part part_is.own part_is.at 0 q first in
          ap (λ (x : Around). x.place) inner.around ∙ place_init part_is.own.kind d.part (around d.part) init_is ∙ part_place)
    ]

  -- ---- specifiers

  word_said : (early : ℕ → Specified) (p : ℕ) (m : Node) → slice_get t.nodes p ≡ Some m → are_specifiers m.kind ≡ false → early p ≡ said p → (w : Word) (st : Option Storage) → Agrees w st
      → Agrees (with_word w (scripts.kind_at t.nodes p)) (both_storages st (early p).storage)
  word_said early p m at single same w st h =
      let own : said p ≡ specified_by m.kind m.first (declares_by m.kind (slice_index_or tree.tags.now p None)) =
      (ruled tree it.checked.checked.texts shapes typing (is_typing file t it) (holds file t it) p m (there file t it p m at)).specified
      ∙ ap (λ b. if b then joined_in (before_in shapes (cut p typing)).specified m.parts else specified_by m.kind m.first (declares_by m.kind (slice_index_or tree.tags.now p None))) single in
      let made = word_agrees w st m.kind m.first (declares_by m.kind (slice_index_or tree.tags.now p None)) h in
      let moved = subst (λ (x : Specified). Agrees (with_word w (Some m.kind)) (both_storages st x.storage)) (sym (same ∙ own)) made in
      subst (λ o. Agrees (with_word w o) (both_storages st (early p).storage)) (sym (ap scripts.kind_if at)) moved

  -- the words of specifiers say what is said of names
  agree : (s : ℕ) (m : Node) (rest : List ℕ) → slice_get t.nodes s ≡ Some m → stands_for part.Specifiers m.kind ≡ true → Agrees (storage_of t.nodes (s ∷ rest)) (said s).storage
  agree s m rest at begins = subst (λ o. Agrees (fold (λ storage word. with_word storage (scripts.kind_at t.nodes word)) NoWord (words_of t.nodes s o)) (said s).storage) (sym (ap scripts.kind_if at)) (kinds m.kind refl)
    where
      HasSaid : Option Kind → Type 0
      HasSaid o = Agrees (fold (λ storage word. with_word storage (scripts.kind_at t.nodes word)) NoWord (words_of t.nodes s o)) (said s).storage

      early : ℕ → Specified
      early = (before_in shapes (cut s typing)).specified

      several : m.kind ≡ kind.Specifiers → HasSaid (Some kind.Specifiers)
      several is =
          let own : said s ≡ joined_in early m.parts =
          (ruled tree it.checked.checked.texts shapes typing (is_typing file t it) (holds file t it) s m (there file t it s m at)).specified
          ∙ ap (λ b. if b then joined_in early m.parts else specified_by m.kind m.first (declares_by m.kind (slice_index_or tree.tags.now s None))) (ap are_specifiers is) in
          let all = words_agree (scripts.kind_at t.nodes) early m.parts NoWord nothing
          (λ k p e w st h.
          let x = (shaped file t it).parts s m (there file t it s m at) k p e in
          let alone : is_single x.own.kind ≡ true = ap (λ y. fits y k x.own.kind) (sym is) ∙ x.fits in
          word_said early p x.own (ap (λ ns. slice_get ns p) (nodes_are file t it) ∙ x.at) (single_plain x.own.kind alone)
          (specified_early tree it.checked.checked.texts shapes typing (is_typing file t it) (holds file t it) s m (there file t it s m at) p x.below) w st h) refl in
          subst (λ ws. Agrees (fold (λ storage word. with_word storage (scripts.kind_at t.nodes word)) NoWord ws) (said s).storage) (sym (ap scripts.parts_if at))
          (subst (λ (x : Specified). Agrees (fold (λ storage word. with_word storage (scripts.kind_at t.nodes word)) NoWord m.parts) x.storage) (sym own) all)

      alone : are_specifiers m.kind ≡ false → Agrees (with_word NoWord (scripts.kind_at t.nodes s)) (said s).storage
      alone single = word_said said s m at single refl NoWord None refl

      kinds : (k : Kind) → m.kind ≡ k → HasSaid (Some k)
      kinds kind.Specifiers e = several e
      kinds kind.PlainSpecifiers e = absurd (no_plain m.kind begins e)
      kinds k e = alone (ap are_specifiers e)

  -- ---- an object of a declaration

  module _ (token i q : ℕ) (m : Node) (d : IsDeclarer t.nodes token i q m) (object : DeclaresObject typing q) where
    o : IsOwned file t it token i q m
    o = owned file t it token i q m d

    abbrev pub w : HasWords file t it i m
    w = words file t it i m d.at d.external

    abbrev pub own_class : Option Class
    own_class = class_of (said w.specifiers).storage

    made_of_value : (is_typedef own_class ≡ false) × ((entry_at typing q).own.declarator.function ≡ None)
    made_of_value =
        value_made (is_typedef own_class) tree.nodes.now own_class (entry_at typing q).own.declarator.function (entry_at typing q).own.named object.0 object.1.0
        (sym (declared_is i m d.at d.external q o.node o.at o.names o.declaration) ∙ object.1.1)

    pub untyped : is_typedef own_class ≡ false
    untyped = made_of_value.0

    pub made : (entry_at typing q).own.declarator.function ≡ None
    made = made_of_value.1

    pub declaration_is : m.kind ≡ kind.Declaration
    declaration_is = elim (only_external m.kind d.external) [
      | inl e ↦ e
      | inr e ↦
          (let f = definition_declares file t it token i q m d e in
          let never : Function f.0 f.1.0 ≡ Object object.0 object.1.0 = sym f.1.1 ∙ object.1.1 in
          absurd cc)
    ]

    pub stands_there : Stands (place_of tree q)
    stands_there = subst Stands (sym (place_is token i q m d declaration_is)) (where_it_stands i m d.at declaration_is)

    specifiers_are : specifiers_in tree.nodes.now (Some i) ≡ Some w.specifiers
    specifiers_are = ap (λ x. slice_get (parts_if x) 0) (there file t it i m d.at) ∙ w.first

    below_it : w.specifiers < q
    below_it = (shaped file t it).ordered q i w.specifiers o.node (there file t it q o.node o.at) o.names o.declaration specifiers_are

    early_is : specified_in (before_in shapes (cut q typing)).specified (specifiers_in tree.nodes.now (Some i)) ≡ said w.specifiers
    early_is =
        ap (specified_in (before_in shapes (cut q typing)).specified) specifiers_are
        ∙ specified_early tree it.checked.checked.texts shapes typing (is_typing file t it) (holds file t it) q o.node (there file t it q o.node o.at) w.specifiers below_it

    abbrev visible : Option Linkage
    visible = linkage_in (linked_in (past_in shapes (cut q typing)).linked (slice_index_or tree.earlier.now q None))

    linkage_is : (does_at tree shapes typing q).linkage ≡ linkage_of (place_of tree q) own_class false visible
    linkage_is =
        ap (linkage_by tree (before_in shapes (cut q typing)).specified (entry_at typing q).own.declarator (linked_in (past_in shapes (cut q typing)).linked (slice_index_or tree.earlier.now q None)) q) o.declaration
        ∙ ap (λ (x : Specified). linkage_of (place_of tree q) (class_of x.storage) (is_some (entry_at typing q).own.declarator.function) visible) early_is
        ∙ ap (λ f. linkage_of (place_of tree q) own_class (is_some f) visible) made

    static_is : is_static tree said (Some q) ≡ is_kept (place_of tree q) own_class
    static_is =
        ap (λ x. is_kept (place_of tree q) (class_of (specified_in said (specifiers_in tree.nodes.now x)).storage)) o.declaration
        ∙ ap (λ x. is_kept (place_of tree q) (class_of (specified_in said x).storage)) specifiers_are

    -- ---- one in a block, without `extern`

    module _ (inner : IsInner (place_of tree q) own_class) where
      here : slice_get tree.nodes.now i ≡ Some m
      here = there file t it i m d.at

      first_is : IsPart tree i m 0 w.specifiers
      first_is = (shaped file t it).parts i m here 0 w.specifiers w.first

      agrees : Agrees (storage_of t.nodes m.parts) (said w.specifiers).storage
      agrees = by m.parts refl
        where
          first_at : slice_get t.nodes w.specifiers ≡ Some first_is.own
          first_at = ap (λ ns. slice_get ns w.specifiers) (nodes_are file t it) ∙ first_is.at

          by : (ps : List ℕ) → m.parts ≡ ps → Agrees (storage_of t.nodes m.parts) (said w.specifiers).storage
          by [] e = let never : None ≡ Some w.specifiers = sym (ap (λ l. slice_get l 0) e) ∙ w.first in absurd cc
          by (s ∷ rest) e =
              let same : s ≡ w.specifiers = same_Some s w.specifiers (sym (ap (λ l. slice_get l 0) e) ∙ w.first) in
              let parts : m.parts ≡ w.specifiers ∷ rest = e ∙ ap (λ x. x ∷ rest) same in
              let row = ap (row_in t.nodes) parts ∙ row_at t.nodes unit.below w.specifiers first_is.own rest first_at in
              let laid = subst (λ u. IsLaid unit.tokens (side_of m.kind) u m.first (m.last + 1)) row (laid_at t unit i m d.at) in
              let begins = begins_declaration unit.tokens first_is.own.kind first_is.own.first (first_is.own.last + 1) (row_in t.nodes first_is.own.parts) (row_in t.nodes rest) m.first (m.last + 1)
              (subst (λ k. IsLaid unit.tokens (side_of k) (tree_node first_is.own.kind first_is.own.first (first_is.own.last + 1) (row_in t.nodes first_is.own.parts) (row_in t.nodes rest)) m.first (m.last + 1)) declaration_is laid) in
              subst (λ l. Agrees (storage_of t.nodes l) (said w.specifiers).storage) (sym parts) (agree w.specifiers first_is.own rest first_at begins)

      abbrev early : Before
      early = before_in shapes (cut i typing)

      abbrev early_said : Specified
      early_said = specified_in early.specified (slice_get m.parts 0)

      abbrev functions : Bool
      functions = declares_function early.declarator early_said (drop 1 m.parts)

      -- K2: one storage class at the most, which may stand there
      none : is_some (storage_by (place_of tree i) functions (said w.specifiers).storage) ≡ false
      none =
          ap (λ (x : Specified). is_some (storage_by (place_of tree i) functions x.storage))
          (sym (ap (specified_in early.specified) w.first ∙ specified_early tree it.checked.checked.texts shapes typing (is_typing file t it) (holds file t it) i m here w.specifiers first_is.below))
          ∙ unplaced 2 (storage_fault_of early_said (place_of tree i) functions)
          (fault 3 m.first (is_nothing (drop 1 m.parts) && not early_said.declares) ∷ fault_at 4 (inline_fault_of early_said (place_of tree i) (declares_functions early.declarator early_said (drop 1 m.parts))) ∷ [])
          (subst (λ k. HoldsAll (faults_in k (has_at shapes (entry_at typing i).own) early tree i m)) declaration_is
          (holds_all tree it.checked.checked.texts shapes typing (is_typing file t it) (holds file t it) i m here))

      word_is : storage_of t.nodes m.parts ≡ NoWord
      word_is = no_word (storage_of t.nodes m.parts) (said w.specifiers).storage (place_of tree i) functions agrees none untyped inner.1

      role_is : role_by (storage_of t.nodes m.parts) (declarator_of t.nodes q).next ≡ role.Object
      role_is =
          ap (λ s. role_by s (declarator_of t.nodes q).next) word_is
          ∙ object_role (declarator_of t.nodes q).next
          (λ f e. no_function tree it.checked.checked.texts shapes typing (is_typing file t it) (holds file t it) (shaped file t it) q token f
          (ap (λ ns. (declarator_of ns q).name) (sym (nodes_are file t it)) ∙ d.name) made (ap (λ ns. (declarator_of ns q).next) (sym (nodes_are file t it)) ∙ e))

      abbrev IsItem : ℕ → Type 0
      IsItem p = (k : ℕ) × (slice_get t.items k ≡ Some p)

      no_top : IsItem i → ⊥
      no_top item = by (above_of t.nodes (length t.nodes) i) refl
        where
          by : (x : Option ℕ) → above_of t.nodes (length t.nodes) i ≡ x → ⊥
          by (Some a) e = no_item t unit i a item.0 (above_some t unit (length t.nodes) i a e) item.1
          by None e =
              let file_is : place_of tree q ≡ place.File = place_is token i q m d declaration_is ∙ file_place i (slice_get_within t.nodes i m d.at) e in
              elim inner.0 [
                | inl block ↦ (let never : place.File ≡ place.Block = sym file_is ∙ block in cc)
                | inr clause ↦ (let never : place.File ≡ place.Clause = sym file_is ∙ clause in cc)
              ]

      x : HasOwn t unit order token
      x = own_there t unit order token q d.name

      -- another declaration of the token is the same one
      same_place : (j r : ℕ) (n : Node) → IsDeclarer t.nodes token j r n → j ≡ i
      same_place j r n e = same_Some j i (sym (owned file t it token j r n e).declaration ∙ ap (declaration_of tree.nodes.now tree.above.now) same ∙ o.declaration)
        where
          mine : (declarator_of t.nodes q).name ≡ Some x.node.first
          mine = d.name ∙ ap Some (sym x.first)

          its : (declarator_of t.nodes r).name ≡ Some x.node.first
          its = e.name ∙ ap Some (sym x.first)

          same : r ≡ q
          same = elim (cases_lt q r) [
            | inl less ↦ sym (whole_is t unit order x.own x.node x.at x.is q r mine its (omega (arith, less)) (in_no_other t unit order token i q m d))
            | inr le ↦ whole_is t unit order x.own x.node x.at x.is r q its mine le (in_no_other t unit order token j r n e)
          ]

      heart : AreNamedWell x.node.first t unit order x.own x.node x.at x.is refl IsItem
      heart depth j n at external placed k p r next is decl named =
          let e : IsDeclarer t.nodes token j r n = record { at = at; external = external; place = k; first = next; part = p; is = is; declares = decl; name = named ∙ ap Some x.first } in
          let deep : (depth == 0) ≡ false = ne_eqb depth 0 (λ top. no_top (subst IsItem (same_place j r n e) (placed top n at external))) in
          ap (stands_alone (depth == 0)) (one_role t unit order token j r i q n m e d ∙ role_is) ∙ ap not deep

      is_alone : IsAlone token (past_of (unit_events it.unit) (length (unit_events it.unit)))
      is_alone =
          let good = unit_good x.node.first t unit order x.own x.node x.at x.is refl IsItem heart it.unit.tokens.list.items (λ k p e. (k, e)) in
          let moved : unit_events it.unit ≡ events_of it.unit.tokens.list.items t.nodes t.items =
          ap (λ ns. events_of it.unit.tokens.list.items ns it.unit.items) same_nodes ∙ ap (events_of it.unit.tokens.list.items t.nodes) (sym made_by.elaborated.items_are) in
          subst (λ y. IsAlone y (past_of (unit_events it.unit) (length (unit_events it.unit)))) x.first
          (subst (λ es. IsAlone x.node.first (past_of es (length es))) (sym moved) (all_alone x.node.first (events_of it.unit.tokens.list.items t.nodes t.items) good))

    pub linked_or_alone : HasLinkage file t it q ⊎ IsAlone token (past_of (unit_events it.unit) (length (unit_events it.unit)))
    linked_or_alone = elim (by_place (place_of tree q) stands_there own_class visible untyped) [
      | inl e ↦ inl (record { linked = ap has_linkage linkage_is ∙ e.0; lasts = static_is ∙ e.1 })
      | inr inner ↦ inr (is_alone inner)
    ]
