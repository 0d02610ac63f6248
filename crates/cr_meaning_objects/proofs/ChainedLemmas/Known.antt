-- What a declaration declares as an object or a function has a known type (C11 6.7p3, K1).
use Rattle.std.proofs.Common.{◌≡◌, ℕ, suc, ◌+◌, ◌<◌, ◌&&◌, inl, inr, ◌⊎◌, Bool, true, false, List, [], ◌∷◌, Option, None, Some, map, slice_get, slice_index_or, refl, sym, ap, subst, ◌∙◌, if◌then◌else◌, not, ◌-◌}
use Rattle.std.specs.Prelude.{fold}
use Rattle.std.specs.List.{list_all, list_any}
use Rattle.std.proofs.lemmas.Bool.{false≢true, not-false}
use Rattle.cr_syntax.specs.declared.node.Kind.{Kind}
use Rattle.cr_syntax.specs.declared.node.Kind.TheVariants as kind
use Rattle.cr_syntax.specs.declared.node.Node.{Node}
use Rattle.cr_syntax.specs.declared.part.Part.TheVariants as part
use Rattle.cr_syntax.specs.Tables.{side_of}
use Rattle.cr_syntax.specs.Kept.{row_in}
use Rattle.cr_syntax.proofs.Arena.{row_at}
use Rattle.cr_syntax_nodes.specs.Laid.{stands_for, IsLaid}
use Rattle.cr_scopes_events.specs.declared.naming.Storage.{Storage as Word}
use Rattle.cr_scopes_events.specs.declared.naming.Storage.TheVariants.{NoWord}
use Rattle.cr_scopes_events.specs.Values.{before}
use Rattle.cr_scopes_events.specs.declared.declarator.Declarator.{Declarator as Named}
use Rattle.cr_scopes_events.specs.Declarators.{nowhere, declared_if, declarator_of}
use Rattle.cr_scopes_events.proofs.Descents.{declarator_ruled}
use Rattle.cr_scopes_events.specs.Scripts as scripts
use Rattle.cr_scopes_events.specs.Scripts.{with_word, words_of, storage_of}
use Rattle.cr_scopes_linkage.specs.Shared.Origins.{is_external, IsDeclarer}
use Rattle.cr_syntax.specs.declared.ctype.CType.{CType}
use Rattle.cr_syntax.specs.declared.ctype.CType.TheVariants.{Unknown}
use Rattle.cr_check_types.specs.Types.{Qualified, plain, pointer, array, type_at}
use Rattle.cr_check_expressions.specs.declared.least.Break.{Break}
use Rattle.cr_check_expressions.specs.declared.known.Declared.TheVariants.{TypeName, Unclear, Function}
use Rattle.cr_check_expressions.specs.Ruled.{is_type as is_a_type}
use Rattle.cr_check_declarators.specs.declared.words.Storage.{Storage}
use Rattle.cr_check_declarators.specs.declared.words.Specified.{Specified}
use Rattle.cr_check_declarators.specs.declared.words.Class.{Class}
use Rattle.cr_check_declarators.specs.declared.declarator.Declarator.{Declarator}
use Rattle.cr_check_declarators.specs.declared.enumerators.Enumerated.{Enumerated}
use Rattle.cr_check_declarators.specs.Specifiers.{nothing, specified_by, both_storages, storage_by, inline_fault_of}
use Rattle.cr_check_declarations.specs.Before.{kind_if, parts_if, Before, declarator_in, specified_in, first_in}
use Rattle.cr_check_declarations.specs.Specifiers.{declares_by, are_specifiers, joined_in}
use Rattle.cr_check_declarations.specs.Named.{is_declarator, is_declaration, is_initialised, declaration_of, specifiers_in, class_of, value_by, ordinary_by, ordinary_of, names_ordinary, declares_name, declared_by, is_variadic, parameter_nodes}
use Rattle.cr_check_linkage.specs.NameTypes.{is_known, type_as}
use Rattle.cr_check_unit.specs.Typing.{cut, entry_at, before_in, IsRuled, IsTyping}
use Rattle.cr_check_unit.specs.Breaks.{IsBroken}
use Rattle.cr_check_signatures.specs.Functions.Linked.{now_at}
use Rattle.cr_check_signatures.proofs.ParametersLemmas.Listed.{names_declare}
use Rattle.std.specs.Option.{is_some}
use Rattle.cr_check_declarations.specs.Faults.{has_at, definition_faults, faults_in, name_or, name_in, list_in, is_nameless, parameter_faults, fault_at}
use Rattle.cr_meaning_typing.specs.Typed.Laws.{HoldsAll}
use Rattle.cr_meaning_typing.proofs.TypedLemmas.Worth.{unbroken}
use Rattle.cr_check_enclosing.specs.declared.context.Place.TheVariants as place
use Rattle.cr_check_expressions.specs.Breaks.{fault}
use Rattle.cr_typed.specs.declared.typed.Typed.{Typed}
use Rattle.cr_meaning_typing.specs.Typed.Typing.{has_value}
use Rattle.cr_meaning_declarations.proofs.UnitsLemmas.Handing.{laid_at}
use Rattle.cr_meaning_types.specs.Known.Shaped.{is_single, fits, IsPart}
use Rattle.cr_meaning_types.specs.Known.Known.{AllTyped, AreKnown}
use Rattle.cr_meaning_types.proofs.KnownLemmas.Naming.{declaration_here, ruled, specified_early, holds_all, declarator_early}
use Rattle.cr_meaning_types.proofs.KnownLemmas.Declaring.{has_specifiers, there_is, unplaced}
use Rattle.cr_meaning_types.proofs.KnownLemmas.Known.{known}
use Rattle.cr_meaning_types.proofs.KnownLemmas.Sizes.{declarator_names}
use Rattle.cr_meaning_declarations.specs.Declared.Files.{IsUnitOfFile}
use Rattle.cr_meaning_declarations.specs.Linked.Laws.{DeclaresValue}
use Rattle.cr_meaning_declarations.proofs.DeclaredLemmas.Files.{has_unit}
use Rattle.cr_meaning_declarations.proofs.DeclaredLemmas.Once.{no_plain, begins_with}
use Rattle.cr_meaning_objects.specs.Chained.Laws
use Rattle.cr_meaning_objects.specs.Chained.Laws.{DeclaresFunction}
use Rattle.cr_meaning_objects.proofs.ChainedLemmas.Words.{is_type, says, no_type, step, steps, Held, held_word, held_words, refused}
use Rattle.cr_meaning_references.proofs.TreesLemmas.Shaped.{shaped}
use Rattle.cr_meaning_references.proofs.TreesLemmas.Sighted.{sighted}

-- ---- kinds

pub single_plain : (k : Kind) → is_single k ≡ true → are_specifiers k ≡ false
single_plain kind.Specifiers h = absurd (false≢true h)
single_plain kind.PlainSpecifiers h = absurd (false≢true h)
single_plain k h = refl

pub external_is : (k : Kind) → is_external k ≡ true → (is_initialised (Some k) ≡ false) × ((is_declaration (Some k) ≡ true) × (names_ordinary (Some k) ≡ true))
external_is kind.Declaration h = (refl, (refl, refl))
external_is kind.FunctionDefinition h = (refl, (refl, refl))
external_is k h = absurd (false≢true h)

pub is_named_declarator : (nodes : List Node) (i token : ℕ) (n : Node) → slice_get nodes i ≡ Some n → (declarator_of nodes i).name ≡ Some token → is_declarator n.kind ≡ true
is_named_declarator nodes i token n at e =
    names_declare n.kind (before nowhere i (declarator_of nodes)) i n token
    (ap (λ o. (declared_if o (before nowhere i (declarator_of nodes)) i).name) (sym at) ∙ ap (λ (d : Named). d.name) (sym (declarator_ruled nodes i)) ∙ e)

-- ---- known types

worth_type : (q : Qualified) → has_value q ≡ true → is_a_type q ≡ true
worth_type (plain of c v) h = by of h
  where
    by : (of : CType) → has_value (plain of c v) ≡ true → is_a_type (plain of c v) ≡ true
    by Unknown h = absurd (false≢true h)
    by of h = refl
worth_type (pointer c v t) h = refl
worth_type (array n t) h = refl

all_types : (qs : List Qualified) → AllTyped qs → list_all is_a_type qs ≡ true
all_types [] h = refl
all_types (q ∷ qs) h = let one = h 0 q refl in let rest = all_types qs (λ k x e. h (suc k) x e) in (λ j. one j && rest j)

value_known : (nodes : List Node) (c : Option Class) (function : Option ℕ) (row : ℕ) (type : Qualified) (qs : List Qualified) → has_value type ≡ true → AllTyped qs → is_known (type_as (value_by nodes c function row) type qs) ≡ true
value_known nodes c None row type qs h all = worth_type type h
value_known nodes c (Some f) row type qs h all = let one = worth_type type h in let rest = all_types qs all in (λ j. one j && rest j)

-- ---- what is asked of definitions

-- K10: a body stands behind a declarator that makes a function
pub function_there : (b : Before) (nodes : List Node) (i : ℕ) (said : Specified) (declarator function : Option ℕ) → HoldsAll (definition_faults b nodes i said declarator function) → is_some function ≡ true
function_there b nodes i said declarator function h =
    not-false (is_some function)
    (unbroken 10 (name_or (name_in nodes declarator) (first_in nodes declarator)) (not (is_some function))
    (fault 10 (first_in nodes (list_in nodes function) - 1) (list_any (is_nameless nodes) (parameter_nodes nodes (list_in nodes function))) ∷ parameter_faults b nodes i (parameter_nodes nodes (list_in nodes function)))
    (λ x among. h x (inr (inr among))))

-- K2: its storage classes may stand there
storage_there : (b : Before) (nodes : List Node) (i : ℕ) (said : Specified) (declarator function : Option ℕ) → HoldsAll (definition_faults b nodes i said declarator function)
    → is_some (storage_by place.Definition (is_some function) said.storage) ≡ false
storage_there b nodes i said declarator function h =
    unplaced 2 (storage_by place.Definition (is_some function) said.storage)
    (fault_at 4 (inline_fault_of said place.Definition (is_some function)) ∷ fault 10 (name_or (name_in nodes declarator) (first_in nodes declarator)) (not (is_some function))
    ∷ fault 10 (first_in nodes (list_in nodes function) - 1) (list_any (is_nameless nodes) (parameter_nodes nodes (list_in nodes function))) ∷ parameter_faults b nodes i (parameter_nodes nodes (list_in nodes function))) h

-- ---- what a declarator declares

pub declares_by_kind : (k : Kind) (nodes : List Node) (said : ℕ → Specified) (own : Declarator) (row : ℕ) (e : Option Enumerated) (d : Option ℕ) → declares_name k ≡ true → declared_by k nodes said own row e d ≡ ordinary_of nodes said own row d
declares_by_kind kind.Enumerator nodes said own row e d h = absurd (false≢true h)
declares_by_kind k nodes said own row e d h = ap (λ b. if b then ordinary_of nodes said own row d else Unclear) h

module _ (file : List ℕ) (t : Typed) (it : IsUnitOfFile file t) where
  open it use {made_by, typing, shapes, tree}
  open has_unit file t it use {unit}

  pub nodes_are : t.nodes ≡ tree.nodes.now
  nodes_are = made_by.elaborated.nodes_are ∙ sym made_by.is.whole.tree.nodes

  pub is_typing : IsTyping tree it.checked.checked.texts shapes typing
  is_typing = made_by.is.whole.typing

  pub holds : (b : Break) → IsBroken tree it.checked.checked.texts shapes typing b → ⊥
  holds b broken = made_by.sound.constraints b (inl broken)

  pub there : (p : ℕ) (n : Node) → slice_get t.nodes p ≡ Some n → slice_get tree.nodes.now p ≡ Some n
  there p n at = ap (λ ns. slice_get ns p) (sym nodes_are) ∙ at

  abbrev said : ℕ → Specified
  said p = (entry_at typing p).own.specified

  -- ---- specifiers

  specifiers_say : (s : ℕ) (m : Node) (rest : List ℕ) → slice_get t.nodes s ≡ Some m → stands_for part.Specifiers m.kind ≡ true → is_type (storage_of t.nodes (s ∷ rest)) ≡ says (said s).storage
  specifiers_say s m rest at stands =
      ap (λ o. is_type (fold (λ storage word. with_word storage (scripts.kind_at t.nodes word)) NoWord (words_of t.nodes s o))) (ap scripts.kind_if at) ∙ by (are_specifiers m.kind) refl
    where
      r : IsRuled tree it.checked.checked.texts shapes (cut s typing) (entry_at typing s) s m
      r = ruled tree it.checked.checked.texts shapes typing is_typing holds s m (there s m at)

      single : are_specifiers m.kind ≡ false → words_of t.nodes s (Some m.kind) ≡ s ∷ []
      single q = one m.kind q
        where
          one : (k : Kind) → are_specifiers k ≡ false → words_of t.nodes s (Some k) ≡ s ∷ []
          one kind.Specifiers q = absurd (false≢true (sym q))
          one k q = refl

      one_word : (p : ℕ) (n : Node) → slice_get t.nodes p ≡ Some n → are_specifiers n.kind ≡ false → said p ≡ specified_by n.kind n.first (declares_by n.kind (slice_index_or tree.tags.now p None))
      one_word p n here q =
          (ruled tree it.checked.checked.texts shapes typing is_typing holds p n (there p n here)).specified
          ∙ ap (λ b. if b then joined_in (before_in shapes (cut p typing)).specified n.parts else specified_by n.kind n.first (declares_by n.kind (slice_index_or tree.tags.now p None))) q

      one_step : (at_said : ℕ → Specified) (p : ℕ) (n : Node) → slice_get t.nodes p ≡ Some n → are_specifiers n.kind ≡ false → at_said p ≡ said p → (v : Word) (st : Option Storage) → is_type v ≡ says st
          → is_type (with_word v (scripts.kind_at t.nodes p)) ≡ says (both_storages st (at_said p).storage)
      one_step at_said p n here q same v st h =
          ap (λ o. is_type (with_word v o)) (ap scripts.kind_if here) ∙ step v st n.kind n.first (declares_by n.kind (slice_index_or tree.tags.now p None)) h
          ∙ ap (λ (x : Specified). says (both_storages st x.storage)) (sym (same ∙ one_word p n here q))

      several : m.kind ≡ kind.Specifiers → is_type (fold (λ storage word. with_word storage (scripts.kind_at t.nodes word)) NoWord (words_of t.nodes s (Some m.kind))) ≡ says (said s).storage
      several is =
          let early = (before_in shapes (cut s typing)).specified in
          let own : said s ≡ joined_in early m.parts =
          r.specified ∙ ap (λ b. if b then joined_in early m.parts else specified_by m.kind m.first (declares_by m.kind (slice_index_or tree.tags.now s None))) (ap are_specifiers is) in
          let words : words_of t.nodes s (Some m.kind) ≡ m.parts = ap (λ k. words_of t.nodes s (Some k)) is ∙ ap scripts.parts_if at in
          ap (λ ws. is_type (fold (λ storage word. with_word storage (scripts.kind_at t.nodes word)) NoWord ws)) words
          ∙ steps (scripts.kind_at t.nodes) early m.parts NoWord nothing
          (λ k p e v st h.
          let x = (shaped file t it).parts s m (there s m at) k p e in
          let alone : is_single x.own.kind ≡ true = ap (λ y. fits y k x.own.kind) (sym is) ∙ x.fits in
          one_step early p x.own (ap (λ ns. slice_get ns p) nodes_are ∙ x.at) (single_plain x.own.kind alone) (specified_early tree it.checked.checked.texts shapes typing is_typing holds s m (there s m at) p x.below) v st h) refl
          ∙ ap (λ (x : Specified). says x.storage) (sym own)

      by : (b : Bool) → are_specifiers m.kind ≡ b → is_type (fold (λ storage word. with_word storage (scripts.kind_at t.nodes word)) NoWord (words_of t.nodes s (Some m.kind))) ≡ says (said s).storage
      by true q = kinds m.kind refl q
        where
          kinds : (k : Kind) → m.kind ≡ k → are_specifiers k ≡ true → is_type (fold (λ storage word. with_word storage (scripts.kind_at t.nodes word)) NoWord (words_of t.nodes s (Some m.kind))) ≡ says (said s).storage
          kinds kind.Specifiers e q = several e
          kinds kind.PlainSpecifiers e q = absurd (no_plain m.kind stands e)
          kinds k e q = absurd (false≢true q)
      by false q =
          ap (λ ws. is_type (fold (λ storage word. with_word storage (scripts.kind_at t.nodes word)) NoWord ws)) (single q) ∙ one_step said s m at q refl NoWord None refl

  -- ---- a declaration

  pub record HasWords (i : ℕ) (m : Node) : Type 0 where
    pub specifiers : ℕ
    pub first : slice_get m.parts 0 ≡ Some specifiers
    pub say : is_type (storage_of t.nodes m.parts) ≡ says (said specifiers).storage

  pub words : (i : ℕ) (m : Node) → slice_get t.nodes i ≡ Some m → is_external m.kind ≡ true → HasWords i m
  words i m at external = by m.parts refl (there_is (slice_get m.parts 0) ((shaped file t it).filled i m (there i m at) 0 (has_specifiers m.kind (external_is m.kind external).1.0).filled))
    where
      by : (ps : List ℕ) → m.parts ≡ ps → (x : ℕ) × (slice_get m.parts 0 ≡ Some x) → HasWords i m
      by [] e x = let never : None ≡ Some x.0 = sym (ap (λ l. slice_get l 0) e) ∙ x.1 in absurd cc
      by (s ∷ rest) e x =
          let part = (shaped file t it).parts i m (there i m at) 0 s (ap (λ l. slice_get l 0) e) in
          let here : slice_get t.nodes s ≡ Some part.own = ap (λ ns. slice_get ns s) nodes_are ∙ part.at in
          let row = ap (row_in t.nodes) e ∙ row_at t.nodes unit.below s part.own rest here in
          let stands = begins_with m.kind external unit.tokens part.own.kind part.own.first (part.own.last + 1) (row_in t.nodes part.own.parts) (row_in t.nodes rest) m.first (m.last + 1)
          (subst (λ u. IsLaid unit.tokens (side_of m.kind) u m.first (m.last + 1)) row (laid_at t unit i m at)) in
          record { specifiers = s; first = ap (λ l. slice_get l 0) e; say = ap (λ l. is_type (storage_of t.nodes l)) e ∙ specifiers_say s part.own rest here stands }

  -- what its declarators declare
  module _ (i : ℕ) (m : Node) (at : slice_get t.nodes i ≡ Some m) (external : is_external m.kind ≡ true) (p : ℕ) (n : Node) (here : slice_get t.nodes p ≡ Some n) (names : declares_name n.kind ≡ true)
      (of : declaration_of tree.nodes.now tree.above.now p ≡ Some i) where
    abbrev w : HasWords i m
    w = words i m at external

    abbrev own : Declarator
    own = (entry_at typing p).own.declarator

    abbrev class : Option Class
    class = class_of (said w.specifiers).storage

    specifiers_are : specifiers_in tree.nodes.now (Some i) ≡ Some w.specifiers
    specifiers_are = ap (λ o. slice_get (parts_if o) 0) (there i m at) ∙ w.first

    declared_is : slice_index_or typing.declared p Unclear ≡ (if says (said w.specifiers).storage then TypeName else value_by tree.nodes.now class own.function (entry_at typing p).own.named)
    declared_is =
        let early = (before_in shapes (cut p typing)).specified in
        let row = (entry_at typing p).own.named in
        let low : w.specifiers < p = (shaped file t it).ordered p i w.specifiers n (there p n here) names of specifiers_are in
        (ruled tree it.checked.checked.texts shapes typing is_typing holds p n (there p n here)).declared
        ∙ declares_by_kind n.kind tree.nodes.now early own row (entry_at typing p).own.enumerated (declaration_of tree.nodes.now tree.above.now p) names
        ∙ ap (ordinary_of tree.nodes.now early own row) of
        ∙ ap (λ b. if b then ordinary_by tree.nodes.now early own row (specifiers_in tree.nodes.now (Some i)) else Unclear)
        (ap (λ o. names_ordinary (kind_if o)) (there i m at) ∙ (external_is m.kind external).1.1)
        ∙ ap (ordinary_by tree.nodes.now early own row) specifiers_are
        ∙ ap (λ (x : Specified). if says x.storage then TypeName else value_by tree.nodes.now (class_of x.storage) own.function row)
        (specified_early tree it.checked.checked.texts shapes typing is_typing holds p n (there p n here) w.specifiers low)

    pub is_known_there : AreKnown tree shapes typing → is_type (storage_of t.nodes m.parts) ≡ false → is_known (now_at shapes typing p) ≡ true
    is_known_there all untyped =
        let k = all p n (there p n here) in
        let row = (entry_at typing p).own.named in
        ap (λ d. is_known (type_as d (type_at shapes row) (map (type_at shapes) (entry_at typing p).parameters)))
        (declared_is ∙ ap (λ b. if b then TypeName else value_by tree.nodes.now class own.function row) (sym w.say ∙ untyped))
        ∙ value_known tree.nodes.now class own.function row (type_at shapes row) (map (type_at shapes) (entry_at typing p).parameters) (k.declared names i of) (k.parameters names)

    -- and what is a function says no `typedef`
    pub function_plain : DeclaresFunction typing p → is_type (storage_of t.nodes m.parts) ≡ false
    function_plain f = by (is_type (storage_of t.nodes m.parts)) refl
      where
        by : (b : Bool) → is_type (storage_of t.nodes m.parts) ≡ b → b ≡ false
        by false q = refl
        by true q =
            let none : TypeName ≡ Function f.0 f.1.0 =
            sym (declared_is ∙ ap (λ b. if b then TypeName else value_by tree.nodes.now class own.function (entry_at typing p).own.named) (sym w.say ∙ q)) ∙ f.1.1 in
            absurd cc

  -- ---- the declarator of a declaration

  pub record IsOwned (token i q : ℕ) (m : Node) : Type 0 where
    pub node : Node
    pub at : slice_get t.nodes q ≡ Some node
    pub is : is_declarator node.kind ≡ true
    pub names : declares_name node.kind ≡ true
    pub declaration : declaration_of tree.nodes.now tree.above.now q ≡ Some i

  pub owned : (token i q : ℕ) (m : Node) → IsDeclarer t.nodes token i q m → IsOwned token i q m
  owned token i q m d = by d.declares
    where
      part_is : IsPart tree i m (suc d.place) d.part
      part_is = (shaped file t it).parts i m (there i m d.at) (suc d.place) d.part d.is

      above_it : declaration_of tree.nodes.now tree.above.now d.part ≡ Some i
      above_it = let x = external_is m.kind d.external in declaration_here tree.nodes.now tree.above.now d.part i m part_is.above (there i m d.at) x.0 x.1.0

      made : (o : Node) → slice_get t.nodes q ≡ Some o → declaration_of tree.nodes.now tree.above.now q ≡ Some i → IsOwned token i q m
      made o at e = let is = is_named_declarator t.nodes q token o at d.name in record { node = o; at = at; is = is; names = declarator_names o.kind is; declaration = e }

      by : (d.part ≡ q) ⊎ ((scripts.kind_at t.nodes d.part ≡ Some kind.InitDeclarator) × (slice_get (scripts.parts_at t.nodes d.part) 0 ≡ Some q)) → IsOwned token i q m
      by (inl same) =
          let at : slice_get t.nodes d.part ≡ Some part_is.own = ap (λ ns. slice_get ns d.part) nodes_are ∙ part_is.at in
          made part_is.own (ap (slice_get t.nodes) (sym same) ∙ at) (ap (declaration_of tree.nodes.now tree.above.now) (sym same) ∙ above_it)
      by (inr init) =
          let at : slice_get t.nodes d.part ≡ Some part_is.own = ap (λ ns. slice_get ns d.part) nodes_are ∙ part_is.at in
          let kind_is : Some part_is.own.kind ≡ Some kind.InitDeclarator = ap scripts.kind_if (sym at) ∙ init.0 in
          let is : part_is.own.kind ≡ kind.InitDeclarator = cc in
          let first : slice_get part_is.own.parts 0 ≡ Some q = ap (λ o. slice_get (scripts.parts_if o) 0) (sym at) ∙ init.1 in
          let inner = (shaped file t it).parts d.part part_is.own part_is.at 0 q first in
          made inner.own (ap (λ ns. slice_get ns q) nodes_are ∙ inner.at) ((shaped file t it).initialised d.part q part_is.own part_is.at is first ∙ above_it)

  -- ---- definitions

  specifiers_held : (s : ℕ) (m : Node) → slice_get tree.nodes.now s ≡ Some m → Held (said s).storage
  specifiers_held s m at = by (are_specifiers m.kind) refl
    where
      early : ℕ → Specified
      early = (before_in shapes (cut s typing)).specified

      said_is : (p : ℕ) (n : Node) → slice_get tree.nodes.now p ≡ Some n → (b : Bool) → are_specifiers n.kind ≡ b
          → said p ≡ (if b then joined_in (before_in shapes (cut p typing)).specified n.parts else specified_by n.kind n.first (declares_by n.kind (slice_index_or tree.tags.now p None)))
      said_is p n here b q =
          (ruled tree it.checked.checked.texts shapes typing is_typing holds p n here).specified
          ∙ ap (λ b. if b then joined_in (before_in shapes (cut p typing)).specified n.parts else specified_by n.kind n.first (declares_by n.kind (slice_index_or tree.tags.now p None))) q

      alone : (p : ℕ) (n : Node) → slice_get tree.nodes.now p ≡ Some n → are_specifiers n.kind ≡ false → Held (said p).storage
      alone p n here q = subst (λ (x : Specified). Held x.storage) (sym (said_is p n here false q)) (held_word n.kind n.first (declares_by n.kind (slice_index_or tree.tags.now p None)))

      several_fits : (k : Kind) (j : ℕ) (c : Kind) → are_specifiers k ≡ true → fits k j c ≡ true → is_single c ≡ true
      several_fits kind.Specifiers j c q f = f
      several_fits kind.PlainSpecifiers j c q f = f
      several_fits k j c q f = absurd (false≢true q)

      by : (b : Bool) → are_specifiers m.kind ≡ b → Held (said s).storage
      by false q = alone s m at q
      by true q =
          subst (λ (x : Specified). Held x.storage) (sym (said_is s m at true q))
          (held_words early m.parts nothing
          (λ k p e.
          let x = (shaped file t it).parts s m at k p e in
          subst (λ (y : Specified). Held y.storage) (sym (specified_early tree it.checked.checked.texts shapes typing is_typing holds s m at p x.below))
          (alone p x.own x.at (single_plain x.own.kind (several_fits m.kind k x.own.kind q x.fits)))) tt)

  abbrev earlier : ℕ → Before
  earlier i = before_in shapes (cut i typing)

  abbrev defined_as : ℕ → Node → Option ℕ
  defined_as i m = (declarator_in (earlier i).declarator (slice_get m.parts 1)).function

  -- a body stands behind the declarator of a function, whose specifiers say no `typedef` (K2, K10)
  pub definition_declares : (token i q : ℕ) (m : Node) → IsDeclarer t.nodes token i q m → m.kind ≡ kind.FunctionDefinition → DeclaresFunction typing q
  definition_declares token i q m d is = made (entry_at typing q).own.declarator.function refl
    where
      o : IsOwned token i q m
      o = owned token i q m d

      w : HasWords i m
      w = words i m d.at d.external

      here : slice_get tree.nodes.now i ≡ Some m
      here = there i m d.at

      second : slice_get m.parts 1 ≡ Some d.part
      second = subst (λ x. slice_get m.parts (suc x) ≡ Some d.part) (d.first is) d.is

      part_is : IsPart tree i m 1 d.part
      part_is = (shaped file t it).parts i m here 1 d.part second

      declarator_is : is_declarator part_is.own.kind ≡ true
      declarator_is = ap (λ k. fits k 1 part_is.own.kind) (sym is) ∙ part_is.fits

      same : d.part ≡ q
      same = elim d.declares [
        | inl e ↦ e
        | inr init ↦
            (let kind_is : Some part_is.own.kind ≡ Some kind.InitDeclarator = ap scripts.kind_if (sym (ap (λ ns. slice_get ns d.part) nodes_are ∙ part_is.at)) ∙ init.0 in
            let never : part_is.own.kind ≡ kind.InitDeclarator = cc in
            absurd (false≢true (ap is_declarator (sym never) ∙ declarator_is)))
      ]

      held : HoldsAll (definition_faults (earlier i) tree.nodes.now i (specified_in (earlier i).specified (slice_get m.parts 0)) (slice_get m.parts 1) (defined_as i m))
      held = subst (λ k. HoldsAll (faults_in k (has_at shapes (entry_at typing i).own) (earlier i) tree i m)) is (holds_all tree it.checked.checked.texts shapes typing is_typing holds i m here)

      function_is : is_some (entry_at typing q).own.declarator.function ≡ true
      function_is =
          ap (λ x. is_some (entry_at typing x).own.declarator.function) (sym same)
          ∙ ap (λ (x : Declarator). is_some x.function) (sym (ap (declarator_in (earlier i).declarator) second ∙ declarator_early tree it.checked.checked.texts shapes typing is_typing holds i m here d.part part_is.below))
          ∙ function_there (earlier i) tree.nodes.now i (specified_in (earlier i).specified (slice_get m.parts 0)) (slice_get m.parts 1) (defined_as i m) held

      untyped : says (said w.specifiers).storage ≡ false
      untyped = by (says (said w.specifiers).storage) refl
        where
          first_is : IsPart tree i m 0 w.specifiers
          first_is = (shaped file t it).parts i m here 0 w.specifiers w.first

          none : is_some (storage_by place.Definition (is_some (defined_as i m)) (said w.specifiers).storage) ≡ false
          none =
              ap (λ (x : Specified). is_some (storage_by place.Definition (is_some (defined_as i m)) x.storage))
              (sym (ap (specified_in (earlier i).specified) w.first ∙ specified_early tree it.checked.checked.texts shapes typing is_typing holds i m here w.specifiers first_is.below)) ∙ storage_there (earlier i) tree.nodes.now i (specified_in (earlier i).specified (slice_get m.parts 0)) (slice_get m.parts 1) (defined_as i m) held

          by : (c : Bool) → says (said w.specifiers).storage ≡ c → c ≡ false
          by false e = refl
          by true e = absurd (refused (is_some (defined_as i m)) (said w.specifiers).storage (specifiers_held w.specifiers first_is.own first_is.at) e none)

      made : (f : Option ℕ) → (entry_at typing q).own.declarator.function ≡ f → DeclaresFunction typing q
      made None e = absurd (false≢true (ap is_some (sym e) ∙ function_is))
      made (Some f) e =
          let storage = class_of (said w.specifiers).storage in
          let row = (entry_at typing q).own.named in (
            row,
            (
              is_variadic tree.nodes.now f,
              declared_is i m d.at d.external q o.node o.at o.names o.declaration
                  ∙ ap (λ c. if c then TypeName else value_by tree.nodes.now storage (entry_at typing q).own.declarator.function row) untyped
                  ∙ ap (λ x. value_by tree.nodes.now storage x row) e,
            ),
          )

  -- ---- types are known

  pub types_known : AreKnown tree shapes typing
  types_known = known tree it.checked.checked.texts shapes typing is_typing holds (shaped file t it) (sighted file t it)

  pub value_is_known : (token : ℕ) (v : DeclaresValue t.nodes token) → is_known (now_at shapes typing v.declarator) ≡ true
  value_is_known token v =
      let o = owned token v.declaration v.declarator v.node v.is in
      is_known_there v.declaration v.node v.is.at v.is.external v.declarator o.node o.at o.names o.declaration types_known (no_type (storage_of t.nodes v.node.parts) (declarator_of t.nodes v.declarator).next v.value)

pub known_is : Laws.ValuesAreKnown
known_is file t it token v = value_is_known file t it token v

pub definitions : Laws.DefinitionsDeclareFunctions
definitions file t it token i q m d is = definition_declares file t it token i q m d is
