-- A name that designates an object stands for the one that the declaration which it sees declares, unless that is a parameter (C11 6.2.1p4, 6.5.1p2, 6.9p5).
use Rattle.std.proofs.Common.{◌≡◌, ℕ, zero, suc, ◌<◌, ◌≤◌, ◌==◌, ◌&&◌, ◌||◌, ◌⊎◌, inl, inr, Bool, true, false, List, Option, None, Some, length, slice_get, slice_index_or, refl, sym, ap, subst, ◌∙◌, arith}
use Rattle.std.proofs.lemmas.Bool.{cases_lt, false≢true, and_parts, eqb-true}
use Rattle.std.proofs.lemmas.Option.{same_Some}
use Rattle.cr_syntax.specs.declared.node.Kind.{Kind}
use Rattle.cr_syntax.specs.declared.node.Kind.TheVariants as kind
use Rattle.cr_syntax.specs.declared.node.Node.{Node as SyntaxNode}
use Rattle.cr_scopes_events.specs.declared.event.Role.{Role}
use Rattle.cr_scopes_events.specs.declared.event.Role.TheVariants as role
use Rattle.cr_scopes_events.specs.declared.event.Event.{Event}
use Rattle.cr_scopes_events.specs.declared.event.Event.TheVariants.{Node, Opens, Closes, Name, Member}
use Rattle.cr_scopes_events.specs.declared.declarator.Declarator.{Declarator as Named}
use Rattle.cr_scopes_events.specs.Values.{before}
use Rattle.cr_scopes_events.specs.Declarators.{nowhere, declared_if, declarator_of}
use Rattle.cr_scopes_events.specs.Scripts as scripts
use Rattle.cr_scopes_events.proofs.Descents.{declarator_ruled}
use Rattle.cr_scopes.specs.declared.scope.Space.TheVariants.{Ordinary}
use Rattle.cr_scopes.specs.Faults.{is_typedef}
use Rattle.cr_scopes.specs.Looking.{stands_in}
use Rattle.cr_scopes.specs.Resolved.{with_event, past_of}
use Rattle.cr_scopes.specs.Units.{unit_events}
use Rattle.cr_scopes_bindings.specs.Nodes.{named_by, named_if, name_at}
use Rattle.cr_scopes_visibility.specs.Once.Told.{count_of}
use Rattle.cr_scopes_linkage.specs.Shared.Sorts.{is_value, is_tag}
use Rattle.cr_scopes_linkage.specs.Shared.Origins.{IsTold, declared, tagged, otherwise}
use Rattle.cr_scopes_visibility.specs.Sight.Scopes.{is_using}
use Rattle.cr_scopes_typedef_names.specs.Tellings.Tellings as tellings
use Rattle.cr_scopes_typedef_names.specs.Tellings.Tellings.{is_enumerator, Telling, by_declaration, by_parameter, by_enumerator, by_tag, by_use}
use Rattle.cr_scopes_visibility.specs.Told.Told.{is_declaration, IsHeld, IsDeclarator, AreApart}
use Rattle.cr_scopes_visibility.specs.Uses.Uses.{is_declared}
use Rattle.cr_check_expressions.specs.declared.known.Declared.TheVariants.{Object}
use Rattle.cr_check_declarators.specs.declared.words.Specified.{Specified}
use Rattle.cr_check_declarators.specs.declared.declarator.Declarator.{Declarator}
use Rattle.cr_check_declarators.specs.declared.enumerators.Enumerated.{Enumerated}
use Rattle.cr_check_declarations.specs.Named.{declared_by}
use Rattle.cr_typed.specs.declared.typed.Typed.{Typed}
use Rattle.cr_meaning_declarations.specs.Declared.Files.{IsUnitOfFile}
use Rattle.cr_meaning_declarations.proofs.DeclaredLemmas.Bodies.{node_of}
use Rattle.cr_meaning_typing.specs.Judged.Judged.{seen_in}
use Rattle.cr_meaning_declarations.proofs.DeclaredLemmas.Files.{has_unit}
use Rattle.cr_meaning_references.proofs.ToldLemmas.Orderly.{apart}
use Rattle.cr_meaning_objects.proofs.MainsLemmas.Defined.{At, is_told, telling, value_or_type}
use Rattle.cr_meaning_objects.specs.Objects.Laws.{DeclaresObject}
use Rattle.cr_meaning_objects.proofs.ObjectsLemmas.Objects.{value_there}
use Rattle.cr_meaning_objects.proofs.ObjectsLemmas.Statics.{no_constant, enumerator_nameless}
use Rattle.cr_meaning_objects.specs.Kept.Laws.{SeesObject}
use Rattle.cr_meaning_objects.proofs.KeptLemmas.Kept.{keep}
use Rattle.cr_meaning_objects.proofs.KeptLemmas.Seen.{see}
use Rattle.cr_meaning_files.specs.Celled as Laws
use Rattle.cr_meaning_files.specs.Celled.{SeesDeclared, SeesParameter}
use Rattle.cr_meaning_files.proofs.Meant.{before_declared, mean}
use Rattle.cr_meaning_files.proofs.Names as names
use Rattle.cr_meaning_files.proofs.Types.{ruled_at}
use Rattle.cr_meaning_objects.proofs.CalledLemmas.Meant.{declares_kind as external_declares}

-- ---- what declares an object

-- its entity has a definition, so the first declaration of it is one of the program

pub stand_for : Laws.NamesStandForObjects
stand_for file t it i n at is few token declaration q m declarer object seen =
    let x = mean file t it i n at (ap is_using is) few token declaration q m declarer (value_there file t it token declaration q m declarer object) seen in
    record {
      entity = x.0;
      stands = x.1.0;
      declares = x.1.1;
      kept = keep file t it i token x.0 declaration q n m at is x.1.0 declarer x.1.1 object;
    }

-- ---- roles

no_tag : (r : Role) → is_tag r ≡ true → stands_in Ordinary r ≡ true → ⊥
no_tag role.Content h e = false≢true e
no_tag role.Alone h e = false≢true e
no_tag role.Mentioned h e = false≢true e
no_tag r h e = false≢true h

no_tagging : (r : Role) → tellings.is_tag r ≡ true → stands_in Ordinary r ≡ true → ⊥
no_tagging role.Content h e = false≢true e
no_tagging role.Alone h e = false≢true e
no_tagging role.Mentioned h e = false≢true e
no_tagging r h e = false≢true h

no_use : (r : Role) → r ≡ role.Used → stands_in Ordinary r ≡ true → ⊥
no_use r e h = false≢true (ap (stands_in Ordinary) (sym e) ∙ h)

enumerator_only : (k : Kind) → is_enumerator k ≡ true → k ≡ kind.Enumerator
enumerator_only kind.Enumerator h = refl
enumerator_only k h = absurd (false≢true h)

parameter_declares : (k : Kind) → tellings.is_parameter k ≡ true → is_declaration k ≡ true
parameter_declares kind.Parameter h = refl
parameter_declares k h = absurd (false≢true h)

-- no enumerator declares an object
no_object : (k : Kind) (nodes : List SyntaxNode) (said : ℕ → Specified) (own : Declarator) (row : ℕ) (e : Option Enumerated) (d : Option ℕ) (x : ℕ) (register : Bool)
    → is_enumerator k ≡ true → declared_by k nodes said own row e d ≡ Object x register → ⊥
no_object kind.Enumerator nodes said own row e d x register h f = no_constant e x register f
no_object k nodes said own row e d x register h f = false≢true h

-- ---- the event that declares

record IsEvent (events : List Event) (token : ℕ) : Type 0 where
  place : ℕ
  own : Role
  at : At events token place own
  ordinary : stands_in Ordinary own ≡ true

event_of : (events : List Event) (token n : ℕ) → is_declared token (past_of events n) ≡ true → IsEvent events token
event_of events token zero h = absurd (false≢true h)
event_of events token (suc n) h = by (slice_get events n) refl h (λ g. event_of events token n g)
  where
    one : (t : ℕ) (r : Role) → slice_get events n ≡ Some (Name t r) → (b : Bool) → (stands_in Ordinary r && (token == t)) ≡ b → (b || is_declared token (past_of events n)) ≡ true
        → (is_declared token (past_of events n) ≡ true → IsEvent events token) → IsEvent events token
    one t r e true q g rest =
        let both = and_parts (stands_in Ordinary r) (token == t) q in
        record { place = n; own = r; at = e ∙ ap (λ x. Some (Name x r)) (sym (eqb-true token t both.1)); ordinary = both.0 }
    one t r e false q g rest = rest g

    by : (o : Option Event) → slice_get events n ≡ o → is_declared token (with_event o (past_of events n)) ≡ true
        → (is_declared token (past_of events n) ≡ true → IsEvent events token) → IsEvent events token
    by None e g rest = rest g
    by (Some (Name t r)) e g rest = one t r e (stands_in Ordinary r && (token == t)) refl g rest
    by (Some Opens) e g rest = rest g
    by (Some Closes) e g rest = rest g
    by (Some (Member t k)) e g rest = rest g
    by (Some (Node i)) e g rest = rest g

module _ (file : List ℕ) (t : Typed) (it : IsUnitOfFile file t) where
  open it use {made_by, typing}
  open has_unit file t it use {unit, order, nodes_are}

  abbrev events : List Event
  events = unit_events it.unit

  alone : AreApart t.nodes
  alone = apart t unit order

  -- ---- the whole declarator of a token

  -- a part of a declaration that declares is a declarator of one
  held : (i k p q : ℕ) (o : SyntaxNode) → slice_get t.nodes i ≡ Some o → is_declaration o.kind ≡ true → slice_get o.parts (suc k) ≡ Some p → tellings.IsDeclaring t.nodes p q
      → IsDeclarator t.nodes q
  held i k p q o at declares e way = elim way [
    | inl same ↦ inl (subst (IsHeld t.nodes) same own)
    | inr init ↦
        (let x = node_of t unit order p kind.InitDeclarator init.0 in
        inr (record { outer = p; node = x.0; at = x.1.0; initialises = x.1.1; is = sym (ap (λ y. slice_get (scripts.parts_if y) 0) x.1.0) ∙ init.1; held = own }))
  ]
    where
      own : IsHeld t.nodes p
      own = record { declaration = i; node = o; at = at; declares = declares; place = suc k; is = e }

  -- it names the token
  name_key : (w token : ℕ) → (declarator_of t.nodes w).name ≡ Some token → name_at t.nodes w ≡ Some token
  name_key w token named = by (slice_get t.nodes w) refl
    where
      of_kind : (o : SyntaxNode) → slice_get t.nodes w ≡ Some o → (k : Kind) → o.kind ≡ k → named_by k o.first (declarator_of t.nodes w).name ≡ Some token
      of_kind o at kind.Enumerator e =
          absurd (enumerator_nameless o.kind (before nowhere w (declarator_of t.nodes)) w o token e
          (sym (ap (λ p. (declared_if p (before nowhere w (declarator_of t.nodes)) w).name) at) ∙ sym (ap (λ (p : Named). p.name) (declarator_ruled t.nodes w)) ∙ named))
      of_kind o at k e = named

      by : (o : Option SyntaxNode) → slice_get t.nodes w ≡ o → name_at t.nodes w ≡ Some token
      by None at =
          let none : (declarator_of t.nodes w).name ≡ None =
          ap (λ (p : Named). p.name) (declarator_ruled t.nodes w) ∙ ap (λ p. (declared_if p (before nowhere w (declarator_of t.nodes)) w).name) at in
          let never : None ≡ Some token = sym none ∙ named in
          absurd cc
      by (Some o) at = ap (λ x. named_if x (declarator_of t.nodes w).name) at ∙ of_kind o at o.kind refl

  module _ (i : ℕ) (n : SyntaxNode) (at : slice_get t.nodes i ≡ Some n) (is : n.kind ≡ kind.Identifier)
      (lvalue : (seen_in it.checked.checked i).lvalue ≡ true) (few : count_of n.first (unit_events it.unit) ≤ 1) where
    s : SeesObject file t it n.first
    s = see file t it i n at is lvalue

    found : (names.finds file t it i n at is few).declared ≡ s.token
    found = same_Some (names.finds file t it i n at is few).declared s.token (sym (names.column file t it i n at is few) ∙ s.visible)

    abbrev whole : ℕ
    whole = (names.declared file t it i n at is few).declarer

    whole_is : whole ≡ s.declarator
    whole_is =
        same_Some whole s.declarator (sym (names.declarer file t it i n at is few) ∙ ap (λ x. slice_index_or it.checked.checked.surroundings.bindings.declarers x None) found ∙ s.declares)

    whole_names : name_at t.nodes whole ≡ Some s.token
    whole_names = names.names_it file t it i n at is few ∙ ap Some found

    last : (p : ℕ) → whole < p → name_at t.nodes p ≡ Some s.token → ⊥
    last p less e = (names.declared file t it i n at is few).last p less (ap (λ ns. name_at ns p) nodes_are ∙ e ∙ ap Some (sym found))

    -- another one that names the token is that one, where nothing behind it does
    same : (q : ℕ) → name_at t.nodes q ≡ Some s.token → (q < whole → ⊥) → q ≡ s.declarator
    same q e first = elim (cases_lt q whole) [
      | inl less ↦ absurd (first less)
      | inr le ↦ elim (cases_lt whole q) [
        | inl more ↦ absurd (last q more e)
        | inr ge ↦ (let one : q ≡ whole = omega (arith, le, ge) in one ∙ whole_is)
      ]
    ]

    declarator_is : (q : ℕ) → IsDeclarator t.nodes q → (declarator_of t.nodes q).name ≡ Some s.token → q ≡ s.declarator
    declarator_is q h e = let key = name_key q s.token e in same q key (λ less. alone.wholes q whole s.token h key less whole_names)

    object_at : (q : ℕ) → q ≡ s.declarator → DeclaresObject typing q
    object_at q e = subst (DeclaresObject typing) (sym e) s.object

    -- no enumerator
    no_enumerator : tellings.IsBearer t.nodes s.token is_enumerator → ⊥
    no_enumerator e =
        let k = enumerator_only e.own.kind e.is in
        let key : name_at t.nodes e.node ≡ Some s.token =
        ap (λ x. named_if x (declarator_of t.nodes e.node).name) e.at ∙ ap (λ x. named_by x e.own.first (declarator_of t.nodes e.node).name) k ∙ ap Some e.first in
        let one = same e.node key (λ less. alone.enumerators e.node whole s.token (record { node = e.own; at = e.at; is = k }) key less whole_names) in
        let object = object_at e.node one in
        let here : slice_get made_by.tree.nodes.now e.node ≡ Some e.own = ap (λ ns. slice_get ns e.node) (made_by.is.whole.tree.nodes ∙ sym made_by.elaborated.nodes_are) ∙ e.at in
        let made = ruled_at file t it i n at is lvalue e.node e.own here in
        no_object e.own.kind made_by.tree.nodes.now _ _ (slice_index_or typing.named e.node 0) _ _ object.0 object.1.0 e.is (sym made.declared ∙ object.1.1)

    event : IsEvent events s.token
    event =
        event_of events s.token (length events)
        (subst (λ x. is_declared x (past_of events (length events)) ≡ true) found
        (before_declared (names.finds file t it i n at is few).declared n.first (past_of events (length events)) (names.finds file t it i n at is few).before))

    by_parameter_node : tellings.IsDeclarer t.nodes s.token tellings.is_parameter → SeesDeclared file t it i n.first ⊎ SeesParameter file t it n.first
    by_parameter_node p =
        let one = declarator_is p.declarator (held p.node p.place p.part p.declarator p.own p.at (parameter_declares p.own.kind p.is) p.has p.declares) p.names in
        inr (record { token = s.token; visible = s.visible; parameter = p; object = object_at p.declarator one })

    by_telling : (r : Role) → stands_in Ordinary r ≡ true → is_value r ≡ false → is_typedef r ≡ false → Telling t.nodes s.token r
        → SeesDeclared file t it i n.first ⊎ SeesParameter file t it n.first
    by_telling r o v y (by_declaration x e) = elim (value_or_type (scripts.storage_of t.nodes x.own.parts) (declarator_of t.nodes x.declarator).next) [
      | inl value ↦ absurd (false≢true (sym v ∙ ap is_value e ∙ value))
      | inr type ↦ absurd (false≢true (sym y ∙ ap is_typedef e ∙ type))
    ]
    by_telling r o v y (by_parameter x e) = by_parameter_node x
    by_telling r o v y (by_enumerator x e) = absurd (no_enumerator x)
    by_telling r o v y (by_tag x e) = absurd (no_tagging r e o)
    by_telling r o v y (by_use x e) = absurd (no_use r e o)

    by_told : (r : Role) → stands_in Ordinary r ≡ true → IsTold t.nodes s.token r → Telling t.nodes s.token r → SeesDeclared file t it i n.first ⊎ SeesParameter file t it n.first
    by_told r o (declared d q m x e) h =
        let one = declarator_is q (held d x.place x.part q m x.at (external_declares m.kind x.external) x.is x.declares) x.name in
        let object = object_at q one in
        inl (record {
          token = s.token;
          visible = s.visible;
          declaration = d;
          declarator = q;
          node = m;
          is = x;
          object = object;
          stands = stand_for file t it i n at is few s.token d q m x object s.visible;
        })
    by_told r o (tagged d m there is_tagged e tags) h = absurd (no_tag r tags o)
    by_told r o (otherwise v y z) h = by_telling r o v y h

    place : SeesDeclared file t it i n.first ⊎ SeesParameter file t it n.first
    place = by_told event.own event.ordinary (is_told file t it s.token event.place event.own event.at) (telling file t it s.token event.place event.own event.at)

pub places : Laws.PlacesStandForObjects
places file t it i n at is lvalue few = place file t it i n at is lvalue few
