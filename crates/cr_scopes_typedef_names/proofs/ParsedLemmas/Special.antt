-- Nodes that tell more than their parts.
use Rattle.std.proofs.Common.{◌≡◌, ◌≢◌, ℕ, zero, suc, ◌+◌, ◌-◌, ◌<◌, Bool, true, false, ◌||◌, List, [], ◌∷◌, ◌++◌, Option, None, Some, length, take, drop, slice_get, slice_index, refl, sym, ap, subst, ◌∙◌, arith, length-append}
use Rattle.std.specs.List.{flat_map, fold}
use Rattle.std.proofs.lemmas.Bool.{true≢false}
use Rattle.std.proofs.lemmas.Grind.{flat_map-append}
use Rattle.std.proofs.lemmas.List.{append-nil}
use Rattle.std.proofs.lemmas.Option.{slice_get_within}
use Rattle.std.proofs.Math.Seq.{take-append_seam}
use Rattle.cr_tokens.specs.declared.token.Token.{Token}
use Rattle.cr_syntax.specs.declared.node.Kind.{Kind}
use Rattle.cr_syntax.specs.declared.node.Kind.TheVariants as kind
use Rattle.cr_syntax.specs.declared.node.Node.{Node}
use Rattle.cr_syntax.specs.declared.scopes.TypeName.{TypeName}
use Rattle.cr_syntax.specs.Scopes.{Scopes, is_type, enter}
use Rattle.cr_syntax.specs.Trees.{Trees, none, node}
use Rattle.cr_syntax.specs.Context.{is_typedef, any_kind, specifies, declared_in}
use Rattle.cr_syntax.specs.Kept.{AreBelow, PartsAreBelow, row_in}
use Rattle.cr_syntax.proofs.Arena.{below_first, below_rest, row_at}
use Rattle.cr_scopes_events.specs.declared.event.Role.TheVariants as role
use Rattle.cr_scopes_events.specs.declared.event.Event.{Event}
use Rattle.cr_scopes_events.specs.declared.event.Event.TheVariants as event
use Rattle.cr_scopes_events.specs.declared.event.Step.{Step}
use Rattle.cr_scopes_events.specs.declared.event.Step.TheVariants.{Happens, Inside}
use Rattle.cr_scopes_events.specs.declared.naming.Storage.{Storage}
use Rattle.cr_scopes_events.specs.declared.naming.Storage.TheVariants.{TypedefWord, ExternWord, NoWord}
use Rattle.cr_scopes_events.specs.declared.naming.Naming.{Naming}
use Rattle.cr_scopes_events.specs.declared.naming.Naming.TheVariants.{Parameters, Members, Declared}
use Rattle.cr_scopes_events.specs.declared.declarator.Derivation.{Derivation}
use Rattle.cr_scopes_events.specs.declared.declarator.Derivation.TheVariants.{Nothing, Function, Other}
use Rattle.cr_scopes_events.specs.declared.declarator.Declarator.{Declarator}
use Rattle.cr_scopes_events.specs.Declarators.{nowhere, declarator_of}
use Rattle.cr_scopes_events.specs.Scripts.{kind_if, kind_at, first_if, parts_if, list_of, own_parameters, items_of, definition, parts_at, inside, in_scope, in_scopes, block, with_word, words_of, storage_of, role_by, event_by, named, declarator_in, initialised, declares, declaration_in, is_identifier, tag_event, content_tag, lone_tag, lone_specifiers, declaration, members_of}
use Rattle.cr_scopes_events.specs.Events.{events_by}
use Rattle.cr_scopes.specs.declared.scope.Space.TheVariants.{Ordinary}
use Rattle.cr_scopes.specs.Looking.{stands_in}
use Rattle.cr_scopes_typedef_names.specs.Effects.Effects as effects
use Rattle.cr_scopes_typedef_names.specs.Parsed.Apart.{is_expression, AreApart}
use Rattle.cr_scopes_bindings.specs.Visible.{is_named}
use Rattle.cr_scopes_typedef_names.proofs.ParsedLemmas.Following.{Follows, named_left, named_right, inside_is, again_block, nothing, in_turn, belongs, mentions, uses, enters, does_more, does_scope}
use Rattle.cr_scopes_typedef_names.proofs.ParsedLemmas.Rows.{IsNode, some_at}
use Rattle.cr_scopes_typedef_names.proofs.ParsedLemmas.Sides.{Manner, declaring, parametric, member_wise, is_word, Agrees, IsLoop}
use Rattle.cr_scopes_typedef_names.proofs.ParsedLemmas.Declaring.{at, below, Makes, below_is, goes_below, below_all, all_below, of_node, kind_is, parts_are, IsDeclared}
use Rattle.cr_scopes_typedef_names.specs.Tellings.Tellings.{is_tagged}

-- ---- what names are declared as

declared_ordinary : (s : Storage) (d : Derivation) → stands_in Ordinary (role_by s d) ≡ true
declared_ordinary TypedefWord d = refl
declared_ordinary ExternWord (Function f) = refl
declared_ordinary ExternWord Nothing = refl
declared_ordinary ExternWord Other = refl
declared_ordinary NoWord (Function f) = refl
declared_ordinary NoWord Nothing = refl
declared_ordinary NoWord Other = refl

declared_typedef : (s : Storage) (d : Derivation) → effects.is_typedef (role_by s d) ≡ is_word s
declared_typedef TypedefWord d = refl
declared_typedef ExternWord (Function f) = refl
declared_typedef ExternWord Nothing = refl
declared_typedef ExternWord Other = refl
declared_typedef NoWord (Function f) = refl
declared_typedef NoWord Nothing = refl
declared_typedef NoWord Other = refl

named_is : (way : Naming) (d : Declarator) (token : ℕ) → d.name ≡ Some token → named way d ≡ Happens (event_by way d.next token) ∷ []
named_is way d token e = ap (λ o. elim o as (λ _. List Step) [ None ↦ [] | Some name ↦ Happens (event_by way d.next name) ∷ [] ]) e

-- ---- what the specifiers say

word_step : (s : Storage) (k : Kind) → is_word (with_word s (Some k)) ≡ (is_word s || is_typedef k)
word_step TypedefWord k = refl
word_step ExternWord kind.Typedef = refl
word_step ExternWord kind.Extern = refl
word_step ExternWord k = refl
word_step NoWord kind.Typedef = refl
word_step NoWord kind.Extern = refl
word_step NoWord k = refl

or_assoc : (a b c : Bool) → ((a || b) || c) ≡ (a || (b || c))
or_assoc true b c = refl
or_assoc false b c = refl

or_none : (a : Bool) → (a || false) ≡ a
or_none true = refl
or_none false = refl

-- a list of specifiers without storage class is none of a declaration
abbrev pub is_plain_list : Kind → Bool
is_plain_list kind.PlainSpecifiers = true
is_plain_list k = false

abbrev pub lists_plainly : Trees → Bool
lists_plainly none = false
lists_plainly (node k i j b n) = is_plain_list k

module _ (nodes : List Node) (low : PartsAreBelow nodes) where
  abbrev all_words : Storage → List ℕ → Storage
  all_words s words = fold (λ storage word. with_word storage (kind_at nodes word)) s words

  words_are : (s : Storage) (ps : List ℕ) → AreBelow ps (length nodes) → is_word (all_words s ps) ≡ (is_word s || any_kind is_typedef (row_in nodes ps))
  words_are s [] under = sym (or_none (is_word s))
  words_are s (p ∷ ps) under =
      let x = some_at nodes p (below_first p ps (length nodes) under) in
      words_are (with_word s (kind_at nodes p)) ps (below_rest p ps (length nodes) under)
      ∙ ap (λ b. b || any_kind is_typedef (row_in nodes ps)) (ap (λ o. is_word (with_word s (kind_if o))) x.1 ∙ word_step s x.0.kind)
      ∙ or_assoc (is_word s) (is_typedef x.0.kind) (any_kind is_typedef (row_in nodes ps))
      ∙ ap (λ t. is_word s || any_kind is_typedef t) (sym (row_at nodes low p x.0 ps x.1))

  storage_by : (k : Kind) {q i j : ℕ} {b : Trees} (qs : List ℕ) → is_plain_list k ≡ false → IsNode nodes low q k i j b → is_word (all_words NoWord (words_of nodes q (Some k))) ≡ specifies is_typedef k b
  storage_by kind.Specifiers {q = q} {b = b} qs u n =
      ap (λ ps. is_word (all_words NoWord ps)) (ap parts_if n.at) ∙ words_are NoWord n.own.parts n.within ∙ ap (any_kind is_typedef) n.parts
  storage_by kind.PlainSpecifiers qs u n = absurd (true≢false u)
  storage_by k {q = q} qs u n = ap (λ o. is_word (with_word NoWord (kind_if o))) n.at ∙ ap (λ x. is_word (with_word NoWord (Some x))) n.kind ∙ word_step NoWord k

  -- what the first part of a declaration says
  pub storage_says : {q i j : ℕ} {k : Kind} {b : Trees} (qs : List ℕ) → is_plain_list k ≡ false → IsNode nodes low q k i j b → is_word (storage_of nodes (q ∷ qs)) ≡ specifies is_typedef k b
  storage_says {q = q} {k = k} qs u n =
      ap (λ o. is_word (all_words NoWord (words_of nodes q (kind_if o)))) n.at ∙ ap (λ x. is_word (all_words NoWord (words_of nodes q (Some x)))) n.kind ∙ storage_by k qs u n

module _ (spelling : ℕ → List ℕ) (typed : ℕ → Bool) (tokens : List Token) (nodes : List Node) (low : PartsAreBelow nodes) (apart : AreApart nodes typed) where
  abbrev G : Scopes → Scopes → List Event → Type 0
  G c e es = Follows spelling typed c e es

  abbrev M : ℕ → Scopes → Scopes → List Step → Type 0
  M bound c e steps = Makes spelling typed tokens nodes low bound c e steps

  abbrev N : ℕ → Kind → ℕ → ℕ → Trees → Type 0
  N q k i j b = IsNode nodes low q k i j b

  abbrev told : ℕ → List Event
  told = at spelling typed tokens nodes low

  -- ---- uses and tags

  pub at_typedef : {c : Scopes} {q i j : ℕ} {b : Trees} (n : N q kind.TypedefName i j b) → is_type c (spelling i) ≡ true → G c c (told q)
  at_typedef {c = c} n h = of_node spelling typed tokens nodes low n (uses spelling typed n.own.first role.Used refl (subst (λ x. is_type c (spelling x) ≡ true) (sym n.first) h))

  pub at_identifier : {c : Scopes} {q i j : ℕ} {b : Trees} (n : N q kind.Identifier i j b) → G c c (told q)
  at_identifier {q = q} n = of_node spelling typed tokens nodes low n (mentions spelling typed n.own.first role.Used refl (apart.uses q n.own n.at (ap is_expression n.kind)))

  pub at_call : {c e : Scopes} {q i j : ℕ} {b : Trees} (n : N q kind.Call i j b) → G c e (flat_map told n.own.parts) → G c e (told q)
  at_call {q = q} n h =
      of_node spelling typed tokens nodes low n
      (in_turn spelling typed (mentions spelling typed n.own.first role.Used refl (apart.uses q n.own n.at (ap is_expression n.kind)))
      (all_below spelling typed tokens nodes low q n.own.parts n.below h))

  pub at_struct_tag : {c : Scopes} {q i j : ℕ} {b : Trees} (n : N q kind.StructTag i j b) → G c c (told q)
  at_struct_tag {q = q} n = of_node spelling typed tokens nodes low n (mentions spelling typed (n.own.first + 1) role.Mentioned refl (apart.tags q n.own n.at (ap is_tagged n.kind)))

  pub at_enum_tag : {c : Scopes} {q i j : ℕ} {b : Trees} (n : N q kind.EnumTag i j b) → G c c (told q)
  at_enum_tag {q = q} n = of_node spelling typed tokens nodes low n (mentions spelling typed (n.own.first + 1) role.Mentioned refl (apart.tags q n.own n.at (ap is_tagged n.kind)))

  tag_makes : {c : Scopes} (bound first : ℕ) → typed (first + 1) ≡ false → M bound c c (content_tag tokens first)
  tag_makes {c = c} bound first non = by (is_identifier (slice_get tokens (first + 1)))
    where
      by : (b : Bool) → M bound c c (tag_event role.Content (first + 1) b)
      by true = mentions spelling typed (first + 1) role.Content refl non
      by false = nothing spelling typed c

  pub at_enum : {c e : Scopes} {q i j : ℕ} {b : Trees} (n : N q kind.EnumContent i j b) → G c e (flat_map told n.own.parts) → G c e (told q)
  at_enum {q = q} n h =
      of_node spelling typed tokens nodes low n
      (does_more spelling typed (below spelling typed tokens nodes low q) (content_tag tokens n.own.first) (inside n.own.parts)
      (tag_makes q n.own.first (apart.tags q n.own n.at (ap is_tagged n.kind))) (all_below spelling typed tokens nodes low q n.own.parts n.below h))

  pub at_struct : {c e : Scopes} {q i j : ℕ} {b : Trees} (n : N q kind.StructContent i j b) → M q c e (flat_map (members_of nodes q) n.own.parts) → G c e (told q)
  at_struct {q = q} n h =
      of_node spelling typed tokens nodes low n
      (does_more spelling typed (below spelling typed tokens nodes low q) (content_tag tokens n.own.first) (flat_map (members_of nodes q) n.own.parts)
      (tag_makes q n.own.first (apart.tags q n.own n.at (ap is_tagged n.kind))) h)

  pub at_enumerator : {c e : Scopes} {q i j : ℕ} {b : Trees} (n : N q kind.Enumerator i j b) → G c e (flat_map told n.own.parts) → G c (enter (record { name = spelling i; is_type = false }) e) (told q)
  at_enumerator {c = c} {e = e} {q = q} n h =
      subst (λ x. G c (enter (record { name = spelling x; is_type = false }) e) (told q)) n.first
      (of_node spelling typed tokens nodes low n
      (does_more spelling typed (below spelling typed tokens nodes low q) (inside n.own.parts) (Happens (event.Name n.own.first role.Enumerator) ∷ [])
      (all_below spelling typed tokens nodes low q n.own.parts n.below h)
      (enters spelling typed n.own.first role.Enumerator refl (apart.enumerators q n.own n.at n.kind))))

  -- ---- declarators and their names

  -- the scopes behind a declarator's name
  abbrev pub entered : Manner → Bool → ℕ → Scopes → Scopes
  entered declaring type token c = enter (record { name = spelling token; is_type = type }) c
  entered parametric type token c = enter (record { name = spelling token; is_type = type }) c
  entered member_wise type token c = c

  name_follows : (m : Manner) (way : Naming) (type : Bool) (next : Derivation) (token : ℕ) (c : Scopes) → typed token ≡ false → Agrees m way type → G c (entered m type token c) (event_by way next token ∷ [])
  name_follows declaring (Declared storage) type next token c non agrees =
      subst (λ x. G c (enter (record { name = spelling token; is_type = x }) c) (event.Name token (role_by storage next) ∷ [])) (declared_typedef storage next ∙ agrees)
      (enters spelling typed token (role_by storage next) (declared_ordinary storage next) non)
  name_follows parametric Parameters type next token c non agrees =
      subst (λ x. G c (enter (record { name = spelling token; is_type = x }) c) (event.Name token role.Parameter ∷ [])) (sym agrees)
      (enters spelling typed token role.Parameter refl non)
  name_follows member_wise (Members structure) type next token c non agrees = belongs spelling typed token structure
  name_follows declaring Parameters type next token c non agrees = absurd agrees
  name_follows declaring (Members structure) type next token c non agrees = absurd agrees
  name_follows parametric (Declared storage) type next token c non agrees = absurd agrees
  name_follows parametric (Members structure) type next token c non agrees = absurd agrees
  name_follows member_wise Parameters type next token c non agrees = absurd agrees
  name_follows member_wise (Declared storage) type next token c non agrees = absurd agrees

  -- a declarator, and its name behind it
  pub declarator_makes : {t : Trees} {c out : Scopes} {q : ℕ} (m : Manner) (way : Naming) (type : Bool) (bound : ℕ) → q < bound → Agrees m way type → (x : IsDeclared spelling typed tokens nodes low t c out q)
      → M bound c (entered m type (declared_in t) x.outer) (declarator_in way nodes q)
  declarator_makes {t = t} {c = c} {q = q} m way type bound lt agrees x =
      subst (λ steps. M bound c (entered m type (declared_in t) x.outer) (Inside q ∷ steps)) (sym (named_is way (declarator_of nodes q) (declared_in t) x.name))
      (in_turn spelling typed (goes_below spelling typed tokens nodes low bound q lt x.follows)
      (name_follows m way type (declarator_of nodes q).next (declared_in t) x.outer (apart.declared q (declared_in t) x.name) agrees))

  -- one alone
  pub declared_alone : {t : Trees} {c out : Scopes} {q : ℕ} (m : Manner) (way : Naming) (type : Bool) (bound : ℕ) → q < bound → Agrees m way type → (x : IsDeclared spelling typed tokens nodes low t c out q)
      → M bound c (entered m type (declared_in t) x.outer) (declares way nodes q (kind_at nodes q))
  declared_alone {t = t} {c = c} m way type bound lt agrees x =
      subst (λ steps. M bound c (entered m type (declared_in t) x.outer) steps) (sym (x.by_itself way)) (declarator_makes m way type bound lt agrees x)

  -- one with its initialiser
  pub declared_initialised : {t b : Trees} {c out e : Scopes} {q r p i j : ℕ} (way : Naming) (type : Bool) (bound : ℕ) → q < bound → Agrees declaring way type
      → (n : N q kind.InitDeclarator i j b) → n.own.parts ≡ r ∷ p ∷ [] → r < q → p < q → (x : IsDeclared spelling typed tokens nodes low t c out r)
      → G (entered declaring type (declared_in t) x.outer) e (told p) → M bound c e (declares way nodes q (kind_at nodes q))
  declared_initialised {c = c} {e = e} {q = q} {r = r} {p = p} way type bound lt agrees n parts lr lp x y =
      subst (λ o. M bound c e (declares way nodes q o)) (sym (kind_is spelling typed tokens nodes low n))
      (subst (λ ps. M bound c e (initialised way nodes ps)) (sym (parts_are spelling typed tokens nodes low n ∙ parts))
      (does_more spelling typed (below spelling typed tokens nodes low bound) (declarator_in way nodes r ++ []) (inside (p ∷ []))
      (does_more spelling typed (below spelling typed tokens nodes low bound) (declarator_in way nodes r) [] (declarator_makes declaring way type bound (omega (arith, lt, lr)) agrees x) (nothing spelling typed _))
      (in_turn spelling typed (goes_below spelling typed tokens nodes low bound p (omega (arith, lt, lp)) y) (nothing spelling typed e))))

  -- an abstract declarator has no name
  pub unnamed : {c e : Scopes} {q : ℕ} (way : Naming) (bound : ℕ) → q < bound → declarator_of nodes q ≡ nowhere → declares way nodes q (kind_at nodes q) ≡ declarator_in way nodes q → G c e (told q)
      → M bound c e (declares way nodes q (kind_at nodes q))
  unnamed {c = c} {e = e} {q = q} way bound lt nameless same h =
      subst (λ steps. M bound c e steps) (sym same)
      (subst (λ d. M bound c e (Inside q ∷ named way d)) (sym nameless) (in_turn spelling typed (goes_below spelling typed tokens nodes low bound q lt h) (nothing spelling typed e)))

  -- ---- declarations

  -- specifiers and declarators
  pub declaration_makes : {c d e : Scopes} (bound q : ℕ) (qs : List ℕ) (way : Naming) → q < bound → G c d (told q) → M bound d e (flat_map (λ p. declares way nodes p (kind_at nodes p)) qs)
      → M bound c e (declaration_in way nodes (q ∷ qs))
  declaration_makes bound q qs way lt x y = in_turn spelling typed (goes_below spelling typed tokens nodes low bound q lt x) y

  -- what leaves the scopes as they are
  unchanged : {c d : Scopes} {es : List Event} → G c d es → G c c es → d ≡ c
  unchanged {c = c} h g = h.parsed ∙ sym (h.told c) ∙ g.told c ∙ sym g.parsed

  -- `struct T;` tells its tag alone, which enters nothing either
  lone_makes : {c d : Scopes} (bound q : ℕ) (o : Option Node) → slice_get nodes q ≡ o → q < bound → G c d (told q) → M bound c d (lone_specifiers nodes q (kind_if o))
  lone_makes {c = c} {d = d} bound q None e lt h = in_turn spelling typed (goes_below spelling typed tokens nodes low bound q lt h) (nothing spelling typed d)
  lone_makes {c = c} {d = d} bound q (Some m) e lt h = by m.kind refl
    where
      by : (k : Kind) → m.kind ≡ k → M bound c d (lone_specifiers nodes q (Some k))
      by kind.StructTag f =
          let non = apart.tags q m e (ap is_tagged f) in
          let mine : N q kind.StructTag m.first (m.last + 1) (row_in nodes m.parts) =
          record { own = m; at = e; kind = f; first = refl; parts = refl; below = low q m e; within = λ i l. (let w = slice_get_within nodes q m e in let z = low q m e i l in omega (arith, w, z)) } in
          subst (λ o. M bound c d (lone_tag o)) (sym (ap first_if e))
          (subst (λ x. G c x (event.Name (m.first + 1) role.Alone ∷ [])) (sym (unchanged h (at_struct_tag mine))) (mentions spelling typed (m.first + 1) role.Alone refl non))
      by k f = in_turn spelling typed (goes_below spelling typed tokens nodes low bound q lt h) (nothing spelling typed d)

  pub at_declaration : {c d e : Scopes} {q i j r x y : ℕ} {k : Kind} {b t : Trees} (n : N q kind.Declaration i j b) (qs : List ℕ) (type : Bool) → n.own.parts ≡ r ∷ qs → r < q → AreBelow qs q → N r k x y t
      → is_plain_list k ≡ false → type ≡ specifies is_typedef k t → G c d (told r)
      → ((bound : ℕ) (way : Naming) → AreBelow qs bound → Agrees declaring way type → M bound d e (flat_map (λ p. declares way nodes p (kind_at nodes p)) qs)) → G c e (told q)
  at_declaration {c = c} {d = d} {e = e} {q = q} {r = r} n qs type parts lt under m listed says first others =
      of_node spelling typed tokens nodes low n (subst (λ ps. M q c e (declaration nodes ps)) (sym parts) (by qs under others agrees))
    where
      agrees : is_word (storage_of nodes (r ∷ qs)) ≡ type
      agrees = storage_says nodes low qs listed m ∙ sym says

      by : (ps : List ℕ) → AreBelow ps q → ((bound : ℕ) (way : Naming) → AreBelow ps bound → Agrees declaring way type → M bound d e (flat_map (λ p. declares way nodes p (kind_at nodes p)) ps))
          → is_word (storage_of nodes (r ∷ ps)) ≡ type → M q c e (declaration nodes (r ∷ ps))
      by [] under others agrees =
          let same : e ≡ d = unchanged (others q (Declared (storage_of nodes (r ∷ []))) under agrees) (nothing spelling typed d) in
          subst (λ z. M q c z (lone_specifiers nodes r (kind_at nodes r))) (sym same) (lone_makes q r (slice_get nodes r) refl lt first)
      by (p ∷ ps) under others agrees =
          declaration_makes q r (p ∷ ps) (Declared (storage_of nodes (r ∷ p ∷ ps))) lt first (others q (Declared (storage_of nodes (r ∷ p ∷ ps))) under agrees)

  pub at_parameter : {c d e : Scopes} {q i j r p x y : ℕ} {k : Kind} {b t : Trees} (n : N q kind.Parameter i j b) (type : Bool) → n.own.parts ≡ r ∷ p ∷ [] → r < q → p < q → N r k x y t
      → is_plain_list k ≡ false → type ≡ specifies is_typedef k t → storage_of nodes n.own.parts ≢ TypedefWord → G c d (told r)
      → ((bound : ℕ) (way : Naming) → p < bound → Agrees parametric way type → M bound d e (declares way nodes p (kind_at nodes p))) → G c e (told q)
  at_parameter {c = c} {d = d} {e = e} {q = q} {r = r} {p = p} n type parts lr lp m listed says not first other =
      of_node spelling typed tokens nodes low n
      (subst (λ ps. M q c e (declaration_in Parameters nodes ps)) (sym parts)
      (declaration_makes q r (p ∷ []) Parameters lr first
      (does_more spelling typed (below spelling typed tokens nodes low q) (declares Parameters nodes p (kind_at nodes p)) [] (other q Parameters lp none) (nothing spelling typed e))))
    where
      no_word : (s : Storage) → s ≢ TypedefWord → is_word s ≡ false
      no_word TypedefWord f = absurd (f refl)
      no_word ExternWord f = refl
      no_word NoWord f = refl

      none : type ≡ false
      none = says ∙ sym (storage_says nodes low (p ∷ []) listed m) ∙ ap (λ ps. is_word (storage_of nodes ps)) (sym parts) ∙ no_word (storage_of nodes n.own.parts) not

  pub at_members : {c d e : Scopes} {r : ℕ} {m : Node} (type : Bool) (bound structure q : ℕ) (qs : List ℕ) → slice_get nodes q ≡ Some m → m.parts ≡ r ∷ qs → r < bound → AreBelow qs bound → G c d (told r)
      → ((bound : ℕ) (way : Naming) → AreBelow qs bound → Agrees member_wise way type → M bound d e (flat_map (λ p. declares way nodes p (kind_at nodes p)) qs)) → M bound c e (members_of nodes structure q)
  at_members {c = c} {e = e} {r = r} type bound structure q qs here parts lt under first others =
      subst (λ ps. M bound c e (declaration_in (Members structure) nodes ps)) (sym (ap parts_if here ∙ parts))
      (declaration_makes bound r qs (Members structure) lt first (others bound (Members structure) under tt))

  -- ---- statements

  -- a block of one part
  pub one_block : {c e : Scopes} {names : List TypeName} (bound q : ℕ) → q < bound → G ([] ∷ c) (names ∷ e) (told q) → M bound c e (in_scope (Inside q ∷ []))
  one_block {e = e} {names = names} bound q lt h =
      does_scope spelling typed (below spelling typed tokens nodes low bound) (Inside q ∷ []) (in_turn spelling typed (goes_below spelling typed tokens nodes low bound q lt h) (nothing spelling typed (names ∷ e)))

  pub at_compound : {c e : Scopes} {names : List TypeName} {q i j : ℕ} {b : Trees} (n : N q kind.Compound i j b) → G ([] ∷ c) (names ∷ e) (flat_map told n.own.parts) → G c e (told q)
  at_compound {e = e} {names = names} {q = q} n h =
      of_node spelling typed tokens nodes low n
      (does_scope spelling typed (below spelling typed tokens nodes low q) ((inside n.own.parts ++ []) ++ [])
      (does_more spelling typed (below spelling typed tokens nodes low q) (inside n.own.parts ++ []) []
      (does_more spelling typed (below spelling typed tokens nodes low q) (inside n.own.parts) [] (all_below spelling typed tokens nodes low q n.own.parts n.below h) (nothing spelling typed (names ∷ e)))
      (nothing spelling typed (names ∷ e))))

  -- an expression, and a block behind it
  block_behind : {c d e : Scopes} {names : List TypeName} (q r p : ℕ) → r < q → p < q → G c d (told r) → G ([] ∷ d) (names ∷ e) (told p) → M q c e (Inside r ∷ in_scope (Inside p ∷ []))
  block_behind q r p lr lp x y = in_turn spelling typed (goes_below spelling typed tokens nodes low q r lr x) (one_block q p lp y)

  pub while_makes : {c d e : Scopes} {names own : List TypeName} (q r p : ℕ) → r < q → p < q → G ([] ∷ c) d (told r) → G ([] ∷ d) (names ∷ own ∷ e) (told p) → M q c e (block (take 1 (r ∷ p ∷ [])) (drop 1 (r ∷ p ∷ [])) [])
  while_makes q r p lr lp x y = does_scope spelling typed (below spelling typed tokens nodes low q) (Inside r ∷ in_scope (Inside p ∷ [])) (block_behind q r p lr lp x y)

  pub else_makes : {c d e f : Scopes} {names others own : List TypeName} (q r p s : ℕ) → r < q → p < q → s < q → G ([] ∷ c) d (told r) → G ([] ∷ d) (names ∷ e) (told p) → G ([] ∷ e) (others ∷ own ∷ f) (told s)
      → M q c f (block (take 1 (r ∷ p ∷ s ∷ [])) (drop 1 (r ∷ p ∷ s ∷ [])) [])
  else_makes q r p s lr lp ls x y z =
      does_scope spelling typed (below spelling typed tokens nodes low q) (Inside r ∷ in_scope (Inside p ∷ []) ++ in_scope (Inside s ∷ []))
      (does_more spelling typed (below spelling typed tokens nodes low q) (Inside r ∷ in_scope (Inside p ∷ [])) (in_scope (Inside s ∷ [])) (block_behind q r p lr lp x y) (one_block q s ls z))

  pub do_makes : {c d e : Scopes} {names own : List TypeName} (q p r : ℕ) → p < q → r < q → G ([] ∷ ([] ∷ c)) (names ∷ d) (told p) → G d (own ∷ e) (told r) → M q c e (block [] (take 1 (p ∷ r ∷ [])) (drop 1 (p ∷ r ∷ [])))
  do_makes {e = e} {own = own} q p r lp lr y x =
      does_scope spelling typed (below spelling typed tokens nodes low q) (in_scope (Inside p ∷ []) ++ (Inside r ∷ []))
      (does_more spelling typed (below spelling typed tokens nodes low q) (in_scope (Inside p ∷ [])) (Inside r ∷ []) (one_block q p lp y)
      (in_turn spelling typed (goes_below spelling typed tokens nodes low q r lr x) (nothing spelling typed (own ∷ e))))

  -- all but the last of a list, and the last
  all_but : (cs : List ℕ) (l : ℕ) → take (length (cs ++ l ∷ []) - 1) (cs ++ l ∷ []) ≡ cs
  all_but cs l = let e : length (cs ++ l ∷ []) - 1 ≡ length cs = omega (arith, length-append cs (l ∷ [])) in ap (λ k. take k (cs ++ l ∷ [])) e ∙ take-append_seam cs (l ∷ [])

  last_one : (cs : List ℕ) (l : ℕ) → drop (length (cs ++ l ∷ []) - 1) (cs ++ l ∷ []) ≡ l ∷ []
  last_one cs l = let e : length (cs ++ l ∷ []) - 1 ≡ length cs = omega (arith, length-append cs (l ∷ [])) in ap (λ k. drop k (cs ++ l ∷ [])) e ∙ dropped cs
    where
      dropped : (ds : List ℕ) → drop (length ds) (ds ++ l ∷ []) ≡ l ∷ []
      dropped [] = refl
      dropped (d ∷ ds) = dropped ds

  abbrev loop_steps : List ℕ → List Step
  loop_steps ps = block (take (length ps - 1) ps) (drop (length ps - 1) ps) []

  first_below : (cs : List ℕ) (l bound : ℕ) → AreBelow (cs ++ l ∷ []) bound → AreBelow cs bound × (l < bound)
  first_below [] l bound under = ((λ i lt. absurd (omega (arith, lt))), below_first l [] bound under)
  first_below (c ∷ cs) l bound under = let r = first_below cs l bound (below_rest c (cs ++ l ∷ []) bound under) in (all_of r.0, r.1)
    where
      all_of : AreBelow cs bound → (i : ℕ) → i < length (c ∷ cs) → slice_index (c ∷ cs) i < bound
      all_of r zero lt = below_first c (cs ++ l ∷ []) bound under
      all_of r (suc i) lt = r i (omega (arith, lt))

  -- the clauses of a loop, and a block behind them
  loop_events : (q l : ℕ) (cs : List ℕ) → AreBelow cs q → l < q
      → flat_map (events_by (below spelling typed tokens nodes low q)) (inside cs ++ in_scopes (l ∷ [])) ≡ flat_map told cs ++ (event.Opens ∷ (told l ++ event.Closes ∷ []))
  loop_events q l cs under lt =
      flat_map-append (events_by (below spelling typed tokens nodes low q)) (inside cs) (in_scopes (l ∷ []))
      ∙ ap (λ es. es ++ (event.Opens ∷ (below spelling typed tokens nodes low q l ++ event.Closes ∷ []))) (inside_is spelling typed (below spelling typed tokens nodes low q) cs ∙ below_all spelling typed tokens nodes low q cs under)
      ∙ ap (λ es. flat_map told cs ++ (event.Opens ∷ (es ++ event.Closes ∷ []))) (below_is spelling typed tokens nodes low q l lt)

  pub at_for : {c e : Scopes} {q i j : ℕ} {b : Trees} (n : N q kind.For i j b) → IsLoop spelling typed tokens nodes ([] ∷ c) e n.own.parts → G c e (told q)
  at_for {c = c} {e = e} {q = q} n loop =
      let under = first_below loop.clauses loop.last q (subst (λ ps. AreBelow ps q) loop.is n.below) in
      let whole : M q ([] ∷ c) (loop.names ∷ e) (inside loop.clauses ++ in_scopes (loop.last ∷ [])) =
      subst (λ es. G ([] ∷ c) (loop.names ∷ e) es) (sym (loop_events q loop.last loop.clauses under.0 under.1)) loop.follows in
      let made : M q c e (block loop.clauses (loop.last ∷ []) []) =
      does_scope spelling typed (below spelling typed tokens nodes low q) ((inside loop.clauses ++ in_scopes (loop.last ∷ [])) ++ [])
      (does_more spelling typed (below spelling typed tokens nodes low q) (inside loop.clauses ++ in_scopes (loop.last ∷ [])) [] whole (nothing spelling typed (loop.names ∷ e))) in
      of_node spelling typed tokens nodes low n
      (subst (λ ps. M q c e (loop_steps ps)) (sym loop.is)
      (subst (λ ps. M q c e (block ps (drop (length (loop.clauses ++ loop.last ∷ []) - 1) (loop.clauses ++ loop.last ∷ [])) [])) (sym (all_but loop.clauses loop.last))
      (subst (λ ps. M q c e (block loop.clauses ps [])) (sym (last_one loop.clauses loop.last)) made)))

  -- ---- definitions

  -- the names that stand in the scope of a definition's body
  definition_events : (q p s : ℕ) → AreBelow (list_of nodes (declarator_of nodes p).next) q → AreBelow (parts_at nodes s) q
      → flat_map (events_by (below spelling typed tokens nodes low q)) (in_scope ((own_parameters nodes p ++ []) ++ (items_of nodes s ++ [])))
      ≡ event.Opens ∷ ((flat_map told (list_of nodes (declarator_of nodes p).next) ++ flat_map told (parts_at nodes s)) ++ event.Closes ∷ [])
  definition_events q p s under within =
      let ev = events_by (below spelling typed tokens nodes low q) in
      let list = inside (list_of nodes (declarator_of nodes p).next) in
      let items = inside (parts_at nodes s) in
      ap (λ es. event.Opens ∷ es) (flat_map-append ev ((list ++ []) ++ (items ++ [])) (Happens event.Closes ∷ []))
      ∙ ap (λ steps. event.Opens ∷ (flat_map ev (steps ++ (items ++ [])) ++ event.Closes ∷ [])) (append-nil list)
      ∙ ap (λ steps. event.Opens ∷ (flat_map ev (list ++ steps) ++ event.Closes ∷ [])) (append-nil items)
      ∙ ap (λ es. event.Opens ∷ (es ++ event.Closes ∷ [])) (flat_map-append ev list items)
      ∙ ap (λ es. event.Opens ∷ ((es ++ flat_map ev items) ++ event.Closes ∷ []))
      (inside_is spelling typed (below spelling typed tokens nodes low q) (list_of nodes (declarator_of nodes p).next) ∙ below_all spelling typed tokens nodes low q (list_of nodes (declarator_of nodes p).next) under)
      ∙ ap (λ es. event.Opens ∷ ((flat_map told (list_of nodes (declarator_of nodes p).next) ++ es) ++ event.Closes ∷ []))
      (inside_is spelling typed (below spelling typed tokens nodes low q) (parts_at nodes s) ∙ below_all spelling typed tokens nodes low q (parts_at nodes s) within)

  pub at_definition : {c d out e : Scopes} {names other : List TypeName} {q i j r p s x y u v : ℕ} {k : Kind} {b t td tb : Trees} (n : N q kind.FunctionDefinition i j b) (type : Bool)
      → n.own.parts ≡ r ∷ p ∷ s ∷ [] → r < q → p < q → s < q → N r k x y t → is_plain_list k ≡ false → type ≡ specifies is_typedef k t → G c d (told r)
      → (z : IsDeclared spelling typed tokens nodes low td d out p) → (w : N s kind.Compound u v tb)
      → G ([] ∷ (z.own ∷ enter (record { name = spelling (declared_in td); is_type = type }) z.outer)) (names ∷ (other ∷ e)) (flat_map told w.own.parts) → G c e (told q)
  at_definition {c = c} {e = e} {names = names} {other = other} {q = q} {r = r} {p = p} {s = s} {td = td} n type parts lr lp ls m listed says first z w items =
      let way = Declared (storage_of nodes (r ∷ p ∷ s ∷ [])) in
      let agrees : is_word (storage_of nodes (r ∷ p ∷ s ∷ [])) ≡ type = storage_says nodes low (p ∷ s ∷ []) listed m ∙ sym says in
      let bound = below spelling typed tokens nodes low q in
      let head : M q c (enter (record { name = spelling (declared_in td); is_type = type }) z.outer) (declaration_in way nodes (r ∷ p ∷ [])) =
      declaration_makes q r (p ∷ []) way lr first
      (does_more spelling typed bound (declares way nodes p (kind_at nodes p)) [] (declared_alone declaring way type q lp agrees z) (nothing spelling typed _)) in
      let their : parts_at nodes s ≡ w.own.parts = parts_are spelling typed tokens nodes low w in
      let under : AreBelow (list_of nodes (declarator_of nodes p).next) q = (λ a l. let o = z.owns.under a l in omega (arith, o, lp)) in
      let within : AreBelow (parts_at nodes s) q = subst (λ ps. AreBelow ps q) (sym their) (λ a l. let o = w.below a l in omega (arith, o, ls)) in
      let body = definition_events q p s under within in
      let block-of = in_scope ((own_parameters nodes p ++ []) ++ (items_of nodes s ++ [])) in
      of_node spelling typed tokens nodes low n
      (subst (λ ps. M q c e (definition nodes ps)) (sym parts)
      (subst (λ es. G c e es) (sym (flat_map-append (events_by bound) (declaration_in way nodes (r ∷ p ∷ [])) block-of))
      (subst (λ es. G c e (flat_map (events_by bound) (declaration_in way nodes (r ∷ p ∷ [])) ++ es)) (sym body)
      (again_block spelling typed (flat_map (events_by bound) (declaration_in way nodes (r ∷ p ∷ []))) (flat_map told (list_of nodes (declarator_of nodes p).next)) (flat_map told (parts_at nodes s)) z.owns.names head z.owns.is z.owns.told
      (λ token h.
      let here = z.owns.again token h in
      let there : is_named token (bound p) ≡ true = ap (is_named token) (below_is spelling typed tokens nodes low q p lp) ∙ here in
      named_right token (bound r) (flat_map (events_by bound) (declares way nodes p (kind_at nodes p) ++ []))
      (subst (λ steps. is_named token (flat_map (events_by bound) (steps ++ [])) ≡ true) (sym (z.by_itself way)) (named_left token (bound p) (flat_map (events_by bound) (named way (declarator_of nodes p) ++ [])) there)))
      (subst (λ ps. G ([] ∷ (z.own ∷ enter (record { name = spelling (declared_in td); is_type = type }) z.outer)) (names ∷ (other ∷ e)) (flat_map told ps)) (sym their) items)))))
