-- A tag finds one that is declared: the first token that declares what it stands for is a node's tag.
use Rattle.std.proofs.Common.{◌≡◌, ℕ, zero, suc, ◌+◌, ◌<◌, ◌&&◌, ◌⊎◌, inl, inr, Bool, true, false, List, [], ◌∷◌, ◌++◌, Option, None, Some, length, slice_get, slice_index_or, refl, sym, ap, subst, ◌∙◌, if◌then◌else◌, arith}
use Rattle.std.specs.Option.{is_some}
use Rattle.std.proofs.lemmas.Bool.{false≢true, eq-eqb, cases_lt, lt-ltb}
use Rattle.std.proofs.lemmas.Option.{slice_get_within, same_Some}
use Rattle.cr_tokens.specs.declared.token.Token.{Token}
use Rattle.cr_syntax.specs.declared.node.Kind.{Kind}
use Rattle.cr_syntax.specs.declared.node.Kind.TheVariants as kind
use Rattle.cr_syntax.specs.declared.node.Node.{Node}
use Rattle.cr_syntax.specs.declared.unit.Unit as source
use Rattle.cr_syntax_order.specs.Listed.{AreListed}
use Rattle.cr_scopes_events.specs.declared.event.Role.{Role}
use Rattle.cr_scopes_events.specs.declared.event.Role.TheVariants as role
use Rattle.cr_scopes_events.specs.declared.event.Event.{Event}
use Rattle.cr_scopes_events.specs.declared.event.Event.TheVariants as event
use Rattle.cr_scopes.specs.declared.names.Entity.{Entity}
use Rattle.cr_scopes.specs.declared.names.Names.{Names}
use Rattle.cr_scopes.specs.declared.told.Told.{Told}
use Rattle.cr_scopes.specs.declared.scope.Space.TheVariants.{Tag}
use Rattle.cr_scopes.specs.Faults.{is_typedef}
use Rattle.cr_scopes.specs.Looking.{stands_in}
use Rattle.cr_scopes.specs.Resolved.{told, begins, count_of, number_of, with_token, is_number, entity_of, past_of, told_below}
use Rattle.cr_scopes.specs.Spelled.{name_of}
use Rattle.cr_scopes.specs.Units.{unit_events, AreUnitNames}
use Rattle.cr_scopes_visibility.proofs.AloneLemmas.Telling.{AreRight, all_right}
use Rattle.cr_scopes_visibility.proofs.AloneLemmas.First.{one_number, number_is, number_same, told_there, rises}
use Rattle.cr_scopes_bindings.specs.Last.{last_with}
use Rattle.cr_scopes_bindings.specs.Nodes.{tag_by, tag_if, tag_at}
use Rattle.cr_scopes_bindings.specs.Entities.{entity_within, entity_at, first_in, first_if, first_of}
use Rattle.cr_scopes_bindings.specs.Bindings.{entry_if, tag_for}
use Rattle.cr_scopes_linkage.specs.Shared.Sorts.{is_value, is_tag}
use Rattle.cr_scopes_linkage.proofs.SharedLemmas.Looked.{Once, Ways, ways, values, types, tags, itself}
use Rattle.cr_scopes_visibility.specs.Tagged.Tagged.{AreTagsApart, StandsForTag, IsTagOfNode, IsMarked, AreMarked}
use Rattle.cr_scopes_visibility.proofs.TaggedLemmas.Walks.{marked, stand}
use Rattle.cr_check_declarations.specs.declared.tree.Tree.{Tree}
use Rattle.cr_check_surroundings.specs.declared.surroundings.Surroundings.{Surroundings}
use Rattle.cr_check_surroundings.specs.Surroundings.{AreSurroundings, IsTree}
use Rattle.cr_check_surroundings.specs.Named.{tag_with, tag_if as tag_known}
use Rattle.cr_meaning_types.specs.Known.Sighted.{is_tagged}

-- ---- columns

last_some : (key : ℕ → Option ℕ) (bound k p : ℕ) → p < bound → key p ≡ Some k → is_some (last_with key bound k) ≡ true
last_some key zero k p low e = absurd (omega (arith, low))
last_some key (suc i) k p low e = by (λ less. last_some key i k p less e) (is_number (key i) k) refl
  where
    by : (p < i → is_some (last_with key i k) ≡ true) → (b : Bool) → is_number (key i) k ≡ b → is_some (if b then Some i else last_with key i k) ≡ true
    by rest true q = refl
    by rest false q = elim (cases_lt p i) [
      | inl less ↦ rest less
      | inr ge ↦ (let same : p ≡ i = omega (arith, ge, low) in
          absurd (false≢true (sym q ∙ ap (λ o. is_number o k) (sym (ap key same) ∙ e) ∙ eq-eqb k k refl)))
    ]

-- ---- entities

-- a token that begins an entity is counted
counted : (at : ℕ → Option Told) (a bound : ℕ) → begins (at a) a ≡ true → a < bound → count_of at a < count_of at bound
counted at a bound h low =
    let x : count_of at (suc a) ≡ count_of at a + 1 = ap (λ b. if b then count_of at a + 1 else count_of at a) h in
    let y = rises at (suc a) bound (omega (arith, low)) in
    omega (arith, x, y)

-- what one token adds to what is declared
record Adds (t : ℕ) (o : Option Told) (old new : Entity) : Type 0 where
  kept : (f : ℕ) → first_in old.declared ≡ Some f → first_in new.declared ≡ Some f
  own : (x : Told) → o ≡ Some x → x.declares ≡ true → is_some (first_in new.declared) ≡ true
  only : (f : ℕ) → first_in new.declared ≡ Some f → (first_in old.declared ≡ Some f) ⊎ ((f ≡ t) × ((x : Told) × ((o ≡ Some x) × (x.declares ≡ true))))

first_kept : (ds : List ℕ) (t f : ℕ) → first_in ds ≡ Some f → first_in (ds ++ t ∷ []) ≡ Some f
first_kept [] t f e = let never : None ≡ Some f = e in absurd cc
first_kept (d ∷ ds) t f e = e

first_there : (ds : List ℕ) (t : ℕ) → is_some (first_in (ds ++ t ∷ [])) ≡ true
first_there [] t = refl
first_there (d ∷ ds) t = refl

first_only : (ds : List ℕ) (t f : ℕ) → first_in (ds ++ t ∷ []) ≡ Some f → (first_in ds ≡ Some f) ⊎ (f ≡ t)
first_only [] t f e = let same : t ≡ f = cc in inr (sym same)
first_only (d ∷ ds) t f e = inl e

adds : (t : ℕ) (o : Option Told) (e : Entity) → Adds t o e (with_token t o e)
adds t None e = record { kept = λ f h. h; own = λ x h d. (let never : None ≡ Some x = h in absurd cc); only = λ f h. inl h }
adds t (Some x) e = by x.declares refl
  where
    by : (b : Bool) → x.declares ≡ b
        → Adds t (Some x) e (if b then record { declared = e.declared ++ t ∷ []; uses = e.uses; space = x.space } else record { declared = e.declared; uses = e.uses ++ t ∷ []; space = x.space })
    by true q = record {
      kept = λ f h. first_kept e.declared t f h;
      own = λ y h d. first_there e.declared t;
      only = λ f h. elim (first_only e.declared t f h) [ inl z ↦ inl z | inr z ↦ inr (z, (x, (refl, q))) ];
    }
    by false q = record {
      kept = λ f h. h;
      own = λ y h d. (let same : x ≡ y = cc in absurd (false≢true (sym q ∙ ap (λ (z : Told). z.declares) same ∙ d)));
      only = λ f h. inl h;
    }

some_is : (o : Option ℕ) → is_some o ≡ true → (f : ℕ) × (o ≡ Some f)
some_is None e = absurd (false≢true e)
some_is (Some f) e = (f, refl)

module _ (at : ℕ → Option Told) (k : ℕ) where
  abbrev firsts : ℕ → Option ℕ
  firsts m = first_in (entity_of at m k).declared

  -- the first token that declares an entity declares it
  record Declares (f : ℕ) : Type 0 where
    what : Told
    is : at f ≡ Some what
    declares : what.declares ≡ true
    number : number_of at (at f) ≡ Some k

  first_declares : (m f : ℕ) → firsts m ≡ Some f → Declares f
  first_declares zero f e = let never : None ≡ Some f = e in absurd cc
  first_declares (suc m) f e = by (λ g. first_declares m f g) (is_number (number_of at (at m)) k) refl e
    where
      by : (firsts m ≡ Some f → Declares f) → (b : Bool) → is_number (number_of at (at m)) k ≡ b → first_in (if b then with_token m (at m) (entity_of at m k) else entity_of at m k).declared ≡ Some f → Declares f
      by rest true q g = elim ((adds m (at m) (entity_of at m k)).only f g) [
        | inl z ↦ rest z
        | inr z ↦ subst Declares (sym z.0) (record { what = z.1.0; is = z.1.1.0; declares = z.1.1.1; number = number_same (number_of at (at m)) k q })
      ]
      by rest false q g = rest g

  first_is_there : (m a : ℕ) (own : Told) → a < m → at a ≡ Some own → own.declares ≡ true → number_of at (at a) ≡ Some k → is_some (firsts m) ≡ true
  first_is_there zero a own low here d n = absurd (omega (arith, low))
  first_is_there (suc m) a own low here d n = by (λ less. first_is_there m a own less here d n) (is_number (number_of at (at m)) k) refl
    where
      by : (a < m → is_some (firsts m) ≡ true) → (b : Bool) → is_number (number_of at (at m)) k ≡ b → is_some (first_in (if b then with_token m (at m) (entity_of at m k) else entity_of at m k).declared) ≡ true
      by before true q = elim (cases_lt a m) [
        | inl less ↦ (let x = some_is (firsts m) (before less) in ap is_some ((adds m (at m) (entity_of at m k)).kept x.0 x.1))
        | inr ge ↦ (let same : a ≡ m = omega (arith, ge, low) in (adds m (at m) (entity_of at m k)).own own (sym (ap at same) ∙ here) d)
      ]
      by before false q = elim (cases_lt a m) [
        | inl less ↦ before less
        | inr ge ↦ (let same : a ≡ m = omega (arith, ge, low) in
            absurd (false≢true (sym q ∙ ap (λ o. is_number o k) (sym (ap (λ x. number_of at (at x)) same) ∙ n) ∙ eq-eqb k k refl)))
      ]

-- ---- how tokens are told

value_out : (r : Role) → is_value r ≡ true → stands_in Tag r ≡ false
value_out role.Object h = refl
value_out role.ExternObject h = refl
value_out role.Function h = refl
value_out r h = absurd (false≢true h)

type_out : (r : Role) → is_typedef r ≡ true → stands_in Tag r ≡ false
type_out role.Typedef h = refl
type_out r h = absurd (false≢true h)

tag_in : (r : Role) → is_tag r ≡ true → stands_in Tag r ≡ true
tag_in role.Content h = refl
tag_in role.Alone h = refl
tag_in role.Mentioned h = refl
tag_in r h = absurd (false≢true h)

once_marked : (ks : List Token) (nodes : List Node) (test : Role → Bool) (t : ℕ) (past : List Event) → AreMarked ks nodes past → Once test t past → (r : Role) × ((test r ≡ true) × IsMarked ks nodes t r)
once_marked ks nodes test t [] m h = absurd h
once_marked ks nodes test t (event.Name u r ∷ past) m (inl h) = (r, (h.1, subst (λ x. IsMarked ks nodes x r) h.0 m.0))
once_marked ks nodes test t (event.Name u r ∷ past) m (inr h) = once_marked ks nodes test t past m.1 h
once_marked ks nodes test t (event.Opens ∷ past) m h = once_marked ks nodes test t past m h
once_marked ks nodes test t (event.Closes ∷ past) m h = once_marked ks nodes test t past m h
once_marked ks nodes test t (event.Member u k ∷ past) m h = once_marked ks nodes test t past m h
once_marked ks nodes test t (event.Node i ∷ past) m h = once_marked ks nodes test t past m h

-- what declares the same as a tag is one
with_tag : (name : ℕ → ℕ) (ks : List Token) (nodes : List Node) (f first : ℕ) (past : List Event) → AreMarked ks nodes past → IsTagOfNode ks nodes first → Ways name f first past → IsTagOfNode ks nodes f
with_tag name ks nodes f first past m own (values a b) = let x = once_marked ks nodes is_value first past m b in absurd (x.1.1.other (value_out x.0 x.1.0) own)
with_tag name ks nodes f first past m own (types a b) = let x = once_marked ks nodes is_typedef first past m b in absurd (x.1.1.other (type_out x.0 x.1.0) own)
with_tag name ks nodes f first past m own (tags a b) = let x = once_marked ks nodes is_tag f past m a in x.1.1.tag (tag_in x.0 x.1.0)
with_tag name ks nodes f first past m own (itself e) = subst (IsTagOfNode ks nodes) e own

module _ (file : List ℕ) (unit : source.Unit) (names : Names) (s : Surroundings) (u : Tree) (are : AreSurroundings file unit names s) (tree : IsTree file unit s u) (known : AreUnitNames file unit names)
    (listed : AreListed unit.nodes 0 unit.items (length unit.nodes)) (apart : AreTagsApart unit.tokens.list.items unit.nodes)
    (within : (i token : ℕ) → tag_at unit.nodes unit.tokens.list.items i ≡ Some token → token < length unit.tokens.list.items) where
  abbrev ks : List Token
  ks = unit.tokens.list.items

  abbrev name : ℕ → ℕ
  name = name_of file ks

  abbrev past : List Event
  past = past_of (unit_events unit) (length (unit_events unit))

  abbrev at : ℕ → Option Told
  at t = told_below name (unit_events unit) (length ks) t

  at_is : (t : ℕ) → t < length ks → at t ≡ told name t past
  at_is t low = ap (λ b. if b then told name t past else None) (lt-ltb t (length ks) low)

  right : AreRight name past
  right = all_right name (unit_events unit) known.right (length (unit_events unit))

  -- the first declaration of what a tag stands for is a node's tag
  declared : (i token : ℕ) → tag_at unit.nodes ks i ≡ Some token → is_some (entry_if s.bindings.specifiers (first_of names (entity_at names token))) ≡ true
  declared i token has = ap is_some (ap (entry_if s.bindings.specifiers) first_is) ∙ column
    where
      it : StandsForTag ks unit.nodes name token past
      it = stand ks unit.nodes unit.items name listed apart i token has

      own_at : at it.what.first ≡ Some it.own
      own_at = at_is it.what.first (within it.node it.what.first it.tag) ∙ it.begins

      begin : begins (at it.what.first) it.what.first ≡ true
      begin = ap (λ o. begins o it.what.first) own_at ∙ (λ j. it.declares j && eq-eqb it.own.first it.what.first it.first j)

      k : ℕ
      k = count_of at it.what.first

      numbered : number_of at (at token) ≡ Some k
      numbered = ap (number_of at) (at_is token (within i token has) ∙ it.is) ∙ ap (λ b. if b then Some k else None) begin

      own_numbered : number_of at (at it.what.first) ≡ Some k
      own_numbered =
          ap (number_of at) own_at ∙ ap (λ x. if begins (at x) x then Some (count_of at x) else None) it.first ∙ ap (λ b. if b then Some k else None) begin

      few : k < count_of at (length ks)
      few = counted at it.what.first (length ks) begin (within it.node it.what.first it.tag)

      entity : entity_at names token ≡ Some k
      entity =
          ap (entity_within (length names.entities)) (known.names.of_token token (within i token has) ∙ numbered)
          ∙ ap (λ b. if b then Some k else None) (lt-ltb k (length names.entities) (let c = known.names.count in omega (arith, few, c)))

      firsts_is : first_of names (entity_at names token) ≡ first_in (entity_of at (length ks) k).declared
      firsts_is = ap (first_of names) entity ∙ ap first_if (known.names.entities k few)

      there : (f : ℕ) × (first_in (entity_of at (length ks) k).declared ≡ Some f)
      there = some_is (first_in (entity_of at (length ks) k).declared) (first_is_there at k (length ks) it.what.first it.own (within it.node it.what.first it.tag) own_at it.declares own_numbered)

      first_is : first_of names (entity_at names token) ≡ Some there.0
      first_is = firsts_is ∙ there.1

      told_first : Declares at k there.0
      told_first = first_declares at k (length ks) there.0 there.1

      same_first : told_first.what.first ≡ it.what.first
      same_first =
          let x = number_is at (at there.0) k told_first.number in
          let one : x.0 ≡ told_first.what = same_Some x.0 told_first.what (sym x.1.0 ∙ told_first.is) in
          sym (ap (λ (y : Told). y.first) one) ∙ one_number at x.0.first it.what.first x.1.1.0 begin x.1.1.1

      tag_first : IsTagOfNode ks unit.nodes there.0
      tag_first =
          with_tag name ks unit.nodes there.0 told_first.what.first past (marked ks unit.nodes unit.items listed apart)
          (record { node = it.node; tag = it.tag ∙ ap Some (sym same_first) })
          (ways name there.0 past right told_first.what (told_there name (unit_events unit) (length ks) there.0 told_first.what told_first.is) told_first.declares)

      column : is_some (slice_index_or s.bindings.specifiers there.0 None) ≡ true
      column =
          ap is_some (are.bindings.specifiers.each there.0 (within tag_first.node there.0 tag_first.tag))
          ∙ last_some (tag_at unit.nodes ks) (length unit.nodes) there.0 tag_first.node (node_within tag_first.node (slice_get unit.nodes tag_first.node) refl tag_first.tag) tag_first.tag
        where
          node_within : (j : ℕ) (o : Option Node) → slice_get unit.nodes j ≡ o → tag_if o ks ≡ Some there.0 → j < length unit.nodes
          node_within j None here e = let never : None ≡ Some there.0 = e in absurd cc
          node_within j (Some m) here e = slice_get_within unit.nodes j m here

  tag_of_kind : (k : Kind) (first : ℕ) → is_tagged k ≡ true → tag_by k ks first ≡ Some (first + 1)
  tag_of_kind kind.StructTag first h = refl
  tag_of_kind kind.EnumTag first h = refl
  tag_of_kind k first h = absurd (false≢true h)

  with_first : (token : ℕ) (o : Option ℕ) → is_some o ≡ true → is_some (tag_with token (tag_for s.bindings names token) o) ≡ true
  with_first token None h = h
  with_first token (Some f) h = refl

  pub tag_found : (i : ℕ) (n : Node) → slice_get unit.nodes i ≡ Some n → is_tagged n.kind ≡ true → is_some (slice_index_or u.tags.now i None) ≡ true
  tag_found i n here tagged =
      ap is_some (ap (λ l. slice_index_or l i None) tree.tags ∙ are.tags.each i (slice_get_within unit.nodes i n here) ∙ ap (tag_known s.bindings names) has) ∙ with_first (n.first + 1) (tag_for s.bindings names (n.first + 1)).first (declared i (n.first + 1) has)
    where
      has : tag_at unit.nodes ks i ≡ Some (n.first + 1)
      has = ap (λ o. tag_if o ks) here ∙ tag_of_kind n.kind n.first tagged
