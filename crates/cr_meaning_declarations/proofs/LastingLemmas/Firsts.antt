-- The node that a name stands for stands for itself; and of an object of static duration it is that of the object.
use Rattle.std.proofs.Common.{◌≡◌, ℕ, zero, suc, ◌<◌, Bool, true, false, ◌&&◌, List, Option, None, Some, inl, inr, length, nat_lt, slice_get, slice_index_or, refl, sym, subst, ap, ◌∙◌, arith}
use Rattle.std.specs.Prelude.{if◌then◌else◌}
use Rattle.std.proofs.lemmas.Bool.{cases_lt, false≢true, eqb-true, eq-eqb, ltb-true}
use Rattle.std.proofs.lemmas.List.{get_or_past}
use Rattle.std.proofs.lemmas.Option.{slice_get_within}
use Rattle.cr_syntax.specs.declared.node.Kind.{Kind}
use Rattle.cr_syntax.specs.declared.node.Kind.TheVariants as kind
use Rattle.cr_syntax.specs.declared.node.Node.{Node}
use Rattle.cr_scopes_events.specs.Scripts as scripts
use Rattle.cr_scopes.specs.Resolved.{is_number}
use Rattle.cr_scopes.specs.Spelled.{name_of as spelled_name}
use Rattle.cr_scopes.specs.Units.{unit_events}
use Rattle.cr_scopes_bindings.specs.Last.{last_with}
use Rattle.cr_scopes_bindings.specs.Entities as bound
use Rattle.cr_typed.specs.declared.typed.Typed.{Typed}
use Rattle.cr_typed.specs.declared.typed.Duration.TheVariants as duration
use Rattle.cr_typed_columns.specs.Reading.{parsed_of, entry_of}
use Rattle.cr_typed_columns.specs.Entities as entities
use Rattle.cr_typed_columns.specs.Names as names
use Rattle.cr_syntax_nodes.proofs.Numbers.{some_at}
use Rattle.cr_meaning_operations.specs.Operations.{kind_if, kind_at, part_at, is_name, name_by, name_of, entity_if, entity_of, is_static_by, is_static, is_lasting}
use Rattle.cr_meaning_declarations.specs.Declared.Files.{IsUnitOfFile}
use Rattle.cr_meaning_declarations.proofs.DeclaredLemmas.Bodies.{IsThere, listed_at, last_has, name_there}
use Rattle.cr_meaning_declarations.specs.Lasting.Laws
use Rattle.cr_meaning_declarations.proofs.LastingLemmas.Begun.{begun_own}
use Rattle.cr_meaning_declarations.proofs.DeclaredLemmas.Files.{has_unit}

no_goto : (k : Kind) → (k ≡ kind.Goto → ⊥) → names.is_goto (Some k) ≡ false
no_goto kind.Goto f = absurd (f refl)
no_goto k f = refl

-- a name's own declarator
pub name_here : (t : Typed) (m i : ℕ) → 0 < m → is_name (kind_at t i) ≡ true → name_by m t i ≡ i
name_here t zero i some e = absurd (omega (arith, some))
name_here t (suc m) i some e = ap (λ b. if b then i else name_by m t (part_at t i 0)) e

module _ (file : List ℕ) (t : Typed) (it : IsUnitOfFile file t) where
  open it use {made_by, columns}
  open has_unit file t it use {nodes_are, count}

  ref_is : (i : ℕ) → i < length t.nodes → slice_index_or t.refs i None ≡ names.ref_of (parsed_of it.unit) columns i
  ref_is i low =
      ap (λ rs. slice_index_or rs i None) made_by.elaborated.refs
      ∙ listed_at (names.ref_of (parsed_of it.unit) columns) (length it.unit.nodes) i None (let c = count in omega (arith, low, c))

  -- the node that declares first what a node names
  abbrev declared_first : ℕ → Option ℕ
  declared_first i = entities.name_node (parsed_of it.unit) (bound.first_of it.names (bound.entity_if it.names (names.mentioned_token it.unit.nodes i)))

  ref_by : (i : ℕ) → names.is_goto (scripts.kind_at it.unit.nodes i) ≡ false → names.ref_of (parsed_of it.unit) columns i ≡ declared_first i
  ref_by i plain =
      ap (λ b. if b then slice_index_or columns.labels.now i None else entities.first_declared (parsed_of it.unit) columns.names.now (bound.entity_if columns.names.now (names.mentioned_token it.unit.nodes i))) plain
      ∙ ap (λ ns. entities.name_node (parsed_of it.unit) (bound.first_of ns (bound.entity_if ns (names.mentioned_token it.unit.nodes i)))) made_by.are.names_are

  -- what such a node is: the identifier of the first token of an entity
  record IsFirst (first : ℕ) : Type 0 where
    token : ℕ
    entity : ℕ
    begins : bound.first_of it.names (Some entity) ≡ Some token
    named : entities.named_token it.unit.nodes first ≡ Some token
    low : token < length it.unit.tokens.list.items
    node : entities.name_node (parsed_of it.unit) (Some token) ≡ Some first

  number_same : (o : Option ℕ) (k : ℕ) → is_number o k ≡ true → o ≡ Some k
  number_same None k e = absurd (false≢true e)
  number_same (Some j) k e = ap Some (eqb-true j k e)

  first_is : (entity : Option ℕ) (first : ℕ) → entities.name_node (parsed_of it.unit) (bound.first_of it.names entity) ≡ Some first → IsFirst first
  first_is None first e = absurd cc
  first_is (Some k) first e = by (bound.first_of it.names (Some k)) refl e
    where
      by : (o : Option ℕ) → bound.first_of it.names (Some k) ≡ o → entities.name_node (parsed_of it.unit) o ≡ Some first → IsFirst first
      by None q e = absurd cc
      by (Some token) q e = at (nat_lt token (length it.unit.tokens.list.items)) refl e
        where
          at : (b : Bool) → nat_lt token (length it.unit.tokens.list.items) ≡ b → (if b then last_with (entities.named_token it.unit.nodes) (length it.unit.nodes) token else None) ≡ Some first → IsFirst first
          at false f g = absurd cc
          at true f g = record {
            token = token;
            entity = k;
            begins = q;
            named = number_same (entities.named_token it.unit.nodes first) token (last_has (entities.named_token it.unit.nodes) (length it.unit.nodes) token first g);
            low = ltb-true token (length it.unit.tokens.list.items) f;
            node = e;
          }

  -- it is a declared identifier, and mentions its token
  first_kind : (first token : ℕ) → entities.named_token it.unit.nodes first ≡ Some token → scripts.kind_at it.unit.nodes first ≡ Some kind.NameDeclarator
  first_kind first token e = name_there it.unit.nodes first (subst IsThere (sym e) tt)

  first_mentions : (first token : ℕ) → entities.named_token it.unit.nodes first ≡ Some token → names.mentioned_token it.unit.nodes first ≡ Some token
  first_mentions first token e =
      let is = first_kind first token e in
      ap (λ o. if names.is_mention o then scripts.first_at it.unit.nodes first else None) is
      ∙ sym (ap (λ o. if entities.is_name o then scripts.first_at it.unit.nodes first else None) is) ∙ e

  -- so it stands for itself
  stands_for_itself : (first : ℕ) → first < length t.nodes → IsFirst first → entity_of t first ≡ first
  stands_for_itself first low h =
      let is = first_kind first h.token h.named in
      let own : bound.entity_if it.names (names.mentioned_token it.unit.nodes first) ≡ Some h.entity =
      ap (bound.entity_if it.names) (first_mentions first h.token h.named)
      ∙ begun_own (spelled_name file it.unit.tokens.list.items) (unit_events it.unit) (length it.unit.tokens.list.items) it.names h.token h.entity it.known h.low h.begins in
      let ref : slice_index_or t.refs first None ≡ Some first =
      ref_is first low ∙ ref_by first (ap names.is_goto is) ∙ ap (λ o. entities.name_node (parsed_of it.unit) (bound.first_of it.names o)) own ∙ ap (entities.name_node (parsed_of it.unit)) h.begins ∙ h.node in
      ap (λ o. entity_if o first) ref

  kind_there : (i : ℕ) (n : Node) → slice_get t.nodes i ≡ Some n → scripts.kind_at it.unit.nodes i ≡ Some n.kind
  kind_there i n at = ap (λ ns. scripts.kind_at ns i) nodes_are ∙ ap scripts.kind_if at

  -- a node of the unit is a name's first one, or names nothing
  within : (first : ℕ) → IsFirst first → first < length t.nodes
  within first h = by (slice_get it.unit.nodes first) refl
    where
      by : (o : Option Node) → slice_get it.unit.nodes first ≡ o → first < length t.nodes
      by None q = let never : None ≡ Some kind.NameDeclarator = sym (ap scripts.kind_if q) ∙ first_kind first h.token h.named in absurd cc
      by (Some n) q = let w = slice_get_within it.unit.nodes first n q in let c = count in omega (arith, w, c)

  pub first_of_itself : (i : ℕ) → (kind_at t i ≡ kind.Goto → ⊥) → entity_of t (entity_of t i) ≡ entity_of t i
  first_of_itself i other = by (slice_index_or t.refs i None) refl
    where
      by : (o : Option ℕ) → slice_index_or t.refs i None ≡ o → entity_of t (entity_of t i) ≡ entity_of t i
      by None e = ap (entity_of t) (ap (λ o. entity_if o i) e)
      by (Some first) e = elim (cases_lt i (length t.nodes)) [
        | inl low ↦ there (slice_get t.nodes i) refl low
        | inr past ↦ (let never : None ≡ Some first = sym (get_or_past t.refs i None (let c = made_by.fits.refs_count in omega (arith, past, c))) ∙ e in absurd cc)
      ]
        where
          same : entity_of t i ≡ first
          same = ap (λ o. entity_if o i) e

          there : (o : Option Node) → slice_get t.nodes i ≡ o → i < length t.nodes → entity_of t (entity_of t i) ≡ entity_of t i
          there None at low = let n = some_at t.nodes i low in let never : None ≡ Some n.0 = sym at ∙ n.1 in absurd cc
          there (Some n) at low =
              let plain : names.is_goto (scripts.kind_at it.unit.nodes i) ≡ false = ap names.is_goto (kind_there i n at) ∙ no_goto n.kind (λ is. other (ap kind_if at ∙ is)) in
              let found = first_is (bound.entity_if it.names (names.mentioned_token it.unit.nodes i)) first (sym (ref_by i plain) ∙ sym (ref_is i low) ∙ e) in
              ap (entity_of t) same ∙ stands_for_itself first (within first found) found ∙ sym same

  -- ---- static duration

  -- what has it is a declared identifier
  pub static_named : (own : ℕ) → is_static_by (slice_index_or t.durations own duration.NoObject) ≡ true → (kind_at t own ≡ kind.NameDeclarator) × (own < length t.nodes)
  static_named own h = elim (cases_lt own (length t.nodes)) [
    | inl low ↦ (by low, low)
    | inr past ↦ absurd (false≢true (sym (ap is_static_by (get_or_past t.durations own duration.NoObject (let c = made_by.fits.durations_count in omega (arith, past, c)))) ∙ h))
  ]
    where
      by : own < length t.nodes → kind_at t own ≡ kind.NameDeclarator
      by low = at (slice_get t.nodes own) refl
        where
          static : is_static_by (names.duration_of it.unit.nodes columns own) ≡ true
          static = ap is_static_by (sym (ap (λ ds. slice_index_or ds own duration.NoObject) made_by.elaborated.durations
              ∙ listed_at (names.duration_of it.unit.nodes columns) (length it.unit.nodes) own duration.NoObject (let c = count in omega (arith, low, c)))) ∙ h

          is_declared : scripts.kind_at it.unit.nodes own ≡ Some kind.NameDeclarator
          is_declared = name_there it.unit.nodes own (there (entities.named_token it.unit.nodes own) refl)
            where
              there : (o : Option ℕ) → entities.named_token it.unit.nodes own ≡ o → IsThere (entities.named_token it.unit.nodes own)
              there (Some token) e = subst IsThere (sym e) tt
              there None e = absurd (false≢true (sym (ap (λ w. is_static_by (names.by_declared (entities.declared_of columns w) (names.around_of columns w).place (names.is_own it.unit.nodes columns w (names.around_of columns w).function)
                  (entry_of columns.statics.now false w) (entities.is_kept it.unit.nodes columns (entities.entity_of it.unit.nodes columns.names.now own)))) (ap (entry_of columns.declarers.now None) e)) ∙ static))

          at : (o : Option Node) → slice_get t.nodes own ≡ o → kind_at t own ≡ kind.NameDeclarator
          at None q = let never : None ≡ Some kind.NameDeclarator = sym (ap scripts.kind_if q) ∙ ap (λ ns. scripts.kind_at ns own) (sym nodes_are) ∙ is_declared in absurd cc
          at (Some n) q = let is : n.kind ≡ kind.NameDeclarator = (let e : Some n.kind ≡ Some kind.NameDeclarator = sym (kind_there own n q) ∙ is_declared in cc) in ap kind_if q ∙ is

  pub lasts : (i : ℕ) → (kind_at t i ≡ kind.Goto → ⊥) → is_static_by (slice_index_or t.durations (entity_of t i) duration.NoObject) ≡ true → is_lasting t (entity_of t i) (kind_at t (entity_of t i)) ≡ true
  lasts i other static =
      let first = entity_of t i in
      let is = static_named first static in
      let low = is.1 in
      let own : name_of t first ≡ first = name_here t (length t.nodes) first (omega (arith, low)) (ap is_name is.0) in
      let declared : is_static t first ≡ true = ap (λ x. is_static_by (slice_index_or t.durations x duration.NoObject)) own ∙ static in
      ap (is_lasting t first) is.0 ∙ (λ j. declared j && eq-eqb (entity_of t first) first (first_of_itself i other) j)

pub first_own : Laws.FirstsAreTheirOwn
first_own file t it i other = first_of_itself file t it i other

pub static_last : Laws.StaticObjectsLast
static_last file t it i other static = lasts file t it i other static
