-- A name of an automatic object stands in each block and each `for` in which the object is declared (C11 6.2.1p4).
use Rattle.std.proofs.Common.{◌≡◌, ℕ, ◌<◌, Bool, true, false, List, Option, None, Some, length, nat_lt, slice_get, slice_index_or, refl, sym, ap, subst, ◌∙◌, arith}
use Rattle.std.specs.Prelude.{if◌then◌else◌}
use Rattle.std.proofs.lemmas.Bool.{false≢true, eqb-true}
use Rattle.std.proofs.lemmas.Option.{slice_get_within, same_Some}
use Rattle.cr_syntax.specs.declared.node.Kind.{Kind}
use Rattle.cr_syntax.specs.declared.node.Kind.TheVariants as kind
use Rattle.cr_syntax.specs.declared.node.Node.{Node}
use Rattle.cr_syntax_order.specs.Listed.{AreListed}
use Rattle.cr_scopes_events.specs.Scripts as scripts
use Rattle.cr_scopes_events.specs.Events.{events_of}
use Rattle.cr_scopes.specs.Resolved.{is_number, past_of}
use Rattle.cr_scopes.specs.Spelled.{name_of as spelled_name}
use Rattle.cr_scopes.specs.Units.{unit_events}
use Rattle.cr_scopes_bindings.specs.Last.{last_with}
use Rattle.cr_scopes_bindings.specs.Entities as bound
use Rattle.cr_scopes_visibility.specs.Alone.Sight.{IsSeen}
use Rattle.cr_scopes_visibility.proofs.AloneLemmas.Sight.{seen_is}
use Rattle.cr_scopes_visibility.specs.Sight.Scopes.{is_blocklike, is_using, is_tagging, AreUnder, IsApart}
use Rattle.cr_scopes_visibility.proofs.SightLemmas.Walks.{closed}
use Rattle.cr_typed.specs.declared.typed.Typed.{Typed}
use Rattle.cr_typed_columns.specs.Reading.{parsed_of}
use Rattle.cr_typed_columns.specs.Entities as entities
use Rattle.cr_typed_columns.specs.Names as names
use Rattle.cr_meaning_operations.specs.Operations.{kind_if, kind_at, entity_if, entity_of}
use Rattle.cr_meaning_declarations.specs.Units.Owned.{AreOfUnit}
use Rattle.cr_meaning_declarations.proofs.NamesLemmas.Leaves.{is_named, is_use, is_word, word_once, named_once, no_tag, no_use}
use Rattle.cr_meaning_declarations.specs.Declared.Files.{IsUnitOfFile}
use Rattle.cr_meaning_declarations.proofs.DeclaredLemmas.Bodies.{listed_at, last_has}
use Rattle.cr_meaning_declarations.proofs.DeclaredLemmas.Once.{IsAutomatic, automatic_at, alone, token_is}
use Rattle.cr_meaning_declarations.specs.Sight.Under.{is_under}
use Rattle.cr_meaning_declarations.specs.Sight.Laws
use Rattle.cr_meaning_declarations.proofs.SightLemmas.Under.{directly, alike, item_outside, not_above}
use Rattle.cr_meaning_declarations.proofs.SightLemmas.Orderly.{orderly}
use Rattle.cr_meaning_declarations.proofs.DeclaredLemmas.Files.{has_unit}
use Rattle.cr_scopes_linkage.specs.Shared.Origins.{is_tagged}

pub using_used : (k : Kind) → is_using k ≡ true → is_use k ≡ true
using_used kind.Identifier h = refl
using_used kind.Call h = refl
using_used kind.TypedefName h = refl
using_used k h = absurd (false≢true h)

pub using_named : (k : Kind) → is_using k ≡ true → is_named k ≡ true
using_named kind.Identifier h = refl
using_named kind.Call h = refl
using_named kind.TypedefName h = refl
using_named k h = absurd (false≢true h)

pub tagging_tagged : (k : Kind) → is_tagging k ≡ true → is_tagged k ≡ true
tagging_tagged kind.StructTag h = refl
tagging_tagged kind.EnumTag h = refl
tagging_tagged kind.StructContent h = refl
tagging_tagged kind.EnumContent h = refl
tagging_tagged k h = absurd (false≢true h)

-- a node that is there, by its kind
node_at : (t : Typed) (i : ℕ) (test : Kind → Bool) → test kind.Break ≡ false → test (kind_at t i) ≡ true → (n : Node) × ((slice_get t.nodes i ≡ Some n) × (test n.kind ≡ true))
node_at t i test plain h = by (slice_get t.nodes i) refl
  where
    by : (o : Option Node) → slice_get t.nodes i ≡ o → (n : Node) × ((slice_get t.nodes i ≡ Some n) × (test n.kind ≡ true))
    by None at = absurd (false≢true (sym plain ∙ ap (λ o. test (kind_if o)) (sym at) ∙ h))
    by (Some n) at = (n, (at, ap (λ o. test (kind_if o)) (sym at) ∙ h))

abbrev is_identifier : Kind → Bool
is_identifier kind.Identifier = true
is_identifier k = false

only_identifier : (k : Kind) → is_identifier k ≡ true → k ≡ kind.Identifier
only_identifier kind.Identifier h = refl
only_identifier k h = absurd (false≢true h)

module _ (t : Typed) (unit : AreOfUnit t) (order : AreListed t.nodes 0 t.items (length t.nodes)) (holder own i : ℕ) (n m : Node) (here : slice_get t.nodes own ≡ Some n) (is : n.kind ≡ kind.NameDeclarator)
    (i_at : slice_get t.nodes i ≡ Some m) (i_is : m.kind ≡ kind.Identifier) (inner : is_under t holder own ≡ true) (out : is_under t holder i ≡ false) where
  are_under : AreUnder t.nodes t.items holder (is_under t holder)
  are_under = record {
    parts = λ a k p x at e other. alike t unit holder p a (record { parent = x; at = at; place = k; is = e }) other;
    own = λ k p x at e. directly t unit holder p (record { parent = x; at = at; place = k; is = e });
    top = item_outside t unit holder;
    above = not_above t unit holder;
  }

  -- the declared identifier is one node
  one_named : (j : ℕ) (x : Node) → slice_get t.nodes j ≡ Some x → is_named x.kind ≡ true → x.first ≡ n.first → own ≡ j
  one_named j x at named same =
      let w = (unit.within j x at).0 in named_once t unit order own j n x n.first here is refl at named (omega (arith, same)) (omega (arith, same)) (omega (arith, same, w))

  one_used : (j : ℕ) (x : Node) → slice_get t.nodes j ≡ Some x → is_named x.kind ≡ true → x.first ≡ m.first → i ≡ j
  one_used j x at named same =
      let w = (unit.within j x at).0 in
      word_once t unit order i j m x m.first i_at (ap is_word i_is) refl at named (omega (arith, same)) (omega (arith, same)) (omega (arith, same, w))

  no_enumerator : (j : ℕ) (x : Node) → slice_get t.nodes j ≡ Some x → x.kind ≡ kind.Enumerator → x.first ≡ n.first → ⊥
  no_enumerator j x at e same =
      let one : n ≡ x = same_Some n x (sym here ∙ ap (slice_get t.nodes) (one_named j x at (ap is_named e) same) ∙ at) in
      let never : kind.NameDeclarator ≡ kind.Enumerator = sym is ∙ ap (λ (y : Node). y.kind) one ∙ e in
      absurd cc

  apart : IsApart t.nodes (is_under t holder) n.first m.first
  apart = record {
    declared = λ j x at e same. subst (λ y. is_under t holder y ≡ true) (one_named j x at (ap is_named e) same) inner;
    enumerators = no_enumerator;
    tags = λ j x at tagged same. no_tag t unit order own j n x here is at (tagging_tagged x.kind tagged) same;
    used = λ j x at used same. no_use t unit order own j n x here is at (using_used x.kind used) same;
    uses = λ j x at used same. subst (λ y. is_under t holder y ≡ false) (one_used j x at (using_named x.kind used) same) out;
  }

module _ (file : List ℕ) (t : Typed) (it : IsUnitOfFile file t) where
  open it use {made_by, columns}
  open has_unit file t it use {unit, nodes_are, order}

  module _ (i e : ℕ) (m : Node) (i_at : slice_get t.nodes i ≡ Some m) (i_is : m.kind ≡ kind.Identifier) (own : IsAutomatic file t it e) where
    few_tokens : m.first < length it.unit.tokens.list.items
    few_tokens =
        let w = unit.within i m i_at in
        let low = w.0 in
        let high = w.1 in
        let count : length t.tokens ≡ length it.unit.tokens.list.items = ap length made_by.elaborated.tokens_are in
        omega (arith, low, high, count)

    mentioned : names.mentioned_token it.unit.nodes i ≡ Some m.first
    mentioned =
        ap (λ ns. names.mentioned_token ns i) nodes_are ∙ ap (λ o. if names.is_mention (scripts.kind_if o) then scripts.first_if o else None) i_at
        ∙ ap (λ k. if names.is_mention (Some k) then Some m.first else None) i_is

    no_goto : names.is_goto (scripts.kind_at it.unit.nodes i) ≡ false
    no_goto = ap (λ ns. names.is_goto (scripts.kind_at ns i)) nodes_are ∙ ap (λ o. names.is_goto (scripts.kind_if o)) i_at ∙ ap (λ k. names.is_goto (Some k)) i_is

    -- the token that declares the entity first is that of the object
    first_token : names.ref_of (parsed_of it.unit) columns i ≡ Some e → bound.first_of it.names (bound.entity_at it.names m.first) ≡ Some own.node.first
    first_token ref = by (bound.first_of it.names (bound.entity_at it.names m.first)) found
      where
        found : entities.name_node (parsed_of it.unit) (bound.first_of it.names (bound.entity_at it.names m.first)) ≡ Some e
        found =
            ap (λ o. entities.name_node (parsed_of it.unit) (bound.first_of it.names (bound.entity_if it.names o))) (sym mentioned)
            ∙ ap (λ ns. entities.name_node (parsed_of it.unit) (bound.first_of ns (bound.entity_if ns (names.mentioned_token it.unit.nodes i)))) (sym made_by.are.names_are)
            ∙ ap (λ b. if b then slice_index_or columns.labels.now i None else entities.first_declared (parsed_of it.unit) columns.names.now (bound.entity_if columns.names.now (names.mentioned_token it.unit.nodes i))) (sym no_goto) ∙ ref

        number : (token : ℕ) (b : Bool) → (if b then last_with (entities.named_token it.unit.nodes) (length it.unit.nodes) token else None) ≡ Some e → is_number (entities.named_token it.unit.nodes e) token ≡ true
        number token true f = last_has (entities.named_token it.unit.nodes) (length it.unit.nodes) token e f
        number token false f = let never : None ≡ Some e = f in absurd cc

        by : (o : Option ℕ) → entities.name_node (parsed_of it.unit) o ≡ Some e → o ≡ Some own.node.first
        by None f = let never : None ≡ Some e = f in absurd cc
        by (Some token) f =
            let key = number token (nat_lt token (length it.unit.tokens.list.items)) f in
            let same : own.node.first ≡ token = eqb-true own.node.first token (sym (ap (λ o. is_number o token) (token_is file t it e own.node own.at own.is own.automatic)) ∙ key) in
            ap Some (sym same)

    pub seen : names.ref_of (parsed_of it.unit) columns i ≡ Some e
        → IsSeen (spelled_name file it.unit.tokens.list.items) own.node.first m.first (past_of (events_of it.unit.tokens.list.items t.nodes t.items) (length (events_of it.unit.tokens.list.items t.nodes t.items)))
    seen ref =
        subst (λ es. IsSeen (spelled_name file it.unit.tokens.list.items) own.node.first m.first (past_of es (length es))) moved
        (seen_is (spelled_name file it.unit.tokens.list.items) (unit_events it.unit) (length it.unit.tokens.list.items) it.names own.node.first m.first it.known few_tokens
        (λ same. no_use t unit order e i own.node m own.at own.is i_at (ap is_use i_is) same) (alone file t it e own.node own.at own.is own.automatic) (first_token ref))
      where
        moved : unit_events it.unit ≡ events_of it.unit.tokens.list.items t.nodes t.items
        moved = ap (λ ns. events_of it.unit.tokens.list.items ns it.unit.items) nodes_are ∙ ap (events_of it.unit.tokens.list.items t.nodes) (sym made_by.elaborated.items_are)

    inside : names.ref_of (parsed_of it.unit) columns i ≡ Some e → (holder : ℕ) (h : Node) → slice_get t.nodes holder ≡ Some h → is_blocklike h.kind ≡ true → is_under t holder e ≡ true → is_under t holder i ≡ true
    inside ref holder h hold_at blocklike inner = by (is_under t holder i) refl
      where
        by : (b : Bool) → is_under t holder i ≡ b → b ≡ true
        by true q = refl
        by false q =
            absurd (closed it.unit.tokens.list.items t.nodes t.items (spelled_name file it.unit.tokens.list.items) holder h (is_under t holder) own.node.first m.first hold_at blocklike (orderly t unit)
            (are_under t unit order holder e i own.node m own.at own.is i_at i_is inner q) (apart t unit order holder e i own.node m own.at own.is i_at i_is inner q) (seen ref))

  -- what a name that declares nothing stands for is another node
  pub entity_there : (i : ℕ) (m : Node) → slice_get t.nodes i ≡ Some m → m.kind ≡ kind.Identifier → IsAutomatic file t it (entity_of t i) → names.ref_of (parsed_of it.unit) columns i ≡ Some (entity_of t i)
  entity_there i m at is own = by (slice_index_or t.refs i None) refl
    where
      count : length t.nodes ≡ length it.unit.nodes
      count = ap length made_by.elaborated.nodes_are

      ref : slice_index_or t.refs i None ≡ names.ref_of (parsed_of it.unit) columns i
      ref =
          ap (λ rs. slice_index_or rs i None) made_by.elaborated.refs
          ∙ listed_at (names.ref_of (parsed_of it.unit) columns) (length it.unit.nodes) i None (let low = slice_get_within t.nodes i m at in omega (arith, low, count))

      by : (o : Option ℕ) → slice_index_or t.refs i None ≡ o → names.ref_of (parsed_of it.unit) columns i ≡ Some (entity_of t i)
      by (Some first) e = sym ref ∙ e ∙ ap Some (sym (ap (λ o. entity_if o i) e))
      by None e =
          let same : entity_of t i ≡ i = ap (λ o. entity_if o i) e in
          let one : own.node ≡ m = same_Some own.node m (sym own.at ∙ ap (slice_get t.nodes) same ∙ at) in
          let never : kind.NameDeclarator ≡ kind.Identifier = sym own.is ∙ ap (λ (y : Node). y.kind) one ∙ is in
          absurd cc

pub stands : Laws.NamesStandInScopes
stands file t it i holder is automatic blocklike inner =
    let n = node_at t i is_identifier refl (ap is_identifier is) in
    let kind_is = only_identifier n.0.kind n.1.1 in
    let h = node_at t holder is_blocklike refl blocklike in
    let own = automatic_at file t it (entity_of t i) automatic in
    inside file t it i (entity_of t i) n.0 n.1.0 kind_is own (entity_there file t it i n.0 n.1.0 kind_is own) holder h.0 h.1.0 h.1.1 inner
