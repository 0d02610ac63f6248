-- What an identifier of a file's unit sees, and stands for.
use Rattle.std.proofs.Common.{◌≡◌, ℕ, ◌<◌, ◌≤◌, inl, inr, true, false, None, Some, List, length, slice_get, slice_index_or, sym, subst, ap, ◌∙◌, arith}
use Rattle.std.proofs.lemmas.Option.{slice_get_within}
use Rattle.cr_syntax.specs.declared.node.Kind.{Kind}
use Rattle.cr_syntax.specs.declared.node.Kind.TheVariants as kind
use Rattle.cr_syntax.specs.declared.node.Node.{Node}
use Rattle.cr_scopes_events.specs.declared.event.Role.{Role}
use Rattle.cr_scopes_events.specs.declared.event.Event.{Event}
use Rattle.cr_scopes_events.specs.Declarators.{declarator_of}
use Rattle.cr_scopes_events.specs.Scripts as scripts
use Rattle.cr_scopes_events.specs.Events.{events_of}
use Rattle.cr_scopes.specs.Resolved.{past_of}
use Rattle.cr_scopes.specs.Spelled.{name_of as spelled_name}
use Rattle.cr_scopes.specs.States.{name_in}
use Rattle.cr_scopes.specs.Units.{unit_events}
use Rattle.cr_scopes_visibility.specs.Alone.Alone.{IsAlone}
use Rattle.cr_scopes_bindings.specs.Nodes.{name_at}
use Rattle.cr_scopes_bindings.specs.Bindings.{entry_if}
use Rattle.cr_scopes_bindings.specs.Visible.{visible}
use Rattle.cr_scopes_linkage.specs.Shared.Sorts.{Never}
use Rattle.cr_scopes_visibility.specs.Sight.Scopes.{is_using}
use Rattle.cr_scopes_typedef_names.specs.Tellings.Tellings.{Telling, by_declaration, by_parameter, by_enumerator, by_tag, by_use}
use Rattle.cr_scopes_typedef_names.proofs.TellingsLemmas.Scripts.{all_told}
use Rattle.cr_scopes_visibility.specs.Told.Told.{AreApart, IsTold, IsDeclaredBelow}
use Rattle.cr_scopes_visibility.proofs.ToldLemmas.Walks.{told}
use Rattle.cr_scopes_visibility.specs.Uses.Uses.{Finds}
use Rattle.cr_scopes_visibility.proofs.UsesLemmas.Finding.{all_find}
use Rattle.cr_scopes_visibility.specs.Once.Told.{count_of}
use Rattle.cr_check_surroundings.specs.Named.{used_by, used_name, visible_if}
use Rattle.cr_check_surroundings.specs.Raised.{raised_of}
use Rattle.cr_typed.specs.declared.typed.Typed.{Typed}
use Rattle.cr_meaning_declarations.proofs.NamesLemmas.Leaves as leaves
use Rattle.cr_meaning_declarations.specs.Declared.Files.{IsUnitOfFile}
use Rattle.cr_meaning_declarations.proofs.DeclaredLemmas.Once.{automatic_at, alone}
use Rattle.cr_meaning_declarations.proofs.LinkedLemmas.Owned.{own_there}
use Rattle.cr_meaning_declarations.proofs.DeclaredLemmas.Files.{has_unit}
use Rattle.cr_meaning_references.proofs.ToldLemmas.Orderly.{apart, named_within}
use Rattle.cr_meaning_references.proofs.ToldLemmas.Names.{last_is}
use Rattle.cr_meaning_objects.proofs.ObjectsLemmas.Alone.{linked_or_alone}
use Rattle.cr_meaning_objects.proofs.ObjectsLemmas.Declaring.{is_silent, never_told, declares_entity, token_low}
use Rattle.cr_meaning_objects.proofs.ObjectsLemmas.Statics.{role_speaks, use_same}
use Rattle.cr_meaning_files.specs.Celled as Laws
use Rattle.cr_meaning_files.specs.Celled.{IsSeen}
use Rattle.cr_meaning_files.proofs.Visible.{stand}

-- ---- kinds and roles

used_kind : (k : Kind) → k ≡ kind.Identifier → is_using k ≡ true
used_kind k e = ap is_using e

module _ (file : List ℕ) (t : Typed) (it : IsUnitOfFile file t) where
  open it use {made_by}
  open has_unit file t it use {unit, order, nodes_are}

  tokens_are : length t.tokens ≡ length it.unit.tokens.list.items
  tokens_are = ap length made_by.elaborated.tokens_are

  abbrev name : ℕ → ℕ
  name = spelled_name file it.unit.tokens.list.items

  abbrev past : List Event
  past = past_of (unit_events it.unit) (length (unit_events it.unit))

  -- ---- what an identifier sees

  module _ (i : ℕ) (n : Node) (at : slice_get t.nodes i ≡ Some n) (is : n.kind ≡ kind.Identifier) (few : count_of n.first (unit_events it.unit) ≤ 1) where
    there : slice_get it.unit.nodes i ≡ Some n
    there = ap (λ ns. slice_get ns i) nodes_are ∙ at

    low : n.first < length it.unit.tokens.list.items
    low = let w = unit.within i n at in let less = w.0 in let high = w.1 in let count = tokens_are in omega (arith, less, high, count)

    use_told : IsTold it.unit.nodes n.first i past
    use_told = told it.unit.tokens.list.items it.unit.nodes it.unit.items it.listed (subst AreApart (sym nodes_are) (apart t unit order)) i n there (used_kind n.kind is)

    pub finds : Finds name n.first past
    finds = all_find name (unit_events it.unit) n.first it.known.right use_told.used

    spelled : name_in it.checked.checked.surroundings.bindings.spellings ≡ name
    spelled = λ j x. made_by.is.surroundings.bindings.spellings.each x j

    pub declared : IsDeclaredBelow it.unit.nodes finds.declared i
    declared = use_told.behind finds.declared finds.before

    pub names_it : name_at t.nodes declared.declarer ≡ Some finds.declared
    names_it = ap (λ ns. name_at ns declared.declarer) (sym nodes_are) ∙ declared.names

    less : finds.declared < length it.unit.tokens.list.items
    less = let w = named_within t unit order declared.declarer finds.declared names_it in let count = tokens_are in omega (arith, w, count)

    pub column : slice_index_or it.checked.checked.surroundings.bindings.visible n.first None ≡ Some finds.declared
    column = made_by.is.surroundings.bindings.visible.each n.first low ∙ ap (λ f. visible f past n.first) spelled ∙ finds.is

    pub declarer : slice_index_or it.checked.checked.surroundings.bindings.declarers finds.declared None ≡ Some declared.declarer
    declarer =
        made_by.is.surroundings.bindings.declarers.each finds.declared less
        ∙ last_is (name_at it.unit.nodes) (length it.unit.nodes) finds.declared declared.declarer declared.names
        (let within = slice_get_within it.unit.nodes i n there in let below = declared.below in omega (arith, within, below)) declared.last

    is_seen : IsSeen file t it i n.first
    is_seen = record {
      token = finds.declared;
      whole = declared.declarer;
      names = names_it;
      below = declared.below;
      sees =
          ap (λ vs. slice_index_or vs i None) made_by.is.whole.tree.visible
          ∙ made_by.is.surroundings.visible.each i (slice_get_within it.unit.nodes i n there)
          ∙ ap (λ o. raised_of it.unit.nodes it.checked.checked.surroundings.above (visible_if it.checked.checked.surroundings.bindings (used_name o)) i) there
          ∙ ap (λ k. raised_of it.unit.nodes it.checked.checked.surroundings.above (visible_if it.checked.checked.surroundings.bindings (used_by k n.first)) i) is
          ∙ ap (λ o. raised_of it.unit.nodes it.checked.checked.surroundings.above (entry_if it.checked.checked.surroundings.bindings.declarers o) i) column
          ∙ ap (λ o. raised_of it.unit.nodes it.checked.checked.surroundings.above o i) declarer;
      stands = λ steady entity e. stand name (unit_events it.unit) (length it.unit.tokens.list.items) it.names finds.declared n.first entity it.known low less use_told.used few steady finds.is e;
    }

  -- ---- what a declarator declares

  module _ (q token : ℕ) (e : (declarator_of t.nodes q).name ≡ Some token) where
    -- each event of the name declares it
    speaks : Never is_silent token past
    speaks =
        never_told is_silent (Telling it.unit.nodes) token told_as (events_of it.unit.tokens.list.items it.unit.nodes it.unit.items) (all_told it.unit.tokens.list.items it.unit.nodes it.unit.items)
        (length (events_of it.unit.tokens.list.items it.unit.nodes it.unit.items))
      where
        moved : (l : ℕ) (n : Node) → slice_get it.unit.nodes l ≡ Some n → slice_get t.nodes l ≡ Some n
        moved l n at = ap (λ ns. slice_get ns l) (sym nodes_are) ∙ at

        told_as : (u : ℕ) (r : Role) → Telling it.unit.nodes u r → u ≡ token → is_silent r ≡ false
        told_as u r (by_declaration d is) same = ap is_silent is ∙ role_speaks (scripts.storage_of it.unit.nodes d.own.parts) (declarator_of it.unit.nodes d.declarator).next
        told_as u r (by_parameter d is) same = ap is_silent is
        told_as u r (by_enumerator d is) same = ap is_silent is
        told_as u r (by_tag d tags) same =
            let x = own_there t unit order token q e in
            absurd (leaves.no_tag t unit order x.own d.node x.node d.own x.at x.is (moved d.node d.own d.at) d.is (d.second ∙ same ∙ sym x.first))
        told_as u r (by_use d is) same =
            let x = own_there t unit order token q e in
            absurd (leaves.no_use t unit order x.own d.node x.node d.own x.at x.is (moved d.node d.own d.at) (use_same d.own.kind d.is) (d.first ∙ same ∙ sym x.first))

pub seen : Laws.NamesStandForWhatTheySee
seen file t it i n at is few = is_seen file t it i n at is few

pub declare : Laws.DeclaratorsDeclare
declare file t it q token entity e stands =
    declares_entity (spelled_name file it.unit.tokens.list.items) (unit_events it.unit) (length it.unit.tokens.list.items) it.names it.known token entity
    (token_low (spelled_name file it.unit.tokens.list.items) (unit_events it.unit) (length it.unit.tokens.list.items) it.names it.known token entity stands) stands (speaks file t it q token e)

pub steady : Laws.AutomaticNamesAreSteady
steady file t it node own at automatic =
    let x = automatic_at file t it node automatic in
    let e : Some x.node ≡ Some own = sym x.at ∙ at in
    let same : x.node ≡ own = cc in
    inr (subst (λ (m : Node). IsAlone m.first (past_of (unit_events it.unit) (length (unit_events it.unit)))) same (alone file t it node x.node x.at x.is x.automatic))

pub linked_or_steady : Laws.ObjectsAreLinkedOrSteady
linked_or_steady file t it token i q m d object = elim (linked_or_alone file t it token i q m d object) [ inl x ↦ inl x | inr a ↦ inr (inr a) ]
