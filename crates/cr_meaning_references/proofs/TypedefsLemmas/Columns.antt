-- What the columns of a check say of a typedef name.
use Rattle.std.proofs.Common.{◌≡◌, ℕ, suc, ◌<◌, ◌&&◌, inl, inr, Bool, true, false, List, Option, None, Some, length, nat_lt, slice_get, slice_index_or, refl, sym, ap, subst, ◌∙◌, if◌then◌else◌}
use Rattle.std.proofs.lemmas.Bool.{false≢true, and_parts}
use Rattle.std.proofs.lemmas.Option.{slice_get_within}
use Rattle.cr_syntax.specs.declared.node.Kind.{Kind}
use Rattle.cr_syntax.specs.declared.node.Kind.TheVariants as kind
use Rattle.cr_syntax.specs.declared.node.Node.{Node}
use Rattle.cr_syntax.specs.declared.unit.Unit as source
use Rattle.cr_scopes_events.specs.declared.event.Event.{Event}
use Rattle.cr_scopes_events.specs.declared.declarator.Declarator.{Declarator}
use Rattle.cr_scopes_events.specs.Values.{before}
use Rattle.cr_scopes_events.specs.Declarators.{nowhere, declared_by, declared_if, declarator_of}
use Rattle.cr_scopes_events.specs.Scripts as scripts
use Rattle.cr_scopes_events.specs.Scripts.{storage_of}
use Rattle.cr_scopes_events.proofs.Descents.{declarator_ruled}
use Rattle.cr_scopes.specs.declared.names.Names.{Names}
use Rattle.cr_scopes.specs.Resolved.{past_of}
use Rattle.cr_scopes.specs.Spelled.{name_of}
use Rattle.cr_scopes.specs.States.{name_in}
use Rattle.cr_scopes.specs.Units.{unit_events}
use Rattle.cr_scopes_bindings.specs.Nodes.{named_by, named_if, name_at}
use Rattle.cr_scopes_bindings.specs.Visible.{visible}
use Rattle.cr_scopes_bindings.specs.Bindings.{entry_if}
use Rattle.cr_scopes_typedef_names.specs.Tellings.Tellings.{is_external, IsDeclaring, IsDeclarer}
use Rattle.cr_scopes_typedef_names.specs.Typedefs.Sees.{IsTypedef as SaysTypedef}
use Rattle.cr_scopes_visibility.specs.Told.Told.{is_declaration, IsHeld, IsHeldInside, IsDeclarator, AreApart}
use Rattle.cr_check_declarations.specs.declared.tree.Tree.{Tree}
use Rattle.cr_check_declarations.specs.Before.{kind_if, kind_in, parts_if, parts_in}
use Rattle.cr_check_declarations.specs.Named as named
use Rattle.cr_check_surroundings.specs.declared.surroundings.Surroundings.{Surroundings}
use Rattle.cr_check_surroundings.specs.Surroundings.{AreSurroundings, IsTree}
use Rattle.cr_check_surroundings.specs.Named.{used_by, used_name, visible_if}
use Rattle.cr_check_surroundings.specs.Raised.{initialises, raised_by, raised_if, raised, raised_of}
use Rattle.cr_meaning_types.specs.Known.Sized.{IsTypedef}
use Rattle.cr_meaning_references.proofs.ToldLemmas.Names.{last_is, at_declaration, holds, initial, not_initial}

-- ---- kinds

external_declares : (k : Kind) → is_external k ≡ true → is_declaration k ≡ true
external_declares kind.Declaration h = refl
external_declares kind.FunctionDefinition h = refl
external_declares k h = absurd (false≢true h)

-- a node whose declarator has a name is a declarator, so that is its name
pub name_of_node : (nodes : List Node) (i token : ℕ) → (declarator_of nodes i).name ≡ Some token → name_at nodes i ≡ Some token
name_of_node nodes i token e = by (slice_get nodes i) (ap (λ (d : Declarator). d.name) (sym (declarator_ruled nodes i)) ∙ e)
  where
    by : (o : Option Node) → (declared_if o (before nowhere i (declarator_of nodes)) i).name ≡ Some token → named_if o (declarator_of nodes i).name ≡ Some token
    by None h = absurd cc
    by (Some n) h = subst (λ o. named_by n.kind n.first o ≡ Some token) (sym e) (named_so n.kind n h)
      where
        named_so : (k : Kind) (n : Node) → (declared_by k (before nowhere i (declarator_of nodes)) i n).name ≡ Some token → named_by k n.first (Some token) ≡ Some token
        named_so kind.Enumerator n h = absurd cc
        named_so k n h = refl

-- and it is no enumerator
no_enumerator : (nodes : List Node) (i token : ℕ) → (declarator_of nodes i).name ≡ Some token → kind_in nodes (Some i) ≡ Some kind.Enumerator → ⊥
no_enumerator nodes i token e is = by (slice_get nodes i) (ap (λ (d : Declarator). d.name) (sym (declarator_ruled nodes i)) ∙ e) is
  where
    by : (o : Option Node) → (declared_if o (before nowhere i (declarator_of nodes)) i).name ≡ Some token → kind_if o ≡ Some kind.Enumerator → ⊥
    by None h f = cc f
    by (Some n) h f = kind_so n.kind n h (cc f)
      where
        kind_so : (k : Kind) (n : Node) → (declared_by k (before nowhere i (declarator_of nodes)) i n).name ≡ Some token → k ≡ kind.Enumerator → ⊥
        kind_so kind.Enumerator n h f = cc h
        kind_so k n h f = cc f

-- it is one of the nodes
node_there : (nodes : List Node) (i token : ℕ) → name_at nodes i ≡ Some token → i < length nodes
node_there nodes i token e = by (slice_get nodes i) refl e
  where
    by : (o : Option Node) → slice_get nodes i ≡ o → named_if o (declarator_of nodes i).name ≡ Some token → i < length nodes
    by None q h = absurd cc
    by (Some n) q h = slice_get_within nodes i n q

module _ (file : List ℕ) (unit : source.Unit) (names : Names) (s : Surroundings) (u : Tree) (are : AreSurroundings file unit names s) (tree : IsTree file unit s u) (apart : AreApart unit.nodes)
    (parent : (p a k : ℕ) (m : Node) → slice_get unit.nodes a ≡ Some m → slice_get m.parts k ≡ Some p → slice_index_or s.above p None ≡ Some a)
    (within : (i : ℕ) (n : Node) → slice_get unit.nodes i ≡ Some n → n.first < length unit.tokens.list.items)
    (named_within : (p token : ℕ) → name_at unit.nodes p ≡ Some token → token < length unit.tokens.list.items)
    (sees : (i : ℕ) (n : Node) → slice_get unit.nodes i ≡ Some n → n.kind ≡ kind.TypedefName → (token : ℕ)
    → visible (name_of file unit.tokens.list.items) (past_of (unit_events unit) (length (unit_events unit))) n.first ≡ Some token → SaysTypedef unit.nodes token) where
  abbrev past : List Event
  past = past_of (unit_events unit) (length (unit_events unit))

  above_is : (p a k : ℕ) (m : Node) → slice_get unit.nodes a ≡ Some m → slice_get m.parts k ≡ Some p → slice_index_or u.above.now p None ≡ Some a
  above_is p a k m at e = ap (λ l. slice_index_or l p None) tree.above ∙ parent p a k m at e

  kind_is : (a : ℕ) (m : Node) → slice_get unit.nodes a ≡ Some m → kind_in u.nodes.now (Some a) ≡ Some m.kind
  kind_is a m at = ap (λ ns. kind_in ns (Some a)) tree.nodes ∙ ap kind_if at

  abbrev declaration_by : Option ℕ → Option ℕ
  declaration_by o =
      if named.is_initialised (kind_in u.nodes.now o) then named.declaration_at u.nodes.now (named.above_in u.above.now o) else named.declaration_at u.nodes.now o

  abbrev Declares : ℕ → ℕ → Type 0
  Declares p d = named.declaration_of u.nodes.now u.above.now p ≡ Some d

  held : (p : ℕ) (h : IsHeld unit.nodes p) → Declares p h.declaration
  held p h =
      ap declaration_by (above_is p h.declaration h.place h.node h.at h.is)
      ∙ ap (λ k. if named.is_initialised k then named.declaration_at u.nodes.now (named.above_in u.above.now (Some h.declaration)) else (if named.is_declaration k then Some h.declaration else None))
      (kind_is h.declaration h.node h.at)
      ∙ at_declaration h.node.kind h.declares (named.declaration_at u.nodes.now (named.above_in u.above.now (Some h.declaration))) (Some h.declaration) None

  held_inside : (p : ℕ) (h : IsHeldInside unit.nodes p) → Declares p h.held.declaration
  held_inside p h =
      ap declaration_by (above_is p h.outer 0 h.node h.at h.is)
      ∙ ap (λ k. if named.is_initialised k then named.declaration_at u.nodes.now (named.above_in u.above.now (Some h.outer)) else named.declaration_at u.nodes.now (Some h.outer))
      (kind_is h.outer h.node h.at ∙ ap Some h.initialises)
      ∙ ap (named.declaration_at u.nodes.now) (above_is h.outer h.held.declaration h.held.place h.held.node h.held.at h.held.is)
      ∙ ap (λ k. if named.is_declaration k then Some h.held.declaration else None) (kind_is h.held.declaration h.held.node h.held.at)
      ∙ holds h.held.node.kind h.held.declares (Some h.held.declaration) None

  same_above : (p a b k l : ℕ) (m n : Node) → slice_get unit.nodes a ≡ Some m → slice_get m.parts k ≡ Some p → slice_get unit.nodes b ≡ Some n → slice_get n.parts l ≡ Some p → a ≡ b
  same_above p a b k l m n at e there f = let is : Some a ≡ Some b = sym (parent p a k m at e) ∙ parent p b l n there f in cc

  same_kind : (a b : ℕ) (m n : Node) → slice_get unit.nodes a ≡ Some m → slice_get unit.nodes b ≡ Some n → a ≡ b → m.kind ≡ n.kind
  same_kind a b m n here there same = let is : Some m ≡ Some n = sym here ∙ ap (slice_get unit.nodes) same ∙ there in let one : m ≡ n = cc in ap (λ (x : Node). x.kind) one

  -- the declaration of what is declared so, and of the initialised declarator around it
  record IsDeclaredBy (token d : ℕ) (own : Node) : Type 0 where
    declarator : ℕ
    name : name_at unit.nodes declarator ≡ Some token
    other : kind_in unit.nodes (Some declarator) ≡ Some kind.Enumerator → ⊥
    is : IsDeclarator unit.nodes declarator
    declares : Declares declarator d
    around : (a : ℕ) (m : Node) → slice_get unit.nodes a ≡ Some m → m.kind ≡ kind.InitDeclarator → slice_get m.parts 0 ≡ Some declarator → Declares a d

  declared_by_node : (token : ℕ) (x : IsDeclarer unit.nodes token is_external) → IsDeclaredBy token x.node x.own
  declared_by_node token x = by x.declares
    where
      itself : (place p : ℕ) → slice_get x.own.parts place ≡ Some p → IsHeld unit.nodes p
      itself place p e = record { declaration = x.node; node = x.own; at = x.at; declares = external_declares x.own.kind x.is; place = place; is = e }

      by : IsDeclaring unit.nodes x.part x.declarator → IsDeclaredBy token x.node x.own
      by (inl same) =
          let h = itself (suc x.place) x.declarator (x.has ∙ ap Some same) in
          record {
            declarator = x.declarator;
            name = name_of_node unit.nodes x.declarator token x.names;
            other = no_enumerator unit.nodes x.declarator token x.names;
            is = inl h;
            declares = held x.declarator h;
            around = λ a m at is e. absurd (not_initial h.node.kind h.declares (sym (same_kind a h.declaration m h.node at h.at (same_above x.declarator a h.declaration 0 h.place m h.node at e h.at h.is)) ∙ is));
          }
      by (inr both) = inside (slice_get unit.nodes x.part) refl both
        where
          inside : (o : Option Node) → slice_get unit.nodes x.part ≡ o → (scripts.kind_at unit.nodes x.part ≡ Some kind.InitDeclarator) × (slice_get (scripts.parts_at unit.nodes x.part) 0 ≡ Some x.declarator)
              → IsDeclaredBy token x.node x.own
          inside None q both = let none : None ≡ Some kind.InitDeclarator = sym (ap scripts.kind_if q) ∙ both.0 in absurd cc
          inside (Some m) q both =
              let one : Some m.kind ≡ Some kind.InitDeclarator = sym (ap scripts.kind_if q) ∙ both.0 in
              let its : m.kind ≡ kind.InitDeclarator = cc in
              let first : slice_get m.parts 0 ≡ Some x.declarator = sym (ap (λ o. slice_get (scripts.parts_if o) 0) q) ∙ both.1 in
              let outer = itself (suc x.place) x.part x.has in
              let h : IsHeldInside unit.nodes x.declarator = record { outer = x.part; node = m; at = q; initialises = its; is = first; held = outer } in
              record {
                declarator = x.declarator;
                name = name_of_node unit.nodes x.declarator token x.names;
                other = no_enumerator unit.nodes x.declarator token x.names;
                is = inr h;
                declares = held_inside x.declarator h;
                around = λ a o at is e. subst (λ z. Declares z x.node) (same_above x.declarator x.part a 0 0 m o q first at e) (held x.part outer);
              }

  -- what is read behind an initialised declarator is the whole of it, which the same declaration has; it is no enumerator
  record IsRaised (d p : ℕ) : Type 0 where
    declares : Declares p d
    other : kind_in u.nodes.now (Some p) ≡ Some kind.Enumerator → ⊥

  raised_is : {token d : ℕ} {own : Node} (z : IsDeclaredBy token d own) (i : ℕ) → IsRaised d (raised unit.nodes s.above z.declarator i)
  raised_is {d = d} z i = by (slice_index_or s.above z.declarator None) refl
    where
      is_so : (q : ℕ) → raised unit.nodes s.above z.declarator i ≡ q → IsRaised d q → IsRaised d (raised unit.nodes s.above z.declarator i)
      is_so q e h = subst (IsRaised d) (sym e) h

      itself : IsRaised d z.declarator
      itself = record { declares = z.declares; other = λ e. z.other (ap (λ ns. kind_in ns (Some z.declarator)) (sym tree.nodes) ∙ e) }

      choice : (a : ℕ) (m : Node) → slice_get unit.nodes a ≡ Some m → (b : Bool) → (initialises m.kind m.parts z.declarator && nat_lt a i) ≡ b → raised unit.nodes s.above z.declarator i ≡ (if b then a else z.declarator)
          → IsRaised d (raised unit.nodes s.above z.declarator i)
      choice a m at true q e =
          let both = and_parts (initialises m.kind m.parts z.declarator) (nat_lt a i) q in
          let first = initial m.kind m.parts z.declarator both.0 in
          is_so a e (record {
            declares = z.around a m at first.0 first.1;
            other = λ f. unlike (sym (kind_is a m at ∙ ap Some first.0) ∙ f);
          })
        where
          unlike : Some kind.InitDeclarator ≡ Some kind.Enumerator → ⊥
          unlike f = cc f
      choice a m at false q e = is_so z.declarator e itself

      at_above : (a : ℕ) (o : Option Node) → slice_get unit.nodes a ≡ o → raised unit.nodes s.above z.declarator i ≡ raised_by o a z.declarator i → IsRaised d (raised unit.nodes s.above z.declarator i)
      at_above a None at e = is_so z.declarator e itself
      at_above a (Some m) at e = choice a m at (initialises m.kind m.parts z.declarator && nat_lt a i) refl e

      by : (o : Option ℕ) → slice_index_or s.above z.declarator None ≡ o → IsRaised d (raised unit.nodes s.above z.declarator i)
      by None q = is_so z.declarator (ap (λ o. raised_if unit.nodes o z.declarator i) q) itself
      by (Some a) q = at_above a (slice_get unit.nodes a) refl (ap (λ o. raised_if unit.nodes o z.declarator i) q)

  spelled : name_in s.bindings.spellings ≡ name_of file unit.tokens.list.items
  spelled = λ j t. are.bindings.spellings.each t j

  -- what a typedef name finds
  record IsSeen (p : ℕ) : Type 0 where
    token : ℕ
    says : SaysTypedef unit.nodes token
    raised : IsRaised says.declares.node p

  found : (i p : ℕ) (n : Node) → slice_get unit.nodes i ≡ Some n → n.kind ≡ kind.TypedefName → slice_index_or u.visible.now i None ≡ Some p → IsSeen p
  found i p n at k vis = by (slice_index_or s.bindings.visible n.first None) refl
    where
      column : slice_index_or u.visible.now i None ≡ raised_of unit.nodes s.above (entry_if s.bindings.declarers (slice_index_or s.bindings.visible n.first None)) i
      column =
          ap (λ vs. slice_index_or vs i None) tree.visible
          ∙ are.visible.each i (slice_get_within unit.nodes i n at)
          ∙ ap (λ o. raised_of unit.nodes s.above (visible_if s.bindings (used_name o)) i) at
          ∙ ap (λ x. raised_of unit.nodes s.above (visible_if s.bindings (used_by x n.first)) i) k

      by : (o : Option ℕ) → slice_index_or s.bindings.visible n.first None ≡ o → IsSeen p
      by None q =
          let none : None ≡ Some p = sym (ap (λ o. raised_of unit.nodes s.above (entry_if s.bindings.declarers o) i) q) ∙ sym column ∙ vis in
          absurd cc
      by (Some token) q =
          let there : visible (name_of file unit.tokens.list.items) past n.first ≡ Some token = sym (ap (λ f. visible f past n.first) spelled) ∙ sym (are.bindings.visible.each n.first (within i n at)) ∙ q in
          let y = sees i n at k token there in
          let z = declared_by_node token y.declares in
          let declarer : slice_index_or s.bindings.declarers token None ≡ Some z.declarator =
          are.bindings.declarers.each token (named_within z.declarator token z.name)
          ∙ last_is (name_at unit.nodes) (length unit.nodes) token z.declarator z.name (node_there unit.nodes z.declarator token z.name) (λ r less e. apart.wholes z.declarator r token z.is z.name less e) in
          let one : Some p ≡ Some (raised unit.nodes s.above z.declarator i) =
          sym vis ∙ column ∙ ap (λ o. raised_of unit.nodes s.above (entry_if s.bindings.declarers o) i) q ∙ ap (λ o. raised_of unit.nodes s.above o i) declarer in
          let p-is : p ≡ raised unit.nodes s.above z.declarator i = cc in
          record { token = token; says = y; raised = subst (IsRaised y.declares.node) (sym p-is) (raised_is z i) }

  pub seen : (i p d : ℕ) (n : Node) → slice_get unit.nodes i ≡ Some n → n.kind ≡ kind.TypedefName → slice_index_or u.visible.now i None ≡ Some p → Declares p d → IsTypedef u d
  seen i p d n at k vis has =
      let x = found i p n at k vis in
      let one : Some d ≡ Some x.says.declares.node = sym has ∙ x.raised.declares in
      let d-is : d ≡ x.says.declares.node = cc in
      subst (IsTypedef u) (sym d-is)
      (ap (λ ns. storage_of ns (parts_in ns (Some x.says.declares.node))) tree.nodes ∙ ap (λ o. storage_of unit.nodes (parts_if o)) x.says.declares.at ∙ x.says.says)

  pub other : (i p : ℕ) (n : Node) → slice_get unit.nodes i ≡ Some n → n.kind ≡ kind.TypedefName → slice_index_or u.visible.now i None ≡ Some p → kind_in u.nodes.now (Some p) ≡ Some kind.Enumerator → ⊥
  other i p n at k vis is = (found i p n at k vis).raised.other is
