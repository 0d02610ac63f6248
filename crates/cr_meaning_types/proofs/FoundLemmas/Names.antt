-- What a name finds: a declarator, maybe with its initialiser, or an enumerator (C11 6.2.1p7, 6.7.2.2p3).
use Rattle.std.proofs.Common.{◌≡◌, ℕ, ◌⊎◌, inl, inr, Bool, true, false, ◌&&◌, List, Option, None, Some, nat_lt, slice_get, slice_index_or, refl, sym, subst, ap, ◌∙◌, if◌then◌else◌}
use Rattle.std.proofs.lemmas.Bool.{false≢true, and_parts}
use Rattle.cr_syntax.specs.declared.node.Kind.{Kind}
use Rattle.cr_syntax.specs.declared.node.Kind.TheVariants as kind
use Rattle.cr_syntax.specs.declared.node.Node.{Node}
use Rattle.cr_syntax.specs.declared.unit.Unit as source
use Rattle.cr_scopes.specs.declared.names.Names.{Names}
use Rattle.cr_scopes_events.specs.declared.declarator.Declarator.{Declarator}
use Rattle.cr_scopes_events.specs.Values.{before}
use Rattle.cr_scopes_events.specs.Declarators.{nowhere, declared_by, declared_if, declarator_of}
use Rattle.cr_scopes_events.proofs.Descents.{declarator_ruled}
use Rattle.cr_scopes_bindings.specs.Nodes.{named_by, named_if, name_at}
use Rattle.cr_check_declarations.specs.declared.tree.Tree.{Tree}
use Rattle.cr_check_declarations.specs.Before.{kind_if}
use Rattle.cr_check_declarations.specs.Named.{declares_name}
use Rattle.cr_check_surroundings.specs.declared.surroundings.Surroundings.{Surroundings}
use Rattle.cr_check_surroundings.specs.Surroundings.{AreSurroundings, IsTree}
use Rattle.cr_check_surroundings.specs.Named.{used_name, visible_if, visible_for}
use Rattle.cr_check_surroundings.specs.Raised.{initialises, raised_by, raised_if, raised, raised_of}
use Rattle.cr_meaning_types.specs.Known.Sighted.{IsDeclaring, IsDeclaredFor, IsSeen}
use Rattle.cr_meaning_types.specs.Found.Found.{IsNameFound}
use Rattle.cr_meaning_types.specs.Found.Laws
use Rattle.cr_meaning_types.proofs.FoundLemmas.Columns.{has_key}
use Rattle.cr_meaning_types.proofs.FoundLemmas.Tags.{few, tagged}

-- ---- what declares a name

record IsNaming (nodes : List Node) (p : ℕ) : Type 0 where
  node : Node
  at : slice_get nodes p ≡ Some node
  is : (node.kind ≡ kind.Enumerator) ⊎ (declares_name node.kind ≡ true)

has_declarator : (k : Kind) (at : ℕ → Declarator) (p : ℕ) (m : Node) (token : ℕ) → (declared_by k at p m).name ≡ Some token → declares_name k ≡ true
has_declarator kind.NameDeclarator at p m token e = refl
has_declarator kind.GroupDeclarator at p m token e = refl
has_declarator kind.PointerDeclarator at p m token e = refl
has_declarator kind.ArrayDeclarator at p m token e = refl
has_declarator kind.FunctionDeclarator at p m token e = refl
has_declarator k at p m token e = let never : None ≡ Some token = e in absurd cc

named_node : (nodes : List Node) (p token : ℕ) → name_at nodes p ≡ Some token → IsNaming nodes p
named_node nodes p token e = by (slice_get nodes p) refl e
  where
    at_parts : ℕ → Declarator
    at_parts = before nowhere p (declarator_of nodes)

    by_kind : (m : Node) → slice_get nodes p ≡ Some m → (k : Kind) → m.kind ≡ k → named_by k m.first (declarator_of nodes p).name ≡ Some token → (k ≡ kind.Enumerator) ⊎ (declares_name k ≡ true)
    by_kind m at kind.Enumerator q e = inl refl
    by_kind m at k q e =
        let ruled = declarator_ruled nodes p ∙ ap (λ o. declared_if o at_parts p) at ∙ ap (λ (y : Kind). declared_by y at_parts p m) q in
        inr (has_declarator k at_parts p m token (sym (ap (λ (d : Declarator). d.name) ruled) ∙ e))

    by : (o : Option Node) → slice_get nodes p ≡ o → named_if o (declarator_of nodes p).name ≡ Some token → IsNaming nodes p
    by None at e = absurd cc
    by (Some m) at e = record { node = m; at = at; is = by_kind m at m.kind refl e }

-- ---- with its initialiser

initialised : (k : Kind) (parts : List ℕ) (p : ℕ) → initialises k parts p ≡ true → declares_name k ≡ true
initialised kind.InitDeclarator parts p h = refl
initialised k parts p h = absurd (false≢true h)

raised_node : (nodes : List Node) (above : List (Option ℕ)) (p reader : ℕ) → IsNaming nodes p → IsNaming nodes (raised nodes above p reader)
raised_node nodes above p reader own = by (slice_index_or above p None)
  where
    choice : (a : ℕ) (n : Node) → slice_get nodes a ≡ Some n → (b : Bool) → (initialises n.kind n.parts p && nat_lt a reader) ≡ b → IsNaming nodes (if b then a else p)
    choice a n at true q = record { node = n; at = at; is = inr (initialised n.kind n.parts p (and_parts (initialises n.kind n.parts p) (nat_lt a reader) q).0) }
    choice a n at false q = own

    at_above : (a : ℕ) (o : Option Node) → slice_get nodes a ≡ o → IsNaming nodes (raised_by o a p reader)
    at_above a None at = own
    at_above a (Some n) at = choice a n at (initialises n.kind n.parts p && nat_lt a reader) refl

    by : (o : Option ℕ) → IsNaming nodes (raised_if nodes o p reader)
    by None = own
    by (Some a) = at_above a (slice_get nodes a) refl

module _ (file : List ℕ) (unit : source.Unit) (names : Names) (s : Surroundings) (u : Tree) (are : AreSurroundings file unit names s) (tree : IsTree file unit s u) where
  visible_node_is : (o : Option ℕ) (p : ℕ) → visible_if s.bindings o ≡ Some p → IsNaming unit.nodes p
  visible_node_is None p e = absurd cc
  visible_node_is (Some token) p e = let key = has_key (name_at unit.nodes) _ _ s.bindings.declarers are.bindings.declarers (slice_index_or s.bindings.visible token None) p e in named_node unit.nodes p key.0 key.1

  found_node : (i declared : ℕ) → visible_for s.bindings unit.nodes s.above i ≡ Some declared → IsNaming unit.nodes declared
  found_node i declared e = by (visible_if s.bindings (used_name (slice_get unit.nodes i))) refl e
    where
      by : (o : Option ℕ) → visible_if s.bindings (used_name (slice_get unit.nodes i)) ≡ o → raised_of unit.nodes s.above o i ≡ Some declared → IsNaming unit.nodes declared
      by None q e = absurd cc
      by (Some p) q e =
          let same : raised unit.nodes s.above p i ≡ declared = cc in
          subst (IsNaming unit.nodes) same (raised_node unit.nodes s.above p i (visible_node_is (used_name (slice_get unit.nodes i)) p q))

  -- ---- for a name

  for_enumerator : (k : Kind) (p : ℕ) (m : Node) → (k ≡ kind.TypedefName → ⊥) → m.kind ≡ kind.Enumerator → IsDeclaredFor k u p m
  for_enumerator kind.TypedefName p m f e = absurd (f refl)
  for_enumerator k p m f e = inr e

  for_declarator : (k : Kind) (p : ℕ) (m : Node) → IsDeclaring u p m → IsDeclaredFor k u p m
  for_declarator kind.TypedefName p m d = d
  for_declarator k p m d = inl d

  declared_for : (i : ℕ) (k : Kind) (h : IsNameFound u i k) (m : Node) → slice_get u.nodes.now h.declared ≡ Some m → (m.kind ≡ kind.Enumerator) ⊎ (declares_name m.kind ≡ true) → IsDeclaredFor k u h.declared m
  declared_for i k h m at (inl e) = for_enumerator k h.declared m (λ is. h.typed is (ap kind_if at ∙ ap Some e)) e
  declared_for i k h m at (inr d) =
      let own = h.ordinary (λ is. other (sym (ap kind_if at) ∙ is)) in
      for_declarator k h.declared m (record { declares = d; declaration = own.declaration; is = own.is; ordinary = own.ordinary })
    where
      other : Some m.kind ≡ Some kind.Enumerator → ⊥
      other is = let same : m.kind ≡ kind.Enumerator = cc in false≢true (sym (ap declares_name same) ∙ d)

  seen : (i : ℕ) (n : Node) → slice_get u.nodes.now i ≡ Some n → IsNameFound u i n.kind → IsSeen u i n.kind
  seen i n at h =
      let x = found_node i h.declared (sym (ap (λ vs. slice_index_or vs i None) tree.visible ∙ are.visible.each i (few file unit names s u are tree i n at)) ∙ h.is) in
      let there = ap (λ ns. slice_get ns h.declared) tree.nodes ∙ x.at in
      record { declared = h.declared; is = h.is; below = h.below; node = x.node; at = there; declares = declared_for i n.kind h x.node there x.is }

pub declared : Laws.WhatIsFoundIsDeclared
declared file unit names s u are tree found = record {
  names = λ i n at used. seen file unit names s u are tree i n at (found.names i n at used);
  tags = λ i n at is. tagged file unit names s u are tree i n at (found.tags i n at is);
  constants = found.constants;
}
