-- What a name finds stands before it, and declares an ordinary identifier (C11 6.2.1p7, 6.2.3).
use Rattle.std.proofs.Common.{◌≡◌, ℕ, zero, suc, ◌<◌, ◌&&◌, ◌⊎◌, inl, inr, Bool, true, false, List, [], ◌∷◌, Option, None, Some, length, nat_lt, slice_get, slice_index_or, refl, sym, ap, subst, ◌∙◌, if◌then◌else◌, arith}
use Rattle.std.proofs.lemmas.Bool.{false≢true, and_parts, cases_lt, eqb-true, eq-eqb, ltb-true}
use Rattle.std.proofs.lemmas.Option.{slice_get_within}
use Rattle.cr_syntax.specs.declared.node.Kind.{Kind}
use Rattle.cr_syntax.specs.declared.node.Kind.TheVariants as kind
use Rattle.cr_syntax.specs.declared.node.Node.{Node}
use Rattle.cr_syntax.specs.declared.unit.Unit as source
use Rattle.cr_syntax_order.specs.Listed.{AreListed}
use Rattle.cr_scopes_events.specs.declared.event.Event.{Event}
use Rattle.cr_scopes.specs.declared.names.Names.{Names}
use Rattle.cr_scopes.specs.Resolved.{is_number, past_of}
use Rattle.cr_scopes.specs.Spelled.{name_of}
use Rattle.cr_scopes.specs.States.{name_in}
use Rattle.cr_scopes.specs.Units.{unit_events, AreUnitNames}
use Rattle.cr_scopes_bindings.specs.Last.{last_with}
use Rattle.cr_scopes_bindings.specs.Nodes.{name_at}
use Rattle.cr_scopes_bindings.specs.Visible.{visible}
use Rattle.cr_scopes_bindings.specs.Bindings.{entry_if}
use Rattle.cr_scopes_visibility.specs.Sight.Scopes.{is_using}
use Rattle.cr_scopes_visibility.specs.Uses.Uses.{Finds}
use Rattle.cr_scopes_visibility.proofs.UsesLemmas.Finding.{all_find}
use Rattle.cr_scopes_visibility.specs.Told.Told.{is_declaration, IsHeld, IsHeldInside, IsDeclarator, IsEnumerator, IsDeclaredBelow, IsTold, AreApart}
use Rattle.cr_scopes_visibility.proofs.ToldLemmas.Walks.{told}
use Rattle.cr_check_declarations.specs.declared.tree.Tree.{Tree}
use Rattle.cr_check_declarations.specs.Before.{kind_if, kind_in}
use Rattle.cr_check_declarations.specs.Named as named
use Rattle.cr_check_surroundings.specs.declared.surroundings.Surroundings.{Surroundings}
use Rattle.cr_check_surroundings.specs.Surroundings.{AreSurroundings, IsTree}
use Rattle.cr_check_surroundings.specs.Named.{used_by, used_name, visible_if}
use Rattle.cr_check_surroundings.specs.Raised.{initialises, raised_by, raised_if, raised, raised_of}
use Rattle.cr_meaning_types.specs.Found.Found.{IsOrdinary}
use Rattle.cr_meaning_references.specs.Told.Told.{IsFoundBefore}

-- the last number with a key is the one behind which there is none
pub last_is : (key : ℕ → Option ℕ) (bound k p : ℕ) → key p ≡ Some k → p < bound → ((q : ℕ) → p < q → key q ≡ Some k → ⊥) → last_with key bound k ≡ Some p
last_is key zero k p e low none = absurd (omega (arith, low))
last_is key (suc bound) k p e low none = by (is_number (key bound) k) refl (λ less. last_is key bound k p e less none)
  where
    has : (o : Option ℕ) → is_number o k ≡ true → o ≡ Some k
    has None h = absurd (false≢true h)
    has (Some j) h = ap Some (eqb-true j k h)

    itself : is_number (key p) k ≡ true
    itself = ap (λ o. is_number o k) e ∙ eq-eqb k k refl

    by : (b : Bool) → is_number (key bound) k ≡ b → (p < bound → last_with key bound k ≡ Some p) → last_with key (suc bound) k ≡ Some p
    by true q rest = elim (cases_lt p bound) [
      | inl less ↦ absurd (none bound less (has (key bound) q))
      | inr ge ↦ (let same : bound ≡ p = omega (arith, ge, low) in ap (λ b. if b then Some bound else last_with key bound k) q ∙ ap Some same)
    ]
    by false q rest = elim (cases_lt p bound) [
      | inl less ↦ ap (λ b. if b then Some bound else last_with key bound k) q ∙ rest less
      | inr ge ↦ (let same : bound ≡ p = omega (arith, ge, low) in absurd (false≢true (sym q ∙ ap (λ x. is_number (key x) k) same ∙ itself)))
    ]

-- ---- kinds

use_name : (k : Kind) (first : ℕ) → is_using k ≡ true → used_by k first ≡ Some first
use_name kind.Identifier first h = refl
use_name kind.Call first h = refl
use_name kind.TypedefName first h = refl
use_name k first h = absurd (false≢true h)

-- a declaration is none with an initialiser
pub at_declaration : {A : Type 0} (k : Kind) → is_declaration k ≡ true → (other own none : A) → (if named.is_initialised (Some k) then other else (if named.is_declaration (Some k) then own else none)) ≡ own
at_declaration kind.Declaration h other own none = refl
at_declaration kind.FunctionDefinition h other own none = refl
at_declaration kind.Parameter h other own none = refl
at_declaration k h other own none = absurd (false≢true h)

pub holds : {A : Type 0} (k : Kind) → is_declaration k ≡ true → (own none : A) → (if named.is_declaration (Some k) then own else none) ≡ own
holds kind.Declaration h own none = refl
holds kind.FunctionDefinition h own none = refl
holds kind.Parameter h own none = refl
holds k h own none = absurd (false≢true h)

ordinary_kind : (k : Kind) → is_declaration k ≡ true → named.names_ordinary (Some k) ≡ true
ordinary_kind kind.Declaration h = refl
ordinary_kind kind.FunctionDefinition h = refl
ordinary_kind kind.Parameter h = refl
ordinary_kind k h = absurd (false≢true h)

pub initial : (k : Kind) (parts : List ℕ) (p : ℕ) → initialises k parts p ≡ true → (k ≡ kind.InitDeclarator) × (slice_get parts 0 ≡ Some p)
initial kind.InitDeclarator [] p h = absurd (false≢true h)
initial kind.InitDeclarator (q ∷ ps) p h = (refl, ap Some (eqb-true q p h))
initial k parts p h = absurd (false≢true h)

pub not_initial : (k : Kind) → is_declaration k ≡ true → k ≡ kind.InitDeclarator → ⊥
not_initial k h e = false≢true (sym (ap is_declaration e) ∙ h)

module _ (file : List ℕ) (unit : source.Unit) (names : Names) (s : Surroundings) (u : Tree) (are : AreSurroundings file unit names s) (tree : IsTree file unit s u) (known : AreUnitNames file unit names)
    (listed : AreListed unit.nodes 0 unit.items (length unit.nodes)) (apart : AreApart unit.nodes)
    (parent : (p a k : ℕ) (m : Node) → slice_get unit.nodes a ≡ Some m → slice_get m.parts k ≡ Some p → slice_index_or s.above p None ≡ Some a)
    (within : (i : ℕ) (n : Node) → slice_get unit.nodes i ≡ Some n → n.first < length unit.tokens.list.items)
    (named_within : (p token : ℕ) → name_at unit.nodes p ≡ Some token → token < length unit.tokens.list.items)
    (plain : (p a : ℕ) (m : Node) → IsEnumerator unit.nodes p → slice_get unit.nodes a ≡ Some m → m.kind ≡ kind.InitDeclarator → slice_get m.parts 0 ≡ Some p → ⊥) where
  -- ---- declarators that declare ordinary identifiers

  above_is : (p a k : ℕ) (m : Node) → slice_get unit.nodes a ≡ Some m → slice_get m.parts k ≡ Some p → slice_index_or u.above.now p None ≡ Some a
  above_is p a k m at e = ap (λ l. slice_index_or l p None) tree.above ∙ parent p a k m at e

  kind_is : (a : ℕ) (m : Node) → slice_get unit.nodes a ≡ Some m → kind_in u.nodes.now (Some a) ≡ Some m.kind
  kind_is a m at = ap (λ ns. kind_in ns (Some a)) tree.nodes ∙ ap kind_if at

  -- of the node above it
  abbrev declaration_by : Option ℕ → Option ℕ
  declaration_by o =
      if named.is_initialised (kind_in u.nodes.now o) then named.declaration_at u.nodes.now (named.above_in u.above.now o) else named.declaration_at u.nodes.now o

  held : (p : ℕ) → IsHeld unit.nodes p → IsOrdinary u p
  held p h = record {
    declaration = h.declaration;
    is =
        ap declaration_by (above_is p h.declaration h.place h.node h.at h.is)
        ∙ ap
        (λ k. if named.is_initialised k then named.declaration_at u.nodes.now (named.above_in u.above.now (Some h.declaration)) else (if named.is_declaration k then Some h.declaration else None))
        (kind_is h.declaration h.node h.at)
        ∙ at_declaration h.node.kind h.declares (named.declaration_at u.nodes.now (named.above_in u.above.now (Some h.declaration))) (Some h.declaration) None;
    ordinary = ap named.names_ordinary (kind_is h.declaration h.node h.at) ∙ ordinary_kind h.node.kind h.declares;
  }

  held_inside : (p : ℕ) → IsHeldInside unit.nodes p → IsOrdinary u p
  held_inside p h = record {
    declaration = h.held.declaration;
    is =
        ap declaration_by (above_is p h.outer 0 h.node h.at h.is)
        ∙ ap (λ k. if named.is_initialised k then named.declaration_at u.nodes.now (named.above_in u.above.now (Some h.outer)) else named.declaration_at u.nodes.now (Some h.outer))
        (kind_is h.outer h.node h.at ∙ ap Some h.initialises)
        ∙ ap (named.declaration_at u.nodes.now) (above_is h.outer h.held.declaration h.held.place h.held.node h.held.at h.held.is)
        ∙ ap (λ k. if named.is_declaration k then Some h.held.declaration else None) (kind_is h.held.declaration h.held.node h.held.at)
        ∙ holds h.held.node.kind h.held.declares (Some h.held.declaration) None;
    ordinary = ap named.names_ordinary (kind_is h.held.declaration h.held.node h.held.at) ∙ ordinary_kind h.held.node.kind h.held.declares;
  }

  declares : (p : ℕ) → IsDeclarator unit.nodes p ⊎ IsEnumerator unit.nodes p → (kind_in u.nodes.now (Some p) ≡ Some kind.Enumerator → ⊥) → IsOrdinary u p
  declares p (inl (inl h)) other = held p h
  declares p (inl (inr h)) other = held_inside p h
  declares p (inr e) other = absurd (other (kind_is p e.node e.at ∙ ap Some e.is))

  same_node : (a b : ℕ) (m n : Node) → slice_get unit.nodes a ≡ Some m → slice_get unit.nodes b ≡ Some n → a ≡ b → m.kind ≡ n.kind
  same_node a b m n here there same = let is : Some m ≡ Some n = sym here ∙ ap (slice_get unit.nodes) same ∙ there in let one : m ≡ n = cc in ap (λ (x : Node). x.kind) one

  same_above : (p a b k l : ℕ) (m n : Node) → slice_get unit.nodes a ≡ Some m → slice_get m.parts k ≡ Some p → slice_get unit.nodes b ≡ Some n → slice_get n.parts l ≡ Some p → a ≡ b
  same_above p a b k l m n at e there f = let is : Some a ≡ Some b = sym (parent p a k m at e) ∙ parent p b l n there f in cc

  -- the initialised declarator around one
  around : (p a : ℕ) (m : Node) → slice_get unit.nodes a ≡ Some m → m.kind ≡ kind.InitDeclarator → slice_get m.parts 0 ≡ Some p → IsDeclarator unit.nodes p ⊎ IsEnumerator unit.nodes p → IsOrdinary u a
  around p a m at is e (inl (inl h)) = absurd (not_initial h.node.kind h.declares (sym (same_node a h.declaration m h.node at h.at (same_above p a h.declaration 0 h.place m h.node at e h.at h.is)) ∙ is))
  around p a m at is e (inl (inr h)) =
      let same : h.outer ≡ a = same_above p h.outer a 0 0 h.node m h.at h.is at e in
      held a (subst (IsHeld unit.nodes) same h.held)
  around p a m at is e (inr h) = absurd (plain p a m h at is e)

  -- ---- what is found

  abbrev past : List Event
  past = past_of (unit_events unit) (length (unit_events unit))

  abbrev name : ℕ → ℕ
  name = name_of file unit.tokens.list.items

  spelled : name_in s.bindings.spellings ≡ name
  spelled = λ j t. are.bindings.spellings.each t j

  record IsRaised (p i : ℕ) : Type 0 where
    below : raised unit.nodes s.above p i < i
    ordinary : (kind_in u.nodes.now (Some (raised unit.nodes s.above p i)) ≡ Some kind.Enumerator → ⊥) → IsOrdinary u (raised unit.nodes s.above p i)

  raised_is : (p i : ℕ) → p < i → IsDeclarator unit.nodes p ⊎ IsEnumerator unit.nodes p → IsRaised p i
  raised_is p i low stands = by (slice_index_or s.above p None) refl
    where
      made : (q : ℕ) → raised unit.nodes s.above p i ≡ q → (q < i) × ((kind_in u.nodes.now (Some q) ≡ Some kind.Enumerator → ⊥) → IsOrdinary u q) → IsRaised p i
      made q e h = record {
        below = subst (λ x. x < i) (sym e) h.0;
        ordinary = subst (λ x. (kind_in u.nodes.now (Some x) ≡ Some kind.Enumerator → ⊥) → IsOrdinary u x) (sym e) h.1;
      }

      own : raised unit.nodes s.above p i ≡ p → IsRaised p i
      own e = made p e (low, declares p stands)

      choice : (a : ℕ) (m : Node) → slice_get unit.nodes a ≡ Some m → (b : Bool) → (initialises m.kind m.parts p && nat_lt a i) ≡ b → raised unit.nodes s.above p i ≡ (if b then a else p) → IsRaised p i
      choice a m at true q e =
          let both = and_parts (initialises m.kind m.parts p) (nat_lt a i) q in
          let first = initial m.kind m.parts p both.0 in
          made a e (ltb-true a i both.1, λ other. around p a m at first.0 first.1 stands)
      choice a m at false q e = own e

      at_above : (a : ℕ) (o : Option Node) → slice_get unit.nodes a ≡ o → raised unit.nodes s.above p i ≡ raised_by o a p i → IsRaised p i
      at_above a None at e = own e
      at_above a (Some m) at e = choice a m at (initialises m.kind m.parts p && nat_lt a i) refl e

      by : (o : Option ℕ) → slice_index_or s.above p None ≡ o → IsRaised p i
      by None q = own (ap (λ o. raised_if unit.nodes o p i) q)
      by (Some a) q = at_above a (slice_get unit.nodes a) refl (ap (λ o. raised_if unit.nodes o p i) q)

  pub found : (i : ℕ) (n : Node) → slice_get unit.nodes i ≡ Some n → is_using n.kind ≡ true → IsFoundBefore u i
  found i n at used = record {
    declared = raised unit.nodes s.above below.declarer i;
    is =
        ap (λ vs. slice_index_or vs i None) tree.visible
        ∙ are.visible.each i (slice_get_within unit.nodes i n at)
        ∙ ap (λ o. raised_of unit.nodes s.above (visible_if s.bindings (used_name o)) i) at
        ∙ ap (λ o. raised_of unit.nodes s.above (visible_if s.bindings o) i) (use_name n.kind n.first used)
        ∙ ap (λ o. raised_of unit.nodes s.above (entry_if s.bindings.declarers o) i) column
        ∙ ap (λ o. raised_of unit.nodes s.above o i) declarer;
    below = own.below;
    ordinary = own.ordinary;
  }
    where
      use_told : IsTold unit.nodes n.first i past
      use_told = told unit.tokens.list.items unit.nodes unit.items listed apart i n at used

      finds : Finds name n.first past
      finds = all_find name (unit_events unit) n.first known.right use_told.used

      below : IsDeclaredBelow unit.nodes finds.declared i
      below = use_told.behind finds.declared finds.before

      own : IsRaised below.declarer i
      own = raised_is below.declarer i below.below below.stands

      column : slice_index_or s.bindings.visible n.first None ≡ Some finds.declared
      column = are.bindings.visible.each n.first (within i n at) ∙ ap (λ f. visible f past n.first) spelled ∙ finds.is

      declarer : slice_index_or s.bindings.declarers finds.declared None ≡ Some below.declarer
      declarer =
          are.bindings.declarers.each finds.declared (named_within below.declarer finds.declared below.names)
          ∙ last_is (name_at unit.nodes) (length unit.nodes) finds.declared below.declarer below.names (let low = slice_get_within unit.nodes i n at in let less = below.below in omega (arith, low, less)) below.last
