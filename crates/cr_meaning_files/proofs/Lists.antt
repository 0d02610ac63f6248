-- What stands in a list of parameters: no run reaches it, and what the list of a declarator that defines no function declares is in scope there
-- alone (C11 6.2.1p4).
use Rattle.std.proofs.Common.{◌≡◌, ℕ, zero, suc, ◌+◌, ◌<◌, ◌≤◌, ◌==◌, ◌⊎◌, inl, inr, Bool, true, false, ◌||◌, ◌&&◌, not, List, [], ◌∷◌, Option, None, Some, length, slice_get, refl, sym, ap, subst, ◌∙◌, arith}
use Rattle.std.specs.Prelude.{if◌then◌else◌}
use Rattle.std.specs.List.{list_all}
use Rattle.std.proofs.lemmas.Bool.{false≢true, and_parts, or_left, or_right, eqb-true, eq-eqb, ne_eqb, not-true}
use Rattle.std.proofs.lemmas.Option.{slice_get_within, same_Some}
use Rattle.cr_syntax.specs.declared.node.Kind.{Kind}
use Rattle.cr_syntax.specs.declared.node.Kind.TheVariants as kind
use Rattle.cr_syntax.specs.declared.node.Node.{Node}
use Rattle.cr_syntax.specs.declared.part.Part.{Part}
use Rattle.cr_syntax.specs.Kept.{row_in}
use Rattle.cr_syntax.specs.Tables.{rule_of, side_of}
use Rattle.cr_syntax_nodes.specs.Laid.{stands_for}
use Rattle.cr_scopes_events.specs.declared.event.Event.{Event}
use Rattle.cr_scopes_events.specs.declared.event.Event.TheVariants as event
use Rattle.cr_scopes_events.specs.declared.declarator.Derivation.TheVariants as derivation
use Rattle.cr_scopes_events.specs.Declarators.{declarator_of}
use Rattle.cr_scopes_events.specs.Events.{events_of}
use Rattle.cr_scopes.specs.Resolved.{past_of}
use Rattle.cr_scopes.specs.Spelled.{name_of as spelled_name}
use Rattle.cr_scopes.specs.Units.{unit_events}
use Rattle.cr_scopes_bindings.specs.declared.scoped.Binding.{Binding}
use Rattle.cr_scopes_bindings.specs.declared.scoped.Binding.TheVariants.{Bound, Mark}
use Rattle.cr_scopes_bindings.specs.Stacks.{stack_of, found_in}
use Rattle.cr_scopes_bindings.specs.Visible.{latest, visible, is_named as named_before}
use Rattle.cr_scopes_bindings.proofs.Looking.{looked}
use Rattle.cr_scopes_visibility.specs.Alone.Sight.{is_bound, is_used, IsSeen}
use Rattle.cr_scopes_visibility.specs.Sight.Scopes.{is_using, IsApart}
use Rattle.cr_scopes_visibility.specs.Parameters.Definitions.{is_holding, AreOrdered, IsLone, AreWithin}
use Rattle.cr_scopes_visibility.proofs.ParametersLemmas.Walks.{list_alone}
use Rattle.cr_scopes_visibility.specs.Uses.Uses.{is_use}
use Rattle.cr_check_enclosing.specs.Above.{above_of}
use Rattle.cr_typed.specs.declared.typed.Typed.{Typed}
use Rattle.cr_meaning_operations.specs.Operations.{kind_if, kind_at, parts_if, parts_at, is_static_initialiser}
use Rattle.cr_meaning_declarations.proofs.UnitsLemmas.Rows.{clear_side, clear_laid, clear_at}
use Rattle.cr_meaning_declarations.proofs.UnitsLemmas.Handing.{laid_at, parts_below}
use Rattle.cr_meaning_declarations.proofs.NamesLemmas.Leaves.{is_named, is_use as uses_name, is_word, word_once, named_once, no_tag, no_use}
use Rattle.cr_meaning_declarations.proofs.NamesLemmas.Walks.{without, clears}
use Rattle.cr_meaning_declarations.proofs.NamesLemmas.Parents.{IsPartOf, part_below, one_parent, no_item, above_is, above_some}
use Rattle.cr_meaning_declarations.specs.Declared.Files.{IsUnitOfFile}
use Rattle.cr_meaning_declarations.specs.Sight.Under.{is_under}
use Rattle.cr_meaning_declarations.proofs.SightLemmas.Under.{under_at, item_outside, not_above, outermost_outside}
use Rattle.cr_meaning_declarations.proofs.SightLemmas.Orderly.{orderly}
use Rattle.cr_meaning_declarations.proofs.DeclaredLemmas.Files.{has_unit}
use Rattle.cr_meaning_declarations.proofs.SightLemmas.Names.{using_named, tagging_tagged}
use Rattle.cr_meaning_declarations.proofs.LastingLemmas.Begun.{one_of}
use Rattle.cr_syntax_nodes.specs.Nodes.{most}
use Rattle.cr_meaning_files.specs.Reached.{is_item, is_definition, is_block, goes_on, lives_below, lives, is_passed, is_run_kind, is_reached}
use Rattle.cr_meaning_files.specs.Seen.{sees}
use Rattle.cr_meaning_references.proofs.TreesLemmas.Grammar.{Stands, part_in}
use Rattle.cr_meaning_files.proofs.Living.{lives_is}
use Rattle.cr_meaning_references.proofs.TreesLemmas.Tree.{HasPart, has_part, as_part, at_most}
use Rattle.cr_meaning_objects.proofs.InitialisedLemmas.Twice.{one_place}
use Rattle.cr_meaning_files.proofs.Mains.{body_only}
use Rattle.cr_meaning_files.proofs.Named.{plain_part}

-- ---- the grammar

-- a declarator of a function has its name's declarator, and one list at the most
pub list_counts : most (side_of kind.FunctionDeclarator) ≡ Some 2
unfolding rule_of
list_counts = refl

-- statements, declarations and initialised declarators
abbrev pub is_inner : Kind → Bool
is_inner kind.InitDeclarator = true
is_inner k = is_item k

abbrev inner_kinds : List Kind
inner_kinds = kind.InitDeclarator ∷ kind.Compound ∷ kind.ExpressionStatement ∷ kind.If ∷ kind.Switch ∷ kind.While ∷ kind.Do ∷ kind.For ∷ kind.Label ∷ kind.Case ∷ kind.Default ∷ kind.Goto ∷ kind.Break ∷ kind.Continue ∷ kind.Return ∷ kind.Declaration ∷ []

abbrev pub is_outer : Part → Bool
is_outer p = list_all (λ k. not (stands_for p k)) inner_kinds

all_at : (p : Part) (ks : List Kind) (n : ℕ) (k : Kind) → list_all (λ c. not (stands_for p c)) ks ≡ true → slice_get ks n ≡ Some k → stands_for p k ≡ true → ⊥
all_at p [] n k h e s = let never : None ≡ Some k = e in cc
all_at p (c ∷ ks) zero k h e s =
    let same : c ≡ k = cc in
    false≢true (sym (not-true (stands_for p c) (and_parts (not (stands_for p c)) _ h).0) ∙ subst (λ (x : Kind). stands_for p x ≡ true) (sym same) s)
all_at p (c ∷ ks) (suc n) k h e s = all_at p ks n k (and_parts (not (stands_for p c)) _ h).1 e s

pub no_inner : (p : Part) (k : Kind) → is_outer p ≡ true → stands_for p k ≡ true → is_inner k ≡ false
no_inner p kind.InitDeclarator c s = absurd (all_at p inner_kinds 0 kind.InitDeclarator c refl s)
no_inner p kind.Compound c s = absurd (all_at p inner_kinds 1 kind.Compound c refl s)
no_inner p kind.ExpressionStatement c s = absurd (all_at p inner_kinds 2 kind.ExpressionStatement c refl s)
no_inner p kind.If c s = absurd (all_at p inner_kinds 3 kind.If c refl s)
no_inner p kind.Switch c s = absurd (all_at p inner_kinds 4 kind.Switch c refl s)
no_inner p kind.While c s = absurd (all_at p inner_kinds 5 kind.While c refl s)
no_inner p kind.Do c s = absurd (all_at p inner_kinds 6 kind.Do c refl s)
no_inner p kind.For c s = absurd (all_at p inner_kinds 7 kind.For c refl s)
no_inner p kind.Label c s = absurd (all_at p inner_kinds 8 kind.Label c refl s)
no_inner p kind.Case c s = absurd (all_at p inner_kinds 9 kind.Case c refl s)
no_inner p kind.Default c s = absurd (all_at p inner_kinds 10 kind.Default c refl s)
no_inner p kind.Goto c s = absurd (all_at p inner_kinds 11 kind.Goto c refl s)
no_inner p kind.Break c s = absurd (all_at p inner_kinds 12 kind.Break c refl s)
no_inner p kind.Continue c s = absurd (all_at p inner_kinds 13 kind.Continue c refl s)
no_inner p kind.Return c s = absurd (all_at p inner_kinds 14 kind.Return c refl s)
no_inner p kind.Declaration c s = absurd (all_at p inner_kinds 15 kind.Declaration c refl s)
no_inner p k c s = refl

-- they stand in statements, declarations and definitions alone
inner_stand : (k : Kind) → (is_inner k || (is_definition k || clear_side is_inner is_outer no_inner (side_of k))) ≡ true
unfolding rule_of
inner_stand kind.Compound = refl
inner_stand k = refl

-- a structure's content has neither blocks nor lists of parameters
only_holding : (k : Kind) → is_holding k ≡ true → (k ≡ kind.Compound) ⊎ (k ≡ kind.FunctionDeclarator)
only_holding kind.Compound h = inl refl
only_holding kind.FunctionDeclarator h = inr refl
only_holding k h = absurd (false≢true h)

no_holding : (p : Part) (k : Kind) → without kind.Compound kind.FunctionDeclarator p ≡ true → stands_for p k ≡ true → is_holding k ≡ false
no_holding p k c s = clears is_holding kind.Compound kind.FunctionDeclarator only_holding p k c s

content_clear : clear_side is_holding (without kind.Compound kind.FunctionDeclarator) no_holding (side_of kind.StructContent) ≡ true
unfolding rule_of
content_clear = refl

block_no_list : kind.Compound ≡ kind.FunctionDeclarator → ⊥
block_no_list e = cc

-- ---- kinds

static_inner : (t : Typed) (a : ℕ) (k : Kind) → is_inner k ≡ false → is_static_initialiser t a k ≡ false
static_inner t a kind.InitDeclarator h = absurd (false≢true (sym h))
static_inner t a k h = refl

using_used : (k : Kind) → is_using k ≡ true → uses_name k ≡ true
using_used kind.Identifier h = refl
using_used kind.Call h = refl
using_used kind.TypedefName h = refl
using_used k h = absurd (false≢true h)

-- ---- lists

-- what is visible at a use is in scope there
found_bound : (stack : List Binding) (s token : ℕ) → found_in stack s ≡ Some token → is_bound token stack ≡ true
found_bound [] s token e = absurd (cc e)
found_bound (Bound name own ∷ rest) s token e = by (name == s) refl e (λ f. found_bound rest s token f)
  where
    by : (b : Bool) → (name == s) ≡ b → (if b then Some own else found_in rest s) ≡ Some token → (found_in rest s ≡ Some token → is_bound token rest ≡ true) → ((own == token) || is_bound token rest) ≡ true
    by true q f more = or_left (own == token) (is_bound token rest) (eq-eqb own token (same_Some own token f))
    by false q f more = or_right (own == token) (is_bound token rest) (more f)
found_bound (Mark ∷ rest) s token e = found_bound rest s token e

pub visible_seen : (name : ℕ → ℕ) (token site : ℕ) (past : List Event) → is_use site past ≡ true → visible name past site ≡ Some token → IsSeen name token site past
visible_seen name token site [] used e = absurd (false≢true used)
visible_seen name token site (event.Name t r ∷ past) used e = by ((site == t) && not (named_before site past)) refl used e (λ u f. visible_seen name token site past u f)
  where
    by : (b : Bool) → ((site == t) && not (named_before site past)) ≡ b → (if b then is_used r else is_use site past) ≡ true
        → (if b then latest name (name t) 0 past else visible name past site) ≡ Some token
        → (is_use site past ≡ true → visible name past site ≡ Some token → IsSeen name token site past) → IsSeen name token site (event.Name t r ∷ past)
    by true q u f rest =
        inl ((u, sym (eqb-true site t (and_parts (site == t) (not (named_before site past)) q).0)), found_bound (stack_of name past) (name t) token (sym (looked name (name t) 0 past) ∙ f))
    by false q u f rest = inr (rest u f)
visible_seen name token site (event.Opens ∷ past) used e = visible_seen name token site past used e
visible_seen name token site (event.Closes ∷ past) used e = visible_seen name token site past used e
visible_seen name token site (event.Member t k ∷ past) used e = visible_seen name token site past used e
visible_seen name token site (event.Node i ∷ past) used e = visible_seen name token site past used e

module _ (file : List ℕ) (t : Typed) (it : IsUnitOfFile file t) where
  open it use {made_by}
  open has_unit file t it use {unit as u, nodes_are, order}

  abbrev above : ℕ → Option ℕ
  above a = above_of t.nodes (length t.nodes) a

  -- a definition has nothing above it
  pub outermost : (d : ℕ) → is_definition (kind_at t d) ≡ true → above d ≡ None
  outermost d defines = by (above d) refl
    where
      by : (o : Option ℕ) → above d ≡ o → o ≡ None
      by None q = refl
      by (Some a) q = absurd (false≢true (sym (plain_part file t it d a (above_some t u (length t.nodes) d a q)) ∙ defines))

  pub are_ordered : AreOrdered t.nodes
  are_ordered = record { below = (orderly t u).below; definitions = (orderly t u).definitions; members = members }
    where
      members : (i k p : ℕ) (m y : Node) → slice_get t.nodes i ≡ Some m → m.kind ≡ kind.StructContent → slice_get m.parts k ≡ Some p → slice_get t.nodes p ≡ Some y → is_holding y.kind ≡ false
      members i k p m y at is e there =
          let F : Kind → Type 0 = λ c. clear_side is_holding (without kind.Compound kind.FunctionDeclarator) no_holding (side_of c) ≡ true in
          let row = clear_laid is_holding (without kind.Compound kind.FunctionDeclarator) no_holding u.tokens (side_of m.kind) (row_in t.nodes m.parts) m.first (m.last + 1) (subst F (sym is) content_clear) (laid_at t u i m at) in
          let one = clear_at is_holding (without kind.Compound kind.FunctionDeclarator) no_holding t.nodes u.below m.parts (parts_below t u i m at) row k p e in
          let same : one.0 ≡ y = same_Some one.0 y (sym one.1.0 ∙ there) in
          subst (λ (z : Node). is_holding z.kind ≡ false) same one.1.1

  -- ---- a declared name and a used one

  module _ (i e : ℕ) (m n : Node) (i_at : slice_get t.nodes i ≡ Some m) (i_is : m.kind ≡ kind.Identifier) (e_at : slice_get t.nodes e ≡ Some n) (e_is : n.kind ≡ kind.NameDeclarator) (under : ℕ → Bool) (inner : under e ≡ true) where
    one_named : (j : ℕ) (y : Node) → slice_get t.nodes j ≡ Some y → is_named y.kind ≡ true → y.first ≡ n.first → e ≡ j
    one_named j y at named same =
        let w = (u.within j y at).0 in named_once t u order e j n y n.first e_at e_is refl at named (omega (arith, same)) (omega (arith, same)) (omega (arith, same, w))

    one_used : (j : ℕ) (y : Node) → slice_get t.nodes j ≡ Some y → is_named y.kind ≡ true → y.first ≡ m.first → i ≡ j
    one_used j y at named same =
        let w = (u.within j y at).0 in
        word_once t u order i j m y m.first i_at (ap is_word i_is) refl at named (omega (arith, same)) (omega (arith, same)) (omega (arith, same, w))

    no_enumerator : (j : ℕ) (y : Node) → slice_get t.nodes j ≡ Some y → y.kind ≡ kind.Enumerator → y.first ≡ n.first → ⊥
    no_enumerator j y at f same =
        let one : n ≡ y = same_Some n y (sym e_at ∙ ap (slice_get t.nodes) (one_named j y at (ap is_named f) same) ∙ at) in
        let never : kind.NameDeclarator ≡ kind.Enumerator = sym e_is ∙ ap (λ (z : Node). z.kind) one ∙ f in
        absurd cc

    pub names_apart : under i ≡ false → IsApart t.nodes under n.first m.first
    names_apart out = record {
      declared = λ j y at f same. subst (λ z. under z ≡ true) (one_named j y at (ap is_named f) same) inner;
      enumerators = no_enumerator;
      tags = λ j y at tagged same. no_tag t u order e j n y e_at e_is at (tagging_tagged y.kind tagged) same;
      used = λ j y at used same. no_use t u order e j n y e_at e_is at (using_used y.kind used) same;
      uses = λ j y at used same. subst (λ z. under z ≡ false) (one_used j y at (using_named y.kind used) same) out;
    }

  -- ---- a list of parameters

  module _ (l x : ℕ) (listed : kind_at t l ≡ kind.FunctionDeclarator) (its_list : HasPart t u l 1 x) where
    list_part : IsPartOf t u x l
    list_part = as_part t u l 1 x its_list

    abbrev pub listing : ℕ → Bool
    listing p = (p == x) || is_under t x p

    pub no_x : (p i : ℕ) → IsPartOf t u p i → (i ≡ l → ⊥) → (p == x) ≡ false
    no_x p i h other = ne_eqb p x (λ same. other (one_parent t u x i l (subst (λ y. IsPartOf t u y i) same h) list_part))

    pub item_no_x : (p : ℕ) → above p ≡ None → (p == x) ≡ false
    item_no_x p q = ne_eqb p x (λ same. (let never : None ≡ Some l = sym q ∙ ap above same ∙ above_is t u x l list_part in cc))

    pub listing_part : (p i : ℕ) → IsPartOf t u p i → (p == x) ≡ false → listing p ≡ listing i
    listing_part p i h other = ap (λ z. z || is_under t x p) other ∙ under_at t u x p i h

    -- of the declarator only what stands next to the name is outside
    pub not_second : (i k p : ℕ) (m : Node) → slice_get t.nodes i ≡ Some m → slice_get m.parts k ≡ Some p → (i ≡ l → k ≡ 0) → (p == x) ≡ false
    not_second i k p m at e only = ne_eqb p x (λ same. second same)
      where
        second : p ≡ x → ⊥
        second same =
            let is_l : i ≡ l = one_parent t u x i l (subst (λ y. IsPartOf t u y i) same (record { parent = m; at = at; place = k; is = e })) list_part in
            let zero_k : k ≡ 0 = only is_l in
            let one : its_list.node ≡ m = same_Some its_list.node m (sym its_list.at ∙ ap (slice_get t.nodes) (sym is_l) ∙ at) in
            one_place t u i 0 1 x m at (subst (λ y. slice_get m.parts y ≡ Some x) zero_k (e ∙ ap Some same)) (subst (λ (y : Node). slice_get y.parts 1 ≡ Some x) one its_list.is) (omega arith)

    pub list_two : (k p : ℕ) (m : Node) → slice_get t.nodes l ≡ Some m → slice_get m.parts (suc k) ≡ Some p → p ≡ x
    list_two zero p m at e =
        let one : its_list.node ≡ m = same_Some its_list.node m (sym its_list.at ∙ at) in
        same_Some p x (sym e ∙ subst (λ (y : Node). slice_get y.parts 1 ≡ Some x) one its_list.is)
    list_two (suc k) p m at e =
        let few = at_most t u l kind.FunctionDeclarator 2 listed refl list_counts in
        let w = slice_get_within m.parts (suc (suc k)) p e in
        let same : length (parts_at t l) ≡ length m.parts = ap (λ o. length (parts_if o)) at in
        absurd (omega (arith, few, w, same))

    pub x_below : x < l
    x_below = part_below t u x l list_part

    -- ---- no run reaches the list

    in_list : (a y : ℕ) → IsPartOf t u a y → (b : Bool) → (a == x) ≡ b → (b || is_under t x a) ≡ true → (y ≡ l) ⊎ (listing y ≡ true)
    in_list a y h true q f = inl (one_parent t u a y l h (subst (λ z. IsPartOf t u z l) (sym (eqb-true a x q)) list_part))
    in_list a y h false q f = inr (sym (under_at t u x a y h) ∙ f)

    -- all that stands there has a node above it
    pub list_above : (a : ℕ) → listing a ≡ true → (y : ℕ) × (IsPartOf t u a y × ((y ≡ l) ⊎ (listing y ≡ true)))
    list_above a f = by (above a) refl
      where
        by : (o : Option ℕ) → above a ≡ o → (y : ℕ) × (IsPartOf t u a y × ((y ≡ l) ⊎ (listing y ≡ true)))
        by None q = absurd (false≢true (sym (ap (λ z. z || is_under t x a) (item_no_x a q) ∙ outermost_outside t u x a q) ∙ f))
        by (Some y) q = let h = above_some t u (length t.nodes) a y q in (y, (h, in_list a y h (a == x) refl f))

    no_definition : (y : ℕ) → (y ≡ l) ⊎ (listing y ≡ true) → is_definition (kind_at t y) ≡ false
    no_definition y (inl same) = ap (λ z. is_definition (kind_at t z)) same ∙ ap is_definition listed
    no_definition y (inr f) = let z = list_above y f in plain_part file t it y z.0 z.1.0

    list_plain : (y : ℕ) → y ≡ l → is_inner (kind_at t y) ≡ false
    list_plain y same = ap (λ z. is_inner (kind_at t z)) same ∙ ap is_inner listed

    no_inner_by : (fuel a : ℕ) → length t.nodes ≤ fuel + a → listing a ≡ true → is_inner (kind_at t a) ≡ false
    no_inner_by zero a high f = let z = list_above a f in let low = part_below t u a z.0 z.1.0 in let few = slice_get_within t.nodes z.0 z.1.0.parent z.1.0.at in absurd (omega (arith, high, low, few))
    no_inner_by (suc fuel) a high f = by (list_above a f) (λ y low g. no_inner_by fuel y (omega (arith, high, low)) g)
      where
        clear : (y : ℕ) (h : IsPartOf t u a y) → is_inner (kind_at t y) ≡ false → is_definition (kind_at t y) ≡ false → is_inner (kind_at t a) ≡ false
        clear y h plain other =
            let kind_is : kind_at t y ≡ h.parent.kind = ap kind_if h.at in
            let row : clear_side is_inner is_outer no_inner (side_of h.parent.kind) ≡ true =
            elim (one_of (is_inner h.parent.kind) _ (inner_stand h.parent.kind)) [
              | inl g ↦ absurd (false≢true (sym plain ∙ ap is_inner kind_is ∙ g))
              | inr g ↦ elim (one_of (is_definition h.parent.kind) _ g) [ inl k ↦ absurd (false≢true (sym other ∙ ap is_definition kind_is ∙ k)) | inr k ↦ k ]
            ] in
            let laid = clear_laid is_inner is_outer no_inner u.tokens (side_of h.parent.kind) (row_in t.nodes h.parent.parts) h.parent.first (h.parent.last + 1) row (laid_at t u y h.parent h.at) in
            let one = clear_at is_inner is_outer no_inner t.nodes u.below h.parent.parts (parts_below t u y h.parent h.at) laid h.place a h.is in
            ap (λ o. is_inner (kind_if o)) one.1.0 ∙ one.1.1

        by : (y : ℕ) × (IsPartOf t u a y × ((y ≡ l) ⊎ (listing y ≡ true))) → ((y : ℕ) → a < y → listing y ≡ true → is_inner (kind_at t y) ≡ false) → is_inner (kind_at t a) ≡ false
        by z rest = clear z.0 z.1.0 (elim z.1.1 [ inl same ↦ list_plain z.0 same | inr g ↦ rest z.0 (part_below t u a z.0 z.1.0) g ]) (no_definition z.0 z.1.1)

    pub unlived_by : (fuel a : ℕ) → length t.nodes ≤ fuel + a → listing a ≡ true → lives t a ≡ false
    unlived_by zero a high f = let z = list_above a f in let low = part_below t u a z.0 z.1.0 in let few = slice_get_within t.nodes z.0 z.1.0.parent z.1.0.at in absurd (omega (arith, high, low, few))
    unlived_by (suc fuel) a high f = by (list_above a f) (λ y low g. unlived_by fuel y (omega (arith, high, low)) g)
      where
        plain : is_inner (kind_at t a) ≡ false
        plain = no_inner_by (length t.nodes) a (omega arith) f

        here : (y : ℕ) → IsPartOf t u a y → lives t a ≡ ((is_definition (kind_at t y) && is_block (kind_at t a)) || (goes_on t a (kind_at t y) (kind_at t a) && lives t y))
        here y h = lives_is t u a ∙ ap (λ b. b || lives_below t (lives t) a (above a)) (static_inner t a (kind_at t a) plain) ∙ ap (lives_below t (lives t) a) (above_is t u a y h)

        goes : (y : ℕ) → (y ≡ l) ⊎ (listing y ≡ true) → ((y : ℕ) → a < y → listing y ≡ true → lives t y ≡ false) → a < y → (goes_on t a (kind_at t y) (kind_at t a) && lives t y) ≡ false
        goes y (inl same) rest low = ap (λ k. goes_on t a k (kind_at t a) && lives t y) (ap (kind_at t) same ∙ listed)
        goes y (inr g) rest low = ap (λ b. goes_on t a (kind_at t y) (kind_at t a) && b) (rest y low g) ∙ false_right (goes_on t a (kind_at t y) (kind_at t a))
          where
            false_right : (b : Bool) → (b && false) ≡ false
            false_right true = refl
            false_right false = refl

        by : (y : ℕ) × (IsPartOf t u a y × ((y ≡ l) ⊎ (listing y ≡ true))) → ((y : ℕ) → a < y → listing y ≡ true → lives t y ≡ false) → lives t a ≡ false
        by z rest =
            here z.0 z.1.0 ∙ ap (λ b. (b && is_block (kind_at t a)) || (goes_on t a (kind_at t z.0) (kind_at t a) && lives t z.0)) (no_definition z.0 z.1.1)
            ∙ goes z.0 z.1.1 rest (part_below t u a z.0 z.1.0)

    pub list_seen : (a e : ℕ) → listing a ≡ true → sees t a e ≡ true
    list_seen a e f =
        or_left (not (is_reached t a)) _ (ap not (ap (λ b. b && (is_run_kind (kind_at t a) && not (is_passed t a))) (unlived_by (length t.nodes) a (omega arith) f)))

    -- ---- no definition tells it once more

    list_there : (m : Node) × ((slice_get t.nodes l ≡ Some m) × (m.kind ≡ kind.FunctionDeclarator))
    list_there = (its_list.node, (its_list.at, sym (ap kind_if its_list.at) ∙ listed))

    are_within : AreWithin t.nodes t.items l listing
    are_within = record {
      parts = λ i k p m at e only. listing_part p i (record { parent = m; at = at; place = k; is = e }) (not_second i k p m at e only);
      listed = λ k p m at e. or_left (p == x) (is_under t x p) (eq-eqb p x (list_two k p m at e));
      top = λ k p e. ap (λ z. z || is_under t x p) (item_no_x p (item_top k p e)) ∙ item_outside t u x k p e;
      above = λ a le.
          ap (λ z. z || is_under t x a) (ne_eqb a x (λ same. (let low = x_below in absurd (omega (arith, low, le, same)))))
          ∙ not_above t u x a (let low = x_below in omega (arith, low, le));
    }
      where
        item_top : (k p : ℕ) → slice_get t.items k ≡ Some p → above p ≡ None
        item_top k p e = by (above p) refl
          where
            by : (o : Option ℕ) → above p ≡ o → o ≡ None
            by None q = refl
            by (Some a) q = absurd (no_item t u p a k (above_some t u (length t.nodes) p a q) e)

    pub no_body : (i q : ℕ) (m : Node) → slice_get t.nodes i ≡ Some m → m.kind ≡ kind.FunctionDefinition → slice_get m.parts 2 ≡ Some q → q ≡ l → ⊥
    no_body i q m at is e same =
        let part = has_part t u i 2 q (ap (λ o. slice_get (parts_if o) 2) at ∙ e) in
        let only = body_only (kind_at t q) (subst (λ c. Stands (part_in (side_of c) 2) (kind_at t q)) (ap kind_if at ∙ is) part.stands) in
        block_no_list (sym only ∙ ap (kind_at t) same ∙ listed)

    -- a name that sees what is declared there stands there
    pub stays_inside : ((i q : ℕ) (m : Node) → slice_get t.nodes i ≡ Some m → m.kind ≡ kind.FunctionDefinition → slice_get m.parts 1 ≡ Some q → (declarator_of t.nodes q).next ≡ derivation.Function l → ⊥)
        → (i e : ℕ) (m n : Node) → slice_get t.nodes i ≡ Some m → m.kind ≡ kind.Identifier → slice_get t.nodes e ≡ Some n → n.kind ≡ kind.NameDeclarator → listing e ≡ true
        → IsSeen (spelled_name file it.unit.tokens.list.items) n.first m.first (past_of (unit_events it.unit) (length (unit_events it.unit))) → listing i ≡ true
    stays_inside alone i e m n i_at i_is e_at e_is inner sees_it = by (listing i) refl
      where
        moved : unit_events it.unit ≡ events_of it.unit.tokens.list.items t.nodes t.items
        moved = ap (λ ns. events_of it.unit.tokens.list.items ns it.unit.items) nodes_are ∙ ap (events_of it.unit.tokens.list.items t.nodes) (sym made_by.elaborated.items_are)

        lone : IsLone t.nodes l
        lone = let own = list_there in record { own = own.0; at = own.1.0; declares = own.1.1; no_definition = alone; no_body = no_body }

        by : (b : Bool) → listing i ≡ b → b ≡ true
        by true q = refl
        by false q =
            absurd (list_alone it.unit.tokens.list.items t.nodes t.items (spelled_name file it.unit.tokens.list.items) l listing n.first m.first lone are_ordered are_within
            (names_apart i e m n i_at i_is e_at e_is listing inner q)
            (subst (λ es. IsSeen (spelled_name file it.unit.tokens.list.items) n.first m.first (past_of es (length es))) moved sees_it))
