-- What the grammar gives of the names of a unit's nodes.
use Rattle.std.proofs.Common.{◌≡◌, ℕ, zero, suc, ◌+◌, ◌<◌, ◌⊎◌, inl, inr, Bool, true, false, ◌&&◌, not, List, [], ◌∷◌, Option, None, Some, length, nat_lt, slice_get, slice_index, refl, sym, ap, subst, ◌∙◌, if◌then◌else◌, arith}
use Rattle.std.proofs.lemmas.Bool.{false≢true, and_parts, ltb-true, not_from_true}
use Rattle.std.proofs.lemmas.Option.{slice_get_within, same_Some}
use Rattle.cr_tokens.specs.declared.token.Token.{Token}
use Rattle.cr_syntax.specs.declared.node.Kind.{Kind}
use Rattle.cr_syntax.specs.declared.node.Kind.TheVariants as kind
use Rattle.cr_syntax.specs.declared.node.Node.{Node}
use Rattle.cr_syntax.specs.declared.part.Part.{Part}
use Rattle.cr_syntax.specs.declared.part.Part.TheVariants as part
use Rattle.cr_syntax.specs.Words.{Lexeme}
use Rattle.cr_syntax.specs.Symbols as symbol
use Rattle.cr_syntax.specs.Grammar.{Side, part as needed}
use Rattle.cr_syntax.specs.Tables.{rule_of, side_of}
use Rattle.cr_syntax.specs.Trees.{Trees, node as tree_node}
use Rattle.cr_syntax.specs.Kept.{AreBelow, row_in}
use Rattle.cr_syntax.proofs.Arena.{below_first, below_rest, row_at}
use Rattle.cr_syntax_order.specs.Listed.{AreListed}
use Rattle.cr_syntax_nodes.specs.Nodes.{Rises}
use Rattle.cr_syntax_nodes.specs.Laid.{stands_for, IsLaid}
use Rattle.cr_syntax_nodes.proofs.Made.{made_in, rises}
use Rattle.cr_syntax_nodes.proofs.Numbers.{some_at, occurs}
use Rattle.cr_scopes_events.specs.declared.declarator.Declarator.{Declarator}
use Rattle.cr_scopes_events.specs.Values.{before}
use Rattle.cr_scopes_events.specs.Scripts.{is_identifier}
use Rattle.cr_scopes_events.specs.Declarators.{nowhere, in_first, declared_by, declared_if, declarator_of}
use Rattle.cr_scopes_events.proofs.Descents.{declarator_ruled}
use Rattle.cr_scopes_bindings.specs.Nodes.{named_by, named_if, name_at, tag_by, tag_if, tag_at}
use Rattle.cr_scopes_visibility.specs.Sight.Scopes.{is_using, is_tagging}
use Rattle.cr_scopes_visibility.specs.Tagged.Tagged.{AreTagsApart}
use Rattle.cr_scopes_visibility.specs.Told.Told.{is_declaration, is_leaf, IsDeclarator, IsEnumerator, AreApart}
use Rattle.cr_typed.specs.declared.typed.Typed.{Typed}
use Rattle.cr_meaning_declarations.specs.Units.Owned.{AreOfUnit}
use Rattle.cr_meaning_declarations.proofs.UnitsLemmas.Rows.{clear_side, clear_laid, clear_at}
use Rattle.cr_meaning_declarations.proofs.UnitsLemmas.Handing.{laid_at, parts_below}
use Rattle.cr_meaning_declarations.proofs.NamesLemmas.Leaves.{is_named}
use Rattle.cr_meaning_declarations.proofs.NamesLemmas.Parents.{part_below, one_parent, is_deriving, IsInside, as_part, whole_is}
use Rattle.cr_meaning_declarations.proofs.SightLemmas.Names.{using_named}
use Rattle.cr_meaning_references.proofs.ToldLemmas.Apart.{own_token, own_within, one_name}
use Rattle.cr_scopes_typedef_names.specs.Tellings.Tellings.{is_enumerator}

-- ---- kinds

using_own : (k : Kind) (first : ℕ) → is_using k ≡ true → own_token k first ≡ first
using_own kind.Identifier first h = refl
using_own kind.Call first h = refl
using_own kind.TypedefName first h = refl
using_own k first h = absurd (false≢true h)

tagging_named : (k : Kind) → is_tagging k ≡ true → is_named k ≡ true
tagging_named kind.StructTag h = refl
tagging_named kind.EnumTag h = refl
tagging_named kind.StructContent h = refl
tagging_named kind.EnumContent h = refl
tagging_named k h = absurd (false≢true h)

tagging_own : (k : Kind) (first : ℕ) → is_tagging k ≡ true → own_token k first ≡ first + 1
tagging_own kind.StructTag first h = refl
tagging_own kind.EnumTag first h = refl
tagging_own kind.StructContent first h = refl
tagging_own kind.EnumContent first h = refl
tagging_own k first h = absurd (false≢true h)

using_untagged : (k : Kind) → is_using k ≡ true → is_tagging k ≡ false
using_untagged kind.Identifier h = refl
using_untagged kind.Call h = refl
using_untagged kind.TypedefName h = refl
using_untagged k h = absurd (false≢true h)

-- ---- parts that are no uses of names

abbrev unused : Part → Bool
unused p = not (stands_for p kind.Identifier) && (not (stands_for p kind.Call) && not (stands_for p kind.TypedefName))

against : {A : Type 0} (b : Bool) → not b ≡ true → b ≡ true → A
against b n e = absurd (false≢true (sym (not_from_true b e) ∙ n))

no_use : (p : Part) (k : Kind) → unused p ≡ true → stands_for p k ≡ true → is_using k ≡ false
no_use p k c s =
    let one = and_parts (not (stands_for p kind.Identifier)) _ c in
    let two = and_parts (not (stands_for p kind.Call)) (not (stands_for p kind.TypedefName)) one.1 in
    by k one.0 two.0 two.1 s
  where
    by : (k : Kind) → not (stands_for p kind.Identifier) ≡ true → not (stands_for p kind.Call) ≡ true → not (stands_for p kind.TypedefName) ≡ true → stands_for p k ≡ true → is_using k ≡ false
    by kind.Identifier a b d s = against (stands_for p kind.Identifier) a s
    by kind.Call a b d s = against (stands_for p kind.Call) b s
    by kind.TypedefName a b d s = against (stands_for p kind.TypedefName) d s
    by k a b d s = refl

content_clear : clear_side is_using unused no_use (side_of kind.StructContent) ≡ true
unfolding rule_of
content_clear = refl

-- nor tags
abbrev untagged : Part → Bool
untagged p = not (stands_for p kind.StructTag) && (not (stands_for p kind.EnumTag) && (not (stands_for p kind.StructContent) && not (stands_for p kind.EnumContent)))

no_tag : (p : Part) (k : Kind) → untagged p ≡ true → stands_for p k ≡ true → is_tagging k ≡ false
no_tag p k c s =
    let one = and_parts (not (stands_for p kind.StructTag)) _ c in
    let two = and_parts (not (stands_for p kind.EnumTag)) _ one.1 in
    let three = and_parts (not (stands_for p kind.StructContent)) (not (stands_for p kind.EnumContent)) two.1 in
    by k one.0 two.0 three.0 three.1 s
  where
    by : (k : Kind) → not (stands_for p kind.StructTag) ≡ true → not (stands_for p kind.EnumTag) ≡ true → not (stands_for p kind.StructContent) ≡ true → not (stands_for p kind.EnumContent) ≡ true
        → stands_for p k ≡ true → is_tagging k ≡ false
    by kind.StructTag a b d f s = against (stands_for p kind.StructTag) a s
    by kind.EnumTag a b d f s = against (stands_for p kind.EnumTag) b s
    by kind.StructContent a b d f s = against (stands_for p kind.StructContent) d s
    by kind.EnumContent a b d f s = against (stands_for p kind.EnumContent) f s
    by k a b d f s = refl

content_untagged : clear_side is_tagging untagged no_tag (side_of kind.StructContent) ≡ true
unfolding rule_of
content_untagged = refl

abbrev unenumerated : Part → Bool
unenumerated p = not (stands_for p kind.Enumerator)

no_enumerator : (p : Part) (k : Kind) → unenumerated p ≡ true → stands_for p k ≡ true → is_enumerator k ≡ false
no_enumerator p kind.Enumerator c s = against (stands_for p kind.Enumerator) c s
no_enumerator p k c s = refl

initialised_clear : clear_side is_enumerator unenumerated no_enumerator (side_of kind.InitDeclarator) ≡ true
unfolding rule_of
initialised_clear = refl

-- a leaf has no parts
leaf_laid : (ts : List Lexeme) (of : Kind) (k : Kind) (a b : ℕ) (t u : Trees) (i j : ℕ) → is_leaf of ≡ true → IsLaid ts (side_of of) (tree_node k a b t u) i j → ⊥
unfolding rule_of
leaf_laid ts kind.Identifier k a b t u i j h l = l.1
leaf_laid ts kind.TypedefName k a b t u i j h l = l.1
leaf_laid ts kind.StructTag k a b t u i j h l = l.1.1
leaf_laid ts kind.EnumTag k a b t u i j h l = l.1.1
leaf_laid ts of k a b t u i j h l = false≢true h

module _ (t : Typed) (unit : AreOfUnit t) (listed : AreListed t.nodes 0 t.items (length t.nodes)) where
  -- ---- one node a name

  rise_at : (k : ℕ) (n : Node) → slice_get t.nodes k ≡ Some n → Rises n.first (n.last + 1) (row_in t.nodes n.parts)
  rise_at k n q = rises (made_in unit.is_unit.spells (occurs t.nodes unit.below t.items unit.once unit.are (length t.nodes) k n (omega arith) q)).spells

  one : (k l : ℕ) (m n : Node) → slice_get t.nodes k ≡ Some m → slice_get t.nodes l ≡ Some n → is_named m.kind ≡ true → is_named n.kind ≡ true → own_token m.kind m.first ≡ own_token n.kind n.first → k ≡ l
  one k l m n here there a b same =
      one_name unit.tokens t.nodes unit.below (λ i x at. (unit.within i x at).0) (λ i x at. laid_at t unit i x at) rise_at listed (rises unit.is_unit.spells) k l m n here there a b same

  kinds_same : (k l : ℕ) (m n : Node) → slice_get t.nodes k ≡ Some m → slice_get t.nodes l ≡ Some n → k ≡ l → m.kind ≡ n.kind
  kinds_same k l m n here there same = ap (λ (x : Node). x.kind) (same_Some m n (sym here ∙ ap (slice_get t.nodes) same ∙ there))

  uses : (i j : ℕ) (m n : Node) → slice_get t.nodes i ≡ Some m → slice_get t.nodes j ≡ Some n → is_using m.kind ≡ true → is_using n.kind ≡ true → m.first ≡ n.first → i ≡ j
  uses i j m n here there a b same = one i j m n here there (using_named m.kind a) (using_named n.kind b) (using_own m.kind m.first a ∙ same ∙ sym (using_own n.kind n.first b))

  tags : (i j : ℕ) (m n : Node) → slice_get t.nodes i ≡ Some m → slice_get t.nodes j ≡ Some n → is_tagging m.kind ≡ true → is_using n.kind ≡ true → m.first + 1 ≡ n.first → ⊥
  tags i j m n here there a b same =
      let is = one i j m n here there (tagging_named m.kind a) (using_named n.kind b) (tagging_own m.kind m.first a ∙ same ∙ sym (using_own n.kind n.first b)) in
      false≢true (sym (using_untagged n.kind b) ∙ ap is_tagging (sym (kinds_same i j m n here there is)) ∙ a)

  -- ---- what declares a token: an enumerator itself, or the identifier of a declarator

  record IsLeafOf (token b : ℕ) : Type 0 where
    node : Node
    at : slice_get t.nodes b ≡ Some node
    is : node.kind ≡ kind.NameDeclarator
    first : node.first ≡ token

  abbrev HasLeaf : ℕ → ℕ → Type 0
  HasLeaf p token = (declarator_of t.nodes p).name ≡ Some token → (b : ℕ) × IsLeafOf token b

  nameless : {A : Type 0} (token : ℕ) → nowhere.name ≡ Some token → A
  nameless token e = let never : None ≡ Some token = e in absurd cc

  first_leaf : (p token : ℕ) → ((q : ℕ) → q < p → HasLeaf q token) → (ps : List ℕ) → (in_first (before nowhere p (declarator_of t.nodes)) ps).name ≡ Some token → (b : ℕ) × IsLeafOf token b
  first_leaf p token rest [] e = nameless token e
  first_leaf p token rest (q ∷ ps) e = by (nat_lt q p) refl e
    where
      by : (c : Bool) → nat_lt q p ≡ c → (if c then declarator_of t.nodes q else nowhere).name ≡ Some token → (b : ℕ) × IsLeafOf token b
      by true f e = rest q (ltb-true q p f) e
      by false f e = nameless token e

  leaf_kind : (p token : ℕ) (m : Node) → slice_get t.nodes p ≡ Some m → ((q : ℕ) → q < p → HasLeaf q token) → (k : Kind) → m.kind ≡ k
      → (declared_by k (before nowhere p (declarator_of t.nodes)) p m).name ≡ Some token → (b : ℕ) × IsLeafOf token b
  leaf_kind p token m at rest kind.NameDeclarator q e = let first : m.first ≡ token = cc in (p, record { node = m; at = at; is = q; first = first })
  leaf_kind p token m at rest kind.GroupDeclarator q e = first_leaf p token rest m.parts e
  leaf_kind p token m at rest kind.PointerDeclarator q e = first_leaf p token rest m.parts e
  leaf_kind p token m at rest kind.ArrayDeclarator q e = first_leaf p token rest m.parts e
  leaf_kind p token m at rest kind.FunctionDeclarator q e = first_leaf p token rest m.parts e
  leaf_kind p token m at rest k q e = nameless token e

  leaf_by : (fuel p token : ℕ) → p < fuel → HasLeaf p token
  leaf_by zero p token low e = absurd (omega (arith, low))
  leaf_by (suc fuel) p token low e =
      by (slice_get t.nodes p) refl (λ q less f. leaf_by fuel q token (omega (arith, low, less)) f) (sym (ap (λ (d : Declarator). d.name) (declarator_ruled t.nodes p)) ∙ e)
    where
      by : (o : Option Node) → slice_get t.nodes p ≡ o → ((q : ℕ) → q < p → HasLeaf q token) → (declared_if o (before nowhere p (declarator_of t.nodes)) p).name ≡ Some token → (b : ℕ) × IsLeafOf token b
      by None at rest e = nameless token e
      by (Some m) at rest e = leaf_kind p token m at rest m.kind refl e

  leaf_of : (p token : ℕ) → HasLeaf p token
  leaf_of p token e = leaf_by (suc p) p token (omega arith) e

  abbrev IsNamed : ℕ → ℕ → Type 0
  IsNamed p token = ((m : Node) × ((slice_get t.nodes p ≡ Some m) × ((m.kind ≡ kind.Enumerator) × (m.first ≡ token)))) ⊎ ((declarator_of t.nodes p).name ≡ Some token)

  named_is : (p token : ℕ) → name_at t.nodes p ≡ Some token → IsNamed p token
  named_is p token e = by (slice_get t.nodes p) refl e
    where
      by_kind : (m : Node) → slice_get t.nodes p ≡ Some m → (k : Kind) → m.kind ≡ k → named_by k m.first (declarator_of t.nodes p).name ≡ Some token → IsNamed p token
      by_kind m at kind.Enumerator q f = let same : m.first ≡ token = cc in inl (m, (at, (q, same)))
      by_kind m at k q f = inr f

      by : (o : Option Node) → slice_get t.nodes p ≡ o → named_if o (declarator_of t.nodes p).name ≡ Some token → IsNamed p token
      by None at f = let none : None ≡ Some token = f in absurd cc
      by (Some m) at f = by_kind m at m.kind refl f

  -- the node that has the token for its own name
  record IsOwner (token b : ℕ) : Type 0 where
    node : Node
    at : slice_get t.nodes b ≡ Some node
    named : is_named node.kind ≡ true
    unused : is_using node.kind ≡ false
    untagged : is_tagging node.kind ≡ false
    own : own_token node.kind node.first ≡ token

  enumerates : (p token : ℕ) (m : Node) → slice_get t.nodes p ≡ Some m → m.kind ≡ kind.Enumerator → m.first ≡ token → IsOwner token p
  enumerates p token m at is first = record { node = m; at = at; named = ap is_named is; unused = ap is_using is; untagged = ap is_tagging is; own = ap (λ k. own_token k m.first) is ∙ first }

  leaf_owns : (token b : ℕ) → IsLeafOf token b → IsOwner token b
  leaf_owns token b h = record { node = h.node; at = h.at; named = ap is_named h.is; unused = ap is_using h.is; untagged = ap is_tagging h.is; own = ap (λ k. own_token k h.node.first) h.is ∙ h.first }

  owner : (p token : ℕ) → IsNamed p token → (b : ℕ) × IsOwner token b
  owner p token (inl x) = (p, enumerates p token x.0 x.1.0 x.1.1.0 x.1.1.1)
  owner p token (inr e) = let x = leaf_of p token e in (x.0, leaf_owns token x.0 x.1)

  declared : (p j : ℕ) (n : Node) → name_at t.nodes p ≡ Some n.first → slice_get t.nodes j ≡ Some n → is_using n.kind ≡ true → ⊥
  declared p j n e there used =
      let x = owner p n.first (named_is p n.first e) in
      let is = one x.0 j x.1.node n x.1.at there x.1.named (using_named n.kind used) (x.1.own ∙ sym (using_own n.kind n.first used)) in
      false≢true (sym x.1.unused ∙ ap is_using (kinds_same x.0 j x.1.node n x.1.at there is) ∙ used)

  -- an enumerator and a declarator declare no common token
  not_both : (p q token : ℕ) (m : Node) → slice_get t.nodes p ≡ Some m → m.kind ≡ kind.Enumerator → m.first ≡ token → (declarator_of t.nodes q).name ≡ Some token → ⊥
  not_both p q token m at is first e =
      let x = leaf_of q token e in
      let a = enumerates p token m at is first in
      let b = leaf_owns token x.0 x.1 in
      let same = one p x.0 a.node b.node a.at b.at a.named b.named (a.own ∙ sym b.own) in
      let kinds : kind.Enumerator ≡ kind.NameDeclarator = sym is ∙ kinds_same p x.0 m x.1.node at x.1.at same ∙ x.1.is in
      cc

  enumerators : (p q token : ℕ) → IsEnumerator t.nodes p → name_at t.nodes p ≡ Some token → p < q → name_at t.nodes q ≡ Some token → ⊥
  enumerators p q token itself e less f = by (named_is q token f)
    where
      first : itself.node.first ≡ token
      first = let known : Some itself.node.first ≡ Some token = sym (ap (λ o. named_if o (declarator_of t.nodes p).name) itself.at ∙ ap (λ (k : Kind). named_by k itself.node.first (declarator_of t.nodes p).name) itself.is) ∙ e in cc

      by : IsNamed q token → ⊥
      by (inl x) =
          let same = one p q itself.node x.0 itself.at x.1.0 (ap is_named itself.is) (ap is_named x.1.1.0) (ap (λ k. own_token k itself.node.first) itself.is ∙ first ∙ sym x.1.1.1 ∙ sym (ap (λ k. own_token k x.0.first) x.1.1.0)) in
          omega (arith, less, same)
      by (inr x) = not_both p q token itself.node itself.at itself.is first x

  -- ---- whole declarators

  declaring_plain : (k : Kind) → is_declaration k ≡ true → is_deriving t unit k ≡ false
  declaring_plain kind.Declaration h = refl
  declaring_plain kind.FunctionDefinition h = refl
  declaring_plain kind.Parameter h = refl
  declaring_plain k h = absurd (false≢true h)

  -- a part of a declaration stands in no declarator
  held_alone : (p a : ℕ) (m : Node) (place : ℕ) → slice_get t.nodes a ≡ Some m → is_deriving t unit m.kind ≡ false → slice_get m.parts place ≡ Some p → (b : ℕ) → IsInside t unit p b → ⊥
  held_alone p a m place at plain e b h =
      let same = one_parent t unit p a b (record { parent = m; at = at; place = place; is = e }) (as_part t unit p b h) in
      false≢true (sym plain ∙ ap (is_deriving t unit) (kinds_same a b m h.outer at h.at same) ∙ h.derives)

  alone : (p : ℕ) → IsDeclarator t.nodes p → (b : ℕ) → IsInside t unit p b → ⊥
  alone p (inl h) = held_alone p h.declaration h.node h.place h.at (declaring_plain h.node.kind h.declares) h.is
  alone p (inr h) = held_alone p h.outer h.node 0 h.at (ap (is_deriving t unit) h.initialises) h.is

  wholes : (p q token : ℕ) → IsDeclarator t.nodes p → name_at t.nodes p ≡ Some token → p < q → name_at t.nodes q ≡ Some token → ⊥
  wholes p q token own e less f = by (named_is p token e) (named_is q token f)
    where
      by : IsNamed p token → IsNamed q token → ⊥
      by (inl x) (inl y) =
          let same = one p q x.0 y.0 x.1.0 y.1.0 (ap is_named x.1.1.0) (ap is_named y.1.1.0) (ap (λ k. own_token k x.0.first) x.1.1.0 ∙ x.1.1.1 ∙ sym y.1.1.1 ∙ sym (ap (λ k. own_token k y.0.first) y.1.1.0)) in
          omega (arith, less, same)
      by (inl x) (inr y) = not_both p q token x.0 x.1.0 x.1.1.0 x.1.1.1 y
      by (inr x) (inl y) = not_both q p token y.0 y.1.0 y.1.1.0 y.1.1.1 x
      by (inr x) (inr y) =
          let leaf = leaf_of p token x in
          let first = ap Some (sym leaf.1.first) in
          let same = whole_is t unit listed leaf.0 leaf.1.node leaf.1.at leaf.1.is p q (x ∙ first) (y ∙ first) (omega (arith, less)) (alone p own) in
          omega (arith, less, same)

  -- ---- parts

  leaves : (i : ℕ) (m : Node) → slice_get t.nodes i ≡ Some m → is_leaf m.kind ≡ true → m.parts ≡ []
  leaves i m at leaf = by m.parts refl
    where
      by : (ps : List ℕ) → m.parts ≡ ps → m.parts ≡ []
      by [] e = e
      by (q ∷ rest) e =
          let G : List ℕ → Type 0 = λ ps. (k : ℕ) → k < length ps → slice_index ps k < i in
          let b : q < i = subst G e (unit.below i m at) 0 (omega arith) in
          let w = slice_get_within t.nodes i m at in
          let x = some_at t.nodes q (omega (arith, b, w)) in
          let row = ap (row_in t.nodes) e ∙ row_at t.nodes unit.below q x.0 rest x.1 in
          absurd (leaf_laid unit.tokens m.kind x.0.kind x.0.first (x.0.last + 1) (row_in t.nodes x.0.parts) (row_in t.nodes rest) m.first (m.last + 1) leaf
          (subst (λ u. IsLaid unit.tokens (side_of m.kind) u m.first (m.last + 1)) row (laid_at t unit i m at)))

  members : (i k p : ℕ) (m x : Node) → slice_get t.nodes i ≡ Some m → m.kind ≡ kind.StructContent → slice_get m.parts k ≡ Some p → slice_get t.nodes p ≡ Some x → is_using x.kind ≡ false
  members i k p m x at is e there =
      let F : Kind → Type 0 = λ y. clear_side is_using unused no_use (side_of y) ≡ true in
      let row = clear_laid is_using unused no_use unit.tokens (side_of m.kind) (row_in t.nodes m.parts) m.first (m.last + 1) (subst F (sym is) content_clear) (laid_at t unit i m at) in
      let found = clear_at is_using unused no_use t.nodes unit.below m.parts (parts_below t unit i m at) row k p e in
      let same : found.0 ≡ x = same_Some found.0 x (sym found.1.0 ∙ there) in
      subst (λ (y : Node). is_using y.kind ≡ false) same found.1.1

  -- ---- definitions: specifiers, a declarator and a body

  abbrev behind_specifiers : Side
  behind_specifiers = needed part.Declarator ∷ symbol.Enters ∷ needed part.Compound ∷ symbol.Ends ∷ []

  abbrev behind_declarator : Side
  behind_declarator = symbol.Enters ∷ needed part.Compound ∷ symbol.Ends ∷ []

  abbrev behind_body : Side
  behind_body = symbol.Ends ∷ []

  third_clear : (p q r : ℕ) (ps : List ℕ) (i j k s : ℕ) (x : Node) → AreBelow (p ∷ q ∷ r ∷ ps) (length t.nodes) → IsLaid unit.tokens (side_of kind.FunctionDefinition) (row_in t.nodes (p ∷ q ∷ r ∷ ps)) i j
      → slice_get (r ∷ ps) k ≡ Some s → slice_get t.nodes s ≡ Some x → stands_for part.Compound x.kind ≡ true
  unfolding rule_of
  third_clear p q r ps i j k s x b h e there =
      let b1 = below_rest p (q ∷ r ∷ ps) (length t.nodes) b in
      let b2 = below_rest q (r ∷ ps) (length t.nodes) b1 in
      let b3 = below_rest r ps (length t.nodes) b2 in
      let m = some_at t.nodes p (below_first p (q ∷ r ∷ ps) (length t.nodes) b) in
      let n = some_at t.nodes q (below_first q (r ∷ ps) (length t.nodes) b1) in
      let o = some_at t.nodes r (below_first r ps (length t.nodes) b2) in
      let h1 = subst (λ u. IsLaid unit.tokens (side_of kind.FunctionDefinition) u i j) (row_at t.nodes unit.below p m.0 (q ∷ r ∷ ps) m.1) h in
      let h2 = subst (λ u. IsLaid unit.tokens behind_specifiers u (m.0.last + 1) j) (row_at t.nodes unit.below q n.0 (r ∷ ps) n.1) h1.1 in
      let h3 = subst (λ u. IsLaid unit.tokens behind_declarator u (n.0.last + 1) j) (row_at t.nodes unit.below r o.0 ps o.1) h2.1 in
      by k e ps refl o.0 o.1 h3.0.0 b3 h3.1
    where
      by : (k : ℕ) → slice_get (r ∷ ps) k ≡ Some s → (rest : List ℕ) → ps ≡ rest → (o : Node) → slice_get t.nodes r ≡ Some o → stands_for part.Compound o.kind ≡ true → AreBelow ps (length t.nodes)
          → IsLaid unit.tokens behind_body (row_in t.nodes ps) (o.last + 1) j → stands_for part.Compound x.kind ≡ true
      by zero e rest same o at stands b l =
          let is : r ≡ s = cc in
          let node : o ≡ x = same_Some o x (sym at ∙ ap (slice_get t.nodes) is ∙ there) in
          subst (λ (y : Node). stands_for part.Compound y.kind ≡ true) node stands
      by (suc k) e [] same o at stands b l = let none : None ≡ Some s = sym (ap (λ zs. slice_get zs k) same) ∙ e in absurd cc
      by (suc k) e (z ∷ rest) same o at stands b l =
          let y = some_at t.nodes z (below_first z rest (length t.nodes) (subst (λ zs. AreBelow zs (length t.nodes)) same b)) in
          absurd (subst (λ u. IsLaid unit.tokens behind_body u (o.last + 1) j) (ap (row_in t.nodes) same ∙ row_at t.nodes unit.below z y.0 rest y.1) l)

  third : (i k p : ℕ) (m x : Node) → slice_get t.nodes i ≡ Some m → m.kind ≡ kind.FunctionDefinition → slice_get m.parts (suc (suc k)) ≡ Some p → slice_get t.nodes p ≡ Some x → stands_for part.Compound x.kind ≡ true
  third i k p m x at is e there = by m.parts refl
    where
      few : (ps : List ℕ) → m.parts ≡ ps → slice_get ps (suc (suc k)) ≡ Some p
      few ps f = ap (λ l. slice_get l (suc (suc k))) (sym f) ∙ e

      by : (ps : List ℕ) → m.parts ≡ ps → stands_for part.Compound x.kind ≡ true
      by [] f = let none : None ≡ Some p = few [] f in absurd cc
      by (a ∷ []) f = let none : None ≡ Some p = few (a ∷ []) f in absurd cc
      by (a ∷ b ∷ []) f = let none : None ≡ Some p = few (a ∷ b ∷ []) f in absurd cc
      by (a ∷ b ∷ c ∷ ps) f =
          third_clear a b c ps m.first (m.last + 1) k p x (subst (λ l. AreBelow l (length t.nodes)) f (parts_below t unit i m at))
          (subst (λ l. IsLaid unit.tokens (side_of kind.FunctionDefinition) (row_in t.nodes l) m.first (m.last + 1)) f
          (subst (λ (k : Kind). IsLaid unit.tokens (side_of k) (row_in t.nodes m.parts) m.first (m.last + 1)) is (laid_at t unit i m at)))
          (few (a ∷ b ∷ c ∷ ps) f) there

  bodies : (i k p : ℕ) (m x : Node) → slice_get t.nodes i ≡ Some m → m.kind ≡ kind.FunctionDefinition → slice_get m.parts (suc (suc k)) ≡ Some p → slice_get t.nodes p ≡ Some x → is_using x.kind ≡ false
  unfolding rule_of
  bodies i k p m x at is e there = no_use part.Compound x.kind refl (third i k p m x at is e there)

  -- what a node names is a token of the unit
  pub named_within : (p token : ℕ) → name_at t.nodes p ≡ Some token → token < length t.tokens
  named_within p token e = by (named_is p token e)
    where
      first_within : (b : ℕ) (m : Node) → slice_get t.nodes b ≡ Some m → m.first ≡ token → token < length t.tokens
      first_within b m at first = let w = unit.within b m at in let low = w.0 in let high = w.1 in omega (arith, low, high, first)

      by : IsNamed p token → token < length t.tokens
      by (inl x) = first_within p x.0 x.1.0 x.1.1.1
      by (inr x) = let leaf = leaf_of p token x in first_within leaf.0 leaf.1.node leaf.1.at leaf.1.first

  -- what is initialised is no enumerator
  pub initialised_plain : (p a : ℕ) (m : Node) → IsEnumerator t.nodes p → slice_get t.nodes a ≡ Some m → m.kind ≡ kind.InitDeclarator → slice_get m.parts 0 ≡ Some p → ⊥
  initialised_plain p a m own at is e =
      let F : Kind → Type 0 = λ y. clear_side is_enumerator unenumerated no_enumerator (side_of y) ≡ true in
      let row = clear_laid is_enumerator unenumerated no_enumerator unit.tokens (side_of m.kind) (row_in t.nodes m.parts) m.first (m.last + 1) (subst F (sym is) initialised_clear) (laid_at t unit a m at) in
      let found = clear_at is_enumerator unenumerated no_enumerator t.nodes unit.below m.parts (parts_below t unit a m at) row 0 p e in
      let same : found.0 ≡ own.node = same_Some found.0 own.node (sym found.1.0 ∙ own.at) in
      false≢true (sym found.1.1 ∙ ap (λ (y : Node). is_enumerator y.kind) same ∙ ap is_enumerator own.is)

  pub apart : AreApart t.nodes
  apart = record {
    uses = uses;
    declared = declared;
    tags = tags;
    wholes = wholes;
    enumerators = enumerators;
    below = λ i k p m at e. part_below t unit p i (record { parent = m; at = at; place = k; is = e });
    leaves = leaves;
    members = members;
    bodies = bodies;
  }

  -- ---- tags

  record IsTagNode (i token : ℕ) : Type 0 where
    node : Node
    at : slice_get t.nodes i ≡ Some node
    tagging : is_tagging node.kind ≡ true
    second : node.first + 1 ≡ token

  tag_node : (ks : List Token) (i token : ℕ) → tag_at t.nodes ks i ≡ Some token → IsTagNode i token
  tag_node ks i token e = by (slice_get t.nodes i) refl e
    where
      made : (m : Node) → slice_get t.nodes i ≡ Some m → is_tagging m.kind ≡ true → Some (m.first + 1) ≡ Some token → IsTagNode i token
      made m at is f = let second : m.first + 1 ≡ token = cc in record { node = m; at = at; tagging = is; second = second }

      there : (m : Node) → slice_get t.nodes i ≡ Some m → is_tagging m.kind ≡ true → (b : Bool) → (if b then Some (m.first + 1) else None) ≡ Some token → IsTagNode i token
      there m at is true f = made m at is f
      there m at is false f = let none : None ≡ Some token = f in absurd cc

      by_kind : (m : Node) → slice_get t.nodes i ≡ Some m → (k : Kind) → m.kind ≡ k → tag_by k ks m.first ≡ Some token → IsTagNode i token
      by_kind m at kind.StructTag q f = made m at (ap is_tagging q) f
      by_kind m at kind.EnumTag q f = made m at (ap is_tagging q) f
      by_kind m at kind.StructContent q f = there m at (ap is_tagging q) (is_identifier (slice_get ks (m.first + 1))) f
      by_kind m at kind.EnumContent q f = there m at (ap is_tagging q) (is_identifier (slice_get ks (m.first + 1))) f
      by_kind m at k q f = let none : None ≡ Some token = f in absurd cc

      by : (o : Option Node) → slice_get t.nodes i ≡ o → tag_if o ks ≡ Some token → IsTagNode i token
      by None at f = let none : None ≡ Some token = f in absurd cc
      by (Some m) at f = by_kind m at m.kind refl f

  tag_own : (i token : ℕ) (h : IsTagNode i token) → own_token h.node.kind h.node.first ≡ token
  tag_own i token h = tagging_own h.node.kind h.node.first h.tagging ∙ h.second

  -- a tag is a token of the unit
  pub tag_within : (ks : List Token) (i token : ℕ) → tag_at t.nodes ks i ≡ Some token → token < length t.tokens
  tag_within ks i token e =
      let h = tag_node ks i token e in
      let low = own_within unit.tokens t.nodes unit.below (λ i x at. (unit.within i x at).0) (λ i x at. laid_at t unit i x at) rise_at i h.node h.at (tagging_named h.node.kind h.tagging) in
      let high = (unit.within i h.node h.at).1 in
      let same = tag_own i token h in
      omega (arith, low, high, same)

  tag_members : (i k p : ℕ) (m x : Node) → slice_get t.nodes i ≡ Some m → m.kind ≡ kind.StructContent → slice_get m.parts k ≡ Some p → slice_get t.nodes p ≡ Some x → is_tagging x.kind ≡ false
  tag_members i k p m x at is e there =
      let F : Kind → Type 0 = λ y. clear_side is_tagging untagged no_tag (side_of y) ≡ true in
      let row = clear_laid is_tagging untagged no_tag unit.tokens (side_of m.kind) (row_in t.nodes m.parts) m.first (m.last + 1) (subst F (sym is) content_untagged) (laid_at t unit i m at) in
      let found = clear_at is_tagging untagged no_tag t.nodes unit.below m.parts (parts_below t unit i m at) row k p e in
      let same : found.0 ≡ x = same_Some found.0 x (sym found.1.0 ∙ there) in
      subst (λ (y : Node). is_tagging y.kind ≡ false) same found.1.1

  tag_bodies : (i k p : ℕ) (m x : Node) → slice_get t.nodes i ≡ Some m → m.kind ≡ kind.FunctionDefinition → slice_get m.parts (suc (suc k)) ≡ Some p → slice_get t.nodes p ≡ Some x → is_tagging x.kind ≡ false
  unfolding rule_of
  tag_bodies i k p m x at is e there = no_tag part.Compound x.kind refl (third i k p m x at is e there)

  pub tags_apart : (ks : List Token) → AreTagsApart ks t.nodes
  tags_apart ks = record {
    tags = λ i j token e f.
        (let x = tag_node ks i token e in
        let y = tag_node ks j token f in
        one i j x.node y.node x.at y.at (tagging_named x.node.kind x.tagging) (tagging_named y.node.kind y.tagging) (tag_own i token x ∙ sym (tag_own j token y)));
    uses = λ j i token n e there used same. (let x = tag_node ks j token e in tags j i x.node n x.at there x.tagging used (x.second ∙ sym same));
    declared = λ p j token e f.
        (let x = owner p token (named_is p token e) in
        let y = tag_node ks j token f in
        let is = one x.0 j x.1.node y.node x.1.at y.at x.1.named (tagging_named y.node.kind y.tagging) (x.1.own ∙ sym (tag_own j token y)) in
        false≢true (sym x.1.untagged ∙ ap is_tagging (kinds_same x.0 j x.1.node y.node x.1.at y.at is) ∙ y.tagging));
    leaves = leaves;
    members = tag_members;
    bodies = tag_bodies;
  }
