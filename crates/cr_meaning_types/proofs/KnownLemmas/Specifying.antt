-- Specifiers that are one row of the list of types name one that is known (C11 6.7.2p2, K1, K5).
use Rattle.std.proofs.Common.{◌≡◌, ℕ, ◌<◌, inl, inr, Bool, true, false, List, [], ◌∷◌, Option, None, Some, slice_get, slice_index_or, if◌then◌else◌, refl, sym, ap, subst, ◌∙◌}
use Rattle.std.proofs.lemmas.Bool.{and_parts, false≢true, not-false, ltb-true}
use Rattle.cr_syntax.specs.declared.node.Kind.{Kind}
use Rattle.cr_syntax.specs.declared.node.Kind.TheVariants as kind
use Rattle.cr_syntax.specs.declared.node.Node.{Node}
use Rattle.cr_check_types.specs.declared.shape.Shape.{Shape}
use Rattle.cr_check_types.specs.Types.{Qualified, unknown, type_at}
use Rattle.cr_check_expressions.specs.declared.least.Break.{Break}
use Rattle.cr_check_declarators.specs.declared.words.Base.TheVariants as base
use Rattle.cr_check_declarators.specs.declared.words.Specified.{Specified}
use Rattle.cr_check_declarators.specs.declared.declarator.Declarator.{Declarator}
use Rattle.cr_check_declarators.specs.Specifiers.{is_one_type_of, specified_by, named_type}
use Rattle.cr_check_declarators.specs.Structures.{is_enumeration, tag_agrees}
use Rattle.cr_check_declarations.specs.declared.tree.Tag.{Tag}
use Rattle.cr_check_declarations.specs.declared.tree.Tree.{Tree}
use Rattle.cr_check_declarations.specs.Before.{Before, kind_in, type_in}
use Rattle.cr_check_declarations.specs.Specifiers.{is_given, declares_by, said_by, structure_by, structure_of, content_of, given_of, specified_type}
use Rattle.cr_check_declarations.specs.Named.{is_initialised, is_listed, tag_breaks, is_misused, named_by}
use Rattle.cr_check_declarations.specs.Faults.{Has, has_at, is_specifier, tag_fault, specifier_faults, place_of}
use Rattle.cr_check_unit.specs.declared.typing.Typing.{Typing}
use Rattle.cr_check_unit.specs.Typing.{cut, entry_at, before_in, IsTyping}
use Rattle.cr_check_unit.specs.Breaks.{IsBroken}
use Rattle.cr_meaning_typing.specs.Typed.Laws.{HoldsAll}
use Rattle.cr_meaning_typing.specs.Typed.Typing.{has_value}
use Rattle.cr_meaning_typing.proofs.TypedLemmas.Worth.{unbroken}
use Rattle.cr_meaning_types.specs.Known.Shaped.{fits, is_single, IsShaped}
use Rattle.cr_meaning_types.specs.Known.Sighted.{is_use, is_tagged, IsSeen, IsContent, AreSighted}
use Rattle.cr_meaning_types.specs.Known.Known.{IsKnown}
use Rattle.cr_meaning_types.proofs.KnownLemmas.Types.{named_worth, given_worth}
use Rattle.cr_meaning_types.proofs.KnownLemmas.Naming.{holds_all, ruled, named_plain, named_early, specified_early, specifier_holds}

-- ---- a type that is given

-- one specifier that gives a type says nothing else
single_given : (k : Kind) (first : ℕ) (declares : Bool) → is_given (specified_by k first declares).base ≡ true → is_one_type_of (specified_by k first declares) ≡ true
single_given kind.StructContent first declares e = refl
single_given kind.StructTag first declares e = refl
single_given kind.EnumContent first declares e = refl
single_given kind.EnumTag first declares e = refl
single_given kind.TypedefName first declares e = refl
single_given k first declares e = absurd (false≢true e)

pub single_specifier : (k : Kind) → is_single k ≡ true → is_specifier k ≡ true
single_specifier kind.Specifiers e = refl
single_specifier kind.PlainSpecifiers e = refl
single_specifier k e = e

single_said : (k : Kind) (at : ℕ → Specified) (tag : Option Tag) (m : Node) → is_single k ≡ true → is_given (said_by k at tag m).base ≡ true → is_one_type_of (said_by k at tag m) ≡ true
single_said kind.Specifiers at tag m s e = absurd (false≢true s)
single_said kind.PlainSpecifiers at tag m s e = absurd (false≢true s)
single_said k at tag m s e = single_given k m.first (declares_by k tag) e

pub specifier_plain : (k : Kind) → is_specifier k ≡ true → is_initialised (Some k) ≡ false
specifier_plain kind.InitDeclarator e = absurd (false≢true e)
specifier_plain k e = refl

pub named_specified : (k : Kind) (u : Tree) (said : Specified) (own : Declarator) (derived : Qualified) (b : Before) (i : ℕ) (n : Node) → is_specifier k ≡ true
    → is_misused k u.nodes.now (slice_index_or u.tags.now i None) i ≡ false
    → named_by k u said own derived b i n ≡ named_type said (given_of k (slice_index_or u.tags.now i None) (slice_index_or u.visible.now i None) b i n)
named_specified kind.TypeName u said own derived b i n e f = absurd (false≢true e)
named_specified kind.Parameter u said own derived b i n e f = absurd (false≢true e)
named_specified kind.InitDeclarator u said own derived b i n e f = absurd (false≢true e)
named_specified kind.NameDeclarator u said own derived b i n e f = absurd (false≢true e)
named_specified kind.GroupDeclarator u said own derived b i n e f = absurd (false≢true e)
named_specified kind.PointerDeclarator u said own derived b i n e f = absurd (false≢true e)
named_specified kind.ArrayDeclarator u said own derived b i n e f = absurd (false≢true e)
named_specified kind.FunctionDeclarator u said own derived b i n e f = absurd (false≢true e)
named_specified kind.AbstractPointer u said own derived b i n e f = absurd (false≢true e)
named_specified kind.AbstractGroup u said own derived b i n e f = absurd (false≢true e)
named_specified kind.AbstractArray u said own derived b i n e f = absurd (false≢true e)
named_specified kind.AbstractArrayOf u said own derived b i n e f = absurd (false≢true e)
named_specified k u said own derived b i n e f =
    ap (λ x. if x then unknown else specified_type said k (slice_index_or u.tags.now i None) (slice_index_or u.visible.now i None) b i n) f

-- ---- tags

pub tag_holds : (own : Has) (u : Tree) (i : ℕ) (n : Node) → HoldsAll (specifier_faults own u (place_of u i) i n) → HoldsAll (tag_fault n.kind u i (slice_index_or u.tags.now i None) ∷ [])
tag_holds own u i n h b (inl x) = h b (inr (inr (inr (inl x))))
tag_holds own u i n h b (inr x) = absurd x

-- a tag that keeps K5 is used as it is declared first
pub used_well : (k : Kind) (u : Tree) (i : ℕ) (tag : Option Tag) → HoldsAll (tag_fault k u i tag ∷ []) → is_misused k u.nodes.now tag i ≡ false
used_well k u i None h = refl
used_well k u i (Some tag) h = unbroken 5 tag.token (tag_breaks k (kind_in u.nodes.now (Some tag.first)) (is_listed tag.content i)) [] h

agrees : (k first : Kind) (listed : Bool) → tag_breaks k (Some first) listed ≡ false → tag_agrees k first listed ≡ true
agrees k first listed e = not-false (tag_agrees k first listed) e

-- the list of an enumeration stands before
listed_before : (content : Option ℕ) (i : ℕ) → is_listed content i ≡ true → (c : ℕ) × ((content ≡ Some c) × (c < i))
listed_before None i e = absurd (false≢true e)
listed_before (Some c) i e = (c, (refl, ltb-true c i e))

structure_worth : (first : ℕ) (content : Option ℕ) → has_value (structure_by first content) ≡ true
structure_worth first None = refl
structure_worth first (Some content) = refl

-- ---- in a unit

module _ (u : Tree) (texts : List (List ℕ)) (shapes : List Shape) (t : Typing) (h : IsTyping u texts shapes t) (holds : (b : Break) → IsBroken u texts shapes t b → ⊥)
    (shaped : IsShaped u) (sighted : AreSighted u) (i : ℕ) (n : Node) (at : slice_get u.nodes.now i ≡ Some n)
    (below : (p : ℕ) → p < i → (m : Node) → slice_get u.nodes.now p ≡ Some m → IsKnown u shapes t p m) where
  abbrev b : Before
  b = before_in shapes (cut i t)

  -- a part that gives a type
  part_given : (k part : ℕ) → ((own : Kind) → fits n.kind k own ≡ is_single own) → slice_get n.parts k ≡ Some part → is_given (b.specified part).base ≡ true → has_value (b.named part) ≡ true
  part_given k part single is e =
      let p = shaped.parts i n at k part is in
      let one : is_single p.own.kind ≡ true = sym (single p.own.kind) ∙ p.fits in
      let said = (ruled u texts shapes t h holds part p.own p.at).specified in
      let early = specified_early u texts shapes t h holds i n at part p.below in
      let given : is_given (entry_at t part).own.specified.base ≡ true = sym (ap (λ (x : Specified). is_given x.base) early) ∙ e in
      let type = single_said p.own.kind (before_in shapes (cut part t)).specified (slice_index_or u.tags.now part None) p.own one (sym (ap (λ (x : Specified). is_given x.base) said) ∙ given) in
      ap has_value (named_early u texts shapes t h holds i n at part p.below)
      ∙ (below part p.below p.own p.at).specifiers (single_specifier p.own.kind one) (ap is_one_type_of said ∙ type)

  -- a typedef name has the type of its declaration
  typedef_worth : n.kind ≡ kind.TypedefName → has_value (type_in b.named (slice_index_or u.visible.now i None)) ≡ true
  typedef_worth e =
      let seen : IsSeen u i kind.TypedefName = subst (IsSeen u i) e (sighted.names i n at (ap is_use e)) in
      ap (λ o. has_value (type_in b.named o)) seen.is ∙ ap has_value (named_early u texts shapes t h holds i n at seen.declared seen.below)
      ∙ (below seen.declared seen.below seen.node seen.at).declared seen.declares.declares seen.declares.declaration seen.declares.is

  structure_tag : n.kind ≡ kind.StructTag → has_value (structure_of (slice_index_or u.tags.now i None)) ≡ true
  structure_tag e = let tagged = sighted.tags i n at (ap is_tagged e) in ap (λ o. has_value (structure_of o)) tagged.is ∙ structure_worth tagged.tag.first tagged.tag.content

  content_worth : (c : ℕ) → c < i → IsContent u c → has_value (b.named c) ≡ true
  content_worth c low is =
      let said = (ruled u texts shapes t h holds c is.node is.at).specified in
      ap has_value (named_early u texts shapes t h holds i n at c low)
      ∙ elim is.given [
        | inl e ↦ (below c low is.node is.at).specifiers (ap is_specifier e) (ap is_one_type_of (said ∙ ap (λ k. said_by k (before_in shapes (cut c t)).specified (slice_index_or u.tags.now c None) is.node) e))
        | inr e ↦ (below c low is.node is.at).specifiers (ap is_specifier e) (ap is_one_type_of (said ∙ ap (λ k. said_by k (before_in shapes (cut c t)).specified (slice_index_or u.tags.now c None) is.node) e))
      ]

  -- an enumeration that of its list, which stands before (K5)
  enumeration_tag : n.kind ≡ kind.EnumTag → has_value (type_in b.named (content_of (slice_index_or u.tags.now i None))) ≡ true
  enumeration_tag e =
      let tagged = sighted.tags i n at (ap is_tagged e) in
      let all = specifier_holds n.kind (has_at shapes (entry_at t i).own) b u i n (ap is_specifier e) (holds_all u texts shapes t h holds i n at) in
      let one : HoldsAll (tag_fault kind.EnumTag u i (Some tagged.tag) ∷ []) =
      subst (λ o. HoldsAll (tag_fault kind.EnumTag u i o ∷ [])) tagged.is (subst (λ k. HoldsAll (tag_fault k u i (slice_index_or u.tags.now i None) ∷ [])) e (tag_holds (has_at shapes (entry_at t i).own) u i n all)) in
      let none = unbroken 5 tagged.tag.token (tag_breaks kind.EnumTag (kind_in u.nodes.now (Some tagged.tag.first)) (is_listed tagged.tag.content i)) [] one in
      let agree = agrees kind.EnumTag tagged.first (is_listed tagged.tag.content i) (sym (ap (λ o. tag_breaks kind.EnumTag o (is_listed tagged.tag.content i)) tagged.declares) ∙ none) in
      let before = listed_before tagged.tag.content i (and_parts (is_enumeration tagged.first) (is_listed tagged.tag.content i) agree).1 in
      ap (λ o. has_value (type_in b.named (content_of o))) tagged.is ∙ ap (λ o. has_value (type_in b.named o)) before.1.0 ∙ content_worth before.0 before.1.1 (tagged.content before.0 before.1.0)

  given_ok : (k : Kind) → n.kind ≡ k → (said_by k b.specified (slice_index_or u.tags.now i None) n).base ≡ base.Given
      → has_value (given_of k (slice_index_or u.tags.now i None) (slice_index_or u.visible.now i None) b i n) ≡ true
  given_ok kind.Specifiers is e = given_worth b.specified b.named n.parts (λ k part. part_given k part (λ own. ap (λ c. fits c k own) is)) e
  given_ok kind.PlainSpecifiers is e = given_worth b.specified b.named n.parts (λ k part. part_given k part (λ own. ap (λ c. fits c k own) is)) e
  given_ok kind.StructContent is e = refl
  given_ok kind.StructTag is e = structure_tag is
  given_ok kind.EnumContent is e = refl
  given_ok kind.EnumTag is e = enumeration_tag is
  given_ok kind.TypedefName is e = typedef_worth is
  given_ok k is e = absurd (false≢true (ap is_given e))

  pub specified_known : is_specifier n.kind ≡ true → is_one_type_of (entry_at t i).own.specified ≡ true → has_value (type_at shapes (entry_at t i).own.named) ≡ true
  specified_known is one =
      let r = ruled u texts shapes t h holds i n at in
      let said : Specified = (entry_at t i).own.specified in
      let own = has_at shapes (entry_at t i).own in
      let used = used_well n.kind u i _ (tag_holds own u i n (specifier_holds n.kind own b u i n is (holds_all u texts shapes t h holds i n at))) in
      named_plain u texts shapes t h holds i n at (specifier_plain n.kind is)
      (ap has_value (named_specified n.kind u said (entry_at t i).own.declarator (type_at shapes (entry_at t i).own.derivations) b i n is used)
      ∙ named_worth said _ one (λ e. given_ok n.kind refl (sym (ap (λ (x : Specified). x.base) r.specified) ∙ e)))
