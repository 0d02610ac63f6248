-- Parameters and members have types that are known (C11 6.7.2.1, 6.7.6.3).
use Rattle.std.proofs.Common.{◌≡◌, ℕ, zero, suc, ◌<◌, ◌⊎◌, inl, inr, true, false, List, [], ◌∷◌, ◌++◌, Option, None, Some, drop, map, slice_get, slice_index_or, refl, sym, ap, subst, ◌∙◌, arith}
use Rattle.std.specs.List.{flat_map}
use Rattle.std.proofs.lemmas.Bool.{false≢true}
use Rattle.std.proofs.lemmas.List.{get_or-take}
use Rattle.cr_syntax.specs.declared.node.Kind.{Kind}
use Rattle.cr_syntax.specs.declared.node.Kind.TheVariants as kind
use Rattle.cr_syntax.specs.declared.node.Node.{Node}
use Rattle.cr_check_enclosing.specs.declared.context.Around.{Around}
use Rattle.cr_check_enclosing.specs.declared.context.Place.TheVariants as place
use Rattle.cr_check_enclosing.specs.Around.{outermost, inside}
use Rattle.cr_check_types.specs.declared.shape.Shape.{Shape}
use Rattle.cr_check_types.specs.Types.{type_at}
use Rattle.cr_check_expressions.specs.declared.least.Break.{Break}
use Rattle.cr_check_expressions.specs.declared.known.Member.{Member}
use Rattle.cr_check_expressions.specs.Ruled.{is_type}
use Rattle.cr_check_declarators.specs.Functions.{adjusted_type}
use Rattle.cr_check_declarations.specs.declared.tree.Tree.{Tree}
use Rattle.cr_check_declarations.specs.Before.{Before, kind_if, parts_if, type_in}
use Rattle.cr_check_declarations.specs.Named.{is_initialised, is_declarator, is_declaration, declares_name, named_by, listed_by, parameter_nodes, parameters_in, parameters_by, member_of, members_by}
use Rattle.cr_check_declarations.specs.Faults.{is_specifier, are_specifiers, place_of}
use Rattle.cr_check_unit.specs.declared.typing.Typing.{Typing}
use Rattle.cr_check_unit.specs.Typing.{cut, entry_at, before_in, own_named, own_type, IsTyping}
use Rattle.cr_check_unit.specs.Breaks.{IsBroken}
use Rattle.cr_meaning_typing.specs.Typed.Typing.{has_value}
use Rattle.cr_meaning_typing.proofs.TypedLemmas.Worth.{worth_typed}
use Rattle.cr_meaning_types.specs.Known.Shaped.{fits, is_filled, is_parameter_kind, is_parameter_list, IsPart, IsShaped}
use Rattle.cr_meaning_types.specs.Known.Known.{names_type, AllTyped, AllMembers, IsMemberType, IsKnown}
use Rattle.cr_meaning_types.proofs.KnownLemmas.Types.{all_seen, all_as, adjusted_worth}
use Rattle.cr_meaning_types.proofs.KnownLemmas.Naming.{declaration_here, ruled, named_plain, named_early, whole_known}
use Rattle.cr_meaning_types.proofs.KnownLemmas.Sizes.{declarator_names}
use Rattle.cr_meaning_types.proofs.KnownLemmas.Declaring.{there_is, member_complete}

-- ---- lists

pub mapped : {A B : Type 0} (f : A → B) (xs : List A) (k : ℕ) (y : B) → slice_get (map f xs) k ≡ Some y → (x : A) × ((slice_get xs k ≡ Some x) × (f x ≡ y))
mapped f [] k y e = absurd (cc e)
mapped f (x ∷ xs) zero y e = (x, (refl, cc e))
mapped f (x ∷ xs) (suc k) y e = mapped f xs k y e

pub behind_first : (ps : List ℕ) (m a : ℕ) → slice_get (drop 1 ps) m ≡ Some a → slice_get ps (suc m) ≡ Some a
behind_first [] m a e = absurd (cc e)
behind_first (p ∷ ps) m a e = e

pub appended : {A : Type 0} (xs ys : List A) (k : ℕ) (x : A) → slice_get (xs ++ ys) k ≡ Some x → ((j : ℕ) × (slice_get xs j ≡ Some x)) ⊎ ((j : ℕ) × (slice_get ys j ≡ Some x))
appended [] ys k x e = inr (k, e)
appended (z ∷ xs) ys zero x e = inl (zero, e)
appended (z ∷ xs) ys (suc k) x e = elim (appended xs ys k x e) [ inl f ↦ inl (suc f.0, f.1) | inr f ↦ inr f ]

all_flat : (u : Tree) (shapes : List Shape) (f : ℕ → List Member) (ps : List ℕ) → ((k p : ℕ) → slice_get ps k ≡ Some p → AllMembers u shapes (f p)) → AllMembers u shapes (flat_map f ps)
all_flat u shapes f [] h k m e = absurd (cc e)
all_flat u shapes f (p ∷ ps) h k m e = elim (appended (f p) (flat_map f ps) k m e) [
  | inl x ↦ h 0 p refl x.0 m x.1
  | inr x ↦ all_flat u shapes f ps (λ j q g. h (suc j) q g) x.0 m x.1
]

-- ---- kinds

pub member_place : (k : Kind) (i : ℕ) (a : Around) → k ≡ kind.MemberDeclaration → (inside k i a).place ≡ place.Member
unfolding inside
member_place k i a e = ap (λ c. (inside c i a).place) e

pub specified_parameter : (k : Kind) → is_parameter_kind k ≡ true → (k ≡ kind.Parameter) ⊎ (is_specifier k ≡ true)
specified_parameter kind.Parameter e = inl refl
specified_parameter k e = inr e

-- ---- in a unit

module _ (u : Tree) (texts : List (List ℕ)) (shapes : List Shape) (t : Typing) (h : IsTyping u texts shapes t) (holds : (b : Break) → IsBroken u texts shapes t b → ⊥)
    (shaped : IsShaped u) (i : ℕ) (n : Node) (at : slice_get u.nodes.now i ≡ Some n)
    (below : (p : ℕ) → p < i → (m : Node) → slice_get u.nodes.now p ≡ Some m → IsKnown u shapes t p m) where
  abbrev b : Before
  b = before_in shapes (cut i t)

  early : (p : ℕ) → p < i → has_value (type_at shapes (entry_at t p).own.named) ≡ true → has_value (b.named p) ≡ true
  early p low known = ap has_value (named_early u texts shapes t h holds i n at p low) ∙ known

  -- ---- type names and parameters

  -- a declarator that is a part of it
  part_worth : (place part : ℕ) → ((own : Kind) → fits n.kind place own ≡ is_declarator own) → is_initialised (Some n.kind) ≡ false → is_declaration (Some n.kind) ≡ true
      → slice_get n.parts place ≡ Some part → has_value (type_at shapes (entry_at t part).own.named) ≡ true
  part_worth place part stands plain declares is =
      let p = shaped.parts i n at place part is in
      (below part p.below p.own p.at).declared (declarator_names p.own.kind (sym (stands p.own.kind) ∙ p.fits)) i (declaration_here u.nodes.now u.above.now part i n p.above at plain declares)

  second_worth : is_filled n.kind 1 ≡ true → ((own : Kind) → fits n.kind 1 own ≡ is_declarator own) → is_initialised (Some n.kind) ≡ false → is_declaration (Some n.kind) ≡ true
      → has_value (type_in b.named (slice_get n.parts 1)) ≡ true
  second_worth filled stands plain declares =
      let second = there_is (slice_get n.parts 1) (shaped.filled i n at 1 filled) in
      let p = shaped.parts i n at 1 second.0 second.1 in
      ap (λ o. has_value (type_in b.named o)) second.1 ∙ early second.0 p.below (part_worth 1 second.0 stands plain declares second.1)

  named_worth : (k : Kind) → n.kind ≡ k → names_type k ≡ true → has_value (own_named shapes u (cut i t) (entry_at t i) i n) ≡ true
  named_worth kind.Parameter is e =
      ap (λ c. has_value (named_by c u (entry_at t i).own.specified (entry_at t i).own.declarator (type_at shapes (entry_at t i).own.derivations) b i n)) is
      ∙ second_worth (ap (λ c. is_filled c 1) is) (λ own. ap (λ c. fits c 1 own) is) (ap (λ c. is_initialised (Some c)) is) (ap (λ c. is_declaration (Some c)) is)
  named_worth kind.TypeName is e =
      ap (λ c. has_value (named_by c u (entry_at t i).own.specified (entry_at t i).own.declarator (type_at shapes (entry_at t i).own.derivations) b i n)) is
      ∙ second_worth (ap (λ c. is_filled c 1) is) (λ own. ap (λ c. fits c 1 own) is) (ap (λ c. is_initialised (Some c)) is) (ap (λ c. is_declaration (Some c)) is)
  named_worth k is e = absurd (false≢true e)

  names_plain : (k : Kind) → names_type k ≡ true → is_initialised (Some k) ≡ false
  names_plain kind.InitDeclarator e = absurd (false≢true e)
  names_plain k e = refl

  pub named_known : names_type n.kind ≡ true → has_value (type_at shapes (entry_at t i).own.named) ≡ true
  named_known e = named_plain u texts shapes t h holds i n at (names_plain n.kind e) (named_worth n.kind refl e)

  -- a parameter of a list, or specifiers alone
  parameter_worth : (j : ℕ) (m : Node) (place part : ℕ) → slice_get u.nodes.now j ≡ Some m → IsPart u j m place part → part < i → are_specifiers (Some m.kind) ≡ false → (k : Kind) → is_parameter_kind k ≡ true
      → (p : Node) → slice_get u.nodes.now part ≡ Some p → p.kind ≡ k → has_value (b.named part) ≡ true
  parameter_worth j m place part there is low several k e p own same = early part low (elim (specified_parameter k e) [
    | inl x ↦ (below part low p own).named (ap names_type (same ∙ x))
    | inr x ↦ whole_known u texts shapes t h holds part j p m own there is.above (ap is_specifier same ∙ x) several (below part low p own)
  ])

  -- those of the list of a function
  listed_worth : (list : ℕ) → IsPart u i n 1 list → (m : Node) → slice_get u.nodes.now list ≡ Some m → (k : Kind) → m.kind ≡ k → is_parameter_list k ≡ true → n.kind ≡ kind.FunctionDeclarator
      → (j part : ℕ) → slice_get (listed_by (Some k) m.parts list) j ≡ Some part → has_value (b.named part) ≡ true
  listed_worth list is m there kind.VoidParameters same e fn j part f = absurd (cc f)
  listed_worth list is m there kind.Parameters same e fn j part f =
      let p = shaped.parts list m there j part f in
      let low = is.below in
      let lower = p.below in
      parameter_worth list m j part there p (omega (arith, low, lower)) (ap (λ c. are_specifiers (Some c)) same) p.own.kind (sym (ap (λ c. fits c j p.own.kind) same) ∙ p.fits) p.own p.at refl
  listed_worth list is m there kind.VariadicParameters same e fn j part f =
      let p = shaped.parts list m there j part f in
      let low = is.below in
      let lower = p.below in
      parameter_worth list m j part there p (omega (arith, low, lower)) (ap (λ c. are_specifiers (Some c)) same) p.own.kind (sym (ap (λ c. fits c j p.own.kind) same) ∙ p.fits) p.own p.at refl
  listed_worth list is m there k same e fn zero part f =
      let one : list ≡ part = cc f in
      ap (λ x. has_value (b.named x)) (sym one) ∙ parameter_worth i n 1 list at is is.below (ap (λ c. are_specifiers (Some c)) fn) k e m there same
  listed_worth list is m there k same e fn (suc j) part f = absurd (cc f)

  all_parameters : (o : Option ℕ) → slice_get n.parts 1 ≡ o → n.kind ≡ kind.FunctionDeclarator → (j part : ℕ) → slice_get (parameter_nodes u.nodes.now o) j ≡ Some part → has_value (b.named part) ≡ true
  all_parameters None is fn j part f = absurd (cc f)
  all_parameters (Some list) is fn j part f =
      let p = shaped.parts i n at 1 list is in
      listed_worth list p p.own p.at p.own.kind refl (sym (ap (λ c. fits c 1 p.own.kind) fn) ∙ p.fits) fn j part
      (sym (ap (λ o. slice_get (listed_by (kind_if o) (parts_if o) list) j) p.at) ∙ f)

  -- of what a declarator is made of
  inner_parameters : ((own : Kind) → fits n.kind 0 own ≡ is_declarator own) → AllTyped (parameters_in b (slice_get n.parts 0))
  inner_parameters stands = by (slice_get n.parts 0) refl
    where
      by : (o : Option ℕ) → slice_get n.parts 0 ≡ o → AllTyped (parameters_in b o)
      by None is = λ k type f. absurd (cc f)
      by (Some part) is =
          let p = shaped.parts i n at 0 part is in
          subst (λ rows. AllTyped (map (type_at shapes) rows)) (sym (get_or-take i t.parameters part [] p.below))
          ((below part p.below p.own p.at).parameters (declarator_names p.own.kind (sym (stands p.own.kind) ∙ p.fits)))

  parameters_of : (k : Kind) → n.kind ≡ k → declares_name k ≡ true → AllTyped (parameters_by k u.nodes.now b n)
  parameters_of kind.FunctionDeclarator is e = λ j type f.
      let x = mapped (λ p. adjusted_type (b.named p)) (parameter_nodes u.nodes.now (slice_get n.parts 1)) j type f in
      sym (ap is_type x.1.1) ∙ worth_typed (adjusted_type (b.named x.0)) (adjusted_worth (b.named x.0) (all_parameters (slice_get n.parts 1) refl is j x.0 x.1.0))
  parameters_of kind.InitDeclarator is e = inner_parameters (λ own. ap (λ c. fits c 0 own) is)
  parameters_of kind.PointerDeclarator is e = inner_parameters (λ own. ap (λ c. fits c 0 own) is)
  parameters_of kind.ArrayDeclarator is e = inner_parameters (λ own. ap (λ c. fits c 0 own) is)
  parameters_of kind.GroupDeclarator is e = inner_parameters (λ own. ap (λ c. fits c 0 own) is)
  parameters_of k is e = λ j type f. absurd (cc f)

  pub parameters_known : declares_name n.kind ≡ true → AllTyped (map (type_at shapes) (entry_at t i).parameters)
  parameters_known e =
      subst AllTyped (sym (ruled u texts shapes t h holds i n at).parameters)
      (all_seen (parameters_by n.kind u.nodes.now b n) (entry_at t i).linked _ _ (own_type shapes u (cut i t) (entry_at t i) i n)
      (all_as (own_named shapes u (cut i t) (entry_at t i) i n) _ (parameters_by n.kind u.nodes.now b n) (parameters_of n.kind refl e)))

  -- ---- members

  members_of : (k : Kind) → n.kind ≡ k → AllMembers u shapes (members_by k u.nodes.now u.names.now (cut i t).named (cut i t).members n.parts)
  members_of kind.MemberDeclaration is = λ j member f.
      let x = mapped (member_of u.nodes.now u.names.now (cut i t).named) (drop 1 n.parts) j member f in
      let part = behind_first n.parts j x.0 x.1.0 in
      let p = shaped.parts i n at (suc j) x.0 part in
      let stands = λ (own : Kind). ap (λ c. fits c (suc j) own) is in
      let plain : is_initialised (Some n.kind) ≡ false = ap (λ c. is_initialised (Some c)) is in
      let declares : is_declaration (Some n.kind) ≡ true = ap (λ c. is_declaration (Some c)) is in
      let declaration = declaration_here u.nodes.now u.above.now x.0 i n p.above at plain declares in
      let stood : place_of u x.0 ≡ place.Member = ap (λ (a : Around). a.place) p.around ∙ member_place n.kind i (slice_index_or u.around.now i outermost) is in
      subst (λ (m : Member). IsMemberType u (type_at shapes m.row)) x.1.1 (subst (IsMemberType u) (sym (named_early u texts shapes t h holds i n at x.0 p.below)) (record {
        known = part_worth (suc j) x.0 stands plain declares part;
        declarator = x.0;
        complete = member_complete u texts shapes t h holds shaped x.0 i p.own p.at (sym (stands p.own.kind) ∙ p.fits) declaration stood;
      }))
  members_of kind.StructContent is = all_flat u shapes (λ p. slice_index_or (cut i t).members p []) n.parts (λ k p f.
      let q = shaped.parts i n at k p f in subst (AllMembers u shapes) (sym (get_or-take i t.members p [] q.below)) (below p q.below q.own q.at).members)
  members_of k is = λ j member f. absurd (cc f)

  pub members_known : AllMembers u shapes (entry_at t i).members
  members_known = subst (AllMembers u shapes) (sym (ruled u texts shapes t h holds i n at).members) (members_of n.kind refl)
