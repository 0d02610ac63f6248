-- What a node reads of the nodes before it, and the constraints that it doesn't break.
use Rattle.std.proofs.Common.{◌≡◌, ℕ, ◌<◌, ◌&&◌, inl, inr, Bool, true, false, not, List, [], ◌∷◌, Option, None, Some, slice_get, slice_index_or, refl, sym, ap, subst, ◌∙◌, if◌then◌else◌}
use Rattle.std.proofs.lemmas.Bool.{false≢true, not-false}
use Rattle.std.proofs.lemmas.List.{get_or-take}
use Rattle.cr_syntax.specs.declared.node.Kind.{Kind}
use Rattle.cr_syntax.specs.declared.node.Kind.TheVariants as kind
use Rattle.cr_syntax.specs.declared.node.Node.{Node}
use Rattle.cr_check_enclosing.specs.declared.context.Place.{Place}
use Rattle.cr_check_types.specs.declared.layout.Layout.{Layout}
use Rattle.cr_check_types.specs.declared.shape.Shape.{Shape}
use Rattle.cr_check_types.specs.Types.{Qualified, type_at}
use Rattle.cr_check_expressions.specs.declared.least.Break.{Break}
use Rattle.cr_check_expressions.specs.Breaks.{fault}
use Rattle.cr_check_declarators.specs.Specifiers.{nothing, is_one_type_of}
use Rattle.cr_check_declarators.specs.Declarators.{name_alone}
use Rattle.cr_check_declarations.specs.declared.tree.Tree.{Tree}
use Rattle.cr_check_declarations.specs.Before.{Before, kind_in, kind_if}
use Rattle.cr_check_declarations.specs.Named.{is_initialised, is_declarator, declaration_of, declaration_at, is_declaration, above_in}
use Rattle.cr_check_declarations.specs.Faults.{Has, has_at, faults_in, is_specifier, is_whole, are_specifiers, specifier_faults, place_of, whole_faults}
use Rattle.cr_check_initialisers.specs.Known as initial
use Rattle.cr_check_initialisers.specs.Plans.{Entry}
use Rattle.cr_check_initialised.specs.Initialised.{planned_by, named_first, IsFilled}
use Rattle.cr_check_unit.specs.declared.typing.Typing.{Typing}
use Rattle.cr_check_unit.specs.Typing.{cut, entry_at, before_in, own_named, own_type, IsRuled, IsRuledIf, IsTyping}
use Rattle.cr_check_unit.specs.Breaks.{IsNodeBreak, IsBroken}
use Rattle.cr_meaning_typing.specs.Typed.Laws.{HoldsAll}
use Rattle.cr_meaning_typing.specs.Typed.Typing.{has_value}
use Rattle.cr_meaning_typing.proofs.TypedLemmas.Worth.{unbroken}
use Rattle.cr_meaning_types.specs.Known.Known.{IsKnown}
use Rattle.cr_meaning_types.proofs.KnownLemmas.Types.{seen_worth, as_worth}

-- a node of another kind names what it has itself
pub plain_named : (k : Kind) (known : initial.Known) (i : ℕ) (layouts : List Layout) (object : Option Qualified) (parts : List ℕ) (q named : Qualified) (xs : List Entry) → is_initialised (Some k) ≡ false
    → IsFilled known i (planned_by k layouts object parts) (named_first k object q) named xs → named ≡ q
plain_named kind.InitDeclarator known i layouts object parts q named xs e f = absurd (false≢true (sym e))
plain_named k known i layouts object parts q named xs e f = f.0

pub specifier_holds : (k : Kind) (own : Has) (b : Before) (u : Tree) (i : ℕ) (n : Node) → is_specifier k ≡ true → HoldsAll (faults_in k own b u i n) → HoldsAll (specifier_faults own u (place_of u i) i n)
specifier_holds kind.Declaration own b u i n e h = absurd (false≢true e)
specifier_holds kind.FunctionDefinition own b u i n e h = absurd (false≢true e)
specifier_holds kind.InitDeclarator own b u i n e h = absurd (false≢true e)
specifier_holds kind.Enumerator own b u i n e h = absurd (false≢true e)
specifier_holds k own b u i n e h =
    subst (λ x. HoldsAll (if x then specifier_faults own u (place_of u i) i n else (if is_declarator k then whole_faults own b u i (declaration_of u.nodes.now u.above.now i) else []))) e h

-- K1
one_type : (own : Has) (u : Tree) (at : Place) (i : ℕ) (n : Node) → HoldsAll (specifier_faults own u at i n) → (is_whole u i && not (is_one_type_of own.specified)) ≡ false
one_type own u at i n h = unbroken 1 n.first (is_whole u i && not (is_one_type_of own.specified)) [] only
  where
    only : HoldsAll (fault 1 n.first (is_whole u i && not (is_one_type_of own.specified)) ∷ [])
    only b (inl x) = h b (inl x)
    only b (inr x) = absurd x

pub both : (x y : Bool) → (x && not y) ≡ false → x ≡ true → y ≡ true
both true y e f = not-false y e
both false y e f = absurd (false≢true f)

-- ---- the declaration of a declarator

pub declaration_here : (nodes : List Node) (above : List (Option ℕ)) (p d : ℕ) (n : Node) → slice_index_or above p None ≡ Some d → slice_get nodes d ≡ Some n → is_initialised (Some n.kind) ≡ false
    → is_declaration (Some n.kind) ≡ true → declaration_of nodes above p ≡ Some d
declaration_here nodes above p d n e at apart is = by (kind_in nodes (slice_index_or above p None)) (ap (kind_in nodes) e ∙ ap kind_if at)
  where
    by : (o : Option Kind) → o ≡ Some n.kind → (if is_initialised o then declaration_at nodes (above_in above (slice_index_or above p None)) else declaration_at nodes (slice_index_or above p None)) ≡ Some d
    by o f =
        ap (λ x. if x then declaration_at nodes (above_in above (slice_index_or above p None)) else declaration_at nodes (slice_index_or above p None)) (ap is_initialised f ∙ apart)
        ∙ ap (declaration_at nodes) e ∙ ap (λ x. if x then Some d else None) (ap is_declaration (ap kind_if at) ∙ is)

declared_at : (nodes : List Node) (a : Option ℕ) (d : ℕ) → declaration_at nodes a ≡ Some d → is_declaration (kind_in nodes (Some d)) ≡ true
declared_at nodes a d e = by (is_declaration (kind_in nodes a)) refl e
  where
    by : (b : Bool) → is_declaration (kind_in nodes a) ≡ b → (if b then a else None) ≡ Some d → is_declaration (kind_in nodes (Some d)) ≡ true
    by false f g = absurd (cc g)
    by true f g = subst (λ o. is_declaration (kind_in nodes o) ≡ true) g f

pub declaration_is : (nodes : List Node) (above : List (Option ℕ)) (p d : ℕ) → declaration_of nodes above p ≡ Some d → is_declaration (kind_in nodes (Some d)) ≡ true
declaration_is nodes above p d e = by (is_initialised (kind_in nodes (slice_index_or above p None))) e
  where
    by : (b : Bool) → (if b then declaration_at nodes (above_in above (slice_index_or above p None)) else declaration_at nodes (slice_index_or above p None)) ≡ Some d → is_declaration (kind_in nodes (Some d)) ≡ true
    by true f = declared_at nodes (above_in above (slice_index_or above p None)) d f
    by false f = declared_at nodes (slice_index_or above p None) d f

-- ---- a unit that breaks nothing

module _ (u : Tree) (texts : List (List ℕ)) (shapes : List Shape) (t : Typing) (h : IsTyping u texts shapes t) (holds : (b : Break) → IsBroken u texts shapes t b → ⊥) where
  module _ (i : ℕ) (n : Node) (at : slice_get u.nodes.now i ≡ Some n) where
    pub ruled : IsRuled u texts shapes (cut i t) (entry_at t i) i n
    ruled = subst (IsRuledIf u texts shapes (cut i t) (entry_at t i) i) at (h.each i)

    pub holds_all : HoldsAll (faults_in n.kind (has_at shapes (entry_at t i).own) (before_in shapes (cut i t)) u i n)
    holds_all b among = holds b (record { node = i; among = subst (λ o. IsNodeBreak u texts shapes (cut i t) (entry_at t i) i o b) (sym at) (inr (inl among)) })

    -- the type that it names is known where what it names by itself is
    pub named_plain : is_initialised (Some n.kind) ≡ false → has_value (own_named shapes u (cut i t) (entry_at t i) i n) ≡ true → has_value (type_at shapes (entry_at t i).own.named) ≡ true
    named_plain e own =
        ap has_value (plain_named n.kind _ i _ _ n.parts _ (type_at shapes (entry_at t i).own.named) _ e ruled.filled)
        ∙ seen_worth (own_named shapes u (cut i t) (entry_at t i) i n) (entry_at t i).linked _ _ (own_type shapes u (cut i t) (entry_at t i) i n)
        (as_worth (own_named shapes u (cut i t) (entry_at t i) i n) _ _ own)

    pub named_early : (p : ℕ) → p < i → (before_in shapes (cut i t)).named p ≡ type_at shapes (entry_at t p).own.named
    named_early p low = ap (type_at shapes) (get_or-take i t.named p 0 low)

    pub specified_early : (p : ℕ) → p < i → (before_in shapes (cut i t)).specified p ≡ (entry_at t p).own.specified
    specified_early p low = get_or-take i t.specified p nothing low

    pub declarator_early : (p : ℕ) → p < i → (before_in shapes (cut i t)).declarator p ≡ (entry_at t p).own.declarator
    declarator_early p low = get_or-take i t.declarators p name_alone low

  -- all specifiers of a declaration name a type (K1)
  pub whole_known : (s d : ℕ) (m n : Node) → slice_get u.nodes.now s ≡ Some m → slice_get u.nodes.now d ≡ Some n → slice_index_or u.above.now s None ≡ Some d → is_specifier m.kind ≡ true
      → are_specifiers (Some n.kind) ≡ false → IsKnown u shapes t s m → has_value (type_at shapes (entry_at t s).own.named) ≡ true
  whole_known s d m n at up above is apart known =
      let own = has_at shapes (entry_at t s).own in
      let held = one_type own u (place_of u s) s m (specifier_holds m.kind own (before_in shapes (cut s t)) u s m is (holds_all s m at)) in
      let whole : is_whole u s ≡ true = ap (λ o. not (are_specifiers (kind_in u.nodes.now o))) above ∙ ap (λ o. not (are_specifiers (kind_if o))) up ∙ ap not apart in
      known.specifiers is (both (is_whole u s) (is_one_type_of (entry_at t s).own.specified) held whole)
