-- An initialised declarator of an object stands in a declaration (C11 6.7p1).
use Rattle.std.proofs.Common.{◌≡◌, ℕ, zero, suc, ◌+◌, Bool, true, false, not, List, Option, None, Some, length, slice_get, slice_index_or, inr, refl, sym, ap, ◌∙◌, if◌then◌else◌}
use Rattle.std.proofs.lemmas.Bool.{both_ways, false≢true, not-true}
use Rattle.std.proofs.lemmas.Option.{slice_get_within, same_Some}
use Rattle.cr_syntax.specs.declared.node.Kind.{Kind}
use Rattle.cr_syntax.specs.declared.node.Kind.TheVariants as kind
use Rattle.cr_syntax.specs.declared.node.Node.{Node}
use Rattle.cr_syntax.specs.declared.part.Part.{Part}
use Rattle.cr_syntax.specs.Tables.{rule_of, side_of}
use Rattle.cr_syntax.specs.Kept.{row_in}
use Rattle.cr_syntax_nodes.specs.Laid.{stands_for}
use Rattle.cr_scopes_events.specs.Declarators.{declarator_of}
use Rattle.cr_scopes_events.specs.Scripts as scripts
use Rattle.cr_scopes_linkage.specs.Shared.Origins.{is_external, IsDeclarer}
use Rattle.cr_check_enclosing.specs.Above.{above_of}
use Rattle.cr_check_expressions.specs.declared.known.Declared.TheVariants.{Object}
use Rattle.cr_check_declarators.specs.declared.words.Specified.{Specified}
use Rattle.cr_check_declarators.specs.declared.declarator.Declarator.{Declarator}
use Rattle.cr_check_declarators.specs.declared.enumerators.Enumerated.{Enumerated}
use Rattle.cr_check_declarations.specs.Before.{kind_in, kind_if}
use Rattle.cr_check_declarations.specs.Named.{is_declaration, is_initialised, above_in, declaration_at, declaration_of, names_ordinary, ordinary_of, declares_name, declared_by}
use Rattle.cr_check_unit.specs.Typing.{cut, entry_at, before_in}
use Rattle.cr_typed.specs.declared.typed.Typed.{Typed}
use Rattle.cr_meaning_declarations.proofs.UnitsLemmas.Rows.{clear_side, clear_laid, clear_at}
use Rattle.cr_meaning_declarations.proofs.UnitsLemmas.Handing.{laid_at, parts_below}
use Rattle.cr_meaning_declarations.proofs.NamesLemmas.Parents.{IsPartOf, above_some}
use Rattle.cr_meaning_types.specs.Known.Shaped.{fits, IsPart}
use Rattle.cr_meaning_types.proofs.KnownLemmas.Naming.{ruled}
use Rattle.cr_meaning_declarations.specs.Declared.Files.{IsUnitOfFile}
use Rattle.cr_meaning_declarations.proofs.DeclaredLemmas.Files.{has_unit}
use Rattle.cr_meaning_declarations.proofs.LinkedLemmas.Order.{is_initial}
use Rattle.cr_meaning_objects.proofs.ChainedLemmas.Known.{is_typing, holds, there}
use Rattle.cr_meaning_objects.specs.Objects.Laws.{DeclaresObject}
use Rattle.cr_meaning_objects.proofs.ObjectsLemmas.Statics.{no_constant, object_if}
use Rattle.cr_meaning_objects.specs.Composed.Laws
use Rattle.cr_meaning_references.proofs.TreesLemmas.Shaped.{shaped}

-- ---- what declares an object

object_declares : (k : Kind) (nodes : List Node) (said : ℕ → Specified) (own : Declarator) (row : ℕ) (e : Option Enumerated) (d : Option ℕ) (x : ℕ) (register : Bool) → declared_by k nodes said own row e d ≡ Object x register
    → names_ordinary (kind_in nodes d) ≡ true
object_declares kind.Enumerator nodes said own row e d x register h = absurd (no_constant e x register h)
object_declares k nodes said own row e d x register h = (object_if (names_ordinary (kind_in nodes d)) _ x register (object_if (declares_name k) (ordinary_of nodes said own row d) x register h).1).0

-- ---- what has no initialised declarators

only_initial : (k : Kind) → is_initial k ≡ true → k ≡ kind.InitDeclarator
only_initial kind.InitDeclarator h = refl
only_initial k h = absurd (false≢true h)

abbrev without : Part → Bool
without p = not (stands_for p kind.InitDeclarator)

clears : (p : Part) (k : Kind) → without p ≡ true → stands_for p k ≡ true → is_initial k ≡ false
clears p k c s = by (is_initial k) refl
  where
    by : (b : Bool) → is_initial k ≡ b → is_initial k ≡ false
    by false q = q
    by true q = absurd (both_ways (stands_for p kind.InitDeclarator) (not-true (stands_for p kind.InitDeclarator) c) (ap (stands_for p) (sym (only_initial k q)) ∙ s))

side_clear : (k : Kind) → names_ordinary (Some k) ≡ true → is_external k ≡ false → clear_side is_initial without clears (side_of k) ≡ true
unfolding rule_of
side_clear kind.Parameter h g = refl
side_clear kind.Declaration h g = absurd (false≢true (sym g))
side_clear kind.FunctionDefinition h g = absurd (false≢true (sym g))
side_clear k h g = absurd (false≢true h)

definition_clear : clear_side is_initial without clears (side_of kind.FunctionDefinition) ≡ true
unfolding rule_of
definition_clear = refl

module _ (file : List ℕ) (t : Typed) (it : IsUnitOfFile file t) (i q : ℕ) (n : Node) (at : slice_get t.nodes i ≡ Some n) (is : n.kind ≡ kind.InitDeclarator)
    (first : slice_get n.parts 0 ≡ Some q) (object : DeclaresObject it.checked.checked.whole.typing q) where
  open it use {made_by, typing, shapes, tree}
  open has_unit file t it use {unit, nodes_are as same_nodes}

  here : slice_get tree.nodes.now i ≡ Some n
  here = there file t it i n at

  part : IsPart tree i n 0 q
  part = (shaped file t it).parts i n here 0 q first

  abbrev holds_ordinary : Option ℕ → Bool
  holds_ordinary d = names_ordinary (kind_in tree.nodes.now d)

  ordinary : holds_ordinary (declaration_at tree.nodes.now (slice_index_or tree.above.now i None)) ≡ true
  ordinary =
      ap holds_ordinary
      (sym
      (ap (λ o. if is_initialised (kind_in tree.nodes.now o) then declaration_at tree.nodes.now (above_in tree.above.now o) else declaration_at tree.nodes.now o) part.above
      ∙ ap (λ o. if is_initialised (kind_if o) then declaration_at tree.nodes.now (above_in tree.above.now (Some i)) else declaration_at tree.nodes.now (Some i)) here
      ∙ ap (λ k. if is_initialised (Some k) then declaration_at tree.nodes.now (above_in tree.above.now (Some i)) else declaration_at tree.nodes.now (Some i)) is))
      ∙ object_declares part.own.kind tree.nodes.now (before_in shapes (cut q typing)).specified (entry_at typing q).own.declarator (entry_at typing q).own.named (entry_at typing q).own.enumerated
      (declaration_of tree.nodes.now tree.above.now q) object.0 object.1.0
      (sym (ruled tree it.checked.checked.texts shapes typing (is_typing file t it) (holds file t it) q part.own part.at).declared ∙ object.1.1)

  module _ (token : ℕ) (name : (declarator_of t.nodes q).name ≡ Some token) where
    abbrev Stands : Type 0
    Stands = (d : ℕ) × ((m : Node) × IsDeclarer t.nodes token d q m)

    module _ (d : ℕ) (h : IsPartOf t unit i d) (its : names_ordinary (Some h.parent.kind) ≡ true) where
      no_side : clear_side is_initial without clears (side_of h.parent.kind) ≡ true → ⊥
      no_side clear =
          let row = clear_laid is_initial without clears unit.tokens (side_of h.parent.kind) (row_in t.nodes h.parent.parts) h.parent.first (h.parent.last + 1) clear (laid_at t unit d h.parent h.at) in
          let one = clear_at is_initial without clears t.nodes unit.below h.parent.parts (parts_below t unit d h.parent h.at) row h.place i h.is in
          let same : one.0 ≡ n = same_Some one.0 n (sym one.1.0 ∙ at) in
          false≢true (sym (ap (λ (z : Node). is_initial z.kind) (sym same) ∙ one.1.1) ∙ ap is_initial is)

      external : is_external h.parent.kind ≡ true
      external = by (is_external h.parent.kind) refl
        where
          by : (b : Bool) → is_external h.parent.kind ≡ b → b ≡ true
          by true e = refl
          by false e = absurd (no_side (side_clear h.parent.kind its e))

      no_definition : h.parent.kind ≡ kind.FunctionDefinition → ⊥
      no_definition e = no_side (ap (λ k. clear_side is_initial without clears (side_of k)) e ∙ definition_clear)

      -- it isn't its first part, which has specifiers
      no_first : slice_get h.parent.parts 0 ≡ Some i → ⊥
      no_first e =
          let x = (shaped file t it).parts d h.parent (there file t it d h.parent h.at) 0 i e in
          let same : x.own ≡ n = same_Some x.own n (sym x.at ∙ here) in
          specified h.parent.kind x.own.kind external (ap (λ (z : Node). z.kind) same ∙ is) x.fits
        where
          specified : (k own : Kind) → is_external k ≡ true → own ≡ kind.InitDeclarator → fits k 0 own ≡ true → ⊥
          specified kind.Declaration own g e f = false≢true (ap (fits kind.Declaration 0) (sym e) ∙ f)
          specified kind.FunctionDefinition own g e f = false≢true (ap (fits kind.FunctionDefinition 0) (sym e) ∙ f)
          specified k own g e f = false≢true g

      stands_at : (place : ℕ) → slice_get h.parent.parts place ≡ Some i → Stands
      stands_at zero e = absurd (no_first e)
      stands_at (suc place) e = (
        d,
        (
          h.parent,
          record {
            at = h.at;
            external = external;
            place = place;
            first = λ definition. absurd (no_definition definition);
            part = i;
            is = e;
            declares = inr (ap scripts.kind_if at ∙ ap Some is, ap (λ o. slice_get (scripts.parts_if o) 0) at ∙ first);
            name = name;
          },
        ),
      )

    above_is : (d : ℕ) → slice_index_or tree.above.now i None ≡ Some d → above_of t.nodes (length t.nodes) i ≡ Some d
    above_is d e =
        ap (λ ns. above_of ns (length ns) i) (sym same_nodes)
        ∙ sym (made_by.is.surroundings.above.each i (slice_get_within it.unit.nodes i n (ap (λ ns. slice_get ns i) same_nodes ∙ at)))
        ∙ ap (λ column. slice_index_or column i None) (sym made_by.is.whole.tree.above) ∙ e

    stands : Stands
    stands = by (slice_index_or tree.above.now i None) refl
      where
        by : (o : Option ℕ) → slice_index_or tree.above.now i None ≡ o → Stands
        by None e = absurd (false≢true (sym (ap (λ o. holds_ordinary (declaration_at tree.nodes.now o)) e) ∙ ordinary))
        by (Some d) e =
            let h = above_some t unit (length t.nodes) i d (above_is d e) in
            stands_at d h (declared (is_declaration (kind_in tree.nodes.now (Some d))) (sym (ap (λ o. holds_ordinary (declaration_at tree.nodes.now o)) e) ∙ ordinary) (ap kind_if (there file t it d h.parent h.at))) h.place h.is
          where
            declared : {k : Kind} (b : Bool) → holds_ordinary (if b then Some d else None) ≡ true → kind_in tree.nodes.now (Some d) ≡ Some k → names_ordinary (Some k) ≡ true
            declared true f g = sym (ap names_ordinary g) ∙ f
            declared false f g = absurd (false≢true f)

pub stand : Laws.InitialisersStandInDeclarations
stand file t it i q token n at is first object name = stands file t it i q n at is first object token name
