-- Names of a file's typed unit find declarations that stand before them.
use Rattle.std.proofs.Common.{◌≡◌, ℕ, ◌<◌, true, List, None, Some, length, slice_get, slice_index_or, refl, sym, ap, subst, ◌∙◌, arith}
use Rattle.std.proofs.lemmas.Bool.{false≢true}
use Rattle.std.proofs.lemmas.Option.{slice_get_within}
use Rattle.cr_syntax.specs.declared.node.Kind.{Kind}
use Rattle.cr_syntax.specs.declared.node.Kind.TheVariants as kind
use Rattle.cr_syntax.specs.declared.node.Node.{Node}
use Rattle.cr_syntax_order.specs.Listed.{AreListed}
use Rattle.cr_scopes_bindings.specs.Nodes.{name_at, tag_at}
use Rattle.cr_scopes_visibility.specs.Sight.Scopes.{is_using}
use Rattle.cr_scopes_visibility.specs.Tagged.Tagged.{AreTagsApart}
use Rattle.cr_scopes_visibility.specs.Told.Told.{IsEnumerator, AreApart}
use Rattle.cr_check_enclosing.specs.Above.{above_of}
use Rattle.cr_typed.specs.declared.typed.Typed.{Typed}
use Rattle.cr_meaning_types.specs.Known.Sighted.{is_use}
use Rattle.cr_meaning_declarations.specs.Units.Owned.{AreOfUnit}
use Rattle.cr_meaning_declarations.proofs.NamesLemmas.Parents.{part_below, above_is}
use Rattle.cr_meaning_declarations.specs.Declared.Files.{IsAssembledFile}
use Rattle.cr_meaning_declarations.proofs.DeclaredLemmas.Nodes.{unit_of}
use Rattle.cr_meaning_references.specs.Told.Laws
use Rattle.cr_meaning_references.proofs.ToldLemmas.Orderly.{apart, named_within, tags_apart, tag_within, initialised_plain}
use Rattle.cr_meaning_references.proofs.ToldLemmas.Names.{found}
use Rattle.cr_meaning_references.proofs.ToldLemmas.Tags.{tag_found}

using : (k : Kind) → is_use k ≡ true → is_using k ≡ true
using kind.Identifier h = refl
using kind.Call h = refl
using kind.TypedefName h = refl
using k h = absurd (false≢true h)

module _ (file : List ℕ) (t : Typed) (it : IsAssembledFile file t) where
  unit : AreOfUnit t
  unit = unit_of file t it

  abbrev nodes_are : t.nodes ≡ it.unit.nodes
  nodes_are = it.checked.by.elaborated.nodes_are

  pub order : AreListed t.nodes 0 t.items (length t.nodes)
  order = subst (λ is. AreListed t.nodes 0 is (length t.nodes)) (sym it.checked.by.elaborated.items_are) (subst (λ ns. AreListed ns 0 it.unit.items (length ns)) (sym nodes_are) it.listed)

  pub moved : (i : ℕ) (m : Node) → slice_get it.unit.nodes i ≡ Some m → slice_get t.nodes i ≡ Some m
  moved i m at = ap (λ ns. slice_get ns i) nodes_are ∙ at

  few : length t.tokens ≡ length it.unit.tokens.list.items
  few = ap length it.checked.by.elaborated.tokens_are

  pub parent : (p a k : ℕ) (m : Node) → slice_get it.unit.nodes a ≡ Some m → slice_get m.parts k ≡ Some p → slice_index_or it.checked.checked.surroundings.above p None ≡ Some a
  parent p a k m at e =
      it.checked.by.is.surroundings.above.each p low
      ∙ ap (λ ns. above_of ns (length ns) p) (sym nodes_are)
      ∙ above_is t unit p a (record { parent = m; at = moved a m at; place = k; is = e })
    where
      low : p < length it.unit.nodes
      low =
          let below = part_below t unit p a (record { parent = m; at = moved a m at; place = k; is = e }) in
          let there = slice_get_within it.unit.nodes a m at in
          omega (arith, below, there)

  pub within : (i : ℕ) (n : Node) → slice_get it.unit.nodes i ≡ Some n → n.first < length it.unit.tokens.list.items
  within i n at = let w = unit.within i n (moved i n at) in let low = w.0 in let high = w.1 in omega (arith, low, high, few)

  pub names_within : (p token : ℕ) → name_at it.unit.nodes p ≡ Some token → token < length it.unit.tokens.list.items
  names_within p token e = let low = named_within t unit order p token (ap (λ ns. name_at ns p) nodes_are ∙ e) in omega (arith, low, few)

  plain : (p a : ℕ) (m : Node) → IsEnumerator it.unit.nodes p → slice_get it.unit.nodes a ≡ Some m → m.kind ≡ kind.InitDeclarator → slice_get m.parts 0 ≡ Some p → ⊥
  plain p a m own at is e = initialised_plain t unit order p a m (subst (λ ns. IsEnumerator ns p) (sym nodes_are) own) (moved a m at) is e

  tags_within : (i token : ℕ) → tag_at it.unit.nodes it.unit.tokens.list.items i ≡ Some token → token < length it.unit.tokens.list.items
  tags_within i token e = let low = tag_within t unit order it.unit.tokens.list.items i token (ap (λ ns. tag_at ns it.unit.tokens.list.items i) nodes_are ∙ e) in omega (arith, low, few)

pub are_found : Laws.NamesAreFound
are_found file t it i n at used =
    found file it.unit it.names it.checked.checked.surroundings it.checked.by.tree it.checked.by.is.surroundings it.checked.by.is.whole.tree it.known it.listed
    (subst AreApart (nodes_are file t it) (apart t (unit file t it) (order file t it))) (parent file t it) (within file t it) (names_within file t it) (plain file t it) i n
    (ap (λ ns. slice_get ns i) (sym it.checked.by.is.whole.tree.nodes) ∙ at) (using n.kind used)

pub tags_found : Laws.TagsAreFound
tags_found file t it i n at tagged =
    tag_found file it.unit it.names it.checked.checked.surroundings it.checked.by.tree it.checked.by.is.surroundings it.checked.by.is.whole.tree it.known it.listed
    (subst (AreTagsApart it.unit.tokens.list.items) (nodes_are file t it) (tags_apart t (unit file t it) (order file t it) it.unit.tokens.list.items)) (tags_within file t it) i n
    (ap (λ ns. slice_get ns i) (sym it.checked.by.is.whole.tree.nodes) ∙ at) tagged
