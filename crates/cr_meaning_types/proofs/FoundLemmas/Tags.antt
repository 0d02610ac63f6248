-- What a tag finds: a specifier that declares it, and one with its content (C11 6.7.2.3).
use Rattle.std.proofs.Common.{◌≡◌, ℕ, ◌<◌, ◌⊎◌, inl, inr, true, List, Option, None, Some, length, slice_get, slice_index_or, refl, sym, ap, ◌∙◌, arith}
use Rattle.std.specs.Option.{is_some}
use Rattle.std.proofs.lemmas.Bool.{false≢true}
use Rattle.std.proofs.lemmas.Option.{slice_get_within}
use Rattle.cr_tokens.specs.declared.token.Token.{Token}
use Rattle.cr_syntax.specs.declared.node.Kind.{Kind}
use Rattle.cr_syntax.specs.declared.node.Kind.TheVariants as kind
use Rattle.cr_syntax.specs.declared.node.Node.{Node}
use Rattle.cr_syntax.specs.declared.unit.Unit as source
use Rattle.cr_scopes.specs.declared.names.Names.{Names}
use Rattle.cr_scopes_bindings.specs.declared.bindings.Bindings.{Bindings}
use Rattle.cr_scopes_bindings.specs.Bindings.{tag_for}
use Rattle.cr_scopes_bindings.specs.Entities.{entity_at, entity_if, first_of, content_entity}
use Rattle.cr_scopes_bindings.specs.Nodes.{tag_if as tag_in, tag_by, tag_at, with_content, content_if, content_at}
use Rattle.cr_check_declarations.specs.declared.tree.Tag.{Tag}
use Rattle.cr_check_declarations.specs.declared.tree.Tree.{Tree}
use Rattle.cr_check_declarations.specs.Before.{kind_if}
use Rattle.cr_check_surroundings.specs.declared.surroundings.Surroundings.{Surroundings}
use Rattle.cr_check_surroundings.specs.Surroundings.{AreSurroundings, IsTree}
use Rattle.cr_check_surroundings.specs.Named.{tag_with, tag_if, tag_of}
use Rattle.cr_meaning_types.specs.Known.Sighted.{IsContent, IsTagged}
use Rattle.cr_meaning_types.proofs.FoundLemmas.Columns.{has_key}

-- a node with the key of a tag is there
tag_there : (nodes : List Node) (tokens : List Token) (p k : ℕ) → tag_at nodes tokens p ≡ Some k → (m : Node) × (slice_get nodes p ≡ Some m)
tag_there nodes tokens p k e = by (slice_get nodes p) refl e
  where
    by : (o : Option Node) → slice_get nodes p ≡ o → tag_in o tokens ≡ Some k → (m : Node) × (slice_get nodes p ≡ Some m)
    by None at e = absurd cc
    by (Some m) at e = (m, at)

-- and one with that of a content is one
with_kind : (k : Kind) (o : Option ℕ) (token : ℕ) → with_content k o ≡ Some token → (k ≡ kind.StructContent) ⊎ (k ≡ kind.EnumContent)
with_kind kind.StructContent o token e = inl refl
with_kind kind.EnumContent o token e = inr refl
with_kind k o token e = let never : None ≡ Some token = e in absurd cc

record IsContentNode (nodes : List Node) (p : ℕ) : Type 0 where
  node : Node
  at : slice_get nodes p ≡ Some node
  given : (node.kind ≡ kind.StructContent) ⊎ (node.kind ≡ kind.EnumContent)

content_there : (nodes : List Node) (tokens : List Token) (p token : ℕ) → content_at nodes tokens p ≡ Some token → IsContentNode nodes p
content_there nodes tokens p token e = by (slice_get nodes p) refl e
  where
    by : (o : Option Node) → slice_get nodes p ≡ o → content_if o tokens ≡ Some token → IsContentNode nodes p
    by None at e = absurd cc
    by (Some m) at e = record { node = m; at = at; given = with_kind m.kind (tag_by m.kind tokens m.first) token e }

entity_there : (names : Names) (nodes : List Node) (tokens : List Token) (p k : ℕ) → content_entity names nodes tokens p ≡ Some k → IsContentNode nodes p
entity_there names nodes tokens p k e = by (content_at nodes tokens p) refl e
  where
    by : (o : Option ℕ) → content_at nodes tokens p ≡ o → entity_if names o ≡ Some k → IsContentNode nodes p
    by None q e = absurd cc
    by (Some token) q e = content_there nodes tokens p token q

-- what a tag that is there was made of
record IsMade (b : Bindings) (names : Names) (tag : Tag) : Type 0 where
  token : ℕ
  first : (tag_for b names token).first ≡ Some tag.first
  content : tag.content ≡ (tag_for b names token).content

made : (b : Bindings) (names : Names) (nodes : List Node) (tokens : List Token) (i : ℕ) (tag : Tag) → tag_of b names nodes tokens i ≡ Some tag → IsMade b names tag
made b names nodes tokens i tag e = by (tag_at nodes tokens i) e
  where
    with_first : (token : ℕ) (f : Option ℕ) → (tag_for b names token).first ≡ f → tag_with token (tag_for b names token) f ≡ Some tag → IsMade b names tag
    with_first token None q e = absurd cc
    with_first token (Some first) q e =
        let same : record { token = token; first = first; content = (tag_for b names token).content; declares = (tag_for b names token).declares } ≡ tag = cc in
        record {
          token = token;
          first = q ∙ ap (λ (x : Tag). Some x.first) same;
          content = sym (ap (λ (x : Tag). x.content) same);
        }

    by : (o : Option ℕ) → tag_if b names o ≡ Some tag → IsMade b names tag
    by None e = absurd cc
    by (Some token) e = with_first token (tag_for b names token).first refl e

module _ (file : List ℕ) (unit : source.Unit) (names : Names) (s : Surroundings) (u : Tree) (are : AreSurroundings file unit names s) (tree : IsTree file unit s u) where
  abbrev tokens : List Token
  tokens = unit.tokens.list.items

  moved : (p : ℕ) (m : Node) → slice_get unit.nodes p ≡ Some m → slice_get u.nodes.now p ≡ Some m
  moved p m at = ap (λ ns. slice_get ns p) tree.nodes ∙ at

  pub few : (i : ℕ) (n : Node) → slice_get u.nodes.now i ≡ Some n → i < length unit.nodes
  few i n at = let low = slice_get_within u.nodes.now i n at in let count : length u.nodes.now ≡ length unit.nodes = ap length tree.nodes in omega (arith, low, count)

  content_is : (tag : Tag) → IsMade s.bindings names tag → (c : ℕ) → tag.content ≡ Some c → IsContent u c
  content_is tag h c e =
      let key = has_key (content_entity names unit.nodes tokens) (length unit.nodes) (length names.entities) s.bindings.contents are.bindings.contents (entity_at names h.token) c (sym h.content ∙ e) in
      let x = entity_there names unit.nodes tokens c key.0 key.1 in
      record { node = x.node; at = moved c x.node x.at; given = x.given }

  pub tagged : (i : ℕ) (n : Node) → slice_get u.nodes.now i ≡ Some n → is_some (slice_index_or u.tags.now i None) ≡ true → IsTagged u i
  tagged i n at there = by (slice_index_or u.tags.now i None) refl there
    where
      by : (o : Option Tag) → slice_index_or u.tags.now i None ≡ o → is_some o ≡ true → IsTagged u i
      by None e h = absurd (false≢true h)
      by (Some tag) e h =
          let own = made s.bindings names unit.nodes tokens i tag (sym (ap (λ ts. slice_index_or ts i None) tree.tags ∙ are.tags.each i (few i n at)) ∙ e) in
          let key = has_key (tag_at unit.nodes tokens) (length unit.nodes) (length tokens) s.bindings.specifiers are.bindings.specifiers (first_of names (entity_at names own.token)) tag.first own.first in
          let x = tag_there unit.nodes tokens tag.first key.0 key.1 in
          record { tag = tag; is = e; first = x.0.kind; declares = ap kind_if (moved tag.first x.0 x.1); content = content_is tag own }
