-- The first node of a unit declares nothing: it is the first word of the first external declaration, or what that word begins with.
use Rattle.std.proofs.Common.{◌≡◌, ℕ, ◌+◌, ◌≤◌, Bool, true, false, ◌&&◌, not, List, [], ◌∷◌, Some, length, slice_get, refl, sym, subst, ap, ◌∙◌, ◌⊎◌, inl, inr, arith}
use Rattle.std.proofs.lemmas.Bool.{and_parts, false≢true, cases_eq}
use Rattle.cr_syntax.specs.declared.node.Kind.{Kind}
use Rattle.cr_syntax.specs.declared.node.Kind.TheVariants as kind
use Rattle.cr_syntax.specs.declared.node.Node.{Node}
use Rattle.cr_syntax.specs.declared.part.Part.{Part}
use Rattle.cr_syntax.specs.declared.part.Part.TheVariants as part
use Rattle.cr_syntax.specs.declared.word.Word.{Word}
use Rattle.cr_syntax.specs.declared.word.Word.TheVariants as word
use Rattle.cr_syntax.specs.Words.{Lexeme}
use Rattle.cr_syntax.specs.Tables.{rule_of, side_of}
use Rattle.cr_syntax.specs.Kept.{row_in}
use Rattle.cr_syntax.specs.Trees.{Trees, none, node as tree_node}
use Rattle.cr_syntax.specs.Symbols as symbol
use Rattle.cr_syntax.specs.Grammar.{Side}
use Rattle.cr_syntax.specs.Units.{unit_side}
use Rattle.cr_syntax.proofs.Arena.{row_at}
use Rattle.cr_syntax_order.specs.Listed.{AreListed, no_node, one_more}
use Rattle.cr_syntax_nodes.specs.Nodes.{least}
use Rattle.cr_syntax_nodes.specs.Laid.{stands_for, IsLaid, IsClause}
use Rattle.cr_syntax_nodes.proofs.Laid.{laid}
use Rattle.cr_typed.specs.declared.typed.Typed.{Typed}
use Rattle.cr_meaning_declarations.specs.Units.Owned.{AreOfUnit, is_owner}
use Rattle.cr_meaning_declarations.proofs.UnitsLemmas.Handing.{laid_at, counted_at, against}

-- ---- kinds of declarators, and parts for which none of them stands

abbrev is_declarator : Kind → Bool
is_declarator kind.InitDeclarator = true
is_declarator kind.NameDeclarator = true
is_declarator kind.PointerDeclarator = true
is_declarator kind.GroupDeclarator = true
is_declarator kind.ArrayDeclarator = true
is_declarator kind.FunctionDeclarator = true
is_declarator other = false

abbrev clear_of : List Kind → Part → Bool
clear_of [] p = true
clear_of (k ∷ ks) p = not (stands_for p k) && clear_of ks p

abbrev declarators : List Kind
declarators = kind.InitDeclarator ∷ kind.NameDeclarator ∷ kind.PointerDeclarator ∷ kind.GroupDeclarator ∷ kind.ArrayDeclarator ∷ kind.FunctionDeclarator ∷ []

abbrev clear : Part → Bool
clear p = clear_of declarators p

clears : (p : Part) (k : Kind) → clear p ≡ true → stands_for p k ≡ true → is_declarator k ≡ false
clears p k c s =
    let one = and_parts (not (stands_for p kind.InitDeclarator)) _ c in
    let two = and_parts (not (stands_for p kind.NameDeclarator)) _ one.1 in
    let three = and_parts (not (stands_for p kind.PointerDeclarator)) _ two.1 in
    let four = and_parts (not (stands_for p kind.GroupDeclarator)) _ three.1 in
    let five = and_parts (not (stands_for p kind.ArrayDeclarator)) _ four.1 in
    let six = and_parts (not (stands_for p kind.FunctionDeclarator)) true five.1 in
    by k one.0 two.0 three.0 four.0 five.0 six.0 s
  where
    by : (k : Kind) → not (stands_for p kind.InitDeclarator) ≡ true → not (stands_for p kind.NameDeclarator) ≡ true → not (stands_for p kind.PointerDeclarator) ≡ true
        → not (stands_for p kind.GroupDeclarator) ≡ true → not (stands_for p kind.ArrayDeclarator) ≡ true → not (stands_for p kind.FunctionDeclarator) ≡ true → stands_for p k ≡ true
        → is_declarator k ≡ false
    by kind.InitDeclarator a b d e f g s = against (stands_for p kind.InitDeclarator) a s
    by kind.NameDeclarator a b d e f g s = against (stands_for p kind.NameDeclarator) b s
    by kind.PointerDeclarator a b d e f g s = against (stands_for p kind.PointerDeclarator) d s
    by kind.GroupDeclarator a b d e f g s = against (stands_for p kind.GroupDeclarator) e s
    by kind.ArrayDeclarator a b d e f g s = against (stands_for p kind.ArrayDeclarator) f s
    by kind.FunctionDeclarator a b d e f g s = against (stands_for p kind.FunctionDeclarator) g s
    by k a b d e f g s = refl

-- ---- the first part of a right side

abbrev begins_clear : Side → Bool
begins_clear [] = true
begins_clear (symbol.Token l w ∷ s) = begins_clear s
begins_clear (symbol.Opens l w ∷ s) = begins_clear s
begins_clear (symbol.Reopens w ∷ s) = begins_clear s
begins_clear (symbol.Part l p ∷ s) = clear p
begins_clear (symbol.Optional l p ∷ s) = clear p
begins_clear (symbol.Many l p ∷ s) = clear p
begins_clear (symbol.List l p ∷ s) = clear p
begins_clear (symbol.OptionalList l p ∷ s) = clear p
begins_clear (symbol.Tag ∷ s) = begins_clear s
begins_clear (symbol.TrailingComma ∷ s) = begins_clear s
begins_clear (symbol.Qualified p ∷ s) = clear p
begins_clear (symbol.OptionalQualified p ∷ s) = clear p
begins_clear (symbol.Ordinary ∷ s) = begins_clear s
begins_clear (symbol.TypeIdentifier ∷ s) = begins_clear s
begins_clear (symbol.Declared ∷ s) = begins_clear s
begins_clear (symbol.Enumerates ∷ s) = begins_clear s
begins_clear (symbol.Value ∷ s) = clear part.Conditional
begins_clear (symbol.Enters ∷ s) = begins_clear s
begins_clear (symbol.Begins ∷ s) = begins_clear s
begins_clear (symbol.Ends ∷ s) = begins_clear s
begins_clear (symbol.Prototype ∷ s) = clear part.Parameters
begins_clear (symbol.Size ∷ s) = clear part.Conditional
begins_clear (symbol.Texts ∷ s) = true
begins_clear (symbol.Init ∷ s) = clear part.Declaration && (clear part.Expression && begins_clear s)
begins_clear (symbol.Clause ∷ s) = clear part.Expression && begins_clear s
begins_clear (symbol.Step ∷ s) = clear part.Expression && begins_clear s
begins_clear (symbol.Else ∷ s) = clear part.Statement

module _ (ts : List Lexeme) (k : Kind) (a b : ℕ) (t : Trees) where
  clause_first : (w : Word) (more : Trees → ℕ → Type 0) (u : Trees) (i : ℕ) → clear part.Expression ≡ true → (more (tree_node k a b t u) (i + 1) → is_declarator k ≡ false)
      → IsClause ts w more (tree_node k a b t u) i → is_declarator k ≡ false
  clause_first w more u i c f h = elim (cases_eq a i) [
    | inl e ↦ clears part.Expression k c (h.0 e).0
    | inr other ↦ f (h.1 other).1
  ]

  first_laid : (s : Side) (u : Trees) (i j : ℕ) → begins_clear s ≡ true → IsLaid ts s (tree_node k a b t u) i j → is_declarator k ≡ false
  first_laid [] u i j c h = absurd h
  first_laid (symbol.Token l w ∷ s) u i j c h = first_laid s u (i + 1) j c h.1
  first_laid (symbol.Opens l w ∷ s) u i j c h = first_laid s u (i + 1) j c h.1
  first_laid (symbol.Reopens w ∷ s) u i j c h = first_laid s u (i + 1) j c h.1
  first_laid (symbol.Part l p ∷ s) u i j c h = clears p k c h.0.0
  first_laid (symbol.Optional l p ∷ s) u i j c h = clears p k c h.0.0
  first_laid (symbol.Many l p ∷ s) u i j c h = clears p k c h.0.0.0
  first_laid (symbol.List l p ∷ s) none i j c h = clears p k c h.0.0
  first_laid (symbol.List l p ∷ s) (tree_node k' a' b' t' u) i j c h = clears p k c h.0.0.0
  first_laid (symbol.OptionalList l p ∷ s) none i j c h = clears p k c h.0.0
  first_laid (symbol.OptionalList l p ∷ s) (tree_node k' a' b' t' u) i j c h = clears p k c h.0.0.0
  first_laid (symbol.Tag ∷ s) u i j c h = elim h [ inl x ↦ first_laid s u (i + 1) j c x.1 | inr x ↦ first_laid s u (i + 1 + 1) j c x.1.1 ]
  first_laid (symbol.TrailingComma ∷ s) u i j c h = elim h [ inl x ↦ first_laid s u (i + 1) j c x.1 | inr x ↦ first_laid s u (i + 1 + 1) j c x.1.1 ]
  first_laid (symbol.Qualified p ∷ s) u i j c h = clears p k c h.1.0
  first_laid (symbol.OptionalQualified p ∷ s) u i j c h = clears p k c h.1.0
  first_laid (symbol.Ordinary ∷ s) u i j c h = first_laid s u (i + 1) j c h.1
  first_laid (symbol.TypeIdentifier ∷ s) u i j c h = first_laid s u (i + 1) j c h.1
  first_laid (symbol.Declared ∷ s) u i j c h = first_laid s u (i + 1) j c h.1
  first_laid (symbol.Enumerates ∷ s) u i j c h = first_laid s u (i + 1) j c h.1
  first_laid (symbol.Value ∷ s) u i j c h = clears part.Conditional k c h.1.0.0
  first_laid (symbol.Enters ∷ s) u i j c h = first_laid s u i j c h
  first_laid (symbol.Begins ∷ s) u i j c h = first_laid s u i j c h
  first_laid (symbol.Ends ∷ s) u i j c h = first_laid s u i j c h
  first_laid (symbol.Prototype ∷ s) u i j c h = clears part.Parameters k c h.0.0
  first_laid (symbol.Size ∷ s) u i j c h = clears part.Conditional k c h.0.0
  first_laid (symbol.Texts ∷ s) u i j c h = absurd h
  first_laid (symbol.Init ∷ s) u i j c h =
      let both = and_parts (clear part.Declaration) (clear part.Expression && begins_clear s) c in
      let rest = and_parts (clear part.Expression) (begins_clear s) both.1 in
      elim (cases_eq a i) [
        | inl e ↦ elim (h.0 e) [ inl x ↦ clears part.Declaration k both.0 x.0 | inr x ↦ clears part.Expression k rest.0 x.0 ]
        | inr other ↦ first_laid s u (i + 1) j rest.1 (h.1 other).1
      ]
  first_laid (symbol.Clause ∷ s) u i j c h =
      let both = and_parts (clear part.Expression) (begins_clear s) c in
      clause_first word.Semicolon (λ v m. IsLaid ts s v m j) u i both.0 (λ x. first_laid s u (i + 1) j both.1 x) h
  first_laid (symbol.Step ∷ s) u i j c h =
      let both = and_parts (clear part.Expression) (begins_clear s) c in
      clause_first word.RightParen (λ v m. IsLaid ts s v m j) u i both.0 (λ x. first_laid s u (i + 1) j both.1 x) h
  first_laid (symbol.Else ∷ s) u i j c h = clears part.Statement k c h.1.0.0

-- but for a declarator no node begins with one
sides_begin : (k : Kind) → is_declarator k ≡ false → begins_clear (side_of k) ≡ true
unfolding rule_of
sides_begin kind.InitDeclarator h = absurd (false≢true (sym h))
sides_begin kind.NameDeclarator h = absurd (false≢true (sym h))
sides_begin kind.PointerDeclarator h = absurd (false≢true (sym h))
sides_begin kind.GroupDeclarator h = absurd (false≢true (sym h))
sides_begin kind.ArrayDeclarator h = absurd (false≢true (sym h))
sides_begin kind.FunctionDeclarator h = absurd (false≢true (sym h))
sides_begin k h = refl

owner_free : (k : Kind) → is_declarator k ≡ false → (k ≡ kind.Declaration → ⊥) → is_owner k ≡ false
owner_free kind.Declaration f g = absurd (g refl)
owner_free kind.InitDeclarator f g = f
owner_free kind.NameDeclarator f g = f
owner_free kind.PointerDeclarator f g = f
owner_free kind.GroupDeclarator f g = f
owner_free kind.ArrayDeclarator f g = f
owner_free k f g = refl

-- ---- of a unit

module _ (t : Typed) (unit : AreOfUnit t) where
  first_part : (p : ℕ) (n : Node) → slice_get t.nodes p ≡ Some n → is_declarator n.kind ≡ false → (q : ℕ) (rest : List ℕ) → n.parts ≡ q ∷ rest → (m : Node) → slice_get t.nodes q ≡ Some m
      → is_declarator m.kind ≡ false
  first_part p n at free q rest e m there =
      let row = ap (row_in t.nodes) e ∙ row_at t.nodes unit.below q m rest there in
      first_laid unit.tokens m.kind m.first (m.last + 1) (row_in t.nodes m.parts) (side_of n.kind) (row_in t.nodes rest) n.first (n.last + 1) (sides_begin n.kind free)
      (subst (λ u. IsLaid unit.tokens (side_of n.kind) u n.first (n.last + 1)) row (laid_at t unit p n at))

  -- the first of the nodes that are listed, where the first of their row is no declarator
  record IsLeaf (from : ℕ) : Type 0 where
    own : Node
    at : slice_get t.nodes from ≡ Some own
    alone : own.parts ≡ []
    free : is_declarator own.kind ≡ false

  leaf : {ps : List ℕ} {from end : ℕ} → AreListed t.nodes from ps end → ((p : ℕ) (rest : List ℕ) → ps ≡ p ∷ rest → (m : Node) → slice_get t.nodes p ≡ Some m → is_declarator m.kind ≡ false)
      → ((from ≡ end) × (ps ≡ [])) ⊎ IsLeaf from
  leaf no_node f = inl (refl, refl)
  leaf {from = from} (one_more {p = p} {ps = ps} {n = n} at below rest) f =
      elim (leaf below (λ q more e m there. first_part p n at (f p ps refl n at) q more e m there)) [
        | inl both ↦ inr (record { own = n; at = ap (slice_get t.nodes) both.0 ∙ at; alone = both.1; free = f p ps refl n at })
        | inr found ↦ inr found
      ]

  -- an external declaration is no declarator
  external : (items : List ℕ) (j p : ℕ) (rest : List ℕ) → IsLaid unit.tokens unit_side (row_in t.nodes items) 0 j → items ≡ p ∷ rest → (m : Node) → slice_get t.nodes p ≡ Some m → is_declarator m.kind ≡ false
  unfolding rule_of
  external items j p rest h e m at =
      let row = ap (row_in t.nodes) e ∙ row_at t.nodes unit.below p m rest at in
      let x = subst (λ u. IsLaid unit.tokens unit_side u 0 j) row h in
      clears part.External m.kind refl x.0.0

  some_item : (items : List ℕ) (j : ℕ) → IsLaid unit.tokens unit_side (row_in t.nodes items) 0 j → items ≡ [] → ⊥
  some_item items j h e = subst (λ l. IsLaid unit.tokens unit_side (row_in t.nodes l) 0 j) e h

  no_declaration : (n : Node) → slice_get t.nodes 0 ≡ Some n → n.parts ≡ [] → n.kind ≡ kind.Declaration → ⊥
  unfolding rule_of
  no_declaration n at alone is =
      let few : least (side_of n.kind) ≤ length n.parts = counted_at t unit 0 n at in
      let one : 1 ≤ length n.parts = subst (λ (k : Kind). least (side_of k) ≤ length n.parts) is few in
      let none = ap (λ (l : List ℕ). length l) alone in
      absurd (omega (arith, one, none))

  pub first_leaf : AreListed t.nodes 0 t.items (length t.nodes) → (n : Node) × ((slice_get t.nodes 0 ≡ Some n) × ((n.parts ≡ []) × (is_owner n.kind ≡ false)))
  first_leaf listed =
      let h = laid unit.is_unit.spells in
      elim (leaf listed (λ p rest e m at. external t.items (length unit.tokens) p rest h e m at)) [
        | inl both ↦ absurd (some_item t.items (length unit.tokens) h both.1)
        | inr found ↦ (found.own, (found.at, (found.alone, owner_free found.own.kind found.free (no_declaration found.own found.at found.alone))))
      ]
