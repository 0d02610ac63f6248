-- Of which kinds the parts of a node aren't, by the right side of its own kind.
use Rattle.std.proofs.Common.{◌≡◌, ℕ, zero, suc, ◌+◌, Bool, true, false, ◌&&◌, List, [], ◌∷◌, Some, length, slice_get, subst, ◌⊎◌, inl, inr}
use Rattle.std.proofs.lemmas.Bool.{cases_eq, and_parts, false≢true}
use Rattle.cr_syntax.specs.declared.word.Word.{Word}
use Rattle.cr_syntax.specs.declared.word.Word.TheVariants as word
use Rattle.cr_syntax.specs.declared.node.Kind.{Kind}
use Rattle.cr_syntax.specs.declared.node.Node.{Node}
use Rattle.cr_syntax.specs.declared.part.Part.{Part}
use Rattle.cr_syntax.specs.declared.part.Part.TheVariants as part
use Rattle.cr_syntax.specs.Words.{Lexeme}
use Rattle.cr_syntax.specs.Trees.{Trees, none, node}
use Rattle.cr_syntax.specs.Symbols as symbol
use Rattle.cr_syntax.specs.Grammar.{Side}
use Rattle.cr_syntax.specs.Kept.{AreBelow, PartsAreBelow, row_in}
use Rattle.cr_syntax.proofs.Arena.{below_first, below_rest, row_at}
use Rattle.cr_syntax.specs.Spells.{Is}
use Rattle.cr_syntax_nodes.specs.Laid.{stands_for, AreInRow, AreInList, IsClause, IsFirstClause, IsLaid}
use Rattle.cr_syntax_nodes.proofs.Numbers.{some_at}

-- kinds that don't pass a test, and parts for which no kind stands that does
module _ (test : Kind → Bool) (clear : Part → Bool) (clears : (p : Part) (k : Kind) → clear p ≡ true → stands_for p k ≡ true → test k ≡ false) where
  abbrev pub clear_side : Side → Bool
  clear_side [] = true
  clear_side (symbol.Part l p ∷ s) = clear p && clear_side s
  clear_side (symbol.Optional l p ∷ s) = clear p && clear_side s
  clear_side (symbol.Many l p ∷ s) = clear p && clear_side s
  clear_side (symbol.List l p ∷ s) = clear p && clear_side s
  clear_side (symbol.OptionalList l p ∷ s) = clear p && clear_side s
  clear_side (symbol.Qualified p ∷ s) = clear p && clear_side s
  clear_side (symbol.OptionalQualified p ∷ s) = clear p && clear_side s
  clear_side (symbol.Value ∷ s) = clear part.Conditional && clear_side s
  clear_side (symbol.Prototype ∷ s) = clear part.Parameters && clear_side s
  clear_side (symbol.Size ∷ s) = clear part.Conditional && clear_side s
  clear_side (symbol.Init ∷ s) = false
  clear_side (symbol.Clause ∷ s) = clear part.Expression && clear_side s
  clear_side (symbol.Step ∷ s) = clear part.Expression && clear_side s
  clear_side (symbol.Else ∷ s) = clear part.Statement && clear_side s
  clear_side (x ∷ s) = clear_side s

  abbrev pub AreClear : Trees → Type 0
  AreClear none = Unit {0}
  AreClear (node k a b t u) = (test k ≡ false) × AreClear u

  clear_row : (p : Part) (t : Trees) (i : ℕ) → clear p ≡ true → AreInRow p t i → AreClear t
  clear_row p none i c h = tt
  clear_row p (node k a b t u) i c h = (clears p k c h.0.0, clear_row p u b c h.1)

  clear_list : (ts : List Lexeme) (p : Part) (t : Trees) (i : ℕ) → clear p ≡ true → AreInList ts p t i → AreClear t
  clear_list ts p none i c h = absurd h
  clear_list ts p (node k a b t none) i c h = (clears p k c h.0, tt)
  clear_list ts p (node k a b t (node l m n u v)) i c h = (clears p k c h.0.0, clear_list ts p (node l m n u v) (b + 1) c h.1.1)

  clear_clause : (ts : List Lexeme) (w : Word) (more : Trees → ℕ → Type 0) (t : Trees) (i : ℕ) → clear part.Expression ≡ true → ((u : Trees) (m : ℕ) → more u m → AreClear u) → IsClause ts w more t i → AreClear t
  clear_clause ts w more none i c f h = tt
  clear_clause ts w more (node k a b t u) i c f h = by (cases_eq a i)
    where
      by : (a ≡ i) ⊎ (a ≡ i → ⊥) → AreClear (node k a b t u)
      by (inl e) = let x = h.0 e in (clears part.Expression k c x.0, f u (b + 1) x.1.1)
      by (inr other) = f (node k a b t u) (i + 1) (h.1 other).1

  pub clear_laid : (ts : List Lexeme) (s : Side) (t : Trees) (i j : ℕ) → clear_side s ≡ true → IsLaid ts s t i j → AreClear t
  clear_laid ts s none i j c h = tt
  clear_laid ts [] (node k a b t u) i j c h = absurd h
  clear_laid ts (symbol.Token l w ∷ s) (node k a b t u) i j c h = clear_laid ts s (node k a b t u) (i + 1) j c h.1
  clear_laid ts (symbol.Opens l w ∷ s) (node k a b t u) i j c h = clear_laid ts s (node k a b t u) (i + 1) j c h.1
  clear_laid ts (symbol.Reopens w ∷ s) (node k a b t u) i j c h = clear_laid ts s (node k a b t u) (i + 1) j c h.1
  clear_laid ts (symbol.Part l p ∷ s) (node k a b t u) i j c h = let x = and_parts (clear p) (clear_side s) c in (clears p k x.0 h.0.0, clear_laid ts s u b j x.1 h.1)
  clear_laid ts (symbol.Optional l p ∷ s) (node k a b t u) i j c h = let x = and_parts (clear p) (clear_side s) c in (clears p k x.0 h.0.0, clear_laid ts s u b j x.1 h.1)
  clear_laid ts (symbol.Many l p ∷ s) (node k a b t u) i j c h = let x = and_parts (clear p) (clear_side s) c in clear_row p (node k a b t u) i x.0 h.0
  clear_laid ts (symbol.List l p ∷ s) (node k a b t u) i j c h = let x = and_parts (clear p) (clear_side s) c in clear_list ts p (node k a b t u) i x.0 h.0
  clear_laid ts (symbol.OptionalList l p ∷ s) (node k a b t u) i j c h = let x = and_parts (clear p) (clear_side s) c in clear_list ts p (node k a b t u) i x.0 h.0
  clear_laid ts (symbol.Tag ∷ s) (node k a b t u) i j c (inl h) = clear_laid ts s (node k a b t u) (i + 1) j c h.1
  clear_laid ts (symbol.Tag ∷ s) (node k a b t u) i j c (inr h) = clear_laid ts s (node k a b t u) (i + 1 + 1) j c h.1.1
  clear_laid ts (symbol.TrailingComma ∷ s) (node k a b t u) i j c (inl h) = clear_laid ts s (node k a b t u) (i + 1) j c h.1
  clear_laid ts (symbol.TrailingComma ∷ s) (node k a b t u) i j c (inr h) = clear_laid ts s (node k a b t u) (i + 1 + 1) j c h.1.1
  clear_laid ts (symbol.Qualified p ∷ s) (node k a b t u) i j c h = let x = and_parts (clear p) (clear_side s) c in (clears p k x.0 h.1.0, clear_laid ts s u b j x.1 h.1.1)
  clear_laid ts (symbol.OptionalQualified p ∷ s) (node k a b t u) i j c h = let x = and_parts (clear p) (clear_side s) c in (clears p k x.0 h.1.0, clear_laid ts s u b j x.1 h.1.1)
  clear_laid ts (symbol.Ordinary ∷ s) (node k a b t u) i j c h = clear_laid ts s (node k a b t u) (i + 1) j c h.1
  clear_laid ts (symbol.TypeIdentifier ∷ s) (node k a b t u) i j c h = clear_laid ts s (node k a b t u) (i + 1) j c h.1
  clear_laid ts (symbol.Declared ∷ s) (node k a b t u) i j c h = clear_laid ts s (node k a b t u) (i + 1) j c h.1
  clear_laid ts (symbol.Enumerates ∷ s) (node k a b t u) i j c h = clear_laid ts s (node k a b t u) (i + 1) j c h.1
  clear_laid ts (symbol.Value ∷ s) (node k a b t u) i j c h = let x = and_parts (clear part.Conditional) (clear_side s) c in (clears part.Conditional k x.0 h.1.0.0, clear_laid ts s u b j x.1 h.1.1)
  clear_laid ts (symbol.Enters ∷ s) (node k a b t u) i j c h = clear_laid ts s (node k a b t u) i j c h
  clear_laid ts (symbol.Begins ∷ s) (node k a b t u) i j c h = clear_laid ts s (node k a b t u) i j c h
  clear_laid ts (symbol.Ends ∷ s) (node k a b t u) i j c h = clear_laid ts s (node k a b t u) i j c h
  clear_laid ts (symbol.Prototype ∷ s) (node k a b t u) i j c h = let x = and_parts (clear part.Parameters) (clear_side s) c in (clears part.Parameters k x.0 h.0.0, clear_laid ts s u b j x.1 h.1)
  clear_laid ts (symbol.Size ∷ s) (node k a b t u) i j c h = let x = and_parts (clear part.Conditional) (clear_side s) c in (clears part.Conditional k x.0 h.0.0, clear_laid ts s u b j x.1 h.1)
  clear_laid ts (symbol.Texts ∷ s) (node k a b t u) i j c h = absurd h
  clear_laid ts (symbol.Init ∷ s) (node k a b t u) i j c h = absurd (false≢true c)
  clear_laid ts (symbol.Clause ∷ s) (node k a b t u) i j c h = let x = and_parts (clear part.Expression) (clear_side s) c in
      clear_clause ts word.Semicolon (λ v m. IsLaid ts s v m j) (node k a b t u) i x.0 (λ v m y. clear_laid ts s v m j x.1 y) h
  clear_laid ts (symbol.Step ∷ s) (node k a b t u) i j c h = let x = and_parts (clear part.Expression) (clear_side s) c in
      clear_clause ts word.RightParen (λ v m. IsLaid ts s v m j) (node k a b t u) i x.0 (λ v m y. clear_laid ts s v m j x.1 y) h
  clear_laid ts (symbol.Else ∷ s) (node k a b t u) i j c h = let x = and_parts (clear part.Statement) (clear_side s) c in (clears part.Statement k x.0 h.1.0.0, clear_laid ts s u b j x.1 h.1.1)

  -- the parts of a `for`: none passes the test, or the first alone, a declaration at this token, behind which the others stand (6.8.5.3)
  abbrev pub IsLoopRow : (Trees → ℕ → Type 0) → ℕ → Trees → Type 0
  IsLoopRow more i none = Unit {0}
  IsLoopRow more i (node k a b t u) = AreClear (node k a b t u) ⊎ (((stands_for part.Declaration k ≡ true) × (a ≡ i)) × (AreClear u × more u b))

  pub clear_first : (ts : List Lexeme) (s : Side) (t : Trees) (i j : ℕ) → clear_side s ≡ true → clear part.Expression ≡ true → IsFirstClause ts (λ u m. IsLaid ts s u m j) t i → IsLoopRow (λ u m. IsLaid ts s u m j) i t
  clear_first ts s none i j c x h = tt
  clear_first ts s (node k a b t u) i j c x h = by (cases_eq a i)
    where
      there : (a ≡ i) → ((stands_for part.Declaration k ≡ true) × IsLaid ts s u b j) ⊎ ((stands_for part.Expression k ≡ true) × (Is ts b word.Semicolon × IsLaid ts s u (b + 1) j)) → IsLoopRow (λ v m. IsLaid ts s v m j) i (node k a b t u)
      there e (inl y) = inr ((y.0, e), (clear_laid ts s u b j c y.1, y.1))
      there e (inr y) = inl (clears part.Expression k x y.0, clear_laid ts s u (b + 1) j c y.1.1)

      by : (a ≡ i) ⊎ (a ≡ i → ⊥) → IsLoopRow (λ v m. IsLaid ts s v m j) i (node k a b t u)
      by (inl e) = there e (h.0 e)
      by (inr other) = inl (clear_laid ts s (node k a b t u) (i + 1) j c (h.1 other).1)

  -- the same by the numbers of nodes
  module _ (nodes : List Node) (f : PartsAreBelow nodes) where
    pub clear_at : (ps : List ℕ) → AreBelow ps (length nodes) → AreClear (row_in nodes ps) → (k p : ℕ) → slice_get ps k ≡ Some p → (n : Node) × ((slice_get nodes p ≡ Some n) × (test n.kind ≡ false))
    clear_at [] b c k p e = absurd (cc e)
    clear_at (q ∷ ps) b c k p e = by k e (λ i x. clear_at ps (below_rest q ps (length nodes) b) both.1 i p x)
      where
        m : (n : Node) × (slice_get nodes q ≡ Some n)
        m = some_at nodes q (below_first q ps (length nodes) b)

        both : (test m.0.kind ≡ false) × AreClear (row_in nodes ps)
        both = subst (λ t. AreClear t) (row_at nodes f q m.0 ps m.1) c

        by : (k : ℕ) → slice_get (q ∷ ps) k ≡ Some p → ((i : ℕ) → slice_get ps i ≡ Some p → (n : Node) × ((slice_get nodes p ≡ Some n) × (test n.kind ≡ false)))
            → (n : Node) × ((slice_get nodes p ≡ Some n) × (test n.kind ≡ false))
        by zero e rest = let same : q ≡ p = cc in let F : ℕ → Type 0 = λ x. (n : Node) × ((slice_get nodes x ≡ Some n) × (test n.kind ≡ false)) in subst F same (m.0, (m.1, both.0))
        by (suc k) e rest = rest k e
