-- The tokens of its own that a right side has, and the tokens of its parts.
use Rattle.std.proofs.Common.{◌≡◌, ℕ, ◌+◌, ◌-◌, ◌≤◌, true, List, [], ◌∷◌, inl, inr, arith}
use Rattle.std.proofs.lemmas.Bool.{cases_eq}
use Rattle.cr_syntax.specs.declared.word.Word.{Word}
use Rattle.cr_syntax.specs.declared.word.Word.TheVariants as word
use Rattle.cr_syntax.specs.declared.part.Part.{Part}
use Rattle.cr_syntax.specs.Words.{Lexeme}
use Rattle.cr_syntax.specs.Trees.{Trees, none, node}
use Rattle.cr_syntax.specs.Symbols as symbol
use Rattle.cr_syntax.specs.Grammar.{Side}
use Rattle.cr_syntax_nodes.specs.Nodes.{Rises, no_more, one_more, count}
use Rattle.cr_syntax_nodes.specs.Laid.{AreInList, AreInRow, IsClause, IsFirstClause, IsLaid, behind, stands_for}

-- how many tokens a right side has at the least that none of its parts has
abbrev pub own : Side → ℕ
own [] = 0
own (symbol.Token l w ∷ s) = own s + 1
own (symbol.Opens l w ∷ s) = own s + 1
own (symbol.Reopens w ∷ s) = own s + 1
own (symbol.Tag ∷ s) = own s + 1
own (symbol.TrailingComma ∷ s) = own s + 1
own (symbol.OptionalQualified p ∷ s) = 0
own (symbol.Ordinary ∷ s) = own s + 1
own (symbol.TypeIdentifier ∷ s) = own s + 1
own (symbol.Declared ∷ s) = own s + 1
own (symbol.Enumerates ∷ s) = own s + 1
own (symbol.Texts ∷ s) = 1
own (symbol.Clause ∷ s) = own s + 1
own (symbol.Step ∷ s) = own s + 1
own (x ∷ s) = own s

-- how many tokens the trees of a row have
abbrev pub width : Trees → ℕ
width none = 0
width (node k a b t u) = (b - a) + width u

pub within : {i j : ℕ} {t : Trees} → Rises i j t → i + width t ≤ j
within (no_more le) = omega (arith, le)
within (one_more le le' r) = let rest = within r in omega (arith, le, le', rest)

-- each tree of a row stands for a part
abbrev pub AllStand : Part → Trees → Type 0
AllStand p none = Unit {0}
AllStand p (node k a b t u) = (stands_for p k ≡ true) × AllStand p u

pub row_stands : (p : Part) (t : Trees) (i : ℕ) → AreInRow p t i → AllStand p t
row_stands p none i h = tt
row_stands p (node k a b t u) i h = (h.0.0, row_stands p u b h.1)

pub list_stands : (ts : List Lexeme) (p : Part) (t : Trees) (i : ℕ) → AreInList ts p t i → AllStand p t
list_stands ts p none i h = tt
list_stands ts p (node k a b t none) i h = (h.0, tt)
list_stands ts p (node k a b t (node l c d u v)) i h = (h.0.0, list_stands ts p (node l c d u v) (b + 1) h.1.1)

row_wide : {x y : ℕ} (p : Part) (t : Trees) (i : ℕ) → Rises x y t → AreInRow p t i → i + width t ≤ behind i t
row_wide p none i r h = omega arith
row_wide p (node k a b t u) i (one_more le le' r) h = let rest = row_wide p u b r h.1 in let at = h.0.1 in omega (arith, le', rest, at)

-- a comma stands between each two
pub list_wide : {x y : ℕ} (ts : List Lexeme) (p : Part) (t : Trees) (i : ℕ) → Rises x y t → AreInList ts p t i → i + width t + count t ≤ behind i t + 1
list_wide ts p none i r h = absurd h
list_wide ts p (node k a b t none) i (one_more le le' r) h = let at = h.1 in omega (arith, le', at)
list_wide ts p (node k a b t (node l c d u v)) i (one_more le le' r) h =
    let rest = list_wide ts p (node l c d u v) (b + 1) r h.1.1 in let at = h.0.1 in omega (arith, le', rest, at)

list_some : (ts : List Lexeme) (p : Part) (t : Trees) (i : ℕ) → AreInList ts p t i → 1 ≤ count t
list_some ts p none i h = absurd h
list_some ts p (node k a b t u) i h = omega arith

-- what a right side goes on with
abbrev Goes : List Lexeme → Side → ℕ → Type 0
Goes ts s j = (t : Trees) (x y i : ℕ) → Rises x y t → IsLaid ts s t i j → i + own s + width t ≤ j

clause_wide : {x y : ℕ} (ts : List Lexeme) (w : Word) (s : Side) (t : Trees) (i j : ℕ) → Goes ts s j → Rises x y t → IsClause ts w (λ u m. IsLaid ts s u m j) t i → i + (own s + 1) + width t ≤ j
clause_wide {x = x} {y = y} ts w s none i j goes r h = let rest = goes none x y (i + 1) r h.1 in omega (arith, rest)
clause_wide {x = x} {y = y} ts w s (node k a b t u) i j goes (one_more le le' r) h = elim (cases_eq a i) [
  | inl is ↦ (let rest = goes u b y (b + 1) r (h.0 is).1.1 in omega (arith, le', is, rest))
  | inr ne ↦ (let rest = goes (node k a b t u) x y (i + 1) (one_more le le' r) (h.1 ne).1 in omega (arith, rest))
]

first_wide : {x y : ℕ} (ts : List Lexeme) (s : Side) (t : Trees) (i j : ℕ) → Goes ts s j → Rises x y t → IsFirstClause ts (λ u m. IsLaid ts s u m j) t i → i + own s + width t ≤ j
first_wide {x = x} {y = y} ts s none i j goes r h = let rest = goes none x y (i + 1) r h.1 in omega (arith, rest)
first_wide {x = x} {y = y} ts s (node k a b t u) i j goes (one_more le le' r) h = elim (cases_eq a i) [
  | inl is ↦ elim (h.0 is) [
    | inl z ↦ (let rest = goes u b y b r z.1 in omega (arith, le', is, rest))
    | inr z ↦ (let rest = goes u b y (b + 1) r z.1.1 in omega (arith, le', is, rest))
  ]
  | inr ne ↦ (let rest = goes (node k a b t u) x y (i + 1) (one_more le le' r) (h.1 ne).1 in omega (arith, rest))
]

-- the trees of a right side leave its own tokens out
pub laid_wide : (ts : List Lexeme) (s : Side) (j : ℕ) → Goes ts s j
laid_wide ts [] j none x y i r h = omega (arith, h)
laid_wide ts [] j (node k a b t u) x y i r h = absurd h
laid_wide ts (symbol.Token l w ∷ s) j t x y i r h = let rest = laid_wide ts s j t x y (i + 1) r h.1 in omega (arith, rest)
laid_wide ts (symbol.Opens l w ∷ s) j t x y i r h = let rest = laid_wide ts s j t x y (i + 1) r h.1 in omega (arith, rest)
laid_wide ts (symbol.Reopens w ∷ s) j t x y i r h = let rest = laid_wide ts s j t x y (i + 1) r h.1 in omega (arith, rest)
laid_wide ts (symbol.Part l p ∷ s) j none x y i r h = absurd h
laid_wide ts (symbol.Part l p ∷ s) j (node k a b t u) x y i (one_more le le' r) h = let rest = laid_wide ts s j u b y b r h.1 in let at = h.0.1 in omega (arith, le', rest, at)
laid_wide ts (symbol.Optional l p ∷ s) j none x y i r h = laid_wide ts s j none x y i r h
laid_wide ts (symbol.Optional l p ∷ s) j (node k a b t u) x y i (one_more le le' r) h = let rest = laid_wide ts s j u b y b r h.1 in let at = h.0.1 in omega (arith, le', rest, at)
laid_wide ts (symbol.Many l p ∷ s) j t x y i r h =
    let rest = laid_wide ts s j none (behind i t) (behind i t) (behind i t) (no_more (omega arith)) h.1 in let row = row_wide p t i r h.0 in omega (arith, rest, row)
laid_wide ts (symbol.List l p ∷ s) j t x y i r h =
    let rest = laid_wide ts s j none (behind i t) (behind i t) (behind i t) (no_more (omega arith)) h.1 in
    let row = list_wide ts p t i r h.0 in let some = list_some ts p t i h.0 in omega (arith, rest, row, some)
laid_wide ts (symbol.OptionalList l p ∷ s) j none x y i r h = laid_wide ts s j none x y i r h
laid_wide ts (symbol.OptionalList l p ∷ s) j (node k a b t u) x y i r h =
    let rest = laid_wide ts s j none (behind b u) (behind b u) (behind b u) (no_more (omega arith)) h.1 in
    let row = list_wide ts p (node k a b t u) i r h.0 in omega (arith, rest, row)
laid_wide ts (symbol.Tag ∷ s) j t x y i r h = elim h [
  | inl z ↦ (let rest = laid_wide ts s j t x y (i + 1) r z.1 in omega (arith, rest))
  | inr z ↦ (let rest = laid_wide ts s j t x y (i + 1 + 1) r z.1.1 in omega (arith, rest))
]
laid_wide ts (symbol.TrailingComma ∷ s) j t x y i r h = elim h [
  | inl z ↦ (let rest = laid_wide ts s j t x y (i + 1) r z.1 in omega (arith, rest))
  | inr z ↦ (let rest = laid_wide ts s j t x y (i + 1 + 1) r z.1.1 in omega (arith, rest))
]
laid_wide ts (symbol.Qualified p ∷ s) j none x y i r h = absurd h
laid_wide ts (symbol.Qualified p ∷ s) j (node k a b t u) x y i (one_more le le' r) h =
    let rest = laid_wide ts s j u b y b r h.1.1 in let at = h.0.0 in omega (arith, le', rest, at)
laid_wide ts (symbol.OptionalQualified p ∷ s) j none x y i r h = let at = h.0 in omega (arith, at)
laid_wide ts (symbol.OptionalQualified p ∷ s) j (node k a b t u) x y i (one_more le le' r) h =
    let rest = laid_wide ts s j u b y b r h.1.1 in let at = h.0.0 in omega (arith, le', rest, at)
laid_wide ts (symbol.Ordinary ∷ s) j t x y i r h = let rest = laid_wide ts s j t x y (i + 1) r h.1 in omega (arith, rest)
laid_wide ts (symbol.TypeIdentifier ∷ s) j t x y i r h = let rest = laid_wide ts s j t x y (i + 1) r h.1 in omega (arith, rest)
laid_wide ts (symbol.Declared ∷ s) j t x y i r h = let rest = laid_wide ts s j t x y (i + 1) r h.1 in omega (arith, rest)
laid_wide ts (symbol.Enumerates ∷ s) j t x y i r h = let rest = laid_wide ts s j t x y (i + 1) r h.1 in omega (arith, rest)
laid_wide ts (symbol.Value ∷ s) j none x y i r h = laid_wide ts s j none x y i r h
laid_wide ts (symbol.Value ∷ s) j (node k a b t u) x y i (one_more le le' r) h =
    let rest = laid_wide ts s j u b y b r h.1.1 in let at = h.1.0.1 in omega (arith, le', rest, at)
laid_wide ts (symbol.Enters ∷ s) j t x y i r h = laid_wide ts s j t x y i r h
laid_wide ts (symbol.Begins ∷ s) j t x y i r h = laid_wide ts s j t x y i r h
laid_wide ts (symbol.Ends ∷ s) j t x y i r h = laid_wide ts s j t x y i r h
laid_wide ts (symbol.Prototype ∷ s) j none x y i r h = laid_wide ts s j none x y i r h
laid_wide ts (symbol.Prototype ∷ s) j (node k a b t u) x y i (one_more le le' r) h = let rest = laid_wide ts s j u b y b r h.1 in let at = h.0.1 in omega (arith, le', rest, at)
laid_wide ts (symbol.Size ∷ s) j none x y i r h = laid_wide ts s j none x y i r h
laid_wide ts (symbol.Size ∷ s) j (node k a b t u) x y i (one_more le le' r) h = let rest = laid_wide ts s j u b y b r h.1 in let at = h.0.1 in omega (arith, le', rest, at)
laid_wide ts (symbol.Texts ∷ s) j none x y i r h = let at = h.0 in omega (arith, at)
laid_wide ts (symbol.Texts ∷ s) j (node k a b t u) x y i r h = absurd h
laid_wide ts (symbol.Init ∷ s) j t x y i r h = first_wide ts s t i j (laid_wide ts s j) r h
laid_wide ts (symbol.Clause ∷ s) j t x y i r h = clause_wide ts word.Semicolon s t i j (laid_wide ts s j) r h
laid_wide ts (symbol.Step ∷ s) j t x y i r h = clause_wide ts word.RightParen s t i j (laid_wide ts s j) r h
laid_wide ts (symbol.Else ∷ s) j none x y i r h = laid_wide ts s j none x y i r h
laid_wide ts (symbol.Else ∷ s) j (node k a b t u) x y i (one_more le le' r) h =
    let rest = laid_wide ts s j u b y b r h.1.1 in let at = h.1.0.1 in omega (arith, le', rest, at)
