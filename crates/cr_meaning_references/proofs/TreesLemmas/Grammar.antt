-- Which part of the grammar stands in each place of a node's parts, and what kinds of nodes stand for it.
use Rattle.std.proofs.Common.{◌≡◌, ℕ, zero, suc, ◌+◌, inl, inr, Bool, true, false, List, [], ◌∷◌, Option, None, Some, drop, length, slice_get, subst}
use Rattle.std.proofs.lemmas.Bool.{false≢true, or_right}
use Rattle.cr_syntax.specs.declared.node.Kind.{Kind}
use Rattle.cr_syntax.specs.declared.node.Node.{Node}
use Rattle.cr_syntax.specs.declared.part.Part.{Part}
use Rattle.cr_syntax.specs.declared.part.Part.TheVariants as part
use Rattle.cr_syntax.specs.Words.{Lexeme}
use Rattle.cr_syntax.specs.Trees.{Trees, none, node}
use Rattle.cr_syntax.specs.Symbols as symbol
use Rattle.cr_syntax.specs.Grammar.{Side}
use Rattle.cr_syntax.specs.Kept.{AreBelow, PartsAreBelow, row_in}
use Rattle.cr_syntax.proofs.Arena.{below_first, below_rest, row_at}
use Rattle.cr_syntax_nodes.specs.Laid.{is_among, stands_for, AreInRow, AreInList, IsLaid}
use Rattle.cr_syntax_nodes.proofs.Numbers.{some_at}

-- ---- places

abbrev pub first_or : Part → (ℕ → Option Part) → ℕ → Option Part
first_or p rest zero = Some p
first_or p rest (suc k) = rest k

-- the part in the k-th place, where it is told by the right side alone: not so of the clauses of a `for`
abbrev pub part_in : Side → ℕ → Option Part
part_in [] k = None
part_in (symbol.Part l p ∷ s) k = first_or p (λ m. part_in s m) k
part_in (symbol.Optional l p ∷ s) k = first_or p (λ m. part_in s m) k
part_in (symbol.Many l p ∷ s) k = Some p
part_in (symbol.List l p ∷ s) k = Some p
part_in (symbol.OptionalList l p ∷ s) k = Some p
part_in (symbol.Qualified p ∷ s) k = first_or p (λ m. part_in s m) k
part_in (symbol.OptionalQualified p ∷ s) k = first_or p (λ m. part_in s m) k
part_in (symbol.Value ∷ s) k = first_or part.Conditional (λ m. part_in s m) k
part_in (symbol.Prototype ∷ s) k = first_or part.Parameters (λ m. part_in s m) k
part_in (symbol.Size ∷ s) k = first_or part.Conditional (λ m. part_in s m) k
part_in (symbol.Else ∷ s) k = first_or part.Statement (λ m. part_in s m) k
part_in (symbol.Texts ∷ s) k = None
part_in (symbol.Init ∷ s) k = None
part_in (symbol.Clause ∷ s) k = None
part_in (symbol.Step ∷ s) k = None
part_in (x ∷ s) k = part_in s k

-- ---- what stands there

abbrev pub Stands : Option Part → Kind → Type 0
Stands None c = Unit {0}
Stands (Some p) c = stands_for p c ≡ true

abbrev AllStand : (ℕ → Option Part) → Trees → Type 0
AllStand f none = Unit {0}
AllStand f (node c a b t u) = Stands (f 0) c × AllStand (λ k. f (suc k)) u

untold : (t : Trees) → AllStand (λ k. None) t
untold none = tt
untold (node c a b t u) = (tt, untold u)

in_row : (p : Part) (t : Trees) (i : ℕ) → AreInRow p t i → AllStand (λ k. Some p) t
in_row p none i h = tt
in_row p (node c a b t u) i h = (h.0.0, in_row p u b h.1)

in_list : (ts : List Lexeme) (p : Part) (t : Trees) (i : ℕ) → AreInList ts p t i → AllStand (λ k. Some p) t
in_list ts p none i h = tt
in_list ts p (node c a b t none) i h = (h.0, tt)
in_list ts p (node c a b t (node l m n u v)) i h = (h.0.0, in_list ts p (node l m n u v) (b + 1) h.1.1)

all_stand : (ts : List Lexeme) (s : Side) (t : Trees) (i j : ℕ) → IsLaid ts s t i j → AllStand (part_in s) t
all_stand ts s none i j h = tt
all_stand ts [] (node c a b t u) i j h = absurd h
all_stand ts (symbol.Token l w ∷ s) (node c a b t u) i j h = all_stand ts s (node c a b t u) (i + 1) j h.1
all_stand ts (symbol.Opens l w ∷ s) (node c a b t u) i j h = all_stand ts s (node c a b t u) (i + 1) j h.1
all_stand ts (symbol.Reopens w ∷ s) (node c a b t u) i j h = all_stand ts s (node c a b t u) (i + 1) j h.1
all_stand ts (symbol.Part l p ∷ s) (node c a b t u) i j h = (h.0.0, all_stand ts s u b j h.1)
all_stand ts (symbol.Optional l p ∷ s) (node c a b t u) i j h = (h.0.0, all_stand ts s u b j h.1)
all_stand ts (symbol.Many l p ∷ s) (node c a b t u) i j h = in_row p (node c a b t u) i h.0
all_stand ts (symbol.List l p ∷ s) (node c a b t u) i j h = in_list ts p (node c a b t u) i h.0
all_stand ts (symbol.OptionalList l p ∷ s) (node c a b t u) i j h = in_list ts p (node c a b t u) i h.0
all_stand ts (symbol.Tag ∷ s) (node c a b t u) i j h = elim h [ inl x ↦ all_stand ts s (node c a b t u) (i + 1) j x.1 | inr x ↦ all_stand ts s (node c a b t u) (i + 1 + 1) j x.1.1 ]
all_stand ts (symbol.TrailingComma ∷ s) (node c a b t u) i j h = elim h [ inl x ↦ all_stand ts s (node c a b t u) (i + 1) j x.1 | inr x ↦ all_stand ts s (node c a b t u) (i + 1 + 1) j x.1.1 ]
all_stand ts (symbol.Qualified p ∷ s) (node c a b t u) i j h = (h.1.0, all_stand ts s u b j h.1.1)
all_stand ts (symbol.OptionalQualified p ∷ s) (node c a b t u) i j h = (h.1.0, all_stand ts s u b j h.1.1)
all_stand ts (symbol.Ordinary ∷ s) (node c a b t u) i j h = all_stand ts s (node c a b t u) (i + 1) j h.1
all_stand ts (symbol.TypeIdentifier ∷ s) (node c a b t u) i j h = all_stand ts s (node c a b t u) (i + 1) j h.1
all_stand ts (symbol.Declared ∷ s) (node c a b t u) i j h = all_stand ts s (node c a b t u) (i + 1) j h.1
all_stand ts (symbol.Enumerates ∷ s) (node c a b t u) i j h = all_stand ts s (node c a b t u) (i + 1) j h.1
all_stand ts (symbol.Value ∷ s) (node c a b t u) i j h = (h.1.0.0, all_stand ts s u b j h.1.1)
all_stand ts (symbol.Enters ∷ s) (node c a b t u) i j h = all_stand ts s (node c a b t u) i j h
all_stand ts (symbol.Begins ∷ s) (node c a b t u) i j h = all_stand ts s (node c a b t u) i j h
all_stand ts (symbol.Ends ∷ s) (node c a b t u) i j h = all_stand ts s (node c a b t u) i j h
all_stand ts (symbol.Prototype ∷ s) (node c a b t u) i j h = (h.0.0, all_stand ts s u b j h.1)
all_stand ts (symbol.Size ∷ s) (node c a b t u) i j h = (h.0.0, all_stand ts s u b j h.1)
all_stand ts (symbol.Texts ∷ s) (node c a b t u) i j h = absurd h
all_stand ts (symbol.Init ∷ s) (node c a b t u) i j h = untold (node c a b t u)
all_stand ts (symbol.Clause ∷ s) (node c a b t u) i j h = untold (node c a b t u)
all_stand ts (symbol.Step ∷ s) (node c a b t u) i j h = untold (node c a b t u)
all_stand ts (symbol.Else ∷ s) (node c a b t u) i j h = (h.1.0.0, all_stand ts s u b j h.1.1)

-- the same by the numbers of nodes
module _ (nodes : List Node) (f : PartsAreBelow nodes) where
  by_number : (g : ℕ → Option Part) (ps : List ℕ) → AreBelow ps (length nodes) → AllStand g (row_in nodes ps) → (k p : ℕ) → slice_get ps k ≡ Some p
      → (n : Node) × ((slice_get nodes p ≡ Some n) × Stands (g k) n.kind)
  by_number g [] b c k p e = absurd (cc e)
  by_number g (q ∷ ps) b c k p e = by k e (λ i x. by_number (λ k. g (suc k)) ps (below_rest q ps (length nodes) b) both.1 i p x)
    where
      m : (n : Node) × (slice_get nodes q ≡ Some n)
      m = some_at nodes q (below_first q ps (length nodes) b)

      both : Stands (g 0) m.0.kind × AllStand (λ k. g (suc k)) (row_in nodes ps)
      both = subst (λ t. AllStand g t) (row_at nodes f q m.0 ps m.1) c

      by : (k : ℕ) → slice_get (q ∷ ps) k ≡ Some p → ((i : ℕ) → slice_get ps i ≡ Some p → (n : Node) × ((slice_get nodes p ≡ Some n) × Stands (g (suc i)) n.kind))
          → (n : Node) × ((slice_get nodes p ≡ Some n) × Stands (g k) n.kind)
      by zero e rest = let same : q ≡ p = cc e in let F : ℕ → Type 0 = λ x. (n : Node) × ((slice_get nodes x ≡ Some n) × Stands (g 0) n.kind) in subst F same (m.0, (m.1, both.0))
      by (suc k) e rest = rest k e

  pub stands : (ts : List Lexeme) (s : Side) (ps : List ℕ) (i j : ℕ) → AreBelow ps (length nodes) → IsLaid ts s (row_in nodes ps) i j → (k p : ℕ) → slice_get ps k ≡ Some p
      → (n : Node) × ((slice_get nodes p ≡ Some n) × Stands (part_in s k) n.kind)
  stands ts s ps i j b h k p e = by_number (part_in s) ps b (all_stand ts s (row_in nodes ps) i j h) k p e

-- ---- a test of what stands in a place

abbrev pub is_of : (Part → Bool) → Option Part → Bool
is_of test None = false
is_of test (Some p) = test p

pub of_part : (test : Part → Bool) (kinds : Kind → Bool) → ((p : Part) (k : Kind) → test p ≡ true → stands_for p k ≡ true → kinds k ≡ true)
    → (o : Option Part) (k : Kind) → is_of test o ≡ true → Stands o k → kinds k ≡ true
of_part test kinds f None k h s = absurd (false≢true h)
of_part test kinds f (Some p) k h s = f p k h s

pub among_drop : (n : ℕ) (q : Part) (ps : List Part) → is_among q (drop n ps) ≡ true → is_among q ps ≡ true
among_drop zero q ps h = h
among_drop (suc n) q [] h = h
among_drop (suc n) q (p ∷ ps) h = or_right _ (is_among q ps) (among_drop n q ps h)
