-- What each node of a unit is, by its number.
use Rattle.std.specs.Prelude.{◌≡◌, ℕ, ◌+◌, ◌≤◌, true, List, [], ◌∷◌, Option, None, Some, length, slice_get}
use Rattle.cr_syntax.specs.declared.word.Word.TheVariants as word
use Rattle.cr_syntax.specs.declared.node.Kind.{Kind}
use Rattle.cr_syntax.specs.declared.node.Kind.TheVariants as kind
use Rattle.cr_syntax.specs.declared.node.Node.{Node}
use Rattle.cr_syntax.specs.declared.part.Context.{Context}
use Rattle.cr_syntax.specs.Words.{Lexeme}
use Rattle.cr_syntax.specs.Scopes.{Scopes}
use Rattle.cr_syntax.specs.Trees.{Trees, none, node}
use Rattle.cr_syntax.specs.Kept.{PartsAreBelow, NamedOnce, ItemsAreNodes, row_in}
use Rattle.cr_syntax.specs.Context.{fits_together}
use Rattle.cr_syntax.specs.Symbols as symbol
use Rattle.cr_syntax.specs.Grammar.{Side}
use Rattle.cr_syntax.specs.Tables.{side_of}
use Rattle.cr_syntax.specs.Spells.{Limit, Is, Spells, rest}
use Rattle.cr_syntax.specs.Units.{IsUnit}

-- The tokens from i to before j and these parts are the right side of the kind's alternative, in some scopes, where so many
-- levels are open and something is said before. The parts meet the alternative's own test.
pub record IsMade (ts : List Lexeme) (limit : Limit) (k : Kind) (i j : ℕ) (parts : Trees) : Type 0 where
  pub said : Context
  pub before : Scopes
  pub after : Scopes
  pub depth : ℕ
  pub spells : Spells ts limit (rest (side_of k)) said before after depth parts i j
  pub fits : fits_together k parts ≡ true

-- what is known of node k of a list, where the list and the items are a unit of these tokens
abbrev pub OfEachNode : (List Lexeme → Limit → List Node → Node → Type 0) → Type 0
OfEachNode says = (ts : List Lexeme) (limit : Limit) (nodes : List Node) (items : List ℕ) →
    PartsAreBelow nodes → NamedOnce nodes items → ItemsAreNodes nodes items → IsUnit limit ts (row_in nodes items) →
    (k : ℕ) (n : Node) → slice_get nodes k ≡ Some n → says ts limit nodes n

-- each node is made by the alternative of its kind
abbrev pub NodesAreMade : Type 0
NodesAreMade = OfEachNode (λ ts limit nodes n. IsMade ts limit n.kind n.first (n.last + 1) (row_in nodes n.parts))

-- the trees stand from token i to before token j, one behind the other
pub data Rises : ℕ → ℕ → Trees → Type 0 where
  no_more : {i j : ℕ} → i ≤ j → Rises i j none
  one_more : {k : Kind} {i j a b : ℕ} {parts n : Trees} → i ≤ a → a ≤ b → Rises b j n → Rises i j (node k a b parts n)

-- the parts of each node rise in its span
abbrev pub PartsRise : Type 0
PartsRise = OfEachNode (λ ts limit nodes n. Rises n.first (n.last + 1) (row_in nodes n.parts))

-- how many trees stand in a row
abbrev pub count : Trees → ℕ
count none = 0
count (node k i j parts n) = count n + 1

-- how many parts a right side has at the least
abbrev pub least : Side → ℕ
least [] = 0
least (symbol.Part l p ∷ s) = least s + 1
least (symbol.List l p ∷ s) = least s + 1
least (symbol.Qualified p ∷ s) = least s + 1
least (x ∷ s) = least s

-- one more, where there is a number
abbrev pub more : Option ℕ → Option ℕ
more None = None
more (Some n) = Some (n + 1)

-- how many it has at the most, where there is such a number
abbrev pub most : Side → Option ℕ
most [] = Some 0
most (symbol.Part l p ∷ s) = more (most s)
most (symbol.Optional l p ∷ s) = more (most s)
most (symbol.Many l p ∷ s) = None
most (symbol.List l p ∷ s) = None
most (symbol.OptionalList l p ∷ s) = None
most (symbol.Qualified p ∷ s) = more (most s)
most (symbol.OptionalQualified p ∷ s) = more (most s)
most (symbol.Value ∷ s) = more (most s)
most (symbol.Prototype ∷ s) = more (most s)
most (symbol.Size ∷ s) = more (most s)
most (symbol.Init ∷ s) = more (most s)
most (symbol.Clause ∷ s) = more (most s)
most (symbol.Step ∷ s) = more (most s)
most (symbol.Else ∷ s) = more (most s)
most (x ∷ s) = most s

abbrev pub IsUpTo : Option ℕ → ℕ → Type 0
IsUpTo None n = Unit {0}
IsUpTo (Some m) n = n ≤ m

pub record IsCounted (s : Side) (n : ℕ) : Type 0 where
  pub least : least s ≤ n
  pub most : IsUpTo (most s) n

-- each node has as many parts as the alternative of its kind
abbrev pub PartsAreCounted : Type 0
PartsAreCounted = OfEachNode (λ ts limit nodes n. IsCounted (side_of n.kind) (length n.parts))

-- the token with a node's own name, by its kind, its first token and its last: of an identifier, of a declarator, an
-- enumerator and a label that it declares, of a tag, a member, and the label that a `goto` names
abbrev pub name_token : Kind → ℕ → ℕ → Option ℕ
name_token kind.Identifier i j = Some i
name_token kind.Call i j = Some i
name_token kind.TypedefName i j = Some i
name_token kind.NameDeclarator i j = Some i
name_token kind.Enumerator i j = Some i
name_token kind.Label i j = Some i
name_token kind.Goto i j = Some (i + 1)
name_token kind.StructTag i j = Some (i + 1)
name_token kind.EnumTag i j = Some (i + 1)
name_token kind.Member i j = Some j
name_token kind.PointerMember i j = Some j
name_token _ i j = None

abbrev pub IsName : List Lexeme → Option ℕ → Type 0
IsName ts None = Unit {0}
IsName ts (Some k) = Is ts k word.Identifier

-- each node's own name is an identifier
abbrev pub NodesHaveNames : Type 0
NodesHaveNames = OfEachNode (λ ts limit nodes n. IsName ts (name_token n.kind n.first n.last))
