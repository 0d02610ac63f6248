-- How a node's parts and its own tokens stand, by the right side of its kind.
use Rattle.std.specs.Prelude.{◌≡◌, ◌≢◌, ℕ, ◌+◌, ◌<◌, ◌≤◌, Bool, true, false, ◌||◌, ◌⊎◌, List, [], ◌∷◌, drop}
use Rattle.cr_syntax.specs.declared.word.Word.{Word}
use Rattle.cr_syntax.specs.declared.word.Word.TheVariants as word
use Rattle.cr_syntax.specs.declared.node.Kind.{Kind}
use Rattle.cr_syntax.specs.declared.part.Part.{Part}
use Rattle.cr_syntax.specs.declared.part.Part.TheVariants as part
use Rattle.cr_syntax.specs.Words.{Lexeme}
use Rattle.cr_syntax.specs.Trees.{Trees, none, node}
use Rattle.cr_syntax.specs.Kept.{row_in}
use Rattle.cr_syntax.specs.Chains.{same_part}
use Rattle.cr_syntax.specs.Symbols as symbol
use Rattle.cr_syntax.specs.Grammar.{Side}
use Rattle.cr_syntax.specs.Tables.{part_of, side_of}
use Rattle.cr_syntax.specs.Spells.{Is, Qualifies}
use Rattle.cr_syntax_nodes.specs.Nodes.{OfEachNode}

-- Which kinds of nodes stand for a part.

-- the parts that an expression may be, from the loosest to the tightest (6.5)
abbrev pub expressions : List Part
expressions =
    part.Expression ∷ part.Assignment ∷ part.Conditional ∷ part.LogicalOr ∷ part.LogicalAnd ∷ part.Or ∷ part.Xor ∷ part.And ∷ part.Equality
    ∷ part.Relational ∷ part.Shift ∷ part.Additive ∷ part.Multiplicative ∷ part.Cast ∷ part.Unary ∷ part.Postfix ∷ part.Primary ∷ []

-- the parts that a part may be: itself, and each that is an alternative alone of one of them
abbrev pub parts_of : Part → List Part
parts_of part.External = part.External ∷ part.Declaration ∷ []
parts_of part.InitDeclarator = part.InitDeclarator ∷ part.Declarator ∷ part.DirectDeclarator ∷ []
parts_of part.Initializer = part.Initializer ∷ drop 1 expressions
parts_of part.Specifiers = part.Specifiers ∷ part.Specifier ∷ part.Plain ∷ []
parts_of part.Specifier = part.Specifier ∷ part.Plain ∷ []
parts_of part.PlainSpecifiers = part.PlainSpecifiers ∷ part.Plain ∷ []
parts_of part.MemberDeclarator = part.MemberDeclarator ∷ part.Declarator ∷ part.DirectDeclarator ∷ []
parts_of part.Declarator = part.Declarator ∷ part.DirectDeclarator ∷ []
parts_of part.Parameters = part.Parameters ∷ part.Parameter ∷ part.Specifiers ∷ part.Specifier ∷ part.Plain ∷ []
parts_of part.Parameter = part.Parameter ∷ part.Specifiers ∷ part.Specifier ∷ part.Plain ∷ []
parts_of part.ParameterDeclarator = part.ParameterDeclarator ∷ part.Abstract ∷ part.DirectAbstract ∷ part.Declarator ∷ part.DirectDeclarator ∷ []
parts_of part.Abstract = part.Abstract ∷ part.DirectAbstract ∷ []
parts_of part.TypeName = part.TypeName ∷ part.PlainSpecifiers ∷ part.Plain ∷ []
parts_of part.BlockItem = part.BlockItem ∷ part.Declaration ∷ part.Statement ∷ part.Compound ∷ []
parts_of part.Statement = part.Statement ∷ part.Compound ∷ []
parts_of part.Expression = expressions
parts_of part.Assignment = drop 1 expressions
parts_of part.Conditional = drop 2 expressions
parts_of part.LogicalOr = drop 3 expressions
parts_of part.LogicalAnd = drop 4 expressions
parts_of part.Or = drop 5 expressions
parts_of part.Xor = drop 6 expressions
parts_of part.And = drop 7 expressions
parts_of part.Equality = drop 8 expressions
parts_of part.Relational = drop 9 expressions
parts_of part.Shift = drop 10 expressions
parts_of part.Additive = drop 11 expressions
parts_of part.Multiplicative = drop 12 expressions
parts_of part.Cast = drop 13 expressions
parts_of part.Unary = drop 14 expressions
parts_of part.Postfix = drop 15 expressions
parts_of p = p ∷ []

abbrev pub is_among : Part → List Part → Bool
is_among p [] = false
is_among p (q ∷ qs) = same_part p q || is_among p qs

-- a node of this kind stands for the part
abbrev pub stands_for : Part → Kind → Bool
stands_for p k = is_among (part_of k) (parts_of p)

-- Rows of parts.

-- a node of kind k, whose first token is a, stands for the part at token i
abbrev pub IsPart : Part → Kind → ℕ → ℕ → Type 0
IsPart p k a i = (stands_for p k ≡ true) × (a ≡ i)

-- the token behind a row that begins at token i
abbrev pub behind : ℕ → Trees → ℕ
behind i none = i
behind i (node k a b t u) = behind b u

-- parts one behind the other, from token i on
abbrev pub AreInRow : Part → Trees → ℕ → Type 0
AreInRow p none i = Unit {0}
AreInRow p (node k a b t u) i = IsPart p k a i × AreInRow p u b

-- parts with a comma between each two
abbrev pub AreInList : List Lexeme → Part → Trees → ℕ → Type 0
AreInList ts p none i = ⊥
AreInList ts p (node k a b t none) i = IsPart p k a i
AreInList ts p (node k a b t (node l c d u v)) i = IsPart p k a i × (Is ts b word.Comma × AreInList ts p (node l c d u v) (b + 1))

-- each token from i to before j is this word
abbrev pub AreAll : List Lexeme → Word → ℕ → ℕ → Type 0
AreAll ts w i j = (m : ℕ) → i ≤ m → m < j → Is ts m w

-- each token from i to before j is a type qualifier (6.7.3)
abbrev pub AllQualify : List Lexeme → ℕ → ℕ → Type 0
AllQualify ts i j = (m : ℕ) → i ≤ m → m < j → Qualifies ts m

-- Clauses of a `for`, and what stands behind them. One is there exactly where the next part begins at its first token.

-- an expression or none, and a token behind it
abbrev pub IsClause : List Lexeme → Word → (Trees → ℕ → Type 0) → Trees → ℕ → Type 0
IsClause ts w more none i = Is ts i w × more none (i + 1)
IsClause ts w more (node k a b t u) i =
    (a ≡ i → (stands_for part.Expression k ≡ true) × (Is ts b w × more u (b + 1)))
    × (a ≢ i → Is ts i w × more (node k a b t u) (i + 1))

-- a declaration, or an expression or none with a `;`
abbrev pub IsFirstClause : List Lexeme → (Trees → ℕ → Type 0) → Trees → ℕ → Type 0
IsFirstClause ts more none i = Is ts i word.Semicolon × more none (i + 1)
IsFirstClause ts more (node k a b t u) i =
    (a ≡ i → ((stands_for part.Declaration k ≡ true) × more u b) ⊎ ((stands_for part.Expression k ≡ true) × (Is ts b word.Semicolon × more u (b + 1))))
    × (a ≢ i → Is ts i word.Semicolon × more (node k a b t u) (i + 1))

-- IsLaid ts s t i j: from token i to before token j stand the parts t and the tokens between them, as the right side s says. What
-- `Spells` says besides, of scopes and levels of nesting, is left out.
abbrev pub IsLaid : List Lexeme → Side → Trees → ℕ → ℕ → Type 0
IsLaid ts [] none i j = i ≡ j
IsLaid ts [] (node k a b t u) i j = ⊥
IsLaid ts (symbol.Token l w ∷ s) t i j = Is ts i w × IsLaid ts s t (i + 1) j
IsLaid ts (symbol.Opens l w ∷ s) t i j = Is ts i w × IsLaid ts s t (i + 1) j
IsLaid ts (symbol.Reopens w ∷ s) t i j = Is ts i w × IsLaid ts s t (i + 1) j
IsLaid ts (symbol.Part l p ∷ s) none i j = ⊥
IsLaid ts (symbol.Part l p ∷ s) (node k a b t u) i j = IsPart p k a i × IsLaid ts s u b j
IsLaid ts (symbol.Optional l p ∷ s) none i j = IsLaid ts s none i j
IsLaid ts (symbol.Optional l p ∷ s) (node k a b t u) i j = IsPart p k a i × IsLaid ts s u b j
IsLaid ts (symbol.Many l p ∷ s) t i j = AreInRow p t i × IsLaid ts s none (behind i t) j
IsLaid ts (symbol.List l p ∷ s) t i j = AreInList ts p t i × IsLaid ts s none (behind i t) j
IsLaid ts (symbol.OptionalList l p ∷ s) none i j = IsLaid ts s none i j
IsLaid ts (symbol.OptionalList l p ∷ s) (node k a b t u) i j = AreInList ts p (node k a b t u) i × IsLaid ts s none (behind b u) j
IsLaid ts (symbol.Tag ∷ s) t i j =
    (Is ts i word.LeftBrace × IsLaid ts s t (i + 1) j)
    ⊎ (Is ts i word.Identifier × (Is ts (i + 1) word.LeftBrace × IsLaid ts s t (i + 1 + 1) j))
IsLaid ts (symbol.TrailingComma ∷ s) t i j =
    (Is ts i word.RightBrace × IsLaid ts s t (i + 1) j)
    ⊎ (Is ts i word.Comma × (Is ts (i + 1) word.RightBrace × IsLaid ts s t (i + 1 + 1) j))
IsLaid ts (symbol.Qualified p ∷ s) none i j = ⊥
IsLaid ts (symbol.Qualified p ∷ s) (node k a b t u) i j =
    ((i ≤ a) × AllQualify ts i a) × ((stands_for p k ≡ true) × IsLaid ts s u b j)
IsLaid ts (symbol.OptionalQualified p ∷ s) none i j = (i ≤ j) × AllQualify ts i j
IsLaid ts (symbol.OptionalQualified p ∷ s) (node k a b t u) i j =
    ((i ≤ a) × AllQualify ts i a) × ((stands_for p k ≡ true) × IsLaid ts s u b j)
IsLaid ts (symbol.Ordinary ∷ s) t i j = Is ts i word.Identifier × IsLaid ts s t (i + 1) j
IsLaid ts (symbol.TypeIdentifier ∷ s) t i j = Is ts i word.Identifier × IsLaid ts s t (i + 1) j
IsLaid ts (symbol.Declared ∷ s) t i j = Is ts i word.Identifier × IsLaid ts s t (i + 1) j
IsLaid ts (symbol.Enumerates ∷ s) t i j = Is ts i word.Identifier × IsLaid ts s t (i + 1) j
IsLaid ts (symbol.Value ∷ s) none i j = IsLaid ts s none i j
IsLaid ts (symbol.Value ∷ s) (node k a b t u) i j = Is ts i word.Equal × (IsPart part.Conditional k a (i + 1) × IsLaid ts s u b j)
IsLaid ts (symbol.Enters ∷ s) t i j = IsLaid ts s t i j
IsLaid ts (symbol.Begins ∷ s) t i j = IsLaid ts s t i j
IsLaid ts (symbol.Ends ∷ s) t i j = IsLaid ts s t i j
IsLaid ts (symbol.Prototype ∷ s) none i j = IsLaid ts s none i j
IsLaid ts (symbol.Prototype ∷ s) (node k a b t u) i j = IsPart part.Parameters k a i × IsLaid ts s u b j
IsLaid ts (symbol.Size ∷ s) none i j = IsLaid ts s none i j
IsLaid ts (symbol.Size ∷ s) (node k a b t u) i j = IsPart part.Conditional k a i × IsLaid ts s u b j
IsLaid ts (symbol.Texts ∷ s) none i j = (i < j) × AreAll ts word.Text i j
IsLaid ts (symbol.Texts ∷ s) (node k a b t u) i j = ⊥
IsLaid ts (symbol.Init ∷ s) t i j = IsFirstClause ts (λ u m. IsLaid ts s u m j) t i
IsLaid ts (symbol.Clause ∷ s) t i j = IsClause ts word.Semicolon (λ u m. IsLaid ts s u m j) t i
IsLaid ts (symbol.Step ∷ s) t i j = IsClause ts word.RightParen (λ u m. IsLaid ts s u m j) t i
IsLaid ts (symbol.Else ∷ s) none i j = IsLaid ts s none i j
IsLaid ts (symbol.Else ∷ s) (node k a b t u) i j = Is ts i word.Else × (IsPart part.Statement k a (i + 1) × IsLaid ts s u b j)

-- each node's parts and tokens stand as the right side of its kind says
abbrev pub NodesAreLaid : Type 0
NodesAreLaid = OfEachNode (λ ts limit nodes n. IsLaid ts (side_of n.kind) (row_in nodes n.parts) n.first (n.last + 1))
