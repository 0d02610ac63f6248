-- The bytes of string literals (C11 6.4.5).
use Rattle.std.specs.Prelude.{ℕ, zero, suc, ◌+◌, ◌-◌, List, [], ◌∷◌, ◌++◌, Option, None, Some, length, slice_get}
use Rattle.cr_tokens.specs.declared.token.Token.{Token}
use Rattle.cr_syntax.specs.declared.node.Kind.{Kind}
use Rattle.cr_syntax.specs.declared.node.Kind.TheVariants as kind
use Rattle.cr_syntax.specs.declared.node.Node.{Node}
use Rattle.cr_check_constants.specs.Literals.{inside_of}
use Rattle.cr_check_expressions.specs.Known.{spelling_of}
use Rattle.cr_rows.specs.Columns.{AreOf}
use Rattle.cr_check_literals.specs.Characters.{bytes_of}

-- so many adjacent literal tokens, from the first on, are joined (6.4.5p5)
abbrev pub joined : List ℕ → List Token → ℕ → ℕ → List ℕ
joined file tokens first zero = []
joined file tokens first (suc count) =
    joined file tokens first count ++ bytes_of (inside_of (spelling_of file tokens (first + count)))

-- and a zero stands behind them (6.4.5p6)
abbrev pub literal_of : List ℕ → List Token → Node → List ℕ
literal_of file tokens n = joined file tokens n.first (n.last + 1 - n.first) ++ 0 ∷ []

abbrev pub text_by : Kind → List ℕ → List Token → Node → List ℕ
text_by kind.Text file tokens n = literal_of file tokens n
text_by k file tokens n = []

abbrev pub text_if : List ℕ → List Token → Option Node → List ℕ
text_if file tokens None = []
text_if file tokens (Some n) = text_by n.kind file tokens n

-- the bytes of the string literal at a node; other nodes have none
abbrev pub text_at : List ℕ → List Token → List Node → ℕ → List ℕ
text_at file tokens nodes i = text_if file tokens (slice_get nodes i)

abbrev pub AreTexts : List ℕ → List Token → List Node → List (List ℕ) → Type 0
AreTexts file tokens nodes texts = AreOf (text_at file tokens nodes) [] (length nodes) texts
