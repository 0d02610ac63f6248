-- The text that a list of spellings prints as.
use Rattle.std.specs.Prelude.{ℕ, ◌+◌, List, [], ◌∷◌, ◌++◌, slice_range}
use Rattle.cr_tokens.specs.declared.token.Token.{Token}
use Rattle.cr_syntax.specs.declared.node.Node.{Node}
use Rattle.cr_syntax.specs.declared.unit.Unit.{Unit as TheUnit}
use Rattle.cr_tokens.specs.Places.{StaysApart}

-- Prints spellings text: the text is the spellings in their order, with one space between two of them exactly where
-- reading the two side by side doesn't give these two tokens.
pub data Prints : List (List ℕ) → List ℕ → Type 0 where
  nothing : Prints [] []
  last : {s : List ℕ} → Prints (s ∷ []) s
  joined : {s t text : List ℕ} {ts : List (List ℕ)} → StaysApart s t → Prints (t ∷ ts) text → Prints (s ∷ t ∷ ts) (s ++ text)
  spaced : {s t text : List ℕ} {ts : List (List ℕ)} → ¬ StaysApart s t → Prints (t ∷ ts) text → Prints (s ∷ t ∷ ts) (s ++ 32 ∷ text)

-- the tokens of a unit's node
abbrev pub tokens_of : TheUnit → Node → List Token
tokens_of unit n = slice_range unit.tokens.list.items n.first (n.last + 1)
