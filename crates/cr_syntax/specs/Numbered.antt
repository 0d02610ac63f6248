-- Nodes and tokens by number; what is not there has nothing.
use Rattle.std.specs.Prelude.{ℕ, List, [], Option, None, Some, slice_get, slice_range}
use Rattle.cr_tokens.specs.declared.token.Token.{Token}
use Rattle.cr_syntax.specs.declared.node.Kind.{Kind}
use Rattle.cr_syntax.specs.declared.node.Node.{Node}

abbrev pub kind_if : Option Node → Option Kind
kind_if None = None
kind_if (Some node) = Some node.kind

abbrev pub kind_at : List Node → ℕ → Option Kind
kind_at nodes i = kind_if (slice_get nodes i)

abbrev pub first_if : Option Node → ℕ
first_if None = 0
first_if (Some node) = node.first

abbrev pub first_in : List Node → Option ℕ → ℕ
first_in nodes None = 0
first_in nodes (Some node) = first_if (slice_get nodes node)

abbrev pub last_if : Option Node → ℕ
last_if None = 0
last_if (Some node) = node.last

abbrev pub parts_if : Option Node → List ℕ
parts_if None = []
parts_if (Some node) = node.parts

abbrev pub parts_at : List Node → ℕ → List ℕ
parts_at nodes i = parts_if (slice_get nodes i)

-- the bytes that spell a token
abbrev pub spelling_if : List ℕ → Option Token → List ℕ
spelling_if file None = []
spelling_if file (Some token) = slice_range file token.start token.end

abbrev pub spelling_of : List ℕ → List Token → ℕ → List ℕ
spelling_of file tokens token = spelling_if file (slice_get tokens token)
