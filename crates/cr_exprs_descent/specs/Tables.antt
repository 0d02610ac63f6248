-- Tables of words and the kinds of node that they make.
use Rattle.std.specs.Prelude.{ℕ, Bool, true, false, List, [], ◌∷◌, Option, None, Some, if◌then◌else◌}
use Rattle.cr_syntax.specs.declared.word.Word.{Word}
use Rattle.cr_syntax.specs.declared.node.Kind.{Kind}
use Rattle.cr_syntax.specs.declared.node.Kind.TheVariants as kind
use Rattle.cr_syntax.specs.declared.part.Part.{Part}
use Rattle.cr_syntax.specs.declared.part.Part.TheVariants as part
use Rattle.cr_syntax.specs.Reads.{same_word}

-- the kind that the first entry of this word gives
abbrev pub kind_of_word : List (Word × Kind) → Word → Option Kind
kind_of_word [] w = None
kind_of_word (r ∷ rs) w = if same_word w r.0 then Some r.1 else kind_of_word rs w

abbrev pub kind_of : List (Word × Kind) → Option Word → Option Kind
kind_of table None = None
kind_of table (Some w) = kind_of_word table w

-- the next tighter level of binary operators, none where it is a cast
abbrev pub next_level : Part → Option Part
next_level part.LogicalOr = Some part.LogicalAnd
next_level part.LogicalAnd = Some part.Or
next_level part.Or = Some part.Xor
next_level part.Xor = Some part.And
next_level part.And = Some part.Equality
next_level part.Equality = Some part.Relational
next_level part.Relational = Some part.Shift
next_level part.Shift = Some part.Additive
next_level part.Additive = Some part.Multiplicative
next_level _ = None

abbrev pub is_void : Kind → Bool
is_void kind.Void = true
is_void _ = false

-- how loose a level of binary operators is
abbrev pub level_of : Part → ℕ
level_of part.LogicalOr = 10
level_of part.LogicalAnd = 9
level_of part.Or = 8
level_of part.Xor = 7
level_of part.And = 6
level_of part.Equality = 5
level_of part.Relational = 4
level_of part.Shift = 3
level_of part.Additive = 2
level_of part.Multiplicative = 1
level_of _ = 0
