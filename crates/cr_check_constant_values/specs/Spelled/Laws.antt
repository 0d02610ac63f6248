-- What is a constant to the tokens of a file has a value (C11 6.4.4p2).
use Rattle.std.specs.Prelude.{◌≡◌, ◌≤◌, ℕ, List, Some, length, slice_range}
use Rattle.cr_tokens.specs.Numbers.{IsInteger}
use Rattle.cr_tokens.specs.Literals.{IsLiteral}
use Rattle.cr_check_constants.specs.declared.constant.Operand.{Operand}
use Rattle.cr_check_constants.specs.Literals.{integer_of, character_of}

-- an integer constant has a type of its list that has its value (6.4.4.1p5)
abbrev pub IntegersHaveValues : Type 0
IntegersHaveValues = (spelling : List ℕ) → IsInteger spelling → (x : Operand) × (integer_of spelling ≡ Some x)

-- a character constant of one character has that of a byte (6.4.4.4p9)
abbrev pub CharactersHaveValues : Type 0
CharactersHaveValues = (file : List ℕ) (from to : ℕ) → to ≤ length file → IsLiteral file 39 from to 1 → (x : Operand) × (character_of (slice_range file from to) ≡ Some x)
