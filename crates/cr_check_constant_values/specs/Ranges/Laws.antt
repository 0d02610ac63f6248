-- Constants that are spelled, enumerators and sizes lie in the ranges of their kinds (C11 6.4.4p2, 6.5.3.4p5, 6.7.2.2p2).
use Rattle.std.specs.Prelude.{◌≡◌, ℕ, ℤ, ◌^◌, ◌<◌, List, Some}
use Rattle.cr_ints.specs.declared.kind.IntKind.TheVariants.{Int}
use Rattle.cr_ints.specs.IntKind.{Represents}
use Rattle.cr_check_constants.specs.declared.constant.Constant.{Constant}
use Rattle.cr_check_constants.specs.declared.constant.Constant.TheVariants.{Value}
use Rattle.cr_check_constants.specs.declared.constant.Operand.{Operand}
use Rattle.cr_check_constants.specs.Literals.{integer_of, character_of}
use Rattle.cr_check_constants.specs.Operators.{size_of, enumerator_of}

-- an operand that has a value has one of its kind
abbrev pub IsInRange : Operand → Type 0
IsInRange x = (v : ℤ) → x.constant ≡ Value v → Represents x.kind v

-- an integer constant has the first type of its list that can represent it (6.4.4.1p5)
abbrev pub IntegersAreInRange : Type 0
IntegersAreInRange = (spelling : List ℕ) (x : Operand) → integer_of spelling ≡ Some x → IsInRange x

-- a character constant is an int (6.4.4.4p10)
abbrev pub CharactersAreInRange : Type 0
CharactersAreInRange = (spelling : List ℕ) (x : Operand) → character_of spelling ≡ Some x → IsInRange x

-- an enumerator is an int (6.7.2.2p2)
abbrev pub EnumeratorsAreInRange : Type 0
EnumeratorsAreInRange = (c : Constant) (v : ℤ) → enumerator_of c ≡ Some v → Represents Int v

-- a size below 2^64 is an unsigned long (6.5.3.4p5)
abbrev pub SizesAreInRange : Type 0
SizesAreInRange = (bytes : ℕ) → bytes < 2 ^ 64 → IsInRange (size_of bytes)
