-- What a reader of C11 7.21.6.1 expects of the pieces of a format and of their arguments.
use Rattle.std.specs.Prelude.{◌≡◌, ◌≢◌, ℕ, ℤ, List, false, IsTrue, ◌↔◌}
use Rattle.cr_ints.specs.declared.kind.IntKind.{IntKind}
use Rattle.cr_ints.specs.IntKind.{Represents}
use Rattle.cr_library.specs.Argument.{TakesInteger, Agrees, agrees}
use Rattle.cr_library.specs.declared.piece.Piece.{Piece}
use Rattle.cr_library.specs.declared.piece.Piece.TheVariants.{Text}
use Rattle.cr_library.specs.Piece.{IsInProfile, is_run}
use Rattle.cr_library.specs.Format.{ArePiecesOf, LeavesProfile}

-- a format has at most one list of pieces
abbrev pub PiecesAreUnique : Type 0
PiecesAreUnique = (format : List ℕ) (pieces others : List Piece) → ArePiecesOf format pieces → ArePiecesOf format others → pieces ≡ others

-- and none where it leaves the profile
abbrev pub PiecesStayInProfile : Type 0
PiecesStayInProfile = (format : List ℕ) (pieces : List Piece) → ArePiecesOf format pieces → LeavesProfile format → ⊥

-- of a value of the argument's type, the test of agreement is the fact
abbrev pub AgreementIsTested : Type 0
AgreementIsTested = (wanted kind : IntKind) (value : ℤ) → Represents kind value
    → IsTrue (agrees wanted kind value) ↔ Agrees wanted kind value

-- a piece of the profile takes an integer exactly where it is no run of bytes and no text
abbrev pub TheOtherPiecesTakeIntegers : Type 0
TheOtherPiecesTakeIntegers = (piece : Piece) → (IsInProfile piece × (is_run piece ≡ false) × (piece ≢ Text)) ↔ TakesInteger piece
