-- Formats of `printf`: the list of pieces that spells one, and what leaves the profile.
use Rattle.std.specs.Prelude.{◌≡◌, ◌≢◌, ℕ, false, ◌&&◌, List, [], ◌∷◌, ◌++◌, All, ⊤}
use Rattle.std.specs.List.{flat_map}
use Rattle.cr_library.specs.declared.piece.Piece.{Piece}
use Rattle.cr_library.specs.Piece.{spelling, IsInProfile, is_run}

-- the text that pieces spell, one after the other
abbrev pub spelled : List Piece → List ℕ
spelled pieces = flat_map spelling pieces

-- no two runs of plain bytes stand side by side
abbrev pub IsJoined : List Piece → Type 0
IsJoined [] = ⊤
IsJoined (piece ∷ []) = ⊤
IsJoined (piece ∷ next ∷ pieces) = ((is_run piece && is_run next) ≡ false) × IsJoined (next ∷ pieces)

-- the pieces of a format
pub record ArePiecesOf (format : List ℕ) (pieces : List Piece) : Type 0 where
  pub spells : spelled pieces ≡ format
  pub in_profile : All IsInProfile pieces
  pub joined : IsJoined pieces

-- the format goes on, after a text that has pieces, with a `%` at which no piece is spelled, neither a
-- conversion of the profile nor `%%`
pub record LeavesProfile (format : List ℕ) : Type 0 where
  pub before : List ℕ
  pub rest : List ℕ
  pub pieces : List Piece
  pub are_pieces : ArePiecesOf before pieces
  pub here : format ≡ before ++ 37 ∷ rest
  pub outside : (piece : Piece) (after : List ℕ) → IsInProfile piece → 37 ∷ rest ≢ spelling piece ++ after
