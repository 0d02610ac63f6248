-- A format that is read in part: whole pieces, a run of plain bytes that may go on, and the rest.
use Rattle.std.specs.Prelude.{◌≡◌, ℕ, Bool, false, List, [], ◌∷◌, ◌++◌, All}
use Rattle.std.specs.List.{flat_map}
use Rattle.cr_library.specs.declared.piece.Piece.{Piece}
use Rattle.cr_library.specs.declared.piece.Piece.TheVariants.{Bytes}
use Rattle.cr_library.specs.Piece.{escaped, IsInProfile, is_run}
use Rattle.cr_library.specs.Format.{spelled, IsJoined}

-- the pieces once the run has ended
abbrev pub ended : List Piece → List ℕ → List Piece
ended pieces [] = pieces
ended pieces (byte ∷ run) = pieces ++ Bytes (byte ∷ run) ∷ []

abbrev pub ends_in_run : List Piece → Bool
ends_in_run [] = false
ends_in_run (piece ∷ []) = is_run piece
ends_in_run (piece ∷ next ∷ pieces) = ends_in_run (next ∷ pieces)

pub record IsReading (format : List ℕ) (pieces : List Piece) (run rest : List ℕ) : Type 0 where
  pub whole : spelled pieces ++ (flat_map escaped run ++ rest) ≡ format
  pub in_profile : All IsInProfile pieces
  pub joined : IsJoined pieces
  pub closed : ends_in_run pieces ≡ false
