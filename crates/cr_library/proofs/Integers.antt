-- Which pieces take an integer.
use Rattle.std.proofs.Common.{◌≡◌, ◌≢◌, false, refl}
use Rattle.std.specs.Prelude.{◌↔◌}
use Rattle.cr_library.specs.declared.piece.Piece.{Piece}
use Rattle.cr_library.specs.declared.piece.Piece.TheVariants.{Bytes, Signed, Unsigned, Hex, Byte, Text}
use Rattle.cr_library.specs.Argument.{TakesInteger}
use Rattle.cr_library.specs.Piece.{IsInProfile, is_run}

pub others_take : (piece : Piece) → (IsInProfile piece × (is_run piece ≡ false) × (piece ≢ Text)) ↔ TakesInteger piece
others_take (Bytes bytes) = ((λ h. let run = h.1 in cc), λ h. absurd h)
others_take (Signed letters) = ((λ h. h.0), λ h. (h, refl, (λ (e : Signed letters ≡ Text). cc)))
others_take (Unsigned letters) = ((λ h. h.0), λ h. (h, refl, (λ (e : Unsigned letters ≡ Text). cc)))
others_take (Hex letters) = ((λ h. h.0), λ h. (h, refl, (λ (e : Hex letters ≡ Text). cc)))
others_take Byte = ((λ h. h.0), λ h. (h, refl, (λ (e : Byte ≡ Text). cc)))
others_take Text = ((λ h. absurd (h.2 refl)), λ h. absurd h)
