-- What a step keeps of a format that is read in part.
use Rattle.std.proofs.Common.{◌≡◌, ℕ, Bool, true, false, ◌&&◌, List, [], ◌∷◌, ◌++◌, length, refl, sym, ◌∙◌, ap, subst, arith, append_assoc}
use Rattle.std.specs.Prelude.{All}
use Rattle.std.specs.List.{flat_map}
use Rattle.std.proofs.lemmas.List.{append-nil}
use Rattle.std.proofs.lemmas.Grind.{flat_map-append}
use Rattle.std.proofs.lemmas.List.Elements.{All-push}
use Rattle.cr_library.specs.declared.piece.Piece.{Piece}
use Rattle.cr_library.specs.declared.piece.Piece.TheVariants.{Bytes}
use Rattle.cr_library.specs.Piece.{escaped, spelling, IsInProfile, is_run}
use Rattle.cr_library.specs.Format.{spelled, IsJoined, ArePiecesOf, LeavesProfile}
use Rattle.cr_library.specs.Reading.{ended, ends_in_run, IsReading}

-- one more piece
IsJoined-push : (pieces : List Piece) (piece : Piece) → IsJoined pieces → (ends_in_run pieces && is_run piece) ≡ false → IsJoined (pieces ++ piece ∷ [])
IsJoined-push [] piece joined apart = tt
IsJoined-push (p ∷ []) piece joined apart = (apart, tt)
IsJoined-push (p ∷ next ∷ pieces) piece joined apart = (joined.0, IsJoined-push (next ∷ pieces) piece joined.1 apart)

ends_in_run-push : (pieces : List Piece) (piece : Piece) → ends_in_run (pieces ++ piece ∷ []) ≡ is_run piece
ends_in_run-push [] piece = refl
ends_in_run-push (p ∷ []) piece = refl
ends_in_run-push (p ∷ next ∷ pieces) piece = ends_in_run-push (next ∷ pieces) piece

spelled-push : (pieces : List Piece) (piece : Piece) → spelled (pieces ++ piece ∷ []) ≡ spelled pieces ++ spelling piece
spelled-push pieces piece =
    flat_map-append spelling pieces (piece ∷ []) ∙ ap (λ s. spelled pieces ++ s) (append-nil (spelling piece))

and-false : (x y : Bool) → y ≡ false → (x && y) ≡ false
and-false true y e = e
and-false false y e = refl

-- the run ends, and nothing of it is lost
pub ArePiecesOf-ended : (pieces : List Piece) (run : List ℕ) → All IsInProfile pieces → IsJoined pieces → ends_in_run pieces ≡ false → ArePiecesOf (spelled pieces ++ flat_map escaped run) (ended pieces run)
ArePiecesOf-ended pieces [] all joined closed = record { spells = sym (append-nil (spelled pieces)); in_profile = all; joined = joined }
ArePiecesOf-ended pieces (byte ∷ run) all joined closed =
    let apart : (ends_in_run pieces && true) ≡ false = rw closed refl in
    record {
      spells = spelled-push pieces (Bytes (byte ∷ run));
      in_profile = All-push IsInProfile pieces (Bytes (byte ∷ run)) all (omega arith);
      joined = IsJoined-push pieces (Bytes (byte ∷ run)) joined apart;
    }

-- at the end of the format
pub reading_done : (format : List ℕ) (pieces : List Piece) (run : List ℕ) → IsReading format pieces run [] → ArePiecesOf format (ended pieces run)
reading_done format pieces run reading =
    let pieces_are : ArePiecesOf (spelled pieces ++ flat_map escaped run) (ended pieces run) = ArePiecesOf-ended pieces run reading.in_profile reading.joined reading.closed in
    record {
      spells = pieces_are.spells ∙ ap (λ s. spelled pieces ++ s) (sym (append-nil (flat_map escaped run))) ∙ reading.whole;
      in_profile = pieces_are.in_profile;
      joined = pieces_are.joined;
    }

-- a conversion is read
pub reading_conversion : (format : List ℕ) (pieces : List Piece) (run : List ℕ) (piece : Piece) (after : List ℕ) → IsInProfile piece → is_run piece ≡ false → IsReading format pieces run (spelling piece ++ after) → IsReading format (ended pieces run ++ piece ∷ []) [] after
reading_conversion format pieces run piece after few plain reading =
    let pieces_are : ArePiecesOf (spelled pieces ++ flat_map escaped run) (ended pieces run) = ArePiecesOf-ended pieces run reading.in_profile reading.joined reading.closed in
    record {
      whole =
          ap (λ s. s ++ after) (spelled-push (ended pieces run) piece ∙ ap (λ s. s ++ spelling piece) pieces_are.spells)
          ∙ append_assoc (spelled pieces ++ flat_map escaped run) (spelling piece) after
          ∙ append_assoc (spelled pieces) (flat_map escaped run) (spelling piece ++ after)
          ∙ reading.whole;
      in_profile = All-push IsInProfile (ended pieces run) piece pieces_are.in_profile few;
      joined = IsJoined-push (ended pieces run) piece pieces_are.joined (and-false (ends_in_run (ended pieces run)) (is_run piece) plain);
      closed = ends_in_run-push (ended pieces run) piece ∙ plain;
    }

-- no piece is spelled at a `%`
pub reading_outside : (format : List ℕ) (pieces : List Piece) (run rest : List ℕ) → IsReading format pieces run (37 ∷ rest) → ((piece : Piece) (after : List ℕ) → IsInProfile piece → 37 ∷ rest ≡ spelling piece ++ after → ⊥) → LeavesProfile format
reading_outside format pieces run rest reading nothing = record {
  before = spelled pieces ++ flat_map escaped run;
  rest = rest;
  pieces = ended pieces run;
  are_pieces = ArePiecesOf-ended pieces run reading.in_profile reading.joined reading.closed;
  here = sym reading.whole ∙ sym (append_assoc (spelled pieces) (flat_map escaped run) (37 ∷ rest));
  outside = nothing;
}

pub reading_at : {format : List ℕ} {pieces others : List Piece} {run : List ℕ} {after : List ℕ} → pieces ≡ others → run ≡ [] → IsReading format others [] after → IsReading format pieces run after
reading_at {format = format} {pieces = pieces} {others = others} {run = run} {after = after} same none reading =
    let P : List Piece → Type 0 = λ ps. IsReading format ps [] after in
    let Q : List ℕ → Type 0 = λ r. IsReading format pieces r after in
    subst Q (sym none) (subst P (sym same) reading)

-- nothing is left
pub nothing_left : (rest : List ℕ) → length rest ≡ 0 → rest ≡ []
nothing_left [] none = refl
nothing_left (byte ∷ rest) none = absurd (omega arith)
