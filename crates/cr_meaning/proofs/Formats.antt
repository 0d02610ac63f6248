-- Formats are read as the library's definition says.
use Rattle.std.proofs.Common.{◌≡◌, refl, sym, ◌∙◌, ap, subst, arith, append_assoc}
use Rattle.std.specs.Prelude.{◌≢◌, ℕ, zero, suc, ◌≤◌, ◌==◌, ◌+◌, true, false, Option, Some, None, MatchOption, List, [], ◌∷◌, ◌++◌, length, slice_get, if◌then◌else◌}
use Rattle.std.specs.List.{flat_map}
use Rattle.std.proofs.lemmas.Bool.{eqb-true, eq-eqb, both_ways, false≢true}
use Rattle.std.proofs.lemmas.List.{append-nil, length-append}
use Rattle.std.proofs.lemmas.Grind.{flat_map-append}
use Rattle.cr_library.specs.declared.piece.Piece.{Piece}
use Rattle.cr_library.specs.declared.piece.Piece.TheVariants.{Bytes, Signed, Unsigned, Hex, Byte, Text}
use Rattle.cr_library.specs.Piece.{escaped, spelling, is_run}
use Rattle.cr_library.specs.Format.{spelled, ArePiecesOf, LeavesProfile}
use Rattle.cr_library.specs.Reading.{ended, IsReading}
use Rattle.cr_library.specs.Conversion.{converted}
use Rattle.cr_library.proofs.Readings.{reading_done, reading_conversion, reading_outside}
use Rattle.cr_library.proofs.Conversions.{IsSpelledBy, converted-sound, nothing_spelled}
use Rattle.cr_meaning.specs.Library.{read_by, after_percent, at_conversion, pieces_of}
use Rattle.cr_meaning.specs.Laws

abbrev Reads : List ℕ → Option (List Piece) → Type 0
Reads format o = MatchOption o (LeavesProfile format) (ArePiecesOf format)

-- a byte of a run is read
reading_byte : (format : List ℕ) (pieces : List Piece) (run : List ℕ) (byte : ℕ) (rest : List ℕ) → IsReading format pieces run (escaped byte ++ rest) → IsReading format pieces (run ++ byte ∷ []) rest
reading_byte format pieces run byte rest reading = record {
  whole = ap (λ s. spelled pieces ++ (s ++ rest)) (flat_map-append escaped run (byte ∷ []) ∙ ap (λ s. flat_map escaped run ++ s) (append-nil (escaped byte)))
      ∙ (ap (λ s. spelled pieces ++ s) (append_assoc (flat_map escaped run) (escaped byte) rest) ∙ reading.whole);
  in_profile = reading.in_profile;
  joined = reading.joined;
  closed = reading.closed;
}

plain_byte : (byte : ℕ) → (byte == 37) ≡ false → byte ∷ [] ≡ escaped byte
plain_byte byte e = sym (ap (λ b. if b then 37 ∷ 37 ∷ [] else byte ∷ []) e)

-- what is done with the rest is right, for all rests that are short enough
abbrev IsRight : List ℕ → ℕ → (List Piece → List ℕ → List ℕ → Option (List Piece)) → Type 0
IsRight format most go = (pieces : List Piece) (run rest : List ℕ) → length rest ≤ most → IsReading format pieces run rest → Reads format (go pieces run rest)

same_some : {A : Type 0} {a b : A} → Some a ≡ Some b → a ≡ b
same_some e = cc

some_first : (byte : ℕ) (rest : List ℕ) → (byte == 37) ≡ false → slice_get (byte ∷ rest) 0 ≢ Some 37
some_first byte rest e h = both_ways (byte == 37) e (eq-eqb byte 37 (same_some h))

-- a conversion has a byte at least
has_byte : (piece : Piece) → is_run piece ≡ false → 1 ≤ length (spelling piece)
has_byte (Bytes bytes) e = absurd (false≢true (sym e))
has_byte (Signed letters) e = omega arith
has_byte (Unsigned letters) e = omega arith
has_byte (Hex letters) e = omega arith
has_byte Byte e = omega arith
has_byte Text e = omega arith

shorter : (text : List ℕ) (piece : Piece) (after : List ℕ) (most : ℕ) → IsSpelledBy 0 text piece after → length text ≤ most → length after ≤ most
shorter text piece after most found h =
    let one : 1 ≤ length (spelling piece) = has_byte piece found.no_run in
    let all : length (37 ∷ text) ≡ length (spelling piece) + length after = ap {B = ℕ} length found.spelled ∙ length-append (spelling piece) after in
    let count : length (37 ∷ text) ≡ suc (length text) = refl in
    omega arith

by_conversion : (format : List ℕ) (most : ℕ) (go : List Piece → List ℕ → List ℕ → Option (List Piece)) (pieces : List Piece) (run rest : List ℕ) → IsRight format most go
    → length rest ≤ most → slice_get rest 0 ≢ Some 37 → IsReading format pieces run (37 ∷ rest) → (o : Option (Piece × List ℕ)) → converted rest ≡ o → Reads format (at_conversion go pieces run o)
by_conversion format most go pieces run rest right few plain reading None e = reading_outside format pieces run rest reading (λ piece after. nothing_spelled rest piece after e plain)
by_conversion format most go pieces run rest right few plain reading (Some found) e =
    let spelled_by : IsSpelledBy 0 rest found.0 found.1 = converted-sound rest found.0 found.1 e in
    right (ended pieces run ++ found.0 ∷ []) [] found.1 (shorter rest found.0 found.1 most spelled_by few)
    (reading_conversion format pieces run found.0 found.1 spelled_by.in_profile spelled_by.no_run (subst (IsReading format pieces run) spelled_by.spelled reading))

by_percent : (format : List ℕ) (most : ℕ) (go : List Piece → List ℕ → List ℕ → Option (List Piece)) (pieces : List Piece) (run rest : List ℕ) → IsRight format most go
    → length rest ≤ most → IsReading format pieces run (37 ∷ rest) → Reads format (after_percent go pieces run rest)
by_percent format most go pieces run [] right few reading = reading_outside format pieces run [] reading (λ piece after. nothing_spelled [] piece after refl (λ e. cc))
by_percent format most go pieces run (byte ∷ rest) right few reading =
    elim (byte == 37) as (λ b. byte == 37 ≡ b → Reads format (if b then go pieces (run ++ 37 ∷ []) rest else at_conversion go pieces run (converted (byte ∷ rest)))) [
      | true ↦ λ e. right pieces (run ++ 37 ∷ []) rest (omega arith)
          (reading_byte format pieces run 37 rest (subst (IsReading format pieces run) (ap (λ b. 37 ∷ b ∷ rest) (eqb-true byte 37 e)) reading))
      | false ↦ λ e. by_conversion format most go pieces run (byte ∷ rest) right few (some_first byte rest e) reading (converted (byte ∷ rest)) refl
    ] refl

read_right : (format : List ℕ) (most : ℕ) → IsRight format most (read_by most)
read_right format zero pieces run [] few reading = reading_done format pieces run reading
read_right format zero pieces run (byte ∷ rest) few reading = absurd (omega arith)
read_right format (suc most) pieces run [] few reading = reading_done format pieces run reading
read_right format (suc most) pieces run (byte ∷ rest) few reading =
    elim (byte == 37) as (λ b. byte == 37 ≡ b → Reads format (if b then after_percent (read_by most) pieces run rest else read_by most pieces (run ++ byte ∷ []) rest)) [
      | true ↦ λ e. by_percent format most (read_by most) pieces run rest (read_right format most) (omega arith)
          (subst (IsReading format pieces run) (ap (λ b. b ∷ rest) (eqb-true byte 37 e)) reading)
      | false ↦ λ e. read_right format most pieces (run ++ byte ∷ []) rest (omega arith)
          (reading_byte format pieces run byte rest (subst (IsReading format pieces run) (ap (λ s. s ++ rest) (plain_byte byte e)) reading))
    ] refl

pub formats_are_read : Laws.FormatsAreRead
unfolding pieces_of
formats_are_read format = read_right format (length format) [] [] format (omega arith)
    (record { whole = refl; in_profile = λ k d h. absurd (omega arith); joined = tt; closed = refl })
