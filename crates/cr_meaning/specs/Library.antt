-- The library's functions: `printf` (C11 7.21.6.1, 7.21.6.3), `putchar` (7.21.7.8), `exit` and `abort` (7.22.4.4, 7.22.4.1).
use Rattle.std.specs.Prelude.{ℕ, zero, suc, ◌+◌, ◌-◌, ◌==◌, ℤ, pos, unsigned_abs, Bool, true, nat_le, Option, Some, None, Result, Ok, Err, List, [], ◌∷◌, ◌++◌, length, if◌then◌else◌}
use Rattle.std.specs.Int.{int_rem_euclid}
use Rattle.std.specs.List.{list_any, zip}
use Rattle.cr_ints.specs.declared.kind.IntKind.TheVariants.{Int as IntegerKind, Char, UChar}
use Rattle.cr_ints.specs.Conversions.{convert_of, promote_of}
use Rattle.cr_library.specs.declared.piece.Piece.{Piece}
use Rattle.cr_library.specs.declared.piece.Piece.TheVariants.{Bytes, Text}
use Rattle.cr_library.specs.Conversion.{converted}
use Rattle.cr_library.specs.Reading.{ended}
use Rattle.cr_library.specs.Argument.{wanted_of, agrees, shown}
use Rattle.cr_memory.specs.declared.value.Element.{Element}
use Rattle.cr_memory.specs.declared.value.Pointer.{Pointer}
use Rattle.cr_memory.specs.declared.value.Pointer.TheVariants.{Null, At}
use Rattle.cr_memory.specs.declared.value.Scalar.TheVariants as scalar
use Rattle.cr_memory.specs.declared.value.Cell.{Cell}
use Rattle.cr_memory.specs.declared.value.Cell.TheVariants as cell
use Rattle.cr_memory.specs.declared.value.Trap.{Trap}
use Rattle.cr_memory.specs.declared.value.Trap.TheVariants.{Undefined, Left}
use Rattle.cr_memory.specs.Memory.{Memory}
use Rattle.cr_memory.specs.Access.{load_of}
use Rattle.cr_meaning.specs.World.{Program, World, untyped, unused_value, then_by}
use Rattle.cr_meaning.specs.Values.{scalar_element, if_fits, as_pointer}
use Rattle.cr_meaning.specs.Work.{is_nothing, integer}
use Rattle.cr_meaning.specs.declared.value.Value.{Value}
use Rattle.cr_meaning.specs.declared.value.Value.TheVariants.{Number, Pointer as Pointing}

-- what a call of the library gives
pub record Called : Type 0 where
  pub value : Value
  pub output : List ℕ

-- ---- strings: the chars from a pointer on, up to the zero (7.1.1p1), each read as any char is

abbrev pub byte_of : ℤ → ℕ
byte_of value = unsigned_abs (convert_of value UChar)

abbrev pub following : Pointer → Pointer
following Null = Null
following (At object place low high stride) = At object (suc place) low high stride

abbrev pub text_after : Result (List ℕ) Trap → Cell → Result (List ℕ) Trap
text_after rest (cell.Number value) = if byte_of value == 0 then Ok [] else then_by rest (λ bytes. Ok (byte_of value ∷ bytes))
text_after rest other = Err untyped

-- at most so many chars
abbrev pub text_by : Memory → ℕ → Pointer → Result (List ℕ) Trap
text_by memory zero at = Err untyped
text_by memory (suc most) at = then_by (load_of memory at (scalar.Int Char)) (text_after (text_by memory most (following at)))

-- a char as an element
abbrev pub char : Element
char = scalar_element (scalar.Int Char)

-- an array without a zero ends in the read at its end (U9)
abbrev pub room_from : Pointer → ℕ
room_from Null = 1
room_from (At object place low high stride) = suc (high - place)

abbrev pub text_at : Memory → Pointer → Result (List ℕ) Trap
text_at memory at = if_fits char at (text_by memory (room_from at) at)

-- ---- formats (7.21.6.1p3): `FormatsAreRead` says what is read

-- after a `%`, with whole pieces and a run of plain bytes before it
abbrev pub at_conversion : (List Piece → List ℕ → List ℕ → Option (List Piece)) → List Piece → List ℕ → Option (Piece × List ℕ) → Option (List Piece)
at_conversion go pieces run None = None
at_conversion go pieces run (Some found) = go (ended pieces run ++ found.0 ∷ []) [] found.1

abbrev pub after_percent : (List Piece → List ℕ → List ℕ → Option (List Piece)) → List Piece → List ℕ → List ℕ → Option (List Piece)
after_percent go pieces run [] = None
after_percent go pieces run (byte ∷ rest) =
    if byte == 37 then go pieces (run ++ 37 ∷ []) rest else at_conversion go pieces run (converted (byte ∷ rest))

-- at most so many bytes
abbrev pub read_by : ℕ → List Piece → List ℕ → List ℕ → Option (List Piece)
read_by zero pieces run rest = Some (ended pieces run)
read_by (suc most) pieces run [] = Some (ended pieces run)
read_by (suc most) pieces run (byte ∷ rest) =
    if byte == 37 then after_percent (read_by most) pieces run rest else read_by most pieces (run ++ byte ∷ []) rest

-- the pieces of a format, and nothing where it leaves the profile
unfoldable pub pieces_of : List ℕ → Option (List Piece)
pieces_of format = read_by (length format) [] [] format

-- ---- printf

-- an argument after the default promotions (6.5.2.2p6, p7)
abbrev pub promoted : Value → Value
promoted (Number kind value) = Number (promote_of kind) value
promoted other = other

-- what a conversion prints of an argument, which may be a pointer to char: U16 where there is none or one of another type (p9)
abbrev pub mismatch : {A : Type 0} → Result A Trap
mismatch = Err (Undefined 16)

abbrev pub text_shown : Memory → Bool → Value → Result (List ℕ) Trap
text_shown memory true (Pointing at) = text_at memory at
text_shown memory is_text other = mismatch

abbrev pub integer_shown : Piece → Value → Result (List ℕ) Trap
integer_shown piece (Number kind value) = if agrees (wanted_of piece) kind value then Ok (shown piece value) else mismatch
integer_shown piece other = mismatch

abbrev pub piece_shown : Memory → Piece → Bool × Value → Result (List ℕ) Trap
piece_shown memory Text argument = text_shown memory argument.0 argument.1
piece_shown memory piece argument = integer_shown piece (promoted argument.1)

abbrev pub joined_to : List ℕ → List ℕ → Result (List ℕ) Trap
joined_to bytes rest = Ok (bytes ++ rest)

-- the pieces from left to right, a conversion taking the next argument; arguments left over are ignored (7.21.6.1p2)
abbrev pub printed : Memory → List Piece → List (Bool × Value) → Result (List ℕ) Trap
printed memory [] arguments = Ok []
printed memory (Bytes bytes ∷ pieces) arguments = then_by (printed memory pieces arguments) (joined_to bytes)
printed memory (piece ∷ pieces) [] = mismatch
printed memory (piece ∷ pieces) (argument ∷ arguments) =
    then_by (piece_shown memory piece argument) (λ bytes. then_by (printed memory pieces arguments) (joined_to bytes))

-- N4: the output has a limit
abbrev pub put_out : Program → World → List ℕ → Value → Result Called Trap
put_out p world bytes value =
    if nat_le (length world.output + length bytes) p.limits.output
    then Ok (record { value = value; output = world.output ++ bytes })
    else Err (Left 4)

-- N7: the format has a conversion outside the profile
abbrev pub formatted : Program → World → List (Bool × Value) → Option (List Piece) → Result Called Trap
formatted p world arguments None = Err (Left 7)
formatted p world arguments (Some pieces) =
    then_by (printed world.memory pieces arguments) (λ bytes. put_out p world bytes (Number IntegerKind (pos (length bytes))))

-- the format is a pointer, or a null pointer constant, which is converted as if by assignment (6.5.2.2p7); it is read first, but U15
-- of any argument comes before that
abbrev pub printf_of : Program → World → List Bool → List Value → Result Called Trap
printf_of p world texts (format ∷ values) =
    then_by (as_pointer format) (λ at. if_fits char at (if list_any is_nothing values then Err unused_value
    else then_by (text_at world.memory at) (λ bytes. formatted p world (zip texts values) (pieces_of bytes))))
printf_of p world texts [] = Err untyped

-- ---- the others

-- the char as an unsigned char is printed, and is the value (7.21.7.3p2)
abbrev pub putchar_of : Program → World → List Value → Result Called Trap
putchar_of p world (value ∷ []) = then_by (integer value) (λ char. put_out p world (byte_of char ∷ []) (Number IntegerKind (pos (byte_of char))))
putchar_of p world other = Err untyped

-- the status that the system sees of an argument of `exit` or a value of main: modulo 256, this project's choice
abbrev pub status_of : ℤ → ℕ
status_of value = unsigned_abs (int_rem_euclid value (pos 256))

abbrev pub exit_of : List Value → Result ℕ Trap
exit_of (value ∷ []) = then_by (integer value) (λ number. Ok (status_of (convert_of number IntegerKind)))
exit_of other = Err untyped
