-- What a call leaves in the output, and what it answers.
use Rattle.std.specs.Prelude.{◌≡◌, ℕ, ◌+◌, Bool, true, false, Option, Some, None, Result, Ok, Err, List, [], ◌∷◌, ◌++◌, drop, pos, length}
use Rattle.std.specs.Global.{Vec}
use Rattle.cr_ints.specs.declared.kind.IntKind.TheVariants.{Int as IntegerKind}
use Rattle.cr_library.specs.declared.piece.Piece.{Piece}
use Rattle.cr_library.specs.declared.piece.Piece.TheVariants.{Bytes}
use Rattle.cr_library.specs.declared.cut.FormatEnd.{FormatEnd}
use Rattle.cr_library.specs.declared.cut.FormatEnd.TheVariants.{Outside, NoMemory}
use Rattle.cr_memory.specs.declared.value.Pointer.{Pointer}
use Rattle.cr_memory.specs.declared.value.Cell.{Cell}
use Rattle.cr_memory.specs.declared.value.Cell.TheVariants as cell
use Rattle.cr_memory.specs.declared.value.Trap.{Trap}
use Rattle.cr_memory.specs.declared.value.Trap.TheVariants.{Left, NoMemory as WantOfMemory}
use Rattle.cr_memory.specs.Memory.{Memory}
use Rattle.cr_meaning.specs.World.{World, then_by}
use Rattle.cr_meaning.specs.Library.{Called, byte_of, text_by, mismatch, piece_shown, printed}
use Rattle.cr_meaning.specs.declared.value.Value.{Value}
use Rattle.cr_meaning.specs.declared.value.Value.TheVariants.{Number}
use Rattle.cr_eval.specs.Answers.{Answers}

-- ---- what the code leaves

-- bytes behind those that are there
abbrev pub behind : List ℕ → List ℕ → Result (List ℕ) Trap
behind before bytes = Ok (before ++ bytes)

-- work that leaves these bytes
abbrev pub leaving : List ℕ → Result (Unit {0}) Trap → Result (List ℕ) Trap
leaving bytes (Ok done) = Ok bytes
leaving bytes (Err trap) = Err trap

abbrev pub bytes_of : Result (Vec ℕ) Trap → Result (List ℕ) Trap
bytes_of (Ok bytes) = Ok bytes.items
bytes_of (Err trap) = Err trap

abbrev pub pieces_in : Result (Vec Piece) Trap → Result (List Piece) Trap
pieces_in (Ok pieces) = Ok pieces.items
pieces_in (Err trap) = Err trap

-- a call that leaves this output
abbrev pub called : List ℕ → Result Value Trap → Result Called Trap
called output (Ok value) = Ok (record { value = value; output = output })
called output (Err trap) = Err trap

-- a world with this output, and with this memory too
abbrev pub printed_on : World → List ℕ → World
printed_on world output = record world { output = output }

abbrev pub over : World → Memory → List ℕ → World
over world memory output = record world { memory = memory; output = output }

-- the number of some bytes
abbrev pub counted : List ℕ → Value
counted bytes = Number IntegerKind (pos (length bytes))

-- ---- chars

-- a char's cell holds this byte
abbrev pub IsByte : Cell → ℕ → Type 0
IsByte (cell.Number value) byte = byte ≡ byte_of value
IsByte other byte = ⊥

-- the char at a place is read: there are more behind it, or it is the zero
abbrev pub Reads : Memory → Pointer → List ℕ → List ℕ → Result (Option Pointer) Trap → Type 0
Reads memory at before after (Ok None) = (left fewer : ℕ) → left ≡ fewer + 1 → then_by (text_by memory left at) (behind before) ≡ Ok after
Reads memory at before after (Ok (Some to)) = (left fewer : ℕ) → left ≡ fewer + 1
    → then_by (text_by memory left at) (behind before) ≡ then_by (text_by memory fewer to) (behind after)
Reads memory at before after (Err trap) = (left fewer : ℕ) → left ≡ fewer + 1 → Answers (then_by (text_by memory left at) (behind before)) (Err trap)

-- ---- pieces

abbrev pub takes_argument : Piece → Bool
takes_argument (Bytes bytes) = false
takes_argument other = true

abbrev pub rest_of : {A : Type 0} → Bool → List A → List A
rest_of true items = drop 1 items
rest_of false items = items

-- what a piece prints of the first of these arguments
abbrev pub of_first : Memory → Piece → List (Bool × Value) → Result (List ℕ) Trap
of_first memory piece [] = mismatch
of_first memory piece (argument ∷ arguments) = piece_shown memory piece argument

abbrev pub one_printed : Memory → Piece → List (Bool × Value) → Result (List ℕ) Trap
one_printed memory (Bytes bytes) arguments = Ok bytes
one_printed memory piece arguments = of_first memory piece arguments

-- a piece is printed, whatever pieces follow it
abbrev pub Prints : Memory → Piece → List (Bool × Value) → List ℕ → List ℕ → Result (Unit {0}) Trap → Type 0
Prints memory piece arguments before after (Ok done) = (more : List Piece)
    → then_by (printed memory (piece ∷ more) arguments) (behind before) ≡ then_by (printed memory more (rest_of (takes_argument piece) arguments)) (behind after)
Prints memory piece arguments before after (Err trap) = (more : List Piece)
    → Answers (then_by (printed memory (piece ∷ more) arguments) (behind before)) (Err trap)

-- ---- formats

-- N7: the format leaves the profile
abbrev pub read_of : Option (List Piece) → Result (List Piece) Trap
read_of None = Err (Left 7)
read_of (Some pieces) = Ok pieces

abbrev pub trap_of : FormatEnd → Trap
trap_of Outside = Left 7
trap_of NoMemory = WantOfMemory
