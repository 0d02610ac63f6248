-- Calls of the library on arguments that they take come to a value or to a case (C11 7.21.6.1, 7.21.7.8, 7.22.4.4).
use Rattle.std.proofs.Common.{◌≡◌, refl, sym, subst, arith}
use Rattle.std.specs.Prelude.{ℕ, zero, suc, ◌+◌, ◌-◌, ◌≤◌, ◌%◌, ◌==◌, nat_le, pos, Bool, true, false, not, Option, Some, None, Result, Ok, Err, IfOk, List, [], ◌∷◌, length, if◌then◌else◌}
use Rattle.std.specs.List.{list_any, zip}
use Rattle.std.proofs.lemmas.Bool.{leb-false}
use Rattle.cr_ints.specs.declared.kind.IntKind.TheVariants.{Int as IntegerKind, Char}
use Rattle.cr_library.specs.declared.piece.Piece.{Piece}
use Rattle.cr_library.specs.declared.piece.Piece.TheVariants.{Bytes, Text}
use Rattle.cr_library.specs.Argument.{wanted_of, agrees}
use Rattle.cr_memory.specs.declared.value.Pointer.{Pointer}
use Rattle.cr_memory.specs.declared.value.Pointer.TheVariants.{Null, At}
use Rattle.cr_memory.specs.declared.value.Scalar.TheVariants as scalar
use Rattle.cr_memory.specs.declared.value.Cell.{Cell}
use Rattle.cr_memory.specs.declared.value.Cell.TheVariants as cell
use Rattle.cr_memory.specs.declared.value.Trap.{Trap}
use Rattle.cr_memory.specs.declared.value.Trap.TheVariants.{Undefined, Left}
use Rattle.cr_memory.specs.declared.value.TheConstants.{NULL_OR_END, ENDED, UNSET, OTHER_TYPE}
use Rattle.cr_memory.specs.Kind.{is_same}
use Rattle.cr_memory.specs.Memory.{Memory, IsPointer, Holds, has_ended}
use Rattle.cr_memory.specs.Access.{is_null_or_end, is_unset, holds_ended, cell_at, shape_at, load_of, HasStride}
use Rattle.cr_meaning.specs.World.{Program, World}
use Rattle.cr_meaning.specs.Values.{misfits, as_pointer}
use Rattle.cr_meaning.specs.Work.{is_nothing, integer}
use Rattle.cr_meaning.specs.Library.{char, byte_of, following, text_after, text_by, room_from, text_at, promoted, text_shown, integer_shown, piece_shown, joined_to, printed, put_out, formatted, pieces_of, printf_of, putchar_of, exit_of}
use Rattle.cr_meaning.specs.declared.value.Value.{Value}
use Rattle.cr_meaning.specs.declared.value.Value.TheVariants.{Nothing, Number, Pointer as Pointing}
use Rattle.cr_meaning_soundness.specs.Sorts.{IsSound}
use Rattle.cr_meaning_soundness.proofs.Cells.{loaded_holds}
use Rattle.cr_meaning_soundness.proofs.Pointers.{fitting}
use Rattle.cr_meaning_soundness.proofs.Cases.{Cased, cased_then, cased_all, cased_if, cased_either, IsNumberValue, IsScalarValue, integer_cased, as_pointer_cased, load_cased}

-- ---- strings

abbrev Enough : ℕ → Pointer → Type 0
Enough most Null = 1 ≤ most
Enough most (At object place low high stride) = suc (high - place) ≤ most

-- what is read is there
abbrev IsRead : Memory → Pointer → Cell → Type 0
IsRead memory at held = (is_unset held ≡ false) × (is_null_or_end at ≡ false)

read_by : (P : Cell → Type 0) (ended end gone same unset : Bool) (held : Cell) → (end ≡ false → unset ≡ false → P held)
    → IfOk (if ended then Err (Undefined ENDED)
    else (if end then Err (Undefined NULL_OR_END)
    else (if gone then Err (Undefined ENDED)
    else (if not same then Err (Left OTHER_TYPE)
    else (if unset then Err (Undefined UNSET)
    else Ok held))))) P
read_by P true end gone same unset held h = tt
read_by P false true gone same unset held h = tt
read_by P false false true same unset held h = tt
read_by P false false false false unset held h = tt
read_by P false false false true true held h = tt
read_by P false false false true false held h = h refl refl

is_read : (memory : Memory) (at : Pointer) → IfOk (load_of memory at (scalar.Int Char)) (IsRead memory at)
is_read memory at =
    read_by (IsRead memory at) (has_ended memory at) (is_null_or_end at) (holds_ended memory (cell_at memory at)) (is_same (shape_at memory at).0 (scalar.Int Char)) (is_unset (cell_at memory at))
    (cell_at memory at) (λ inside set. (set, inside))

both_ok : (P Q : Cell → Type 0) (result : Result Cell Trap) → IfOk result P → IfOk result Q → IfOk result (λ held. P held × Q held)
both_ok P Q (Ok held) h k = (h, k)
both_ok P Q (Err trap) h k = tt

after_cased : (memory : Memory) (at : Pointer) (rest : Result (List ℕ) Trap) (held : Cell) → Holds memory (scalar.Int Char) held → is_unset held ≡ false → Cased rest → Cased (text_after rest held)
after_cased memory at rest cell.Unset h e k = absurd (cc e)
after_cased memory at rest (cell.Number value) h e k = cased_either (byte_of value == 0) _ _ tt (cased_all rest _ k (λ bytes. tt))
after_cased memory at rest (cell.Pointer target) h e k = absurd h

one_mod : (n : ℕ) → n % 1 ≡ 0
one_mod n = omega arith

text_by_cased : (memory : Memory) (most : ℕ) (at : Pointer) → IsSound memory → IsPointer memory at → HasStride at 1 → Enough most at → Cased (text_by memory most at)
text_by_cased memory zero Null sound h same enough = let never : ⊥ = omega arith in absurd never
text_by_cased memory zero (At object place low high stride) sound h same enough = let never : ⊥ = omega arith in absurd never
text_by_cased memory (suc most) Null sound h same enough = tt
text_by_cased memory (suc most) (At object place low high stride) sound h same enough =
    let at = At object place low high stride in
    cased_then (λ held. Holds memory (scalar.Int Char) held × IsRead memory at held) (load_of memory at (scalar.Int Char)) (text_after (text_by memory most (following at)))
    (load_cased memory at (scalar.Int Char)) (both_ok (Holds memory (scalar.Int Char)) (IsRead memory at) (load_of memory at (scalar.Int Char)) (loaded_holds memory at (scalar.Int Char) sound h) (is_read memory at))
    (λ held f. let below = leb-false high place f.1.1 in
    let one : stride.cells ≡ 1 = same in
    let W : ℕ → Type 0 = λ n. (suc place - low) % n ≡ 0 in
    let V : ℕ → Type 0 = λ n. (high - suc place) % n ≡ 0 in
    let from = h.low_before in
    let next : IsPointer memory (following at) = record {
      entered = h.entered;
      stride_above = h.stride_above;
      low_before = omega arith;
      high_after = omega arith;
      whole_before = subst W (sym one) (one_mod (suc place - low));
      whole_after = subst V (sym one) (one_mod (high - suc place));
      within = h.within;
    } in
    after_cased memory at (text_by memory most (following at)) held f.0 f.1.0 (text_by_cased memory most (following at) sound next same (omega arith)))

enough_room : (at : Pointer) → Enough (room_from at) at
enough_room Null = omega arith
enough_room (At object place low high stride) = omega arith

text_cased : (memory : Memory) (at : Pointer) → IsSound memory → IsPointer memory at → Cased (text_at memory at)
text_cased memory at sound h = by_stride (misfits char at) refl
  where
    by_stride : (b : Bool) → misfits char at ≡ b → Cased (let r : Result (List ℕ) Trap = if b then Err (Left 5) else text_by memory (room_from at) at in r)
    by_stride true e = tt
    by_stride false e = text_by_cased memory (room_from at) at sound h (fitting char at e) (enough_room at)

-- ---- `printf`

-- a pointer among the arguments is one of the memory
abbrev pub IsArgument : Memory → Value → Type 0
IsArgument memory (Pointing at) = IsPointer memory at
IsArgument memory value = Unit {0}

abbrev pub AreGivenArguments : Memory → List Value → Type 0
AreGivenArguments memory [] = Unit {0}
AreGivenArguments memory (value ∷ rest) = IsArgument memory value × AreGivenArguments memory rest

abbrev AreShown : Memory → List (Bool × Value) → Type 0
AreShown memory [] = Unit {0}
AreShown memory (argument ∷ rest) = IsArgument memory argument.1 × AreShown memory rest

zipped : (memory : Memory) (texts : List Bool) (given : List Value) → AreGivenArguments memory given → AreShown memory (zip texts given)
zipped memory [] given h = tt
zipped memory (text ∷ texts) [] h = tt
zipped memory (text ∷ texts) (value ∷ rest) h = (h.0, zipped memory texts rest h.1)

text_shown_cased : (memory : Memory) (b : Bool) (value : Value) → IsSound memory → IsArgument memory value → Cased (text_shown memory b value)
text_shown_cased memory true (Pointing at) sound h = text_cased memory at sound h
text_shown_cased memory true value sound h = tt
text_shown_cased memory false value sound h = tt

integer_shown_cased : (piece : Piece) (value : Value) → Cased (integer_shown piece value)
integer_shown_cased piece (Number kind value) = cased_either (agrees (wanted_of piece) kind value) _ _ tt tt
integer_shown_cased piece value = tt

piece_cased : (memory : Memory) (piece : Piece) (argument : Bool × Value) → IsSound memory → IsArgument memory argument.1 → Cased (piece_shown memory piece argument)
piece_cased memory Text argument sound h = text_shown_cased memory argument.0 argument.1 sound h
piece_cased memory piece argument sound h = integer_shown_cased piece (promoted argument.1)

printed_cased : (memory : Memory) (pieces : List Piece) (given : List (Bool × Value)) → IsSound memory → AreShown memory given → Cased (printed memory pieces given)
printed_cased memory [] given sound h = tt
printed_cased memory (Bytes bytes ∷ pieces) given sound h = cased_all (printed memory pieces given) (joined_to bytes) (printed_cased memory pieces given sound h) (λ rest. tt)
printed_cased memory (piece ∷ pieces) [] sound h = tt
printed_cased memory (piece ∷ pieces) (argument ∷ given) sound h =
    cased_all (piece_shown memory piece argument) _ (piece_cased memory piece argument sound h.0)
    (λ bytes. cased_all (printed memory pieces given) (joined_to bytes) (printed_cased memory pieces given sound h.1) (λ rest. tt))

put_out_cased : (p : Program) (world : World) (bytes : List ℕ) (value : Value) → Cased (put_out p world bytes value)
put_out_cased p world bytes value = cased_either (nat_le (length world.output + length bytes) p.limits.output) _ _ tt tt

formatted_cased : (p : Program) (world : World) (given : List (Bool × Value)) (pieces : Option (List Piece)) → IsSound world.memory → AreShown world.memory given → Cased (formatted p world given pieces)
formatted_cased p world given None sound h = tt
formatted_cased p world given (Some pieces) sound h =
    cased_all (printed world.memory pieces given) _ (printed_cased world.memory pieces given sound h) (λ bytes. put_out_cased p world bytes (Number IntegerKind (pos (length bytes))))

as_pointer_is : (memory : Memory) (value : Value) → IsArgument memory value → IfOk (as_pointer value) (IsPointer memory)
as_pointer_is memory Nothing h = tt
as_pointer_is memory (Number kind value) h = tt
as_pointer_is memory (Pointing at) h = h
as_pointer_is memory value h = tt

pub printf_cased : (p : Program) (world : World) (texts : List Bool) (format : Value) (given : List Value) → IsSound world.memory → IsScalarValue format → IsArgument world.memory format
    → AreGivenArguments world.memory given → Cased (printf_of p world texts (format ∷ given))
printf_cased p world texts format given sound s f h =
    cased_then (IsPointer world.memory) (as_pointer format) _ (as_pointer_cased format s) (as_pointer_is world.memory format f)
    (λ at is. cased_if (misfits char at) (Left 5) _ tt (cased_if (list_any is_nothing given) (Undefined 15) _ tt
    (cased_all (text_at world.memory at) _ (text_cased world.memory at sound is) (λ bytes. formatted_cased p world (zip texts given) (pieces_of bytes) sound (zipped world.memory texts given h)))))

pub putchar_cased : (p : Program) (world : World) (value : Value) → IsNumberValue value → Cased (putchar_of p world (value ∷ []))
putchar_cased p world value h =
    cased_all (integer value) _ (integer_cased value h) (λ char. put_out_cased p world (byte_of char ∷ []) (Number IntegerKind (pos (byte_of char))))

pub exit_cased : (value : Value) → IsNumberValue value → Cased (exit_of (value ∷ []))
exit_cased value h = cased_all (integer value) _ (integer_cased value h) (λ number. tt)
