-- What the library's calls give.
use Rattle.std.proofs.Common.{◌≡◌, ℕ, ◌+◌, ◌^◌, ◌<◌, nat_le, Bool, true, false, ℤ, pos, negsuc, Option, Some, None, Ok, Err, IfOk, List, [], ◌∷◌, ◌++◌, length, if◌then◌else◌, refl, arith}
use Rattle.std.specs.Prelude.{unsigned_abs}
use Rattle.std.specs.List.{list_any, zip}
use Rattle.std.proofs.lemmas.Bool.{leb-true}
use Rattle.std.proofs.lemmas.Int.{ints}
use Rattle.cr_ints.specs.declared.kind.IntKind.TheVariants.{Int as IntegerKind, UChar}
use Rattle.cr_ints.specs.IntKind.{Represents}
use Rattle.cr_ints.specs.Conversions.{convert_of}
use Rattle.cr_ints.proofs.Congruence.{convert_of-represents}
use Rattle.cr_library.specs.declared.piece.Piece.{Piece}
use Rattle.cr_memory.specs.declared.value.Trap.TheVariants.{Undefined, Left}
use Rattle.cr_memory.specs.Memory.{Memory}
use Rattle.cr_meaning.specs.World.{Program, World}
use Rattle.cr_meaning.specs.Values.{as_pointer, misfits}
use Rattle.cr_meaning.specs.Work.{is_nothing, integer}
use Rattle.cr_meaning.specs.Library.{Called, char, byte_of, text_at, printed, put_out, formatted, pieces_of, printf_of, putchar_of}
use Rattle.cr_meaning.specs.declared.value.Value.{Value}
use Rattle.cr_meaning.specs.declared.value.Value.TheVariants.{Number}
use Rattle.cr_meaning_soundness.specs.Sorts.{Sort, number, Fits}
use Rattle.cr_meaning_soundness.proofs.Pointers.{ok_then, ok_unless, ok_any}

abbrev pub CallFits : Memory → Sort → Called → Type 0
CallFits memory own called = Fits memory own called.value

small_is_int : (n : ℕ) → n < 2 ^ 31 → Represents IntegerKind (pos n)
small_is_int n h = record { from_least = omega (arith, ints); to_greatest = omega (arith, ints) }

byte_below : (value : ℤ) → Represents UChar value → unsigned_abs value < 2 ^ 31
byte_below (pos n) h = omega (arith, ints, h.to_greatest)
byte_below (negsuc n) h = absurd (omega (arith, ints, h.from_least))

put_by : (memory : Memory) (b : Bool) (called : Called) → (b ≡ true → CallFits memory (number IntegerKind) called) → IfOk (if b then Ok called else Err (Left 4)) (CallFits memory (number IntegerKind))
put_by memory true called h = h refl
put_by memory false called h = tt

put_out_fits : (p : Program) (world : World) (memory : Memory) (bytes : List ℕ) (n : ℕ) → (nat_le (length world.output + length bytes) p.limits.output ≡ true → n < 2 ^ 31)
    → IfOk (put_out p world bytes (Number IntegerKind (pos n))) (CallFits memory (number IntegerKind))
put_out_fits p world memory bytes n h =
    put_by memory (nat_le (length world.output + length bytes) p.limits.output) (record { value = Number IntegerKind (pos n); output = world.output ++ bytes }) (λ e. (refl, small_is_int n (h e)))

pub putchar_fits : (p : Program) (world : World) (values : List Value) → IfOk (putchar_of p world values) (CallFits world.memory (number IntegerKind))
putchar_fits p world [] = tt
putchar_fits p world (value ∷ []) =
    ok_then (λ _. Unit {0}) (CallFits world.memory (number IntegerKind)) (integer value) _ (ok_any (integer value))
    (λ char _. put_out_fits p world world.memory (byte_of char ∷ []) (byte_of char) (λ e. byte_below (convert_of char UChar) (convert_of-represents char UChar)))
putchar_fits p world (value ∷ more ∷ rest) = tt

formatted_fits : (p : Program) (world : World) (arguments : List (Bool × Value)) (pieces : Option (List Piece)) → p.limits.output < 2 ^ 31
    → IfOk (formatted p world arguments pieces) (CallFits world.memory (number IntegerKind))
formatted_fits p world arguments None h = tt
formatted_fits p world arguments (Some pieces) h =
    ok_then (λ _. Unit {0}) (CallFits world.memory (number IntegerKind)) (printed world.memory pieces arguments) _ (ok_any (printed world.memory pieces arguments))
    (λ bytes _. put_out_fits p world world.memory bytes (length bytes) (λ e. let l = leb-true (length world.output + length bytes) p.limits.output e in omega arith))

pub printf_fits : (p : Program) (world : World) (texts : List Bool) (values : List Value) → p.limits.output < 2 ^ 31 → IfOk (printf_of p world texts values) (CallFits world.memory (number IntegerKind))
printf_fits p world texts [] h = tt
printf_fits p world texts (format ∷ values) h =
    let Q : Called → Type 0 = CallFits world.memory (number IntegerKind) in
    ok_then (λ _. Unit {0}) Q (as_pointer format) _ (ok_any (as_pointer format))
    (λ at _. ok_unless Q (misfits char at) (Left 5) _ (λ e. ok_unless Q (list_any is_nothing values) (Undefined 15) _
    (λ f. ok_then (λ _. Unit {0}) Q (text_at world.memory at) _ (ok_any (text_at world.memory at)) (λ bytes _. formatted_fits p world (zip texts values) (pieces_of bytes) h))))
