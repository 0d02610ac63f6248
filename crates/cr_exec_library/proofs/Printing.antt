-- Chars and pieces that are printed one after another.
use Rattle.std.proofs.Common.{◌≡◌, ℕ, zero, suc, ◌+◌, ◌==◌, Bool, true, false, if◌then◌else◌, Option, Some, None, Result, Ok, Err, List, [], ◌∷◌, ◌++◌, refl, sym, ap, ◌∙◌, subst, ap₂, append_assoc, append-nil, arith, ◌<◌, length, get_or, drop}
use Rattle.std.specs.Prelude.{ℤ, pos, MatchOption}
use Rattle.std.proofs.lemmas.List.{drop_more}
use Rattle.std.proofs.lemmas.Bool.{eq-eqb, ne_eqb}
use Rattle.std.specs.List.{list_any, zip}
use Rattle.cr_ints.specs.declared.kind.IntKind.TheVariants.{Char, Int as IntegerKind}
use Rattle.cr_library.specs.declared.cut.FormatEnd.{FormatEnd}
use Rattle.cr_library.specs.declared.cut.FormatEnd.TheVariants.{Outside}
use Rattle.cr_library.specs.declared.cut.FormatEnd.TheVariants as ends
use Rattle.cr_library.specs.declared.piece.Piece.{Piece}
use Rattle.cr_library.specs.declared.piece.Piece.TheVariants.{Bytes, Signed, Unsigned, Hex, Byte, Text}
use Rattle.cr_library.specs.Format.{ArePiecesOf, LeavesProfile}
use Rattle.cr_library.proofs.Unique.{pieces_are_unique, pieces_stay_in_profile}
use Rattle.cr_memory.specs.declared.value.Pointer.{Pointer}
use Rattle.cr_memory.specs.declared.value.Scalar.TheVariants as scalar
use Rattle.cr_memory.specs.declared.value.Cell.{Cell}
use Rattle.cr_memory.specs.declared.value.Cell.TheVariants as cell
use Rattle.cr_memory.specs.declared.value.Trap.{Trap}
use Rattle.cr_memory.specs.declared.value.Trap.TheVariants.{Undefined, Left, NoMemory}
use Rattle.cr_memory.specs.Memory.{Memory}
use Rattle.cr_memory.specs.Access.{load_of}
use Rattle.cr_meaning.specs.World.{Program, World, unused_value, then_by}
use Rattle.cr_meaning.specs.Values.{misfits, if_fits, as_pointer}
use Rattle.cr_meaning.specs.Work.{is_nothing, integer}
use Rattle.cr_meaning.specs.Library.{Called, char as char_element, byte_of, following, text_after, text_by, text_at, pieces_of, joined_to, piece_shown, printed, put_out, formatted, printf_of, putchar_of}
use Rattle.cr_meaning.specs.declared.value.Value.{Value}
use Rattle.cr_meaning.specs.declared.value.Value.TheVariants.{Number}
use Rattle.cr_meaning.proofs.Formats.{formats_are_read}
use Rattle.cr_eval.specs.Answers.{Says, Answers}
use Rattle.cr_eval.proofs.Answering.{then_answers, ends_answer}
use Rattle.cr_exec_library.specs.Printing.{behind, leaving, bytes_of, IsByte, Reads, takes_argument, rest_of, of_first, one_printed, Prints, read_of, trap_of}

-- ---- results one after another

-- bytes in front of others, all behind what is there
in_front : (bytes before : List ℕ) (rest : Result (List ℕ) Trap) → then_by (then_by rest (joined_to bytes)) (behind before) ≡ then_by rest (behind (before ++ bytes))
in_front bytes before (Ok more) = let f : List ℕ → Result (List ℕ) Trap = λ all. Ok all in ap f (sym (append_assoc before bytes more))
in_front bytes before (Err trap) = refl

-- what is behind nothing
pub behind_none : (r : Result (List ℕ) Trap) → then_by r (behind []) ≡ r
behind_none (Ok bytes) = refl
behind_none (Err trap) = refl

pub from_none : (r got : Result (List ℕ) Trap) → Answers (then_by r (behind [])) got → Answers r got
from_none r got h = let P : Result (List ℕ) Trap → Type 0 = λ x. Answers x got in subst P (behind_none r) h

-- ---- chars

text_more : (memory : Memory) (at : Pointer) (value : ℤ) (before : List ℕ) (fewer : ℕ) → load_of memory at (scalar.Int Char) ≡ Ok (cell.Number value)
    → (byte_of value == 0) ≡ false → then_by (text_by memory (suc fewer) at) (behind before) ≡ then_by (text_by memory fewer (following at)) (behind (before ++ byte_of value ∷ []))
text_more memory at value before fewer e b =
    let rest = text_by memory fewer (following at) in
    ap (λ (r : Result Cell Trap). then_by (then_by r (text_after rest)) (behind before)) e
    ∙ (ap (λ (t : Bool). then_by (if t then Ok [] else then_by rest (λ bytes. Ok (byte_of value ∷ bytes))) (behind before)) b
    ∙ in_front (byte_of value ∷ []) before rest)

text_done : (memory : Memory) (at : Pointer) (value : ℤ) (before : List ℕ) (fewer : ℕ) → load_of memory at (scalar.Int Char) ≡ Ok (cell.Number value)
    → (byte_of value == 0) ≡ true → then_by (text_by memory (suc fewer) at) (behind before) ≡ Ok before
text_done memory at value before fewer e b =
    let rest = text_by memory fewer (following at) in
    let f : List ℕ → Result (List ℕ) Trap = λ all. Ok all in
    ap (λ (r : Result Cell Trap). then_by (then_by r (text_after rest)) (behind before)) e
    ∙ (ap (λ (t : Bool). then_by (if t then Ok [] else then_by rest (λ bytes. Ok (byte_of value ∷ bytes))) (behind before)) b
    ∙ ap f (append-nil before))

one_more : (left fewer : ℕ) → left ≡ fewer + 1 → suc fewer ≡ left
one_more left fewer e = omega arith

pub char_ends : (memory : Memory) (at : Pointer) (before after : List ℕ) (trap : Trap) → Answers (load_of memory at (scalar.Int Char)) (Err trap) → Reads memory at before after (Err trap)
char_ends memory at before after trap h = λ left fewer e.
    let rest = text_by memory fewer (following at) in
    let P : ℕ → Type 0 = λ n. Answers (then_by (text_by memory n at) (behind before)) (Err trap) in
    subst P (one_more left fewer e) (ends_answer (then_by (load_of memory at (scalar.Int Char)) (text_after rest)) (behind before) trap
    (ends_answer (load_of memory at (scalar.Int Char)) (text_after rest) trap h))

pub char_wants : (memory : Memory) (at : Pointer) (before after : List ℕ) → Reads memory at before after (Err NoMemory)
char_wants memory at before after = λ left fewer e. record { says = tt }

pub is_byte : (value char : ℤ) (byte : ℕ) → Answers (integer (Number Char value)) (Ok char) → byte ≡ byte_of char → byte ≡ byte_of value
is_byte value char byte h e = let same : char ≡ value = cc h.says in e ∙ ap byte_of same

pub char_stops : (memory : Memory) (at : Pointer) (cell : Cell) (byte : ℕ) (before : List ℕ) → Answers (load_of memory at (scalar.Int Char)) (Ok cell)
    → IsByte cell byte → byte ≡ 0 → Reads memory at before before (Ok None)
char_stops memory at (cell.Number value) byte before h b z = λ left fewer e.
    let P : ℕ → Type 0 = λ n. then_by (text_by memory n at) (behind before) ≡ Ok before in
    subst P (one_more left fewer e) (text_done memory at value before fewer h.says (eq-eqb (byte_of value) 0 (sym b ∙ z)))
char_stops memory at other byte before h b z = absurd b

pub char_goes : (memory : Memory) (at to : Pointer) (cell : Cell) (byte : ℕ) (before after : List ℕ) → Answers (load_of memory at (scalar.Int Char)) (Ok cell)
    → IsByte cell byte → (byte ≡ 0 → ⊥) → after ≡ before ++ byte ∷ [] → to ≡ following at → Reads memory at before after (Ok (Some to))
char_goes memory at to (cell.Number value) byte before after h b z a t = λ left fewer e.
    let P : ℕ → Type 0 = λ n. then_by (text_by memory n at) (behind before) ≡ then_by (text_by memory fewer to) (behind after) in
    let Q : Pointer → Type 0 = λ p. then_by (text_by memory (suc fewer) at) (behind before) ≡ then_by (text_by memory fewer p) (behind after) in
    let R : List ℕ → Type 0 = λ all. then_by (text_by memory (suc fewer) at) (behind before) ≡ then_by (text_by memory fewer (following at)) (behind all) in
    subst P (one_more left fewer e)
    (subst Q (sym t) (subst R (ap (λ (n : ℕ). before ++ n ∷ []) (sym b) ∙ sym a)
    (text_more memory at value before fewer h.says (ne_eqb (byte_of value) 0 (λ q. z (b ∙ q))))))
char_goes memory at to other byte before after h b z a t = absurd b

-- ---- pieces

printed_on : (one rest : Result (List ℕ) Trap) (before after : List ℕ) → then_by one (behind before) ≡ Ok after
    → then_by (then_by one (λ bytes. then_by rest (joined_to bytes))) (behind before) ≡ then_by rest (behind after)
printed_on (Ok bytes) rest before after e = in_front bytes before rest ∙ ap (λ (all : List ℕ). then_by rest (behind all)) (cc e)
printed_on (Err trap) rest before after e = absurd (cc e)

ends_first : (one : Result (List ℕ) Trap) (before : List ℕ) (trap : Trap) → then_by one (behind before) ≡ Err trap → one ≡ Err trap
ends_first (Ok bytes) before trap e = absurd (cc e)
ends_first (Err t) before trap e = cc e

printed_ends : (one rest : Result (List ℕ) Trap) (before : List ℕ) (trap : Trap) → Says (then_by one (behind before)) (Err trap)
    → Says (then_by (then_by one (λ bytes. then_by rest (joined_to bytes))) (behind before)) (Err trap)
printed_ends one rest before NoMemory h = tt
printed_ends one rest before (Undefined number) h = ap (λ (r : Result (List ℕ) Trap). then_by (then_by r (λ bytes. then_by rest (joined_to bytes))) (behind before)) (ends_first one before (Undefined number) h)
printed_ends one rest before (Left number) h = ap (λ (r : Result (List ℕ) Trap). then_by (then_by r (λ bytes. then_by rest (joined_to bytes))) (behind before)) (ends_first one before (Left number) h)

-- the first piece, and the others with what is left of the arguments
first_printed : (memory : Memory) (piece : Piece) (more : List Piece) (arguments : List (Bool × Value))
    → printed memory (piece ∷ more) arguments ≡ then_by (one_printed memory piece arguments) (λ bytes. then_by (printed memory more (rest_of (takes_argument piece) arguments)) (joined_to bytes))
first_printed memory (Bytes bytes) more arguments = refl
first_printed memory (Signed letters) more [] = refl
first_printed memory (Signed letters) more (argument ∷ arguments) = refl
first_printed memory (Unsigned letters) more [] = refl
first_printed memory (Unsigned letters) more (argument ∷ arguments) = refl
first_printed memory (Hex letters) more [] = refl
first_printed memory (Hex letters) more (argument ∷ arguments) = refl
first_printed memory Byte more [] = refl
first_printed memory Byte more (argument ∷ arguments) = refl
first_printed memory Text more [] = refl
first_printed memory Text more (argument ∷ arguments) = refl

pub prints : (memory : Memory) (piece : Piece) (arguments : List (Bool × Value)) (before after : List ℕ) (result : Result (Unit {0}) Trap)
    → Answers (then_by (one_printed memory piece arguments) (behind before)) (leaving after result) → Prints memory piece arguments before after result
prints memory piece arguments before after (Ok done) h = λ more.
    ap (λ (r : Result (List ℕ) Trap). then_by r (behind before)) (first_printed memory piece more arguments)
    ∙ printed_on (one_printed memory piece arguments) (printed memory more (rest_of (takes_argument piece) arguments)) before after h.says
prints memory piece arguments before after (Err trap) h = λ more.
    let P : Result (List ℕ) Trap → Type 0 = λ r. Answers (then_by r (behind before)) (Err trap) in
    subst P (sym (first_printed memory piece more arguments))
    (record { says = printed_ends (one_printed memory piece arguments) (printed memory more (rest_of (takes_argument piece) arguments)) before trap h.says })

-- arguments are taken off both lists
pub zip_rest : (taken : Bool) (texts : List Bool) (values : List Value) → rest_of taken (zip texts values) ≡ zip (rest_of taken texts) (rest_of taken values)
zip_rest false texts values = refl
zip_rest true [] values = refl
zip_rest true (t ∷ texts) (v ∷ values) = refl
zip_rest true (t ∷ []) [] = refl
zip_rest true (t ∷ (u ∷ texts)) [] = refl

-- ---- pieces in a list

pub piece_at : (pieces : List Piece) (i : ℕ) (piece : Piece) → i < length pieces → piece ≡ get_or pieces i piece → drop i pieces ≡ piece ∷ drop (i + 1) pieces
piece_at pieces i piece room e = drop_more pieces i piece room ∙ ap (λ (p : Piece). p ∷ drop (i + 1) pieces) (sym e)

pub piece_ends : (memory : Memory) (piece : Piece) (pieces rest : List Piece) (arguments : List (Bool × Value)) (before after : List ℕ) (trap : Trap) (whole : Result (List ℕ) Trap)
    → pieces ≡ piece ∷ rest → then_by (printed memory pieces arguments) (behind before) ≡ whole → Prints memory piece arguments before after (Err trap) → Answers whole (Err trap)
piece_ends memory piece pieces rest arguments before after trap whole e same h =
    let P : Result (List ℕ) Trap → Type 0 = λ r. Answers r (Err trap) in
    subst P (ap (λ (ps : List Piece). then_by (printed memory ps arguments) (behind before)) (sym e) ∙ same) (h rest)

pub piece_goes : (memory : Memory) (piece : Piece) (pieces rest : List Piece) (texts texts' : List Bool) (values values' : List Value) (before after : List ℕ) (whole : Result (List ℕ) Trap)
    → pieces ≡ piece ∷ rest → then_by (printed memory pieces (zip texts values)) (behind before) ≡ whole → Prints memory piece (zip texts values) before after (Ok tt)
    → texts' ≡ rest_of (takes_argument piece) texts → values' ≡ rest_of (takes_argument piece) values → then_by (printed memory rest (zip texts' values')) (behind after) ≡ whole
piece_goes memory piece pieces rest texts texts' values values' before after whole e same h t v =
    ap (λ (arguments : List (Bool × Value)). then_by (printed memory rest arguments) (behind after))
    (ap₂ (λ (ts : List Bool). λ (vs : List Value). zip ts vs) t v ∙ sym (zip_rest (takes_argument piece) texts values))
    ∙ (sym (h rest) ∙ (ap (λ (ps : List Piece). then_by (printed memory ps (zip texts values)) (behind before)) (sym e) ∙ same))

-- ---- formats

read_by_cases : (format : List ℕ) (o : Option (List Piece)) → MatchOption o (LeavesProfile format) (ArePiecesOf format) → (pieces : List Piece) → ArePiecesOf format pieces → read_of o ≡ Ok pieces
read_by_cases format None h pieces are = absurd (pieces_stay_in_profile format pieces are h)
read_by_cases format (Some others) h pieces are = let f : List Piece → Result (List Piece) Trap = λ ps. Ok ps in ap f (pieces_are_unique format others pieces h are)

pub is_read : (format : List ℕ) (pieces : List Piece) → ArePiecesOf format pieces → read_of (pieces_of format) ≡ Ok pieces
is_read format pieces are = read_by_cases format (pieces_of format) (formats_are_read format) pieces are

outside_by_cases : (format : List ℕ) (o : Option (List Piece)) → MatchOption o (LeavesProfile format) (ArePiecesOf format) → LeavesProfile format → read_of o ≡ Err (Left 7)
outside_by_cases format None h leaves = refl
outside_by_cases format (Some others) h leaves = absurd (pieces_stay_in_profile format others h leaves)

pub is_outside : (format : List ℕ) → LeavesProfile format → read_of (pieces_of format) ≡ Err (Left 7)
is_outside format leaves = outside_by_cases format (pieces_of format) (formats_are_read format) leaves

pub format_ends : (format : List ℕ) (end : FormatEnd) → (end ≡ Outside → LeavesProfile format) → Answers (read_of (pieces_of format)) (Err (trap_of end))
format_ends format Outside h = record { says = is_outside format (h refl) }
format_ends format ends.NoMemory h = record { says = tt }

pub formatted_from : (p : Program) (world : World) (arguments : List (Bool × Value)) (o : Option (List Piece)) (pieces given : List Piece) (got : Result Called Trap)
    → Answers (read_of o) (Ok pieces) → given ≡ pieces → Answers (formatted p world arguments (Some given)) got → Answers (formatted p world arguments o) got
formatted_from p world arguments None pieces given got h e k = absurd (cc h.says)
formatted_from p world arguments (Some all) pieces given got h e k =
    let P : List Piece → Type 0 = λ ps. Answers (formatted p world arguments (Some ps)) got in
    let same : all ≡ pieces = cc h.says in subst P (e ∙ sym same) k

-- ---- calls

pub printed_out : (p : Program) (world : World) (first : Result (List ℕ) Trap) (bytes given : List ℕ) (got : Result Called Trap) → Answers first (Ok bytes) → given ≡ bytes
    → Answers (put_out p world given (Number IntegerKind (pos (length given)))) got → Answers (then_by first (λ all. put_out p world all (Number IntegerKind (pos (length all))))) got
printed_out p world first bytes given got h e k =
    let P : List ℕ → Type 0 = λ all. Answers (put_out p world all (Number IntegerKind (pos (length all)))) got in
    then_answers first (λ all. put_out p world all (Number IntegerKind (pos (length all)))) bytes got h (subst P e k)

pub printf_from : (p : Program) (world : World) (texts : List Bool) (format : Value) (values : List Value) (at : Pointer) (bytes given : List ℕ) (got : Result Called Trap)
    → as_pointer format ≡ Ok at → misfits char_element at ≡ false → list_any is_nothing values ≡ false → Answers (text_at world.memory at) (Ok bytes) → given ≡ bytes
    → Answers (formatted p world (zip texts values) (pieces_of given)) got → Answers (printf_of p world texts (format ∷ values)) got
printf_from p world texts format values at bytes given got pointer fits all text same h =
    let f : List ℕ → Result Called Trap = λ bs. formatted p world (zip texts values) (pieces_of bs) in
    let whole : Result Called Trap = then_by (text_at world.memory at) f in
    let P : List ℕ → Type 0 = λ bs. Answers (f bs) got in
    let Q : Result Called Trap → Type 0 = λ r. Answers r got in
    let e : printf_of p world texts (format ∷ values) ≡ whole =
    ap (λ (r : Result Pointer Trap). then_by r (λ a. if_fits char_element a (if list_any is_nothing values then Err unused_value else then_by (text_at world.memory a) f))) pointer
    ∙ (ap (λ (b : Bool). if b then Err (Left 5) else (if list_any is_nothing values then Err unused_value else whole)) fits
    ∙ ap (λ (b : Bool). if b then Err unused_value else whole) all) in
    subst Q (sym e) (then_answers (text_at world.memory at) f bytes got text (subst P same h))

pub putchar_from : (p : Program) (world : World) (value : Value) (byte : ℕ) (got : Result Called Trap) → Answers (then_by (integer value) (λ char. Ok (byte_of char))) (Ok byte)
    → Answers (put_out p world (byte ∷ []) (Number IntegerKind (pos byte))) got → Answers (putchar_of p world (value ∷ [])) got
putchar_from p world value byte got h k = at_integer (integer value) h
  where
    at_integer : (r : Result ℤ Trap) → Answers (then_by r (λ char. Ok (byte_of char))) (Ok byte)
        → Answers (then_by r (λ char. put_out p world (byte_of char ∷ []) (Number IntegerKind (pos (byte_of char))))) got
    at_integer (Ok char) g =
        let P : ℕ → Type 0 = λ b. Answers (put_out p world (b ∷ []) (Number IntegerKind (pos b))) got in
        let same : byte ≡ byte_of char = cc g.says in subst P same k
    at_integer (Err trap) g = absurd (cc g.says)

pub none_left : (texts : List Bool) (values : List Value) → length values < 1 → zip texts values ≡ []
none_left [] values h = refl
none_left (t ∷ texts) [] h = refl
none_left (t ∷ texts) (v ∷ values) h = absurd (omega arith)
