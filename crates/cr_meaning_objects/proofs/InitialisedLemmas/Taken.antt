-- What an expression gives that breaks neither K13 nor K37 where it initialises a part of an object.
use Rattle.std.proofs.Common.{◌≡◌, ℕ, zero, suc, Bool, true, false, not, ◌&&◌, ◌||◌, [], ◌∷◌, length, map, refl, sym, subst}
use Rattle.std.specs.List.{AllByRecursion}
use Rattle.std.proofs.lemmas.Bool.{false≢true, and_parts}
use Rattle.cr_ints.specs.declared.kind.IntKind.{IntKind}
use Rattle.cr_ints.specs.declared.kind.IntKind.TheVariants.{Char, SChar, UChar}
use Rattle.cr_memory.specs.declared.value.Scalar.{Scalar}
use Rattle.cr_memory.specs.declared.value.Scalar.TheVariants as scalar
use Rattle.cr_memory.specs.declared.value.Guard.{Guard}
use Rattle.cr_syntax.specs.declared.ctype.CType.TheVariants.{Int, Struct, Unknown}
use Rattle.cr_typed.specs.declared.typed.Typed.{Typed}
use Rattle.cr_check_constants.specs.declared.constant.Constant.TheVariants.{NotConstant}
use Rattle.cr_check_types.specs.Types.{Qualified, plain, pointer as to, array, type_at}
use Rattle.cr_check_operands.specs.Values.{value_in, value_of_seen}
use Rattle.cr_check_operands.specs.Rules.{assignable}
use Rattle.cr_check_initialisers.specs.Known.{Known}
use Rattle.cr_check_initialisers.specs.Anchors.{is_array}
use Rattle.cr_check_initialisers.specs.Places.{is_char_kind, is_char, is_unknown}
use Rattle.cr_check_initialisers.specs.Plans.{count_in}
use Rattle.cr_check_initialisers.specs.Faults.{has_room, suits, is_badly_typed, is_bad_literal}
use Rattle.cr_meaning.specs.World.{Program}
use Rattle.cr_meaning.specs.declared.op.Form.{Form}
use Rattle.cr_meaning.specs.declared.run.Limits.{Limits}
use Rattle.cr_meaning_soundness.specs.Sorts.{chars, sort_of_scalar}
use Rattle.cr_meaning_soundness.specs.Statements.{IsCharacter}
use Rattle.cr_meaning_operations.specs.Shapes.{form_by, form_of, guard_of, cells_with, structure_cells, repeated}
use Rattle.cr_meaning_operations.specs.Operations.{program_of}
use Rattle.cr_meaning_typing.specs.Typed.Typing.{has_value}
use Rattle.cr_meaning_typing.specs.Expressions.Used.{used_sort}
use Rattle.cr_meaning_typing.specs.Calls.Calls.{Takes}
use Rattle.cr_meaning_typing.proofs.CallsLemmas.Arguments.{IsPassedTo, passed_to}
use Rattle.cr_meaning_objects.specs.Initialised.Taken.{IsTaken, IsHeld}

-- ---- K13 and K37

known_type : (type : Qualified) → has_value type ≡ true → is_unknown type ≡ false
known_type (plain Unknown c v) h = absurd (false≢true h)
known_type (plain of c v) h = refl
known_type (to c v below) h = refl
known_type (array n below) h = refl

-- a number or a structure takes no literal (K13), so another expression is assignable to it (K37)
assigned : (literal suits unknown : Bool) → unknown ≡ false → (literal && true) ≡ false → (not unknown && ((not literal || false) && not suits)) ≡ false → suits ≡ true
assigned true s u e h g = absurd (false≢true (sym h))
assigned false true u e h g = refl
assigned false false true e h g = absurd (false≢true (sym e))
assigned false false false e h g = absurd (false≢true (sym g))

-- a literal is assignable to a pointer too
assigned_pointer : (literal suits unknown : Bool) → unknown ≡ false → (not unknown && ((not literal || true) && not suits)) ≡ false → suits ≡ true
assigned_pointer l true u e g = refl
assigned_pointer l false true e g = absurd (false≢true (sym e))
assigned_pointer true false false e g = absurd (false≢true (sym g))
assigned_pointer false false false e g = absurd (false≢true (sym g))

-- an array takes a literal alone (K37), and is one of characters then (K13)
of_characters : (literal characters unknown : Bool) → unknown ≡ false → (not unknown && ((not literal || false) && true)) ≡ false → (literal && not characters) ≡ false → characters ≡ true
of_characters l true u e g h = refl
of_characters l false true e g h = absurd (false≢true (sym e))
of_characters true false false e g h = absurd (false≢true (sym h))
of_characters false false false e g h = absurd (false≢true (sym g))

module _ (k : Known) (node : ℕ) (h : has_value (k.seen node).type ≡ true) where
  worth : is_unknown (k.seen node).type ≡ false
  worth = known_type (k.seen node).type h

  pub assignable_to : (type : Qualified) → IsHeld type → is_array type ≡ false → is_badly_typed k type node ≡ false → is_bad_literal k type node ≡ false
      → assignable (value_in type NotConstant) (value_of_seen (k.seen node)) ≡ true
  assignable_to (plain (Int kind) c v) held a typed literal = assigned (k.literal node) (suits (plain (Int kind) c v) (value_of_seen (k.seen node))) (is_unknown (k.seen node).type) worth literal typed
  assignable_to (plain (Struct s) c v) held a typed literal = assigned (k.literal node) (suits (plain (Struct s) c v) (value_of_seen (k.seen node))) (is_unknown (k.seen node).type) worth literal typed
  assignable_to (plain of c v) held a typed literal = absurd held
  assignable_to (to c v below) held a typed literal = assigned_pointer (k.literal node) (suits (to c v below) (value_of_seen (k.seen node))) (is_unknown (k.seen node).type) worth typed
  assignable_to (array n below) held a typed literal = absurd (false≢true (sym a))

  pub characters : (n : ℕ) (below : Qualified) → is_badly_typed k (array n below) node ≡ false → is_bad_literal k (array n below) node ≡ false → is_char below ≡ true
  characters n below typed literal =
      let room : Bool = has_room n (count_in (k.seen node).type) in
      (and_parts (is_char below) room (of_characters (k.literal node) (is_char below && room) (is_unknown (k.seen node).type) worth typed literal)).0

-- ---- the cells of an array of characters

repeated_characters : (n : ℕ) (own : Scalar × Guard) → IsCharacter (sort_of_scalar own.0) → AllByRecursion IsCharacter (map sort_of_scalar (map (λ own. own.0) (repeated n (own ∷ []))))
repeated_characters zero own h = tt
repeated_characters (suc n) own h = (h, repeated_characters n own h)

character : (kind : IntKind) → is_char_kind kind ≡ true → IsCharacter (sort_of_scalar (scalar.Int kind))
character Char e = tt
character SChar e = tt
character UChar e = tt
character kind e = absurd (false≢true e)

array_characters : (t : Typed) (n : ℕ) (below : Qualified) → is_char below ≡ true
    → AllByRecursion IsCharacter (map sort_of_scalar (map (λ own. own.0) (cells_with (structure_cells (length t.nodes) t) t false (array n below))))
array_characters t n (plain (Int kind) c v) e = repeated_characters n (scalar.Int kind, guard_of (false || c)) (character kind e)
array_characters t n (plain of c v) e = absurd (false≢true e)
array_characters t n (to c v below) e = absurd (false≢true e)
array_characters t n (array m below) e = absurd (false≢true e)

-- ---- sorts

-- a value is neither a place nor a literal
value_taken : (p : Program) (form : Form) (lvalue : Bool) (row : ℕ) (type : Qualified) → IsPassedTo p form (used_sort p lvalue row type) → IsTaken p form (used_sort p lvalue row type)
value_taken p form true row (plain (Int kind) c v) h = record { initialises = h.converts; initial = h.converted }
value_taken p form true row (plain (Struct node) c v) h = record { initialises = h.converts; initial = h.converted }
value_taken p form true row (plain of c v) h = record { initialises = h.converts; initial = h.converted }
value_taken p form true row (to c v below) h = record { initialises = h.converts; initial = h.converted }
value_taken p form true row (array n below) h = record { initialises = h.converts; initial = h.converted }
value_taken p form false row (plain (Int kind) c v) h = record { initialises = h.converts; initial = h.converted }
value_taken p form false row (plain (Struct node) c v) h = record { initialises = h.converts; initial = h.converted }
value_taken p form false row (plain of c v) h = record { initialises = h.converts; initial = h.converted }
value_taken p form false row (to c v below) h = record { initialises = h.converts; initial = h.converted }
value_taken p form false row (array n below) h = record { initialises = h.converts; initial = h.converted }

takes_own : (t : Typed) (row : ℕ) (type : Qualified) → type_at t.shapes row ≡ type → IsHeld type → is_array type ≡ false → Takes t (form_by t row type) type
takes_own t row (plain (Int kind) c v) e held a = refl
takes_own t row (plain (Struct node) c v) e held a = (c, (v, e))
takes_own t row (plain of c v) e held a = absurd held
takes_own t row (to c v below) e held a = tt
takes_own t row (array n below) e held a = absurd (false≢true (sym a))

chars_taken : (t : Typed) (limits : Limits) (k : Known) (row node : ℕ) (type : Qualified) → type_at t.shapes row ≡ type → has_value (k.seen node).type ≡ true
    → is_badly_typed k type node ≡ false → is_bad_literal k type node ≡ false → is_array type ≡ true → IsTaken (program_of t limits) (form_by t row type) chars
chars_taken t limits k row node (plain of c v) e h typed literal a = absurd (false≢true a)
chars_taken t limits k row node (to c v below) e h typed literal a = absurd (false≢true a)
chars_taken t limits k row node (array n below) e h typed literal a = record {
  initialises = subst (λ type. AllByRecursion IsCharacter (map sort_of_scalar (map (λ own. own.0) (cells_with (structure_cells (length t.nodes) t) t false type)))) (sym e)
      (array_characters t n below (characters k node h n below typed literal));
  initial = tt;
}

pub taken : (t : Typed) (limits : Limits) (k : Known) (row node used : ℕ) → IsHeld (type_at t.shapes row) → has_value (k.seen node).type ≡ true
    → is_badly_typed k (type_at t.shapes row) node ≡ false → is_bad_literal k (type_at t.shapes row) node ≡ false
    → (is_array (type_at t.shapes row) ≡ true → IsTaken (program_of t limits) (form_of t row) chars)
    × (is_array (type_at t.shapes row) ≡ false → type_at t.shapes used ≡ (k.seen node).type
    → IsTaken (program_of t limits) (form_of t row) (used_sort (program_of t limits) (k.seen node).lvalue used (k.seen node).type))
taken t limits k row node used held h typed literal = (
  chars_taken t limits k row node (type_at t.shapes row) refl h typed literal,
  λ a e. value_taken (program_of t limits) (form_of t row) (k.seen node).lvalue used (k.seen node).type
      (passed_to t limits (form_of t row) (type_at t.shapes row) used (k.seen node) (takes_own t row (type_at t.shapes row) refl held a) e
      (assignable_to k node h (type_at t.shapes row) held a typed literal)),
)
