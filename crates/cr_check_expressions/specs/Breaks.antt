-- Which constraints the expressions of a unit break, and which comes first.
use Rattle.std.specs.Prelude.{◌≡◌, ℕ, zero, suc, ◌-◌, ◌≤◌, ◌==◌, ◌&&◌, ◌||◌, ◌⊎◌, Bool, true, false, not, List, [], ◌∷◌, Option, None, Some, length, nat_lt, nat_le, slice_get, if◌then◌else◌}
use Rattle.std.specs.Option.{is_some}
use Rattle.cr_syntax.specs.declared.node.Node.{Node}
pub use Rattle.cr_syntax.specs.Numbered.{first_if, first_in}
use Rattle.cr_check_operands.specs.Values.{Seen}
use Rattle.cr_check_operands.specs.Places.{structure_in}
use Rattle.cr_check_expressions.specs.declared.least.Break.{Break}
use Rattle.cr_check_expressions.specs.declared.form.Form.{Form}
use Rattle.cr_check_expressions.specs.declared.form.Form.TheVariants as form
use Rattle.cr_check_expressions.specs.Forms.{form_of, row_of_integers}
use Rattle.cr_check_expressions.specs.Known.{Meaning, an_object, an_enumerator, a_function, a_type, unclear, Source}
use Rattle.cr_check_expressions.specs.Ruled.{operand, value, is_type, is_typed, member_in, pointed_structure, counts_agree, is_mispassed}

-- ---- breaks

-- the row of a table that holds no longer, at a token
abbrev pub fault : ℕ → ℕ → Bool → Option Break
fault row token broken = if broken then Some (record { token = token; row = row }) else None

-- A row is judged only where what it speaks of has types: the operands have, and what is made of them has none.
abbrev pub lacks_one : Seen → Seen → Bool
lacks_one own a = is_typed a && not (is_typed own)

abbrev pub lacks_two : Seen → Seen → Seen → Bool
lacks_two own a b = is_typed a && lacks_one own b

abbrev pub lacks_three : Seen → Seen → Seen → Seen → Bool
lacks_three own a b c = is_typed a && lacks_two own b c

-- ---- tokens

-- the token before the second part, which is an operator between two
abbrev pub between : List Node → List ℕ → ℕ
between nodes parts = first_in nodes (slice_get parts 1) - 1

-- ---- names and calls

-- K16: an identifier names neither an object nor an enumerator
abbrev pub names_no_value : Meaning → Bool
names_no_value (an_object type register) = false
names_no_value (an_enumerator value) = false
names_no_value (a_function signature) = true
names_no_value a_type = true
names_no_value unclear = false

-- K17: what is called is no function, or has another number of parameters
abbrev pub is_miscalled : Meaning → ℕ → Bool
is_miscalled (an_object type register) count = true
is_miscalled (an_enumerator value) count = true
is_miscalled (a_function signature) count = not (counts_agree signature count)
is_miscalled a_type count = true
is_miscalled unclear count = false

-- K18: an argument may not be passed to its parameter
abbrev pub mispasses : Meaning → ℕ → Seen → Bool
mispasses (a_function signature) k argument = is_mispassed (signature.parameter k) argument
mispasses (an_object type register) k argument = false
mispasses (an_enumerator value) k argument = false
mispasses a_type k argument = false
mispasses unclear k argument = false

abbrev pub argument_fault : List Node → Meaning → (ℕ → Seen) → List ℕ → ℕ → Option Break
argument_fault nodes meaning argument parts k = fault 18 (first_in nodes (slice_get parts k)) (mispasses meaning k (argument k))

-- of the first so many arguments
abbrev pub argument_faults : (ℕ → Option Break) → ℕ → List (Option Break)
argument_faults each zero = []
argument_faults each (suc k) = each k ∷ argument_faults each k

abbrev pub passing_faults : List Node → Meaning → (ℕ → Seen) → List ℕ → List (Option Break)
passing_faults nodes meaning argument parts = argument_faults (argument_fault nodes meaning argument parts) (length parts)

-- a call, whose name stands at a token
unfoldable pub call_faults : List Node → Meaning → (ℕ → Seen) → ℕ → List ℕ → List (Option Break)
call_faults nodes meaning argument first parts =
    fault 17 first (is_miscalled meaning (length parts)) ∷ passing_faults nodes meaning argument parts

-- ---- the table: what a node of a form breaks, by what it has itself and what the nodes before it have

-- operators of two or three operands
abbrev pub combined_faults : Form → Seen → (ℕ → Seen) → List Node → List ℕ → List (Option Break)
combined_faults form.Subscript own at nodes parts = fault 19 (between nodes parts) (lacks_two own (operand at parts 0) (operand at parts 1)) ∷ []
combined_faults (form.Integers operator) own at nodes parts =
    fault (row_of_integers operator) (between nodes parts) (lacks_two own (operand at parts 0) (operand at parts 1)) ∷ []
combined_faults form.Sum own at nodes parts = fault 29 (between nodes parts) (lacks_two own (operand at parts 0) (operand at parts 1)) ∷ []
combined_faults form.Difference own at nodes parts = fault 30 (between nodes parts) (lacks_two own (operand at parts 0) (operand at parts 1)) ∷ []
combined_faults (form.Shifted operator) own at nodes parts =
    fault 31 (between nodes parts) (lacks_two own (operand at parts 0) (operand at parts 1)) ∷ []
combined_faults (form.Order operator) own at nodes parts =
    fault 32 (between nodes parts) (lacks_two own (operand at parts 0) (operand at parts 1)) ∷ []
combined_faults (form.Equality operator) own at nodes parts =
    fault 33 (between nodes parts) (lacks_two own (operand at parts 0) (operand at parts 1)) ∷ []
combined_faults (form.Logical operator) own at nodes parts =
    fault 35 (between nodes parts) (lacks_two own (operand at parts 0) (operand at parts 1)) ∷ []
combined_faults form.Conditional own at nodes parts =
    fault 36 (between nodes parts) (lacks_three own (operand at parts 0) (operand at parts 1) (operand at parts 2)) ∷ []
combined_faults form.Assign own at nodes parts = fault 37 (between nodes parts) (lacks_two own (operand at parts 0) (operand at parts 1)) ∷ []
combined_faults (form.Compound moves) own at nodes parts =
    fault 37 (between nodes parts) (lacks_two own (operand at parts 0) (operand at parts 1)) ∷ []
combined_faults f own at nodes parts = []

abbrev pub faults_in : Form → Seen → (ℕ → Seen) → Source → ℕ → Node → List (Option Break)
faults_in form.Name own at s i n = fault 16 n.first (names_no_value (s.stands i)) ∷ []
faults_in form.Call own at s i n = call_faults s.nodes (s.stands i) (operand at n.parts) n.first n.parts
faults_in form.Member own at s i n =
    fault 20 (n.last - 1) (is_typed (operand at n.parts 0) && not (is_some (member_in s i n.last (structure_in (operand at n.parts 0).type)))) ∷ []
faults_in form.PointerMember own at s i n =
    fault 21 (n.last - 1) (is_typed (operand at n.parts 0) && not (is_some (member_in s i n.last (pointed_structure (value at n.parts 0))))) ∷ []
faults_in form.StepBehind own at s i n = fault 22 n.last (lacks_one own (operand at n.parts 0)) ∷ []
faults_in form.StepBefore own at s i n = fault 22 n.first (lacks_one own (operand at n.parts 0)) ∷ []
faults_in form.Address own at s i n = fault 23 n.first (lacks_one own (operand at n.parts 0)) ∷ []
faults_in form.Dereference own at s i n = fault 24 n.first (lacks_one own (operand at n.parts 0)) ∷ []
faults_in (form.Signed operator) own at s i n = fault 25 n.first (lacks_one own (operand at n.parts 0)) ∷ []
faults_in form.Negated own at s i n = fault 25 n.first (lacks_one own (operand at n.parts 0)) ∷ []
faults_in form.SizeofExpression own at s i n = fault 26 n.first (lacks_one own (operand at n.parts 0)) ∷ []
faults_in form.SizeofType own at s i n = fault 26 n.first (is_type (s.named (slice_get n.parts 0)) && not (is_typed own)) ∷ []
faults_in form.Cast own at s i n = fault 27 n.first (is_type (s.named (slice_get n.parts 0)) && lacks_one own (operand at n.parts 1)) ∷ []
faults_in f own at s i n = combined_faults f own at s.nodes n.parts

abbrev pub faults_if : Option Node → Seen → (ℕ → Seen) → Source → ℕ → List (Option Break)
faults_if None own at s i = []
faults_if (Some n) own at s i = faults_in (form_of n.kind) own at s i n

-- ---- the first break

-- by tokens, and at one token by rows
pub record ComesFirst (b c : Break) : Type 0 where
  pub token : b.token ≤ c.token
  pub row : b.token ≡ c.token → b.row ≤ c.row

-- of the breaks that there are this one comes first
pub record IsFirstOf (is_there : Break → Type 0) (b : Break) : Type 0 where
  pub is : is_there b
  pub first : (c : Break) → is_there c → ComesFirst b c

-- the first of the breaks that there are, or None where there are none
abbrev pub IsFirst : (Break → Type 0) → Option Break → Type 0
IsFirst is_there None = (b : Break) → is_there b → ⊥
IsFirst is_there (Some b) = IsFirstOf is_there b

abbrev pub IsAmong : List (Option Break) → Break → Type 0
IsAmong [] b = ⊥
IsAmong (x ∷ xs) b = (x ≡ Some b) ⊎ IsAmong xs b

-- ---- two breaks, and several

abbrev pub comes_first : Break → Break → Bool
comes_first b c = nat_lt b.token c.token || (b.token == c.token && nat_le b.row c.row)

abbrev pub lesser : Option Break → Option Break → Option Break
lesser None second = second
lesser (Some b) None = Some b
lesser (Some b) (Some c) = if comes_first b c then Some b else Some c

abbrev pub first_of : List (Option Break) → Option Break
first_of [] = None
first_of (x ∷ xs) = lesser x (first_of xs)
