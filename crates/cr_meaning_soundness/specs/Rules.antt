-- What the operations of a program must be: the sort of each node by those of its parts (C11 6.5, 6.7.9, 6.8, 6.9.1).
use Rattle.std.specs.Prelude.{◌≡◌, ℕ, suc, ◌+◌, ◌^◌, ◌<◌, ◌≤◌, ◌%◌, Bool, true, Option, Some, List, [], ◌∷◌, length, take, drop, slice_get}
use Rattle.cr_ints.specs.declared.kind.IntKind.TheVariants.{Int as IntegerKind, Long as LongKind}
use Rattle.cr_ints.specs.IntKind.{Represents}
use Rattle.cr_memory.specs.declared.value.Scalar.{Scalar}
use Rattle.cr_meaning.specs.World.{Program}
use Rattle.cr_meaning.specs.Values.{kinds_in}
use Rattle.cr_meaning.specs.declared.op.Op.{Op}
use Rattle.cr_meaning.specs.declared.op.Form.{Form}
use Rattle.cr_meaning.specs.declared.op.Form.TheVariants as form
use Rattle.cr_meaning.specs.declared.op.Access.{Access}
use Rattle.cr_meaning.specs.declared.op.Access.TheVariants as access
use Rattle.cr_meaning.specs.declared.op.Parameter.{Parameter}
use Rattle.cr_meaning.specs.declared.op.Callee.{Callee}
use Rattle.cr_meaning.specs.declared.op.Callee.TheVariants.{Function, Printf, Putchar, Exit, Abort}
use Rattle.cr_meaning.specs.declared.op.Change.{Change}
use Rattle.cr_meaning.specs.declared.op.Change.TheVariants.{Arithmetic, Move}
use Rattle.cr_meaning.specs.declared.op.Work.{Work}
use Rattle.cr_meaning.specs.declared.op.Work.TheVariants as work
use Rattle.cr_meaning_soundness.specs.Sorts.{Exits, Sort, number, pointer, place, cells, chars, statement, sort_of_scalar, sort_of, sorts_in, AreChars, IsAmong}
use Rattle.cr_meaning_soundness.specs.Statements.{Has, HasSort, MayHaveSort, of_function, in_loop, in_block, in_switch, IsStatement, HasResult, Converts, sorts_of, AreLines}

-- ---- expressions

-- the place of an element of so many cells, as the node uses it (6.3.2.1p2, p3): an array has whole elements
abbrev pub Uses : Program → Access → ℕ → Sort → Type 0
Uses p access.Unused count own = own ≡ place count
Uses p (access.Scalar kind volatile) count own = own ≡ sort_of_scalar kind
Uses p (access.Cells row) count own = own ≡ cells (p.kinds row)
Uses p (access.Array element whole) count own = (own ≡ pointer) × (1 ≤ element.cells) × (count % element.cells ≡ 0)

-- a cast to void drops any value (6.3.2.2)
abbrev pub Casts : Program → Form → Sort → Type 0
Casts p form.Void sort = Unit {0}
Casts p other sort = Converts p other sort

-- the place of an object that a node declares; of a literal it may be that of an array of char as a whole
abbrev pub GivesObject : Program → Access → ℕ → Sort → Type 0
GivesObject p use_of node chars = (use_of ≡ access.Unused) × AreChars (p.shape node)
GivesObject p use_of node own = Uses p use_of (length (p.shape node)) own

-- brackets: a place is used as the node says, and a value is handed on
abbrev pub Passes : Program → Access → Sort → Sort → Type 0
Passes p access own (place count) = Uses p access count own
Passes p access own chars = ⊥
Passes p access own sort = sort ≡ own

-- a member lies within its structure, and has a cell at least
pub record IsWithin (whole before count : ℕ) : Type 0 where
  pub some : 1 ≤ count
  pub within : before + count ≤ whole

-- of a structure that is no lvalue the member's cells are among its cells
pub record IsMember (p : Program) (before count : ℕ) (form : Form) (kinds : List Scalar) (own : Sort) : Type 0 where
  pub among : take count (drop before kinds) ≡ kinds_in p form
  pub own_is : own ≡ sort_of p form

abbrev pub HasMember : Program → Access → ℕ → ℕ → ℕ → Form → Sort → Sort → Type 0
HasMember p access whole before count form own (place size) = IsWithin whole before count × Uses p access count own
HasMember p access whole before count form own (cells kinds) = IsMember p before count form kinds own
HasMember p access whole before count form own chars = ⊥
HasMember p access whole before count form own sort = Unit {0}

abbrev pub changed_sort : Change → Sort
changed_sort (Arithmetic op kind) = number kind
changed_sort (Move back count) = pointer

-- the arguments, one for each parameter: they are converted as if by assignment, and the parameter's object has the cells of its
-- type (6.5.2.2p7, 6.9.1p10)
abbrev pub AreArguments : Program → (ℕ → Option Sort) → Op → ℕ → List Parameter → Type 0
AreArguments p sorts op k [] = Unit {0}
AreArguments p sorts op k (parameter ∷ rest) =
    ((sorts_in (p.shape parameter.node) ≡ sorts_of p parameter.form) × Has sorts op k (Converts p parameter.form)) × AreArguments p sorts op (suc k) rest

-- a call of the program's function: its body is a statement, whose `return`s give the call's value (6.9.1p10, p12)
pub record IsFunctionCall (p : Program) (sorts : ℕ → Option Sort) (op : Op) (parameters : List Parameter) (rest : ℕ) (is_main : Bool) (own : Sort) : Type 0 where
  pub result : Form
  pub own_is : own ≡ sort_of p result
  pub body : sorts rest ≡ Some (statement (of_function result))
  pub main : is_main ≡ true → result ≡ form.Number IntegerKind
  pub arguments : AreArguments p sorts op 0 parameters

-- `printf` gives how many bytes it printed, which is a number of `int` where the output's limit is one (7.21.6.3p3); `exit` and
-- `abort` give nothing back
abbrev pub CallGives : Program → (ℕ → Option Sort) → Op → Callee → Sort → Type 0
CallGives p sorts op (Printf texts) own = (own ≡ number IntegerKind) × (p.limits.output < 2 ^ 31)
CallGives p sorts op Putchar own = own ≡ number IntegerKind
CallGives p sorts op Exit own = Unit {0}
CallGives p sorts op Abort own = Unit {0}
CallGives p sorts op (Function parameters rest is_main) own = IsFunctionCall p sorts op parameters rest is_main own

-- what an expression gives, by its work and its operands
abbrev pub Computes : Program → (ℕ → Option Sort) → Op → Work → Sort → Type 0
Computes p sorts op (work.Constant kind value) own = (own ≡ number kind) × Represents kind value
Computes p sorts op (work.Object node of) own = (1 ≤ length (p.shape node)) × GivesObject p op.access node own
Computes p sorts op work.Pass own = Has sorts op 0 (Passes p op.access own)
Computes p sorts op work.Comma own = Has sorts op 1 (λ sort. sort ≡ own)
Computes p sorts op (work.Conditional form) own = ((own ≡ sort_of p form) × Has sorts op 1 (Converts p form)) × Has sorts op 2 (Converts p form)
Computes p sorts op work.LogicalAnd own = own ≡ number IntegerKind
Computes p sorts op work.LogicalOr own = own ≡ number IntegerKind
Computes p sorts op (work.Binary change) own = own ≡ changed_sort change
Computes p sorts op (work.Compare relation kind) own = own ≡ number IntegerKind
Computes p sorts op (work.ComparePointers relation) own = own ≡ number IntegerKind
Computes p sorts op (work.Distance element) own = own ≡ number LongKind
Computes p sorts op (work.Unary sign kind) own = own ≡ number kind
Computes p sorts op work.Not own = own ≡ number IntegerKind
Computes p sorts op (work.Cast form) own = (own ≡ sort_of p form) × Has sorts op 0 (Casts p form)
Computes p sorts op work.AddressOf own = own ≡ pointer
Computes p sorts op (work.Dereference element) own = Uses p op.access element.cells own
Computes p sorts op (work.Subscript element) own = Uses p op.access element.cells own
Computes p sorts op (work.Member whole before member form) own = Has sorts op 0 (HasMember p op.access whole before member.cells form own)
Computes p sorts op (work.PointerMember whole before member) own = IsWithin whole.cells before member.cells × Uses p op.access member.cells own
Computes p sorts op (work.Assign form) own = (own ≡ sort_of p form) × Has sorts op 1 (Converts p form)
Computes p sorts op (work.Update change form volatile post) own = own ≡ sort_of p form
Computes p sorts op (work.Call callee) own = CallGives p sorts op callee own
Computes p sorts op other own = ⊥

-- ---- statements

-- all parts from a number on have this sort
abbrev pub AllFrom : (ℕ → Option Sort) → Op → ℕ → Sort → Type 0
AllFrom sorts op first sort = (k : ℕ) → first ≤ k → Has sorts op k (λ each. each ≡ sort)

-- the clauses of a `for`, and its body, which stands in the loop
pub record IsFor (sorts : ℕ → Option Sort) (first control step : Option ℕ) (rest : ℕ) (exits : Exits) : Type 0 where
  pub first_has : MayHaveSort sorts first
  pub control_has : MayHaveSort sorts control
  pub step_has : MayHaveSort sorts step
  pub body : sorts rest ≡ Some (statement (in_loop exits))

-- ---- all nodes but the whole program

-- what a node gives: a statement or a declaration leaves it as it may, and an expression gives a value
abbrev pub IsValue : Sort → Type 0
IsValue (statement exits) = ⊥
IsValue sort = Unit {0}

-- expression statements, selection, loops (6.8.3, 6.8.4, 6.8.5); blocks, labels and jumps (6.8.1, 6.8.2, 6.8.6); declarations
-- (6.7, 6.7.9); the whole program is said of by itself; and expressions
abbrev pub Gives : Program → (ℕ → Option Sort) → Op → Work → Sort → Type 0
Gives p sorts op work.Expression own = IsStatement own (λ exits. Unit {0})
Gives p sorts op work.If own = IsStatement own (λ exits. Has sorts op 1 (λ each. each ≡ statement exits) × Has sorts op 2 (λ each. each ≡ statement exits))
Gives p sorts op work.While own = IsStatement own (λ exits. Has sorts op 1 (λ each. each ≡ statement (in_loop exits)))
Gives p sorts op work.Do own = IsStatement own (λ exits. Has sorts op 0 (λ each. each ≡ statement (in_loop exits)))
Gives p sorts op (work.For objects first control step rest) own = IsStatement own (IsFor sorts first control step rest)
Gives p sorts op (work.Switch kind rest objects cases other labels) own =
    IsStatement own (λ exits. (1 ≤ length op.parts) × AllFrom sorts op 1 (statement (in_switch labels exits)))
Gives p sorts op (work.Block objects labels) own = IsStatement own (λ exits. AllFrom sorts op 0 (statement (in_block labels exits)))
Gives p sorts op work.Labelled own = IsStatement own (λ exits. AllFrom sorts op 0 (statement exits))
Gives p sorts op work.Break own = IsStatement own (λ exits. exits.breaks ≡ true)
Gives p sorts op work.Continue own = IsStatement own (λ exits. exits.continues ≡ true)
Gives p sorts op (work.Goto label) own = IsStatement own (λ exits. IsAmong label exits.labels)
Gives p sorts op (work.Return form) own = IsStatement own (λ exits. ((exits.result ≡ form) × HasResult op.parts form) × Has sorts op 0 (Converts p form))
Gives p sorts op work.Declaration own = IsStatement own (λ exits. Unit {0})
Gives p sorts op (work.Declare node) own = IsStatement own (λ exits. Unit {0})
Gives p sorts op (work.Initialise node lines) own = IsStatement own (λ exits. AreLines p sorts op node 0 lines)
Gives p sorts op (work.Program objects parameters strings rest) own = ⊥
Gives p sorts op other own = IsValue own × Computes p sorts op other own

-- the operation gives its sort, and its parts have some
pub record IsTyped (p : Program) (sorts : ℕ → Option Sort) (op : Op) (own : Sort) : Type 0 where
  pub gives : Gives p sorts op op.work own
  pub parts : (k node : ℕ) → slice_get op.parts k ≡ Some node → HasSort sorts node

-- sorts of nodes, which their operations agree with; a node without a sort is no part of any that has one
abbrev pub AreTyped : Program → (ℕ → Option Sort) → Type 0
AreTyped p sorts = (node : ℕ) (op : Op) (own : Sort) → sorts node ≡ Some own → slice_get p.ops node ≡ Some op → IsTyped p sorts op own
