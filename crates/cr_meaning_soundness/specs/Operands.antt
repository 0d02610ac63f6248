-- The operands that operations take (C11 6.5, 6.7.9, 6.8): with others a run may come to an end that is none of a program's.
use Rattle.std.specs.Prelude.{◌≡◌, ℕ, suc, Bool, true, false, Option, Some, List, [], ◌∷◌, length, slice_get, ◌⊎◌}
use Rattle.cr_meaning.specs.World.{Program}
use Rattle.cr_meaning.specs.declared.op.Op.{Op}
use Rattle.cr_meaning.specs.declared.op.Form.{Form}
use Rattle.cr_meaning.specs.declared.op.Form.TheVariants as form
use Rattle.cr_meaning.specs.declared.op.Parameter.{Parameter}
use Rattle.cr_meaning.specs.declared.op.Line.{Line}
use Rattle.cr_meaning.specs.declared.op.Callee.{Callee}
use Rattle.cr_meaning.specs.declared.op.Callee.TheVariants.{Function, Printf, Putchar, Exit, Abort}
use Rattle.cr_meaning.specs.declared.op.Change.{Change}
use Rattle.cr_meaning.specs.declared.op.Change.TheVariants.{Arithmetic, Move}
use Rattle.cr_meaning.specs.declared.op.Work.{Work}
use Rattle.cr_meaning.specs.declared.op.Work.TheVariants as work
use Rattle.cr_meaning_soundness.specs.Sorts.{Sort, number, pointer, place, cells, chars}
use Rattle.cr_meaning_soundness.specs.Statements.{Has}

-- ---- sorts of operands

abbrev pub IsNumber : Sort → Type 0
IsNumber (number kind) = Unit {0}
IsNumber sort = ⊥

abbrev pub IsPointerSort : Sort → Type 0
IsPointerSort pointer = Unit {0}
IsPointerSort sort = ⊥

-- scalars (6.2.5p21)
abbrev pub IsScalar : Sort → Type 0
IsScalar (number kind) = Unit {0}
IsScalar pointer = Unit {0}
IsScalar sort = ⊥

abbrev pub IsPlaceSort : Sort → Type 0
IsPlaceSort (place count) = Unit {0}
IsPlaceSort sort = ⊥

-- a structure, in its place or as a value (6.5.2.3p1)
abbrev pub IsStructure : Sort → Type 0
IsStructure (place count) = Unit {0}
IsStructure (cells kinds) = Unit {0}
IsStructure sort = ⊥

-- only scalars are converted to scalars (6.5.16.1p1); what may become a structure, or void, the rules of sorts say
abbrev pub IsConverted : Form → Sort → Type 0
IsConverted form.Void sort = Unit {0}
IsConverted (form.Cells row) sort = Unit {0}
IsConverted form sort = IsScalar sort

-- ---- operands

abbrev pub Takes : (ℕ → Option Sort) → Op → (Sort → Type 0) → Type 0
Takes sorts op P = (length op.parts ≡ 1) × Has sorts op 0 P

abbrev pub TakesBoth : (ℕ → Option Sort) → Op → (Sort → Type 0) → (Sort → Type 0) → Type 0
TakesBoth sorts op P Q = ((length op.parts ≡ 2) × Has sorts op 0 P) × Has sorts op 1 Q

-- an operator's operands (6.5.5p2, 6.5.6p2, p3, 6.5.7p2, 6.5.10p2 to 6.5.12p2): a pointer is moved by an integer, which may stand before it
abbrev pub TakesChange : (ℕ → Option Sort) → Op → Change → Type 0
TakesChange sorts op (Arithmetic operator kind) = TakesBoth sorts op IsNumber IsNumber
TakesChange sorts op (Move back count) = TakesBoth sorts op IsPointerSort IsNumber ⊎ TakesBoth sorts op IsNumber IsPointerSort

-- what is changed in its place (6.5.3.1p1, 6.5.16.2p1, p2)
abbrev pub IsChanged : Change → Form → Type 0
IsChanged (Arithmetic operator kind) (form.Number own) = Unit {0}
IsChanged (Move back count) (form.Pointer to) = Unit {0}
IsChanged change form = ⊥

abbrev pub TakesUpdate : (ℕ → Option Sort) → Op → Change → Form → Type 0
TakesUpdate sorts op change form = IsChanged change form × (Takes sorts op IsPlaceSort ⊎ TakesBoth sorts op IsPlaceSort IsNumber)

-- a type of objects: any but void
abbrev pub IsObjectForm : Form → Type 0
IsObjectForm form.Void = ⊥
IsObjectForm form = Unit {0}

-- as many arguments as parameters, each assignable to its parameter (6.5.2.2p2)
abbrev pub TakesArguments : (ℕ → Option Sort) → Op → ℕ → List Parameter → Type 0
TakesArguments sorts op k [] = length op.parts ≡ k
TakesArguments sorts op k (parameter ∷ rest) = Has sorts op k (IsConverted parameter.form) × TakesArguments sorts op (suc k) rest

abbrev pub TakesCall : (ℕ → Option Sort) → Op → Callee → Type 0
TakesCall sorts op (Function parameters rest is_main) = TakesArguments sorts op 0 parameters
TakesCall sorts op (Printf texts) = (count : ℕ) × ((length op.parts ≡ suc count) × Has sorts op 0 IsScalar)
TakesCall sorts op Putchar = Takes sorts op IsNumber
TakesCall sorts op Exit = Takes sorts op IsNumber
TakesCall sorts op Abort = Unit {0}

-- each initialiser but a literal is assignable to its part (6.7.9p11)
abbrev pub IsInitial : Form → Sort → Type 0
IsInitial form chars = Unit {0}
IsInitial form sort = IsConverted form sort

abbrev pub TakeLines : (ℕ → Option Sort) → Op → ℕ → List Line → Type 0
TakeLines sorts op k [] = Unit {0}
TakeLines sorts op k (line ∷ lines) = Has sorts op k (IsInitial line.form) × TakeLines sorts op (suc k) lines

-- ---- all nodes: their operands, and the objects that they name

abbrev pub Demands : (ℕ → Option Sort) → (ℕ → Bool) → Op → Work → Type 0
Demands sorts sees op (work.Constant kind value) = length op.parts ≡ 0
Demands sorts sees op (work.Object declared of) = (length op.parts ≡ 0) × (sees declared ≡ true)
Demands sorts sees op work.Pass = length op.parts ≡ 1
Demands sorts sees op work.Comma = length op.parts ≡ 2
Demands sorts sees op (work.Conditional form) = (((length op.parts ≡ 3) × Has sorts op 0 IsScalar) × Has sorts op 1 (IsConverted form)) × Has sorts op 2 (IsConverted form)
Demands sorts sees op work.LogicalAnd = TakesBoth sorts op IsScalar IsScalar
Demands sorts sees op work.LogicalOr = TakesBoth sorts op IsScalar IsScalar
Demands sorts sees op (work.Binary change) = TakesChange sorts op change
Demands sorts sees op (work.Compare relation kind) = TakesBoth sorts op IsNumber IsNumber
Demands sorts sees op (work.ComparePointers relation) = TakesBoth sorts op IsScalar IsScalar
Demands sorts sees op (work.Distance count) = TakesBoth sorts op IsPointerSort IsPointerSort
Demands sorts sees op (work.Unary sign kind) = Takes sorts op IsNumber
Demands sorts sees op work.Not = Takes sorts op IsScalar
Demands sorts sees op (work.Cast form) = Takes sorts op (IsConverted form)
Demands sorts sees op work.AddressOf = Takes sorts op IsPlaceSort
Demands sorts sees op (work.Dereference count) = Takes sorts op IsPointerSort
Demands sorts sees op (work.Subscript count) = TakesChange sorts op (Move false count)
Demands sorts sees op (work.Member whole before count form) = IsObjectForm form × Takes sorts op IsStructure
Demands sorts sees op (work.PointerMember whole before count) = Takes sorts op IsPointerSort
Demands sorts sees op (work.Assign form) = IsObjectForm form × TakesBoth sorts op IsPlaceSort (IsConverted form)
Demands sorts sees op (work.Update change form volatile post) = TakesUpdate sorts op change form
Demands sorts sees op (work.Call callee) = TakesCall sorts op callee
Demands sorts sees op work.If = Has sorts op 0 IsScalar
Demands sorts sees op work.While = Has sorts op 0 IsScalar
Demands sorts sees op work.Do = Has sorts op 1 IsScalar
Demands sorts sees op (work.For objects first control step rest) = (node : ℕ) (sort : Sort) → control ≡ Some node → sorts node ≡ Some sort → IsScalar sort
Demands sorts sees op (work.Switch kind rest objects cases other labels) = Has sorts op 0 IsNumber
Demands sorts sees op (work.Return form) = Has sorts op 0 (IsConverted form)
Demands sorts sees op (work.Declare declared) = sees declared ≡ true
Demands sorts sees op (work.Initialise declared lines) = (sees declared ≡ true) × TakeLines sorts op 0 lines
Demands sorts sees op other = Unit {0}

-- each node with a sort has an operation, which has its operands and sees the objects that it names
pub record AreComplete (p : Program) (sorts : ℕ → Option Sort) (sees : ℕ → ℕ → Bool) : Type 0 where
  pub there : (node : ℕ) (own : Sort) → sorts node ≡ Some own → (op : Op) × (slice_get p.ops node ≡ Some op)
  pub demands : (node : ℕ) (op : Op) (own : Sort) → sorts node ≡ Some own → slice_get p.ops node ≡ Some op → Demands sorts (sees node) op op.work
