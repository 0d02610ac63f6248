-- What a whole program must be (C11 5.1.2, 5.1.2.2.1, 6.4.5p6, 6.7.9p4, p10).
use Rattle.std.specs.Prelude.{◌≡◌, ℕ, ℤ, Option, Some, IfSome, List, [], ◌∷◌, map, slice_get}
use Rattle.cr_ints.specs.declared.kind.IntKind.{IntKind}
use Rattle.cr_ints.specs.declared.kind.IntKind.TheVariants.{Int as IntegerKind}
use Rattle.cr_memory.specs.declared.value.Scalar.{Scalar}
use Rattle.cr_memory.specs.declared.value.Scalar.TheVariants as scalar
use Rattle.cr_memory.specs.Memory.{Memory, AllHold}
use Rattle.cr_meaning.specs.World.{Program, Answer, returned}
use Rattle.cr_meaning.specs.Meaning.{root_of}
use Rattle.cr_meaning.specs.declared.op.Op.{Op}
use Rattle.cr_meaning.specs.declared.op.Form.TheVariants as form
use Rattle.cr_meaning.specs.declared.op.Parameter.{Parameter}
use Rattle.cr_meaning.specs.declared.op.Work.TheVariants as work
use Rattle.cr_meaning.specs.declared.value.Value.TheVariants.{Number}
use Rattle.cr_meaning_soundness.specs.Sorts.{Sort, number, pointer, statement, sorts_in, IsAmong}
use Rattle.cr_meaning_soundness.specs.Statements.{of_function}
use Rattle.cr_meaning_soundness.specs.Rules.{AreTyped}

-- a literal's cells hold values of their kinds, where nothing is entered yet: no pointers
abbrev pub nothing_entered : Memory
nothing_entered = record { most = 0; objects = [] }

abbrev pub IsLiteral : Program → ℕ → Type 0
IsLiteral p node = IfSome (p.literal node) (λ held. AllHold nothing_entered (map (λ own. own.0) (p.shape node)) held)

-- main has no parameters, or an int and a pointer, which goes by pointers (5.1.2.2.1p1)
abbrev pub IsPointerKind : Scalar → Type 0
IsPointerKind (scalar.Int kind) = ⊥
IsPointerKind (scalar.Pointer to) = Unit {0}

abbrev pub AreMainParameters : Program → Scalar → List Parameter → Type 0
AreMainParameters p strings [] = Unit {0}
AreMainParameters p strings (count ∷ vector ∷ []) =
    ((sorts_in (p.shape count.node) ≡ number IntegerKind ∷ []) × (sorts_in (p.shape vector.node) ≡ pointer ∷ [])) × IsPointerKind strings
AreMainParameters p strings parameters = ⊥

-- the whole program's operation: its static objects and literals, main, and the declarators with the initialisers of static
-- objects, which stand where main's body does
pub record IsWhole (p : Program) (sorts : ℕ → Option Sort) (op : Op) : Type 0 where
  pub objects : List ℕ
  pub parameters : List Parameter
  pub strings : Scalar
  pub rest : ℕ
  pub work_is : op.work ≡ work.Program objects parameters strings rest
  pub literals : (node : ℕ) → IsAmong node objects → IsLiteral p node
  pub main : AreMainParameters p strings parameters
  pub body : sorts rest ≡ Some (statement (of_function (form.Number IntegerKind)))
  pub parts : (k node : ℕ) → slice_get op.parts k ≡ Some node → sorts node ≡ Some (statement (of_function (form.Number IntegerKind)))

-- an answer that is a number, which is the program's status
abbrev pub IsStatus : Answer → Type 0
IsStatus answer = (kind : IntKind) × ((value : ℤ) × (answer ≡ returned (Number kind value)))

-- a program whose operations agree with these sorts
pub record IsWellTyped (p : Program) (sorts : ℕ → Option Sort) : Type 0 where
  pub nodes : AreTyped p sorts
  pub op : Op
  pub is_root : slice_get p.ops (root_of p) ≡ Some op
  pub whole : IsWhole p sorts op
