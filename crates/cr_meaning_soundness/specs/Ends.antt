-- The ends that the run of a program may come to: a status, or a case (U1 to U16, N1 to N7).
use Rattle.std.specs.Prelude.{ℕ, Bool, Option}
use Rattle.cr_memory.specs.declared.value.Trap.{Trap}
use Rattle.cr_memory.specs.declared.value.Trap.TheVariants.{Undefined, Left, NoMemory}
use Rattle.cr_meaning.specs.World.{Program, Halt, stopped, exited}
use Rattle.cr_meaning_soundness.specs.Sorts.{Sort}
use Rattle.cr_meaning_soundness.specs.Scopes.{AreScoped, IsScopedWhole}
use Rattle.cr_meaning_soundness.specs.Programs.{IsWellTyped}
use Rattle.cr_meaning_soundness.specs.Operands.{AreComplete}

-- a case, and not the trap that stands for operands that no program of the subset has
abbrev pub IsCase : Trap → Type 0
IsCase (Undefined number) = Unit {0}
IsCase (Left number) = Unit {0}
IsCase NoMemory = ⊥

abbrev pub IsEnd : Halt → Type 0
IsEnd (stopped trap node) = IsCase trap
IsEnd (exited status world) = Unit {0}

-- a well-typed program whose nodes have the operands that they take and see the objects that they name
pub record IsComplete (p : Program) (sorts : ℕ → Option Sort) (sees : ℕ → ℕ → Bool) (typed : IsWellTyped p sorts) : Type 0 where
  pub nodes : AreComplete p sorts sees
  pub scoped : AreScoped p sees
  pub whole : IsScopedWhole sees typed.op.parts typed.whole.objects typed.whole.parameters typed.whole.rest
