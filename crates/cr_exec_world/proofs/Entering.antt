-- Objects that are entered.
use Rattle.std.proofs.Common.{◌≡◌, ℕ, Bool, true, false, if◌then◌else◌, Result, Ok, Err, List, [], ◌∷◌, length, refl, sym, ap, ◌∙◌, subst}
use Rattle.cr_memory.specs.declared.value.Trap.{Trap}
use Rattle.cr_memory.specs.declared.value.Trap.TheVariants.{Left}
use Rattle.cr_memory.specs.declared.value.Scalar.{Scalar}
use Rattle.cr_memory.specs.declared.value.Guard.{Guard}
use Rattle.cr_memory.specs.declared.value.Cell.{Cell}
use Rattle.cr_memory.specs.Memory.{Object, Memory, has_room, new_object, with_object}
use Rattle.cr_memory.specs.Access.{with_cells}
use Rattle.cr_exec_world.proofs.Setting.{filled}
use Rattle.std.specs.Prelude.{OnOk, IfErr}
use Rattle.cr_meaning.specs.Language.{went, halts}
use Rattle.cr_meaning.specs.World.{World, Halt, stopped, next, enter_object, enter_all, bound, with_binding}
use Rattle.cr_meaning.specs.Nodes.{Act, entering}
use Rattle.cr_exec_slices.specs.Shown.{Works, Worked, Halting}
use Rattle.cr_exec_slices.specs.declared.nodes.Halted.{Halted}
use Rattle.cr_exec_slices.specs.declared.nodes.Halted.TheVariants as halted

-- ---- work that ends a run, in the place of other work

ends_so : (act other : Act) (halted : Halted) (world : World) → ((halt : Halt) → act ≡ halts halt → other ≡ halts halt)
    → Halting (λ halt. act ≡ halts halt) halted world → Halting (λ halt. other ≡ halts halt) halted world
ends_so act other (halted.Undefined number node) world f h = f _ h
ends_so act other (halted.Left number node) world f h = f _ h
ends_so act other (halted.Exited status) world f h = f _ h
ends_so act other halted.NoMemory world f h = tt

pub worked_ends : (act other : Act) (halted : Halted) (world : World) → ((halt : Halt) → act ≡ halts halt → other ≡ halts halt)
    → Worked act (Err halted) world → Worked other (Err halted) world
worked_ends act other halted world f h = record { works = ends_so act other halted world f h.works }

-- ---- one object

pub enters : (world : World) (node : ℕ) (object : Object) → has_room world.memory (length object.shape) ≡ true
    → entering (enter_object world node object) ≡ went next (with_binding world node object)
enters world node object h = ap (λ (b : Bool). entering (if b then Ok (with_binding world node object) else Err (Left 3, node))) h

-- ---- one object that begins with cells

pub room_if : (b : Bool) (number : ℕ) (trap : Trap) → (b ≡ false → ◌≡◌ {A = Result ℕ Trap} (Ok number) (Err trap)) → b ≡ true
room_if true number trap f = refl
room_if false number trap f = absurd (cc (f refl))

pub enters_with : (world : World) (node number : ℕ) (shape : List (Scalar × Guard)) (cells : List Cell) (blank after : Memory) → number ≡ length world.memory.objects
    → blank ≡ with_object world.memory (new_object false shape) → has_room world.memory (length shape) ≡ true → length cells ≡ length shape
    → ◌≡◌ {A = Result Memory Trap} (Ok (with_cells blank number 0 cells)) (Ok after)
    → entering (enter_object world node (record { cells = cells; shape = shape })) ≡ went next (record world { memory = after; bindings = bound node number ∷ world.bindings })
enters_with world node number shape cells blank after n entered room size e =
    let f : Memory → ℕ → Act = λ m. λ k. went next (record world { memory = m; bindings = bound node k ∷ world.bindings }) in
    let same : with_object world.memory (record { cells = cells; shape = shape }) ≡ after =
    sym (filled world.memory blank shape cells number n entered size) ∙ cc e in
    enters world node (record { cells = cells; shape = shape }) room
    ∙ (ap (λ (k : ℕ). f (with_object world.memory (record { cells = cells; shape = shape })) k) (sym n) ∙ ap (λ (m : Memory). f m number) same)

pub worked_by : (act : Act) (r : Result (Unit {0}) Halted) (world : World) → OnOk r (act ≡ went next world) → IfErr r (λ h. h ≡ halted.NoMemory) → Worked act r world
worked_by act (Ok tt) world h k = record { works = h }
worked_by act (Err halted) world h k =
    let P : Halted → Type 0 = λ x. Worked act (Err x) world in subst P (sym k) (record { works = tt })
