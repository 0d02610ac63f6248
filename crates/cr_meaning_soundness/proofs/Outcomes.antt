-- Whatever the run of a well-typed and complete program comes to is an outcome.
use Rattle.std.proofs.Common.{◌≡◌, refl, sym, subst, inl, inr}
use Rattle.std.specs.Prelude.{ℕ, Bool, Option, Some, List, [], length}
use Rattle.cr_memory.specs.declared.value.Trap.TheVariants.{Undefined, Left, NoMemory}
use Rattle.cr_meaning.specs.Language.{Reply, gave, ended}
use Rattle.cr_meaning.specs.Library.{status_of}
use Rattle.cr_meaning.specs.World.{Program, World, Answer, Halt, stopped, exited}
use Rattle.cr_meaning.specs.Turns.{Way, Operand, Enter, Resume, Ready, next_of, next_by}
use Rattle.cr_meaning.specs.Meaning.{operands, root_of, start_of, ended_with, run_of}
use Rattle.cr_meaning.specs.declared.op.Op.{Op}
use Rattle.cr_meaning.specs.declared.op.Work.{Work}
use Rattle.cr_meaning.specs.declared.run.Limits.{Limits}
use Rattle.cr_meaning.specs.declared.run.Run.{Run}
use Rattle.cr_meaning.specs.declared.run.Run.TheVariants as run
use Rattle.cr_meaning_soundness.specs.Sorts.{Sort}
use Rattle.cr_meaning_soundness.specs.Scopes.{entered_by, is_open}
use Rattle.cr_meaning_soundness.specs.Programs.{IsWellTyped}
use Rattle.cr_meaning_soundness.specs.Ends.{IsEnd, IsComplete}
use Rattle.cr_meaning_soundness.specs.Laws
use Rattle.cr_meaning_soundness.proofs.Given.{at_well, at_bound}
use Rattle.cr_meaning_soundness.proofs.Going.{Going, Rooted, SafeWay, Finished}
use Rattle.cr_meaning_soundness.proofs.Complete.{SafeBy, node_safe, whole_safe}
use Rattle.cr_meaning_soundness.proofs.Running.{Course, replied}
use Rattle.cr_meaning_soundness.proofs.Worlds.{start_is_well_formed}

safe_way : (p : Program) (node : ℕ) (op : Op) (done : List Answer) (s : World) (way : Way) → SafeBy p node op op.work done s way → SafeWay IsEnd p node op done s way
safe_way p node op done s (Operand m) h = h
safe_way p node op done s (Enter m) h = h
safe_way p node op done s (Resume again) h = h
safe_way p node op done s Ready h = h

going_safe : (p : Program) (sorts : ℕ → Option Sort) (sees : ℕ → ℕ → Bool) (typed : IsWellTyped p sorts) → IsComplete p sorts sees typed → (node : ℕ) (done : List Answer) (s : World)
    (i : Going p sorts sees node done s) → SafeWay IsEnd p node i.op done s (next_of i.op done)
going_safe p sorts sees typed complete node done s i =
    safe_way p node i.op done s (next_of i.op done) (node_safe p sorts (sees node) node i.op i.op.work i.own done s (typed.nodes node i.op i.own i.has i.op_is).gives (record {
      same = refl;
      well = at_well p (entered_by i.op.work) (is_open i.op.work i.op.parts (length done)) i.base s i.at;
      bound = λ declared d. at_bound p (entered_by i.op.work) (is_open i.op.work i.op.parts (length done)) i.base s declared i.at (i.seen declared d);
      given = i.given;
      demands = complete.nodes.demands node i.op i.own i.has i.op_is;
    }))

rooted_safe : (p : Program) (sorts : ℕ → Option Sort) (sees : ℕ → ℕ → Bool) (node : ℕ) (done : List Answer) (s : World) (i : Rooted p sorts sees node done s) → SafeWay IsEnd p node i.op done s (next_of i.op done)
rooted_safe p sorts sees node done s i =
    let h = i.whole in
    let F : Work → Type 0 = λ x. SafeBy p node i.op x done s (next_by x i.op.parts done) in
    safe_way p node i.op done s (next_of i.op done) (subst F (sym h.work_is) (whole_safe p node i.op h.objects h.parameters h.strings h.rest done s))

course : (p : Program) (sorts : ℕ → Option Sort) (sees : ℕ → ℕ → Bool) (typed : IsWellTyped p sorts) → IsComplete p sorts sees typed → Course IsEnd p sorts sees
course p sorts sees typed complete = record {
  typed = typed.nodes;
  scoped = complete.scoped;
  missing = λ node own has none. (let there = complete.nodes.there node own has in absurd (cc (none, there.1)));
  no_step = λ node. tt;
  node_safe = going_safe p sorts sees typed complete;
  root_safe = rooted_safe p sorts sees;
}

finished : (limits : Limits) (reply : Reply Answer World Halt) → Finished IsEnd reply → (outcome : Run) × (run_of limits reply ≡ Some outcome)
finished limits (gave answer world) h =
    let F : Answer → Type 0 = λ a. run_of limits (gave a world) ≡ Some (ended_with limits (status_of h.1.0) world) in
    (ended_with limits (status_of h.1.0) world, subst F (sym h.1.1) refl)
finished limits (ended (exited status world)) h = (ended_with limits status world, refl)
finished limits (ended (stopped (Undefined number) node)) h = (run.Undefined number node, refl)
finished limits (ended (stopped (Left number) node)) h = (run.Left number node, refl)
finished limits (ended (stopped NoMemory node)) h = absurd h

pub programs_have_outcomes : Laws.ProgramsHaveOutcomes
programs_have_outcomes p sorts sees typed complete few reply runs =
    finished p.limits reply (replied IsEnd p sorts sees (course p sorts sees typed complete) (operands (root_of p) []) (start_of p.limits)
    (inr (record {
      op = typed.op;
      op_is = typed.is_root;
      whole = typed.whole;
      scoped = complete.whole;
      well = start_is_well_formed p p.limits few;
      given = tt;
      begun = inl refl;
    })) reply runs)
