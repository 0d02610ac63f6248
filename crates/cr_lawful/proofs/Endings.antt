-- How the run of a file ends, from what its steps answer, and that it ends in one way.
use mathlib.Core.Logic.{∥∥₁_elim}
use Rattle.std.proofs.Props.{props}
use Rattle.std.proofs.Common.{◌≡◌, ◌≢◌, ℕ, Bool, true, false, List, Option, Result, Ok, Err, IfOk, refl, sym, subst}
use Rattle.std.proofs.lemmas.Bool.{true≢false}
use Rattle.cr_typed.specs.declared.typed.Typed.{Typed}
use Rattle.cr_meaning.specs.declared.run.Limits.{Limits}
use Rattle.cr_meaning.specs.declared.run.Run.{Run}
use Rattle.cr_meaning.specs.declared.run.Run.TheVariants as run
use Rattle.cr_meaning.proofs.Runs.{one_meaning}
use Rattle.cr_meaning_operations.specs.Laws.{Comes}
use Rattle.cr_meaning_operations.specs.Operations.{program_of}
use Rattle.cr_exec.specs.Runs.{has_come}
use Rattle.cr_cursor.specs.declared.law.Reason.{Reason}
use Rattle.cr_cursor.specs.declared.law.Ruling.{Ruling}
use Rattle.cr_cursor.specs.declared.law.Ruling.TheVariants as ruling
use Rattle.cr_lawful.specs.Lawful.{IsLawful, IsReason, IsTypedUnit, Refuses}
use Rattle.cr_lawful.specs.Lawful.IsReason.{of_run}
use Rattle.cr_lawful.specs.Runs.{CameTo, ComesToEnd, EndIn, EndsAs, HasOneEnd, NoEndIn}
use Rattle.cr_lawful.specs.declared.ends.Ended.{Ended}
use Rattle.cr_lawful.proofs.Rulings.{excludes, one_unit}

-- a lawful file comes to an end
pub lawful_ends : (limits : Limits) (file : List ℕ) → IsLawful limits file → (status : ℕ) × (output : List ℕ) × ComesToEnd limits file status output
lawful_ends limits file it = (it.ends.status, it.ends.output, ∣ (it.typed, it.ends.steps, it.of_file, it.ends.comes) ∣₁)

-- and a file with a reason against it to none
pub reason_no_end : (limits : Limits) (file : List ℕ) (why : Reason) → IsReason limits file why → (status : ℕ) (output : List ℕ) → ComesToEnd limits file status output → ⊥
reason_no_end limits file why is status output comes =
    ∥∥₁_elim comes (hlevel props) (λ it. excludes limits file why is (record {
      typed = it.0;
      of_file = it.2;
      ends = record { status = status; output = output; steps = it.1; comes = it.3 };
    }))

-- the end that the run of the file's unit came to is the file's
pub ended_as : (limits : Limits) (file : List ℕ) (typed : Typed) (outcome : Run) (found : Option Ended) → IsTypedUnit file typed
    → (has_come outcome ≡ true → Comes typed limits outcome) → EndIn outcome found → EndsAs (ComesToEnd limits file) found
ended_as limits file typed (run.Ended status output steps) found of_file comes is =
    subst (EndsAs (ComesToEnd limits file)) (sym is) ∣ (typed, steps, of_file, comes refl) ∣₁
ended_as limits file typed (run.Undefined number node) found of_file comes is =
    subst (EndsAs (ComesToEnd limits file)) (sym is) (reason_no_end limits file _ (of_run typed (run.Undefined number node) of_file (comes refl) refl))
ended_as limits file typed (run.Left number node) found of_file comes is =
    subst (EndsAs (ComesToEnd limits file)) (sym is) (reason_no_end limits file _ (of_run typed (run.Left number node) of_file (comes refl) refl))
ended_as limits file typed run.Stopped found of_file comes is = absurd is
ended_as limits file typed run.NoMemory found of_file comes is = absurd is

pub ended_if : {E : Type 0} (limits : Limits) (file : List ℕ) (typed : Typed) (outcome : Run) (r : Result (Option Ended) E) → IsTypedUnit file typed
    → (has_come outcome ≡ true → Comes typed limits outcome) → IfOk r (EndIn outcome) → IfOk r (EndsAs (ComesToEnd limits file))
ended_if limits file typed outcome (Ok found) of_file comes is = ended_as limits file typed outcome found of_file comes is
ended_if limits file typed outcome (Err e) of_file comes is = tt

-- and a file that is refused before its run comes to none
refused_as : (limits : Limits) (file : List ℕ) (raised : Bool) (r : Ruling) (found : Option Ended) → Refuses file raised r → NoEndIn r found → EndsAs (ComesToEnd limits file) found
refused_as limits file raised (ruling.Unlawful why) found refuses is = subst (EndsAs (ComesToEnd limits file)) (sym is) (reason_no_end limits file why (refuses limits))
refused_as limits file raised ruling.Lawful found refuses is = absurd is
refused_as limits file raised ruling.Stopped found refuses is = absurd is
refused_as limits file raised ruling.NoMemory found refuses is = absurd is

pub refused_if : {E : Type 0} (limits : Limits) (file : List ℕ) (raised : Bool) (ruled : Ruling) (r : Result (Option Ended) E) → Refuses file raised ruled → IfOk r (NoEndIn ruled)
    → IfOk r (EndsAs (ComesToEnd limits file))
refused_if limits file raised ruled (Ok found) refuses is = refused_as limits file raised ruled found refuses is
refused_if limits file raised ruled (Err e) refuses is = tt

-- it is not ruled lawful, nor stopped where no stop was raised
pub refused_only : (file : List ℕ) (raised : Bool) (ruled : Ruling) → Refuses file raised ruled → ruled ≢ ruling.Lawful
refused_only file raised ruled refuses = λ is. subst (Refuses file raised) is refuses

pub refused_unstopped : (file : List ℕ) (ruled : Ruling) → Refuses file false ruled → ruled ≢ ruling.Stopped
refused_unstopped file ruled refuses = λ is. true≢false (sym (subst (Refuses file false) is refuses))

pub came_to : (limits : Limits) (file : List ℕ) (typed : Typed) (outcome : Run) → IsTypedUnit file typed → (has_come outcome ≡ true → Comes typed limits outcome)
    → CameTo limits file outcome
came_to limits file typed (run.Ended status output steps) of_file comes = ∣ (typed, steps, of_file, comes refl) ∣₁
came_to limits file typed outcome of_file comes = tt

one_of : (limits : Limits) (file : List ℕ) (one other : Typed) (status more_status steps more_steps : ℕ) (output more : List ℕ) → IsTypedUnit file one → IsTypedUnit file other
    → Comes one limits (run.Ended status output steps) → Comes other limits (run.Ended more_status more more_steps) → (status ≡ more_status) × (output ≡ more)
one_of limits file one other status more_status steps more_steps output more it also comes came =
    let comes_too : Comes other limits (run.Ended status output steps) = subst (λ t. Comes t limits (run.Ended status output steps)) (one_unit file one other it also) comes in
    let same : run.Ended status output steps ≡ run.Ended more_status more more_steps =
    one_meaning (program_of other limits) (run.Ended status output steps) (run.Ended more_status more more_steps) comes_too came in
    (cc, cc)

pub one_end : HasOneEnd
one_end limits file status other output more comes came =
    ∥∥₁_elim comes (hlevel props) (λ it. ∥∥₁_elim came (hlevel props) (λ also.
    one_of limits file it.0 also.0 status other it.1 also.1 output more it.2 also.2 it.3 also.3))
