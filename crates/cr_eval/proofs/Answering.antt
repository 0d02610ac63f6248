-- Answers that are the meaning's.
use Rattle.std.proofs.Common.{◌≡◌, Result, Ok, Err, sym, ap, subst}
use Rattle.cr_memory.specs.declared.value.Trap.{Trap}
use Rattle.cr_memory.specs.declared.value.Trap.TheVariants.{Undefined, Left, NoMemory}
use Rattle.cr_memory.specs.Memory.{Memory}
use Rattle.cr_memory.specs.Access.{Writes}
use Rattle.cr_meaning.specs.World.{then_by}
use Rattle.cr_eval.specs.Answers.{Says, Answers, leaving}

says_same : {A : Type 0} (want : Result A Trap) → Says want want
says_same (Ok a) = λ i. Ok a
says_same (Err NoMemory) = tt
says_same (Err (Undefined number)) = λ i. Err (Undefined number)
says_same (Err (Left number)) = λ i. Err (Left number)

pub answers_same : {A : Type 0} (want : Result A Trap) → Answers want want
answers_same want = record { says = says_same want }

pub answers : {A : Type 0} (want got : Result A Trap) → got ≡ want → Answers want got
answers {A = A} want got e = let P : Result A Trap → Type 0 = λ x. Answers x got in subst P e (answers_same got)

-- one result after another
pub then_answers : {A B : Type 0} (first : Result A Trap) (f : A → Result B Trap) (a : A) (got : Result B Trap)
    → Answers first (Ok a) → Answers (f a) got → Answers (then_by first f) got
then_answers {A = A} {B = B} first f a got one rest =
    let P : Result A Trap → Type 0 = λ x. Answers (then_by x f) got in subst P (sym one.says) rest

ends_so : {A B : Type 0} (first : Result A Trap) (f : A → Result B Trap) (trap : Trap)
    → Says first (Err trap) → Says (then_by first f) (Err trap)
ends_so first f NoMemory one = tt
ends_so {A = A} first f (Undefined number) one =
    let P : Result A Trap → Type 0 = λ x. then_by x f ≡ Err (Undefined number) in subst P (sym one) (λ i. Err (Undefined number))
ends_so {A = A} first f (Left number) one =
    let P : Result A Trap → Type 0 = λ x. then_by x f ≡ Err (Left number) in subst P (sym one) (λ i. Err (Left number))

pub ends_answer : {A B : Type 0} (first : Result A Trap) (f : A → Result B Trap) (trap : Trap)
    → Answers first (Err trap) → Answers (then_by first f) (Err trap)
ends_answer first f trap one = record { says = ends_so first f trap one.says }

-- what a write comes to
written_says : (want : Result Memory Trap) (result : Result (Unit {0}) Trap) (old new : Memory)
    → Writes want result old new → Says want (leaving new result)
written_says (Ok memory) result old new h =
    let P : Result (Unit {0}) Trap → Type 0 = λ r. Says (Ok memory) (leaving new r) in
    subst P (sym h.0) (ap {B = Result Memory Trap} (λ m. Ok m) (sym h.1))
written_says (Err trap) result old new h =
    let P : Result (Unit {0}) Trap → Type 0 = λ r. Says (Err trap) (leaving new r) in
    subst P (sym h.0) (says_same (Err trap))

pub written : (want : Result Memory Trap) (result : Result (Unit {0}) Trap) (old new : Memory)
    → Writes want result old new → Answers want (leaving new result)
written want result old new h = record { says = written_says want result old new h }
