-- Controlling expressions, and the ends of statements.
use Rattle.std.proofs.Common.{◌≡◌, ℕ, Result, Ok, Err, List, [], ◌∷◌, length, refl, sym, ap, ◌∙◌, subst, arith}
use Rattle.std.specs.List.{AllZip}
use Rattle.cr_memory.specs.declared.value.Scalar.{Scalar}
use Rattle.cr_memory.specs.declared.value.Trap.{Trap}
use Rattle.cr_meaning.specs.Language.{went}
use Rattle.cr_meaning.specs.World.{Program, World, Answer, part, next, closed}
use Rattle.cr_meaning.specs.Nodes.{Act, resulting, entering, deeper, last_in}
use Rattle.cr_meaning.specs.Values.{asked}
use Rattle.cr_meaning.specs.Meaning.{controlled, control_before, do_before, main_entered, program_before, for_before, switch_before, switched, block_before, after_loop, after_switch, if_end, while_end, do_end, for_end, switch_end}
use Rattle.cr_meaning.specs.declared.op.Parameter.{Parameter}
use Rattle.cr_exec_slices.specs.Shown.{Worked, Joined}
use Rattle.cr_exec_slices.specs.declared.nodes.Halted.{Halted}
use Rattle.cr_exec_turns.specs.Held.{shows}
use Rattle.cr_exec_turns.specs.declared.held.Held.{Held}
use Rattle.cr_exec_turns.specs.declared.held.Held.TheVariants as held
use Rattle.cr_exec_world.proofs.Entering.{worked_ends}
use Rattle.cr_exec_statements.specs.Kept.{passing, loop_left, switch_left, with_answer}
use Rattle.cr_exec_statements.specs.Parts.{second_end, behind, as_before}
use Rattle.cr_exec_statements.proofs.Keeping.{same_count, passing_joins, ending_joins}

-- ---- controlling expressions

not_one : (node : ℕ) (answers : List Answer) (w : World) → (length answers ≡ 1 → ⊥) → control_before node answers w ≡ went next w
not_one node [] w n = refl
not_one node (a ∷ []) w n = absurd (n refl)
not_one node (a ∷ (b ∷ answers)) w n = refl

not_two : (node : ℕ) (answers : List Answer) (w : World) → (length answers ≡ 2 → ⊥) → do_before node answers w ≡ went next w
not_two node [] w n = refl
not_two node (a ∷ []) w n = refl
not_two node (a ∷ (b ∷ [])) w n = absurd (n refl)
not_two node (a ∷ (b ∷ (c ∷ answers))) w n = refl

pub passed_one : (node : ℕ) (done : List Held) (answers : List Answer) (w : World) → (length done ≡ 1 → ⊥) → AllZip shows done answers
    → Worked (control_before node answers w) (Ok tt) w
passed_one node done answers w n z = record { works = not_one node answers w (λ e. n (sym (same_count done answers z) ∙ e)) }

pub passed_two : (node : ℕ) (done : List Held) (answers : List Answer) (w : World) → (length done ≡ 2 → ⊥) → AllZip shows done answers
    → Worked (do_before node answers w) (Ok tt) w
passed_two node done answers w n z = record { works = not_two node answers w (λ e. n (sym (same_count done answers z) ∙ e)) }

-- ---- what a statement makes of the last answer

pub loop_shown : (h : Held) (a : Answer) → shows h a → shows (loop_left h) (after_loop a)
loop_shown (held.Part given) (part v events) s = s
loop_shown (held.Part given) other s = absurd s
loop_shown held.Next a s = ap after_loop s
loop_shown held.Broke a s = ap after_loop s
loop_shown held.Continued a s = ap after_loop s
loop_shown (held.Jumped label) a s = ap after_loop s
loop_shown (held.Returned v) a s = ap after_loop s

pub switch_shown : (h : Held) (a : Answer) → shows h a → shows (switch_left h) (after_switch a)
switch_shown (held.Part given) (part v events) s = s
switch_shown (held.Part given) other s = absurd s
switch_shown held.Next a s = ap after_switch s
switch_shown held.Broke a s = ap after_switch s
switch_shown held.Continued a s = ap after_switch s
switch_shown (held.Jumped label) a s = ap after_switch s
switch_shown (held.Returned v) a s = ap after_switch s

answer_behind : (f : Answer → Answer) (g : Held → Held) → ((h : Held) (a : Answer) → shows h a → shows (g h) (f a))
    → (act : Act) (r : Result Held Halted) (w : World) → Joined shows act r w → Joined shows (behind f as_before act) (with_answer g r) w
answer_behind f g same act (Ok h) w k =
    record { joins = record { answer = f k.joins.answer; shown = same h k.joins.answer k.joins.shown; holds = ap (behind f as_before) k.joins.holds } }
answer_behind f g same act (Err halted) w k =
    ending_joins (behind f as_before act) halted w (worked_ends act (behind f as_before act) halted w (λ halt e. ap (behind f as_before) e) (record { works = k.joins }))

pub loop_behind : (act : Act) (r : Result Held Halted) (w : World) → Joined shows act r w → Joined shows (behind after_loop as_before act) (with_answer loop_left r) w
loop_behind act r w k = answer_behind after_loop loop_left loop_shown act r w k

-- ---- selection and iteration

resulting_behind : {A : Type 0} → (f : Answer → Answer) (g : World → World) (node : ℕ) (r : Result A Trap) (w : World)
    → behind f g (resulting node r (λ _. went next w)) ≡ resulting node r (λ _. went (f next) (g w))
resulting_behind f g node (Ok a) w = refl
resulting_behind f g node (Err trap) w = refl

pub if_control : (node : ℕ) (done : List Held) (answers : List Answer) (w : World) (r : Result (Unit {0}) Halted) → length done ≡ 1 → AllZip shows done answers
    → Worked (control_before node answers w) r w → Joined shows (if_end node answers w) (passing r) w
if_control node done answers w r e z k = of_all answers (same_count done answers z ∙ e) k
  where
    of_all : (all : List Answer) → length all ≡ 1 → Worked (control_before node all w) r w → Joined shows (if_end node all w) (passing r) w
    of_all [] l k = absurd (omega (arith, l))
    of_all (a ∷ []) l k = passing_joins (controlled node a w) r w k
    of_all (a ∷ (b ∷ all)) l k = absurd (omega (arith, l))

pub second_control : (node : ℕ) (done : List Held) (answers : List Answer) (w : World) (r : Result (Unit {0}) Halted) → length done ≡ 2 → AllZip shows done answers
    → Worked (do_before node answers w) r w → Joined shows (second_end node answers w) (passing r) w
second_control node done answers w r e z k = of_all answers (same_count done answers z ∙ e) k
  where
    of_all : (all : List Answer) → length all ≡ 2 → Worked (do_before node all w) r w → Joined shows (second_end node all w) (passing r) w
    of_all [] l k = absurd (omega (arith, l))
    of_all (a ∷ []) l k = absurd (omega (arith, l))
    of_all (a ∷ (b ∷ [])) l k = passing_joins (controlled node b w) r w k
    of_all (a ∷ (b ∷ (c ∷ all))) l k = absurd (omega (arith, l))

if_last_is : (node : ℕ) (answers : List Answer) (w : World) → (length answers ≡ 1 → ⊥) → if_end node answers w ≡ went (last_in answers) w
if_last_is node [] w n = refl
if_last_is node (a ∷ []) w n = absurd (n refl)
if_last_is node (a ∷ (b ∷ answers)) w n = refl

pub if_last : (node : ℕ) (done : List Held) (answers : List Answer) (h : Held) (w : World) → (length done ≡ 1 → ⊥) → AllZip shows done answers
    → shows h (last_in answers) → Joined shows (if_end node answers w) (Ok h) w
if_last node done answers h w n z s =
    record { joins = record { answer = last_in answers; shown = s; holds = if_last_is node answers w (λ e. n (sym (same_count done answers z) ∙ e)) } }

second_last_is : (node : ℕ) (answers : List Answer) (w : World) → (length answers ≡ 2 → ⊥) → second_end node answers w ≡ went (last_in answers) w
second_last_is node [] w n = refl
second_last_is node (a ∷ []) w n = refl
second_last_is node (a ∷ (b ∷ [])) w n = absurd (n refl)
second_last_is node (a ∷ (b ∷ (c ∷ answers))) w n = refl

pub second_last : (node : ℕ) (done : List Held) (answers : List Answer) (h : Held) (w : World) → (length done ≡ 2 → ⊥) → AllZip shows done answers
    → shows h (last_in answers) → Joined shows (second_end node answers w) (Ok h) w
second_last node done answers h w n z s =
    record { joins = record { answer = last_in answers; shown = s; holds = second_last_is node answers w (λ e. n (sym (same_count done answers z) ∙ e)) } }

while_is : (node : ℕ) (answers : List Answer) (w : World) → behind after_loop as_before (if_end node answers w) ≡ while_end node answers w
while_is node [] w = refl
while_is node (a ∷ []) w = resulting_behind after_loop as_before node (asked w.memory _) w
while_is node (a ∷ (b ∷ answers)) w = refl

do_is : (node : ℕ) (answers : List Answer) (w : World) → behind after_loop as_before (second_end node answers w) ≡ do_end node answers w
do_is node [] w = refl
do_is node (a ∷ []) w = refl
do_is node (a ∷ (b ∷ [])) w = resulting_behind after_loop as_before node (asked w.memory _) w
do_is node (a ∷ (b ∷ (c ∷ answers))) w = refl

for_is : (node : ℕ) (answers : List Answer) (w : World) → behind as_before closed (do_end node answers w) ≡ for_end node answers w
for_is node [] w = refl
for_is node (a ∷ []) w = refl
for_is node (a ∷ (b ∷ [])) w = resulting_behind as_before closed node (asked w.memory _) w
for_is node (a ∷ (b ∷ (c ∷ answers))) w = refl

pub while_ends : (node : ℕ) (answers : List Answer) (r : Result Held Halted) (w : World) → Joined shows (if_end node answers w) r w
    → Joined shows (while_end node answers w) (with_answer loop_left r) w
while_ends node answers r w k =
    subst (λ (act : Act). Joined shows act (with_answer loop_left r) w) (while_is node answers w) (loop_behind (if_end node answers w) r w k)

pub do_ends : (node : ℕ) (answers : List Answer) (r : Result Held Halted) (w : World) → Joined shows (second_end node answers w) r w
    → Joined shows (do_end node answers w) (with_answer loop_left r) w
do_ends node answers r w k =
    subst (λ (act : Act). Joined shows act (with_answer loop_left r) w) (do_is node answers w) (loop_behind (second_end node answers w) r w k)

pub for_ends : (node : ℕ) (answers : List Answer) (r : Result Held Halted) (w v : World) → Joined shows (behind as_before closed (do_end node answers w)) r v
    → Joined shows (for_end node answers w) r v
for_ends node answers r w v k = subst (λ (act : Act). Joined shows act r v) (for_is node answers w) k

-- ---- `switch`

switch_last_is : (node : ℕ) (answers : List Answer) (w : World) → (length answers ≡ 1 → ⊥)
    → behind as_before closed (went (after_switch (last_in answers)) w) ≡ switch_end node answers w
switch_last_is node [] w n = refl
switch_last_is node (a ∷ []) w n = absurd (n refl)
switch_last_is node (a ∷ (b ∷ answers)) w n = refl

pub went_joins : (h : Held) (a : Answer) (w : World) → shows h a → Joined shows (went a w) (Ok h) w
went_joins h a w s = record { joins = record { answer = a; shown = s; holds = refl } }

pub switch_ends : (node : ℕ) (done : List Held) (answers : List Answer) (h : Held) (r : Result Held Halted) (w v : World) → (length done ≡ 1 → ⊥) → AllZip shows done answers
    → shows h (last_in answers)
    → ((act : Act) → Joined shows act (Ok (switch_left h)) w → Joined shows (behind as_before closed act) r v) → Joined shows (switch_end node answers w) r v
switch_ends node done answers h r w v n z s f =
    subst (λ (act : Act). Joined shows act r v) (switch_last_is node answers w (λ e. n (sym (same_count done answers z) ∙ e)))
    (f (went (after_switch (last_in answers)) w) (went_joins (switch_left h) (after_switch (last_in answers)) w (switch_shown h (last_in answers) s)))

-- ---- blocks, `for` and `switch` begin

pub block_later : (p : Program) (objects : List ℕ) (done : List Held) (answers : List Answer) (w : World) → (length done ≡ 0 → ⊥) → AllZip shows done answers
    → Worked (block_before p objects answers w) (Ok tt) w
block_later p objects [] answers w n z = absurd (n refl)
block_later p objects (h ∷ done) [] w n z = absurd z
block_later p objects (h ∷ done) (a ∷ answers) w n z = record { works = refl }

for_later_is : (p : Program) (node : ℕ) (objects : List ℕ) (answers : List Answer) (w : World) → (length answers ≡ 0 → ⊥)
    → for_before p node objects answers w ≡ do_before node answers w
for_later_is p node objects [] w n = absurd (n refl)
for_later_is p node objects (a ∷ []) w n = refl
for_later_is p node objects (a ∷ (b ∷ [])) w n = refl
for_later_is p node objects (a ∷ (b ∷ (c ∷ answers))) w n = refl

pub for_later : (p : Program) (node : ℕ) (objects : List ℕ) (done : List Held) (answers : List Answer) (w : World) (r : Result (Unit {0}) Halted)
    → (length done ≡ 0 → ⊥) → AllZip shows done answers → Worked (do_before node answers w) r w → Worked (for_before p node objects answers w) r w
for_later p node objects done answers w r n z k =
    subst (λ (act : Act). Worked act r w) (sym (for_later_is p node objects answers w (λ e. n (sym (same_count done answers z) ∙ e)))) k

pub switch_now : (p : Program) (body : ℕ) (objects : List ℕ) (done : List Held) (answers : List Answer) (w v : World) (r : Result (Unit {0}) Halted)
    → length done ≡ 1 → AllZip shows done answers → Worked (switched p body objects w) r v → Worked (switch_before p body objects answers w) r v
switch_now p body objects done answers w v r e z k = of_all answers (same_count done answers z ∙ e)
  where
    of_all : (all : List Answer) → length all ≡ 1 → Worked (switch_before p body objects all w) r v
    of_all [] l = absurd (omega (arith, l))
    of_all (a ∷ []) l = k
    of_all (a ∷ (b ∷ all)) l = absurd (omega (arith, l))

switch_later_is : (p : Program) (body : ℕ) (objects : List ℕ) (answers : List Answer) (w : World) → (length answers ≡ 1 → ⊥)
    → switch_before p body objects answers w ≡ went next w
switch_later_is p body objects [] w n = refl
switch_later_is p body objects (a ∷ []) w n = absurd (n refl)
switch_later_is p body objects (a ∷ (b ∷ answers)) w n = refl

pub switch_later : (p : Program) (body : ℕ) (objects : List ℕ) (done : List Held) (answers : List Answer) (w : World) → (length done ≡ 1 → ⊥) → AllZip shows done answers
    → Worked (switch_before p body objects answers w) (Ok tt) w
switch_later p body objects done answers w n z =
    record { works = switch_later_is p body objects answers w (λ e. n (sym (same_count done answers z) ∙ e)) }

pub program_later : (p : Program) (objects : List ℕ) (parameters : List Parameter) (strings : Scalar) (done : List Held) (answers : List Answer) (w v : World)
    (result : Result (Unit {0}) Halted) → (length done ≡ 0 → ⊥) → AllZip shows done answers → Worked (entering (main_entered p strings parameters (deeper w))) result v
    → Worked (program_before p objects parameters strings answers w) result v
program_later p objects parameters strings done answers w v result n z k = of_all answers (λ e. n (sym (same_count done answers z) ∙ e))
  where
    of_all : (all : List Answer) → (length all ≡ 0 → ⊥) → Worked (program_before p objects parameters strings all w) result v
    of_all [] m = absurd (m refl)
    of_all (a ∷ all) m = k
