-- A node without a side effect in it gives reads alone.
use Rattle.std.proofs.Common.{◌≡◌, refl, sym, ◌∙◌, subst}
use Rattle.std.specs.Prelude.{ℕ, zero, suc, ◌==◌, Bool, true, false, Option, Some, None, Result, Ok, Err, List, [], ◌∷◌, ◌++◌, map, length, slice_get, if◌then◌else◌}
use Rattle.std.proofs.lemmas.List.Folds.{list_any-append}
use Rattle.std.proofs.lemmas.Bool.{or_from, or_parts, false≢true}
use Rattle.cr_memory.specs.declared.value.Element.{Element}
use Rattle.cr_memory.specs.declared.value.Pointer.{Pointer}
use Rattle.cr_memory.specs.declared.value.Trap.{Trap}
use Rattle.cr_memory.specs.Memory.{Memory}
use Rattle.cr_memory.specs.Access.{reach_of, load_of, cells_of}
use Rattle.cr_meaning.specs.Language.{Acted, went, Reply, gave, ended, Prog, give, act, call, Runs, run_give, run_act, run_halt, run_call, run_end}
use Rattle.cr_meaning.specs.Events.{Event, Step, Order, Reads, below, gathered, operands_clash, clash}
use Rattle.cr_meaning.specs.Quiet.{is_quiet_work, is_quiet_access, IsQuiet, AreQuiet, is_noisy, AreReads}
use Rattle.cr_meaning.specs.World.{Program, World, Answer, part, Halt, then_by}
use Rattle.cr_meaning.specs.Values.{strays}
use Rattle.cr_meaning.specs.Work.{Did, plainly, giving, events_from, used, at_place, passed, member_of, alone, on_one, on_two, by_count, work_of, first_element}
use Rattle.cr_meaning.specs.Turns.{Way, Operand, Enter, Resume, Ready, operand, in_turn, choose, answer_truth, and_next, or_next, conditional_next, next_of, next_by}
use Rattle.cr_meaning.specs.Nodes.{stops, events_of, order_of, all_events, evaluated, resulting, expression}
use Rattle.cr_meaning.specs.Meaning.{body, Goal, reach, operands, at_op, on_way, join_by}
use Rattle.cr_meaning.specs.Laws
use Rattle.cr_meaning.specs.declared.op.Op.{Op}
use Rattle.cr_meaning.specs.declared.op.Access.{Access}
use Rattle.cr_meaning.specs.declared.op.Access.TheVariants as access
use Rattle.cr_meaning.specs.declared.op.Form.{Form}
use Rattle.cr_meaning.specs.declared.op.Work.{Work}
use Rattle.cr_meaning.specs.declared.op.Work.TheVariants as work
use Rattle.cr_meaning.specs.declared.value.Value.{Value}
use Rattle.cr_meaning.specs.declared.value.Value.TheVariants.{Pointer as Pointing, Place, Cells}

-- ---- facts that last along runs

-- what holds of the answers of a program, where `fit` holds of those of goals
abbrev Holds : {G V W H : Type 0} → (G → V → Type 0) → (V → Type 0) → Prog G V W H → Type 0
Holds fit P (give v) = P v
Holds {V = V} {W = W} fit P (act f k) = (s t : W) (v : V) → f s ≡ went v t → Holds fit P (k v)
Holds {V = V} fit P (call g k) = (v : V) → fit g v → Holds fit P (k v)

abbrev Answered : {V W H : Type 0} → (V → Type 0) → Reply V W H → Type 0
Answered P (gave v t) = P v
Answered P (ended h) = Unit {0}

held : {G V W H : Type 0} (body : G → Prog G V W H) (fit : G → V → Type 0) → ((g : G) → Holds fit (fit g) (body g))
    → (p : Prog G V W H) (s : W) (r : Reply V W H) → Runs body p s r → (P : V → Type 0) → Holds fit P p → Answered P r
held body fit goals p s r (run_give) P h = h
held body fit goals p s r (run_act {f = f} {k = k} {t = t} {v = v} e run) P h = held body fit goals (k v) t r run P (h s t v e)
held body fit goals p s r (run_halt e) P h = tt
held body fit goals p s r (run_call {g = g} {k = k} {t = t} {v = v} first run) P h =
    held body fit goals (k v) t r run P (h v (held body fit goals (body g) s (gave v t) first (fit g) (goals g)))
held body fit goals p s r (run_end first) P h = tt

-- ---- own work

abbrev OwnReads : Result Did Trap → Type 0
OwnReads (Ok did) = AreReads did.events
OwnReads (Err trap) = Unit {0}

reads_then : {A : Type 0} (result : Result A Trap) (f : A → Result Did Trap) → ((a : A) → OwnReads (f a)) → OwnReads (then_by result f)
reads_then (Ok a) f h = h a
reads_then (Err trap) f h = tt

reads_giving : (memory : Memory) (result : Result Value Trap) → OwnReads (giving memory result)
reads_giving memory result = reads_then result (plainly memory) (λ value. refl)

reads_from : (object first count : ℕ) → AreReads (events_from Reads object first count)
reads_from object first zero = refl
reads_from object first (suc count) = reads_from object (suc first) count

reads_if : (b : Bool) (trap : Trap) (rest : Result Did Trap) → OwnReads rest → OwnReads (if b then Err trap else rest)
reads_if true trap rest h = tt
reads_if false trap rest h = h

reads_unless : (b : Bool) (one rest : Result Did Trap) → OwnReads one → OwnReads rest → OwnReads (if b then one else rest)
reads_unless true one rest h k = h
reads_unless false one rest h k = k

reads_used : (p : Program) (a : Access) (memory : Memory) (at : Pointer) → is_quiet_access a ≡ true → OwnReads (used p a memory at)
reads_used p access.Unused memory at h = refl
reads_used p (access.Scalar kind false) memory at h = reads_if (strays 1 at) _ _ (reads_then (load_of memory at kind) _ (λ cell. refl))
reads_used p (access.Scalar kind true) memory at h = absurd (false≢true h)
reads_used p (access.Cells row) memory at h = reads_if (strays (length (p.kinds row)) at) _ _ (reads_then (cells_of memory at (p.kinds row)) _ (λ cells. reads_from _ _ (length (p.kinds row))))
reads_used p (access.Array stride whole) memory at h =
    let rest : OwnReads (then_by (reach_of memory at) (λ _. plainly memory (Pointing (first_element at stride)))) = reads_then (reach_of memory at) _ (λ _. refl) in
    reads_unless (whole == 0) _ _ rest (reads_if (strays whole at) _ _ rest)

reads_place : (p : Program) (a : Access) (memory : Memory) (result : Result Pointer Trap) → is_quiet_access a ≡ true → OwnReads (at_place p a memory result)
reads_place p a memory result h = reads_then result (used p a memory) (λ at. reads_used p a memory at h)

reads_passed : (p : Program) (a : Access) (memory : Memory) (value : Value) → is_quiet_access a ≡ true → OwnReads (passed p a memory value)
reads_passed p a memory (Place at) h = reads_used p a memory at h
reads_passed p a memory other h = refl

reads_member : (p : Program) (a : Access) (memory : Memory) (whole before : ℕ) (count : Element) (form : Form) (value : Value) → is_quiet_access a ≡ true → OwnReads (member_of p a memory whole before count form value)
reads_member p a memory whole before count form (Place at) h = reads_place p a memory _ h
reads_member p a memory whole before count form (Cells cells) h = reads_giving memory _
reads_member p a memory whole before count form other h = tt

reads_alone : (p : Program) (world : World) (w : Work) (a : Access) → is_quiet_access a ≡ true → OwnReads (alone p world w a)
reads_alone p world (work.Constant kind value) a h = refl
reads_alone p world (work.Object node of) a h = reads_place p a world.memory _ h
reads_alone p world other a h = tt

reads_one : (p : Program) (world : World) (w : Work) (a : Access) (value : Value) → is_quiet_work w ≡ true → is_quiet_access a ≡ true → OwnReads (on_one p world w a value)
reads_one p world work.Pass a value k h = reads_passed p a world.memory value h
reads_one p world (work.Unary sign kind) a value k h = reads_giving world.memory _
reads_one p world work.Not a value k h = reads_giving world.memory _
reads_one p world (work.Cast form) a value k h = reads_giving world.memory _
reads_one p world work.AddressOf a value k h = reads_giving world.memory _
reads_one p world (work.Dereference cells) a value k h = reads_place p a world.memory _ h
reads_one p world (work.Member whole before count form) a value k h = reads_member p a world.memory whole before count form value h
reads_one p world (work.PointerMember whole before count) a value k h = reads_place p a world.memory _ h
reads_one p world (work.Update change form volatile post) a value k h = absurd (false≢true k)
reads_one p world other a value k h = tt

reads_two : (p : Program) (world : World) (w : Work) (a : Access) (left right : Value) → is_quiet_work w ≡ true → is_quiet_access a ≡ true → OwnReads (on_two p world w a left right)
reads_two p world work.Comma a left right k h = refl
reads_two p world (work.Binary change) a left right k h = reads_giving world.memory _
reads_two p world (work.Compare relation kind) a left right k h = reads_giving world.memory _
reads_two p world (work.ComparePointers relation) a left right k h = reads_giving world.memory _
reads_two p world (work.Distance cells) a left right k h = reads_giving world.memory _
reads_two p world (work.Subscript cells) a left right k h = reads_place p a world.memory _ h
reads_two p world (work.Assign form) a left right k h = absurd (false≢true k)
reads_two p world (work.Update change form volatile post) a left right k h = absurd (false≢true k)
reads_two p world other a left right k h = tt

reads_count : (p : Program) (world : World) (w : Work) (a : Access) (values : List Value) → is_quiet_work w ≡ true → is_quiet_access a ≡ true → OwnReads (by_count p world w a values)
reads_count p world w a [] k h = reads_alone p world w a h
reads_count p world w a (value ∷ []) k h = reads_one p world w a value k h
reads_count p world w a (left ∷ right ∷ []) k h = reads_two p world w a left right k h
reads_count p world w a (left ∷ right ∷ more ∷ rest) k h = tt

reads_work : (p : Program) (world : World) (w : Work) (a : Access) (values : List Value) → is_quiet_work w ≡ true → is_quiet_access a ≡ true → OwnReads (work_of p world w a values)
reads_work p world (work.Conditional form) a values k h = reads_giving world.memory _
reads_work p world work.LogicalAnd a values k h = reads_giving world.memory _
reads_work p world work.LogicalOr a values k h = reads_giving world.memory _
reads_work p world w a values k h = reads_count p world w a values k h

-- ---- the events of operands

abbrev AllReads : List Answer → Type 0
AllReads [] = Unit {0}
AllReads (answer ∷ rest) = AreReads (events_of answer) × AllReads rest

one_more : (done : List Answer) (answer : Answer) → AllReads done → AreReads (events_of answer) → AllReads (done ++ answer ∷ [])
one_more [] answer all h = (h, tt)
one_more (first ∷ rest) answer all h = (all.0, one_more rest answer all.1 h)

reads_below : (step : Step) (events : List Event) → AreReads events → AreReads (below step events)
reads_below step [] h = refl
reads_below step (event ∷ events) h = or_from _ _ (or_parts _ _ h).0 (reads_below step events (or_parts _ _ h).1)

reads_both : (events others : List Event) → AreReads events → AreReads others → AreReads (events ++ others)
reads_both events others h k = list_any-append is_noisy events others ∙ or_from _ _ h k

reads_gathered : (order : Order) (number : ℕ) (done : List Answer) → AllReads done → AreReads (gathered order number (map events_of done))
reads_gathered order number [] all = refl
reads_gathered order number (answer ∷ rest) all =
    reads_both (below (record { order = order; operand = number }) (events_of answer)) (gathered order (suc number) (map events_of rest))
    (reads_below (record { order = order; operand = number }) (events_of answer) all.0) (reads_gathered order (suc number) rest all.1)

-- ---- an expression's node

unless_stopped : (b : Bool) (trap : Trap) (node : ℕ) (rest : Acted Answer World Halt) (answer : Answer) (t : World) (C : Type 0)
    → (rest ≡ went answer t → C) → (if b then stops trap node else rest) ≡ went answer t → C
unless_stopped true trap node rest answer t C f e = absurd cc
unless_stopped false trap node rest answer t C f e = f e

same_answer : (one other : Answer) (s t : World) → (let a : Acted Answer World Halt = went one s in a) ≡ went other t → one ≡ other
same_answer one other s t e = cc

reads_result : (node : ℕ) (w : Work) (done : List Answer) (world : World) (result : Result Did Trap) (answer : Answer) (t : World)
    → OwnReads result → AllReads done → resulting node result (evaluated node w done world) ≡ went answer t → AreReads (events_of answer)
reads_result node w done world (Err trap) answer t h all e = absurd cc
reads_result node w done world (Ok did) answer t h all e =
    unless_stopped (clash did.events (all_events w done)) _ node (went (part did.value (did.events ++ all_events w done)) (record world { memory = did.memory })) answer t (AreReads (events_of answer))
    (λ k. subst (λ a. AreReads (events_of a)) (same_answer _ answer _ t k) (reads_both did.events (all_events w done) h (reads_gathered (order_of w done) 0 done all))) e

reads_expression : (p : Program) (node : ℕ) (op : Op) (done : List Answer) (world t : World) (answer : Answer) → is_quiet_work op.work ≡ true → is_quiet_access op.access ≡ true
    → AllReads done → expression p node op done world ≡ went answer t → AreReads (events_of answer)
reads_expression p node op done world t answer k h all e =
    unless_stopped (operands_clash (order_of op.work done) 0 (map events_of done)) _ node _ answer t (AreReads (events_of answer))
    (reads_result node op.work done world _ answer t (reads_work p world op.work op.access _ k h) all) e

-- an operation without a side effect is an expression's
pub is_expression : (p : Program) (node : ℕ) (op : Op) (w : Work) (done : List Answer) (world : World) → is_quiet_work w ≡ true → join_by p node op w done world ≡ expression p node op done world
is_expression p node op (work.Call callee) done world k = absurd (false≢true k)
is_expression p node op work.Expression done world k = absurd (false≢true k)
is_expression p node op work.If done world k = absurd (false≢true k)
is_expression p node op work.While done world k = absurd (false≢true k)
is_expression p node op work.Do done world k = absurd (false≢true k)
is_expression p node op (work.For objects first control step rest) done world k = absurd (false≢true k)
is_expression p node op (work.Switch kind rest objects cases other labels) done world k = absurd (false≢true k)
is_expression p node op (work.Block objects labels) done world k = absurd (false≢true k)
is_expression p node op work.Labelled done world k = absurd (false≢true k)
is_expression p node op work.Break done world k = absurd (false≢true k)
is_expression p node op work.Continue done world k = absurd (false≢true k)
is_expression p node op (work.Goto label) done world k = absurd (false≢true k)
is_expression p node op (work.Return form) done world k = absurd (false≢true k)
is_expression p node op work.Declaration done world k = absurd (false≢true k)
is_expression p node op (work.Declare declared) done world k = absurd (false≢true k)
is_expression p node op (work.Initialise declared lines) done world k = absurd (false≢true k)
is_expression p node op (work.Program objects parameters strings rest) done world k = absurd (false≢true k)
is_expression p node op other done world k = refl

-- ---- its operands

abbrev IsPart : (ℕ → Bool) → Way → Type 0
IsPart q (Operand m) = q m ≡ true
IsPart q (Enter m) = ⊥
IsPart q (Resume done) = ⊥
IsPart q Ready = Unit {0}

abbrev Marked : (ℕ → Bool) → List ℕ → Type 0
Marked q parts = (k m : ℕ) → slice_get parts k ≡ Some m → q m ≡ true

by_operand : (q : ℕ → Bool) (o : Option ℕ) → ((m : ℕ) → o ≡ Some m → q m ≡ true) → IsPart q (operand o)
by_operand q None h = tt
by_operand q (Some m) h = h m refl

by_choice : (q : ℕ → Bool) (o : Option Bool) (one other : Way) → IsPart q one → IsPart q other → IsPart q (choose o one other)
by_choice q None one other h k = tt
by_choice q (Some true) one other h k = h
by_choice q (Some false) one other h k = k

by_turn : (q : ℕ → Bool) (parts : List ℕ) (done : List Answer) → Marked q parts → IsPart q (in_turn parts done)
by_turn q parts done h = by_operand q (slice_get parts (length done)) (h (length done))

by_and : (q : ℕ → Bool) (parts : List ℕ) (done : List Answer) → Marked q parts → IsPart q (and_next parts done)
by_and q parts (left ∷ []) h = by_choice q (answer_truth left) _ _ (by_operand q (slice_get parts 1) (h 1)) tt
by_and q parts done h = by_turn q parts done h

by_or : (q : ℕ → Bool) (parts : List ℕ) (done : List Answer) → Marked q parts → IsPart q (or_next parts done)
by_or q parts (left ∷ []) h = by_choice q (answer_truth left) _ _ tt (by_operand q (slice_get parts 1) (h 1))
by_or q parts done h = by_turn q parts done h

by_conditional : (q : ℕ → Bool) (parts : List ℕ) (done : List Answer) → Marked q parts → IsPart q (conditional_next parts done)
by_conditional q parts [] h = by_operand q (slice_get parts 0) (h 0)
by_conditional q parts (first ∷ []) h = by_choice q (answer_truth first) _ _ (by_operand q (slice_get parts 1) (h 1)) (by_operand q (slice_get parts 2) (h 2))
by_conditional q parts (first ∷ second ∷ rest) h = tt

by_work : (q : ℕ → Bool) (w : Work) (parts : List ℕ) (done : List Answer) → is_quiet_work w ≡ true → Marked q parts → IsPart q (next_by w parts done)
by_work q work.LogicalAnd parts done k h = by_and q parts done h
by_work q work.LogicalOr parts done k h = by_or q parts done h
by_work q (work.Conditional form) parts done k h = by_conditional q parts done h
by_work q (work.Call callee) parts done k h = absurd (false≢true k)
by_work q work.If parts done k h = absurd (false≢true k)
by_work q work.While parts done k h = absurd (false≢true k)
by_work q work.Do parts done k h = absurd (false≢true k)
by_work q (work.For objects first control step rest) parts done k h = absurd (false≢true k)
by_work q (work.Switch kind rest objects cases other labels) parts done k h = absurd (false≢true k)
by_work q (work.Block objects labels) parts done k h = absurd (false≢true k)
by_work q (work.Program objects parameters strings rest) parts done k h = absurd (false≢true k)
by_work q other parts done k h = by_turn q parts done h

-- ---- all goals

abbrev Fits : (ℕ → Bool) → Goal → Answer → Type 0
Fits q (reach node) answer = q node ≡ true → AreReads (events_of answer)
Fits q (operands node done) answer = q node ≡ true → AllReads done → AreReads (events_of answer)

always : {G V W H : Type 0} (fit : G → V → Type 0) (P : V → Type 0) → ((v : V) → P v) → (p : Prog G V W H) → Holds fit P p
always fit P h (give v) = h v
always fit P h (act f k) = λ s t v e. always fit P h (k v)
always fit P h (call g k) = λ v fits. always fit P h (k v)

reads_way : (p : Program) (q : ℕ → Bool) (node : ℕ) (op : Op) (done : List Answer) (way : Way) → IsQuiet q op → IsPart q way → Holds (Fits q) (Fits q (operands node done)) (on_way p node op done way)
reads_way p q node op done (Operand m) quiet h = λ answer fits last last_fits marked all. last_fits marked (one_more done answer all (fits h))
reads_way p q node op done (Enter m) quiet h = absurd h
reads_way p q node op done (Resume again) quiet h = absurd h
reads_way p q node op done Ready quiet h =
    λ s t answer e marked all. reads_expression p node op done s t answer quiet.work quiet.access all (sym (is_expression p node op op.work done s quiet.work) ∙ e)

reads_op : (p : Program) (q : ℕ → Bool) → AreQuiet p q → (node : ℕ) (done : List Answer) (o : Option Op) → slice_get p.ops node ≡ o → Holds (Fits q) (Fits q (operands node done)) (at_op p node done o)
reads_op p q quiet node done None e = λ s t answer h. absurd cc
reads_op p q quiet node done (Some op) e = elim (q node) as (λ b. q node ≡ b → Holds (Fits q) (Fits q (operands node done)) (at_op p node done (Some op))) [
  | true ↦ λ h. reads_way p q node op done (next_of op done) (quiet node op h e) (by_work q op.work op.parts done (quiet node op h e).work (quiet node op h e).parts)
  | false ↦ λ h. always (Fits q) (Fits q (operands node done)) (λ answer marked. absurd (false≢true (sym h ∙ marked))) (at_op p node done (Some op))
] refl

reads_goal : (p : Program) (q : ℕ → Bool) → AreQuiet p q → (g : Goal) → Holds (Fits q) (Fits q g) (body p g)
unfolding body
reads_goal p q quiet (reach node) = λ s t answer e last fits marked. fits marked tt
reads_goal p q quiet (operands node done) = reads_op p q quiet node done (slice_get p.ops node) refl

pub quiet_nodes_read : Laws.QuietNodesRead
quiet_nodes_read p q quiet node marked s t value events run =
    held (body p) (Fits q) (reads_goal p q quiet) (body p (reach node)) s (gave (part value events) t) run (Fits q (reach node)) (reads_goal p q quiet (reach node)) marked
