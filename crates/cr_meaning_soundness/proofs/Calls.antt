-- Calls of the program's functions (C11 6.5.2.2, 6.9.1).
use Rattle.std.proofs.Common.{◌≡◌, ◌≢◌, refl, sym, ◌∙◌, ap, subst, arith, inl, inr}
use Rattle.std.specs.Prelude.{ℕ, zero, suc, ◌+◌, ◌≤◌, ◌==◌, pos, nat_le, Bool, true, false, Option, Some, None, Result, Ok, Err, IfOk, List, [], ◌∷◌, map, length, slice_get, if◌then◌else◌}
use Rattle.std.specs.List.{list_any}
use Rattle.std.proofs.lemmas.Bool.{eqb-true, eq-eqb}
use Rattle.cr_ints.specs.declared.kind.IntKind.TheVariants.{Int as IntegerKind}
use Rattle.cr_memory.specs.declared.value.Trap.{Trap}
use Rattle.cr_memory.specs.declared.value.Trap.TheVariants.{Undefined, Left}
use Rattle.cr_memory.specs.Memory.{Memory, AllHold}
use Rattle.cr_memory.specs.Continues.{Continues}
use Rattle.cr_memory.proofs.Continuing.{continues-refl}
use Rattle.cr_meaning.specs.Events.{Event, operands_clash}
use Rattle.cr_meaning.specs.World.{Program, World, enter_object, left_by, Answer, part, next, broke, continued, jumped, returned}
use Rattle.cr_meaning.specs.Values.{converted, cells_of_value}
use Rattle.cr_meaning.specs.Work.{is_nothing}
use Rattle.cr_meaning.specs.Turns.{Enter, Ready, in_turn, body_next, last_of}
use Rattle.cr_meaning.specs.Nodes.{resulting, value_of, values, events_of, order_of, all_events, last_in, with_argument, converted_all, arguments, enter_parameters, deeper, begun, called, result_of, shallower}
use Rattle.cr_meaning.specs.declared.op.Op.{Op}
use Rattle.cr_meaning.specs.declared.op.Form.{Form}
use Rattle.cr_meaning.specs.declared.op.Form.TheVariants as form
use Rattle.cr_meaning.specs.declared.op.Parameter.{Parameter}
use Rattle.cr_meaning.specs.declared.op.Callee.TheVariants.{Function}
use Rattle.cr_meaning.specs.declared.op.Work.{Work}
use Rattle.cr_meaning.specs.declared.op.Work.TheVariants as work
use Rattle.cr_meaning.specs.declared.value.Value.{Value}
use Rattle.cr_meaning.specs.declared.value.Value.TheVariants.{Number}
use Rattle.cr_meaning_soundness.specs.Sorts.{Sort, statement, sort_of, Fits, Answers, IsWellFormed, Keeps}
use Rattle.cr_meaning_soundness.specs.Statements.{of_function}
use Rattle.cr_meaning_soundness.specs.Rules.{AreArguments, IsFunctionCall, IsValue}
use Rattle.cr_meaning_soundness.specs.Blocks.{opened, Stands}
use Rattle.cr_meaning_soundness.specs.Scopes.{IsArgumentOrBody, nodes_of, is_past, entered_by, AreBound}
use Rattle.cr_meaning_soundness.proofs.Cells.{kinds_of, all_hold_later}
use Rattle.cr_meaning_soundness.proofs.Numbers.{zero_or_one}
use Rattle.cr_meaning_soundness.proofs.Pointers.{ok_then, ok_unless}
use Rattle.cr_meaning_soundness.proofs.Works.{converted_holds, nothing_fits}
use Rattle.cr_meaning_soundness.proofs.Worlds.{Enters, EntersAll, grows_refl, grows_onward, object_enters, entered_then, bound_either, ok_map, stands_grown, block_ends, left_fits}
use Rattle.cr_meaning_soundness.proofs.Expressions.{Went, went_unless, answers_part}
use Rattle.cr_meaning_soundness.proofs.Given.{FromPart, AreFrom, IsGiven, AreGiven, last_given, value_fits, At, Beside, Inside, stands_beside}
use Rattle.cr_meaning_soundness.proofs.Going.{Begun, Goes}
use Rattle.cr_meaning_soundness.proofs.Loops.{Here, HaveSorts, next_at, by_operand, went_entering}
use Rattle.cr_meaning_soundness.proofs.Declared.{hold_in_shape}

-- ---- parameters

-- each parameter's object may begin with its argument
abbrev pub AreHeld : Program → Memory → List Parameter → List Value → Type 0
AreHeld p memory [] given = Unit {0}
AreHeld p memory (parameter ∷ parameters) [] = ⊥
AreHeld p memory (parameter ∷ parameters) (value ∷ rest) = AllHold memory (kinds_of (p.shape parameter.node)) (cells_of_value value) × AreHeld p memory parameters rest

are_held_later : (p : Program) (old new : Memory) (parameters : List Parameter) (given : List Value) → Continues old new → AreHeld p old parameters given → AreHeld p new parameters given
are_held_later p old new [] given c h = tt
are_held_later p old new (parameter ∷ parameters) [] c h = absurd h
are_held_later p old new (parameter ∷ parameters) (value ∷ rest) c h =
    (all_hold_later old new (kinds_of (p.shape parameter.node)) (cells_of_value value) c h.0, are_held_later p old new parameters rest c h.1)

pub parameters_enter : (p : Program) (parameters : List Parameter) (given : List Value) (world : World) → IsWellFormed p world → AreHeld p world.memory parameters given
    → IfOk (enter_parameters p world parameters given) (EntersAll p world (nodes_of parameters))
parameters_enter p [] given world well h = (grows_refl p world well, λ node among. absurd among)
parameters_enter p (parameter ∷ parameters) [] world well h = absurd h
parameters_enter p (parameter ∷ parameters) (value ∷ rest) world well h =
    let node = parameter.node in
    entered_then (Enters p world node) (EntersAll p world (nodes_of (parameter ∷ parameters))) (enter_object world node (with_argument p parameter value)) (λ entered. enter_parameters p entered parameters rest)
    (object_enters p world node (with_argument p parameter value) well h.0 refl)
    (λ entered e. ok_map (EntersAll p entered (nodes_of parameters)) (EntersAll p world (nodes_of (parameter ∷ parameters))) (enter_parameters p entered parameters rest)
    (parameters_enter p parameters rest entered e.0.well (are_held_later p world.memory entered.memory parameters rest e.0.continues h.1))
    (λ new all. (grows_onward p world entered new e.0 all.0, bound_either p node (nodes_of parameters) entered new e.1 all.0 all.1)))

converted_all_hold : (p : Program) (sorts : ℕ → Option Sort) (op : Op) (memory : Memory) (k : ℕ) (parameters : List Parameter) (done : List Answer) → AreArguments p sorts op k parameters
    → AreFrom p sorts (λ i node. slice_get op.parts i ≡ Some node) memory k done → IfOk (converted_all memory parameters (values done)) (AreHeld p memory parameters)
converted_all_hold p sorts op memory k [] [] g all = tt
converted_all_hold p sorts op memory k [] (answer ∷ done) g all = tt
converted_all_hold p sorts op memory k (parameter ∷ parameters) [] g all = tt
converted_all_hold p sorts op memory k (parameter ∷ parameters) (answer ∷ done) g all =
    let a = all.0 in
    let Q = AreHeld p memory (parameter ∷ parameters) in
    ok_then (λ new. AllHold memory _ (cells_of_value new)) Q (converted memory parameter.form (value_of answer)) _
    (converted_holds p memory parameter.form a.sort (value_of answer) (g.0.1 a.node a.sort a.is_part a.has) (value_fits p memory a.sort answer a.fits))
    (λ one hold. ok_then (AreHeld p memory parameters) Q (converted_all memory parameters (values done)) _ (converted_all_hold p sorts op memory (suc k) parameters done g.1 all.1)
    (λ others held. (hold_in_shape memory (p.shape parameter.node) _ (cells_of_value one) g.0.0 hold, held)))

-- the answers before the body's are those of the arguments
pub from_arguments : (p : Program) (sorts : ℕ → Option Sort) (parameters : List Parameter) (rest : ℕ) (is_main : Bool) (parts : List ℕ) (memory : Memory) (k : ℕ) (done : List Answer)
    → k + length done ≤ length parts → AreGiven p sorts (work.Call (Function parameters rest is_main)) parts memory k done → AreFrom p sorts (λ i node. slice_get parts i ≡ Some node) memory k done
from_arguments p sorts parameters rest is_main parts memory k [] few all = tt
from_arguments p sorts parameters rest is_main parts memory k (answer ∷ done) few all = (one all.0, from_arguments p sorts parameters rest is_main parts memory (suc k) done (omega arith) all.1)
  where
    an_argument : (node : ℕ) → IsArgumentOrBody parts rest k node → slice_get parts k ≡ Some node
    an_argument node (inl e) = e
    an_argument node (inr e) = let same = e.0 in let never : ⊥ = omega arith in absurd never

    one : IsGiven p sorts (work.Call (Function parameters rest is_main)) parts memory k answer → FromPart p sorts (λ i node. slice_get parts i ≡ Some node) memory k answer
    one (inl g) = record { node = g.node; sort = g.sort; is_part = an_argument g.node g.is_part; has = g.has; fits = g.fits }
    one (inr filler) = absurd filler

-- ---- how many answers there are

past_within : (parts : List ℕ) (n m : ℕ) → slice_get parts n ≡ Some m → (is_past parts (suc n) ≡ false) × (is_past parts n ≡ false)
past_within [] zero m e = absurd (cc e)
past_within [] (suc n) m e = absurd (cc e)
past_within (first ∷ parts) zero m e = (refl, refl)
past_within (first ∷ parts) (suc n) m e = past_within parts n m e

past_all : (parts : List ℕ) (n : ℕ) → n ≡ length parts → (is_past parts (suc n) ≡ true) × (is_past parts n ≡ false)
past_all [] zero e = (refl, refl)
past_all [] (suc n) e = let never : ⊥ = omega arith in absurd never
past_all (first ∷ parts) zero e = let never : ⊥ = omega arith in absurd never
past_all (first ∷ parts) (suc n) e = past_all parts n (omega arith)

past_more : (parts : List ℕ) (n : ℕ) → n ≢ length parts → slice_get parts n ≡ None → is_past parts n ≡ true
past_more [] zero other e = absurd (other refl)
past_more [] (suc n) other e = refl
past_more (first ∷ parts) zero other e = absurd (cc e)
past_more (first ∷ parts) (suc n) other e = past_more parts n (λ same. other (ap suc same)) e

-- ---- the call

pub begins_deeper : (p : Program) (s : World) → IsWellFormed p s → Stands p s (deeper s)
begins_deeper p s well = record { well = record { sound = well.sound; entered = well.entered }; continues = continues-refl s.memory; above = opened }

body_begins : (p : Program) (w : Work) (node : ℕ) (parameters : List Parameter) (base s : World) (given : List Value) → entered_by w ≡ nodes_of parameters → Beside p base s → AreHeld p s.memory parameters given
    → Went (λ answer t. Begun p w true base s t) (begun p node parameters s given)
body_begins p w node parameters base s given same b held =
    let Q : Answer → World → Type 0 = λ answer t. Begun p w true base s t in
    let begins = begins_deeper p s b.well in
    went_unless Q (nat_le p.limits.depth s.depth) (Left 2) node _
    (went_entering (EntersAll p (deeper s) (nodes_of parameters)) Q (enter_parameters p (deeper s) parameters given) (parameters_enter p parameters given (deeper s) begins.well held)
    (λ t e. let B : List ℕ → Type 0 = λ l. AreBound l t.bindings in
    record { at = record { stands = stands_beside p base s t b (stands_grown p s (deeper s) t begins e.0); all_bound = subst B (sym same) e.1 }; continues = e.0.continues }))

call_begins : (p : Program) (sorts : ℕ → Option Sort) (node : ℕ) (op : Op) (parameters : List Parameter) (rest : ℕ) (is_main : Bool) (done : List Answer) (base s : World)
    → AreArguments p sorts op 0 parameters → 0 + length done ≤ length op.parts → Beside p base s → AreGiven p sorts (work.Call (Function parameters rest is_main)) op.parts s.memory 0 done
    → Went (λ answer t. Begun p (work.Call (Function parameters rest is_main)) true base s t) (called p node (work.Call (Function parameters rest is_main)) parameters done s)
call_begins p sorts node op parameters rest is_main done base s g few b given =
    let w = work.Call (Function parameters rest is_main) in
    let Q : Answer → World → Type 0 = λ answer t. Begun p w true base s t in
    went_unless Q (operands_clash (order_of w done) 0 (map events_of done)) (Undefined 12) node _
    (after (arguments s.memory parameters (values done))
    (ok_unless (AreHeld p s.memory parameters) (list_any is_nothing (values done)) (Undefined 15) _
    (λ e. converted_all_hold p sorts op s.memory 0 parameters done g (from_arguments p sorts parameters rest is_main op.parts s.memory 0 done few given))))
  where
    after : (result : Result (List Value) Trap) → IfOk result (AreHeld p s.memory parameters)
        → Went (λ answer t. Begun p (work.Call (Function parameters rest is_main)) true base s t) (resulting node result (begun p node parameters s))
    after (Err trap) h = tt
    after (Ok given) h = body_begins p (work.Call (Function parameters rest is_main)) node parameters base s given refl b h

result_fits : (p : Program) (memory : Memory) (result : Form) (is_main : Bool) (answer : Answer) → (is_main ≡ true → result ≡ form.Number IntegerKind)
    → Answers p memory (statement (of_function result)) answer → Fits memory (sort_of p result) (result_of is_main answer)
result_fits p memory result is_main (returned value) main h = h.0
result_fits p memory result is_main (part value events) main h = absurd h
result_fits p memory result is_main broke main h = absurd (cc h)
result_fits p memory result is_main continued main h = absurd (cc h)
result_fits p memory result is_main (jumped label) main h = absurd h
result_fits p memory result true next main h =
    let F : Form → Type 0 = λ f. Fits memory (sort_of p f) (Number IntegerKind (pos 0)) in subst F (sym (main refl)) (refl, zero_or_one IntegerKind false)
result_fits p memory result false next main h = nothing_fits p memory result

-- the answer of the body
from_body : (p : Program) (sorts : ℕ → Option Sort) (parameters : List Parameter) (rest : ℕ) (is_main : Bool) (parts : List ℕ) (memory : Memory) (k : ℕ) (result : Form) (answer : Answer)
    → sorts rest ≡ Some (statement (of_function result)) → is_past parts (suc k) ≡ true → IsGiven p sorts (work.Call (Function parameters rest is_main)) parts memory k answer
    → Answers p memory (statement (of_function result)) answer
from_body p sorts parameters rest is_main parts memory k result answer e past (inr filler) = absurd filler
from_body p sorts parameters rest is_main parts memory k result answer e past (inl a) =
    let F : Sort → Type 0 = λ s. Answers p memory s answer in subst F (its_sort a.is_part) a.fits
  where
    its_sort : IsArgumentOrBody parts rest k a.node → a.sort ≡ statement (of_function result)
    its_sort (inl is) = let not = past_within parts k a.node is in absurd (cc (not.0, past))
    its_sort (inr is) = let same = is.1 in let has = a.has in cc

pub call_ends : (p : Program) (base s : World) (entered : List ℕ) (own : Sort) (value : Value) (events : List Event) → IsWellFormed p base → Inside p entered base s → IsValue own → Fits s.memory own value
    → Keeps p base (shallower s) own (part value events)
call_ends p base s entered own value events well inside is fits =
    let l = block_ends p base s well inside.stands in
    record {
      fits = answers_part p (left_by s.memory s.bindings).0 own value events is (left_fits s.memory s.bindings own value fits);
      well_formed = record { sound = l.well_formed.sound; entered = l.well_formed.entered };
      continues = l.continues;
      bindings = l.bindings;
    }

ended_call_keeps : (p : Program) (sorts : ℕ → Option Sort) (op : Op) (parameters : List Parameter) (rest : ℕ) (is_main : Bool) (own : Sort) (done : List Answer) (base s : World) → IsValue own
    → IsFunctionCall p sorts op parameters rest is_main own → IsWellFormed p base → is_past op.parts (length done) ≡ true → Inside p (nodes_of parameters) base s
    → AreGiven p sorts (work.Call (Function parameters rest is_main)) op.parts s.memory 0 done
    → Keeps p base (shallower s) own (part (result_of is_main (last_in done)) (all_events (work.Call (Function parameters rest is_main)) done))
ended_call_keeps p sorts op parameters rest is_main own [] base s is g well past inside given = absurd (cc past)
ended_call_keeps p sorts op parameters rest is_main own (first ∷ others) base s is g well past inside given =
    let w = work.Call (Function parameters rest is_main) in
    let counts : 0 + length others ≡ length others = omega arith in
    let I : ℕ → Type 0 = λ k. IsGiven p sorts w op.parts s.memory k (last_of first others) in
    let body = from_body p sorts parameters rest is_main op.parts s.memory (length others) g.result (last_of first others) g.body past
    (subst I counts (last_given p sorts w op.parts s.memory 0 first others given)) in
    let F : Sort → Type 0 = λ k. Fits s.memory k (result_of is_main (last_of first others)) in
    call_ends p base s (nodes_of parameters) own _ _ well inside is (subst F (sym g.own_is) (result_fits p s.memory g.result is_main (last_of first others) g.main body))

pub call_goes : (p : Program) (sorts : ℕ → Option Sort) (node : ℕ) (op : Op) (parameters : List Parameter) (rest : ℕ) (is_main : Bool) (own : Sort) (done : List Answer) (base s : World)
    → IsValue own → IsFunctionCall p sorts op parameters rest is_main own → HaveSorts sorts op → Here p sorts (work.Call (Function parameters rest is_main)) op.parts done base s
    → Goes p sorts node op (work.Call (Function parameters rest is_main)) own done base s (body_next op.parts rest done)
call_goes p sorts node op parameters rest is_main own done base s is g have h = by_count (length done == length op.parts) refl
  where
    more : length done ≢ length op.parts → slice_get op.parts (length done) ≡ None → Goes p sorts node op (work.Call (Function parameters rest is_main)) own done base s Ready
    more other e =
        let past = past_more op.parts (length done) other e in
        let B : Bool → Type 0 = λ b. At p (nodes_of parameters) b base s in
        ended_call_keeps p sorts op parameters rest is_main own done base s is g h.well past (subst B past h.at) h.given

    by_count : (b : Bool) → (length done == length op.parts) ≡ b
        → Goes p sorts node op (work.Call (Function parameters rest is_main)) own done base s (if b then Enter rest else in_turn op.parts done)
    by_count true e =
        let same = eqb-true (length done) (length op.parts) e in
        let past = past_all op.parts (length done) same in
        let B : Bool → Type 0 = λ b. At p (nodes_of parameters) b base s in
        let C : Bool → Type 0 = λ b. Went (λ answer t. Begun p (work.Call (Function parameters rest is_main)) b base s t)
        (called p node (work.Call (Function parameters rest is_main)) parameters done s) in (
          next_at sorts (work.Call (Function parameters rest is_main)) op.parts (length done) rest (statement (of_function g.result), g.body) (inr (same, refl)),
          subst C (sym past.0) (call_begins p sorts node op parameters rest is_main done base s g.arguments (omega arith) (subst B past.1 h.at) h.given),
        )
    by_count false e =
        by_operand (Goes p sorts node op (work.Call (Function parameters rest is_main)) own done base s) (slice_get op.parts (length done))
        (λ m f. let within = past_within op.parts (length done) m f in
        (next_at sorts (work.Call (Function parameters rest is_main)) op.parts (length done) m (have (length done) m f) (inl f), within.0 ∙ sym within.1))
        (more (λ same. let yes = eq-eqb (length done) (length op.parts) same in absurd (cc (e, yes))))
