-- Operands' answers and what is kept of them.
use Rattle.std.proofs.Common.{◌≡◌, ℕ, Option, Some, None, Result, Ok, Err, List, [], ◌∷◌, ◌++◌, length, refl, sym, ap, ◌∙◌, subst, arith, length-append}
use Rattle.std.specs.Prelude.{OnOk, IfErr}
use Rattle.std.specs.List.{AllZip}
use Rattle.cr_memory.specs.declared.value.Trap.{Trap}
use Rattle.cr_memory.specs.declared.value.Trap.TheVariants.{Undefined, Left, NoMemory}
use Rattle.cr_meaning.specs.Events.{Event}
use Rattle.cr_meaning.specs.World.{Program, World, Answer, part, Binding, object_for}
use Rattle.cr_meaning.specs.Nodes.{Act, expression}
use Rattle.cr_meaning.specs.declared.op.Op.{Op}
use Rattle.cr_meaning.specs.declared.op.Work.{Work}
use Rattle.cr_meaning.specs.declared.op.Work.TheVariants as work
use Rattle.cr_eval.specs.Answers.{IsFound}
use Rattle.cr_meaning.specs.declared.value.Value.{Value}
use Rattle.cr_eval_join.specs.declared.part.Part.{Part}
use Rattle.cr_eval_join.specs.Parts.{IsFootOf}
use Rattle.cr_eval_join.specs.Joins.{Joins}
use Rattle.cr_exec_slices.specs.Shown.{Leaves}
use Rattle.cr_exec_turns.specs.declared.held.Held.{Held}
use Rattle.cr_exec_turns.specs.declared.held.Held.TheVariants as held
use Rattle.cr_exec_turns.specs.Held.{shows}
use Rattle.cr_exec_expressions.specs.Halts.{halting, object_of, Places}

pub joins_left : (act : Act) (w : World) (node : ℕ) (r : Result (Unit {0}) Trap) (answers : List Held) → Places act w node r answers → Leaves shows act (halting node r) answers w
joins_left act w node (Ok done) answers h =
    let gives = h.places.2.says in
    record {
      leaves = record {
        held = held.Part h.places.0;
        only = h.places.1;
        answering = record { answer = part h.places.0.value gives.events; shown = (refl, gives.footprint); holds = gives.went_on };
      };
    }
joins_left act w node (Err (Undefined number)) answers h = record { leaves = h.places.says }
joins_left act w node (Err (Left number)) answers h = record { leaves = h.places.says }
joins_left act w node (Err NoMemory) answers h = record { leaves = tt }

pub unsaid : (act : Act) (w : World) (node : ℕ) (answers : List Held) → Places act w node (Err NoMemory) answers
unsaid act w node answers = record { places = record { says = tt } }

pub fails : (act : Act) (w : World) (node : ℕ) (trap : Trap) (answers : List Held) → Joins act w node (Err trap) → Places act w node (Err trap) answers
fails act w node trap answers h = record { places = h }

-- an answer that is put where there are no others
pub put_places : (act : Act) (w : World) (node : ℕ) (given : Part) (rest new : List Held) (r : Result (Unit {0}) Trap)
    → rest ≡ [] → OnOk r (new ≡ rest ++ held.Part given ∷ []) → IfErr r (λ trap. trap ≡ NoMemory) → Joins act w node (Ok given) → Places act w node r new
put_places act w node given rest new (Ok done) none e cause h =
    record { places = (given, e ∙ ap (λ (hs : List Held). hs ++ held.Part given ∷ []) none, h) }
put_places act w node given rest new (Err trap) none e cause h =
    let P : Trap → Type 0 = λ x. Places act w node (Err x) new in subst P (sym cause) (unsaid act w node new)

pub no_answers : (done : List Held) → length done ≡ 0 → done ≡ []
no_answers [] e = refl
no_answers (h ∷ done) e = absurd (omega (arith, e))

pub last_is : (done rest : List Held) (last given : Held) → last ≡ given → done ≡ rest ++ last ∷ [] → done ≡ rest ++ given ∷ []
last_is done rest last given is e = e ∙ ap (λ (h : Held). rest ++ h ∷ []) is

-- none are left of as many as are taken
pub none_left : (done rest : List Held) (given : Held) → done ≡ rest ++ given ∷ [] → length done ≡ 1 → rest ≡ []
none_left done [] given e size = refl
none_left done (h ∷ rest) given e size = absurd (omega (arith, ap length e, length-append rest (given ∷ []), size))

pub none_left_of_two : (done middle rest : List Held) (left right : Held) → done ≡ middle ++ right ∷ [] → middle ≡ rest ++ left ∷ [] → length done ≡ 2 → rest ≡ []
none_left_of_two done middle [] left right e f size = refl
none_left_of_two done middle (h ∷ rest) left right e f size =
    absurd (omega (arith, ap length e, ap length f, length-append middle (right ∷ []), length-append rest (left ∷ []), size))

-- an answer of which a part is kept
record IsPart (given : Part) (answer : Answer) : Type 0 where
  events : List Event
  foot : IsFootOf given.foot events
  is : answer ≡ part given.value events

is_part : (given : Part) (answer : Answer) → shows (held.Part given) answer → IsPart given answer
is_part given (part v events) s = record { events = events; foot = s.1; is = ap (λ (x : Value). part x events) (sym s.0) }
is_part given other s = absurd s

-- one answer
alone : (done : List Held) (given : Part) (rest : List Held) → done ≡ rest ++ held.Part given ∷ [] → length done ≡ 1 → done ≡ held.Part given ∷ []
alone done given [] e size = e
alone done given (h ∷ rest) e size = absurd (omega (arith, ap length e, length-append rest (held.Part given ∷ []), size))

pub one_joins : (p : Program) (node : ℕ) (op : Op) (done rest : List Held) (given : Part) (answers : List Answer) (w x : World) (r : Result Part Trap)
    → done ≡ rest ++ held.Part given ∷ [] → length done ≡ 1 → AllZip shows done answers
    → ((events : List Event) → IsFootOf given.foot events → Joins (expression p node op (part given.value events ∷ []) w) x node r)
    → Joins (expression p node op answers w) x node r
one_joins p node op done rest given answers w x r e size z f =
    let P : List Held → Type 0 = λ hs. AllZip shows hs answers in
    at_one answers (subst P (alone done given rest e size) z)
  where
    at_one : (all : List Answer) → AllZip shows (held.Part given ∷ []) all → Joins (expression p node op all w) x node r
    at_one [] y = absurd y
    at_one (a ∷ []) y =
        let q = is_part given a y.0 in
        let Q : Answer → Type 0 = λ b. Joins (expression p node op (b ∷ []) w) x node r in subst Q (sym q.is) (f q.events q.foot)
    at_one (a ∷ (b ∷ all)) y = absurd y.1

-- two answers
both : (done middle rest : List Held) (left right : Part) → done ≡ middle ++ held.Part right ∷ [] → middle ≡ rest ++ held.Part left ∷ [] → length done ≡ 2
    → done ≡ held.Part left ∷ (held.Part right ∷ [])
both done middle [] left right e f size = e ∙ ap (λ (hs : List Held). hs ++ held.Part right ∷ []) f
both done middle (h ∷ rest) left right e f size =
    absurd (omega (arith, ap length e, ap length f, length-append middle (held.Part right ∷ []), length-append rest (held.Part left ∷ []), size))

pub two_join : (p : Program) (node : ℕ) (op : Op) (done middle rest : List Held) (left right : Part) (answers : List Answer) (w x : World) (r : Result Part Trap)
    → done ≡ middle ++ held.Part right ∷ [] → middle ≡ rest ++ held.Part left ∷ [] → length done ≡ 2 → AllZip shows done answers
    → ((one other : List Event) → IsFootOf left.foot one → IsFootOf right.foot other
    → Joins (expression p node op (part left.value one ∷ (part right.value other ∷ [])) w) x node r)
    → Joins (expression p node op answers w) x node r
two_join p node op done middle rest left right answers w x r e f size z g =
    let P : List Held → Type 0 = λ hs. AllZip shows hs answers in
    at_two answers (subst P (both done middle rest left right e f size) z)
  where
    at_two : (all : List Answer) → AllZip shows (held.Part left ∷ (held.Part right ∷ [])) all → Joins (expression p node op all w) x node r
    at_two [] y = absurd y
    at_two (a ∷ []) y = absurd y.1
    at_two (a ∷ (b ∷ [])) y =
        let q = is_part left a y.0 in
        let t = is_part right b y.1.0 in
        let Q : Answer → Answer → Type 0 = λ c. λ d. Joins (expression p node op (c ∷ (d ∷ [])) w) x node r in
        subst (λ (c : Answer). Q c b) (sym q.is) (subst (Q (part left.value q.events)) (sym t.is) (g q.events t.events q.foot t.foot))
    at_two (a ∷ (b ∷ (c ∷ all))) y = absurd y.1.1

pub none_join : (p : Program) (node : ℕ) (op : Op) (done : List Held) (answers : List Answer) (w x : World) (r : Result Part Trap) → length done ≡ 0 → AllZip shows done answers
    → Joins (expression p node op [] w) x node r → Joins (expression p node op answers w) x node r
none_join p node op [] [] w x r size z h = h
none_join p node op [] (a ∷ answers) w x r size z h = absurd z
none_join p node op (k ∷ done) answers w x r size z h = absurd (omega arith)

pub no_memory : (act : Act) (w : World) (node : ℕ) → Joins act w node (Err NoMemory)
no_memory act w node = record { says = tt }

-- ---- objects

some_is : {A : Type 0} {a b : A} → Some a ≡ Some b → a ≡ b
some_is e = cc

pub some_found : (w : Work) (bindings : List Binding) (declared : ℕ) (object : Option ℕ) → object_of w ≡ Some declared → object_for bindings declared ≡ object → IsFound w bindings object
some_found (work.Object n of) bindings declared object e h = ap (λ (k : ℕ). object_for bindings k) (some_is e) ∙ h
some_found w bindings declared object e h = absurd (cc e)

pub none_found : (w : Work) (bindings : List Binding) → object_of w ≡ None → IsFound w bindings None
none_found (work.Object n of) bindings e = absurd (cc e)
none_found w bindings e = tt
