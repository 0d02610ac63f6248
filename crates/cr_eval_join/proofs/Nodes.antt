-- One node of an expression: what the meaning says, by what the code found.
use Rattle.std.proofs.Common.{◌≡◌, ℕ, Bool, true, false, ◌&&◌, ◌||◌, if◌then◌else◌, Result, Ok, Err, List, [], ◌∷◌, ◌++◌, map, refl, sym, ◌∙◌, ap, subst}
use Rattle.std.proofs.lemmas.Bool.{true≢false, false≢true}
use Rattle.cr_footprint.specs.Cell.{Cell}
use Rattle.cr_footprint.specs.Foot.{Sets, sets, then_of, meets}
use Rattle.cr_footprint.specs.declared.foot.Foot.{Foot}
use Rattle.cr_memory.specs.declared.value.Trap.{Trap}
use Rattle.cr_memory.specs.declared.value.Trap.TheVariants.{Undefined, Left, NoMemory}
use Rattle.cr_memory.specs.Memory.{Memory}
use Rattle.cr_meaning.specs.Language.{Acted, went, halts}
use Rattle.cr_meaning.specs.Events.{Event, Order, Beside, Sequence, Arguments, clash, gathered, operands_clash}
use Rattle.cr_meaning.specs.Merged.{sets_of}
use Rattle.cr_meaning.specs.World.{Program, World, Answer, part, untyped, unused_value}
use Rattle.cr_meaning.specs.Work.{Did as OwnWork, giving, logical, conditional, work_of}
use Rattle.cr_meaning.specs.Nodes.{Act, stops, resulting, values, events_of as events_in, order_of, all_events, evaluated, expression}
use Rattle.cr_meaning.specs.declared.op.Access.{Access}
use Rattle.cr_meaning.specs.declared.op.Form.{Form}
use Rattle.cr_meaning.specs.declared.op.Op.{Op}
use Rattle.cr_meaning.specs.declared.op.Work.{Work}
use Rattle.cr_meaning.specs.declared.op.Work.TheVariants as work
use Rattle.cr_meaning.specs.declared.value.Value.{Value}
use Rattle.cr_meaning.specs.declared.value.Value.TheVariants.{Nothing}
use Rattle.cr_eval.specs.Answers.{Answers, meant}
use Rattle.cr_eval.specs.Deeds.{events_of}
use Rattle.cr_eval.specs.declared.did.Did.{Did}
use Rattle.cr_eval_join.specs.declared.part.Part.{Part}
use Rattle.cr_eval_join.specs.Parts.{IsFootOf}
use Rattle.cr_eval_join.specs.Feet.{Unites, Adds}
use Rattle.cr_eval_join.specs.Joins.{Joins, Finishes, FinishesBy, parted, is_sequence}
use Rattle.cr_eval_join.proofs.Operands.{one_never_clashes, apart_never_clash, meeting_clash, sequence_never_clashes, two_in_sequence}

-- ---- the order of operands

-- no case is a value
refused : {A : Type 0} (trap : Trap) (a : A) → ◌≡◌ {A = Result A Trap} (Err trap) (Ok a) → ⊥
refused trap a e = cc

beside_differs : Beside ≡ Sequence → ⊥
beside_differs e = cc

arguments_differ : Arguments ≡ Sequence → ⊥
arguments_differ e = cc

-- `?:` of its first operand alone gives nothing
undecided : (memory : Memory) (form : Form) (value : Value) (d : OwnWork) → giving memory (conditional memory form (value ∷ [])) ≡ Ok d → ⊥
undecided memory form Nothing d e = refused unused_value d e
undecided memory form other d e = refused untyped d e

one_beside : (p : Program) (world : World) (w : Work) (access : Access) (value : Value) (events : List Event) (d : OwnWork)
    → work_of p world w access (value ∷ []) ≡ Ok d → order_of w (part value events ∷ []) ≡ Beside
one_beside p world work.Comma access value events d e = absurd (refused untyped d e)
one_beside p world (work.Conditional form) access value events d e = absurd (undecided world.memory form value d e)
one_beside p world (work.Call callee) access value events d e = absurd (refused untyped d e)
one_beside p world other access value events d e = refl

two_beside : (p : Program) (world : World) (w : Work) (access : Access) (left right : Value) (one other : List Event) (d : OwnWork) → is_sequence w ≡ false
    → work_of p world w access (left ∷ (right ∷ [])) ≡ Ok d → order_of w (part left one ∷ (part right other ∷ [])) ≡ Beside
two_beside p world work.Comma access left right one other d h e = absurd (true≢false h)
two_beside p world (work.Conditional form) access left right one other d h e = absurd (true≢false h)
two_beside p world work.LogicalAnd access left right one other d h e = absurd (true≢false h)
two_beside p world work.LogicalOr access left right one other d h e = absurd (true≢false h)
two_beside p world (work.Call callee) access left right one other d h e = absurd (refused untyped d e)
two_beside p world w access left right one other d h e = refl

not_sequence : (w : Work) (one other : Answer) → is_sequence w ≡ false → order_of w (one ∷ (other ∷ [])) ≡ Sequence → ⊥
not_sequence work.Comma one other h e = true≢false h
not_sequence (work.Conditional form) one other h e = true≢false h
not_sequence work.LogicalAnd one other h e = true≢false h
not_sequence work.LogicalOr one other h e = true≢false h
not_sequence (work.Call callee) one other h e = arguments_differ e
not_sequence w one other h e = beside_differs e

in_sequence : (w : Work) (one other : Answer) → is_sequence w ≡ true → order_of w (one ∷ (other ∷ [])) ≡ Sequence
in_sequence work.Comma one other h = refl
in_sequence (work.Conditional form) one other h = refl
in_sequence work.LogicalAnd one other h = refl
in_sequence work.LogicalOr one other h = refl
in_sequence w one other h = absurd (false≢true h)

-- ---- work without events of its own

abbrev own_events : Result OwnWork Trap → List Event
own_events (Ok d) = d.events
own_events (Err trap) = []

giving_is_quiet : (memory : Memory) (r : Result Value Trap) (d : OwnWork) → giving memory r ≡ Ok d → d.events ≡ []
giving_is_quiet memory (Ok value) d e = sym (ap own_events e)
giving_is_quiet memory (Err trap) d e = absurd (refused trap d e)

sequence_is_quiet : (p : Program) (world : World) (w : Work) (access : Access) (left right : Value) (d : OwnWork) → is_sequence w ≡ true
    → work_of p world w access (left ∷ (right ∷ [])) ≡ Ok d → d.events ≡ []
sequence_is_quiet p world work.Comma access left right d h e = giving_is_quiet world.memory (Ok right) d e
sequence_is_quiet p world (work.Conditional form) access left right d h e =
    giving_is_quiet world.memory (conditional world.memory form (left ∷ (right ∷ []))) d e
sequence_is_quiet p world work.LogicalAnd access left right d h e =
    giving_is_quiet world.memory (logical world.memory (λ l. λ r. l && r) (left ∷ (right ∷ []))) d e
sequence_is_quiet p world work.LogicalOr access left right d h e =
    giving_is_quiet world.memory (logical world.memory (λ l. λ r. l || r) (left ∷ (right ∷ []))) d e
sequence_is_quiet p world w access left right d h e = absurd (false≢true h)

-- ---- a node, case by case

clashing : (p : Program) (node : ℕ) (op : Op) (done : List Answer) (world : World)
    → operands_clash (order_of op.work done) 0 (map events_in done) ≡ true → expression p node op done world ≡ stops (Undefined 12) node
clashing p node op done world h =
    ap {B = Act} (λ (b : Bool). if b then stops (Undefined 12) node else resulting node (work_of p world op.work op.access (values done)) (evaluated node op.work done world)) h

unless_clashing : (p : Program) (node : ℕ) (op : Op) (done : List Answer) (world : World)
    → operands_clash (order_of op.work done) 0 (map events_in done) ≡ false
    → expression p node op done world ≡ resulting node (work_of p world op.work op.access (values done)) (evaluated node op.work done world)
unless_clashing p node op done world h =
    ap {B = Act} (λ (b : Bool). if b then stops (Undefined 12) node else resulting node (work_of p world op.work op.access (values done)) (evaluated node op.work done world)) h

worked : (p : Program) (node : ℕ) (op : Op) (done : List Answer) (world : World) (r : Result OwnWork Trap)
    → operands_clash (order_of op.work done) 0 (map events_in done) ≡ false → work_of p world op.work op.access (values done) ≡ r
    → expression p node op done world ≡ resulting node r (evaluated node op.work done world)
worked p node op done world r h e =
    unless_clashing p node op done world h ∙ ap {B = Act} (λ (x : Result OwnWork Trap). resulting node x (evaluated node op.work done world)) e

-- a node's answer, where its own events conflict or not
abbrev ends : ℕ → World → OwnWork → List Event → Bool → Act
ends node world d all b = if b then stops (Undefined 12) node else went (part d.value (d.events ++ all)) (record world { memory = d.memory })

own_clashing : (p : Program) (node : ℕ) (op : Op) (done : List Answer) (world : World) (d : OwnWork) (all : List Event) (b : Bool)
    → operands_clash (order_of op.work done) 0 (map events_in done) ≡ false → work_of p world op.work op.access (values done) ≡ Ok d
    → all_events op.work done ≡ all → clash d.events all ≡ b → expression p node op done world ≡ ends node world d all b
own_clashing p node op done world d all b h e same hits =
    worked p node op done world (Ok d) h e
    ∙ (ap {B = Act} (λ (a : List Event). ends node world d a (clash d.events a)) same ∙ ap {B = Act} (λ (x : Bool). ends node world d all x) hits)

-- ---- what the code answers

failing : (p : Program) (node : ℕ) (op : Op) (done : List Answer) (world new : World) (trap : Trap)
    → operands_clash (order_of op.work done) 0 (map events_in done) ≡ false → Answers (work_of p world op.work op.access (values done)) (Err trap)
    → Joins (expression p node op done world) new node (Err trap)
failing p node op done world new (Undefined number) h answers = record { says = worked p node op done world (Err (Undefined number)) h answers.says }
failing p node op done world new (Left number) h answers = record { says = worked p node op done world (Err (Left number)) h answers.says }
failing p node op done world new NoMemory h answers = record { says = tt }

pub joins : (p : Program) (node : ℕ) (op : Op) (done : List Answer) (world : World) (memory : Memory) (all : List Event)
    (did : Result Did Trap) (result : Result Part Trap)
    → operands_clash (order_of op.work done) 0 (map events_in done) ≡ false
    → ((d : OwnWork) → work_of p world op.work op.access (values done) ≡ Ok d → all_events op.work done ≡ all)
    → Answers (work_of p world op.work op.access (values done)) (meant memory did) → Finishes all did result
    → Joins (expression p node op done world) (record world { memory = memory }) node result
joins p node op done world memory all (Ok did) (Ok given) free same answers h =
    let d : OwnWork = record { value = did.value; memory = memory; events = events_of did.deeds } in
    record {
      says = record {
        events = events_of did.deeds ++ all;
        went_on = own_clashing p node op done world d all false free answers.says (same d answers.says) h.1.0
            ∙ ap {B = Act} (λ (v : Value). went (part v (events_of did.deeds ++ all)) (record world { memory = memory })) (sym h.0);
        footprint = h.1.1;
      };
    }
joins p node op done world memory all (Ok did) (Err (Undefined number)) free same answers h =
    let d : OwnWork = record { value = did.value; memory = memory; events = events_of did.deeds } in
    record {
      says = own_clashing p node op done world d all true free answers.says (same d answers.says) h.1
          ∙ ap {B = Act} (λ (k : ℕ). stops (Undefined k) node) (sym h.0);
    }
joins p node op done world memory all (Ok did) (Err (Left number)) free same answers h = absurd h
joins p node op done world memory all (Ok did) (Err NoMemory) free same answers h = record { says = tt }
joins p node op done world memory all (Err trap) result free same answers h =
    let P : Result Part Trap → Type 0 = λ r. Joins (expression p node op done world) (record world { memory = memory }) node r in
    subst P (sym h) (failing p node op done world (record world { memory = memory }) trap free answers)

-- ---- by the number of operands

pub none_joins : (p : Program) (node : ℕ) (op : Op) (world : World) (memory : Memory) (did : Result Did Trap) (result : Result Part Trap)
    → Answers (work_of p world op.work op.access []) (meant memory did) → Finishes [] did result
    → Joins (expression p node op [] world) (record world { memory = memory }) node result
none_joins p node op world memory did result answers h = joins p node op [] world memory [] did result refl (λ d e. refl) answers h

pub one_joins : (p : Program) (node : ℕ) (op : Op) (world : World) (memory : Memory) (value : Value) (events : List Event) (did : Result Did Trap) (result : Result Part Trap)
    → Answers (work_of p world op.work op.access (value ∷ [])) (meant memory did) → Finishes (gathered Beside 0 (events ∷ [])) did result
    → Joins (expression p node op (part value events ∷ []) world) (record world { memory = memory }) node result
one_joins p node op world memory value events did result answers h =
    joins p node op (part value events ∷ []) world memory (gathered Beside 0 (events ∷ [])) did result
    (one_never_clashes (order_of op.work (part value events ∷ [])) events)
    (λ d e. ap (λ (order : Order). gathered order 0 (events ∷ [])) (one_beside p world op.work op.access value events d e)) answers h

pub beside_joins : (p : Program) (node : ℕ) (op : Op) (world : World) (memory : Memory) (left right : Value) (one other : List Event) (f g : Sets)
    (did : Result Did Trap) (result : Result Part Trap)
    → is_sequence op.work ≡ false → f ≡ sets_of one → g ≡ sets_of other → ((c : Cell) → meets f g c ≡ false)
    → Answers (work_of p world op.work op.access (left ∷ (right ∷ []))) (meant memory did) → Finishes (gathered Beside 0 (one ∷ (other ∷ []))) did result
    → Joins (expression p node op (part left one ∷ (part right other ∷ [])) world) (record world { memory = memory }) node result
beside_joins p node op world memory left right one other f g did result h first second none answers finishes =
    joins p node op (part left one ∷ (part right other ∷ [])) world memory (gathered Beside 0 (one ∷ (other ∷ []))) did result
    (apart_never_clash (order_of op.work (part left one ∷ (part right other ∷ []))) one other f g (not_sequence op.work (part left one) (part right other) h) first second none)
    (λ d e. ap (λ (order : Order). gathered order 0 (one ∷ (other ∷ []))) (two_beside p world op.work op.access left right one other d h e)) answers finishes

pub beside_fails : (p : Program) (node : ℕ) (op : Op) (world new : World) (left right : Value) (one other : List Event) (f g : Sets) (trap : Trap)
    → is_sequence op.work ≡ false → f ≡ sets_of one → g ≡ sets_of other → Unites f g (Err trap)
    → Joins (expression p node op (part left one ∷ (part right other ∷ [])) world) new node (Err trap)
beside_fails p node op world new left right one other f g (Undefined number) h first second u = record {
  says = clashing p node op (part left one ∷ (part right other ∷ [])) world
      (meeting_clash (order_of op.work (part left one ∷ (part right other ∷ []))) one other f g (not_sequence op.work (part left one) (part right other) h) first second u.1.0 u.1.1)
      ∙ ap {B = Act} (λ (k : ℕ). stops (Undefined k) node) (sym u.0);
}
beside_fails p node op world new left right one other f g (Left number) h first second u = absurd u
beside_fails p node op world new left right one other f g NoMemory h first second u = record { says = tt }

settles : (want : Result OwnWork Trap) (memory : Memory) (all : List Event) (foot : Foot) (did : Result Did Trap) (result : Result Part Trap)
    → IsFootOf foot all → ((d : OwnWork) → want ≡ Ok d → d.events ≡ []) → Answers want (meant memory did) → result ≡ parted foot did → Finishes all did result
settles want memory all foot (Ok did) result is quiet answers e =
    let none : events_of did.deeds ≡ [] = quiet (record { value = did.value; memory = memory; events = events_of did.deeds }) answers.says in
    let P : Result Part Trap → Type 0 = λ r. FinishesBy did all r in
    subst P (sym e) (refl, (ap (λ (o : List Event). clash o all) none, record { same = is.same ∙ ap (λ (o : List Event). sets_of (o ++ all)) (sym none) }))
settles want memory all foot (Err trap) result is quiet answers e = e

pub sequence_joins : (p : Program) (node : ℕ) (op : Op) (world : World) (memory : Memory) (left right : Value) (one other : List Event) (f g : Sets) (foot : Foot)
    (did : Result Did Trap) (result : Result Part Trap)
    → is_sequence op.work ≡ true → f ≡ sets_of one → g ≡ sets_of other → sets foot ≡ then_of f g
    → Answers (work_of p world op.work op.access (left ∷ (right ∷ []))) (meant memory did) → result ≡ parted foot did
    → Joins (expression p node op (part left one ∷ (part right other ∷ [])) world) (record world { memory = memory }) node result
sequence_joins p node op world memory left right one other f g foot did result h first second joined answers e =
    joins p node op (part left one ∷ (part right other ∷ [])) world memory (gathered Sequence 0 (one ∷ (other ∷ []))) did result
    (ap (λ (order : Order). operands_clash order 0 (one ∷ (other ∷ []))) (in_sequence op.work (part left one) (part right other) h) ∙ sequence_never_clashes one other)
    (λ d e. ap (λ (order : Order). gathered order 0 (one ∷ (other ∷ []))) (in_sequence op.work (part left one) (part right other) h))
    answers
    (settles (work_of p world op.work op.access (left ∷ (right ∷ []))) memory (gathered Sequence 0 (one ∷ (other ∷ []))) foot did result
    (two_in_sequence one other f g foot first second joined) (λ d e. sequence_is_quiet p world op.work op.access left right d h e) answers e)
