-- An expression's node, once its operands have answered.
use Rattle.std.proofs.Common.{◌≡◌, refl, sym, subst, inl, inr}
use Rattle.std.specs.Prelude.{ℕ, Bool, true, false, ◌&&◌, ◌||◌, Option, Some, Result, Ok, Err, IfOk, List, [], ◌∷◌, ◌++◌, map, slice_get, if◌then◌else◌, ◌⊎◌}
use Rattle.cr_ints.specs.declared.kind.IntKind.TheVariants.{Int as IntegerKind}
use Rattle.cr_memory.specs.declared.value.Trap.{Trap}
use Rattle.cr_memory.specs.declared.value.Trap.TheVariants.{Undefined}
use Rattle.cr_memory.specs.Memory.{Memory}
use Rattle.cr_memory.proofs.Continuing.{continues-refl}
use Rattle.cr_meaning.specs.Language.{went, halts}
use Rattle.cr_meaning.specs.Events.{Event, operands_clash, clash}
use Rattle.cr_meaning.specs.World.{Program, World, Answer, part, Halt, exited}
use Rattle.cr_meaning.specs.Work.{Did, giving, conditional, work_of, by_count}
use Rattle.cr_meaning.specs.Nodes.{Act, stops, value_of, values, events_of, order_of, all_events, evaluated, resulting, unless_clash, expression, after_library, library, call_end}
use Rattle.cr_meaning.specs.Library.{Called, printf_of, putchar_of, exit_of}
use Rattle.cr_meaning.specs.declared.op.Op.{Op}
use Rattle.cr_meaning.specs.declared.op.Callee.{Callee}
use Rattle.cr_meaning.specs.declared.op.Callee.TheVariants.{Function, Printf, Putchar, Exit, Abort}
use Rattle.cr_meaning.specs.declared.op.Work.{Work}
use Rattle.cr_meaning.specs.declared.op.Work.TheVariants as work
use Rattle.cr_meaning.specs.declared.op.Form.{Form}
use Rattle.cr_meaning.specs.declared.value.Value.{Value}
use Rattle.cr_meaning.specs.declared.value.Value.TheVariants.{Nothing}
use Rattle.cr_meaning_soundness.specs.Sorts.{Sort, number, statement, Fits, Answers, IsWellFormed, Keeps}
use Rattle.cr_meaning_soundness.specs.Statements.{Has, Converts}
use Rattle.cr_meaning_soundness.specs.Rules.{CallGives, Computes, IsValue}
use Rattle.cr_meaning_soundness.specs.Scopes.{IsPart}
use Rattle.cr_meaning_soundness.proofs.Lasting.{OnActed}
use Rattle.cr_meaning_soundness.proofs.Library.{CallFits, printf_fits, putchar_fits}
use Rattle.cr_meaning_soundness.proofs.Later.{entered_later}
use Rattle.cr_meaning_soundness.proofs.Works.{Does, alone_fits, one_fits, two_fits, conditional_fits, logical_fits, giving_as}
use Rattle.cr_meaning_soundness.proofs.Given.{AreFrom, value_fits}

-- what holds of an answer, and nothing is said of an end
abbrev pub anything : Halt → Type 0
anything halt = Unit {0}

abbrev pub Went : (Answer → World → Type 0) → Act → Type 0
Went Q act = OnActed Q anything act

-- ---- own work

abbrev Place : Op → ℕ → ℕ → Type 0
Place op k node = slice_get op.parts k ≡ Some node

counted : (p : Program) (sorts : ℕ → Option Sort) (op : Op) (world : World) (w : Work) (own : Sort) (done : List Answer) → IsWellFormed p world → Computes p sorts op w own
    → AreFrom p sorts (Place op) world.memory 0 done → IfOk (by_count p world w op.access (values done)) (Does world.memory own)
counted p sorts op world w own [] well g all = alone_fits p sorts op world w own well g
counted p sorts op world w own (one ∷ []) well g all =
    let a = all.0 in
    one_fits p sorts op world w (value_of one) a.sort own well g (λ P has. has a.node a.sort a.is_part a.has) (value_fits p world.memory a.sort one a.fits)
counted p sorts op world w own (one ∷ other ∷ []) well g all =
    let a = all.0 in
    let b = all.1.0 in
    two_fits p sorts op world w (value_of one) (value_of other) a.sort b.sort own well g (λ P has. has b.node b.sort b.is_part b.has)
    (value_fits p world.memory a.sort one a.fits) (value_fits p world.memory b.sort other b.fits)
counted p sorts op world w own (one ∷ other ∷ more ∷ rest) well g all = tt

no_choice : (memory : Memory) (form : Form) (own : Sort) (value : Value) → IfOk (giving memory (conditional memory form (value ∷ []))) (Does memory own)
no_choice memory form own Nothing = tt
no_choice memory form own other = tt

no_choices : (memory : Memory) (form : Form) (own : Sort) (value other more : Value) (rest : List Value)
    → IfOk (giving memory (conditional memory form (value ∷ other ∷ more ∷ rest))) (Does memory own)
no_choices memory form own Nothing other more rest = tt
no_choices memory form own value other more rest = tt

either_has : (sorts : ℕ → Option Sort) (op : Op) (P : Sort → Type 0) (node : ℕ) (sort : Sort) → Has sorts op 1 P → Has sorts op 2 P
    → (slice_get op.parts 1 ≡ Some node) ⊎ (slice_get op.parts 2 ≡ Some node) → sorts node ≡ Some sort → P sort
either_has sorts op P node sort one two (inl e) has = one node sort e has
either_has sorts op P node sort one two (inr e) has = two node sort e has

pub chosen : (p : Program) (sorts : ℕ → Option Sort) (op : Op) (world : World) (form : Form) (own : Sort) (done : List Answer) → IsWellFormed p world
    → Computes p sorts op (work.Conditional form) own → AreFrom p sorts (IsPart (work.Conditional form) op.parts) world.memory 0 done
    → IfOk (work_of p world (work.Conditional form) op.access (values done)) (Does world.memory own)
chosen p sorts op world form own [] well g all = tt
chosen p sorts op world form own (one ∷ []) well g all = no_choice world.memory form own (value_of one)
chosen p sorts op world form own (one ∷ other ∷ []) well g all =
    let b = all.1.0 in
    giving_as world.memory own _ _ g.0.0 well.sound
    (conditional_fits p world.memory form (value_of one) (value_of other) b.sort (either_has sorts op (Converts p form) b.node b.sort g.0.1 g.1 b.is_part b.has)
    (value_fits p world.memory b.sort other b.fits))
chosen p sorts op world form own (one ∷ other ∷ more ∷ rest) well g all =
    no_choices world.memory form own (value_of one) (value_of other) (value_of more) (values rest)

abbrev pub IsPlain : Work → Type 0
IsPlain (work.Conditional form) = ⊥
IsPlain (work.Call callee) = ⊥
IsPlain w = Unit {0}

pub worked : (p : Program) (sorts : ℕ → Option Sort) (op : Op) (world : World) (w : Work) (own : Sort) (done : List Answer) → IsPlain w → IsWellFormed p world
    → Computes p sorts op w own → AreFrom p sorts (λ k node. slice_get op.parts k ≡ Some node) world.memory 0 done
    → IfOk (work_of p world w op.access (values done)) (Does world.memory own)
worked p sorts op world (work.Conditional form) own done plain well g all = absurd plain
worked p sorts op world work.LogicalAnd own done plain well g all = giving_as world.memory own _ _ g well.sound (logical_fits world.memory (λ l r. l && r) (values done))
worked p sorts op world work.LogicalOr own done plain well g all = giving_as world.memory own _ _ g well.sound (logical_fits world.memory (λ l r. l || r) (values done))
worked p sorts op world w own done plain well g all = counted p sorts op world w own done well g all

-- ---- an expression's node

pub went_unless : (Q : Answer → World → Type 0) (b : Bool) (trap : Trap) (node : ℕ) (rest : Act) → Went Q rest → Went Q (if b then stops trap node else rest)
went_unless Q true trap node rest h = tt
went_unless Q false trap node rest h = h

pub answers_part : (p : Program) (memory : Memory) (own : Sort) (value : Value) (events : List Event) → IsValue own → Fits memory own value → Answers p memory own (part value events)
answers_part p memory (statement exits) value events is h = absurd is
answers_part p memory own value events is h = h

kept_result : (p : Program) (node : ℕ) (w : Work) (done : List Answer) (world : World) (own : Sort) (result : Result Did Trap) → IsWellFormed p world → IsValue own
    → IfOk result (Does world.memory own) → Went (λ answer t. Keeps p world t own answer) (resulting node result (evaluated node w done world))
kept_result p node w done world own (Err trap) well is h = tt
kept_result p node w done world own (Ok did) well is h =
    went_unless (λ answer t. Keeps p world t own answer) (clash did.events (all_events w done)) (Undefined 12) node
    (went (part did.value (did.events ++ all_events w done)) (record world { memory = did.memory })) (record {
      fits = answers_part p did.memory own did.value (did.events ++ all_events w done) is h.fits;
      well_formed = record { sound = h.written.sound; entered = entered_later p world.memory did.memory world.bindings h.written.continues well.entered };
      continues = h.written.continues;
      bindings = refl;
    })

pub kept_expression : (p : Program) (node : ℕ) (op : Op) (w : Work) (done : List Answer) (world : World) (own : Sort) → op.work ≡ w → IsWellFormed p world → IsValue own
    → IfOk (work_of p world w op.access (values done)) (Does world.memory own) → Went (λ answer t. Keeps p world t own answer) (expression p node op done world)
kept_expression p node op w done world own e well is h =
    let F : Work → Type 0 = λ x. Went (λ answer t. Keeps p world t own answer) (unless_clash node x done (resulting node (work_of p world x op.access (values done)) (evaluated node x done world))) in
    subst F (sym e)
    (went_unless (λ answer t. Keeps p world t own answer) (operands_clash (order_of w done) 0 (map events_of done)) (Undefined 12) node _ (kept_result p node w done world own _ well is h))

-- ---- calls of the library

kept_library : (p : Program) (node : ℕ) (w : Work) (done : List Answer) (world : World) (own : Sort) (result : Result Called Trap) → IsWellFormed p world → IsValue own
    → IfOk result (CallFits world.memory own) → Went (λ answer t. Keeps p world t own answer) (resulting node result (after_library w done world))
kept_library p node w done world own (Err trap) well is h = tt
kept_library p node w done world own (Ok called) well is h = record {
  fits = answers_part p world.memory own called.value (all_events w done) is h;
  well_formed = record { sound = well.sound; entered = well.entered };
  continues = continues-refl world.memory;
  bindings = refl;
}

never_went : (Q : Answer → World → Type 0) (node : ℕ) (world : World) (result : Result ℕ Trap) → Went Q (resulting node result (λ status. halts (exited status world)))
never_went Q node world (Ok status) = tt
never_went Q node world (Err trap) = tt

as_number : (memory : Memory) (own sort : Sort) (result : Result Called Trap) → own ≡ sort → IfOk result (CallFits memory sort) → IfOk result (CallFits memory own)
as_number memory own sort result e h = let F : Sort → Type 0 = λ s. IfOk result (CallFits memory s) in subst F (sym e) h

abbrev pub IsLibrary : Callee → Type 0
IsLibrary (Function parameters rest is_main) = ⊥
IsLibrary callee = Unit {0}

kept_called : (p : Program) (sorts : ℕ → Option Sort) (node : ℕ) (op : Op) (w : Work) (callee : Callee) (done : List Answer) (world : World) (own : Sort) → IsLibrary callee
    → IsWellFormed p world → IsValue own → CallGives p sorts op callee own → Went (λ answer t. Keeps p world t own answer) (library p node w callee done world)
kept_called p sorts node op w (Printf texts) done world own lib well is g =
    kept_library p node w done world own (printf_of p world texts (values done)) well is (as_number world.memory own (number IntegerKind) _ g.0 (printf_fits p world texts (values done) g.1))
kept_called p sorts node op w Putchar done world own lib well is g =
    kept_library p node w done world own (putchar_of p world (values done)) well is (as_number world.memory own (number IntegerKind) _ g (putchar_fits p world (values done)))
kept_called p sorts node op w Exit done world own lib well is g = never_went (λ answer t. Keeps p world t own answer) node world (exit_of (values done))
kept_called p sorts node op w Abort done world own lib well is g = tt
kept_called p sorts node op w (Function parameters rest is_main) done world own lib well is g = absurd lib

pub kept_library_call : (p : Program) (sorts : ℕ → Option Sort) (node : ℕ) (op : Op) (w : Work) (callee : Callee) (done : List Answer) (world : World) (own : Sort) → IsLibrary callee
    → IsWellFormed p world → IsValue own → CallGives p sorts op callee own → Went (λ answer t. Keeps p world t own answer) (call_end p node w callee done world)
kept_library_call p sorts node op w (Function parameters rest is_main) done world own lib well is g = absurd lib
kept_library_call p sorts node op w callee done world own lib well is g =
    went_unless (λ answer t. Keeps p world t own answer) (operands_clash (order_of w done) 0 (map events_of done)) (Undefined 12) node _
    (kept_called p sorts node op w callee done world own lib well is g)
